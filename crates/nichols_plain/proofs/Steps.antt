-- What the loops over words, rows and candidates come to.
use Rattle.std.proofs.Common.{◌≡◌, ℕ, zero, suc, ◌+◌, ◌*◌, ◌^◌, ◌<◌, ◌≤◌, List, [], ◌∷◌, length, take, sym, ◌∙◌, ap, ap₂, subst, arith, add-one}
use Rattle.std.proofs.lemmas.List.Sums.{length-filter, count_by-le-length}
use Rattle.std.specs.List.{AllByRecursion}
use Rattle.std.proofs.lemmas.List.{take_all}
use Rattle.std.proofs.Math.Nat.{pow-zero, pow-suc, pow-le-pow_right}
use Rattle.nichols_tensor.specs.declared.TheConstants.{WORD_LIMIT}
use Rattle.nichols_field.specs.Field.{FieldValue}
use Rattle.std.proofs.Math.Nat.{mul-le-mul}
use Rattle.nichols_tensor.specs.Combination.{Combination, HasSameValues, AllElements, single}
use Rattle.nichols_tensor.specs.WordOrder.{IsRising}
use Rattle.nichols_tensor.specs.Words.{words, IsWordOver, with_letters}
use Rattle.nichols_tensor.proofs.AllWords.{words_length}
use Rattle.nichols_tensor.proofs.Tests.{all_of_entries}
use Rattle.nichols_tensor.proofs.Pushed.{with_letters_length}
use Rattle.nichols_braid.specs.Braid.{BraidValue, IsBraid}
use Rattle.nichols_braid.specs.Kernel.{is_in_kernel}
use Rattle.nichols_braid.specs.Least.{basis, candidates, is_least}
use Rattle.nichols_braid.specs.Symmetrizer.{symmetrizer_image}
use Rattle.nichols_braid.proofs.Candidates.{candidates_first, candidates_next, from_candidates, candidates_rise}
use Rattle.nichols_braid.proofs.Reduction.{from_basis}
use Rattle.nichols_echelon.specs.Cells.{Cell, entry}
use Rattle.nichols_echelon.specs.Cells.{AllElements as AllCellsElements}
use Rattle.nichols_lift.specs.declared.TheConstants.{PLACE_LIMIT}
use Rattle.nichols_plain.specs.Columns.{HasColumns, row_of, image_entry}
use Rattle.nichols_plain.proofs.Functionals.{entry_of_same, image_elements}

-- ---- the row of an image

row_of_elements : (k : FieldValue) (n : ℕ) (f : Combination) → AllElements k f → AllCellsElements k (row_of n f)
row_of_elements k n [] h = tt
row_of_elements k n (t ∷ f) h = (h.0, row_of_elements k n f h.1)

pub row_is : (n letters : ℕ) (cells : List Cell) (items image : Combination) (i : ℕ) → items ≡ image → length items ≤ i → cells ≡ row_of n (take i items) → cells ≡ row_of n image
row_is n letters cells items image i same end is = is ∙ ap (row_of n) (take_all i items end ∙ same)

pub row_elements : (k : FieldValue) (n : ℕ) (row : List Cell) (image : Combination) → row ≡ row_of n image → AllElements k image → AllCellsElements k row
row_elements k n row image is h = subst (AllCellsElements k) (sym is) (row_of_elements k n image h)

pub row_entries : (braid : BraidValue) → IsBraid braid → (w : List ℕ) (one image : Combination) (row : List Cell) → one ≡ single w → AllElements braid.field image → HasSameValues braid.field image (symmetrizer_image braid one) → row ≡ row_of braid.letters image →
    (c : ℕ) → entry braid.field row c ≡ image_entry braid c w
unfolding image_entry
row_entries braid is w one image row single_is elements same row_is c =
    ap (λ r. entry braid.field r c) row_is
    ∙ entry_of_same braid.field is.field braid.letters c image (symmetrizer_image braid (single w)) elements (image_elements braid is.field (single w)) (subst (λ f. HasSameValues braid.field image (symmetrizer_image braid f)) single_is same)

-- ---- candidates

pub candidates_have_columns : (braid : BraidValue) (m : ℕ) (ws : List (List ℕ)) → ws ≡ candidates is_in_kernel braid m → m ≤ PLACE_LIMIT → braid.letters ^ m < 2 ^ 32 → AllByRecursion (HasColumns braid) ws
candidates_have_columns braid m ws is short few =
    subst (AllByRecursion (HasColumns braid)) (sym is)
    (all_of_entries (HasColumns braid) (candidates is_in_kernel braid m)
    (λ w i.
    let from : (length w ≡ m) × IsWordOver braid.letters w = from_candidates is_in_kernel braid m w i in
    record { short = subst (λ l. l ≤ PLACE_LIMIT) (sym from.0) short; letters = from.1; columns = subst (λ l. braid.letters ^ l < 2 ^ 32) (sym from.0) few }))

basis_few : (braid : BraidValue) (m : ℕ) → length (basis is_in_kernel braid m) ≤ braid.letters ^ m
unfolding basis
basis_few braid m = subst (λ l. length (basis is_in_kernel braid m) ≤ l) (words_length braid.letters m) (subst (λ l. l ≤ length (words braid.letters m)) (sym (length-filter (is_least is_in_kernel braid) (words braid.letters m))) (count_by-le-length (is_least is_in_kernel braid) (words braid.letters m)))

candidates_few : (braid : BraidValue) (m : ℕ) → length (candidates is_in_kernel braid m) ≤ braid.letters ^ m
candidates_few braid zero = subst (λ l. length (candidates is_in_kernel braid 0) ≤ l) (sym (pow-zero braid.letters)) (subst (λ l. l ≤ 1) (sym (ap length (candidates_first is_in_kernel braid))) (omega arith))
candidates_few braid (suc m) =
    let count : length (candidates is_in_kernel braid (suc m)) ≡ braid.letters * length (basis is_in_kernel braid m) = ap length (candidates_next is_in_kernel braid m) ∙ with_letters_length braid.letters (basis is_in_kernel braid m) in
    let bound : length (basis is_in_kernel braid m) * braid.letters ≤ braid.letters ^ m * braid.letters = mul-le-mul (basis_few braid m) (omega arith) in
    let power : braid.letters ^ suc m ≡ braid.letters ^ m * braid.letters = pow-suc braid.letters m in
    omega (arith, count, bound, power)

pub few_rows : (braid : BraidValue) (m : ℕ) (ws : List (List ℕ)) (rows : List (List Cell)) → ws ≡ candidates is_in_kernel braid m → braid.letters ^ m < 2 ^ 32 → length rows ≡ length ws → length rows < 2 ^ 32
few_rows braid m ws rows is few count =
    let size : length rows ≡ length (candidates is_in_kernel braid m) = count ∙ ap length is in
    let bound : length (candidates is_in_kernel braid m) ≤ braid.letters ^ m = candidates_few braid m in
    omega arith

pub next_columns : (n before m : ℕ) → 1 ≤ n → before < m → n ^ m < 2 ^ 32 → n ^ (before + 1) < 2 ^ 32
next_columns n before m some less few =
    let power : n ^ (before + 1) ≤ n ^ m = pow-le-pow_right (let above : 0 < n = omega arith in above) (let next : before + 1 ≤ m = omega arith in next) in
    omega arith

pub basis_has_room : (braid : BraidValue) (m : ℕ) (us : List (List ℕ)) → us ≡ basis is_in_kernel braid m → m ≤ PLACE_LIMIT → AllByRecursion (λ w. length w < WORD_LIMIT) us
basis_has_room braid m us is short =
    subst (AllByRecursion (λ w. length w < WORD_LIMIT)) (sym is)
    (all_of_entries (λ w. length w < WORD_LIMIT) (basis is_in_kernel braid m) (λ w i. let size : length w ≡ m = (from_basis is_in_kernel braid m w i).0 in omega arith))

pub next_candidates : (braid : BraidValue) (n before : ℕ) (us ws : List (List ℕ)) → n ≡ braid.letters → us ≡ basis is_in_kernel braid before → ws ≡ with_letters n us → ws ≡ candidates is_in_kernel braid (before + 1)
next_candidates braid n before us ws letters is words =
    words ∙ ap₂ with_letters letters is ∙ sym (candidates_next is_in_kernel braid before) ∙ ap (candidates is_in_kernel braid) (sym (add-one before))

pub candidates_are_rising : (braid : BraidValue) (m : ℕ) (ws : List (List ℕ)) → ws ≡ candidates is_in_kernel braid m → IsRising ws
candidates_are_rising braid m ws is = subst IsRising (sym is) (candidates_rise is_in_kernel braid m)
