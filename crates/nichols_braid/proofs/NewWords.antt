-- New words: they are candidates, and each least word is one.
use Rattle.std.proofs.Common.{◌≡◌, ℕ, suc, true, List, [], ◌∷◌, ◌++◌, map, length, take, drop, refl, sym, ◌∙◌, ap, subst, arith}
use Rattle.std.specs.List.{filter, Contains}
use Rattle.std.specs.Cmp.Derive.{both_true}
use Rattle.std.proofs.lemmas.List.{take-append-drop}
use Rattle.std.proofs.Math.Seq.{take-append_seam}
use Rattle.nichols_field.specs.Field.{IsField}
use Rattle.nichols_tensor.specs.Words.{IsWordOver, up_to, words}
use Rattle.nichols_tensor.specs.WordOrder.{IsRising}
use Rattle.nichols_tensor.proofs.Entries.{in_filter, from_filter, from_map, from_flat_map}
use Rattle.nichols_tensor.proofs.AllWords.{in_words, from_words, words_rise}
use Rattle.nichols_tensor.proofs.Over.{word_over_front, word_over_back}
use Rattle.nichols_tensor.proofs.Pushed.{pushed_length}
use Rattle.nichols_tensor.proofs.Rising.{rising-filter, rising_unique}
use Rattle.nichols_braid.specs.Braid.{BraidValue}
use Rattle.nichols_braid.specs.Kernel.{Vanishing}
use Rattle.nichols_braid.specs.Least.{is_least, basis, candidates}
use Rattle.nichols_braid.specs.RightIdealTest.{IsRightIdealTest}
use Rattle.nichols_braid.specs.LeftIdealTest.{IsLeftIdealTest}
use Rattle.nichols_braid.specs.NewWords.{is_new, new_words}
use Rattle.nichols_braid.proofs.Candidates.{in_candidates, from_candidates, candidates_next, candidates_rise}
use Rattle.nichols_braid.proofs.Prefixes.{prefix_is_least}
use Rattle.nichols_braid.proofs.Reduction.{in_basis, from_basis, basis_rises}
use Rattle.nichols_braid.proofs.Spanning.{split_last}
use Rattle.nichols_braid.proofs.Suffixes.{suffix_is_least}
use Rattle.std.proofs.lemmas.Bool.{and_parts}

pub least_is_new : (vanishes : Vanishing) (braid : BraidValue) → IsField braid.field → IsRightIdealTest braid (vanishes braid) → IsLeftIdealTest braid (vanishes braid) →
    (w : List ℕ) → IsWordOver braid.letters w → is_least vanishes braid w ≡ true → is_new vanishes braid w ≡ true
unfolding is_new
least_is_new vanishes braid is right left [] over least = refl
least_is_new vanishes braid is right left (a ∷ w) over least =
    let n : ℕ = length w in
    let whole : take n (a ∷ w) ++ drop n (a ∷ w) ≡ a ∷ w = take-append-drop n (a ∷ w) in
    both_true
    (prefix_is_least braid is vanishes right (take n (a ∷ w)) (drop n (a ∷ w)) (subst (IsWordOver braid.letters) (sym whole) over) (ap (is_least vanishes braid) whole ∙ least))
    (suffix_is_least braid is vanishes left (a ∷ []) w over least)

-- ---- the list of the new words

in_new_words : (vanishes : Vanishing) (braid : BraidValue) (m : ℕ) (w : List ℕ) → length w ≡ m → IsWordOver braid.letters w → is_new vanishes braid w ≡ true → Contains (new_words vanishes braid m) w
unfolding new_words
in_new_words vanishes braid m w size over new = in_filter (is_new vanishes braid) w (words braid.letters m) (in_words braid.letters m w size over) new

from_new_words : (vanishes : Vanishing) (braid : BraidValue) (m : ℕ) (w : List ℕ) → Contains (new_words vanishes braid m) w → (length w ≡ m) × IsWordOver braid.letters w × (is_new vanishes braid w ≡ true)
unfolding new_words
from_new_words vanishes braid m w i =
    let (j, new) = from_filter (is_new vanishes braid) w (words braid.letters m) i in
    let from : (length w ≡ m) × IsWordOver braid.letters w = from_words braid.letters m w j in
    (from.0, from.1, new)

new_words_rise : (vanishes : Vanishing) (braid : BraidValue) (m : ℕ) → IsRising (new_words vanishes braid m)
unfolding new_words
new_words_rise vanishes braid m = rising-filter (is_new vanishes braid) (words braid.letters m) (words_rise braid.letters m)

pub basis_among_new : (vanishes : Vanishing) (braid : BraidValue) → IsField braid.field → IsRightIdealTest braid (vanishes braid) → IsLeftIdealTest braid (vanishes braid) →
    (m : ℕ) → basis vanishes braid m ≡ filter (is_least vanishes braid) (new_words vanishes braid m)
basis_among_new vanishes braid is right left m =
    rising_unique (basis vanishes braid m) (filter (is_least vanishes braid) (new_words vanishes braid m)) (basis_rises vanishes braid m) (rising-filter (is_least vanishes braid) (new_words vanishes braid m) (new_words_rise vanishes braid m))
    (λ w i.
    let from : (length w ≡ m) × IsWordOver braid.letters w × (is_least vanishes braid w ≡ true) = from_basis vanishes braid m w i in
    in_filter (is_least vanishes braid) w (new_words vanishes braid m) (in_new_words vanishes braid m w from.0 from.1 (least_is_new vanishes braid is right left w from.1 from.2)) from.2)
    (λ w i.
    let (j, least) = from_filter (is_least vanishes braid) w (new_words vanishes braid m) i in
    let from : (length w ≡ m) × IsWordOver braid.letters w × (is_new vanishes braid w ≡ true) = from_new_words vanishes braid m w j in
    in_basis vanishes braid m w from.0 from.1 least)

-- ---- degrees 0 and 1

pub new_words_first : (vanishes : Vanishing) (braid : BraidValue) → new_words vanishes braid 0 ≡ [] ∷ []
unfolding new_words is_new words
new_words_first vanishes braid = refl

letter_is_new : (vanishes : Vanishing) (braid : BraidValue) → is_least vanishes braid [] ≡ true → (w : List ℕ) → length w ≡ 1 → is_new vanishes braid w ≡ true
unfolding is_new
letter_is_new vanishes braid least [] size = refl
letter_is_new vanishes braid least (a ∷ []) size = both_true least least
letter_is_new vanishes braid least (a ∷ b ∷ w) size = absurd (omega arith)

pub new_words_second : (vanishes : Vanishing) (braid : BraidValue) → is_least vanishes braid [] ≡ true → new_words vanishes braid 1 ≡ words braid.letters 1
new_words_second vanishes braid least =
    rising_unique (new_words vanishes braid 1) (words braid.letters 1) (new_words_rise vanishes braid 1) (words_rise braid.letters 1)
    (λ w i. let from : (length w ≡ 1) × IsWordOver braid.letters w × (is_new vanishes braid w ≡ true) = from_new_words vanishes braid 1 w i in in_words braid.letters 1 w from.0 from.1)
    (λ w i. let from : (length w ≡ 1) × IsWordOver braid.letters w = from_words braid.letters 1 w i in in_new_words vanishes braid 1 w from.0 from.1 (letter_is_new vanishes braid least w from.0))

-- ---- new words are candidates

-- the letters before the last one
pub front_of : (a : ℕ) (w u : List ℕ) (b : ℕ) → a ∷ w ≡ u ++ b ∷ [] → take (length w) (a ∷ w) ≡ u
front_of a w u b e =
    let size : length w ≡ length u = (let all : suc (length w) ≡ suc (length u) = ap length e ∙ pushed_length u b in omega arith) in
    ap (λ n. take n (a ∷ w)) size ∙ ap (take (length u)) e ∙ take-append_seam u (b ∷ [])

new_is_candidate : (vanishes : Vanishing) (braid : BraidValue) (m : ℕ) (w : List ℕ) → length w ≡ suc m → IsWordOver braid.letters w → is_new vanishes braid w ≡ true →
    Contains (candidates vanishes braid (suc m)) w × (is_least vanishes braid (drop 1 w) ≡ true)
unfolding is_new
new_is_candidate vanishes braid m [] size over new = absurd (omega arith)
new_is_candidate vanishes braid m (a ∷ w) size over new =
    let (u, b, e) = split_last m (a ∷ w) size in
    let whole : IsWordOver braid.letters (u ++ b ∷ []) = subst (IsWordOver braid.letters) e over in
    let both : (is_least vanishes braid (take (length w) (a ∷ w)) ≡ true) × (is_least vanishes braid w ≡ true) = and_parts (is_least vanishes braid (take (length w) (a ∷ w))) (is_least vanishes braid w) new in
    let count : suc (length u) ≡ suc m = sym (pushed_length u b) ∙ ap length (sym e) ∙ size in
    let before : Contains (basis vanishes braid m) u = in_basis vanishes braid m u (omega arith) (word_over_front braid.letters u (b ∷ []) whole) (ap (is_least vanishes braid) (sym (front_of a w u b e)) ∙ both.0) in
    (subst (λ v. Contains (candidates vanishes braid (suc m)) v) (sym e) (in_candidates vanishes braid m u b before (word_over_back braid.letters u (b ∷ []) whole).0), both.1)

candidate_is_new : (vanishes : Vanishing) (braid : BraidValue) (m : ℕ) (w u : List ℕ) (b : ℕ) → Contains (basis vanishes braid m) u → w ≡ u ++ b ∷ [] → is_least vanishes braid (drop 1 w) ≡ true → is_new vanishes braid w ≡ true
unfolding is_new
candidate_is_new vanishes braid m [] u b i e least = refl
candidate_is_new vanishes braid m (a ∷ w) u b i e least = both_true (ap (is_least vanishes braid) (front_of a w u b e) ∙ (from_basis vanishes braid m u i).2) least

pub is_candidate_list : (vanishes : Vanishing) (braid : BraidValue) (m : ℕ) → new_words vanishes braid (suc m) ≡ filter (λ w. is_least vanishes braid (drop 1 w)) (candidates vanishes braid (suc m))
is_candidate_list vanishes braid m =
    let cs : List (List ℕ) = candidates vanishes braid (suc m) in
    rising_unique (new_words vanishes braid (suc m)) (filter (λ w. is_least vanishes braid (drop 1 w)) cs) (new_words_rise vanishes braid (suc m)) (rising-filter (λ w. is_least vanishes braid (drop 1 w)) cs (candidates_rise vanishes braid (suc m)))
    (λ w i.
    let from : (length w ≡ suc m) × IsWordOver braid.letters w × (is_new vanishes braid w ≡ true) = from_new_words vanishes braid (suc m) w i in
    let (j, least) = new_is_candidate vanishes braid m w from.0 from.1 from.2 in
    in_filter (λ w. is_least vanishes braid (drop 1 w)) w cs j least)
    (λ w i.
    let (j, least) = from_filter (λ w. is_least vanishes braid (drop 1 w)) w cs i in
    let from : (length w ≡ suc m) × IsWordOver braid.letters w = from_candidates vanishes braid (suc m) w j in
    let (u, k, l) = from_flat_map (λ v. map (λ b. v ++ b ∷ []) (up_to braid.letters)) w (basis vanishes braid m) (subst (λ l. Contains l w) (candidates_next vanishes braid m) j) in
    let (b, o, e) = from_map (λ b. u ++ b ∷ []) w (up_to braid.letters) l in
    in_new_words vanishes braid (suc m) w from.0 from.1 (candidate_is_new vanishes braid m w u b k e least))
