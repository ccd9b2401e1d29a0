-- The rule of a block from its parts.
use Rattle.std.proofs.Common.{◌≡◌, ℕ, suc, ◌+◌, ◌-◌, ◌<◌, ◌≤◌, List, [], ◌∷◌, ◌++◌, map, length, get_or, take, refl, sym, ◌∙◌, ap, ap₂, subst, arith, Some}
use Rattle.std.specs.List.{AllByRecursion, Contains}
use Rattle.std.proofs.lemmas.List.{get_or-map, length-map, take_all, take_more, map-append, get_or_default}
use Rattle.std.proofs.lemmas.List.Elements.{recursion_from_All}
use Rattle.nichols_tensor.specs.declared.TheConstants.{WORD_LIMIT}
use Rattle.nichols_tensor.specs.Combination.{Combination}
use Rattle.nichols_tensor.specs.Positions.{word_at}
use Rattle.nichols_tensor.specs.Relation.{PlainRelation}
use Rattle.nichols_tensor.specs.Words.{up_to}
use Rattle.nichols_tensor.specs.WordOrder.{IsRising}
use Rattle.nichols_tensor.proofs.Entries.{from_map, in_map}
use Rattle.nichols_tensor.proofs.Tests.{all_of_entries}
use Rattle.nichols_braid.specs.Braid.{BraidValue, IsBraid, IsLetter}
use Rattle.nichols_braid.specs.Forms.{derived_form}
use Rattle.nichols_braid.specs.Kernel.{is_killed}
use Rattle.nichols_braid.specs.Products.{products}
use Rattle.nichols_echelon.specs.Cells.{AllBelow, IsRow}
use Rattle.nichols_echelon.specs.Rows.{RowsValue}
use Rattle.nichols_echelon.specs.declared.rows.Place.{Place}
use Rattle.nichols_echelon.specs.declared.rows.Place.TheVariants.{Independent, Depends}
use Rattle.nichols_rows.specs.CombinationAt.{combination_at}
use Rattle.nichols_rows.specs.Places.{independent_in}
use Rattle.nichols_rows.proofs.Split.{independent_in-map}
use Rattle.nichols_value.specs.declared.key.BlockKey.{BlockKey}
use Rattle.nichols_value.specs.declared.spot.Spot.{Spot}
use Rattle.nichols_value.specs.Block.{block_basis, block_relations, lower_basis}
use Rattle.nichols_value.specs.Kept.{AllShort, AreFormRows, AreFormRowsOfEach, HaveRowEach, IsShaped, IsSpot, IsUpperShaped, candidate_at, forms_over, forms_over_each, relation_at, rule_by, upper_by}
use Rattle.nichols_value.specs.Rule.{block_derivs, by_letter, lean_rule_of, left_forms, right_forms, rule_of, upper_of}
use Rattle.nichols_value.proofs.Blocks.{block_basis_rises, lower_basis_rises, relation_of}
use Rattle.nichols_value.proofs.LookedUp.{form_in_table}
use Rattle.nichols_value.proofs.RuleEntries.{derivs_count, letter_count, letter_entry, lower_words_are_short, right_count}
use Rattle.nichols_value.proofs.KeptRows.{no_rows}
use Rattle.nichols_block.specs.Forms.{AreFormsOf}
use Rattle.nichols_block.specs.Places.{ArePlacesOf}
use Rattle.nichols_block.specs.Rows.{AreLeastDerivatives, AreNewDerivatives, AreRowsOf, rows_by}
use Rattle.nichols_block.specs.Words.{block_new_words}
use Rattle.nichols_block.proofs.FlatRows.{IsByLetter, by_letter_at}
use Rattle.nichols_block.specs.Lower.{IsUpperBlock}
use Rattle.nichols_block.proofs.LowerRules.{images_of_all}

-- ---- independent entries

all_independent : {X : Type 0} (P : X → Type 0) (xs : List X) (places : List Place) → AllByRecursion P xs → AllByRecursion P (independent_in xs places)
all_independent P [] places h = tt
all_independent P (x ∷ xs) [] h = tt
all_independent P (x ∷ xs) (Independent ∷ places) h = (h.0, all_independent P xs places h.1)
all_independent P (x ∷ xs) (Depends cells ∷ places) h = all_independent P xs places h.1

-- the rows whose places are independent
abbrev pub least_in : List Place → RowsValue → RowsValue
least_in places r = record { rows = independent_in r.rows places; begun = [] }

least_are_rows : (ws : List (List ℕ)) (F : List ℕ → Combination) (news least : List (List ℕ)) (places : List Place) (rows : RowsValue) → independent_in news places ≡ least → AreRowsOf ws (map F news) rows → AreRowsOf ws (map F least) (least_in places rows)
least_are_rows ws F news least places rows e h = record {
  shape = record { closed = refl; shape = all_independent IsRow rows.rows places h.shape.shape; below = all_independent (AllBelow (length ws)) rows.rows places h.shape.below };
  forms = sym (independent_in-map (combination_at ws) rows.rows places) ∙ ap (λ fs. independent_in fs places) h.forms ∙ independent_in-map F news places ∙ ap (map F) e;
}

-- ---- lists by letter

one_on : (k : ℕ) → k + 1 - 1 ≡ k
one_on k = omega arith

pub row_entry : (lists : List RowsValue) (k : ℕ) → rows_by lists (k + 1) ≡ get_or lists k no_rows
row_entry lists k = ap (λ i. get_or lists i no_rows) (one_on k)

entry_of : {X : Type 0} (f : ℕ → List X) (n k : ℕ) → k < n → get_or (map f (up_to n)) k [] ≡ f (k + 1)
entry_of f n k less = sym (ap (λ i. get_or (map f (up_to n)) i []) (one_on k)) ∙ letter_entry f n (k + 1) (omega arith, omega arith)

-- ---- the rows of the derivatives of the least words

pub closed_at : (braid : BraidValue) (m : ℕ) (g : List ℕ) (lists : List RowsValue) (a : ℕ) (own : RowsValue) → AreNewDerivatives braid m g lists → a < length lists → own ≡ get_or lists a own → own.begun ≡ []
closed_at braid m g lists a own h less at =
    let by : IsByLetter braid m g lists a own = by_letter_at braid m g lists h a own less at in
    let most : a + 1 ≤ braid.letters = omega (arith, h.letters) in
    ap (λ (r : RowsValue). r.begun) by.there ∙ (h.each (a + 1) (omega arith, most)).shape.closed

pub count_at : (braid : BraidValue) (m : ℕ) (g : List ℕ) (lists : List RowsValue) (a : ℕ) (own : RowsValue) (places : List Place) → AreNewDerivatives braid m g lists → ArePlacesOf braid m g places → a < length lists → own ≡ get_or lists a own →
    length places ≡ length own.rows
count_at braid m g lists a own places h p less at = let by : IsByLetter braid m g lists a own = by_letter_at braid m g lists h a own less at in p.count ∙ sym by.count

pub one_more : (places : List Place) (lists : List RowsValue) (i : ℕ) (own new : RowsValue) (old after : List RowsValue) → i < length lists → own ≡ get_or lists i own → old ≡ map (least_in places) (take i lists) → new ≡ least_in places own →
    after ≡ old ++ new ∷ [] → after ≡ map (least_in places) (take (i + 1) lists)
one_more places lists i own new old after less at before e pushed =
    pushed ∙ ap₂ (λ ls (r : RowsValue). ls ++ r ∷ []) before (e ∙ ap (least_in places) at) ∙ sym (map-append (least_in places) (take i lists) (get_or lists i own ∷ [])) ∙ ap (map (least_in places)) (sym (take_more lists i own less))

pub least_derivatives_are : (braid : BraidValue) (m : ℕ) (g : List ℕ) (lists : List RowsValue) (places : List Place) (i : ℕ) (out : List RowsValue) → AreNewDerivatives braid m g lists → ArePlacesOf braid m g places → length lists ≤ i →
    out ≡ map (least_in places) (take i lists) → AreLeastDerivatives braid m g out
unfolding block_derivs
least_derivatives_are braid m g lists places i out h p long e = subst (AreLeastDerivatives braid m g) (sym (e ∙ ap (map (least_in places)) (take_all i lists long))) (record {
  letters = length-map lists (least_in places) ∙ h.letters;
  each = λ a la.
      let inside : a - 1 < length lists = omega (arith, la.0, la.1, h.letters) in
      subst (AreRowsOf (lower_basis braid m g a) (map (λ w. derived_form is_killed braid m w a) (block_basis braid m g))) (sym (get_or-map (least_in places) lists (a - 1) no_rows no_rows inside))
      (least_are_rows (lower_basis braid m g a) (λ w. derived_form is_killed braid m w a) (block_new_words braid m g) (block_basis braid m g) places (rows_by lists a) p.least (h.each a la));
})

-- ---- lists that go together by index

map_at : {X Y : Type 0} (f : X → Y) (d : X) (e : Y) (xs : List X) (ys : List Y) → length xs ≡ length ys → ((k : ℕ) → k < length xs → f (get_or xs k d) ≡ get_or ys k e) → map f xs ≡ ys
map_at f d e [] [] size h = refl
map_at f d e [] (y ∷ ys) size h = absurd (omega arith)
map_at f d e (x ∷ xs) [] size h = absurd (omega arith)
map_at f d e (x ∷ xs) (y ∷ ys) size h = ap₂ (λ z zs. z ∷ zs) (h 0 (omega arith)) (map_at f d e xs ys (omega arith) (λ k less. h (suc k) (omega arith)))

have_rows : (below : List (List (List ℕ))) (lists : List RowsValue) → length below ≡ length lists → ((k : ℕ) → k < length lists → length (get_or lists k no_rows).rows ≡ length (get_or below k [])) → HaveRowEach below lists
have_rows [] [] size h = tt
have_rows [] (r ∷ lists) size h = absurd (omega arith)
have_rows (ws ∷ below) [] size h = absurd (omega arith)
have_rows (ws ∷ below) (r ∷ lists) size h = (h 0 (omega arith), have_rows below lists (omega arith) (λ k less. h (suc k) (omega arith)))

form_rows_each : (below : List (List (List ℕ))) (lists : List RowsValue) → length below ≡ length lists → ((k : ℕ) → k < length lists → AreFormRows (length (get_or below k [])) (get_or lists k no_rows)) → AreFormRowsOfEach below lists
form_rows_each [] [] size h = tt
form_rows_each [] (r ∷ lists) size h = absurd (omega arith)
form_rows_each (ws ∷ below) [] size h = absurd (omega arith)
form_rows_each (ws ∷ below) (r ∷ lists) size h = (h 0 (omega arith), form_rows_each below lists (omega arith) (λ k less. h (suc k) (omega arith)))

forms_each : (below : List (List (List ℕ))) (lists : List RowsValue) (fs : List (List Combination)) → length below ≡ length lists → length lists ≡ length fs → ((k : ℕ) → k < length lists → forms_over (get_or below k []) (get_or lists k no_rows) ≡ get_or fs k []) →
    forms_over_each below lists ≡ fs
forms_each [] [] [] size same h = refl
forms_each [] [] (f ∷ fs) size same h = absurd (omega arith)
forms_each [] (r ∷ lists) fs size same h = absurd (omega arith)
forms_each (ws ∷ below) [] fs size same h = absurd (omega arith)
forms_each (ws ∷ below) (r ∷ lists) [] size same h = absurd (omega arith)
forms_each (ws ∷ below) (r ∷ lists) (f ∷ fs) size same h = ap₂ (λ x xs. x ∷ xs) (h 0 (omega arith)) (forms_each below lists fs (omega arith) (omega arith) (λ k less. h (suc k) (omega arith)))

-- rows that are forms are as many
row_count_is : (ws : List (List ℕ)) (fs : List Combination) (rows : RowsValue) → AreRowsOf ws fs rows → length rows.rows ≡ length fs
row_count_is ws fs rows h = sym (length-map rows.rows (combination_at ws)) ∙ ap length h.forms

-- ---- the parts of a block's rule

pub record AreParts (braid : BraidValue) (m : ℕ) (g : List ℕ) (basis : List (List ℕ)) (below : List (List (List ℕ))) (rights : List RowsValue) (spots : List Spot) (derivs lefts : List RowsValue) : Type 0 where
  pub size : length g ≡ braid.letters
  pub most : m ≤ WORD_LIMIT
  pub least : basis ≡ block_basis braid m g
  pub lists : below ≡ map (lower_basis braid m g) (up_to braid.letters)
  pub forms : AreFormsOf braid m g rights lefts spots
  pub own : AreLeastDerivatives braid m g derivs

pub parts_of : (braid : BraidValue) (key : BlockKey) (basis : List (List ℕ)) (below : List (List (List ℕ))) (rights : List RowsValue) (spots : List Spot) (derivs lefts : List RowsValue) → IsUpperBlock braid key →
    basis ≡ block_basis braid key.degree key.product → below ≡ map (lower_basis braid key.degree key.product) (up_to braid.letters) → AreFormsOf braid key.degree key.product rights lefts spots → AreLeastDerivatives braid key.degree key.product derivs →
    AreParts braid key.degree key.product basis below rights spots derivs lefts
parts_of braid key basis below rights spots derivs lefts block least lists forms own = record {
  size = images_of_all braid key block;
  most = omega (arith, block.most);
  least = least;
  lists = lists;
  forms = forms;
  own = own;
}

all_rows : (P : RowsValue → Type 0) (n : ℕ) (lists : List RowsValue) → length lists ≡ n → ((a : ℕ) → (1 ≤ a) × (a ≤ n) → P (rows_by lists a)) → AllByRecursion P lists
all_rows P n lists size h =
    recursion_from_All P lists (λ k d less. subst P (row_entry lists k ∙ same k d less) (h (k + 1) (omega arith, omega arith)))
  where
    same : (k : ℕ) (d : RowsValue) → k < length lists → get_or lists k no_rows ≡ get_or lists k d
    same k d less = get_or_default lists k no_rows d less

-- a word of a lower block with its letter behind is least or at the spot of a relation
parts_whole : (braid : BraidValue) → IsBraid braid → (m : ℕ) (g : List ℕ) → Contains (products braid m) g → (basis : List (List ℕ)) (below : List (List (List ℕ))) (rights : List RowsValue) (spots : List Spot) (derivs lefts : List RowsValue) →
    AreParts braid m g basis below rights spots derivs lefts → (s : Spot) → IsSpot below s → (Contains basis (candidate_at below s) → ⊥) → Contains (map (candidate_at below) spots) (candidate_at below s)
parts_whole braid is m g there basis below rights spots derivs lefts p s (some, letter, place) none =
    let ws : List (List (List ℕ)) = map (lower_basis braid m g) (up_to braid.letters) in
    let fs : List (List Combination) = map (right_forms braid m g) (up_to braid.letters) in
    let la : IsLetter braid s.letter = (omega (arith, some), omega (arith, some, letter, ap length p.lists, letter_count (lower_basis braid m g) braid.letters)) in
    let words : by_letter below s.letter ≡ lower_basis braid m g s.letter = ap (λ ls. by_letter ls s.letter) p.lists ∙ letter_entry (lower_basis braid m g) braid.letters s.letter la in
    let word : candidate_at below s ≡ word_at (lower_basis braid m g s.letter) s.place ++ s.letter ∷ [] = ap (λ us. word_at us s.place ++ s.letter ∷ []) words in
    let related : Contains (block_relations braid m g) (relation_of braid m (word_at (lower_basis braid m g s.letter) s.place ++ s.letter ∷ [])) =
    form_in_table braid is m g there s.letter s.place la (subst (λ us. s.place < length us) words place) (λ i. none (subst (λ us. Contains us (candidate_at below s)) (sym p.least) (subst (Contains (block_basis braid m g)) (sym word) i))) in
    let (x, i, e) = from_map (relation_at ws fs) _ spots (subst (λ (ts : List PlainRelation). Contains ts (relation_of braid m (word_at (lower_basis braid m g s.letter) s.place ++ s.letter ∷ []))) (sym p.forms.table) related) in
    let same : candidate_at below x ≡ candidate_at below s = ap (λ ls. candidate_at ls x) p.lists ∙ sym (ap (λ (r : PlainRelation). r.candidate) e) ∙ sym word in
    subst (Contains (map (candidate_at below) spots)) same (in_map (candidate_at below) x spots i)

pub parts_shape : (braid : BraidValue) → IsBraid braid → (key : BlockKey) → Contains (products braid key.degree) key.product → (basis : List (List ℕ)) (below : List (List (List ℕ))) (rights : List RowsValue) (spots : List Spot) (derivs lefts : List RowsValue) →
    AreParts braid key.degree key.product basis below rights spots derivs lefts → IsShaped key basis below rights spots
parts_shape braid is key there basis below rights spots derivs lefts p =
    let m : ℕ = key.degree in
    let g : List ℕ = key.product in
    let count : length below ≡ braid.letters = ap length p.lists ∙ letter_count (lower_basis braid m g) braid.letters in
    record {
      letters = count ∙ sym p.size;
      rising = subst IsRising (sym p.least) (block_basis_rises braid m g);
      lists_rise = subst (AllByRecursion IsRising) (sym p.lists)
          (all_of_entries IsRising (map (lower_basis braid m g) (up_to braid.letters)) (λ ws i. let (b, j, e) = from_map (lower_basis braid m g) ws (up_to braid.letters) i in subst IsRising (sym e) (lower_basis_rises braid m g b)));
      short = subst (AllByRecursion AllShort) (sym p.lists) (lower_words_are_short braid m g p.most);
      forms = all_rows (AreFormRows (length basis)) braid.letters rights p.forms.right.letters (λ a la. subst (λ ws. AreFormRows (length ws) (rows_by rights a)) (sym p.least) (p.forms.right.each a la).shape);
      rows = have_rows below rights (count ∙ sym p.forms.right.letters)
          (λ k less.
          let inside : k < braid.letters = omega (arith, less, p.forms.right.letters) in
          ap (λ (r : RowsValue). length r.rows) (sym (row_entry rights k))
          ∙ row_count_is (block_basis braid m g) (right_forms braid m g (k + 1)) (rows_by rights (k + 1)) (p.forms.right.each (k + 1) (omega arith, omega (arith, inside)))
          ∙ right_count braid m g (k + 1) ∙ ap length (sym (ap (λ ls. get_or ls k []) p.lists ∙ entry_of (lower_basis braid m g) braid.letters k inside)));
      inside = subst (λ ls. AllByRecursion (IsSpot ls) spots) (sym p.lists) p.forms.inside;
      whole = parts_whole braid is m g there basis below rights spots derivs lefts p;
    }

pub parts_upper : (braid : BraidValue) (key : BlockKey) (basis : List (List ℕ)) (below : List (List (List ℕ))) (rights : List RowsValue) (spots : List Spot) (derivs lefts : List RowsValue) →
    AreParts braid key.degree key.product basis below rights spots derivs lefts → IsUpperShaped basis below derivs lefts
parts_upper braid key basis below rights spots derivs lefts p =
    let m : ℕ = key.degree in
    let g : List ℕ = key.product in
    let count : length below ≡ braid.letters = ap length p.lists ∙ letter_count (lower_basis braid m g) braid.letters in
    record {
      derivs_forms = form_rows_each below derivs (count ∙ sym p.own.letters)
          (λ k less.
          let inside : k < braid.letters = omega (arith, less, p.own.letters) in
          subst (λ (r : RowsValue). AreFormRows (length (get_or below k [])) r) (row_entry derivs k)
          (subst (λ ws. AreFormRows (length ws) (rows_by derivs (k + 1))) (sym (ap (λ ls. get_or ls k []) p.lists ∙ entry_of (lower_basis braid m g) braid.letters k inside)) (p.own.each (k + 1) (omega arith, omega (arith, inside))).shape));
      derivs_rows = all_rows (λ (r : RowsValue). length r.rows ≡ length basis) braid.letters derivs p.own.letters
          (λ a la. row_count_is (lower_basis braid m g a) (block_derivs braid m g a) (rows_by derivs a) (p.own.each a la) ∙ derivs_count braid m g a ∙ ap length (sym p.least));
      left_forms = all_rows (AreFormRows (length basis)) braid.letters lefts p.forms.left.letters (λ a la. subst (λ ws. AreFormRows (length ws) (rows_by lefts a)) (sym p.least) (p.forms.left.each a la).shape);
      letters = p.forms.left.letters ∙ sym count;
    }

together : (key : BlockKey) (basis us : List (List ℕ)) (below bs : List (List (List ℕ))) (rights derivs lefts : List RowsValue) (spots : List Spot) (ts : List PlainRelation) (fs ds ls : List (List Combination)) → basis ≡ us → below ≡ bs →
    map (relation_at below (map (forms_over basis) rights)) spots ≡ ts → map (forms_over basis) rights ≡ fs → forms_over_each below derivs ≡ ds → map (forms_over basis) lefts ≡ ls →
    rule_by key basis below rights spots (Some (upper_by basis below derivs lefts)) ≡ record { key = key; basis = us; table = ts; below = bs; right = fs; upper = Some (record { derivs = ds; left = ls }) }
together key basis us below bs rights derivs lefts spots ts fs ds ls p q r s t u = cc

pub parts_are_rule : (braid : BraidValue) (key : BlockKey) (basis : List (List ℕ)) (below : List (List (List ℕ))) (rights : List RowsValue) (spots : List Spot) (derivs lefts : List RowsValue) →
    AreParts braid key.degree key.product basis below rights spots derivs lefts → rule_by key basis below rights spots (Some (upper_by basis below derivs lefts)) ≡ rule_of braid key.degree key.product
unfolding rule_of lean_rule_of upper_of
parts_are_rule braid key basis below rights spots derivs lefts p =
    let m : ℕ = key.degree in
    let g : List ℕ = key.product in
    let bs : List (List (List ℕ)) = map (lower_basis braid m g) (up_to braid.letters) in
    let fs : List (List Combination) = map (right_forms braid m g) (up_to braid.letters) in
    let right_are : map (forms_over basis) rights ≡ fs =
    ap (λ ws. map (forms_over ws) rights) p.least
    ∙ map_at (forms_over (block_basis braid m g)) no_rows [] rights fs (p.forms.right.letters ∙ sym (letter_count (right_forms braid m g) braid.letters))
    (λ k less.
    let inside : k < braid.letters = omega (arith, less, p.forms.right.letters) in
    ap (forms_over (block_basis braid m g)) (sym (row_entry rights k)) ∙ (p.forms.right.each (k + 1) (omega arith, omega (arith, inside))).forms ∙ sym (entry_of (right_forms braid m g) braid.letters k inside)) in
    let left_are : map (forms_over basis) lefts ≡ map (left_forms braid m g) (up_to braid.letters) =
    ap (λ ws. map (forms_over ws) lefts) p.least
    ∙ map_at (forms_over (block_basis braid m g)) no_rows [] lefts (map (left_forms braid m g) (up_to braid.letters)) (p.forms.left.letters ∙ sym (letter_count (left_forms braid m g) braid.letters))
    (λ k less.
    let inside : k < braid.letters = omega (arith, less, p.forms.left.letters) in
    ap (forms_over (block_basis braid m g)) (sym (row_entry lefts k)) ∙ (p.forms.left.each (k + 1) (omega arith, omega (arith, inside))).forms ∙ sym (entry_of (left_forms braid m g) braid.letters k inside)) in
    let derivs_are : forms_over_each below derivs ≡ map (block_derivs braid m g) (up_to braid.letters) =
    ap (λ ls. forms_over_each ls derivs) p.lists
    ∙ forms_each bs derivs (map (block_derivs braid m g) (up_to braid.letters)) (letter_count (lower_basis braid m g) braid.letters ∙ sym p.own.letters) (p.own.letters ∙ sym (letter_count (block_derivs braid m g) braid.letters))
    (λ k less.
    let inside : k < braid.letters = omega (arith, less, p.own.letters) in
    ap₂ (λ ws (r : RowsValue). forms_over ws r) (entry_of (lower_basis braid m g) braid.letters k inside) (sym (row_entry derivs k)) ∙ (p.own.each (k + 1) (omega arith, omega (arith, inside))).forms
    ∙ sym (entry_of (block_derivs braid m g) braid.letters k inside)) in
    together key basis (block_basis braid m g) below bs rights derivs lefts spots (block_relations braid m g) fs (map (block_derivs braid m g) (up_to braid.letters)) (map (left_forms braid m g) (up_to braid.letters)) p.least p.lists
    (ap₂ (λ ls rs. map (relation_at ls rs) spots) p.lists right_are ∙ p.forms.table) right_are derivs_are left_are

-- the least words of a block are its new words with independent places
pub least_words : (braid : BraidValue) (m : ℕ) (g : List ℕ) (least news ws : List (List ℕ)) (places ps : List Place) → least ≡ independent_in ws ps → ws ≡ news → ps ≡ places → news ≡ block_new_words braid m g → ArePlacesOf braid m g places →
    least ≡ block_basis braid m g
least_words braid m g least news ws places ps e same found new p = e ∙ ap₂ (λ us qs. independent_in us qs) (same ∙ new) found ∙ p.least
