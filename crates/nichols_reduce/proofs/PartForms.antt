-- The normal form of a combination, term by term.
use Rattle.std.proofs.Common.{◌≡◌, ℕ, zero, suc, ◌+◌, ◌<◌, ◌≤◌, false, List, [], ◌∷◌, ◌++◌, length, get_or, take, refl, sym, ◌∙◌, ap, ap₂, subst, arith, inr}
use Rattle.std.specs.List.{AllByRecursion}
use Rattle.std.proofs.lemmas.List.{append-nil, take_more}
use Rattle.nichols_field.specs.Field.{FieldValue, IsField, IsElement}
use Rattle.nichols_field.proofs.FieldLaws.{times_one}
use Rattle.nichols_tensor.specs.Combination.{Term, Combination, value_at, AllAmong, AllElements, HasSameValues, single, scalar_multiple, linear_map, without_zeros}
use Rattle.nichols_tensor.specs.Parts.{longest}
use Rattle.nichols_tensor.specs.Words.{IsOver, IsWordOver}
use Rattle.nichols_tensor.specs.WordOrder.{IsOrdered}
use Rattle.nichols_tensor.proofs.Building.{elements-append, elements-multiple, value_at-without_zeros}
use Rattle.nichols_tensor.proofs.Linear.{linear_map-append, same_append, same_scaled}
use Rattle.nichols_tensor.proofs.Ordered.{ordered_unique}
use Rattle.nichols_braid.specs.Braid.{BraidValue, IsBraid}
use Rattle.nichols_braid.specs.Kernel.{is_killed}
use Rattle.nichols_braid.specs.Least.{basis, normal_form}
use Rattle.nichols_braid.specs.LeastLaws.{IsNormalForm}
use Rattle.nichols_braid.specs.WholeForm.{normal_form_by_parts}
use Rattle.nichols_braid.specs.WholeLaws.{HasFormByParts}
use Rattle.nichols_braid.proofs.BraidLaws.{killed_is_linear, killed_is_ideal_from_right}
use Rattle.nichols_braid.proofs.NormalForms.{form_is_normal, form_of_zero}
use Rattle.nichols_braid.proofs.Prefixes.{stays_empty}
use Rattle.nichols_braid.proofs.WholeForms.{normal_forms_by_parts}
use Rattle.nichols_value.specs.Block.{block_basis}
use Rattle.nichols_memo.specs.Forms.{form_of}
use Rattle.nichols_reduce.specs.Forms.{AreSumsOf}
use Rattle.nichols_reduce.specs.Laws.{IsLinearForm}
use Rattle.nichols_reduce.specs.Normal.{is_beyond}
use Rattle.nichols_reduce.specs.Sums.{combination_of}
use Rattle.nichols_reduce.proofs.ReduceLaws.{forms_are_linear}
use Rattle.nichols_reduce.proofs.LastDegree.{empty_where_long}
use Rattle.nichols_value.proofs.FormCells.{none_among}
use Rattle.std.proofs.lemmas.List.Elements.{All-from_recursion}

-- ---- the form of a whole is the sum of those of its words

pub whole_of : (braid : BraidValue) → IsBraid braid → (f : Combination) → IsOver braid.letters f → HasFormByParts is_killed braid f
whole_of braid is f over = normal_forms_by_parts is_killed braid is.field (killed_is_linear braid is) f over

-- a term
whole_of_term : (braid : BraidValue) → IsBraid braid → (t : Term) → IsWordOver braid.letters t.word → IsElement braid.field t.coefficient → HasSameValues braid.field (normal_form_by_parts is_killed braid (t ∷ [])) (scalar_multiple braid.field t.coefficient (form_of braid t.word))
whole_of_term braid is t over element v =
    let k : FieldValue = braid.field in
    let linear : IsLinearForm is_killed braid = forms_are_linear is_killed braid is (inr refl) in
    ap (λ n. value_at k (normal_form_by_parts is_killed braid (record { word = t.word; coefficient = n } ∷ [])) v) (sym (times_one k t.coefficient element))
    ∙ linear.multiples t.coefficient (single t.word) (over, tt) v
    ∙ ap (λ f. value_at k (scalar_multiple k t.coefficient f) v) ((whole_of braid is (single t.word) (over, tt)).degree (length t.word) (refl, tt))

pub whole_by_words : (braid : BraidValue) → IsBraid braid → (f : Combination) → IsOver braid.letters f → AllElements braid.field f → HasSameValues braid.field (normal_form_by_parts is_killed braid f) (linear_map braid.field (form_of braid) f)
whole_by_words braid is [] over elements v =
    ap (λ f. value_at braid.field f v) ((whole_of braid is [] tt).degree 0 tt ∙ form_of_zero is_killed braid is.field 0 (killed_is_linear braid is 0) [] (killed_is_linear braid is 0).holds_of_zero)
whole_by_words braid is (t ∷ f) over elements v =
    (forms_are_linear is_killed braid is (inr refl)).sums (t ∷ []) f (over.0, tt) over.1 v
    ∙ same_append braid.field is.field (normal_form_by_parts is_killed braid (t ∷ [])) (normal_form_by_parts is_killed braid f) (scalar_multiple braid.field t.coefficient (form_of braid t.word)) (linear_map braid.field (form_of braid) f)
    (whole_of_term braid is t over.0 elements.0) (whole_by_words braid is f over.1 elements.1) v

-- terms in order with these values are the form
pub whole_is : (braid : BraidValue) → IsBraid braid → (f g h : Combination) → IsOver braid.letters f → AllElements braid.field f → HasSameValues braid.field g (linear_map braid.field (form_of braid) f) → HasSameValues braid.field h g → IsOrdered h → AllElements braid.field h →
    h ≡ normal_form_by_parts is_killed braid f
whole_is braid is f g h over elements same own ordered h_elements =
    let n : HasFormByParts is_killed braid f = whole_of braid is f over in
    ordered_unique braid.field is.field h (normal_form_by_parts is_killed braid f) h_elements n.normal.elements ordered n.normal.ordered (λ v. own v ∙ same v ∙ sym (whole_by_words braid is f over elements v))

-- ---- one term more

-- what holds of each entry holds of that at a place
pub entry_at : (P : Term → Type 0) (f : Combination) (i : ℕ) (t : Term) → AllByRecursion P f → i < length f → t ≡ get_or f i t → P t
entry_at P f i t h less at = subst P (sym at) (All-from_recursion P f h i t less)

-- the images of one term more
pub words_more : (k : FieldValue) (image : List ℕ → Combination) (f : Combination) (i : ℕ) (t : Term) → i < length f → t ≡ get_or f i t → linear_map k image (take (i + 1) f) ≡ linear_map k image (take i f) ++ scalar_multiple k t.coefficient (image t.word)
words_more k image f i t less at =
    ap (linear_map k image) (take_more f i t less ∙ ap (λ u. take i f ++ u ∷ []) (sym at))
    ∙ linear_map-append k image (take i f) (t ∷ []) ∙ ap (λ g. linear_map k image (take i f) ++ g) (append-nil (scalar_multiple k t.coefficient (image t.word)))

pub sum_with : (k : FieldValue) → IsField k → (image : List ℕ → Combination) (f : Combination) (i : ℕ) (t : Term) (sum more new : Combination) → i < length f → t ≡ get_or f i t → HasSameValues k sum (linear_map k image (take i f)) →
    HasSameValues k more (sum ++ scalar_multiple k t.coefficient (image t.word)) → HasSameValues k new more → HasSameValues k new (linear_map k image (take (i + 1) f))
sum_with k is image f i t sum more new less at h grown gathered v =
    gathered v ∙ grown v
    ∙ same_append k is sum (scalar_multiple k t.coefficient (image t.word)) (linear_map k image (take i f)) (scalar_multiple k t.coefficient (image t.word)) h (λ u. refl) v
    ∙ ap (λ g. value_at k g v) (sym (words_more k image f i t less at))

-- ---- words that are too long

pub longest_at : (f : Combination) (i : ℕ) (d : Term) → i < length f → length (get_or f i d).word ≤ longest f
unfolding longest
longest_at [] i d less = absurd (omega arith)
longest_at (u ∷ f) zero d less = omega arith
longest_at (u ∷ f) (suc i) d less = let h : length (get_or f i d).word ≤ longest f = longest_at f i d (omega arith) in omega (arith, h)

form_of_long : (braid : BraidValue) → IsBraid braid → (last : ℕ) (w : List ℕ) → IsWordOver braid.letters w → last < length w → basis is_killed braid last ≡ [] → form_of braid w ≡ []
form_of_long braid is last w over less none =
    let n : IsNormalForm is_killed braid (length w) (single w) (form_of braid w) = form_is_normal is_killed braid is.field (length w) (killed_is_linear braid is (length w)) (single w) (refl, tt) (over, tt) in
    none_among (form_of braid w) (subst (AllAmong (form_of braid w)) (stays_empty braid is.field is_killed (killed_is_ideal_from_right braid is) last (length w) (omega arith) none) n.least)

-- a word that is longer than the last degree adds nothing
pub sum_without : (braid : BraidValue) → IsBraid braid → (last : ℕ) (f : Combination) (i : ℕ) (t : Term) (sum new : Combination) → IsOver braid.letters f → is_beyond braid last f ≡ false → i < length f → t ≡ get_or f i t → last < length t.word →
    HasSameValues braid.field sum (linear_map braid.field (form_of braid) (take i f)) → HasSameValues braid.field new sum → HasSameValues braid.field new (linear_map braid.field (form_of braid) (take (i + 1) f))
sum_without braid is last f i t sum new over within less at long h gathered =
    let most : length (get_or f i t).word ≤ longest f = longest_at f i t less in
    let size : length t.word ≡ length (get_or f i t).word = ap (λ (u : Term). length u.word) at in
    let none : form_of braid t.word ≡ [] = form_of_long braid is last t.word (entry_at (λ (u : Term). IsWordOver braid.letters u.word) f i t over less at) long (empty_where_long braid last f within (omega (arith, most, size, long))) in
    sum_with braid.field is.field (form_of braid) f i t sum sum new less at h
    (λ v. ap (λ g. value_at braid.field g v) (sym (ap (λ g. sum ++ scalar_multiple braid.field t.coefficient g) none ∙ append-nil sum))) gathered

-- ---- the terms of a form

-- the same terms, as they are written elsewhere
pub same_terms : (k l : FieldValue) → l ≡ k → (ws us : List (List ℕ)) → us ≡ ws → (ms ns : List ℕ) → ms ≡ ns → (by : ℕ) (old new : Combination) → new ≡ old ++ without_zeros (scalar_multiple l by (combination_of l us ms)) → new ≡ old ++ without_zeros (scalar_multiple k by (combination_of k ws ns))
same_terms k l field ws us words ms ns sums by old new e =
    e ∙ ap (λ h. old ++ without_zeros (scalar_multiple h by (combination_of h us ms))) field ∙ ap₂ (λ vs xs. old ++ without_zeros (scalar_multiple k by (combination_of k vs xs))) words sums

-- the sums of a normal form, as terms, are a multiple of the form
pub values_of_sums : (braid : BraidValue) → IsBraid braid → (m : ℕ) (g : List ℕ) (f : Combination) (by : ℕ) (sums : List ℕ) (old new : Combination) → AreSumsOf braid m g f sums →
    new ≡ old ++ without_zeros (scalar_multiple braid.field by (combination_of braid.field (block_basis braid m g) sums)) → HasSameValues braid.field new (old ++ scalar_multiple braid.field by (normal_form is_killed braid m f))
values_of_sums braid is m g f by sums old new formed e v =
    let k : FieldValue = braid.field in
    let own : Combination = combination_of k (block_basis braid m g) sums in
    let form : Combination = normal_form is_killed braid m f in
    ap (λ h. value_at k h v) e
    ∙ same_append k is.field old (without_zeros (scalar_multiple k by own)) old (scalar_multiple k by form) (λ u. refl)
    (λ u. value_at-without_zeros k is.field (scalar_multiple k by own) u ∙ same_scaled k is.field by own form formed.values u) v

pub elements_with : (k : FieldValue) → IsField k → (by : ℕ) (f old new : Combination) → AllElements k old → new ≡ old ++ without_zeros (scalar_multiple k by f) → AllElements k new
elements_with k is by f old new h e = subst (AllElements k) (sym e) (elements-append k old (without_zeros (scalar_multiple k by f)) h (elements-multiple k is by f))
