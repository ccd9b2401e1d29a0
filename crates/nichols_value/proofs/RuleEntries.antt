-- What the parts of the rule of a block are, and its forms at their places.
use Rattle.std.proofs.Common.{◌≡◌, ℕ, zero, suc, ◌<◌, ◌≤◌, ◌-◌, List, [], ◌∷◌, ◌++◌, length, map, get_or, sym, ◌∙◌, ap, subst, arith, Option, Some, true}
use Rattle.std.specs.List.{AllByRecursion, Contains}
use Rattle.std.proofs.lemmas.List.{get_or-map, length-map}
use Rattle.nichols_tensor.specs.Combination.{AllElements, Combination, single}
use Rattle.nichols_tensor.specs.Positions.{word_at}
use Rattle.nichols_tensor.specs.Words.{IsLetterOf, IsWordOver, up_to}
use Rattle.nichols_tensor.specs.WordOrder.{IsOrdered}
use Rattle.nichols_tensor.proofs.Entries.{contains_none, from_filter, from_map}
use Rattle.nichols_tensor.proofs.Letters.{up_to_length}
use Rattle.nichols_tensor.proofs.Over.{word_over-append}
use Rattle.nichols_tensor.proofs.Pushed.{pushed_length}
use Rattle.nichols_tensor.proofs.Rising.{word_at_is_in}
use Rattle.nichols_tensor.proofs.Tests.{all_of_entries}
use Rattle.nichols_tensor.specs.declared.TheConstants.{WORD_LIMIT}
use Rattle.nichols_braid.specs.Braid.{BraidValue, IsBraid, IsLetter}
use Rattle.nichols_braid.specs.Derivation.{skew_derivative}
use Rattle.nichols_braid.specs.Forms.{derived_form}
use Rattle.nichols_braid.specs.Kernel.{is_killed}
use Rattle.nichols_braid.specs.Least.{basis, is_least, normal_form}
use Rattle.nichols_braid.specs.LeastLaws.{IsNormalForm}
use Rattle.nichols_braid.specs.Product.{has_product, product_before}
use Rattle.nichols_braid.proofs.BraidLaws.{killed_is_linear, killed_is_ideal_from_right}
use Rattle.nichols_braid.proofs.FormsOfDerivatives.{derived_form_is_normal}
use Rattle.nichols_braid.proofs.NormalForms.{form_is_normal}
use Rattle.nichols_braid.proofs.Onto.{up_to_at}
use Rattle.nichols_braid.proofs.Reduction.{from_basis}
use Rattle.nichols_value.specs.declared.key.BlockKey.{BlockKey}
use Rattle.nichols_value.specs.Block.{block_basis, block_relations, left_lower_basis, lower_basis}
use Rattle.nichols_value.specs.Kept.{AllShort}
use Rattle.nichols_value.specs.Rule.{IsRuleOf, PlainRule, PlainUpper, below_in, block_derivs, by_letter, derivs_in, left_forms, left_in, lean_rule_of, right_forms, right_in, rule_of, upper_of, upper_or_none, without_upper}

-- ---- lists by letter

-- the entry of a list by letter
pub letter_entry : {X : Type 0} (f : ℕ → List X) (n a : ℕ) → IsLetterOf n a → by_letter (map f (up_to n)) a ≡ f a
letter_entry f n a l =
    let size : length (up_to n) ≡ n = up_to_length n in
    let back : suc (a - 1) ≡ a = omega (arith, l.0) in
    get_or-map f (up_to n) (a - 1) 0 [] (omega (arith, size, l.0, l.1)) ∙ ap f (up_to_at n (a - 1) (omega (arith, l.0, l.1)) ∙ back)

-- a list has one for each letter
pub letter_count : {X : Type 0} (f : ℕ → X) (n : ℕ) → length (map f (up_to n)) ≡ n
letter_count f n = length-map (up_to n) f ∙ up_to_length n

-- ---- the parts of a rule, with or without what serves the degree above

pub lean_of_whole : (braid : BraidValue) (m : ℕ) (g : List ℕ) (r : PlainRule) → r ≡ rule_of braid m g → IsRuleOf braid m g r
unfolding rule_of lean_rule_of
lean_of_whole braid m g r e = ap without_upper e

pub key_is : (braid : BraidValue) (m : ℕ) (g : List ℕ) (r : PlainRule) → IsRuleOf braid m g r → let key : BlockKey = record { degree = m; product = g } in r.key ≡ key
unfolding lean_rule_of
key_is braid m g r e = ap (λ (s : PlainRule). s.key) e

pub basis_is : (braid : BraidValue) (m : ℕ) (g : List ℕ) (r : PlainRule) → IsRuleOf braid m g r → r.basis ≡ block_basis braid m g
unfolding lean_rule_of
basis_is braid m g r e = ap (λ (s : PlainRule). s.basis) e

pub table_is : (braid : BraidValue) (m : ℕ) (g : List ℕ) (r : PlainRule) → IsRuleOf braid m g r → r.table ≡ block_relations braid m g
unfolding lean_rule_of
table_is braid m g r e = ap (λ (s : PlainRule). s.table) e

pub lists_below_are : (braid : BraidValue) (m : ℕ) (g : List ℕ) (r : PlainRule) → IsRuleOf braid m g r → r.below ≡ map (lower_basis braid m g) (up_to braid.letters)
unfolding lean_rule_of
lists_below_are braid m g r e = ap (λ (s : PlainRule). s.below) e

pub rights_are : (braid : BraidValue) (m : ℕ) (g : List ℕ) (r : PlainRule) → IsRuleOf braid m g r → r.right ≡ map (right_forms braid m g) (up_to braid.letters)
unfolding lean_rule_of
rights_are braid m g r e = ap (λ (s : PlainRule). s.right) e

pub below_count : (braid : BraidValue) (m : ℕ) (g : List ℕ) (r : PlainRule) → IsRuleOf braid m g r → length r.below ≡ braid.letters
below_count braid m g r e = ap length (lists_below_are braid m g r e) ∙ letter_count (lower_basis braid m g) braid.letters

pub below_is : (braid : BraidValue) (m : ℕ) (g : List ℕ) (r : PlainRule) → IsRuleOf braid m g r → (b : ℕ) → IsLetter braid b → below_in r b ≡ lower_basis braid m g b
below_is braid m g r e b l = ap (λ xs. by_letter xs b) (lists_below_are braid m g r e) ∙ letter_entry (lower_basis braid m g) braid.letters b l

pub right_is : (braid : BraidValue) (m : ℕ) (g : List ℕ) (r : PlainRule) → IsRuleOf braid m g r → (b : ℕ) → IsLetter braid b → right_in r b ≡ right_forms braid m g b
right_is braid m g r e b l = ap (λ xs. by_letter xs b) (rights_are braid m g r e) ∙ letter_entry (right_forms braid m g) braid.letters b l

-- ---- what serves the degree above

pub upper_is : (braid : BraidValue) (m : ℕ) (g : List ℕ) (r : PlainRule) → r ≡ rule_of braid m g → r.upper ≡ Some (upper_of braid m g)
unfolding rule_of
upper_is braid m g r e = ap (λ (s : PlainRule). s.upper) e

pub derivs_is : (braid : BraidValue) (m : ℕ) (g : List ℕ) (r : PlainRule) → r ≡ rule_of braid m g → (a : ℕ) → IsLetter braid a → derivs_in r a ≡ block_derivs braid m g a
unfolding upper_of
derivs_is braid m g r e a l = ap (λ (u : Option PlainUpper). by_letter (upper_or_none u).derivs a) (upper_is braid m g r e) ∙ letter_entry (block_derivs braid m g) braid.letters a l

pub left_is : (braid : BraidValue) (m : ℕ) (g : List ℕ) (r : PlainRule) → r ≡ rule_of braid m g → (a : ℕ) → IsLetter braid a → left_in r a ≡ left_forms braid m g a
unfolding upper_of
left_is braid m g r e a l = ap (λ (u : Option PlainUpper). by_letter (upper_or_none u).left a) (upper_is braid m g r e) ∙ letter_entry (left_forms braid m g) braid.letters a l

-- ---- how many forms there are

pub right_count : (braid : BraidValue) (m : ℕ) (g : List ℕ) (b : ℕ) → length (right_forms braid m g b) ≡ length (lower_basis braid m g b)
unfolding right_forms
right_count braid m g b = length-map (lower_basis braid m g b) _

pub left_count : (braid : BraidValue) (m : ℕ) (g : List ℕ) (a : ℕ) → length (left_forms braid m g a) ≡ length (left_lower_basis braid m g a)
unfolding left_forms
left_count braid m g a = length-map (left_lower_basis braid m g a) _

pub derivs_count : (braid : BraidValue) (m : ℕ) (g : List ℕ) (a : ℕ) → length (block_derivs braid m g a) ≡ length (block_basis braid m g)
unfolding block_derivs
derivs_count braid m g a = length-map (block_basis braid m g) _

pub right_size : (braid : BraidValue) (m : ℕ) (g : List ℕ) (r : PlainRule) → IsRuleOf braid m g r → (b : ℕ) → IsLetter braid b → length (right_in r b) ≡ length (lower_basis braid m g b)
right_size braid m g r e b l = ap length (right_is braid m g r e b l) ∙ right_count braid m g b

pub left_size : (braid : BraidValue) (m : ℕ) (g : List ℕ) (r : PlainRule) → r ≡ rule_of braid m g → (a : ℕ) → IsLetter braid a → length (left_in r a) ≡ length (left_lower_basis braid m g a)
left_size braid m g r e a l = ap length (left_is braid m g r e a l) ∙ left_count braid m g a

pub derivs_size : (braid : BraidValue) (m : ℕ) (g : List ℕ) (r : PlainRule) → r ≡ rule_of braid m g → (a : ℕ) → IsLetter braid a → length (derivs_in r a) ≡ length (block_basis braid m g)
derivs_size braid m g r e a l = ap length (derivs_is braid m g r e a l) ∙ derivs_count braid m g a

-- ---- the forms at their places

right_entry : (braid : BraidValue) (m : ℕ) (g : List ℕ) (b k : ℕ) → k < length (lower_basis braid m g b) → get_or (right_forms braid m g b) k [] ≡ normal_form is_killed braid m (single (word_at (lower_basis braid m g b) k ++ b ∷ []))
unfolding right_forms
right_entry braid m g b k less = get_or-map (λ u. normal_form is_killed braid m (single (u ++ b ∷ []))) (lower_basis braid m g b) k [] [] less

pub right_form : (braid : BraidValue) (m : ℕ) (g : List ℕ) (r : PlainRule) → IsRuleOf braid m g r → (b : ℕ) → IsLetter braid b → (k : ℕ) → k < length (lower_basis braid m g b) →
    get_or (right_in r b) k [] ≡ normal_form is_killed braid m (single (word_at (lower_basis braid m g b) k ++ b ∷ []))
right_form braid m g r e b l k less = ap (λ fs. get_or fs k []) (right_is braid m g r e b l) ∙ right_entry braid m g b k less

left_entry : (braid : BraidValue) (m : ℕ) (g : List ℕ) (a k : ℕ) → k < length (left_lower_basis braid m g a) → get_or (left_forms braid m g a) k [] ≡ normal_form is_killed braid m (single (a ∷ word_at (left_lower_basis braid m g a) k))
unfolding left_forms
left_entry braid m g a k less = get_or-map (λ v. normal_form is_killed braid m (single (a ∷ v))) (left_lower_basis braid m g a) k [] [] less

pub left_form : (braid : BraidValue) (m : ℕ) (g : List ℕ) (r : PlainRule) → r ≡ rule_of braid m g → (a : ℕ) → IsLetter braid a → (k : ℕ) → k < length (left_lower_basis braid m g a) →
    get_or (left_in r a) k [] ≡ normal_form is_killed braid m (single (a ∷ word_at (left_lower_basis braid m g a) k))
left_form braid m g r e a l k less = ap (λ fs. get_or fs k []) (left_is braid m g r e a l) ∙ left_entry braid m g a k less

derivative_entry : (braid : BraidValue) (m : ℕ) (g : List ℕ) (a k : ℕ) → k < length (block_basis braid m g) → get_or (block_derivs braid m g a) k [] ≡ derived_form is_killed braid m (word_at (block_basis braid m g) k) a
unfolding block_derivs
derivative_entry braid m g a k less = get_or-map (λ w. derived_form is_killed braid m w a) (block_basis braid m g) k [] [] less

pub derivative : (braid : BraidValue) (m : ℕ) (g : List ℕ) (r : PlainRule) → r ≡ rule_of braid m g → (a : ℕ) → IsLetter braid a → (k : ℕ) → k < length (block_basis braid m g) →
    get_or (derivs_in r a) k [] ≡ derived_form is_killed braid m (word_at (block_basis braid m g) k) a
derivative braid m g r e a l k less = ap (λ fs. get_or fs k []) (derivs_is braid m g r e a l) ∙ derivative_entry braid m g a k less

-- ---- the forms are normal forms

-- the normal form of a word
pub word_form_is_normal : (braid : BraidValue) → IsBraid braid → (m : ℕ) (w : List ℕ) → length w ≡ m → IsWordOver braid.letters w → IsNormalForm is_killed braid m (single w) (normal_form is_killed braid m (single w))
word_form_is_normal braid is m w size over = form_is_normal is_killed braid is.field m (killed_is_linear braid is m) (single w) (size, tt) (over, tt)

-- words of a block, of its lower blocks with the letter behind, and of its left lower blocks with the letter in front
pub basis_word : (braid : BraidValue) (m : ℕ) (g w : List ℕ) → Contains (block_basis braid m g) w → (length w ≡ m) × IsWordOver braid.letters w × (is_least is_killed braid w ≡ true) × (has_product braid g w ≡ true)
unfolding block_basis
basis_word braid m g w i =
    let (in_degree, product) = from_filter (has_product braid g) w (basis is_killed braid m) i in
    let (size, over, least) = from_basis is_killed braid m w in_degree in
    (size, over, least, product)

pub right_word : (braid : BraidValue) (m : ℕ) (g : List ℕ) (b : ℕ) → IsLetter braid b → (u : List ℕ) → Contains (lower_basis braid m g b) u → (length (u ++ b ∷ []) ≡ m) × IsWordOver braid.letters (u ++ b ∷ [])
unfolding lower_basis
right_word braid zero g b l u i = absurd (contains_none u i)
right_word braid (suc m) g b l u i =
    let (size, over, least, product) = basis_word braid m (product_before braid b g) u i in
    (pushed_length u b ∙ ap suc size, word_over-append braid.letters u (b ∷ []) over (l, tt))

pub left_word : (braid : BraidValue) (m : ℕ) (g : List ℕ) (a : ℕ) → IsLetter braid a → (v : List ℕ) → Contains (left_lower_basis braid m g a) v → (length (a ∷ v) ≡ m) × IsWordOver braid.letters (a ∷ v)
unfolding left_lower_basis
left_word braid zero g a l v i = absurd (contains_none v i)
left_word braid (suc m) g a l v i =
    let (in_degree, product) = from_filter (λ w. has_product braid g (a ∷ w)) v (basis is_killed braid m) i in
    let (size, over, least) = from_basis is_killed braid m v in_degree in
    (omega (arith, size), (l, over))

-- the words of the lower blocks have room for another letter
pub lower_word_is_short : (braid : BraidValue) (m : ℕ) (g : List ℕ) (b : ℕ) → m ≤ WORD_LIMIT → (u : List ℕ) → Contains (lower_basis braid m g b) u → length u < WORD_LIMIT
unfolding lower_basis
lower_word_is_short braid zero g b most u i = absurd (contains_none u i)
lower_word_is_short braid (suc m) g b most u i = let (size, over, least, product) = basis_word braid m (product_before braid b g) u i in omega (arith, size, most)

pub lower_words_are_short : (braid : BraidValue) (m : ℕ) (g : List ℕ) → m ≤ WORD_LIMIT → AllByRecursion AllShort (map (lower_basis braid m g) (up_to braid.letters))
lower_words_are_short braid m g most =
    all_of_entries AllShort (map (lower_basis braid m g) (up_to braid.letters))
    (λ ws i.
    let (b, j, e) = from_map (lower_basis braid m g) ws (up_to braid.letters) i in
    subst AllShort (sym e) (all_of_entries (λ w. length w < WORD_LIMIT) (lower_basis braid m g b) (lower_word_is_short braid m g b most)))

-- the forms of a rule are combinations in order, of elements of the field
pub record IsElementForm (braid : BraidValue) (f : Combination) : Type 0 where
  pub ordered : IsOrdered f
  pub elements : AllElements braid.field f

-- of a form of a word
form_of_word : (braid : BraidValue) → IsBraid braid → (m : ℕ) (w : List ℕ) (f : Combination) → length w ≡ m → IsWordOver braid.letters w → f ≡ normal_form is_killed braid m (single w) → IsElementForm braid f
form_of_word braid is m w f size over e =
    let n : IsNormalForm is_killed braid m (single w) (normal_form is_killed braid m (single w)) = word_form_is_normal braid is m w size over in
    subst (IsElementForm braid) (sym e) (record { ordered = n.ordered; elements = n.elements })

pub right_form_in_order : (braid : BraidValue) → IsBraid braid → (m : ℕ) (g : List ℕ) (r : PlainRule) → IsRuleOf braid m g r → (b : ℕ) → IsLetter braid b → (k : ℕ) → k < length (lower_basis braid m g b) → IsElementForm braid (get_or (right_in r b) k [])
right_form_in_order braid is m g r e b l k less =
    let (size, over) = right_word braid m g b l (word_at (lower_basis braid m g b) k) (word_at_is_in (lower_basis braid m g b) k less) in
    form_of_word braid is m (word_at (lower_basis braid m g b) k ++ b ∷ []) (get_or (right_in r b) k []) size over (right_form braid m g r e b l k less)

derived_in_order : (braid : BraidValue) → IsBraid braid → (a : ℕ) → IsLetter braid a → (m : ℕ) (w : List ℕ) → length w ≡ m → IsWordOver braid.letters w → IsElementForm braid (derived_form is_killed braid m w a)
unfolding derived_form
derived_in_order braid is a l zero w size over = record { ordered = record { rising = tt; nonzero = tt }; elements = tt }
derived_in_order braid is a l (suc m) w size over =
    let n : IsNormalForm is_killed braid m (skew_derivative braid a (single w)) (derived_form is_killed braid (suc m) w a) = derived_form_is_normal is_killed braid is (killed_is_ideal_from_right braid is) m w a size over l in
    record { ordered = n.ordered; elements = n.elements }

pub derivative_in_order : (braid : BraidValue) → IsBraid braid → (m : ℕ) (g : List ℕ) (r : PlainRule) → r ≡ rule_of braid m g → (a : ℕ) → IsLetter braid a → (k : ℕ) → k < length (block_basis braid m g) → IsElementForm braid (get_or (derivs_in r a) k [])
derivative_in_order braid is m g r e a l k less =
    let (size, over, least, product) = basis_word braid m g (word_at (block_basis braid m g) k) (word_at_is_in (block_basis braid m g) k less) in
    subst (IsElementForm braid) (sym (derivative braid m g r e a l k less)) (derived_in_order braid is a l m (word_at (block_basis braid m g) k) size over)
