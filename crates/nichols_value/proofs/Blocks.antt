-- The least words of blocks and of their lower blocks, and that normal forms stay in their block.
use Rattle.std.proofs.Common.{◌≡◌, ℕ, zero, suc, ◌<◌, ◌≤◌, true, false, not, List, [], ◌∷◌, ◌++◌, map, length, refl, sym, ◌∙◌, ap, ap₂, subst, arith, nat_eq, eq-eqb}
use Rattle.std.specs.Prelude.{unwrap_or, slice_index, ◌&&◌, ◌-◌}
use Rattle.std.specs.List.{filter, sum_by, AllByRecursion, Contains}
use Rattle.std.specs.Cmp.Lexicographic.{same_text}
use Rattle.std.proofs.lemmas.Bool.{eqb-true, and_parts, not-true}
use Rattle.nichols_field.specs.Field.{negative}
use Rattle.nichols_tensor.specs.Combination.{Term, Combination, AllAmong, same_letters, single, scalar_multiple, minus}
use Rattle.nichols_tensor.specs.Relation.{PlainRelation}
use Rattle.nichols_tensor.specs.Words.{up_to, IsWordOver, IsOver, HasDegree}
use Rattle.nichols_tensor.specs.WordOrder.{IsRising}
use Rattle.nichols_tensor.proofs.Entries.{in_filter, from_filter, in_map, from_map, from_flat_map, any_of, some_of}
use Rattle.nichols_tensor.proofs.Letters.{in_up_to, from_up_to}
use Rattle.nichols_tensor.proofs.Over.{all-weaker, all_at}
use Rattle.nichols_tensor.proofs.Parts.{part-append, part-scalar_multiple, part_of_all, all-part, elements-part, ordered-part}
use Rattle.nichols_tensor.proofs.Rising.{rising-filter}
use Rattle.nichols_tensor.proofs.Tests.{map_same, find_same, all_of_entries}
use Rattle.nichols_tensor.proofs.Values.{same_itself}
use Rattle.nichols_braid.specs.Braid.{BraidValue, IsBraid, IsLetter, act}
use Rattle.nichols_braid.specs.Derivation.{skew_derivative, derived_word}
use Rattle.nichols_braid.specs.Forms.{derived_form}
use Rattle.nichols_braid.specs.Kernel.{is_killed, IsKilled}
use Rattle.nichols_braid.specs.Least.{is_least, basis, normal_form, candidates, relations}
use Rattle.nichols_braid.specs.LeastLaws.{IsNormalForm}
use Rattle.nichols_braid.specs.Product.{product_of, has_product, product_before, product_after, unact, part_of_product}
use Rattle.nichols_braid.specs.Products.{leading, products, rows}
use Rattle.nichols_braid.proofs.BraidLaws.{killed_is_linear}
use Rattle.nichols_braid.proofs.Candidates.{in_candidates}
use Rattle.nichols_braid.proofs.Degrees.{words-append, words-scalar_multiple, derived_degree, derived_over}
use Rattle.nichols_braid.proofs.InlineProducts.{after_a_word, after_before, row_entry}
use Rattle.nichols_braid.proofs.Killed.{is_killed_sound, is_killed_complete}
use Rattle.nichols_braid.proofs.LeastLaws.{normal_forms_are_unique}
use Rattle.nichols_braid.proofs.Degrees.{minus_over}
use Rattle.nichols_braid.proofs.ProductLaws.{product_before_a_letter, products_of_derivatives}
use Rattle.nichols_braid.proofs.ProductListLaws.{leading_letter_is_first, products_are_of_words, rows_by_letters}
use Rattle.nichols_braid.proofs.Reduction.{basis_rises, from_basis}
use Rattle.nichols_braid.proofs.SplitByProduct.{killed_part}
use Rattle.nichols_braid.proofs.Prefixes.{no_entries}
use Rattle.nichols_value.specs.Block.{block_basis, block_relations, lower_basis, has_block, lower_letters}

-- ---- products

pub has_product_is : (braid : BraidValue) (g w : List ℕ) → product_of braid w ≡ g → has_product braid g w ≡ true
has_product_is braid g w e = ap (λ h. same_letters h g) e ∙ same_itself g

pub product_is : (braid : BraidValue) (g w : List ℕ) → has_product braid g w ≡ true → product_of braid w ≡ g
product_is braid g w h = same_text (product_of braid w) g (sym h)

pub has_block_is : (braid : BraidValue) (m : ℕ) (g : List ℕ) → Contains (products braid m) g → has_block braid m g ≡ true
unfolding has_block
has_block_is braid m g i = any_of (same_letters g) g (products braid m) i (same_itself g)

pub block_is : (braid : BraidValue) (m : ℕ) (g : List ℕ) → has_block braid m g ≡ true → Contains (products braid m) g
unfolding has_block
block_is braid m g h = let (x, i, e) = some_of (same_letters g) (products braid m) h in subst (Contains (products braid m)) (sym (same_text g x (sym e))) i

-- ---- the least words of a block

pub in_block_basis : (braid : BraidValue) (m : ℕ) (g w : List ℕ) → Contains (basis is_killed braid m) w → product_of braid w ≡ g → Contains (block_basis braid m g) w
unfolding block_basis
in_block_basis braid m g w i e = in_filter (has_product braid g) w (basis is_killed braid m) i (has_product_is braid g w e)

pub from_block_basis : (braid : BraidValue) (m : ℕ) (g w : List ℕ) → Contains (block_basis braid m g) w → Contains (basis is_killed braid m) w × (product_of braid w ≡ g)
unfolding block_basis
from_block_basis braid m g w i = let (j, h) = from_filter (has_product braid g) w (basis is_killed braid m) i in (j, product_is braid g w h)

pub block_basis_rises : (braid : BraidValue) (m : ℕ) (g : List ℕ) → IsRising (block_basis braid m g)
unfolding block_basis
block_basis_rises braid m g = rising-filter (has_product braid g) (basis is_killed braid m) (basis_rises is_killed braid m)

-- the product of a word of a block's basis is one of its degree
pub block_of_word : (braid : BraidValue) (m : ℕ) (g w : List ℕ) → Contains (block_basis braid m g) w → Contains (products braid m) g
block_of_word braid m g w i =
    let (j, e) = from_block_basis braid m g w i in
    let (size, over, least) = from_basis is_killed braid m w j in
    (products_are_of_words braid m g).1 (w, size, over, e)

-- a product of no word has no least words
pub no_block_basis : (braid : BraidValue) (m : ℕ) (g : List ℕ) → (Contains (products braid m) g → ⊥) → block_basis braid m g ≡ []
no_block_basis braid m g none = no_entries (block_basis braid m g) (λ w i. none (block_of_word braid m g w i))

-- ---- the least words of a lower block

pub lower_basis_is : (braid : BraidValue) (m : ℕ) (g : List ℕ) (b : ℕ) → lower_basis braid (suc m) g b ≡ block_basis braid m (product_before braid b g)
unfolding lower_basis
lower_basis_is braid m g b = refl

pub no_lower_basis : (braid : BraidValue) (g : List ℕ) (b : ℕ) → lower_basis braid 0 g b ≡ []
unfolding lower_basis
no_lower_basis braid g b = refl

-- u has the product before b exactly where `u b` has product g
pub product_before_of : (braid : BraidValue) → IsBraid braid → (g : List ℕ) (b : ℕ) → IsLetter braid b → (u : List ℕ) → IsWordOver braid.letters u → product_of braid (u ++ b ∷ []) ≡ g → product_of braid u ≡ product_before braid b g
product_before_of braid is g b lb u over e = sym (product_before_a_letter braid is u b over lb) ∙ ap (product_before braid b) e

pub product_with_letter : (braid : BraidValue) → IsBraid braid → (g : List ℕ) → length g ≡ braid.letters → (b : ℕ) → IsLetter braid b → (u : List ℕ) → product_of braid u ≡ product_before braid b g → product_of braid (u ++ b ∷ []) ≡ g
product_with_letter braid is g size b lb u e = sym (after_a_word braid is.rack b lb u) ∙ ap (product_after braid b) e ∙ after_before braid is.rack b lb g size

pub in_lower_basis : (braid : BraidValue) → IsBraid braid → (m : ℕ) (g : List ℕ) (b : ℕ) → IsLetter braid b → (u : List ℕ) → Contains (basis is_killed braid m) u → product_of braid (u ++ b ∷ []) ≡ g → Contains (lower_basis braid (suc m) g b) u
in_lower_basis braid is m g b lb u i e =
    let (size, over, least) = from_basis is_killed braid m u i in
    subst (λ ws. Contains ws u) (sym (lower_basis_is braid m g b)) (in_block_basis braid m (product_before braid b g) u i (product_before_of braid is g b lb u over e))

pub from_lower_basis : (braid : BraidValue) → IsBraid braid → (m : ℕ) (g : List ℕ) → length g ≡ braid.letters → (b : ℕ) → IsLetter braid b → (u : List ℕ) → Contains (lower_basis braid (suc m) g b) u →
    Contains (basis is_killed braid m) u × (product_of braid (u ++ b ∷ []) ≡ g)
from_lower_basis braid is m g size b lb u i =
    let (j, e) = from_block_basis braid m (product_before braid b g) u (subst (λ ws. Contains ws u) (lower_basis_is braid m g b) i) in
    (j, product_with_letter braid is g size b lb u e)

pub lower_basis_rises : (braid : BraidValue) (m : ℕ) (g : List ℕ) (b : ℕ) → IsRising (lower_basis braid m g b)
unfolding lower_basis
lower_basis_rises braid zero g b = tt
lower_basis_rises braid (suc m) g b = block_basis_rises braid m (product_before braid b g)

-- ---- letters with one map

-- letters with one map send each letter to one, and a search for a letter finds one
same_image : (braid : BraidValue) (a b : ℕ) → product_of braid (a ∷ []) ≡ product_of braid (b ∷ []) → (c : ℕ) → IsLetter braid c → act braid a c ≡ act braid b c
same_image braid a b e c l =
    let k : ℕ = c - 1 in
    let less : k < braid.letters = omega (arith, l.0, l.1) in
    let back : suc k ≡ c = omega (arith, l.0) in
    ap (act braid a) (sym back) ∙ sym (row_entry braid a k less) ∙ ap (λ row. slice_index row k) e ∙ row_entry braid b k less ∙ ap (act braid b) back

same_search : (braid : BraidValue) (a b : ℕ) → product_of braid (a ∷ []) ≡ product_of braid (b ∷ []) → (j : ℕ) → unact braid a j ≡ unact braid b j
unfolding unact
same_search braid a b e j =
    ap (λ o. unwrap_or o 0)
    (find_same (λ c. nat_eq (act braid a c) j) (λ c. nat_eq (act braid b c) j) (up_to braid.letters) (λ c i. ap (λ n. nat_eq n j) (same_image braid a b e c (from_up_to braid.letters c i))))

-- the product before a letter is that before any letter with the same map
pub product_before_same : (braid : BraidValue) (a b : ℕ) (g : List ℕ) → product_of braid (a ∷ []) ≡ product_of braid (b ∷ []) → product_before braid a g ≡ product_before braid b g
unfolding product_before
product_before_same braid a b g e =
    map_same (λ j. slice_index g (unact braid a j - 1)) (λ j. slice_index g (unact braid b j - 1)) (up_to braid.letters) (λ j i. ap (λ c. slice_index g (c - 1)) (same_search braid a b e j))

-- so is the lower block
pub lower_basis_same : (braid : BraidValue) (m : ℕ) (g : List ℕ) (a b : ℕ) → product_of braid (a ∷ []) ≡ product_of braid (b ∷ []) → lower_basis braid m g a ≡ lower_basis braid m g b
unfolding lower_basis
lower_basis_same braid zero g a b e = refl
lower_basis_same braid (suc m) g a b e = ap (block_basis braid m) (product_before_same braid a b g e)

pub product_before_leading : (braid : BraidValue) (a : ℕ) → IsLetter braid a → (g : List ℕ) → product_before braid (leading braid a) g ≡ product_before braid a g
product_before_leading braid a la g = product_before_same braid (leading braid a) a g (leading_letter_is_first braid a la).1

pub lower_basis_leading : (braid : BraidValue) (m : ℕ) (g : List ℕ) (a : ℕ) → IsLetter braid a → lower_basis braid m g (leading braid a) ≡ lower_basis braid m g a
lower_basis_leading braid m g a la = lower_basis_same braid m g (leading braid a) a (leading_letter_is_first braid a la).1

-- ---- lower letters

pub in_lower_letters : (braid : BraidValue) (m : ℕ) (g : List ℕ) (a : ℕ) → IsLetter braid a → leading braid a ≡ a → Contains (products braid m) (product_before braid a g) → Contains (lower_letters braid (suc m) g) a
unfolding lower_letters
in_lower_letters braid m g a la first there =
    in_filter (λ b. nat_eq (leading braid b) b && has_block braid m (product_before braid b g)) a (up_to braid.letters) (in_up_to braid.letters a la)
    (ap₂ (λ x y. x && y) (eq-eqb (leading braid a) a first) (has_block_is braid m (product_before braid a g) there))

pub from_lower_letters : (braid : BraidValue) (m : ℕ) (g : List ℕ) (a : ℕ) → Contains (lower_letters braid (suc m) g) a → IsLetter braid a × (leading braid a ≡ a) × Contains (products braid m) (product_before braid a g)
unfolding lower_letters
from_lower_letters braid m g a i =
    let (j, h) = from_filter (λ b. nat_eq (leading braid b) b && has_block braid m (product_before braid b g)) a (up_to braid.letters) i in
    let (first, there) = and_parts (nat_eq (leading braid a) a) (has_block braid m (product_before braid a g)) h in
    (from_up_to braid.letters a j, eqb-true (leading braid a) a first, block_is braid m (product_before braid a g) there)

-- the leading letter of a letter is its own leading letter
pub leading_of_leading : (braid : BraidValue) (a : ℕ) → IsLetter braid a → leading braid (leading braid a) ≡ leading braid a
leading_of_leading braid a la =
    let (l, e, first) = leading_letter_is_first braid a la in
    let (l2, e2, first2) = leading_letter_is_first braid (leading braid a) l in
    let down : leading braid (leading braid a) ≤ leading braid a = first2 (leading braid a) l refl in
    let up : leading braid a ≤ leading braid (leading braid a) = first (leading braid (leading braid a)) l2 (e2 ∙ e) in
    omega (arith, down, up)

-- the lower block by a letter that has a least word is that by a lower letter
pub lower_letter_of : (braid : BraidValue) (m : ℕ) (g : List ℕ) (a : ℕ) → IsLetter braid a → (u : List ℕ) → Contains (lower_basis braid (suc m) g a) u → Contains (lower_letters braid (suc m) g) (leading braid a)
lower_letter_of braid m g a la u i =
    in_lower_letters braid m g (leading braid a) (leading_letter_is_first braid a la).0 (leading_of_leading braid a la)
    (subst (Contains (products braid m)) (sym (product_before_leading braid a la g)) (block_of_word braid m (product_before braid a g) u (subst (λ ws. Contains ws u) (lower_basis_is braid m g a) i)))

-- and a letter whose leading letter isn't a lower letter has none
pub no_lower_letter : (braid : BraidValue) (m : ℕ) (g : List ℕ) (a : ℕ) → IsLetter braid a → (Contains (lower_letters braid (suc m) g) (leading braid a) → ⊥) → lower_basis braid (suc m) g a ≡ []
no_lower_letter braid m g a la none = no_entries (lower_basis braid (suc m) g a) (λ u i. none (lower_letter_of braid m g a la u i))

-- ---- normal forms

-- the normal form of a combination of words of one product is of least words of that product
pub normal_form_in_block : (braid : BraidValue) → IsBraid braid → (m : ℕ) (g : List ℕ) (f : Combination) → HasDegree m f → IsOver braid.letters f → AllByRecursion (λ t. product_of braid t.word ≡ g) f →
    AllAmong (normal_form is_killed braid m f) (block_basis braid m g)
unfolding AllAmong
normal_form_in_block braid is m g f degree over same =
    subst (λ h. AllByRecursion (λ t. Contains (block_basis braid m g) t.word) h) (sym itself)
    (all_of_entries (λ (t : Term). Contains (block_basis braid m g) t.word) kept
    (λ t i. let (j, h) = from_filter (λ (u : Term). has_product braid g u.word) t form i in in_block_basis braid m g t.word (all_at (λ (u : Term). Contains (basis is_killed braid m) u.word) form t normal.least j) (product_is braid g t.word h)))
  where
    form : Combination
    form = normal_form is_killed braid m f

    kept : Combination
    kept = part_of_product braid g form

    unique : IsNormalForm is_killed braid m f form × ((h : Combination) → IsNormalForm is_killed braid m f h → form ≡ h)
    unique = normal_forms_are_unique is_killed braid is.field m (killed_is_linear braid is m) f degree over

    normal : IsNormalForm is_killed braid m f form
    normal = unique.0

    form_over : IsOver braid.letters form
    form_over =
        all-weaker (λ (t : Term). Contains (basis is_killed braid m) t.word) (λ (t : Term). IsWordOver braid.letters t.word) (λ t i. let (size, over, least) = from_basis is_killed braid m t.word i in over) form normal.least

    difference : part_of_product braid g (minus braid.field f form) ≡ minus braid.field f kept
    difference =
        part-append (has_product braid g) f (scalar_multiple braid.field (negative braid.field 1) form)
        ∙ ap₂ (λ x y. x ++ y) (part_of_all (has_product braid g) f (all-weaker (λ (t : Term). product_of braid t.word ≡ g) (λ (t : Term). has_product braid g t.word ≡ true) (λ t e. has_product_is braid g t.word e) f same))
        (part-scalar_multiple braid.field (has_product braid g) (negative braid.field 1) form)

    itself : form ≡ kept
    itself = unique.1 kept (record {
      least = all-part (λ (t : Term). Contains (basis is_killed braid m) t.word) (has_product braid g) form normal.least;
      ordered = ordered-part (has_product braid g) form normal.ordered;
      elements = elements-part braid.field (has_product braid g) form normal.elements;
      congruent = is_killed_complete braid m (minus braid.field f kept)
          (subst (λ h. IsKilled braid m h) difference
          (killed_part braid is.field is.rack m (minus braid.field f form) (minus_over braid.field braid.letters f form over form_over) (is_killed_sound braid is.field m (minus braid.field f form) normal.congruent) g));
    })

-- the normal form of a word is of least words of its product
pub normal_in_block : (braid : BraidValue) → IsBraid braid → (m : ℕ) (g w : List ℕ) → length w ≡ m → IsWordOver braid.letters w → product_of braid w ≡ g → AllAmong (normal_form is_killed braid m (single w)) (block_basis braid m g)
normal_in_block braid is m g w size over e = normal_form_in_block braid is m g (single w) (size, tt) (over, tt) (e, tt)

-- the derivative by a letter has words of the lower block by it
pub derivative_products : (braid : BraidValue) → IsBraid braid → (a : ℕ) → IsLetter braid a → (w : List ℕ) → IsWordOver braid.letters w → AllByRecursion (λ t. product_of braid t.word ≡ product_before braid a (product_of braid w)) (skew_derivative braid a (single w))
derivative_products braid is a la w over =
    words-append (λ v. product_of braid v ≡ product_before braid a (product_of braid w)) (scalar_multiple braid.field 1 (derived_word braid a w)) []
    (words-scalar_multiple (λ v. product_of braid v ≡ product_before braid a (product_of braid w)) braid.field 1 (derived_word braid a w) (products_of_derivatives braid is a w la over)) tt

-- and so has its normal form
pub derived_in_block : (braid : BraidValue) → IsBraid braid → (m : ℕ) (g w : List ℕ) → length w ≡ m → IsWordOver braid.letters w → product_of braid w ≡ g → (a : ℕ) → IsLetter braid a → AllAmong (derived_form is_killed braid m w a) (lower_basis braid m g a)
unfolding derived_form lower_basis AllAmong
derived_in_block braid is zero g w size over e a la = tt
derived_in_block braid is (suc m) g w size over e a la =
    normal_form_in_block braid is m (product_before braid a g) (skew_derivative braid a (single w)) (derived_degree braid a m (single w) (size, tt)) (derived_over braid is.rack a la (single w) (over, tt))
    (subst (λ h. AllByRecursion (λ (t : Term). product_of braid t.word ≡ product_before braid a h) (skew_derivative braid a (single w))) e (derivative_products braid is a la w over))

-- ---- candidates

pub in_block_candidates : (braid : BraidValue) → IsBraid braid → (m : ℕ) (g : List ℕ) → length g ≡ braid.letters → (b : ℕ) → IsLetter braid b → (u : List ℕ) → Contains (lower_basis braid (suc m) g b) u →
    Contains (candidates is_killed braid (suc m)) (u ++ b ∷ []) × (product_of braid (u ++ b ∷ []) ≡ g)
in_block_candidates braid is m g size b lb u i =
    let (j, e) = from_lower_basis braid is m g size b lb u i in (in_candidates is_killed braid m u b j lb, e)

-- a candidate of a block is a least word of the lower block by its last letter, with that letter
pub from_block_candidates : (braid : BraidValue) → IsBraid braid → (m : ℕ) (g w : List ℕ) → Contains (candidates is_killed braid (suc m)) w → product_of braid w ≡ g →
    (u : List ℕ) × (b : ℕ) × IsLetter braid b × Contains (lower_basis braid (suc m) g b) u × (w ≡ u ++ b ∷ [])
unfolding candidates
from_block_candidates braid is m g w i e =
    let (u, j, k) = from_flat_map (λ v. map (λ b. v ++ b ∷ []) (up_to braid.letters)) w (basis is_killed braid m) i in
    let (b, l, same) = from_map (λ b. u ++ b ∷ []) w (up_to braid.letters) k in
    let lb : IsLetter braid b = from_up_to braid.letters b l in
    (u, b, lb, in_lower_basis braid is m g b lb u j (ap (product_of braid) (sym same) ∙ e), same)

-- the rows of a block are its candidates, by their last letters
pub block_rows : (braid : BraidValue) → IsBraid braid → (m : ℕ) (g : List ℕ) → length g ≡ braid.letters → rows is_killed braid (suc m) g ≡ sum_by (λ b. length (lower_basis braid (suc m) g b)) (up_to braid.letters)
unfolding lower_basis block_basis
block_rows braid is m g size = rows_by_letters is_killed braid is m g size

-- ---- relations

-- the relation of a candidate
abbrev pub relation_of : BraidValue → ℕ → List ℕ → PlainRelation
relation_of braid m w = record { candidate = w; form = normal_form is_killed braid m (single w) }

pub in_block_relations : (braid : BraidValue) (m : ℕ) (g w : List ℕ) → Contains (candidates is_killed braid m) w → product_of braid w ≡ g → is_least is_killed braid w ≡ false → Contains (block_relations braid m g) (relation_of braid m w)
unfolding block_relations relations
in_block_relations braid m g w i e least =
    in_filter (λ (r : PlainRelation). has_product braid g r.candidate) (relation_of braid m w) (relations is_killed braid m)
    (in_map (relation_of braid m) w (filter (λ v. not (is_least is_killed braid v)) (candidates is_killed braid m)) (in_filter (λ v. not (is_least is_killed braid v)) w (candidates is_killed braid m) i (ap not least)))
    (has_product_is braid g w e)

pub from_block_relations : (braid : BraidValue) (m : ℕ) (g : List ℕ) (r : PlainRelation) → Contains (block_relations braid m g) r →
    Contains (candidates is_killed braid m) r.candidate × (product_of braid r.candidate ≡ g) × (is_least is_killed braid r.candidate ≡ false) × (r ≡ relation_of braid m r.candidate)
unfolding block_relations relations
from_block_relations braid m g r i =
    let (j, h) = from_filter (λ (s : PlainRelation). has_product braid g s.candidate) r (relations is_killed braid m) i in
    let (w, k, e) = from_map (relation_of braid m) r (filter (λ v. not (is_least is_killed braid v)) (candidates is_killed braid m)) j in
    let (there, not_least) = from_filter (λ v. not (is_least is_killed braid v)) w (candidates is_killed braid m) k in
    let same : r.candidate ≡ w = ap (λ (s : PlainRelation). s.candidate) e in (
      subst (Contains (candidates is_killed braid m)) (sym same) there,
      product_is braid g r.candidate h,
      ap (is_least is_killed braid) same ∙ not-true (is_least is_killed braid w) not_least,
      e ∙ ap (relation_of braid m) (sym same),
    )
