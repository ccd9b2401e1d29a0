-- What the laws of an order of the letters say of bases, normal forms, relations and products: those of the braid on ranks, in
-- letters, are the order's own.
use Rattle.std.specs.Prelude.{◌≡◌, ◌↔◌, ℕ, zero, suc, true, List, [], ◌∷◌, ◌++◌, length, map}
use Rattle.std.specs.List.{Contains}
use Rattle.std.specs.declared.cmp.Ordering.TheVariants.{Less}
use Rattle.nichols_tensor.specs.Combination.{Combination, AllElements, AllAmong, AllNonzero, words_of, single, minus}
use Rattle.nichols_tensor.specs.Relation.{PlainRelation}
use Rattle.nichols_tensor.specs.Rising.{IsRisingBy}
use Rattle.nichols_tensor.specs.Words.{up_to, words, IsWordOver, IsOver, HasDegree}
use Rattle.nichols_braid.specs.Braid.{BraidValue, IsBraid, IsLetter}
use Rattle.nichols_braid.specs.Kernel.{is_in_kernel}
use Rattle.nichols_braid.specs.Least.{basis, normal_form, relations}
use Rattle.nichols_braid.specs.Order.{IsOrder, letter_at, renamed_word, in_ranks, in_letters, word_cmp_by, relabelled, product_in_letters}
use Rattle.nichols_braid.specs.OrderLaws.{IsLeastWordBy}
use Rattle.nichols_braid.specs.Product.{product_of}
use Rattle.nichols_braid.specs.Products.{each_once, products}

-- with the order 1 to n, the braid on ranks is the braid itself
abbrev pub PlainOrderChangesNothing : Type 0
PlainOrderChangesNothing = (braid : BraidValue) → IsBraid braid → relabelled (up_to braid.letters) braid ≡ braid

-- the words rise in the order of ranks
abbrev pub IsRisingInOrder : List ℕ → List (List ℕ) → Type 0
IsRisingInOrder order ws = IsRisingBy (λ v w. word_cmp_by order v w ≡ Less) ws

-- ---- bases

-- the basis of degree m of the braid on ranks, in letters
abbrev pub basis_by : List ℕ → BraidValue → ℕ → List (List ℕ)
basis_by order braid m = map (renamed_word (letter_at order)) (basis is_in_kernel (relabelled order braid) m)

-- the word is an entry of it exactly where it is a word of m letters that is least by the order
pub record IsListedIfLeastBy (order : List ℕ) (braid : BraidValue) (m : ℕ) (w : List ℕ) : Type 0 where
  pub listed : length w ≡ m → IsWordOver braid.letters w → IsLeastWordBy is_in_kernel order braid w → Contains (basis_by order braid m) w
  pub degree : Contains (basis_by order braid m) w → length w ≡ m
  pub over : Contains (basis_by order braid m) w → IsWordOver braid.letters w
  pub least : Contains (basis_by order braid m) w → IsLeastWordBy is_in_kernel order braid w

-- it has the words of m letters that are least by the order, each once, rising by the order
abbrev pub BasesAreRelabelled : Type 0
BasesAreRelabelled =
    (braid : BraidValue) → IsBraid braid → (order : List ℕ) → IsOrder braid.letters order → (m : ℕ) →
    IsRisingInOrder order (basis_by order braid m) × ((w : List ℕ) → IsListedIfLeastBy order braid m w)

-- ---- normal forms

-- the normal form in the braid on ranks, in letters
abbrev pub form_by : List ℕ → BraidValue → ℕ → Combination → Combination
form_by order braid m f = in_letters order (normal_form is_in_kernel (relabelled order braid) m (in_ranks order f))

-- g is a combination of words of m letters that are least by the order, rising by it, and one with f in the algebra
pub record IsNormalFormBy (order : List ℕ) (braid : BraidValue) (m : ℕ) (f g : Combination) : Type 0 where
  pub least : AllAmong g (basis_by order braid m)
  pub rising : IsRisingInOrder order (words_of g)
  pub nonzero : AllNonzero g
  pub elements : AllElements braid.field g
  pub congruent : is_in_kernel braid m (minus braid.field f g) ≡ true

-- it is the one normal form by the order
abbrev pub NormalFormsAreRelabelled : Type 0
NormalFormsAreRelabelled =
    (braid : BraidValue) → IsBraid braid → (order : List ℕ) → IsOrder braid.letters order → (m : ℕ) (f : Combination) → HasDegree m f → IsOver braid.letters f →
    IsNormalFormBy order braid m f (form_by order braid m f) × ((g : Combination) → IsNormalFormBy order braid m f g → form_by order braid m f ≡ g)

-- ---- relations

-- the relation of ranks, in letters
abbrev pub relation_in_letters : List ℕ → PlainRelation → PlainRelation
relation_in_letters order r = record { candidate = renamed_word (letter_at order) r.candidate; form = in_letters order r.form }

-- the relations of degree m of the braid on ranks, in letters
abbrev pub relations_by : List ℕ → BraidValue → ℕ → List PlainRelation
relations_by order braid m = map (relation_in_letters order) (relations is_in_kernel (relabelled order braid) m)

-- a word of one letter less that is least by the order, with a letter behind; in degree 0 the empty word
abbrev pub IsCandidateBy : List ℕ → BraidValue → ℕ → List ℕ → Type 0
IsCandidateBy order braid zero w = w ≡ []
IsCandidateBy order braid (suc m) w = (u : List ℕ) × (b : ℕ) × Contains (basis_by order braid m) u × IsLetter braid b × (w ≡ u ++ b ∷ [])

-- a candidate that isn't least by the order, with its normal form by the order
pub record IsRelationBy (order : List ℕ) (braid : BraidValue) (m : ℕ) (r : PlainRelation) : Type 0 where
  pub candidate : IsCandidateBy order braid m r.candidate
  pub other : IsLeastWordBy is_in_kernel order braid r.candidate → ⊥
  pub form : r.form ≡ form_by order braid m (single r.candidate)

-- they are these, with candidates that rise by the order
abbrev pub RelationsAreRelabelled : Type 0
RelationsAreRelabelled =
    (braid : BraidValue) → IsBraid braid → (order : List ℕ) → IsOrder braid.letters order → (m : ℕ) →
    IsRisingInOrder order (map (λ r. r.candidate) (relations_by order braid m)) × ((r : PlainRelation) → Contains (relations_by order braid m) r ↔ IsRelationBy order braid m r)

-- ---- products

-- the words of m letters, rising by the order
abbrev pub words_by : List ℕ → ℕ → ℕ → List (List ℕ)
words_by order n m = map (renamed_word (letter_at order)) (words n m)

abbrev pub WordsAreRelabelled : Type 0
WordsAreRelabelled =
    (n : ℕ) (order : List ℕ) → IsOrder n order → (m : ℕ) → IsRisingInOrder order (words_by order n m) × ((w : List ℕ) → Contains (words_by order n m) w ↔ ((length w ≡ m) × IsWordOver n w))

-- the products of the braid on ranks, each conjugated, are those of the words of m letters, each once, in the order of the first
-- word by the order that has it
abbrev pub ProductsAreRelabelled : Type 0
ProductsAreRelabelled =
    (braid : BraidValue) → IsBraid braid → (order : List ℕ) → IsOrder braid.letters order → (m : ℕ) →
    map (product_in_letters order) (products (relabelled order braid) m) ≡ each_once (map (product_of braid) (words_by order braid.letters m))
