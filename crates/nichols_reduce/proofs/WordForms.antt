-- The empty word and its normal form; the blocks of words.
use Rattle.std.proofs.Common.{◌≡◌, ℕ, ◌+◌, cond, filter, List, [], ◌∷◌, ◌++◌, length, sym, ◌∙◌, ap, ap₂, subst, ◌≤◌, ◌-◌, take, drop, refl, arith}
use Rattle.std.specs.List.{Contains}
use Rattle.std.proofs.lemmas.List.{length-append, length-take-le, take-append-drop}
use Rattle.std.proofs.Math.Seq.{take-append-add}
use Rattle.nichols_field.proofs.Pending.{settled_one}
use Rattle.nichols_tensor.specs.Combination.{value_at, single}
use Rattle.nichols_tensor.specs.Words.{IsWordOver}
use Rattle.nichols_tensor.proofs.Entries.{contains_first}
use Rattle.nichols_tensor.proofs.Values.{same_itself}
use Rattle.nichols_tensor.proofs.Over.{word_over-take}
use Rattle.nichols_braid.specs.Braid.{BraidValue, IsBraid}
use Rattle.nichols_braid.specs.Kernel.{is_killed}
use Rattle.nichols_braid.specs.Product.{product_of}
use Rattle.nichols_braid.specs.Products.{products}
use Rattle.nichols_braid.proofs.BraidLaws.{killed_is_linear}
use Rattle.nichols_braid.proofs.FirstDegree.{basis_first}
use Rattle.nichols_braid.proofs.NormalForms.{form_of_least}
use Rattle.nichols_braid.proofs.ProductListLaws.{products_are_of_words}
use Rattle.nichols_value.specs.Block.{block_basis}
use Rattle.nichols_value.specs.Rule.{IsRuleOf, PlainRule}
use Rattle.nichols_value.proofs.RuleEntries.{basis_is}
use Rattle.nichols_reduce.specs.Sums.{combination_of}
use Rattle.nichols_reduce.specs.Forms.{AreFollowed, AreSumsOf, IsFormOf}

-- ---- the empty word

-- its block has no other least word
first_block : (braid : BraidValue) → IsBraid braid → block_basis braid 0 (product_of braid []) ≡ [] ∷ []
unfolding block_basis
first_block braid is = ap (filter _) (basis_first braid is.field) ∙ ap (λ b. cond b ([] ∷ []) []) (same_itself (product_of braid []))

-- its form: 1 at its only least word
pub first_form : (braid : BraidValue) → IsBraid braid → (sums : List ℕ) → sums ≡ 1 ∷ [] → IsFormOf braid [] sums
unfolding combination_of
first_form braid is sums e = record {
  width = ap length e ∙ sym (ap length (first_block braid is));
  values = λ v.
      ap₂ (λ ws ns. value_at braid.field (combination_of braid.field ws ns) v) (first_block braid is) e
      ∙ ap (λ n. value_at braid.field (record { word = []; coefficient = n } ∷ []) v) (settled_one braid.field is.field)
      ∙ ap (λ f. value_at braid.field f v) (sym (form_of_least is_killed braid is.field 0 (killed_is_linear braid is 0) [] (subst (λ ws. Contains ws []) (sym (basis_first braid is.field)) (contains_first [] []))));
}

-- ---- a word behind a word

pub form_of_both : (braid : BraidValue) (u w g h old new : List ℕ) (m n : ℕ) → IsWordOver braid.letters u → m ≡ length u → g ≡ product_of braid u → n ≡ m + length w → h ≡ product_of braid (u ++ w) → IsFormOf braid u old → AreFollowed braid m g old w n h new → IsFormOf braid (u ++ w) new
form_of_both braid u w g h old new m n over size product whole whole_product e followed =
    subst (λ i. AreSumsOf braid (length (u ++ w)) i (single (u ++ w)) new) whole_product
    (subst (λ d. AreSumsOf braid d h (single (u ++ w)) new) (whole ∙ ap (λ d. d + length w) size ∙ sym (length-append u w))
    (followed.sums (single u) (sym size, tt) (over, tt) (subst (λ x. AreSumsOf braid m x (single u) old) (sym product) (subst (λ d. AreSumsOf braid d (product_of braid u) (single u) old) (sym size) e))))

-- the first j letters of a word are the first i, and those from there
parts_of_prefix : (w : List ℕ) (i j : ℕ) → i ≤ j → j ≤ length w → take j w ≡ take i w ++ take (j - i) (drop i w)
parts_of_prefix w i j less within =
    let size : length (take i w) ≡ i = length-take-le i w (omega arith) in
    ap₂ take (let e : j ≡ length (take i w) + (j - i) = omega (arith, size, less) in e) (sym (take-append-drop i w)) ∙ take-append-add (take i w) (drop i w) (j - i)

-- the normal form of the first j letters of a word, and their product
pub record IsFormOfPrefix (braid : BraidValue) (w : List ℕ) (j : ℕ) (h sums : List ℕ) : Type 0 where
  pub product : h ≡ product_of braid (take j w)
  pub form : IsFormOf braid (take j w) sums

pub longer_prefix : (braid : BraidValue) (w letters piece g h old new : List ℕ) (i j : ℕ) → IsWordOver braid.letters w → letters ≡ w → i ≤ j → j ≤ length w → piece ≡ take (j - i) (drop i letters) → g ≡ product_of braid (take i w) → IsFormOf braid (take i w) old →
    ((u : List ℕ) → g ≡ product_of braid u → h ≡ product_of braid (u ++ piece)) → AreFollowed braid i g old piece (i + length piece) h new → IsFormOfPrefix braid w j h new
longer_prefix braid w letters piece g h old new i j over own less within piece_is product e longer followed =
    let size : i ≡ length (take i w) = sym (length-take-le i w (omega arith)) in
    let whole : take i w ++ piece ≡ take j w = ap (λ x. take i w ++ x) (piece_is ∙ ap (λ x. take (j - i) (drop i x)) own) ∙ sym (parts_of_prefix w i j less within) in
    record {
      product = longer (take i w) product ∙ ap (product_of braid) whole;
      form = subst (λ x. IsFormOf braid x new) whole
          (form_of_both braid (take i w) piece g h old new i (i + length piece) (word_over-take braid.letters i w over) size product refl (longer (take i w) product) e followed);
    }

-- ---- words of a length

pub word_product : (braid : BraidValue) (w g : List ℕ) (d : ℕ) → IsWordOver braid.letters w → d ≡ length w → g ≡ product_of braid w → Contains (products braid d) g
word_product braid w g d over size e = (products_are_of_words braid d g).1 (w, sym size, over, sym e)

-- the block of a whole word
pub words_of_rule : (braid : BraidValue) (w : List ℕ) (d : ℕ) (g : List ℕ) (r : PlainRule) → d ≡ length w → g ≡ product_of braid w → IsRuleOf braid d g r → r.basis ≡ block_basis braid (length w) (product_of braid w)
words_of_rule braid w d g r size e h = basis_is braid d g r h ∙ ap₂ (block_basis braid) size e
