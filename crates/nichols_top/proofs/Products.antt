-- The products of expressions, by the symmetrizer.
use Rattle.std.proofs.Common.{◌≡◌, ℕ, zero, suc, ◌+◌, ◌<◌, Bool, true, false, cond, List, ◌∷◌, length, map, take, refl, ◌∙◌, ap, arith, nat_lt, Some, None}
use Rattle.std.specs.List.{AllByRecursion, list_any, range_with_len}
use Rattle.std.specs.Prelude.{◌&&◌, not, Option}
use Rattle.std.proofs.lemmas.List.FromFn.{length-map-range_with_len}
use Rattle.nichols_tensor.specs.Combination.{Combination, is_zero}
use Rattle.nichols_tensor.specs.Product.{product_of}
use Rattle.nichols_tensor.specs.Words.{IsOver}
use Rattle.nichols_tensor.proofs.Tests.{map_same}
use Rattle.nichols_braid.specs.Kernel.{is_in_kernel, is_killed}
use Rattle.nichols_braid.specs.WholeForm.{normal_form_by_parts}
use Rattle.nichols_graded.specs.Graded.{GradedValue, IsGraded}
use Rattle.nichols_graded.specs.declared.ends.Stop.{Stop}
use Rattle.nichols_product.specs.Degrees.{degree_of_product}
use Rattle.nichols_product.specs.Products.{is_product_beyond, normal_of_product, products_of}
use Rattle.nichols_product.proofs.AnsweredProducts.{over_take}
use Rattle.nichols_product.proofs.RunningProducts.{beyond_closed, product_of_over}
use Rattle.nichols_reduce.specs.declared.answer.Normal.TheVariants.{Form, Beyond}
use Rattle.nichols_reduce.proofs.ReduceLaws.{forms_have_one_reading}
use Rattle.nichols_top.specs.Ended.{HasEnd}
use Rattle.nichols_top.specs.NormalLine.{normal_line, normal_piece}
use Rattle.nichols_top.specs.Product.{first_product_due, is_product_beyond_stop}
use Rattle.nichols_top.specs.ProductLines.{product_line, product_beyond_line}
use Rattle.nichols_top.specs.Report.{Piece, numbered_pieces, piece}
use Rattle.nichols_top.specs.declared.normals.Told.TheVariants.{Products}
use Rattle.nichols_top.proofs.EndLines.{closed_is_empty, stopped_is_filled}
use Rattle.nichols_top.proofs.Expressions.{products_at}
use Rattle.nichols_top.proofs.Forms.{empty_alike}
use Rattle.nichols_top.proofs.Tables.{no_least_word}

product_beyond_is : (g : GradedValue) (stop : Option Stop) (fs : List Combination) → IsGraded g → HasEnd g stop → is_product_beyond g.braid g.last fs ≡ is_product_beyond_stop g.braid.field stop g.last fs
unfolding is_product_beyond
product_beyond_is g None fs is reached = beyond_closed g.braid g.last fs (no_least_word g.braid is.braid g.last (closed_is_empty g is reached))
product_beyond_is g (Some stop) fs is reached =
    ap (λ b. not (list_any (is_zero g.braid.field) fs) && nat_lt g.last (degree_of_product fs) && not b) (empty_alike g.braid is.braid g.last ∙ (stopped_is_filled g stop is reached).filled)
    ∙ at (not (list_any (is_zero g.braid.field) fs)) (nat_lt g.last (degree_of_product fs))
  where
    at : (a b : Bool) → (a && b && true) ≡ (a && b)
    at true true = refl
    at true false = refl
    at false true = refl
    at false false = refl

-- the piece of what is answered of the product of the first k factors
first_product_is : (g : GradedValue) (order : List ℕ) (stop : Option Stop) (fs : List Combination) (k : ℕ) → IsGraded g → HasEnd g stop → AllByRecursion (IsOver g.braid.letters) fs →
    normal_piece Products g.braid.field order k (normal_of_product g.braid g.last (take k fs)) ≡ first_product_due g.braid order stop g.last fs k
unfolding normal_of_product first_product_due
first_product_is g order stop fs k is reached over =
    ap (λ b. normal_piece Products g.braid.field order k (cond b (Beyond g.last) (Form (normal_form_by_parts is_killed g.braid (product_of g.braid.field (take k fs)))))) (product_beyond_is g stop (take k fs) is reached)
    ∙ ap (λ t. piece t None) (at (is_product_beyond_stop g.braid.field stop g.last (take k fs)))
  where
    at : (b : Bool) → normal_line Products g.braid.field order k (cond b (Beyond g.last) (Form (normal_form_by_parts is_killed g.braid (product_of g.braid.field (take k fs)))))
        ≡ cond b (product_beyond_line k g.last) (product_line g.braid.field order k (normal_form_by_parts is_in_kernel g.braid (product_of g.braid.field (take k fs))))
    at true = refl
    at false = ap (product_line g.braid.field order k) (forms_have_one_reading g.braid is.braid (product_of g.braid.field (take k fs)) (product_of_over g.braid.field g.braid.letters (take k fs) (over_take g.braid.letters k fs over)))

-- numbered pieces of what a map gives at the numbers from k on
numbered_at : {X : Type 0} (f : ℕ → X → Piece) (x : ℕ → X) (k n : ℕ) → numbered_pieces f k (map x (range_with_len k n)) ≡ map (λ j. f j (x j)) (range_with_len k n)
numbered_at f x k zero = refl
numbered_at f x k (suc n) =
    let next : suc k ≡ k + 1 = omega arith in
    ap (λ ps. f k (x k) ∷ ps) (ap (λ m. numbered_pieces f m (map x (range_with_len (k + 1) n))) next ∙ numbered_at f x (k + 1) n)

-- the pieces of what is answered of products
pub product_pieces_are : (g : GradedValue) (order : List ℕ) (stop : Option Stop) (fs : List Combination) → IsGraded g → HasEnd g stop → AllByRecursion (IsOver g.braid.letters) fs →
    numbered_pieces (normal_piece Products g.braid.field order) 1 (products_of g.braid g.last fs) ≡ products_at g.braid order stop g.last fs
unfolding products_of
product_pieces_are g order stop fs is reached over =
    numbered_at (normal_piece Products g.braid.field order) (λ k. normal_of_product g.braid g.last (take k fs)) 1 (length fs)
    ∙ map_same (λ k. normal_piece Products g.braid.field order k (normal_of_product g.braid g.last (take k fs))) (first_product_due g.braid order stop g.last fs) (range_with_len 1 (length fs)) (λ k i. first_product_is g order stop fs k is reached over)

-- there is a piece where there is a factor
pub some_first_product : (g : GradedValue) (order : List ℕ) (stop : Option Stop) (fs : List Combination) → 0 < length fs → 0 < length (products_at g.braid order stop g.last fs)
some_first_product g order stop fs some = let count = length-map-range_with_len (first_product_due g.braid order stop g.last fs) 1 (length fs) in omega (arith, count, some)
