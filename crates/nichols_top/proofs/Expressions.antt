-- Reports of expressions, from their pieces as they are put.
use Rattle.std.proofs.Common.{◌≡◌, ℕ, ◌-◌, List, [], ◌∷◌, length, map, refl, ◌∙◌, ap, subst, arith, Some, None, Ok, Err}
use Rattle.std.specs.Prelude.{Option, Result}
use Rattle.std.specs.List.{range_with_len}
use Rattle.nichols_tensor.specs.Combination.{Combination}
use Rattle.nichols_braid.specs.Braid.{BraidValue}
use Rattle.nichols_graded.specs.Graded.{GradedValue}
use Rattle.nichols_graded.specs.declared.ends.Stop.{Stop}
use Rattle.nichols_input.specs.Document.{DocumentValue}
use Rattle.nichols_text.specs.Pieces.{symmetrize_piece}
use Rattle.nichols_text.specs.Refusals.{long_expression_text}
use Rattle.nichols_top.specs.Algebra.{Scope, degrees_in, stop_in, pieces_due, status_of}
use Rattle.nichols_top.specs.Ended.{IsEnded}
use Rattle.nichols_top.specs.Product.{first_product_due, first_products_due, product_due}
use Rattle.nichols_top.specs.Reduce.{form_due, forms_due, reduce_due}
use Rattle.nichols_top.specs.Report.{Piece, piece, numbered_pieces, line_report}
use Rattle.nichols_top.specs.Symmetrize.{first_long, image_due, images_due, unless_long, symmetrize_due}
use Rattle.nichols_top.specs.Written.{Written, Takes, BreaksIn, Writes}
use Rattle.nichols_top.specs.declared.status.Status.{Status}
use Rattle.nichols_top.specs.declared.status.Status.TheVariants.{Complete, Refused}
use Rattle.nichols_top.specs.declared.writer.Break.{Break}
use Rattle.nichols_top.proofs.Taking.{takes_more, breaks_first, breaks_more}

-- ---- normal forms

-- the forms that are due, by the algebra whose end was reached
forms_are : (document : DocumentValue) (scope : Scope) (g : GradedValue) (stop : Option Stop) → IsEnded document.braid scope g stop → numbered_pieces (form_due g.braid document.order stop g.last) 1 document.expressions ≡ forms_due document scope
forms_are document scope g stop is =
    let last : g.last ≡ length (degrees_in document.braid scope) - 1 = let e = is.counted in omega (arith, e) in
    ap (λ b. numbered_pieces (form_due b document.order stop g.last) 1 document.expressions) is.braid_is ∙ ap (λ e. numbered_pieces (form_due document.braid document.order e g.last) 1 document.expressions) is.stop_is
    ∙ ap (λ n. numbered_pieces (form_due document.braid document.order (stop_in document.braid scope) n) 1 document.expressions) last

-- where the algebra breaks off
pub reduce_first : (document : DocumentValue) (scope : Scope) {start now : Written} {cause : Break} → BreaksIn (pieces_due document.braid document.order scope) start now cause → Writes (reduce_due document scope) start now (Err cause)
unfolding reduce_due
reduce_first document scope t = breaks_first (forms_due document scope) t

-- where the forms break off
pub reduce_breaks : (document : DocumentValue) (scope : Scope) (g : GradedValue) (stop : Option Stop) {start mid now : Written} {cause : Break} → IsEnded document.braid scope g stop → Takes (pieces_due document.braid document.order scope) start mid →
    BreaksIn (numbered_pieces (form_due g.braid document.order stop g.last) 1 document.expressions) mid now cause → Writes (reduce_due document scope) start now (Err cause)
unfolding reduce_due
reduce_breaks document scope g stop {start} {mid} {now} {cause} is before t = breaks_more before (subst (λ ps. BreaksIn ps mid now cause) (forms_are document scope g stop is) t)

pub reduce_whole : (document : DocumentValue) (scope : Scope) (g : GradedValue) (stop : Option Stop) {start mid now : Written} (status : Status) → IsEnded document.braid scope g stop → status ≡ status_of stop → Takes (pieces_due document.braid document.order scope) start mid →
    Takes (numbered_pieces (form_due g.braid document.order stop g.last) 1 document.expressions) mid now → Writes (reduce_due document scope) start now (Ok status)
unfolding reduce_due
reduce_whole document scope g stop {start} {mid} {now} status is s before t = (s ∙ ap status_of is.stop_is, takes_more before (subst (λ ps. Takes ps mid now) (forms_are document scope g stop is) t))

-- ---- products

-- the products of the first factor, of the first two, and so on
abbrev pub products_at : BraidValue → List ℕ → Option Stop → ℕ → List Combination → List Piece
products_at braid order stop last fs = map (first_product_due braid order stop last fs) (range_with_len 1 (length fs))

-- the products that are due, by the algebra whose end was reached
products_are : (document : DocumentValue) (scope : Scope) (g : GradedValue) (stop : Option Stop) → IsEnded document.braid scope g stop → products_at g.braid document.order stop g.last document.expressions ≡ first_products_due document scope
products_are document scope g stop is =
    let last : g.last ≡ length (degrees_in document.braid scope) - 1 = let e = is.counted in omega (arith, e) in
    ap (λ b. products_at b document.order stop g.last document.expressions) is.braid_is ∙ ap (λ e. products_at document.braid document.order e g.last document.expressions) is.stop_is
    ∙ ap (λ n. products_at document.braid document.order (stop_in document.braid scope) n document.expressions) last

-- where the algebra breaks off
pub product_first : (document : DocumentValue) (scope : Scope) {start now : Written} {cause : Break} → BreaksIn (pieces_due document.braid document.order scope) start now cause → Writes (product_due document scope) start now (Err cause)
unfolding product_due
product_first document scope t = breaks_first (first_products_due document scope) t

-- where the products break off
pub product_breaks : (document : DocumentValue) (scope : Scope) (g : GradedValue) (stop : Option Stop) {start mid now : Written} {cause : Break} → IsEnded document.braid scope g stop → Takes (pieces_due document.braid document.order scope) start mid →
    BreaksIn (products_at g.braid document.order stop g.last document.expressions) mid now cause → Writes (product_due document scope) start now (Err cause)
unfolding product_due
product_breaks document scope g stop {start} {mid} {now} {cause} is before t = breaks_more before (subst (λ ps. BreaksIn ps mid now cause) (products_are document scope g stop is) t)

pub product_whole : (document : DocumentValue) (scope : Scope) (g : GradedValue) (stop : Option Stop) {start mid now : Written} (status : Status) → IsEnded document.braid scope g stop → status ≡ status_of stop → Takes (pieces_due document.braid document.order scope) start mid →
    Takes (products_at g.braid document.order stop g.last document.expressions) mid now → Writes (product_due document scope) start now (Ok status)
unfolding product_due
product_whole document scope g stop {start} {mid} {now} status is answer before t =
    (answer ∙ ap status_of is.stop_is, takes_more before (subst (λ ps. Takes ps mid now) (products_are document scope g stop is) t))

-- ---- images

-- an expression is too long
pub long_written : (document : DocumentValue) (k : ℕ) (start now : Written) (answer : Result Status Break) → Some k ≡ first_long 1 document.expressions → Writes (line_report (long_expression_text k) Refused) start now answer → Writes (symmetrize_due document) start now answer
unfolding symmetrize_due
long_written document k start now answer e w = subst (λ o. Writes (unless_long o (images_due document)) start now answer) e w

-- none is
images_written : (document : DocumentValue) (start now : Written) (answer : Result Status Break) → None ≡ first_long 1 document.expressions → Writes (images_due document) start now answer → Writes (symmetrize_due document) start now answer
unfolding symmetrize_due
images_written document start now answer e w = subst (λ o. Writes (unless_long o (images_due document)) start now answer) e w

pub images_first : (document : DocumentValue) {start now : Written} {cause : Break} → None ≡ first_long 1 document.expressions → BreaksIn (piece (symmetrize_piece document.braid document.order) None ∷ []) start now cause → Writes (symmetrize_due document) start now (Err cause)
images_first document {start} {now} {cause} e t = images_written document start now (Err cause) e (breaks_first (numbered_pieces (image_due document.braid document.order) 1 document.expressions) t)

pub images_break : (document : DocumentValue) {start mid now : Written} {cause : Break} → None ≡ first_long 1 document.expressions → Takes (piece (symmetrize_piece document.braid document.order) None ∷ []) start mid → BreaksIn (numbered_pieces (image_due document.braid document.order) 1 document.expressions) mid now cause →
    Writes (symmetrize_due document) start now (Err cause)
images_break document {start} {mid} {now} {cause} e before t = images_written document start now (Err cause) e (breaks_more before t)

pub images_whole : (document : DocumentValue) {start mid now : Written} → None ≡ first_long 1 document.expressions → Takes (piece (symmetrize_piece document.braid document.order) None ∷ []) start mid → Takes (numbered_pieces (image_due document.braid document.order) 1 document.expressions) mid now →
    Writes (symmetrize_due document) start now (Ok Complete)
images_whole document {start} {mid} {now} e before t = images_written document start now (Ok Complete) e (refl, takes_more before t)
