use Rattle.std.proofs.Common.{◌≡◌, ◌+◌, ◌++◌, ◌∙◌, ap, ap₂, refl, sym, subst, length, arith}
use Rattle.nichols_tensor.specs.Words.{IsWordOver}
use Rattle.nichols_tensor.specs.Combination.{Combination, HasSameValues, Term, scalar_multiple}
use Rattle.nichols_braid.specs.Braid.{IsBraid}
use Rattle.nichols_braid.specs.Kernel.{is_killed}
use Rattle.nichols_braid.specs.WholeForm.{normal_form_by_parts}
use Rattle.nichols_value.specs.Block.{block_basis}
use Rattle.nichols_reduce.specs.Forms.{followed_by_word}
use Rattle.nichols_reduce.specs.Sums.{combination_of}
use Rattle.nichols_product.specs.Parts.{element_of, total}
use Rattle.nichols_product.proofs.PartProducts.{element_followed, followed_there, term_added}
use Rattle.nichols_product.proofs.factors.add_term.Goals as goal

pub add_form-requires-clause-there : goal.add_form-requires-clause-there
add_form-requires-clause-there c =
    followed_there c.args.levels.now.braid c.args.part.now.degree c.args.part.now.product c.in_ok-product.product c.term.inside.word c.letters-letters.result.now (c.args.part.now.degree + length c.letters-letters.result.now)
    c.requires.part.there (subst (λ (t : Term). IsWordOver c.args.levels.now.braid.letters t.word) (sym c.term.view_is) c.requires.letters) c.letters-letters.ensures.same refl c.in_ok-product.ensures.product

pub returns-clause-within : goal.returns-clause-within
returns-clause-within c n less =
    let size : length c.letters-letters.result.now ≡ length c.args.term.now.word = ap length c.letters-letters.ensures.same ∙ ap (λ (t : Term). length t.word) c.term.view_is in
    c.in_ok-add_form.ensures.within n (omega (arith, size, less))

pub returns-clause-values : goal.returns-clause-values
returns-clause-values c =
    let is : IsBraid c.args.levels.now.braid = subst IsBraid c.braid.ensures c.field-field.ensures.braid in
    let word : c.letters-letters.result.now ≡ c.args.term.now.word = c.letters-letters.ensures.same ∙ ap (λ (t : Term). t.word) c.term.view_is in
    let found : Combination = combination_of c.args.levels.now.braid.field (block_basis c.args.levels.now.braid (c.args.part.now.degree + length c.letters-letters.result.now) c.in_ok-product.product) c.as_slice-2.result.now in
    term_added c.args.levels.now.braid is.field c.args.term.now.coefficient c.args.parts.now.items c.add_form.new.parts.items found (normal_form_by_parts is_killed c.args.levels.now.braid (followed_by_word (element_of c.args.levels.now.braid c.args.part.now) c.args.term.now.word))
    (subst (λ n. HasSameValues c.args.levels.now.braid.field (total c.args.levels.now.braid c.add_form.new.parts.items) (total c.args.levels.now.braid c.args.parts.now.items ++ scalar_multiple c.args.levels.now.braid.field n found)) (ap (λ (t : Term). t.coefficient) c.term.view_is) c.in_ok-add_form.ensures.values)
    (subst (λ xs. HasSameValues c.args.levels.now.braid.field (combination_of c.args.levels.now.braid.field (block_basis c.args.levels.now.braid (c.args.part.now.degree + length c.letters-letters.result.now) c.in_ok-product.product) xs) (normal_form_by_parts is_killed c.args.levels.now.braid (followed_by_word (element_of c.args.levels.now.braid c.args.part.now) c.args.term.now.word))) (sym c.as_slice-2.ensures.value)
    (element_followed c.args.levels.now.braid is c.args.part.now.degree c.args.part.now.product c.args.part.now.sums.items c.extend_from_slice.new.self.items c.letters-letters.result.now c.args.term.now.word (c.args.part.now.degree + length c.letters-letters.result.now) c.in_ok-product.product c.follow.new.form.items
    c.requires.part.width (c.in_ok-extend_from_slice.ensures.items ∙ ap₂ (λ xs ys. xs ++ ys) c.clear.ensures.items c.as_slice.ensures.value) word c.requires.letters refl c.in_ok-product.ensures.form))
