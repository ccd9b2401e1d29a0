use Rattle.std.proofs.Common.{◌≡◌, ◌<◌, ◌++◌, ◌∙◌, ap, refl, sym, subst, length, get_or}
use Rattle.std.specs.Vec.{with_items}
use Rattle.std.proofs.lemmas.List.{with_items_is}
use Rattle.nichols_tensor.specs.Combination.{HasSameValues, scalar_multiple}
use Rattle.nichols_braid.specs.Braid.{IsBraid}
use Rattle.nichols_reduce.specs.Sums.{HasGrownBy, combination_of}
use Rattle.nichols_value.specs.Block.{block_basis}
use Rattle.nichols_product.specs.Parts.{IsPart, total}
use Rattle.nichols_product.specs.declared.parts.Part.{Part}
use Rattle.nichols_product.proofs.PartSums.{gained_there, gained_new, part_at}
use Rattle.nichols_product.proofs.parts.add_form.Goals as goal

pub returns-in-Some-clause-values : goal.returns-in-Some-clause-values
returns-in-Some-clause-values c =
    let is : IsBraid c.args.levels.now.braid = subst IsBraid c.braid.ensures c.field-field.ensures.braid in
    let field : c.field-field.result ≡ c.args.levels.now.braid.field = c.field-field.ensures.field ∙ ap (λ b. b.field) c.braid.ensures in
    let less : c.in-Some.k < length c.args.parts.now.items = subst (λ ps. c.in-Some.k < length ps) c.as_slice.ensures.value c.in-Some.ensures.0 in
    let own : _ = c.in-Some.ensures.1 c.index_mut.result.now (c.index_mut.ensures.value ∙ ap (λ ps. get_or ps c.in-Some.k c.index_mut.result.now) (sym c.as_slice.ensures.value)) in
    let width : length c.add_sums.new.sums ≡ c.index_mut.result.now.sums.len = c.add_sums.auto.sums ∙ ap length c.as_mut_slice.ensures.value ∙ sym c.index_mut.result.now.sums.ok.0 in
    (gained_there c.args.levels.now.braid is.field c.args.levels.now.last c.args.degree c.args.product.now c.args.form.now c.args.form.now c.args.by c.in-Some.k c.args.parts.now.items c.index_mut.result.now _ c.requires.parts less c.index_mut.ensures.value
    (part_at (IsPart c.args.levels.now.braid c.args.levels.now.last) c.args.parts.now.items c.in-Some.k c.index_mut.result.now c.requires.parts less c.index_mut.ensures.value)
    own.0 own.1 own.0 own.1 c.requires.width
    (λ ws e.
    subst (λ xs. HasGrownBy c.args.levels.now.braid.field ws c.index_mut.result.now.sums.items (scalar_multiple c.args.levels.now.braid.field c.args.by (combination_of c.args.levels.now.braid.field ws c.args.form.now)) xs) (sym (with_items_is c.index_mut.result.now.sums c.add_sums.new.sums width))
    (subst (λ xs. HasGrownBy c.args.levels.now.braid.field ws xs (scalar_multiple c.args.levels.now.braid.field c.args.by (combination_of c.args.levels.now.braid.field ws c.args.form.now)) c.add_sums.new.sums) c.as_mut_slice.ensures.value
    (subst (λ k. HasGrownBy k ws c.as_mut_slice.result.now (scalar_multiple k c.args.by (combination_of k ws c.args.form.now)) c.add_sums.new.sums) field (c.add_sums.ensures ws e))))).values

pub returns-in_ok-push-in-None-clause-values : goal.returns-in_ok-push-in-None-clause-values
returns-in_ok-push-in-None-clause-values c =
    let is : IsBraid c.args.levels.now.braid = subst IsBraid c.braid.ensures c.field-field.ensures.braid in
    let field : c.field-field.result ≡ c.args.levels.now.braid.field = c.field-field.ensures.field ∙ ap (λ b. b.field) c.braid.ensures in
    let width : length c.add_sums-in-None.new.sums ≡ c.in_ok-sums-in-None.sums.len = c.add_sums-in-None.auto.sums ∙ ap length c.as_mut_slice-in-None.ensures.value ∙ sym c.in_ok-sums-in-None.sums.ok.0 in
    let q : Part = record { degree = c.args.degree; product = c.args.product.now; sums = with_items c.in_ok-sums-in-None.sums c.add_sums-in-None.new.sums } in
    let gained : _ =
    (gained_new c.args.levels.now.braid is.field c.args.levels.now.last c.args.degree c.args.product.now c.args.form.now c.as_mut_slice-in-None.result.now c.args.by (length c.args.form.now) c.args.parts.now.items q c.requires.parts c.requires.made c.requires.there
    refl refl c.requires.width (c.as_mut_slice-in-None.ensures.value ∙ c.in_ok-sums-in-None.ensures)
    (λ ws e.
    subst (λ xs. HasGrownBy c.args.levels.now.braid.field ws c.as_mut_slice-in-None.result.now (scalar_multiple c.args.levels.now.braid.field c.args.by (combination_of c.args.levels.now.braid.field ws c.args.form.now)) xs) (sym (with_items_is c.in_ok-sums-in-None.sums c.add_sums-in-None.new.sums width))
    (subst (λ k. HasGrownBy k ws c.as_mut_slice-in-None.result.now (scalar_multiple k c.args.by (combination_of k ws c.args.form.now)) c.add_sums-in-None.new.sums) field (c.add_sums-in-None.ensures ws e)))).values in
    subst (λ ps. HasSameValues c.args.levels.now.braid.field (total c.args.levels.now.braid ps) (total c.args.levels.now.braid c.args.parts.now.items ++ scalar_multiple c.args.levels.now.braid.field c.args.by (combination_of c.args.levels.now.braid.field (block_basis c.args.levels.now.braid c.args.degree c.args.product.now) c.args.form.now)))
    (sym c.in_ok-push-in-None.ensures.items) gained
