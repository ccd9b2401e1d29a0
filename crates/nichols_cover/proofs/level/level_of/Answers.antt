use Rattle.std.proofs.Common.{◌≡◌, ◌≤◌, ◌<◌, ◌∙◌, ◌+◌, List, [], ap, ap₂, arith, length, map, refl, subst, sym}
use Rattle.std.specs.List.{range_with_len}
use Rattle.std.proofs.lemmas.List.{get_or_default}
use Rattle.std.proofs.lemmas.List.FromFn.{length-map-range_with_len}
use Rattle.nichols_echelon.specs.Cells.{Cell}
use Rattle.nichols_echelon.specs.Rows.{RowsValue}
use Rattle.nichols_rows.specs.Places.{IsInside}
use Rattle.nichols_echelon.specs.declared.rows.Place.TheVariants.{Independent}
use Rattle.nichols_cover.specs.Rows.{form_at, number_at}
use Rattle.nichols_cover.proofs.Forms.{form_is, forms_longer, number_few, number_more, number_none, numbers_longer, whole_forms}
use Rattle.nichols_cover.proofs.level.level_of.Goals as goal

pub loop-place-init : goal.loop-place-init
loop-place-init c = record { numbers = c.new-numbers.ensures.items; count = sym (number_none c.args.places.now); forms = c.new-forms.ensures }

pub push_form-requires-clause-inside : goal.push_form-requires-clause-inside
push_form-requires-clause-inside c =
    let less : c.loop-place.place-index < length c.args.places.now = omega arith in
    let count : length c.as_slice.result.now ≡ c.loop-place.place-index = ap length (c.as_slice.ensures.value ∙ c.loop-place.invariant.numbers) ∙ length-map-range_with_len (number_at c.args.places.now) 0 c.loop-place.place-index in
    subst (λ n. IsInside (c.args.others + n) c.place-item.result) (sym count)
    (subst (IsInside (c.args.others + c.loop-place.place-index)) (sym (c.place-item.is ∙ get_or_default c.args.places.now c.loop-place.place-index c.place-item.result Independent less)) (c.requires.inside c.loop-place.place-index less))

pub overflow_add-count : goal.overflow_add-count
overflow_add-count c =
    let few : number_at c.args.places.now (c.loop-place.place-index + 1) ≤ c.loop-place.place-index + 1 = number_few c.args.places.now (c.loop-place.place-index + 1) in
    let more = number_more c.args.places.now c.loop-place.place-index c.place-item.result (omega arith) c.place-item.is in
    rw (c.loop-place.invariant.count, c.independent-count.ensures, ← more) (omega (arith, few, c.requires.count))

pub loop-place-preserved : goal.loop-place-preserved
loop-place-preserved c =
    let less : c.loop-place.place-index < length c.args.places.now = omega arith in
    let inside = subst (IsInside (c.args.others + c.loop-place.place-index)) (sym (c.place-item.is ∙ get_or_default c.args.places.now c.loop-place.place-index c.place-item.result Independent less)) (c.requires.inside c.loop-place.place-index less) in
    record {
      numbers = c.in_ok-push.ensures.items ∙ numbers_longer c.args.places.now c.loop-place.place-index c.loop-place.count c.loop-place.numbers.items c.loop-place.invariant.numbers c.loop-place.invariant.count;
      count = ap₂ (λ a b. a + b) c.loop-place.invariant.count c.independent-count.ensures ∙ sym (number_more c.args.places.now c.loop-place.place-index c.place-item.result less c.place-item.is);
      forms = c.in_ok-push_form.ensures
          ∙ ap (λ (rows : List (List Cell)). record { rows = rows; begun = [] })
          (forms_longer c.args.others c.args.places.now c.loop-place.place-index c.loop-place.forms.rows _ (ap (λ (v : RowsValue). v.rows) c.loop-place.invariant.forms)
          (form_is c.args.others c.args.places.now c.loop-place.place-index c.loop-place.count c.as_slice.result.now c.place-item.result less c.place-item.is inside (c.as_slice.ensures.value ∙ c.loop-place.invariant.numbers) c.loop-place.invariant.count));
    }

pub returns : goal.returns
returns c =
    let end : c.loop-place.place-index ≡ length c.args.places.now = omega arith in
    let few : number_at c.args.places.now c.loop-place.place-index ≤ c.loop-place.place-index = number_few c.args.places.now c.loop-place.place-index in
    record {
      below = refl;
      count = c.loop-place.invariant.count ∙ ap (number_at c.args.places.now) end;
      few = omega (arith, few, end, c.loop-place.invariant.count, c.requires.count);
      forms = c.loop-place.invariant.forms
          ∙ ap (λ (rows : List (List Cell)). record { rows = rows; begun = [] })
          (whole_forms c.args.others c.args.places.now c.loop-place.place-index (map (form_at c.args.others c.args.places.now) (range_with_len 0 c.loop-place.place-index)) refl end);
    }
