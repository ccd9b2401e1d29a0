use Rattle.std.proofs.Common.{◌<◌, ◌+◌, ◌*◌, ap, length, subst, sym}
use Rattle.std.proofs.lemmas.Result.{IfOk-weaker}
use Rattle.nichols_echelon.specs.Combination.{AllRowsElements, AreRows}
use Rattle.nichols_echelon.specs.Rows.{RowsValue}
use Rattle.nichols_echelon.specs.Split.{place_at}
use Rattle.nichols_rows.specs.Places.{IsInside}
use Rattle.nichols_cover.specs.Ideal.{generators}
use Rattle.nichols_cover.specs.Level.{IsMadeOf}
use Rattle.nichols_cover.proofs.NextLevel.{all_are_rows, all_elements, next_made, own_inside, slice_is, table_of}
use Rattle.nichols_cover.proofs.degree.next_level.Goals as goal

pub product_rows-requires-clause-table : goal.product_rows-requires-clause-table
product_rows-requires-clause-table c = table_of c.args.field c.args.letters (generators c.args.field c.args.quadratic.now) c.args._degree c.args.level.now c.requires.level

pub split_flat_rows-requires-clause-shape : goal.split_flat_rows-requires-clause-shape
split_flat_rows-requires-clause-shape c =
    subst AreRows (sym (ap (λ (v : RowsValue). v.rows) c.in_ok-push_units.ensures))
    (all_are_rows c.args.field c.args.letters c.args.level.now.forms.rows c.args.level.now.below (generators c.args.field c.args.quadratic.now) c.in_ok-rows.rows.rows (c.args.level.now.count * c.from.result) c.in_ok-rows.ensures.rows)

pub split_flat_rows-requires-clause-elements : goal.split_flat_rows-requires-clause-elements
split_flat_rows-requires-clause-elements c =
    subst (AllRowsElements c.args.field) (sym (ap (λ (v : RowsValue). v.rows) c.in_ok-push_units.ensures))
    (all_elements c.args.field c.modulus-modulus.ensures.field c.args.letters c.args.level.now.forms.rows c.args.level.now.below (generators c.args.field c.args.quadratic.now) c.in_ok-rows.rows.rows (c.args.level.now.count * c.from.result) c.in_ok-rows.ensures.rows)

pub level_of-requires-clause-inside : goal.level_of-requires-clause-inside
level_of-requires-clause-inside c = λ j less.
    let same = slice_is c.len-others.result c.deref.result.now c.in_ok-places.places.items c.deref.ensures.value in
    subst (λ places. IsInside (c.len-others.result + j) (place_at places j)) (sym same)
    (own_inside c.args.field c.in_ok-rows.rows.rows c.push_units.new.rows.rows (c.args.level.now.count * c.from.result) c.len-others.result c.in_ok-places.places.items c.len-others.ensures (ap (λ (v : RowsValue). v.rows) c.in_ok-push_units.ensures)
    c.in_ok-places.ensures j (subst (λ places. j < length places) same less))

pub returns-clause-next : goal.returns-clause-next
returns-clause-next c =
    IfOk-weaker c.level_of.result _ _
    (λ new made.
    next_made c.args.field c.modulus-modulus.ensures.field c.args.letters c.args.quadratic.now c.requires.relations c.args._degree c.args.level.now c.in_ok-rows.rows.rows c.push_units.new.rows.rows c.len-others.result
    (c.args.level.now.count * c.from.result) c.in_ok-places.places.items new c.requires.level c.in_ok-rows.ensures.rows c.len-others.ensures (ap (λ n. c.args.level.now.count * n) c.from.ensures) (ap (λ (v : RowsValue). v.rows) c.in_ok-push_units.ensures)
    c.in_ok-places.ensures c.requires.few
    (subst (λ places. IsMadeOf c.len-others.result places c.args.level.now.count new) (slice_is c.len-others.result c.deref.result.now c.in_ok-places.places.items c.deref.ensures.value) made))
    c.level_of.ensures

pub returns-clause-few : goal.returns-clause-few
returns-clause-few c = IfOk-weaker c.level_of.result _ _ (λ new made. made.few) c.level_of.ensures
