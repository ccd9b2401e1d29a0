use Rattle.std.proofs.Common.{◌<◌, ◌∙◌, ◌∷◌, ◌++◌, [], ap, arith, length, refl}
use Rattle.std.proofs.lemmas.List.{get_or_default}
use Rattle.nichols_echelon.specs.Rows.{RowsValue}
use Rattle.nichols_rows.proofs.LoopsOverPlaces.{kept_more, skipped_more}
use Rattle.nichols_block.proofs.FlatRows.{closed_rows}
use Rattle.nichols_block.proofs.split.least_rows.Goals.{in-Independent+in_ok-push_row, in_default}
use Rattle.nichols_block.proofs.split.least_rows.Goals as goal

pub loop-k-preserved : goal.loop-k-preserved
loop-k-preserved c =
    let less : c.loop-k.k < length c.args.rows.now.rows = omega (arith, c.requires.count) in
    elim c.match-place.branch [
      | in-Independent+in_ok-push_row w ↦
          w.least-is ∙ w.in_ok-push_row.ensures.ok
          ∙ ap closed_rows
          (kept_more c.args.rows.now.rows c.args.places.now c.loop-k.k w.row.result.now c.index-places-k.result c.loop-k.least.rows (c.loop-k.least.rows ++ w.row.result.now ∷ []) c.requires.count less
          (w.row.ensures ∙ get_or_default c.args.rows.now.rows c.loop-k.k [] w.row.result.now less) c.index-places-k.is w.in-Independent.is (ap (λ (r : RowsValue). r.rows) c.loop-k.invariant) refl)
      | in_default w ↦
          w.least-is ∙ c.loop-k.invariant
          ∙ ap closed_rows (skipped_more c.args.rows.now.rows c.args.places.now c.loop-k.k [] c.index-places-k.result w.in_default.field-0 _ _ c.requires.count less c.index-places-k.is w.in_default.is refl refl)
    ]
