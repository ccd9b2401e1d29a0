use Rattle.std.proofs.Common.{[], arith, ap, ◌∙◌}
use Rattle.nichols_rows.proofs.LoopsOverPlaces.{kept_more, skipped_more}
use Rattle.nichols_rows.proofs.places.independent_words.Goals.{in-Independent+in_ok-push, in_default}
use Rattle.nichols_rows.proofs.places.independent_words.Goals as goal

pub loop-k-preserved : goal.loop-k-preserved
loop-k-preserved c =
    elim c.match-place.branch [
      | in-Independent+in_ok-push w ↦
          kept_more c.args.words.now c.args.places.now c.loop-k.k w.index-words-k.result c.index-places-k.result c.loop-k.out.items c.match-place.out.items c.requires (omega arith) w.index-words-k.is c.index-places-k.is w.in-Independent.is c.loop-k.invariant (ap (λ v. v.items) w.out-is ∙ w.in_ok-push.ensures.items)
      | in_default w ↦
          skipped_more c.args.words.now c.args.places.now c.loop-k.k [] c.index-places-k.result w.in_default.field-0 c.loop-k.out.items c.match-place.out.items c.requires (omega arith) c.index-places-k.is w.in_default.is c.loop-k.invariant (ap (λ v. v.items) w.out-is)
    ]
