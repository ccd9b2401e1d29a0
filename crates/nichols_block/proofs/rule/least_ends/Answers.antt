use Rattle.std.proofs.Common.{◌≡◌, ◌∙◌, arith, ap, ap₂, length, sym, List}
use Rattle.std.proofs.lemmas.List.{take_all}
use Rattle.nichols_rows.specs.Places.{independent_in}
use Rattle.nichols_rows.proofs.LoopsOverPlaces.{kept_more, skipped_more}
use Rattle.nichols_value.specs.declared.ends.Ends.{Ends}
use Rattle.nichols_block.specs.Words.{ends_of}
use Rattle.nichols_block.proofs.NewPlaces.{ends_count, ends_entry}
use Rattle.nichols_block.proofs.rule.least_ends.Goals.{in-Independent+in_ok-push, in_default}
use Rattle.nichols_block.proofs.rule.least_ends.Goals as goal

pub loop-k-preserved : goal.loop-k-preserved
loop-k-preserved c =
    let count : length (ends_of c.args.new.now.spots.items c.args.new.now.backs.items) ≡ length c.args.new.now.spots.items = ends_count c.args.new.now.spots.items c.args.new.now.backs.items c.requires.backs in
    let all : length c.args.places.now ≡ length (ends_of c.args.new.now.spots.items c.args.new.now.backs.items) = c.requires.places ∙ sym count in
    elim c.match-place.branch [
      | in-Independent+in_ok-push w ↦
          let own : Ends = record { front = w.index.result.now.place; back = w.index-in-Independent.result.now } in
          kept_more (ends_of c.args.new.now.spots.items c.args.new.now.backs.items) c.args.places.now c.loop-k.k own c.index-places-k.result c.loop-k.least.items c.match-place.least.items all (omega (arith, all))
          (ends_entry c.args.new.now.spots.items c.args.new.now.backs.items c.loop-k.k w.index.result.now w.index-in-Independent.result.now own c.requires.backs (omega (arith, all, count)) w.index.ensures w.index-in-Independent.ensures) c.index-places-k.is
          w.in-Independent.is c.loop-k.invariant (ap (λ v. v.items) w.least-is ∙ w.in_ok-push.ensures.items)
      | in_default w ↦
          skipped_more (ends_of c.args.new.now.spots.items c.args.new.now.backs.items) c.args.places.now c.loop-k.k (record { front = 0; back = 0 }) c.index-places-k.result w.in_default.field-0 c.loop-k.least.items c.match-place.least.items all (omega (arith, all))
          c.index-places-k.is w.in_default.is c.loop-k.invariant (ap (λ v. v.items) w.least-is)
    ]

pub returns : goal.returns
returns c =
    let count : length (ends_of c.args.new.now.spots.items c.args.new.now.backs.items) ≡ length c.args.new.now.spots.items = ends_count c.args.new.now.spots.items c.args.new.now.backs.items c.requires.backs in
    c.loop-k.invariant
    ∙ ap₂ (λ (es : List Ends) ps. independent_in es ps) (take_all c.loop-k.k (ends_of c.args.new.now.spots.items c.args.new.now.backs.items) (omega (arith, count, c.requires.places))) (take_all c.loop-k.k c.args.places.now (omega arith))
