use Rattle.std.proofs.Common.{◌≡◌, ◌∷◌, ◌+◌, drop, sym, ◌∙◌, ap}
use Rattle.std.proofs.lemmas.List.{drop_more, nil_from_length}
use Rattle.std.proofs.Math.ListN.{drop_of_length-le}
use Rattle.nichols_block.specs.Gathered.{gathered_from}
use Rattle.nichols_block.proofs.GatheredWords.{gathering-same, gathering-other, gathering-end, gathered_none}
use Rattle.nichols_block.proofs.words.gathered.Goals.{then-eq, else-eq+in_ok-push, Joined-eq}
use Rattle.nichols_block.proofs.words.gathered.Goals as goal

next_first : (c : Joined-eq) → drop c.loop-entry.entry-index c.in-Some.rest.now ≡ c.entry-item.result ∷ drop (c.loop-entry.entry-index + 1) c.in-Some.rest.now
next_first c = drop_more c.in-Some.rest.now c.loop-entry.entry-index c.entry-item.result c.loop-entry-test.true ∙ ap (λ u. u ∷ drop (c.loop-entry.entry-index + 1) c.in-Some.rest.now) (sym c.entry-item.is)

pub loop-entry-preserved : goal.loop-entry-preserved
loop-entry-preserved c =
    elim c.if-eq.branch [
      | then-eq w ↦
          gathering-same c.if-eq.out.items c.loop-entry.last c.entry-item.result c.if-eq.last (drop c.loop-entry.entry-index c.in-Some.rest.now) (drop (c.loop-entry.entry-index + 1) c.in-Some.rest.now)
          (gathered_from c.in-Some.first.now c.in-Some.rest.now) (next_first c) (sym c.eq.ensures ∙ w.if-eq.true) (w.last-is ∙ w.together-last.ensures) (rw w.out-is c.loop-entry.invariant)
      | else-eq+in_ok-push w ↦
          rw w.last-is
          (gathering-other c.loop-entry.out.items c.loop-entry.last c.entry-item.result c.if-eq.out.items (drop c.loop-entry.entry-index c.in-Some.rest.now) (drop (c.loop-entry.entry-index + 1) c.in-Some.rest.now)
          (gathered_from c.in-Some.first.now c.in-Some.rest.now) (next_first c) (sym c.eq.ensures ∙ w.if-eq.false) (rw w.out-is w.in_ok-push.ensures.items) c.loop-entry.invariant)
    ]

pub returns-in_default : goal.returns-in_default
returns-in_default c = gathered_none c.in_ok-out.out.items c.args.sorted.now c.in_ok-out.ensures.items (nil_from_length _ c.in_default.ensures.cases)

pub returns : goal.returns
returns c =
    gathering-end c.loop-entry.out.items c.loop-entry.last c.in-Some.first.now c.push-2.new.self.items (drop c.loop-entry.entry-index c.in-Some.rest.now) c.in-Some.rest.now c.args.sorted.now
    (drop_of_length-le c.in-Some.rest.now c.loop-entry-test.false) c.in_ok-push-2.ensures.items c.in-Some.ensures.cases.0 c.loop-entry.invariant
