use Rattle.std.proofs.Common.{arith, ◌≡◌, ◌+◌, suc, length, ap, ◌∙◌}
use Rattle.std.proofs.lemmas.List.Elements.{All-rest}
use Rattle.nichols_shelf.specs.Lists.{is_in}
use Rattle.nichols_shelf.specs.Passes.{IsOf}
use Rattle.nichols_shelf.specs.declared.view.View.{View}
use Rattle.nichols_steps.specs.declared.phases.Worked.{Worked}
use Rattle.nichols_steps.proofs.crew.closed.Goals as goal

pub loop-other-preserved : goal.loop-other-preserved
loop-other-preserved c =
    let was = c.loop-other.invariant in
    let is = c.join.ensures.view in
    let rest = c.in-Some.ensures.steps.0 in
    let old = c.loop-other.other-iterator.rest.items in
    let new = c.next.new.self.rest.items in
    let size : length old ≡ suc (length new) = ap (λ ws. length ws) rest in
    record {
      of_shelf = c.join.ensures.pass;
      worker = ap (λ (v : View). v.worker) is ∙ was.worker;
      joined = ap (λ (v : View). v.joined) is ∙ ap (λ j. j + 1) was.joined;
      passes = ap (λ (v : View). v.passes) is ∙ (was.passes ∙ omega (arith, size));
      holds = λ b. ap (λ (v : View). is_in b v.held) is ∙ was.holds b;
      resumes = λ b. ap (λ (v : View). is_in b v.resumed) is ∙ was.resumes b;
      others = All-rest (λ (w : Worked). IsOf c.args.pairs.shelf w.hand.pass) c.in-Some.other new old rest was.others;
    }
