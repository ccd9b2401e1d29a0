use Rattle.std.proofs.Common.{◌≡◌, ◌∙◌, ◌∷◌, suc, List, length, ap, subst, sym, arith}
use Rattle.nichols_shelf.specs.Lists.{is_in}
use Rattle.nichols_shelf.specs.Passes.{view_of}
use Rattle.nichols_shelf.specs.declared.view.View.{View}
use Rattle.nichols_crew.specs.Hands.{AreHands, all_made}
use Rattle.nichols_crew.specs.Kept.{IsKept}
use Rattle.nichols_crew.specs.declared.hand.Hand.{Hand}
use Rattle.nichols_crew.proofs.KeptJoined.{all_once, if_once_joined, owes_joined}
use Rattle.nichols_crew.proofs.MadeLists.{all_made-push}
use Rattle.nichols_crew.proofs.gathering.gather.Goals as goal

pub loop-other-preserved : goal.loop-other-preserved
loop-other-preserved c =
    let s = c.args.shelf in
    let g = s.plan in
    let i = c.loop-other.invariant in
    let v = view_of c.loop-other.pass in
    let h = c.in-Some.other in
    let u = view_of h.pass in
    let w = view_of c.join.new.pass in
    let view = c.join.ensures.view in
    let rest = c.in-Some.ensures.steps.0 in
    let size : length c.loop-other.other-iterator.rest.items ≡ suc (length c.next.new.self.rest.items) = ap (λ (hs : List Hand). length hs) rest in
    let hands : AreHands s v.joined (h ∷ c.next.new.self.rest.items) = subst (AreHands s v.joined) rest i.others in
    let worked = hands.0 in
    let joined : w.joined ≡ suc v.joined = ap (λ (x : View). x.joined) view ∙ omega arith in
    record {
      of = c.join.ensures.pass;
      worker = ap (λ (x : View). x.worker) view ∙ i.worker;
      count = (let e = i.count in let p = ap (λ (x : View). x.passes) view in omega (arith, e, p, size, joined));
      holds = λ b. ap (λ (x : View). is_in b x.held) view ∙ i.holds b;
      resumes = λ b. ap (λ (x : View). is_in b x.resumed) view ∙ i.resumes b;
      owes = owes_joined v u w (i.of.1 ∙ sym worked.of_shelf.1) i.owes worked.owes view;
      others = subst (λ k. AreHands s k c.next.new.self.rest.items) (sym joined) hands.2;
      kept = if_once_joined g v u w (all_made c.loop-other.lists.items) h.made.items (all_made c.push_reserved-in-loop-other.new.self.items) i.kept worked.kept view
          (ap all_made c.push_reserved-in-loop-other.ensures.items ∙ all_made-push c.loop-other.lists.items h.made);
      room = (let r = i.room in let l = c.push_reserved-in-loop-other.ensures.len in let p = c.push_reserved-in-loop-other.ensures.capacity in omega (arith, r, l, p, size));
    }

pub returns-clause-all : goal.returns-clause-all
returns-clause-all c = c.in_ok-closed.ensures.all c.loop-other.invariant.owes

pub returns-clause-kept : goal.returns-clause-kept
returns-clause-kept c =
    let g = c.args.shelf.plan in
    let i = c.loop-other.invariant in
    let e = c.in_ok-closed.ensures in
    subst (λ (x : View). IsKept g x (all_made c.loop-other.lists.items)) (sym e.view) (i.kept (all_once g (view_of c.loop-other.pass) e.settled i.owes))
