use Rattle.std.proofs.Common.{arith, sym, ap, ◌∙◌, subst, eqb, ◌+◌, get_or, ◌≡◌, ℕ, List, Option}
use Rattle.std.specs.Slots.{slots_items}
use Rattle.atomic_table.specs.Table.{Final, Seen}
use Rattle.nichols_value.specs.declared.shared.Shared.{Shared}
use Rattle.nichols_shelf.specs.Plan.{PlanValue}
use Rattle.nichols_shelf.specs.Lists.{times_in}
use Rattle.nichols_shelf.specs.Views.{says_published}
use Rattle.nichols_shelf.specs.Stands.{Holds}
use Rattle.nichols_shelf.specs.Ended.{AreMarked}
use Rattle.nichols_shelf.specs.Passes.{view_of}
use Rattle.nichols_shelf.specs.Settled.{HoldsNothing, ResumesNothing, IsSettled}
use Rattle.nichols_shelf.specs.declared.pass.Pass.{Pass}
use Rattle.nichols_shelf.specs.declared.shelf.Shelf.{Shelf}
use Rattle.nichols_shelf.proofs.Ending.{closes, SayWhatIsMade}
use Rattle.nichols_shelf.proofs.shelf.Shelf.close.Goals as goal

-- what a closed table of the shelf says
closed : (s : Shelf) (p : Pass) (words : List ℕ) (homes : List (Option Shared)) → Final (Seen (Holds s.board.shared.key) p.place.id (view_of p)) words homes
    → (view_of p).worker ≡ 0 → (view_of p).joined ≡ (view_of p).passes → HoldsNothing (view_of p) → ResumesNothing (view_of p) → SayWhatIsMade s.plan words (view_of p) × IsSettled s.plan (view_of p)
closed s p words homes final =
    closes s.plan p.place.id (view_of p) words homes (subst (λ (g : PlanValue). Final (Seen (Holds g) p.place.id (view_of p)) words homes) s.same_plan final) p.stored.live

pub invariant_of-result : goal.invariant_of-result
invariant_of-result c =
    let s = c.args.self in
    let r = c.requires in
    let says = (closed s c.args.pass _ _ c.close_with-closed.ensures.values.2 r.zeroth r.joined r.holds r.resumes).0 in
    let count = c.block_count-blocks.ensures.count in
    record {
      marked = subst (AreMarked s.plan c.in_ok-marks.field-0.items) (sym (ap (λ q. q.me.0) c.of-last.ensures)) record {
        room = (let len = c.in_ok-marks.ensures.length in omega (arith, len, count));
        made = λ b inside. c.in_ok-marks.ensures.marks b (omega arith)
            ∙ (ap (λ n. says_published (get_or (slots_items c.close_with-closed.result.words) (1 + n + b) 0)) count ∙ ap (λ x. eqb x 1) (says b inside));
      };
    }

pub returns-clause-settled : goal.returns-clause-settled
returns-clause-settled c =
    let s = c.args.self in
    let r = c.requires in
    (closed s c.args.pass _ _ c.close_with-closed.ensures.values.2 r.zeroth r.joined r.holds r.resumes).1

pub returns-clause-all : goal.returns-clause-all
returns-clause-all c unowed b inside =
    let s = c.args.self in
    let r = c.requires in
    let settled = (closed s c.args.pass _ _ c.close_with-closed.ensures.values.2 r.zeroth r.joined r.holds r.resumes).1 in
    ap (λ q. times_in b q.me.0.made) c.of-last.ensures ∙ settled.all unowed b inside
