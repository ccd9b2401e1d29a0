use Rattle.std.proofs.Common.{subst, sym, ap, ◌∙◌, ◌+◌, ◌*◌, replicate, true, Bool, ℕ, List, []}
use Rattle.nichols_shelf.specs.Plan.{PlanValue}
use Rattle.nichols_shelf.specs.Views.{first_view}
use Rattle.nichols_shelf.specs.Steps.{Mine}
use Rattle.nichols_shelf.specs.Stored.{IsStored}
use Rattle.nichols_shelf.proofs.Agreed.{stored_start}
use Rattle.nichols_shelf.proofs.Opened.{opens}
use Rattle.nichols_shelf.proofs.shelf.Shelf.start.Goals as goal

pub vacant-requires : goal.vacant-requires
vacant-requires c =
    let counts = c.counts-blocks.ensures in
    opens (record { braid = c.in_ok-kept.kept; layout = c.args.layout; keys = c.args.keys.items; rows_limit = c.args.rows_limit }) _ _ counts.rules counts.edges
    (c.as_slice.ensures.value ∙ c.in_ok-words.ensures.items_if_clones_equal (λ y e. e) ∙ (λ i. replicate {A = ℕ} (1 + 2 * counts.blocks i + counts.edges i) 0))

pub invariant_of-pass : goal.invariant_of-pass
invariant_of-pass c =
    let g : PlanValue = record { braid = c.in_ok-kept.kept; layout = c.args.layout; keys = c.args.keys.items; rows_limit = c.args.rows_limit } in
    let e = c.in_ok-board.ensures in
    record {
      stored = subst (λ (m : Mine). IsStored 0 1 c.in_ok-owed.owed m.0 m.1) (sym e.4)
          (subst (λ (marks : List Bool). IsStored 0 1 marks (first_view g) []) (sym (c.in_ok-owed.ensures ∙ ap (λ n. replicate n true) c.counts-blocks.ensures.blocks)) (stored_start g));
    }
