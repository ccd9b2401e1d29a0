use Rattle.std.proofs.Common.{◌≡◌, length, ap, ◌∙◌, rules}
use Rattle.nichols_core.specs.Runs.{start}
use Rattle.nichols_core.specs.States.{MarksValue}
use Rattle.nichols_core.proofs.MarksAtStart.{AtStart, machine_at_start, over_at_start}
use Rattle.nichols_core.proofs.marks.Marks.start.Goals as goal

made : (c : goal.In_ok-picked) → MarksValue
made c = record { stages = c.in_ok-stages.stages.items; owed = c.in_ok-owed.owed.items; laid = c.in_ok-laid.laid.items; picked = c.in_ok-picked.picked.items }

at_start : (c : goal.In_ok-picked) → AtStart (made c) c.len-blocks.result c.len-edges.result
unfolding made
at_start c = record {
  stages = c.in_ok-stages.ensures.items_if_clones_equal (λ y e. e);
  owed = c.in_ok-owed.ensures.marks;
  laid = c.in_ok-laid.ensures.items_if_clones_equal (λ y e. e);
  picked = c.in_ok-picked.ensures.items_if_clones_equal (λ y e. e);
}

blocks_are : (c : goal.In_ok-picked) → c.len-blocks.result ≡ length c.args.layout.now.degrees
blocks_are c = search rules

edges_are : (c : goal.In_ok-picked) → c.len-edges.result ≡ length c.args.layout.now.edges
edges_are c = search rules

pub returns-clause-over : goal.returns-clause-over
unfolding made
returns-clause-over c = over_at_start (made c) c.len-blocks.result c.len-edges.result (at_start c) c.args.layout.now c.args.workers (blocks_are c) (edges_are c) c.in_ok-owed.ensures.len

pub returns-clause-start : goal.returns-clause-start
unfolding made
returns-clause-start c = machine_at_start (made c) c.len-blocks.result c.len-edges.result (at_start c) ∙ ap start (blocks_are c)
