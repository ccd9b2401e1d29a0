use Rattle.std.proofs.Common.{ℕ, ◌<◌, List}
use Rattle.nichols_braid.specs.Braid.{BraidValue}
use Rattle.nichols_block.specs.Levels.{AreKept}
use Rattle.nichols_block.proofs.levels.let_go_all.Given as goal

abbrev pub invariant-loop-value : goal.invariant-loop-value
invariant-loop-value l = (braid : BraidValue) (last m : ℕ) (gs : List (List ℕ)) → m < last → AreKept braid last m gs l.fn.values → AreKept braid last m gs l.value-items
