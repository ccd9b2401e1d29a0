use Rattle.std.proofs.Common.{take}
use Rattle.nichols_tensor.specs.Combination.{AllElements, HasSameValues, linear_map}
use Rattle.nichols_memo.specs.Forms.{form_of}
use Rattle.nichols_memo.specs.Seats.{IsOf}
use Rattle.nichols_reduce.proofs.parts.sum_of_forms.Given as goal

abbrev pub invariant-loop-term : goal.invariant-loop-term
invariant-loop-term l = record {
  seat : IsOf l.memo l.seat;
  values : HasSameValues l.levels.braid.field l.sum.items (linear_map l.levels.braid.field (form_of l.levels.braid) (take l.term-index l.terms));
  elements : AllElements l.levels.braid.field l.sum.items;
}
