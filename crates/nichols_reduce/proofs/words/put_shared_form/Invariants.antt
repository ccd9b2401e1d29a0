use Rattle.std.proofs.Common.{◌≡◌, ◌≤◌, ◌-◌, length, take}
use Rattle.nichols_braid.specs.Product.{product_of}
use Rattle.nichols_memo.specs.Seats.{IsOf}
use Rattle.nichols_reduce.specs.Forms.{IsFormOf}
use Rattle.nichols_reduce.proofs.words.put_shared_form.Given as goal

abbrev pub invariant-loop-k : goal.invariant-loop-k
invariant-loop-k l = record {
  seat : IsOf l.memo l.seat;
  within : l.k ≤ length l.word;
  product : l.product ≡ product_of l.levels.braid (take l.k l.word);
  form : IsFormOf l.levels.braid (take l.k l.word) l.form.items;
}

abbrev pub decreases-loop-k : goal.decreases-loop-k
decreases-loop-k l = length l.word - l.k
