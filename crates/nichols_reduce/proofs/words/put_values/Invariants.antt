use Rattle.std.proofs.Common.{◌≡◌, map, take}
use Rattle.nichols_field.specs.Field.{element_of_sum}
use Rattle.nichols_tensor.specs.Combination.{value_at}
use Rattle.nichols_reduce.proofs.words.put_values.Given as goal

abbrev pub invariant-loop-word : goal.invariant-loop-word
invariant-loop-word l = map (element_of_sum l.field) l.sums.items ≡ map (value_at l.field l.comb) (take l.word-index l.words)
