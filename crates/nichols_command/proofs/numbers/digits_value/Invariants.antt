use Rattle.std.proofs.Common.{◌≡◌, ◌<◌, ◌^◌, take}
use Rattle.nichols_command.specs.Numbers.{digits_value}
use Rattle.nichols_command.proofs.numbers.digits_value.Given as goal

abbrev pub invariant-loop-c : goal.invariant-loop-c
invariant-loop-c l = record {
  value : l.n ≡ digits_value (take l.c-index l.text);
  bound : l.n < 10 ^ l.c-index;
}
