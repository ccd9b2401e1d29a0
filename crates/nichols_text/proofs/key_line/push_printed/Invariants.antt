use Rattle.std.proofs.Common.{◌≡◌, ◌++◌, map, take}
use Rattle.nichols_text.specs.Refusals.{printed_byte}
use Rattle.nichols_text.proofs.key_line.push_printed.Given as goal

abbrev pub invariant-loop-byte : goal.invariant-loop-byte
invariant-loop-byte l = l.out.items ≡ l.fn.out.items ++ map printed_byte (take l.byte-index l.bytes)
