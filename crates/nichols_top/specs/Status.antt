-- The exit statuses of the program.
use Rattle.std.specs.Prelude.{ℕ}
use Rattle.nichols_top.specs.declared.status.Status.{Status}
use Rattle.nichols_top.specs.declared.status.Status.TheVariants.{Complete, Usage, Refused, Stopped, ReadFault, WriteFault, Memory}

-- the exit status
abbrev pub code : Status → ℕ
code Complete = 0
code Usage = 1
code Refused = 2
code Stopped = 3
code ReadFault = 4
code WriteFault = 5
code Memory = 6
