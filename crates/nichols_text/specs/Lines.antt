-- The texts of one line.
use Rattle.std.specs.Prelude.{ℕ, List, ◌++◌, codes, decimal, Option, None, Some}

unfoldable pub usage_text : List ℕ
usage_text = codes "usage: nichols algebra or reduce or symmetrize or points K or product or table or cover [--degree N] [--rows N] [--workers N] [--window N] [--brief]\n"

unfoldable pub read_fault_text : List ℕ
read_fault_text = codes "read fault\n"

-- `memory last <m>` with the last degree whose piece was taken, or `memory last none`
unfoldable pub memory_text : Option ℕ → List ℕ
memory_text None = codes "memory last none\n"
memory_text (Some m) = codes "memory last " ++ decimal m ++ codes "\n"
