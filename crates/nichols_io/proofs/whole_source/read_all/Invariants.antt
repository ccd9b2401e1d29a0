use Rattle.std.proofs.Common.{◌≡◌, ◌≤◌, ◌+◌, ◌-◌, length}
use Rattle.std.specs.Io.KnownBytes.{Consumes}
use Rattle.nichols_io.specs.Bytes.{TellsAlike}
use Rattle.nichols_io.proofs.whole_source.read_all.Given as goal

abbrev pub invariant-reading : goal.invariant-reading
invariant-reading g l = record {
  bytes : Consumes (g.S.Source.left l.fn.source) (g.S.Source.left l.source) l.all.items;
  within : length l.all.items ≤ l.limit;
  steady : g.S.Source.faults l.source ≡ g.S.Source.faults l.fn.source;
  told : TellsAlike (g.S.Source.left l.fn.source) (g.S.Source.left l.source);
}

abbrev pub decreases-reading : goal.decreases-reading
decreases-reading g l = l.limit + 1 - length l.all.items
