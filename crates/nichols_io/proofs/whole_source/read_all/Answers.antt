use Rattle.std.proofs.Common.{ℕ, arith, length-append, take}
use Rattle.std.proofs.lemmas.List.{length-take}
use Rattle.std.proofs.KnownBytes.{Consumes-trans}
use Rattle.nichols_io.proofs.whole_source.read_all.Goals as goal

pub returns-then-is_err-clause-memory : goal.returns-then-is_err-clause-memory
returns-then-is_err-clause-memory g c _ =
    let came = take c.in-Bytes.count c.read.new.buf in (
      _,
      Consumes-trans _ _ _ c.reading.all.items came c.reading.invariant.bytes c.in-Bytes.ensures.bytes.2,
      omega (arith, length-append c.reading.all.items came, length-take {A = ℕ}, c.in-Bytes.ensures.bytes.1),
    )
