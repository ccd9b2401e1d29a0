use Rattle.std.proofs.Common.{arith, ◌∙◌, sym, ap, take, drop}
use Rattle.nichols_io.proofs.MemoryLemmas.{consumed_front}
use Rattle.nichols_io.proofs.steady_source.SteadySourceSource.read.Goals as goal

pub returns-clause-bytes : goal.returns-clause-bytes
returns-clause-bytes c =
    let k = c.min-count.result in
    let at = c.self.inside.at in
    (omega arith, omega arith, sym c.self.view_is ∙ consumed_front k at c.self.inside.bytes.items _ (c.copy_front.ensures.front ∙ ap (λ xs. take k (drop at xs)) c.as_slice.ensures.value))
