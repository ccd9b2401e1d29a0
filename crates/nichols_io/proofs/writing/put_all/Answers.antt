use Rattle.std.proofs.Common.{rules, ◌∙◌}
use Rattle.nichols_io.proofs.BytesLemmas.{TellsAlike-trans, failed_write, next_write, no_rest}
use Rattle.nichols_io.proofs.writing.put_all.Goals as goal

pub loop-rest-preserved : goal.loop-rest-preserved
loop-rest-preserved g c = record {
  bytes = next_write _ _ _ _ _ _ _ c.loop-rest.invariant.bytes c.in-Took.ensures.bytes.2 c.split_at.ensures.back;
  steady = c.in-Took.ensures.steady ∙ c.loop-rest.invariant.steady;
  told = TellsAlike-trans _ _ _ c.loop-rest.invariant.told c.in-Took.ensures.told;
  untouched = λ none. absurd (no_rest _ _ _ _ c.loop-rest.invariant.bytes (search rules) none);
}

pub returns-in-Failed-clause-prefix : goal.returns-in-Failed-clause-prefix
returns-in-Failed-clause-prefix g c = failed_write _ _ _ _ _ c.loop-rest.invariant.bytes (search rules) c.in-Failed.ensures.bytes
