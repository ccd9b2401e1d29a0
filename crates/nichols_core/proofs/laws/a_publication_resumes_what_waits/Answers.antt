use Rattle.nichols_core.proofs.RunsKept.{a_publication_resumes_what_waits}
use Rattle.nichols_core.proofs.laws.a_publication_resumes_what_waits.Goals as goal

pub returns : goal.returns
returns c = a_publication_resumes_what_waits
