use Rattle.nichols_shelf.proofs.OneState.{worker_numbers_are_apart}
use Rattle.nichols_shelf.proofs.laws.worker_numbers_are_apart.Goals as goal

pub returns : goal.returns
returns c = worker_numbers_are_apart
