use Rattle.nichols_shelf.proofs.shelf.Shelf.settle.Goals as goal

pub returns-clause-all : goal.returns-clause-all
returns-clause-all c own none = c.in_ok-closed.ensures.all (c.join_all.ensures.owes own none)
