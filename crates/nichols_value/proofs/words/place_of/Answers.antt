use Rattle.nichols_tensor.specs.Positions.{word_at}
use Rattle.std.proofs.Common.{[]}
use Rattle.nichols_tensor.proofs.Order.{same_word}
use Rattle.nichols_value.proofs.Searching.{not_found}
use Rattle.nichols_value.proofs.words.place_of.Goals as goal

pub returns-in-Ok : goal.returns-in-Ok
returns-in-Ok c = (c.in-Ok.ensures.bound, same_word (word_at c.args.words.now c.in-Ok.place) c.args.word.now (c.in-Ok.ensures.position []))

pub returns-in-Err : goal.returns-in-Err
returns-in-Err c = not_found c.args.words.now c.args.word.now c.in-Err.field-0 c.requires c.in-Err.ensures.position
