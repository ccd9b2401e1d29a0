use Rattle.std.proofs.Common.{◌≡◌, map, take}
use Rattle.std.specs.Prelude.{◌&&◌, is_some}
use Rattle.std.specs.List.{filter}
use Rattle.nichols_block.specs.declared.words.Listed.{Listed}
use Rattle.nichols_block.specs.Gathered.{word_in}
use Rattle.nichols_block.specs.Words.{AreNewWords}
use Rattle.nichols_block.proofs.words.new_words.Given as goal

-- those that are least both ways are there so far
abbrev pub invariant-loop-entry : goal.invariant-loop-entry
invariant-loop-entry l = record {
  words : l.new.words.items ≡ map word_in (filter (λ (x : Listed). is_some x.right && is_some x.left) (take l.entry-index l.listed));
  new : AreNewWords l.braid l.key.degree l.key.product l.new.words.items l.new.spots.items l.new.backs.items;
}
