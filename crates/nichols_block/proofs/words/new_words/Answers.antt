use Rattle.nichols_block.proofs.GatheredWords.{new_words_are}
use Rattle.nichols_block.proofs.NewPlaces.{new_words_more, no_new_words}
use Rattle.nichols_block.proofs.Passes.{entry_known}
use Rattle.nichols_block.proofs.words.new_words.Goals as goal

pub loop-entry-init : goal.loop-entry-init
loop-entry-init c = record {
  words = c.new.ensures.items;
  new = no_new_words c.args.braid.now c.args.key.now.degree c.args.key.now.product _ _ _ c.new.ensures.items c.new-2.ensures.items c.new-3.ensures.items;
}

pub put_new-requires-clause-listed : goal.put_new-requires-clause-listed
put_new-requires-clause-listed c = entry_known c.args.braid.now c.args.key.now.degree c.args.key.now.product c.args.listed.now c.loop-entry.entry-index c.entry-item.result c.requires.listed c.loop-entry-test.true c.entry-item.is

pub loop-entry-preserved : goal.loop-entry-preserved
loop-entry-preserved c = record {
  words = new_words_more c.args.listed.now c.loop-entry.entry-index c.entry-item.result c.loop-entry.new.words.items c.put_new.new.new.words.items c.loop-entry-test.true c.entry-item.is c.loop-entry.invariant.words c.in_ok-put_new.ensures.words;
  new = c.in_ok-put_new.ensures.new;
}

pub returns-clause-words : goal.returns-clause-words
returns-clause-words c =
    new_words_are c.args.braid.now c.args.key.now.degree c.args.key.now.product c.args.listed.now c.loop-entry.new.words.items c.loop-entry.entry-index c.requires.block.some c.requires.listed c.loop-entry-test.false c.loop-entry.invariant.words
