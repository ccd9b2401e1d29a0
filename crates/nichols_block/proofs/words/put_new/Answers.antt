use Rattle.std.proofs.Common.{◌≤◌, ◌-◌, ◌∙◌, ap, arith, length}
use Rattle.std.specs.Prelude.{slice_index}
use Rattle.nichols_block.proofs.NewPlaces.{entry_size, new_more}
use Rattle.nichols_block.proofs.words.put_new.Goals as goal

pub overflow_sub-len : goal.overflow_sub-len
overflow_sub-len c = let some : 1 ≤ length c.args.entry.now.word = entry_size _ _ _ c.args.entry.now c.requires.block.some c.requires.listed in omega (arith, some, c.len.ensures.value)

pub letter-letter-requires : goal.letter-letter-requires
letter-letter-requires c = let some : 1 ≤ length c.args.entry.now.word = entry_size _ _ _ c.args.entry.now c.requires.block.some c.requires.listed in omega (arith, some, c.len.ensures.value)

pub returns-clause-new : goal.returns-clause-new
returns-clause-new c =
    new_more c.args.braid.now c.args.key.now.degree c.args.key.now.product c.args.entry.now c.in-Some-Some.front c.in-Some-Some.back c.letter-letter.result c.args.new.now.words.items c.push.new.self.items c.args.new.now.spots.items c.push-2.new.self.items
    c.args.new.now.backs.items c.push-3.new.self.items c.requires.block.some c.requires.listed c.in-Some-Some.is-0 c.in-Some-Some.is-1 (c.letter-letter.ensures.value ∙ ap (λ n. slice_index c.args.entry.now.word (n - 1)) c.len.ensures.value) c.requires.old
    c.in_ok-push.ensures.items c.in_ok-push-2.ensures.items c.in_ok-push-3.ensures.items
