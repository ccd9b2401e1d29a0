use Rattle.std.proofs.Common.{◌∙◌, ◌++◌, sym, ap, subst}
use Rattle.std.specs.List.Sorted.{IsPermutation}
use Rattle.nichols_block.specs.Gathered.{gathered_all}
use Rattle.nichols_block.specs.Words.{AreListed, left_entries}
use Rattle.nichols_block.proofs.LowerRules.{images_of_all}
use Rattle.nichols_block.proofs.GatheredWords.{listed_are}
use Rattle.nichols_block.proofs.words.listed_words.Goals as goal

pub returns : goal.returns
returns c =
    subst (AreListed c.args.braid.now c.args.key.now.degree c.args.key.now.product) (sym (c.in_ok-listed.ensures ∙ ap gathered_all c.as_slice.ensures.value))
    (listed_are c.args.braid.now c.field-field.ensures.braid c.args.key.now.degree c.args.key.now.product c.requires.block.some (images_of_all c.args.braid.now c.args.key.now c.requires.block) c.sort_by_word.new.listed.items
    (subst (λ ls. IsPermutation ls c.sort_by_word.new.listed.items) (c.in_ok-put_left_words.ensures ∙ ap (λ ls. ls ++ left_entries c.args.braid.now c.args.key.now.degree c.args.key.now.product c.args.braid.now.letters) c.in_ok-all.ensures) c.sort_by_word.ensures.permutation) c.in_ok-sort_by_word.ensures.sorted)
