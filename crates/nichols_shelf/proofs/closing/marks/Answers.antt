use Rattle.std.proofs.Common.{arith, sym, ap, ◌∙◌, false, refl, below_more, get_or, ◌+◌}
use Rattle.std.specs.Slots.{slots_items}
use Rattle.nichols_shelf.specs.Views.{says_published}
use Rattle.nichols_shelf.proofs.Listed.{at_or}
use Rattle.nichols_shelf.proofs.closing.marks.Goals as goal

pub loop-block-preserved : goal.loop-block-preserved
loop-block-preserved c =
    let i = c.loop-block.invariant in
    let p = c.in_ok-push.ensures.by_index in (
      omega (arith, c.in_ok-push.ensures.len),
      below_more _ _ (λ b h. p.0 b false (omega arith) ∙ i.1 b h)
          (ap (λ n. get_or c.push.new.self.items n false) (sym i.0) ∙ p.1 false refl
          ∙ (c.is_published.ensures ∙ ap says_published (sym (at_or (slots_items c.args.closed.now.words) (1 + c.args.blocks + c.loop-block.block) _ 0 c.word.ensures)))),
    )
