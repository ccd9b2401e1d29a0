use Rattle.std.proofs.Common.{rules, arith}
use Rattle.std.proofs.lemmas.List.{nil_from_length}
use Rattle.std.proofs.lemmas.Bool.Decides.{nat_tests}
use Rattle.nichols_words.proofs.Merging.{merging_start, merging-push, merging-skip, fewer, merged_value, merged_shape}
use Rattle.nichols_words.proofs.merge.merge.Goals.{then-is_empty, else-is_empty}
use Rattle.nichols_words.proofs.merge.merge.Goals as goal

pub loop-xs-init : goal.loop-xs-init
loop-xs-init c = rw c.new-out.ensures.items (merging_start c.args.field c.modulus-modulus.ensures.field c.args.by c.args.left.now c.args.right.now c.requires.left_elements c.requires.right_elements c.requires.left_rising c.requires.right_rising)

pub loop-xs-smaller-in_ok-push : goal.loop-xs-smaller-in_ok-push
loop-xs-smaller-in_ok-push c = fewer _ _ _ _ _ _ _ c.next-term.ensures

pub loop-xs-smaller : goal.loop-xs-smaller
loop-xs-smaller c = fewer _ _ _ _ _ _ _ c.next-term.ensures

pub loop-xs-preserved-in_ok-push : goal.loop-xs-preserved-in_ok-push
loop-xs-preserved-in_ok-push c =
    rw c.in_ok-push.ensures.items
    (merging-push c.args.field c.modulus-modulus.ensures.field c.args.by c.args.left.now c.args.right.now c.loop-xs.out.items c.loop-xs.xs.now c.loop-xs.ys.now c.next-term.result.0 c.next-term.result.1.now c.next-term.result.2.now c.next-term.ensures (search rules) c.loop-xs.invariant)

pub loop-xs-preserved : goal.loop-xs-preserved
loop-xs-preserved c =
    merging-skip c.args.field c.modulus-modulus.ensures.field c.args.by c.args.left.now c.args.right.now c.loop-xs.out.items c.loop-xs.xs.now c.loop-xs.ys.now c.next-term.result.0 c.next-term.result.1.now c.next-term.result.2.now c.next-term.ensures (search rules) c.loop-xs.invariant

pub returns-clause-value : goal.returns-clause-value
returns-clause-value c =
    elim c.if-is_empty.branch [
      | then-is_empty w ↦
          merged_value c.args.field c.modulus-modulus.ensures.field c.args.by c.args.left.now c.args.right.now c.loop-xs.out.items c.loop-xs.xs.now c.loop-xs.ys.now c.loop-xs.invariant
          (nil_from_length _ (grind (arith, nat_tests, c.is_empty.ensures, w.if-is_empty.true))) (nil_from_length _ (grind (arith, nat_tests, w.is_empty-then-is_empty.ensures, w.value-is, c.if-not-is_empty.false)))
      | else-is_empty w ↦ absurd (cc (w.value-is, w.if-is_empty.false, c.if-not-is_empty.false))
    ]

pub returns-clause-shape : goal.returns-clause-shape
returns-clause-shape c =
    elim c.if-is_empty.branch [
      | then-is_empty w ↦
          merged_shape c.args.field c.args.by c.args.left.now c.args.right.now c.loop-xs.out.items c.loop-xs.xs.now c.loop-xs.ys.now c.loop-xs.invariant
          (nil_from_length _ (grind (arith, nat_tests, c.is_empty.ensures, w.if-is_empty.true)))
      | else-is_empty w ↦ absurd (cc (w.value-is, w.if-is_empty.false, c.if-not-is_empty.false))
    ]
