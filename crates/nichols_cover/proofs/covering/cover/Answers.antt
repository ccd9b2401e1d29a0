use Rattle.std.proofs.Common.{◌≡◌, ◌<◌, ◌≤◌, ◌*◌, ◌++◌, ◌∷◌, ◌∙◌, ℕ, List, [], add-one, ap, ap₂, arith, subst, sym}
use Rattle.nichols_echelon.specs.Rows.{RowsValue}
use Rattle.nichols_cover.specs.Cover.{cover_dimension}
use Rattle.nichols_cover.specs.Ideal.{generators}
use Rattle.nichols_cover.specs.Level.{StandsFor}
use Rattle.nichols_cover.proofs.Covered.{AreCovered, covered_start, covered_more, covered_end, covered_stop, lowest_stands}
use Rattle.nichols_cover.proofs.covering.cover.Goals as goal

pub loop-below-init : goal.loop-below-init
loop-below-init c = record {
  covered = covered_start c.args.field c.modulus-modulus.ensures.field c.args.letters (generators c.args.field c.args.quadratic.now) c.args.limit c.push.new.self.items
      (c.in_ok-push.ensures.items ∙ ap (λ (xs : List ℕ). xs ++ 1 ∷ []) c.new-dimensions.ensures.items);
  level = lowest_stands c.args.field c.modulus-modulus.ensures.field c.args.letters (generators c.args.field c.args.quadratic.now) c.lowest_level-level.result c.lowest_level-level.ensures.counts.0 c.lowest_level-level.ensures.counts.1
      (ap (λ (v : RowsValue). v.rows) c.lowest_level-level.ensures.forms);
  few = omega (arith, c.lowest_level-level.ensures.counts.1);
}

pub returns-then-count-from : goal.returns-then-count-from
returns-then-count-from c =
    let count : c.loop-below.level.count * c.from.result ≡ cover_dimension c.args.field c.args.letters (generators c.args.field c.args.quadratic.now) c.loop-below.below * c.args.letters = ap₂ (λ a b. a * b) c.loop-below.invariant.level.count c.from.ensures in
    let over : c.args.limit < c.loop-below.level.count * c.from.result = omega (arith, c.if-count-from.true, c.from-in-loop-below.ensures) in
    covered_stop c.args.field c.args.letters (generators c.args.field c.args.quadratic.now) c.args.limit c.args.through c.loop-below.below (c.loop-below.level.count * c.from.result) c.loop-below.dimensions.items count over (omega arith)
    c.loop-below.invariant.covered

pub loop-below-preserved : goal.loop-below-preserved
loop-below-preserved c =
    let count : c.loop-below.level.count * c.from.result ≡ cover_dimension c.args.field c.args.letters (generators c.args.field c.args.quadratic.now) c.loop-below.below * c.args.letters = ap₂ (λ a b. a * b) c.loop-below.invariant.level.count c.from.ensures in
    let within : c.loop-below.level.count * c.from.result ≤ c.args.limit = omega (arith, c.if-count-from.false, c.from-in-loop-below.ensures) in
    record {
      covered = covered_more c.args.field c.args.letters (generators c.args.field c.args.quadratic.now) c.args.limit c.loop-below.below (c.loop-below.level.count * c.from.result) c.in_ok-level.level.count c.loop-below.dimensions.items
          c.push-in-loop-below.new.self.items count within c.in_ok-level.ensures.next.count c.in_ok-push-2.ensures.items c.loop-below.invariant.covered;
      level = subst (λ m. StandsFor c.args.field c.args.letters (generators c.args.field c.args.quadratic.now) m c.in_ok-level.level) (sym (add-one c.loop-below.below)) c.in_ok-level.ensures.next;
      few = c.in_ok-level.ensures.few;
    }

pub returns : goal.returns
returns c =
    let end : c.loop-below.below ≡ c.args.through = omega arith in
    covered_end c.args.field c.args.letters (generators c.args.field c.args.quadratic.now) c.args.limit c.args.through c.loop-below.dimensions.items
    (subst (λ m. AreCovered c.args.field c.args.letters (generators c.args.field c.args.quadratic.now) c.args.limit m c.loop-below.dimensions.items) end c.loop-below.invariant.covered)
