use Rattle.std.proofs.Common.{◌≡◌, ◌+◌, ◌<◌, ◌++◌, length, ◌∙◌, sym, ap, subst, arith, true, false}
use Rattle.std.specs.Prelude.{Some, None, option_map, min, take, if◌then◌else◌, []}
use Rattle.std.proofs.lemmas.List.{length-take, append-nil}
use Rattle.nichols_graded.specs.Factors.{quotient, is_one, factors_of}
use Rattle.nichols_graded.proofs.Division.{quotient_length}
use Rattle.nichols_graded.proofs.FactorSteps.{AreFoundUpTo, found_first, found_next, found_none, found_all, division_is, division_is_none}
use Rattle.nichols_graded.proofs.factors.factors_of.Goals as goal

pub loop-k-init : goal.loop-k-init
loop-k-init c =
    let is = c.in_ok-polynomial.ensures.items_if_clones_equal (λ x y e. e) in
    let few = c.requires in
    let cut = c.saturating_sub.ensures in
    let most = c.len-k.ensures in
    let long : c.len-k.result ≡ length c.in_ok-polynomial.polynomial.items = most ∙ c.in_ok-polynomial.polynomial.ok.0 in
    let size : length c.in_ok-polynomial.polynomial.items ≡ length (take c.saturating_sub.result c.args.dimensions.now) = ap length is in
    let within : length (take c.saturating_sub.result c.args.dimensions.now) ≡ min c.saturating_sub.result (length c.args.dimensions.now) = length-take c.saturating_sub.result c.args.dimensions.now in
    record {
      small = omega (arith, few, long, size, within);
      found = found_first c.args.dimensions.now c.in_ok-polynomial.polynomial.items c.saturating_sub.result c.len-k.result c.new-factors.result.items cut is long c.new-factors.ensures.items;
    }

pub loop-k-smaller-then-divide : goal.loop-k-smaller-then-divide
loop-k-smaller-then-divide c =
    let same : c.extend_from_slice.new.self.items ≡ c.loop-k.polynomial.items = c.in_ok-extend_from_slice.ensures.items ∙ ap (λ x. x ++ c.as_slice.result.now) c.clear.ensures.items ∙ c.as_slice.ensures.value in
    let found : quotient c.loop-k.k c.loop-k.polynomial.items ≡ Some c.divide.new.polynomial.items = ap (quotient c.loop-k.k) (sym same) ∙ division_is _ _ c.if-divide.ensures in
    let some = c.loop-k-test.true in
    let long = quotient_length c.loop-k.k c.loop-k.polynomial.items c.divide.new.polynomial.items (omega (arith, some)) found in
    let after : length c.swap.new.x.items ≡ length c.divide.new.polynomial.items = ap (λ v. length v.items) c.swap.ensures.x_after in
    let less : c.loop-k.k + length c.swap.new.x.items < c.loop-k.k + length c.loop-k.polynomial.items = omega (arith, some, long, after) in
    less

pub loop-k-preserved-then-divide : goal.loop-k-preserved-then-divide
loop-k-preserved-then-divide c =
    let same : c.extend_from_slice.new.self.items ≡ c.loop-k.polynomial.items = c.in_ok-extend_from_slice.ensures.items ∙ ap (λ x. x ++ c.as_slice.result.now) c.clear.ensures.items ∙ c.as_slice.ensures.value in
    let found : quotient c.loop-k.k c.loop-k.polynomial.items ≡ Some c.swap.new.x.items =
    ap (quotient c.loop-k.k) (sym same) ∙ division_is _ _ c.if-divide.ensures ∙ ap (λ v. Some v.items) (sym c.swap.ensures.x_after) in
    let next = found_next _ c.loop-k.factors.items c.loop-k.k c.loop-k.polynomial.items c.swap.new.x.items c.loop-k-test.true found c.loop-k.invariant.found in
    record { small = c.loop-k.invariant.small; found = subst (λ f. AreFoundUpTo (factors_of c.args.dimensions.now) f c.loop-k.k c.swap.new.x.items) (sym c.in_ok-push.ensures.items) next }

pub loop-k-preserved : goal.loop-k-preserved
loop-k-preserved c =
    let same : c.extend_from_slice.new.self.items ≡ c.loop-k.polynomial.items = c.in_ok-extend_from_slice.ensures.items ∙ ap (λ x. x ++ c.as_slice.result.now) c.clear.ensures.items ∙ c.as_slice.ensures.value in
    let small = c.loop-k.invariant.small in
    let none : quotient c.loop-k.k c.loop-k.polynomial.items ≡ None = ap (quotient c.loop-k.k) (sym same) ∙ division_is_none _ _ c.if-divide.ensures in
    record { small = omega (arith, small); found = found_none _ c.loop-k.factors.items c.loop-k.k c.loop-k.polynomial.items c.loop-k-test.true none c.loop-k.invariant.found }

pub returns-then-not-is_one : goal.returns-then-not-is_one
returns-then-not-is_one c =
    let other : is_one c.loop-k.polynomial.items ≡ false = ap is_one (sym c.as_slice-2.ensures.value) ∙ sym c.is_one.ensures ∙ c.if-not-is_one.true in
    sym (found_all _ c.loop-k.factors.items c.loop-k.k c.loop-k.polynomial.items c.loop-k-test.false c.loop-k.invariant.found ∙ ap (λ b. option_map (λ ks. c.loop-k.factors.items ++ ks) (if b then Some [] else None)) other)

pub returns : goal.returns
returns c =
    let one : is_one c.loop-k.polynomial.items ≡ true = ap is_one (sym c.as_slice-2.ensures.value) ∙ sym c.is_one.ensures ∙ c.if-not-is_one.false in
    sym (found_all _ c.loop-k.factors.items c.loop-k.k c.loop-k.polynomial.items c.loop-k-test.false c.loop-k.invariant.found ∙ ap (λ b. option_map (λ ks. c.loop-k.factors.items ++ ks) (if b then Some [] else None)) one
    ∙ ap Some (append-nil c.loop-k.factors.items))
