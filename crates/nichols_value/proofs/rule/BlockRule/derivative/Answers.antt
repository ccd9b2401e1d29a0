use Rattle.std.proofs.Common.{arith, ◌≡◌, ◌<◌, ◌≤◌, ◌-◌, ℕ, List, Option, Some, None, MatchOption, length}
use Rattle.std.specs.Prelude.{option_map}
use Rattle.nichols_value.specs.Kept.{AreEnds, IsUpperShaped, upper_by}
use Rattle.nichols_value.specs.Rule.{PlainRule, by_letter, derivs_in, upper_or_none}
use Rattle.nichols_value.specs.declared.rule.BlockRule.TheInside.{Inside}
use Rattle.nichols_value.specs.declared.rule.Upper.{Upper}
use Rattle.nichols_value.specs.contracts.rule.BlockRule.{the_invariant, the_view}
use Rattle.nichols_value.proofs.KeptRows.{row_of_each}
use Rattle.nichols_value.proofs.rule.BlockRule.derivative.Goals as goal

-- derivatives by a letter are over the words of a lower block by it
letter_is_below : (g : List ℕ) (basis : List (List ℕ)) (below : List (List (List ℕ))) (upper : Option Upper) (a k : ℕ) → MatchOption upper (Unit {0}) (λ u. IsUpperShaped basis below u.derivs.items u.left.items × AreEnds g below basis u.ends.items) → 1 ≤ a
    → k < length (by_letter (upper_or_none (option_map (λ u. upper_by basis below u.derivs.items u.left.items) upper)).derivs a) → a ≤ length below
letter_is_below g basis below None a k shape some place = absurd (omega arith)
letter_is_below g basis below (Some u) a k shape some place =
    let row = row_of_each below u.derivs.items (a - 1) k shape.0.derivs_forms place in omega (arith, row.list, some)

found : (inside : Inside) (now : PlainRule) (a k : ℕ) → the_view inside ≡ now → the_invariant inside → 1 ≤ a → k < length (derivs_in now a) → a ≤ length now.below
found inside now a k view holds some place = rw (← view) (letter_is_below inside.key.product inside.basis inside.below.items inside.upper a k holds.1 some (rw (← view) at place))

pub below-requires-clause-most : goal.below-requires-clause-most
below-requires-clause-most c = found c.self.inside c.args.self.now c.args.a c.args.k c.self.view_is c.self.invariant c.requires.some c.requires.place
