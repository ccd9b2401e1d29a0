use Rattle.std.proofs.Common.{◌≡◌, ◌<◌, ℕ, true, false, List, Option, Some, None, MatchOption, length, sym, ◌∙◌, subst}
use Rattle.std.specs.Prelude.{is_some}
use Rattle.std.specs.List.{Contains}
use Rattle.nichols_tensor.specs.Positions.{word_at}
use Rattle.nichols_tensor.proofs.Rising.{word_at_is_in}
use Rattle.nichols_value.specs.Rule.{PlainRule}
use Rattle.nichols_value.specs.declared.rule.BlockRule.TheInside.{Inside}
use Rattle.nichols_value.specs.contracts.rule.BlockRule.{the_invariant, the_view}
use Rattle.nichols_value.proofs.LookedUp.{IsSearched, looked_basis, looked_form, looked_none, searched}
use Rattle.nichols_value.proofs.rule.BlockRule.look.Goals as goal

searched_by : (inside : Inside) (now : PlainRule) → the_view inside ≡ now → the_invariant inside → IsSearched now
searched_by inside now view holds = subst IsSearched view (searched _ _ _ _ _ _ holds.0)

-- a word that the search finds is in the basis, and one that it doesn't isn't
there : (words basis : List (List ℕ)) (w : List ℕ) (o : Option ℕ) → words ≡ basis → is_some o ≡ true → MatchOption o (Contains words w → ⊥) (λ k. (k < length words) × (word_at words k ≡ w)) → Contains basis w
there words basis w None same e h = cc
there words basis w (Some k) same e h = subst (λ ws. Contains ws w) same (subst (Contains words) h.1 (word_at_is_in words k h.0))

absent : (words basis : List (List ℕ)) (w : List ℕ) (o : Option ℕ) → words ≡ basis → is_some o ≡ false → MatchOption o (Contains words w → ⊥) (λ k. (k < length words) × (word_at words k ≡ w)) → Contains basis w → ⊥
absent words basis w None same e h i = h (subst (λ ws. Contains ws w) (sym same) i)
absent words basis w (Some k) same e h i = cc

pub returns-then-is_some : goal.returns-then-is_some
returns-then-is_some c = looked_basis c.args.self.now c.args.word.now (there c.basis.result.now c.args.self.now.basis c.args.word.now c.place_of.result c.basis.ensures.same (sym c.is_some.ensures ∙ c.if-is_some.true) c.place_of.ensures)

pub returns-in-Some : goal.returns-in-Some
returns-in-Some c =
    let (b, k, at) = c.in-Some.ensures in
    looked_form c.args.self.now (searched_by c.self.inside c.args.self.now c.self.view_is c.self.invariant) c.args.word.now c.in-Some.form b k
    (absent c.basis.result.now c.args.self.now.basis c.args.word.now c.place_of.result c.basis.ensures.same (sym c.is_some.ensures ∙ c.if-is_some.false) c.place_of.ensures) at

pub returns-in-None : goal.returns-in-None
returns-in-None c =
    looked_none c.args.self.now (searched_by c.self.inside c.args.self.now c.self.view_is c.self.invariant) c.args.word.now
    (absent c.basis.result.now c.args.self.now.basis c.args.word.now c.place_of.result c.basis.ensures.same (sym c.is_some.ensures ∙ c.if-is_some.false) c.place_of.ensures) c.in-None.ensures
