-- The slots that are out with a pass.
use Rattle.std.proofs.Common.{◌≡◌, ℕ, ◌<◌, true, true≢false, not, ◌&&◌, List, [], ◌∷◌, refl, sym, ◌∙◌, Option, lt-ltb}
use Rattle.std.specs.Prelude.{is_some, nat_lt}
use Rattle.std.proofs.lemmas.Bool.{ltb-true, and_parts}
use Rattle.nichols_value.specs.declared.shared.Shared.{Shared}
use Rattle.nichols_shelf.specs.Lists.{is_in, noted_value}
use Rattle.nichols_shelf.specs.Places.{edge, edges}
use Rattle.nichols_shelf.specs.Out.{are_picked}
use Rattle.nichols_shelf.specs.Settled.{HoldsNothing}
use Rattle.nichols_shelf.specs.declared.view.View.{View}

-- what is known of the first of them
pub one_picked : (v : View) (x : ℕ × Option Shared) (xs : List (ℕ × Option Shared)) → are_picked v (x ∷ xs) ≡ true
    → (not (is_some x.1) ≡ true) × (x.0 < edges v.plan) × (is_some (noted_value x.0 v.picked) ≡ true) × (is_in (edge v.plan x.0).upper v.held ≡ true) × (are_picked v xs ≡ true)
one_picked v x xs h =
    let all = and_parts (not (is_some x.1) && (nat_lt x.0 (edges v.plan) && (is_some (noted_value x.0 v.picked) && is_in (edge v.plan x.0).upper v.held))) (are_picked v xs) h in
    let two = and_parts (not (is_some x.1)) (nat_lt x.0 (edges v.plan) && (is_some (noted_value x.0 v.picked) && is_in (edge v.plan x.0).upper v.held)) all.0 in
    let three = and_parts (nat_lt x.0 (edges v.plan)) (is_some (noted_value x.0 v.picked) && is_in (edge v.plan x.0).upper v.held) two.1 in
    let four = and_parts (is_some (noted_value x.0 v.picked)) (is_in (edge v.plan x.0).upper v.held) three.1 in
    (two.0, ltb-true x.0 (edges v.plan) three.0, four.0, four.1, all.1)

-- they stay so in a later view of the same plan, if what was noted and held of their edges still is
pub still_picked : (v v' : View) → v'.plan ≡ v.plan
    → ((k : ℕ) → k < edges v.plan → is_some (noted_value k v.picked) ≡ true → is_in (edge v.plan k).upper v.held ≡ true → (is_some (noted_value k v'.picked) ≡ true) × (is_in (edge v.plan k).upper v'.held ≡ true))
    → (xs : List (ℕ × Option Shared)) → are_picked v xs ≡ true → are_picked v' xs ≡ true
still_picked v v' plan still [] h = refl
still_picked v v' plan still (x ∷ xs) h =
    let a = one_picked v x xs h in
    let s = still x.0 a.1 a.2 a.3 in
    let rest = still_picked v v' plan still xs a.4 in
    (λ i. (a.0 i && (nat_lt x.0 (edges (plan i)) && (s.0 i && is_in (edge (plan i) x.0).upper v'.held))) && rest i)
    ∙ (λ i. (lt-ltb x.0 (edges v.plan) a.1 i && s.1 i) && true)

-- a pass that holds nothing has none out
pub none_out : (v : View) → HoldsNothing v → (xs : List (ℕ × Option Shared)) → are_picked v xs ≡ true → xs ≡ []
none_out v idle [] h = refl
none_out v idle (x ∷ xs) h = absurd (true≢false (sym (one_picked v x xs h).3 ∙ idle (edge v.plan x.0).upper))
