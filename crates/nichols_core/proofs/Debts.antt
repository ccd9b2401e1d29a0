-- Debts that pass from worker to worker keep the six laws.
use Rattle.std.proofs.Common.{◌≡◌, ℕ, Bool, true, false, cond, eqb, ◌||◌, List, refl, sym, ap, ◌∙◌, subst, eq-eqb, ne_eqb}
use Rattle.std.proofs.lemmas.Bool.{cond-true, cond-false, or_right}
use mathlib.Core.Logic.{dite}
use native.Mathlib.Decide.{ℕ_discrete}
use Rattle.nichols_core.specs.declared.edge.Edge.{Edge}
use Rattle.nichols_core.specs.Machine.{Machine}
use Rattle.nichols_core.specs.SixLaws.{SixLaws}
use Rattle.nichols_core.specs.Changes.{DebtsMayPass, take_over, AWorkerMayTakeOverDebts}

-- the law of ready blocks alone speaks of debts
other_debts : (es : List Edge) (m : Machine) (owes : ℕ → ℕ → Bool) → SixLaws es m → ((u b : ℕ) → m.owes u b ≡ true → (w : ℕ) × (owes w b ≡ true)) → SixLaws es (record m { owes = owes })
other_debts es m owes laws still = record {
  ready = λ b is. let r = laws.ready b is in still r.0 b r.1;
  parked = laws.parked;
  picked = laws.picked;
  laid = laws.laid;
  published = laws.published;
  untouched = laws.untouched;
}

pub debts_may_pass : DebtsMayPass
debts_may_pass es m n laws pass =
    let same : record m { owes = n.owes } ≡ n = λ i. record {
      stage = λ c. sym (pass.stages c) i;
      owes = n.owes;
      laid = λ j. sym (pass.laid j) i;
      picked = λ j. sym (pass.picked j) i;
    } in
    subst (SixLaws es) same (other_debts es m n.owes laws pass.owed)

-- whoever owed b, w owes it after taking over what v owes, or the debtor is another worker and still owes it
still_owed : (m : Machine) (w v u b : ℕ) → m.owes u b ≡ true → (x : ℕ) × ((take_over w v m).owes x b ≡ true)
still_owed m w v u b owes =
    let mine : m.owes w b || m.owes v b ≡ true → (x : ℕ) × ((take_over w v m).owes x b ≡ true) = λ h. (w, cond-true (eqb w w) (m.owes w b || m.owes v b) (cond (eqb w v) false (m.owes w b)) (eq-eqb w w refl) ∙ h) in
    dite (ℕ_discrete u w)
    (λ is. mine (ap (λ x. m.owes x b || m.owes v b) (sym is) ∙ ap (λ t. t || m.owes v b) owes))
    (λ not_w. dite (ℕ_discrete u v)
    (λ is. mine (or_right (m.owes w b) (m.owes v b) (ap (λ x. m.owes x b) (sym is) ∙ owes)))
    (λ not_v. (u, cond-false (eqb u w) (m.owes w b || m.owes v b) (cond (eqb u v) false (m.owes u b)) (ne_eqb u w not_w) ∙ (cond-false (eqb u v) false (m.owes u b) (ne_eqb u v not_v) ∙ owes))))

pub a_worker_may_take_over_debts : AWorkerMayTakeOverDebts
a_worker_may_take_over_debts es m w v laws = debts_may_pass es m (take_over w v m) laws record {
  owed = still_owed m w v;
  stages = λ c. refl;
  laid = λ j. refl;
  picked = λ j. refl;
}
