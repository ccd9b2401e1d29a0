-- The edges of a layout that go into a block stand together.
use Rattle.std.proofs.Common.{◌≡◌, inl, inr, ℕ, suc, ◌+◌, ◌*◌, ◌<◌, ◌≤◌, ◌↔◌, Bool, true, false, eqb, not, ◌&&◌, ◌||◌, List, length, refl, ap, ◌∙◌, subst, eq-eqb, arith}
use Rattle.std.specs.Prelude.{Option, Some, None}
use Rattle.std.specs.List.Sorted.{IsNonDecreasingBy}
use Rattle.std.proofs.lemmas.List.Sorted.{IsNonDecreasingBy-from_default}
use mathlib.Core.Logic.{dite}
use native.Mathlib.Decide.{ℕ_discrete, dec_le}
use Rattle.nichols_tensor.specs.declared.TheConstants.{LETTER_LIMIT}
use Rattle.nichols_core.specs.declared.edge.Edge.{Edge}
use Rattle.nichols_core.specs.Layout.{LayoutValue, IsLayout, IsBefore, no_edge, edge_at, edge_into, entry_place}
use Rattle.nichols_core.specs.Machine.{none_picked, all_picked}
use Rattle.nichols_core.specs.Conditions.{IsInto}
use Rattle.nichols_core.proofs.Stages.{every_false, true_every}
use Rattle.nichols_core.proofs.EdgesFound.{into_is}
use Rattle.nichols_core.proofs.Conditions.{true_or, true_nand}

place_before : (e f : Edge) → e.letter ≤ LETTER_LIMIT → IsBefore e f → entry_place e < entry_place f
place_before e f small (inl h) = omega arith
place_before e f small (inr h) = omega (arith, h.0, h.1)

upper_before : (e f : Edge) → IsBefore e f → e.upper ≤ f.upper
upper_before e f (inl h) = omega arith
upper_before e f (inr h) = omega (arith, h.0)

module _ (l : LayoutValue) (rules : IsLayout l) where
  small_letter : (k : ℕ) → k < length l.edges → (edge_at l.edges k).letter ≤ LETTER_LIMIT
  small_letter k inside = (rules.good.placed k no_edge inside).to_last

  places_rise : (j k : ℕ) → j < k → k < length l.edges → entry_place (edge_at l.edges j) < entry_place (edge_at l.edges k)
  places_rise j k less inside = place_before (edge_at l.edges j) (edge_at l.edges k) (small_letter j (omega arith)) (rules.rising j k less inside)

  pub entries_sorted : IsNonDecreasingBy entry_place l.edges
  entries_sorted =
      IsNonDecreasingBy-from_default entry_place l.edges no_edge
      (λ j k at_most inside. dite (ℕ_discrete j k)
      (λ same. let equal : entry_place (edge_at l.edges j) ≡ entry_place (edge_at l.edges k) = ap (λ i. entry_place (edge_at l.edges i)) same in omega arith)
      (λ other. let less = places_rise j k (omega arith) inside in omega arith))

  -- an edge of this letter into the block is the first one that stands no earlier
  module _ (b a n : ℕ) (before : (k : ℕ) → k < n → entry_place (edge_at l.edges k) < b * 256 + a)
      (rest : (k : ℕ) → n ≤ k → k < length l.edges → b * 256 + a ≤ entry_place (edge_at l.edges k)) where
    is_first : (k : ℕ) → IsInto l.edges b a k → k ≡ n
    is_first k is =
        let upper = is.upper in
        let letter = is.letter in
        let inside = is.inside in
        dite (dec_le (suc k) n)
        (λ earlier. let less = before k (omega arith) in absurd (omega arith))
        (λ late. dite (dec_le (suc n) k)
        (λ later. let first = rest n (omega arith) (omega arith) in let less = places_rise n k (omega arith) inside in absurd (omega arith))
        (λ early. omega arith))

    pub no_entry : (IsInto l.edges b a n → ⊥) → edge_into l.edges b a ≡ None
    no_entry never = at (edge_into l.edges b a) refl
      where
        at : (o : Option ℕ) → edge_into l.edges b a ≡ o → edge_into l.edges b a ≡ None
        at None is = is
        at (Some k) is = absurd (never (subst (IsInto l.edges b a) (is_first k (into_is l.edges b a k is)) (into_is l.edges b a k is)))

  pub uppers_sorted : IsNonDecreasingBy (λ (e : Edge). e.upper) l.edges
  uppers_sorted =
      IsNonDecreasingBy-from_default (λ (e : Edge). e.upper) l.edges no_edge
      (λ j k at_most inside. dite (ℕ_discrete j k)
      (λ same. let equal : (edge_at l.edges j).upper ≡ (edge_at l.edges k).upper = ap (λ i. (edge_at l.edges i).upper) same in omega arith)
      (λ other. upper_before (edge_at l.edges j) (edge_at l.edges k) (rules.rising j k (omega arith) inside)))

-- whether none of the edges into a block is picked, and whether all are, over the numbers that they have
module _ (es : List Edge) (b first end : ℕ) (bound : end ≤ length es)
    (entries : (k : ℕ) → k < length es → ((edge_at es k).upper ≡ b) ↔ ((first ≤ k) × (k < end))) (picked : ℕ → Bool) where
  pub none_picked_within : ((k : ℕ) → first ≤ k → k < end → picked k ≡ false) → none_picked es picked b ≡ true
  none_picked_within none =
      true_every (length es) (λ k. not (eqb (edge_at es k).upper b && picked k))
      (λ k inside. true_nand (edge_at es k).upper b (picked k) (λ upper. let at = (entries k inside).0 upper in none k at.0 at.1))

  pub one_picked_within : (k : ℕ) → first ≤ k → k < end → picked k ≡ true → none_picked es picked b ≡ false
  one_picked_within k late early is =
      every_false (length es) (λ j. not (eqb (edge_at es j).upper b && picked j)) k (omega arith)
      (ap (λ t. not (t && picked k)) (eq-eqb (edge_at es k).upper b ((entries k (omega arith)).1 (late, early))) ∙ ap not is)

  pub all_picked_within : ((k : ℕ) → first ≤ k → k < end → picked k ≡ true) → all_picked es picked b ≡ true
  all_picked_within all =
      true_every (length es) (λ k. not (eqb (edge_at es k).upper b) || picked k)
      (λ k inside. true_or (edge_at es k).upper b (picked k) (λ upper. let at = (entries k inside).0 upper in all k at.0 at.1))

  pub one_left_within : (k : ℕ) → first ≤ k → k < end → picked k ≡ false → all_picked es picked b ≡ false
  one_left_within k late early is =
      every_false (length es) (λ j. not (eqb (edge_at es j).upper b) || picked j) k (omega arith)
      (ap (λ t. not t || picked k) (eq-eqb (edge_at es k).upper b ((entries k (omega arith)).1 (late, early))) ∙ is)
