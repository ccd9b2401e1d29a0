-- What lies beyond the last degree that is made: the test, the forms where that degree is empty, and the answer.
use Rattle.std.proofs.Common.{◌≡◌, ℕ, zero, suc, ◌+◌, ◌<◌, ◌≤◌, ◌↔◌, IsTrue, Bool, true, false, not, nat_eq, nat_lt, List, [], ◌++◌, length, refl, sym, ◌∙◌, ap, ap₂, subst, arith, flat_map}
use Rattle.std.specs.Prelude.{◌&&◌, if◌then◌else◌}
use Rattle.std.specs.List.{range_with_len}
use Rattle.std.proofs.lemmas.Bool.{le-ltb, not-false}
use Rattle.std.proofs.lemmas.Bool.Decides.{Decides-eqb, Decides-ltb}
use Rattle.std.proofs.lemmas.List.{nil_from_length}
use Rattle.nichols_tensor.specs.Combination.{Combination, AllAmong}
use Rattle.nichols_tensor.specs.Parts.{part_of_degree, longest}
use Rattle.nichols_tensor.specs.Words.{IsOver}
use Rattle.nichols_tensor.proofs.Parts.{degree-part, over-part}
use Rattle.nichols_tensor.proofs.Tests.{same_answer}
use Rattle.nichols_braid.specs.Braid.{BraidValue, IsBraid}
use Rattle.nichols_braid.specs.End.{is_empty_degree}
use Rattle.nichols_braid.specs.Kernel.{Vanishing, is_killed}
use Rattle.nichols_braid.specs.Least.{basis, normal_form}
use Rattle.nichols_braid.specs.LeastLaws.{IsNormalForm}
use Rattle.nichols_braid.specs.LinearTest.{IsLinearTest}
use Rattle.nichols_braid.specs.WholeForm.{normal_form_by_parts}
use Rattle.nichols_braid.proofs.NormalForms.{form_is_normal}
use Rattle.nichols_reduce.specs.Normal.{is_beyond, normal_of}
use Rattle.nichols_reduce.specs.declared.answer.Normal.TheVariants.{Form, Beyond}
use Rattle.nichols_value.proofs.FormCells.{none_among}

-- ---- the test

same_test : (closed : Bool) (ws : List (List ℕ)) → IsTrue closed ↔ (ws ≡ []) → closed ≡ nat_eq (length ws) 0
same_test closed ws h = same_answer closed (nat_eq (length ws) 0) (λ t. (Decides-eqb (length ws) 0).1 (ap length (h.0 t))) (λ e. h.1 (nil_from_length ws ((Decides-eqb (length ws) 0).0 e)))

pub beyond_long : (braid : BraidValue) (last : ℕ) (f : Combination) (closed : Bool) → last < longest f → IsTrue closed ↔ (basis is_killed braid last ≡ []) → not closed ≡ is_beyond braid last f
unfolding is_beyond
beyond_long braid last f closed less h =
    ap not (same_test closed (basis is_killed braid last) h) ∙ ap (λ b. b && not (is_empty_degree is_killed braid last)) (sym ((Decides-ltb last (longest f)).1 less))

pub beyond_short : (braid : BraidValue) (last n : ℕ) (f : Combination) → n ≡ longest f → n ≤ last → nat_lt last n ≡ is_beyond braid last f
unfolding is_beyond
beyond_short braid last n f n_is more = le-ltb last n more ∙ ap (λ b. b && not (is_empty_degree is_killed braid last)) (sym (le-ltb last n more) ∙ ap (nat_lt last) n_is)

-- ---- degrees that are empty

-- in a degree that is empty each normal form is zero
pub form_in_empty_degree : (vanishes : Vanishing) (braid : BraidValue) → IsBraid braid → (m : ℕ) → IsLinearTest braid.field (vanishes braid m) → (f : Combination) → IsOver braid.letters f → basis vanishes braid m ≡ [] → normal_form vanishes braid m (part_of_degree m f) ≡ []
form_in_empty_degree vanishes braid is m l f over none =
    let n : IsNormalForm vanishes braid m (part_of_degree m f) (normal_form vanishes braid m (part_of_degree m f)) = form_is_normal vanishes braid is.field m l (part_of_degree m f) (degree-part m f) (over-part braid.letters (λ w. nat_eq (length w) m) f over) in
    none_among (normal_form vanishes braid m (part_of_degree m f)) (subst (AllAmong (normal_form vanishes braid m (part_of_degree m f))) none n.least)

pub nothing_from : (g : ℕ → Combination) (a n : ℕ) → ((j : ℕ) → a ≤ j → g j ≡ []) → flat_map g (range_with_len a n) ≡ []
nothing_from g a zero h = refl
nothing_from g a (suc n) h = ap₂ (λ x y. x ++ y) (h a (omega arith)) (nothing_from g (a + 1) n (λ j less. h j (omega arith)))

pub empty_where_long : (braid : BraidValue) (last : ℕ) (f : Combination) → is_beyond braid last f ≡ false → last < longest f → basis is_killed braid last ≡ []
unfolding is_beyond
empty_where_long braid last f h less =
    nil_from_length (basis is_killed braid last)
    ((Decides-eqb (length (basis is_killed braid last)) 0).0 (not-false (is_empty_degree is_killed braid last) (ap (λ b. b && not (is_empty_degree is_killed braid last)) (sym ((Decides-ltb last (longest f)).1 less)) ∙ h)))

-- ---- the answer

pub answer_beyond : (braid : BraidValue) (last n : ℕ) (f : Combination) → n ≡ last → is_beyond braid last f ≡ true → Beyond n ≡ normal_of braid last f
unfolding normal_of
answer_beyond braid last n f same h = ap Beyond same ∙ ap (λ b. if b then Beyond last else Form (normal_form_by_parts is_killed braid f)) (sym h)

pub answer_form : (braid : BraidValue) (last : ℕ) (f form : Combination) → is_beyond braid last f ≡ false → form ≡ normal_form_by_parts is_killed braid f → Form form ≡ normal_of braid last f
unfolding normal_of
answer_form braid last f form h same = ap Form same ∙ ap (λ b. if b then Beyond last else Form (normal_form_by_parts is_killed braid f)) (sym h)
