-- A crossing where the left end is greater keeps the closed form.
use Rattle.std.proofs.Common.{◌≡◌, ℕ, zero, suc, ◌<◌, Bool, true, false, cond, List, [], ◌∷◌, length, refl, sym, ◌∙◌, ap, ap₂, arith, nat_lt, nat_eq}
use Rattle.std.proofs.lemmas.Bool.Decides.{nat_tests}
use Rattle.std.specs.List.Sorted.{IsPermutation}
use Rattle.std.proofs.lemmas.List.Sorted.{IsPermutation-cons, IsPermutation-middle}
use Rattle.std.proofs.lemmas.Bool.{cond-true, cond-false, lt-ltb, le-ltb}
use Rattle.nichols_field.specs.Field.{FieldValue, times}
use Rattle.nichols_field.proofs.FieldLaws.{times_assoc}
use Rattle.nichols_field.proofs.FieldAlgebra.{swap_factors}
use Rattle.nichols_tensor.specs.Words.{IsWordOver}
use Rattle.nichols_braid.specs.Braid.{BraidValue, act, scalar, IsRack, IsCocycle}
use Rattle.nichols_braid.specs.Crossing.{cross, cross_scalar}
use Rattle.nichols_braid.specs.Lift.{exchanged_at, IsDescentAt}
use Rattle.nichols_lift.specs.ClosedForm.{Placed, acted_letter, acted_scalar, letters_at_ends, ended_scalar, letter_at}
use Rattle.nichols_lift.proofs.Acted.{placed, AllLetters, all_letters, none_placed, letters_at_ends-crossed, ended_scalar-crossed}

-- ---- what a crossing leaves

pub exchanged_length : (i : ℕ) (ends : List ℕ) → length (exchanged_at i ends) ≡ length ends
exchanged_length zero ends = refl
exchanged_length (suc zero) [] = refl
exchanged_length (suc zero) (a ∷ []) = refl
exchanged_length (suc zero) (a ∷ b ∷ ends) = refl
exchanged_length (suc (suc i)) [] = refl
exchanged_length (suc (suc i)) (a ∷ ends) = ap suc (exchanged_length (suc i) ends)

pub exchanged_is_permutation : (i : ℕ) (ends : List ℕ) → IsDescentAt i ends → IsPermutation ends (exchanged_at i ends)
exchanged_is_permutation zero ends h = absurd h
exchanged_is_permutation (suc zero) [] h = absurd h
exchanged_is_permutation (suc zero) (a ∷ []) h = absurd h
exchanged_is_permutation (suc zero) (a ∷ b ∷ ends) h = IsPermutation-middle (a ∷ []) b ends
exchanged_is_permutation (suc (suc i)) [] h = absurd h
exchanged_is_permutation (suc (suc i)) (a ∷ ends) h = IsPermutation-cons a ends (exchanged_at (suc i) ends) (exchanged_is_permutation (suc i) ends h)

-- ---- the crossed letters

-- the right letter, which the left one acts on
right_acted : (braid : BraidValue) (earlier : List Placed) (ea a eb b : ℕ) → eb < ea → acted_letter braid (placed ea a ∷ earlier) eb b ≡ acted_letter braid earlier eb (act braid a b)
right_acted braid earlier ea a eb b h = cond-true (nat_lt eb ea) (acted_letter braid earlier eb (act braid a b)) (acted_letter braid earlier eb b) (lt-ltb eb ea h)

right_scalar : (braid : BraidValue) (earlier : List Placed) (ea a eb b : ℕ) → eb < ea → acted_scalar braid (placed ea a ∷ earlier) eb b ≡ times braid.field (scalar braid a b) (acted_scalar braid earlier eb (act braid a b))
right_scalar braid earlier ea a eb b h = cond-true (nat_lt eb ea) (times braid.field (scalar braid a b) (acted_scalar braid earlier eb (act braid a b))) (acted_scalar braid earlier eb b) (lt-ltb eb ea h)

-- the left letter, which the right one, crossed, doesn't act on
left_acted : (braid : BraidValue) (earlier : List Placed) (ea a eb y : ℕ) → eb < ea → acted_letter braid (placed eb y ∷ earlier) ea a ≡ acted_letter braid earlier ea a
left_acted braid earlier ea a eb y h = cond-false (nat_lt ea eb) (acted_letter braid earlier ea (act braid y a)) (acted_letter braid earlier ea a) (le-ltb ea eb (omega (arith, h)))

left_scalar : (braid : BraidValue) (earlier : List Placed) (ea a eb y : ℕ) → eb < ea → acted_scalar braid (placed eb y ∷ earlier) ea a ≡ acted_scalar braid earlier ea a
left_scalar braid earlier ea a eb y h = cond-false (nat_lt ea eb) (times braid.field (scalar braid y a) (acted_scalar braid earlier ea (act braid y a))) (acted_scalar braid earlier ea a) (le-ltb ea eb (omega (arith, h)))

not_both : (ea eb e : ℕ) → eb < ea → nat_eq eb e ≡ true → nat_eq ea e ≡ true → ⊥
not_both ea eb e h t u = grind (arith, nat_tests)

swapped_tests : {X : Type 0} (t u : Bool) (x x' y y' r r' : X) → (t ≡ true → u ≡ true → ⊥) → x' ≡ x → y' ≡ y → r' ≡ r → cond t y (cond u x' r') ≡ cond u x (cond t y' r)
swapped_tests true true x x' y y' r r' h p q s = absurd (h refl refl)
swapped_tests true false x x' y y' r r' h p q s = sym q
swapped_tests false true x x' y y' r r' h p q s = p
swapped_tests false false x x' y y' r r' h p q s = s

-- ---- the step

-- at each place the letter is the same
pub crossed_letters : (braid : BraidValue) → IsRack braid → (earlier : List Placed) → AllLetters braid earlier → (i : ℕ) (ends w : List ℕ) → length w ≡ length ends → IsWordOver braid.letters w → IsDescentAt i ends → (e : ℕ) →
    letter_at (letters_at_ends braid earlier (exchanged_at i ends) (cross braid i w)) e ≡ letter_at (letters_at_ends braid earlier ends w) e
crossed_letters braid rack earlier all zero ends w same over h e = absurd h
crossed_letters braid rack earlier all (suc zero) [] w same over h e = absurd h
crossed_letters braid rack earlier all (suc zero) (ea ∷ []) w same over h e = absurd h
crossed_letters braid rack earlier all (suc zero) (ea ∷ eb ∷ ends) [] same over h e = absurd (omega arith)
crossed_letters braid rack earlier all (suc zero) (ea ∷ eb ∷ ends) (a ∷ []) same over h e = absurd (omega arith)
crossed_letters braid rack earlier all (suc zero) (ea ∷ eb ∷ ends) (a ∷ b ∷ w) same over h e =
    swapped_tests (nat_eq eb e) (nat_eq ea e) (acted_letter braid earlier ea a) (acted_letter braid (placed eb (act braid a b) ∷ earlier) ea a) (acted_letter braid earlier eb (act braid a b)) (acted_letter braid (placed ea a ∷ earlier) eb b)
    (letter_at (letters_at_ends braid (placed eb b ∷ placed ea a ∷ earlier) ends w) e) (letter_at (letters_at_ends braid (placed ea a ∷ placed eb (act braid a b) ∷ earlier) ends w) e)
    (not_both ea eb e h) (left_acted braid earlier ea a eb (act braid a b) h) (right_acted braid earlier ea a eb b h)
    (ap (λ r. letter_at r e) (sym (letters_at_ends-crossed braid rack [] earlier ea a eb b h over.0 over.1.0 (none_placed braid) ends w over.1.1)))
crossed_letters braid rack earlier all (suc (suc i)) [] w same over h e = absurd h
crossed_letters braid rack earlier all (suc (suc i)) (c ∷ ends) [] same over h e = absurd (omega arith)
crossed_letters braid rack earlier all (suc (suc i)) (c ∷ ends) (x ∷ w) same over h e =
    ap (cond (nat_eq c e) (acted_letter braid earlier c x)) (crossed_letters braid rack (placed c x ∷ earlier) (all_letters braid c x earlier over.0 all) (suc i) ends w (omega arith) over.1 h e)

-- the scalar of the crossing and the scalars that are met afterwards
pub crossed_scalars : (braid : BraidValue) → IsRack braid → IsCocycle braid → (earlier : List Placed) → AllLetters braid earlier → (i : ℕ) (ends w : List ℕ) → length w ≡ length ends → IsWordOver braid.letters w → IsDescentAt i ends →
    times braid.field (cross_scalar braid i w) (ended_scalar braid earlier (exchanged_at i ends) (cross braid i w)) ≡ ended_scalar braid earlier ends w
crossed_scalars braid rack cocycle earlier all zero ends w same over h = absurd h
crossed_scalars braid rack cocycle earlier all (suc zero) [] w same over h = absurd h
crossed_scalars braid rack cocycle earlier all (suc zero) (ea ∷ []) w same over h = absurd h
crossed_scalars braid rack cocycle earlier all (suc zero) (ea ∷ eb ∷ ends) [] same over h = absurd (omega arith)
crossed_scalars braid rack cocycle earlier all (suc zero) (ea ∷ eb ∷ ends) (a ∷ []) same over h = absurd (omega arith)
crossed_scalars braid rack cocycle earlier all (suc zero) (ea ∷ eb ∷ ends) (a ∷ b ∷ w) same over h =
    let k : FieldValue = braid.field in
    let x : ℕ = acted_scalar braid earlier ea a in
    let y : ℕ = acted_scalar braid earlier eb (act braid a b) in
    let r : ℕ = ended_scalar braid (placed eb b ∷ placed ea a ∷ earlier) ends w in
    ap₂ (λ m n. times k (scalar braid a b) (times k y (times k m n))) (left_scalar braid earlier ea a eb (act braid a b) h) (sym (ended_scalar-crossed braid rack cocycle [] earlier ea a eb b h over.0 over.1.0 (none_placed braid) ends w over.1.1))
    ∙ ap (times k (scalar braid a b)) (swap_factors k y x r)
    ∙ swap_factors k (scalar braid a b) x (times k y r)
    ∙ ap (times k x) (sym (times_assoc k (scalar braid a b) y r) ∙ ap (λ n. times k n r) (sym (right_scalar braid earlier ea a eb b h)))
crossed_scalars braid rack cocycle earlier all (suc (suc i)) [] w same over h = absurd h
crossed_scalars braid rack cocycle earlier all (suc (suc i)) (c ∷ ends) [] same over h = absurd (omega arith)
crossed_scalars braid rack cocycle earlier all (suc (suc i)) (c ∷ ends) (x ∷ w) same over h =
    swap_factors braid.field (cross_scalar braid (suc i) w) (acted_scalar braid earlier c x) (ended_scalar braid (placed c x ∷ earlier) (exchanged_at (suc i) ends) (cross braid (suc i) w))
    ∙ ap (times braid.field (acted_scalar braid earlier c x)) (crossed_scalars braid rack cocycle (placed c x ∷ earlier) (all_letters braid c x earlier over.0 all) (suc i) ends w (omega arith) over.1 h)
