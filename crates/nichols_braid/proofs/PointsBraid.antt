-- The transpositions of k points are a rack under conjugation, and with the scalar -1 a braid.
use Rattle.std.proofs.Common.{◌≡◌, ℕ, ◌*◌, ◌≤◌, List, map, length, replicate, refl, sym, ◌∙◌, ap, ap₂, subst, arith}
use Rattle.std.specs.List.{flat_map}
use Rattle.std.specs.Prelude.{pos}
use Rattle.std.proofs.lemmas.List.{length-replicate}
use Rattle.nichols_field.specs.Field.{FieldValue, IsField, IsElement, prime_field, times}
use Rattle.nichols_field.proofs.OnNumerals.{field_on_numerals}
use Rattle.nichols_field.proofs.Given.{prime_is_field}
use Rattle.nichols_tensor.specs.Words.{IsLetterOf}
use Rattle.nichols_tensor.specs.declared.TheConstants.{LETTER_LIMIT}
use Rattle.nichols_braid.specs.Braid.{BraidValue, IsBraid, IsRack, IsCocycle, act, scalar}
use Rattle.nichols_braid.specs.Points.{points_braid}
use Rattle.nichols_braid.specs.PointsLaws.{IsTransposition}
use Rattle.nichols_braid.specs.Transpositions.{Transposition, conjugate, transpositions, number_in}
use Rattle.nichols_braid.proofs.Numbered.{none, at, number_of_entry, number_is_letter, entry_of_number, entry_is_there}
use Rattle.nichols_braid.proofs.OrderedPairs.{in_transpositions, from_transpositions, transpositions_rise}
use Rattle.nichols_braid.proofs.Tabled.{rows_length, entry_of_rows, entry_of_constant}
use Rattle.nichols_braid.proofs.Transposed.{conjugate_one_to_one, conjugates_distribute, conjugate_is_transposition}

-- ---- the letters of k points

-- how many letters there are
abbrev pub count : ℕ → ℕ
count k = length (transpositions k)

pub letters_are : (k : ℕ) → (points_braid k).letters ≡ count k
unfolding points_braid
letters_are k = refl

-- the transposition of a letter
abbrev pub of_letter : ℕ → ℕ → Transposition
of_letter k i = at (transpositions k) i

pub letter_for_transposition : (k : ℕ) (t : Transposition) → IsTransposition k t → IsLetterOf (count k) (number_in (transpositions k) t)
letter_for_transposition k t h = number_is_letter (transpositions k) (transpositions_rise k) t (in_transpositions k t h)

pub of_letter_for : (k : ℕ) (t : Transposition) → IsTransposition k t → of_letter k (number_in (transpositions k) t) ≡ t
of_letter_for k t h = entry_of_number (transpositions k) (transpositions_rise k) t (in_transpositions k t h)

pub letter_for_of : (k i : ℕ) → IsLetterOf (count k) i → number_in (transpositions k) (of_letter k i) ≡ i
letter_for_of k i l = number_of_entry (transpositions k) (transpositions_rise k) i l

pub of_letter_is : (k i : ℕ) → IsLetterOf (count k) i → IsTransposition k (of_letter k i)
of_letter_is k i l = from_transpositions k (of_letter k i) (entry_is_there (transpositions k) i l)

pub of_letter_one_to_one : (k i j : ℕ) → IsLetterOf (count k) i → IsLetterOf (count k) j → of_letter k i ≡ of_letter k j → i ≡ j
of_letter_one_to_one k i j l m e = sym (letter_for_of k i l) ∙ ap (number_in (transpositions k)) e ∙ letter_for_of k j m

-- ---- the rack

pub act_is : (k i j : ℕ) → IsLetterOf (count k) i → IsLetterOf (count k) j → act (points_braid k) i j ≡ number_in (transpositions k) (conjugate (of_letter k i) (of_letter k j))
unfolding points_braid
act_is k i j l m = entry_of_rows none (λ s t. number_in (transpositions k) (conjugate s t)) (count k) (transpositions k) i j refl l m

conjugate_is : (k i j : ℕ) → IsLetterOf (count k) i → IsLetterOf (count k) j → IsTransposition k (conjugate (of_letter k i) (of_letter k j))
conjugate_is k i j l m = conjugate_is_transposition k (of_letter k i) (of_letter k j) (of_letter_is k i l) (of_letter_is k j m)

pub act_is_letter : (k i j : ℕ) → IsLetterOf (count k) i → IsLetterOf (count k) j → IsLetterOf (count k) (act (points_braid k) i j)
act_is_letter k i j l m = subst (IsLetterOf (count k)) (sym (act_is k i j l m)) (letter_for_transposition k (conjugate (of_letter k i) (of_letter k j)) (conjugate_is k i j l m))

pub of_act : (k i j : ℕ) → IsLetterOf (count k) i → IsLetterOf (count k) j → of_letter k (act (points_braid k) i j) ≡ conjugate (of_letter k i) (of_letter k j)
of_act k i j l m = ap (of_letter k) (act_is k i j l m) ∙ of_letter_for k (conjugate (of_letter k i) (of_letter k j)) (conjugate_is k i j l m)

act_one_to_one : (k i j h : ℕ) → IsLetterOf (count k) i → IsLetterOf (count k) j → IsLetterOf (count k) h → act (points_braid k) i j ≡ act (points_braid k) i h → j ≡ h
act_one_to_one k i j h l m n e =
    of_letter_one_to_one k j h m n
    (conjugate_one_to_one (of_letter k i) (of_letter k j) (of_letter k h) (of_letter_is k j m).rising (of_letter_is k h n).rising (sym (of_act k i j l m) ∙ ap (of_letter k) e ∙ of_act k i h l n))

act_distributes : (k i j h : ℕ) → IsLetterOf (count k) i → IsLetterOf (count k) j → IsLetterOf (count k) h →
    act (points_braid k) i (act (points_braid k) j h) ≡ act (points_braid k) (act (points_braid k) i j) (act (points_braid k) i h)
act_distributes k i j h l m n =
    of_letter_one_to_one k (act (points_braid k) i (act (points_braid k) j h)) (act (points_braid k) (act (points_braid k) i j) (act (points_braid k) i h))
    (act_is_letter k i (act (points_braid k) j h) l (act_is_letter k j h m n))
    (act_is_letter k (act (points_braid k) i j) (act (points_braid k) i h) (act_is_letter k i j l m) (act_is_letter k i h l n))
    (of_act k i (act (points_braid k) j h) l (act_is_letter k j h m n)
    ∙ ap (conjugate (of_letter k i)) (of_act k j h m n)
    ∙ conjugates_distribute (of_letter k i) (of_letter k j) (of_letter k h)
    ∙ sym (ap₂ conjugate (of_act k i j l m) (of_act k i h l n))
    ∙ sym (of_act k (act (points_braid k) i j) (act (points_braid k) i h) (act_is_letter k i j l m) (act_is_letter k i h l n)))

pub points_rack : (k : ℕ) → IsRack (points_braid k)
points_rack k = record {
  closed = λ i j l m. subst (λ n. IsLetterOf n (act (points_braid k) i j)) (sym (letters_are k)) (act_is_letter k i j (here i l) (here j m));
  injective = λ i j h l m n e. act_one_to_one k i j h (here i l) (here j m) (here h n) e;
  distributive = λ i j h l m n. act_distributes k i j h (here i l) (here j m) (here h n);
}
  where
    here : (a : ℕ) → IsLetterOf (points_braid k).letters a → IsLetterOf (count k) a
    here a l = subst (λ n. IsLetterOf n a) (letters_are k) l

-- ---- the scalars

pub scalar_is : (k i j : ℕ) → IsLetterOf (count k) i → IsLetterOf (count k) j → scalar (points_braid k) i j ≡ 100
unfolding points_braid
scalar_is k i j l m = entry_of_constant (count k) 100 i j l m

pub points_field : (k : ℕ) → (points_braid k).field ≡ prime_field (pos 101)
unfolding points_braid
points_field k = refl

hundred_is_element : IsElement (prime_field (pos 101)) 100
unfolding field_on_numerals
hundred_is_element = omega arith

pub points_cocycle : (k : ℕ) → IsCocycle (points_braid k)
points_cocycle k = record {
  element = λ i j l m. subst (IsElement (points_braid k).field) (sym (scalar_is k i j (here i l) (here j m))) (subst (λ f. IsElement f 100) (sym (points_field k)) hundred_is_element);
  nonzero = λ i j l m e. let zero_is : 100 ≡ 0 = sym (scalar_is k i j (here i l) (here j m)) ∙ e in absurd (omega arith);
  law = λ i j h l m n.
      ap₂ (times (points_braid k).field) (scalar_is k i (act (points_braid k) j h) (here i l) (act_is_letter k j h (here j m) (here h n))) (scalar_is k j h (here j m) (here h n))
      ∙ sym (ap₂ (times (points_braid k).field) (scalar_is k (act (points_braid k) i j) (act (points_braid k) i h) (act_is_letter k i j (here i l) (here j m)) (act_is_letter k i h (here i l) (here h n))) (scalar_is k i h (here i l) (here h n)));
}
  where
    here : (a : ℕ) → IsLetterOf (points_braid k).letters a → IsLetterOf (count k) a
    here a l = subst (λ n. IsLetterOf n a) (letters_are k) l

-- ---- the braid

rack_size : (k : ℕ) → length (points_braid k).rack ≡ (points_braid k).letters * (points_braid k).letters
unfolding points_braid
rack_size k = rows_length (λ s t. number_in (transpositions k) (conjugate s t)) (transpositions k) (transpositions k)

cocycle_size : (k : ℕ) → length (points_braid k).cocycle ≡ (points_braid k).letters * (points_braid k).letters
unfolding points_braid
cocycle_size k = length-replicate (count k * count k) 100

pub is_braid_of_points : (k : ℕ) → 1 ≤ count k → count k ≤ LETTER_LIMIT → IsBraid (points_braid k)
is_braid_of_points k least most = record {
  field = subst IsField (sym (points_field k)) (prime_is_field (pos 101) refl);
  least = subst (λ n. 1 ≤ n) (sym (letters_are k)) least;
  most = subst (λ n. n ≤ LETTER_LIMIT) (sym (letters_are k)) most;
  rack_size = rack_size k;
  cocycle_size = cocycle_size k;
  rack = points_rack k;
  cocycle = points_cocycle k;
}

-- ---- the tables as they are made

fields : FieldValue → ℕ → List ℕ → List ℕ → BraidValue
fields f n rack cocycle = record { field = f; letters = n; rack = rack; cocycle = cocycle }

same_fields : (f g : FieldValue) (n m : ℕ) (rack table cocycle scalars : List ℕ) → f ≡ g → n ≡ m → rack ≡ table → cocycle ≡ scalars → fields f n rack cocycle ≡ fields g m table scalars
same_fields f g n m rack table cocycle scalars p q r s = cc

pub is_made : (k : ℕ) (f : FieldValue) (n : ℕ) (ts : List Transposition) (rack cocycle : List ℕ) → ts ≡ transpositions k → f ≡ prime_field (pos 101) → n ≡ length ts →
    rack ≡ flat_map (λ s. map (λ t. number_in ts (conjugate s t)) ts) ts → cocycle ≡ replicate (n * n) 100 →
    ◌≡◌ {A = BraidValue} (record { field = f; letters = n; rack = rack; cocycle = cocycle }) (points_braid k)
unfolding points_braid fields
is_made k f n ts rack cocycle e field size r s =
    let count_is : n ≡ count k = size ∙ ap length e in
    same_fields f (prime_field (pos 101)) n (count k) rack (points_braid k).rack cocycle (points_braid k).cocycle field count_is
    (r ∙ ap (λ us. flat_map (λ s. map (λ t. number_in us (conjugate s t)) us) us) e)
    (s ∙ ap (λ m. replicate (m * m) 100) count_is)
