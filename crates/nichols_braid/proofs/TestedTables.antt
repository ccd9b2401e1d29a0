-- Tables without a fault are a braid.
use Rattle.std.proofs.Common.{◌≡◌, ◌≢◌, ℕ, zero, suc, ◌+◌, ◌-◌, ◌*◌, ◌<◌, ◌≤◌, Bool, true, false, cond, ◌&&◌, List, length, sym, arith, Some, None, inl, inr, nat_eq, nat_lt}
use Rattle.std.specs.List.{AllByRecursion}
use Rattle.std.proofs.lemmas.Bool.{cases_lt}
use Rattle.std.proofs.lemmas.Bool.Decides.{nat_tests, Decides-eqb}
use Rattle.std.proofs.lemmas.List.Elements.{All-from_recursion}
use Rattle.std.proofs.Math.Nat.{suc-mul, mul-le-mul}
use Rattle.nichols_field.specs.Field.{FieldValue, IsField, IsElement}
use Rattle.nichols_tensor.specs.Words.{IsLetterOf}
use Rattle.nichols_braid.specs.Braid.{BraidValue, entry, scalar, IsBraid}
use Rattle.nichols_braid.specs.Faults.{not_bijective, cocycle_zero, bijection_fault_at, bijection_fault, distributivity_fault_at, distributivity_fault, zero_fault_at, zero_fault, cocycle_fault_at, cocycle_fault}
use Rattle.nichols_braid.specs.Tables.{RackEntries, image, with_scalars, IsRackTable, IsCocycleTable}
use Rattle.nichols_braid.proofs.FirstAnswers.{no_triple_answers}
use Rattle.nichols_braid.proofs.FirstPlaces.{no_pair_answers}
use Rattle.nichols_braid.proofs.GivenRows.{passes}

-- ---- entries of tables

pub place_inside : (n i j : ℕ) → IsLetterOf n i → IsLetterOf n j → (i - 1) * n + (j - 1) < n * n
place_inside n zero j h k = absurd (omega arith)
place_inside n (suc i) j h k =
    let less : suc i * n ≤ n * n = mul-le-mul h.1 (omega arith) in
    let row : suc i * n ≡ i * n + n = suc-mul i n in
    let e : suc i - 1 ≡ i = omega arith in
    rw e (omega arith)

entry_all : (P : ℕ → Type 0) (n : ℕ) (table : List ℕ) → length table ≡ n * n → AllByRecursion P table → (i j : ℕ) → IsLetterOf n i → IsLetterOf n j → P (entry n table i j)
unfolding entry
entry_all P n table size all i j li lj =
    All-from_recursion P table all ((i - 1) * n + (j - 1)) 0 (let h : (i - 1) * n + (j - 1) < n * n = place_inside n i j li lj in omega arith)

-- ---- no fault at any letters

pub differ : (rack : RackEntries) (i j k : ℕ) → bijection_fault_at rack i j k ≡ None → j < k → image rack i j ≢ image rack i k
differ rack i j k none less same = at (nat_lt j k) (nat_eq (image rack i j) (image rack i k)) (let h : nat_lt j k ≡ true = grind (arith, nat_tests) in h) ((Decides-eqb (image rack i j) (image rack i k)).1 same) none
  where
    at : (b c : Bool) → b ≡ true → c ≡ true → cond (b && c) (Some (not_bijective i j k (image rack i j))) None ≡ None → ⊥
    at true true h k e = cc
    at true false h k e = cc
    at false c h k e = cc

injective_from : (rack : RackEntries) → bijection_fault rack ≡ None → (i j k : ℕ) → IsLetterOf rack.letters i → IsLetterOf rack.letters j → IsLetterOf rack.letters k → image rack i j ≡ image rack i k → j ≡ k
unfolding bijection_fault
injective_from rack none i j k li lj lk same =
    elim (cases_lt j k) [
      | inl less ↦ absurd (differ rack i j k (no_triple_answers rack.letters (bijection_fault_at rack) none i j k li lj lk) less same)
      | inr more ↦ elim (cases_lt k j) [
        | inl less ↦ absurd (differ rack i k j (no_triple_answers rack.letters (bijection_fault_at rack) none i k j li lk lj) less (sym same))
        | inr equal ↦ omega arith
      ]
    ]

distributive_from : (rack : RackEntries) → distributivity_fault rack ≡ None → (i j k : ℕ) → IsLetterOf rack.letters i → IsLetterOf rack.letters j → IsLetterOf rack.letters k →
    image rack i (image rack j k) ≡ image rack (image rack i j) (image rack i k)
unfolding distributivity_fault
distributive_from rack none i j k li lj lk =
    (Decides-eqb _ _).0 (passes (nat_eq (image rack i (image rack j k)) (image rack (image rack i j) (image rack i k))) _ (no_triple_answers rack.letters (distributivity_fault_at rack) none i j k li lj lk))

pub nonzero_at : (i j q : ℕ) → cond (nat_eq q 0) (Some (cocycle_zero i j)) None ≡ None → q ≢ 0
nonzero_at i j q none same = at (nat_eq q 0) ((Decides-eqb _ _).1 same) none
  where
    at : (b : Bool) → b ≡ true → cond b (Some (cocycle_zero i j)) None ≡ None → ⊥
    at true h e = cc
    at false h e = cc

nonzero_from : (braid : BraidValue) → zero_fault braid ≡ None → (i j : ℕ) → IsLetterOf braid.letters i → IsLetterOf braid.letters j → scalar braid i j ≢ 0
unfolding zero_fault
nonzero_from braid none i j li lj = nonzero_at i j (scalar braid i j) (no_pair_answers braid.letters (zero_fault_at braid) none i j li lj)

pub faultless_is_braid : (k : FieldValue) → IsField k → (rack : RackEntries) (cocycle : List ℕ) → IsRackTable rack → bijection_fault rack ≡ None → distributivity_fault rack ≡ None →
    IsCocycleTable k rack.letters cocycle → zero_fault (with_scalars k rack cocycle) ≡ None → cocycle_fault (with_scalars k rack cocycle) ≡ None → IsBraid (with_scalars k rack cocycle)
unfolding cocycle_fault
faultless_is_braid k is rack cocycle table bijective distributive scalars nonzero lawful =
    let braid : BraidValue = with_scalars k rack cocycle in
    record {
      field = is;
      least = table.least;
      most = table.most;
      rack_size = table.size;
      cocycle_size = scalars.size;
      rack = record {
        closed = entry_all (IsLetterOf rack.letters) rack.letters rack.entries table.size table.entries;
        injective = injective_from rack bijective;
        distributive = distributive_from rack distributive;
      };
      cocycle = record {
        element = entry_all (IsElement k) rack.letters cocycle scalars.size scalars.elements;
        nonzero = nonzero_from braid nonzero;
        law = λ i j l li lj ll. (Decides-eqb _ _).0 (passes _ _ (no_triple_answers rack.letters (cocycle_fault_at braid) lawful i j l li lj ll));
      };
    }
