use Rattle.std.proofs.Common.{◌≡◌, ◌<◌, ◌≤◌, ℕ, List, length, get_or, arith, inl, inr, ap, ◌∙◌, Err}
use Rattle.std.proofs.lemmas.Bool.{cases_lt, cases_eq}
use Rattle.std.proofs.lemmas.List.Sorted.{searched}
use Rattle.std.proofs.lemmas.List.{get_or_default}
use Rattle.std.specs.List.{Contains}
use Rattle.std.specs.List.Sorted.{IsStrictlyIncreasing}
use Rattle.nichols_echelon.proofs.Numbers.{rises}
use Rattle.nichols_echelon.proofs.numbering.number_of.Goals as goal

not_less : (columns : List ℕ) → IsStrictlyIncreasing columns → (i j : ℕ) → i ≤ j → j < length columns → get_or columns i 0 ≤ get_or columns j 0
not_less columns h i j l inside =
    elim (cases_eq i j) [
      | inl same ↦ let e : get_or columns i 0 ≡ get_or columns j 0 = ap (λ n. get_or columns n 0) same in omega arith
      | inr other ↦ let less : get_or columns i 0 < get_or columns j 0 = rises columns h i j (omega arith) inside in omega arith
    ]

-- a place to insert is no place where the column stands
nowhere : (columns : List ℕ) (x i : ℕ) → Contains columns x → (i ≤ length columns) × ((k : ℕ) → k < i → get_or columns k 0 < x) × ((k : ℕ) → i ≤ k → k < length columns → x < get_or columns k 0) → ⊥
nowhere columns x i listed m =
    let at : get_or columns listed.0 0 ≡ x = get_or_default columns listed.0 0 x listed.1 ∙ listed.2 in
    elim (cases_lt listed.0 i) [
      | inl before ↦ let l : get_or columns listed.0 0 < x = m.1 listed.0 before in omega arith
      | inr after ↦ let l : x < get_or columns listed.0 0 = m.2 listed.0 after listed.1 in omega arith
    ]

pub unreachable-requires : goal.unreachable-requires
unreachable-requires c = nowhere c.args.columns.now c.args.column c.in-Err.field-0 c.requires.listed (searched c.args.columns.now c.args.column (Err c.in-Err.field-0) c.in-Err.ensures.position (not_less c.args.columns.now c.requires.rising))
