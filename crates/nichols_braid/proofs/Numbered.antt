-- The numbers of transpositions in a list in lexicographic order.
use Rattle.std.proofs.Common.{◌≡◌, ◌≢◌, ℕ, suc, ◌+◌, ◌-◌, ◌<◌, ◌≤◌, Bool, true, false, ◌&&◌, nat_eq, List, length, get_or, Contains, refl, sym, ◌∙◌, ap, ap₂, subst, arith, inl, inr}
use Rattle.std.specs.Cmp.Derive.{both_true}
use Rattle.std.proofs.lemmas.Bool.{cases_order}
use Rattle.std.proofs.lemmas.Bool.Decides.{Decides-eqb}
use Rattle.std.proofs.lemmas.List.{get_or_default}
use Rattle.std.proofs.lemmas.List.Elements.{Contains-get_or}
use Rattle.std.proofs.lemmas.List.Sums.{position_or_len_is}
use Rattle.nichols_tensor.specs.Words.{IsLetterOf}
use Rattle.nichols_tensor.proofs.Rising.{AllOrdered}
use Rattle.nichols_braid.specs.PointsLaws.{IsBefore}
use Rattle.nichols_braid.specs.Transpositions.{Transposition, has_points_of, number_in}
use Rattle.nichols_braid.proofs.OrderedPairs.{ordered_at}

-- what is read outside a list
abbrev pub none : Transposition
none = record { first = 0; second = 0 }

-- the transposition of a letter
abbrev pub at : List Transposition → ℕ → Transposition
at ts i = get_or ts (i - 1) none

abbrev pair : ℕ → ℕ → Transposition
pair a b = record { first = a; second = b }

pub same_points : (s t : Transposition) → has_points_of s t ≡ true → s ≡ t
same_points s t e = by (nat_eq s.first t.first) (nat_eq s.second t.second) refl refl e
  where
    by : (p q : Bool) → nat_eq s.first t.first ≡ p → nat_eq s.second t.second ≡ q → (p && q) ≡ true → s ≡ t
    by true true f g h = let a : s.first ≡ t.first = (Decides-eqb s.first t.first).0 f in let b : s.second ≡ t.second = (Decides-eqb s.second t.second).0 g in ap₂ pair a b
    by true false f g h = cc
    by false q f g h = cc

pub has_own_points : (s t : Transposition) → s ≡ t → has_points_of s t ≡ true
has_own_points s t e = both_true ((Decides-eqb s.first t.first).1 (ap (λ u. u.first) e)) ((Decides-eqb s.second t.second).1 (ap (λ u. u.second) e))

pub other_points : (s t : Transposition) → s ≢ t → has_points_of s t ≡ false
other_points s t n = by (has_points_of s t) refl
  where
    by : (b : Bool) → has_points_of s t ≡ b → b ≡ false
    by true e = absurd (n (same_points s t e))
    by false e = refl

before_is_other : (s t : Transposition) → IsBefore s t → s ≢ t
before_is_other s t (inl less) e = let same : s.first ≡ t.first = ap (λ u. u.first) e in absurd (omega arith)
before_is_other s t (inr (f, less)) e = let same : s.second ≡ t.second = ap (λ u. u.second) e in absurd (omega arith)

before_one_way : (s t : Transposition) → IsBefore s t → IsBefore t s → ⊥
before_one_way s t (inl less) (inl more) = omega arith
before_one_way s t (inl less) (inr (e, more)) = omega arith
before_one_way s t (inr (f, less)) (inl more) = omega arith
before_one_way s t (inr (f, less)) (inr (e, more)) = omega arith

-- ---- numbers and entries

-- where no entry before passes, and the entry is the transposition, or the list has ended
pub number_at : (ts : List Transposition) (t : Transposition) (i : ℕ) → i ≤ length ts → ((k : ℕ) → k < i → has_points_of t (get_or ts k none) ≡ false) → (i < length ts → has_points_of t (get_or ts i none) ≡ true) → number_in ts t ≡ i + 1
unfolding number_in
number_at ts t i within before here = ap (λ n. n + 1) (position_or_len_is (has_points_of t) ts i none within before here)

-- the same as the search along the list makes it
pub number_found : (ts : List Transposition) (t u : Transposition) (i : ℕ) → i < length ts → ((k : ℕ) → k < i → has_points_of t (get_or ts k none) ≡ false) → u ≡ get_or ts i u → t.first ≡ u.first → t.second ≡ u.second →
    i + 1 ≡ number_in ts t
number_found ts t u i less before e first second =
    let there : u ≡ get_or ts i none = e ∙ sym (get_or_default ts i none u less) in
    sym (number_at ts t i (omega arith) before (λ _. ap (has_points_of t) (sym there) ∙ both_true ((Decides-eqb t.first u.first).1 first) ((Decides-eqb t.second u.second).1 second)))

pub number_beyond : (ts : List Transposition) (t : Transposition) (i : ℕ) → i ≡ length ts → ((k : ℕ) → k < i → has_points_of t (get_or ts k none) ≡ false) → length ts + 1 ≡ number_in ts t
number_beyond ts t i e before = ap (λ n. n + 1) (sym e) ∙ sym (number_at ts t i (omega arith) before (λ less. absurd (omega arith)))

-- the number of an entry
pub number_of_entry : (ts : List Transposition) → AllOrdered IsBefore ts → (i : ℕ) → IsLetterOf (length ts) i → number_in ts (at ts i) ≡ i
number_of_entry ts o i l =
    let h : (1 ≤ i) × (i ≤ length ts) = l in
    number_at ts (at ts i) (i - 1) (omega arith)
    (λ k less. other_points (at ts i) (get_or ts k none) (λ e. before_is_other (get_or ts k none) (at ts i) (ordered_at IsBefore ts k (i - 1) none o less (omega arith)) (sym e)))
    (λ less. has_own_points (at ts i) (at ts i) refl)
    ∙ (let e : i - 1 + 1 ≡ i = omega arith in e)

-- an entry's place is found
pub numbered : (ts : List Transposition) → AllOrdered IsBefore ts → (t : Transposition) → Contains ts t → (i : ℕ) × IsLetterOf (length ts) i × (at ts i ≡ t)
numbered ts o t (j, less, e) = (suc j, (omega arith, omega arith), ap (λ n. get_or ts n none) (let p : suc j - 1 ≡ j = omega arith in p) ∙ get_or_default ts j none t less ∙ e)

pub number_is_letter : (ts : List Transposition) → AllOrdered IsBefore ts → (t : Transposition) → Contains ts t → IsLetterOf (length ts) (number_in ts t)
number_is_letter ts o t c =
    let (i, l, e) = numbered ts o t c in
    let same : number_in ts t ≡ i = ap (number_in ts) (sym e) ∙ number_of_entry ts o i l in
    subst (IsLetterOf (length ts)) (sym same) l

pub entry_of_number : (ts : List Transposition) → AllOrdered IsBefore ts → (t : Transposition) → Contains ts t → at ts (number_in ts t) ≡ t
entry_of_number ts o t c =
    let (i, l, e) = numbered ts o t c in
    ap (λ u. at ts (number_in ts u)) (sym e) ∙ ap (at ts) (number_of_entry ts o i l) ∙ e

pub entry_is_there : (ts : List Transposition) (i : ℕ) → IsLetterOf (length ts) i → Contains ts (at ts i)
entry_is_there ts i l = let h : (1 ≤ i) × (i ≤ length ts) = l in Contains-get_or ts (i - 1) none (omega arith)

pub numbers_rise : (ts : List Transposition) → AllOrdered IsBefore ts → (s t : Transposition) → Contains ts s → Contains ts t → IsBefore s t → number_in ts s < number_in ts t
numbers_rise ts o s t c d before =
    let (i, l, e) = numbered ts o s c in
    let (j, m, f) = numbered ts o t d in
    let s_is : number_in ts s ≡ i = ap (number_in ts) (sym e) ∙ number_of_entry ts o i l in
    let t_is : number_in ts t ≡ j = ap (number_in ts) (sym f) ∙ number_of_entry ts o j m in
    let in_i : (1 ≤ i) × (i ≤ length ts) = l in
    let in_j : (1 ≤ j) × (j ≤ length ts) = m in
    elim (cases_order i j) [
      | inl same ↦ absurd (before_is_other s t before (sym e ∙ ap (at ts) same ∙ f))
      | inr (inl less) ↦ omega arith
      | inr (inr more) ↦
          let back : IsBefore (at ts j) (at ts i) = ordered_at IsBefore ts (j - 1) (i - 1) none o (omega arith) (omega arith) in
          absurd (before_one_way s t before (subst (λ u. IsBefore t u) e (subst (λ u. IsBefore u (at ts i)) f back)))
    ]
