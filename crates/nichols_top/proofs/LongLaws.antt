-- The long expression that is told is the first.
use Rattle.std.proofs.Common.{◌≡◌, ℕ, suc, ◌+◌, ◌<◌, Bool, true, false, cond, List, [], ◌∷◌, ◌++◌, length, refl, sym, ◌∙◌, ap, subst, arith, Some, None, nat_lt, inl, inr}
use Rattle.std.specs.Prelude.{◌⊎◌}
use Rattle.std.proofs.lemmas.Bool.{false_from_ne_true}
use Rattle.std.proofs.lemmas.Bool.Decides.{nat_tests}
use Rattle.nichols_tensor.specs.Combination.{Combination, Term}
use Rattle.nichols_tensor.proofs.Entries.{any_of, contains_cases, contains_first, contains_later, contains_none, some_of}
use Rattle.nichols_lift.specs.declared.TheConstants.{PLACE_LIMIT}
use Rattle.nichols_top.specs.Symmetrize.{first_long, is_long}
use Rattle.nichols_top.specs.Laws.{AreShort, IsFirstLong, IsLong, LongExpressionsAreFirst}

-- the test of one expression
long_is : (f : Combination) → is_long f ≡ true → IsLong f
long_is f e =
    let (t, i, above) = some_of (λ (s : Term). nat_lt PLACE_LIMIT (length s.word)) f e in
    let many : PLACE_LIMIT < length t.word = grind (arith, nat_tests) in
    (t, i, many)

is_long_if : (f : Combination) → IsLong f → is_long f ≡ true
is_long_if f (t, i, many) = any_of (λ (s : Term). nat_lt PLACE_LIMIT (length s.word)) t f i (grind (arith, nat_tests))

-- where the search begins with a number, it tells none, or the number of the first long expression
first_or_none : (from : ℕ) (fs : List Combination) → ((first_long from fs ≡ None) × AreShort fs) ⊎ ((k : ℕ) × (first_long from fs ≡ Some (from + k)) × IsFirstLong fs (suc k))
unfolding first_long
first_or_none from [] = inl (refl, λ f i long. contains_none f i)
first_or_none from (f ∷ fs) = at (is_long f) refl (first_or_none (suc from) fs)
  where
    at : (b : Bool) → is_long f ≡ b → ((first_long (suc from) fs ≡ None) × AreShort fs) ⊎ ((k : ℕ) × (first_long (suc from) fs ≡ Some (suc from + k)) × IsFirstLong fs (suc k)) →
        ((cond b (Some from) (first_long (suc from) fs) ≡ None) × AreShort (f ∷ fs)) ⊎ ((k : ℕ) × (cond b (Some from) (first_long (suc from) fs) ≡ Some (from + k)) × IsFirstLong (f ∷ fs) (suc k))
    at true e rest =
        let here : from ≡ from + 0 = omega arith in
        inr (0, ap Some here, record { before = []; expression = f; behind = fs; listed = refl; short = λ g i long. contains_none g i; long = long_is f e; place = refl })
    at false e (inl (none, short)) = inl (
      none,
      λ g i long. elim (contains_cases f fs g i) [
        | inl same ↦ let c : true ≡ false = sym (is_long_if f (subst IsLong same long)) ∙ e in cc
        | inr later ↦ short g later long
      ],
    )
    at false e (inr (k, found, first)) =
        let next : suc from + k ≡ from + suc k = omega arith in
        inr (
          suc k,
          found ∙ ap Some next,
          record {
            before = f ∷ first.before;
            expression = first.expression;
            behind = first.behind;
            listed = ap (λ gs. f ∷ gs) first.listed;
            short = λ g i long. elim (contains_cases f first.before g i) [
              | inl same ↦ let c : true ≡ false = sym (is_long_if f (subst IsLong same long)) ∙ e in cc
              | inr later ↦ first.short g later long
            ];
            long = first.long;
            place = omega (arith, first.place);
          },
        )

-- and back
passes : (from : ℕ) (before : List Combination) (f : Combination) (behind : List Combination) → AreShort before → IsLong f → first_long from (before ++ f ∷ behind) ≡ Some (from + length before)
unfolding first_long
passes from [] f behind short long =
    let here : from ≡ from + length {A = Combination} [] = omega arith in
    ap (λ b. cond b (Some from) (first_long (suc from) behind)) (is_long_if f long) ∙ ap Some here
passes from (g ∷ before) f behind short long =
    let next : suc from + length before ≡ from + length (g ∷ before) = omega arith in
    let here : is_long g ≡ false = false_from_ne_true (is_long g) (λ e. short g (contains_first g before) (long_is g e)) in
    ap (λ b. cond b (Some from) (first_long (suc from) (before ++ f ∷ behind))) here ∙ passes (suc from) before f behind (λ h i. short h (contains_later g before h i)) long ∙ ap Some next

passes_all : (from : ℕ) (fs : List Combination) → AreShort fs → first_long from fs ≡ None
unfolding first_long
passes_all from [] short = refl
passes_all from (f ∷ fs) short =
    let here : is_long f ≡ false = false_from_ne_true (is_long f) (λ e. short f (contains_first f fs) (long_is f e)) in
    ap (λ b. cond b (Some from) (first_long (suc from) fs)) here ∙ passes_all (suc from) fs (λ g i. short g (contains_later f fs g i))

first_is : (fs : List Combination) (number : ℕ) → first_long 1 fs ≡ Some number → IsFirstLong fs number
first_is fs number e =
    elim (first_or_none 1 fs) [
      | inl (none, short) ↦ let c : None ≡ Some number = sym none ∙ e in cc
      | inr (k, found, first) ↦ let same : 1 + k ≡ number = (let t : Some (1 + k) ≡ Some number = sym found ∙ e in cc) in let next : suc k ≡ number = omega arith in subst (IsFirstLong fs) next first
    ]

number_is : (fs : List Combination) (number : ℕ) → IsFirstLong fs number → first_long 1 fs ≡ Some number
number_is fs number first =
    let same : 1 + length first.before ≡ number = omega (arith, first.place) in
    ap (first_long 1) first.listed ∙ passes 1 first.before first.expression first.behind first.short first.long ∙ ap Some same

none_is : (fs : List Combination) → first_long 1 fs ≡ None → AreShort fs
none_is fs e =
    elim (first_or_none 1 fs) [
      | inl (none, short) ↦ short
      | inr (k, found, first) ↦ let c : None ≡ Some (1 + k) = sym e ∙ found in cc
    ]

pub long_expressions_are_first : LongExpressionsAreFirst
long_expressions_are_first fs = record { number = λ number. (first_is fs number, number_is fs number); none = (none_is fs, passes_all 1 fs) }
