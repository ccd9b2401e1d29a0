-- How far the dimensions of a cover have come.
use Rattle.std.proofs.Common.{◌≡◌, ◌<◌, ◌≤◌, ◌+◌, ◌*◌, ◌-◌, ◌^◌, ℕ, suc, zero, Bool, true, false, cond, nat_lt, List, [], ◌∷◌, ◌++◌, length, map, refl, sym, ◌∙◌, ap, ap₂, subst, arith, add-one}
use Rattle.std.specs.Prelude.{Option, Some, None, find, filter}
use Rattle.std.specs.Option.{option_map, option_or, unwrap_or}
use Rattle.std.specs.List.{range_with_len}
use Rattle.std.specs.declared.cmp.Ordering.TheVariants.{Less}
use Rattle.std.proofs.lemmas.Bool.Decides.{nat_tests}
use Rattle.std.proofs.lemmas.List.Folds.{find-append}
use Rattle.std.proofs.lemmas.List.FromFn.{map-range_with_len_more}
use Rattle.nichols_field.specs.Field.{FieldValue, IsField}
use Rattle.nichols_field.proofs.FieldLaws.{plus_zero, one_is_element}
use Rattle.nichols_tensor.specs.Combination.{AllAmong, AllElements, Combination, IsZero, minus, single}
use Rattle.nichols_tensor.specs.Span.{IsSpanned}
use Rattle.nichols_tensor.specs.WordOrder.{word_cmp}
use Rattle.nichols_tensor.specs.Words.{IsWordOver, words_before}
use Rattle.nichols_tensor.proofs.AllWords.{from_words_before}
use Rattle.nichols_tensor.proofs.Order.{less_is_other}
use Rattle.nichols_braid.specs.Least.{is_least}
use Rattle.nichols_braid.proofs.Candidates.{candidates_first}
use Rattle.nichols_braid.proofs.Congruences.{AreCongruent}
use Rattle.nichols_braid.proofs.LeastLaws.{basis_is_among_candidates}
use Rattle.nichols_braid.proofs.LeastWords.{least_unless}
use Rattle.nichols_cover.specs.declared.level.Level.{Level}
use Rattle.nichols_cover.specs.Cover.{CoverValue, candidate_count, cover_dimension, cover_of, first_wide, without_tables}
use Rattle.nichols_cover.specs.Ideal.{IsBetween, in_ideal}
use Rattle.nichols_cover.specs.Level.{StandsFor}
use Rattle.nichols_cover.proofs.InIdeal.{ideal_is_decided, ideal_is_right_ideal}

-- ---- degree 0

-- the ideal has nothing there
nothing_spanned : (k : FieldValue) (n : ℕ) (R : Combination → Type 0) (f : Combination) → IsSpanned k (IsBetween n R 0) f → IsZero k f
nothing_spanned k n R _ (IsSpanned.none f nothing) = nothing
nothing_spanned k n R _ (IsSpanned.more f c g h b s e) = let size : length b.front + 2 + length b.back ≡ 0 = b.size in absurd (omega arith)

empty_word_is_least : (k : FieldValue) → IsField k → (n : ℕ) (rs : List Combination) → is_least (in_ideal rs) (without_tables k n) [] ≡ true
unfolding AllAmong
empty_word_is_least k is n rs = least_unless (in_ideal rs) (without_tables k n) [] none
  where
    not_before : (w : List ℕ) → length w ≡ 0 → word_cmp w [] ≡ Less → ⊥
    not_before [] e less = less_is_other [] [] less refl
    not_before (x ∷ w) e less = omega arith

    none : (f : Combination) → AllAmong f (words_before n []) → AllElements k f → AreCongruent k (in_ideal rs (without_tables k n) 0) (single []) f → ⊥
    none (t ∷ f) among elements h =
        let from : (length t.word ≡ 0) × IsWordOver n t.word × (word_cmp t.word [] ≡ Less) = from_words_before n t.word [] among.0 in
        not_before t.word from.0 from.2
    none [] among elements h =
        let zero : IsZero k (minus k (single []) []) = nothing_spanned k n _ (minus k (single []) []) ((ideal_is_decided rs (without_tables k n) is 0 (minus k (single []) [])).0 h) in
        let c : ◌≡◌ {A = ℕ} 1 0 = sym (plus_zero k 1 (one_is_element k is)) ∙ zero [] in
        cc

-- the empty word, if it is least
kept : Bool → List (List ℕ)
kept b = cond b ([] ∷ []) []

pub first_dimension : (k : FieldValue) → IsField k → (n : ℕ) (rs : List Combination) → cover_dimension k n rs 0 ≡ 1
unfolding cover_dimension kept
first_dimension k is n rs =
    ap length (basis_is_among_candidates (in_ideal rs) (without_tables k n) is (ideal_is_right_ideal rs (without_tables k n) is) 0 ∙ ap (filter (is_least (in_ideal rs) (without_tables k n))) (candidates_first (in_ideal rs) (without_tables k n)))
    ∙ ap (λ (b : Bool). length (kept b)) (empty_word_is_least k is n rs)

pub lowest_stands : (k : FieldValue) → IsField k → (n : ℕ) (rs : List Combination) (level : Level) → level.below ≡ 0 → level.count ≡ 1 → level.forms.rows ≡ [] → StandsFor k n rs 0 level
lowest_stands k is n rs level below count forms = record {
  below = below;
  count = count ∙ sym (first_dimension k is n rs);
  rows = ap length forms ∙ sym (ap (λ b. b * n) below ∙ (let e : 0 * n ≡ 0 = omega arith in e));
  few = subst (λ c. c < 2 ^ 32) (sym (ap length forms)) (omega arith);
  forms = λ j less. absurd (let none : length level.forms.rows ≡ 0 = ap length forms in omega arith);
}

-- ---- the degrees that are done

-- the dimensions up to a degree, none of which has more candidates than the limit
pub record AreCovered (k : FieldValue) (n : ℕ) (rs : List Combination) (limit m : ℕ) (dimensions : List ℕ) : Type 0 where
  pub all : dimensions ≡ map (cover_dimension k n rs) (range_with_len 0 (m + 1))
  pub narrow : find (λ d. nat_lt limit (candidate_count k n rs d)) (range_with_len 1 m) ≡ None

range-append : (a x y : ℕ) → range_with_len a (x + y) ≡ range_with_len a x ++ range_with_len (a + x) y
range-append a zero y = ap₂ range_with_len (let e : a ≡ a + 0 = omega arith in e) (let e : 0 + y ≡ y = omega arith in e)
range-append a (suc x) y =
    ap (range_with_len a) (let e : suc x + y ≡ suc (x + y) = omega arith in e) ∙ ap (λ xs. a ∷ xs) (range-append (a + 1) x y ∙ ap (λ b. range_with_len (a + 1) x ++ range_with_len b y) (let e : a + 1 + x ≡ a + suc x = omega arith in e))

pub covered_start : (k : FieldValue) → IsField k → (n : ℕ) (rs : List Combination) (limit : ℕ) (dimensions : List ℕ) → dimensions ≡ 1 ∷ [] → AreCovered k n rs limit 0 dimensions
covered_start k is n rs limit dimensions one = record { all = one ∙ ap (λ d. d ∷ []) (sym (first_dimension k is n rs)); narrow = refl }

count_at : (k : FieldValue) (n : ℕ) (rs : List Combination) (m count : ℕ) → count ≡ cover_dimension k n rs m * n → candidate_count k n rs (1 + m) ≡ count
count_at k n rs m count is =
    ap (λ d. n * cover_dimension k n rs d) (let e : 1 + m - 1 ≡ m = omega arith in e) ∙ (let e : n * cover_dimension k n rs m ≡ cover_dimension k n rs m * n = omega arith in e) ∙ sym is

pub covered_more : (k : FieldValue) (n : ℕ) (rs : List Combination) (limit m count next : ℕ) (old new : List ℕ) → count ≡ cover_dimension k n rs m * n → count ≤ limit → next ≡ cover_dimension k n rs (suc m) → new ≡ old ++ next ∷ [] → AreCovered k n rs limit m old →
    AreCovered k n rs limit (m + 1) new
covered_more k n rs limit m count next old new count_is within next_is pushed before = record {
  all = pushed ∙ ap₂ (λ (xs : List ℕ) (d : ℕ). xs ++ d ∷ []) before.all (next_is ∙ ap (cover_dimension k n rs) (sym (add-one m)))
      ∙ sym (map-range_with_len_more (cover_dimension k n rs) 0 (m + 1) (m + 1) (let e : 0 + (m + 1) ≡ m + 1 = omega arith in e));
  narrow = ap (find wide) (range-append 1 m 1) ∙ find-append wide (range_with_len 1 m) (range_with_len (1 + m) 1) ∙ ap (λ o. option_or o (find wide (range_with_len (1 + m) 1))) before.narrow ∙ none;
}
  where
    wide : ℕ → Bool
    wide d = nat_lt limit (candidate_count k n rs d)

    none : find (λ d. nat_lt limit (candidate_count k n rs d)) ((1 + m) ∷ []) ≡ None
    none = ap (λ b. cond b (Some (1 + m)) None) (ap (nat_lt limit) (count_at k n rs m count count_is) ∙ (let e : nat_lt limit count ≡ false = grind (arith, nat_tests) in e))

-- the cover, from the first degree that is too wide
abbrev ended : FieldValue → ℕ → List Combination → ℕ → Option ℕ → CoverValue
ended k n rs through first = record {
  dimensions = map (cover_dimension k n rs) (range_with_len 0 (unwrap_or first (suc through)));
  stop = option_map (λ m. record { degree = m; count = candidate_count k n rs m }) first;
}

pub covered_end : (k : FieldValue) (n : ℕ) (rs : List Combination) (limit through : ℕ) (dimensions : List ℕ) → AreCovered k n rs limit through dimensions → record { dimensions = dimensions; stop = None } ≡ cover_of k n rs through limit
unfolding cover_of first_wide
covered_end k n rs limit through dimensions done =
    ap (λ (xs : List ℕ). record { dimensions = xs; stop = None }) (done.all ∙ ap (λ l. map (cover_dimension k n rs) (range_with_len 0 l)) (add-one through)) ∙ sym (ap (ended k n rs through) done.narrow)

pub covered_stop : (k : FieldValue) (n : ℕ) (rs : List Combination) (limit through m count : ℕ) (dimensions : List ℕ) → count ≡ cover_dimension k n rs m * n → limit < count → m < through → AreCovered k n rs limit m dimensions →
    record { dimensions = dimensions; stop = Some (record { degree = m + 1; count = count }) } ≡ cover_of k n rs through limit
unfolding cover_of first_wide
covered_stop k n rs limit through m count dimensions count_is over less done =
    ap₂ (λ (xs : List ℕ) (d : ℕ). record { dimensions = xs; stop = Some (record { degree = d; count = count }) }) (done.all ∙ ap (λ l. map (cover_dimension k n rs) (range_with_len 0 l)) turn) turn
    ∙ ap (λ c. record { dimensions = map (cover_dimension k n rs) (range_with_len 0 (1 + m)); stop = Some (record { degree = 1 + m; count = c }) }) (sym (count_at k n rs m count count_is))
    ∙ sym (ap (ended k n rs through) first)
  where
    wide : ℕ → Bool
    wide d = nat_lt limit (candidate_count k n rs d)

    turn : m + 1 ≡ 1 + m
    turn = omega arith

    rest : ℕ
    rest = through - (m + 1)

    here : find (λ d. nat_lt limit (candidate_count k n rs d)) (range_with_len (1 + m) (suc (through - (m + 1)))) ≡ Some (1 + m)
    here =
        ap (λ b. cond b (Some (1 + m)) (find wide (range_with_len (1 + m + 1) rest)))
        (ap (nat_lt limit) (count_at k n rs m count count_is) ∙ (let e : nat_lt limit count ≡ true = grind (arith, nat_tests) in e))

    first : find (λ d. nat_lt limit (candidate_count k n rs d)) (range_with_len 1 through) ≡ Some (1 + m)
    first =
        ap (λ l. find wide (range_with_len 1 l)) (let e : through ≡ m + suc (through - (m + 1)) = omega arith in e) ∙ ap (find wide) (range-append 1 m (suc rest))
        ∙ find-append wide (range_with_len 1 m) (range_with_len (1 + m) (suc rest)) ∙ ap₂ option_or done.narrow here
