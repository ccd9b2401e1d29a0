-- The number of least words, and the dimension of what is zero in the algebra.
use Rattle.std.proofs.Common.{◌≡◌, ◌↔◌, ℕ, ◌+◌, ◌^◌, ◌≤◌, Bool, true, false, not, cond, List, [], ◌∷◌, map, length, refl, sym, ◌∙◌, ap, ap₂, subst, arith, inl, inr}
use Rattle.std.specs.List.{filter, AllByRecursion, Contains}
use Rattle.std.proofs.lemmas.Bool.{cases_lt, not-true}
use Rattle.std.proofs.lemmas.List.{length-map}
use Rattle.std.proofs.lemmas.List.Filters.{length-filter_both}
use Rattle.nichols_field.specs.Field.{FieldValue, IsField, plus, times, negative}
use Rattle.nichols_field.proofs.FieldLaws.{plus_zero, times_zero, times_one, one_is_element}
use Rattle.nichols_field.proofs.FieldAlgebra.{zero_plus, zero_times}
use Rattle.nichols_tensor.specs.Combination.{Combination, value_at, HasSameValues, IsZero, AllAmong, single, scalar_multiple, minus, words_of}
use Rattle.nichols_tensor.specs.Parts.{part}
use Rattle.nichols_tensor.specs.Words.{IsWordOver, IsOver, HasDegree, words}
use Rattle.nichols_tensor.specs.WordOrder.{IsRising}
use Rattle.nichols_tensor.proofs.AllWords.{in_words, from_words, words_length, words_rise}
use Rattle.nichols_tensor.proofs.Entries.{contains_none, contains_first, contains_later, contains_cases, in_filter, from_filter}
use Rattle.nichols_tensor.proofs.Order.{less_is_other}
use Rattle.nichols_tensor.proofs.Ordered.{is_in_or_not, zero_at_others}
use Rattle.nichols_tensor.proofs.Over.{all-append, all-scalar_multiple, all_at, all_of_words}
use Rattle.nichols_tensor.proofs.Rising.{rising-filter, stands_after}
use Rattle.nichols_tensor.proofs.Values.{value_is_element, value_at-minus, value_at-part, same_itself}
use Rattle.nichols_braid.specs.Braid.{BraidValue}
use Rattle.nichols_braid.specs.Kernel.{Vanishing}
use Rattle.nichols_braid.specs.Least.{is_least, basis, normal_form}
use Rattle.nichols_braid.specs.LeastLaws.{IsNormalForm}
use Rattle.nichols_braid.specs.LinearTest.{IsLinearTest}
use Rattle.nichols_braid.proofs.Degrees.{minus_degree, minus_over}
use Rattle.nichols_braid.proofs.Independence.{basis_is_independent}
use Rattle.nichols_braid.proofs.NormalForms.{form_is_normal}
use Rattle.nichols_braid.proofs.Reduction.{in_basis, from_basis}
use Rattle.nichols_tensor.specs.Span.{weighted_sum, IsIndependent, IsGreatestNumber}
use Rattle.nichols_cover.proofs.Shapes.{least_degree, least_over}
use Rattle.nichols_tensor.proofs.Dependent.{sum_is_zero, dependence}
use Rattle.nichols_tensor.proofs.Spans.{value_of_more}

-- f of degree m over the letters is zero in the algebra
abbrev pub IsZeroInDegree : Vanishing → BraidValue → ℕ → Combination → Type 0
IsZeroInDegree vanishes braid m f = HasDegree m f × IsOver braid.letters f × (vanishes braid m f ≡ true)

-- ---- the words that aren't least

others : Vanishing → BraidValue → ℕ → List (List ℕ)
others vanishes braid m = filter (λ w. not (is_least vanishes braid w)) (words braid.letters m)

from_others : (vanishes : Vanishing) (braid : BraidValue) (m : ℕ) (w : List ℕ) → Contains (others vanishes braid m) w → (length w ≡ m) × IsWordOver braid.letters w × (is_least vanishes braid w ≡ false)
unfolding others
from_others vanishes braid m w i =
    let (j, e) = from_filter (λ w. not (is_least vanishes braid w)) w (words braid.letters m) i in
    let own : (length w ≡ m) × IsWordOver braid.letters w = from_words braid.letters m w j in
    (own.0, own.1, not-true (is_least vanishes braid w) e)

both_count : (vanishes : Vanishing) (braid : BraidValue) (m : ℕ) → length (basis vanishes braid m) + length (others vanishes braid m) ≡ braid.letters ^ m
unfolding basis others
both_count vanishes braid m = length-filter_both (is_least vanishes braid) (λ w. not (is_least vanishes braid w)) (λ w. refl) (words braid.letters m) ∙ words_length braid.letters m

-- ---- as many that are independent

difference : Vanishing → BraidValue → ℕ → List ℕ → Combination
difference vanishes braid m w = minus braid.field (single w) (normal_form vanishes braid m (single w))

difference_is_zero : (vanishes : Vanishing) (braid : BraidValue) → IsField braid.field → (m : ℕ) → IsLinearTest braid.field (vanishes braid m) → (w : List ℕ) → length w ≡ m → IsWordOver braid.letters w → IsZeroInDegree vanishes braid m (difference vanishes braid m w)
unfolding difference AllAmong
difference_is_zero vanishes braid is m l w size over =
    let n : IsNormalForm vanishes braid m (single w) (normal_form vanishes braid m (single w)) = form_is_normal vanishes braid is m l (single w) (size, tt) (over, tt) in (
      minus_degree braid.field m (single w) (normal_form vanishes braid m (single w)) (size, tt) (least_degree vanishes braid m (normal_form vanishes braid m (single w)) n.least),
      minus_over braid.field braid.letters (single w) (normal_form vanishes braid m (single w)) (over, tt) (least_over vanishes braid m (normal_form vanishes braid m (single w)) n.least),
      n.congruent,
    )

-- at a word that isn't least the difference of w has the value of w
difference_value : (vanishes : Vanishing) (braid : BraidValue) → IsField braid.field → (m : ℕ) → IsLinearTest braid.field (vanishes braid m) → (w v : List ℕ) → length w ≡ m → IsWordOver braid.letters w → is_least vanishes braid v ≡ false →
    value_at braid.field (difference vanishes braid m w) v ≡ value_at braid.field (single w) v
unfolding difference AllAmong
difference_value vanishes braid is m l w v size over least =
    let k : FieldValue = braid.field in
    let form : Combination = normal_form vanishes braid m (single w) in
    let n : IsNormalForm vanishes braid m (single w) (normal_form vanishes braid m (single w)) = form_is_normal vanishes braid is m l (single w) (size, tt) (over, tt) in
    value_at-minus k is (single w) form v
    ∙ ap (λ x. plus k (value_at k (single w) v) (times k (negative k 1) x)) (zero_at_others k is form v (λ i. none form n.least i))
    ∙ ap (plus k (value_at k (single w) v)) (times_zero k (negative k 1) is) ∙ plus_zero k (value_at k (single w) v) (value_is_element k is (single w) v)
  where
    none : (g : Combination) → AllAmong g (basis vanishes braid m) → Contains (words_of g) v → ⊥
    none g among i =
        let j : Contains (basis vanishes braid m) v = all_at (λ u. Contains (basis vanishes braid m) u) (words_of g) v (all_of_words (λ u. Contains (basis vanishes braid m) u) g among) i in
        let e : true ≡ false = sym (from_basis vanishes braid m v j).2 ∙ least in
        cc

differences_independent : (vanishes : Vanishing) (braid : BraidValue) → IsField braid.field → (m : ℕ) → IsLinearTest braid.field (vanishes braid m) → (ws : List (List ℕ)) → IsRising ws →
    ((w : List ℕ) → Contains ws w → (length w ≡ m) × IsWordOver braid.letters w × (is_least vanishes braid w ≡ false)) → IsIndependent braid.field (map (difference vanishes braid m) ws)
differences_independent vanishes braid is m l [] rising own [] e elements h = tt
differences_independent vanishes braid is m l [] rising own (c ∷ cs) e elements h = absurd (omega arith)
differences_independent vanishes braid is m l (w ∷ ws) rising own [] e elements h = absurd (omega arith)
differences_independent vanishes braid is m l (w ∷ ws) rising own (c ∷ cs) e elements h = (first, differences_independent vanishes braid is m l ws rising.1 (λ v i. own v (contains_later w ws v i)) cs (omega arith) elements.1 rest)
  where
    k : FieldValue
    k = braid.field

    mine : (length w ≡ m) × IsWordOver braid.letters w × (is_least vanishes braid w ≡ false)
    mine = own w (contains_first w ws)

    -- no later word has a value at w
    later : (vs : List (List ℕ)) → ((v : List ℕ) → Contains vs v → Contains ws v) → AllByRecursion (λ f. value_at braid.field f w ≡ 0) (map (difference vanishes braid m) vs)
    later [] inside = tt
    later (v ∷ vs) inside =
        let j : Contains ws v = inside v (contains_first v vs) in
        let own_v : (length v ≡ m) × IsWordOver braid.letters v × (is_least vanishes braid v ≡ false) = own v (contains_later w ws v j) in (
          difference_value vanishes braid is m l v w own_v.0 own_v.1 mine.2
              ∙ zero_at_others k is (single v) w (λ i. elim (contains_cases v [] w i) [
                | inl same ↦ less_is_other w v (stands_after [] w ws v rising j) same
                | inr none ↦ contains_none w none
              ]),
          later vs (λ u i. inside u (contains_later v vs u i)),
        )

    own_value : value_at braid.field (difference vanishes braid m w) w ≡ 1
    own_value =
        difference_value vanishes braid is m l w w mine.0 mine.1 mine.2
        ∙ ap (λ b. plus k (cond b 1 0) 0) (same_itself w) ∙ plus_zero k 1 (one_is_element k is)

    first : c ≡ 0
    first =
        sym (value_of_more k is c (difference vanishes braid m w) (weighted_sum k cs (map (difference vanishes braid m) ws)) w
        ∙ ap₂ (λ x y. plus k (times k c x) y) own_value (sum_is_zero k is cs (map (difference vanishes braid m) ws) w (later ws (λ v i. i)))
        ∙ ap (λ x. plus k x 0) (times_one k c elements.0) ∙ plus_zero k c elements.0)
        ∙ h w

    rest : IsZero braid.field (weighted_sum braid.field cs (map (difference vanishes braid m) ws))
    rest v =
        sym (zero_plus k (value_at k (weighted_sum k cs (map (difference vanishes braid m) ws)) v) (value_is_element k is (weighted_sum k cs (map (difference vanishes braid m) ws)) v))
        ∙ ap (λ x. plus k x (value_at k (weighted_sum k cs (map (difference vanishes braid m) ws)) v)) (sym (ap (λ x. times k x (value_at k (difference vanishes braid m w) v)) first ∙ zero_times k (value_at k (difference vanishes braid m w) v) is))
        ∙ sym (value_of_more k is c (difference vanishes braid m w) (weighted_sum k cs (map (difference vanishes braid m) ws)) v) ∙ h v

-- ---- and no more

sum_in_degree : (vanishes : Vanishing) (braid : BraidValue) → IsField braid.field → (m : ℕ) → IsLinearTest braid.field (vanishes braid m) → (cs : List ℕ) (fs : List Combination) → AllByRecursion (IsZeroInDegree vanishes braid m) fs →
    IsZeroInDegree vanishes braid m (weighted_sum braid.field cs fs)
sum_in_degree vanishes braid is m l [] [] all = (tt, tt, l.holds_of_zero)
sum_in_degree vanishes braid is m l [] (f ∷ fs) all = (tt, tt, l.holds_of_zero)
sum_in_degree vanishes braid is m l (c ∷ cs) [] all = (tt, tt, l.holds_of_zero)
sum_in_degree vanishes braid is m l (c ∷ cs) (f ∷ fs) all =
    let r : IsZeroInDegree vanishes braid m (weighted_sum braid.field cs fs) = sum_in_degree vanishes braid is m l cs fs all.1 in (
      all-append _ (scalar_multiple braid.field c f) (weighted_sum braid.field cs fs) (all-scalar_multiple (λ w. length w ≡ m) braid.field c f all.0.0) r.0,
      all-append _ (scalar_multiple braid.field c f) (weighted_sum braid.field cs fs) (all-scalar_multiple (IsWordOver braid.letters) braid.field c f all.0.1) r.1,
      l.keeps_sums (scalar_multiple braid.field c f) (weighted_sum braid.field cs fs) (l.keeps_multiples c f all.0.2) r.2,
    )

-- what is zero in the algebra, and has the value 0 at each word that isn't least, is zero
zero_from_others : (vanishes : Vanishing) (braid : BraidValue) → IsField braid.field → (m : ℕ) → IsLinearTest braid.field (vanishes braid m) → (f : Combination) → IsZeroInDegree vanishes braid m f →
    ((w : List ℕ) → Contains (others vanishes braid m) w → value_at braid.field f w ≡ 0) → IsZero braid.field f
unfolding AllAmong others
zero_from_others vanishes braid is m l f (size, over, passes) h w =
    same w ∙ basis_is_independent vanishes braid is m l (part (is_least vanishes braid) f) (among f size over) (l.sees_values f (part (is_least vanishes braid) f) same passes) w
  where
    k : FieldValue
    k = braid.field

    among : (g : Combination) → HasDegree m g → IsOver braid.letters g → AllAmong (part (is_least vanishes braid) g) (basis vanishes braid m)
    among [] s o = tt
    among (t ∷ g) s o = at (is_least vanishes braid t.word) refl (among g s.1 o.1)
      where
        at : (b : Bool) → is_least vanishes braid t.word ≡ b → AllAmong (part (is_least vanishes braid) g) (basis vanishes braid m) → AllAmong (cond b (t ∷ part (is_least vanishes braid) g) (part (is_least vanishes braid) g)) (basis vanishes braid m)
        at true e rest = (in_basis vanishes braid m t.word s.0 o.0 e, rest)
        at false e rest = rest

    nothing : (v : List ℕ) → is_least vanishes braid v ≡ false → value_at braid.field f v ≡ 0
    nothing v least =
        elim (is_in_or_not v (words_of f)) [
          | inl i ↦
              h v (other v least (all_at (λ u. length u ≡ m) (words_of f) v (all_of_words (λ u. length u ≡ m) f size) i) (all_at (IsWordOver braid.letters) (words_of f) v (all_of_words (IsWordOver braid.letters) f over) i))
          | inr none ↦ zero_at_others k is f v none
        ]
      where
        other : (v : List ℕ) → is_least vanishes braid v ≡ false → length v ≡ m → IsWordOver braid.letters v → Contains (others vanishes braid m) v
        other v least e o = in_filter (λ w. not (is_least vanishes braid w)) v (words braid.letters m) (in_words braid.letters m v e o) (ap not least)

    same : HasSameValues braid.field f (part (is_least vanishes braid) f)
    same v = at (is_least vanishes braid v) refl ∙ sym (value_at-part k is (is_least vanishes braid) f v)
      where
        at : (b : Bool) → is_least vanishes braid v ≡ b → value_at braid.field f v ≡ cond b (value_at braid.field f v) 0
        at true e = refl
        at false e = nothing v e

at_most : (vanishes : Vanishing) (braid : BraidValue) → IsField braid.field → (m : ℕ) → IsLinearTest braid.field (vanishes braid m) → (fs : List Combination) → AllByRecursion (IsZeroInDegree vanishes braid m) fs → IsIndependent braid.field fs →
    length fs ≤ length (others vanishes braid m)
at_most vanishes braid is m l fs all independent =
    elim (cases_lt (length (others vanishes braid m)) (length fs)) [
      | inl more ↦
          let (cs, d) = dependence braid.field is (others vanishes braid m) fs more in
          absurd (d.nontrivial (independent cs d.count d.elements (zero_from_others vanishes braid is m l (weighted_sum braid.field cs fs) (sum_in_degree vanishes braid is m l cs fs all) d.values)))
      | inr few ↦ omega arith
    ]

others_are_greatest : (vanishes : Vanishing) (braid : BraidValue) → IsField braid.field → (m : ℕ) → IsLinearTest braid.field (vanishes braid m) → IsGreatestNumber braid.field (IsZeroInDegree vanishes braid m) (length (others vanishes braid m))
unfolding others
others_are_greatest vanishes braid is m l = record {
  some = (
    map (difference vanishes braid m) (others vanishes braid m),
    length-map (others vanishes braid m) (difference vanishes braid m),
    each (others vanishes braid m) (from_others vanishes braid m),
    differences_independent vanishes braid is m l (others vanishes braid m) rise (from_others vanishes braid m),
  );
  most = at_most vanishes braid is m l;
}
  where
    rise : IsRising (others vanishes braid m)
    rise = rising-filter (λ w. not (is_least vanishes braid w)) (words braid.letters m) (words_rise braid.letters m)

    each : (ws : List (List ℕ)) → ((w : List ℕ) → Contains ws w → (length w ≡ m) × IsWordOver braid.letters w × (is_least vanishes braid w ≡ false)) → AllByRecursion (IsZeroInDegree vanishes braid m) (map (difference vanishes braid m) ws)
    each [] own = tt
    each (w ∷ ws) own =
        let mine : (length w ≡ m) × IsWordOver braid.letters w × (is_least vanishes braid w ≡ false) = own w (contains_first w ws) in
        (difference_is_zero vanishes braid is m l w mine.0 mine.1, each ws (λ v i. own v (contains_later w ws v i)))

one_greatest : (k : FieldValue) (P : Combination → Type 0) (d e : ℕ) → IsGreatestNumber k P d → IsGreatestNumber k P e → d ≤ e
one_greatest k P d e g h = let (fs, size, all, independent) = g.some in let less : length fs ≤ e = h.most fs all independent in omega arith

-- the number of least words of degree m is n ^ m less the greatest number of independent combinations of degree m that are zero in the
-- algebra, for every linear test of these
abbrev LeastWordsCount : Type 0
LeastWordsCount =
    (vanishes : Vanishing) (braid : BraidValue) → IsField braid.field → (m : ℕ) → IsLinearTest braid.field (vanishes braid m) → (d : ℕ) →
    IsGreatestNumber braid.field (IsZeroInDegree vanishes braid m) d ↔ (length (basis vanishes braid m) + d ≡ braid.letters ^ m)

pub least_words_count : LeastWordsCount
least_words_count vanishes braid is m l d = (to, from)
  where
    own : IsGreatestNumber braid.field (IsZeroInDegree vanishes braid m) (length (others vanishes braid m))
    own = others_are_greatest vanishes braid is m l

    both : length (basis vanishes braid m) + length (others vanishes braid m) ≡ braid.letters ^ m
    both = both_count vanishes braid m

    to : IsGreatestNumber braid.field (IsZeroInDegree vanishes braid m) d → length (basis vanishes braid m) + d ≡ braid.letters ^ m
    to g =
        let low : d ≤ length (others vanishes braid m) = one_greatest braid.field (IsZeroInDegree vanishes braid m) d (length (others vanishes braid m)) g own in
        let high : length (others vanishes braid m) ≤ d = one_greatest braid.field (IsZeroInDegree vanishes braid m) (length (others vanishes braid m)) d own g in
        let same : d ≡ length (others vanishes braid m) = omega arith in
        ap (λ n. length (basis vanishes braid m) + n) same ∙ both

    from : length (basis vanishes braid m) + d ≡ braid.letters ^ m → IsGreatestNumber braid.field (IsZeroInDegree vanishes braid m) d
    from e = let all : length (basis vanishes braid m) + length (others vanishes braid m) ≡ length (basis vanishes braid m) + d = both ∙ sym e in let same : length (others vanishes braid m) ≡ d = omega arith in subst (IsGreatestNumber braid.field (IsZeroInDegree vanishes braid m)) same own
