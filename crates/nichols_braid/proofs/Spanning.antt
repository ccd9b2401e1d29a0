-- Lists of words that span by words that aren't behind: all words of a degree, and the candidates where the test is a right ideal.
-- The least words are entries of each such list.
use Rattle.std.proofs.Common.{◌≡◌, ℕ, zero, suc, ◌+◌, true, false, List, [], ◌∷◌, ◌++◌, length, refl, sym, ◌∙◌, ap, subst, arith, inl, inr, length-append}
use Rattle.std.specs.List.{AllByRecursion, Contains}
use Rattle.std.specs.declared.cmp.Ordering.TheVariants.{Less}
use Rattle.nichols_field.specs.Field.{IsField}
use Rattle.nichols_tensor.specs.Combination.{Combination, AllAmong, single, minus}
use Rattle.nichols_tensor.specs.Words.{IsWordOver, IsOver, HasDegree, words_before}
use Rattle.nichols_tensor.specs.WordOrder.{word_cmp, IsRising}
use Rattle.nichols_tensor.proofs.Entries.{contains_first, in_filter, from_filter}
use Rattle.nichols_tensor.proofs.Ordered.{is_in_or_not}
use Rattle.nichols_tensor.proofs.Over.{word_over_front, word_over_back}
use Rattle.nichols_tensor.proofs.Rising.{rising-filter, rising_unique}
use Rattle.nichols_tensor.proofs.AllWords.{in_words, from_words, in_words_before, push_less}
use Rattle.nichols_braid.specs.Braid.{BraidValue, IsLetter}
use Rattle.nichols_braid.specs.Kernel.{Vanishing}
use Rattle.nichols_braid.specs.Least.{is_least, basis, candidates}
use Rattle.nichols_braid.specs.RightProduct.{times_letter}
use Rattle.nichols_braid.specs.LinearTest.{IsLinearTest}
use Rattle.nichols_braid.specs.RightIdealTest.{IsRightIdealTest}
use Rattle.nichols_braid.proofs.Maps.{times_letter-minus}
use Rattle.nichols_braid.proofs.Degrees.{minus_degree, minus_over}
use Rattle.nichols_braid.proofs.Congruences.{IsReduced, reduced_itself}
use Rattle.nichols_braid.proofs.LeastWords.{least_refutes_at}
use Rattle.nichols_braid.proofs.Reduction.{IsUpTo, in_basis, from_basis, basis_rises, reduced_word, reduced_before_from}
use Rattle.nichols_braid.proofs.Candidates.{in_candidates, from_candidates, candidates_rise, candidates_first, least_of}

-- a list of words of m letters that rises, such that each word of m letters is congruent to a combination of words of the list that
-- aren't behind it
pub record IsSpanning (vanishes : Vanishing) (braid : BraidValue) (m : ℕ) (ws : List (List ℕ)) : Type 0 where
  pub rising : IsRising ws
  pub degree : (w : List ℕ) → Contains ws w → length w ≡ m
  pub over : (w : List ℕ) → Contains ws w → IsWordOver braid.letters w
  pub spans : (v : List ℕ) → length v ≡ m → IsWordOver braid.letters v → IsReduced braid.field (vanishes braid m) (λ u. Contains ws u × IsUpTo v u) (single v)

-- ---- such lists

-- a word that isn't empty is a word with a letter behind
pub split_last : (m : ℕ) (v : List ℕ) → length v ≡ suc m → (u : List ℕ) × (b : ℕ) × (v ≡ u ++ b ∷ [])
split_last m [] e = absurd (omega arith)
split_last m (a ∷ []) e = ([], a, refl)
split_last zero (a ∷ c ∷ v) e = absurd (omega arith)
split_last (suc m) (a ∷ c ∷ v) e = let (u, b, d) = split_last m (c ∷ v) (omega arith) in (a ∷ u, b, ap (λ x. a ∷ x) d)

with_letter : (vanishes : Vanishing) (braid : BraidValue) → IsRightIdealTest braid (vanishes braid) → (m : ℕ) (u : List ℕ) (b : ℕ) → length u ≡ m → IsWordOver braid.letters u → IsLetter braid b →
    IsReduced braid.field (vanishes braid m) (λ v. Contains (basis vanishes braid m) v × IsUpTo u v) (single u) →
    IsReduced braid.field (vanishes braid (suc m)) (λ v. Contains (candidates vanishes braid (suc m)) v × IsUpTo (u ++ b ∷ []) v) (single (u ++ b ∷ []))
with_letter vanishes braid ideal m u b e o letter (g, a, c) = (
  times_letter g b,
  each g a,
  subst (λ h. vanishes braid (suc m) h ≡ true) (times_letter-minus braid.field (single u) g b)
      (ideal.right m (minus braid.field (single u) g) b (minus_degree braid.field m (single u) g (e, tt) (degree g a)) (minus_over braid.field braid.letters (single u) g (o, tt) (over g a)) letter c),
)
  where
    degree : (g : Combination) → AllByRecursion (λ t. Contains (basis vanishes braid m) t.word × IsUpTo u t.word) g → HasDegree m g
    degree [] h = tt
    degree (t ∷ g) h = ((from_basis vanishes braid m t.word h.0.0).0, degree g h.1)

    over : (g : Combination) → AllByRecursion (λ t. Contains (basis vanishes braid m) t.word × IsUpTo u t.word) g → IsOver braid.letters g
    over [] h = tt
    over (t ∷ g) h = ((from_basis vanishes braid m t.word h.0.0).1, over g h.1)

    at : (v : List ℕ) → length v ≡ m → IsUpTo u v → IsUpTo (u ++ b ∷ []) (v ++ b ∷ [])
    at v d (inl same) = inl (ap (λ x. x ++ b ∷ []) same)
    at v d (inr less) = inr (push_less v u b b (d ∙ sym e) less)

    each : (g : Combination) → AllByRecursion (λ t. Contains (basis vanishes braid m) t.word × IsUpTo u t.word) g → AllByRecursion (λ t. Contains (candidates vanishes braid (suc m)) t.word × IsUpTo (u ++ b ∷ []) t.word) (times_letter g b)
    each [] h = tt
    each (t ∷ g) h = ((in_candidates vanishes braid m t.word b h.0.0 letter, at t.word (from_basis vanishes braid m t.word h.0.0).0 h.0.1), each g h.1)

-- the candidates span, where a combination that is zero stays so with each letter behind
pub candidates_span : (vanishes : Vanishing) (braid : BraidValue) → IsField braid.field → IsRightIdealTest braid (vanishes braid) → (m : ℕ) → IsSpanning vanishes braid m (candidates vanishes braid m)
candidates_span vanishes braid is ideal m = record {
  rising = candidates_rise vanishes braid m;
  degree = λ w i. (from_candidates vanishes braid m w i).0;
  over = λ w i. (from_candidates vanishes braid m w i).1;
  spans = spans m;
}
  where
    spans : (m : ℕ) (v : List ℕ) → length v ≡ m → IsWordOver braid.letters v → IsReduced braid.field (vanishes braid m) (λ u. Contains (candidates vanishes braid m) u × IsUpTo v u) (single v)
    spans zero [] e o =
        reduced_itself braid.field is (vanishes braid 0) (ideal.linear 0) (λ u. Contains (candidates vanishes braid 0) u × IsUpTo [] u) [] (subst (λ ws. Contains ws []) (sym (candidates_first vanishes braid)) (contains_first [] []), inl refl)
    spans zero (a ∷ v) e o = absurd (omega arith)
    spans (suc m) v e o =
        let (u, b, d) = split_last m v e in
        let whole : IsWordOver braid.letters (u ++ b ∷ []) = subst (IsWordOver braid.letters) d o in
        let last : IsWordOver braid.letters (b ∷ []) = word_over_back braid.letters u (b ∷ []) whole in
        let size : length u + 1 ≡ suc m = sym (length-append u (b ∷ [])) ∙ ap length (sym d) ∙ e in
        let short : length u ≡ m = omega arith in
        subst (λ x. IsReduced braid.field (vanishes braid (suc m)) (λ y. Contains (candidates vanishes braid (suc m)) y × IsUpTo x y) (single x)) (sym d)
        (with_letter vanishes braid ideal m u b short (word_over_front braid.letters u (b ∷ []) whole) last.0
        (reduced_word vanishes braid is m (ideal.linear m) u (in_words braid.letters m u short (word_over_front braid.letters u (b ∷ []) whole))))

-- ---- least words are entries

pub least_is_listed : (vanishes : Vanishing) (braid : BraidValue) → IsField braid.field → (m : ℕ) → IsLinearTest braid.field (vanishes braid m) → (ws : List (List ℕ)) → IsSpanning vanishes braid m ws →
    (w : List ℕ) → length w ≡ m → IsWordOver braid.letters w → is_least vanishes braid w ≡ true → Contains ws w
unfolding AllAmong
least_is_listed vanishes braid is m l ws s w e o least = elim (is_in_or_not w ws) [ inl i ↦ i | inr none ↦ absurd (other none) ]
  where
    other : (Contains ws w → ⊥) → ⊥
    other none =
        let (g, a, c) = s.spans w e o in
        least_refutes_at vanishes braid is m l w e least g (each g a) c
      where
        at : (v : List ℕ) → Contains ws v → IsUpTo w v → Contains (words_before braid.letters w) v
        at v i (inl same) = absurd (none (subst (λ x. Contains ws x) same i))
        at v i (inr less) = in_words_before braid.letters v w (s.degree v i ∙ sym e) (s.over v i) less

        each : (g : Combination) → AllByRecursion (λ t. Contains ws t.word × IsUpTo w t.word) g → AllAmong g (words_before braid.letters w)
        each [] h = tt
        each (t ∷ g) h = (at t.word h.0.0 h.0.1, each g h.1)

-- the basis is the list of the least words among the entries
pub basis_among : (vanishes : Vanishing) (braid : BraidValue) → IsField braid.field → (m : ℕ) → IsLinearTest braid.field (vanishes braid m) → (ws : List (List ℕ)) → IsSpanning vanishes braid m ws →
    basis vanishes braid m ≡ least_of vanishes braid ws
basis_among vanishes braid is m l ws s =
    rising_unique (basis vanishes braid m) (least_of vanishes braid ws) (basis_rises vanishes braid m) (rising-filter (is_least vanishes braid) ws s.rising)
    (λ w i.
    let from : (length w ≡ m) × IsWordOver braid.letters w × (is_least vanishes braid w ≡ true) = from_basis vanishes braid m w i in
    in_filter (is_least vanishes braid) w ws (least_is_listed vanishes braid is m l ws s w from.0 from.1 from.2) from.2)
    (λ w i. let (j, least) = from_filter (is_least vanishes braid) w ws i in in_basis vanishes braid m w (s.degree w j) (s.over w j) least)

-- ---- reduction to the entries

-- a combination of entries before w that a word that isn't least is congruent to
pub reduced_to_earlier_entries : (vanishes : Vanishing) (braid : BraidValue) → IsField braid.field → (m : ℕ) → IsLinearTest braid.field (vanishes braid m) → (ws : List (List ℕ)) → IsSpanning vanishes braid m ws →
    (w : List ℕ) → length w ≡ m → is_least vanishes braid w ≡ false → IsReduced braid.field (vanishes braid m) (λ v. Contains ws v × (word_cmp v w ≡ Less)) (single w)
reduced_to_earlier_entries vanishes braid is m l ws s w e least =
    reduced_before_from vanishes braid is m l (λ v. Contains ws v) w e least (λ v i less. s.spans v (from_words braid.letters m v i).0 (from_words braid.letters m v i).1)
