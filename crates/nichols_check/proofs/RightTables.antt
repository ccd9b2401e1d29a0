-- A table that passes has the least words and the relations of its degree.
use Rattle.std.proofs.Common.{◌≡◌, ◌≢◌, ℕ, suc, Bool, true, false, not, List, [], ◌∷◌, map, length, refl, sym, ◌∙◌, ap, ap₂, subst, inl, inr}
use Rattle.std.specs.List.{filter, AllByRecursion, Contains}
use Rattle.std.specs.declared.cmp.Ordering.TheVariants.{Less}
use Rattle.nichols_field.specs.Field.{FieldValue, IsField, plus, times, negative}
use Rattle.nichols_field.proofs.FieldLaws.{plus_zero, times_zero, one_is_element}
use Rattle.nichols_field.proofs.FieldAlgebra.{one_times}
use Rattle.nichols_tensor.specs.Combination.{Combination, value_at, HasSameValues, IsZero, AllElements, AllAmong, single, scalar_multiple, minus, linear_map}
use Rattle.nichols_tensor.specs.Relation.{PlainRelation}
use Rattle.nichols_tensor.specs.Words.{up_to, IsWordOver, IsOver, HasDegree, words_before}
use Rattle.nichols_tensor.specs.WordOrder.{word_cmp, IsOrdered}
use Rattle.nichols_tensor.proofs.AllWords.{in_words_before}
use Rattle.nichols_tensor.proofs.Entries.{contains_first, contains_later, from_map, in_map, in_filter, from_filter}
use Rattle.nichols_tensor.proofs.Letters.{from_up_to}
use Rattle.nichols_tensor.proofs.Linear.{minus_is_zero, linear_map-append, linear_map-scalar_multiple, linear_map-single, same_append}
use Rattle.nichols_tensor.proofs.Order.{word_cmp_total, less_is_other}
use Rattle.nichols_tensor.proofs.Over.{all_among}
use Rattle.nichols_tensor.proofs.Rising.{rising-filter, rising_unique}
use Rattle.nichols_tensor.proofs.Tests.{all_of_entries}
use Rattle.nichols_tensor.proofs.Values.{weight, weight-append, weight-scalar_multiple}
use Rattle.nichols_braid.specs.Braid.{BraidValue, IsBraid, IsLetter}
use Rattle.nichols_braid.specs.Derivation.{derived_word, skew_derivative}
use Rattle.nichols_braid.specs.Forms.{candidates_of, derived_form}
use Rattle.nichols_braid.specs.Kernel.{is_killed}
use Rattle.nichols_braid.specs.Least.{is_least, basis, normal_form, candidates, relations}
use Rattle.nichols_braid.specs.LinearTest.{IsLinearTest}
use Rattle.nichols_braid.specs.RightIdealTest.{IsRightIdealTest}
use Rattle.nichols_braid.proofs.Candidates.{from_candidates, candidates_rise, least_of, relation_at, relations_are}
use Rattle.nichols_braid.proofs.Congruences.{AreCongruent, IsReduced, zero_passes, passes_too, congruent_left, congruent_sym, reduced_itself, reduced_of_each, reduced_through}
use Rattle.nichols_braid.proofs.Degrees.{minus_degree, minus_over}
use Rattle.nichols_braid.proofs.Forms.{congruent_extended, among-linear_map}
use Rattle.nichols_braid.proofs.FormsOfDerivatives.{derived_form_is_normal}
use Rattle.nichols_braid.proofs.Independence.{basis_is_independent}
use Rattle.nichols_braid.proofs.Killed.{is_killed_sound, is_killed_complete}
use Rattle.nichols_braid.proofs.LeastWords.{not_least_at}
use Rattle.nichols_braid.proofs.Maps.{same_weight_on}
use Rattle.nichols_braid.proofs.NormalForms.{form_is}
use Rattle.nichols_braid.proofs.Prefixes.{is_killed_is_ideal}
use Rattle.nichols_braid.proofs.Spanning.{reduced_to_earlier_entries, basis_among, candidates_span}
use Rattle.nichols_lift.proofs.Readings.{one_reading}
use Rattle.nichols_check.specs.Table.{Table, at_letter, tested, IsTestFor, IsFormOver, AreInOrder, Passes}
use Rattle.nichols_check.specs.Laws.{DerivedFormsTellZero, PassingTablesAreRight}
use Rattle.nichols_check.proofs.Paired.{weight_nothing, sums_of_pairings}

-- ---- derivatives in normal form tell what is zero

-- the normal form of the derivative by a of a word of m + 1 letters
abbrev derivative : BraidValue → ℕ → ℕ → List ℕ → Combination
derivative braid m a w = derived_form is_killed braid (suc m) w a

derived_images : (braid : BraidValue) → IsBraid braid → (m : ℕ) (f : Combination) (a : ℕ) → HasDegree (suc m) f → IsOver braid.letters f → IsLetter braid a →
    AllByRecursion (λ t. AreCongruent braid.field (is_killed braid m) (derived_word braid a t.word) (derivative braid m a t.word)) f
derived_images braid is m [] a degree over letter = tt
derived_images braid is m (t ∷ f) a degree over letter = (first, derived_images braid is m f a degree.1 over.1 letter)
  where
    ideal : IsRightIdealTest braid (is_killed braid)
    ideal = is_killed_is_ideal braid is.field is.rack

    first : AreCongruent braid.field (is_killed braid m) (derived_word braid a t.word) (derivative braid m a t.word)
    first =
        congruent_left braid.field is.field (is_killed braid m) (ideal.linear m) (skew_derivative braid a (single t.word)) (derived_word braid a t.word) (derivative braid m a t.word)
        (linear_map-single braid.field is.field (derived_word braid a) t.word) (derived_form_is_normal is_killed braid is ideal m t.word a degree.0 over.0 letter).congruent

derived_among : (braid : BraidValue) → IsBraid braid → (m : ℕ) (f : Combination) (a : ℕ) → HasDegree (suc m) f → IsOver braid.letters f → IsLetter braid a →
    AllByRecursion (λ t. AllAmong (derivative braid m a t.word) (basis is_killed braid m)) f
derived_among braid is m [] a degree over letter = tt
derived_among braid is m (t ∷ f) a degree over letter = (
  (derived_form_is_normal is_killed braid is (is_killed_is_ideal braid is.field is.rack) m t.word a degree.0 over.0 letter).least,
  derived_among braid is m f a degree.1 over.1 letter,
)

pub derived_forms_tell_zero : DerivedFormsTellZero
derived_forms_tell_zero braid is m f degree over = (to, from)
  where
    k : FieldValue
    k = braid.field

    l : IsLinearTest braid.field (is_killed braid m)
    l = (is_killed_is_ideal braid is.field is.rack).linear m

    forms : ℕ → Combination
    forms a = linear_map braid.field (λ v. derived_form is_killed braid (suc m) v a) f

    same : (a : ℕ) → IsLetter braid a → AreCongruent braid.field (is_killed braid m) (skew_derivative braid a f) (linear_map braid.field (λ v. derived_form is_killed braid (suc m) v a) f)
    same a la = congruent_extended k is.field (is_killed braid m) l (derived_word braid a) (λ v. derived_form is_killed braid (suc m) v a) f (derived_images braid is m f a degree over la)

    to : is_killed braid (suc m) f ≡ true → (a : ℕ) → IsLetter braid a → IsZero braid.field (linear_map braid.field (λ v. derived_form is_killed braid (suc m) v a) f)
    to h a la =
        basis_is_independent is_killed braid is.field m l (forms a) (among-linear_map k (λ v. derived_form is_killed braid (suc m) v a) f (basis is_killed braid m) (derived_among braid is m f a degree over la))
        (passes_too k is.field (is_killed braid m) l (forms a) (skew_derivative braid a f) (congruent_sym k is.field (is_killed braid m) l (skew_derivative braid a f) (forms a) (same a la))
        (is_killed_complete braid m (skew_derivative braid a f) (is_killed_sound braid is.field (suc m) f h a la)))

    from : ((a : ℕ) → IsLetter braid a → IsZero braid.field (linear_map braid.field (λ v. derived_form is_killed braid (suc m) v a) f)) → is_killed braid (suc m) f ≡ true
    from h =
        is_killed_complete braid (suc m) f
        (λ a la. is_killed_sound braid is.field m (skew_derivative braid a f)
        (passes_too k is.field (is_killed braid m) l (skew_derivative braid a f) (forms a) (same a la) (zero_passes k (is_killed braid m) l (forms a) (h a la))))

-- ---- the words of a table

entry_degree : (braid : BraidValue) (m : ℕ) (t : Table) → Passes braid m t → (w : List ℕ) → Contains t.basis w → (length w ≡ suc m) × IsWordOver braid.letters w
entry_degree braid m t p w i = from_candidates is_killed braid (suc m) w ((p.candidates.all w).1 (inl i))

degree_of_among : (braid : BraidValue) (m : ℕ) (t : Table) → Passes braid m t → (f : Combination) → AllAmong f t.basis → HasDegree (suc m) f
degree_of_among braid m t p f among = all_among (λ w. length w ≡ suc m) f t.basis among (all_of_entries (λ w. length w ≡ suc m) t.basis (λ w i. (entry_degree braid m t p w i).0))

over_of_among : (braid : BraidValue) (m : ℕ) (t : Table) → Passes braid m t → (f : Combination) → AllAmong f t.basis → IsOver braid.letters f
over_of_among braid m t p f among = all_among (IsWordOver braid.letters) f t.basis among (all_of_entries (IsWordOver braid.letters) t.basis (λ w i. (entry_degree braid m t p w i).1))

relation_entry : (t : Table) (r : PlainRelation) → Contains t.relations r → Contains (candidates_of t.relations) r.candidate
relation_entry t r i = in_map (λ (s : PlainRelation). s.candidate) r t.relations i

relation_degree : (braid : BraidValue) (m : ℕ) (t : Table) → Passes braid m t → (r : PlainRelation) → Contains t.relations r → (length r.candidate ≡ suc m) × IsWordOver braid.letters r.candidate
relation_degree braid m t p r i = from_candidates is_killed braid (suc m) r.candidate ((p.candidates.all r.candidate).1 (inr (relation_entry t r i)))

-- ---- a relation holds in the algebra

difference_of_images : (k : FieldValue) → IsField k → (image : List ℕ → Combination) (w : List ℕ) (f : Combination) → HasSameValues k (image w) (linear_map k image f) → IsZero k (linear_map k image (minus k (single w) f))
difference_of_images k is image w f same v =
    ap (λ g. value_at k g v) (linear_map-append k image (single w) (scalar_multiple k (negative k 1) f))
    ∙ same_append k is (linear_map k image (single w)) (linear_map k image (scalar_multiple k (negative k 1) f)) (image w) (scalar_multiple k (negative k 1) (linear_map k image f))
    (linear_map-single k is image w) (linear_map-scalar_multiple k is image (negative k 1) f) v
    ∙ minus_is_zero k is (image w) (linear_map k image f) same v

relation_holds : (braid : BraidValue) → IsBraid braid → (m : ℕ) (t : Table) → Passes braid m t → (r : PlainRelation) → Contains t.relations r → AreCongruent braid.field (is_killed braid (suc m)) (single r.candidate) r.form
relation_holds braid is m t p r i =
    let (size, over) = relation_degree braid m t p r i in
    let f : IsFormOver braid m t.basis r = p.forms r i in
    (derived_forms_tell_zero braid is m (minus braid.field (single r.candidate) r.form)
    (minus_degree braid.field (suc m) (single r.candidate) r.form (size, tt) (degree_of_among braid m t p r.form f.among))
    (minus_over braid.field braid.letters (single r.candidate) r.form (over, tt) (over_of_among braid m t p r.form f.among))).1
    (λ a la. difference_of_images braid.field is.field (λ v. derived_form is_killed braid (suc m) v a) r.candidate r.form (f.derivatives a la))

-- ---- its words are least

-- a combination that is zero in the algebra has the value 0 under each array
tests_kill : (braid : BraidValue) → IsBraid braid → (m : ℕ) (fs : List Combination) (f : Combination) → HasDegree (suc m) f → IsOver braid.letters f → is_killed braid (suc m) f ≡ true → weight braid.field (tested braid m fs) f ≡ 0
unfolding tested
tests_kill braid is m fs f degree over h =
    sums_of_pairings braid.field is.field (at_letter fs) (λ a w. derived_form is_killed braid (suc m) w a) (up_to braid.letters) f
    (λ a i. (derived_forms_tell_zero braid is m f degree over).0 h a (from_up_to braid.letters a i))

-- a word minus a combination of other words of the list has the value 1 under its test
tests_see : (braid : BraidValue) → IsField braid.field → (m : ℕ) (ws : List (List ℕ)) (w : List ℕ) (fs : List Combination) → IsTestFor braid m ws w fs → (g : Combination) →
    AllByRecursion (λ t. Contains ws t.word × (t.word ≢ w)) g → weight braid.field (tested braid m fs) (minus braid.field (single w) g) ≡ 1
unfolding weight
tests_see braid is m ws w fs h g others =
    weight-append k is (tested braid m fs) (single w) (scalar_multiple k (negative k 1) g)
    ∙ ap₂ (plus k) own (weight-scalar_multiple k is (tested braid m fs) (negative k 1) g ∙ ap (times k (negative k 1)) rest ∙ times_zero k (negative k 1) is)
    ∙ plus_zero k 1 (one_is_element k is)
  where
    k : FieldValue
    k = braid.field

    own : weight braid.field (tested braid m fs) (single w) ≡ 1
    own = ap (λ n. plus k (times k 1 n) 0) h.own ∙ ap (λ n. plus k n 0) (one_times k 1 (one_is_element k is)) ∙ plus_zero k 1 (one_is_element k is)

    each : (f : Combination) → AllByRecursion (λ t. Contains ws t.word × (t.word ≢ w)) f → AllByRecursion (λ t. tested braid m fs t.word ≡ 0) f
    each [] all = tt
    each (t ∷ f) all = (h.others t.word all.0.0 all.0.1, each f all.1)

    rest : weight braid.field (tested braid m fs) g ≡ 0
    rest = same_weight_on k (tested braid m fs) (λ v. 0) g (each g others) ∙ weight_nothing k is g

entry_is_least : (braid : BraidValue) → IsBraid braid → (m : ℕ) (t : Table) → Passes braid m t → (w : List ℕ) → Contains t.basis w → is_least is_killed braid w ≡ true
unfolding AllAmong
entry_is_least braid is m t p w i = at (is_least is_killed braid w) refl
  where
    k : FieldValue
    k = braid.field

    test : Combination → Bool
    test = is_killed braid (suc m)

    ideal : IsRightIdealTest braid (is_killed braid)
    ideal = is_killed_is_ideal braid is.field is.rack

    l : IsLinearTest braid.field (is_killed braid (suc m))
    l = ideal.linear (suc m)

    own : (length w ≡ suc m) × IsWordOver braid.letters w
    own = entry_degree braid m t p w i

    -- an entry of the table that stands before w
    Earlier : List ℕ → Type 0
    Earlier v = Contains t.basis v × (word_cmp v w ≡ Less)

    before : (v : List ℕ) → word_cmp v w ≡ Less → (f : Combination) → AllAmong f t.basis → AllByRecursion (λ u. word_cmp u.word v ≡ Less) f → AllByRecursion (λ u. Contains t.basis u.word × (word_cmp u.word w ≡ Less)) f
    before v less [] among earlier = tt
    before v less (u ∷ f) among earlier = ((among.0, word_cmp_total.trans u.word v w earlier.0 less), before v less f among.1 earlier.1)

    one : (v : List ℕ) → Contains (candidates is_killed braid (suc m)) v → word_cmp v w ≡ Less → IsReduced braid.field (is_killed braid (suc m)) (λ u. Contains t.basis u × (word_cmp u w ≡ Less)) (single v)
    one v j less =
        elim ((p.candidates.all v).0 j) [
          | inl b ↦ reduced_itself k is.field test l Earlier v (b, less)
          | inr c ↦
              let (r, d, e) = from_map (λ (s : PlainRelation). s.candidate) v t.relations c in
              let f : IsFormOver braid m t.basis r = p.forms r d in (
                r.form,
                before r.candidate (subst (λ u. word_cmp u w ≡ Less) e less) r.form f.among f.earlier,
                subst (λ u. AreCongruent braid.field (is_killed braid (suc m)) (single u) r.form) (sym e) (relation_holds braid is m t p r d),
              )
        ]

    each : (g : Combination) → AllByRecursion (λ u. Contains (candidates is_killed braid (suc m)) u.word × (word_cmp u.word w ≡ Less)) g →
        AllByRecursion (λ u. IsReduced braid.field (is_killed braid (suc m)) (λ v. Contains t.basis v × (word_cmp v w ≡ Less)) (single u.word)) g
    each [] all = tt
    each (u ∷ g) all = (one u.word all.0.0 all.0.1, each g all.1)

    earlier_among : (g : Combination) → AllByRecursion (λ u. Contains t.basis u.word × (word_cmp u.word w ≡ Less)) g → AllAmong g t.basis
    earlier_among [] all = tt
    earlier_among (u ∷ g) all = (all.0.0, earlier_among g all.1)

    others : (g : Combination) → AllByRecursion (λ u. Contains t.basis u.word × (word_cmp u.word w ≡ Less)) g → AllByRecursion (λ u. Contains t.basis u.word × (u.word ≢ w)) g
    others [] all = tt
    others (u ∷ g) all = ((all.0.0, less_is_other u.word w all.0.1), others g all.1)

    refuted : is_least is_killed braid w ≡ false → ⊥
    refuted e =
        let (g, all, c) = reduced_to_earlier_entries is_killed braid is.field (suc m) l (candidates is_killed braid (suc m)) (candidates_span is_killed braid is.field ideal (suc m)) w own.0 e in
        let (h, earlier, d) = reduced_through k is.field test l Earlier (single w) g c (reduced_of_each k is.field test l Earlier g (each g all)) in
        let (fs, is_test) = p.tests w i in
        let degree : HasDegree (suc m) (minus braid.field (single w) h) = minus_degree k (suc m) (single w) h (own.0, tt) (degree_of_among braid m t p h (earlier_among h earlier)) in
        let over : IsOver braid.letters (minus braid.field (single w) h) = minus_over k braid.letters (single w) h (own.1, tt) (over_of_among braid m t p h (earlier_among h earlier)) in
        let one_is_zero : ◌≡◌ {A = ℕ} 1 0 = sym (tests_see braid is.field m t.basis w fs is_test h (others h earlier)) ∙ tests_kill braid is m fs (minus k (single w) h) degree over d in
        cc

    at : (b : Bool) → is_least is_killed braid w ≡ b → is_least is_killed braid w ≡ true
    at true e = e
    at false e = absurd (refuted e)

-- ---- the other candidates aren't

relation_is_not_least : (braid : BraidValue) → IsBraid braid → (m : ℕ) (t : Table) → Passes braid m t → (r : PlainRelation) → Contains t.relations r → is_least is_killed braid r.candidate ≡ false
unfolding AllAmong
relation_is_not_least braid is m t p r i =
    let (size, over) = relation_degree braid m t p r i in
    let f : IsFormOver braid m t.basis r = p.forms r i in
    not_least_at is_killed braid is.field (suc m) ((is_killed_is_ideal braid is.field is.rack).linear (suc m)) r.candidate size r.form (each r.form f.among f.earlier) (relation_holds braid is m t p r i)
  where
    each : (f : Combination) → AllAmong f t.basis → AllByRecursion (λ u. word_cmp u.word r.candidate ≡ Less) f → AllAmong f (words_before braid.letters r.candidate)
    each [] among earlier = tt
    each (u ∷ f) among earlier =
        let own : (length u.word ≡ suc m) × IsWordOver braid.letters u.word = entry_degree braid m t p u.word among.0 in
        (in_words_before braid.letters u.word r.candidate (own.0 ∙ sym (relation_degree braid m t p r i).0) own.1 earlier.0, each f among.1 earlier.1)

-- ---- both lists

basis_is : (braid : BraidValue) → IsBraid braid → (m : ℕ) (t : Table) → Passes braid m t → t.basis ≡ basis is_killed braid (suc m)
basis_is braid is m t p =
    let ideal : IsRightIdealTest braid (is_killed braid) = is_killed_is_ideal braid is.field is.rack in
    let all : List (List ℕ) = candidates is_killed braid (suc m) in
    rising_unique t.basis (least_of is_killed braid all) p.candidates.first_rise (rising-filter (is_least is_killed braid) all (candidates_rise is_killed braid (suc m)))
    (λ w i. in_filter (is_least is_killed braid) w all ((p.candidates.all w).1 (inl i)) (entry_is_least braid is m t p w i))
    (λ w i. let (j, least) = from_filter (is_least is_killed braid) w all i in elim ((p.candidates.all w).0 j) [ inl b ↦ b | inr c ↦ absurd (other w c least) ])
    ∙ sym (basis_among is_killed braid is.field (suc m) (ideal.linear (suc m)) all (candidates_span is_killed braid is.field ideal (suc m)))
  where
    other : (w : List ℕ) → Contains (candidates_of t.relations) w → is_least is_killed braid w ≡ true → ⊥
    other w c least =
        let (r, d, e) = from_map (λ (s : PlainRelation). s.candidate) w t.relations c in
        let h : true ≡ false = sym least ∙ ap (is_least is_killed braid) e ∙ relation_is_not_least braid is m t p r d in
        cc

names_are : (braid : BraidValue) → IsBraid braid → (m : ℕ) (t : Table) → Passes braid m t → candidates_of t.relations ≡ filter (λ w. not (is_least is_killed braid w)) (candidates is_killed braid (suc m))
names_are braid is m t p =
    let all : List (List ℕ) = candidates is_killed braid (suc m) in
    rising_unique (candidates_of t.relations) (filter (λ w. not (is_least is_killed braid w)) all) p.candidates.second_rise (rising-filter (λ w. not (is_least is_killed braid w)) all (candidates_rise is_killed braid (suc m)))
    (λ w i.
    let (r, d, e) = from_map (λ (s : PlainRelation). s.candidate) w t.relations i in
    in_filter (λ w. not (is_least is_killed braid w)) w all ((p.candidates.all w).1 (inr i)) (ap not (ap (is_least is_killed braid) e ∙ relation_is_not_least braid is m t p r d)))
    (λ w i.
    let (j, other) = from_filter (λ w. not (is_least is_killed braid w)) w all i in
    elim ((p.candidates.all w).0 j) [
      | inl b ↦ absurd (let h : true ≡ false = sym other ∙ ap not (entry_is_least braid is m t p w b) in cc)
      | inr c ↦ c
    ])

form_is_right : (braid : BraidValue) → IsBraid braid → (m : ℕ) (t : Table) → Passes braid m t → (r : PlainRelation) → Contains t.relations r → IsOrdered r.form → AllElements braid.field r.form →
    normal_form is_killed braid (suc m) (single r.candidate) ≡ r.form
form_is_right braid is m t p r i ordered elements =
    form_is is_killed braid is.field (suc m) ((is_killed_is_ideal braid is.field is.rack).linear (suc m)) (single r.candidate) r.form (record {
      least = subst (AllAmong r.form) (basis_is braid is m t p) (p.forms r i).among;
      ordered = ordered;
      elements = elements;
      congruent = relation_holds braid is m t p r i;
    })

relations_right : (braid : BraidValue) → IsBraid braid → (m : ℕ) (t : Table) → AreInOrder braid.field t.relations → Passes braid m t → t.relations ≡ relations is_killed braid (suc m)
relations_right braid is m t shapes p =
    each t.relations shapes (λ r i. i) ∙ ap (map (relation_at is_killed braid (suc m))) (names_are braid is m t p) ∙ sym (relations_are is_killed braid (suc m))
  where
    each : (rs : List PlainRelation) → AreInOrder braid.field rs → ((r : PlainRelation) → Contains rs r → Contains t.relations r) → rs ≡ map (relation_at is_killed braid (suc m)) (candidates_of rs)
    each [] all inside = refl
    each (r ∷ rs) all inside =
        ap₂ (λ (f : Combination) (ss : List PlainRelation). record { candidate = r.candidate; form = f } ∷ ss)
        (sym (form_is_right braid is m t p r (inside r (contains_first r rs)) all.0.0 all.0.1))
        (each rs all.1 (λ s i. inside s (contains_later r rs s i)))

pub passing_tables_are_right : PassingTablesAreRight
passing_tables_are_right braid is m t shapes p = (
  basis_is braid is m t p ∙ sym ((one_reading braid is).alike.bases (suc m)),
  relations_right braid is m t shapes p ∙ sym ((one_reading braid is).alike.relation_lists (suc m)),
)
