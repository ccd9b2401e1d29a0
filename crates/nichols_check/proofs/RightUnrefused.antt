-- The right table of a degree isn't refused where its arrays are tests.
use Rattle.std.proofs.Common.{◌≡◌, ◌⊎◌, ℕ, zero, suc, ◌+◌, ◌<◌, Bool, true, false, not, cond, ◌||◌, List, [], ◌∷◌, ◌++◌, length, find, refl, sym, ◌∙◌, ap, ap₂, subst, arith, inl, inr, Option, None, Some, is_lt, nat_eq, nat_lt}
use Rattle.std.specs.Prelude.{◌&&◌, slice_index_or}
use Rattle.std.specs.List.{filter, list_all, AllByRecursion, Contains, range_with_len}
use Rattle.std.specs.Option.{option_map, option_or}
use Rattle.std.specs.Cmp.Lexicographic.{same_text}
use Rattle.std.specs.declared.cmp.Ordering.TheVariants.{Less}
use Rattle.std.proofs.lemmas.Bool.{not-true}
use Rattle.std.proofs.lemmas.Bool.Decides.{Decides-eqb, nat_tests}
use Rattle.std.proofs.lemmas.List.Elements.{Contains-append_cases}
use Rattle.nichols_field.specs.Field.{FieldValue, IsField, negative}
use Rattle.nichols_tensor.specs.Combination.{Combination, value_at, HasSameValues, IsZero, AllAmong, same_letters, single, scalar_multiple, minus, linear_map}
use Rattle.nichols_tensor.specs.Positions.{word_at}
use Rattle.nichols_tensor.specs.Relation.{PlainRelation}
use Rattle.nichols_tensor.specs.WordOrder.{word_cmp, IsRising}
use Rattle.nichols_tensor.specs.Words.{up_to, HasDegree}
use Rattle.nichols_tensor.proofs.Entries.{contains_cases, contains_none, in_map, from_map, in_filter, from_filter, any_of, some_of, each_of, found}
use Rattle.nichols_tensor.proofs.Letters.{from_up_to}
use Rattle.nichols_tensor.proofs.Linear.{linear_map-append, linear_map-scalar_multiple, linear_map-single, minus_is_zero, same_append, same_from_minus}
use Rattle.nichols_tensor.proofs.Values.{same_itself}
use Rattle.nichols_tensor.proofs.Zero.{is_zero_complete}
use Rattle.nichols_braid.specs.Braid.{BraidValue, IsBraid}
use Rattle.nichols_braid.specs.Forms.{candidates_of, derived_form}
use Rattle.nichols_braid.specs.Kernel.{is_killed}
use Rattle.nichols_braid.specs.Least.{is_least, basis, normal_form, candidates, relations}
use Rattle.nichols_braid.specs.LeastLaws.{IsNormalForm, IsOfEarlierWords}
use Rattle.nichols_braid.specs.LinearTest.{IsLinearTest}
use Rattle.nichols_braid.specs.RightIdealTest.{IsRightIdealTest}
use Rattle.nichols_braid.proofs.Candidates.{from_candidates, relation_at, relations_are}
use Rattle.nichols_braid.proofs.Degrees.{minus_degree, minus_over}
use Rattle.nichols_braid.proofs.LeastLaws.{relations_rise}
use Rattle.nichols_braid.proofs.LookingBack.{normal_forms_look_back}
use Rattle.nichols_braid.proofs.NormalForms.{form_is_normal}
use Rattle.nichols_braid.proofs.Prefixes.{is_killed_is_ideal}
use Rattle.nichols_braid.proofs.Reduction.{in_basis, from_basis, basis_rises}
use Rattle.nichols_braid.proofs.Spanning.{least_is_listed, candidates_span}
use Rattle.nichols_check.specs.Table.{Table, AreCandidates, IsFormOver, IsTestFor, by_ranks, tested}
use Rattle.nichols_check.specs.TableRefusal.{TableRefusal, candidates_refusal, are_candidates, are_same, form_refusal, form_refused, has_array, has_form, inverse_refusal, inverse_refused, is_in, is_over_basis, is_test, rises, table_refusal}
use Rattle.nichols_check.specs.Laws.{RightTablesAreUnrefused}
use Rattle.nichols_check.proofs.RightTables.{derived_forms_tell_zero}

others : BraidValue → ℕ → List (List ℕ)
others braid m = filter (λ w. not (is_least is_killed braid w)) (candidates is_killed braid m)

from_relations : (braid : BraidValue) (m : ℕ) (r : PlainRelation) → Contains (relations is_killed braid m) r → (w : List ℕ) × Contains (candidates is_killed braid m) w × (is_least is_killed braid w ≡ false) × (r ≡ relation_at is_killed braid m w)
from_relations braid m r i =
    let (w, j, e) = from_map (relation_at is_killed braid m) r (filter (λ w. not (is_least is_killed braid w)) (candidates is_killed braid m)) (subst (λ rs. Contains rs r) (relations_are is_killed braid m) i) in
    let (l, other) = from_filter (λ w. not (is_least is_killed braid w)) w (candidates is_killed braid m) j in
    (w, l, not-true (is_least is_killed braid w) other, e)

in_relations : (braid : BraidValue) (m : ℕ) (w : List ℕ) → Contains (candidates is_killed braid m) w → is_least is_killed braid w ≡ false → Contains (candidates_of (relations is_killed braid m)) w
in_relations braid m w i e =
    in_map (λ (r : PlainRelation). r.candidate) (relation_at is_killed braid m w) (relations is_killed braid m)
    (subst (λ rs. Contains rs (relation_at is_killed braid m w)) (sym (relations_are is_killed braid m))
    (in_map (relation_at is_killed braid m) w (filter (λ w. not (is_least is_killed braid w)) (candidates is_killed braid m)) (in_filter (λ w. not (is_least is_killed braid w)) w (candidates is_killed braid m) i (ap not e))))

image_of_difference : (k : FieldValue) → IsField k → (image : List ℕ → Combination) (w : List ℕ) (f : Combination) → IsZero k (linear_map k image (minus k (single w) f)) → HasSameValues k (image w) (linear_map k image f)
image_of_difference k is image w f none =
    same_from_minus k is (image w) (linear_map k image f)
    (λ v. sym (ap (λ g. value_at k g v) (linear_map-append k image (single w) (scalar_multiple k (negative k 1) f))
    ∙ same_append k is (linear_map k image (single w)) (linear_map k image (scalar_multiple k (negative k 1) f)) (image w) (scalar_multiple k (negative k 1) (linear_map k image f))
    (linear_map-single k is image w) (linear_map-scalar_multiple k is image (negative k 1) f) v) ∙ none v)

form_passes : (braid : BraidValue) → IsBraid braid → (m : ℕ) (r : PlainRelation) → Contains (relations is_killed braid (suc m)) r → IsFormOver braid m (basis is_killed braid (suc m)) r
unfolding AllAmong
form_passes braid is m r i =
    let (w, j, other, e) = from_relations braid (suc m) r i in
    let (size, over) = from_candidates is_killed braid (suc m) w j in
    let l : (d : ℕ) → IsLinearTest braid.field (is_killed braid d) = (is_killed_is_ideal braid is.field is.rack).linear in
    let f : Combination = normal_form is_killed braid (suc m) (single w) in
    let n : IsNormalForm is_killed braid (suc m) (single w) (normal_form is_killed braid (suc m) (single w)) = form_is_normal is_killed braid is.field (suc m) (l (suc m)) (single w) (size, tt) (over, tt) in
    let before : IsOfEarlierWords braid w (normal_form is_killed braid (length w) (single w)) = (normal_forms_look_back is_killed braid is.field w over (l (length w))).1 other in
    let earlier : IsOfEarlierWords braid w (normal_form is_killed braid (suc m) (single w)) = subst (λ d. IsOfEarlierWords braid w (normal_form is_killed braid d (single w))) size before in
    let degree : HasDegree (suc m) (normal_form is_killed braid (suc m) (single w)) = subst (λ d. HasDegree d (normal_form is_killed braid (suc m) (single w))) size earlier.degree in
    subst (IsFormOver braid m (basis is_killed braid (suc m))) (sym e) (record {
      among = n.least;
      earlier = earlier.earlier;
      derivatives = λ a la. image_of_difference braid.field is.field (λ v. derived_form is_killed braid (suc m) v a) w f
          ((derived_forms_tell_zero braid is m (minus braid.field (single w) f) (minus_degree braid.field (suc m) (single w) f (size, tt) degree) (minus_over braid.field braid.letters (single w) f (over, tt) earlier.over)).0 n.congruent a la);
    })

-- the words of the right table are the candidates
right_candidates : (braid : BraidValue) → IsBraid braid → (m : ℕ) → AreCandidates braid (suc m) (basis is_killed braid (suc m)) (candidates_of (relations is_killed braid (suc m)))
right_candidates braid is m = record {
  first_rise = basis_rises is_killed braid (suc m);
  second_rise = relations_rise is_killed braid (suc m);
  all = λ w. (split w, joined w);
  once = λ w i j. apart w i j;
}
  where
    ideal : IsRightIdealTest braid (is_killed braid)
    ideal = is_killed_is_ideal braid is.field is.rack

    split : (w : List ℕ) → Contains (candidates is_killed braid (suc m)) w → Contains (basis is_killed braid (suc m)) w ⊎ Contains (candidates_of (relations is_killed braid (suc m))) w
    split w i = at (is_least is_killed braid w) refl
      where
        at : (b : Bool) → is_least is_killed braid w ≡ b → Contains (basis is_killed braid (suc m)) w ⊎ Contains (candidates_of (relations is_killed braid (suc m))) w
        at true e = let (size, over) = from_candidates is_killed braid (suc m) w i in inl (in_basis is_killed braid (suc m) w size over e)
        at false e = inr (in_relations braid (suc m) w i e)

    joined : (w : List ℕ) → Contains (basis is_killed braid (suc m)) w ⊎ Contains (candidates_of (relations is_killed braid (suc m))) w → Contains (candidates is_killed braid (suc m)) w
    joined w (inl i) =
        let (size, over, least) = from_basis is_killed braid (suc m) w i in
        least_is_listed is_killed braid is.field (suc m) (ideal.linear (suc m)) (candidates is_killed braid (suc m)) (candidates_span is_killed braid is.field ideal (suc m)) w size over least
    joined w (inr i) =
        let (r, j, e) = from_map (λ (r : PlainRelation). r.candidate) w (relations is_killed braid (suc m)) i in
        let (v, l, other, d) = from_relations braid (suc m) r j in
        subst (Contains (candidates is_killed braid (suc m))) (sym (e ∙ ap (λ (s : PlainRelation). s.candidate) d)) l

    apart : (w : List ℕ) → Contains (basis is_killed braid (suc m)) w → Contains (candidates_of (relations is_killed braid (suc m))) w → ⊥
    apart w i j =
        let (r, l, e) = from_map (λ (r : PlainRelation). r.candidate) w (relations is_killed braid (suc m)) j in
        let (v, n, other, d) = from_relations braid (suc m) r l in
        let same : w ≡ v = e ∙ ap (λ (s : PlainRelation). s.candidate) d in
        let c : true ≡ false = sym (from_basis is_killed braid (suc m) w i).2 ∙ ap (is_least is_killed braid) same ∙ other in
        cc

-- ---- what passes is accepted by the tests

both : (b c : Bool) → b ≡ true → c ≡ true → (b && c) ≡ true
both true c e f = f
both false c e f = absurd cc

is_found : (ws : List (List ℕ)) (w : List ℕ) → Contains ws w → is_in ws w ≡ true
is_found ws w i = any_of (λ v. same_letters w v) w ws i (same_itself w)

rise_found : (ws : List (List ℕ)) → IsRising ws → rises ws ≡ true
unfolding rises
rise_found [] r = refl
rise_found (w ∷ []) r = refl
rise_found (v ∷ w ∷ ws) r = both (is_lt (word_cmp v w)) (rises (w ∷ ws)) (ap is_lt r.0) (rise_found (w ∷ ws) r.1)

either : (b c : Bool) → (b ≡ true) ⊎ (c ≡ true) → (b || c) ≡ true
either true c s = refl
either false true s = refl
either false false (inl e) = e
either false false (inr e) = e

candidates_found : (braid : BraidValue) (m : ℕ) (ws vs : List (List ℕ)) → AreCandidates braid m ws vs → are_candidates braid m ws vs ≡ true
unfolding are_candidates
candidates_found braid m ws vs p =
    let cs : List (List ℕ) = candidates is_killed braid m in
    both (rises ws && rises vs && list_all (λ w. is_in ws w || is_in vs w) cs && list_all (is_in cs) (ws ++ vs)) (list_all (λ w. not (is_in vs w)) ws)
    (both (rises ws && rises vs && list_all (λ w. is_in ws w || is_in vs w) cs) (list_all (is_in cs) (ws ++ vs))
    (both (rises ws && rises vs) (list_all (λ w. is_in ws w || is_in vs w) cs) (both (rises ws) (rises vs) (rise_found ws p.first_rise) (rise_found vs p.second_rise))
    (each_of (λ w. is_in ws w || is_in vs w) cs (λ w i. either (is_in ws w) (is_in vs w) (elim ((p.all w).0 i) [ inl a ↦ inl (is_found ws w a) | inr b ↦ inr (is_found vs w b) ]))))
    (each_of (is_in cs) (ws ++ vs) (λ w i. is_found cs w ((p.all w).1 (Contains-append_cases ws vs w i)))))
    (each_of (λ w. not (is_in vs w)) ws (λ w i. outside w i (is_in vs w) refl))
  where
    outside : (w : List ℕ) → Contains ws w → (b : Bool) → is_in vs w ≡ b → not b ≡ true
    outside w i false e = refl
    outside w i true e = let (v, j, same) = some_of (λ v. same_letters w v) vs e in absurd (p.once w i (subst (Contains vs) (sym (same_text w v (sym same))) j))

form_found : (braid : BraidValue) → IsField braid.field → (m : ℕ) (ws : List (List ℕ)) (r : PlainRelation) → IsFormOver braid m ws r → has_form braid m ws r ≡ true
unfolding has_form AllAmong
form_found braid is m ws r p =
    both (list_all (λ t. is_in ws t.word && is_lt (word_cmp t.word r.candidate)) r.form)
    (list_all (λ a. are_same braid.field (derived_form is_killed braid (suc m) r.candidate a) (linear_map braid.field (λ v. derived_form is_killed braid (suc m) v a) r.form)) (up_to braid.letters))
    (earlier r.form p.among p.earlier)
    (each_of (λ a. are_same braid.field (derived_form is_killed braid (suc m) r.candidate a) (linear_map braid.field (λ v. derived_form is_killed braid (suc m) v a) r.form)) (up_to braid.letters)
    (λ a i. is_zero_complete braid.field (minus braid.field (derived_form is_killed braid (suc m) r.candidate a) (linear_map braid.field (λ v. derived_form is_killed braid (suc m) v a) r.form))
    (minus_is_zero braid.field is (derived_form is_killed braid (suc m) r.candidate a) (linear_map braid.field (λ v. derived_form is_killed braid (suc m) v a) r.form) (p.derivatives a (from_up_to braid.letters a i)))))
  where
    earlier : (f : Combination) → AllByRecursion (λ t. Contains ws t.word) f → AllByRecursion (λ t. word_cmp t.word r.candidate ≡ Less) f → list_all (λ t. is_in ws t.word && is_lt (word_cmp t.word r.candidate)) f ≡ true
    earlier [] among less = refl
    earlier (t ∷ f) among less =
        both (is_in ws t.word && is_lt (word_cmp t.word r.candidate)) (list_all (λ t. is_in ws t.word && is_lt (word_cmp t.word r.candidate)) f)
        (both (is_in ws t.word) (is_lt (word_cmp t.word r.candidate)) (is_found ws t.word among.0) (ap is_lt less.0)) (earlier f among.1 less.1)

test_found : (braid : BraidValue) (m : ℕ) (ws : List (List ℕ)) (w : List ℕ) (fs : List Combination) → IsTestFor braid m ws w fs → is_test braid m ws w fs ≡ true
test_found braid m ws w fs p =
    both (nat_eq (tested braid m fs w) 1) (list_all (λ v. same_letters v w || nat_eq (tested braid m fs v) 0) ws) ((Decides-eqb (tested braid m fs w) 1).1 p.own)
    (each_of (λ v. same_letters v w || nat_eq (tested braid m fs v) 0) ws (λ v i. other v i (same_letters v w) refl))
  where
    other : (v : List ℕ) → Contains ws v → (b : Bool) → same_letters v w ≡ b → (b || nat_eq (tested braid m fs v) 0) ≡ true
    other v i true e = refl
    other v i false e = (Decides-eqb (tested braid m fs v) 0).1 (p.others v i (λ same. let c : true ≡ false = sym (same_itself w) ∙ ap (λ u. same_letters u w) (sym same) ∙ e in cc))

finds_none : {X : Type 0} (t : X → Bool) (xs : List X) → ((x : X) → Contains xs x → t x ≡ true) → find (λ x. not (t x)) xs ≡ None
finds_none {X = X} t xs all = at (find (λ x. not (t x)) xs) refl
  where
    at : (o : Option X) → find (λ x. not (t x)) xs ≡ o → o ≡ None
    at None e = refl
    at (Some x) e = let (i, fails) = found (λ x. not (t x)) xs x e in absurd (let c : false ≡ true = ap not (sym (all x i)) ∙ fails in cc)

from_numbers : (a n k : ℕ) → Contains (range_with_len a n) k → k < a + n
from_numbers a zero k i = absurd (contains_none k i)
from_numbers a (suc n) k i = elim (contains_cases a (range_with_len (a + 1) n) k i) [
  | inl same ↦ omega (arith, same)
  | inr later ↦ let less : k < a + 1 + n = from_numbers (a + 1) n k later in omega arith
]

pub right_tables_are_unrefused : RightTablesAreUnrefused
unfolding table_refusal form_refused inverse_refused has_array
right_tables_are_unrefused braid is order m tests p =
    ap (λ b. cond b (option_or (form_refused braid m t) (inverse_refused braid order m t)) (Some candidates_refusal)) (candidates_found braid (suc m) ws (candidates_of rs) (right_candidates braid is m))
    ∙ ap₂ (λ (x y : Option TableRefusal). option_or x y)
    (ap (λ (o : Option PlainRelation). option_map (λ (r : PlainRelation). form_refusal r.candidate) o) (finds_none (has_form braid m ws) rs (λ r i. form_found braid is.field m ws r (form_passes braid is m r i))))
    (ap (λ (o : Option ℕ). option_map (λ i. inverse_refusal (word_at ws i)) o) (finds_none (has_array braid order m t) (range_with_len 0 (length ws)) (λ i j. array i (from_numbers 0 (length ws) i j))))
  where
    ws : List (List ℕ)
    ws = basis is_killed braid (suc m)

    rs : List PlainRelation
    rs = relations is_killed braid (suc m)

    t : Table
    t = record { basis = ws; relations = rs; tests = tests }

    array : (i : ℕ) → i < 0 + length ws → has_array braid order m t i ≡ true
    array i below =
        let less : i < length tests = omega (arith, below, p.count) in
        let here : nat_lt i (length tests) ≡ true = grind (arith, nat_tests) in
        let last : nat_eq (length tests) (length ws) ≡ true = (Decides-eqb (length tests) (length ws)).1 p.count in
        both (nat_lt i (length tests) && (nat_lt (i + 1) (length ws) || nat_eq (length tests) (length ws)) && nat_eq (length (slice_index_or tests i [])) braid.letters && is_over_basis braid m (slice_index_or tests i []))
        (is_test braid m ws (word_at ws i) (by_ranks order (slice_index_or tests i [])))
        (both (nat_lt i (length tests) && (nat_lt (i + 1) (length ws) || nat_eq (length tests) (length ws)) && nat_eq (length (slice_index_or tests i [])) braid.letters) (is_over_basis braid m (slice_index_or tests i []))
        (both (nat_lt i (length tests) && (nat_lt (i + 1) (length ws) || nat_eq (length tests) (length ws))) (nat_eq (length (slice_index_or tests i [])) braid.letters)
        (both (nat_lt i (length tests)) (nat_lt (i + 1) (length ws) || nat_eq (length tests) (length ws)) here (either (nat_lt (i + 1) (length ws)) (nat_eq (length tests) (length ws)) (inr last)))
        ((Decides-eqb (length (slice_index_or tests i [])) braid.letters).1 (p.letters i less))) (p.over i less))
        (test_found braid m ws (word_at ws i) (by_ranks order (slice_index_or tests i [])) (p.tell i less))
