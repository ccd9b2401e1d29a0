-- A letter that passes a word from its right end: the loop's invariant, and its steps.
use Rattle.std.proofs.Common.{◌≡◌, ◌≢◌, ℕ, zero, suc, ◌+◌, ◌-◌, ◌<◌, ◌≤◌, Bool, true, false, cond, List, [], ◌∷◌, ◌++◌, length, map, take, drop, set, get_or, refl, sym, ◌∙◌, ap, ap₂, arith, subst, append_assoc, nat_eq, if◌then◌else◌}
use Rattle.std.proofs.Math.Seq.{drop-cons, take-suc, drop-length, set-append_seam}
use Rattle.std.proofs.lemmas.List.{append-nil, drop_all, length-take-le, map-append, map-id}
use Rattle.std.proofs.lemmas.Bool.Decides.{Decides-eqb}
use Rattle.std.proofs.lemmas.Bool.{ne_eqb}
use Rattle.nichols_field.specs.Field.{FieldValue, IsField, IsElement, plus, times}
use Rattle.nichols_field.proofs.FieldLaws.{plus_assoc, plus_comm, plus_zero, times_is_element, times_one, times_assoc, times_comm}
use Rattle.nichols_field.proofs.FieldAlgebra.{zero_plus, chosen_is_element}
use Rattle.nichols_tensor.specs.Combination.{Term, Combination, value_at, same_letters, scalar_multiple, AllElements}
use Rattle.nichols_tensor.proofs.Values.{value_is_element, value_at-append}
use Rattle.nichols_tensor.proofs.Building.{elements-push, value_at-push}
use Rattle.nichols_braid.specs.Braid.{BraidValue, act, scalar}
use Rattle.nichols_braid.specs.Derivation.{scalars_met, derived_word}

-- a front put before the word of each term
abbrev pub fronted : List ℕ → Combination → Combination
fronted front f = map (λ t. record { word = front ++ t.word; coefficient = t.coefficient }) f

-- what the places from `left` on contribute to the derivative of w with coefficient c
abbrev pub contributed : BraidValue → ℕ → ℕ → List ℕ → List ℕ → Combination
contributed braid a c front behind = scalar_multiple braid.field c (fronted front (derived_word braid a behind))

-- a has passed the letters of w behind the first `left` ones
pub record IsPassing (braid : BraidValue) (a c : ℕ) (w : List ℕ) (before : Combination) (left : ℕ) (passed : List ℕ) (met : ℕ) (out : Combination) : Type 0 where
  pub within : left ≤ length w
  pub word : passed ≡ take (left - 1) w ++ map (act braid a) (drop (left - 1 + 1) w)
  pub scalar : met ≡ times braid.field c (scalars_met braid a (drop left w))
  pub element : IsElement braid.field met
  pub value : (v : List ℕ) → value_at braid.field out v ≡ plus braid.field (value_at braid.field before v) (value_at braid.field (contributed braid a c (take left w) (drop left w)) v)
  pub elements : AllElements braid.field out

-- ---- the start

nothing_behind : (braid : BraidValue) (a c : ℕ) (front behind : List ℕ) (v : List ℕ) → behind ≡ [] → value_at braid.field (contributed braid a c front behind) v ≡ 0
unfolding derived_word
nothing_behind braid a c front behind v e = ap (λ u. value_at braid.field (contributed braid a c front u) v) e

pub passing_start : (braid : BraidValue) → IsField braid.field → (a c : ℕ) (w : List ℕ) (before : Combination) (n : ℕ) → n ≡ length w → IsElement braid.field c → AllElements braid.field before → IsPassing braid a c w before n (take (n - 1) w) c before
passing_start braid is a c w before n e element elements =
    subst (λ m. IsPassing braid a c w before m (take (m - 1) w) c before) (sym e)
    (record {
      within = omega arith;
      word = sym (append-nil (take (length w - 1) w)) ∙ ap (λ r. take (length w - 1) w ++ map (act braid a) r) (sym (drop_all (length w - 1 + 1) w (omega arith)));
      scalar = sym (times_one braid.field c element) ∙ ap (λ r. times braid.field c (scalars_met braid a r)) (sym (drop-length w));
      element = element;
      value = λ v. sym (plus_zero braid.field (value_at braid.field before v) (value_is_element braid.field is before v)) ∙ ap (plus braid.field (value_at braid.field before v)) (sym (nothing_behind braid a c (take (length w) w) (drop (length w) w) v (drop-length w)));
      elements = elements;
    })

-- ---- one letter more

pub fronted_twice : (front : List ℕ) (x : ℕ) (ts : Combination) → fronted front (map (λ t. record { word = x ∷ t.word; coefficient = t.coefficient }) ts) ≡ fronted (front ++ x ∷ []) ts
fronted_twice front x [] = refl
fronted_twice front x (t ∷ ts) = ap₂ (λ (u : Term) (us : Combination). u ∷ us) (let e : front ++ x ∷ t.word ≡ (front ++ x ∷ []) ++ t.word = sym (append_assoc front (x ∷ []) t.word) in ap (λ (w : List ℕ). record { word = w; coefficient = t.coefficient }) e) (fronted_twice front x ts)

contributed_here : (k : FieldValue) → IsField k → (c : ℕ) (front : List ℕ) (b : Bool) (t : Term) (v : List ℕ) →
    value_at k (scalar_multiple k c (fronted front (if b then t ∷ [] else []))) v ≡ cond b (cond (same_letters (front ++ t.word) v) (times k c t.coefficient) 0) 0
contributed_here k is c front true t v = plus_zero k (cond (same_letters (front ++ t.word) v) (times k c t.coefficient) 0) (chosen_is_element k (same_letters (front ++ t.word) v) (times k c t.coefficient) is (times_is_element k c t.coefficient is))
contributed_here k is c front false t v = refl

-- what one letter more contributes
contributed_more : (braid : BraidValue) → IsField braid.field → (a c : ℕ) (u : List ℕ) (x : ℕ) (r : List ℕ) (v : List ℕ) →
    value_at braid.field (contributed braid a c u (x ∷ r)) v
    ≡ plus braid.field (cond (nat_eq a x) (cond (same_letters (u ++ map (act braid a) r) v) (times braid.field c (scalars_met braid a r)) 0) 0) (value_at braid.field (contributed braid a c (u ++ x ∷ []) r) v)
unfolding derived_word
contributed_more braid is a c u x r v =
    let k : FieldValue = braid.field in
    let t : Term = record { word = map (act braid a) r; coefficient = scalars_met braid a r } in
    let rest : Combination = map (λ s. record { word = x ∷ s.word; coefficient = s.coefficient }) (derived_word braid a r) in
    let first : Combination = if nat_eq a x then t ∷ [] else [] in
    ap (λ f. value_at k (scalar_multiple k c f) v) (map-append (λ (s : Term). record { word = u ++ s.word; coefficient = s.coefficient }) first rest)
    ∙ ap (λ f. value_at k f v) (map-append (λ (s : Term). record { word = s.word; coefficient = times k c s.coefficient }) (fronted u first) (fronted u rest))
    ∙ value_at-append k is (scalar_multiple k c (fronted u first)) (scalar_multiple k c (fronted u rest)) v
    ∙ ap₂ (plus k) (contributed_here k is c u (nat_eq a x) t v) (ap (λ f. value_at k (scalar_multiple k c f) v) (fronted_twice u x (derived_word braid a r)))

passed_on : (braid : BraidValue) (a : ℕ) (w : List ℕ) (n : ℕ) (passed : List ℕ) → suc n < length w → passed ≡ take (suc n) w ++ map (act braid a) (drop (suc n + 1) w) →
    set passed n (act braid a (get_or w (suc n) 0)) ≡ take n w ++ map (act braid a) (drop (n + 1) w)
passed_on braid a w n passed within e =
    let few : n < length w = omega arith in
    let next : suc n + 1 ≡ suc (suc n) = omega arith in
    let here : n + 1 ≡ suc n = omega arith in
    let behind : List ℕ = map (act braid a) (drop (suc (suc n)) w) in
    let shape : passed ≡ take n w ++ get_or w n 0 ∷ behind =
    e ∙ ap₂ (λ f r. f ++ map (act braid a) r) (take-suc w n 0 few) (ap (λ i. drop i w) next) ∙ append_assoc (take n w) (get_or w n 0 ∷ []) behind in
    ap (λ p. set p n (act braid a (get_or w (suc n) 0))) shape
    ∙ ap (λ i. set (take n w ++ get_or w n 0 ∷ behind) i (act braid a (get_or w (suc n) 0))) (sym (length-take-le n w (omega arith)))
    ∙ set-append_seam (take n w) (get_or w n 0) behind (act braid a (get_or w (suc n) 0))
    ∙ ap (λ r. take n w ++ map (act braid a) r) (sym (drop-cons w (suc n) 0 within) ∙ ap (λ i. drop i w) (sym here))

-- the word after a step: with the letter before the place that was passed replaced, if there is one
abbrev pub stepped : BraidValue → ℕ → ℕ → List ℕ → ℕ → List ℕ
stepped braid a zero passed x = passed
stepped braid a (suc n) passed x = set passed n (act braid a x)

pub stepped_some : (braid : BraidValue) (a n : ℕ) (passed : List ℕ) (x : ℕ) → 0 < n → set passed (n - 1) (act braid a x) ≡ stepped braid a n passed x
stepped_some braid a zero passed x some = absurd (omega arith)
stepped_some braid a (suc n) passed x some = let less : suc n - 1 ≡ n = omega arith in ap (λ i. set passed i (act braid a x)) less

pub stepped_none : (braid : BraidValue) (a n : ℕ) (passed : List ℕ) (x : ℕ) → n ≤ 0 → passed ≡ stepped braid a n passed x
stepped_none braid a zero passed x none = refl
stepped_none braid a (suc n) passed x none = absurd (omega arith)

stepped_word : (braid : BraidValue) (a : ℕ) (w : List ℕ) (n : ℕ) (passed : List ℕ) → n < length w → passed ≡ take n w ++ map (act braid a) (drop (n + 1) w) →
    stepped braid a n passed (get_or w n 0) ≡ take (n - 1) w ++ map (act braid a) (drop (n - 1 + 1) w)
stepped_word braid a w zero passed within e = e
stepped_word braid a w (suc n) passed within e =
    let less : suc n - 1 ≡ n = omega arith in
    passed_on braid a w n passed within e ∙ ap (λ i. take i w ++ map (act braid a) (drop (i + 1) w)) (sym less)

-- the scalar after a step
stepped_scalar : (braid : BraidValue) (a c : ℕ) (w : List ℕ) (n met : ℕ) → n < length w → met ≡ times braid.field c (scalars_met braid a (drop (suc n) w)) →
    times braid.field met (scalar braid a (get_or w n 0)) ≡ times braid.field c (scalars_met braid a (drop n w))
stepped_scalar braid a c w n met within e =
    let k : FieldValue = braid.field in
    let q : ℕ = scalar braid a (get_or w n 0) in
    let r : ℕ = scalars_met braid a (drop (suc n) w) in
    ap (λ m. times k m q) e ∙ times_assoc k c r q ∙ ap (times k c) (times_comm k r q) ∙ ap (λ d. times k c (scalars_met braid a d)) (sym (drop-cons w n 0 within))

-- the terms after a step
stepped_value : (braid : BraidValue) → IsField braid.field → (a c : ℕ) (w : List ℕ) (before : Combination) (n : ℕ) (passed : List ℕ) (met : ℕ) (out : Combination) → n < length w → IsPassing braid a c w before (suc n) passed met out → (v : List ℕ) →
    value_at braid.field (contributed braid a c (take n w) (drop n w)) v ≡ plus braid.field (cond (nat_eq a (get_or w n 0)) (cond (same_letters passed v) met 0) 0) (value_at braid.field (contributed braid a c (take (suc n) w) (drop (suc n) w)) v)
stepped_value braid is a c w before n passed met out within h v =
    let k : FieldValue = braid.field in
    let x : ℕ = get_or w n 0 in
    let r : List ℕ = drop (suc n) w in
    let less : suc n - 1 ≡ n = omega arith in
    let next : n + 1 ≡ suc n = omega arith in
    let word : passed ≡ take n w ++ map (act braid a) r = h.word ∙ ap (λ i. take i w ++ map (act braid a) (drop (i + 1) w)) less ∙ ap (λ i. take n w ++ map (act braid a) (drop i w)) next in
    ap (λ d. value_at k (contributed braid a c (take n w) d) v) (drop-cons w n 0 within)
    ∙ contributed_more braid is a c (take n w) x r v
    ∙ ap₂ (plus k) (ap₂ (λ (p : List ℕ) (m : ℕ). cond (nat_eq a x) (cond (same_letters p v) m 0) 0) (sym word) (sym h.scalar)) (ap (λ f. value_at k (contributed braid a c f r) v) (sym (take-suc w n 0 within)))

-- a step at a letter that isn't a
pub passing-other : (braid : BraidValue) → IsField braid.field → (a c : ℕ) (w : List ℕ) (before : Combination) (left n : ℕ) (passed : List ℕ) (met : ℕ) (out : Combination) → 0 < left → n ≡ left - 1 → IsPassing braid a c w before left passed met out →
    (x : ℕ) → x ≡ get_or w n 0 → a ≢ x → (next : List ℕ) (met' : ℕ) → next ≡ stepped braid a n passed x → met' ≡ times braid.field met (scalar braid a x) → IsPassing braid a c w before n next met' out
passing-other braid is a c w before zero n passed met out some e h x at other next met' word product = absurd (omega arith)
passing-other braid is a c w before (suc m) n passed met out some e h x at other next met' word product =
    let same : n ≡ m = omega arith in
    subst (λ i. IsPassing braid a c w before i next met' out) (sym same)
    (let within : m < length w = let i : suc m ≤ length w = h.within in omega arith in
    let here : x ≡ get_or w m 0 = at ∙ ap (λ i. get_or w i 0) same in
    let k : FieldValue = braid.field in
    let apart : nat_eq a (get_or w m 0) ≡ false = ap (nat_eq a) (sym here) ∙ ne_eqb a x other in
    record {
      within = omega arith;
      word = word ∙ ap₂ (λ i y. stepped braid a i passed y) same here ∙ stepped_word braid a w m passed within (h.word ∙ ap (λ i. take i w ++ map (act braid a) (drop (i + 1) w)) (let less : suc m - 1 ≡ m = omega arith in less));
      scalar = product ∙ ap (λ y. times k met (scalar braid a y)) here ∙ stepped_scalar braid a c w m met within h.scalar;
      element = subst (IsElement k) (sym product) (times_is_element k met (scalar braid a x) is);
      value = λ v. h.value v ∙ ap (plus k (value_at k before v)) (sym (stepped_value braid is a c w before m passed met out within h v ∙ ap (λ b. plus k (cond b (cond (same_letters passed v) met 0) 0) (rest v)) apart ∙ zero_plus k (rest v) (value_is_element k is (contributed braid a c (take (suc m) w) (drop (suc m) w)) v)));
      elements = h.elements;
    })
  where
    rest : List ℕ → ℕ
    rest v = value_at braid.field (contributed braid a c (take (suc m) w) (drop (suc m) w)) v

-- a step at a letter a
pub passing-here : (braid : BraidValue) → IsField braid.field → (a c : ℕ) (w : List ℕ) (before : Combination) (left n : ℕ) (passed : List ℕ) (met : ℕ) (out : Combination) → 0 < left → n ≡ left - 1 → IsPassing braid a c w before left passed met out →
    (x : ℕ) → x ≡ get_or w n 0 → a ≡ x → (next : List ℕ) (met' : ℕ) → next ≡ stepped braid a n passed x → met' ≡ times braid.field met (scalar braid a x) → IsPassing braid a c w before n next met' (out ++ record { word = passed; coefficient = met } ∷ [])
passing-here braid is a c w before zero n passed met out some e h x at same_letter next met' word product = absurd (omega arith)
passing-here braid is a c w before (suc m) n passed met out some e h x at same_letter next met' word product =
    let same : n ≡ m = omega arith in
    subst (λ i. IsPassing braid a c w before i next met' (out ++ record { word = passed; coefficient = met } ∷ [])) (sym same)
    (let within : m < length w = let i : suc m ≤ length w = h.within in omega arith in
    let here : x ≡ get_or w m 0 = at ∙ ap (λ i. get_or w i 0) same in
    let k : FieldValue = braid.field in
    let t : Term = record { word = passed; coefficient = met } in
    let found : nat_eq a (get_or w m 0) ≡ true = ap (nat_eq a) (sym here) ∙ (Decides-eqb a x).1 same_letter in
    record {
      within = omega arith;
      word = word ∙ ap₂ (λ i y. stepped braid a i passed y) same here ∙ stepped_word braid a w m passed within (h.word ∙ ap (λ i. take i w ++ map (act braid a) (drop (i + 1) w)) (let less : suc m - 1 ≡ m = omega arith in less));
      scalar = product ∙ ap (λ y. times k met (scalar braid a y)) here ∙ stepped_scalar braid a c w m met within h.scalar;
      element = subst (IsElement k) (sym product) (times_is_element k met (scalar braid a x) is);
      value = λ v.
          value_at-push k is out t v h.element ∙ ap (λ n. plus k n (new v)) (h.value v) ∙ plus_assoc k (value_at k before v) (rest v) (new v)
          ∙ ap (plus k (value_at k before v)) (plus_comm k (rest v) (new v) ∙ sym (stepped_value braid is a c w before m passed met out within h v ∙ ap (λ b. plus k (cond b (new v) 0) (rest v)) found));
      elements = elements-push k out t h.elements h.element;
    })
  where
    rest : List ℕ → ℕ
    rest v = value_at braid.field (contributed braid a c (take (suc m) w) (drop (suc m) w)) v

    new : List ℕ → ℕ
    new v = cond (same_letters passed v) met 0

-- ---- the end

pub passed_all : (braid : BraidValue) (a c : ℕ) (w : List ℕ) (before : Combination) (left : ℕ) (passed : List ℕ) (met : ℕ) (out : Combination) → left ≡ 0 → IsPassing braid a c w before left passed met out → (v : List ℕ) →
    value_at braid.field out v ≡ plus braid.field (value_at braid.field before v) (value_at braid.field (scalar_multiple braid.field c (derived_word braid a w)) v)
passed_all braid a c w before left passed met out e h v =
    h.value v ∙ ap (λ i. plus braid.field (value_at braid.field before v) (value_at braid.field (contributed braid a c (take i w) (drop i w)) v)) e
    ∙ ap (λ f. plus braid.field (value_at braid.field before v) (value_at braid.field (scalar_multiple braid.field c f) v)) (map-id (derived_word braid a w))
