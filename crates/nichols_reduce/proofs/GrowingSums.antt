-- Sums over the words of a basis: their combinations, and how they grow.
use Rattle.std.proofs.Common.{◌≡◌, ℕ, zero, suc, ◌+◌, ◌<◌, ◌≤◌, Bool, true, false, not, nat_eq, cond, List, [], ◌∷◌, ◌++◌, length, get_or, set, take, replicate, refl, sym, ◌∙◌, ap, ap₂, arith, append_assoc, inl, inr}
use Rattle.std.proofs.lemmas.Bool.Decides.{eqb_tells}
use Rattle.std.proofs.lemmas.List.{append-nil, map-append, take_more, take_all}
use Rattle.std.proofs.lemmas.List.Elements.{filter-append}
use Rattle.nichols_field.specs.Field.{FieldValue, IsField, IsElement, plus, times, element_of_sum}
use Rattle.nichols_field.proofs.FieldLaws.{plus_comm, plus_assoc, plus_zero, times_is_element, zero_is_element}
use Rattle.nichols_field.proofs.FieldAlgebra.{plus_chosen, chosen_is_element, zero_times}
use Rattle.nichols_field.proofs.Pending.{settled_zero}
use Rattle.nichols_tensor.specs.Combination.{Term, Combination, value_at, same_letters, HasSameValues, IsZero, scalar_multiple, without_zeros}
use Rattle.nichols_tensor.proofs.Values.{value_at-append, value_at-scalar_multiple}
use Rattle.nichols_tensor.proofs.Linear.{same_append}
use Rattle.nichols_reduce.specs.Sums.{combination_of, HasGrownBy}

-- ---- the combination of sums

pub combination_length : (k : FieldValue) (ws : List (List ℕ)) (sums : List ℕ) → length sums ≡ length ws → length (combination_of k ws sums) ≡ length ws
unfolding combination_of
combination_length k [] sums e = refl
combination_length k (w ∷ ws) [] e = absurd (omega arith)
combination_length k (w ∷ ws) (n ∷ sums) e = ap suc (combination_length k ws sums (omega arith))

pub combination_at : (k : FieldValue) (ws : List (List ℕ)) (sums : List ℕ) (i : ℕ) (t : Term) (v : List ℕ) → length sums ≡ length ws → i < length ws → get_or (combination_of k ws sums) i t ≡ record { word = get_or ws i v; coefficient = element_of_sum k (get_or sums i 0) }
unfolding combination_of
combination_at k [] sums i t v e less = absurd (omega arith)
combination_at k (w ∷ ws) [] i t v e less = absurd (omega arith)
combination_at k (w ∷ ws) (n ∷ sums) zero t v e less = refl
combination_at k (w ∷ ws) (n ∷ sums) (suc i) t v e less = combination_at k ws sums i t v (omega arith) (omega arith)

-- sums of 0 stand for zero
pub zeros_are_zero : (k : FieldValue) → IsField k → (ws : List (List ℕ)) (n : ℕ) → IsZero k (combination_of k ws (replicate n 0))
unfolding combination_of
zeros_are_zero k is [] n v = refl
zeros_are_zero k is (w ∷ ws) zero v = refl
zeros_are_zero k is (w ∷ ws) (suc n) v =
    ap₂ (λ c r. plus k (cond (same_letters w v) c 0) r) (settled_zero k is) (zeros_are_zero k is ws n v) ∙ at (same_letters w v)
  where
    at : (b : Bool) → plus k (cond b 0 0) 0 ≡ 0
    at true = plus_zero k 0 (zero_is_element k is)
    at false = plus_zero k 0 (zero_is_element k is)

-- ---- one sum more

first_more : (k : FieldValue) → IsField k → (b : Bool) (a c r : ℕ) → IsElement k c → plus k (cond b (plus k a c) 0) r ≡ plus k (cond b a 0) (plus k r (plus k (cond b c 0) 0))
first_more k is b a c r e =
    ap (λ n. plus k n r) (sym (plus_chosen k b a c is))
    ∙ plus_assoc k (cond b a 0) (cond b c 0) r
    ∙ ap (plus k (cond b a 0)) (plus_comm k (cond b c 0) r ∙ ap (plus k r) (sym (plus_zero k (cond b c 0) (chosen_is_element k b c is e))))

-- an element is added at a place
put_at : (k : FieldValue) → IsField k → (ws : List (List ℕ)) (sums : List ℕ) (i x c : ℕ) (d : List ℕ) → i < length ws → length sums ≡ length ws → IsElement k c → element_of_sum k x ≡ plus k (element_of_sum k (get_or sums i 0)) c →
    HasSameValues k (combination_of k ws (set sums i x)) (combination_of k ws sums ++ record { word = get_or ws i d; coefficient = c } ∷ [])
unfolding combination_of
put_at k is [] sums i x c d less e element here = absurd (omega arith)
put_at k is (w ∷ ws) [] i x c d less e element here = absurd (omega arith)
put_at k is (w ∷ ws) (n ∷ sums) zero x c d less e element here = λ v.
    ap (λ a. plus k (cond (same_letters w v) a 0) (value_at k (combination_of k ws sums) v)) here
    ∙ first_more k is (same_letters w v) (element_of_sum k n) c (value_at k (combination_of k ws sums) v) element
    ∙ ap (plus k (cond (same_letters w v) (element_of_sum k n) 0)) (sym (value_at-append k is (combination_of k ws sums) (record { word = w; coefficient = c } ∷ []) v))
put_at k is (w ∷ ws) (n ∷ sums) (suc i) x c d less e element here = λ v.
    ap (plus k (cond (same_letters w v) (element_of_sum k n) 0)) (put_at k is ws sums i x c d (omega arith) (omega arith) element here v)

-- ---- growth

pub grown_none : (k : FieldValue) (ws : List (List ℕ)) (sums : List ℕ) → length sums ≡ length ws → HasGrownBy k ws sums [] sums
grown_none k ws sums e = record { width = e; values = λ v. ap (λ f. value_at k f v) (sym (append-nil (combination_of k ws sums))) }

pub grown_same : (k : FieldValue) → IsField k → (ws : List (List ℕ)) (a b : List ℕ) (f g : Combination) → HasGrownBy k ws a f b → HasSameValues k f g → HasGrownBy k ws a g b
grown_same k is ws a b f g h same = record {
  width = h.width;
  values = λ v. h.values v ∙ same_append k is (combination_of k ws a) f (combination_of k ws a) g (λ u. refl) same v;
}

pub grown_more : (k : FieldValue) → IsField k → (ws : List (List ℕ)) (a b c : List ℕ) (f g : Combination) → HasGrownBy k ws a f b → HasGrownBy k ws b g c → HasGrownBy k ws a (f ++ g) c
grown_more k is ws a b c f g h i = record {
  width = i.width;
  values = λ v.
      i.values v ∙ same_append k is (combination_of k ws b) g (combination_of k ws a ++ f) g h.values (λ u. refl) v
      ∙ ap (λ e. value_at k e v) (append_assoc (combination_of k ws a) f g);
}

pub grown_by_term : (k : FieldValue) → IsField k → (ws : List (List ℕ)) (sums : List ℕ) (i x by c : ℕ) (w d : List ℕ) → i < length ws → length sums ≡ length ws → (length (set sums i x) ≡ length sums) → element_of_sum k x ≡ plus k (element_of_sum k (get_or sums i 0)) (times k by c) → get_or ws i d ≡ w →
    HasGrownBy k ws sums (record { word = w; coefficient = times k by c } ∷ []) (set sums i x)
grown_by_term k is ws sums i x by c w d less e same here word = record {
  width = same ∙ e;
  values = λ v.
      put_at k is ws sums i x (times k by c) d less e (times_is_element k by c is) here v
      ∙ ap (λ (u : List ℕ). value_at k (combination_of k ws sums ++ record { word = u; coefficient = times k by c } ∷ []) v) word;
}

-- one of the terms of f more
pub grown_by_next : (k : FieldValue) → IsField k → (ws : List (List ℕ)) (a b c : List ℕ) (by : ℕ) (f : Combination) (i : ℕ) (t : Term) → i < length f → t ≡ get_or f i t →
    HasGrownBy k ws a (scalar_multiple k by (take i f)) b → HasGrownBy k ws b (scalar_multiple k by (t ∷ [])) c → HasGrownBy k ws a (scalar_multiple k by (take (i + 1) f)) c
grown_by_next k is ws a b c by f i t less at h j =
    let e : scalar_multiple k by (take (i + 1) f) ≡ scalar_multiple k by (take i f) ++ scalar_multiple k by (t ∷ []) =
    ap (scalar_multiple k by) (take_more f i t less ∙ ap (λ u. take i f ++ u ∷ []) (sym at)) ∙ map-append (λ (u : Term). record { word = u.word; coefficient = times k by u.coefficient }) (take i f) (t ∷ []) in
    grown_same k is ws a c (scalar_multiple k by (take i f) ++ scalar_multiple k by (t ∷ [])) (scalar_multiple k by (take (i + 1) f)) (grown_more k is ws a b c (scalar_multiple k by (take i f)) (scalar_multiple k by (t ∷ [])) h j) (λ v. ap (λ g. value_at k g v) (sym e))

-- 0 times a combination is zero
pub no_multiple : (k : FieldValue) → IsField k → (f : Combination) → IsZero k (scalar_multiple k 0 f)
no_multiple k is f v = value_at-scalar_multiple k is 0 f v ∙ zero_times k (value_at k f v) is

-- all of them
pub taken_whole : (k : FieldValue) (ws : List (List ℕ)) (sums : List ℕ) (i : ℕ) → length sums ≡ length ws → length ws ≤ i → take i (combination_of k ws sums) ≡ combination_of k ws sums
taken_whole k ws sums i e past = take_all i (combination_of k ws sums) (omega (arith, combination_length k ws sums e))

-- ---- the terms other than 0

pub term_kept : (w : List ℕ) (c : ℕ) → (c ≡ 0 → ⊥) → without_zeros (record { word = w; coefficient = c } ∷ []) ≡ record { word = w; coefficient = c } ∷ []
term_kept w c other =
    elim (eqb_tells c 0) [
      | inl same ↦ absurd (other same.1)
      | inr apart ↦ ap (λ b. cond (not b) (record { word = w; coefficient = c } ∷ []) []) apart.0
    ]

pub term_dropped : (w : List ℕ) (c : ℕ) → c ≡ 0 → without_zeros (record { word = w; coefficient = c } ∷ []) ≡ []
term_dropped w c e = ap (λ n. without_zeros (record { word = w; coefficient = n } ∷ [])) e

-- the terms of a multiple, one more
pub terms_more : (k : FieldValue) (by : ℕ) (ws : List (List ℕ)) (sums : List ℕ) (i : ℕ) (before items after : Combination) (w : List ℕ) (c : ℕ) → length sums ≡ length ws → i < length ws → w ≡ get_or ws i w → c ≡ times k by (element_of_sum k (get_or sums i 0)) →
    items ≡ before ++ without_zeros (scalar_multiple k by (take i (combination_of k ws sums))) → after ≡ items ++ without_zeros (record { word = w; coefficient = c } ∷ []) → after ≡ before ++ without_zeros (scalar_multiple k by (take (i + 1) (combination_of k ws sums)))
terms_more k by ws sums i before items after w c e less w_is c_is first rest =
    let f : Combination = combination_of k ws sums in
    let u : Term = record { word = w; coefficient = element_of_sum k (get_or sums i 0) } in
    let at : u ≡ get_or f i u = ap (λ v. record { word = v; coefficient = element_of_sum k (get_or sums i 0) }) w_is ∙ sym (combination_at k ws sums i u w e less) in
    let multiple : Term → Term = λ t. record { word = t.word; coefficient = times k by t.coefficient } in
    let more : scalar_multiple k by (take (i + 1) f) ≡ scalar_multiple k by (take i f) ++ record { word = w; coefficient = c } ∷ [] =
    ap (scalar_multiple k by) (take_more f i u (omega (arith, combination_length k ws sums e)) ∙ ap (λ t. take i f ++ t ∷ []) (sym at)) ∙ map-append multiple (take i f) (u ∷ [])
    ∙ ap (λ n. scalar_multiple k by (take i f) ++ record { word = w; coefficient = n } ∷ []) (sym c_is) in
    rest ∙ ap (λ g. g ++ without_zeros (record { word = w; coefficient = c } ∷ [])) first ∙ append_assoc before (without_zeros (scalar_multiple k by (take i f))) (without_zeros (record { word = w; coefficient = c } ∷ []))
    ∙ ap (λ g. before ++ g) (sym (filter-append (λ (t : Term). not (nat_eq t.coefficient 0)) (scalar_multiple k by (take i f)) (record { word = w; coefficient = c } ∷ [])) ∙ ap without_zeros (sym more))
