-- Long division by (k), and its product.
use Rattle.std.proofs.Common.{◌≡◌, ℕ, zero, suc, ◌+◌, ◌-◌, ◌<◌, ◌≤◌, Bool, true, false, cond, List, [], ◌∷◌, ◌++◌, length, map, take, drop, replicate, refl, sym, ◌∙◌, ap, subst, arith, append_assoc, get_or, set, Some, None, nat_eq, nat_lt, nat_le, inl, inr, ◌&&◌}
use Rattle.std.specs.Prelude.{Option, option_map}
use Rattle.std.specs.Option.{MatchOption}
use Rattle.std.specs.List.{list_all}
use Rattle.std.proofs.Math.Seq.{drop-cons, take-suc, take-append_seam, drop-append_seam}
use Rattle.std.proofs.lemmas.Bool.{cases_lt, leb-true, le-leb, and_from}
use Rattle.std.proofs.lemmas.Bool.Decides.{nat_tests}
use Rattle.std.proofs.lemmas.List.Folds.{list_all_more}
use Rattle.std.proofs.lemmas.List.{length-replicate, length-take-le, length-drop, append-nil, take_all}
use Rattle.nichols_graded.specs.Factors.{polynomial_sum, times_interval, quotient_of, quotient}

-- ---- a number added to the first coefficients, and taken from them

abbrev raised : ℕ → ℕ → List ℕ → List ℕ
raised j a p = polynomial_sum (replicate j a) p

abbrev pub lowered : ℕ → ℕ → List ℕ → List ℕ
lowered j a p = map (λ x. x - a) (take j p) ++ drop j p

raised_length : (j a : ℕ) (p : List ℕ) → j ≤ length p → length (raised j a p) ≡ length p
unfolding polynomial_sum
raised_length zero a p most = refl
raised_length (suc j) a [] most = absurd (omega arith)
raised_length (suc j) a (x ∷ p) most = ap suc (raised_length j a p (omega arith))

raised_enough : (j a : ℕ) (p : List ℕ) → j ≤ length p → list_all (nat_le a) (take j (raised j a p)) ≡ true
unfolding polynomial_sum
raised_enough zero a p most = refl
raised_enough (suc j) a [] most = absurd (omega arith)
raised_enough (suc j) a (x ∷ p) most = and_from _ _ (le-leb a (a + x) (omega arith)) (raised_enough j a p (omega arith))

lowered_raised : (j a : ℕ) (p : List ℕ) → j ≤ length p → lowered j a (raised j a p) ≡ p
unfolding polynomial_sum
lowered_raised zero a p most = refl
lowered_raised (suc j) a [] most = absurd (omega arith)
lowered_raised (suc j) a (x ∷ p) most =
    let first : a + x - a ≡ x = omega arith in
    ap (λ y. y ∷ lowered j a (raised j a p)) first ∙ ap (λ q. x ∷ q) (lowered_raised j a p (omega arith))

raised_lowered : (j a : ℕ) (p : List ℕ) → j ≤ length p → list_all (nat_le a) (take j p) ≡ true → raised j a (lowered j a p) ≡ p
unfolding polynomial_sum
raised_lowered zero a p most enough = refl
raised_lowered (suc j) a [] most enough = absurd (omega arith)
raised_lowered (suc j) a (x ∷ p) most enough = at (nat_le a x) refl (list_all (nat_le a) (take j p)) refl (λ h. raised_lowered j a p (omega arith) h) enough
  where
    at : (b : Bool) → nat_le a x ≡ b → (d : Bool) → list_all (nat_le a) (take j p) ≡ d → (list_all (nat_le a) (take j p) ≡ true → raised j a (lowered j a p) ≡ p) → (b && d) ≡ true →
        raised (suc j) a (lowered (suc j) a (x ∷ p)) ≡ x ∷ p
    at false e d f rest h = cc
    at true e false f rest h = cc
    at true e true f rest h =
        let within : a ≤ x = leb-true a x e in
        let first : a + (x - a) ≡ x = omega arith in
        ap (λ y. y ∷ raised j a (lowered j a p)) first ∙ ap (λ q. x ∷ q) (rest f)

lowered_length : (j a : ℕ) (p : List ℕ) → j ≤ length p → length (lowered j a p) ≡ length p
lowered_length zero a p most = refl
lowered_length (suc j) a [] most = absurd (omega arith)
lowered_length (suc j) a (x ∷ p) most = ap suc (lowered_length j a p (omega arith))

read_lowered : (i a : ℕ) (p : List ℕ) → i < length p → get_or (lowered i a p) i 0 ≡ get_or p i 0
read_lowered i a [] less = absurd (omega arith)
read_lowered zero a (x ∷ p) less = refl
read_lowered (suc i) a (x ∷ p) less = read_lowered i a p (omega arith)

write_lowered : (i a : ℕ) (p : List ℕ) → i < length p → set (lowered i a p) i (get_or p i 0 - a) ≡ lowered (suc i) a p
write_lowered i a [] less = absurd (omega arith)
write_lowered zero a (x ∷ p) less = refl
write_lowered (suc i) a (x ∷ p) less = ap (λ q. (x - a) ∷ q) (write_lowered i a p (omega arith))

pub lowered_next : (i a : ℕ) (p q : List ℕ) → i < length p → q ≡ lowered i a p → set q i (get_or q i 0 - a) ≡ lowered (i + 1) a p
lowered_next i a p q less e =
    let next : suc i ≡ i + 1 = omega arith in
    ap (λ r. set r i (get_or r i 0 - a)) e ∙ ap (λ x. set (lowered i a p) i (x - a)) (read_lowered i a p less) ∙ write_lowered i a p less ∙ ap (λ n. lowered n a p) next

pub enough_next : (i a : ℕ) (p q : List ℕ) → i < length p → q ≡ lowered i a p → list_all (nat_le a) (take i p) ≡ true → a ≤ get_or q i 0 → list_all (nat_le a) (take (i + 1) p) ≡ true
enough_next i a p q less e enough within =
    let value : get_or q i 0 ≡ get_or p i 0 = ap (λ r. get_or r i 0) e ∙ read_lowered i a p less in
    list_all_more (nat_le a) p i 0 less ∙ and_from _ _ enough (le-leb a (get_or p i 0) (omega arith))

-- ---- the product with (k)

interval_cons : (k a : ℕ) (q : List ℕ) → 0 < k → times_interval k (a ∷ q) ≡ a ∷ raised (k - 1) a (times_interval k q)
unfolding polynomial_sum times_interval
interval_cons k a q some =
    let whole : k ≡ suc (k - 1) = omega arith in
    let first : a + 0 ≡ a = omega arith in
    ap (λ n. polynomial_sum (replicate n a) (0 ∷ times_interval k q)) whole ∙ ap (λ x. x ∷ raised (k - 1) a (times_interval k q)) first

interval_nil : (k : ℕ) → times_interval k [] ≡ replicate (k - 1) 0
unfolding times_interval
interval_nil k = refl

pub interval_length : (k : ℕ) (q : List ℕ) → 0 < k → length (times_interval k q) ≡ length q + (k - 1)
interval_length k [] some =
    let zeros : List ℕ = replicate (k - 1) 0 in
    let n : length zeros ≡ k - 1 = length-replicate {A = ℕ} (k - 1) 0 in
    let r : k - 1 ≡ 0 + (k - 1) = omega arith in
    ap length (interval_nil k) ∙ n ∙ r
interval_length k (a ∷ q) some =
    let rest : length (times_interval k q) ≡ length q + (k - 1) = interval_length k q some in
    let e : length (raised (k - 1) a (times_interval k q)) ≡ length (times_interval k q) = raised_length (k - 1) a (times_interval k q) (omega arith) in
    ap length (interval_cons k a q some) ∙ (let r : suc (length (raised (k - 1) a (times_interval k q))) ≡ suc (length q) + (k - 1) = omega arith in r)

-- ---- long division

zeros_pass : (n : ℕ) → list_all (λ x. nat_eq x 0) (replicate n 0) ≡ true
zeros_pass zero = refl
zeros_pass (suc n) = zeros_pass n

passing_zeros : (p : List ℕ) → list_all (λ x. nat_eq x 0) p ≡ true → p ≡ replicate (length p) 0
passing_zeros [] h = refl
passing_zeros (zero ∷ p) h = ap (λ q. 0 ∷ q) (passing_zeros p h)
passing_zeros (suc x ∷ p) h =
    let unequal : nat_eq (suc x) 0 ≡ false = grind (arith, nat_tests) in
    let c : false ≡ true = sym (ap (λ b. b && list_all (λ y. nat_eq y 0) p) unequal) ∙ h in
    cc

-- a quotient multiplies to what was divided
multiplies : (n k : ℕ) (p q : List ℕ) → 0 < k → length p ≡ n + (k - 1) → quotient_of n k p ≡ Some q → times_interval k q ≡ p
unfolding quotient_of
multiplies zero k p q some long e = at (list_all (λ x. nat_eq x 0) p) refl e
  where
    at : (b : Bool) → list_all (λ x. nat_eq x 0) p ≡ b → cond b (Some []) None ≡ Some q → times_interval k q ≡ p
    at false z e = cc
    at true z e =
        let nil : [] ≡ q = cc in
        let count : k - 1 ≡ length p = omega arith in
        ap (times_interval k) (sym nil) ∙ interval_nil k ∙ ap (λ m. replicate m 0) count ∙ sym (passing_zeros p z)
multiplies (suc n) k [] q some long e = absurd (omega arith)
multiplies (suc n) k (a ∷ p) q some long e =
    at (list_all (nat_le a) (take (k - 1) p)) refl (quotient_of n k (lowered (k - 1) a p)) refl
    (λ r f. let short : length (lowered (k - 1) a p) ≡ length p = lowered_length (k - 1) a p (omega arith) in multiplies n k (lowered (k - 1) a p) r some (omega arith) f) e
  where
    room : k - 1 ≤ length p
    room = omega arith

    at : (b : Bool) → list_all (nat_le a) (take (k - 1) p) ≡ b → (o : Option (List ℕ)) → quotient_of n k (lowered (k - 1) a p) ≡ o →
        ((r : List ℕ) → quotient_of n k (lowered (k - 1) a p) ≡ Some r → times_interval k r ≡ lowered (k - 1) a p) → cond b (option_map (λ q. a ∷ q) o) None ≡ Some q → times_interval k q ≡ a ∷ p
    at false z o f rest e = cc
    at true z None f rest e = cc
    at true z (Some r) f rest e =
        let whole : a ∷ r ≡ q = cc in
        ap (times_interval k) (sym whole) ∙ interval_cons k a r some ∙ ap (λ t. a ∷ raised (k - 1) a t) (rest r f) ∙ ap (λ t. a ∷ t) (raised_lowered (k - 1) a p room z)

-- a product is divided again
divides : (n k : ℕ) (q : List ℕ) → 0 < k → length q ≡ n → quotient_of n k (times_interval k q) ≡ Some q
unfolding quotient_of
divides zero k [] some long = ap (λ p. cond (list_all (λ x. nat_eq x 0) p) (Some []) None) (interval_nil k) ∙ ap (λ b. cond b (Some []) None) (zeros_pass (k - 1))
divides zero k (a ∷ q) some long = absurd (omega arith)
divides (suc n) k [] some long = absurd (omega arith)
divides (suc n) k (a ∷ q) some long =
    let t : List ℕ = times_interval k q in
    let count : length t ≡ length q + (k - 1) = interval_length k q some in
    let room : k - 1 ≤ length t = omega arith in
    ap (quotient_of (suc n) k) (interval_cons k a q some)
    ∙ ap (λ b. cond b (option_map (λ q. a ∷ q) (quotient_of n k (lowered (k - 1) a (raised (k - 1) a t)))) None) (raised_enough (k - 1) a t room)
    ∙ ap (λ p. option_map (λ q. a ∷ q) (quotient_of n k p)) (lowered_raised (k - 1) a t room)
    ∙ ap (option_map (λ q. a ∷ q)) (divides n k q some (omega arith))

-- ---- the quotient

quotient_long : (k : ℕ) (p : List ℕ) → k ≤ length p + 1 → quotient k p ≡ quotient_of (length p + 1 - k) k p
unfolding quotient
quotient_long k p most = ap (λ b. cond b None (quotient_of (length p + 1 - k) k p)) (let t : nat_lt (length p + 1) k ≡ false = grind (arith, nat_tests) in t)

pub quotient_short : (k : ℕ) (p : List ℕ) → length p + 1 < k → quotient k p ≡ None
unfolding quotient
quotient_short k p less = ap (λ b. cond b None (quotient_of (length p + 1 - k) k p)) (let t : nat_lt (length p + 1) k ≡ true = grind (arith, nat_tests) in t)

pub quotient_multiplies : (k : ℕ) (p q : List ℕ) → 0 < k → quotient k p ≡ Some q → times_interval k q ≡ p
quotient_multiplies k p q some e =
    elim (cases_lt (length p + 1) k) [
      | inl less ↦ let c : None ≡ Some q = sym (quotient_short k p less) ∙ e in cc
      | inr most ↦ multiplies (length p + 1 - k) k p q some (omega arith) (sym (quotient_long k p (omega arith)) ∙ e)
    ]

pub product_divides : (k : ℕ) (p q : List ℕ) → 0 < k → times_interval k q ≡ p → quotient k p ≡ Some q
product_divides k p q some e =
    let count : length p ≡ length q + (k - 1) = ap length (sym e) ∙ interval_length k q some in
    let places : length p + 1 - k ≡ length q = omega arith in
    quotient_long k p (omega arith) ∙ ap (quotient_of (length p + 1 - k) k) (sym e) ∙ divides (length p + 1 - k) k q some (sym places)

pub quotient_length : (k : ℕ) (p q : List ℕ) → 0 < k → quotient k p ≡ Some q → length p ≡ length q + (k - 1)
quotient_length k p q some e = ap length (sym (quotient_multiplies k p q some e)) ∙ interval_length k q some

-- ---- long division in place: the first i coefficients are those of the quotient, and the others are left to be divided

-- the number of coefficients behind place i of which the one at i is taken
abbrev pub width : ℕ → ℕ → ℕ
width k i = i + k - (i + 1)

-- whether that can be
abbrev pub can_lower : ℕ → ℕ → List ℕ → Bool
can_lower k i r = list_all (nat_le (get_or r i 0)) (take (width k i) (drop (i + 1) r))

-- the quotient, where so much is known
abbrev pub quotient_from : ℕ → ℕ → ℕ → List ℕ → Option (List ℕ)
quotient_from count k i r = option_map (λ q. take i r ++ q) (quotient_of (count - i) k (drop i r))

one_division : (count k i : ℕ) (r : List ℕ) → 1 ≤ k → i < count → length r ≡ count + (k - 1) →
    quotient_of (count - i) k (drop i r)
    ≡ cond (can_lower k i r) (option_map (λ q. get_or r i 0 ∷ q) (quotient_of (count - (i + 1)) k (lowered (width k i) (get_or r i 0) (drop (i + 1) r)))) None
unfolding quotient_of
one_division count k i r some less long =
    let a : ℕ = get_or r i 0 in
    let m : ℕ = count - (i + 1) in
    let left : count - i ≡ suc m = omega arith in
    let next : suc i ≡ i + 1 = omega arith in
    let behind : k - 1 ≡ width k i = omega arith in
    ap (λ n. quotient_of n k (drop i r)) left
    ∙ ap (quotient_of (suc m) k) (drop-cons r i 0 (omega arith))
    ∙ ap (λ w. cond (list_all (nat_le a) (take w (drop (suc i) r))) (option_map (λ q. a ∷ q) (quotient_of m k (lowered w a (drop (suc i) r)))) None) behind
    ∙ ap (λ j. cond (list_all (nat_le a) (take (width k i) (drop j r))) (option_map (λ q. a ∷ q) (quotient_of m k (lowered (width k i) a (drop j r)))) None) next

pub division_stops : (count k i : ℕ) (o : Option (List ℕ)) (r : List ℕ) → 1 ≤ k → i < count → length r ≡ count + (k - 1) → o ≡ quotient_from count k i r → can_lower k i r ≡ false → o ≡ None
division_stops count k i o r some less long e small =
    e ∙ ap (option_map (λ q. take i r ++ q))
    (one_division count k i r some less long ∙ ap (λ b. cond b (option_map (λ q. get_or r i 0 ∷ q) (quotient_of (count - (i + 1)) k (lowered (width k i) (get_or r i 0) (drop (i + 1) r)))) None) small)

pub front_more : (f : List ℕ) (a : ℕ) (o : Option (List ℕ)) → option_map (λ q. f ++ q) (option_map (λ q. a ∷ q) o) ≡ option_map (λ q. (f ++ a ∷ []) ++ q) o
front_more f a None = refl
front_more f a (Some q) = ap Some (sym (append_assoc f (a ∷ []) q))

take_front : (n : ℕ) (f q : List ℕ) → length f ≡ n → take n (f ++ q) ≡ f
take_front n f q e = ap (λ m. take m (f ++ q)) (sym e) ∙ take-append_seam f q

drop_front : (n : ℕ) (f q : List ℕ) → length f ≡ n → drop n (f ++ q) ≡ q
drop_front n f q e = ap (λ m. drop m (f ++ q)) (sym e) ∙ drop-append_seam f q

-- what stands after the step
abbrev pub put_behind : ℕ → ℕ → List ℕ → List ℕ → List ℕ
put_behind k i r new = take (i + 1) r ++ (new ++ drop (width k i) (drop (i + 1) r))

pub division_goes_on : (count k i : ℕ) (o : Option (List ℕ)) (r new : List ℕ) → 1 ≤ k → i < count → length r ≡ count + (k - 1) → o ≡ quotient_from count k i r → can_lower k i r ≡ true →
    new ≡ map (λ x. x - get_or r i 0) (take (width k i) (drop (i + 1) r)) → o ≡ quotient_from count k (i + 1) (put_behind k i r new)
division_goes_on count k i o r new some less long e enough is =
    let a : ℕ = get_or r i 0 in
    let next : suc i ≡ i + 1 = omega arith in
    let rest : List ℕ = lowered (width k i) a (drop (i + 1) r) in
    let front : length (take (i + 1) r) ≡ i + 1 = length-take-le (i + 1) r (omega arith) in
    let written : put_behind k i r new ≡ take (i + 1) r ++ rest = ap (put_behind k i r) is in
    let first : take (i + 1) (put_behind k i r new) ≡ take i r ++ a ∷ [] =
    ap (take (i + 1)) written ∙ take_front (i + 1) (take (i + 1) r) rest front ∙ ap (λ j. take j r) (sym next) ∙ take-suc r i 0 (omega arith) in
    let later : drop (i + 1) (put_behind k i r new) ≡ rest = ap (drop (i + 1)) written ∙ drop_front (i + 1) (take (i + 1) r) rest front in
    e
    ∙ ap (option_map (λ q. take i r ++ q)) (one_division count k i r some less long ∙ ap (λ b. cond b (option_map (λ q. a ∷ q) (quotient_of (count - (i + 1)) k rest)) None) enough)
    ∙ front_more (take i r) a (quotient_of (count - (i + 1)) k rest)
    ∙ ap (λ f. option_map (λ q. f ++ q) (quotient_of (count - (i + 1)) k rest)) (sym first)
    ∙ ap (λ p. option_map (λ q. take (i + 1) (put_behind k i r new) ++ q) (quotient_of (count - (i + 1)) k p)) (sym later)

pub division_ends : (count k i : ℕ) (o : Option (List ℕ)) (r : List ℕ) (b : Bool) → i ≡ count → o ≡ quotient_from count k i r → b ≡ list_all (λ x. nat_eq x 0) (take (length r - count) (drop count r)) →
    MatchOption o (b ≡ false) (λ q. (b ≡ true) × (take count r ≡ q))
unfolding quotient_of
division_ends count k i o r b same e test =
    let none : count - count ≡ 0 = omega arith in
    let whole : take (length r - count) (drop count r) ≡ drop count r = take_all (length r - count) (drop count r) (let l : length (drop count r) ≡ length r - count = length-drop count r in omega arith) in
    at (list_all (λ x. nat_eq x 0) (drop count r)) (test ∙ ap (list_all (λ x. nat_eq x 0)) whole)
    (e ∙ ap (λ j. quotient_from count k j r) same ∙ ap (λ n. option_map (λ q. take count r ++ q) (quotient_of n k (drop count r))) none)
  where
    at : (d : Bool) → b ≡ d → o ≡ option_map (λ q. take count r ++ q) (cond d (Some []) None) → MatchOption o (b ≡ false) (λ q. (b ≡ true) × (take count r ≡ q))
    at true t f = subst (λ x. MatchOption x (b ≡ false) (λ q. (b ≡ true) × (take count r ≡ q))) (sym f) (t, sym (append-nil (take count r)))
    at false t f = subst (λ x. MatchOption x (b ≡ false) (λ q. (b ≡ true) × (take count r ≡ q))) (sym f) t

-- the same for a vector that was written through a slice of it, and cut
pub divided : (k len places : ℕ) (old whole new rest cut : List ℕ) (b : Bool) → whole ≡ old → length whole ≡ len → k ≤ len + 1 → places ≡ len + 1 - k → length new ≡ length whole → cut ≡ take places (take len (new ++ rest)) →
    MatchOption (quotient_of places k whole) (b ≡ false) (λ q. (b ≡ true) × (take places new ≡ q)) → MatchOption (quotient k old) (b ≡ false) (λ q. (b ≡ true) × (cut ≡ q))
divided k len places old whole new rest cut b same long most count kept is found =
    let size : length old ≡ len = ap length (sym same) ∙ long in
    let plain : quotient_of places k whole ≡ quotient k old =
    ap (quotient_of places k) same ∙ ap (λ n. quotient_of n k old) (count ∙ ap (λ n. n + 1 - k) (sym size)) ∙ sym (quotient_long k old (omega arith)) in
    let left : take places new ≡ cut = ap (take places) (sym (take_front len new rest (kept ∙ long))) ∙ sym is in
    subst (λ o. MatchOption o (b ≡ false) (λ q. (b ≡ true) × (cut ≡ q))) plain (subst (λ c. MatchOption (quotient_of places k whole) (b ≡ false) (λ q. (b ≡ true) × (c ≡ q))) left found)
