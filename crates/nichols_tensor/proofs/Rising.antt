-- Lists of words that rise: when they do, where their words stand, and that the words alone determine such a list.
use Rattle.std.proofs.Common.{◌≡◌, ℕ, zero, suc, ◌<◌, Bool, true, false, cond, List, [], ◌∷◌, ◌++◌, map, length, refl, sym, ◌∙◌, ap, ap₂, subst, arith, ◌⊎◌, inl, inr, append_assoc}
use Rattle.std.specs.List.{flat_map, filter, AllByRecursion, Contains}
use Rattle.std.proofs.lemmas.List.{get_or_default, map-id}
use Rattle.std.proofs.lemmas.List.Elements.{Contains-get_or, Contains-append_right, Contains-append_cases, Contains-push_cases}
use Rattle.std.specs.Ordering.{is_lt}
use Rattle.std.specs.declared.cmp.Ordering.{Ordering}
use Rattle.std.specs.declared.cmp.Ordering.TheVariants.{Less, Equal, Greater}
use Rattle.nichols_tensor.specs.Positions.{word_at}
use Rattle.nichols_tensor.specs.WordOrder.{word_cmp, IsBelowFirst, IsRising}
use Rattle.nichols_tensor.proofs.Entries.{contains_none, contains_first, contains_later, contains_cases}
use Rattle.nichols_tensor.proofs.Order.{greater_back, less_is_other, below_after}

-- ---- which lists rise

-- a word before each word of a list is before the first
pub below_each : (w : List ℕ) (vs : List (List ℕ)) → ((v : List ℕ) → Contains vs v → word_cmp w v ≡ Less) → IsBelowFirst w vs
below_each w [] h = tt
below_each w (v ∷ vs) h = h v (contains_first v vs)

below_all : (w : List ℕ) (vs : List (List ℕ)) (v : List ℕ) → IsBelowFirst w vs → IsRising vs → Contains vs v → word_cmp w v ≡ Less
below_all w [] v h r i = absurd (contains_none v i)
below_all w (u ∷ vs) v h r i = elim (contains_cases u vs v i) [ inl e ↦ ap (word_cmp w) e ∙ h | inr later ↦ below_all w vs v (below_after w u vs h r.0) r.1 later ]

pub rising-append : (vs us : List (List ℕ)) → IsRising vs → IsRising us → ((v u : List ℕ) → Contains vs v → Contains us u → word_cmp v u ≡ Less) → IsRising (vs ++ us)
rising-append [] us r s h = s
rising-append (v ∷ vs) us r s h = (
  below_each v (vs ++ us) (λ u i. elim (Contains-append_cases vs us u i) [ inl j ↦ below_all v vs u r.0 r.1 j | inr j ↦ h v u (contains_first v vs) j ]),
  rising-append vs us r.1 s (λ x u i j. h x u (contains_later v vs x i) j),
)

pub rising-map : (f : List ℕ → List ℕ) (vs : List (List ℕ)) → ((v w : List ℕ) → Contains vs v → Contains vs w → word_cmp v w ≡ Less → word_cmp (f v) (f w) ≡ Less) → IsRising vs → IsRising (map f vs)
rising-map f [] h r = tt
rising-map f (v ∷ vs) h r = (first vs r.0 (λ w i. h v w (contains_first v vs) (contains_later v vs w i)), rising-map f vs (λ x w i j. h x w (contains_later v vs x i) (contains_later v vs w j)) r.1)
  where
    first : (us : List (List ℕ)) → IsBelowFirst v us → ((w : List ℕ) → Contains us w → word_cmp v w ≡ Less → word_cmp (f v) (f w) ≡ Less) → IsBelowFirst (f v) (map f us)
    first [] b k = tt
    first (u ∷ us) b k = k u (contains_first u us) b

-- entries by their words, and those of them that pass a test
pub rising_kept : {X : Type 0} (word : X → List ℕ) (t : X → Bool) (xs : List X) → IsRising (map word xs) → IsRising (map word (filter t xs))
rising_kept {X = X} word t [] r = tt
rising_kept {X = X} word t (x ∷ xs) r = at (t x) (rising_kept word t xs r.1)
  where
    below : (w : List ℕ) (ys : List X) → IsBelowFirst w (map word ys) → IsRising (map word ys) → IsBelowFirst w (map word (filter t ys))
    below w [] b s = tt
    below w (y ∷ ys) b s = choose (t y) (below w ys (below_after w (word y) (map word ys) b s.0) s.1)
      where
        choose : (c : Bool) → IsBelowFirst w (map word (filter t ys)) → IsBelowFirst w (map word (cond c (y ∷ filter t ys) (filter t ys)))
        choose true k = b
        choose false k = k

    at : (c : Bool) → IsRising (map word (filter t xs)) → IsRising (map word (cond c (x ∷ filter t xs) (filter t xs)))
    at true s = (below (word x) xs r.0 r.1, s)
    at false s = s

pub rising-filter : (t : List ℕ → Bool) (vs : List (List ℕ)) → IsRising vs → IsRising (filter t vs)
rising-filter t vs r = subst IsRising (map-id (filter t vs)) (rising_kept (λ v. v) t vs (subst IsRising (sym (map-id vs)) r))

-- each entry stands in a relation to each later one
abbrev pub AllOrdered : {X : Type 0} → (X → X → Type 0) → List X → Type 0
AllOrdered R [] = Unit {0}
AllOrdered R (x ∷ xs) = AllByRecursion (R x) xs × AllOrdered R xs

in_pieces : {X Y : Type 0} (f : X → List Y) (P : X → Type 0) (y : Y) (xs : List X) → AllByRecursion P xs → Contains (flat_map f xs) y → (x : X) × P x × Contains (f x) y
in_pieces f P y [] h i = absurd (contains_none y i)
in_pieces f P y (x ∷ xs) h i =
    elim (Contains-append_cases (f x) (flat_map f xs) y i) [
      | inl here ↦ (x, h.0, here)
      | inr there ↦ in_pieces f P y xs h.1 there
    ]

-- rising lists one after the other, where each word of one is before each word of a later one
pub rising-flat_map : {X : Type 0} (R : X → X → Type 0) (f : X → List (List ℕ)) (xs : List X) → AllOrdered R xs → ((x : X) → Contains xs x → IsRising (f x)) →
    ((x y : X) (v w : List ℕ) → R x y → Contains (f x) v → Contains (f y) w → word_cmp v w ≡ Less) → IsRising (flat_map f xs)
rising-flat_map R f [] o each less = tt
rising-flat_map R f (x ∷ xs) o each less =
    rising-append (f x) (flat_map f xs) (each x (contains_first x xs)) (rising-flat_map R f xs o.1 (λ y i. each y (contains_later x xs y i)) less)
    (λ v w i j. let (y, r, k) = in_pieces f (R x) w xs o.0 j in less x y v w r i k)

pub all_ordered_words : (vs : List (List ℕ)) → IsRising vs → AllOrdered (λ v w. word_cmp v w ≡ Less) vs
all_ordered_words [] r = tt
all_ordered_words (v ∷ vs) r = (each vs r.0 r.1, all_ordered_words vs r.1)
  where
    each : (us : List (List ℕ)) → IsBelowFirst v us → IsRising us → AllByRecursion (λ w. word_cmp v w ≡ Less) us
    each [] b s = tt
    each (u ∷ us) b s = (b, each us (below_after v u us b s.0) s.1)

-- ---- where words stand

pub in_middle : {X : Type 0} (vs : List X) (w : X) (us : List X) → Contains (vs ++ w ∷ us) w
in_middle vs w us = Contains-append_right vs (w ∷ us) w (contains_first w us)

pub stands_before : (vs : List (List ℕ)) (w : List ℕ) (us : List (List ℕ)) (v : List ℕ) → IsRising (vs ++ w ∷ us) → Contains vs v → word_cmp v w ≡ Less
stands_before [] w us v r i = absurd (contains_none v i)
stands_before (x ∷ vs) w us v r i =
    elim (contains_cases x vs v i) [
      | inl e ↦ ap (λ u. word_cmp u w) e ∙ below_all x (vs ++ w ∷ us) w r.0 r.1 (in_middle vs w us)
      | inr later ↦ stands_before vs w us v r.1 later
    ]

pub stands_after : (vs : List (List ℕ)) (w : List ℕ) (us : List (List ℕ)) (u : List ℕ) → IsRising (vs ++ w ∷ us) → Contains us u → word_cmp w u ≡ Less
stands_after [] w us u r i = below_all w us u r.0 r.1 i
stands_after (x ∷ vs) w us u r i = stands_after vs w us u r.1 i

pub less_by_test : (o : Ordering) → is_lt o ≡ true → o ≡ Less
less_by_test Less h = refl
less_by_test Equal h = cc
less_by_test Greater h = cc

-- ---- positions

pub word_at_is_in : (ws : List (List ℕ)) (i : ℕ) → i < length ws → Contains ws (word_at ws i)
word_at_is_in ws i less = Contains-get_or ws i [] less

pub position_of : (ws : List (List ℕ)) (w : List ℕ) → Contains ws w → (i : ℕ) × (i < length ws) × (word_at ws i ≡ w)
position_of ws w (i, less, e) = (i, less, get_or_default ws i [] w less ∙ e)

-- words at lesser positions stand before
pub words_at_rise : (ws : List (List ℕ)) (i j : ℕ) → IsRising ws → i < j → j < length ws → word_cmp (word_at ws i) (word_at ws j) ≡ Less
words_at_rise [] i j r less within = absurd (omega arith)
words_at_rise (w ∷ ws) i zero r less within = absurd (omega arith)
words_at_rise (w ∷ ws) zero (suc j) r less within = below_all w ws (word_at ws j) r.0 r.1 (word_at_is_in ws j (omega arith))
words_at_rise (w ∷ ws) (suc i) (suc j) r less within = words_at_rise ws i j r.1 (omega arith) (omega arith)

-- and words that stand before have lesser positions
pub position_below : (ws : List (List ℕ)) (i j : ℕ) → IsRising ws → i < length ws → j < length ws → word_cmp (word_at ws i) (word_at ws j) ≡ Less → i < j
position_below [] i j r within within_too less = absurd (omega arith)
position_below (w ∷ ws) i zero r within within_too less = absurd (elim (contains_cases w ws (word_at (w ∷ ws) i) (word_at_is_in (w ∷ ws) i within)) [ inl e ↦ less_is_other (word_at (w ∷ ws) i) w less e | inr h ↦ nothing h ])
  where
    nothing : Contains ws (word_at (w ∷ ws) i) → ⊥
    nothing h = let c : Greater ≡ Less = sym (greater_back w (word_at (w ∷ ws) i) (below_all w ws (word_at (w ∷ ws) i) r.0 r.1 h)) ∙ less in cc
position_below (w ∷ ws) zero (suc j) r within within_too less = omega arith
position_below (w ∷ ws) (suc i) (suc j) r within within_too less = omega (arith, position_below ws i j r.1 (omega arith) (omega arith) less)

-- ---- the words alone determine a list that rises

pub rising_unique : (vs us : List (List ℕ)) → IsRising vs → IsRising us → ((w : List ℕ) → Contains vs w → Contains us w) → ((w : List ℕ) → Contains us w → Contains vs w) → vs ≡ us
rising_unique [] [] r s h k = refl
rising_unique [] (u ∷ us) r s h k = absurd (contains_none u (k u (contains_first u us)))
rising_unique (v ∷ vs) [] r s h k = absurd (contains_none v (h v (contains_first v vs)))
rising_unique (v ∷ vs) (u ∷ us) r s h k =
    let same : v ≡ u = firsts (contains_cases u us v (h v (contains_first v vs))) (contains_cases v vs u (k u (contains_first u us))) in
    ap₂ (λ x xs. x ∷ xs) same (rising_unique vs us r.1 s.1 (λ w i. rest w u us (later v vs w r i) same (contains_cases u us w (h w (contains_later v vs w i)))) (λ w i. rest w v vs (later u us w s i) (sym same) (contains_cases v vs w (k w (contains_later u us w i)))))
  where
    firsts : (v ≡ u) ⊎ Contains us v → (u ≡ v) ⊎ Contains vs u → v ≡ u
    firsts (inl e) i = e
    firsts (inr i) (inl e) = sym e
    firsts (inr i) (inr j) = absurd (let c : Greater ≡ Less = sym (greater_back u v (below_all u us v s.0 s.1 i)) ∙ below_all v vs u r.0 r.1 j in cc)

    later : (x : List ℕ) (xs : List (List ℕ)) (w : List ℕ) → IsRising (x ∷ xs) → Contains xs w → word_cmp x w ≡ Less
    later x xs w q i = below_all x xs w q.0 q.1 i

    rest : (w x : List ℕ) (xs : List (List ℕ)) {y : List ℕ} → word_cmp y w ≡ Less → y ≡ x → (w ≡ x) ⊎ Contains xs w → Contains xs w
    rest w x xs {y = y} less e (inl same) = absurd (less_is_other y w less (e ∙ sym same))
    rest w x xs less e (inr i) = i

-- ---- induction along a list that rises

walk : (ws : List (List ℕ)) (R : List ℕ → Type 0) → IsRising ws → ((w : List ℕ) → Contains ws w → ((v : List ℕ) → Contains ws v → word_cmp v w ≡ Less → R v) → R w) →
    (vs us : List (List ℕ)) → ws ≡ vs ++ us → ((v : List ℕ) → Contains vs v → R v) → (v : List ℕ) → Contains ws v → R v
walk ws R r s vs [] e h v i = elim (Contains-append_cases vs [] v (subst (λ xs. Contains xs v) e i)) [ inl j ↦ h v j | inr none ↦ absurd (contains_none v none) ]
walk ws R r s vs (w ∷ us) e h v i = walk ws R r s (vs ++ w ∷ []) us (e ∙ sym (append_assoc vs (w ∷ []) us)) more v i
  where
    front : (x : List ℕ) → Contains (vs ++ w ∷ us) x → word_cmp x w ≡ Less → Contains vs x
    front x j less =
        elim (Contains-append_cases vs (w ∷ us) x j) [
          | inl k ↦ k
          | inr k ↦ elim (contains_cases w us x k) [
            | inl same ↦ absurd (less_is_other x w less same)
            | inr later ↦ let c : Greater ≡ Less = sym (greater_back w x (stands_after vs w us x (subst IsRising e r) later)) ∙ less in cc
          ]
        ]

    here : R w
    here = s w (subst (λ xs. Contains xs w) (sym e) (in_middle vs w us)) (λ x j less. h x (front x (subst (λ xs. Contains xs x) e j) less))

    more : (x : List ℕ) → Contains (vs ++ w ∷ []) x → R x
    more x j =
        elim (Contains-push_cases vs w x j) [
          | inl k ↦ h x k
          | inr same ↦ subst R same here
        ]

-- what holds of each word of which it holds of all words of the list before it holds of all words of the list
pub by_earlier : (ws : List (List ℕ)) (R : List ℕ → Type 0) → IsRising ws → ((w : List ℕ) → Contains ws w → ((v : List ℕ) → Contains ws v → word_cmp v w ≡ Less → R v) → R w) →
    (w : List ℕ) → Contains ws w → R w
by_earlier ws R r s w i = walk ws R r s [] ws refl (λ v j. absurd (contains_none v j)) w i
