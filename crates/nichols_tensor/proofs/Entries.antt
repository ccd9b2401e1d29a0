-- Entries of lists that are joined, mapped and filtered.
use Rattle.std.proofs.Common.{◌≡◌, zero, suc, ◌<◌, Bool, true, false, cond, List, [], ◌∷◌, map, get_or, refl, sym, ◌∙◌, ap, subst, arith, ◌⊎◌, inl, inr}
use Rattle.std.specs.List.{flat_map, filter, find, list_any, list_all, Contains}
use Rattle.std.specs.Prelude.{Some}
use Rattle.std.proofs.lemmas.List.{get_or-map, length-map}
use Rattle.std.proofs.lemmas.List.Elements.{All-contains, Contains-get_or, Contains-append_left, Contains-append_right, Contains-append_cases}
use Rattle.std.proofs.lemmas.List.Folds.{Any-from_list_any, list_any_at}
use Rattle.std.proofs.lemmas.List.Sums.{AllPass-from_list_all, list_all-from_AllPass}

-- ---- the first entry and the later ones

pub contains_none : {X : Type 0} (x : X) → Contains [] x → ⊥
contains_none x (k, less, e) = absurd (omega arith)

pub contains_first : {X : Type 0} (x : X) (xs : List X) → Contains (x ∷ xs) x
contains_first x xs = (0, omega arith, refl)

pub contains_later : {X : Type 0} (y : X) (ys : List X) (x : X) → Contains ys x → Contains (y ∷ ys) x
contains_later y ys x (k, less, e) = (suc k, omega arith, e)

pub contains_cases : {X : Type 0} (y : X) (ys : List X) (x : X) → Contains (y ∷ ys) x → (x ≡ y) ⊎ Contains ys x
contains_cases y ys x (zero, less, e) = inl (sym e)
contains_cases y ys x (suc k, less, e) = inr (k, omega arith, e)

-- ---- images

pub in_map : {X Y : Type 0} (f : X → Y) (x : X) (xs : List X) → Contains xs x → Contains (map f xs) (f x)
in_map f x xs (k, less, e) = (k, subst (λ n. k < n) (sym (length-map xs f)) less, get_or-map f xs k x (f x) less ∙ ap f e)

pub from_map : {X Y : Type 0} (f : X → Y) (y : Y) (xs : List X) → Contains (map f xs) y → (x : X) × Contains xs x × (y ≡ f x)
from_map f y [] h = absurd (contains_none y h)
from_map f y (z ∷ xs) h =
    elim (contains_cases (f z) (map f xs) y h) [
      | inl here ↦ (z, contains_first z xs, here)
      | inr later ↦ let (x, i, e) = from_map f y xs later in (x, contains_later z xs x i, e)
    ]

pub in_flat_map : {X Y : Type 0} (f : X → List Y) (x : X) (xs : List X) (y : Y) → Contains xs x → Contains (f x) y → Contains (flat_map f xs) y
in_flat_map f x [] y h k = absurd (contains_none x h)
in_flat_map f x (z ∷ xs) y h k =
    elim (contains_cases z xs x h) [
      | inl here ↦ Contains-append_left (f z) (flat_map f xs) y (subst (λ u. Contains (f u) y) here k)
      | inr later ↦ Contains-append_right (f z) (flat_map f xs) y (in_flat_map f x xs y later k)
    ]

pub from_flat_map : {X Y : Type 0} (f : X → List Y) (y : Y) (xs : List X) → Contains (flat_map f xs) y → (x : X) × Contains xs x × Contains (f x) y
from_flat_map f y [] h = absurd (contains_none y h)
from_flat_map f y (z ∷ xs) h =
    elim (Contains-append_cases (f z) (flat_map f xs) y h) [
      | inl here ↦ (z, contains_first z xs, here)
      | inr there ↦ let (x, i, k) = from_flat_map f y xs there in (x, contains_later z xs x i, k)
    ]

-- ---- entries that pass a test

pub in_filter : {X : Type 0} (t : X → Bool) (x : X) (xs : List X) → Contains xs x → t x ≡ true → Contains (filter t xs) x
in_filter t x [] h e = absurd (contains_none x h)
in_filter t x (z ∷ xs) h e =
    elim (contains_cases z xs x h) [
      | inl same ↦ first (t z) (ap t (sym same) ∙ e) same
      | inr later ↦ rest (t z) (in_filter t x xs later e)
    ]
  where
    first : (b : Bool) → b ≡ true → x ≡ z → Contains (cond b (z ∷ filter t xs) (filter t xs)) x
    first true h same = subst (Contains (z ∷ filter t xs)) (sym same) (contains_first z (filter t xs))
    first false h same = cc

    rest : (b : Bool) → Contains (filter t xs) x → Contains (cond b (z ∷ filter t xs) (filter t xs)) x
    rest true i = contains_later z (filter t xs) x i
    rest false i = i

pub from_filter : {X : Type 0} (t : X → Bool) (x : X) (xs : List X) → Contains (filter t xs) x → Contains xs x × (t x ≡ true)
from_filter t x [] h = absurd (contains_none x h)
from_filter t x (z ∷ xs) h = at (t z) refl h (λ i. later (from_filter t x xs i))
  where
    later : Contains xs x × (t x ≡ true) → Contains (z ∷ xs) x × (t x ≡ true)
    later h = (contains_later z xs x h.0, h.1)

    at : (b : Bool) → t z ≡ b → Contains (cond b (z ∷ filter t xs) (filter t xs)) x → (Contains (filter t xs) x → Contains (z ∷ xs) x × (t x ≡ true)) → Contains (z ∷ xs) x × (t x ≡ true)
    at true e i rest =
        elim (contains_cases z (filter t xs) x i) [
          | inl same ↦ (subst (Contains (z ∷ xs)) (sym same) (contains_first z xs), ap t same ∙ e)
          | inr j ↦ rest j
        ]
    at false e i rest = rest i

-- a test that holds of an entry holds of some entry
pub any_of : {X : Type 0} (t : X → Bool) (x : X) (xs : List X) → Contains xs x → t x ≡ true → list_any t xs ≡ true
any_of t x xs (k, less, e) passes = list_any_at t xs k x less (ap t e ∙ passes)

pub some_of : {X : Type 0} (t : X → Bool) (xs : List X) → list_any t xs ≡ true → (x : X) × Contains xs x × (t x ≡ true)
some_of t xs h = let (k, x, less, e, passes) = Any-from_list_any t xs h in (x, (k, less, e), passes)

pub each_of : {X : Type 0} (t : X → Bool) (xs : List X) → ((x : X) → Contains xs x → t x ≡ true) → list_all t xs ≡ true
each_of t xs h = list_all-from_AllPass t xs (λ k d less. h (get_or xs k d) (Contains-get_or xs k d less))

pub of_each : {X : Type 0} (t : X → Bool) (x : X) (xs : List X) → list_all t xs ≡ true → Contains xs x → t x ≡ true
of_each t x xs all i = All-contains (λ y. t y ≡ true) xs x (AllPass-from_list_all t xs all) i

-- a search finds an entry that passes, and finds one where there is one
pub found : {X : Type 0} (t : X → Bool) (xs : List X) (x : X) → find t xs ≡ Some x → Contains xs x × (t x ≡ true)
found t [] x h = cc
found t (y ∷ ys) x h = at (t y) refl h (λ k. later (found t ys x k))
  where
    later : Contains ys x × (t x ≡ true) → Contains (y ∷ ys) x × (t x ≡ true)
    later h = (contains_later y ys x h.0, h.1)

    at : (b : Bool) → t y ≡ b → cond b (Some y) (find t ys) ≡ Some x → (find t ys ≡ Some x → Contains (y ∷ ys) x × (t x ≡ true)) → Contains (y ∷ ys) x × (t x ≡ true)
    at true e h rest = let same : y ≡ x = cc in (subst (Contains (y ∷ ys)) same (contains_first y ys), ap t (sym same) ∙ e)
    at false e h rest = rest h

pub finds : {X : Type 0} (t : X → Bool) (xs : List X) (x : X) → Contains xs x → t x ≡ true → (y : X) × (find t xs ≡ Some y)
finds {X = X} t [] x i e = absurd (contains_none x i)
finds {X = X} t (y ∷ ys) x i e = at (t y) refl (contains_cases y ys x i) (λ k. finds t ys x k e)
  where
    at : (b : Bool) → t y ≡ b → (x ≡ y) ⊎ Contains ys x → (Contains ys x → (z : X) × (find t ys ≡ Some z)) → (z : X) × (cond b (Some y) (find t ys) ≡ Some z)
    at true h k rest = (y, refl)
    at false h (inl same) rest = absurd (let c : true ≡ false = sym e ∙ ap t same ∙ h in cc)
    at false h (inr k) rest = rest k
