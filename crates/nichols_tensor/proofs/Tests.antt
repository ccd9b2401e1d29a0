-- Tests and functions that agree on the entries of a list.
use Rattle.std.proofs.Common.{◌≡◌, Bool, true, false, cond, ◌||◌, List, [], ◌∷◌, map, get_or, refl, sym, ap₂}
use Rattle.std.specs.List.{filter, find, list_any, AllByRecursion, Contains}
use Rattle.std.specs.Prelude.{Some}
use Rattle.std.proofs.lemmas.List.Elements.{Contains-get_or, recursion_from_All}
use Rattle.nichols_tensor.proofs.Entries.{contains_first, contains_later}

-- two answers each of which is yes where the other is
pub same_answer : (a b : Bool) → (a ≡ true → b ≡ true) → (b ≡ true → a ≡ true) → a ≡ b
same_answer true b h k = sym (h refl)
same_answer false true h k = k refl
same_answer false false h k = refl

pub any_same : {X : Type 0} (t u : X → Bool) (xs : List X) → ((x : X) → Contains xs x → t x ≡ u x) → list_any t xs ≡ list_any u xs
any_same t u [] h = refl
any_same t u (x ∷ xs) h = ap₂ (λ a b. a || b) (h x (contains_first x xs)) (any_same t u xs (λ y i. h y (contains_later x xs y i)))

pub filter_same : {X : Type 0} (t u : X → Bool) (xs : List X) → ((x : X) → Contains xs x → t x ≡ u x) → filter t xs ≡ filter u xs
filter_same t u [] h = refl
filter_same t u (x ∷ xs) h = ap₂ (λ b r. cond b (x ∷ r) r) (h x (contains_first x xs)) (filter_same t u xs (λ y i. h y (contains_later x xs y i)))

pub find_same : {X : Type 0} (t u : X → Bool) (xs : List X) → ((x : X) → Contains xs x → t x ≡ u x) → find t xs ≡ find u xs
find_same t u [] h = refl
find_same t u (x ∷ xs) h = ap₂ (λ b r. cond b (Some x) r) (h x (contains_first x xs)) (find_same t u xs (λ y i. h y (contains_later x xs y i)))

pub map_same : {X Y : Type 0} (f g : X → Y) (xs : List X) → ((x : X) → Contains xs x → f x ≡ g x) → map f xs ≡ map g xs
map_same f g [] h = refl
map_same f g (x ∷ xs) h = ap₂ (λ y ys. y ∷ ys) (h x (contains_first x xs)) (map_same f g xs (λ y i. h y (contains_later x xs y i)))

-- what holds of each entry, one after the other
pub all_of_entries : {X : Type 0} (P : X → Type 0) (xs : List X) → ((x : X) → Contains xs x → P x) → AllByRecursion P xs
all_of_entries P xs h = recursion_from_All P xs (λ k d less. h (get_or xs k d) (Contains-get_or xs k d less))
