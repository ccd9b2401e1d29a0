-- The transpositions of k points stand in their list, in lexicographic order.
use Rattle.std.proofs.Common.{◌≡◌, ℕ, zero, suc, ◌+◌, ◌<◌, ◌≤◌, Bool, true, false, cond, nat_lt, List, [], ◌∷◌, ◌++◌, map, filter, length, get_or, take, Contains, refl, sym, ◌∙◌, ap, ap₂, arith, inl, inr}
use Rattle.std.specs.List.{flat_map, AllByRecursion}
use Rattle.std.proofs.lemmas.Bool.Decides.{nat_tests}
use Rattle.std.proofs.lemmas.Grind.{flat_map-append}
use Rattle.std.proofs.lemmas.List.{take_more, append-nil}
use Rattle.std.proofs.lemmas.List.Elements.{filter-append}
use Rattle.nichols_tensor.specs.Words.{up_to}
use Rattle.nichols_tensor.proofs.AllWords.{up_to_rises}
use Rattle.nichols_tensor.proofs.Entries.{in_map, from_map, in_flat_map, from_flat_map, in_filter, from_filter}
use Rattle.nichols_tensor.proofs.Letters.{in_up_to, from_up_to}
use Rattle.nichols_tensor.proofs.Over.{all-append, all-filter}
use Rattle.nichols_tensor.proofs.Rising.{AllOrdered}
use Rattle.nichols_braid.specs.PointsLaws.{IsTransposition, IsBefore}
use Rattle.nichols_braid.specs.Transpositions.{Transposition, transpositions_from, transpositions}
use Rattle.nichols_tensor.proofs.Tests.{all_of_entries}

-- ---- entries that stand in a relation to each later one

at_each : {X : Type 0} (P : X → Type 0) (xs : List X) (i : ℕ) (d : X) → AllByRecursion P xs → i < length xs → P (get_or xs i d)
at_each P [] i d h less = absurd (omega arith)
at_each P (x ∷ xs) zero d h less = h.0
at_each P (x ∷ xs) (suc i) d h less = at_each P xs i d h.1 (omega arith)

pub ordered_at : {X : Type 0} (R : X → X → Type 0) (xs : List X) (i j : ℕ) (d : X) → AllOrdered R xs → i < j → j < length xs → R (get_or xs i d) (get_or xs j d)
ordered_at R [] i j d o less within = absurd (omega arith)
ordered_at R (x ∷ xs) i zero d o less within = absurd (omega arith)
ordered_at R (x ∷ xs) zero (suc j) d o less within = at_each (R x) xs j d o.0 (omega arith)
ordered_at R (x ∷ xs) (suc i) (suc j) d o less within = ordered_at R xs i j d o.1 (omega arith) (omega arith)

ordered-append : {X : Type 0} (R : X → X → Type 0) (xs ys : List X) → AllOrdered R xs → AllOrdered R ys → AllByRecursion (λ x. AllByRecursion (R x) ys) xs → AllOrdered R (xs ++ ys)
ordered-append R [] ys o p h = p
ordered-append R (x ∷ xs) ys o p h = (all-append (R x) xs ys o.0 h.0, ordered-append R xs ys o.1 p h.1)

all-map : {X Y : Type 0} (P : Y → Type 0) (f : X → Y) (xs : List X) → AllByRecursion (λ x. P (f x)) xs → AllByRecursion P (map f xs)
all-map P f [] h = tt
all-map P f (x ∷ xs) h = (h.0, all-map P f xs h.1)

ordered-map : {X Y : Type 0} (R : Y → Y → Type 0) (f : X → Y) (xs : List X) → AllOrdered (λ x y. R (f x) (f y)) xs → AllOrdered R (map f xs)
ordered-map R f [] o = tt
ordered-map R f (x ∷ xs) o = (all-map (R (f x)) f xs o.0, ordered-map R f xs o.1)

ordered-kept : {X : Type 0} (R : X → X → Type 0) (t : X → Bool) (xs : List X) → AllOrdered R xs → AllOrdered R (filter t xs)
ordered-kept R t [] o = tt
ordered-kept R t (x ∷ xs) o = at (t x) (ordered-kept R t xs o.1)
  where
    at : (b : Bool) → AllOrdered R (filter t xs) → AllOrdered R (cond b (x ∷ filter t xs) (filter t xs))
    at true k = (all-filter (R x) t xs o.0, k)
    at false k = k

ordered-weaker : {X : Type 0} (R S : X → X → Type 0) → ((x y : X) → R x y → S x y) → (xs : List X) → AllOrdered R xs → AllOrdered S xs
ordered-weaker R S h [] o = tt
ordered-weaker {X = X} R S h (x ∷ xs) o = (each xs o.0, ordered-weaker R S h xs o.1)
  where
    each : (ys : List X) → AllByRecursion (R x) ys → AllByRecursion (S x) ys
    each [] k = tt
    each (y ∷ ys) k = (h x y k.0, each ys k.1)

-- ordered lists one after the other, where each entry of one is in order with each of a later one
ordered-flat_map : {X Y : Type 0} (R : X → X → Type 0) (S : Y → Y → Type 0) (f : X → List Y) → ((x : X) → AllOrdered S (f x)) → ((x z : X) (v w : Y) → R x z → Contains (f x) v → Contains (f z) w → S v w) →
    (xs : List X) → AllOrdered R xs → AllOrdered S (flat_map f xs)
ordered-flat_map R S f each cross [] o = tt
ordered-flat_map {X = X} {Y = Y} R S f each cross (x ∷ xs) o =
    ordered-append S (f x) (flat_map f xs) (each x) (ordered-flat_map R S f each cross xs o.1)
    (all_of_entries (λ v. AllByRecursion (S v) (flat_map f xs)) (f x) (λ v i. later v i xs o.0))
  where
    later : (v : Y) → Contains (f x) v → (zs : List X) → AllByRecursion (R x) zs → AllByRecursion (S v) (flat_map f zs)
    later v i [] h = tt
    later v i (z ∷ zs) h = all-append (S v) (f z) (flat_map f zs) (all_of_entries (S v) (f z) (λ w j. cross x z v w h.0 i j)) (later v i zs h.1)

-- ---- the transpositions

pub in_transpositions : (k : ℕ) (t : Transposition) → IsTransposition k t → Contains (transpositions k) t
unfolding transpositions
in_transpositions k t h =
    let least : 1 ≤ t.first = h.least in
    let rising : t.first < t.second = h.rising in
    let most : t.second ≤ k = h.most in
    in_flat_map (transpositions_from k) t.first (up_to k) t (in_up_to k t.first (least, omega arith))
    (in_map (λ b. record { first = t.first; second = b }) t.second (filter (nat_lt t.first) (up_to k))
    (in_filter (nat_lt t.first) t.second (up_to k) (in_up_to k t.second (omega arith, most)) (let less : nat_lt t.first t.second ≡ true = grind (arith, nat_tests, rising) in less)))

-- what stands above point a
above_point : (k a : ℕ) (t : Transposition) → Contains (transpositions_from k a) t → (t.first ≡ a) × (a < t.second) × (t.second ≤ k)
above_point k a t i =
    let (b, j, e) = from_map (λ b. record { first = a; second = b }) t (filter (nat_lt a) (up_to k)) i in
    let (l, passes) = from_filter (nat_lt a) b (up_to k) j in
    let less : a < b = grind (arith, nat_tests, passes) in
    let second : t.second ≡ b = ap (λ u. u.second) e in
    let most : b ≤ k = (from_up_to k b l).1 in
    (ap (λ u. u.first) e, omega arith, omega arith)

pub from_transpositions : (k : ℕ) (t : Transposition) → Contains (transpositions k) t → IsTransposition k t
unfolding transpositions
from_transpositions k t i =
    let (a, j, l) = from_flat_map (transpositions_from k) t (up_to k) i in
    let (first, less, most) = above_point k a t l in
    let least : 1 ≤ a = (from_up_to k a j).0 in
    record { least = omega arith; rising = omega arith; most = most }

pub transpositions_rise : (k : ℕ) → AllOrdered IsBefore (transpositions k)
unfolding transpositions
transpositions_rise k =
    ordered-flat_map (λ a c. a < c) IsBefore (transpositions_from k)
    (λ a. ordered-map IsBefore (λ b. record { first = a; second = b }) (filter (nat_lt a) (up_to k))
    (ordered-kept (λ b c. IsBefore (record { first = a; second = b }) (record { first = a; second = c })) (nat_lt a) (up_to k)
    (ordered-weaker (λ b c. b < c) (λ b c. IsBefore (record { first = a; second = b }) (record { first = a; second = c })) (λ b c less. inr (refl, less)) (up_to k) (up_to_rises k))))
    (λ a c s t less i j.
    let s_is : s.first ≡ a = (above_point k a s i).0 in
    let t_is : t.first ≡ c = (above_point k c t j).0 in
    inl (omega arith))
    (up_to k) (up_to_rises k)

-- ---- the steps of the loops

none_kept : (a b : ℕ) → b ≤ a → filter (nat_lt a) (up_to b) ≡ []
none_kept a zero less = refl
none_kept a (suc b) less =
    filter-append (nat_lt a) (up_to b) (suc b ∷ []) ∙ ap₂ (λ xs ys. xs ++ ys) (none_kept a b (omega arith))
    (let e : nat_lt a (suc b) ≡ false = grind (arith, nat_tests, less) in ap (λ c. cond c (suc b ∷ []) []) e)

pub none_from_itself : (a : ℕ) (out : List Transposition) → out ≡ out ++ transpositions_from a a
none_from_itself a out =
    sym (append-nil out) ∙ ap (λ bs. out ++ map (λ b. record { first = a; second = b }) bs) (sym (none_kept a a (omega arith)))

pub piece_more : {X : Type 0} (f : X → List ℕ) (xs : List X) (i : ℕ) (x : X) (out next : List ℕ) → i < length xs → x ≡ get_or xs i x → out ≡ flat_map f (take i xs) → next ≡ out ++ f x → next ≡ flat_map f (take (i + 1) xs)
piece_more f xs i x out next less at before step =
    step ∙ ap₂ (λ us vs. us ++ vs) before (sym (append-nil (f x)))
    ∙ sym (flat_map-append f (take i xs) (x ∷ []))
    ∙ ap (flat_map f) (ap (λ v. take i xs ++ v ∷ []) at ∙ sym (take_more xs i x less))
