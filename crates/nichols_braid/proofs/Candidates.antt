-- Candidates: they are words of their degree, and rise.
use Rattle.std.proofs.Common.{◌≡◌, ℕ, zero, suc, ◌+◌, ◌<◌, true, not, List, [], ◌∷◌, ◌++◌, map, length, refl, sym, ◌∙◌, ap, subst, arith, inl, inr, length-append}
use Rattle.std.specs.List.{filter, AllByRecursion, Contains}
use Rattle.std.specs.declared.cmp.Ordering.TheVariants.{Less}
use Rattle.nichols_tensor.specs.Combination.{single}
use Rattle.nichols_tensor.specs.Words.{up_to, IsWordOver, with_letters}
use Rattle.nichols_tensor.specs.WordOrder.{word_cmp, IsBelowFirst, IsRising}
use Rattle.nichols_tensor.proofs.Entries.{contains_none, contains_cases, in_map, in_flat_map, from_map, from_flat_map}
use Rattle.nichols_tensor.proofs.Letters.{in_up_to, from_up_to}
use Rattle.nichols_tensor.proofs.Over.{word_over-append}
use Rattle.nichols_tensor.proofs.Rising.{AllOrdered, all_ordered_words, rising-flat_map}
use Rattle.nichols_tensor.proofs.AllWords.{up_to_rises, push_less, last_less}
use Rattle.nichols_tensor.proofs.Tests.{all_of_entries}
use Rattle.nichols_braid.specs.Braid.{BraidValue, IsLetter}
use Rattle.nichols_braid.specs.Kernel.{Vanishing}
use Rattle.nichols_braid.specs.Least.{is_least, basis, normal_form, candidates, relations}
use Rattle.nichols_tensor.specs.Relation.{PlainRelation}
use Rattle.nichols_braid.proofs.Reduction.{from_basis, basis_rises}

-- ---- which words

-- the words with each letter behind
pub candidates_first : (vanishes : Vanishing) (braid : BraidValue) → candidates vanishes braid 0 ≡ [] ∷ []
unfolding candidates
candidates_first vanishes braid = refl

pub candidates_next : (vanishes : Vanishing) (braid : BraidValue) (m : ℕ) → candidates vanishes braid (suc m) ≡ with_letters braid.letters (basis vanishes braid m)
unfolding candidates
candidates_next vanishes braid m = refl

pub in_candidates : (vanishes : Vanishing) (braid : BraidValue) (m : ℕ) (u : List ℕ) (b : ℕ) → Contains (basis vanishes braid m) u → IsLetter braid b → Contains (candidates vanishes braid (suc m)) (u ++ b ∷ [])
unfolding candidates
in_candidates vanishes braid m u b i letter =
    in_flat_map (λ v. map (λ a. v ++ a ∷ []) (up_to braid.letters)) u (basis vanishes braid m) (u ++ b ∷ []) i (in_map (λ a. u ++ a ∷ []) b (up_to braid.letters) (in_up_to braid.letters b letter))

pub from_candidates : (vanishes : Vanishing) (braid : BraidValue) (m : ℕ) (w : List ℕ) → Contains (candidates vanishes braid m) w → (length w ≡ m) × IsWordOver braid.letters w
unfolding candidates
from_candidates vanishes braid zero w i =
    elim (contains_cases [] [] w i) [
      | inl e ↦ (ap length e, subst (IsWordOver braid.letters) (sym e) tt)
      | inr none ↦ absurd (contains_none w none)
    ]
from_candidates vanishes braid (suc m) w i =
    let (u, j, k) = from_flat_map (λ v. map (λ a. v ++ a ∷ []) (up_to braid.letters)) w (basis vanishes braid m) i in
    let (b, l, e) = from_map (λ a. u ++ a ∷ []) w (up_to braid.letters) k in
    let from : (length u ≡ m) × IsWordOver braid.letters u × (is_least vanishes braid u ≡ true) = from_basis vanishes braid m u j in
    let size : length (u ++ b ∷ []) ≡ suc m = length-append u (b ∷ []) ∙ ap (λ n. n + 1) from.0 ∙ (let one : m + 1 ≡ suc m = omega arith in one) in
    (ap length e ∙ size, subst (IsWordOver braid.letters) (sym e) (word_over-append braid.letters u (b ∷ []) from.1 (from_up_to braid.letters b l, tt)))

-- ---- they rise

with_letters_rise : (u : List ℕ) (cs : List ℕ) → AllOrdered (λ a b. a < b) cs → IsRising (map (λ b. u ++ b ∷ []) cs)
with_letters_rise u [] o = tt
with_letters_rise u (c ∷ cs) o = (first cs o.0, with_letters_rise u cs o.1)
  where
    first : (ds : List ℕ) → AllByRecursion (λ d. c < d) ds → IsBelowFirst (u ++ c ∷ []) (map (λ b. u ++ b ∷ []) ds)
    first [] h = tt
    first (d ∷ ds) h = last_less u c d h.0

ordered_of : {X : Type 0} (R : X → X → Type 0) (P : X → Type 0) (xs : List X) → AllOrdered R xs → AllByRecursion P xs → AllOrdered (λ x y. R x y × P x × P y) xs
ordered_of R P [] o h = tt
ordered_of R P (x ∷ xs) o h = (each xs o.0 h.1, ordered_of R P xs o.1 h.1)
  where
    each : (ys : List _) → AllByRecursion (R x) ys → AllByRecursion P ys → AllByRecursion (λ y. R x y × P x × P y) ys
    each [] r p = tt
    each (y ∷ ys) r p = ((r.0, h.0, p.0), each ys r.1 p.1)

pub candidates_rise : (vanishes : Vanishing) (braid : BraidValue) (m : ℕ) → IsRising (candidates vanishes braid m)
unfolding candidates
candidates_rise vanishes braid zero = (tt, tt)
candidates_rise vanishes braid (suc m) =
    let ws : List (List ℕ) = basis vanishes braid m in
    let n : ℕ = braid.letters in
    rising-flat_map (λ u v. (word_cmp u v ≡ Less) × (length u ≡ m) × (length v ≡ m)) (λ u. map (λ b. u ++ b ∷ []) (up_to n)) ws
    (ordered_of (λ u v. word_cmp u v ≡ Less) (λ u. length u ≡ m) ws (all_ordered_words ws (basis_rises vanishes braid m)) (all_of_entries (λ u. length u ≡ m) ws (λ u i. (from_basis vanishes braid m u i).0)))
    (λ u i. with_letters_rise u (up_to n) (up_to_rises n))
    (λ u v x y r i j.
    let (a, l, e) = from_map (λ b. u ++ b ∷ []) x (up_to n) i in
    let (b, o, d) = from_map (λ c. v ++ c ∷ []) y (up_to n) j in
    subst (λ z. word_cmp z y ≡ Less) (sym e) (subst (λ z. word_cmp (u ++ a ∷ []) z ≡ Less) (sym d) (push_less u v a b (r.1 ∙ sym r.2) r.0)))

-- ---- least words and relations of a list

abbrev pub least_of : Vanishing → BraidValue → List (List ℕ) → List (List ℕ)
least_of vanishes braid ws = filter (is_least vanishes braid) ws

-- the word with its normal form in degree m
abbrev pub relation_at : Vanishing → BraidValue → ℕ → List ℕ → PlainRelation
relation_at vanishes braid m w = record { candidate = w; form = normal_form vanishes braid m (single w) }

abbrev pub relations_of : Vanishing → BraidValue → ℕ → List (List ℕ) → List PlainRelation
relations_of vanishes braid m ws = map (relation_at vanishes braid m) (filter (λ w. not (is_least vanishes braid w)) ws)

pub relations_are : (vanishes : Vanishing) (braid : BraidValue) (m : ℕ) → relations vanishes braid m ≡ relations_of vanishes braid m (candidates vanishes braid m)
unfolding relations
relations_are vanishes braid m = refl
