-- The list of all words of a length: which words it has, that it rises, and which words stand before one of them.
use Rattle.std.proofs.Common.{◌≡◌, ℕ, zero, suc, ◌+◌, ◌*◌, ◌^◌, ◌<◌, List, [], ◌∷◌, ◌++◌, map, length, refl, sym, ◌∙◌, ap, ap₂, subst, arith, inl, inr}
use Rattle.std.specs.List.{AllByRecursion, Contains, flat_map}
use Rattle.std.specs.Ordering.{is_lt, nat_cmp, ordering_then}
use Rattle.std.specs.Cmp.{nat_cmp_is}
use Rattle.std.specs.Cmp.Lexicographic.{slice_cmp}
use Rattle.std.specs.declared.cmp.Ordering.{Ordering}
use Rattle.std.specs.declared.cmp.Ordering.TheVariants.{Less, Equal, Greater}
use Rattle.std.proofs.Math.Nat.{pow-zero, pow-succ'}
use Rattle.std.proofs.lemmas.List.{length-append, length-map}
use Rattle.std.proofs.lemmas.Cmp.{nat_list_cmp_total, tied_itself}
use Rattle.nichols_tensor.specs.Combination.{Combination, AllAmong}
use Rattle.nichols_tensor.specs.Words.{up_to, IsWordOver, IsOver, HasDegree, words, words_before}
use Rattle.nichols_tensor.specs.WordOrder.{word_cmp, IsRising}
use Rattle.nichols_tensor.proofs.Entries.{contains_none, contains_first, contains_cases, in_map, in_flat_map, from_map, from_flat_map, in_filter, from_filter}
use Rattle.nichols_tensor.proofs.Letters.{in_up_to, from_up_to, up_to_length}
use Rattle.nichols_tensor.proofs.Over.{all-append, all-weaker}
use Rattle.nichols_tensor.proofs.Pushed.{pushed_length}
use Rattle.nichols_tensor.proofs.Rising.{AllOrdered, rising-map, rising-flat_map, less_by_test}

-- ---- which words

pub in_words : (n m : ℕ) (w : List ℕ) → length w ≡ m → IsWordOver n w → Contains (words n m) w
unfolding words
in_words n zero [] e o = contains_first [] []
in_words n zero (a ∷ w) e o = absurd (omega arith)
in_words n (suc m) [] e o = absurd (omega arith)
in_words n (suc m) (a ∷ w) e o =
    in_flat_map (λ b. map (λ v. b ∷ v) (words n m)) a (up_to n) (a ∷ w) (in_up_to n a o.0) (in_map (λ v. a ∷ v) w (words n m) (in_words n m w (omega arith) o.1))

pub from_words : (n m : ℕ) (w : List ℕ) → Contains (words n m) w → (length w ≡ m) × IsWordOver n w
unfolding words
from_words n zero w i =
    elim (contains_cases [] [] w i) [
      | inl e ↦ (ap length e, subst (IsWordOver n) (sym e) tt)
      | inr none ↦ absurd (contains_none w none)
    ]
from_words n (suc m) w i =
    let (a, j, k) = from_flat_map (λ b. map (λ v. b ∷ v) (words n m)) w (up_to n) i in
    let (v, l, e) = from_map (λ v. a ∷ v) w (words n m) k in
    let rest : (length v ≡ m) × IsWordOver n v = from_words n m v l in
    (ap length e ∙ ap suc rest.0, subst (IsWordOver n) (sym e) (from_up_to n a j, rest.1))

-- ---- the order of words of one length

pub number_below : (a b : ℕ) → a < b → nat_cmp a b ≡ Less
number_below a b h = sym (nat_cmp_is a b Less h)

pub number_same : (a b : ℕ) → a ≡ b → nat_cmp a b ≡ Equal
number_same a b h = sym (nat_cmp_is a b Equal h)

pub same_length_cmp : (v w : List ℕ) → length v ≡ length w → word_cmp v w ≡ slice_cmp nat_cmp v w
same_length_cmp v w e = ap (λ o. ordering_then o (slice_cmp nat_cmp v w)) (number_same (length v) (length w) e)

pub prepend_less : (a : ℕ) (v w : List ℕ) → length v ≡ length w → word_cmp v w ≡ Less → word_cmp (a ∷ v) (a ∷ w) ≡ Less
prepend_less a v w e less =
    same_length_cmp (a ∷ v) (a ∷ w) (ap suc e) ∙ ap (λ o. ordering_then o (slice_cmp nat_cmp v w)) (number_same a a refl) ∙ sym (same_length_cmp v w e) ∙ less

first_less : (a b : ℕ) (v w : List ℕ) → length v ≡ length w → a < b → word_cmp (a ∷ v) (b ∷ w) ≡ Less
first_less a b v w e less = same_length_cmp (a ∷ v) (b ∷ w) (ap suc e) ∙ ap (λ o. ordering_then o (slice_cmp nat_cmp v w)) (number_below a b less)

-- ---- the list rises

pub up_to_rises : (n : ℕ) → AllOrdered (λ a b. a < b) (up_to n)
up_to_rises zero = tt
up_to_rises (suc n) = pushed (up_to n) (suc n) (up_to_rises n) (all_below n)
  where
    all_below : (n : ℕ) → AllByRecursion (λ a. a < suc n) (up_to n)
    all_below zero = tt
    all_below (suc n) = all-append (λ a. a < suc (suc n)) (up_to n) (suc n ∷ []) (all-weaker (λ a. a < suc n) (λ a. a < suc (suc n)) (λ a less. omega arith) (up_to n) (all_below n)) (omega arith, tt)

    pushed : (cs : List ℕ) (b : ℕ) → AllOrdered (λ a c. a < c) cs → AllByRecursion (λ a. a < b) cs → AllOrdered (λ a c. a < c) (cs ++ b ∷ [])
    pushed [] b o h = (tt, tt)
    pushed (a ∷ cs) b o h = (all-append (λ c. a < c) cs (b ∷ []) o.0 (h.0, tt), pushed cs b o.1 h.1)

pub words_rise : (n m : ℕ) → IsRising (words n m)
unfolding words
words_rise n zero = (tt, tt)
words_rise n (suc m) =
    rising-flat_map (λ a b. a < b) (λ a. map (λ w. a ∷ w) (words n m)) (up_to n) (up_to_rises n)
    (λ a i. rising-map (λ w. a ∷ w) (words n m) (λ v w j l less. prepend_less a v w ((from_words n m v j).0 ∙ sym (from_words n m w l).0) less) (words_rise n m))
    (λ a b v w less i j.
    let (x, k, e) = from_map (λ u. a ∷ u) v (words n m) i in
    let (y, l, d) = from_map (λ u. b ∷ u) w (words n m) j in
    subst (λ u. word_cmp u w ≡ Less) (sym e) (subst (λ u. word_cmp (a ∷ x) u ≡ Less) (sym d) (first_less a b x y ((from_words n m x k).0 ∙ sym (from_words n m y l).0) less)))

-- ---- the words before a word

pub in_words_before : (n : ℕ) (v w : List ℕ) → length v ≡ length w → IsWordOver n v → word_cmp v w ≡ Less → Contains (words_before n w) v
unfolding words_before
in_words_before n v w e o less = in_filter (λ u. is_lt (word_cmp u w)) v (words n (length w)) (in_words n (length w) v e o) (ap is_lt less)

pub from_words_before : (n : ℕ) (v w : List ℕ) → Contains (words_before n w) v → (length v ≡ length w) × IsWordOver n v × (word_cmp v w ≡ Less)
unfolding words_before
from_words_before n v w i =
    let (j, less) = from_filter (λ u. is_lt (word_cmp u w)) v (words n (length w)) i in
    let from : (length v ≡ length w) × IsWordOver n v = from_words n (length w) v j in
    (from.0, from.1, less_by_test (word_cmp v w) less)

-- ---- words joined at the end

then_assoc : (o p q : Ordering) → ordering_then (ordering_then o p) q ≡ ordering_then o (ordering_then p q)
then_assoc Less p q = refl
then_assoc Equal p q = refl
then_assoc Greater p q = refl

slice_cmp-append : (u v x y : List ℕ) → length u ≡ length v → slice_cmp nat_cmp (u ++ x) (v ++ y) ≡ ordering_then (slice_cmp nat_cmp u v) (slice_cmp nat_cmp x y)
slice_cmp-append [] [] x y e = refl
slice_cmp-append [] (b ∷ v) x y e = absurd (omega arith)
slice_cmp-append (a ∷ u) [] x y e = absurd (omega arith)
slice_cmp-append (a ∷ u) (b ∷ v) x y e =
    ap (ordering_then (nat_cmp a b)) (slice_cmp-append u v x y (omega arith)) ∙ sym (then_assoc (nat_cmp a b) (slice_cmp nat_cmp u v) (slice_cmp nat_cmp x y))

-- words of one length that are in order stay in order, whatever letters are put behind
pub push_less : (u v : List ℕ) (a b : ℕ) → length u ≡ length v → word_cmp u v ≡ Less → word_cmp (u ++ a ∷ []) (v ++ b ∷ []) ≡ Less
push_less u v a b e less =
    same_length_cmp (u ++ a ∷ []) (v ++ b ∷ []) (pushed_length u a ∙ ap suc e ∙ sym (pushed_length v b)) ∙ slice_cmp-append u v (a ∷ []) (b ∷ []) e
    ∙ ap (λ o. ordering_then o (slice_cmp nat_cmp (a ∷ []) (b ∷ []))) (sym (same_length_cmp u v e) ∙ less)

-- and a word is before itself with a lesser letter behind
pub last_less : (u : List ℕ) (a b : ℕ) → a < b → word_cmp (u ++ a ∷ []) (u ++ b ∷ []) ≡ Less
last_less u a b less =
    same_length_cmp (u ++ a ∷ []) (u ++ b ∷ []) (pushed_length u a ∙ sym (pushed_length u b)) ∙ slice_cmp-append u u (a ∷ []) (b ∷ []) refl
    ∙ ap (λ o. ordering_then o (ordering_then (nat_cmp a b) Equal)) (tied_itself nat_list_cmp_total u) ∙ ap (λ o. ordering_then o Equal) (number_below a b less)

-- ---- combinations of these words

pub among_words : (n m : ℕ) (f : Combination) → HasDegree m f → IsOver n f → AllAmong f (words n m)
unfolding AllAmong
among_words n m [] d o = tt
among_words n m (t ∷ f) d o = (in_words n m t.word d.0 o.0, among_words n m f d.1 o.1)

-- ---- how many there are

prefixed_length : (ws : List (List ℕ)) (letters : List ℕ) → length (flat_map (λ a. map (λ w. a ∷ w) ws) letters) ≡ length letters * length ws
prefixed_length ws [] = let e : ◌≡◌ {A = ℕ} 0 (0 * length ws) = omega arith in e
prefixed_length ws (a ∷ letters) =
    length-append (map (λ w. a ∷ w) ws) (flat_map (λ b. map (λ w. b ∷ w) ws) letters) ∙ ap₂ (λ x y. x + y) (length-map ws (λ w. a ∷ w)) (prefixed_length ws letters) ∙ one (length letters) (length ws)
  where
    one : (l m : ℕ) → m + l * m ≡ suc l * m
    one l m = omega arith

pub words_length : (n m : ℕ) → length (words n m) ≡ n ^ m
unfolding words
words_length n zero = sym (pow-zero n)
words_length n (suc m) = prefixed_length (words n m) (up_to n) ∙ ap₂ (λ a b. a * b) (up_to_length n) (words_length n m) ∙ sym (pow-succ' n m)
