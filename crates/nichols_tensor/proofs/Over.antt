-- Which letters and which degrees occur in words and in combinations.
use Rattle.std.proofs.Common.{◌≡◌, ℕ, zero, suc, ◌<◌, Bool, true, List, [], ◌∷◌, ◌++◌, length, take, arith}
use Rattle.std.specs.Prelude.{slice_index}
use Rattle.std.specs.List.{AllByRecursion, Contains, filter}
use Rattle.std.proofs.lemmas.List.Elements.{All-contains, All-filter, All-weaker, All-from_recursion, recursion_from_All, filter_passes}
use Rattle.nichols_field.specs.Field.{FieldValue}
use Rattle.nichols_tensor.specs.Combination.{Combination, words_of, AllAmong, scalar_multiple}
use Rattle.nichols_tensor.specs.Words.{IsLetterOf, IsWordOver, IsOver, HasDegree}

pub all-append : {X : Type 0} (P : X → Type 0) (xs ys : List X) → AllByRecursion P xs → AllByRecursion P ys → AllByRecursion P (xs ++ ys)
all-append P [] ys h k = k
all-append P (x ∷ xs) ys h k = (h.0, all-append P xs ys h.1 k)

pub all-weaker : {X : Type 0} (P Q : X → Type 0) → ((x : X) → P x → Q x) → (xs : List X) → AllByRecursion P xs → AllByRecursion Q xs
all-weaker P Q weaker [] h = tt
all-weaker P Q weaker (x ∷ xs) h = (weaker x h.0, all-weaker P Q weaker xs h.1)

-- what holds of each entry still does of those that pass a test
pub all-filter : {X : Type 0} (P : X → Type 0) (t : X → Bool) (xs : List X) → AllByRecursion P xs → AllByRecursion P (filter t xs)
all-filter P t xs h = recursion_from_All P (filter t xs) (All-filter t P xs (All-from_recursion P xs h))

-- and so does what the test says
pub passes-filter : {X : Type 0} (P : X → Type 0) (t : X → Bool) → ((x : X) → t x ≡ true → P x) → (xs : List X) → AllByRecursion P (filter t xs)
passes-filter P t says xs = recursion_from_All P (filter t xs) (All-weaker (λ x. t x ≡ true) P says (filter t xs) (filter_passes t xs))

-- ---- words

pub word_over-append : (n : ℕ) (v w : List ℕ) → IsWordOver n v → IsWordOver n w → IsWordOver n (v ++ w)
word_over-append n v w h k = all-append (IsLetterOf n) v w h k

pub word_over_front : (n : ℕ) (v w : List ℕ) → IsWordOver n (v ++ w) → IsWordOver n v
word_over_front n [] w h = tt
word_over_front n (a ∷ v) w h = (h.0, word_over_front n v w h.1)

pub word_over_back : (n : ℕ) (v w : List ℕ) → IsWordOver n (v ++ w) → IsWordOver n w
word_over_back n [] w h = h
word_over_back n (a ∷ v) w h = word_over_back n v w h.1

pub word_over-take : (n k : ℕ) (w : List ℕ) → IsWordOver n w → IsWordOver n (take k w)
word_over-take n zero w h = tt
word_over-take n (suc k) [] h = tt
word_over-take n (suc k) (a ∷ w) h = (h.0, word_over-take n k w h.1)

-- each letter of a word over n letters is one of them
pub letter_over : (n : ℕ) (w : List ℕ) (k : ℕ) → IsWordOver n w → k < length w → IsLetterOf n (slice_index w k)
letter_over n [] k h less = absurd (omega arith)
letter_over n (a ∷ w) zero h less = h.0
letter_over n (a ∷ w) (suc k) h less = letter_over n w k h.1 (omega arith)

-- ---- combinations

pub all_at : {X : Type 0} (P : X → Type 0) (xs : List X) (x : X) → AllByRecursion P xs → Contains xs x → P x
all_at P xs x h i = All-contains P xs x (All-from_recursion P xs h) i

-- what holds of each word of a combination, by its terms and by the list of its words
pub all_of_words : (P : List ℕ → Type 0) (f : Combination) → AllByRecursion (λ t. P t.word) f → AllByRecursion P (words_of f)
all_of_words P [] h = tt
all_of_words P (t ∷ f) h = (h.0, all_of_words P f h.1)

-- what holds of each word of a list holds of each word of a combination of these words
pub all_among : (P : List ℕ → Type 0) (f : Combination) (ws : List (List ℕ)) → AllAmong f ws → AllByRecursion P ws → AllByRecursion (λ t. P t.word) f
unfolding AllAmong
all_among P [] ws a h = tt
all_among P (t ∷ f) ws a h = (all_at P ws t.word h a.0, all_among P f ws a.1 h)

-- what holds of each word of two combinations holds of each word of a combination that has no others
pub all_of_both : (P : List ℕ → Type 0) (f g h : Combination) → AllAmong h (words_of f ++ words_of g) → AllByRecursion (λ t. P t.word) f → AllByRecursion (λ t. P t.word) g → AllByRecursion (λ t. P t.word) h
all_of_both P f g h a left right = all_among P h (words_of f ++ words_of g) a (all-append P (words_of f) (words_of g) (all_of_words P f left) (all_of_words P g right))

pub over_of_both : (n : ℕ) (f g h : Combination) → AllAmong h (words_of f ++ words_of g) → IsOver n f → IsOver n g → IsOver n h
over_of_both n f g h a left right = all_of_both (IsWordOver n) f g h a left right

pub degree_of_both : (m : ℕ) (f g h : Combination) → AllAmong h (words_of f ++ words_of g) → HasDegree m f → HasDegree m g → HasDegree m h
degree_of_both m f g h a left right = all_of_both (λ w. length w ≡ m) f g h a left right

pub all-scalar_multiple : (P : List ℕ → Type 0) (k : FieldValue) (c : ℕ) (f : Combination) → AllByRecursion (λ t. P t.word) f → AllByRecursion (λ t. P t.word) (scalar_multiple k c f)
all-scalar_multiple P k c [] h = tt
all-scalar_multiple P k c (t ∷ f) h = (h.0, all-scalar_multiple P k c f h.1)
