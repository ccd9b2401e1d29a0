-- The degrees and letters of derivatives, products with a letter, and differences.
use Rattle.std.proofs.Common.{◌≡◌, ℕ, zero, suc, ◌≤◌, Bool, true, false, List, [], ◌∷◌, ◌++◌, map, length, ◌∙◌, ap, arith, nat_eq}
use Rattle.std.specs.Prelude.{if◌then◌else◌}
use Rattle.std.specs.List.{AllByRecursion}
use Rattle.std.proofs.lemmas.List.{length-map}
use Rattle.nichols_field.specs.Field.{FieldValue, negative}
use Rattle.nichols_tensor.specs.Combination.{Term, Combination, scalar_multiple, minus, linear_map}
use Rattle.nichols_tensor.specs.Words.{IsWordOver, IsOver, HasDegree}
use Rattle.nichols_tensor.proofs.Pushed.{pushed_length, pushed_over}
use Rattle.nichols_braid.specs.Braid.{BraidValue, IsLetter, IsRack, act}
use Rattle.nichols_braid.specs.Derivation.{scalars_met, derived_word, skew_derivative}
use Rattle.nichols_braid.specs.RightProduct.{times_letter}

-- ---- what holds of the words of each term

-- a property of the words of a combination
abbrev pub AllWords : (List ℕ → Type 0) → Combination → Type 0
AllWords P f = AllByRecursion (λ t. P t.word) f

pub words-append : (P : List ℕ → Type 0) (f g : Combination) → AllWords P f → AllWords P g → AllWords P (f ++ g)
words-append P [] g h l = l
words-append P (t ∷ f) g h l = (h.0, words-append P f g h.1 l)

pub words-scalar_multiple : (P : List ℕ → Type 0) (k : FieldValue) (c : ℕ) (f : Combination) → AllWords P f → AllWords P (scalar_multiple k c f)
words-scalar_multiple P k c [] h = tt
words-scalar_multiple P k c (t ∷ f) h = (h.0, words-scalar_multiple P k c f h.1)

pub words-linear_map : (P Q : List ℕ → Type 0) (k : FieldValue) (image : List ℕ → Combination) → ((w : List ℕ) → P w → AllWords Q (image w)) → (f : Combination) → AllWords P f → AllWords Q (linear_map k image f)
words-linear_map P Q k image h [] all = tt
words-linear_map P Q k image h (t ∷ f) all =
    words-append Q (scalar_multiple k t.coefficient (image t.word)) (linear_map k image f) (words-scalar_multiple Q k t.coefficient (image t.word) (h t.word all.0)) (words-linear_map P Q k image h f all.1)

pub words-prefixed : (P Q : List ℕ → Type 0) (x : ℕ) → ((w : List ℕ) → P w → Q (x ∷ w)) → (f : Combination) → AllWords P f → AllWords Q (map (λ t. record { word = x ∷ t.word; coefficient = t.coefficient }) f)
words-prefixed P Q x h [] all = tt
words-prefixed P Q x h (t ∷ f) all = (h t.word all.0, words-prefixed P Q x h f all.1)

pub words-times_letter : (P Q : List ℕ → Type 0) (b : ℕ) → ((w : List ℕ) → P w → Q (w ++ b ∷ [])) → (f : Combination) → AllWords P f → AllWords Q (times_letter f b)
words-times_letter P Q b h [] all = tt
words-times_letter P Q b h (t ∷ f) all = (h t.word all.0, words-times_letter P Q b h f all.1)

words-here : (P : List ℕ → Type 0) (c : Bool) (t : Term) → P t.word → AllWords P (if c then t ∷ [] else [])
words-here P true t h = (h, tt)
words-here P false t h = tt

-- ---- derivatives

derived_word_degree : (braid : BraidValue) (a m : ℕ) (w : List ℕ) → length w ≡ suc m → HasDegree m (derived_word braid a w)
unfolding derived_word
derived_word_degree braid a m [] size = tt
derived_word_degree braid a m (x ∷ []) size = words-append (λ w. length w ≡ m) (if nat_eq a x then now ∷ [] else []) [] (words-here (λ w. length w ≡ m) (nat_eq a x) now (omega arith)) tt
  where
    now : Term
    now = record { word = []; coefficient = 1 }
derived_word_degree braid a zero (x ∷ y ∷ w) size = absurd (omega arith)
derived_word_degree braid a (suc m) (x ∷ y ∷ w) size =
    words-append (λ v. length v ≡ suc m) (if nat_eq a x then now ∷ [] else []) (map (λ t. record { word = x ∷ t.word; coefficient = t.coefficient }) (derived_word braid a (y ∷ w)))
    (words-here (λ v. length v ≡ suc m) (nat_eq a x) now (length-map (y ∷ w) (act braid a) ∙ (omega arith)))
    (words-prefixed (λ v. length v ≡ m) (λ v. length v ≡ suc m) x (λ v h. ap suc h) (derived_word braid a (y ∷ w)) (derived_word_degree braid a m (y ∷ w) (omega arith)))
  where
    now : Term
    now = record { word = map (act braid a) (y ∷ w); coefficient = scalars_met braid a (y ∷ w) }

acted_over : (braid : BraidValue) → IsRack braid → (a : ℕ) → IsLetter braid a → (w : List ℕ) → IsWordOver braid.letters w → IsWordOver braid.letters (map (act braid a) w)
acted_over braid rack a l [] over = tt
acted_over braid rack a l (x ∷ w) over = (rack.closed a x l over.0, acted_over braid rack a l w over.1)

derived_word_over : (braid : BraidValue) → IsRack braid → (a : ℕ) → IsLetter braid a → (w : List ℕ) → IsWordOver braid.letters w → IsOver braid.letters (derived_word braid a w)
unfolding derived_word
derived_word_over braid rack a l [] over = tt
derived_word_over braid rack a l (x ∷ w) over =
    words-append (IsWordOver braid.letters) (if nat_eq a x then now ∷ [] else []) (map (λ t. record { word = x ∷ t.word; coefficient = t.coefficient }) (derived_word braid a w))
    (words-here (IsWordOver braid.letters) (nat_eq a x) now (acted_over braid rack a l w over.1))
    (words-prefixed (IsWordOver braid.letters) (IsWordOver braid.letters) x (λ v h. (over.0, h)) (derived_word braid a w) (derived_word_over braid rack a l w over.1))
  where
    now : Term
    now = record { word = map (act braid a) w; coefficient = scalars_met braid a w }

pub derived_degree : (braid : BraidValue) (a m : ℕ) (f : Combination) → HasDegree (suc m) f → HasDegree m (skew_derivative braid a f)
derived_degree braid a m f h = words-linear_map (λ w. length w ≡ suc m) (λ w. length w ≡ m) braid.field (derived_word braid a) (λ w size. derived_word_degree braid a m w size) f h

pub derived_over : (braid : BraidValue) → IsRack braid → (a : ℕ) → IsLetter braid a → (f : Combination) → IsOver braid.letters f → IsOver braid.letters (skew_derivative braid a f)
derived_over braid rack a l f h = words-linear_map (IsWordOver braid.letters) (IsWordOver braid.letters) braid.field (derived_word braid a) (λ w over. derived_word_over braid rack a l w over) f h

-- ---- products with a letter

pub times_letter_degree : (m : ℕ) (f : Combination) (b : ℕ) → HasDegree m f → HasDegree (suc m) (times_letter f b)
times_letter_degree m f b h = words-times_letter (λ w. length w ≡ m) (λ w. length w ≡ suc m) b (λ w e. pushed_length w b ∙ ap suc e) f h

pub times_letter_over : (n : ℕ) (f : Combination) (b : ℕ) → (1 ≤ b) × (b ≤ n) → IsOver n f → IsOver n (times_letter f b)
times_letter_over n f b l h = words-times_letter (IsWordOver n) (IsWordOver n) b (λ w over. pushed_over n w b over l) f h

-- ---- differences

pub minus_degree : (k : FieldValue) (m : ℕ) (f g : Combination) → HasDegree m f → HasDegree m g → HasDegree m (minus k f g)
minus_degree k m f g h l = words-append (λ w. length w ≡ m) f (scalar_multiple k (negative k 1) g) h (words-scalar_multiple (λ w. length w ≡ m) k (negative k 1) g l)

pub minus_over : (k : FieldValue) (n : ℕ) (f g : Combination) → IsOver n f → IsOver n g → IsOver n (minus k f g)
minus_over k n f g h l = words-append (IsWordOver n) f (scalar_multiple k (negative k 1) g) h (words-scalar_multiple (IsWordOver n) k (negative k 1) g l)
