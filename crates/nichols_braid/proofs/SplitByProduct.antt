-- What is zero in the algebra splits by the products of words.
use Rattle.std.proofs.Common.{◌≡◌, ℕ, zero, suc, ◌≤◌, Bool, true, false, cond, not, List, [], ◌∷◌, ◌++◌, length, refl, sym, ◌∙◌, ap, ap₂, subst, arith, append_assoc}
use Rattle.std.specs.Prelude.{if◌then◌else◌}
use Rattle.std.specs.List.{AllByRecursion}
use Rattle.std.specs.Cmp.Lexicographic.{same_text}
use Rattle.std.proofs.lemmas.List.{append-nil}
use Rattle.std.proofs.lemmas.List.Elements.{filter_agree}
use Rattle.nichols_field.specs.Field.{FieldValue, IsField, IsElement, plus}
use Rattle.nichols_field.proofs.FieldLaws.{plus_zero}
use Rattle.nichols_field.proofs.FieldAlgebra.{zero_plus}
use Rattle.nichols_tensor.specs.Combination.{Term, Combination, value_at, HasSameValues, IsZero, scalar_multiple, linear_map, same_letters}
use Rattle.nichols_tensor.specs.Parts.{part}
use Rattle.nichols_tensor.specs.Words.{IsWordOver, IsOver}
use Rattle.nichols_tensor.proofs.Over.{all-scalar_multiple, all-weaker}
use Rattle.nichols_tensor.proofs.Parts.{part-append, part_of_all, part_of_none}
use Rattle.nichols_tensor.proofs.Values.{value_is_element, value_at-append, value_at-part, same_itself}
use Rattle.nichols_braid.specs.Braid.{BraidValue, IsLetter, IsRack}
use Rattle.nichols_braid.specs.Symmetrizer.{lifts, symmetrizer_image}
use Rattle.nichols_braid.specs.Derivation.{derived_word, skew_derivative}
use Rattle.nichols_braid.specs.Kernel.{IsKilled, IsInKernel}
use Rattle.nichols_braid.specs.Product.{product_of, has_product, part_of_product}
use Rattle.nichols_braid.proofs.Degrees.{AllWords, derived_over}
use Rattle.nichols_braid.proofs.Killed.{killed_same, killed_zero, killed-append, kernel_same, kernel-append}
use Rattle.nichols_braid.proofs.KeptProducts.{MoveAlike, same_product, alike_before, lifts_product, derived_alike}

-- ---- parts of combinations

zero_part : (k : FieldValue) → IsField k → (p : List ℕ → Bool) (f : Combination) → IsZero k f → IsZero k (part p f)
zero_part k is p f h w = value_at-part k is p f w ∙ at (p w) (h w)
  where
    at : (b : Bool) → value_at k f w ≡ 0 → (if b then value_at k f w else 0) ≡ 0
    at true e = e
    at false e = refl

-- a combination is its part on the words that pass and that on the others
both_parts : (k : FieldValue) → IsField k → (p : List ℕ → Bool) (f : Combination) → HasSameValues k (part p f ++ part (λ w. not (p w)) f) f
both_parts k is p f w =
    value_at-append k is (part p f) (part (λ v. not (p v)) f) w ∙ ap₂ (plus k) (value_at-part k is p f w) (value_at-part k is (λ v. not (p v)) f w)
    ∙ at (p w) (value_at k f w) (value_is_element k is f w)
  where
    at : (b : Bool) (n : ℕ) → IsElement k n → plus k (if b then n else 0) (if not b then n else 0) ≡ n
    at true n e = plus_zero k n e
    at false n e = zero_plus k n e

-- a linear map takes a part to a part, where the words of each image pass as the word does
linear_map-part : (k : FieldValue) (image : List ℕ → Combination) (p q : List ℕ → Bool) (f : Combination) → AllByRecursion (λ t. AllWords (λ v. q v ≡ p t.word) (image t.word)) f →
    linear_map k image (part p f) ≡ part q (linear_map k image f)
linear_map-part k image p q [] h = refl
linear_map-part k image p q (t ∷ f) h =
    chosen (p t.word) refl (linear_map-part k image p q f h.1) ∙ sym (part-append q here (linear_map k image f))
  where
    here : Combination
    here = scalar_multiple k t.coefficient (image t.word)

    passing : (b : Bool) → p t.word ≡ b → AllWords (λ v. q v ≡ b) here
    passing b e = all-scalar_multiple (λ v. q v ≡ b) k t.coefficient (image t.word) (all-weaker (λ (u : Term). q u.word ≡ p t.word) (λ (u : Term). q u.word ≡ b) (λ u same. same ∙ e) (image t.word) h.0)

    chosen : (b : Bool) → p t.word ≡ b → linear_map k image (part p f) ≡ part q (linear_map k image f) → linear_map k image (cond b (t ∷ part p f) (part p f)) ≡ part q here ++ part q (linear_map k image f)
    chosen true e r = ap₂ (λ g g'. g ++ g') (sym (part_of_all q here (passing true e))) r
    chosen false e r = r ∙ ap (λ g. g ++ part q (linear_map k image f)) (sym (part_of_none q here (passing false e)))

-- ---- a property of combinations that splits by a key of their words

-- the part on the words of one key
abbrev keyed : (List ℕ → List ℕ) → List ℕ → Combination → Combination
keyed key g f = part (λ w. same_letters (key w) g) f

-- the words of another key that are left
keyed_rest : (key : List ℕ → List ℕ) (here g : List ℕ) (f : Combination) → same_letters here g ≡ false → keyed key g (part (λ w. not (same_letters (key w) here)) f) ≡ keyed key g f
keyed_rest key here g [] other = refl
keyed_rest key here g (t ∷ f) other =
    at (same_letters (key t.word) here) (same_letters (key t.word) g) refl refl (keyed_rest key here g f other)
  where
    rest : Combination
    rest = part (λ w. not (same_letters (key w) here)) f

    at : (b c : Bool) → same_letters (key t.word) here ≡ b → same_letters (key t.word) g ≡ c → keyed key g rest ≡ keyed key g f → keyed key g (cond (not b) (t ∷ rest) rest) ≡ cond c (t ∷ keyed key g f) (keyed key g f)
    at true true e d r = absurd (let c : true ≡ false = sym d ∙ ap (λ x. same_letters x g) (same_text (key t.word) here (sym e)) ∙ other in cc)
    at true false e d r = r
    at false true e d r = ap (λ c. cond c (t ∷ keyed key g rest) (keyed key g rest)) d ∙ ap (λ x. t ∷ x) r
    at false false e d r = ap (λ c. cond c (t ∷ keyed key g rest) (keyed key g rest)) d ∙ r

-- none of the words of this key are left
keyed_none : (key : List ℕ → List ℕ) (here : List ℕ) (f : Combination) → keyed key here (part (λ w. not (same_letters (key w) here)) f) ≡ []
keyed_none key here [] = refl
keyed_none key here (t ∷ f) = at (same_letters (key t.word) here) refl (keyed_none key here f)
  where
    rest : Combination
    rest = part (λ w. not (same_letters (key w) here)) f

    at : (b : Bool) → same_letters (key t.word) here ≡ b → keyed key here rest ≡ [] → keyed key here (cond (not b) (t ∷ rest) rest) ≡ []
    at true e r = r
    at false e r = ap (λ c. cond c (t ∷ keyed key here rest) (keyed key here rest)) e ∙ r

part_length : (p : List ℕ → Bool) (f : Combination) → length (part p f) ≤ length f
part_length p [] = omega arith
part_length p (t ∷ f) = at (p t.word) (part_length p f)
  where
    at : (b : Bool) → length (part p f) ≤ length f → length (cond b (t ∷ part p f) (part p f)) ≤ suc (length f)
    at true h = omega arith
    at false h = omega arith

-- a property that sees values alone and is kept by sums holds of a combination where it holds of the part of each key
from_parts : (k : FieldValue) → IsField k → (P : Combination → Type 0) → ((f g : Combination) → HasSameValues k f g → P f → P g) → P [] → ((f g : Combination) → P f → P g → P (f ++ g)) →
    (key : List ℕ → List ℕ) (n : ℕ) (f : Combination) → length f ≤ n → ((g : List ℕ) → P (keyed key g f)) → P f
from_parts k is P sees nothing sums key n [] short h = nothing
from_parts k is P sees nothing sums key zero (t ∷ f) short h = absurd (omega arith)
from_parts k is P sees nothing sums key (suc n) (t ∷ f) short h =
    sees (keyed key here (t ∷ f) ++ part others (t ∷ f)) (t ∷ f) (both_parts k is (λ w. same_letters (key w) here) (t ∷ f))
    (sums (keyed key here (t ∷ f)) (part others (t ∷ f)) (h here)
    (subst P (sym left)
    (from_parts k is P sees nothing sums key n (part others f) (let less : length (part others f) ≤ length f = part_length others f in omega arith)
    (λ g. subst (λ r. P (keyed key g r)) left (each g (same_letters here g) refl)))))
  where
    here : List ℕ
    here = key t.word

    others : List ℕ → Bool
    others w = not (same_letters (key w) here)

    left : part others (t ∷ f) ≡ part others f
    left = ap (λ b. cond (not b) (t ∷ part others f) (part others f)) (same_itself here)

    each : (g : List ℕ) (b : Bool) → same_letters here g ≡ b → P (keyed key g (part others (t ∷ f)))
    each g true e = subst (λ x. P (keyed key x (part others (t ∷ f)))) (same_text here g (sym e)) (subst P (sym (keyed_none key here (t ∷ f))) nothing)
    each g false e = subst P (sym (keyed_rest key here g (t ∷ f) e)) (h g)

-- ---- the kernel of the symmetrizer

lifts_pass : (braid : BraidValue) → IsRack braid → (g : List ℕ) (f : Combination) → IsOver braid.letters f → AllByRecursion (λ t. AllWords (λ v. has_product braid g v ≡ has_product braid g t.word) (lifts braid t.word)) f
lifts_pass braid rack g [] over = tt
lifts_pass braid rack g (t ∷ f) over = (
  all-weaker (λ (u : Term). product_of braid u.word ≡ product_of braid t.word) (λ (u : Term). has_product braid g u.word ≡ has_product braid g t.word) (λ u same. ap (λ p. same_letters p g) same) (lifts braid t.word)
      (lifts_product braid rack t.word over.0),
  lifts_pass braid rack g f over.1,
)

pub kernel_part : (braid : BraidValue) → IsField braid.field → IsRack braid → (f : Combination) → IsOver braid.letters f → IsInKernel braid f → (g : List ℕ) → IsInKernel braid (part_of_product braid g f)
kernel_part braid is rack f over h g =
    subst (IsZero braid.field) (sym (linear_map-part braid.field (lifts braid) (has_product braid g) (has_product braid g) f (lifts_pass braid rack g f over))) (zero_part braid.field is (has_product braid g) (symmetrizer_image braid f) h)

pub kernel_from_parts : (braid : BraidValue) → IsField braid.field → (f : Combination) → ((g : List ℕ) → IsInKernel braid (part_of_product braid g f)) → IsInKernel braid f
kernel_from_parts braid is f h = from_parts braid.field is (IsInKernel braid) (kernel_same braid is) (λ w. refl) (kernel-append braid is) (product_of braid) (length f) f (omega arith) h

-- ---- what is killed

-- the words of the derivative by a have, with a and u behind, the product that the word has with u behind
derived_passes : (braid : BraidValue) → IsRack braid → (g : List ℕ) (a : ℕ) → IsLetter braid a → (u : List ℕ) → IsWordOver braid.letters u → (f : Combination) → IsOver braid.letters f →
    AllByRecursion (λ t. AllWords (λ v. has_product braid g (v ++ a ∷ u) ≡ has_product braid g (t.word ++ u)) (derived_word braid a t.word)) f
derived_passes braid rack g a la u behind [] over = tt
derived_passes braid rack g a la u behind (t ∷ f) over = (
  all-weaker (λ (s : Term). MoveAlike braid (s.word ++ a ∷ []) t.word) (λ (s : Term). has_product braid g (s.word ++ a ∷ u) ≡ has_product braid g (t.word ++ u)) same (derived_word braid a t.word) (derived_alike braid rack a la t.word over.0),
  derived_passes braid rack g a la u behind f over.1,
)
  where
    same : (s : Term) → MoveAlike braid (s.word ++ a ∷ []) t.word → has_product braid g (s.word ++ a ∷ u) ≡ has_product braid g (t.word ++ u)
    same s alike =
        ap (has_product braid g) (sym (append_assoc s.word (a ∷ []) u)) ∙ ap (λ p. same_letters p g) (same_product braid ((s.word ++ a ∷ []) ++ u) (t.word ++ u) (alike_before braid rack (s.word ++ a ∷ []) t.word u behind alike))

killed_part_behind : (braid : BraidValue) → IsField braid.field → IsRack braid → (g u : List ℕ) → IsWordOver braid.letters u → (m : ℕ) (f : Combination) → IsOver braid.letters f → IsKilled braid m f → IsKilled braid m (part (λ w. has_product braid g (w ++ u)) f)
killed_part_behind braid is rack g u behind zero f over h = zero_part braid.field is (λ w. has_product braid g (w ++ u)) f h
killed_part_behind braid is rack g u behind (suc m) f over h = λ a la.
    subst (IsKilled braid m) (sym (linear_map-part braid.field (derived_word braid a) (λ w. has_product braid g (w ++ u)) (λ v. has_product braid g (v ++ a ∷ u)) f (derived_passes braid rack g a la u behind f over)))
    (killed_part_behind braid is rack g (a ∷ u) (la, behind) m (skew_derivative braid a f) (derived_over braid rack a la f over) (h a la))

pub killed_part : (braid : BraidValue) → IsField braid.field → IsRack braid → (m : ℕ) (f : Combination) → IsOver braid.letters f → IsKilled braid m f → (g : List ℕ) → IsKilled braid m (part_of_product braid g f)
killed_part braid is rack m f over h g =
    subst (IsKilled braid m) (filter_agree (λ (t : Term). has_product braid g (t.word ++ [])) (λ (t : Term). has_product braid g t.word) (λ t. ap (has_product braid g) (append-nil t.word)) f)
    (killed_part_behind braid is rack g [] tt m f over h)

pub killed_from_parts : (braid : BraidValue) → IsField braid.field → (m : ℕ) (f : Combination) → ((g : List ℕ) → IsKilled braid m (part_of_product braid g f)) → IsKilled braid m f
killed_from_parts braid is m f h =
    from_parts braid.field is (IsKilled braid m) (killed_same braid is m) (killed_zero braid is m [] (λ w. refl)) (killed-append braid is m) (product_of braid) (length f) f (omega arith) h
