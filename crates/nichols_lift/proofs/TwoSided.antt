-- The kernel is an ideal on both sides, for combinations of words of any lengths.
use Rattle.std.proofs.Common.{◌≡◌, ℕ, zero, suc, Bool, true, false, cond, List, [], ◌∷◌, ◌++◌, length, nat_eq, refl, sym, ◌∙◌, ap, ap₂, subst, append_assoc, arith}
use Rattle.std.specs.List.{AllByRecursion}
use Rattle.std.proofs.lemmas.List.{append-nil}
use Rattle.std.proofs.lemmas.Bool.{ne_eqb}
use Rattle.std.proofs.lemmas.Bool.Decides.{Decides-eqb}
use Rattle.nichols_tensor.specs.Combination.{Combination, scalar_multiple, linear_map}
use Rattle.nichols_tensor.specs.Parts.{part_of_degree}
use Rattle.nichols_tensor.specs.Product.{prefixed, product}
use Rattle.nichols_tensor.specs.Words.{IsWordOver, IsOver}
use Rattle.nichols_tensor.proofs.Parts.{degree-part, over-part}
use Rattle.nichols_tensor.proofs.Maps.{reworded}
use Rattle.nichols_tensor.proofs.Products.{nothing_in_front, suffixed, prefixed_over, product_from_behind}
use Rattle.nichols_tensor.proofs.Pushed.{pushed_length}
use Rattle.nichols_tensor.proofs.Tests.{same_answer}
use Rattle.nichols_braid.specs.Braid.{BraidValue, IsBraid, IsLetter}
use Rattle.nichols_braid.specs.Kernel.{IsInKernel}
use Rattle.nichols_braid.specs.LeftProduct.{letter_times}
use Rattle.nichols_braid.specs.RightProduct.{times_letter}
use Rattle.nichols_braid.proofs.BraidLaws.{kernel_is_linear, kernel_is_decided}
use Rattle.nichols_braid.proofs.Degrees.{times_letter_over}
use Rattle.nichols_braid.proofs.Killed.{kernel_same, kernel-append}
use Rattle.nichols_braid.proofs.WholeKernel.{kernel_by_parts}
use Rattle.nichols_lift.proofs.Kernel.{in_kernel-times_letter}
use Rattle.nichols_lift.proofs.LeftReadings.{in_kernel-letter_times}
use Rattle.nichols_lift.specs.Laws.{KernelIsTwoSided}

-- ---- one letter

next_eq : (n m : ℕ) → nat_eq (suc n) (suc m) ≡ nat_eq n m
next_eq n m =
    same_answer (nat_eq (suc n) (suc m)) (nat_eq n m) (λ e. let d : suc n ≡ suc m = (Decides-eqb (suc n) (suc m)).0 e in (Decides-eqb n m).1 (omega arith)) (λ e. (Decides-eqb (suc n) (suc m)).1 (ap suc ((Decides-eqb n m).0 e)))

not_first : (n : ℕ) → nat_eq (suc n) 0 ≡ false
not_first n = ne_eqb (suc n) 0 (λ e. omega arith)

-- words that become one letter longer: the parts move up by one degree
later_part : (word : List ℕ → List ℕ) → ((w : List ℕ) → length (word w) ≡ suc (length w)) → (m : ℕ) (f : Combination) → part_of_degree (suc m) (reworded word f) ≡ reworded word (part_of_degree m f)
later_part word longer m [] = refl
later_part word longer m (t ∷ f) =
    ap₂ (λ (c : Bool) (r : Combination). cond c (record { word = word t.word; coefficient = t.coefficient } ∷ r) r) (ap (λ n. nat_eq n (suc m)) (longer t.word) ∙ next_eq (length t.word) m) (later_part word longer m f)
    ∙ at (nat_eq (length t.word) m)
  where
    at : (c : Bool) → cond c (record { word = word t.word; coefficient = t.coefficient } ∷ reworded word (part_of_degree m f)) (reworded word (part_of_degree m f)) ≡ reworded word (cond c (t ∷ part_of_degree m f) (part_of_degree m f))
    at true = refl
    at false = refl

no_first_part : (word : List ℕ → List ℕ) → ((w : List ℕ) → length (word w) ≡ suc (length w)) → (f : Combination) → part_of_degree 0 (reworded word f) ≡ []
no_first_part word longer [] = refl
no_first_part word longer (t ∷ f) =
    ap₂ (λ (c : Bool) (r : Combination). cond c (record { word = word t.word; coefficient = t.coefficient } ∷ r) r) (ap (λ n. nat_eq n 0) (longer t.word) ∙ not_first (length t.word)) (no_first_part word longer f)

nothing_in_kernel : (braid : BraidValue) → IsInKernel braid []
nothing_in_kernel braid w = refl

letter_behind : (braid : BraidValue) → IsBraid braid → (f : Combination) (b : ℕ) → IsOver braid.letters f → IsLetter braid b → IsInKernel braid f → IsInKernel braid (times_letter f b)
letter_behind braid is f b over letter h = (kernel_by_parts braid is (times_letter f b)).kernel.1 at
  where
    at : (m : ℕ) → IsInKernel braid (part_of_degree m (times_letter f b))
    at zero = subst (IsInKernel braid) (sym (no_first_part (λ w. w ++ b ∷ []) (λ w. pushed_length w b) f)) (nothing_in_kernel braid)
    at (suc m) =
        subst (IsInKernel braid) (sym (later_part (λ w. w ++ b ∷ []) (λ w. pushed_length w b) m f))
        (in_kernel-times_letter braid is m (part_of_degree m f) b (degree-part m f) (over-part braid.letters (λ w. nat_eq (length w) m) f over) letter ((kernel_by_parts braid is f).kernel.0 h m))

letter_before : (braid : BraidValue) → IsBraid braid → (f : Combination) (b : ℕ) → IsOver braid.letters f → IsLetter braid b → IsInKernel braid f → IsInKernel braid (letter_times b f)
letter_before braid is f b over letter h = (kernel_by_parts braid is (letter_times b f)).kernel.1 at
  where
    at : (m : ℕ) → IsInKernel braid (part_of_degree m (letter_times b f))
    at zero = subst (IsInKernel braid) (sym (no_first_part (λ w. b ∷ w) (λ w. refl) f)) (nothing_in_kernel braid)
    at (suc m) =
        subst (IsInKernel braid) (sym (later_part (λ w. b ∷ w) (λ w. refl) m f))
        (in_kernel-letter_times braid is m (part_of_degree m f) b (degree-part m f) (over-part braid.letters (λ w. nat_eq (length w) m) f over) letter ((kernel_by_parts braid is f).kernel.0 h m))

-- ---- a word

letters_before : (x : ℕ) (v : List ℕ) (f : Combination) → prefixed (x ∷ v) f ≡ letter_times x (prefixed v f)
letters_before x v [] = refl
letters_before x v (t ∷ f) = ap (λ r. record { word = x ∷ v ++ t.word; coefficient = t.coefficient } ∷ r) (letters_before x v f)

nothing_behind : (f : Combination) → suffixed f [] ≡ f
nothing_behind [] = refl
nothing_behind (t ∷ f) = ap₂ (λ (w : List ℕ) (r : Combination). record { word = w; coefficient = t.coefficient } ∷ r) (append-nil t.word) (nothing_behind f)

letters_behind : (f : Combination) (x : ℕ) (u : List ℕ) → suffixed f (x ∷ u) ≡ suffixed (times_letter f x) u
letters_behind [] x u = refl
letters_behind (t ∷ f) x u = ap₂ (λ (w : List ℕ) (r : Combination). record { word = w; coefficient = t.coefficient } ∷ r) (sym (append_assoc t.word (x ∷ []) u)) (letters_behind f x u)

word_before : (braid : BraidValue) → IsBraid braid → (v : List ℕ) (f : Combination) → IsWordOver braid.letters v → IsOver braid.letters f → IsInKernel braid f → IsInKernel braid (prefixed v f)
word_before braid is [] f ov of h = subst (IsInKernel braid) (sym (nothing_in_front f)) h
word_before braid is (x ∷ v) f ov of h =
    subst (IsInKernel braid) (sym (letters_before x v f)) (letter_before braid is (prefixed v f) x (prefixed_over braid.letters v f ov.1 of) ov.0 (word_before braid is v f ov.1 of h))

word_behind : (braid : BraidValue) → IsBraid braid → (u : List ℕ) (f : Combination) → IsWordOver braid.letters u → IsOver braid.letters f → IsInKernel braid f → IsInKernel braid (suffixed f u)
word_behind braid is [] f ou of h = subst (IsInKernel braid) (sym (nothing_behind f)) h
word_behind braid is (x ∷ u) f ou of h =
    subst (IsInKernel braid) (sym (letters_behind f x u)) (word_behind braid is u (times_letter f x) ou.1 (times_letter_over braid.letters f x ou.0 of) (letter_behind braid is f x of ou.0 h))

-- ---- a combination

kernel-scalar_multiple : (braid : BraidValue) → IsBraid braid → (c : ℕ) (f : Combination) → IsInKernel braid f → IsInKernel braid (scalar_multiple braid.field c f)
kernel-scalar_multiple braid is c f h =
    (kernel_is_decided braid is 0 (scalar_multiple braid.field c f)).0 ((kernel_is_linear braid is 0).keeps_multiples c f ((kernel_is_decided braid is 0 f).1 h))

images_in_kernel : (braid : BraidValue) → IsBraid braid → (image : List ℕ → Combination) (f : Combination) → AllByRecursion (λ t. IsInKernel braid (image t.word)) f → IsInKernel braid (linear_map braid.field image f)
images_in_kernel braid is image [] all = nothing_in_kernel braid
images_in_kernel braid is image (t ∷ f) all =
    kernel-append braid is.field (scalar_multiple braid.field t.coefficient (image t.word)) (linear_map braid.field image f)
    (kernel-scalar_multiple braid is t.coefficient (image t.word) all.0) (images_in_kernel braid is image f all.1)

each_word : (braid : BraidValue) (P : List ℕ → Type 0) → ((v : List ℕ) → IsWordOver braid.letters v → P v) → (g : Combination) → IsOver braid.letters g → AllByRecursion (λ t. P t.word) g
each_word braid P h [] over = tt
each_word braid P h (t ∷ g) over = (h t.word over.0, each_word braid P h g over.1)

pub kernel_is_two_sided : KernelIsTwoSided
unfolding product
kernel_is_two_sided braid is f g of og h = record {
  first = kernel_same braid is.field (linear_map braid.field (λ u. suffixed f u) g) (product braid.field f g) (λ w. sym (product_from_behind braid.field is.field f g w))
      (images_in_kernel braid is (λ u. suffixed f u) g (each_word braid (λ u. IsInKernel braid (suffixed f u)) (λ u ou. word_behind braid is u f ou of h) g og));
  second = images_in_kernel braid is (λ v. prefixed v f) g (each_word braid (λ v. IsInKernel braid (prefixed v f)) (λ v ov. word_before braid is v f ov of h) g og);
}
