-- Products of words: crossings, lifts and derivatives keep them.
use Rattle.std.proofs.Common.{◌≡◌, ℕ, zero, suc, Bool, true, false, List, [], ◌∷◌, ◌++◌, map, refl, sym, ◌∙◌, ap, nat_eq}
use Rattle.std.specs.Prelude.{if◌then◌else◌}
use Rattle.std.specs.List.{AllByRecursion}
use Rattle.std.proofs.lemmas.Bool.{eqb-true}
use Rattle.nichols_tensor.specs.Combination.{Term}
use Rattle.nichols_tensor.specs.Words.{up_to, IsWordOver}
use Rattle.nichols_tensor.proofs.Letters.{from_up_to}
use Rattle.nichols_tensor.proofs.Tests.{map_same}
use Rattle.nichols_braid.specs.Braid.{BraidValue, IsLetter, IsRack, act}
use Rattle.nichols_braid.specs.Crossing.{cross, crossed_term}
use Rattle.nichols_braid.specs.Lift.{lift, bubble}
use Rattle.nichols_braid.specs.Symmetrizer.{lifts}
use Rattle.nichols_braid.specs.Derivation.{scalars_met, derived_word}
use Rattle.nichols_braid.specs.Product.{product_image, product_of}
use Rattle.nichols_braid.proofs.Degrees.{AllWords, words-append, words-prefixed}

pub moved_letter : (braid : BraidValue) → IsRack braid → (w : List ℕ) → IsWordOver braid.letters w → (j : ℕ) → IsLetter braid j → IsLetter braid (product_image braid w j)
moved_letter braid rack [] over j l = l
moved_letter braid rack (x ∷ w) over j l = rack.closed x (product_image braid w j) over.0 (moved_letter braid rack w over.1 j l)

pub product_image-append : (braid : BraidValue) (v w : List ℕ) (j : ℕ) → product_image braid (v ++ w) j ≡ product_image braid v (product_image braid w j)
product_image-append braid [] w j = refl
product_image-append braid (x ∷ v) w j = ap (act braid x) (product_image-append braid v w j)

-- two words send each letter to the same one
abbrev pub MoveAlike : BraidValue → List ℕ → List ℕ → Type 0
MoveAlike braid v w = (j : ℕ) → IsLetter braid j → product_image braid v j ≡ product_image braid w j

pub same_product : (braid : BraidValue) (v w : List ℕ) → MoveAlike braid v w → product_of braid v ≡ product_of braid w
unfolding product_of
same_product braid v w h = map_same (product_image braid v) (product_image braid w) (up_to braid.letters) (λ j i. h j (from_up_to braid.letters j i))

pub alike_before : (braid : BraidValue) → IsRack braid → (v w u : List ℕ) → IsWordOver braid.letters u → MoveAlike braid v w → MoveAlike braid (v ++ u) (w ++ u)
alike_before braid rack v w u over h j l = product_image-append braid v u j ∙ h (product_image braid u j) (moved_letter braid rack u over j l) ∙ sym (product_image-append braid w u j)

-- ---- crossings

-- by the rack's rule `(a ▷ b) ▷ (a ▷ j) = a ▷ (b ▷ j)`
cross_alike : (braid : BraidValue) → IsRack braid → (i : ℕ) (w : List ℕ) → IsWordOver braid.letters w → MoveAlike braid (cross braid i w) w
cross_alike braid rack zero w over j l = refl
cross_alike braid rack (suc zero) [] over j l = refl
cross_alike braid rack (suc zero) (a ∷ []) over j l = refl
cross_alike braid rack (suc zero) (a ∷ b ∷ w) over j l = sym (rack.distributive a b (product_image braid w j) over.0 over.1.0 (moved_letter braid rack w over.1.1 j l))
cross_alike braid rack (suc (suc i)) [] over j l = refl
cross_alike braid rack (suc (suc i)) (a ∷ w) over j l = ap (act braid a) (cross_alike braid rack (suc i) w over.1 j l)

pub cross_over : (braid : BraidValue) → IsRack braid → (i : ℕ) (w : List ℕ) → IsWordOver braid.letters w → IsWordOver braid.letters (cross braid i w)
cross_over braid rack zero w over = over
cross_over braid rack (suc zero) [] over = over
cross_over braid rack (suc zero) (a ∷ []) over = over
cross_over braid rack (suc zero) (a ∷ b ∷ w) over = (rack.closed a b over.0 over.1.0, (over.0, over.1.1))
cross_over braid rack (suc (suc i)) [] over = over
cross_over braid rack (suc (suc i)) (a ∷ w) over = (over.0, cross_over braid rack (suc i) w over.1)

pub cross_product : (braid : BraidValue) → IsRack braid → (i : ℕ) (w : List ℕ) → IsWordOver braid.letters w → product_of braid (cross braid i w) ≡ product_of braid w
cross_product braid rack i w over = same_product braid (cross braid i w) w (cross_alike braid rack i w over)

pub crossed_product : (braid : BraidValue) → IsRack braid → (places : List ℕ) (w : List ℕ) (c : ℕ) → IsWordOver braid.letters w → product_of braid (crossed_term braid places (record { word = w; coefficient = c })).word ≡ product_of braid w
crossed_product braid rack [] w c over = refl
crossed_product braid rack (i ∷ places) w c over = crossed_product braid rack places (cross braid i w) _ (cross_over braid rack i w over) ∙ cross_product braid rack i w over

all_mapped : {X Y : Type 0} (P : Y → Type 0) (f : X → Y) (xs : List X) → ((x : X) → P (f x)) → AllByRecursion P (map f xs)
all_mapped P f [] h = tt
all_mapped P f (x ∷ xs) h = (h x, all_mapped P f xs h)

pub lifts_product : (braid : BraidValue) → IsRack braid → (w : List ℕ) → IsWordOver braid.letters w → AllWords (λ v. product_of braid v ≡ product_of braid w) (lifts braid w)
unfolding lift lifts
lifts_product braid rack w over = all_mapped (λ (t : Term). product_of braid t.word ≡ product_of braid w) (λ ends. lift braid ends w) _ (λ ends. crossed_product braid rack (bubble ends) w 1 over)

-- ---- derivatives

-- a letter that acts on a whole word acts on its product
moved_acted : (braid : BraidValue) → IsRack braid → (a : ℕ) → IsLetter braid a → (w : List ℕ) → IsWordOver braid.letters w → (j : ℕ) → IsLetter braid j → product_image braid (map (act braid a) w) (act braid a j) ≡ act braid a (product_image braid w j)
moved_acted braid rack a la [] over j l = refl
moved_acted braid rack a la (x ∷ w) over j l =
    ap (act braid (act braid a x)) (moved_acted braid rack a la w over.1 j l) ∙ sym (rack.distributive a x (product_image braid w j) la over.0 (moved_letter braid rack w over.1 j l))

-- each word of the derivative by a, with a behind, sends the letters where the word does
pub derived_alike : (braid : BraidValue) → IsRack braid → (a : ℕ) → IsLetter braid a → (w : List ℕ) → IsWordOver braid.letters w → AllWords (λ v. MoveAlike braid (v ++ a ∷ []) w) (derived_word braid a w)
unfolding derived_word
derived_alike braid rack a la [] over = tt
derived_alike braid rack a la (x ∷ w) over =
    words-append (λ v. MoveAlike braid (v ++ a ∷ []) (x ∷ w)) (if nat_eq a x then passed ∷ [] else []) (map (λ t. record { word = x ∷ t.word; coefficient = t.coefficient }) (derived_word braid a w))
    (first (nat_eq a x) (λ e. eqb-true a x e))
    (words-prefixed (λ v. MoveAlike braid (v ++ a ∷ []) w) (λ v. MoveAlike braid (v ++ a ∷ []) (x ∷ w)) x (λ v h j l. ap (act braid x) (h j l)) (derived_word braid a w) (derived_alike braid rack a la w over.1))
  where
    passed : Term
    passed = record { word = map (act braid a) w; coefficient = scalars_met braid a w }

    first : (b : Bool) → (b ≡ true → a ≡ x) → AllWords (λ v. MoveAlike braid (v ++ a ∷ []) (x ∷ w)) (if b then passed ∷ [] else [])
    first true e = ((λ j l. product_image-append braid (map (act braid a) w) (a ∷ []) j ∙ moved_acted braid rack a la w over.1 j l ∙ ap (λ y. act braid y (product_image braid w j)) (e refl)), tt)
    first false e = tt
