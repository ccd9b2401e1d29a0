-- The least words of an algebra, degree by degree.
use Rattle.std.proofs.Common.{◌≡◌, ◌<◌, ◌+◌, ℕ, zero, suc, List, [], ◌∷◌, ◌++◌, get_or, length, sym, ◌∙◌, ap, ap₂, subst, arith}
use Rattle.std.specs.List.{Contains, range_with_len}
use Rattle.std.proofs.lemmas.Grind.{flat_map-append}
use Rattle.std.proofs.lemmas.List.{append-nil}
use Rattle.nichols_tensor.specs.Words.{IsWordOver}
use Rattle.nichols_tensor.proofs.Entries.{from_flat_map}
use Rattle.nichols_braid.specs.Braid.{BraidValue}
use Rattle.nichols_braid.specs.Kernel.{is_in_kernel}
use Rattle.nichols_braid.specs.Least.{basis}
use Rattle.nichols_braid.proofs.Reduction.{from_basis}
use Rattle.nichols_times.specs.Products.{least_words, words_of}

range_more : (a n j : ℕ) → a + n ≡ j → range_with_len a (suc n) ≡ range_with_len a n ++ j ∷ []
range_more a zero j e = let here : a ≡ j = omega (arith, e) in ap (λ k. k ∷ []) here
range_more a (suc n) j e = ap (λ ns. a ∷ ns) (range_more (a + 1) n j (omega (arith, e)))

-- those of one degree more
pub least_more : (braid : BraidValue) (m : ℕ) (words more new : List (List ℕ)) → words ≡ words_of braid (range_with_len 0 m) → more ≡ basis is_in_kernel braid m → new ≡ words ++ more → new ≡ words_of braid (range_with_len 0 (m + 1))
least_more braid m words more new before own e =
    let next : m + 1 ≡ suc m = omega arith in
    e ∙ ap₂ (λ xs ys. xs ++ ys) before (own ∙ sym (append-nil (basis is_in_kernel braid m)))
    ∙ sym (ap (words_of braid) (ap (range_with_len 0) next ∙ range_more 0 m m (omega arith)) ∙ flat_map-append (basis is_in_kernel braid) (range_with_len 0 m) (m ∷ []))

-- each of them is over the letters
pub word_over : (braid : BraidValue) (last : ℕ) (words : List (List ℕ)) (i : ℕ) (w : List ℕ) → words ≡ least_words braid last → i < length words → w ≡ get_or words i w → IsWordOver braid.letters w
word_over braid last words i w e less at =
    let (m, there, least) = from_flat_map (basis is_in_kernel braid) w (range_with_len 0 (suc last)) (subst (λ ws. Contains ws w) e (i, less, sym at)) in
    (from_basis is_in_kernel braid m w least).1
