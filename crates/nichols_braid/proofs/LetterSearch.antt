-- What the searches for letters find, and the rows of the rack's table.
use Rattle.std.proofs.Common.{◌≡◌, ℕ, suc, ◌+◌, ◌-◌, ◌*◌, ◌<◌, ◌≤◌, true, false, [], ◌∷◌, take, drop, sym, ◌∙◌, ap, subst, arith, inl, inr}
use Rattle.std.specs.Prelude.{unwrap_or}
use Rattle.std.proofs.Math.Nat.{suc-mul, mul-le-mul_right}
use Rattle.std.proofs.lemmas.Bool.{cases_lt}
use Rattle.nichols_tensor.specs.Words.{IsLetterOf}
use Rattle.nichols_braid.specs.Braid.{BraidValue, IsLetter, IsBraid, act, entry}
use Rattle.nichols_braid.specs.Product.{product_of, has_product, unact}
use Rattle.nichols_braid.specs.Products.{leading}
use Rattle.nichols_braid.proofs.AtLetters.{piece_taken, first_letter}
use Rattle.nichols_braid.proofs.Onto.{unact_is_before}

-- the letter that a's map sends to j is the one that the search finds
pub letter_sent : (braid : BraidValue) → IsBraid braid → (a j c : ℕ) → IsLetter braid a → IsLetter braid j → IsLetter braid c → act braid a c ≡ j → c ≡ unact braid a j
letter_sent braid is a j c la lj lc e =
    let (l, sent) = unact_is_before braid is.rack a la j lj in
    is.rack.injective a c (unact braid a j) la lc l (e ∙ sym sent)

-- where no letter before the last is sent to j, the last is
pub last_sent : (braid : BraidValue) → IsBraid braid → (a j n c : ℕ) → IsLetter braid a → IsLetter braid j → n ≡ braid.letters → n ≤ c → ((d : ℕ) → 1 ≤ d → d < c → act braid a d ≡ j → ⊥) → n ≡ unact braid a j
last_sent braid is a j n c la lj size past h =
    let (l, sent) = unact_is_before braid is.rack a la j lj in
    elim (cases_lt (unact braid a j) c) [
      | inl less ↦ absurd (h (unact braid a j) l.0 less sent)
      | inr more ↦ omega (arith, more, l.1, size, past)
    ]

-- the first letter with a's map
pub leading_found : (braid : BraidValue) (a b : ℕ) → IsLetter braid b → has_product braid (product_of braid (a ∷ [])) (b ∷ []) ≡ true →
    ((d : ℕ) → 1 ≤ d → d < b → has_product braid (product_of braid (a ∷ [])) (d ∷ []) ≡ false) → b ≡ leading braid a
unfolding leading
leading_found braid a b l e none =
    sym (ap (λ o. unwrap_or o 0) (first_letter (λ d. has_product braid (product_of braid (a ∷ [])) (d ∷ [])) braid.letters b l e none))

row_fits : (n a : ℕ) → IsLetterOf n a → (a - 1) * n + n ≤ n * n
row_fits n a l =
    let one : suc (a - 1) ≡ a = omega (arith, l.0) in
    let more : suc (a - 1) * n ≡ (a - 1) * n + n = suc-mul (a - 1) n in
    let most : suc (a - 1) * n ≤ n * n = mul-le-mul_right n (rw one l.1) in
    rw (← more) most

-- a row of the rack's table is the product of its letter
pub row_taken_is : (braid : BraidValue) → IsBraid braid → (a start n : ℕ) → IsLetter braid a → n ≡ braid.letters → start ≡ (a - 1) * n → take n (drop start braid.rack) ≡ product_of braid (a ∷ [])
unfolding product_of entry
row_taken_is braid is a start n la size at =
    subst (λ k. take k (drop start braid.rack) ≡ product_of braid (a ∷ [])) (sym size)
    (subst (λ k. take braid.letters (drop k braid.rack) ≡ product_of braid (a ∷ [])) (sym (at ∙ ap (λ k. (a - 1) * k) size))
    (piece_taken braid.rack ((a - 1) * braid.letters) braid.letters (rw is.rack_size (row_fits braid.letters a la))))
