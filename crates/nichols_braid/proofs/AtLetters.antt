-- Lists of the values of a function at the letters in order, and the first letter that passes a test.
use Rattle.std.proofs.Common.{◌≡◌, ℕ, zero, suc, ◌+◌, ◌-◌, ◌<◌, ◌≤◌, Bool, true, false, cond, List, [], ◌∷◌, ◌++◌, map, length, take, drop, refl, sym, ◌∙◌, ap, ap₂, arith, Some, None, append_assoc, append-nil, inl, inr}
use Rattle.std.specs.Prelude.{slice_index}
use Rattle.std.specs.List.{find}
use Rattle.std.specs.Option.{option_or}
use Rattle.std.proofs.Math.Seq.{take-suc}
use Rattle.std.proofs.lemmas.Bool.{cases_lt}
use Rattle.std.proofs.lemmas.List.{map-append, get_or-drop, length-drop}
use Rattle.std.proofs.lemmas.List.Folds.{find-append}
use Rattle.nichols_tensor.specs.Words.{up_to, IsLetterOf}

pub row_taken : (xs : List ℕ) (b c : ℕ) → b + c ≤ length xs → take b xs ++ map (λ j. slice_index xs (b + (j - 1))) (up_to c) ≡ take (b + c) xs
row_taken xs b zero h = append-nil (take b xs) ∙ ap (λ m. take m xs) (let e : b ≡ b + 0 = omega arith in e)
row_taken xs b (suc c) h =
    let f : ℕ → ℕ = λ j. slice_index xs (b + (j - 1)) in
    ap (λ ys. take b xs ++ ys) (map-append f (up_to c) (suc c ∷ []))
    ∙ sym (append_assoc (take b xs) (map f (up_to c)) (f (suc c) ∷ []))
    ∙ ap (λ ys. ys ++ f (suc c) ∷ []) (row_taken xs b c (omega arith))
    ∙ ap (λ m. take (b + c) xs ++ slice_index xs m ∷ []) (let e : b + (suc c - 1) ≡ b + c = omega arith in e)
    ∙ sym (take-suc xs (b + c) 0 (omega arith))
    ∙ ap (λ m. take m xs) (let e : suc (b + c) ≡ b + suc c = omega arith in e)

pub same_row : (f g : ℕ → ℕ) (n : ℕ) → ((j : ℕ) → IsLetterOf n j → f j ≡ g j) → map f (up_to n) ≡ map g (up_to n)
same_row f g zero h = refl
same_row f g (suc n) h =
    map-append f (up_to n) (suc n ∷ [])
    ∙ ap₂ (λ xs y. xs ++ y ∷ []) (same_row f g n (λ j l. h j (l.0, omega (arith, l.1)))) (h (suc n) (omega arith, omega arith))
    ∙ sym (map-append g (up_to n) (suc n ∷ []))

-- a list whose entry at k is f at the letter after k
pub taken : (xs : List ℕ) (f : ℕ → ℕ) (n : ℕ) → n ≤ length xs → ((k : ℕ) → k < n → slice_index xs k ≡ f (suc k)) → take n xs ≡ map f (up_to n)
taken xs f zero h e = refl
taken xs f (suc n) h e =
    take-suc xs n 0 (omega arith)
    ∙ ap₂ (λ ys y. ys ++ y ∷ []) (taken xs f n (omega arith) (λ k less. e k (omega arith))) (e n (omega arith))
    ∙ sym (map-append f (up_to n) (suc n ∷ []))

-- a piece of a list, by the entries from its start on
pub piece_taken : (xs : List ℕ) (start n : ℕ) → start + n ≤ length xs → take n (drop start xs) ≡ map (λ j. slice_index xs (start + (j - 1))) (up_to n)
piece_taken xs start n h =
    taken (drop start xs) (λ j. slice_index xs (start + (j - 1))) n (rw (length-drop start xs) (omega arith))
    (λ k less. get_or-drop start xs k 0 ∙ ap (λ i. slice_index xs (start + i)) (let e : k ≡ suc k - 1 = omega arith in e))

no_letter_before : (t : ℕ → Bool) (n : ℕ) → ((d : ℕ) → 1 ≤ d → d ≤ n → t d ≡ false) → find t (up_to n) ≡ None
no_letter_before t zero h = refl
no_letter_before t (suc n) h =
    find-append t (up_to n) (suc n ∷ [])
    ∙ ap₂ option_or (no_letter_before t n (λ d l less. h d l (omega arith))) (ap (λ b. cond b (Some (suc n)) None) (h (suc n) (omega arith) (omega arith)))

-- a letter that passes, where none before it does, is what the search finds
pub first_letter : (t : ℕ → Bool) (n c : ℕ) → IsLetterOf n c → t c ≡ true → ((d : ℕ) → 1 ≤ d → d < c → t d ≡ false) → find t (up_to n) ≡ Some c
first_letter t zero c l e h = absurd (omega (arith, l.0, l.1))
first_letter t (suc n) c l e h =
    find-append t (up_to n) (suc n ∷ [])
    ∙ elim (cases_lt c (suc n)) [
      | inl less ↦ ap (λ o. option_or o (find t (suc n ∷ []))) (first_letter t n c (l.0, omega arith) e h)
      | inr last ↦
          let same : c ≡ suc n = omega (arith, l.1) in
          ap₂ option_or (no_letter_before t n (λ d low most. h d low (omega arith))) (ap (λ b. cond b (Some (suc n)) None) (ap t (sym same) ∙ e) ∙ ap Some (sym same))
    ]
