-- Words with a letter behind.
use Rattle.std.proofs.Common.{◌≡◌, ℕ, suc, ◌+◌, ◌*◌, ◌<◌, List, [], ◌∷◌, ◌++◌, length, map, take, get_or, refl, sym, ◌∙◌, ap, ap₂, arith}
use Rattle.std.proofs.lemmas.List.{take_more, append-nil, length-append, length-map}
use Rattle.std.proofs.lemmas.Grind.{flat_map-append}
use Rattle.nichols_tensor.specs.Words.{up_to, IsLetterOf, IsWordOver, with_letters}
use Rattle.nichols_tensor.proofs.Letters.{up_to_length}
use Rattle.nichols_tensor.proofs.Over.{word_over-append}

pub pushed_length : (w : List ℕ) (b : ℕ) → length (w ++ b ∷ []) ≡ suc (length w)
pushed_length [] b = refl
pushed_length (x ∷ w) b = ap suc (pushed_length w b)

pub pushed_over : (n : ℕ) (w : List ℕ) (b : ℕ) → IsWordOver n w → IsLetterOf n b → IsWordOver n (w ++ b ∷ [])
pushed_over n w b h l = word_over-append n w (b ∷ []) h (l, tt)

pub over_pushed : (n : ℕ) (w : List ℕ) (b : ℕ) → IsWordOver n (w ++ b ∷ []) → IsWordOver n w × IsLetterOf n b
over_pushed n [] b h = (tt, h.0)
over_pushed n (x ∷ w) b h = let rest : IsWordOver n w × IsLetterOf n b = over_pushed n w b h.1 in ((h.0, rest.0), rest.1)

-- each word but the empty one is such a word
pub last_letter : (x : ℕ) (w : List ℕ) → (u : List ℕ) × (b : ℕ) × (x ∷ w ≡ u ++ b ∷ [])
last_letter x [] = ([], x, refl)
last_letter x (y ∷ w) = let (u, b, e) = last_letter y w in (x ∷ u, b, ap (λ v. x ∷ v) e)

-- ---- the words of a list with each letter behind

-- one word more
pub with_letters_more : (n : ℕ) (ws : List (List ℕ)) (i : ℕ) (w : List ℕ) (out next : List (List ℕ)) → i < length ws → w ≡ get_or ws i w → out ≡ with_letters n (take i ws) → next ≡ out ++ map (λ b. w ++ b ∷ []) (up_to n) → next ≡ with_letters n (take (i + 1) ws)
with_letters_more n ws i w out next within at before step =
    step ∙ ap₂ (λ f g. f ++ g) before (sym (append-nil (map (λ b. w ++ b ∷ []) (up_to n))))
    ∙ sym (flat_map-append (λ u. map (λ b. u ++ b ∷ []) (up_to n)) (take i ws) (w ∷ []))
    ∙ ap (with_letters n) (ap (λ v. take i ws ++ v ∷ []) at ∙ sym (take_more ws i w within))

pub with_letters_length : (n : ℕ) (us : List (List ℕ)) → length (with_letters n us) ≡ n * length us
with_letters_length n [] = let e : ◌≡◌ {A = ℕ} 0 (n * 0) = omega arith in e
with_letters_length n (u ∷ us) =
    let e : n + n * length us ≡ n * suc (length us) = omega arith in
    length-append (map (λ b. u ++ b ∷ []) (up_to n)) (with_letters n us) ∙ ap₂ (λ a b. a + b) (length-map (up_to n) (λ b. u ++ b ∷ []) ∙ up_to_length n) (with_letters_length n us) ∙ e
