-- The longest word of a combination, term by term.
use Rattle.std.proofs.Common.{◌≡◌, ℕ, ◌+◌, ◌<◌, [], ◌∷◌, ◌++◌, length, get_or, take, max, sym, ◌∙◌, ap, ap₂, arith}
use Rattle.std.proofs.lemmas.List.{take_more}
use Rattle.nichols_tensor.specs.Combination.{Term, Combination}
use Rattle.nichols_tensor.specs.Parts.{longest}

longest-push : (f : Combination) (t : Term) → longest (f ++ t ∷ []) ≡ max (longest f) (length t.word)
unfolding longest
longest-push [] t = omega arith
longest-push (u ∷ f) t = ap (max (length u.word)) (longest-push f t) ∙ (let e : max (length u.word) (max (longest f) (length t.word)) ≡ max (max (length u.word) (longest f)) (length t.word) = omega arith in e)

pub longest_next : (f : Combination) (i : ℕ) (t : Term) (most n : ℕ) → i < length f → t ≡ get_or f i t → most ≡ longest (take i f) → n ≡ length t.word → max most n ≡ longest (take (i + 1) f)
longest_next f i t most n less at most_is n_is =
    ap₂ max most_is n_is ∙ sym (longest-push (take i f) t) ∙ ap longest (ap (λ u. take i f ++ u ∷ []) at ∙ sym (take_more f i t less))
