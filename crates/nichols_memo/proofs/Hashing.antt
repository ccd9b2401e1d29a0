-- The hash of a word, one letter more.
use Rattle.std.proofs.Common.{◌≡◌, ℕ, ◌+◌, ◌*◌, ◌^◌, ◌%◌, ◌<◌, List, [], ◌∷◌, ◌++◌, length, get_or, take, refl, sym, ap, ◌∙◌, arith}
use Rattle.std.proofs.lemmas.List.{take_more}
use Rattle.std.proofs.Math.Nat.{mod-add-mod}
use Rattle.nichols_memo.specs.Hash.{hash_from, hash_of}

hash_snoc : (h : ℕ) (w : List ℕ) (b : ℕ) → hash_from h (w ++ b ∷ []) ≡ (31 * hash_from h w + b) % 2 ^ 32
unfolding hash_from
hash_snoc h [] b = refl
hash_snoc h (a ∷ w) b = hash_snoc ((31 * h + a) % 2 ^ 32) w b

pub no_letters : 0 ≡ hash_of []
unfolding hash_from
no_letters = refl

pub next_hash : (xs : List ℕ) (i h b d : ℕ) → i < length xs → b ≡ get_or xs i d → h ≡ hash_of (take i xs) → (h * 31 % 2 ^ 32 + b) % 2 ^ 32 ≡ hash_of (take (i + 1) xs)
next_hash xs i h b d inside is before =
    let swapped : h * 31 ≡ 31 * h = omega arith in
    mod-add-mod (h * 31) (2 ^ 32) b ∙ ap (λ n. (n + b) % 2 ^ 32) (swapped ∙ ap (λ n. 31 * n) before)
    ∙ sym (hash_snoc 0 (take i xs) b) ∙ ap hash_of (ap (λ c. take i xs ++ c ∷ []) is ∙ sym (take_more xs i d inside))
