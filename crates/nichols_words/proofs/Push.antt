-- A letter put behind an inline word, and an inline word cut off.
use Rattle.std.proofs.Common.{◌≡◌, ℕ, ◌+◌, ◌-◌, ◌<◌, ◌≤◌, List, [], ◌∷◌, ◌++◌, length, take, drop, set, refl, arith, length-set, ◌∙◌, ap, sym, subst}
use Rattle.std.proofs.lemmas.Grind.{take-set_at}
use Rattle.std.specs.Prelude.{replicate}
use Rattle.std.proofs.lemmas.List.{drop-replicate, drop-set-lt, drop-drop, append-nil, length-replicate, length-append, length-take-le, length-drop, take-take}
use Rattle.std.proofs.Math.Seq.{drop-append_seam}
use Rattle.std.proofs.Math.ListN.{drop_of_length-le}
use Rattle.std.proofs.lemmas.Slice.{take-put_mid_below}
use borrow.Rule.Slice.PartMut.{put_mid, post_of}
use Rattle.nichols_tensor.specs.declared.TheConstants.{LETTER_LIMIT, WORD_LIMIT}
use Rattle.nichols_tensor.specs.Inline.{IsInline}
use Rattle.nichols_tensor.specs.Words.{IsLetterOf, IsWordOver}
use Rattle.nichols_tensor.proofs.Over.{word_over-append, word_over-take}

pub inline-push : (n : ℕ) (xs : List ℕ) (x : ℕ) → IsInline WORD_LIMIT (IsWordOver LETTER_LIMIT) n xs → n < WORD_LIMIT → IsLetterOf LETTER_LIMIT x → IsInline WORD_LIMIT (IsWordOver LETTER_LIMIT) (n + 1) (set xs n x)
inline-push n xs x h room letter = record {
  short = omega arith;
  whole = length-set xs n x ∙ h.whole;
  padded = drop-set-lt (n + 1) xs n x (omega arith) ∙ sym (drop-drop 1 n xs) ∙ ap (drop 1) h.padded ∙ drop-replicate 1 (WORD_LIMIT - n) 0 ∙ ap (λ k. replicate k 0) less;
  holds = subst (IsWordOver LETTER_LIMIT) (sym (take-set_at xs n (n + 1) x refl inside)) (word_over-append LETTER_LIMIT (take n xs) (x ∷ []) h.holds (letter, tt));
}
  where
    inside : n < length xs
    inside = omega (arith, h.whole)

    less : WORD_LIMIT - n - 1 ≡ WORD_LIMIT - (n + 1)
    less = omega arith

-- the array with zeros from place k on
pub inline-prefix : (n k m : ℕ) (xs ys : List ℕ) → IsInline WORD_LIMIT (IsWordOver LETTER_LIMIT) n xs → k ≤ n → m ≡ WORD_LIMIT - k → ys ≡ replicate m 0 → IsInline WORD_LIMIT (IsWordOver LETTER_LIMIT) k (put_mid k (WORD_LIMIT - k) xs ys)
inline-prefix n k m xs ys h few size zeros = record {
  short = omega (arith, h.short);
  whole = ap length shape ∙ length-append (take k xs) ys ∙ omega (arith, kept, long, h.short);
  padded = ap (drop k) shape ∙ ap (λ i. drop i (take k xs ++ ys)) (sym kept) ∙ drop-append_seam (take k xs) ys ∙ zeros ∙ ap (λ i. replicate i 0) size;
  holds = subst (IsWordOver LETTER_LIMIT) (sym front) (word_over-take LETTER_LIMIT k (take n xs) h.holds);
}
  where
    within : k ≤ length xs
    within = omega (arith, h.short, h.whole)

    kept : length (take k xs) ≡ k
    kept = length-take-le k xs within

    long : length ys ≡ WORD_LIMIT - k
    long = ap length zeros ∙ length-replicate m 0 ∙ size

    gone : post_of k (WORD_LIMIT - k) xs ≡ []
    gone = drop_of_length-le (drop k xs) (rw (length-drop k xs) (omega (arith, h.whole)))

    shape : put_mid k (WORD_LIMIT - k) xs ys ≡ take k xs ++ ys
    shape = ap (λ r. take k xs ++ (ys ++ r)) gone ∙ ap (λ r. take k xs ++ r) (append-nil ys)

    front : take k (put_mid k (WORD_LIMIT - k) xs ys) ≡ take k (take n xs)
    front = take-put_mid_below k (WORD_LIMIT - k) xs ys k (omega arith) within ∙ sym (take-take k n xs few)
