-- Texts that are one word, and texts that aren't.
use Rattle.std.proofs.Common.{◌≡◌, ◌≢◌, ◌≤◌, ◌<◌, ℕ, false, cond, List, [], ◌∷◌, drop, length, map, None, Some, Ok, Err, sym, ◌∙◌, ap, subst, refl, arith, length-drop}
use Rattle.std.proofs.Math.Seq.{drop-length}
use Rattle.nichols_braid.specs.Order.{IsOrder, rank_of}
use Rattle.nichols_tensor.specs.Words.{IsWordOver}
use Rattle.nichols_expression.specs.Grammar.{IsWordText}
use Rattle.nichols_expression.specs.Reader.{Step, got, is_empty, word_at}
use Rattle.nichols_expression.specs.Steps.{IsReadTo, IsStoppedBy}
use Rattle.nichols_expression.specs.WholeWord.{read_whole}
use Rattle.nichols_expression.specs.declared.placed_fault.PlacedFault.{PlacedFault}
use Rattle.nichols_expression.proofs.Sound.{Reads, word_sound}
use Rattle.nichols_expression.proofs.Values.{terms_over_ranks, word_over}

pub whole_is : (n : ℕ) (text w : List ℕ) (end : ℕ) → IsReadTo text 0 (word_at n (drop 0 text)) w end → end ≡ length text → read_whole (word_at n text) ≡ Some w
whole_is n text w end r e = ap (λ (s : Step (List ℕ)). read_whole s) (r.2 ∙ ap (λ (left : List ℕ). got w left) (ap (λ k. drop k text) e ∙ drop-length text))

more_left : (left : List ℕ) → 0 < length left → is_empty left ≡ false
more_left [] less = absurd (omega (arith, less))
more_left (byte ∷ rest) less = refl

pub longer_is : (n : ℕ) (text w : List ℕ) (end : ℕ) → IsReadTo text 0 (word_at n (drop 0 text)) w end → end ≢ length text → read_whole (word_at n text) ≡ None
longer_is n text w end r e =
    let more : 0 < length (drop end text) = subst (λ k. 0 < k) (sym (length-drop end text)) (let le : end ≤ length text = r.1 in omega (arith, le, e)) in
    ap (λ (s : Step (List ℕ)). read_whole s) r.2 ∙ ap (λ b. cond b (Some w) None) (more_left (drop end text) more)

pub stopped_is : (n : ℕ) (text : List ℕ) (stop : PlacedFault) → IsStoppedBy text (word_at n (drop 0 text)) stop → read_whole (word_at n text) ≡ None
stopped_is n text stop s = let (at, within, place, read) = s in ap (λ (s : Step (List ℕ)). read_whole s) read

pub read_over : (n : ℕ) (text w : List ℕ) (end : ℕ) → IsReadTo text 0 (word_at n (drop 0 text)) w end → IsWordOver n w
read_over n text w end r = at (word_at n text) (word_sound n text) r.2
  where
    at : (s : Step (List ℕ)) → Reads (IsWordText n) text s → s ≡ got w (drop end text) → IsWordOver n w
    at (Ok q) h e = let same : q.value ≡ w = cc in subst (IsWordOver n) same (word_over n h.0 q.value h.2)
    at (Err f) h e = absurd cc

pub ranks_over : (n : ℕ) (order w : List ℕ) → IsOrder n order → IsWordOver n w → IsWordOver n (map (rank_of order) w)
ranks_over n order w is over = (terms_over_ranks n order is (record { word = w; coefficient = 1 } ∷ []) (over, tt)).0
