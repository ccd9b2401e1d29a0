-- Shares of combinations, and their answers joined.
use Rattle.std.proofs.Common.{◌≡◌, ℕ, zero, suc, ◌+◌, ◌-◌, ◌<◌, ◌≤◌, List, [], ◌∷◌, ◌++◌, drop, length, get_or, map, take, refl, sym, ◌∙◌, ap, subst, arith, append_assoc}
use Rattle.std.specs.Prelude.{IfOk, Ok, Result, Vec}
use Rattle.std.specs.Global.{Global}
use Rattle.std.proofs.lemmas.List.{drop-drop, get_or-drop, length-drop, map-append, nil_from_length, take-append-drop, take_more}
use Rattle.nichols_tensor.specs.Combination.{Combination}
use Rattle.nichols_braid.specs.Braid.{BraidValue}
use Rattle.nichols_memo.specs.Seats.{IsOf}
use Rattle.nichols_memo.specs.declared.memo.Memo.{Memo}
use Rattle.nichols_reduce.specs.Normal.{normal_of}
use Rattle.nichols_reduce.specs.Shares.{AreAnswers, AreShares, IsAnswer}
use Rattle.nichols_reduce.specs.declared.answer.Normal.{Normal}
use Rattle.nichols_reduce.specs.declared.many.Share.{Share}

-- one share more
pub shares_more : (memo : Memo) (a : ℕ) (ss : List Share) (b : ℕ) (s : Share) → AreShares memo a ss b → IsOf memo s.seat → s.start ≡ b → b ≤ s.end → AreShares memo a (ss ++ s ∷ []) s.end
shares_more memo a [] b s h seat start less = (seat, start ∙ sym h, omega (arith, h, less), refl)
shares_more memo a (t ∷ ss) b s h seat start less = (h.0, h.1, h.2, shares_more memo t.end ss b s h.3 seat start less)

-- shares go up
pub shares_rise : (memo : Memo) (a : ℕ) (ss : List Share) (b : ℕ) → AreShares memo a ss b → a ≤ b
shares_rise memo a [] b h = omega (arith, h)
shares_rise memo a (s ∷ ss) b h = let rest : s.end ≤ b = shares_rise memo s.end ss b h.3 in omega (arith, h.2, rest)

-- what is known of each share
pub record IsShare (memo : Memo) (b : ℕ) (s : Share) : Type 0 where
  pub seat : IsOf memo s.seat
  pub order : s.start ≤ s.end
  pub within : s.end ≤ b

pub share_at : (memo : Memo) (a : ℕ) (ss : List Share) (b : ℕ) (i : ℕ) (s : Share) → AreShares memo a ss b → i < length ss → s ≡ get_or ss i s → IsShare memo b s
share_at memo a [] b i s h less at = absurd (omega arith)
share_at memo a (t ∷ ss) b zero s h less at =
    subst (IsShare memo b) (sym at) (record { seat = h.0; order = omega (arith, h.1, h.2); within = shares_rise memo t.end ss b h.3 })
share_at memo a (t ∷ ss) b (suc i) s h less at = share_at memo t.end ss b i s h.3 (omega arith) at

-- one answer more
pub answers_more : (n : Combination → Normal) (fs : List Combination) (start k : ℕ) (ns new : List Normal) (f : Combination) (r : Normal) → start ≤ k → k < length fs → f ≡ get_or fs k f → ns ≡ map n (take (k - start) (drop start fs)) →
    new ≡ ns ++ r ∷ [] → r ≡ n f → new ≡ map n (take (k + 1 - start) (drop start fs))
answers_more n fs start k ns new f r from less at before e own =
    let place : start + (k - start) ≡ k = omega (arith, from) in
    let next : k + 1 - start ≡ k - start + 1 = omega (arith, from) in
    let here : get_or (drop start fs) (k - start) f ≡ f = get_or-drop start fs (k - start) f ∙ ap (λ i. get_or fs i f) place ∙ sym at in
    let more : take (k + 1 - start) (drop start fs) ≡ take (k - start) (drop start fs) ++ f ∷ [] =
    ap (λ i. take i (drop start fs)) next ∙ take_more (drop start fs) (k - start) f (omega (arith, length-drop start fs, from, less)) ∙ ap (λ g. take (k - start) (drop start fs) ++ g ∷ []) here in
    e ∙ ap (λ ms. ms ++ r ∷ []) before ∙ ap (λ m. map n (take (k - start) (drop start fs)) ++ m ∷ []) own ∙ sym (ap (map n) more ∙ map-append n (take (k - start) (drop start fs)) (f ∷ []))

-- the answers of all shares, part by part
pub parts_are : {E : Type 0} (braid : BraidValue) (last : ℕ) (memo : Memo) (fs : List Combination) (a : ℕ) (ss : List Share) (ps : List (Result (Vec Normal Global) E)) → AreShares memo a ss (length fs) → length ps ≡ length ss →
    ((i : ℕ) (p : Result (Vec Normal Global) E) (s : Share) → i < length ss → IfOk (get_or ps i p) (λ ns. IsAnswer braid last fs (get_or ss i s) ns.items)) → AreAnswers braid last (drop a fs) ps
parts_are braid last memo fs a [] [] h e each = nil_from_length (drop a fs) (omega (arith, length-drop a fs, h))
parts_are braid last memo fs a [] (p ∷ ps) h e each = absurd (omega arith)
parts_are braid last memo fs a (s ∷ ss) [] h e each = absurd (omega arith)
parts_are braid last memo fs a (s ∷ ss) (p ∷ ps) h e each =
    let place : a + (s.end - s.start) ≡ s.end = omega (arith, h.1, h.2) in (
      s.end - s.start,
      subst (λ x. IfOk p (λ ns. ns.items ≡ map (normal_of braid last) (take (s.end - s.start) (drop x fs)))) h.1 (each 0 p s (omega arith)),
      subst (λ gs. AreAnswers braid last gs ps) (sym (drop-drop (s.end - s.start) a fs ∙ ap (λ i. drop i fs) place))
          (parts_are braid last memo fs s.end ss ps h.3 (omega arith) (λ i q t less. each (suc i) q t (omega arith))),
    )

-- what is left after a part
pub record AreLeft {E : Type 0} (braid : BraidValue) (last : ℕ) (fs : List Combination) (parts : List (Result (Vec Normal Global) E)) (answers : List Normal) : Type 0 where
  pub left : List Combination
  pub others : AreAnswers braid last left parts
  pub whole : answers ++ map (normal_of braid last) left ≡ map (normal_of braid last) fs

-- one part more
pub left_more : {E : Type 0} (braid : BraidValue) (last : ℕ) (fs : List Combination) (parts rest : List (Result (Vec Normal Global) E)) (part : Result (Vec Normal Global) E) (v : Vec Normal Global) (answers new : List Normal) → parts ≡ part ∷ rest → part ≡ Ok v →
    new ≡ answers ++ v.items → AreLeft braid last fs parts answers → AreLeft braid last fs rest new
left_more braid last fs parts rest part v answers new parts_are part_is more h =
    let n : Combination → Normal = normal_of braid last in
    let (k, own, others) = subst (λ p. AreAnswers braid last h.left (p ∷ rest)) part_is (subst (AreAnswers braid last h.left) parts_are h.others) in
    record {
      left = drop k h.left;
      others = others;
      whole =
          ap (λ ns. ns ++ map n (drop k h.left)) (more ∙ ap (λ ns. answers ++ ns) own)
          ∙ append_assoc answers (map n (take k h.left)) (map n (drop k h.left))
          ∙ ap (λ ns. answers ++ ns) (sym (map-append n (take k h.left) (drop k h.left)) ∙ ap (map n) (take-append-drop k h.left))
          ∙ h.whole;
    }
