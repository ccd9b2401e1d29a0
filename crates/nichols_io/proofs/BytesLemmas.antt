-- Lemmas on bytes that are told or not.
use Rattle.std.proofs.Common.{◌≡◌, ℕ, ◌+◌, ◌<◌, List, [], ◌++◌, length, take, drop, sym, ◌∙◌, ap, subst, append_assoc, arith, take-append-drop, length-append}
use Rattle.std.specs.Prelude.{Option, None, Some}
use Rattle.std.proofs.Math.Seq.{take-append_seam}
use Rattle.std.proofs.KnownBytes.{Appends-trans, Appends-kept}
use Rattle.std.specs.Io.KnownBytes.{Keeps, Appends}
use Rattle.nichols_io.specs.Bytes.{TellsAlike, AppendsProperPrefix}

pub TellsAlike-trans : (a b c : Option (List ℕ)) → TellsAlike a b → TellsAlike b c → TellsAlike a c
TellsAlike-trans None None c p q = q
TellsAlike-trans None (Some y) c p q = absurd p
TellsAlike-trans (Some x) None c p q = absurd p
TellsAlike-trans (Some x) (Some y) c p q = q

-- a piece of which a front was taken, and the rest that is left to write
abbrev pub IsUnderWay : Option (List ℕ) → Option (List ℕ) → List ℕ → List ℕ → Type 0
IsUnderWay before after piece rest = (done : List ℕ) × (piece ≡ done ++ rest) × Appends before after done

-- the next write took the first k bytes of the rest
pub next_write : (a b c : Option (List ℕ)) (piece rest left : List ℕ) (k : ℕ) → IsUnderWay a b piece rest → Appends b c (take k rest) → left ≡ drop k rest → IsUnderWay a c piece left
next_write a b c piece rest left k h q e =
    let cut : rest ≡ take k rest ++ left = sym (take-append-drop k rest) ∙ ap (λ n. take k rest ++ n) (sym e) in
    (h.0 ++ take k rest, h.1 ∙ ap (λ n. h.0 ++ n) cut ∙ sym (append_assoc h.0 (take k rest) left), Appends-trans a b c h.0 (take k rest) h.2 q)

-- only a piece that isn't empty leaves a rest that isn't
pub no_rest : (a b : Option (List ℕ)) (piece rest : List ℕ) → IsUnderWay a b piece rest → 0 < length rest → piece ≡ [] → ⊥
no_rest a b piece rest h some none = omega (arith, ap length none, ap length h.1, length-append h.0 rest)

-- the next write failed
pub failed_write : (a b c : Option (List ℕ)) (piece rest : List ℕ) → IsUnderWay a b piece rest → 0 < length rest → Keeps b c → AppendsProperPrefix a c piece
failed_write a b c piece rest h some q =
    let cut : length piece ≡ length h.0 + length rest = ap length h.1 ∙ length-append h.0 rest in
    let front : take (length h.0) piece ≡ h.0 = ap (take (length h.0)) h.1 ∙ take-append_seam h.0 rest in
    (length h.0, omega (arith, cut), subst (Appends a c) (sym front) (Appends-kept a b c h.0 h.2 q))
