-- One byte further in runs of spaces and digits.
use Rattle.std.proofs.Common.{◌≡◌, ◌≢◌, ℕ, suc, ◌+◌, ◌-◌, ◌<◌, ◌≤◌, true, false, cond, List, [], ◌∷◌, ◌++◌, length, get_or, take, drop, sym, ◌∙◌, ap, nat_eq, arith}
use Rattle.std.proofs.Math.Seq.{drop-cons, take-append_seam}
use Rattle.std.proofs.lemmas.Bool.Decides.{nat_tests, Decides-eqb}
use Rattle.std.specs.Char.{is_ascii_digit}
use Rattle.std.proofs.lemmas.List.{length-append, length-drop, drop_all}
use Rattle.nichols_expression.proofs.Runs.{run_split}
use Rattle.nichols_expression.specs.Bytes.{space}
use Rattle.nichols_expression.specs.Reader.{run_at, past_run, past_spaces}
use Rattle.nichols_expression.specs.Steps.{starts_with, starts_with_digit}
use Rattle.nichols_expression.proofs.Fronts.{Begins, Avoids}

pub byte_first : (text : List ℕ) (at d : ℕ) → at < length text → drop at text ≡ get_or text at d ∷ drop (at + 1) text
byte_first text at d h = drop-cons text at d h ∙ ap (λ n. get_or text at d ∷ drop n text) next
  where
    next : suc at ≡ at + 1
    next = omega arith

pub space_passed : (text : List ℕ) (at d : ℕ) → at < length text → get_or text at d ≡ space → past_spaces (drop (at + 1) text) ≡ past_spaces (drop at text)
unfolding past_spaces
space_passed text at d h e =
    sym (ap past_spaces (byte_first text at d h) ∙ ap (λ b. cond (nat_eq b space) (past_spaces (drop (at + 1) text)) (b ∷ drop (at + 1) text)) e)

pub other_stays : (text : List ℕ) (at d : ℕ) → at < length text → get_or text at d ≢ space → drop at text ≡ past_spaces (drop at text)
unfolding past_spaces
other_stays text at d h e =
    let test : nat_eq (get_or text at d) space ≡ false = grind (arith, nat_tests, e) in
    byte_first text at d h ∙ sym (ap past_spaces (byte_first text at d h) ∙ ap (λ b. cond b (past_spaces (drop (at + 1) text)) (get_or text at d ∷ drop (at + 1) text)) test)

pub end_of_spaces : (text : List ℕ) (at : ℕ) → length text ≤ at → drop at text ≡ past_spaces (drop at text)
unfolding past_spaces
end_of_spaces text at h = drop_all at text h ∙ sym (ap past_spaces (drop_all at text h))

-- ---- digits

pub digit_passed : (text : List ℕ) (at d : ℕ) → at < length text → is_ascii_digit (get_or text at d) ≡ true → past_run (drop (at + 1) text) ≡ past_run (drop at text)
unfolding past_run
digit_passed text at d h e =
    sym (ap past_run (byte_first text at d h) ∙ ap (λ b. cond b (past_run (drop (at + 1) text)) (get_or text at d ∷ drop (at + 1) text)) e)

pub no_digit_stays : (text : List ℕ) (at d : ℕ) → at < length text → is_ascii_digit (get_or text at d) ≡ false → drop at text ≡ past_run (drop at text)
unfolding past_run
no_digit_stays text at d h e =
    byte_first text at d h ∙ sym (ap past_run (byte_first text at d h) ∙ ap (λ b. cond b (past_run (drop (at + 1) text)) (get_or text at d ∷ drop (at + 1) text)) e)

pub end_of_run : (text : List ℕ) (at : ℕ) → length text ≤ at → drop at text ≡ past_run (drop at text)
unfolding past_run
end_of_run text at h = drop_all at text h ∙ sym (ap past_run (drop_all at text h))

-- the run, by where it ends
pub run_taken : (text : List ℕ) (from end : ℕ) → from ≤ end → end ≤ length text → drop end text ≡ past_run (drop from text) → take (end - from) (drop from text) ≡ run_at (drop from text)
run_taken text from end low high left =
    let split = run_split (drop from text) in
    let whole : length (drop from text) ≡ length (run_at (drop from text)) + length (past_run (drop from text)) = ap length split ∙ length-append (run_at (drop from text)) (past_run (drop from text)) in
    let there : length (past_run (drop from text)) ≡ length text - end = ap length (sym left) ∙ length-drop end text in
    let size : length (run_at (drop from text)) ≡ end - from = omega (arith, whole, there, length-drop from text, low, high) in
    ap (take (end - from)) split ∙ ap (λ n. take n (run_at (drop from text) ++ past_run (drop from text))) (sym size) ∙ take-append_seam (run_at (drop from text)) (past_run (drop from text))

-- ---- single bytes

-- a byte stands at a place
pub record ByteAt (text : List ℕ) (at byte : ℕ) : Type 0 where
  pub within : at < length text
  pub next : at + 1 ≤ length text
  pub split : drop at text ≡ byte ∷ drop (at + 1) text

pub byte_at : (text : List ℕ) (at byte : ℕ) → starts_with byte (drop at text) ≡ true → ByteAt text at byte
byte_at text at byte h =
    let within : at < length text = omega (arith, some_left (drop at text) h, length-drop at text) in
    let first : nat_eq (get_or text at 0) byte ≡ true = ap (starts_with byte) (sym (byte_first text at 0 within)) ∙ h in
    record {
      within = within;
      next = omega (arith, within);
      split = byte_first text at 0 within ∙ ap (λ b. b ∷ drop (at + 1) text) ((Decides-eqb (get_or text at 0) byte).0 first);
    }
  where
    some_left : (l : List ℕ) → starts_with byte l ≡ true → 0 < length l
    some_left [] h = let c : true ≡ false = sym h in absurd cc
    some_left (b ∷ l) h = omega arith

pub byte_avoided : (byte : ℕ) (l : List ℕ) → starts_with byte l ≡ false → Avoids (λ b. nat_eq b byte) l
byte_avoided byte [] h = tt
byte_avoided byte (b ∷ l) h = h

pub digit_begun : (l : List ℕ) → starts_with_digit l ≡ true → Begins is_ascii_digit l
digit_begun [] h = let c : true ≡ false = sym h in absurd cc
digit_begun (b ∷ l) h = h
