-- Lemmas on reads from memory.
use Rattle.std.proofs.Common.{◌≡◌, ℕ, ◌+◌, ◌≤◌, List, ◌++◌, length, take, drop, sym, ◌∙◌, ap, subst, take-append-drop}
use Rattle.std.specs.Prelude.{Option}
use Rattle.std.proofs.lemmas.List.{drop-append-le, drop-drop}
use Rattle.nichols_io.specs.declared.sources.Got.{Got}
use Rattle.nichols_io.specs.declared.sources.Got.TheVariants.{Bytes, End, Failed}
use Rattle.nichols_io.specs.Source.{Reads}
use Rattle.nichols_io.specs.Memory.{KeepsRest}

-- what is left from a place on is the k bytes there, and what is left behind them
pub consumed_front : (k at : ℕ) (bytes front : List ℕ) → front ≡ take k (drop at bytes) → drop at bytes ≡ front ++ drop (at + k) bytes
consumed_front k at bytes front same =
    sym (ap (λ xs. xs ++ drop (at + k) bytes) same ∙ ap (λ xs. take k (drop at bytes) ++ xs) (sym (drop-drop k at bytes)) ∙ take-append-drop k (drop at bytes))

-- a read into the first n bytes of a buffer keeps the rest of the whole buffer
pub KeepsRest-front : (got : Got) (before after : List ℕ) (n : ℕ) (a b : Option (List ℕ)) → length after ≡ length (take n before)
    → Reads got after a b → KeepsRest got (take n before) after → KeepsRest got before (after ++ drop n before)
KeepsRest-front (Bytes k) before after n a b same reads rest =
    let within : k ≤ length (take n before) = subst (λ m. k ≤ m) same reads.1 in
    drop-append-le k after (drop n before) reads.1 ∙ ap (λ xs. xs ++ drop n before) rest ∙ sym (drop-append-le k (take n before) (drop n before) within) ∙ ap (drop k) (take-append-drop n before)
KeepsRest-front End before after n a b same reads rest = ap (λ xs. xs ++ drop n before) rest ∙ take-append-drop n before
KeepsRest-front Failed before after n a b same reads rest = ap (λ xs. xs ++ drop n before) rest ∙ take-append-drop n before
