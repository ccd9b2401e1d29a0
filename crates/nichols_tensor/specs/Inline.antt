-- A list kept in an array, with zeros behind its entries.
use Rattle.std.specs.Prelude.{◌≡◌, ℕ, ◌-◌, ◌≤◌, List, ◌++◌, length, take, drop, replicate}
use Rattle.std.proofs.Common.{ap₂, arith, take-append-drop}
use Rattle.std.proofs.lemmas.Grind.{common_steps}

-- the first entries of an array with room for `limit` entries are a list of which P holds
pub record IsInline (limit : ℕ) (P : List ℕ → Type 0) (len : ℕ) (entries : List ℕ) : Type 0 where
  pub short : len ≤ limit
  pub whole : length entries ≡ limit
  pub padded : drop len entries ≡ replicate (limit - len) 0
  pub holds : P (take len entries)

pub length_kept : (limit : ℕ) (P : List ℕ → Type 0) (len : ℕ) (entries : List ℕ) → IsInline limit P len entries → length (take len entries) ≡ len
length_kept limit P len entries h = grind (arith, common_steps, h.short, h.whole)

-- the array, from the list
entries_kept : (limit : ℕ) (P : List ℕ → Type 0) (len : ℕ) (entries : List ℕ) → IsInline limit P len entries → take len entries ++ replicate (limit - length (take len entries)) 0 ≡ entries
entries_kept limit P len entries h = rw (length_kept limit P len entries h, ← h.padded) (take-append-drop len entries)

-- so what has the two as its fields, from the list
pub fields_kept : {X : Type 0} (fields : ℕ → List ℕ → X) (limit : ℕ) (P : List ℕ → Type 0) (len : ℕ) (entries : List ℕ) → IsInline limit P len entries →
    fields (length (take len entries)) (take len entries ++ replicate (limit - length (take len entries)) 0) ≡ fields len entries
fields_kept fields limit P len entries h = ap₂ fields (length_kept limit P len entries h) (entries_kept limit P len entries h)
