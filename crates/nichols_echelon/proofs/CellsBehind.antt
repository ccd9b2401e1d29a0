-- Cells behind so many columns.
use Rattle.std.proofs.Common.{◌≡◌, ◌<◌, ◌+◌, ℕ, zero, suc, List, [], ◌∷◌, ◌++◌, refl, ap, ap₂, sym, subst, arith, length, get_or}
use Rattle.nichols_field.specs.Field.{FieldValue}
use Rattle.nichols_echelon.specs.Cells.{AllBelow, AllElements, Cell}
use Rattle.nichols_echelon.specs.Parts.{cells_behind}

pub behind-append : (offset : ℕ) (xs ys : List Cell) → cells_behind offset (xs ++ ys) ≡ cells_behind offset xs ++ cells_behind offset ys
behind-append offset [] ys = refl
behind-append offset (x ∷ xs) ys = ap (λ (cs : List Cell). record { column = offset + x.column; coefficient = x.coefficient } ∷ cs) (behind-append offset xs ys)

pub behind_none : (cells : List Cell) → cells_behind 0 cells ≡ cells
behind_none [] = refl
behind_none (c ∷ cells) =
    let same : 0 + c.column ≡ c.column = omega arith in
    ap₂ (λ (n : ℕ) (cs : List Cell). record { column = n; coefficient = c.coefficient } ∷ cs) same (behind_none cells)

pub behind_elements : (k : FieldValue) (offset : ℕ) (cells : List Cell) → AllElements k cells → AllElements k (cells_behind offset cells)
behind_elements k offset [] h = tt
behind_elements k offset (c ∷ cells) h = (h.0, behind_elements k offset cells h.1)

pub elements_behind : (k : FieldValue) (offset : ℕ) (cells : List Cell) → AllElements k (cells_behind offset cells) → AllElements k cells
elements_behind k offset [] h = tt
elements_behind k offset (c ∷ cells) h = (h.0, elements_behind k offset cells h.1)

pub behind_count : (offset : ℕ) (cells : List Cell) → length (cells_behind offset cells) ≡ length cells
behind_count offset [] = refl
behind_count offset (c ∷ cells) = ap suc (behind_count offset cells)

-- a cell that was read
pub behind_read : (offset : ℕ) (cells : List Cell) (i : ℕ) (c : Cell) → i < length cells → c ≡ get_or cells i c →
    ◌≡◌ {A = Cell} (record { column = offset + c.column; coefficient = c.coefficient }) (get_or (cells_behind offset cells) i (record { column = offset + c.column; coefficient = c.coefficient }))
behind_read offset [] i c less e = absurd (omega (arith, less))
behind_read offset (d ∷ cells) zero c less e = ap (λ (x : Cell). (let y : Cell = record { column = offset + x.column; coefficient = x.coefficient } in y)) e
behind_read offset (d ∷ cells) (suc i) c less e = behind_read offset cells i c (omega (arith, less)) e

pub behind_below : (n offset : ℕ) (cells : List Cell) (i : ℕ) (c : Cell) → i < length cells → c ≡ get_or cells i c → AllBelow n (cells_behind offset cells) → offset + c.column < n
behind_below n offset [] i c less e h = absurd (omega (arith, less))
behind_below n offset (d ∷ cells) zero c less e h = subst (λ (x : Cell). offset + x.column < n) (sym e) h.0
behind_below n offset (d ∷ cells) (suc i) c less e h = behind_below n offset cells i c (omega (arith, less)) e h.1
