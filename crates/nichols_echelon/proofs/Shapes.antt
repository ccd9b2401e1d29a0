-- The shape of rows.
use Rattle.std.proofs.Common.{◌≡◌, ◌≢◌, ◌<◌, ◌+◌, ℕ, List, [], ◌∷◌, ◌++◌, refl, ap, arith, zero, suc, get_or, length, subst, sym}
use Rattle.std.specs.List.{AllByRecursion}
use Rattle.nichols_echelon.specs.Combination.{row_at}
use Rattle.nichols_echelon.specs.Cells.{Cell, IsRow, IsRising, IsBelowFirst, AllBelow, columns_of}
use Rattle.nichols_tensor.proofs.Over.{all-append, all-weaker}

pub row_front : (c : Cell) (cells : List Cell) → IsRow (c ∷ cells) → (c.coefficient ≢ 0) × IsBelowFirst c.column (columns_of cells) × IsRow cells
row_front c cells h = (h.nonzero.0, h.rising.0, record { rising = h.rising.1; nonzero = h.nonzero.1 })

pub row_cons : (c : Cell) (cells : List Cell) → c.coefficient ≢ 0 → IsBelowFirst c.column (columns_of cells) → IsRow cells → IsRow (c ∷ cells)
row_cons c cells n b h = record { rising = (b, h.rising); nonzero = (n, h.nonzero) }

pub row_nil : IsRow []
row_nil = record { rising = tt; nonzero = tt }

pub all_front : {X : Type 0} (P : X → Type 0) (xs ys : List X) → AllByRecursion P (xs ++ ys) → AllByRecursion P xs
all_front P [] ys h = tt
all_front P (x ∷ xs) ys h = (h.0, all_front P xs ys h.1)

pub all_back : {X : Type 0} (P : X → Type 0) (xs ys : List X) → AllByRecursion P (xs ++ ys) → AllByRecursion P ys
all_back P [] ys h = h
all_back P (x ∷ xs) ys h = all_back P xs ys h.1

pub all_both : {X : Type 0} (P Q R : X → Type 0) → ((x : X) → P x → Q x → R x) → (xs : List X) → AllByRecursion P xs → AllByRecursion Q xs → AllByRecursion R xs
all_both P Q R f [] h k = tt
all_both P Q R f (x ∷ xs) h k = (f x h.0 k.0, all_both P Q R f xs h.1 k.1)

pub all_push : {X : Type 0} (P : X → Type 0) (xs : List X) (y : X) → AllByRecursion P xs → P y → AllByRecursion P (xs ++ y ∷ [])
all_push P xs y h k = all-append P xs (y ∷ []) h (k, tt)

pub columns_of-append : (xs ys : List Cell) → columns_of (xs ++ ys) ≡ columns_of xs ++ columns_of ys
columns_of-append [] ys = refl
columns_of-append (x ∷ xs) ys = ap (λ vs. x.column ∷ vs) (columns_of-append xs ys)

-- what holds of each element holds of one that was read
pub all_read : {X : Type 0} (P : X → Type 0) (xs : List X) (i : ℕ) (x d : X) → AllByRecursion P xs → i < length xs → x ≡ get_or xs i d → P x
all_read P [] i x d h inside e = absurd (omega (arith, inside))
all_read P (y ∷ xs) zero x d h inside e = subst P (sym e) h.0
all_read P (y ∷ xs) (suc i) x d h inside e = all_read P xs i x d h.1 (omega (arith, inside)) e

-- a row grows by a cell behind all its columns
rising-push : (columns : List ℕ) (w : ℕ) → AllByRecursion (λ v. v < w) columns → IsRising columns → IsRising (columns ++ w ∷ [])
rising-push [] w below h = (tt, tt)
rising-push (v ∷ columns) w below h = (first columns below.0 h.0, rising-push columns w below.1 h.1)
  where
    first : (us : List ℕ) → v < w → IsBelowFirst v us → IsBelowFirst v (us ++ w ∷ [])
    first [] l b = l
    first (u ∷ us) l b = b

columns_below : (w : ℕ) (cells : List Cell) → AllBelow w cells → AllByRecursion (λ v. v < w) (columns_of cells)
columns_below w [] h = tt
columns_below w (c ∷ cells) h = (h.0, columns_below w cells h.1)

pub row-push : (cells : List Cell) (c : Cell) → IsRow cells → AllBelow c.column cells → c.coefficient ≢ 0 → IsRow (cells ++ c ∷ [])
row-push cells c h below nonzero = record {
  rising = subst IsRising (sym (columns_of-append cells (c ∷ []))) (rising-push (columns_of cells) c.column (columns_below c.column cells below) h.rising);
  nonzero = all_push (λ d. d.coefficient ≢ 0) cells c h.nonzero nonzero;
}

-- the front of a row that ends in a cell
rising_last : (columns : List ℕ) (w : ℕ) → IsRising (columns ++ w ∷ []) → IsRising columns × AllByRecursion (λ v. v < w) columns
rising_last [] w h = (tt, tt)
rising_last (v ∷ columns) w h =
    let rest : IsRising columns × AllByRecursion (λ u. u < w) columns = rising_last columns w h.1 in
    ((first columns h.0, rest.0), (least columns h.0 rest.1, rest.1))
  where
    first : (us : List ℕ) → IsBelowFirst v (us ++ w ∷ []) → IsBelowFirst v us
    first [] b = tt
    first (u ∷ us) b = b

    least : (us : List ℕ) → IsBelowFirst v (us ++ w ∷ []) → AllByRecursion (λ u. u < w) us → v < w
    least [] b below = b
    least (u ∷ us) b below = omega (arith, below.0)

cells_below : (w : ℕ) (cells : List Cell) → AllByRecursion (λ v. v < w) (columns_of cells) → AllBelow w cells
cells_below w [] h = tt
cells_below w (c ∷ cells) h = (h.0, cells_below w cells h.1)

pub row_last : (cells : List Cell) (c : Cell) → IsRow (cells ++ c ∷ []) → IsRow cells × AllBelow c.column cells × (c.coefficient ≢ 0)
row_last cells c h =
    let r : IsRising (columns_of cells) × AllByRecursion (λ v. v < c.column) (columns_of cells) = rising_last (columns_of cells) c.column (subst IsRising (columns_of-append cells (c ∷ [])) h.rising) in
    (record { rising = r.0; nonzero = all_front (λ d. d.coefficient ≢ 0) cells (c ∷ []) h.nonzero }, cells_below c.column cells r.1, (all_back (λ d. d.coefficient ≢ 0) cells (c ∷ []) h.nonzero).0)

-- what holds of each row of a list
pub all_rows : (P : List Cell → Type 0) (rows : List (List Cell)) → ((j : ℕ) → j < length rows → P (row_at rows j)) → AllByRecursion P rows
all_rows P [] h = tt
all_rows P (row ∷ rows) h = (h 0 (omega arith), all_rows P rows (λ j l. h (suc j) (omega arith)))

pub row_of_all : (P : List Cell → Type 0) (rows : List (List Cell)) → P [] → AllByRecursion P rows → (j : ℕ) → P (row_at rows j)
row_of_all P [] none h j = none
row_of_all P (row ∷ rows) none h zero = h.0
row_of_all P (row ∷ rows) none h (suc j) = row_of_all P rows none h.1 j

-- each column of a row is at most the last
pub below_end : (cells front : List Cell) (last : Cell) → cells ≡ front ++ last ∷ [] → IsRow cells → AllBelow (last.column + 1) cells
below_end cells front last e h =
    let r : IsRow front × AllBelow last.column front × (last.coefficient ≢ 0) = row_last front last (subst IsRow e h) in
    subst (AllBelow (last.column + 1)) (sym e)
    (all_push (λ c. c.column < last.column + 1) front last (all-weaker (λ c. c.column < last.column) (λ c. c.column < last.column + 1) (λ c b. omega (arith, b)) front r.1) (omega arith))
