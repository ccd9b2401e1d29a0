-- Rows in one flat list.
use Rattle.std.proofs.Common.{◌≡◌, ℕ, zero, suc, ◌-◌, ◌<◌, ◌≤◌, List, [], ◌∷◌, ◌++◌, length, get_or, take, drop, refl, ap, ap₂, ◌∙◌, arith, length-drop, length-take-le, sym, take_all}
use Rattle.std.proofs.lemmas.List.{take-append-drop, take-append-le, drop-append-le, drop_all}
use Rattle.nichols_echelon.specs.Cells.{Cell}
use Rattle.nichols_echelon.specs.Rows.{RowsValue, rows_of, rows_from, end_from, cells_between, IsStepped}

pub length-rows_from : (s : ℕ) (ends : List ℕ) (cells : List Cell) → length (rows_from s ends cells) ≡ length ends
unfolding rows_from
length-rows_from s [] cells = refl
length-rows_from s (e ∷ ends) cells = ap suc (length-rows_from e ends cells)

pub row_at : (s : ℕ) (ends : List ℕ) (cells : List Cell) (k : ℕ) → k < length ends → get_or (rows_from s ends cells) k [] ≡ cells_between (get_or (s ∷ ends) k 0) (get_or ends k 0) cells
unfolding rows_from
row_at s [] cells k h = absurd (omega arith)
row_at s (e ∷ ends) cells zero h = refl
row_at s (e ∷ ends) cells (suc k) h = row_at e ends cells k (omega arith)

pub stepped_at : (s : ℕ) (ends : List ℕ) (n k : ℕ) → IsStepped s ends n → k < length ends → (get_or (s ∷ ends) k 0 ≤ get_or ends k 0) × (get_or ends k 0 ≤ n)
stepped_at s [] n k h i = absurd (omega arith)
stepped_at s (e ∷ ends) n zero h i = (h.0, first e ends h.1)
  where
    first : (a : ℕ) (bs : List ℕ) → IsStepped a bs n → a ≤ n
    first a [] g = g
    first a (b ∷ bs) g = let r : b ≤ n = first b bs g.1 in omega (arith, g.0)
stepped_at s (e ∷ ends) n (suc k) h i = stepped_at e ends n k h.1 (omega arith)

pub stepped_start : (s : ℕ) (ends : List ℕ) (n : ℕ) → IsStepped s ends n → (s ≤ end_from s ends) × (end_from s ends ≤ n)
unfolding end_from
stepped_start s [] n h = (omega arith, h)
stepped_start s (e ∷ ends) n h =
    let r : (e ≤ end_from e ends) × (end_from e ends ≤ n) = stepped_start e ends n h.1 in
    (omega (arith, h.0, r.0), r.1)

pub stepped_more : (s : ℕ) (ends : List ℕ) (n m : ℕ) → n ≤ m → IsStepped s ends n → IsStepped s ends m
stepped_more s [] n m l h = omega (arith, l, h)
stepped_more s (e ∷ ends) n m l h = (h.0, stepped_more e ends n m l h.1)

pub stepped_push : (s : ℕ) (ends : List ℕ) (n : ℕ) → IsStepped s ends n → IsStepped s (ends ++ n ∷ []) n
stepped_push s [] n h = (h, omega arith)
stepped_push s (e ∷ ends) n h = (h.0, stepped_push e ends n h.1)

between_front : (a b : ℕ) (cells more : List Cell) → a ≤ b → b ≤ length cells → cells_between a b (cells ++ more) ≡ cells_between a b cells
between_front a b cells more l h =
    ap (take (b - a)) (drop-append-le a cells more (omega arith)) ∙ take-append-le (b - a) (drop a cells) more (omega (arith, length-drop a cells))

pub rows_of_longer : (s : ℕ) (ends : List ℕ) (cells more : List Cell) → IsStepped s ends (length cells) → rows_from s ends (cells ++ more) ≡ rows_from s ends cells
unfolding rows_from
rows_of_longer s [] cells more h = refl
rows_of_longer s (e ∷ ends) cells more h =
    ap₂ (λ x y. x ∷ y) (between_front s e cells more h.0 (at (stepped_start e ends (length cells) h.1))) (rows_of_longer e ends cells more h.1)
  where
    at : (e ≤ end_from e ends) × (end_from e ends ≤ length cells) → e ≤ length cells
    at r = omega (arith, r.0, r.1)

pub begun_of_longer : (s : ℕ) (ends : List ℕ) (cells more : List Cell) → IsStepped s ends (length cells) → drop (end_from s ends) (cells ++ more) ≡ drop (end_from s ends) cells ++ more
begun_of_longer s ends cells more h = drop-append-le (end_from s ends) cells more (stepped_start s ends (length cells) h).1

pub rows_of_end : (s : ℕ) (ends : List ℕ) (cells : List Cell) → rows_from s (ends ++ length cells ∷ []) cells ≡ rows_from s ends cells ++ drop (end_from s ends) cells ∷ []
unfolding rows_from end_from
rows_of_end s [] cells = ap (λ x. x ∷ []) (take_all (length cells - s) (drop s cells) (omega (arith, length-drop s cells)))
rows_of_end s (e ∷ ends) cells = ap (λ x. cells_between s e cells ∷ x) (rows_of_end e ends cells)

pub begun_of_end : (s : ℕ) (ends : List ℕ) (cells : List Cell) → drop (end_from s (ends ++ length cells ∷ [])) cells ≡ []
unfolding end_from
begun_of_end s [] cells = drop_all (length cells) cells (omega arith)
begun_of_end s (e ∷ ends) cells = begun_of_end e ends cells

value : List (List Cell) → List Cell → RowsValue
value rows begun = record { rows = rows; begun = begun }

pub closed : (ends : List ℕ) (cells : List Cell) → rows_of (ends ++ length cells ∷ []) cells ≡ record { rows = rows_from 0 ends cells ++ drop (end_from 0 ends) cells ∷ []; begun = [] }
unfolding value
closed ends cells = ap₂ value (rows_of_end 0 ends cells) (begun_of_end 0 ends cells)

-- a row of cells that were put behind an open row with none
pub closed_row : (ends : List ℕ) (cells more new : List Cell) (v : RowsValue) → IsStepped 0 ends (length cells) → new ≡ cells ++ more → rows_of ends cells ≡ v → v.begun ≡ [] →
    ◌≡◌ {A = RowsValue} (record { rows = rows_from 0 ends new ++ drop (end_from 0 ends) new ∷ []; begun = [] }) (record { rows = v.rows ++ more ∷ []; begun = [] })
unfolding value
closed_row ends cells more new v stepped e view none =
    ap₂ (λ (rows : List (List Cell)) (row : List Cell). value (rows ++ row ∷ []) [])
    (ap (rows_from 0 ends) e ∙ rows_of_longer 0 ends cells more stepped ∙ ap (λ (w : RowsValue). w.rows) view)
    (ap (drop (end_from 0 ends)) e ∙ begun_of_longer 0 ends cells more stepped ∙ ap (λ (w : RowsValue). w.begun ++ more) view ∙ ap (λ (cs : List Cell). cs ++ more) none)

-- bounds of a row whose start is chosen by a test
pub row_order : (ends : List ℕ) (n k start : ℕ) → start ≡ get_or (0 ∷ ends) k 0 → k < length ends → IsStepped 0 ends n → (start ≤ get_or ends k 0) × (get_or ends k 0 ≤ n)
row_order ends n k start e h s =
    let b : (get_or (0 ∷ ends) k 0 ≤ get_or ends k 0) × (get_or ends k 0 ≤ n) = stepped_at 0 ends n k s h in
    (omega (arith, e, b.0), b.1)

-- where a row begins, by a test
pub start_at : (ends : List ℕ) (k : ℕ) → 0 < k → get_or ends (k - 1) 0 ≡ get_or (0 ∷ ends) k 0
start_at ends zero h = absurd (omega arith)
start_at ends (suc k) h = let e : suc k - 1 ≡ k = omega arith in ap (λ n. get_or ends n 0) e

-- the closed rows end within themselves
stepped_within : (s : ℕ) (ends : List ℕ) (n : ℕ) → IsStepped s ends n → IsStepped s ends (end_from s ends)
unfolding end_from
stepped_within s [] n h = omega arith
stepped_within s (e ∷ ends) n h = (h.0, stepped_within e ends n h.1)

-- the cells without the last ones
abbrev pub without_last : List Cell → ℕ → List Cell
without_last cells n = take (length cells - n) cells

-- where the open row is cut off, the closed ones stay
pub rows_of_cut : (ends : List ℕ) (cells : List Cell) (n : ℕ) → IsStepped 0 ends (length cells) → n ≡ length (drop (end_from 0 ends) cells) →
    (n ≤ length cells) × (IsStepped 0 ends (length (without_last cells n)) × (rows_of ends (without_last cells n) ≡ record { rows = rows_from 0 ends cells; begun = [] }))
unfolding value
rows_of_cut ends cells n stepped is_n = (omega (is_n, length-drop e cells, arith), (inside, ap₂ (λ (rows : List (List Cell)) (row : List Cell). value rows row) same none))
  where
    e : ℕ
    e = end_from 0 ends

    within : (0 ≤ e) × (e ≤ length cells)
    within = stepped_start 0 ends (length cells) stepped

    kept : List Cell
    kept = take (length cells - n) cells

    is_kept : length kept ≡ e
    is_kept = length-take-le (length cells - n) cells (omega arith) ∙ omega (is_n, length-drop e cells, within.1, arith)

    inside : IsStepped 0 ends (length kept)
    inside = stepped_more 0 ends e (length kept) (omega (arith, is_kept)) (stepped_within 0 ends (length cells) stepped)

    same : rows_from 0 ends kept ≡ rows_from 0 ends cells
    same = sym (rows_of_longer 0 ends kept (drop (length cells - n) cells) inside) ∙ ap (rows_from 0 ends) (take-append-drop (length cells - n) cells)

    none : drop e kept ≡ []
    none = drop_all e kept (omega (arith, is_kept))

-- a row whose cells were put behind an open row with none, and cut off again
pub cut_row : (ends : List ℕ) (cells more new : List Cell) (v : RowsValue) (ends-2 : List ℕ) (cells-2 : List Cell) → IsStepped 0 ends (length cells) → new ≡ cells ++ more → rows_of ends cells ≡ v → v.begun ≡ [] →
    IsStepped 0 ends-2 (length cells-2) → rows_of ends-2 cells-2 ≡ rows_of ends new →
    (length more ≤ length cells-2) × (IsStepped 0 ends-2 (length (without_last cells-2 (length more))) × (rows_of ends-2 (without_last cells-2 (length more)) ≡ v))
unfolding value
cut_row ends cells more new v ends-2 cells-2 stepped e view none stepped-2 same = (cut.0, (cut.1.0, cut.1.1 ∙ ap₂ (λ (rows : List (List Cell)) (row : List Cell). value rows row) rows (sym none)))
  where
    rows : rows_from 0 ends-2 cells-2 ≡ v.rows
    rows = ap (λ (w : RowsValue). w.rows) same ∙ ap (rows_from 0 ends) e ∙ rows_of_longer 0 ends cells more stepped ∙ ap (λ (w : RowsValue). w.rows) view

    begun : drop (end_from 0 ends-2) cells-2 ≡ more
    begun =
        ap (λ (w : RowsValue). w.begun) same ∙ ap (drop (end_from 0 ends)) e ∙ begun_of_longer 0 ends cells more stepped
        ∙ ap (λ (w : RowsValue). w.begun ++ more) view ∙ ap (λ (cs : List Cell). cs ++ more) none

    cut : (length more ≤ length cells-2)
        × (IsStepped 0 ends-2 (length (without_last cells-2 (length more))) × (rows_of ends-2 (without_last cells-2 (length more)) ≡ record { rows = rows_from 0 ends-2 cells-2; begun = [] }))
    cut = rows_of_cut ends-2 cells-2 (length more) stepped-2 (sym (ap length begun))
