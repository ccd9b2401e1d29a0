-- One more edge in a table of edges by a block of theirs and their letter.
use Rattle.std.proofs.Common.{◌≡◌, ◌≢◌, ℕ, ◌+◌, ◌<◌, List, length, get_or, set, ◌∙◌, get_or-set_other, get_or-set_same, below_more, ◌≤◌, ◌*◌, sym, ap, subst, arith, length-set}
use Rattle.nichols_tensor.specs.declared.TheConstants.{LETTER_LIMIT}
use Rattle.nichols_core.specs.declared.edge.Edge.{Edge}
use Rattle.nichols_core.specs.Layout.{LayoutValue, edge_at}
use Rattle.nichols_shelf.specs.Tables.{letter_place}

-- a table with places that are apart, after one more number was put into its place
put_number : (table : List ℕ) (place : ℕ → ℕ) (k : ℕ) → place k < length table → ((j : ℕ) → j < k → place j ≢ place k) → ((j : ℕ) → j < k → get_or table (place j) 0 ≡ j)
    → (j : ℕ) → j < k + 1 → get_or (set table (place k) k) (place j) 0 ≡ j
put_number table place k inside apart found = below_more _ _
    (λ j h. get_or-set_other table (place k) (place j) k 0 (apart j h) ∙ found j h)
    (get_or-set_same table (place k) k 0 inside)

-- the table of the edges below k, after the edge e with the number k was put into its place `at`
module _ (block : Edge → ℕ) (l : LayoutValue) (table : List ℕ) (k at : ℕ) (e : Edge) where
  abbrev place : ℕ → ℕ
  place j = letter_place (block (edge_at l.edges j)) (edge_at l.edges j).letter

  pub entered : k < length l.edges → ((i j : ℕ) → i < length l.edges → j < length l.edges → i ≢ j → place i ≢ place j)
      → e ≡ edge_at l.edges k → block e < length l.degrees → 1 ≤ e.letter → e.letter ≤ LETTER_LIMIT → at ≡ letter_place (block e) e.letter
      → (length table ≡ length l.degrees * LETTER_LIMIT) × ((j : ℕ) → j < k → get_or table (place j) 0 ≡ j)
      → (length (set table at k) ≡ length l.degrees * LETTER_LIMIT) × ((j : ℕ) → j < k + 1 → get_or (set table at k) (place j) 0 ≡ j)
  entered in_k apart edge_is inside from to at_is so_far =
      let is : at ≡ place k = at_is ∙ ap (λ f. letter_place (block f) f.letter) edge_is in
      let size = so_far.0 in
      let below : at < length table = omega arith in (
        length-set table at k ∙ size,
        subst (λ p. (j : ℕ) → j < k + 1 → get_or (set table p k) (place j) 0 ≡ j) (sym is)
            (put_number table place k (subst (λ p. p < length table) is below) (λ j h. apart j k (omega arith) in_k (λ same. omega arith)) so_far.1),
      )
