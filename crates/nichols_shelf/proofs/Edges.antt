-- The edges of a plan, by the rules of its layout.
use Rattle.std.proofs.Common.{◌≡◌, ℕ, ◌+◌, ◌-◌, ◌*◌, ◌<◌, ◌≢◌, refl, sym, ◌∙◌, arith, length}
use Rattle.std.specs.Prelude.{Some}
use Rattle.nichols_tensor.specs.declared.TheConstants.{LETTER_LIMIT}
use Rattle.nichols_core.specs.Layout.{LayoutValue, IsLayout, IsPlaced, no_edge, edge_at}
use Rattle.nichols_core.specs.declared.edge.Edge.{Edge}
use Rattle.nichols_core.proofs.EdgesFound.{out_found, into_found}
use Rattle.nichols_shelf.specs.Plan.{PlanValue}
use Rattle.nichols_shelf.specs.Tables.{letter_place}
use Rattle.nichols_shelf.specs.Places.{edges, edge}

-- each edge is placed
pub placed : (g : PlanValue) → IsLayout g.layout → (k : ℕ) → k < edges g → IsPlaced g.layout.degrees (edge g k)
placed g rules k inside = rules.good.placed k no_edge inside

-- the letter of an edge tells it among those out of its lower block, and among those into its upper block
pub one_exit : (l : LayoutValue) → IsLayout l → (j k : ℕ) → j < length l.edges → k < length l.edges → (edge_at l.edges j).lower ≡ (edge_at l.edges k).lower → (edge_at l.edges j).letter ≡ (edge_at l.edges k).letter → j ≡ k
one_exit l rules j k in_j in_k low letter =
    let b = (edge_at l.edges k).lower in
    let a = (edge_at l.edges k).letter in
    let same : Some j ≡ Some k = sym (out_found l rules b a j (record { inside = in_j; lower = low; letter = letter })) ∙ out_found l rules b a k (record { inside = in_k; lower = refl; letter = refl }) in cc

pub one_entry : (l : LayoutValue) → IsLayout l → (j k : ℕ) → j < length l.edges → k < length l.edges → (edge_at l.edges j).upper ≡ (edge_at l.edges k).upper → (edge_at l.edges j).letter ≡ (edge_at l.edges k).letter → j ≡ k
one_entry l rules j k in_j in_k up letter =
    let b = (edge_at l.edges k).upper in
    let a = (edge_at l.edges k).letter in
    let same : Some j ≡ Some k = sym (into_found l rules b a j (record { inside = in_j; upper = up; letter = letter })) ∙ into_found l rules b a k (record { inside = in_k; upper = refl; letter = refl }) in cc

pub same_exit : (g : PlanValue) → IsLayout g.layout → (j k : ℕ) → j < edges g → k < edges g → (edge g j).lower ≡ (edge g k).lower → (edge g j).letter ≡ (edge g k).letter → j ≡ k
same_exit g = one_exit g.layout

-- two edges have two places in a table
same_place : (b c x y : ℕ) → x < LETTER_LIMIT → y < LETTER_LIMIT → b * LETTER_LIMIT + x ≡ c * LETTER_LIMIT + y → (b ≡ c) × (x ≡ y)
same_place b c x y h i e = (omega arith, omega arith)

places_apart : (block : Edge → ℕ) (l : LayoutValue) → IsLayout l
    → ((j k : ℕ) → j < length l.edges → k < length l.edges → block (edge_at l.edges j) ≡ block (edge_at l.edges k) → (edge_at l.edges j).letter ≡ (edge_at l.edges k).letter → j ≡ k)
    → (j k : ℕ) → j < length l.edges → k < length l.edges → j ≢ k → letter_place (block (edge_at l.edges j)) (edge_at l.edges j).letter ≢ letter_place (block (edge_at l.edges k)) (edge_at l.edges k).letter
places_apart block l rules one j k in_j in_k ne e =
    let p = rules.good.placed j no_edge in_j in
    let q = rules.good.placed k no_edge in_k in
    let from_j = p.from_one in let to_j = p.to_last in let from_k = q.from_one in let to_k = q.to_last in
    let same = same_place (block (edge_at l.edges j)) (block (edge_at l.edges k)) ((edge_at l.edges j).letter - 1) ((edge_at l.edges k).letter - 1) (omega arith) (omega arith) e in
    let letters = same.1 in
    ne (one j k in_j in_k same.0 (omega arith))

pub entries_apart : (l : LayoutValue) → IsLayout l → (j k : ℕ) → j < length l.edges → k < length l.edges → j ≢ k → letter_place (edge_at l.edges j).upper (edge_at l.edges j).letter ≢ letter_place (edge_at l.edges k).upper (edge_at l.edges k).letter
entries_apart l rules = places_apart (λ e. e.upper) l rules (one_entry l rules)

pub exits_apart : (l : LayoutValue) → IsLayout l → (j k : ℕ) → j < length l.edges → k < length l.edges → j ≢ k → letter_place (edge_at l.edges j).lower (edge_at l.edges j).letter ≢ letter_place (edge_at l.edges k).lower (edge_at l.edges k).letter
exits_apart l rules = places_apart (λ e. e.lower) l rules (one_exit l rules)
