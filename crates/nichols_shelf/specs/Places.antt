-- Where the words of blocks and edges stand in the table: word 0 is for splitting and joining.
use Rattle.std.specs.Prelude.{ℕ, ◌+◌, ◌*◌, length}
use Rattle.nichols_core.specs.Layout.{edge_at}
use Rattle.nichols_core.specs.declared.edge.Edge.{Edge}
use Rattle.nichols_shelf.specs.Plan.{PlanValue}

-- how many blocks there are, and how many edges
abbrev pub blocks : PlanValue → ℕ
blocks g = length g.layout.degrees

abbrev pub edges : PlanValue → ℕ
edges g = length g.layout.edges

-- the edge with this number
abbrev pub edge : PlanValue → ℕ → Edge
edge g k = edge_at g.layout.edges k

-- the desk word of a block, its wait word, and the word of an edge
abbrev pub desk_place : ℕ → ℕ
desk_place b = 1 + b

abbrev pub wait_place : PlanValue → ℕ → ℕ
wait_place g b = 1 + blocks g + b

abbrev pub edge_place : PlanValue → ℕ → ℕ
edge_place g k = 1 + 2 * blocks g + k

abbrev pub all_words : PlanValue → ℕ
all_words g = 1 + 2 * blocks g + edges g
