-- Reports: their pieces in order, and a status.
use Rattle.std.specs.Prelude.{ℕ, suc, List, [], ◌∷◌, ◌++◌, Option, None}
use Rattle.std.specs.Option.{option_or}
use Rattle.nichols_top.specs.declared.status.Status.{Status}

-- a piece: its text, with the degree that it prints, if any
abbrev pub Piece : Type 0
Piece = record { text : List ℕ; degree : Option ℕ }

abbrev pub piece : List ℕ → Option ℕ → Piece
piece text degree = record { text = text; degree = degree }

-- a piece for each item, with the items' numbers from k on
abbrev pub numbered_pieces : {X : Type 0} → (ℕ → X → Piece) → ℕ → List X → List Piece
numbered_pieces f k [] = []
numbered_pieces f k (x ∷ xs) = f k x ∷ numbered_pieces f (suc k) xs

-- the pieces that are due in order, and the status
abbrev pub Report : Type 0
Report = record { pieces : List Piece; status : Status }

-- a report of one line
abbrev pub line_report : List ℕ → Status → Report
line_report line status = record { pieces = piece line None ∷ []; status = status }

-- the pieces one after the other
abbrev pub text_of : List Piece → List ℕ
text_of [] = []
text_of (p ∷ ps) = p.text ++ text_of ps

-- the last degree that pieces print
abbrev pub last_degree : List Piece → Option ℕ
last_degree [] = None
last_degree (p ∷ ps) = option_or (last_degree ps) p.degree
