-- The pieces of a report: its header, a degree, its end.
use Rattle.std.specs.Prelude.{⊤, ℕ, ◌≤◌, ◌-◌, Bool, List, [], ◌++◌, codes, decimal, length, Option, None, Some, if◌then◌else◌}
use Rattle.std.specs.List.{flat_map}
use Rattle.nichols_field.specs.Field.{FieldValue, modulus_of, numbers_in}
use Rattle.nichols_tensor.specs.Combination.{same_letters}
use Rattle.nichols_tensor.specs.Words.{up_to}
use Rattle.nichols_braid.specs.Braid.{BraidValue}
use Rattle.nichols_tensor.specs.Relation.{PlainRelation}
use Rattle.nichols_expression.specs.Printed.{word_text}
use Rattle.nichols_text.specs.Words.{relation_line}
use Rattle.nichols_text.specs.declared.end.EndLine.{EndLine}
use Rattle.nichols_text.specs.declared.end.EndLine.TheVariants.{Closed, DegreeLimit, Wide, Rows}

-- `p <p>`, and with an extension ` extension <a> <b>` behind it
abbrev pub extension_words : Option (ℕ × ℕ) → List ℕ
extension_words None = []
extension_words (Some t) = codes " extension " ++ decimal t.0 ++ codes " " ++ decimal t.1

unfoldable pub field_words : FieldValue → List ℕ
field_words field = codes "p " ++ decimal (modulus_of field) ++ extension_words (numbers_in field)

-- where the order isn't 1 to n, ` order` with each of its letters after a space
unfoldable pub order_words : ℕ → List ℕ → List ℕ
order_words n order = if same_letters order (up_to n) then [] else codes " order" ++ flat_map (λ a. codes " " ++ decimal a) order

-- `nichols <field> letters <n> degree <degree limit> rows <rows limit>`, and the order
unfoldable pub header_piece : BraidValue → List ℕ → ℕ → ℕ → List ℕ
header_piece braid order degree_limit rows_limit =
    codes "nichols " ++ field_words braid.field ++ codes " letters " ++ decimal braid.letters
    ++ codes " degree " ++ decimal degree_limit ++ codes " rows " ++ decimal rows_limit ++ order_words braid.letters order ++ codes "\n"

-- `nichols symmetrize <field> letters <n>`, and the order
unfoldable pub symmetrize_piece : BraidValue → List ℕ → List ℕ
symmetrize_piece braid order =
    codes "nichols symmetrize " ++ field_words braid.field ++ codes " letters " ++ decimal braid.letters ++ order_words braid.letters order ++ codes "\n"

-- `degree <m> dimension <d>`
unfoldable pub dimension_line : ℕ → ℕ → List ℕ
dimension_line m d = codes "degree " ++ decimal m ++ codes " dimension " ++ decimal d ++ codes "\n"

-- `basis`, with each word after a space
unfoldable pub basis_line : List ℕ → List (List ℕ) → List ℕ
basis_line order basis = codes "basis" ++ flat_map (λ w. codes " " ++ word_text order w) basis ++ codes "\n"

-- a degree with its basis and its relations; in brief form the line of its dimension alone
unfoldable pub degree_piece : FieldValue → List ℕ → ℕ → List (List ℕ) → List PlainRelation → Bool → List ℕ
degree_piece field order m basis relations brief =
    if brief then dimension_line m (length basis) else dimension_line m (length basis) ++ basis_line order basis ++ flat_map (relation_line field order) relations

-- `closed top <m> dimension <sum>`, or `stopped ..` with the cause and the last finished degree
unfoldable pub end_line : EndLine → List ℕ
end_line (Closed top dimension) = codes "closed top " ++ decimal top ++ codes " dimension " ++ decimal dimension ++ codes "\n"
end_line (DegreeLimit last) = codes "stopped degree limit last " ++ decimal last ++ codes "\n"
end_line (Wide degree) = codes "stopped wide degree " ++ decimal degree ++ codes " last " ++ decimal (degree - 1) ++ codes "\n"
end_line (Rows degree product count) =
    codes "stopped rows degree " ++ decimal degree ++ codes " product " ++ decimal product ++ codes " count " ++ decimal count
    ++ codes " last " ++ decimal (degree - 1) ++ codes "\n"

-- degree 0 is always finished, so the degree that wasn't is a later one
abbrev pub StopsLater : EndLine → Type 0
StopsLater (Wide degree) = 1 ≤ degree
StopsLater (Rows degree product count) = 1 ≤ degree
StopsLater _ = ⊤

-- `hilbert`, with each dimension after a space
unfoldable pub hilbert_line : List ℕ → List ℕ
hilbert_line dimensions = codes "hilbert" ++ flat_map (λ d. codes " " ++ decimal d) dimensions ++ codes "\n"

-- `factors`, with each factor after a space, or `factors none`
unfoldable pub factors_line : Option (List ℕ) → List ℕ
factors_line None = codes "factors none\n"
factors_line (Some factors) = codes "factors" ++ flat_map (λ k. codes " " ++ decimal k) factors ++ codes "\n"

-- the factors line of a closed algebra; another has none
abbrev pub closing_line : EndLine → Option (List ℕ) → List ℕ
closing_line (Closed top dimension) factors = factors_line factors
closing_line _ factors = []

-- the end line, the Hilbert line and, where the algebra is closed, the factors line
unfoldable pub end_piece : EndLine → List ℕ → Option (List ℕ) → List ℕ
end_piece line dimensions factors = end_line line ++ hilbert_line dimensions ++ closing_line line factors
