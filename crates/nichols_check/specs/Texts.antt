-- The table of a degree as TOML has it: what is read from it, where it has the shape that is asked.
use Rattle.std.specs.Prelude.{ℕ, Bool, true, false, List, [], ◌∷◌, length, codes, Option, None, Some, option_map, option_and_then, Result, Ok, Err, nat_eq, if◌then◌else◌}
use Rattle.nichols_tensor.specs.Combination.{Combination}
use Rattle.nichols_tensor.specs.Relation.{PlainRelation}
use Rattle.nichols_braid.specs.Braid.{BraidValue}
use Rattle.nichols_braid.specs.Order.{rank_of, renamed_word}
use Rattle.nichols_expression.specs.Reader.{Fault, Step, expression_of, is_empty, word_at}
use Rattle.nichols_input.specs.Document.{keys_in}
use Rattle.nichols_input.specs.Shapes.{put_first}
use Rattle.nichols_check.specs.Table.{Table}
use Rattle.toml.specs.Data.{Data, Items, no_items, item, Members, get_member, as_array, as_str, as_table}

-- ---- texts

-- what a word's reading gives, where it goes to the end of the text
abbrev pub read_whole : Step (List ℕ) → Option (List ℕ)
read_whole (Ok r) = if is_empty r.left then Some r.value else None
read_whole (Err e) = None

-- the word, in ranks, that a text is over n letters: exactly the printed word
unfoldable pub word_of : ℕ → List ℕ → List ℕ → Option (List ℕ)
word_of n order text = option_map (renamed_word (rank_of order)) (read_whole (word_at n text))

abbrev pub value_read : Result Combination Fault → Option Combination
value_read (Ok f) = Some f
value_read (Err fault) = None

-- the value, in ranks, that a text has as an expression
unfoldable pub combination_of : BraidValue → List ℕ → List ℕ → Option Combination
combination_of braid order text = value_read (expression_of braid order text)

-- ---- values

-- the items, where each can be read
abbrev pub each_in : {X : Type 0} → (Data → Option X) → Items → Option (List X)
each_in read no_items = Some []
each_in read (item d ds) = put_first (read d) (each_in read ds)

-- an array of what can be read
abbrev pub array_of : {X : Type 0} → (Data → Option X) → Data → Option (List X)
array_of read d = option_and_then (each_in read) (as_array d)

-- a word
abbrev pub word_in : BraidValue → List ℕ → Data → Option (List ℕ)
word_in braid order d = option_and_then (word_of braid.letters order) (as_str d)

-- an expression
abbrev pub combination_in : BraidValue → List ℕ → Data → Option Combination
combination_in braid order d = option_and_then (combination_of braid order) (as_str d)

abbrev pub relation_from : Option (List ℕ) → Option Combination → Option PlainRelation
relation_from None f = None
relation_from (Some w) f = option_map (λ g. record { candidate = w; form = g }) f

-- a word and an expression, and nothing else
abbrev pub pair_in : BraidValue → List ℕ → Items → Option PlainRelation
pair_in braid order no_items = None
pair_in braid order (item d no_items) = None
pair_in braid order (item d (item e no_items)) = relation_from (word_in braid order d) (combination_in braid order e)
pair_in braid order (item d (item e (item g ds))) = None

-- an array of a word and an expression
abbrev pub relation_in : BraidValue → List ℕ → Data → Option PlainRelation
relation_in braid order d = option_and_then (pair_in braid order) (as_array d)

-- ---- tables

-- there are no arrays where there are no words
abbrev pub fit : List (List ℕ) → List (List Combination) → Bool
fit [] [] = true
fit [] (fs ∷ tests) = false
fit (w ∷ ws) tests = true

abbrev pub table_from : Option (List (List ℕ)) → Option (List PlainRelation) → Option (List (List Combination)) → Option Table
table_from None rs tests = None
table_from (Some ws) None tests = None
table_from (Some ws) (Some rs) None = None
table_from (Some ws) (Some rs) (Some tests) = if fit ws tests then Some (record { basis = ws; relations = rs; tests = tests }) else None

-- what stands at three keys: words, pairs of a word and an expression, and arrays of expressions
abbrev pub table_at : BraidValue → List ℕ → Members → Option Table
table_at braid order ms =
    table_from (option_and_then (array_of (word_in braid order)) (get_member (codes "basis") ms))
    (option_and_then (array_of (relation_in braid order)) (get_member (codes "relations") ms))
    (option_and_then (array_of (array_of (combination_in braid order))) (get_member (codes "inverse") ms))

-- there are these keys, and no other
unfoldable pub table_in : BraidValue → List ℕ → Members → Option Table
table_in braid order ms = if nat_eq (length (keys_in ms)) 3 then table_at braid order ms else None

-- the table that a value of TOML is, if it has the shape of one
abbrev pub table_of : BraidValue → List ℕ → Data → Option Table
table_of braid order d = option_and_then (table_in braid order) (as_table d)
