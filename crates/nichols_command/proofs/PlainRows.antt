-- What clap keeps of the options of a plain line.
use Rattle.std.proofs.Common.{◌≡◌, Bool, cond, true, false, ◌||◌, refl, ◌∙◌, ap, List, [], ◌∷◌, ◌++◌, map, codes, Some, None, append-nil}
use Rattle.std.proofs.lemmas.Bool.{or_parts}
use Rattle.std.specs.Prelude.{option_map, option_and_then, slice_get, find, is_some}
use Rattle.std.specs.Option.{option_or}
use Rattle.std.specs.Str.{bytes_eq}
use Rattle.clap.specs.Walk.{Row, Rule, Text, at_row, without, with_values, more_values, has_row, first_of, reading_by}
use Rattle.clap.specs.declared.parser.matches.ValueSource.{ValueSource}
use Rattle.clap.specs.declared.parser.matches.ValueSource.TheVariants.{CommandLine}
use Rattle.clap.specs.declared.builder.value_parser.Reading.{Reading}
use Rattle.clap.specs.Simple.{filled}
use Rattle.nichols_command.specs.Texts.{value_rule, flag_rule}
use Rattle.nichols_command.specs.PlainForm.{degree, rows, workers, window, PlainOption, apart, joined, brief, valued_name, option_name, option_value, option_value_at}

-- the row of one text
abbrev pub text_row : Text → Reading → ValueSource → Text → Row
text_row id how source text = record { id = id; values = text ∷ []; count = None; source = Some source; reading = how }

-- the rules of options and flags as clap fills them in
abbrev pub option_rule : Text → Rule
option_rule name = filled (value_rule name)

abbrev pub brief_rule : Rule
brief_rule = filled (flag_rule (codes "brief"))

-- how clap reads the texts of an option
abbrev pub option_reading : PlainOption → Reading
option_reading (apart option value) = reading_by (option_rule (valued_name option))
option_reading (joined option value) = reading_by (option_rule (valued_name option))
option_reading brief = reading_by brief_rule

-- the row of an option
abbrev pub option_row : PlainOption → Row
option_row o = text_row (option_name o) (option_reading o) CommandLine (option_value o)

-- ---- rows without an id

pub row_behind : (id : Text) (change : Row → List Row) (missing found : List Row) → has_row id found ≡ false → at_row id change missing found ≡ found ++ missing
row_behind id change missing [] e = refl
row_behind id change missing (r ∷ rs) e =
    let parts : (bytes_eq r.id id ≡ false) × (has_row id rs ≡ false) = or_parts (bytes_eq r.id id) (has_row id rs) e in
    rw parts.0 (ap (λ xs. r ∷ xs) (row_behind id change missing rs parts.1))

pub without_same : (id : Text) (found : List Row) → has_row id found ≡ false → without id found ≡ found
without_same id found e = row_behind id (λ _. []) [] found e ∙ append-nil found

-- a text of an id that has no row makes one, behind the others
pub new_row : (id : Text) (how : Reading) (source : ValueSource) (text : Text) (found : List Row) → has_row id found ≡ false →
    with_values id how source (text ∷ []) (without id found) ≡ found ++ text_row id how source text ∷ []
new_row id how source text found e =
    ap (with_values id how source (text ∷ [])) (without_same id found e) ∙ row_behind id (more_values source (text ∷ [])) (text_row id how source text ∷ []) found e

pub has_row-append : (id : Text) (found more : List Row) → has_row id found ≡ false → has_row id more ≡ false → has_row id (found ++ more) ≡ false
has_row-append id [] more e f = f
has_row-append id (r ∷ rs) more e f =
    let parts : (bytes_eq r.id id ≡ false) × (has_row id rs ≡ false) = or_parts (bytes_eq r.id id) (has_row id rs) e in
    rw parts.0 (has_row-append id rs more parts.1 f)

-- ---- texts of rows

-- the first text of an id in rows of options, and where they have none that in the rows behind
pub first_of_options : (id : Text) (options : List PlainOption) (more : List Row) → first_of id (map option_row options ++ more) ≡ option_or (option_value_at id options) (first_of id more)
first_of_options id [] more = refl
first_of_options id (o ∷ options) more = at (bytes_eq (option_name o) id) (first_of_options id options more)
  where
    at : (b : Bool) → first_of id (map option_row options ++ more) ≡ option_or (option_value_at id options) (first_of id more) →
        option_and_then (λ (r : Row). slice_get r.values 0) (cond b (Some (option_row o)) (find (λ r. bytes_eq r.id id) (map option_row options ++ more)))
        ≡ option_or (option_map option_value (cond b (Some o) (find (λ option. bytes_eq (option_name option) id) options))) (first_of id more)
    at true rest = refl
    at false rest = rest

-- an option with a row is there
pub value_of_row : (id : Text) (options : List PlainOption) → has_row id (map option_row options) ≡ true → is_some (option_value_at id options) ≡ true
value_of_row id [] e = e
value_of_row id (o ∷ options) e = at (bytes_eq (option_name o) id) e (value_of_row id options)
  where
    at : (b : Bool) → (b || has_row id (map option_row options)) ≡ true → (has_row id (map option_row options) ≡ true → is_some (option_value_at id options) ≡ true) →
        is_some (option_map option_value (cond b (Some o) (find (λ option. bytes_eq (option_name option) id) options))) ≡ true
    at true e rest = refl
    at false e rest = rest e

-- no option is named as the second place
other_name : (o : PlainOption) → bytes_eq (option_name o) (codes "points") ≡ false
other_name (apart degree value) = refl
other_name (apart rows value) = refl
other_name (apart workers value) = refl
other_name (apart window value) = refl
other_name (joined degree value) = refl
other_name (joined rows value) = refl
other_name (joined workers value) = refl
other_name (joined window value) = refl
other_name brief = refl

pub no_such_option : (options : List PlainOption) → option_value_at (codes "points") options ≡ None
no_such_option [] = refl
no_such_option (o ∷ options) = rw (other_name o) (no_such_option options)
