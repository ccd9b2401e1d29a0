-- The walk of clap over the words of a plain line.
use Rattle.std.proofs.Common.{◌≡◌, ◌==◌, ℕ, true, false, refl, sym, ◌∙◌, ap, ap₂, List, [], ◌∷◌, ◌++◌, map, codes, subst, ◌||◌, append-nil, append_assoc, Option, Some, None}
use Rattle.std.proofs.lemmas.Bool.{not-true}
use Rattle.std.specs.Prelude.{fold}
use Rattle.std.specs.List.{flat_map, AllByRecursion, IsDistinct}
use Rattle.std.specs.Str.{bytes_eq}
use Rattle.clap.specs.Lexer.{long_of, short_of}
use Rattle.clap.specs.Walk.{Row, Rule, Text, Held, Walk, Waiting, idle, option, walk_from, nothing_held, has_row, reading_by, settled_rows, walked, arg_by_long, arg_by_id, arg_by_index}
use Rattle.clap.specs.Simple.{Shape, built, filled, with_index}
use Rattle.clap.specs.Faults.{settle_fault, turn_fault, walk_fault}
use Rattle.clap.specs.Kinds.{Kinds, or_else}
use Rattle.clap.specs.declared.parser.matches.ValueSource.TheVariants.{CommandLine}
use Rattle.nichols_command.specs.Texts.{nichols_app, command_rule, points_rule}
use Rattle.nichols_command.specs.PlainForm.{Valued, degree, rows, workers, window, PlainOption, apart, joined, brief, valued_name, option_name, option_words, option_value, is_value, PlainLine, IsPlain, line_words, optional_word}
use Rattle.nichols_command.proofs.PlainRows.{option_rule, brief_rule, text_row, option_row, new_row, has_row-append}

-- ---- the command as it is built

unfoldable pub shape : Shape
shape = (built nichols_app).top

abbrev pub command_place : Rule
command_place = with_index 1 (filled command_rule)

abbrev pub points_place : Rule
points_place = with_index 2 (filled points_rule)

pub once_only : shape.args_override_self ≡ false
unfolding shape
once_only = refl

long_is : (v : Valued) → arg_by_long shape.rules (valued_name v) ≡ Some (option_rule (valued_name v))
unfolding shape
long_is degree = refl
long_is rows = refl
long_is workers = refl
long_is window = refl

id_is : (v : Valued) → arg_by_id shape.rules (valued_name v) ≡ Some (option_rule (valued_name v))
unfolding shape
id_is degree = refl
id_is rows = refl
id_is workers = refl
id_is window = refl

long_brief : arg_by_long shape.rules (codes "brief") ≡ Some brief_rule
unfolding shape
long_brief = refl

first_place : arg_by_index shape.rules 1 ≡ Some command_place
unfolding shape
first_place = refl

second_place : arg_by_index shape.rules 2 ≡ Some points_place
unfolding shape
second_place = refl

command_id : arg_by_id shape.rules (codes "command") ≡ Some command_place
unfolding shape
command_id = refl

points_id : arg_by_id shape.rules (codes "points") ≡ Some points_place
unfolding shape
points_id = refl

-- ---- words

apart_long : (v : Valued) → (bytes_eq (codes "--" ++ valued_name v) (codes "--") ≡ false) × (long_of (codes "--" ++ valued_name v) ≡ Some (valued_name v, None))
apart_long degree = (refl, refl)
apart_long rows = (refl, refl)
apart_long workers = (refl, refl)
apart_long window = (refl, refl)

joined_long : (v : Valued) (text : Text) → (bytes_eq (codes "--" ++ valued_name v ++ codes "=" ++ text) (codes "--") ≡ false) × (long_of (codes "--" ++ valued_name v ++ codes "=" ++ text) ≡ Some (valued_name v, Some text))
joined_long degree text = (refl, refl)
joined_long rows text = (refl, refl)
joined_long workers text = (refl, refl)
joined_long window text = (refl, refl)

same_name : (v : Valued) → bytes_eq (valued_name v) (valued_name v) ≡ true
same_name degree = refl
same_name rows = refl
same_name workers = refl
same_name window = refl

-- a value is no flag
value_is_plain : (text : Text) → is_value text ≡ true → (bytes_eq text (codes "--") ≡ false) × (long_of text ≡ None) × (short_of text ≡ None)
value_is_plain [] e = absurd (let bad : false ≡ true = e in cc)
value_is_plain (c ∷ text) e = let other : (c == 45) ≡ false = not-true (c == 45) e in (rw other refl, rw other refl, rw other refl)

-- ---- places in the walk

abbrev pub holding : List Row → Option (Text × List Text) → Held
holding found pending = record { rows = found; pending = pending; skip = 0 }

abbrev pub place : List Row → Option (Text × List Text) → Waiting → ℕ → Walk
place found pending waiting k = record { held = holding found pending; waiting = waiting; position = k; is_trailing = false; stopped = None }

-- what is pending may be used, and leaves these rows
pub record IsSettled (found : List Row) (pending : Option (Text × List Text)) (all : List Row) : Type 0 where
  pub fault : settle_fault shape.rules false (holding found pending) ≡ []
  pub rows_are : settled_rows shape.rules pending found ≡ all

-- the walk goes over a word without a fault
pub record GoesOver (before : Walk) (word : Text) (after : Walk) : Type 0 where
  pub fault : turn_fault shape [] before word ≡ []
  pub walk_is : walked shape.rules [] before word ≡ after

-- the walk goes over words without a fault
pub record GoesOverAll (before : Walk) (words : List Text) (after : Walk) : Type 0 where
  pub fault : walk_fault shape [] before words ≡ []
  pub walk_is : fold (walked shape.rules []) before words ≡ after

pub over_none : (w : Walk) → GoesOverAll w [] w
unfolding walk_fault
over_none w = record { fault = refl; walk_is = refl }

pub over_more : (before next after : Walk) (word : Text) (words : List Text) → GoesOver before word next → GoesOverAll next words after → GoesOverAll before (word ∷ words) after
unfolding walk_fault
over_more before next after word words one all = record {
  fault = ap₂ or_else one.fault (ap (λ w. walk_fault shape [] w words) one.walk_is ∙ all.fault);
  walk_is = ap (λ w. fold (walked shape.rules []) w words) one.walk_is ∙ all.walk_is;
}

both_empty : (first next : Kinds) → or_else first next ≡ [] → (first ≡ []) × (next ≡ [])
both_empty [] next e = (refl, e)
both_empty (k ∷ ks) next e = absurd (let bad : k ∷ ks ≡ [] = e in cc)

over_append : (before next after : Walk) (words more : List Text) → GoesOverAll before words next → GoesOverAll next more after → GoesOverAll before (words ++ more) after
unfolding walk_fault
over_append before next after [] more one two = subst (λ w. GoesOverAll w more after) (sym one.walk_is) two
over_append before next after (word ∷ words) more one two =
    let parts : (turn_fault shape [] before word ≡ []) × (walk_fault shape [] (walked shape.rules [] before word) words ≡ []) = both_empty (turn_fault shape [] before word) _ one.fault in
    over_more before (walked shape.rules [] before word) after word (words ++ more) (record { fault = parts.0; walk_is = refl })
    (over_append (walked shape.rules [] before word) next after words more (record { fault = parts.1; walk_is = one.walk_is }) two)

-- ---- one word

over_name : (v : Valued) (found : List Row) (pending : Option (Text × List Text)) (all : List Row) (k : ℕ) → IsSettled found pending all →
    GoesOver (place found pending idle k) (codes "--" ++ valued_name v) (place all (Some (valued_name v, [])) (option (valued_name v)) k)
unfolding walked
over_name v found pending all k is = record {
  fault = rw ((apart_long v).0, (apart_long v).1, long_is v, once_only, is.fault) refl;
  walk_is = rw ((apart_long v).0, (apart_long v).1, long_is v, is.rows_are) refl;
}

over_value : (v : Valued) (text : Text) (found : List Row) (k : ℕ) → is_value text ≡ true →
    GoesOver (place found (Some (valued_name v, [])) (option (valued_name v)) k) text (place found (Some (valued_name v, text ∷ [])) idle k)
unfolding walked
over_value v text found k e = let plain = value_is_plain text e in record {
  fault = rw (plain.0, plain.1, plain.2) refl;
  walk_is = rw (plain.0, plain.1, plain.2, id_is v, same_name v) refl;
}

over_joined : (v : Valued) (text : Text) (found : List Row) (pending : Option (Text × List Text)) (all : List Row) (k : ℕ) → IsSettled found pending all → has_row (valued_name v) all ≡ false →
    GoesOver (place found pending idle k) (codes "--" ++ valued_name v ++ codes "=" ++ text) (place (all ++ option_row (joined v text) ∷ []) None idle k)
unfolding walked
over_joined v text found pending all k is free = record {
  fault = rw ((joined_long v text).0, (joined_long v text).1, long_is v, once_only, is.fault, is.rows_are, free) refl;
  walk_is = rw ((joined_long v text).0, (joined_long v text).1, long_is v, is.rows_are, new_row (valued_name v) (reading_by (option_rule (valued_name v))) CommandLine text all free) refl;
}

over_brief : (found : List Row) (pending : Option (Text × List Text)) (all : List Row) (k : ℕ) → IsSettled found pending all → has_row (codes "brief") all ≡ false →
    GoesOver (place found pending idle k) (codes "--brief") (place (all ++ option_row brief ∷ []) None idle k)
unfolding walked
over_brief found pending all k is free = record {
  fault = rw (long_brief, once_only, is.fault, is.rows_are, free) refl;
  walk_is = rw (long_brief, is.rows_are, new_row (codes "brief") (reading_by brief_rule) CommandLine (codes "true") all free) refl;
}

-- ---- what is pending

settled_already : (found : List Row) → IsSettled found None found
settled_already found = record { fault = refl; rows_are = refl }

-- a value that is pending makes a row
settled_value : (v : Valued) (text : Text) (found : List Row) → has_row (valued_name v) found ≡ false → IsSettled found (Some (valued_name v, text ∷ [])) (found ++ option_row (apart v text) ∷ [])
settled_value v text found free = record {
  fault = rw (id_is v, free) refl;
  rows_are = rw (id_is v) (new_row (valued_name v) (reading_by (option_rule (valued_name v))) CommandLine text found free);
}

-- ---- options

-- where the walk is after words, and what is then settled
pub record Reaches (before : Walk) (words : List Text) (k : ℕ) (all : List Row) : Type 0 where
  pub found : List Row
  pub pending : Option (Text × List Text)
  pub over : GoesOverAll before words (place found pending idle k)
  pub is : IsSettled found pending all

over_option : (o : PlainOption) (found : List Row) (pending : Option (Text × List Text)) (all : List Row) (k : ℕ) → IsSettled found pending all → is_value (option_value o) ≡ true → has_row (option_name o) all ≡ false →
    Reaches (place found pending idle k) (option_words o) k (all ++ option_row o ∷ [])
over_option (apart v text) found pending all k is value free = record {
  found = all;
  pending = Some (valued_name v, text ∷ []);
  over = over_more _ _ _ _ _ (over_name v found pending all k is) (over_more _ _ _ _ _ (over_value v text all k value) (over_none _));
  is = settled_value v text all free;
}
over_option (joined v text) found pending all k is value free = record {
  found = all ++ option_row (joined v text) ∷ [];
  pending = None;
  over = over_more _ _ _ _ _ (over_joined v text found pending all k is free) (over_none _);
  is = settled_already _;
}
over_option brief found pending all k is value free = record {
  found = all ++ option_row brief ∷ [];
  pending = None;
  over = over_more _ _ _ _ _ (over_brief found pending all k is free) (over_none _);
  is = settled_already _;
}

reached : (before : Walk) (words : List Text) (k : ℕ) (all all2 : List Row) → all ≡ all2 → Reaches before words k all → Reaches before words k all2
reached before words k all all2 e r = subst (Reaches before words k) e r

reaches_more : (before : Walk) (words more : List Text) (k : ℕ) (all all2 : List Row) → (r : Reaches before words k all) → Reaches (place r.found r.pending idle k) more k all2 → Reaches before (words ++ more) k all2
reaches_more before words more k all all2 r next = record {
  found = next.found;
  pending = next.pending;
  over = over_append before (place r.found r.pending idle k) (place next.found next.pending idle k) words more r.over next.over;
  is = next.is;
}

-- options that have no row yet have none behind the row of another
free_behind : (o : PlainOption) (options : List PlainOption) (all : List Row) → AllByRecursion (λ p. has_row (option_name p) all ≡ false) options → AllByRecursion (λ name. bytes_eq (option_name o) name ≡ false) (map option_name options) →
    AllByRecursion (λ p. has_row (option_name p) (all ++ option_row o ∷ []) ≡ false) options
free_behind o [] all free other = tt
free_behind o (p ∷ options) all free other = (
  has_row-append (option_name p) all (option_row o ∷ []) free.0 (ap (λ b. b || false) other.0),
  free_behind o options all free.1 other.1,
)

over_options : (options : List PlainOption) (found : List Row) (pending : Option (Text × List Text)) (all : List Row) (k : ℕ) → IsSettled found pending all →
    AllByRecursion (λ o. is_value (option_value o) ≡ true) options → AllByRecursion (λ o. has_row (option_name o) all ≡ false) options → IsDistinct bytes_eq (map option_name options) →
    Reaches (place found pending idle k) (flat_map option_words options) k (all ++ map option_row options)
unfolding IsDistinct
over_options [] found pending all k is values free once =
    reached _ _ k all _ (sym (append-nil all)) (record { found = found; pending = pending; over = over_none _; is = is })
over_options (o ∷ options) found pending all k is values free once =
    let one : Reaches (place found pending idle k) (option_words o) k (all ++ option_row o ∷ []) = over_option o found pending all k is values.0 free.0 in
    let rest : Reaches (place one.found one.pending idle k) (flat_map option_words options) k ((all ++ option_row o ∷ []) ++ map option_row options) =
    over_options options one.found one.pending (all ++ option_row o ∷ []) k one.is values.1 (free_behind o options all free.1 once.0) once.1 in
    reached _ _ k _ _ (append_assoc all (option_row o ∷ []) (map option_row options)) (reaches_more _ (option_words o) (flat_map option_words options) k _ _ one rest)

-- ---- the two places

abbrev pub command_row : Text → Row
command_row text = text_row (codes "command") (reading_by command_place) CommandLine text

abbrev pub points_row : Text → Row
points_row text = text_row (codes "points") (reading_by points_place) CommandLine text

abbrev pub points_rows : Option Text → List Row
points_rows None = []
points_rows (Some text) = points_row text ∷ []

over_command : (text : Text) → is_value text ≡ true → GoesOver (walk_from nothing_held) text (place [] (Some (codes "command", text ∷ [])) idle 2)
unfolding walked
over_command text e = let plain = value_is_plain text e in record {
  fault = rw (plain.0, plain.1, plain.2, first_place) refl;
  walk_is = rw (plain.0, plain.1, plain.2, first_place) refl;
}

settled_command : (text : Text) → IsSettled [] (Some (codes "command", text ∷ [])) (command_row text ∷ [])
settled_command text = record { fault = rw command_id refl; rows_are = rw command_id refl }

over_points : (command text : Text) → is_value text ≡ true → GoesOver (place [] (Some (codes "command", command ∷ [])) idle 2) text (place (command_row command ∷ []) (Some (codes "points", text ∷ [])) idle 3)
unfolding walked
over_points command text e = let plain = value_is_plain text e in record {
  fault = rw (plain.0, plain.1, plain.2, second_place, command_id) refl;
  walk_is = rw (plain.0, plain.1, plain.2, second_place, command_id) refl;
}

settled_points : (command text : Text) → IsSettled (command_row command ∷ []) (Some (codes "points", text ∷ [])) (command_row command ∷ points_row text ∷ [])
settled_points command text = record { fault = rw points_id refl; rows_are = rw points_id refl }

-- how many words stand before the options, and one
abbrev pub next_place : Option Text → ℕ
next_place None = 2
next_place (Some text) = 3

over_places : (command : Text) (points : Option Text) → is_value command ≡ true → AllByRecursion (λ word. is_value word ≡ true) (optional_word points) →
    Reaches (walk_from nothing_held) (command ∷ optional_word points) (next_place points) (command_row command ∷ points_rows points)
over_places command None e es = record {
  found = [];
  pending = Some (codes "command", command ∷ []);
  over = over_more _ _ _ _ _ (over_command command e) (over_none _);
  is = settled_command command;
}
over_places command (Some points) e es = record {
  found = command_row command ∷ [];
  pending = Some (codes "points", points ∷ []);
  over = over_more _ _ _ _ _ (over_command command e) (over_more _ _ _ _ _ (over_points command points es.0) (over_none _));
  is = settled_points command points;
}

-- no option has a row yet
free_places : (command : Text) (points : Option Text) (options : List PlainOption) → AllByRecursion (λ o. has_row (option_name o) (command_row command ∷ points_rows points) ≡ false) options
free_places command points [] = tt
free_places command points (o ∷ options) = (free_place points o, free_places command points options)
  where
    free_place : (points : Option Text) (o : PlainOption) → has_row (option_name o) (command_row command ∷ points_rows points) ≡ false
    free_place None (apart degree value) = refl
    free_place None (apart rows value) = refl
    free_place None (apart workers value) = refl
    free_place None (apart window value) = refl
    free_place None (joined degree value) = refl
    free_place None (joined rows value) = refl
    free_place None (joined workers value) = refl
    free_place None (joined window value) = refl
    free_place None brief = refl
    free_place (Some text) (apart degree value) = refl
    free_place (Some text) (apart rows value) = refl
    free_place (Some text) (apart workers value) = refl
    free_place (Some text) (apart window value) = refl
    free_place (Some text) (joined degree value) = refl
    free_place (Some text) (joined rows value) = refl
    free_place (Some text) (joined workers value) = refl
    free_place (Some text) (joined window value) = refl
    free_place (Some text) brief = refl

-- the whole line is gone over, and leaves a row for each word and each option
pub over_line : (line : PlainLine) → IsPlain line → Reaches (walk_from nothing_held) (line_words line) (next_place line.points) (command_row line.command ∷ points_rows line.points ++ map option_row line.options)
over_line line plain =
    let k = next_place line.points in
    let places : Reaches (walk_from nothing_held) (line.command ∷ optional_word line.points) k (command_row line.command ∷ points_rows line.points) = over_places line.command line.points plain.command plain.points in
    let options : Reaches (place places.found places.pending idle k) (flat_map option_words line.options) k ((command_row line.command ∷ points_rows line.points) ++ map option_row line.options) =
    over_options line.options places.found places.pending (command_row line.command ∷ points_rows line.points) k places.is plain.options (free_places line.command line.points line.options) plain.once in
    reaches_more _ (line.command ∷ optional_word line.points) (flat_map option_words line.options) k _ _ places options
