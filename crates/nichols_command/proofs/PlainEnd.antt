-- What clap makes of a plain line after its walk.
use Rattle.std.proofs.Common.{◌≡◌, ℕ, Bool, cond, true, false, ◌||◌, refl, sym, ◌∙◌, ap, ap₂, List, [], ◌∷◌, ◌++◌, map, codes, append-nil, append_assoc, Option, Some, None}
use Rattle.std.proofs.lemmas.Bool.{or_right}
use Rattle.std.specs.Prelude.{fold, is_some, unwrap_or, option_and_then}
use Rattle.std.specs.Option.{option_or}
use Rattle.std.specs.List.{AllByRecursion}
use Rattle.clap.specs.Walk.{Row, Rule, Text, nothing_held, walk_from, has_row, is_empty, first_of, reading_by, with_default, more_values, rows_after}
use Rattle.clap.specs.Simple.{App, built, names_of, matches_of, filled, help_rule}
use Rattle.clap.specs.Faults.{fault_of, built_fault, default_fault, defaults_fault, check_fault}
use Rattle.clap.specs.Kinds.{Kinds, or_else}
use Rattle.clap.specs.declared.parser.matches.ValueSource.TheVariants.{DefaultValue}
use Rattle.nichols_command.specs.Texts.{nichols_app, texts_of, texts_of_rows, unless_fault}
use Rattle.nichols_command.specs.PlainForm.{Valued, degree, rows, workers, window, valued_name, PlainOption, option_value_at, PlainLine, IsPlain, line_words, line_texts, PlainLinesAreTaken, PlainLinesAreCommands}
use Rattle.nichols_command.specs.Command.{command_of, command_of_texts}
use Rattle.nichols_command.proofs.PlainRows.{option_rule, brief_rule, text_row, option_row, row_behind, first_of_options, value_of_row, no_such_option}
use Rattle.nichols_command.proofs.PlainWalk.{shape, command_place, points_place, Reaches, command_row, points_rows, once_only, over_line, next_place}

-- ---- defaults

kept_or_kept : (b : Bool) (found : List Row) → cond b found found ≡ found
kept_or_kept true found = refl
kept_or_kept false found = refl

nothing_more : (a : Rule) (found : List Row) → a.defaults ≡ [] → with_default found a ≡ found
nothing_more a found e = rw e (kept_or_kept (has_row a.id found) found)

-- the arguments without a default that stand before the flag
abbrev first_rules : List Rule
first_rules = command_place ∷ points_place ∷ map (λ v. option_rule (valued_name v)) (degree ∷ rows ∷ workers ∷ window ∷ [])

rules_are : shape.rules ≡ first_rules ++ brief_rule ∷ filled help_rule ∷ []
unfolding shape
rules_are = refl

fold_none : (rules more : List Rule) (found : List Row) → AllByRecursion (λ a. a.defaults ≡ []) rules → fold with_default found (rules ++ more) ≡ fold with_default found more
fold_none [] more found all = refl
fold_none (a ∷ rules) more found all = ap (λ f. fold with_default f (rules ++ more)) (nothing_more a found all.0) ∙ fold_none rules more found all.1

-- only the flag has a default
finished_rows : (found : List Row) → fold with_default found shape.rules ≡ with_default found brief_rule
finished_rows found =
    ap (fold with_default found) rules_are ∙ fold_none first_rules (brief_rule ∷ filled help_rule ∷ []) found (refl, (refl, (refl, (refl, (refl, (refl, tt))))))
    ∙ nothing_more (filled help_rule) (with_default found brief_rule) refl

abbrev HasNoFault : Rule → Type 0
HasNoFault a = (found : List Row) → default_fault found a ≡ []

no_default_no_fault : (a : Rule) → is_empty a.defaults ≡ true → HasNoFault a
no_default_no_fault a e found = rw (e, or_right (has_row a.id found) true refl) refl

flag_no_fault : HasNoFault brief_rule
flag_no_fault found = either (has_row (codes "brief") found)
  where
    nothing : Kinds
    nothing = []

    either : (b : Bool) → cond (b || false) nothing nothing ≡ nothing
    either true = refl
    either false = refl

no_faults : (rules : List Rule) → AllByRecursion HasNoFault rules → (found : List Row) → defaults_fault found rules ≡ []
unfolding defaults_fault
no_faults [] all found = refl
no_faults (a ∷ rules) all found = ap₂ or_else (all.0 found) (no_faults rules all.1 (with_default found a))

-- no default is at fault
no_default_fault : (found : List Row) → defaults_fault found shape.rules ≡ []
no_default_fault found =
    let end : AllByRecursion HasNoFault (brief_rule ∷ filled help_rule ∷ []) = (flag_no_fault, (no_default_no_fault (filled help_rule) refl, tt)) in
    ap (defaults_fault found) rules_are
    ∙ no_faults (first_rules ++ brief_rule ∷ filled help_rule ∷ []) (
      no_default_no_fault command_place refl,
      (
        no_default_no_fault points_place refl,
        (
          no_default_no_fault (option_rule (codes "degree")) refl,
          (no_default_no_fault (option_rule (codes "rows")) refl, (no_default_no_fault (option_rule (codes "workers")) refl, (no_default_no_fault (option_rule (codes "window")) refl, end))),
        ),
      ),
    )
    found

-- the flag's row where there is none
abbrev default_row : Row
default_row = text_row (codes "brief") (reading_by brief_rule) DefaultValue (codes "false")

abbrev with_flag_row : Bool → List Row → List Row
with_flag_row true found = found
with_flag_row false found = found ++ default_row ∷ []

flag_row_is : (b : Bool) (command : Text) (more : List Row) → has_row (codes "brief") more ≡ b → with_default (command_row command ∷ more) brief_rule ≡ command_row command ∷ with_flag_row b more
flag_row_is true command more e = rw e refl
flag_row_is false command more e = rw e (ap (λ found. command_row command ∷ found) (row_behind (codes "brief") (more_values DefaultValue (codes "false" ∷ [])) (default_row ∷ []) more e))

-- what is required is there
no_check_fault : (command : Text) (more : List Row) → check_fault shape (command_row command ∷ more) false ≡ []
unfolding shape
no_check_fault command more = refl

-- ---- the whole parse

abbrev built_app : App
built_app = record { top = shape; subs = [] }

built_is : built nichols_app ≡ built_app
unfolding shape
built_is = refl

-- the rows that clap leaves of a plain line's words and options
abbrev line_rows : PlainLine → List Row
line_rows line = points_rows line.points ++ map option_row line.options

abbrev has_flag : PlainLine → Bool
has_flag line = has_row (codes "brief") (line_rows line)

-- clap finds no fault where its walk goes over the words to rows with the required one
no_fault : (words : List Text) (k : ℕ) (command : Text) (more : List Row) (b : Bool) → has_row (codes "brief") more ≡ b → Reaches (walk_from nothing_held) words k (command_row command ∷ more) → built_fault built_app nothing_held words ≡ []
no_fault words k command more b flag r =
    rw (r.over.fault, r.over.walk_is, once_only, r.is.fault, r.is.rows_are)
    (ap₂ or_else (no_default_fault (command_row command ∷ more)) (ap (λ found. check_fault shape found false) (finished_rows (command_row command ∷ more) ∙ flag_row_is b command more flag) ∙ no_check_fault command (with_flag_row b more)))

pub no_line_fault : (line : PlainLine) → IsPlain line → fault_of nichols_app (line_words line) ≡ []
no_line_fault line plain =
    ap (λ app. built_fault app nothing_held (line_words line)) built_is
    ∙ no_fault (line_words line) (next_place line.points) line.command (line_rows line) (has_flag line) refl (over_line line plain)

-- ---- texts

nothing_else : (x : Option Text) → option_or x None ≡ x
nothing_else None = refl
nothing_else (Some text) = refl

-- what stands behind the rows of the words and options
abbrev behind : Bool → List Row
behind true = []
behind false = default_row ∷ []

with_behind : (b : Bool) (line : PlainLine) → with_flag_row b (line_rows line) ≡ points_rows line.points ++ (map option_row line.options ++ behind b)
with_behind true line = sym (append-nil (line_rows line)) ∙ append_assoc (points_rows line.points) (map option_row line.options) []
with_behind false line = append_assoc (points_rows line.points) (map option_row line.options) (default_row ∷ [])

-- an option's text isn't looked for in the two places, nor behind
valued_text : (v : Valued) (command : Text) (points : Option Text) (options : List PlainOption) (b : Bool) →
    first_of (valued_name v) (command_row command ∷ points_rows points ++ (map option_row options ++ behind b)) ≡ option_value_at (valued_name v) options
valued_text v command points options b =
    skipped v points (map option_row options ++ behind b) ∙ first_of_options (valued_name v) options (behind b) ∙ ap (option_or (option_value_at (valued_name v) options)) (none v b)
    ∙ nothing_else (option_value_at (valued_name v) options)
  where
    skipped : (v : Valued) (points : Option Text) (more : List Row) → first_of (valued_name v) (command_row command ∷ points_rows points ++ more) ≡ first_of (valued_name v) more
    skipped degree None more = refl
    skipped rows None more = refl
    skipped workers None more = refl
    skipped window None more = refl
    skipped degree (Some text) more = refl
    skipped rows (Some text) more = refl
    skipped workers (Some text) more = refl
    skipped window (Some text) more = refl

    none : (v : Valued) (b : Bool) → first_of (valued_name v) (behind b) ≡ None
    none v true = refl
    none degree false = refl
    none rows false = refl
    none workers false = refl
    none window false = refl

points_text : (command : Text) (points : Option Text) (options : List PlainOption) (b : Bool) → first_of (codes "points") (command_row command ∷ points_rows points ++ (map option_row options ++ behind b)) ≡ points
points_text command (Some text) options b = refl
points_text command None options b = first_of_options (codes "points") options (behind b) ∙ ap₂ option_or (no_such_option options) (none b)
  where
    none : (b : Bool) → first_of (codes "points") (behind b) ≡ None
    none true = refl
    none false = refl

flag_text : (command : Text) (points : Option Text) (options : List PlainOption) (b : Bool) → has_row (codes "brief") (points_rows points ++ map option_row options) ≡ b →
    first_of (codes "brief") (command_row command ∷ points_rows points ++ (map option_row options ++ behind b)) ≡ Some (unwrap_or (option_value_at (codes "brief") options) (codes "false"))
flag_text command points options b e = skipped points (map option_row options ++ behind b) ∙ first_of_options (codes "brief") options (behind b) ∙ told b (sym (row_skipped points (map option_row options)) ∙ e)
  where
    skipped : (points : Option Text) (more : List Row) → first_of (codes "brief") (command_row command ∷ points_rows points ++ more) ≡ first_of (codes "brief") more
    skipped None more = refl
    skipped (Some text) more = refl

    row_skipped : (points : Option Text) (more : List Row) → has_row (codes "brief") (points_rows points ++ more) ≡ has_row (codes "brief") more
    row_skipped None more = refl
    row_skipped (Some text) more = refl

    there : (x : Option Text) → is_some x ≡ true → option_or x None ≡ Some (unwrap_or x (codes "false"))
    there None e = absurd (let bad : false ≡ true = e in cc)
    there (Some text) e = refl

    default : (x : Option Text) → option_or x (Some (codes "false")) ≡ Some (unwrap_or x (codes "false"))
    default None = refl
    default (Some text) = refl

    told : (b : Bool) → has_row (codes "brief") (map option_row options) ≡ b → option_or (option_value_at (codes "brief") options) (first_of (codes "brief") (behind b)) ≡ Some (unwrap_or (option_value_at (codes "brief") options) (codes "false"))
    told true e = there (option_value_at (codes "brief") options) (value_of_row (codes "brief") options e)
    told false e = default (option_value_at (codes "brief") options)

texts_are : (command : Text) (points : Option Text) (options : List PlainOption) (b : Bool) → has_row (codes "brief") (points_rows points ++ map option_row options) ≡ b →
    texts_of_rows (command_row command ∷ points_rows points ++ (map option_row options ++ behind b)) ≡ line_texts (record { command = command; points = points; options = options })
texts_are command points options b e =
    let p = points_text command points options b in
    let d = valued_text degree command points options b in
    let r = valued_text rows command points options b in
    let k = valued_text workers command points options b in
    let w = valued_text window command points options b in
    let f = flag_text command points options b e in
    cc (p, d, r, k, w, f)

-- what clap found where its walk goes over the words
found_rows : (words : List Text) (k : ℕ) (all : List Row) → Reaches (walk_from nothing_held) words k all → matches_of nichols_app words ≡ fold with_default all shape.rules
found_rows words k all r = ap (λ (app : App). rows_after app.top.rules (names_of app) words) built_is ∙ rw (r.over.walk_is, r.is.rows_are) refl

line_rows_are : (line : PlainLine) → IsPlain line → matches_of nichols_app (line_words line) ≡ command_row line.command ∷ points_rows line.points ++ (map option_row line.options ++ behind (has_flag line))
line_rows_are line plain =
    found_rows (line_words line) (next_place line.points) (command_row line.command ∷ line_rows line) (over_line line plain)
    ∙ finished_rows (command_row line.command ∷ line_rows line) ∙ flag_row_is (has_flag line) line.command (line_rows line) refl
    ∙ ap (λ found. command_row line.command ∷ found) (with_behind (has_flag line) line)

pub plain_lines_are_taken : PlainLinesAreTaken
unfolding texts_of
plain_lines_are_taken line plain = (
  no_line_fault line plain,
  ap₂ unless_fault (no_line_fault line plain) (ap texts_of_rows (line_rows_are line plain) ∙ texts_are line.command line.points line.options (has_flag line) refl),
)

pub plain_lines_are_commands : PlainLinesAreCommands
unfolding command_of
plain_lines_are_commands line plain = ap (option_and_then command_of_texts) (plain_lines_are_taken line plain).1
