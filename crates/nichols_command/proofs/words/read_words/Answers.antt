use Rattle.std.proofs.Common.{ap, ◌≡◌, ◌≢◌, ◌∙◌, sym, codes, refl, subst, true, map, option_map, List, ℕ, [], ◌∷◌, Some, None, ◌⊎◌, inl, inr}
use Rattle.clap.specs.Walk.{Row, Text, first_of, rows_of}
use Rattle.clap.specs.Matches.{found_of, first_value}
use Rattle.clap.specs.declared.parser.matches.ArgMatches.{ArgMatches}
use Rattle.std.specs.Borrow.{Bor}
use Rattle.std.specs.Prelude.{Option, string_bytes}
use Rattle.clap.specs.Simple.{app_of, is_simple, matches_of}
use Rattle.clap.specs.Faults.{fault_of, is_simple_and_free}
use Rattle.clap.specs.Kinds.{Kinds, IsAmong}
use Rattle.clap.specs.declared.error.kind.ErrorKind.{ErrorKind}
use Rattle.clap.specs.declared.error.kind.ErrorKind.TheVariants.{OutOfMemory}
use Rattle.clap.proofs.OnLiterals.{clap_on_literals}
use Rattle.clap.proofs.WalkLemmas.{first_value-rows}
use Rattle.nichols_command.specs.Texts.{nichols_app, Texts, texts_of, texts_of_rows, unless_fault}
use Rattle.nichols_command.proofs.words.read_words.Goals as goal

simple : is_simple nichols_app ≡ true
unfolding clap_on_literals
simple = refl

free : is_simple_and_free nichols_app ≡ true
unfolding clap_on_literals
free = refl

-- words without a fault have the texts of what was found
without_fault : (ws : List Text) (t : Texts) → fault_of nichols_app ws ≡ [] → t ≡ texts_of_rows (matches_of nichols_app ws) → Some t ≡ texts_of ws
unfolding texts_of
without_fault ws t e h = ap Some h ∙ sym (ap (λ k. unless_fault k (texts_of_rows (matches_of nichols_app ws))) e)

-- a kind other than memory is a fault of the words
some_fault : (kinds : Kinds) (k : ErrorKind) (t : Texts) → (k ≡ OutOfMemory) ⊎ IsAmong k kinds → k ≢ OutOfMemory → None ≡ unless_fault kinds t
some_fault [] k t (inl e) h = absurd (h e)
some_fault [] k t (inr e) h = absurd e
some_fault (x ∷ xs) k t e h = refl

with_fault : (ws : List Text) (k : ErrorKind) → (k ≡ OutOfMemory) ⊎ IsAmong k (fault_of nichols_app ws) → k ≢ OutOfMemory → None ≡ texts_of ws
unfolding texts_of
with_fault ws k e h = some_fault (fault_of nichols_app ws) k (texts_of_rows (matches_of nichols_app ws)) e h

text_of : Option (Bor (List ℕ)) → Option (List ℕ)
text_of = option_map (λ s. s.now)

-- the first values of what was found are the texts of its rows
given_rows : (m : ArgMatches) (rows : List Row) → rows_of (found_of m) ≡ rows → (command points degree row_limit workers window brief : Option (Bor (List ℕ))) →
    text_of command ≡ first_value (found_of m) (codes "command") → text_of points ≡ first_value (found_of m) (codes "points") →
    text_of degree ≡ first_value (found_of m) (codes "degree") → text_of row_limit ≡ first_value (found_of m) (codes "rows") →
    text_of workers ≡ first_value (found_of m) (codes "workers") → text_of window ≡ first_value (found_of m) (codes "window") →
    text_of brief ≡ first_value (found_of m) (codes "brief") →
    (let t : Texts = record { command = text_of command; points = text_of points; degree = text_of degree; rows = text_of row_limit; workers = text_of workers; window = text_of window; brief = text_of brief } in t) ≡ texts_of_rows rows
given_rows m rows e command points degree row_limit workers window brief h1 h2 h3 h4 h5 h6 h7 =
    let from : (id : List ℕ) → first_value (found_of m) id ≡ first_of id rows = λ id. first_value-rows (found_of m) id ∙ ap (first_of id) e in
    cc (h1 ∙ from (codes "command"), h2 ∙ from (codes "points"), h3 ∙ from (codes "degree"), h4 ∙ from (codes "rows"), h5 ∙ from (codes "workers"), h6 ∙ from (codes "window"), h7 ∙ from (codes "brief"))

pub returns-in-Ok : goal.returns-in-Ok
unfolding text_of
returns-in-Ok c =
    let ws : List Text = map string_bytes c.args.words.now in
    let app_is : app_of c.in_ok-command.command ≡ nichols_app = c.in_ok-command.ensures in
    let none : fault_of nichols_app ws ≡ [] = ap (λ a. fault_of a ws) (sym app_is) ∙ c.in-Ok.ensures.kinds (ap is_simple_and_free app_is ∙ free) in
    let rows : rows_of (found_of c.in-Ok.matches) ≡ matches_of nichols_app ws = (c.in-Ok.ensures.matches (ap is_simple app_is ∙ simple)).0 ∙ ap (λ a. matches_of a ws) app_is in
    without_fault ws _ none
    (given_rows c.in-Ok.matches _ rows c.get_str.result c.get_str-in-Ok.result c.get_str-in-Ok-2.result c.get_str-in-Ok-3.result c.get_str-in-Ok-4.result c.get_str-in-Ok-5.result c.get_str-in-Ok-6.result
    c.get_str.ensures c.get_str-in-Ok.ensures c.get_str-in-Ok-2.ensures c.get_str-in-Ok-3.ensures c.get_str-in-Ok-4.ensures c.get_str-in-Ok-5.ensures c.get_str-in-Ok-6.ensures)

pub returns : goal.returns
returns c =
    let ws : List Text = map string_bytes c.args.words.now in
    let app_is : app_of c.in_ok-command.command ≡ nichols_app = c.in_ok-command.ensures in
    with_fault ws c.in-Err.error.kind
    (subst (λ a. (c.in-Err.error.kind ≡ OutOfMemory) ⊎ IsAmong c.in-Err.error.kind (fault_of a ws)) app_is (c.in-Err.ensures.kinds (ap is_simple_and_free app_is ∙ free)))
    (λ e. c.in_default.not-OutOfMemory (c.kind.ensures ∙ e))
