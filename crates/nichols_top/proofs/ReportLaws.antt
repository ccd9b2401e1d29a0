-- Command lines that differ in workers and window alone have one report.
use Rattle.std.proofs.Common.{◌≡◌, ℕ, Bool, true, false, cond, List, refl, sym, ◌∙◌, ap, subst, Option, Some, None, Result, Ok, Err, bytes_eq, codes}
use Rattle.std.specs.Prelude.{IsSome, option_and_then, option_map, unwrap_or}
use Rattle.nichols_tensor.specs.Words.{up_to}
use Rattle.nichols_braid.specs.declared.TheConstants.{MOST_DEGREES, MOST_ROWS, POINTS_LEAST, POINTS_MOST}
use Rattle.nichols_braid.specs.Points.{points_braid}
use Rattle.nichols_command.specs.Command.{all_numbers, command_named, command_of, command_of_texts, is_set, named_texts, of_points, options_of, without_points}
use Rattle.nichols_command.specs.Numbers.{in_range, option_number, short_number}
use Rattle.nichols_command.specs.Texts.{Texts}
use Rattle.nichols_command.specs.declared.command.Command.{Command}
use Rattle.nichols_command.specs.declared.command.Command.TheVariants.{OnDocument, Points}
use Rattle.nichols_command.specs.declared.command.Options.{Options}
use Rattle.nichols_command.specs.declared.command.Task.{Task}
use Rattle.nichols_command.specs.declared.command.Task.TheVariants.{Algebra, Reduce, Symmetrize, Product, Table, Cover}
use Rattle.nichols_command.specs.declared.limits.TheConstants.{DEGREE_DEFAULT, ROWS_DEFAULT, WINDOW_DEFAULT, WINDOW_MOST, WORKERS_DEFAULT, WORKERS_MOST}
use Rattle.nichols_input.specs.declared.TheConstants.{DOCUMENT_LIMIT}
use Rattle.nichols_input.specs.Document.{DocumentValue, document_in}
use Rattle.nichols_input.specs.Refusal.{Refusal}
use Rattle.nichols_text.specs.Refusals.{too_long_text}
use Rattle.nichols_top.specs.Algebra.{Scope, algebra_due, in_brief, scope_of}
use Rattle.nichols_top.specs.Cover.{cover_due}
use Rattle.nichols_top.specs.Due.{command_due, due, due_under, is_too_long, task_due, unless_refused}
use Rattle.nichols_top.specs.Product.{product_due}
use Rattle.nichols_top.specs.Reduce.{reduce_due}
use Rattle.nichols_top.specs.Report.{line_report}
use Rattle.nichols_top.specs.Table.{table_due}
use Rattle.nichols_top.specs.declared.status.Status.TheVariants.{Refused}
use Rattle.nichols_top.specs.Laws.{DifferInWorkersAndWindow, WorkersAndWindowLeaveTheReport}

-- ---- one report

-- two commands, or none, have one report for each document
record HaveOneReport (a b : Option Command) : Type 0 where
  same : (document : List ℕ) → due_under a document ≡ due_under b document

none_alike : HaveOneReport None None
none_alike = record { same = λ document. refl }

either : {x y more rest : Option Command} (b : Bool) → HaveOneReport x y → HaveOneReport more rest → HaveOneReport (cond b x more) (cond b y rest)
either true first second = first
either false first second = second

-- two tasks, by their reports of a document that isn't refused
one_task : (t u : Task) → ((document : DocumentValue) → task_due t document ≡ task_due u document) → HaveOneReport (Some (OnDocument t)) (Some (OnDocument u))
unfolding command_due
one_task t u same = record { same = λ document. ap (cond (is_too_long (Some DOCUMENT_LIMIT) document) (line_report too_long_text Refused)) (at (document_in document)) }
  where
    at : (r : Result DocumentValue Refusal) → unless_refused (task_due t) r ≡ unless_refused (task_due u) r
    at (Ok d) = same d
    at (Err refusal) = refl

one_without : (points : Option (List ℕ)) (t u : Task) → ((document : DocumentValue) → task_due t document ≡ task_due u document) → HaveOneReport (without_points points t) (without_points points u)
one_without None t u same = one_task t u same
one_without (Some points) t u same = none_alike

-- two commands of a number of points, by their scopes
one_of_points : (points : Option (List ℕ)) (x y : Options) → scope_of x ≡ scope_of y → HaveOneReport (of_points points x) (of_points points y)
unfolding command_due
one_of_points None x y same = none_alike
one_of_points (Some text) x y same = at (option_and_then (in_range POINTS_LEAST POINTS_MOST) (short_number text))
  where
    at : (o : Option ℕ) → HaveOneReport (option_map (λ k. Points k x) o) (option_map (λ k. Points k y) o)
    at None = none_alike
    at (Some k) = record { same = λ document. ap (λ (s : Scope). algebra_due (points_braid k) (up_to (points_braid k).letters) (in_brief s)) same }

-- two commands of one name and one number of points, by their scopes
one_named : (name : List ℕ) (points : Option (List ℕ)) (x y : Options) → scope_of x ≡ scope_of y → HaveOneReport (command_named name points x) (command_named name points y)
unfolding task_due
one_named name points x y same =
    either (bytes_eq name (codes "algebra")) (one_without points (Algebra x) (Algebra y) (λ d. ap (λ (s : Scope). algebra_due d.braid d.order s) same))
    (either (bytes_eq name (codes "reduce")) (one_without points (Reduce x) (Reduce y) (λ d. ap (λ (s : Scope). reduce_due d s) same))
    (either (bytes_eq name (codes "symmetrize")) (one_without points Symmetrize Symmetrize (λ d. refl))
    (either (bytes_eq name (codes "product")) (one_without points (Product x) (Product y) (λ d. ap (λ (s : Scope). product_due d s) same))
    (either (bytes_eq name (codes "table")) (one_without points (Table x) (Table y) (λ d. ap (λ (s : Scope). table_due d.braid d.order s) same))
    (either (bytes_eq name (codes "cover")) (one_without points (Cover x) (Cover y) (λ d. ap (λ (s : Scope). cover_due d.braid d.order s) same))
    (either (bytes_eq name (codes "points")) (one_of_points points x y same) none_alike))))))

-- ---- one scope

-- the options of some numbers, where they are there
scope_is : (degree rows workers window : Option ℕ) (brief : Bool) (x : Options) → all_numbers degree rows workers window brief ≡ Some x →
    let scope : Scope = record { degree_limit = unwrap_or degree 0; rows_limit = unwrap_or rows 0; brief = brief } in scope_of x ≡ scope
scope_is (Some degree) (Some rows) (Some workers) (Some window) brief x e =
    let given : Options = record { degree_limit = degree; rows_limit = rows; workers = workers; window = window; brief = brief } in
    let same : given ≡ x = (let t : Some given ≡ Some x = e in cc) in
    sym (ap scope_of same)
scope_is None rows workers window brief x e = let c : None ≡ Some x = e in cc
scope_is (Some degree) None workers window brief x e = let c : None ≡ Some x = e in cc
scope_is (Some degree) (Some rows) None window brief x e = let c : None ≡ Some x = e in cc
scope_is (Some degree) (Some rows) (Some workers) None brief x e = let c : None ≡ Some x = e in cc

-- the scope of the texts of the degree limit, the rows limit and the flag
abbrev scope_by : Option (List ℕ) → Option (List ℕ) → Option (List ℕ) → Scope
scope_by degree rows brief = record {
  degree_limit = unwrap_or (option_number 0 MOST_DEGREES DEGREE_DEFAULT degree) 0;
  rows_limit = unwrap_or (option_number 1 MOST_ROWS ROWS_DEFAULT rows) 0;
  brief = is_set brief;
}

scope_of_texts : (texts : Texts) (x : Options) → options_of texts ≡ Some x → scope_of x ≡ scope_by texts.degree texts.rows texts.brief
scope_of_texts texts x e =
    scope_is (option_number 0 MOST_DEGREES DEGREE_DEFAULT texts.degree) (option_number 1 MOST_ROWS ROWS_DEFAULT texts.rows) (option_number 1 WORKERS_MOST WORKERS_DEFAULT texts.workers)
    (option_number 1 WINDOW_MOST WINDOW_DEFAULT texts.window) (is_set texts.brief) x e

same_scope : (texts others : Texts) → DifferInWorkersAndWindow texts others → (x y : Options) → options_of texts ≡ Some x → options_of others ≡ Some y → scope_of x ≡ scope_of y
same_scope texts others h x y e f =
    scope_of_texts texts x e ∙ ap (λ o. scope_by o texts.rows texts.brief) h.degree ∙ ap (λ o. scope_by others.degree o texts.brief) h.rows ∙ ap (λ o. scope_by others.degree others.rows o) h.brief
    ∙ sym (scope_of_texts others y f)

-- ---- the law

alike : (name points : Option (List ℕ)) (o p : Option Options) → ((x y : Options) → o ≡ Some x → p ≡ Some y → scope_of x ≡ scope_of y) → IsSome (named_texts name points o) → IsSome (named_texts name points p) →
    HaveOneReport (named_texts name points o) (named_texts name points p)
alike (Some name) points (Some x) (Some y) same one two = one_named name points x y (same x y refl refl)
alike (Some name) points None p same one two = let c : false ≡ true = one in cc
alike (Some name) points (Some x) None same one two = let c : false ≡ true = two in cc
alike None points o p same one two = let c : false ≡ true = one in cc

of_texts : (texts others : Texts) → DifferInWorkersAndWindow texts others → IsSome (command_of_texts texts) → IsSome (command_of_texts others) → HaveOneReport (command_of_texts texts) (command_of_texts others)
of_texts texts others h one two =
    subst (λ name. IsSome (named_texts name texts.points (options_of texts)) → HaveOneReport (named_texts name texts.points (options_of texts)) (command_of_texts others)) (sym h.command)
    (subst (λ points. IsSome (named_texts others.command points (options_of texts)) → HaveOneReport (named_texts others.command points (options_of texts)) (command_of_texts others)) (sym h.points)
    (λ first. alike others.command others.points (options_of texts) (options_of others) (same_scope texts others h) first two))
    one

pub workers_and_window_leave_the_report : WorkersAndWindowLeaveTheReport
unfolding command_of due
workers_and_window_leave_the_report words more texts others a b one two h document =
    let here : command_of words ≡ command_of_texts texts = ap (option_and_then command_of_texts) a in
    let there : command_of more ≡ command_of_texts others = ap (option_and_then command_of_texts) b in
    let same : HaveOneReport (command_of_texts texts) (command_of_texts others) = of_texts texts others h (subst IsSome here one) (subst IsSome there two) in
    ap (λ c. due_under c document) here ∙ same.same document ∙ ap (λ c. due_under c document) (sym there)
