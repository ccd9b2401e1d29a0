use Rattle.std.proofs.Common.{◌≡◌, ◌∙◌, ap, codes}
use Rattle.clap.specs.Walk.{Text}
use Rattle.clap.specs.Simple.{App, with_rule}
use Rattle.nichols_command.specs.Texts.{value_rule, flag_rule}
use Rattle.nichols_command.proofs.words.nichols_command.Goals as goal

-- an option behind what a command is
option_more : {a b c : App} (name : Text) → c ≡ with_rule b (value_rule name) → b ≡ a → c ≡ with_rule a (value_rule name)
option_more name e before = e ∙ ap (λ x. with_rule x (value_rule name)) before

pub returns : goal.returns
returns c =
    c.in_ok-whole.ensures
    ∙ ap (λ x. with_rule x (flag_rule (codes "brief")))
    (option_more (codes "window") c.in_ok-with_window.ensures
    (option_more (codes "workers") c.in_ok-with_workers.ensures
    (option_more (codes "rows") c.in_ok-with_rows.ensures (option_more (codes "degree") c.in_ok-with_degree.ensures c.in_ok-with_places.ensures))))
