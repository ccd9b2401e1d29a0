use Rattle.std.proofs.Common.{rules, ap, ap₂, ◌≡◌, ◌∙◌, true}
use Rattle.clap.specs.Walk.{rule_of}
use Rattle.clap.specs.Simple.{App, app_of, app_of_fields, with_rule}
use Rattle.nichols_command.specs.Texts.{command_rule, points_rule, no_name_app}
use Rattle.nichols_command.proofs.words.places_command.Goals as goal

without_name : App → App
without_name a = record a { top = record a.top { no_binary_name = true } }

pub returns : goal.returns
unfolding without_name
returns c =
    let command_is : rule_of c.required-command_arg.result ≡ command_rule = search rules in
    let points_is : rule_of c.new-points_arg.result ≡ points_rule = search rules in
    let named_is : app_of c.no_binary_name-named.result ≡ no_name_app = ap app_of_fields c.no_binary_name-named.ensures ∙ ap without_name c.new-2.ensures.app in
    c.in_ok-with_points.ensures.shape (search rules)
    ∙ ap₂ with_rule (c.in_ok-with_command.ensures.shape (search rules) ∙ ap₂ with_rule named_is command_is) points_is
