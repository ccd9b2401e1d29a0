use Rattle.std.proofs.Common.{◌++◌, ◌∷◌, [], ◌∙◌, ap, subst}
use Rattle.nichols_braid.specs.Braid.{IsBraid}
use Rattle.nichols_reduce.proofs.WordForms.{first_form}
use Rattle.nichols_reduce.proofs.words.begin.Goals as goal

pub returns-clause-form : goal.returns-clause-form
returns-clause-form c = first_form c.args.levels.now.braid (subst IsBraid c.braid.ensures c.field-field.ensures.braid) c.push.new.self.items (c.in_ok-push.ensures.items ∙ ap (λ ns. ns ++ 1 ∷ []) c.clear.ensures.items)
