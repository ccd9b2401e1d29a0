use Rattle.std.proofs.Common.{drop, sym, subst}
use Rattle.std.specs.Str.Parse.{AllDigits}
use Rattle.nichols_expression.proofs.Runs.{run_is_digits}
use Rattle.nichols_expression.proofs.words.letter_at.Goals as goal

pub letter_of-requires-clause-digits : goal.letter_of-requires-clause-digits
letter_of-requires-clause-digits c = subst (AllDigits 10) (sym c.behind_run-end.ensures.run) (run_is_digits (drop c.args.at c.args.text.now))
