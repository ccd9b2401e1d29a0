use Rattle.std.proofs.Common.{◌≡◌, ◌≤◌, ◌-◌, length, drop}
use Rattle.nichols_expression.specs.declared.TheConstants.{TERM_LIMIT}
use Rattle.nichols_expression.specs.Reader.{terms_at}
use Rattle.nichols_expression.proofs.TermTurns.{left_terms}
use Rattle.nichols_expression.proofs.terms.read_terms.Given as goal

abbrev pub invariant-loop-at : goal.invariant-loop-at
invariant-loop-at l = record {
  within : l.at ≤ length l.text;
  few : length l.terms.items ≤ TERM_LIMIT;
  same : terms_at l.field l.letters TERM_LIMIT l.fn.sign (drop l.from l.text) ≡ left_terms l.field l.letters l.terms.items l.sign (drop l.at l.text);
}

abbrev pub decreases-loop-at : goal.decreases-loop-at
decreases-loop-at l = length l.text - l.at
