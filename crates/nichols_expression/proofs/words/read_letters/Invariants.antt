use Rattle.std.proofs.Common.{◌≡◌, ◌≤◌, ◌-◌, length, drop}
use Rattle.nichols_tensor.specs.declared.TheConstants.{WORD_LIMIT}
use Rattle.nichols_expression.specs.Reader.{letters_at}
use Rattle.nichols_expression.proofs.LetterTurns.{left_of}
use Rattle.nichols_expression.proofs.words.read_letters.Given as goal

abbrev pub invariant-loop-letter : goal.invariant-loop-letter
invariant-loop-letter l = record {
  behind : l.from ≤ l.at;
  within : l.at ≤ length l.text;
  same : letters_at l.letters WORD_LIMIT (drop l.from l.text) ≡ left_of l.letters l.word (drop l.at l.text);
}

abbrev pub decreases-loop-letter : goal.decreases-loop-letter
decreases-loop-letter l = length l.text - l.at
