-- The texts that are read of words.
use Rattle.std.specs.Prelude.{option_map}
use Rattle.nichols_command.specs.declared.words.Given.{Given}
use Rattle.nichols_command.specs.Texts.{Texts}

-- the texts behind the references
abbrev pub texts_given : Given → Texts
texts_given g = record {
  command = option_map (λ s. s.now) g.command;
  points = option_map (λ s. s.now) g.points;
  degree = option_map (λ s. s.now) g.degree;
  rows = option_map (λ s. s.now) g.rows;
  workers = option_map (λ s. s.now) g.workers;
  window = option_map (λ s. s.now) g.window;
  brief = option_map (λ s. s.now) g.brief;
}
