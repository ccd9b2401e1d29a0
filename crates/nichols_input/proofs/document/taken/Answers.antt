use Rattle.std.proofs.Common.{◌∙◌, ap}
use Rattle.std.specs.Prelude.{option_map}
use Rattle.toml.proofs.Views.{view-lookup}
use Rattle.toml.specs.View.{view}
use Rattle.nichols_input.proofs.document.taken.Goals as goal

pub returns : goal.returns
returns c = ap (option_map view) c.remove.ensures.value ∙ view-lookup c.args.key.now c.args.table.entries
