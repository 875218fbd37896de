-- `machine::write_endpoint` meets its contract. Assumes nothing.
use mathlib.Core.Path.{◌∙◌}
use Rattle.machine.proofs.HostLaws.{configured}
use Rattle.machine.proofs.write_endpoint.Goals as goal

pub returns : goal.returns
returns c = c.write_words.ensures ∙ configured _ _ c.args.memory _ c.requires.1
