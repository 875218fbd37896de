-- `slots::receive_at` meets its contract. Assumes nothing.
use Rattle.command.proofs.CheckedLaws.{live_receive}
use Rattle.slots.proofs.SlotFacts.{usable_own}
use Rattle.slots.proofs.receive_at.Goals as goal

pub returns-clause-usable : goal.returns-clause-usable
returns-clause-usable c = (search usable_own, search live_receive)
