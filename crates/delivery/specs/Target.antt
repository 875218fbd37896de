-- Where a message goes: the receiver's record and the slot, or the refusal of its delivery. It is what `delivered` comes to
-- before SEND or REPLY says what is written.
use Rattle.std.specs.Prelude.{ℕ, List, Result, Ok, Err}
use Rattle.answers.specs.Answers.{Answer}
use Rattle.answers.specs.declared.Error.{Error}
use Rattle.board.specs.declared.Board.{Board}
use Rattle.endpoint.specs.declared.SendFields.{SendFields}
use Rattle.table.specs.Table.{Table}
use Rattle.command.specs.Checks.{first}
use Rattle.command.specs.declared.Registers.{Registers}
use Rattle.delivery.specs.Delivery.{receiver_of, slot_for, landing}
use Rattle.delivery.specs.declared.Target.{Target}

-- what checks give that were to find something
abbrev pub passing : {A : Type 0} → Answer → A → Result A Error
passing (Ok x) y = Ok y
passing (Err e) y = Err e

-- sh are the sharing records
unfoldable pub target_of : Board → Table → List ℕ → SendFields → Registers → Result Target Error
target_of b t sh s a = passing (first (landing b t sh s a)) (record { receiver = receiver_of t s; slot = slot_for t s })
