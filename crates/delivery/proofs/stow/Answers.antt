-- `delivery::stow` meets its contract: payload and slot lie among the lent bytes. Assumes nothing.
use native.Mathlib.Omega.{arith}
use Rattle.delivery.proofs.StowLaws.{slot_range}
use Rattle.delivery.proofs.stow.Goals as goal

pub store_message-requires : goal.store_message-requires
store_message-requires c = (omega (arith, c.place-from.ensures.inside, c.requires.long), rw (c.slot_at-at.ensures) (search slot_range))
