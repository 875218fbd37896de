-- `delivery::slot_at` meets its contract: the sum is a place in the tile's memory. Assumes nothing.
use native.Mathlib.Omega.{arith}
use Rattle.command.proofs.CheckedLaws.{memory_few}
use Rattle.delivery.proofs.slot_at.Goals as goal

pub overflow_add-offset : goal.overflow_add-offset
overflow_add-offset c =
    let p = c.requires in
    omega (arith, c.offset.ensures, p.within, memory_few c.args.b c.args.s.tgt_tile p.board p.there)
