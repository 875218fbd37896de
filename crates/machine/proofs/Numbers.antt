-- P1 to P10, by computation. Assumes nothing.
use mathlib.Core.Path.{refl}
use Rattle.endpoint.proofs.Numbers as endpoint-numbers
use Rattle.table.specs.Table.{endpoint_at, upd}
use Rattle.slots.specs.Slots.{free_slot, unread_slot, slot_named, range_past, range_bad, fetched}
use Rattle.command.specs.Local.{crosses_page}
use Rattle.delivery.specs.Delivery.{too_long, message_checks}
use Rattle.receive.specs.Fetch.{fetch_writes, FETCH}
use Rattle.receive.specs.Ack.{ack_checks}
use Rattle.machine.specs.Numbers.{Numbers}

pub numbers : Numbers
unfolding endpoint_at upd free_slot unread_slot slot_named range_past range_bad fetched crosses_page too_long message_checks fetch_writes FETCH ack_checks
numbers =
    record {
      p1 = endpoint-numbers.p1;
      p2 = refl;
      p3 = refl;
      p4 = refl;
      p5 = refl;
      p6 = refl;
      p7 = (refl, refl, refl);
      p8 = (refl, refl);
      p9 = (refl, refl);
      p10 = (refl, refl, refl);
    }
