-- The slots of a receive endpoint: the two searches, the slot that arg0 names, the reply range, and the record after a
-- change of one slot.
use Rattle.std.specs.Prelude.{ℕ, ◌+◌, ◌/◌, ◌^◌, ◌<◌, ◌≤◌, Bool, true, false, ◌≡◌, ◌==◌, ◌&&◌, not, Option, Result, Ok, Err}
use Rattle.numbers.specs.Sums.{◌above◌}
use Rattle.bits.specs.Bits.{put_bit}
use Rattle.bits.specs.Slots.{find_slot}
use Rattle.bits.specs.declared.Slot.{Slot}
use Rattle.answers.specs.declared.Error.{Error}
use Rattle.endpoint.specs.declared.Endpoint.{Endpoint}
use Rattle.endpoint.specs.declared.Endpoint.TheVariants.{Invalid, Send, Receive, Memory}
use Rattle.endpoint.specs.declared.ReceiveFields.{ReceiveFields}

abbrev pub slots_of : ReceiveFields → ℕ
slots_of r = 2 ^ r.slots

-- the fields of a receive endpoint, or the refusal
abbrev pub receive_or : Error → Endpoint → Result ReceiveFields Error
receive_or n (Receive r) = Ok r
receive_or n Invalid = Err n
receive_or n (Send s) = Err n
receive_or n (Memory m) = Err n

-- the first free slot from wpos, going round
unfoldable pub free_slot : ReceiveFields → Option Slot
free_slot r = find_slot r.occupied r.wpos r.slots false

-- the first unread slot from rpos, going round
unfoldable pub unread_slot : ReceiveFields → Option Slot
unread_slot r = find_slot r.unread r.rpos r.slots true

-- idx = arg0 / 2^slot_size rounded down
unfoldable pub slot_named : ReceiveFields → ℕ → ℕ
slot_named r arg0 = arg0 / 2 ^ r.slot_size

-- rpl_eps + 2^slots above 64; an rpl_eps of 65535 has no range
unfoldable pub range_past : ReceiveFields → Bool
range_past r = r.rpl_eps + slots_of r above 64

unfoldable pub range_bad : ReceiveFields → Bool
range_bad r = not (r.rpl_eps == 65535) && range_past r

-- ---- the record after a change of slot i
-- a message came in: the slot becomes occupied and unread, wpos is idx + 1
unfoldable pub filled : ReceiveFields → ℕ → ReceiveFields
filled r i = record r { wpos = i + 1; occupied = put_bit r.occupied i 1; unread = put_bit r.unread i 1 }

-- it was fetched: its unread bit is cleared, rpos becomes idx + 1
unfoldable pub fetched : ReceiveFields → ℕ → ReceiveFields
fetched r i = record r { rpos = i + 1; unread = put_bit r.unread i 0 }

-- it was given back: both bits are cleared
unfoldable pub cleared : ReceiveFields → ℕ → ReceiveFields
cleared r i = record r { occupied = put_bit r.occupied i 0; unread = put_bit r.unread i 0 }

-- ---- what the code asks of a record that it searches: an acceptable one has it
pub record Usable (r : ReceiveFields) : Type 0 where
  pub few : r.slots ≤ 5
  pub small : r.slot_size ≤ 11
  pub write_turn : r.wpos ≤ 2 ^ r.slots
  pub read_turn : r.rpos ≤ 2 ^ r.slots

-- the reply endpoint of slot i, where there is a range, is one of the tile's
unfoldable pub InReach : ReceiveFields → ℕ → Type 0
InReach r i = (r.rpl_eps ≡ 65535 → ⊥) → r.rpl_eps + i < 64
