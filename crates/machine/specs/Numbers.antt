-- Document 01, "Numbers on both sides": P1 to P10, all in a single table under one statement, of the definitions of this machine.
use Rattle.std.specs.Prelude.{ℕ, List, ◌≡◌, Option, Some, None}
use Rattle.answers.specs.Answers.{number_of}
use Rattle.bits.specs.declared.Slot.{Slot}
use Rattle.endpoint.specs.Kinds.{receive_of}
use Rattle.endpoint.specs.Numbers.{p1_fields, P1}
use Rattle.endpoint.specs.declared.ReceiveFields.{ReceiveFields}
use Rattle.endpoint.specs.declared.Endpoint.TheVariants.{Receive}
use Rattle.table.specs.Table.{Table}
use Rattle.slots.specs.Slots.{free_slot, slot_named}
use Rattle.command.specs.Checks.{Check, first}
use Rattle.command.specs.Command.{Command}
use Rattle.command.specs.Outcome.{tabled}
use Rattle.command.specs.declared.Registers.{Registers}
use Rattle.delivery.specs.Delivery.{message_checks}
use Rattle.receive.specs.Fetch.{FETCH}
use Rattle.receive.specs.Ack.{ack_checks}

-- four slots of 2^8 bytes
abbrev pub four : (occupied unread wpos rpos : ℕ) → ReceiveFields
four occupied unread wpos rpos =
    record { act = 5; rpl_eps = 65535; slots = 2; slot_size = 8; wpos = wpos; rpos = rpos; buffer = 0; occupied = occupied; unread = unread }

abbrev pub registers : (arg0 addr size : ℕ) → Registers
registers arg0 addr size = record { arg0 = arg0; addr = addr; size = size; arg1 = 0 }

-- a table with one receive endpoint everywhere, and its FETCH
abbrev pub everywhere : ReceiveFields → Table
everywhere r q = Receive r

abbrev pub fetching : ReceiveFields → Command
fetching r = FETCH (everywhere r) 5 0 0

-- the number that a list of checks answers
abbrev pub answers : List Check → ℕ
answers l = number_of (first l)

-- a slot, and how many steps from wpos it lies
abbrev pub at : ℕ → ℕ → Option Slot
at i d = Some (record { index = i; distance = d })

-- the free slot is given with its distance from wpos; the numbers 9, 22 and 12 are OUT_OF_BOUNDS, PAGE_BOUNDARY and INV_MSG_OFF
pub record Numbers : Type 0 where
  -- the words of a send endpoint, both ways
  pub p1 : P1
  -- four slots, the free one for (occupied, wpos)
  pub p2 : free_slot (four 0b1011 0 0 0) ≡ at 2 2
  pub p3 : free_slot (four 0b0101 0 3 0) ≡ at 3 0
  pub p4 : free_slot (four 0b1000 0 3 0) ≡ at 0 1
  pub p5 : free_slot (four 0 0 4 0) ≡ at 0 0
  pub p6 : free_slot (four 0b1111 0 1 0) ≡ None
  -- FETCH, unread 0101b, rpos 1: it answers 0, ARG_1 is 512, and rpos becomes 3
  pub p7 : (answers (fetching (four 0b0101 0b0101 0 1)).checks ≡ 0)
      × ((fetching (four 0b0101 0b0101 0 1)).effect.hands ≡ 512)
      × ((receive_of (tabled (everywhere (four 0b0101 0b0101 0 1)) (fetching (four 0b0101 0b0101 0 1)).effect.writes 0)).rpos ≡ 3)
  -- msg_sz 8: size 224 passes, 225 is 9
  pub p8 : (answers (message_checks p1_fields (registers 65535 0 224)) ≡ 0) × (answers (message_checks p1_fields (registers 65535 0 225)) ≡ 9)
  -- address 0x1FF0: size 16 passes the page rule, 17 is 22
  pub p9 : (answers (message_checks p1_fields (registers 65535 0x1FF0 16)) ≡ 0) × (answers (message_checks p1_fields (registers 65535 0x1FF0 17)) ≡ 22)
  -- arg0 1023 is slot 3, 1024 is 12
  pub p10 : (slot_named (four 0 0 0 0) 1023 ≡ 3) × (answers (ack_checks 5 (four 0 0 0 0) (registers 1023 0 0)) ≡ 0) × (answers (ack_checks 5 (four 0 0 0 0) (registers 1024 0 0)) ≡ 12)
