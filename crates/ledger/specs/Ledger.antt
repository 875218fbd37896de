-- The history beside a run: what was last delivered to each slot, and of each sender the accepted messages and the accepted replies
-- to them. "An occupied slot holds whatever was last delivered there; a free slot holds nothing. A reply is to the message held in
-- the slot that REPLY names." Places name receivers and senders. Only accepted commands are entered, each from the table before it.
use Rattle.std.specs.Prelude.{ℕ, ◌+◌, Bool, true, false}
use Rattle.bits.specs.Bits.{has_bit}
use Rattle.endpoint.specs.Kinds.{send_of, receive_of}
use Rattle.endpoint.specs.declared.SendFields.{SendFields}
use Rattle.endpoint.specs.declared.ReceiveFields.{ReceiveFields}
use Rattle.table.specs.Table.{Table, place, endpoint_at, upd}
use Rattle.slots.specs.Slots.{free_slot, slot_named}
use Rattle.command.specs.Command.{slot_of}
use Rattle.command.specs.declared.Registers.{Registers}
use Rattle.machine.specs.Machine.{Opcode, op_idle, op_send, op_reply, op_read, op_write, op_fetch, op_ack, op_other}
use Rattle.wiring.specs.Sums.{sum}

-- what a slot holds: nothing, a request of the sender at a place, or a reply
pub data Held : Type 0 where
  nothing : Held
  request : ℕ → Held
  reply : Held

pub record Ledger : Type 0 where
  -- what was last delivered to a slot of a receiver
  pub last : ℕ → ℕ → Held
  -- how many messages of a sender were accepted, and how many replies to them
  pub sent : ℕ → ℕ
  pub answered : ℕ → ℕ

-- at the start nothing was delivered, sent or answered
abbrev pub blank : Ledger
blank = record { last = λ r i. nothing; sent = λ s. 0; answered = λ s. 0 }

-- ---- what slot i of the receiver at place r holds
abbrev pub kept : Bool → Held → Held
kept true h = h
kept false h = nothing

abbrev pub holds : Table → Ledger → ℕ → ℕ → Held
holds t L r i = kept (has_bit (receive_of (t r)).occupied i) (L.last r i)

-- the requests in its first n slots
abbrev pub asks : Held → ℕ
asks nothing = 0
asks (request s) = 1
asks reply = 0

abbrev pub requests_held : Table → Ledger → ℕ → ℕ → ℕ
requests_held t L r n = sum n (λ i. asks (holds t L r i))

-- ---- entries
-- h comes into slot i of the receiver at place r
abbrev pub stow : (ℕ → ℕ → Held) → ℕ → ℕ → Held → ℕ → ℕ → Held
stow last r i h = upd last r (upd (last r) i h)

-- one more for the sender of a request
abbrev pub count : (ℕ → ℕ) → Held → ℕ → ℕ
count f nothing = f
count f (request s) = upd f s (f s + 1)
count f reply = f

-- the slot that the next message takes
abbrev pub next_slot : ReceiveFields → ℕ
next_slot r = slot_of (free_slot r)

-- h is delivered to the receiver that s aims at
abbrev pub delivered : Table → SendFields → Held → (ℕ → ℕ → Held) → ℕ → ℕ → Held
delivered t s h last =
    stow last (place s.tgt_tile s.tgt_ep) (next_slot (receive_of (endpoint_at t s.tgt_tile s.tgt_ep))) h

-- an accepted command of a tile: SEND and REPLY have an entry
abbrev pub entered : Table → ℕ → Opcode → ℕ → Registers → Ledger → Ledger
entered t tile op_idle ep a L = L
entered t tile op_send ep a L =
    let s = send_of (endpoint_at t tile ep) in
    let it = request (place tile ep) in
    record { last = delivered t s it L.last; sent = count L.sent it; answered = L.answered }
entered t tile op_reply ep a L =
    let r = receive_of (endpoint_at t tile ep) in
    let i = slot_named r a.arg0 in
    let s = send_of (endpoint_at t tile (r.rpl_eps + i)) in
    record { last = delivered t s reply L.last; sent = L.sent; answered = count L.answered (holds t L (place tile ep) i) }
entered t tile op_read ep a L = L
entered t tile op_write ep a L = L
entered t tile op_fetch ep a L = L
entered t tile op_ack ep a L = L
entered t tile op_other ep a L = L
