-- Delivery: chip not 0 or tile absent 21; not RECEIVE 6; 32 + length above 2^slot_size 16; a reply range past 64 17; the first free
-- slot from wpos, going round, none 7. The slot becomes occupied and unread, wpos is idx + 1, header and payload go to buffer + idx
-- times 2^slot_size. Document 02, T-01: a foreign delivery with 64 requests waiting answers 7 too, after the slot search; 7 never
-- otherwise. What came is noted at the receiver's tile.
-- It knows nothing of credits to be taken: SEND and REPLY say what else is written.
use Rattle.std.specs.Prelude.{ℕ, ◌+◌, ◌*◌, ◌%◌, ◌^◌, Bool, true, not, List, [], ◌∷◌, ◌++◌, eqb, leb}
use Rattle.numbers.specs.Sums.{◌above◌}
use Rattle.answers.specs.declared.Error.TheVariants.{TimeoutNoc, RecvGone, RecvOutOfBounds, RecvInvRplEps, RecvNoSpace, SendInvMsgSz, OutOfBounds, MsgUnaligned, PageBoundary}
use Rattle.board.specs.Board.{start_of}
use Rattle.board.specs.declared.Board.{Board}
use Rattle.memory.specs.Bytes.{part}
use Rattle.endpoint.specs.Kinds.{is_receive, receive_of}
use Rattle.endpoint.specs.declared.SendFields.{SendFields}
use Rattle.endpoint.specs.declared.ReceiveFields.{ReceiveFields}
use Rattle.endpoint.specs.declared.Endpoint.{Endpoint}
use Rattle.endpoint.specs.declared.Endpoint.TheVariants.{Receive}
use Rattle.table.specs.Table.{Table, place, endpoint_at}
use Rattle.sharing.specs.Sharing.{crowded}
use Rattle.sharing.specs.declared.Arrival.{Arrival}
use Rattle.slots.specs.Slots.{free_slot, range_bad, filled}
use Rattle.command.specs.Checks.{Check, ◌⇒◌, ◌then◌}
use Rattle.command.specs.Command.{Command, Write, ◌⇐◌to◌, Put, bytes_to, ◌▸▸◌, is_none, slot_of}
use Rattle.command.specs.Local.{crosses_page, local_at}
use Rattle.command.specs.declared.Registers.{Registers}
use Rattle.delivery.specs.Header.{header_bytes}
use Rattle.delivery.specs.declared.Header.{Header}

-- a message of this size, with its header of 32 bytes, is above 2 to the n
unfoldable pub too_long : ℕ → ℕ → Bool
too_long size n = size + 32 above 2 ^ n

-- what SEND and REPLY check alike of a message by the endpoint s: msg_sz above 11 19; DATA_SIZE + 32 above 2^msg_sz 9; DATA_ADDR
-- not a multiple of 16 23; page rule 22
unfoldable pub message_checks : SendFields → Registers → List Check
message_checks s a =
    (s.msg_sz above 11) ⇒ SendInvMsgSz
    ∷ too_long a.size s.msg_sz ⇒ OutOfBounds
    ∷ not (eqb (a.addr % 16) 0) ⇒ MsgUnaligned
    ∷ crosses_page a ⇒ PageBoundary
    ∷ []

-- the receive endpoint that the endpoint s names, and the slot that a message takes there
abbrev pub receiver_of : Table → SendFields → ReceiveFields
receiver_of t s = receive_of (endpoint_at t s.tgt_tile s.tgt_ep)

abbrev pub slot_for : Table → SendFields → ℕ
slot_for t s = slot_of (free_slot (receiver_of t s))

-- the target lies on the board
abbrev pub far_checks : Board → SendFields → List Check
far_checks b s =
    not (eqb s.tgt_chip 0) ⇒ TimeoutNoc
    ∷ leb b.tiles s.tgt_tile ⇒ TimeoutNoc
    ∷ []

-- it is a receive endpoint; the message fits, and so does the reply range; a slot is free, and no foreign message is turned away
abbrev pub receiver_checks : List ℕ → ℕ → Endpoint → Registers → List Check
receiver_checks sh tile e a =
    not (is_receive e) ⇒ RecvGone
    ∷ too_long a.size (receive_of e).slot_size ⇒ RecvOutOfBounds
    ∷ range_bad (receive_of e) ⇒ RecvInvRplEps
    ∷ is_none (free_slot (receive_of e)) ⇒ RecvNoSpace
    ∷ crowded sh tile (receive_of e).act ⇒ RecvNoSpace
    ∷ []

unfoldable pub landing : Board → Table → List ℕ → SendFields → Registers → List Check
landing b t sh s a = far_checks b s then receiver_checks sh s.tgt_tile (endpoint_at t s.tgt_tile s.tgt_ep) a

-- the rest is over the receiver's record and the slot
abbrev pub rest_over : Endpoint → (ReceiveFields → ℕ → Command) → Command
rest_over e rest = rest (receive_of e) (slot_of (free_slot (receive_of e)))

unfoldable pub delivered : Board → Table → List ℕ → SendFields → Registers → (ReceiveFields → ℕ → Command) → Command
delivered b t sh s a rest = landing b t sh s a ▸▸ rest_over (endpoint_at t s.tgt_tile s.tgt_ep) rest

-- the message comes into slot i of the receiver r
unfoldable pub arrival : SendFields → ReceiveFields → ℕ → Write
arrival s r i = true ⇐ Receive (filled r i) to place s.tgt_tile s.tgt_ep

-- what is noted of it: the tile and endpoint that it came to, and the receiver's activity
unfoldable pub arrival_of : SendFields → ReceiveFields → Arrival
arrival_of s r = record { tile = s.tgt_tile; ep = s.tgt_ep; act = r.act }

-- where that slot lies among the bytes of all tiles
unfoldable pub slot_at : Board → SendFields → ReceiveFields → ℕ → ℕ
slot_at b s r i = start_of b s.tgt_tile + (r.buffer + i * 2 ^ r.slot_size)

-- header and payload, which is read whole from the acting tile, go to that slot
unfoldable pub message_to : Board → List ℕ → ℕ → Registers → SendFields → ReceiveFields → ℕ → Header → Put
message_to b bs tile a s r i h = bytes_to (slot_at b s r i) (header_bytes h ++ part bs (local_at b tile a) a.size)
