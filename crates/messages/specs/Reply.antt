-- REPLY: not RECEIVE 3; rpl_eps 65535 8; rpl_eps + 2^slots above 64 17; act 4; idx = arg0 / 2^slot_size rounded down, at or above
-- 2^slots 12; the endpoint at rpl_eps + idx not SEND 2; its reply clear 5; its crd_ep neither 65535 nor below 64 18; then 19, 9, 23,
-- page rule, local 14 as in SEND with that endpoint. After delivery that endpoint becomes INVALID and the receive record read at
-- the start, with idx cleared in both masks, is written back. A reply that came into the same endpoint is thereby lost, as printed.
-- With T-01 the delivery is counted or queued first, the lost one too; then a slot that was unread takes one from the count.
-- Mind: 8 and 17 come before 4.
use Rattle.std.specs.Prelude.{ℕ, ◌+◌, Bool, true, not, ◌&&◌, List, [], ◌∷◌, eqb, leb}
use Rattle.answers.specs.declared.Error.TheVariants.{NoRep, RepliesDisabled, RecvInvRplEps, ForeignEp, InvMsgOff, NoSep, SendReplyEp, SendInvCrdEp, Abort}
use Rattle.board.specs.declared.Board.{Board}
use Rattle.bits.specs.Bits.{has_bit}
use Rattle.endpoint.specs.Kinds.{is_send, send_of}
use Rattle.endpoint.specs.declared.SendFields.{SendFields}
use Rattle.endpoint.specs.declared.ReceiveFields.{ReceiveFields}
use Rattle.endpoint.specs.declared.Endpoint.{Endpoint}
use Rattle.endpoint.specs.declared.Endpoint.TheVariants.{Invalid, Send, Receive}
use Rattle.table.specs.Table.{Table, place, endpoint_at}
use Rattle.slots.specs.Slots.{slots_of, slot_named, range_past, cleared}
use Rattle.sharing.specs.declared.Note.TheVariants.{Came}
use Rattle.command.specs.Checks.{Check, ◌⇒◌, ◌then◌}
use Rattle.command.specs.Command.{Command, Write, ◌⇐◌to◌, does, ◌noting◌, ◌▸▸◌, receive◌or◌gives◌, send◌or◌gives◌}
use Rattle.command.specs.Local.{outside}
use Rattle.command.specs.declared.Registers.{Registers}
use Rattle.delivery.specs.Delivery.{message_checks, delivered, arrival, arrival_of, message_to}
use Rattle.credits.specs.Credits.{more}
use Rattle.credits.specs.Room.{room_for}
use Rattle.delivery.specs.declared.Header.{Header}

-- the checks of the receive endpoint g, in order
unfoldable pub from_checks : ℕ → ReceiveFields → Registers → List Check
from_checks own g a =
    eqb g.rpl_eps 65535 ⇒ RepliesDisabled
    ∷ range_past g ⇒ RecvInvRplEps
    ∷ not (eqb g.act own) ⇒ ForeignEp
    ∷ leb (slots_of g) (slot_named g a.arg0) ⇒ InvMsgOff
    ∷ []

-- crd_ep is neither 65535 nor below 64
unfoldable pub credit_bad : SendFields → Bool
credit_bad s = not (eqb s.crd_ep 65535) && leb 64 s.crd_ep

-- the checks of the reply endpoint s, in order, up to the delivery
unfoldable pub reply_checks : Board → ℕ → SendFields → Registers → List Check
reply_checks b tile s a =
    not s.reply ⇒ SendReplyEp
    ∷ credit_bad s ⇒ SendInvCrdEp
    ∷ (message_checks s a then
    outside b tile a ⇒ Abort
    ∷ [])

-- The message has flags 1, rsize 0, rlabel 0, its label, sep = the receive endpoint, rep = its crd_ep.
unfoldable pub response : ℕ → ℕ → SendFields → Registers → Header
response tile ep s a =
    record {
      flags = 1;
      rsize = 0;
      stile = tile;
      schip = 0;
      length = a.size;
      sep = ep;
      rep = s.crd_ep;
      rlabel = 0;
      label = s.label;
    }

-- A reply with rep not 65535 adds one to cur_crd of endpoint rep there, if that is a SEND endpoint and, with T-04, has room for it.
unfoldable pub creditable : Endpoint → Bool
creditable x = is_send x && room_for (send_of x)

unfoldable pub credited : Endpoint → Endpoint
credited x = Send (more (send_of x))

unfoldable pub credit_to : Endpoint → SendFields → Header → Write
credit_to x s h = (not (eqb h.rep 65535) && creditable x) ⇐ credited x to place s.tgt_tile h.rep

-- The endpoint that gets the credit is read at the start: the message comes into a receive endpoint, so reading it before or
-- after that is the same.
unfoldable pub credit_returned : Table → SendFields → Header → Write
credit_returned t s h = credit_to (endpoint_at t s.tgt_tile h.rep) s h

-- that endpoint becomes INVALID
unfoldable pub reply_gone : ℕ → ReceiveFields → ℕ → Write
reply_gone tile g i = true ⇐ Invalid to place tile (g.rpl_eps + i)

-- the receive record read at the start, with idx cleared in both masks, is written back
unfoldable pub slot_freed : ℕ → ℕ → ReceiveFields → ℕ → Write
slot_freed tile ep g i = true ⇐ Receive (cleared g i) to place tile ep

unfoldable pub reply_writes : Table → ℕ → ℕ → ReceiveFields → ℕ → SendFields → ReceiveFields → ℕ → Header → List Write
reply_writes t tile ep g i s r j h = arrival s r j ∷ credit_returned t s h ∷ reply_gone tile g i ∷ slot_freed tile ep g i ∷ []

-- from the delivery on, to slot i of g by the reply endpoint s
unfoldable pub response_of : Board → Table → List ℕ → List ℕ → ℕ → ℕ → ReceiveFields → ℕ → SendFields → Registers → Command
response_of b t sh bs tile ep g i s a =
    delivered b t sh s a (λ r j.
    does (reply_writes t tile ep g i s r j (response tile ep s a)) (message_to b bs tile a s r j (response tile ep s a)) a.arg1
    noting Came (arrival_of s r) (has_bit g.unread i))

-- from slot i of g on
unfoldable pub answer_of : Board → Table → List ℕ → List ℕ → ℕ → ℕ → ReceiveFields → ℕ → Registers → Command
answer_of b t sh bs tile ep g i a =
    send endpoint_at t tile (g.rpl_eps + i) or NoSep gives λ s.
    reply_checks b tile s a ▸▸
    response_of b t sh bs tile ep g i s a

unfoldable pub REPLY : Board → Table → List ℕ → List ℕ → ℕ → ℕ → ℕ → Registers → Command
REPLY b t sh bs own tile ep a =
    receive endpoint_at t tile ep or NoRep gives λ g.
    from_checks own g a ▸▸
    answer_of b t sh bs tile ep g (slot_named g a.arg0) a
