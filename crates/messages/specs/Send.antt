-- SEND: not SEND 2; reply set 5; act 4; 19, 9, 23 and the page rule; if arg0 is not 65535, that endpoint on the own tile must be a
-- receive endpoint, otherwise 3 (its act is not looked at); local 14; cur_crd 0 gives 10. Then delivery. On success, unless cur_crd
-- is 63, the record read at the start is written back with cur_crd one lower.
-- The message that came is noted at the receiver's tile.
-- Mind: the local range is checked for size 0 too; a refused SEND takes no credit.
use Rattle.std.specs.Prelude.{ℕ, ◌+◌, Bool, true, false, not, ◌&&◌, List, [], ◌∷◌, eqb, if◌then◌else◌}
use Rattle.answers.specs.declared.Error.TheVariants.{NoSep, SendReplyEp, ForeignEp, NoRep, Abort, NoCredits}
use Rattle.board.specs.declared.Board.{Board}
use Rattle.endpoint.specs.Kinds.{is_receive, receive_of}
use Rattle.endpoint.specs.declared.SendFields.{SendFields}
use Rattle.credits.specs.Credits.{less}
use Rattle.endpoint.specs.declared.ReceiveFields.{ReceiveFields}
use Rattle.endpoint.specs.declared.Endpoint.TheVariants.{Send}
use Rattle.table.specs.Table.{Table, place, endpoint_at}
use Rattle.sharing.specs.declared.Note.TheVariants.{Came}
use Rattle.command.specs.Checks.{Check, ◌⇒◌, ◌then◌}
use Rattle.command.specs.Command.{Command, Write, ◌⇐◌to◌, does, ◌noting◌, ◌▸▸◌, send◌or◌gives◌}
use Rattle.command.specs.Local.{outside}
use Rattle.command.specs.declared.Registers.{Registers}
use Rattle.delivery.specs.Delivery.{message_checks, delivered, arrival, arrival_of, message_to}
use Rattle.delivery.specs.declared.Header.{Header}

-- a reply is wanted at an endpoint that is no receive endpoint
abbrev pub reply_lost : Table → ℕ → ℕ → Bool
reply_lost t tile ep = not (eqb ep 65535) && not (is_receive (endpoint_at t tile ep))

-- the checks of the send endpoint s, in order
unfoldable pub send_checks : Board → Table → ℕ → ℕ → SendFields → Registers → List Check
send_checks b t own tile s a =
    s.reply ⇒ SendReplyEp
    ∷ not (eqb s.act own) ⇒ ForeignEp
    ∷ (message_checks s a then
    reply_lost t tile a.arg0 ⇒ NoRep
    ∷ outside b tile a ⇒ Abort
    ∷ eqb s.cur_crd 0 ⇒ NoCredits
    ∷ [])

-- sep is the endpoint, or 65535 when cur_crd is 63, which means unlimited
unfoldable pub sep_of : ℕ → SendFields → ℕ
sep_of ep s = if eqb s.cur_crd 63 then 65535 else ep

-- rsize is the slot_size of the endpoint that arg0 names, 5 if none
unfoldable pub rsize_of : Table → ℕ → Registers → ℕ
rsize_of t tile a = if eqb a.arg0 65535 then 5 else (receive_of (endpoint_at t tile a.arg0)).slot_size

unfoldable pub request : Table → ℕ → ℕ → SendFields → Registers → Header
request t tile ep s a =
    record {
      flags = 0;
      rsize = rsize_of t tile a;
      stile = tile;
      schip = 0;
      length = a.size;
      sep = sep_of ep s;
      rep = a.arg0;
      rlabel = a.arg1;
      label = s.label;
    }

-- the reply endpoint that the receiver r gets: its act, reply set, target schip, stile and rep, label rlabel, msg_sz rsize, both
-- credits 1, crd_ep = sep
unfoldable pub reply_to : ReceiveFields → Header → SendFields
reply_to r h =
    record {
      act = r.act;
      cur_crd = 1;
      max_crd = 1;
      msg_sz = h.rsize;
      crd_ep = h.sep;
      reply = true;
      tgt_ep = h.rep;
      tgt_tile = h.stile;
      tgt_chip = h.schip;
      label = h.rlabel;
    }

-- a request with rep not 65535, where rpl_eps is not 65535, writes the reply endpoint at rpl_eps + idx
unfoldable pub reply_placed : SendFields → ReceiveFields → ℕ → Header → Write
reply_placed s r i h = (not (eqb h.rep 65535) && not (eqb r.rpl_eps 65535)) ⇐ Send (reply_to r h) to place s.tgt_tile (r.rpl_eps + i)

-- unless cur_crd is 63, the record read at the start is written back with cur_crd one lower
unfoldable pub credit_spent : ℕ → ℕ → SendFields → Write
credit_spent tile ep s = not (eqb s.cur_crd 63) ⇐ Send (less s) to place tile ep

unfoldable pub send_writes : ℕ → ℕ → SendFields → ReceiveFields → ℕ → Header → List Write
send_writes tile ep s r i h = arrival s r i ∷ reply_placed s r i h ∷ credit_spent tile ep s ∷ []

-- from the delivery on
unfoldable pub request_of : Board → Table → List ℕ → List ℕ → ℕ → ℕ → SendFields → Registers → Command
request_of b t sh bs tile ep s a =
    delivered b t sh s a (λ r i.
    does (send_writes tile ep s r i (request t tile ep s a)) (message_to b bs tile a s r i (request t tile ep s a)) a.arg1
    noting Came (arrival_of s r) false)

unfoldable pub SEND : Board → Table → List ℕ → List ℕ → ℕ → ℕ → ℕ → Registers → Command
SEND b t sh bs own tile ep a =
    send endpoint_at t tile ep or NoSep gives λ s.
    send_checks b t own tile s a ▸▸
    request_of b t sh bs tile ep s a
