-- What an accepted command notes fits the records: a message that came has a tile of the board, an endpoint, and a place for its
-- request where one is queued. Each fact is out of the command's checks, named by their places. Assumes nothing.
use Prim.Native.Nat.{ℕ, ◌+◌, ◌*◌, ◌^◌, ◌<◌}
use mathlib.Core.Bool.{Bool, true, false}
use mathlib.Core.List.{List, []}
use mathlib.Core.Path.{◌≡◌, sym, ap, ◌∙◌}
use native.Mathlib.Omega.{arith}
use borrow.Author.Tests.{leb-false, not-false}
use Rattle.std.specs.Prelude.{if◌then◌else◌, Result, Ok, Option, Some, None}
use Rattle.bits.specs.Bits.{has_bit}
use Rattle.bits.specs.declared.Slot.{Slot}
use Rattle.answers.specs.declared.Error.{Error}
use Rattle.board.specs.declared.Board.{Board}
use Rattle.endpoint.specs.Kinds.{is_invalid, is_receive, send_of, receive_of}
use Rattle.endpoint.specs.declared.SendFields.{SendFields}
use Rattle.endpoint.specs.declared.ReceiveFields.{ReceiveFields}
use Rattle.table.specs.Table.{Table, endpoint_at, view}
use Rattle.table.proofs.TableLaws.{live}
use Rattle.sharing.specs.Sharing.{waiting_of, crowded}
use Rattle.sharing.specs.Note.{Fits, NoteFits}
use Rattle.sharing.specs.declared.Note.{Note}
use Rattle.sharing.specs.declared.Note.TheVariants.{Read}
use Rattle.slots.specs.Slots.{unread_slot, slot_named}
use Rattle.command.specs.Checks.{first, ◌then◌}
use Rattle.command.specs.Command.{Command, does, ◌noting◌, nothing, send◌or◌gives◌, receive◌or◌gives◌, memory◌or◌gives◌, slot◌or◌gives◌, slot◌else◌gives◌}
use Rattle.command.specs.Outcome.{handed, Outcome, outcome, carried}
use Rattle.command.specs.declared.Completion.{Completion}
use Rattle.command.specs.declared.Registers.{Registers}
use Rattle.command.proofs.CheckFacts.{passed}
use Rattle.command.proofs.WriteLaws.{by_answer, carried_refused, carried_accepted}
use Rattle.access.specs.Access.{ACCESS}
use Rattle.delivery.specs.Delivery.{message_checks, delivered, arrival_of, landing}
use Rattle.messages.specs.Send.{send_checks, request_of, SEND}
use Rattle.messages.specs.Reply.{from_checks, reply_checks, response_of, answer_of, REPLY}
use Rattle.receive.specs.Fetch.{fetch_writes, FETCH}
use Rattle.receive.specs.Ack.{freeing, ACK_MSG}
use Rattle.machine.specs.Machine.{Opcode, op_idle, op_send, op_reply, op_read, op_write, op_fetch, op_ack, op_other, step_of, privileged_step}
use Rattle.machine.proofs.PrivilegedLaws.{one_of_three}
use Rattle.machine.proofs.Fitting.{is_receive_lem}

-- the note of what a call answered is that of the command
pub note_of : (b : Board) (sh : List ℕ) (x : ℕ) (r : Result Completion Error) (c : Completion) (us cs : List ℕ) (o : Outcome) → outcome (handed x r) us cs ≡ o → r ≡ Ok c
    → NoteFits b sh o.completion.note → NoteFits b sh c.note
note_of b sh x r c us cs o e q f =
    let same : c.note ≡ o.completion.note = ap (λ (z : Result Completion Error). (handed x z).note) (sym q) ∙ ap (λ (z : Outcome). z.completion.note) e in
    rw same f

-- what was accepted, of any command
pub note_fits : (b : Board) (sh : List ℕ) (x : ℕ) (ws bs : List ℕ) (k : Command) → (first k.checks ≡ Ok tt → NoteFits b sh k.effect.notes) → NoteFits b sh (carried x ws bs k).completion.note
note_fits b sh x ws bs k f = by_answer (first k.checks) (λ h. rw (carried_accepted x ws bs k h) (f h)) (λ e h. rw (carried_refused x ws bs k e h) tt)

module _ (b : Board) (t : Table) (sh : List ℕ) where
  -- a message that came by s to the receiver at its target
  came : (s : SendFields) → s.tgt_tile < b.tiles → is_receive (endpoint_at t s.tgt_tile s.tgt_ep) ≡ true
      → crowded sh s.tgt_tile (receive_of (endpoint_at t s.tgt_tile s.tgt_ep)).act ≡ false
      → Fits b sh (arrival_of s (receive_of (endpoint_at t s.tgt_tile s.tgt_ep)))
  unfolding arrival_of crowded
  came s there is room =
      record {
        there = there;
        ep_small = live t s.tgt_tile s.tgt_ep (ap is_invalid (is_receive_lem (endpoint_at t s.tgt_tile s.tgt_ep) is));
        room = λ f. leb-false 64 (waiting_of sh s.tgt_tile) (rw f at room);
      }

  module _ (bs : List ℕ) (own tile ep : ℕ) (a : Registers) where
    -- checks 11: the target's tile is there; 12: the target receives; 16: a request has a place
    send_notes : first (SEND b t sh bs own tile ep a).checks ≡ Ok tt → NoteFits b sh (SEND b t sh bs own tile ep a).effect.notes
    unfolding SEND request_of send_checks message_checks delivered landing
    send_notes h =
        let ok = passed (SEND b t sh bs own tile ep a).checks h in
        let s = send_of (endpoint_at t tile ep) in
        came s (leb-false b.tiles s.tgt_tile (ok 11)) (not-false (is_receive (endpoint_at t s.tgt_tile s.tgt_ep)) (ok 12)) (ok 16)

    -- checks 14: the target's tile is there; 15: the target receives; 19: a request has a place
    reply_notes : first (REPLY b t sh bs own tile ep a).checks ≡ Ok tt → NoteFits b sh (REPLY b t sh bs own tile ep a).effect.notes
    unfolding REPLY answer_of response_of from_checks reply_checks message_checks delivered landing
    reply_notes h =
        let ok = passed (REPLY b t sh bs own tile ep a).checks h in
        let g = receive_of (endpoint_at t tile ep) in
        let s = send_of (endpoint_at t tile (g.rpl_eps + slot_named g a.arg0)) in
        came s (leb-false b.tiles s.tgt_tile (ok 14)) (not-false (is_receive (endpoint_at t s.tgt_tile s.tgt_ep)) (ok 15)) (ok 19)

    fetch_notes : NoteFits b sh (FETCH t own tile ep).effect.notes
    unfolding FETCH
    fetch_notes = go (receive_of (endpoint_at t tile ep)) (unread_slot (receive_of (endpoint_at t tile ep)))
      where
        go : (r : ReceiveFields) (u : Option Slot)
            → NoteFits b sh (slot u else does [] nothing 18446744073709551615 gives λ i. does (fetch_writes tile ep r i) nothing (i * 2 ^ r.slot_size) noting Read).effect.notes
        go r (Some s₀) = tt
        go r None = tt

    ack_notes : NoteFits b sh (ACK_MSG t own tile ep a).effect.notes
    unfolding ACK_MSG freeing
    ack_notes = let r = receive_of (endpoint_at t tile ep) in go (has_bit r.unread (slot_named r a.arg0))
      where
        go : (x : Bool) → NoteFits b sh (if x then Note.Read else Note.Nothing)
        go true = tt
        go false = tt

    pub step_notes : (op : Opcode) → first (step_of b t sh bs own tile op ep a).checks ≡ Ok tt → NoteFits b sh (step_of b t sh bs own tile op ep a).effect.notes
    unfolding step_of ACCESS
    step_notes op_idle h = tt
    step_notes op_send h = send_notes h
    step_notes op_reply h = reply_notes h
    step_notes op_read h = tt
    step_notes op_write h = tt
    step_notes op_fetch h = fetch_notes
    step_notes op_ack h = ack_notes
    step_notes op_other h = tt

-- what a command of a checked machine came to
pub step_note_fits : (x : ℕ) (b : Board) (ws sh bs us cs : List ℕ) (own tile ep : ℕ) (op : Opcode) (a : Registers) (r : Result Completion Error) (c : Completion)
    → outcome (handed x r) us cs ≡ carried x ws bs (step_of b (view ws) sh bs own tile op ep a) → r ≡ Ok c → NoteFits b sh c.note
step_note_fits x b ws sh bs us cs own tile ep op a r c e q =
    note_of b sh x r c us cs (carried x ws bs (step_of b (view ws) sh bs own tile op ep a)) e q
    (note_fits b sh x ws bs (step_of b (view ws) sh bs own tile op ep a) (step_notes b (view ws) sh bs own tile ep a op))

pub privileged_notes : (b : Board) (sh : List ℕ) (tile op arg0 arg1 : ℕ) → NoteFits b sh (privileged_step sh tile op arg0 arg1).effect.notes
privileged_notes b sh tile op arg0 arg1 = one_of_three (λ k. NoteFits b sh k.effect.notes) sh tile op arg0 arg1 tt (omega arith) tt

pub privileged_note_fits : (x : ℕ) (b : Board) (sh us : List ℕ) (tile op arg0 : ℕ) (r : Result Completion Error) (c : Completion)
    → outcome (handed x r) us us ≡ carried x us us (privileged_step sh tile op arg0 x) → r ≡ Ok c → NoteFits b sh c.note
privileged_note_fits x b sh us tile op arg0 r c e q =
    note_of b sh x r c us us (carried x us us (privileged_step sh tile op arg0 x)) e q
    (note_fits b sh x us us (privileged_step sh tile op arg0 x) (λ h. privileged_notes b sh tile op arg0 x))
