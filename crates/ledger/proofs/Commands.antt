-- Each accepted command keeps the invariant: what its checks have shown, handed to `Steps`. Checks are named by their place in the
-- command's list, counted from 0. Assumes nothing.
use Prim.Native.Nat.{ℕ, ◌+◌, ◌*◌, ◌^◌, ◌≤◌, ◌<◌}
use mathlib.Core.Bool.{Bool, true, false, not, ◌&&◌}
use mathlib.Core.List.{List, [], ◌∷◌}
use mathlib.Core.Path.{◌≡◌, refl, sym, ap, ◌∙◌}
use native.Mathlib.Omega.{arith}
use borrow.Author.Tests.{eqb-true, eqb-false, ne_eqb, leb-false, not-false}
use lib.Dec.{eqb, leb}
use Rattle.numbers.specs.Choice.{◌gives◌else◌}
use Rattle.answers.specs.declared.Error.TheVariants.{NoRep, ForeignEp}
use Rattle.std.specs.Prelude.{Ok, Option, Some, None}
use Rattle.bits.specs.declared.Slot.{Slot}
use Rattle.board.specs.declared.Board.{Board}
use Rattle.endpoint.specs.Kinds.{is_invalid, is_send, is_receive, send_of, receive_of}
use Rattle.endpoint.specs.declared.SendFields.{SendFields}
use Rattle.endpoint.specs.declared.ReceiveFields.{ReceiveFields}
use Rattle.endpoint.specs.declared.Endpoint.{Endpoint}
use Rattle.endpoint.specs.declared.Endpoint.TheVariants.{Send, Receive}
use Rattle.table.specs.Table.{Table, place, endpoint_at}
use Rattle.table.proofs.TableLaws.{look, live}
use Rattle.sharing.specs.declared.Note.TheVariants.{Read}
use Rattle.slots.specs.Slots.{slots_of, unread_slot, slot_named}
use Rattle.command.specs.Checks.{◌⇒◌, first}
use Rattle.command.specs.Command.{Command, nothing as no_bytes, does, ◌noting◌, send◌or◌gives◌, receive◌or◌gives◌, memory◌or◌gives◌, slot◌or◌gives◌, slot◌else◌gives◌}
use Rattle.command.specs.Outcome.{tabled}
use Rattle.command.specs.declared.Registers.{Registers}
use Rattle.command.proofs.CheckFacts.{nth, passed}
use Rattle.delivery.specs.declared.Header.{Header}
use Rattle.delivery.specs.Delivery as delivery
use Rattle.messages.specs.Send as sending
use Rattle.credits.specs.Credits.{with_credits}
use Rattle.credits.proofs.RoomLaws.{room_is}
use Rattle.messages.specs.Reply as replying
use Rattle.machine.proofs.Fitting.{is_send_lem, is_receive_lem}
use Rattle.wiring.proofs.Right.{Turns}
use Rattle.receive.specs.Fetch as fetching
use Rattle.receive.specs.Ack as acking
use Rattle.access.specs.Access as accessing
use Rattle.machine.specs.Machine.{Opcode, op_idle, op_send, op_reply, op_read, op_write, op_fetch, op_ack, op_other, step_of}
use Rattle.ledger.specs.Ledger.{Ledger, next_slot, entered}
use Rattle.wiring.specs.Sound.{beside}
use Rattle.wiring.proofs.Places.{clash}
use Rattle.ledger.proofs.SlotFacts.{next_free}
use Rattle.ledger.proofs.Shapes.{sender, shape, cur, most, shape_send, is_sender}
use Rattle.ledger.proofs.Inv.{Net, Gives, Inv}
use Rattle.ledger.proofs.Moves.{few}
use Rattle.ledger.proofs.Steps.{Sending, send_keeps, Replying, named_by, sender_is, short, reply_keeps, fetch_keeps, ack_bare, ack_keeps}

-- ---- what stands at a place
-- an endpoint that a command has found to be of some kind
pub record Stands (n : ℕ) (t : Table) (a e : ℕ) (x : Endpoint) : Type 0 where
  pub low : e < 64
  pub there : place a e < n * 64
  pub is : t (place a e) ≡ x

stands : (n : ℕ) (t : Table) (a e : ℕ) (x : Endpoint) → leb n a ≡ false → endpoint_at t a e ≡ x → is_invalid x ≡ false → Stands n t a e x
stands n t a e x l h d =
    let low : e < 64 = live t a e (rw h d) in
    record { low = low; there = omega (arith, leb-false n a l); is = sym (look t a e low) ∙ h }

module _ (n : ℕ) (t : Table) (a e : ℕ) (l : leb n a ≡ false) where
  pub receives : not (is_receive (endpoint_at t a e)) ≡ false → Stands n t a e (Receive (receive_of (endpoint_at t a e)))
  receives h = stands n t a e _ l (is_receive_lem (endpoint_at t a e) (not-false _ h)) refl

  pub sends : not (is_send (endpoint_at t a e)) ≡ false → Stands n t a e (Send (send_of (endpoint_at t a e)))
  sends h = stands n t a e _ l (is_send_lem (endpoint_at t a e) (not-false _ h)) refl

-- a sender that a SEND has found aims at the receiver that it has found
pub aimed : (f : SendFields) → f.reply ≡ false → not (eqb f.tgt_chip 0) ≡ false → f.tgt_ep < 64 → shape (Send f) ≡ sender (place f.tgt_tile f.tgt_ep)
aimed f h c l = shape_send f h (eqb-true f.tgt_chip 0 (not-false _ c)) l

-- an endpoint of the same tile
at_tile : (a e k : ℕ) → e < 64 → place a k ≡ beside (place a e) k
at_tile a e k l = omega arith

-- ---- the credit and the reply endpoint
told_ranged : (a b : Bool) → not a && not b ≡ true → b ≡ false
told_ranged true b h = clash (cc)
told_ranged false true h = clash (cc)
told_ranged false false h = refl

-- a sender that has fewer credits than it may have, and fewer than 62, gets its credit
creditable_is : (x : Endpoint) → x ≡ Send (send_of x) → cur x < most x → cur x ≤ 61 → replying.creditable x ≡ true
unfolding replying.creditable
creditable_is x e l m = rw (ap is_send e, room_is (send_of x) (l, (m, tt)))

credited_is : (x : Endpoint) → replying.credited x ≡ Send (with_credits (send_of x) (cur x + 1))
unfolding replying.credited
credited_is x = refl

rep_is : (tile ep : ℕ) (f : SendFields) (a : Registers) → (replying.response tile ep f a).rep ≡ f.crd_ep
unfolding replying.response
rep_is tile ep f a = refl

-- the reply endpoint has its mark and names the sender
marked : (g : ReceiveFields) (h : Header) → (sending.reply_to g h).reply ≡ true
unfolding sending.reply_to
marked g h = refl

sep_is : (ep : ℕ) (f : SendFields) → eqb f.cur_crd 63 ≡ false → sending.sep_of ep f ≡ ep
unfolding sending.sep_of ◌gives◌else◌
sep_is ep f h = rw h

module _ (g : ReceiveFields) (t : Table) (tile ep : ℕ) (f : SendFields) (a : Registers) where
  abbrev v : SendFields
  v = sending.reply_to g (sending.request t tile ep f a)

  named : place v.tgt_tile v.crd_ep ≡ place tile (sending.sep_of ep f)
  unfolding sending.reply_to sending.request
  named = refl

  credit_of : v.crd_ep ≡ sending.sep_of ep f
  unfolding sending.reply_to sending.request
  credit_of = refl

module _ (N : Net) (b : Board) (t : Table) (sh bs : List ℕ) (own tile : ℕ) (size : N.places ≡ b.tiles * 64) (turns : Turns b.tiles t)
    (l : leb b.tiles tile ≡ false) (L : Ledger) (I : Inv N t L) where
  abbrev n : ℕ
  n = b.tiles

  abbrev step : Opcode → ℕ → Registers → Command
  step op ep a = step_of b t sh bs own tile op ep a

  abbrev result : Opcode → ℕ → Registers → Table
  result op ep a = tabled t (step op ep a).effect.writes

  send_case : (ep : ℕ) (a : Registers) → first (step op_send ep a).checks ≡ Ok tt → Inv N (result op_send ep a) (entered t tile op_send ep a L)
  unfolding step_of delivery.message_checks delivery.delivered delivery.landing delivery.arrival sending.send_checks sending.reply_placed sending.credit_spent sending.send_writes sending.request_of sending.SEND
  send_case ep a h =
      let ok = passed (step op_send ep a).checks h in
      let f : SendFields = send_of (endpoint_at t tile ep) in
      let g : ReceiveFields = receive_of (endpoint_at t f.tgt_tile f.tgt_ep) in
      let x : Stands n t tile ep (Send f) = sends n t tile ep l (ok 0) in
      let y : Stands n t f.tgt_tile f.tgt_ep (Receive g) = receives n t f.tgt_tile f.tgt_ep (ok 11) (ok 12) in
      let s : ℕ = place tile ep in
      let r : ℕ = place f.tgt_tile f.tgt_ep in
      let feeds : Gives N s r = record { there = rw size x.there; is = sym (I.fixed s) ∙ ap shape x.is ∙ aimed f (ok 1) (ok 10) y.low } in
      let c63 : eqb f.cur_crd 63 ≡ false = ne_eqb f.cur_crd 63 (λ e. omega (arith, ap cur x.is, few I feeds)) in
      let free = next_free g (turns r g y.there y.is) (ok 15) in
      let C : Sending N t s r f g (sending.reply_to g (sending.request t tile ep f a)) = record {
        feeds = feeds;
        src = x.is;
        some = eqb-false f.cur_crd 0 (ok 9);
        there = rw size y.there;
        dst = y.is;
        room = free.low;
        free = free.free;
        mark = marked g (sending.request t tile ep f a);
        names = rw (named g t tile ep f a, sep_is ep f c63);
        low = rw (credit_of g t tile ep f a, sep_is ep f c63) x.low;
      } in
      rw (c63, at_tile f.tgt_tile f.tgt_ep (g.rpl_eps + next_slot g) y.low)
      (send_keeps I C (not (eqb (sending.request t tile ep f a).rep 65535) && not (eqb g.rpl_eps 65535))
      (λ q. eqb-false g.rpl_eps 65535 (told_ranged (eqb (sending.request t tile ep f a).rep 65535) (eqb g.rpl_eps 65535) q)))

  -- the reply endpoint that an accepted REPLY uses
  abbrev answers : ℕ → Registers → SendFields
  answers ep a = let g = receive_of (endpoint_at t tile ep) in send_of (endpoint_at t tile (g.rpl_eps + slot_named g a.arg0))

  made : (ep : ℕ) (a : Registers) → first (step op_reply ep a).checks ≡ Ok tt
      → let g = receive_of (endpoint_at t tile ep) in
      let f = answers ep a in
      Replying N t (place tile ep) (slot_named g a.arg0) (place f.tgt_tile f.tgt_ep) g f (receive_of (endpoint_at t f.tgt_tile f.tgt_ep))
  unfolding step_of delivery.message_checks delivery.delivered delivery.landing replying.from_checks replying.reply_checks replying.response_of replying.answer_of replying.REPLY
  made ep a h =
      let ok = passed (step op_reply ep a).checks h in
      let g : ReceiveFields = receive_of (endpoint_at t tile ep) in
      let i : ℕ = slot_named g a.arg0 in
      let f : SendFields = answers ep a in
      let g' : ReceiveFields = receive_of (endpoint_at t f.tgt_tile f.tgt_ep) in
      let x : Stands n t tile ep (Receive g) = receives n t tile ep l (ok 0) in
      let w : Stands n t tile (g.rpl_eps + i) (Send f) = sends n t tile (g.rpl_eps + i) l (ok 5) in
      let y : Stands n t f.tgt_tile f.tgt_ep (Receive g') = receives n t f.tgt_tile f.tgt_ep (ok 14) (ok 15) in
      let free = next_free g' (turns (place f.tgt_tile f.tgt_ep) g' y.there y.is) (ok 18) in
      record {
        there = rw size x.there;
        src = x.is;
        ranged = eqb-false g.rpl_eps 65535 (ok 1);
        low = leb-false (slots_of g) i (ok 4);
        by = rw (at_tile tile ep (g.rpl_eps + i) x.low) at w.is;
        there' = rw size y.there;
        dst = y.is;
        room = free.low;
        free = free.free;
      }

  -- its credit has a sender to go to, and there is room for it
  pub due : (ep : ℕ) (a : Registers) → first (step op_reply ep a).checks ≡ Ok tt
      → ((answers ep a).crd_ep < 64) × (replying.creditable (endpoint_at t (answers ep a).tgt_tile (answers ep a).crd_ep) ≡ true)
  due ep a h =
      let f : SendFields = answers ep a in
      let C = made ep a h in
      let s : ℕ = place f.tgt_tile f.crd_ep in
      let low = (named_by I C).1 in
      let G = sender_is I C in
      (low, rw (look t f.tgt_tile f.crd_ep low) (creditable_is (t s) (is_sender (t s) (I.fixed s ∙ G.is)) (short I C) (omega (arith, few I G))))

  reply_case : (ep : ℕ) (a : Registers) → first (step op_reply ep a).checks ≡ Ok tt → Inv N (result op_reply ep a) (entered t tile op_reply ep a L)
  unfolding step_of delivery.message_checks delivery.delivered delivery.landing delivery.arrival replying.from_checks replying.reply_checks replying.credit_to replying.credit_returned replying.reply_gone replying.slot_freed replying.reply_writes replying.response_of replying.answer_of replying.REPLY
  reply_case ep a h =
      let ok = passed (step op_reply ep a).checks h in
      let g : ReceiveFields = receive_of (endpoint_at t tile ep) in
      let f : SendFields = answers ep a in
      let C = made ep a h in
      let back : eqb f.crd_ep 65535 ≡ false = ne_eqb f.crd_ep 65535 (omega (arith, (due ep a h).0)) in
      let s : ℕ = place f.tgt_tile f.crd_ep in
      rw (
        rep_is tile ep f a,
        back,
        (due ep a h).1,
        look t f.tgt_tile f.crd_ep (due ep a h).0,
        credited_is (t s),
        (named_by I C).0,
        at_tile tile ep (g.rpl_eps + slot_named g a.arg0) (receives n t tile ep l (ok 0)).low,
      )
      (reply_keeps I C)

  fetch_case : (ep : ℕ) (a : Registers) → first (step op_fetch ep a).checks ≡ Ok tt → Inv N (result op_fetch ep a) L
  unfolding step_of fetching.fetch_writes fetching.FETCH
  fetch_case ep a h = go (unread_slot g) h
    where
      g : ReceiveFields
      g = receive_of (endpoint_at t tile ep)

      k : Option Slot → Command
      k u = slot u else does [] no_bytes 18446744073709551615 gives λ i. does (fetching.fetch_writes tile ep g i) no_bytes (i * 2 ^ g.slot_size) noting Read

      go : (u : Option Slot) → first ((not (is_receive (endpoint_at t tile ep)) ⇒ NoRep) ∷ (not (eqb g.act own) ⇒ ForeignEp) ∷ (k u).checks) ≡ Ok tt
          → Inv N (tabled t (k u).effect.writes) L
      go None h = I
      go (Some s₀) h = fetch_keeps I (rw size x.there) x.is s₀.index
        where
          x : Stands n t tile ep (Receive g)
          x = receives n t tile ep l (passed ((not (is_receive (endpoint_at t tile ep)) ⇒ NoRep) ∷ (not (eqb g.act own) ⇒ ForeignEp) ∷ (k (Some s₀)).checks) h 0)

  ack_case : (ep : ℕ) (a : Registers) → first (step op_ack ep a).checks ≡ Ok tt → Inv N (result op_ack ep a) L
  unfolding step_of acking.ack_checks acking.ack_writes acking.ACK_MSG
  ack_case ep a h = go (eqb g.rpl_eps 65535) refl
    where
      g : ReceiveFields
      g = receive_of (endpoint_at t tile ep)

      i : ℕ
      i = slot_named g a.arg0

      ok : (j : ℕ) → nth (step op_ack ep a).checks j ≡ false
      ok = passed (step op_ack ep a).checks h

      x : Stands n t tile ep (Receive g)
      x = receives n t tile ep l (ok 0)

      go : (b : Bool) → eqb g.rpl_eps 65535 ≡ b → Inv N (result op_ack ep a) L
      go true q = rw q (ack_bare I (rw size x.there) x.is i (eqb-true g.rpl_eps 65535 q))
      go false q =
          rw (q, at_tile tile ep (g.rpl_eps + i) x.low)
          (ack_keeps I (rw size x.there) x.is i (eqb-false g.rpl_eps 65535 q) (leb-false (slots_of g) i (ok 3)))

  pub accepted : (op : Opcode) (ep : ℕ) (a : Registers) → first (step op ep a).checks ≡ Ok tt → Inv N (result op ep a) (entered t tile op ep a L)
  unfolding step_of accessing.ACCESS
  accepted op_idle ep a h = I
  accepted op_send ep a h = send_case ep a h
  accepted op_reply ep a h = reply_case ep a h
  accepted op_read ep a h = I
  accepted op_write ep a h = I
  accepted op_fetch ep a h = fetch_case ep a h
  accepted op_ack ep a h = ack_case ep a h
  accepted op_other ep a h = I
