-- No command makes credits unlimited that were not, or takes them above max_crd. Of each write of an accepted command it is shown at the
-- place to which it goes; checks are named by their places in the command's list, counted from 0. Assumes nothing.
use Prim.Native.Nat.{ℕ, ◌+◌, ◌-◌, ◌*◌, ◌^◌, ◌<◌}
use mathlib.Core.Bool.{Bool, true, false, not, ◌&&◌}
use mathlib.Core.List.{List, [], ◌∷◌}
use mathlib.Core.Path.{◌≡◌, refl}
use native.Mathlib.Omega.{arith}
use lib.Dec.{eqb}
use borrow.Author.Tests.{ltb-false, le-ltb, eqb-true, eqb-false, ne_eqb, leb-false, not-false}
use Rattle.numbers.proofs.TestLaws.{split_and}
use Rattle.std.specs.Prelude.{Ok, Option, Some, None}
use Rattle.bits.specs.declared.Slot.{Slot}
use Rattle.board.specs.declared.Board.{Board}
use Rattle.endpoint.specs.Kinds.{is_send, send_of, receive_of}
use Rattle.endpoint.specs.Acceptable.{acceptable}
use Rattle.endpoint.specs.declared.SendFields.{SendFields}
use Rattle.endpoint.specs.declared.ReceiveFields.{ReceiveFields}
use Rattle.endpoint.specs.declared.Endpoint.{Endpoint}
use Rattle.endpoint.specs.declared.Endpoint.TheVariants.{Send}
use Rattle.table.specs.Table.{Table, place, endpoint_at, view, upd}
use Rattle.table.specs.Good.{memory_at}
use Rattle.table.proofs.TableLaws.{good_at, upd_at, upd_off}
use Rattle.sharing.specs.Sharing.{own_of}
use Rattle.sharing.specs.declared.Note.TheVariants.{Read}
use Rattle.slots.specs.Slots.{unread_slot, slot_named}
use Rattle.command.specs.Checks.{first}
use Rattle.command.specs.Command.{Command, Write, ◌⇐◌to◌, does, ◌noting◌, nothing, memory◌or◌gives◌, send◌or◌gives◌, receive◌or◌gives◌, slot◌or◌gives◌, slot◌else◌gives◌}
use Rattle.command.specs.Narrow.{Narrow}
use Rattle.command.specs.Outcome.{tabled}
use Rattle.command.specs.declared.Registers.{Registers}
use Rattle.command.proofs.CheckFacts.{passed}
use Rattle.command.proofs.WriteLaws.{by_answer, carried_refused, settled_accepted}
use Rattle.access.specs.Access.{ACCESS}
use Rattle.delivery.specs.Delivery.{delivered, arrival, landing}
use Rattle.messages.specs.Send.{reply_to, reply_placed, credit_spent, send_writes, request_of, SEND}
use Rattle.messages.specs.Reply.{creditable, credited, response, credit_to, credit_returned, reply_gone, slot_freed, reply_writes, response_of, answer_of, REPLY}
use Rattle.credits.specs.Credits.{with_credits}
use Rattle.credits.specs.Room.{room_for}
use Rattle.credits.proofs.RoomLaws.{has_room}
use Rattle.receive.specs.Fetch.{fetch_writes, FETCH}
use Rattle.receive.specs.Ack.{ack_writes, ACK_MSG}
use Rattle.machine.specs.Machine.{Opcode, op_idle, op_send, op_reply, op_read, op_write, op_fetch, op_ack, op_other, opcode_of, step_of, machine_right, host_checks, command_of, invalidate_of, privileged_of, respond_of}
use Rattle.machine.specs.Kept.{Follows}
use Rattle.machine.specs.Capped.{Capped, Caps, EveryCommandCaps}
use Rattle.machine.proofs.Fitting.{stands_at, sends, credits_lt}
use Rattle.machine.proofs.Kept.{held, rest_passed, follows}
use Rattle.machine.proofs.PrivilegedLaws.{one_of_three}

-- ---- one write
-- what does not send has no credits
mild : (x y : Endpoint) → is_send y ≡ false → Capped x y
mild x y h = record { limited = λ _. rw h; within = λ _. rw h }

-- a reply endpoint has one credit, and may have one
placed : (x : Endpoint) (s : SendFields) → s.cur_crd ≡ 1 → s.max_crd ≡ 1 → Capped x (Send s)
placed x s p q = record { limited = λ _. rw p; within = λ _. rw (p, q) }

-- a credit goes
spent : (x : Endpoint) (s : SendFields) → x ≡ Send s → s.cur_crd < 64 → Capped x (Send (with_credits s (s.cur_crd - 1)))
unfolding with_credits
spent x s p l = record {
  limited = λ _. ne_eqb (s.cur_crd - 1) 63 (omega arith);
  within = λ h. le-ltb s.max_crd (s.cur_crd - 1) (omega (arith, ltb-false s.max_crd s.cur_crd (rw p at h)));
}

-- and comes back, where there is room for it
returned : (x y : Endpoint) (rep : ℕ) → not (eqb rep 65535) && creditable y ≡ true → Capped x (credited y)
unfolding creditable credited with_credits
returned x y rep h =
    let s = send_of y in
    let r = has_room s (split_and (is_send y) (room_for s) (split_and (not (eqb rep 65535)) (is_send y && room_for s) h).1).1 in
    record {
      limited = λ _. ne_eqb (s.cur_crd + 1) 63 (omega (arith, r.1.0));
      within = λ _. le-ltb s.max_crd (s.cur_crd + 1) (omega (arith, r.0));
    }

-- ---- many
abbrev AllCapped : Table → List Write → Type 0
AllCapped t [] = Unit {0}
AllCapped t ((b ⇐ e to q) ∷ l) = (b ≡ true → Capped (t q) e) × AllCapped t l

same : (x : Endpoint) → Capped x x
same x = record { limited = λ h. h; within = λ h. h }

tabled_capped : (t u : Table) (l : List Write) → AllCapped t l → ((q : ℕ) → Capped (t q) (u q)) → (q : ℕ) → Capped (t q) (tabled u l q)
tabled_capped t u [] c h = h
tabled_capped t u ((false ⇐ e to p) ∷ l) c h = tabled_capped t u l c.1 h
tabled_capped t u ((true ⇐ e to p) ∷ l) c h = tabled_capped t (upd u p e) l c.1 (λ q. go q (eqb q p) refl)
  where
    go : (q : ℕ) (b : Bool) → eqb q p ≡ b → Capped (t q) (upd u p e q)
    go q true i = let j = eqb-true q p i in rw (upd_at u p e q j, j) (c.0 refl)
    go q false i = rw (upd_off u p e q (eqb-false q p i)) (h q)

-- ---- each command
module _ (b : Board) (t : Table) (good : (q : ℕ) → q < b.tiles * 64 → acceptable (memory_at b q) (t q) ≡ true) (tile ep : ℕ) (on : tile < b.tiles) where
  -- check 0: the endpoint sends
  send_caps : (sh bs : List ℕ) (own : ℕ) (a : Registers) → first (SEND b t sh bs own tile ep a).checks ≡ Ok tt → AllCapped t (SEND b t sh bs own tile ep a).effect.writes
  unfolding SEND request_of delivered landing send_writes arrival reply_placed reply_to credit_spent
  send_caps sh bs own a h =
      let is = not-false (is_send (endpoint_at t tile ep)) (passed (SEND b t sh bs own tile ep a).checks h 0) in
      let s = send_of (endpoint_at t tile ep) in
      let here = stands_at t tile ep is in
      let w = sends b t good tile ep on is in
      ((λ _. mild _ _ refl), ((λ _. placed _ _ refl refl), ((λ _. spent (t (place tile ep)) s here (credits_lt _ s w.ok)), tt)))

  reply_caps : (sh bs : List ℕ) (own : ℕ) (a : Registers) → AllCapped t (REPLY b t sh bs own tile ep a).effect.writes
  unfolding REPLY answer_of response_of delivered landing reply_writes arrival credit_to credit_returned response reply_gone slot_freed
  reply_caps sh bs own a =
      let g = receive_of (endpoint_at t tile ep) in
      let s = send_of (endpoint_at t tile (g.rpl_eps + slot_named g a.arg0)) in
      ((λ _. mild _ _ refl), ((λ told. returned _ _ s.crd_ep told), ((λ _. mild _ _ refl), ((λ _. mild _ _ refl), tt))))

  fetch_caps : (own : ℕ) → AllCapped t (FETCH t own tile ep).effect.writes
  unfolding FETCH fetch_writes
  fetch_caps own = go (receive_of (endpoint_at t tile ep)) (unread_slot (receive_of (endpoint_at t tile ep)))
    where
      go : (r : ReceiveFields) (u : Option Slot)
          → AllCapped t (slot u else does [] nothing 18446744073709551615 gives λ i. does (fetch_writes tile ep r i) nothing (i * 2 ^ r.slot_size) noting Read).effect.writes
      go r (Some s₀) = ((λ _. mild _ _ refl), tt)
      go r None = tt

  ack_caps : (own : ℕ) (a : Registers) → AllCapped t (ACK_MSG t own tile ep a).effect.writes
  unfolding ACK_MSG ack_writes
  ack_caps own a = ((λ _. mild _ _ refl), ((λ _. mild _ _ refl), tt))

  step_caps : (sh bs : List ℕ) (own : ℕ) (a : Registers) (op : Opcode) → first (step_of b t sh bs own tile op ep a).checks ≡ Ok tt → AllCapped t (step_of b t sh bs own tile op ep a).effect.writes
  unfolding step_of ACCESS
  step_caps sh bs own a op_idle h = tt
  step_caps sh bs own a op_send h = send_caps sh bs own a h
  step_caps sh bs own a op_reply h = reply_caps sh bs own a
  step_caps sh bs own a op_read h = tt
  step_caps sh bs own a op_write h = tt
  step_caps sh bs own a op_fetch h = fetch_caps own
  step_caps sh bs own a op_ack h = ack_caps own a
  step_caps sh bs own a op_other h = tt

-- ---- any call: where it is refused nothing changes, and else the machine is right and the table follows the writes
call_caps : (b : Board) (ws sh bs : List ℕ) (tile : ℕ) (k : Command) → (first k.checks ≡ Ok tt → machine_right b ws sh bs ≡ true) → Follows b ws sh bs tile k
    → (first k.checks ≡ Ok tt → AllCapped (view ws) k.effect.writes) → Caps ws bs k
call_caps b ws sh bs tile k right f caps x q =
    by_answer (first k.checks)
    (λ h. rw (f (right h) x, settled_accepted (λ e. view ws) (λ d. tabled (view ws) d.writes) k h) (tabled_capped (view ws) (view ws) k.effect.writes (caps h) (λ j. same (view ws j)) q))
    (λ e h. rw (carried_refused x ws bs k e h) (same (view ws q)))

-- check 0 of each call is that the machine is right
module _ (b : Board) (ws sh bs : List ℕ) (tile : ℕ) where
  command_caps : (op ep : ℕ) (a : Registers) → Narrow a → Caps ws bs (command_of b ws sh bs tile op ep a)
  unfolding command_of host_checks
  command_caps op ep a narrow =
      call_caps b ws sh bs tile (command_of b ws sh bs tile op ep a) right (follows.command b ws sh bs tile op ep a narrow)
      (λ h.
      let m = held b ws sh bs (right h) in
      let on = leb-false b.tiles tile (passed (command_of b ws sh bs tile op ep a).checks h 1) in
      step_caps b (view ws) (good_at b ws m.good) tile ep on sh bs (own_of sh tile) a (opcode_of op) (rest_passed (host_checks b ws sh bs tile) (step_of b (view ws) sh bs (own_of sh tile) tile (opcode_of op) ep a).checks h))
    where
      right : first (command_of b ws sh bs tile op ep a).checks ≡ Ok tt → machine_right b ws sh bs ≡ true
      right h = not-false (machine_right b ws sh bs) (passed (command_of b ws sh bs tile op ep a).checks h 0)

  invalidate_caps : (ep : ℕ) → Caps ws bs (invalidate_of b ws sh bs tile ep)
  unfolding invalidate_of host_checks
  invalidate_caps ep =
      call_caps b ws sh bs tile (invalidate_of b ws sh bs tile ep) (λ h. not-false (machine_right b ws sh bs) (passed (invalidate_of b ws sh bs tile ep).checks h 0))
      (follows.invalidate b ws sh bs tile ep) (λ h. ((λ _. mild _ _ refl), tt))

  privileged_caps : (op arg0 arg1 : ℕ) → Caps ws bs (privileged_of b ws sh bs tile op arg0 arg1)
  unfolding privileged_of host_checks
  privileged_caps op arg0 arg1 =
      call_caps b ws sh bs tile (privileged_of b ws sh bs tile op arg0 arg1) (λ h. not-false (machine_right b ws sh bs) (passed (privileged_of b ws sh bs tile op arg0 arg1).checks h 0))
      (follows.privileged b ws sh bs tile op arg0 arg1) (λ h. one_of_three (λ k. AllCapped (view ws) k.effect.writes) sh tile op arg0 arg1 tt tt tt)

  respond_caps : Caps ws bs (respond_of b ws sh bs tile)
  unfolding respond_of host_checks
  respond_caps =
      call_caps b ws sh bs tile (respond_of b ws sh bs tile) (λ h. not-false (machine_right b ws sh bs) (passed (respond_of b ws sh bs tile).checks h 0))
      (follows.respond b ws sh bs tile) (λ h. tt)

pub caps : EveryCommandCaps
caps = record { command = command_caps; invalidate = invalidate_caps; privileged = privileged_caps; respond = respond_caps }
