-- The writes of an accepted command fit: each goes to a place of the table and is acceptable there. What a command knows it has
-- from its own checks, which are named by their places in its list, counted from 0. Assumes nothing.
use Prim.Native.Nat.{ℕ, ◌+◌, ◌-◌, ◌*◌, ◌^◌, ◌<◌, ◌≤◌}
use mathlib.Core.Bool.{Bool, true, false, not, ◌&&◌}
use mathlib.Core.List.{List, []}
use mathlib.Core.Path.{◌≡◌, refl, sym, ap, ◌∙◌}
use native.Mathlib.Omega.{arith}
use lib.Dec.{eqb, leb}
use borrow.Author.Tests.{leb-false, not-true, not-false}
use Rattle.std.specs.Prelude.{if◌then◌else◌, Ok, Option, Some, None}
use Rattle.numbers.specs.Tests.{All}
use Rattle.numbers.proofs.TestLaws.{split_and, true_all}
use Rattle.numbers.proofs.SumLaws.{above_false}
use Rattle.bits.specs.declared.Slot.{Slot}
use Rattle.board.specs.declared.Board.{Board}
use Rattle.endpoint.specs.Kinds.{is_invalid, is_send, is_receive, send_of, receive_of}
use Rattle.endpoint.specs.Acceptable.{fits, acceptable}
use Rattle.endpoint.specs.declared.SendFields.{SendFields}
use Rattle.endpoint.specs.declared.ReceiveFields.{ReceiveFields}
use Rattle.endpoint.specs.declared.Endpoint.{Endpoint}
use Rattle.endpoint.specs.declared.Endpoint.TheVariants.{Invalid, Send, Receive, Memory}
use Rattle.endpoint.proofs.EndpointLaws.{fits_true}
use Rattle.table.specs.Table.{Table, place, endpoint_at}
use Rattle.table.specs.Good.{memory_at}
use Rattle.table.proofs.TableLaws.{look, live}
use Rattle.sharing.specs.declared.Note.TheVariants.{Read}
use Rattle.slots.specs.Slots.{slots_of, free_slot, unread_slot, slot_named, range_bad, range_past, filled, cleared}
use Rattle.slots.proofs.RecordLaws.{filled_ok, fetched_ok, cleared_ok}
use Rattle.slots.proofs.SlotFacts.{usable, found_free, found_unread}
use Rattle.command.specs.Checks.{first, ◌then◌}
use Rattle.command.specs.Command.{is_none, slot_of, does, ◌noting◌, nothing, send◌or◌gives◌, receive◌or◌gives◌, slot◌or◌gives◌, slot◌else◌gives◌}
use Rattle.command.specs.declared.Registers.{Registers}
use Rattle.command.proofs.CheckFacts.{passed}
use Rattle.command.proofs.WriteLaws.{Fit, Fits}
use Rattle.delivery.specs.Delivery.{message_checks, delivered, arrival, landing}
use Rattle.messages.specs.Send.{send_checks, sep_of, rsize_of, request, reply_to, reply_placed, credit_spent, send_writes, request_of, SEND}
use Rattle.messages.specs.Reply.{from_checks, reply_checks, response, creditable, credited, credit_to, credit_returned, reply_gone, slot_freed, reply_writes, response_of, answer_of, REPLY}
use Rattle.delivery.specs.declared.Header.{Header}
use Rattle.receive.specs.Fetch.{fetch_writes, FETCH}
use Rattle.credits.specs.Credits.{with_credits}
use Rattle.credits.specs.Room.{room_for}
use Rattle.credits.proofs.RoomLaws.{has_room}
use Rattle.receive.specs.Ack.{ack_checks, ack_writes, ACK_MSG}
use Rattle.command.specs.Narrow.{Narrow}

-- ---- kinds
pub is_send_lem : (e : Endpoint) → is_send e ≡ true → e ≡ Send (send_of e)
is_send_lem Invalid h = cc
is_send_lem (Send s) h = refl
is_send_lem (Receive r) h = cc
is_send_lem (Memory m) h = cc

pub is_receive_lem : (e : Endpoint) → is_receive e ≡ true → e ≡ Receive (receive_of e)
is_receive_lem Invalid h = cc
is_receive_lem (Send s) h = cc
is_receive_lem (Receive r) h = refl
is_receive_lem (Memory m) h = cc

-- ---- what is acceptable whatever the memory
pub invalid_ok : (m : ℕ) → acceptable m Invalid ≡ true
unfolding acceptable
invalid_ok m = refl

send_ok : (m : ℕ) (s : SendFields) → All (fits (Send s)) → acceptable m (Send s) ≡ true
unfolding acceptable
send_ok m s h = true_all (fits (Send s)) h

-- a send endpoint with other credits
credits_ok : (m n : ℕ) (s : SendFields) → acceptable m (Send s) ≡ true → n < 64 → acceptable m (Send (with_credits s n)) ≡ true
unfolding with_credits
credits_ok m n s ok l = let h = fits_true m (Send s) ok in send_ok m (with_credits s n) (omega arith)

pub credits_lt : (m : ℕ) (s : SendFields) → acceptable m (Send s) ≡ true → s.cur_crd < 64
credits_lt m s ok = (fits_true m (Send s) ok).1.1.0

-- ---- choices
-- neither of two tests holds
neither : (p q : Bool) → (not p && not q) ≡ true → (p ≡ false) × (q ≡ false)
neither p q h = let d = split_and (not p) (not q) h in (not-true p d.0, not-true q d.1)

-- a test that is excepted
excepted : (p q : Bool) → (not p && not q) ≡ false → p ≡ false → q ≡ true
excepted true q h e = cc
excepted false q h e = not-false q h

-- a reply range that is there ends at or below 64
range_ends : (r : ReceiveFields) → range_bad r ≡ false → eqb r.rpl_eps 65535 ≡ false → r.rpl_eps + slots_of r ≤ 64
unfolding range_bad range_past
range_ends r h e = above_false (r.rpl_eps + slots_of r) 64 (rw e at h)

sep_lt : (ep : ℕ) (s : SendFields) → ep < 64 → sep_of ep s < 65536
unfolding sep_of
sep_lt ep s l = go (eqb s.cur_crd 63)
  where
    go : (p : Bool) → (if p then 65535 else ep) < 65536
    go true = omega arith
    go false = omega arith

-- an endpoint that a command read and found to be of some kind: it has a place, and is acceptable there
pub record Stands (b : Board) (tile ep : ℕ) (x : Endpoint) : Type 0 where
  pub low : ep < 64
  pub there : place tile ep < b.tiles * 64
  pub ok : acceptable (memory_at b (place tile ep)) x ≡ true

-- ---- the writes that SEND and REPLY share, or that have fields of their own
-- the slot that was found is one of the receiver's
slot_below : (m : ℕ) (r : ReceiveFields) → acceptable m (Receive r) ≡ true → is_none (free_slot r) ≡ false → slot_of (free_slot r) < slots_of r
slot_below m r ok h = found_free r (usable m r ok) h

-- a message comes into it
arrival_fits : (b : Board) (tile ep : ℕ) (r : ReceiveFields) → Stands b tile ep (Receive r) → is_none (free_slot r) ≡ false
    → Fit b (Receive (filled r (slot_of (free_slot r)))) (place tile ep)
arrival_fits b tile ep r y h =
    let m = memory_at b (place tile ep) in
    record { there = y.there; ok = filled_ok m r y.ok (slot_of (free_slot r)) (slot_below m r y.ok h) }

-- a slot is given back
cleared_fits : (b : Board) (tile ep : ℕ) (r : ReceiveFields) (i : ℕ) → Stands b tile ep (Receive r) → leb (slots_of r) i ≡ false → Fit b (Receive (cleared r i)) (place tile ep)
cleared_fits b tile ep r i y h = record { there = y.there; ok = cleared_ok (memory_at b (place tile ep)) r y.ok i (leb-false (slots_of r) i h) }

-- a credit goes, and one comes back, where there is room for it
taken_fits : (b : Board) (tile ep : ℕ) (s : SendFields) → Stands b tile ep (Send s) → Fit b (Send (with_credits s (s.cur_crd - 1))) (place tile ep)
taken_fits b tile ep s x =
    let m = memory_at b (place tile ep) in
    let l = credits_lt m s x.ok in
    record { there = x.there; ok = credits_ok m (s.cur_crd - 1) s x.ok (omega arith) }

credited_fits : (b : Board) (tile ep : ℕ) (s : SendFields) → Stands b tile ep (Send s) → room_for s ≡ true → Fit b (Send (with_credits s (s.cur_crd + 1))) (place tile ep)
credited_fits b tile ep s x h =
    let l = (has_room s h).1.0 in
    record { there = x.there; ok = credits_ok (memory_at b (place tile ep)) (s.cur_crd + 1) s x.ok (omega arith) }

-- the reply endpoint that a request leaves at the receiver r: its fields are those of a header whose fields fit
reply_ok : (m n : ℕ) (r : ReceiveFields) (h : Header) → acceptable m (Receive r) ≡ true → h.rsize < 64 → h.sep < 65536 → h.rep < 65536 → h.stile < 256 → h.schip < 64 → h.rlabel < 2 ^ 64
    → acceptable n (Send (reply_to r h)) ≡ true
unfolding reply_to
reply_ok m n r h ok rsize sep rep stile schip rlabel = let f = fits_true m (Receive r) ok in send_ok n (reply_to r h) (omega arith)

-- a send endpoint that was read stands at its place
pub stands_at : (t : Table) (tile ep : ℕ) → is_send (endpoint_at t tile ep) ≡ true → t (place tile ep) ≡ Send (send_of (endpoint_at t tile ep))
stands_at t tile ep h =
    let e = is_send_lem (endpoint_at t tile ep) h in
    sym (look t tile ep (live t tile ep (ap is_invalid e))) ∙ e

-- ---- what a command reads in a table whose endpoints are acceptable
module _ (b : Board) (t : Table) (good : (q : ℕ) → q < b.tiles * 64 → acceptable (memory_at b q) (t q) ≡ true) where
  stands : (tile ep : ℕ) → tile < b.tiles → is_invalid (endpoint_at t tile ep) ≡ false → Stands b tile ep (endpoint_at t tile ep)
  stands tile ep on h =
      let low : ep < 64 = live t tile ep h in
      let there : place tile ep < b.tiles * 64 = omega arith in
      rw (look t tile ep low) (record { low = low; there = there; ok = good (place tile ep) there })

  pub sends : (tile ep : ℕ) → tile < b.tiles → is_send (endpoint_at t tile ep) ≡ true → Stands b tile ep (Send (send_of (endpoint_at t tile ep)))
  sends tile ep on h =
      let e = is_send_lem (endpoint_at t tile ep) h in
      rw e at (stands tile ep on (ap is_invalid e))

  receives : (tile ep : ℕ) → tile < b.tiles → is_receive (endpoint_at t tile ep) ≡ true → Stands b tile ep (Receive (receive_of (endpoint_at t tile ep)))
  receives tile ep on h =
      let e = is_receive_lem (endpoint_at t tile ep) h in
      rw e at (stands tile ep on (ap is_invalid e))

  -- ---- each command, by a tile of the board
  module _ (tile ep : ℕ) (on : tile < b.tiles) where
    -- check 0: the endpoint receives
    pub fetch_fits : (own : ℕ) → first (FETCH t own tile ep).checks ≡ Ok tt → Fits b (FETCH t own tile ep).effect.writes
    unfolding FETCH fetch_writes
    fetch_fits own h =
        let r = receive_of (endpoint_at t tile ep) in
        let x = receives tile ep on (not-false (is_receive (endpoint_at t tile ep)) (passed (FETCH t own tile ep).checks h 0)) in
        go r x (unread_slot r) refl
      where
        go : (r : ReceiveFields) → Stands b tile ep (Receive r) → (u : Option Slot) → unread_slot r ≡ u
            → Fits b (slot u else does [] nothing 18446744073709551615 gives λ i. does (fetch_writes tile ep r i) nothing (i * 2 ^ r.slot_size) noting Read).effect.writes
        go r x (Some s₀) e =
            let m = memory_at b (place tile ep) in
            ((λ _. record { there = x.there; ok = fetched_ok m r x.ok s₀.index (rw e at (found_unread r (usable m r x.ok) (rw e))) }), tt)
        go r x None e = tt

    -- checks 0: the endpoint receives; 1: its reply range; 3: the slot is one of its own
    pub ack_fits : (own : ℕ) (a : Registers) → first (ACK_MSG t own tile ep a).checks ≡ Ok tt → Fits b (ACK_MSG t own tile ep a).effect.writes
    unfolding ACK_MSG ack_checks ack_writes
    ack_fits own a h =
        let ok = passed (ACK_MSG t own tile ep a).checks h in
        let r = receive_of (endpoint_at t tile ep) in
        let i = slot_named r a.arg0 in
        let x = receives tile ep on (not-false (is_receive (endpoint_at t tile ep)) (ok 0)) in
        let below = leb-false (slots_of r) i (ok 3) in (
          (λ _. cleared_fits b tile ep r i x (ok 3)),
          (
            (λ told.
                let end = range_ends r (ok 1) (not-true (eqb r.rpl_eps 65535) told) in
                record { there = omega arith; ok = invalid_ok (memory_at b (place tile (r.rpl_eps + i))) }),
            tt,
          ),
        )

    -- checks 0: the endpoint receives; 4: the slot is one of its own; 5: the reply endpoint sends; 14: the target's tile is there;
    -- 15: the target receives; 18: a slot is free
    pub reply_fits : (sh bs : List ℕ) (own : ℕ) (a : Registers) → first (REPLY b t sh bs own tile ep a).checks ≡ Ok tt → Fits b (REPLY b t sh bs own tile ep a).effect.writes
    unfolding REPLY answer_of response_of credit_to credit_returned reply_gone slot_freed from_checks reply_checks message_checks delivered landing reply_writes arrival response creditable credited
    reply_fits sh bs own a h =
        let ok = passed (REPLY b t sh bs own tile ep a).checks h in
        let g = receive_of (endpoint_at t tile ep) in
        let i = slot_named g a.arg0 in
        let s = send_of (endpoint_at t tile (g.rpl_eps + i)) in
        let r = receive_of (endpoint_at t s.tgt_tile s.tgt_ep) in
        let c = endpoint_at t s.tgt_tile s.crd_ep in
        let x = receives tile ep on (not-false (is_receive (endpoint_at t tile ep)) (ok 0)) in
        let w = sends tile (g.rpl_eps + i) on (not-false (is_send (endpoint_at t tile (g.rpl_eps + i))) (ok 5)) in
        let there = leb-false b.tiles s.tgt_tile (ok 14) in
        let y = receives s.tgt_tile s.tgt_ep there (not-false (is_receive (endpoint_at t s.tgt_tile s.tgt_ep)) (ok 15)) in (
          (λ _. arrival_fits b s.tgt_tile s.tgt_ep r y (ok 18)),
          (
            (λ told.
                let d = split_and (not (eqb s.crd_ep 65535)) (is_send c && room_for (send_of c)) told in
                let e = split_and (is_send c) (room_for (send_of c)) d.1 in
                credited_fits b s.tgt_tile s.crd_ep (send_of c) (sends s.tgt_tile s.crd_ep there e.0) e.1),
            (
              (λ _. record { there = w.there; ok = invalid_ok (memory_at b (place tile (g.rpl_eps + i))) }),
              (
                (λ _. cleared_fits b tile ep g i x (ok 4)),
                tt,
              ),
            ),
          ),
        )

    module _ (few : b.tiles ≤ 8) (a : Registers) (narrow : Narrow a) where
      -- the reply endpoint of a SEND whose arg0 names a receive endpoint: the header's fields fit its own
      told_ok : (m n : ℕ) (s : SendFields) (r : ReceiveFields) → ep < 64 → acceptable m (Receive r) ≡ true
          → eqb a.arg0 65535 ≡ false → is_receive (endpoint_at t tile a.arg0) ≡ true → acceptable n (Send (reply_to r (request t tile ep s a))) ≡ true
      unfolding request rsize_of
      told_ok m n s r low ok named is =
          let w = receives tile a.arg0 on is in
          let u = usable (memory_at b (place tile a.arg0)) (receive_of (endpoint_at t tile a.arg0)) w.ok in
          let l = w.low in
          let size : rsize_of t tile a < 64 = rw named (omega (arith, u.small)) in
          reply_ok m n r (request t tile ep s a) ok size (sep_lt ep s low) (omega arith) (omega arith) (omega arith) narrow.arg1_fits

      -- checks 0: the endpoint sends; 7: arg0 names a receive endpoint, if any; 11: the target's tile is there; 12: the target
      -- receives; 14: its reply range; 15: a slot is free
      pub send_fits : (sh bs : List ℕ) (own : ℕ) → first (SEND b t sh bs own tile ep a).checks ≡ Ok tt → Fits b (SEND b t sh bs own tile ep a).effect.writes
      unfolding SEND request_of reply_placed credit_spent send_checks message_checks delivered landing send_writes arrival request
      send_fits sh bs own h =
          let ok = passed (SEND b t sh bs own tile ep a).checks h in
          let s = send_of (endpoint_at t tile ep) in
          let r = receive_of (endpoint_at t s.tgt_tile s.tgt_ep) in
          let i = slot_of (free_slot r) in
          let x = sends tile ep on (not-false (is_send (endpoint_at t tile ep)) (ok 0)) in
          let there = leb-false b.tiles s.tgt_tile (ok 11) in
          let y = receives s.tgt_tile s.tgt_ep there (not-false (is_receive (endpoint_at t s.tgt_tile s.tgt_ep)) (ok 12)) in
          let m = memory_at b (place s.tgt_tile s.tgt_ep) in
          let below = slot_below m r y.ok (ok 15) in (
            (λ _. arrival_fits b s.tgt_tile s.tgt_ep r y (ok 15)),
            (
              (λ told.
                  let d = neither (eqb a.arg0 65535) (eqb r.rpl_eps 65535) told in
                  let end = range_ends r (ok 14) d.1 in
                  let is = excepted (eqb a.arg0 65535) (is_receive (endpoint_at t tile a.arg0)) (ok 7) d.0 in
                  record { there = omega arith; ok = told_ok m (memory_at b (place s.tgt_tile (r.rpl_eps + i))) s r x.low y.ok d.0 is }),
              (
                (λ _. taken_fits b tile ep s x),
                tt,
              ),
            ),
          )
