-- The invariant gives the three claims of demand 3. Assumes nothing.
use Prim.Native.Nat.{ℕ, zero, suc, ◌+◌, ◌*◌, ◌≤◌, ◌<◌}
use mathlib.Core.Bool.{true, false, not}
use mathlib.Core.List.{List}
use mathlib.Core.Logic.{◌≢◌, ◌⊎◌, inl, inr, ⊎_elim}
use mathlib.Core.Path.{◌≡◌, refl, sym, ap, ◌∙◌}
use native.Mathlib.Omega.{arith}
use borrow.Author.Tests.{eqb-false, leb-true, leb-false}
use lib.Dec.{eqb, leb}
use Rattle.numbers.proofs.TestLaws.{split_and}
use Rattle.std.specs.Prelude.{Err}
use Rattle.answers.specs.declared.Error.TheVariants.{RecvNoSpace}
use Rattle.board.specs.declared.Board.{Board}
use Rattle.endpoint.specs.Kinds.{send_of, receive_of}
use Rattle.endpoint.specs.declared.SendFields.{SendFields}
use Rattle.endpoint.specs.declared.ReceiveFields.{ReceiveFields}
use Rattle.endpoint.specs.declared.Endpoint.TheVariants.{Send, Receive}
use Rattle.table.specs.Table.{Table, place, endpoint_at}
use Rattle.sharing.specs.Sharing.{Shared, waiting_of, foreign, crowded}
use Rattle.sharing.proofs.ShareLaws.{good_at}
use Rattle.slots.specs.Slots.{slots_of, free_slot}
use Rattle.command.specs.Checks.{first}
use Rattle.command.specs.Command.{is_none}
use Rattle.command.specs.declared.Registers.{Registers}
use Rattle.command.proofs.CheckFacts.{before, stopped_at_two}
use Rattle.delivery.specs.Delivery as delivery
use Rattle.messages.specs.Send as sending
use Rattle.wiring.specs.Sums.{sum}
use Rattle.wiring.specs.Credits.{held, credits_held}
use Rattle.ledger.specs.Ledger.{Held, nothing, request, reply, Ledger, asks, holds, requests_held}
use Rattle.wiring.specs.Sound.{Receiver, Sender, Sound}
use Rattle.wiring.proofs.SumLaws.{sum_term}
use Rattle.ledger.proofs.SlotFacts.{none_free}
use Rattle.ledger.proofs.Shapes.{shape, cur, is_sender, held_send}
use Rattle.ledger.proofs.Inv.{Net, Inv}
use Rattle.ledger.proofs.Steps.{takes}
use Rattle.table.proofs.TableLaws.{look}
use Rattle.ledger.proofs.Commands.{Stands, sends, receives, aimed}
use Rattle.wiring.proofs.Right.{Turns}
use Rattle.ledger.proofs.Begins.{net, Feeds, feeds}

-- m slots that all hold something, with less than m requests among them, hold a reply
spare : (h : ℕ → Held) (m : ℕ) → ((i : ℕ) → i < m → h i ≢ nothing) → sum m (λ i. asks (h i)) < m → (i : ℕ) × (i < m) × (h i ≡ reply)
unfolding sum
spare h zero ne l = absurd (omega arith)
spare h (suc m) ne l = go (h m) refl (λ l'. spare h m (λ i li. ne i (omega arith)) l')
  where
    go : (x : Held) → h m ≡ x → (sum m (λ i. asks (h i)) < m → (i : ℕ) × (i < m) × (h i ≡ reply)) → (i : ℕ) × (i < suc m) × (h i ≡ reply)
    go nothing e ih = absurd (ne m (omega arith) e)
    go reply e ih = (m, omega arith, e)
    go (request s) e ih = let v = ih (omega (arith, ap asks e)) in (v.0, omega (arith, v.1), v.2)

module _ (n : ℕ) (t₀ t : Table) (O : Sound n t₀) (L : Ledger) (I : Inv (net n t₀) t L) where
  pub books : {q : ℕ} {s : SendFields} → Sender n t₀ q s → (s' : SendFields) × (t q ≡ Send s') × (s'.cur_crd + L.sent q ≡ s.cur_crd + L.answered q)
  books {q} {s} S =
      let v : Feeds n t₀ O q s = feeds n t₀ O S in (
        send_of (t q),
        is_sender (t q) (I.fixed q ∙ v.is),
        I.books q (place s.tgt_tile s.tgt_ep) (record { there = S.there; is = v.is }) ∙ ap (λ x. cur x + L.answered q) S.is,
      )

  pub bound : {r : ℕ} {g : ReceiveFields} → Receiver n t r g → credits_held (n * 64) t r + requests_held t L r (slots_of g) ≤ slots_of g
  bound {r} {g} R = I.full r g.rpl_eps g.slots (takes I R.there R.is)

-- a SEND that is refused with RECV_NO_SPACE
module _ (N : Net) (b : Board) (size : N.places ≡ b.tiles * 64) (t : Table) (L : Ledger) (I : Inv N t L) (turns : Turns b.tiles t) (sh bs : List ℕ) (shares : Shared b sh)
    (own tile ep : ℕ) (a : Registers) (l : leb b.tiles tile ≡ false) (h : first (sending.SEND b t sh bs own tile ep a).checks ≡ Err RecvNoSpace) where
  abbrev n : ℕ
  n = b.tiles

  abbrev f : SendFields
  f = send_of (endpoint_at t tile ep)

  abbrev r : ℕ
  r = place f.tgt_tile f.tgt_ep

  -- what both causes have in common: the checks before have passed
  abbrev z : ReceiveFields
  z = receive_of (endpoint_at t f.tgt_tile f.tgt_ep)

  record Found : Type 0 where
    sends_it : Stands n t tile ep (Send f)
    receives_it : Stands n t f.tgt_tile f.tgt_ep (Receive z)
    unmarked : f.reply ≡ false
    on_chip : not (eqb f.tgt_chip 0) ≡ false
    on_board_lem : leb n f.tgt_tile ≡ false
    credit : eqb f.cur_crd 0 ≡ false
    cause : (is_none (free_slot z) ≡ true) ⊎ (crowded sh f.tgt_tile z.act ≡ true)

  found : Found
  unfolding delivery.message_checks delivery.delivered delivery.landing sending.send_checks sending.request_of sending.SEND
  found =
      let ok = before RecvNoSpace (sending.SEND b t sh bs own tile ep a).checks h in
      record {
        sends_it = sends n t tile ep l (ok 0 tt);
        receives_it = receives n t f.tgt_tile f.tgt_ep (ok 11 tt) (ok 12 tt);
        unmarked = ok 1 tt;
        on_chip = ok 10 tt;
        on_board_lem = ok 11 tt;
        credit = ok 9 tt;
        cause = stopped_at_two RecvNoSpace (sending.SEND b t sh bs own tile ep a).checks h 15 tt;
      }

  -- no slot is free: one of them holds a reply, since a credit is left
  no_slot : is_none (free_slot z) ≡ true → (i : ℕ) × (i < slots_of (receive_of (t r))) × (holds t L r i ≡ reply)
  unfolding credits_held
  no_slot nowhere =
      let x = found.sends_it in
      let y = found.receives_it in
      let s : ℕ = place tile ep in
      let g : ReceiveFields = receive_of (t r) in
      let is : t r ≡ Receive g = y.is ∙ ap Receive (sym (ap receive_of y.is)) in
      let R = takes I (rw size y.there) is in
      let none = rw (look t f.tgt_tile f.tgt_ep y.low) at nowhere in
      let some : 1 ≤ credits_held N.places t r = omega (
        arith,
        sum_term N.places s (λ q. held r (t q)) (rw size x.there),
        held_send r (t s) (ap shape x.is ∙ aimed f found.unmarked found.on_chip y.low),
        ap cur x.is,
        eqb-false f.cur_crd 0 found.credit,
      ) in
      spare (holds t L r) (slots_of g)
      (λ i li q. let on = none_free g (turns r g y.there is) none i li in (I.slots r g.rpl_eps g.slots R i li).real on (rw on at q))
      (omega (arith, I.full r g.rpl_eps g.slots R, some))

  -- no request has a place: 64 wait, which is as many as may
  no_place : crowded sh f.tgt_tile z.act ≡ true → waiting_of sh f.tgt_tile ≡ 64
  unfolding crowded
  no_place q =
      let waits = leb-true 64 (waiting_of sh f.tgt_tile) (split_and (foreign sh f.tgt_tile z.act) (leb 64 (waiting_of sh f.tgt_tile)) q).1 in
      let most = (good_at b sh f.tgt_tile shares (leb-false n f.tgt_tile found.on_board_lem)).few in
      omega arith

  pub full : ((i : ℕ) × (i < slots_of (receive_of (t r))) × (holds t L r i ≡ reply)) ⊎ (waiting_of sh f.tgt_tile ≡ 64)
  full = ⊎_elim (λ q. inl (no_slot q)) (λ q. inr (no_place q)) found.cause
