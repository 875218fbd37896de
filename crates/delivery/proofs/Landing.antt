-- What is known of a message whose target was found: each fact out of the list of its checks, by its place. Assumes nothing.
use Prim.Native.Nat.{ℕ, ◌+◌, ◌*◌, ◌^◌, ◌<◌, ◌≤◌}
use mathlib.Core.Bool.{true, false, not}
use mathlib.Core.List.{List}
use mathlib.Core.Path.{◌≡◌, refl, sym, ap, ◌∙◌}
use native.Mathlib.Nat.{mul-le-mul_right, suc-mul}
use native.Mathlib.Omega.{arith}
use lib.ListN.{length}
use borrow.Author.Tests.{leb-false}
use lib.Pow.{pow-add}
use Rattle.std.specs.Prelude.{Result, Ok, Err}
use Rattle.numbers.proofs.SumLaws.{above_false}
use Rattle.answers.specs.Answers.{Answer}
use Rattle.answers.specs.declared.Error.{Error}
use Rattle.board.specs.Board.{size_of}
use Rattle.board.specs.declared.Board.{Board}
use Rattle.endpoint.specs.Acceptable.{acceptable}
use Rattle.endpoint.specs.Kinds.{is_receive, receive_of}
use Rattle.endpoint.specs.declared.Endpoint.{Endpoint}
use Rattle.endpoint.specs.declared.Endpoint.TheVariants.{Invalid, Send, Receive, Memory}
use Rattle.endpoint.specs.declared.SendFields.{SendFields}
use Rattle.endpoint.specs.declared.ReceiveFields.{ReceiveFields}
use Rattle.endpoint.proofs.EndpointLaws.{accepted}
use Rattle.table.specs.Table.{endpoint_at, view}
use Rattle.sharing.specs.Sharing.{Shared, waiting_of, crowded}
use Rattle.sharing.specs.Note.{Fits}
use Rattle.slots.specs.Slots.{slots_of, Usable, InReach}
use Rattle.slots.proofs.SlotFacts.{usable, few_slots, found_free, reaches}
use Rattle.command.specs.Checks.{first}
use Rattle.command.specs.Checked.{Checked}
use Rattle.command.specs.declared.Registers.{Registers}
use Rattle.command.specs.Command.{Command, ◌▸▸◌}
use Rattle.command.specs.Outcome.{outcome, completes, carried}
use Rattle.command.proofs.CheckFacts.{nth, passed, followed, first_then}
use Rattle.command.proofs.WriteLaws.{carried_refused}
use Rattle.command.proofs.CheckedLaws.{live_receive, acceptable_receive}
use Rattle.delivery.specs.Delivery.{too_long, receiver_of, slot_for, landing, delivered, arrival_of}
use Rattle.delivery.specs.Target.{passing, target_of}
use Rattle.delivery.specs.Stowing.{SlotIn}
use Rattle.delivery.specs.declared.Target.{Target}

clash : {A : Type 0} → ◌≡◌ {A = ℕ} 0 1 → A
clash z = absurd (omega arith)

-- ---- the definition read backwards
read_back : (r : Answer) (x y : Target) → ◌≡◌ {A = Result Target Error} (passing r x) (Ok y) → (r ≡ Ok tt) × (x ≡ y)
read_back (Ok tt) x y h = (refl, cc)
read_back (Err e) x y h = clash (cc)

read_error : (r : Answer) (x : Target) (d : Error) → ◌≡◌ {A = Result Target Error} (passing r x) (Err d) → r ≡ Err d
read_error (Ok tt) x d h = clash (cc)
read_error (Err e) x d h = cc

received : (e : Endpoint) → not (is_receive e) ≡ false → e ≡ Receive (receive_of e)
received Invalid h = clash (cc)
received (Send s) h = clash (cc)
received (Receive r) h = refl
received (Memory m) h = clash (cc)

-- ---- what a delivery comes to, once it is known where the message goes
module _ (x : ℕ) (b : Board) (ws sh bs : List ℕ) (s : SendFields) (a : Registers) (q : Result Target Error) (rest : ReceiveFields → ℕ → Command) (e : q ≡ target_of b (view ws) sh s a) where
  pub turned_away : (d : Error) → q ≡ Err d → outcome (completes (Err d) x) ws bs ≡ carried x ws bs (delivered b (view ws) sh s a rest)
  unfolding target_of delivered
  turned_away d p =
      let k = rest (receiver_of (view ws) s) (slot_for (view ws) s) in
      let h : first (landing b (view ws) sh s a) ≡ Err d = read_error (first (landing b (view ws) sh s a)) _ d (sym e ∙ p) in
      sym (carried_refused x ws bs (landing b (view ws) sh s a ▸▸ k) d (first_then (landing b (view ws) sh s a) k.checks ∙ ap (λ r. followed r (first k.checks)) h))

  pub taken : (t : Target) → q ≡ Ok t → carried x ws bs (delivered b (view ws) sh s a rest) ≡ carried x ws bs (rest t.receiver t.slot)
  unfolding target_of delivered
  taken t p =
      let h = read_back (first (landing b (view ws) sh s a)) _ t (sym e ∙ p) in
      rw (first_then, h.0) (ap (λ (y : Target). carried x ws bs (rest y.receiver y.slot)) h.1)

-- ---- and what follows on a checked machine
module _ (b : Board) (ws sh : List ℕ) (tile : ℕ) (s : SendFields) (a : Registers) (q : Result Target Error) (t : Target) (c : Checked b ws tile)
    (e : q ≡ target_of b (view ws) sh s a) (p : q ≡ Ok t) where
  found : (first (landing b (view ws) sh s a) ≡ Ok tt) × (record { receiver = receiver_of (view ws) s; slot = slot_for (view ws) s } ≡ t)
  unfolding target_of
  found = read_back (first (landing b (view ws) sh s a)) _ t (sym e ∙ p)

  test : (k : ℕ) → nth (landing b (view ws) sh s a) k ≡ false
  test = passed (landing b (view ws) sh s a) found.0

  the_receiver : receiver_of (view ws) s ≡ t.receiver
  the_receiver = ap (λ (x : Target). x.receiver) found.1

  the_slot : slot_for (view ws) s ≡ t.slot
  the_slot = ap (λ (x : Target). x.slot) found.1

  is : endpoint_at (view ws) s.tgt_tile s.tgt_ep ≡ Receive t.receiver
  unfolding landing
  is = received (endpoint_at (view ws) s.tgt_tile s.tgt_ep) (test 2) ∙ ap Receive the_receiver

  pub to_tile : s.tgt_tile < b.tiles
  unfolding landing
  to_tile = leb-false b.tiles s.tgt_tile (test 1)

  pub to_words : s.tgt_tile * 192 + 192 ≤ length ws
  to_words = omega (arith, to_tile, c.long)

  pub to_live : s.tgt_ep < 64
  to_live = live_receive (endpoint_at (view ws) s.tgt_tile s.tgt_ep) (view ws) s.tgt_tile s.tgt_ep t.receiver refl is

  pub to_acceptable : acceptable (size_of b s.tgt_tile) (Receive t.receiver) ≡ true
  to_acceptable = acceptable_receive b ws tile s.tgt_tile s.tgt_ep (endpoint_at (view ws) s.tgt_tile s.tgt_ep) t.receiver c to_tile refl is

  pub to_usable : Usable t.receiver
  to_usable = usable (size_of b s.tgt_tile) t.receiver to_acceptable

  pub to_slot : t.slot < slots_of t.receiver
  unfolding landing
  to_slot =
      let u : Usable (receiver_of (view ws) s) = rw (the_receiver) to_usable in
      rw (← the_receiver, ← the_slot) (found_free (receiver_of (view ws) s) u (test 5))

  pub to_small : t.slot < 32
  to_small = few_slots t.receiver t.slot to_usable to_slot

  pub to_reach : InReach t.receiver t.slot
  unfolding landing
  to_reach = reaches t.receiver t.slot (rw (the_receiver) at (test 4)) to_slot

  pub to_fits : a.size + 32 ≤ 2 ^ t.receiver.slot_size
  unfolding landing too_long
  to_fits = rw (the_receiver) at (above_false _ _ (test 3))

  -- a slot below 2^slots ends within the buffer, and the buffer within the tile's memory
  slot_end : t.receiver.buffer + t.slot * 2 ^ t.receiver.slot_size + 2 ^ t.receiver.slot_size ≤ size_of b s.tgt_tile
  slot_end =
      let r = t.receiver in
      let room = (accepted (size_of b s.tgt_tile) r to_acceptable).room_holds in
      let last : t.slot * 2 ^ r.slot_size + 2 ^ r.slot_size ≤ slots_of r * 2 ^ r.slot_size = rw (← suc-mul t.slot (2 ^ r.slot_size)) (mul-le-mul_right (2 ^ r.slot_size) to_slot) in
      omega (arith, last, room.1.0, pow-add 2 r.slots r.slot_size)

  pub slot_in : SlotIn b s t.receiver t.slot
  slot_in = record { board = c.board; there = to_tile; few = to_small; usable = to_usable; within = slot_end }

  -- and what is noted of it fits
  pub note_fits : Shared b sh → Fits b sh (arrival_of s t.receiver)
  unfolding arrival_of crowded landing
  note_fits d = record { there = to_tile; ep_small = to_live; room = λ f. leb-false 64 (waiting_of sh s.tgt_tile) (rw f at (rw (the_receiver) at (test 6))) }
