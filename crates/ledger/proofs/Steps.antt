-- The writes of each accepted command keep the invariant. Assumes nothing.
use Prim.Native.Nat.{ℕ, ◌+◌, ◌-◌, ◌^◌, ◌≤◌, ◌<◌}
use mathlib.Core.Bool.{Bool, true, false, cond}
use mathlib.Core.Logic.{◌≢◌, ◌⊎◌, inl, inr}
use mathlib.Core.Path.{◌≡◌, refl, sym, ap, ◌∙◌}
use native.Mathlib.Nat.{le_refl}
use native.Mathlib.Omega.{arith}
use borrow.Author.Tests.{eq-eqb, ne_eqb}
use Rattle.bits.specs.Bits.{has_bit, put_bit}
use Rattle.endpoint.specs.Kinds.{send_of}
use Rattle.endpoint.specs.declared.SendFields.{SendFields}
use Rattle.endpoint.specs.declared.ReceiveFields.{ReceiveFields}
use Rattle.endpoint.specs.declared.Endpoint.{Endpoint}
use Rattle.endpoint.specs.declared.Endpoint.TheVariants.{Invalid, Send, Receive}
use Rattle.table.specs.Table.{Table, place, upd}
use Rattle.table.proofs.TableLaws.{upd_at, upd_off}
use Rattle.slots.specs.Slots.{slots_of, filled, fetched, cleared}
use Rattle.credits.specs.Credits.{with_credits}
use Rattle.wiring.specs.Credits.{credits_held}
use Rattle.ledger.specs.Ledger.{Held, nothing, request, reply, Ledger, kept, asks, stow, next_slot}
use Rattle.wiring.specs.Sound.{beside}
use Rattle.wiring.proofs.Places.{clash, same?, upd_comm}
use Rattle.wiring.proofs.SumLaws.{sum_term, sum_lt}
use Rattle.ledger.proofs.SlotFacts.{set_here, set_there, clear_here, clear_there}
use Rattle.ledger.proofs.Shapes.{other, shape, cur, most, is_sender, held_recv, held_send, credits_same, credits_at}
use Rattle.ledger.proofs.Inv.{Net, Takes, Gives, occ, weigh, among, asks_of, Inv, recv≢other, recv≢send, send≢other, same_slots}
use Rattle.ledger.proofs.Moves.{Less, less_weight, move_other, move_send, remove, occupy, release}

own_request : (s : ℕ) → asks_of s (request s) ≡ 1
own_request s = rw (eq-eqb s s refl)

-- ---- SEND by f at s to g at r, whose reply endpoint would be v
pub record Sending (N : Net) (t : Table) (s r : ℕ) (f : SendFields) (g : ReceiveFields) (v : SendFields) : Type 0 where
  pub feeds : Gives N s r
  pub src : t s ≡ Send f
  pub some : f.cur_crd ≢ 0
  pub there : r < N.places
  pub dst : t r ≡ Receive g
  pub room : next_slot g < slots_of g
  pub free : has_bit g.occupied (next_slot g) ≡ false
  pub mark : v.reply ≡ true
  pub names : place v.tgt_tile v.crd_ep ≡ s
  pub low : v.crd_ep < 64

module _ {N : Net} {t : Table} {L : Ledger} (I : Inv N t L) where
  pub takes : {r : ℕ} {g : ReceiveFields} → r < N.places → t r ≡ Receive g → Takes N r g.rpl_eps g.slots
  unfolding shape
  takes {r} l e = record { there = l; is = sym (I.fixed r) ∙ ap shape e }

  module _ {s r : ℕ} {f : SendFields} {g : ReceiveFields} {v : SendFields} (C : Sending N t s r f g v) where
    abbrev F : Endpoint
    F = Send (with_credits f (f.cur_crd - 1))

    abbrev G : Endpoint
    G = Receive (filled g (next_slot g))

    abbrev q : ℕ
    q = beside r (g.rpl_eps + next_slot g)

    abbrev L₁ : Ledger
    L₁ = record { last = L.last; sent = upd L.sent s (L.sent s + 1); answered = L.answered }

    abbrev L₂ : Ledger
    L₂ = record { last = stow L.last r (next_slot g) (request s); sent = upd L.sent s (L.sent s + 1); answered = L.answered }

    R : Takes N r g.rpl_eps g.slots
    R = takes C.there C.dst

    r≢s : r ≢ s
    r≢s = recv≢send R C.feeds

    shape_f : shape F ≡ N.shape s
    unfolding with_credits shape
    shape_f = sym (ap shape C.src) ∙ I.fixed s

    -- first the credit, then the message, then the reply endpoint
    taken : Inv N (upd t s F) L₁
    unfolding with_credits
    taken =
        move_send I C.feeds (with_credits f (f.cur_crd - 1)) L₁.sent L.answered shape_f
        (λ j d. (upd_off L.sent s (L.sent s + 1) j d, refl))
        (rw (upd_at L.sent s (L.sent s + 1) s refl) (omega (arith, I.books s r C.feeds, ap cur C.src, C.some)))
        (λ p k T. omega (arith, I.full r p k T, ap cur C.src))
        (λ p k T. omega (arith, I.owed r s p k C.feeds T, ap cur C.src, ap most C.src))

    -- it is the message's sender that has one request more
    owes : (x : ℕ) → Gives N x r → cur (upd t s F x) + weigh (asks_of x) g.slots g.occupied (L.last r) + asks_of x (request s) ≤ most (upd t s F x)
    unfolding with_credits
    owes x X = go (same? x s)
      where
        was : cur (t x) + weigh (asks_of x) g.slots g.occupied (L.last r) ≤ most (t x)
        was = rw (ap occ C.dst) at (I.owed r x g.rpl_eps g.slots X R)

        go : (x ≡ s) ⊎ (x ≢ s) → cur (upd t s F x) + weigh (asks_of x) g.slots g.occupied (L.last r) + asks_of x (request s) ≤ most (upd t s F x)
        go (inr d) = rw (upd_off t s F x d, ne_eqb s x (λ e. d (sym e))) (omega (arith, was))
        go (inl e) =
            rw (upd_at t s F x e, eq-eqb s x (sym e)) (omega (arith, was, ap cur (ap t e ∙ C.src), ap most (ap t e ∙ C.src), C.some))

    came : Inv N (upd (upd t s F) r G) L₂
    unfolding with_credits
    came =
        occupy taken R (next_slot g) g (request s) (upd_off t s F r r≢s ∙ C.dst) C.room C.free
        (λ e. clash (cc e)) (λ x e. let es : s ≡ x = cc in rw (← es) C.feeds)
        (omega (
          arith,
          rw (ap occ C.dst) at (I.full r g.rpl_eps g.slots R),
          credits_at N.places t s F r C.feeds.there,
          held_send r F (shape_f ∙ C.feeds.is),
          held_send r (t s) (I.fixed s ∙ C.feeds.is),
          ap cur C.src,
          C.some,
        ))
        owes

    in_range : g.rpl_eps ≢ 65535 → N.shape q ≡ other
    in_range np = (I.wires.range R np (next_slot g) C.room).1

    named : g.rpl_eps ≢ 65535 → Inv N (upd (upd (upd t s F) r G) q (Send v)) L₂
    unfolding shape filled
    named np = move_other came q (Send v) (in_range np) (rw C.mark) new
      where
        new : (r' p k i : ℕ) → Takes N r' p k → p ≢ 65535 → i < 2 ^ k → q ≡ beside r' (p + i)
            → (x : SendFields) → Send v ≡ Send x
            → (kept (has_bit (occ (upd (upd t s F) r G r')) i) (L₂.last r' i) ≡ request (place x.tgt_tile x.crd_ep)) × (x.crd_ep < 64)
        new r' p k i T np' l e x ex =
            let er : r ≡ r' = I.wires.apart R T np np' (next_slot g) i C.room l e in
            let ep : g.rpl_eps ≡ p = cc (R.is, T.is) in
            let ei : next_slot g ≡ i = omega arith in
            let ev : v ≡ x = ap send_of ex in
            rw (
              ← er,
              ← ei,
              ← ev,
              C.names,
              upd_at (upd t s F) r G r refl,
              upd_at L.last r (upd (L.last r) (next_slot g) (request s)) r refl,
              upd_at (L.last r) (next_slot g) (request s) (next_slot g) refl,
              set_here g.occupied (next_slot g),
            ) (refl, C.low)

    -- in the order of the document
    pub send_keeps : (told : Bool) → (told ≡ true → g.rpl_eps ≢ 65535) → Inv N (upd (cond told (upd (upd t r G) q (Send v)) (upd t r G)) s F) L₂
    send_keeps false h = rw (upd_comm t r G s F r≢s) came
    send_keeps true h =
        rw (upd_comm (upd t r G) q (Send v) s F (λ e. send≢other C.feeds q (in_range (h refl)) (sym e)), upd_comm t r G s F r≢s) (named (h refl))

-- ---- REPLY by f on slot i of g at r, to g' at r'
pub record Replying (N : Net) (t : Table) (r i r' : ℕ) (g : ReceiveFields) (f : SendFields) (g' : ReceiveFields) : Type 0 where
  pub there : r < N.places
  pub src : t r ≡ Receive g
  pub ranged : g.rpl_eps ≢ 65535
  pub low : i < slots_of g
  pub by : t (beside r (g.rpl_eps + i)) ≡ Send f
  pub there' : r' < N.places
  pub dst : t r' ≡ Receive g'
  pub room : next_slot g' < slots_of g'
  pub free : has_bit g'.occupied (next_slot g') ≡ false

module _ {N : Net} {t : Table} {L : Ledger} (I : Inv N t L) {r i r' : ℕ} {g : ReceiveFields} {f : SendFields} {g' : ReceiveFields} (C : Replying N t r i r' g f g') where
  abbrev p : ℕ
  p = g.rpl_eps

  abbrev k : ℕ
  k = g.slots

  abbrev κ : ℕ
  κ = beside r (p + i)

  abbrev i' : ℕ
  i' = next_slot g'

  -- the sender that the reply is for
  abbrev s : ℕ
  s = place f.tgt_tile f.crd_ep

  abbrev H : Endpoint
  H = Send (with_credits (send_of (t s)) (cur (t s) + 1))

  abbrev K : Endpoint
  K = Receive (cleared g i)

  abbrev G' : Endpoint
  G' = Receive (filled g' i')

  abbrev t₁ : Table
  t₁ = upd t r' G'

  abbrev t₂ : Table
  t₂ = upd t₁ κ Invalid

  abbrev M : Ledger
  M = record { last = stow L.last r' i' reply; sent = L.sent; answered = L.answered }

  Rr : Takes N r p k
  Rr = takes I C.there C.src

  R' : Takes N r' g'.rpl_eps g'.slots
  R' = takes I C.there' C.dst

  hκ : N.shape κ ≡ other
  hκ = (I.wires.range Rr C.ranged i C.low).1

  -- the message in slot i is a request of that sender
  pub named_by : (kept (has_bit (occ (t r)) i) (L.last r i) ≡ request s) × (f.crd_ep < 64)
  named_by = (I.slots r p k Rr i C.low).link C.ranged f C.by

  pub sender_is : Gives N s r
  sender_is = (I.slots r p k Rr i C.low).from s named_by.0

  -- so there is room for its credit
  pub short : cur (t s) < most (t s)
  short =
      let here : ℕ → ℕ = λ j. asks_of s (kept (has_bit (occ (t r)) j) (L.last r j)) in
      let one : here i ≡ 1 = rw named_by.0 (own_request s) in
      omega (arith, I.owed r s p k sender_is Rr, sum_term (2 ^ k) i here C.low, one)

  -- first the reply comes in, then the reply endpoint goes, then the slot, then the credit
  I₁ : Inv N t₁ M
  I₁ =
      occupy I R' i' g' reply C.dst C.room C.free
      (λ e. clash (cc e)) (λ x e. clash (cc e)) (omega (arith, rw (ap occ C.dst) at (I.full r' g'.rpl_eps g'.slots R')))
      (λ x X. omega (arith, rw (ap occ C.dst) at (I.owed r' x g'.rpl_eps g'.slots X R')))

  I₂ : Inv N t₂ M
  I₂ = remove I₁ κ hκ

  t₂r : t₂ r ≡ t₁ r
  t₂r = upd_off t₁ κ Invalid r (recv≢other Rr κ hκ)

  -- the record read at the start, with i cleared: slot i goes, and so does a reply that came in here
  less : (j : ℕ) → j < 2 ^ k → Less t₂ r p (cleared g i) j
  unfolding cleared filled
  less j l = pick (same? j i) (same? r r')
    where
      self : j ≢ i → r ≡ r' → (j ≡ i') ⊎ (j ≢ i') → Less t₂ r p (cleared g i) j
      self d er (inr d') =
          inl (
          clear_there g.occupied i j d
          ∙ ap (λ y. has_bit (occ y) j) (sym C.src ∙ ap t er ∙ C.dst)
          ∙ sym (set_there g'.occupied i' j d')
          ∙ ap (λ y. has_bit (occ y) j) (sym (t₂r ∙ upd_at t r' G' r er))
          )
      self d er (inl es) =
          inr (
            clear_there g.occupied i j d ∙ ap (λ y. has_bit (occ y) j) (sym C.src ∙ ap t er ∙ C.dst) ∙ rw es C.free,
            λ np x w. clash (cc (rw (t₂r, upd_at t r' G' r er, er, upd_at L.last r' (upd (L.last r') i' reply) r' refl, es, set_here g'.occupied i', upd_at (L.last r') i' reply i' refl) at ((I₂.slots r p k Rr j l).link np x w).0)),
          )

      pick : (j ≡ i) ⊎ (j ≢ i) → (r ≡ r') ⊎ (r ≢ r') → Less t₂ r p (cleared g i) j
      pick (inl ej) w = inr (rw ej (clear_here g.occupied i), λ np x e. clash (cc (upd_at t₁ κ Invalid (beside r (p + j)) (rw ej), e)))
      pick (inr d) (inr dr) = inl (clear_there g.occupied i j d ∙ ap (λ y. has_bit (occ y) j) (sym (t₂r ∙ upd_off t r' G' r dr ∙ C.src)))
      pick (inr d) (inl er) = self d er (same? j i')

  shape_k : shape K ≡ N.shape r
  unfolding shape cleared
  shape_k = sym Rr.is

  I₃ : Inv N (upd t₂ r K) M
  I₃ = release I₂ Rr (cleared g i) shape_k less

  -- slot i is counted before, and not after
  fewer : (w : Held → ℕ) → w nothing ≡ 0 → w (request s) ≡ 1 → weigh w k (put_bit g.occupied i 0) (M.last r) < weigh w k (occ (t₂ r)) (M.last r)
  unfolding cleared
  fewer w none one =
      sum_lt (2 ^ k) i _ _ C.low (λ j l. less_weight w none t₂ r p (cleared g i) j (M.last r j) (less j l))
      (rw (t₂r, clear_here g.occupied i, link.0, none, one) (le_refl 1))
    where
      link : (kept (has_bit (occ (t₁ r)) i) (M.last r i) ≡ request s) × (f.crd_ep < 64)
      link = (I₁.slots r p k Rr i C.low).link C.ranged f (upd_off t r' G' κ (λ e. recv≢other R' κ hκ (sym e)) ∙ C.by)

  s≢r' : s ≢ r'
  s≢r' e = recv≢send R' sender_is (sym e)

  s≢r : s ≢ r
  s≢r e = recv≢send Rr sender_is (sym e)

  s≢κ : s ≢ κ
  s≢κ = send≢other sender_is κ hκ

  shape_h : shape H ≡ N.shape s
  unfolding shape with_credits
  shape_h = ap shape (sym (is_sender (t s) (I.fixed s ∙ sender_is.is))) ∙ I.fixed s

  pub reply_keeps : Inv N (upd (upd (upd t₁ s H) κ Invalid) r K) (record { last = M.last; sent = L.sent; answered = upd L.answered s (L.answered s + 1) })
  unfolding with_credits cleared
  reply_keeps =
      rw (upd_comm t₁ s H κ Invalid s≢κ, upd_comm t₂ s H r K s≢r)
      (move_send I₃ sender_is (with_credits (send_of (t s)) (cur (t s) + 1)) L.sent (upd L.answered s (L.answered s + 1)) shape_h
      (λ j d. (refl, upd_off L.answered s (L.answered s + 1) j d))
      (rw (upd_at L.answered s (L.answered s + 1) s refl) (omega (arith, I.books s r sender_is)))
      load owes)
    where
      t₂s : t₂ s ≡ t s
      t₂s = upd_off t₁ κ Invalid s s≢κ ∙ upd_off t r' G' s s≢r'

      owes : (p' k' : ℕ) → Takes N r p' k' → cur (t s) + 1 + weigh (asks_of s) k' (occ (upd t₂ r K r)) (M.last r) ≤ most (t s)
      owes p' k' T =
          rw (same_slots T Rr, upd_at t₂ r K r refl)
          (omega (arith, rw t₂s at (I₂.owed r s p k sender_is Rr), fewer (asks_of s) refl (own_request s)))

      load : (p' k' : ℕ) → Takes N r p' k'
          → credits_held N.places (upd t₂ r K) r + (cur (t s) + 1) + among k' (occ (upd t₂ r K r)) (M.last r) ≤ 2 ^ k' + cur (upd t₂ r K s)
      load p' k' T =
          rw (
            upd_off t₂ r K s s≢r,
            upd_off t₁ κ Invalid s s≢κ,
            upd_off t r' G' s s≢r',
            same_slots T Rr,
            upd_at t₂ r K r refl,
            credits_same N.places t₂ r K r (held_recv r K (shape_k ∙ Rr.is) ∙ sym (held_recv r (t₂ r) (I₂.fixed r ∙ Rr.is))),
          ) (omega (arith, I₂.full r p k Rr, fewer asks refl refl))

-- ---- FETCH and ACK_MSG on g at r
module _ {N : Net} {t : Table} {L : Ledger} (I : Inv N t L) {r : ℕ} {g : ReceiveFields} (there : r < N.places) (src : t r ≡ Receive g) (i : ℕ) where
  pub fetch_keeps : Inv N (upd t r (Receive (fetched g i))) L
  unfolding fetched shape
  fetch_keeps = release I (takes I there src) (fetched g i) (sym (takes I there src).is) (λ j l. inl (ap (λ y. has_bit (occ y) j) (sym src)))

  gone_at : (t' : Table) → t' r ≡ Receive g → (g.rpl_eps ≢ 65535 → t' (beside r (g.rpl_eps + i)) ≡ Invalid)
      → (j : ℕ) → Less t' r g.rpl_eps (cleared g i) j
  unfolding cleared
  gone_at t' src' gone j = pick (same? j i)
    where
      pick : (j ≡ i) ⊎ (j ≢ i) → Less t' r g.rpl_eps (cleared g i) j
      pick (inl e) = rw e (inr (clear_here g.occupied i, λ np x w. clash (cc (gone np, w))))
      pick (inr d) = inl (clear_there g.occupied i j d ∙ ap (λ y. has_bit (occ y) j) (sym src'))

  shape_c : shape (Receive (cleared g i)) ≡ N.shape r
  unfolding shape cleared
  shape_c = sym (takes I there src).is

  pub ack_bare : g.rpl_eps ≡ 65535 → Inv N (upd t r (Receive (cleared g i))) L
  ack_bare e = release I (takes I there src) (cleared g i) shape_c (λ j l. gone_at t src (λ np. absurd (np e)) j)

  pub ack_keeps : g.rpl_eps ≢ 65535 → i < slots_of g → Inv N (upd (upd t r (Receive (cleared g i))) (beside r (g.rpl_eps + i)) Invalid) L
  ack_keeps np l =
      let κ : ℕ = beside r (g.rpl_eps + i) in
      let o : N.shape κ ≡ other = (I.wires.range (takes I there src) np i l).1 in
      let d : r ≢ κ = recv≢other (takes I there src) κ o in
      rw (upd_comm t r (Receive (cleared g i)) κ Invalid d)
      (release (remove I κ o) (takes I there src) (cleared g i) shape_c (λ j lj. gone_at (upd t κ Invalid) (upd_off t κ Invalid r d ∙ src) (λ np'. upd_at t κ Invalid κ refl) j))
