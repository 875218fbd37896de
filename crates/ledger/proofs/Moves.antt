-- The writes that keep the invariant: to a place of a reply range, to a receiver, to a sender. Assumes nothing.
use Prim.Native.Nat.{ℕ, ◌+◌, ◌^◌, ◌≤◌, ◌<◌, zero-le}
use mathlib.Core.Bool.{false}
use mathlib.Core.Logic.{◌≢◌, ◌⊎◌, inl, inr}
use mathlib.Core.Path.{◌≡◌, refl, sym, ap, ◌∙◌}
use native.Mathlib.Nat.{le_refl}
use native.Mathlib.Omega.{arith}
use Rattle.bits.specs.Bits.{has_bit, put_bit}
use Rattle.endpoint.specs.declared.SendFields.{SendFields}
use Rattle.endpoint.specs.declared.ReceiveFields.{ReceiveFields}
use Rattle.endpoint.specs.declared.Endpoint.{Endpoint}
use Rattle.endpoint.specs.declared.Endpoint.TheVariants.{Invalid, Send, Receive}
use Rattle.table.specs.Table.{Table, place, upd}
use Rattle.table.proofs.TableLaws.{upd_at, upd_off}
use Rattle.slots.specs.Slots.{filled}
use Rattle.wiring.specs.Credits.{held, credits_held}
use Rattle.ledger.specs.Ledger.{Held, nothing, request, Ledger, kept, asks, stow}
use Rattle.wiring.specs.Sound.{beside}
use Rattle.wiring.proofs.Places.{clash, same?, everywhere, upd_case}
use Rattle.wiring.proofs.SumLaws.{sum_le, sum_at, sum_term}
use Rattle.ledger.proofs.SlotFacts.{set_here, set_there}
use Rattle.ledger.proofs.Shapes.{other, shape, cur, most, held_other, held_recv, held_send, held_away, credits_same, credits_at}
use Rattle.ledger.proofs.Inv.{Net, Takes, Gives, Slot, occ, weigh, among, asks_of, Slots, Full, Owed, Books, Inv, recv≢other, recv≢send, send≢other, same_rpl, same_slots, slot_x}

-- slot j of the receiver r stays in g as it is, or becomes free and has no reply endpoint
abbrev pub Less : Table → ℕ → ℕ → ReceiveFields → ℕ → Type 0
Less t r p g j =
    (has_bit g.occupied j ≡ has_bit (occ (t r)) j)
    ⊎ ((has_bit g.occupied j ≡ false) × (p ≢ 65535 → (f : SendFields) → t (beside r (p + j)) ≢ Send f))

-- and weighs no more than before, where nothing weighs nothing
pub less_weight : (w : Held → ℕ) → w nothing ≡ 0 → (t : Table) (r p : ℕ) (g : ReceiveFields) (j : ℕ) (h : Held) → Less t r p g j
    → w (kept (has_bit g.occupied j) h) ≤ w (kept (has_bit (occ (t r)) j) h)
less_weight w none t r p g j h (inl e) = rw e (le_refl _)
less_weight w none t r p g j h (inr z) = rw (z.0, none) zero-le

module _ {N : Net} {t : Table} {L : Ledger} (I : Inv N t L) where
  -- a write to a receiver or a sender leaves the reply ranges alone
  away : {r p k : ℕ} (R : Takes N r p k) (i : ℕ) → i < 2 ^ k → (q : ℕ) (v : Endpoint) → N.shape q ≢ other → p ≢ 65535
      → upd t q v (beside r (p + i)) ≡ t (beside r (p + i))
  away {r} {p} R i l q v d np = upd_off t q v (beside r (p + i)) (λ e. d (sym (ap N.shape e) ∙ (I.wires.range R np i l).1))

  pub move_other : (q : ℕ) (v : Endpoint) → N.shape q ≡ other → shape v ≡ other
      → ((r p k i : ℕ) → Takes N r p k → p ≢ 65535 → i < 2 ^ k → q ≡ beside r (p + i)
      → (f : SendFields) → v ≡ Send f
      → (kept (has_bit (occ (t r)) i) (L.last r i) ≡ request (place f.tgt_tile f.crd_ep)) × (f.crd_ep < 64))
      → Inv N (upd t q v) L
  move_other q v o ov new =
      record {
        wires = I.wires;
        fixed = upd_case t q v (λ j x. shape x ≡ N.shape j) (ov ∙ sym o) (λ j d. I.fixed j);
        slots = λ r p k R i l. rw (upd_off t q v r (recv≢other R q o)) (slots R i l (same? (beside r (p + i)) q));
        full = λ r p k R. rw (upd_off t q v r (recv≢other R q o), credits_same N.places t q v r (held_other r v ov ∙ sym (held_other r (t q) (I.fixed q ∙ o)))) (I.full r p k R);
        owed = λ r s p k G R. rw (upd_off t q v r (recv≢other R q o), upd_off t q v s (send≢other G q o)) (I.owed r s p k G R);
        books = λ s r G. rw (upd_off t q v s (send≢other G q o)) (I.books s r G);
      }
    where
      slots : {r p k : ℕ} (R : Takes N r p k) (i : ℕ) → i < 2 ^ k → (beside r (p + i) ≡ q) ⊎ (beside r (p + i) ≢ q)
          → Slot N r p (upd t q v (beside r (p + i))) (has_bit (occ (t r)) i) (L.last r i)
      slots {r} {p} {k} R i l (inr d) = rw (upd_off t q v (beside r (p + i)) d) (I.slots r p k R i l)
      slots {r} {p} {k} R i l (inl e) =
          let s = I.slots r p k R i l in
          rw (upd_at t q v (beside r (p + i)) e) record { real = s.real; from = s.from; link = λ np f ev. new r p k i R np l (sym e) f ev }

  -- a reply endpoint goes
  pub remove : (q : ℕ) → N.shape q ≡ other → Inv N (upd t q Invalid) L
  unfolding shape
  remove q o = move_other q Invalid o refl (λ r p k i R np l e f w. clash (cc w))

  -- a receiver's record changes, and what its slots hold; `last` is the new account of what was last delivered
  pub move_recv : {r p k : ℕ} (R : Takes N r p k) (g : ReceiveFields) (last : ℕ → ℕ → Held) → shape (Receive g) ≡ N.shape r
      → ((j : ℕ) → j ≢ r → last j ≡ L.last j)
      → ((i : ℕ) → i < 2 ^ k → Slot N r p (t (beside r (p + i))) (has_bit g.occupied i) (last r i))
      → credits_held N.places t r + among k g.occupied (last r) ≤ 2 ^ k
      → ((s : ℕ) → Gives N s r → cur (t s) + weigh (asks_of s) k g.occupied (last r) ≤ most (t s))
      → Inv N (upd t r (Receive g)) (record { last = last; sent = L.sent; answered = L.answered })
  move_recv {r} {p} {k} R g last hg old new load owes =
      record {
        wires = I.wires;
        fixed = upd_case t r (Receive g) (λ j x. shape x ≡ N.shape j) hg (λ j d. I.fixed j);
        slots =
            everywhere (Slots N t' last) r
            (λ p' k' R' i l. slot_x (away R' i l r (Receive g) plain) (rw (upd_at t r (Receive g) r refl, same_rpl R' R) (new i (rw (same_slots R' R) at l))))
            (λ j d p' k' R' i l. slot_x (away R' i l r (Receive g) plain) (rw (upd_off t r (Receive g) j d, old j d) (I.slots j p' k' R' i l)));
        full =
            everywhere (Full N t' last) r
            (λ p' k' R'. rw (upd_at t r (Receive g) r refl, same_slots R' R, credits_same N.places t r (Receive g) r (none r)) load)
            (λ j d p' k' R'. rw (upd_off t r (Receive g) j d, old j d, credits_same N.places t r (Receive g) j (none j)) (I.full j p' k' R'));
        owed =
            everywhere (Owed N t' last) r
            (λ s p' k' G R'. rw (upd_off t r (Receive g) s (λ e. recv≢send R G (sym e)), upd_at t r (Receive g) r refl, same_slots R' R) (owes s G))
            (λ j d s p' k' G R'. rw (upd_off t r (Receive g) s (λ e. recv≢send R G (sym e)), upd_off t r (Receive g) j d, old j d) (I.owed j s p' k' G R'));
        books = λ s a G. rw (upd_off t r (Receive g) s (λ e. recv≢send R G (sym e))) (I.books s a G);
      }
    where
      t' : Table
      t' = upd t r (Receive g)

      plain : N.shape r ≢ other
      plain e = clash (cc R.is)

      none : (j : ℕ) → held j (Receive g) ≡ held j (t r)
      none j = held_recv j (Receive g) (hg ∙ R.is) ∙ sym (held_recv j (t r) (I.fixed r ∙ R.is))

  -- a sender's credits change; `sent` and `answered` are the new counts of messages and of their replies
  pub move_send : {s r : ℕ} (G : Gives N s r) (f : SendFields) (sent answered : ℕ → ℕ) → shape (Send f) ≡ N.shape s
      → ((j : ℕ) → j ≢ s → (sent j ≡ L.sent j) × (answered j ≡ L.answered j))
      → f.cur_crd + sent s ≡ N.began s + answered s
      → ((p k : ℕ) → Takes N r p k → credits_held N.places t r + f.cur_crd + among k (occ (t r)) (L.last r) ≤ 2 ^ k + cur (t s))
      → ((p k : ℕ) → Takes N r p k → f.cur_crd + weigh (asks_of s) k (occ (t r)) (L.last r) ≤ f.max_crd)
      → Inv N (upd t s (Send f)) (record { last = L.last; sent = sent; answered = answered })
  move_send {s} {r} G f sent answered hf old book load owes =
      record {
        wires = I.wires;
        fixed = upd_case t s (Send f) (λ j x. shape x ≡ N.shape j) hf (λ j d. I.fixed j);
        slots = λ j p k R i l. slot_x (away R i l s (Send f) plain) (rw (upd_off t s (Send f) j (recv≢send R G)) (I.slots j p k R i l));
        full =
            everywhere (Full N t' L.last) r
            (λ p k R. rw (upd_off t s (Send f) r (recv≢send R G))
            (omega (arith, load p k R, credits_at N.places t s (Send f) r G.there, held_send r (Send f) (hf ∙ G.is), held_send r (t s) (I.fixed s ∙ G.is))))
            (λ j d p k R. rw (upd_off t s (Send f) j (recv≢send R G), credits_same N.places t s (Send f) j (held_away j (Send f) (hf ∙ G.is) d ∙ sym (held_away j (t s) (I.fixed s ∙ G.is) d))) (I.full j p k R));
        owed = λ a s' p k G' R. rw (upd_off t s (Send f) a (recv≢send R G)) (owed a s' p k G' R (same? s' s));
        books =
            everywhere (Books N t' (record { last = L.last; sent = sent; answered = answered })) s
            (λ a G'. rw (upd_at t s (Send f) s refl) book)
            (λ j d a G'. rw (upd_off t s (Send f) j d, (old j d).0, (old j d).1) (I.books j a G'));
      }
    where
      t' : Table
      t' = upd t s (Send f)

      plain : N.shape s ≢ other
      plain e = clash (cc G.is)

      owed : (a s' p k : ℕ) → Gives N s' a → Takes N a p k → (s' ≡ s) ⊎ (s' ≢ s) → cur (t' s') + weigh (asks_of s') k (occ (t a)) (L.last a) ≤ most (t' s')
      owed a s' p k G' R (inr d) = rw (upd_off t s (Send f) s' d) (I.owed a s' p k G' R)
      owed a s' p k G' R (inl e) =
          let ea : a ≡ r = cc (G.is, rw e at G'.is) in
          rw (upd_at t s (Send f) s' e, e, ea) (owes p k (rw ea at R))

  -- slot i, which was free, takes the message m: a reply, or a request of a sender that aims here, if there is room for one more
  pub occupy : {r p k : ℕ} (R : Takes N r p k) (i : ℕ) (g : ReceiveFields) (m : Held) → t r ≡ Receive g → i < 2 ^ k → has_bit g.occupied i ≡ false
      → m ≢ nothing
      → ((s : ℕ) → m ≡ request s → Gives N s r)
      → credits_held N.places t r + among k g.occupied (L.last r) + asks m ≤ 2 ^ k
      → ((s : ℕ) → Gives N s r → cur (t s) + weigh (asks_of s) k g.occupied (L.last r) + asks_of s m ≤ most (t s))
      → Inv N (upd t r (Receive (filled g i))) (record { last = stow L.last r i m; sent = L.sent; answered = L.answered })
  unfolding filled shape
  occupy {r} {p} {k} R i g m hg li z real from load owes =
      move_recv R (filled g i) (stow L.last r i m) (sym (ap shape hg) ∙ I.fixed r)
      (λ j d. upd_off L.last r (upd (L.last r) i m) j d)
      (λ j l. rw (upd_at L.last r (upd (L.last r) i m) r refl) (slot j l (same? j i)))
      (rw (upd_at L.last r (upd (L.last r) i m) r refl) (omega (arith, load, count asks refl)))
      (λ s G. rw (upd_at L.last r (upd (L.last r) i m) r refl) (omega (arith, owes s G, count (asks_of s) refl)))
    where
      old : (j : ℕ) → j < 2 ^ k → Slot N r p (t (beside r (p + j))) (has_bit g.occupied j) (L.last r j)
      old j l = rw (ap occ hg) at (I.slots r p k R j l)

      slot : (j : ℕ) → j < 2 ^ k → (j ≡ i) ⊎ (j ≢ i) → Slot N r p (t (beside r (p + j))) (has_bit (put_bit g.occupied i 1) j) (upd (L.last r) i m j)
      slot j l (inr d) = rw (set_there g.occupied i j d, upd_off (L.last r) i m j d) (old j l)
      slot j l (inl e) =
          rw (upd_at (L.last r) i m j e, e, set_here g.occupied i)
          record { real = λ b. real; from = from; link = λ np f q. clash (cc (rw z at ((old i li).link np f q).0)) }

      -- the slots weigh more by the message
      count : (w : Held → ℕ) → w nothing ≡ 0 → weigh w k (put_bit g.occupied i 1) (upd (L.last r) i m) ≡ weigh w k g.occupied (L.last r) + w m
      count w none =
          let now : ℕ → ℕ = λ j. w (kept (has_bit (put_bit g.occupied i 1) j) (upd (L.last r) i m j)) in
          let before : ℕ → ℕ = λ j. w (kept (has_bit g.occupied j) (L.last r j)) in
          let was : before i ≡ 0 = rw z none in
          let is : now i ≡ w m = rw (set_here g.occupied i, upd_at (L.last r) i m i refl) in
          omega (arith, sum_at (2 ^ k) i now before li (λ j d. rw (set_there g.occupied i j d, upd_off (L.last r) i m j d)), was, is)

  -- slots are given back
  pub release : {r p k : ℕ} (R : Takes N r p k) (g : ReceiveFields) → shape (Receive g) ≡ N.shape r → ((j : ℕ) → j < 2 ^ k → Less t r p g j)
      → Inv N (upd t r (Receive g)) L
  release {r} {p} {k} R g hg less =
      move_recv R g L.last hg (λ j d. refl) (λ j l. slot j l (less j l))
      (omega (arith, I.full r p k R, lighter asks refl))
      (λ s G. omega (arith, I.owed r s p k G R, lighter (asks_of s) refl))
    where
      lighter : (w : Held → ℕ) → w nothing ≡ 0 → weigh w k g.occupied (L.last r) ≤ weigh w k (occ (t r)) (L.last r)
      lighter w none = sum_le (2 ^ k) _ _ (λ j l. less_weight w none t r p g j (L.last r j) (less j l))

      slot : (j : ℕ) → j < 2 ^ k → Less t r p g j → Slot N r p (t (beside r (p + j))) (has_bit g.occupied j) (L.last r j)
      slot j l (inl e) = rw e (I.slots r p k R j l)
      slot j l (inr z) = rw z.0 record { real = λ d. clash (cc); from = λ s q. clash (cc q); link = λ np f q. absurd (z.1 np f q) }

  -- a sender's credits are at most 32
  pub few : {s r : ℕ} → Gives N s r → cur (t s) ≤ 32
  unfolding credits_held
  few {s} {r} G =
      let a = I.wires.aims G in
      omega (arith, I.full r a.0 a.1 a.2, I.wires.small a.2, sum_term N.places s (λ q. held r (t q)) G.there, held_send r (t s) (I.fixed s ∙ G.is))
