-- Sound wiring gives the invariant, before any command. Assumes nothing.
use Prim.Native.Nat.{ℕ, ◌+◌, ◌*◌, ◌^◌, ◌≤◌, ◌<◌}
use mathlib.Core.Bool.{false}
use mathlib.Core.Logic.{◌≢◌, ◌⊎◌, inl, inr}
use mathlib.Core.Path.{◌≡◌, refl, sym, ap, ◌∙◌}
use native.Mathlib.Nat.{le_refl}
use native.Mathlib.Omega.{arith}
use lib.Pow.{pow_mono}
use Rattle.bits.specs.Bits.{has_bit}
use Rattle.endpoint.specs.Kinds.{is_invalid, send_of}
use Rattle.endpoint.specs.declared.SendFields.{SendFields}
use Rattle.endpoint.specs.declared.ReceiveFields.{ReceiveFields}
use Rattle.endpoint.specs.declared.Endpoint.{Endpoint}
use Rattle.endpoint.specs.declared.Endpoint.TheVariants.{Invalid, Send, Receive, Memory}
use Rattle.table.specs.Table.{Table, place}
use Rattle.table.proofs.TableLaws.{look, live}
use Rattle.slots.specs.Slots.{slots_of}
use Rattle.wiring.specs.Credits.{share, held, credits_held, promise, promised}
use Rattle.ledger.specs.Ledger.{Held, nothing, blank, kept, asks}
use Rattle.wiring.specs.Sound.{beside, Receiver, Ranged, Sender, Sound}
use Rattle.wiring.proofs.Places.{clash, same?}
use Rattle.wiring.proofs.SumLaws.{sum_le, sum_none}
use Rattle.ledger.proofs.SlotFacts.{no_bits}
use Rattle.ledger.proofs.Shapes.{other, sender, shape, shape_send, is_sender, is_receiver, cur, most}
use Rattle.ledger.proofs.Inv.{Net, Takes, Gives, Wires, Slot, occ, weigh, among, asks_of, Inv}

-- the wiring as it was at the start
abbrev pub net : ℕ → Table → Net
net n t = record { places = n * 64; shape = λ q. shape (t q); began = λ s. cur (t s) }

module _ (n : ℕ) (t : Table) (O : Sound n t) where
  -- a sender of the wiring aims at a receiver
  pub record Feeds (q : ℕ) (s : SendFields) : Type 0 where
    pub is : shape (t q) ≡ sender (place s.tgt_tile s.tgt_ep)
    pub tile : s.tgt_tile < n
    pub low : s.tgt_ep < 64
    pub g : ReceiveFields
    pub dst : t (place s.tgt_tile s.tgt_ep) ≡ Receive g

  pub feeds : {q : ℕ} {s : SendFields} → Sender n t q s → Feeds q s
  feeds {q} {s} S =
      let a = O.aims S in
      let low : s.tgt_ep < 64 = live t s.tgt_tile s.tgt_ep (ap is_invalid a.2.1) in
      record {
        is = ap shape S.is ∙ shape_send s (O.clean S) a.0 low;
        tile = a.1;
        low = low;
        g = a.2.0;
        dst = sym (look t s.tgt_tile s.tgt_ep low) ∙ a.2.1;
      }

  -- a receiver of the wiring, with the record that stands there
  record Wired (r p k : ℕ) : Type 0 where
    g : ReceiveFields
    at : Receiver n t r g
    rpl : g.rpl_eps ≡ p
    slots : g.slots ≡ k
    ranged : p ≢ 65535 → Ranged n t r g
    low : (i : ℕ) → i < 2 ^ k → i < slots_of g

  wired : {r p k : ℕ} → Takes (net n t) r p k → Wired r p k
  wired {r} {p} {k} R =
      let v = is_receiver (t r) p k R.is in
      let at : Receiver n t r v.0 = record { there = R.there; is = v.1 } in
      record { g = v.0; at = at; rpl = v.2; slots = v.3; ranged = λ np. record { at = at; has = λ q. np (sym v.2 ∙ q) }; low = λ i l. rw v.3 l }

  module _ (small : (r : ℕ) (g : ReceiveFields) → Receiver n t r g → g.slots ≤ 5) where
    wires : Wires (net n t)
    unfolding shape
    wires = record { aims = aims; small = few; range = range; apart = apart }
      where
        aims : {s r : ℕ} → Gives (net n t) s r → (p : ℕ) × (k : ℕ) × Takes (net n t) r p k
        aims {s} {r} G =
            let f : SendFields = send_of (t s) in
            let v : Feeds s f = feeds (record { there = G.there; is = is_sender (t s) G.is }) in
            let er : r ≡ place f.tgt_tile f.tgt_ep = cc (G.is, v.is) in
            (v.g.rpl_eps, v.g.slots, record { there = rw er (omega (arith, v.tile, v.low)); is = ap shape (ap t er ∙ v.dst) })

        few : {r p k : ℕ} → Takes (net n t) r p k → 2 ^ k ≤ 32
        few {r} R = let v = wired R in rw (← v.slots) (pow_mono (small r v.g v.at))

        range : {r p k : ℕ} → Takes (net n t) r p k → p ≢ 65535 → (i : ℕ) → i < 2 ^ k → (p + i < 64) × (shape (t (beside r (p + i))) ≡ other)
        range {r} R np i l =
            let v = wired R in
            (omega (arith, O.ends (v.ranged np), v.low i l, v.rpl), rw (← v.rpl) (ap shape (O.bare (v.ranged np) i (v.low i l))))

        apart : {r p k r' p' k' : ℕ} → Takes (net n t) r p k → Takes (net n t) r' p' k' → p ≢ 65535 → p' ≢ 65535 → (i i' : ℕ) → i < 2 ^ k → i' < 2 ^ k'
            → beside r (p + i) ≡ beside r' (p' + i') → r ≡ r'
        apart {r} {p} {k} {r'} {p'} {k'} R R' np np' i i' l l' e = go (same? r r')
          where
            go : (r ≡ r') ⊎ (r ≢ r') → r ≡ r'
            go (inl q) = q
            go (inr d) =
                let v = wired R in
                let v' = wired R' in
                let b : p + i < 64 = (range R np i l).0 in
                let b' : p' + i' < 64 = (range R' np' i' l').0 in
                absurd (O.apart (v.ranged np) (v'.ranged np') (omega arith) d i i' (v.low i l) (v'.low i' l') (omega (arith, v.rpl, v'.rpl)))

    pub begins : Inv (net n t) t blank
    unfolding credits_held promised share shape
    begins = record { wires = wires; fixed = λ q. refl; slots = slots; full = full; owed = owed; books = λ s r G. refl }
      where
        none : {r p k : ℕ} (R : Takes (net n t) r p k) (i : ℕ) → has_bit (occ (t r)) i ≡ false
        none {r} R i = let v = wired R in rw (v.at.is, O.empty v.at) (no_bits i)

        slots : (r p k : ℕ) → Takes (net n t) r p k → (i : ℕ) → i < 2 ^ k → Slot (net n t) r p (t (beside r (p + i))) (has_bit (occ (t r)) i) nothing
        slots r p k R i l =
            let v = wired R in
            rw (none R i)
            record { real = λ d. clash (cc); from = λ s q. clash (cc q); link = λ np f q. clash (cc (O.bare (v.ranged np) i (v.low i l), rw (← v.rpl) at q)) }

        -- no slot holds anything
        empty : (w : Held → ℕ) → w nothing ≡ 0 → {r p k : ℕ} (R : Takes (net n t) r p k) → weigh w k (occ (t r)) (λ i. nothing) ≡ 0
        empty w zeroes {r} {p} {k} R = sum_none (2 ^ k) (λ i. w (kept (has_bit (occ (t r)) i) nothing)) (λ i. rw (none R i) zeroes)

        -- every sender's credits are full
        owed : (r s p k : ℕ) → Gives (net n t) s r → Takes (net n t) r p k → cur (t s) + weigh (asks_of s) k (occ (t r)) (λ i. nothing) ≤ most (t s)
        owed r s p k G R = omega (arith, empty (asks_of s) refl R, (O.whole (record { there = G.there; is = is_sender (t s) G.is })).0)

        each : (r q : ℕ) → q < n * 64 → (x : Endpoint) → t q ≡ x → held r x ≤ promise r x
        each r q l Invalid e = le_refl 0
        each r q l (Send f) e = rw (O.whole (record { there = l; is = e })).0 (le_refl _)
        each r q l (Receive g) e = le_refl 0
        each r q l (Memory x) e = le_refl 0

        full : (r p k : ℕ) → Takes (net n t) r p k → credits_held (n * 64) t r + among k (occ (t r)) (λ i. nothing) ≤ 2 ^ k
        full r p k R =
            let v = wired R in
            rw (← v.slots)
            (omega (arith, rw (← v.slots) at (empty asks refl R), O.given v.at, sum_le (n * 64) (λ q. held r (t q)) (λ q. promise r (t q)) (λ q l. each r q l (t q) refl)))
