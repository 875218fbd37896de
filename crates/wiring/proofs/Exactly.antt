-- The test is true exactly of sound wiring. Assumes nothing.
use Prim.Native.Nat.{ℕ, ◌+◌, ◌-◌, ◌*◌, ◌/◌, ◌%◌, ◌≤◌, ◌<◌}
use mathlib.Core.Bool.{Bool, true, false, not, ◌&&◌, ◌||◌}
use mathlib.Core.Logic.{◌≢◌, ◌⊎◌, inl, inr}
use mathlib.Core.Path.{◌≡◌, refl, sym, ap, ◌∙◌}
use native.Mathlib.Decide.{dec_le}
use native.Mathlib.Omega.{arith}
use borrow.Author.Tests.{eqb-true, eqb-false, leb-true, leb-false, ltb-true, eq-eqb, ne_eqb, le-leb, lt-ltb, not-true}
use lib.Dec.{eqb, leb, ltb}
use lib.Pow.{pow_pos}
use Rattle.std.specs.Prelude.{Ok, Err, if◌then◌else◌}
use Rattle.numbers.proofs.TestLaws.{split_and}
use Rattle.answers.specs.declared.Error.TheVariants.{BadMachine}
use Rattle.bits.specs.Search.{all}
use Rattle.bits.proofs.SearchLaws.{all_at, all_true}
use Rattle.endpoint.specs.Kinds.{is_invalid, is_receive, receive_of}
use Rattle.endpoint.specs.declared.SendFields.{SendFields}
use Rattle.endpoint.specs.declared.ReceiveFields.{ReceiveFields}
use Rattle.endpoint.specs.declared.Endpoint.{Endpoint}
use Rattle.endpoint.specs.declared.Endpoint.TheVariants.{Invalid, Send, Receive, Memory}
use Rattle.table.specs.Table.{Table, endpoint_at, view}
use Rattle.slots.specs.Slots.{slots_of}
use Rattle.machine.specs.Machine.{machine_right}
use Rattle.wiring.specs.Credits.{promised}
use Rattle.wiring.specs.Sound.{beside, Receiver, Ranged, Sender, Sound}
use Rattle.wiring.specs.Wiring.{whole, on_board, sender_sound, disjoint, clear_of, apart_from, bare_at, apart_at, range_apart, range_sound, receiver_sound, endpoint_sound, sound_at, sound, wiring_of, YesExactly}
use Rattle.wiring.proofs.Places.{clash}
use Rattle.machine.proofs.Fitting.{is_receive_lem}

-- ---- two tests
unless : (b c : Bool) → b || c ≡ true → b ≡ false → c ≡ true
unless true c h e = clash (cc)
unless false c h e = h

either : (b c : Bool) → b || c ≡ true → (b ≡ true) ⊎ (c ≡ true)
either true c h = inl refl
either false c h = inr h

or_else : (b c : Bool) → (b ≡ false → c ≡ true) → b || c ≡ true
or_else true c h = refl
or_else false c h = h refl

both : (b c : Bool) → b ≡ true → c ≡ true → b && c ≡ true
both b c p q = rw (p, q)

is_invalid_lem : (x : Endpoint) → is_invalid x ≡ true → x ≡ Invalid
is_invalid_lem Invalid h = refl
is_invalid_lem (Send f) h = clash (cc)
is_invalid_lem (Receive g) h = clash (cc)
is_invalid_lem (Memory m) h = clash (cc)

-- ---- disjoint ranges have no number in common
module _ (g h : ReceiveFields) where
  no_common : disjoint g h ≡ true → (i j : ℕ) → i < slots_of g → j < slots_of h → g.rpl_eps + i ≢ h.rpl_eps + j
  no_common ok i j li lj = go (either (leb (g.rpl_eps + slots_of g) h.rpl_eps) (leb (h.rpl_eps + slots_of h) g.rpl_eps) ok)
    where
      go : (leb (g.rpl_eps + slots_of g) h.rpl_eps ≡ true) ⊎ (leb (h.rpl_eps + slots_of h) g.rpl_eps ≡ true) → g.rpl_eps + i ≢ h.rpl_eps + j
      go (inl k) = omega (arith, leb-true (g.rpl_eps + slots_of g) h.rpl_eps k)
      go (inr k) = omega (arith, leb-true (h.rpl_eps + slots_of h) g.rpl_eps k)

  if_no_common : ((i j : ℕ) → i < slots_of g → j < slots_of h → g.rpl_eps + i ≢ h.rpl_eps + j) → disjoint g h ≡ true
  if_no_common far =
      or_else (leb (a + m) b) (leb (b + k) a) (λ x. le-leb (b + k) a (go (dec_le (b + k) a) (leb-false (a + m) b x)))
    where
      a : ℕ
      a = g.rpl_eps

      b : ℕ
      b = h.rpl_eps

      m : ℕ
      m = slots_of g

      k : ℕ
      k = slots_of h

      go : Dec (b + k ≤ a) → b < a + m → b + k ≤ a
      go (yes y) u = y
      go (no y) u = absurd (way (dec_le a b))
        where
          way : Dec (a ≤ b) → ⊥
          way (yes v) = far (b - a) 0 (omega arith) (pow_pos h.slots) (omega arith)
          way (no v) = far 0 (a - b) (pow_pos g.slots) (omega arith) (omega arith)

-- ---- a table that passes is sound
module _ (n : ℕ) (t : Table) (ok : sound n t ≡ true) where
  at_place : (q : ℕ) (x : Endpoint) → q < n * 64 → t q ≡ x → endpoint_sound n t q x ≡ true
  unfolding sound
  at_place q x l e = rw e at (all_at (sound_at n t) (n * 64) ok q l)

  record SenderFacts (s : SendFields) : Type 0 where
    clean : s.reply ≡ false
    equal : s.cur_crd ≡ s.max_crd
    few : s.max_crd ≤ 62
    chip : s.tgt_chip ≡ 0
    tile : s.tgt_tile < n
    at : is_receive (endpoint_at t s.tgt_tile s.tgt_ep) ≡ true

  of_sender : {q : ℕ} {s : SendFields} → Sender n t q s → SenderFacts s
  unfolding endpoint_sound sender_sound
  of_sender {q} {s} S =
      let aim : Bool = is_receive (endpoint_at t s.tgt_tile s.tgt_ep) in
      let a = split_and (whole s) (on_board n s && aim) (at_place q (Send s) S.there S.is) in
      let b = split_and (on_board n s) aim a.1 in
      let w = split_and (not s.reply) (eqb s.cur_crd s.max_crd && leb s.max_crd 62) a.0 in
      let x = split_and (eqb s.cur_crd s.max_crd) (leb s.max_crd 62) w.1 in
      let y = split_and (eqb s.tgt_chip 0) (ltb s.tgt_tile n) b.0 in
      record {
        clean = not-true s.reply w.0;
        equal = eqb-true s.cur_crd s.max_crd x.0;
        few = leb-true s.max_crd 62 x.1;
        chip = eqb-true s.tgt_chip 0 y.0;
        tile = ltb-true s.tgt_tile n y.1;
        at = b.1;
      }

  record ReceiverFacts (q : ℕ) (g : ReceiveFields) : Type 0 where
    empty : g.occupied ≡ 0
    range : range_sound t q g ≡ true
    given : promised (n * 64) t q ≤ slots_of g

  of_receiver : {q : ℕ} {g : ReceiveFields} → Receiver n t q g → ReceiverFacts q g
  unfolding endpoint_sound receiver_sound
  of_receiver {q} {g} R =
      let p : Bool = leb (promised (n * 64) t q) (slots_of g) in
      let a = split_and (eqb g.occupied 0) (range_sound t q g && p) (at_place q (Receive g) R.there R.is) in
      let b = split_and (range_sound t q g) p a.1 in
      record { empty = eqb-true g.occupied 0 a.0; range = b.0; given = leb-true (promised (n * 64) t q) (slots_of g) b.1 }

  record RangeFacts (q : ℕ) (g : ReceiveFields) : Type 0 where
    ends : g.rpl_eps + slots_of g ≤ 64
    bare : all (bare_at t q g) (slots_of g) ≡ true
    far : range_apart t q g ≡ true

  of_range : {q : ℕ} {g : ReceiveFields} → Ranged n t q g → RangeFacts q g
  unfolding range_sound
  of_range {q} {g} R =
      let h = unless (eqb g.rpl_eps 65535) _ (of_receiver R.at).range (ne_eqb g.rpl_eps 65535 R.has) in
      let a = split_and (leb (g.rpl_eps + slots_of g) 64) (all (bare_at t q g) (slots_of g) && range_apart t q g) h in
      let b = split_and (all (bare_at t q g) (slots_of g)) (range_apart t q g) a.1 in
      record { ends = leb-true (g.rpl_eps + slots_of g) 64 a.0; bare = b.0; far = b.1 }

  apart : {r r' : ℕ} {g g' : ReceiveFields} → Ranged n t r g → Ranged n t r' g' → r / 64 ≡ r' / 64 → r ≢ r'
      → (i i' : ℕ) → i < slots_of g → i' < slots_of g' → g.rpl_eps + i ≢ g'.rpl_eps + i'
  unfolding range_apart apart_at apart_from clear_of
  apart {r} {r'} {g} {g'} R R' tile d =
      let e : beside r (r' % 64) ≡ r' = omega arith in
      let here : apart_at t r g (r' % 64) ≡ true = all_at (apart_at t r g) 64 (of_range R).far (r' % 64) (omega arith) in
      let it : apart_from g (t (beside r (r' % 64))) ≡ true = unless (eqb (beside r (r' % 64)) r) _ here (ne_eqb (beside r (r' % 64)) r (omega arith)) in
      let him : apart_from g (Receive g') ≡ true = rw (ap t e ∙ R'.at.is) at it in
      no_common g g' (unless (eqb g'.rpl_eps 65535) (disjoint g g') him (ne_eqb g'.rpl_eps 65535 R'.has))

  bare : {r : ℕ} {g : ReceiveFields} → Ranged n t r g → (i : ℕ) → i < slots_of g → t (beside r (g.rpl_eps + i)) ≡ Invalid
  bare {r} {g} R i l = is_invalid_lem (t (beside r (g.rpl_eps + i))) (all_at (bare_at t r g) (slots_of g) (of_range R).bare i l)

  aims : {q : ℕ} {s : SendFields} → Sender n t q s
      → (s.tgt_chip ≡ 0) × (s.tgt_tile < n) × ((g : ReceiveFields) × (endpoint_at t s.tgt_tile s.tgt_ep ≡ Receive g))
  aims {q} {s} S =
      let f = of_sender S in
      let x : Endpoint = endpoint_at t s.tgt_tile s.tgt_ep in
      (f.chip, f.tile, (receive_of x, is_receive_lem x f.at))

  pub is_sound : Sound n t
  is_sound =
      record {
        clean = λ S. (of_sender S).clean;
        empty = λ R. (of_receiver R).empty;
        ends = λ R. (of_range R).ends;
        bare = bare;
        apart = apart;
        whole = λ S. let f = of_sender S in (f.equal, f.few);
        aims = aims;
        given = λ R. (of_receiver R).given;
      }

-- ---- and sound wiring passes
module _ (n : ℕ) (t : Table) (O : Sound n t) where
  sender_passes : (q : ℕ) (s : SendFields) → Sender n t q s → sender_sound n t s ≡ true
  unfolding sender_sound
  sender_passes q s S =
      let w = O.whole S in
      let a = O.aims S in
      rw (
        O.clean S,
        eq-eqb s.cur_crd s.max_crd w.0,
        le-leb s.max_crd 62 w.1,
        eq-eqb s.tgt_chip 0 a.0,
        lt-ltb s.tgt_tile n a.1,
        a.2.1,
      )

  range_passes : (q : ℕ) (g : ReceiveFields) → Ranged n t q g
      → (leb (g.rpl_eps + slots_of g) 64 && (all (bare_at t q g) (slots_of g) && range_apart t q g)) ≡ true
  unfolding range_apart apart_at apart_from clear_of
  range_passes q g R =
      both (leb (g.rpl_eps + slots_of g) 64) _ (le-leb (g.rpl_eps + slots_of g) 64 (O.ends R))
      (both (all (bare_at t q g) (slots_of g)) _ (all_true (bare_at t q g) (slots_of g) (λ i l. ap is_invalid (O.bare R i l)))
      (all_true (apart_at t q g) 64 (λ e l. or_else (eqb (beside q e) q) _ (λ d. other e l d (t (beside q e)) refl))))
    where
      other : (e : ℕ) → e < 64 → eqb (beside q e) q ≡ false → (x : Endpoint) → t (beside q e) ≡ x → apart_from g x ≡ true
      other e l d Invalid w = refl
      other e l d (Send f) w = refl
      other e l d (Memory m) w = refl
      other e l d (Receive h) w =
          or_else (eqb h.rpl_eps 65535) (disjoint g h)
          (λ c.
          let R' : Ranged n t (beside q e) h = record { at = record { there = omega (arith, R.at.there); is = w }; has = eqb-false h.rpl_eps 65535 c } in
          let ne : beside q e ≢ q = eqb-false (beside q e) q d in
          if_no_common g h (O.apart R R' (omega arith) (λ z. ne (sym z))))

  receiver_passes : (q : ℕ) (g : ReceiveFields) → Receiver n t q g → receiver_sound n t q g ≡ true
  unfolding receiver_sound range_sound
  receiver_passes q g R =
      both (eqb g.occupied 0) _ (eq-eqb g.occupied 0 (O.empty R))
      (both (range_sound t q g) _
      (or_else (eqb g.rpl_eps 65535) _ (λ c. range_passes q g (record { at = R; has = eqb-false g.rpl_eps 65535 c })))
      (le-leb (promised (n * 64) t q) (slots_of g) (O.given R)))

  pub passes : sound n t ≡ true
  unfolding sound endpoint_sound
  passes = all_true (sound_at n t) (n * 64) (λ q l. each q l (t q) refl)
    where
      each : (q : ℕ) → q < n * 64 → (x : Endpoint) → t q ≡ x → endpoint_sound n t q x ≡ true
      each q l Invalid e = refl
      each q l (Send s) e = sender_passes q s (record { there = l; is = e })
      each q l (Receive g) e = receiver_passes q g (record { there = l; is = e })
      each q l (Memory m) e = refl

-- ---- the answer to the host
yes_if : (a b : Bool) → (if a then Ok b else Err BadMachine) ≡ Ok true → (a ≡ true) × (b ≡ true)
yes_if true b h = (refl, cc)
yes_if false b h = clash (cc)

pub yes_exactly : YesExactly
unfolding YesExactly wiring_of
yes_exactly b ws sh bs = (
  (λ h. let p = yes_if (machine_right b ws sh bs) (sound b.tiles (view ws)) h in (p.0, is_sound b.tiles (view ws) p.1)),
  (λ p. rw (p.0, passes b.tiles (view ws) p.1)),
)
