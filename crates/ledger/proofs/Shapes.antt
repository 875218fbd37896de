-- What never changes of an endpoint, its shape, and the credits that it holds by it. Assumes nothing.
use Prim.Native.Nat.{ℕ, ◌+◌, ◌<◌}
use mathlib.Core.Bool.{Bool, true, false, cond, ◌&&◌}
use mathlib.Core.Logic.{◌≢◌}
use mathlib.Core.Path.{◌≡◌, refl, sym, ap}
use lib.Dec.{eqb}
use borrow.Author.Tests.{eq-eqb, ne_eqb, lt-ltb}
use Rattle.endpoint.specs.Kinds.{send_of}
use Rattle.endpoint.specs.declared.SendFields.{SendFields}
use Rattle.endpoint.specs.declared.ReceiveFields.{ReceiveFields}
use Rattle.endpoint.specs.declared.Endpoint.{Endpoint}
use Rattle.endpoint.specs.declared.Endpoint.TheVariants.{Invalid, Send, Receive, Memory}
use Rattle.table.specs.Table.{Table, place, upd}
use Rattle.table.proofs.TableLaws.{upd_at, upd_off}
use Rattle.wiring.specs.Credits.{sends, share, held, credits_held}
use Rattle.wiring.proofs.Places.{clash, upd_case}
use Rattle.wiring.proofs.SumLaws.{sum_same, sum_at}

-- a sender (a send endpoint without the reply mark) and the place that it aims at; a receiver, its reply range's start and its slots;
-- or neither of the two
pub data Shape : Type 0 where
  other : Shape
  sender : ℕ → Shape
  receiver : ℕ → ℕ → Shape

unfoldable pub shape : Endpoint → Shape
shape Invalid = other
shape (Send f) = cond (sends f) (sender (place f.tgt_tile f.tgt_ep)) other
shape (Receive g) = receiver g.rpl_eps g.slots
shape (Memory m) = other

pub shape_send : (f : SendFields) → f.reply ≡ false → f.tgt_chip ≡ 0 → f.tgt_ep < 64 → shape (Send f) ≡ sender (place f.tgt_tile f.tgt_ep)
unfolding shape
shape_send f m c l = rw (m, c, lt-ltb f.tgt_ep 64 l)

pub is_sender : (x : Endpoint) {r : ℕ} → shape x ≡ sender r → x ≡ Send (send_of x)
unfolding shape
is_sender Invalid h = clash (cc)
is_sender (Send f) h = refl
is_sender (Receive g) h = clash (cc)
is_sender (Memory m) h = clash (cc)

pub is_receiver : (x : Endpoint) (p k : ℕ) → shape x ≡ receiver p k → (g : ReceiveFields) × (x ≡ Receive g) × (g.rpl_eps ≡ p) × (g.slots ≡ k)
unfolding shape
is_receiver Invalid p k h = clash (cc)
is_receiver (Send f) p k h = go (sends f) h
  where
    go : (b : Bool) → cond b (sender (place f.tgt_tile f.tgt_ep)) other ≡ receiver p k → (g : ReceiveFields) × (Send f ≡ Receive g) × (g.rpl_eps ≡ p) × (g.slots ≡ k)
    go true q = clash (cc)
    go false q = clash (cc)
is_receiver (Receive g) p k h = (g, refl, cc, cc)
is_receiver (Memory m) p k h = clash (cc)

-- ---- a share by its shape
abbrev pub share_by : ℕ → Shape → ℕ → ℕ
share_by r other c = 0
share_by r (sender q) c = cond (eqb q r) c 0
share_by r (receiver p k) c = 0

pub share_is : (f : SendFields → ℕ) (r : ℕ) (x : Endpoint) → share f r x ≡ share_by r (shape x) (f (send_of x))
unfolding share shape
share_is f r Invalid = refl
share_is f r (Send s) = go (sends s) (eqb (place s.tgt_tile s.tgt_ep) r) refl
  where
    p : ℕ
    p = place s.tgt_tile s.tgt_ep

    go : (a b : Bool) → eqb p r ≡ b → cond (a && b) (f s) 0 ≡ share_by r (cond a (sender p) other) (f s)
    go true b e = rw e
    go false b e = refl
share_is f r (Receive g) = refl
share_is f r (Memory m) = refl

-- the credits that an endpoint has, and those that it may have
abbrev pub cur : Endpoint → ℕ
cur x = (send_of x).cur_crd

abbrev pub most : Endpoint → ℕ
most x = (send_of x).max_crd

pub held_other : (r : ℕ) (x : Endpoint) → shape x ≡ other → held r x ≡ 0
held_other r x h = rw (share_is (λ s. s.cur_crd) r x, h)

pub held_recv : (r : ℕ) (x : Endpoint) {p k : ℕ} → shape x ≡ receiver p k → held r x ≡ 0
held_recv r x h = rw (share_is (λ s. s.cur_crd) r x, h)

pub held_send : (r : ℕ) (x : Endpoint) → shape x ≡ sender r → held r x ≡ cur x
held_send r x h = rw (share_is (λ s. s.cur_crd) r x, h, eq-eqb r r refl)

pub held_away : (j : ℕ) {r : ℕ} (x : Endpoint) → shape x ≡ sender r → j ≢ r → held j x ≡ 0
held_away j {r} x h d = rw (share_is (λ s. s.cur_crd) j x, h, ne_eqb r j (λ e. d (sym e)))

-- ---- credits after a write at q
module _ (n : ℕ) (t : Table) (q : ℕ) (v : Endpoint) (r : ℕ) where
  -- as they were where q holds as much as before
  pub credits_same : held r v ≡ held r (t q) → credits_held n (upd t q v) r ≡ credits_held n t r
  unfolding credits_held
  credits_same h = sum_same n (λ j. held r (upd t q v j)) (λ j. held r (t j)) (upd_case t q v (λ j x. held r x ≡ held r (t j)) h (λ j d. refl))

  pub credits_at : q < n → credits_held n (upd t q v) r + held r (t q) ≡ credits_held n t r + held r v
  unfolding credits_held
  credits_at l = rw (upd_at t q v q refl) at (sum_at n q (λ j. held r (upd t q v j)) (λ j. held r (t j)) l (λ j d. ap (held r) (upd_off t q v j d)))
