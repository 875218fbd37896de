-- The invariant of demand 3.
use Prim.Native.Nat.{ℕ, ◌+◌, ◌^◌, ◌≤◌, ◌<◌}
use mathlib.Core.Bool.{Bool, true, cond}
use mathlib.Core.Logic.{◌≢◌}
use mathlib.Core.Path.{◌≡◌, sym, ◌∙◌}
use lib.Dec.{eqb}
use Rattle.bits.specs.Bits.{has_bit}
use Rattle.endpoint.specs.Kinds.{receive_of}
use Rattle.endpoint.specs.declared.SendFields.{SendFields}
use Rattle.endpoint.specs.declared.Endpoint.{Endpoint}
use Rattle.endpoint.specs.declared.Endpoint.TheVariants.{Send}
use Rattle.table.specs.Table.{Table, place}
use Rattle.wiring.specs.Sums.{sum}
use Rattle.wiring.specs.Credits.{credits_held}
use Rattle.ledger.specs.Ledger.{Held, nothing, request, reply, Ledger, kept, asks}
use Rattle.wiring.specs.Sound.{beside}
use Rattle.wiring.proofs.Places.{clash}
use Rattle.ledger.proofs.Shapes.{Shape, other, sender, receiver, shape, cur, most}

-- what never changes: how many places there are, the shape of each, and the credits that each began with
pub record Net : Type 0 where
  pub places : ℕ
  pub shape : ℕ → Shape
  pub began : ℕ → ℕ

-- r is a receiver with 2 ^ k slots whose reply range starts at p; s is a sender to r
pub record Takes (N : Net) (r p k : ℕ) : Type 0 where
  pub there : r < N.places
  pub is : N.shape r ≡ receiver p k

pub record Gives (N : Net) (s r : ℕ) : Type 0 where
  pub there : s < N.places
  pub is : N.shape s ≡ sender r

pub record Wires (N : Net) : Type 0 where
  pub aims : {s r : ℕ} → Gives N s r → (p : ℕ) × (k : ℕ) × Takes N r p k
  pub small : {r p k : ℕ} → Takes N r p k → 2 ^ k ≤ 32
  pub range : {r p k : ℕ} → Takes N r p k → p ≢ 65535 → (i : ℕ) → i < 2 ^ k → (p + i < 64) × (N.shape (beside r (p + i)) ≡ other)
  pub apart : {r p k r' p' k' : ℕ} → Takes N r p k → Takes N r' p' k' → p ≢ 65535 → p' ≢ 65535 → (i i' : ℕ) → i < 2 ^ k → i' < 2 ^ k'
      → beside r (p + i) ≡ beside r' (p' + i') → r ≡ r'

-- one slot of the receiver r, whose reply range starts at p: x stands at its place in the range, b is its occupied bit, h was last
-- delivered to it
pub record Slot (N : Net) (r p : ℕ) (x : Endpoint) (b : Bool) (h : Held) : Type 0 where
  pub real : b ≡ true → h ≢ nothing
  pub from : (s : ℕ) → kept b h ≡ request s → Gives N s r
  pub link : p ≢ 65535 → (f : SendFields) → x ≡ Send f → (kept b h ≡ request (place f.tgt_tile f.crd_ep)) × (f.crd_ep < 64)

abbrev pub occ : Endpoint → ℕ
occ x = (receive_of x).occupied

abbrev pub Slots : Net → Table → (ℕ → ℕ → Held) → ℕ → Type 0
Slots N t last r = (p k : ℕ) → Takes N r p k → (i : ℕ) → i < 2 ^ k → Slot N r p (t (beside r (p + i))) (has_bit (occ (t r)) i) (last r i)

-- what the slots of a mask hold, each weighed by w: the requests among them, and those of the sender at place s
abbrev pub weigh : (Held → ℕ) → ℕ → ℕ → (ℕ → Held) → ℕ
weigh w k mask last = sum (2 ^ k) (λ i. w (kept (has_bit mask i) (last i)))

abbrev pub among : ℕ → ℕ → (ℕ → Held) → ℕ
among k mask last = weigh asks k mask last

abbrev pub asks_of : ℕ → Held → ℕ
asks_of s nothing = 0
asks_of s (request q) = cond (eqb q s) 1 0
asks_of s reply = 0

abbrev pub Full : Net → Table → (ℕ → ℕ → Held) → ℕ → Type 0
Full N t last r = (p k : ℕ) → Takes N r p k → credits_held N.places t r + among k (occ (t r)) (last r) ≤ 2 ^ k

-- a sender's credits and its requests in the slots are never more than it may have: a reply to one of them finds room for its credit
abbrev pub Owed : Net → Table → (ℕ → ℕ → Held) → ℕ → Type 0
Owed N t last r = (s p k : ℕ) → Gives N s r → Takes N r p k → cur (t s) + weigh (asks_of s) k (occ (t r)) (last r) ≤ most (t s)

abbrev pub Books : Net → Table → Ledger → ℕ → Type 0
Books N t L s = (r : ℕ) → Gives N s r → cur (t s) + L.sent s ≡ N.began s + L.answered s

pub record Inv (N : Net) (t : Table) (L : Ledger) : Type 0 where
  pub wires : Wires N
  pub fixed : (q : ℕ) → shape (t q) ≡ N.shape q
  pub slots : (r : ℕ) → Slots N t L.last r
  pub full : (r : ℕ) → Full N t L.last r
  pub owed : (r : ℕ) → Owed N t L.last r
  pub books : (s : ℕ) → Books N t L s

-- ---- places told apart by their shapes
pub recv≢other : {N : Net} {r p k : ℕ} → Takes N r p k → (q : ℕ) → N.shape q ≡ other → r ≢ q
recv≢other R q o e = clash (cc R.is)

pub recv≢send : {N : Net} {r p k s a : ℕ} → Takes N r p k → Gives N s a → r ≢ s
recv≢send R G e = clash (cc (R.is, G.is))

pub send≢other : {N : Net} {s a : ℕ} → Gives N s a → (q : ℕ) → N.shape q ≡ other → s ≢ q
send≢other G q o e = clash (cc G.is)

-- a receiver's fields are those of its shape
pub same_rpl : {N : Net} {r p k p' k' : ℕ} → Takes N r p k → Takes N r p' k' → p ≡ p'
same_rpl R R' = cc (R.is, R'.is)

pub same_slots : {N : Net} {r p k p' k' : ℕ} → Takes N r p k → Takes N r p' k' → k ≡ k'
same_slots R R' = cc (R.is, R'.is)

-- what stands in the reply range matters only where there is one
pub slot_x : {N : Net} {r p : ℕ} {x y : Endpoint} {b : Bool} {h : Held} → (p ≢ 65535 → x ≡ y) → Slot N r p y b h → Slot N r p x b h
slot_x e s = record { real = s.real; from = s.from; link = λ d f q. s.link d f (sym (e d) ∙ q) }
