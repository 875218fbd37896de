-- Document 01, "Sound wiring", sentence by sentence, of the table t of n tiles. That the table is good is asked of the whole machine
-- (`machine_right`). An rpl_eps of 65535 has no range.
use Rattle.std.specs.Prelude.{ℕ, ◌+◌, ◌*◌, ◌/◌, ◌≤◌, ◌<◌, false, ◌≢◌, ◌≡◌}
use Rattle.endpoint.specs.declared.SendFields.{SendFields}
use Rattle.endpoint.specs.declared.ReceiveFields.{ReceiveFields}
use Rattle.endpoint.specs.declared.Endpoint.TheVariants.{Invalid, Send, Receive}
use Rattle.table.specs.Table.{Table, place, endpoint_at}
use Rattle.slots.specs.Slots.{slots_of}
use Rattle.wiring.specs.Credits.{promised}

-- endpoint e of the tile that place q stands on
abbrev pub beside : ℕ → ℕ → ℕ
beside q e = place (q / 64) e

-- g is the receive endpoint at place r, and it has a reply range
pub record Receiver (n : ℕ) (t : Table) (r : ℕ) (g : ReceiveFields) : Type 0 where
  pub there : r < n * 64
  pub is : t r ≡ Receive g

pub record Ranged (n : ℕ) (t : Table) (r : ℕ) (g : ReceiveFields) : Type 0 where
  pub at : Receiver n t r g
  pub has : g.rpl_eps ≢ 65535

-- s is the send endpoint at place q
pub record Sender (n : ℕ) (t : Table) (q : ℕ) (s : SendFields) : Type 0 where
  pub there : q < n * 64
  pub is : t q ≡ Send s

pub record Sound (n : ℕ) (t : Table) : Type 0 where
  -- no reply endpoint
  pub clean : {q : ℕ} {s : SendFields} → Sender n t q s → s.reply ≡ false
  -- no occupied bit
  pub empty : {r : ℕ} {g : ReceiveFields} → Receiver n t r g → g.occupied ≡ 0
  -- each reply range ends at or below 64
  pub ends : {r : ℕ} {g : ReceiveFields} → Ranged n t r g → g.rpl_eps + slots_of g ≤ 64
  -- holds only INVALID endpoints
  pub bare : {r : ℕ} {g : ReceiveFields} → Ranged n t r g → (i : ℕ) → i < slots_of g → t (beside r (g.rpl_eps + i)) ≡ Invalid
  -- and shares none with another range on its tile
  pub apart : {r r' : ℕ} {g g' : ReceiveFields} → Ranged n t r g → Ranged n t r' g' → r / 64 ≡ r' / 64 → r ≢ r'
      → (i i' : ℕ) → i < slots_of g → i' < slots_of g' → g.rpl_eps + i ≢ g'.rpl_eps + i'
  -- each send endpoint has cur_crd equal to max_crd, at most 62
  pub whole : {q : ℕ} {s : SendFields} → Sender n t q s → (s.cur_crd ≡ s.max_crd) × (s.max_crd ≤ 62)
  -- and aims at an existing receive endpoint
  pub aims : {q : ℕ} {s : SendFields} → Sender n t q s
      → (s.tgt_chip ≡ 0) × (s.tgt_tile < n) × ((g : ReceiveFields) × (endpoint_at t s.tgt_tile s.tgt_ep ≡ Receive g))
  -- per receive endpoint the max_crd aimed at it sum to at most 2^slots
  pub given : {r : ℕ} {g : ReceiveFields} → Receiver n t r g → promised (n * 64) t r ≤ slots_of g
