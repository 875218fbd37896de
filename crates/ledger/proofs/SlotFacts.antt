-- Slots as the ledger sees them: a bit set or cleared, and what the search for a free slot says. Assumes nothing.
use Prim.Native.Nat.{ℕ, ◌^◌, ◌≤◌, ◌<◌}
use mathlib.Core.Bool.{true, false}
use mathlib.Core.Logic.{◌≢◌}
use mathlib.Core.Path.{◌≡◌, refl, sym}
use native.Mathlib.Nat.{zero-div}
use lib.Dec.{lit<}
use Rattle.bits.specs.Bits.{has_bit, put_bit}
use Rattle.bits.specs.Slots.{find_slot}
use Rattle.std.specs.Prelude.{Option, Some, None}
use Rattle.bits.specs.declared.Slot.{Slot}
use Rattle.bits.proofs.BitLaws.{has_put_same, has_put_other}
use Rattle.bits.proofs.SlotLaws.{Outcome, outcome}
use Rattle.endpoint.specs.declared.ReceiveFields.{ReceiveFields}
use Rattle.slots.specs.Slots.{slots_of, free_slot}
use Rattle.command.specs.Command.{is_none}
use Rattle.ledger.specs.Ledger.{next_slot}
use Rattle.wiring.proofs.Places.{clash}

-- ---- bits
pub no_bits : (i : ℕ) → has_bit 0 i ≡ false
no_bits i = rw (zero-div (2 ^ i))

module _ (m i : ℕ) where
  pub set_here : has_bit (put_bit m i 1) i ≡ true
  set_here = has_put_same m i 1 (lit< tt)

  pub clear_here : has_bit (put_bit m i 0) i ≡ false
  clear_here = has_put_same m i 0 (lit< tt)

  pub set_there : (j : ℕ) → j ≢ i → has_bit (put_bit m i 1) j ≡ has_bit m j
  set_there j d = has_put_other m i j 1 (lit< tt) (λ e. d (sym e))

  pub clear_there : (j : ℕ) → j ≢ i → has_bit (put_bit m i 0) j ≡ has_bit m j
  clear_there j d = has_put_other m i j 0 (lit< tt) (λ e. d (sym e))

-- ---- the search
module _ (g : ReceiveFields) (turn : g.wpos ≤ slots_of g) where
  -- a slot that was found is one of the receiver's, and free
  pub record Free : Type 0 where
    pub low : next_slot g < slots_of g
    pub free : has_bit g.occupied (next_slot g) ≡ false

  pub next_free : is_none (free_slot g) ≡ false → Free
  unfolding free_slot
  next_free h = go (find_slot g.occupied g.wpos g.slots false) refl (outcome g.occupied g.wpos g.slots false turn) h
    where
      go : (x : Option Slot) → free_slot g ≡ x → Outcome g.occupied g.wpos g.slots false x → is_none x ≡ false → Free
      go (Some s₀) e o h = record { low = rw e o.below; free = rw e o.wanted_bit }
      go None e o h = clash (cc)

  -- where none was found, every slot is occupied
  pub none_free : is_none (free_slot g) ≡ true → (i : ℕ) → i < slots_of g → has_bit g.occupied i ≡ true
  unfolding free_slot
  none_free h = go (find_slot g.occupied g.wpos g.slots false) (outcome g.occupied g.wpos g.slots false turn) h
    where
      go : (x : Option Slot) → Outcome g.occupied g.wpos g.slots false x → is_none x ≡ true → (i : ℕ) → i < slots_of g → has_bit g.occupied i ≡ true
      go (Some s₀) o h = clash (cc)
      go None o h = o
