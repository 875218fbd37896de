-- What the functions on slots need and give: an endpoint read from a checked machine is usable, a slot that a search found is one of
-- the slots, and a reply range that is not bad ends below 64. Assumes nothing.
use Prim.Native.Nat.{ℕ, ◌+◌, ◌^◌, ◌<◌, ◌≤◌}
use mathlib.Core.Bool.{Bool, true, false}
use mathlib.Core.List.{List}
use mathlib.Core.Path.{◌≡◌}
use native.Mathlib.Nat.{lt_of_lt_of_le}
use native.Mathlib.Omega.{arith}
use lib.Pow.{pow_mono}
use borrow.Author.Tests.{ne_eqb}
use Rattle.numbers.proofs.SumLaws.{above_false}
use Rattle.std.specs.Prelude.{Option, Some, None, IfSome}
use Rattle.bits.specs.declared.Slot.{Slot}
use Rattle.bits.specs.Slots.{find_slot}
use Rattle.bits.proofs.SlotLaws.{Outcome, outcome}
use Rattle.board.specs.declared.Board.{Board}
use Rattle.endpoint.specs.Acceptable.{acceptable}
use Rattle.endpoint.specs.declared.Endpoint.{Endpoint}
use Rattle.endpoint.specs.declared.Endpoint.TheVariants.{Receive}
use Rattle.endpoint.specs.declared.ReceiveFields.{ReceiveFields}
use Rattle.endpoint.proofs.EndpointLaws.{accepted}
use Rattle.table.specs.Table.{endpoint_at, view}
use Rattle.command.specs.Checked.{Checked}
use Rattle.command.specs.Command.{is_none, slot_of}
use Rattle.command.proofs.CheckedLaws.{acceptable_receive}
use Rattle.slots.specs.Slots.{slots_of, free_slot, unread_slot, range_past, range_bad, Usable, InReach}

-- ---- usable
pub usable : (m : ℕ) (r : ReceiveFields) → acceptable m (Receive r) ≡ true → Usable r
usable m r h =
    let a = accepted m r h in
    record {
      few = a.sizes_hold.0;
      small = a.sizes_hold.1.1.0;
      write_turn = a.positions_hold.0;
      read_turn = a.positions_hold.1.0;
    }

-- of a tile that exists, and of the acting tile
pub usable_at : (b : Board) (ws : List ℕ) (tile at ep : ℕ) (o : Endpoint) (r : ReceiveFields) → Checked b ws tile → at < b.tiles → o ≡ endpoint_at (view ws) at ep → o ≡ Receive r → Usable r
usable_at b ws tile at ep o r c l q p = usable _ r (acceptable_receive b ws tile at ep o r c l q p)

pub usable_own : (b : Board) (ws : List ℕ) (tile ep : ℕ) (o : Endpoint) (r : ReceiveFields) → Checked b ws tile → o ≡ endpoint_at (view ws) tile ep → o ≡ Receive r → Usable r
usable_own b ws tile ep o r c q p = usable_at b ws tile tile ep o r c c.there q p

-- ---- a slot that is found is below 32
pub few_found : (m p s : ℕ) (w : Bool) → s ≤ 5 → p ≤ 2 ^ s → IfSome (find_slot m p s w) (λ x. x.index < 32)
few_found m p s w h k = go (find_slot m p s w) (outcome m p s w k)
  where
    go : (r : Option Slot) → Outcome m p s w r → IfSome r (λ x. x.index < 32)
    go None o = tt
    go (Some x) o = lt_of_lt_of_le o.below (pow_mono {i = s} {j = 5} h)

-- ---- a reply range that is not bad and not 65535 ends at or below 64
pub range_ends : (r : ReceiveFields) → range_bad r ≡ false → (r.rpl_eps ≡ 65535 → ⊥) → r.rpl_eps + slots_of r ≤ 64
unfolding range_bad range_past
range_ends r h d = above_false _ _ (rw (ne_eqb r.rpl_eps 65535 d) at h)

-- ---- a slot that a search found is one of the slots
below : (m p s : ℕ) (w : Bool) → p ≤ 2 ^ s → is_none (find_slot m p s w) ≡ false → slot_of (find_slot m p s w) < 2 ^ s
below m p s w k = go (find_slot m p s w) (outcome m p s w k)
  where
    go : (r : Option Slot) → Outcome m p s w r → is_none r ≡ false → slot_of r < 2 ^ s
    go None o h = let z : ◌≡◌ {A = ℕ} 0 1 = cc in absurd (omega arith)
    go (Some x) o h = o.below

pub found_free : (r : ReceiveFields) → Usable r → is_none (free_slot r) ≡ false → slot_of (free_slot r) < slots_of r
unfolding free_slot
found_free r u h = below r.occupied r.wpos r.slots false u.write_turn h

pub found_unread : (r : ReceiveFields) → Usable r → is_none (unread_slot r) ≡ false → slot_of (unread_slot r) < slots_of r
unfolding unread_slot
found_unread r u h = below r.unread r.rpos r.slots true u.read_turn h

pub few_slots : (r : ReceiveFields) (i : ℕ) → Usable r → i < slots_of r → i < 32
few_slots r i u l = lt_of_lt_of_le l (pow_mono {i = r.slots} {j = 5} u.few)

-- the reply endpoint of a slot, where there is a range that is not bad
pub reaches : (r : ReceiveFields) (i : ℕ) → range_bad r ≡ false → i < slots_of r → InReach r i
unfolding InReach
reaches r i h l d = omega (arith, range_ends r h d, l)
