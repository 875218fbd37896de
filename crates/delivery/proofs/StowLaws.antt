-- What storing a message asks of the place of its slot. Assumes nothing.
use Prim.Native.Nat.{ℕ, ◌+◌, ◌*◌, ◌^◌, ◌≤◌}
use native.Mathlib.Omega.{arith}
use Rattle.board.specs.declared.Board.{Board}
use Rattle.board.proofs.BoardLaws.{range_inside}
use Rattle.endpoint.specs.declared.SendFields.{SendFields}
use Rattle.endpoint.specs.declared.ReceiveFields.{ReceiveFields}
use Rattle.command.specs.declared.Registers.{Registers}
use Rattle.delivery.specs.Delivery.{slot_at}
use Rattle.delivery.specs.Stowing.{Stowed}
use Rattle.delivery.specs.declared.Header.{Header}

-- header and payload end among the lent bytes
pub slot_range : (b : Board) (n tile : ℕ) (a : Registers) (s : SendFields) (r : ReceiveFields) (i : ℕ) (h : Header) → Stowed b n tile a s r i h → slot_at b s r i + 32 + a.size ≤ n
unfolding slot_at
slot_range b n tile a s r i h z =
    omega (
      arith,
      range_inside b s.tgt_tile (r.buffer + i * 2 ^ r.slot_size) (2 ^ r.slot_size) z.slot.there z.slot.within,
      z.fits_slot,
      z.long,
    )
