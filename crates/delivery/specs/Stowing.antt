-- What storing a message asks: an accepted SEND or REPLY has it.
use Rattle.std.specs.Prelude.{ℕ, ◌+◌, ◌*◌, ◌^◌, ◌<◌, ◌≤◌, true, ◌≡◌}
use Rattle.numbers.specs.Tests.{All}
use Rattle.board.specs.Board.{allowed, size_of, bytes_of}
use Rattle.board.specs.declared.Board.{Board}
use Rattle.endpoint.specs.Layout.{fit}
use Rattle.endpoint.specs.declared.SendFields.{SendFields}
use Rattle.endpoint.specs.declared.ReceiveFields.{ReceiveFields}
use Rattle.slots.specs.Slots.{Usable}
use Rattle.command.specs.declared.Registers.{Registers}
use Rattle.delivery.specs.Header.{header_fields}
use Rattle.delivery.specs.declared.Header.{Header}

-- slot i of the receiver r lies in the memory of the target's tile
pub record SlotIn (b : Board) (s : SendFields) (r : ReceiveFields) (i : ℕ) : Type 0 where
  pub board : allowed b ≡ true
  pub there : s.tgt_tile < b.tiles
  pub few : i < 32
  pub usable : Usable r
  pub within : r.buffer + i * 2 ^ r.slot_size + 2 ^ r.slot_size ≤ size_of b s.tgt_tile

-- the message fits that slot, its payload lies in the acting tile's memory, and its header's fields in their bits
pub record Stowed (b : Board) (n tile : ℕ) (a : Registers) (s : SendFields) (r : ReceiveFields) (i : ℕ) (h : Header) : Type 0 where
  pub slot : SlotIn b s r i
  pub long : n ≡ bytes_of b
  pub own : tile < b.tiles
  pub local_in : a.addr + a.size ≤ size_of b tile
  pub fits_slot : a.size + 32 ≤ 2 ^ r.slot_size
  pub fields_fit : All (fit (header_fields h))
