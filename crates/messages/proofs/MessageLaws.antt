-- What SEND and REPLY share once their own checks have passed. Assumes nothing.
use Prim.Native.Nat.{ℕ, ◌+◌, ◌<◌, ◌≤◌}
use mathlib.Core.Bool.{false}
use mathlib.Core.List.{List}
use mathlib.Core.Path.{◌≡◌}
use native.Mathlib.Omega.{arith}
use mir.Syntax.{w8}
use mir.Val.{Fits}
use lib.ListN.{length}
use lib.Pow.{pow_mono}
use Rattle.std.specs.Prelude.{Result, Ok}
use Rattle.answers.specs.declared.Error.{Error}
use Rattle.numbers.specs.Sums.{◌above◌}
use Rattle.numbers.specs.Tests.{All}
use Rattle.numbers.proofs.SumLaws.{above_false}
use Rattle.board.specs.Board.{size_of, bytes_of}
use Rattle.board.specs.declared.Board.{Board}
use Rattle.board.proofs.BoardLaws.{bounds}
use Rattle.endpoint.specs.Layout.{fit}
use Rattle.endpoint.specs.declared.SendFields.{SendFields}
use Rattle.table.specs.Table.{view}
use Rattle.command.specs.Checked.{Checked}
use Rattle.command.specs.declared.Registers.{Registers}
use Rattle.delivery.specs.Header.{header_fields}
use Rattle.delivery.specs.Delivery.{too_long}
use Rattle.delivery.specs.Target.{target_of}
use Rattle.delivery.specs.Stowing.{Stowed}
use Rattle.delivery.specs.declared.Header.{Header}
use Rattle.delivery.specs.declared.Target.{Target}
use Rattle.delivery.proofs.Landing.{to_words, to_live, to_small, to_reach, to_fits, slot_in}
use Rattle.messages.specs.Ready.{Landed}

-- a message that is not too long for an endpoint whose msg_sz is not above 11 is short
pub short : (size n : ℕ) → (n above 11) ≡ false → too_long size n ≡ false → size < 4096
unfolding too_long
short size n h k = omega (arith, above_false _ _ k, pow_mono {i = n} {j = 11} (above_false n 11 h))

-- a tile of an allowed board fits the header's and the endpoint's bits
pub tile_small : (b : Board) (ws : List ℕ) (tile : ℕ) → Checked b ws tile → tile < 8
tile_small b ws tile c = omega (arith, c.there, (bounds b c.board).few)

pub tile_fits : (b : Board) (ws : List ℕ) (tile : ℕ) → Checked b ws tile → Fits w8 tile
tile_fits b ws tile c = record { fits = omega (arith, tile_small b ws tile c) }

module _ (b : Board) (ws sh : List ℕ) (tile : ℕ) (s : SendFields) (a : Registers) (q : Result Target Error) (t : Target) (c : Checked b ws tile) (e : q ≡ target_of b (view ws) sh s a) (p : q ≡ Ok t) where
  pub landed : Landed (length ws) s t.receiver t.slot
  landed = record { words = to_words b ws sh tile s a q t c e p; live = to_live b ws sh tile s a q t c e p; small = to_small b ws sh tile s a q t c e p; reach = to_reach b ws sh tile s a q t c e p }

  pub stowable : (h : Header) (n : ℕ) → n ≡ bytes_of b → a.addr + a.size ≤ size_of b tile → All (fit (header_fields h)) → Stowed b n tile a s t.receiver t.slot h
  stowable h n l k f = record { slot = slot_in b ws sh tile s a q t c e p; long = l; own = c.there; local_in = k; fits_slot = to_fits b ws sh tile s a q t c e p; fields_fit = f }
