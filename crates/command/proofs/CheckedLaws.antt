-- What a checked machine gives the commands. Assumes nothing.
use Prim.Native.Nat.{ℕ, ◌+◌, ◌*◌, ◌/◌, ◌<◌, ◌≤◌}
use mathlib.Core.Bool.{Bool, true, false, cond}
use mathlib.Core.List.{List}
use mathlib.Core.Path.{◌≡◌, refl, sym, ap, ◌∙◌}
use native.Mathlib.Omega.{arith}
use borrow.Author.Tests.{ltb-true}
use lib.Dec.{ltb}
use lib.ListN.{length}
use Rattle.board.specs.Board.{allowed, size_of, start_of, bytes_of}
use Rattle.board.proofs.BoardLaws.{tile_inside, bounds}
use Rattle.board.specs.declared.Board.{Board}
use Rattle.endpoint.specs.Kinds.{is_invalid}
use Rattle.endpoint.specs.Acceptable.{acceptable}
use Rattle.endpoint.specs.declared.Endpoint.{Endpoint}
use Rattle.endpoint.specs.declared.Endpoint.TheVariants.{Invalid, Send, Receive}
use Rattle.endpoint.specs.declared.SendFields.{SendFields}
use Rattle.endpoint.specs.declared.ReceiveFields.{ReceiveFields}
use Rattle.table.specs.Table.{Table, place, endpoint_at, view}
use Rattle.table.proofs.TableLaws.{live, good_at}
use Rattle.command.specs.Checked.{Checked}

-- a tile's memory lies among the lent bytes, and they are few
pub memory_inside : (b : Board) (tile : ℕ) → allowed b ≡ true → tile < b.tiles → start_of b tile + size_of b tile ≤ bytes_of b
memory_inside b tile a h = tile_inside b tile h

pub memory_few : (b : Board) (tile : ℕ) → allowed b ≡ true → tile < b.tiles → start_of b tile + size_of b tile ≤ 524288
memory_few b tile a h = omega (arith, tile_inside b tile h, (bounds b a).total)

pub ruleset places = (memory_inside, memory_few)

-- the words of a tile that exists are among the lent ones
pub tile_words : (b : Board) (n tile : ℕ) → n ≡ b.tiles * 192 → tile < b.tiles → tile * 192 + 192 ≤ n
tile_words b n tile h l = omega arith

pub own_words : (b : Board) (ws : List ℕ) (tile : ℕ) → Checked b ws tile → tile * 192 + 192 ≤ length ws
own_words b ws tile c = tile_words b (length ws) tile c.long c.there

-- an endpoint of a kind was read at a number below 64
pub live_send : (o : Endpoint) (t : Table) (tile ep : ℕ) (s : SendFields) → o ≡ endpoint_at t tile ep → o ≡ Send s → ep < 64
live_send o t tile ep s q p = live t tile ep (ap is_invalid (sym q ∙ p))

pub live_receive : (o : Endpoint) (t : Table) (tile ep : ℕ) (r : ReceiveFields) → o ≡ endpoint_at t tile ep → o ≡ Receive r → ep < 64
live_receive o t tile ep r q p = live t tile ep (ap is_invalid (sym q ∙ p))

-- whatever is read of a tile that exists is acceptable there
pub read_acceptable : (b : Board) (ws : List ℕ) (tile at ep : ℕ) → Checked b ws tile → at < b.tiles → acceptable (size_of b at) (endpoint_at (view ws) at ep) ≡ true
unfolding endpoint_at acceptable
read_acceptable b ws tile at ep c l = go (ltb ep 64) refl
  where
    go : (x : Bool) → ltb ep 64 ≡ x → acceptable (size_of b at) (cond x (view ws (place at ep)) Invalid) ≡ true
    go false e = refl
    go true e =
        let h : ep < 64 = ltb-true ep 64 e in
        let q : place at ep / 64 ≡ at = omega arith in
        rw q at (good_at b ws c.good (place at ep) (omega arith))

pub acceptable_receive : (b : Board) (ws : List ℕ) (tile at ep : ℕ) (o : Endpoint) (r : ReceiveFields) → Checked b ws tile → at < b.tiles
    → o ≡ endpoint_at (view ws) at ep → o ≡ Receive r → acceptable (size_of b at) (Receive r) ≡ true
acceptable_receive b ws tile at ep o r c l q p = ap (acceptable (size_of b at)) (sym p ∙ q) ∙ read_acceptable b ws tile at ep c l
