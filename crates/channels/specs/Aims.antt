-- What an endpoint aims at. A send endpoint aims at a receive endpoint, and at nothing where there is none, or where the chip or the tile
-- is not there; a memory endpoint reaches a part of a tile's memory.
use Rattle.std.specs.Prelude.{◌+◌, not, ◌==◌, nat_le, if◌then◌else◌, Result, Ok, Err}
use Rattle.numbers.specs.Sums.{◌above◌}
use Rattle.board.specs.declared.Board.{Board}
use Rattle.board.specs.Board.{size_of}
use Rattle.endpoint.specs.Kinds.{is_receive}
use Rattle.endpoint.specs.declared.MemoryFields.{MemoryFields}
use Rattle.endpoint.specs.declared.SendFields.{SendFields}
use Rattle.table.specs.Table.{Table, endpoint_at}
use Rattle.channels.specs.declared.Missing.{Missing}
use Rattle.channels.specs.declared.Missing.TheVariants.{Chip, Tile, Receiver}
use Rattle.channels.specs.declared.Reach.{Reach}
use Rattle.channels.specs.declared.Reach.TheVariants.{Inside, PastTheEnd}

abbrev pub aimed : Board → Table → SendFields → Result (Unit {0}) Missing
aimed b t s = if not (s.tgt_chip == 0) then Err (Chip s.tgt_chip)
    else if nat_le b.tiles s.tgt_tile then Err (Tile s.tgt_tile)
    else if is_receive (endpoint_at t s.tgt_tile s.tgt_ep) then Ok tt
    else Err Receiver

abbrev pub reached : Board → MemoryFields → Result Reach Missing
reached b m = if not (m.chip == 0) then Err (Chip m.chip)
    else if nat_le b.tiles m.tile then Err (Tile m.tile)
    else if m.addr + m.size above size_of b m.tile then Ok PastTheEnd
    else Ok Inside
