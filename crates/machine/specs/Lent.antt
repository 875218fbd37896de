-- What a call has of the lent words, records and bytes once the host's checks have passed.
use Rattle.std.specs.Prelude.{ℕ, ◌≤◌, ◌≡◌, List, length}
use Rattle.board.specs.Board.{bytes_of}
use Rattle.board.specs.declared.Board.{Board}
use Rattle.sharing.specs.Sharing.{Inside, Shared}
use Rattle.command.specs.Checked.{Checked}

pub record Lent (b : Board) (ws sh bs : List ℕ) (tile : ℕ) : Type 0 where
  pub checked : Checked b ws tile
  pub few : b.tiles ≤ 8
  pub shared : Shared b sh
  pub record_in : Inside tile 66 (length sh)
  pub bytes : length bs ≡ bytes_of b
