-- What the host's checks have shown once they have passed, and what configuring writes. Assumes nothing.
use Prim.Native.Nat.{ℕ, ◌<◌}
use mathlib.Core.Bool.{true, ◌&&◌}
use mathlib.Core.List.{List}
use mathlib.Core.Path.{◌≡◌}
use lib.ListN.{length}
use Rattle.numbers.proofs.TestLaws.{split_and}
use Rattle.board.specs.Board.{sizes_right}
use Rattle.board.specs.declared.Board.{Board}
use Rattle.board.proofs.BoardLaws.{right, bounds}
use Rattle.endpoint.specs.Endpoint.{fields_of}
use Rattle.endpoint.specs.Acceptable.{acceptable_words}
use Rattle.endpoint.specs.declared.Words.{Words}
use Rattle.endpoint.proofs.RoundTrip.{words_back}
use Rattle.table.specs.Words.{put_nth}
use Rattle.table.specs.Table.{stored}
use Rattle.table.specs.Good.{good_table}
use Rattle.sharing.specs.Sharing.{sharing_good}
use Rattle.sharing.proofs.NoteLaws.{inside}
use Rattle.machine.specs.Machine.{machine_right}
use Rattle.machine.specs.Lent.{Lent}

pub lent : (b : Board) (ws sh bs : List ℕ) (tile : ℕ) → machine_right b ws sh bs ≡ true → tile < b.tiles → Lent b ws sh bs tile
unfolding machine_right
lent b ws sh bs tile h there =
    let p = split_and (sizes_right b (length ws) (length sh) (length bs)) (good_table b ws && sharing_good b sh) h in
    let q = split_and (good_table b ws) (sharing_good b sh) p.1 in
    let s = right b (length ws) (length sh) (length bs) p.0 in
    record {
      checked = record { board = s.board; there = there; long = s.words_right; good = q.0 };
      few = (bounds b s.board).few;
      shared = record { long = s.sharing_right; good = q.1 };
      record_in = inside b sh tile (bounds b s.board).few (record { long = s.sharing_right; good = q.1 }) there;
      bytes = s.bytes_right;
    }

-- acceptable words are those of their own fields
pub configured : (ws : List ℕ) (q m : ℕ) (w : Words) → acceptable_words m w ≡ true → put_nth ws q w ≡ stored ws q (fields_of w)
unfolding stored
configured ws q m w ok = rw (words_back m w ok).1
