-- Document 01, "Endpoint words": a table is good when each endpoint is acceptable, in its own tile's memory.
use Rattle.std.specs.Prelude.{ℕ, ◌*◌, ◌/◌, Bool, List}
use Rattle.bits.specs.Search.{all}
use Rattle.board.specs.Board.{size_of}
use Rattle.board.specs.declared.Board.{Board}
use Rattle.endpoint.specs.Acceptable.{acceptable_words}
use Rattle.table.specs.Words.{words_nth}

-- the memory of the tile that place q belongs to
abbrev pub memory_at : Board → ℕ → ℕ
memory_at b q = size_of b (q / 64)

abbrev pub acceptable_at : Board → List ℕ → ℕ → Bool
acceptable_at b ws q = acceptable_words (memory_at b q) (words_nth ws q)

unfoldable pub good_table : Board → List ℕ → Bool
good_table b ws = all (acceptable_at b ws) (b.tiles * 64)
