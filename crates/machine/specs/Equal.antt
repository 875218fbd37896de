-- Document 02, T-03: where all tiles have the same number of pages, the machine is as it was. Its definitions look at the sizes of a
-- board in these places alone, and find there what document 01 says with M, the bytes of each tile. No tile is excepted: one that the
-- board does not have is refused as before.
use Rattle.std.specs.Prelude.{ℕ, ◌+◌, ◌*◌, ◌^◌, ◌<◌, Bool, not, ◌&&◌, List, [], ◌∷◌, ◌≡◌, eqb, leb, length}
use Rattle.numbers.specs.Sums.{◌above◌}
use Rattle.numbers.specs.Tests as tests
use Rattle.bits.specs.Search.{all}
use Rattle.answers.specs.declared.Error.TheVariants.{Abort}
use Rattle.board.specs.Board.{size_of}
use Rattle.board.specs.Equal.{allowed_before, rules_before}
use Rattle.board.specs.declared.Board.{Board}
use Rattle.endpoint.specs.Acceptable.{acceptable_words}
use Rattle.endpoint.specs.declared.MemoryFields.{MemoryFields}
use Rattle.endpoint.specs.declared.SendFields.{SendFields}
use Rattle.endpoint.specs.declared.ReceiveFields.{ReceiveFields}
use Rattle.endpoint.specs.declared.Words.{Words}
use Rattle.table.specs.Words.{words_nth}
use Rattle.sharing.specs.Sharing.{sharing_good}
use Rattle.command.specs.Checks.{Check, ◌⇒◌, first}
use Rattle.command.specs.Local.{outside, local_at}
use Rattle.command.specs.declared.Registers.{Registers}
use Rattle.access.specs.Access.{remote_checks, remote_at}
use Rattle.delivery.specs.Delivery.{slot_at}
use Rattle.machine.specs.Machine.{machine_right}

-- sizes, table and records are as they should be
abbrev pub right_before : Board → ℕ → List ℕ → List ℕ → List ℕ → Bool
right_before b m ws sh bs =
    (allowed_before b.tiles m && tests.all (rules_before b.tiles m (length ws) (length sh) (length bs)))
    && (all (λ q. acceptable_words m (words_nth ws q)) (b.tiles * 64) && sharing_good b sh)

-- the remote range exists
abbrev pub remote_before : Board → ℕ → MemoryFields → ℕ → ℕ → List Check
remote_before b m f off size =
    not (eqb f.chip 0) ⇒ Abort
    ∷ leb b.tiles f.tile ⇒ Abort
    ∷ (f.addr + off + size above m) ⇒ Abort
    ∷ []

pub record MachineAsBefore (b : Board) (m : ℕ) : Type 0 where
  pub right : (ws sh bs : List ℕ) → machine_right b ws sh bs ≡ right_before b m ws sh bs
  pub configurable : (tile : ℕ) (w : Words) → tile < b.tiles → acceptable_words (size_of b tile) w ≡ acceptable_words m w
  pub local_range : (tile : ℕ) (a : Registers) → tile < b.tiles → outside b tile a ≡ (a.addr + a.size above m)
  pub local_start : (tile : ℕ) (a : Registers) → tile < b.tiles → local_at b tile a ≡ tile * m + a.addr
  pub remote_range : (f : MemoryFields) (off size : ℕ) → first (remote_checks b f off size) ≡ first (remote_before b m f off size)
  pub remote_start : (f : MemoryFields) (off : ℕ) → f.tile < b.tiles → remote_at b f off ≡ f.tile * m + (f.addr + off)
  pub slot_start : (s : SendFields) (r : ReceiveFields) (i : ℕ) → s.tgt_tile < b.tiles
      → slot_at b s r i ≡ s.tgt_tile * m + (r.buffer + i * 2 ^ r.slot_size)
