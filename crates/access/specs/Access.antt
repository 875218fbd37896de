-- READ and WRITE: not MEMORY 1; act not own 4; permission missing 11; size zero answers 0 at once; DATA_SIZE + ARG_1 above the
-- endpoint's size 9; page rule 22; then chip not 0, tile absent, or addr + ARG_1 + DATA_SIZE above M, or local range outside M: 14.
-- Mind: a size of zero is answered before 9, 22 and 14; no sum wraps; all bytes are read before any is written.
use Rattle.std.specs.Prelude.{ℕ, ◌+◌, ◌^◌, ◌<◌, ◌≤◌, ◌/◌, ◌%◌, ◌==◌, nat_le, Bool, true, false, not, List, [], ◌∷◌, if◌then◌else◌}
use Rattle.numbers.specs.Sums.{◌above◌}
use Rattle.answers.specs.declared.Error.TheVariants.{NoMep, ForeignEp, NoPerm, OutOfBounds, PageBoundary, Abort}
use Rattle.board.specs.Board.{start_of, size_of}
use Rattle.board.specs.declared.Board.{Board}
use Rattle.memory.specs.Bytes.{part}
use Rattle.endpoint.specs.declared.MemoryFields.{MemoryFields}
use Rattle.table.specs.Table.{Table, endpoint_at}
use Rattle.command.specs.Checks.{Check, ◌⇒◌, ◌then◌}
use Rattle.command.specs.Command.{Command, bytes_to, does, ◌▸▸◌, memory◌or◌gives◌}
use Rattle.command.specs.Local.{crosses_page, outside, local_at}
use Rattle.command.specs.declared.Registers.{Registers}

-- rw is 1 for read plus 2 for write
abbrev pub permitted : Bool → ℕ → Bool
permitted false rw = rw % 2 == 1
permitted true rw = rw / 2 % 2 == 1

-- the endpoint is the own one, and the permission is not missing
abbrev pub permit_checks : ℕ → Bool → MemoryFields → List Check
permit_checks own missing m =
    not (m.act == own) ⇒ ForeignEp
    ∷ missing ⇒ NoPerm
    ∷ []

-- the remote range of size bytes from offset off in the endpoint's region exists
abbrev pub remote_checks : Board → MemoryFields → ℕ → ℕ → List Check
remote_checks b m off size =
    not (m.chip == 0) ⇒ Abort
    ∷ nat_le b.tiles m.tile ⇒ Abort
    ∷ (m.addr + off + size above size_of b m.tile) ⇒ Abort
    ∷ []

-- where it starts among the bytes of all tiles
abbrev pub remote_at : Board → MemoryFields → ℕ → ℕ
remote_at b m off = start_of b m.tile + (m.addr + off)

-- all that is asked of the ranges, where there are bytes to move
abbrev pub range_checks : Board → ℕ → MemoryFields → Registers → List Check
range_checks b tile m a =
    (a.size + a.arg1 above m.size) ⇒ OutOfBounds
    ∷ crosses_page a ⇒ PageBoundary
    ∷ (remote_checks b m a.arg1 a.size then
    outside b tile a ⇒ Abort
    ∷ [])

-- all checks of the memory endpoint m: size zero answers 0 at once
unfoldable pub access_checks : Board → ℕ → ℕ → Bool → MemoryFields → Registers → List Check
access_checks b own tile missing m a =
    permit_checks own missing m then
    (if a.size == 0 then [] else range_checks b tile m a)

-- the place that bytes come from, and the one that they go to
abbrev pub source : Bool → Board → ℕ → MemoryFields → Registers → ℕ
source false b tile m a = remote_at b m a.arg1
source true b tile m a = local_at b tile a

abbrev pub target : Bool → Board → ℕ → MemoryFields → Registers → ℕ
target false b tile m a = local_at b tile a
target true b tile m a = remote_at b m a.arg1

-- WRITE where the test is true, and READ where it is false
unfoldable pub ACCESS : Bool → Board → Table → List ℕ → ℕ → ℕ → ℕ → Registers → Command
ACCESS way b t bs own tile ep a =
    memory endpoint_at t tile ep or NoMep gives λ m.
    access_checks b own tile (not (permitted way m.rw)) m a ▸▸
    does [] (bytes_to (target way b tile m a) (part bs (source way b tile m a) a.size)) a.arg1

abbrev pub READ : Board → Table → List ℕ → ℕ → ℕ → ℕ → Registers → Command
READ b t bs own tile ep a = ACCESS false b t bs own tile ep a

abbrev pub WRITE : Board → Table → List ℕ → ℕ → ℕ → ℕ → Registers → Command
WRITE b t bs own tile ep a = ACCESS true b t bs own tile ep a

-- what the code knows of the remote range that passed the checks
pub record Remote (b : Board) (m : MemoryFields) (a : Registers) : Type 0 where
  pub there : m.tile < b.tiles
  pub inside : m.addr + a.arg1 + a.size ≤ size_of b m.tile
  pub small : m.addr + a.arg1 < 2 ^ 64
