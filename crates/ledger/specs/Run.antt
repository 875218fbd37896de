-- A run: commands, privileged commands and responses from any tiles, one after another, on the machine's words, sharing records and
-- bytes, with the history threaded beside them. A step is what a call of the machine comes to: its answer, and what it leaves.
use Rattle.std.specs.Prelude.{ℕ, List, [], ◌∷◌}
use Rattle.answers.specs.Answers.{Answer}
use Rattle.board.specs.declared.Board.{Board}
use Rattle.table.specs.Table.{Table, view}
use Rattle.command.specs.Checks.{◌fails◌else◌}
use Rattle.command.specs.Narrow.{Narrow}
use Rattle.command.specs.Command.{Command}
use Rattle.command.specs.Outcome.{carried}
use Rattle.command.specs.declared.Registers.{Registers}
use Rattle.machine.specs.Machine.{opcode_of, command_of, privileged_of, respond_of, Left, left_by}
use Rattle.ledger.specs.Ledger.{Ledger, blank, entered}

pub record Machine : Type 0 where
  pub board : Board
  pub words : List ℕ
  pub sharing : List ℕ
  pub bytes : List ℕ

-- a command: the acting tile, opcode, endpoint and the other registers; a privileged command: the tile, opcode and two arguments;
-- a response from a tile
pub data Step : Type 0 where
  command : (tile opcode ep : ℕ) → Registers → Step
  privileged : (tile opcode arg0 arg1 : ℕ) → Step
  response : (tile : ℕ) → Step

-- the registers of every command are 64-bit numbers
abbrev pub IsNarrow : Step → Type 0
IsNarrow (command tile op ep a) = Narrow a
IsNarrow (privileged tile op arg0 arg1) = Unit {0}
IsNarrow (response tile) = Unit {0}

abbrev pub AllNarrow : List Step → Type 0
AllNarrow [] = Unit {0}
AllNarrow (c ∷ cs) = IsNarrow c × AllNarrow cs

-- ---- one step
abbrev pub tile_of : Step → ℕ
tile_of (command tile op ep a) = tile
tile_of (privileged tile op arg0 arg1) = tile
tile_of (response tile) = tile

-- the ARG_1 that is given
abbrev pub given_to : Step → ℕ
given_to (command tile op ep a) = a.arg1
given_to (privileged tile op arg0 arg1) = arg1
given_to (response tile) = 0

abbrev pub call_of : Machine → Step → Command
call_of m (command tile op ep a) = command_of m.board m.words m.sharing m.bytes tile op ep a
call_of m (privileged tile op arg0 arg1) = privileged_of m.board m.words m.sharing m.bytes tile op arg0 arg1
call_of m (response tile) = respond_of m.board m.words m.sharing m.bytes tile

abbrev pub left_of : Machine → Step → Left
left_of m c = left_by m.sharing (tile_of c) (carried (given_to c) m.words m.bytes (call_of m c))

abbrev pub answer_of : Machine → Step → Answer
answer_of m c = (left_of m c).completion.answer

abbrev pub after : Machine → Step → Machine
after m c = record { board = m.board; words = (left_of m c).words; sharing = (left_of m c).sharing; bytes = (left_of m c).bytes }

-- "accepted" is answer 0, and a refused command has no entry; nor has the privileged side
abbrev pub entered_by : Table → Step → Ledger → Ledger
entered_by t (command tile op ep a) L = entered t tile (opcode_of op) ep a L
entered_by t (privileged tile op arg0 arg1) L = L
entered_by t (response tile) L = L

abbrev pub entry : Machine → Step → Ledger → Ledger
entry m c L = answer_of m c fails (λ e. L) else entered_by (view m.words) c L

-- ---- many
pub record World : Type 0 where
  pub machine : Machine
  pub ledger : Ledger

unfoldable pub next : World → Step → World
next w c = record { machine = after w.machine c; ledger = entry w.machine c w.ledger }

unfoldable pub run : World → List Step → World
run w [] = w
run w (c ∷ cs) = run (next w c) cs

abbrev pub start : Machine → World
start m = record { machine = m; ledger = blank }
