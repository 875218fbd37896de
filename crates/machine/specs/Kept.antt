-- A machine that is right stays right: sizes and lengths stay, and a good table and good sharing records stay good, under every call
-- and whatever it answers. And the table that the words hold changes as the command's writes say, and not otherwise.
use Rattle.std.specs.Prelude.{ℕ, true, List, ◌≡◌}
use Rattle.board.specs.declared.Board.{Board}
use Rattle.endpoint.specs.declared.Words.{Words}
use Rattle.table.specs.Table.{Table, view}
use Rattle.command.specs.Command.{Command}
use Rattle.command.specs.Narrow.{Narrow}
use Rattle.command.specs.Outcome.{tabled, settled, carried}
use Rattle.command.specs.declared.Registers.{Registers}
use Rattle.machine.specs.Machine.{machine_right, command_of, configure_of, invalidate_of, privileged_of, respond_of, Left, left_by}

-- the machine is right afterwards
abbrev pub Stays : Board → Left → Type 0
Stays b r = machine_right b r.words r.sharing r.bytes ≡ true

-- the table after a command
abbrev pub after : Table → Command → Table
after t k = settled (λ e. t) (λ d. tabled t d.writes) k

-- ---- of each call of a tile, with any x as the ARG_1 that is given
abbrev pub Keeps : Board → List ℕ → List ℕ → List ℕ → ℕ → Command → Type 0
Keeps b ws sh bs tile k = machine_right b ws sh bs ≡ true → (x : ℕ) → Stays b (left_by sh tile (carried x ws bs k))

abbrev pub Follows : Board → List ℕ → List ℕ → List ℕ → ℕ → Command → Type 0
Follows b ws sh bs tile k = machine_right b ws sh bs ≡ true → (x : ℕ) → view (carried x ws bs k).words ≡ after (view ws) k

pub record EveryCall (P : Board → List ℕ → List ℕ → List ℕ → ℕ → Command → Type 0) : Type 0 where
  pub command : (b : Board) (ws sh bs : List ℕ) (tile op ep : ℕ) (a : Registers) → Narrow a → P b ws sh bs tile (command_of b ws sh bs tile op ep a)
  pub configure : (b : Board) (ws sh bs : List ℕ) (tile ep : ℕ) (w : Words) → P b ws sh bs tile (configure_of b ws sh bs tile ep w)
  pub invalidate : (b : Board) (ws sh bs : List ℕ) (tile ep : ℕ) → P b ws sh bs tile (invalidate_of b ws sh bs tile ep)
  pub privileged : (b : Board) (ws sh bs : List ℕ) (tile op arg0 arg1 : ℕ) → P b ws sh bs tile (privileged_of b ws sh bs tile op arg0 arg1)
  pub respond : (b : Board) (ws sh bs : List ℕ) (tile : ℕ) → P b ws sh bs tile (respond_of b ws sh bs tile)
