-- Document 02, T-04: no command makes a send endpoint's credits unlimited that were not, and none takes cur_crd above max_crd where it
-- was not above. Both are said of every place of the table, whatever stood there before; what does not send has no credits.
use Rattle.std.specs.Prelude.{ℕ, Bool, false, ◌&&◌, List, ◌≡◌, eqb, ltb}
use Rattle.board.specs.declared.Board.{Board}
use Rattle.endpoint.specs.Kinds.{is_send, send_of}
use Rattle.endpoint.specs.declared.Endpoint.{Endpoint}
use Rattle.table.specs.Table.{view}
use Rattle.command.specs.Command.{Command}
use Rattle.command.specs.Narrow.{Narrow}
use Rattle.command.specs.Outcome.{carried}
use Rattle.command.specs.declared.Registers.{Registers}
use Rattle.machine.specs.Machine.{command_of, invalidate_of, privileged_of, respond_of}

-- cur_crd is 63, which means unlimited
abbrev pub endless : Endpoint → Bool
endless x = is_send x && eqb (send_of x).cur_crd 63

-- cur_crd is above max_crd
abbrev pub above : Endpoint → Bool
above x = is_send x && ltb (send_of x).max_crd (send_of x).cur_crd

-- from x to y: what was not so does not become so
pub record Capped (x y : Endpoint) : Type 0 where
  pub limited : endless x ≡ false → endless y ≡ false
  pub within : above x ≡ false → above y ≡ false

-- a call, with any x as the ARG_1 that is given: at each place, from the table before to the table after
abbrev pub Caps : List ℕ → List ℕ → Command → Type 0
Caps ws bs k = (x q : ℕ) → Capped (view ws q) (view (carried x ws bs k).words q)

-- every call but configuring, which writes what the host gives
pub record EveryCommandCaps : Type 0 where
  pub command : (b : Board) (ws sh bs : List ℕ) (tile op ep : ℕ) (a : Registers) → Narrow a → Caps ws bs (command_of b ws sh bs tile op ep a)
  pub invalidate : (b : Board) (ws sh bs : List ℕ) (tile ep : ℕ) → Caps ws bs (invalidate_of b ws sh bs tile ep)
  pub privileged : (b : Board) (ws sh bs : List ℕ) (tile op arg0 arg1 : ℕ) → Caps ws bs (privileged_of b ws sh bs tile op arg0 arg1)
  pub respond : (b : Board) (ws sh bs : List ℕ) (tile : ℕ) → Caps ws bs (respond_of b ws sh bs tile)
