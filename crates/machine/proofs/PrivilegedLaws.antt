-- A privileged command is one of three; what holds of each holds of it. Assumes nothing.
use Prim.Native.Nat.{ℕ, ◌%◌}
use mathlib.Core.Bool.{Bool, true, false}
use mathlib.Core.List.{List, []}
use lib.Dec.{eqb}
use Rattle.std.specs.Prelude.{if◌then◌else◌}
use Rattle.answers.specs.declared.Error.TheVariants.{UnknownCmd}
use Rattle.sharing.specs.Sharing.{word_at}
use Rattle.sharing.specs.declared.Note.TheVariants.{Exchanged}
use Rattle.command.specs.Checks.{◌⇒◌}
use Rattle.command.specs.Command.{Command, nothing, does, ◌noting◌, ◌▸◌}
use Rattle.machine.specs.Machine.{privileged_step}

abbrev pub idling : ℕ → Command
idling arg1 = does [] nothing arg1

abbrev pub exchanging : List ℕ → ℕ → ℕ → Command
exchanging sh tile arg0 = does [] nothing (word_at sh tile 0) noting Exchanged (arg0 % 4294967296)

abbrev pub unknown : ℕ → Command
unknown arg1 = true ⇒ UnknownCmd ▸ does [] nothing arg1

pub one_of_three : (P : Command → Type 0) (sh : List ℕ) (tile op arg0 arg1 : ℕ) → P (idling arg1) → P (exchanging sh tile arg0) → P (unknown arg1) → P (privileged_step sh tile op arg0 arg1)
unfolding privileged_step
one_of_three P sh tile op arg0 arg1 p q r = go (eqb op 0) (eqb op 4)
  where
    go : (x y : Bool) → P (if x then idling arg1 else if y then exchanging sh tile arg0 else unknown arg1)
    go true y = p
    go false true = q
    go false false = r
