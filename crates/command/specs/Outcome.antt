-- What a command comes to, on the lent words and bytes: every refusal changes nothing and notes nothing, and ARG_1 comes back as
-- given. What is noted is told beside the answer; the records are changed by it in one place, for every call.
use Rattle.std.specs.Prelude.{ℕ, if◌then◌else◌, List, [], ◌∷◌, Result, Ok, Err}
use Rattle.answers.specs.Answers.{Answer}
use Rattle.answers.specs.declared.Error.{Error}
use Rattle.memory.specs.Bytes.{put}
use Rattle.sharing.specs.declared.Note.{Note}
use Rattle.table.specs.Table.{Table, upd, stored}
use Rattle.command.specs.Checks.{first, ◌fails◌else◌}
use Rattle.command.specs.Command.{Write, ◌⇐◌to◌, Put, nothing, bytes_to, Effect, Command}
use Rattle.command.specs.declared.Completion.{Completion}

-- the answer with ARG_1 and the note beside it
pub record Handed : Type 0 where
  pub answer : Answer
  pub arg1 : ℕ
  pub note : Note

abbrev pub completes : Answer → ℕ → Handed
completes x arg1 = record { answer = x; arg1 = arg1; note = Note.Nothing }

abbrev pub finishes : ℕ → Note → Handed
finishes arg1 n = record { answer = Ok tt; arg1 = arg1; note = n }

-- what code hands back, where ARG_1 was given as x
abbrev pub handed : ℕ → Result Completion Error → Handed
handed x (Ok c) = finishes c.arg1 c.note
handed x (Err e) = completes (Err e) x

-- the same with the words and the bytes afterwards
pub record Outcome : Type 0 where
  pub completion : Handed
  pub words : List ℕ
  pub bytes : List ℕ

abbrev pub outcome : Handed → List ℕ → List ℕ → Outcome
outcome r ws bs = record { completion = r; words = ws; bytes = bs }

-- the writes of a command, one after another, on words and on the table that they hold
abbrev pub written : List ℕ → List Write → List ℕ
written ws [] = ws
written ws ((b ⇐ e to q) ∷ l) = written (if b then stored ws q e else ws) l

abbrev pub tabled : Table → List Write → Table
tabled t [] = t
tabled t ((b ⇐ e to q) ∷ l) = tabled (if b then upd t q e else t) l

abbrev pub placed : List ℕ → Put → List ℕ
placed bs nothing = bs
placed bs (bytes_to p l) = put bs p l

-- f of a refusal, or g of the effect
abbrev pub settled : {X : Type 0} → (Error → X) → (Effect → X) → Command → X
settled f g k = first k.checks fails f else g k.effect

abbrev pub carried : ℕ → List ℕ → List ℕ → Command → Outcome
carried arg1 ws bs k =
    settled (λ e. outcome (completes (Err e) arg1) ws bs)
    (λ d. outcome (finishes d.hands d.notes) (written ws d.writes) (placed bs d.puts)) k
