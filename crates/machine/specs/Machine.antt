-- One call of the machine. The host's refusals come first: BAD_MACHINE where a size is broken, or the table or a sharing record is not good, then
-- NO_SUCH_TILE; configure and invalidate then give BAD_EP, and configure gives BAD_CONFIG. Then the command's own checks.
-- Opcodes: IDLE 0, SEND 1, REPLY 2, READ 3, WRITE 4, FETCH 5, ACK_MSG 6; others 15.
use Rattle.std.specs.Prelude.{ℕ, ◌%◌, Bool, true, not, ◌&&◌, List, [], ◌∷◌, eqb, leb, length, Result, Ok, Err, if◌then◌else◌}
use Rattle.answers.specs.declared.Error.{Error}
use Rattle.answers.specs.declared.Error.TheVariants.{UnknownCmd, BadMachine, NoSuchTile, BadEp, BadConfig}
use Rattle.board.specs.Board.{size_of, sizes_right}
use Rattle.board.specs.declared.Board.{Board}
use Rattle.endpoint.specs.Endpoint.{fields_of}
use Rattle.endpoint.specs.Acceptable.{acceptable_words}
use Rattle.endpoint.specs.declared.Words.{Words}
use Rattle.endpoint.specs.declared.Endpoint.TheVariants.{Invalid}
use Rattle.table.specs.Table.{Table, place, view}
use Rattle.table.specs.Good.{good_table}
use Rattle.sharing.specs.Sharing.{word_at, sharing_good, own_of, waiting_in}
use Rattle.sharing.specs.Note.{noted}
use Rattle.sharing.specs.declared.Waiting.{Waiting}
use Rattle.sharing.specs.declared.Note.TheVariants.{Exchanged, Responded}
use Rattle.command.specs.Checks.{Check, ◌⇒◌, first, ◌fails◌else◌}
use Rattle.command.specs.Command.{Command, ◌⇐◌to◌, nothing, does, ◌noting◌, ◌▸◌, ◌▸▸◌}
use Rattle.command.specs.Outcome.{Handed, Outcome}
use Rattle.command.specs.declared.Registers.{Registers}
use Rattle.access.specs.Access.{READ, WRITE}
use Rattle.receive.specs.Fetch.{FETCH}
use Rattle.receive.specs.Ack.{ACK_MSG}
use Rattle.messages.specs.Send.{SEND}
use Rattle.messages.specs.Reply.{REPLY}

pub data Opcode : Type 0 where
  op_idle op_send op_reply op_read op_write op_fetch op_ack op_other : Opcode

unfoldable pub opcode_of : ℕ → Opcode
opcode_of n =
    if eqb n 0 then op_idle else
    if eqb n 1 then op_send else
    if eqb n 2 then op_reply else
    if eqb n 3 then op_read else
    if eqb n 4 then op_write else
    if eqb n 5 then op_fetch else
    if eqb n 6 then op_ack else op_other

-- one command of a tile whose activity id is own, on a checked machine; sh are the sharing records and bs the bytes
unfoldable pub step_of : Board → Table → List ℕ → List ℕ → ℕ → ℕ → Opcode → ℕ → Registers → Command
step_of b t sh bs own tile op_idle ep a = does [] nothing a.arg1
step_of b t sh bs own tile op_send ep a = SEND b t sh bs own tile ep a
step_of b t sh bs own tile op_reply ep a = REPLY b t sh bs own tile ep a
step_of b t sh bs own tile op_read ep a = READ b t bs own tile ep a
step_of b t sh bs own tile op_write ep a = WRITE b t bs own tile ep a
step_of b t sh bs own tile op_fetch ep a = FETCH t own tile ep
step_of b t sh bs own tile op_ack ep a = ACK_MSG t own tile ep a
step_of b t sh bs own tile op_other ep a = true ⇒ UnknownCmd ▸ does [] nothing a.arg1

-- Privileged opcodes: idle 0, XCHG_ACT 4; others 15. XCHG_ACT hands back the old word of CUR_ACT and sets it from arg0's low 32 bits.
unfoldable pub privileged_step : List ℕ → ℕ → ℕ → ℕ → ℕ → Command
privileged_step sh tile op arg0 arg1 =
    if eqb op 0 then does [] nothing arg1 else
    if eqb op 4 then (does [] nothing (word_at sh tile 0) noting Exchanged (arg0 % 4294967296)) else
    true ⇒ UnknownCmd ▸ does [] nothing arg1

-- ---- what the host gets
-- sizes, table and sharing records are as they should be
unfoldable pub machine_right : Board → List ℕ → List ℕ → List ℕ → Bool
machine_right b ws sh bs = sizes_right b (length ws) (length sh) (length bs) && (good_table b ws && sharing_good b sh)

unfoldable pub host_checks : Board → List ℕ → List ℕ → List ℕ → ℕ → List Check
host_checks b ws sh bs tile =
    not (machine_right b ws sh bs) ⇒ BadMachine
    ∷ leb b.tiles tile ⇒ NoSuchTile
    ∷ []

unfoldable pub command_of : Board → List ℕ → List ℕ → List ℕ → ℕ → ℕ → ℕ → Registers → Command
command_of b ws sh bs tile op ep a =
    host_checks b ws sh bs tile ▸▸
    step_of b (view ws) sh bs (own_of sh tile) tile (opcode_of op) ep a

unfoldable pub configure_of : Board → List ℕ → List ℕ → List ℕ → ℕ → ℕ → Words → Command
configure_of b ws sh bs tile ep w =
    host_checks b ws sh bs tile ▸▸
    leb 64 ep ⇒ BadEp ▸
    not (acceptable_words (size_of b tile) w) ⇒ BadConfig ▸
    does (true ⇐ fields_of w to place tile ep ∷ []) nothing 0

-- Invalidate writes three zero words; the page is cut off there.
unfoldable pub invalidate_of : Board → List ℕ → List ℕ → List ℕ → ℕ → ℕ → Command
invalidate_of b ws sh bs tile ep =
    host_checks b ws sh bs tile ▸▸
    leb 64 ep ⇒ BadEp ▸
    does (true ⇐ Invalid to place tile ep ∷ []) nothing 0

-- a privileged command of a tile
unfoldable pub privileged_of : Board → List ℕ → List ℕ → List ℕ → ℕ → ℕ → ℕ → ℕ → Command
privileged_of b ws sh bs tile op arg0 arg1 =
    host_checks b ws sh bs tile ▸▸
    privileged_step sh tile op arg0 arg1

-- A response from the tile takes the oldest request away; none waiting: nothing changes, answer 0.
unfoldable pub respond_of : Board → List ℕ → List ℕ → List ℕ → ℕ → Command
respond_of b ws sh bs tile =
    host_checks b ws sh bs tile ▸▸
    does [] nothing 0 noting Responded

-- what is waiting at a tile
unfoldable pub waits_of : Board → List ℕ → List ℕ → List ℕ → ℕ → Result Waiting Error
waits_of b ws sh bs tile = first (host_checks b ws sh bs tile) fails Err else Ok (waiting_in sh tile)

-- ---- what a call leaves: the answer with ARG_1 and what was noted, the words, the sharing records and the bytes
pub record Left : Type 0 where
  pub completion : Handed
  pub words : List ℕ
  pub sharing : List ℕ
  pub bytes : List ℕ

abbrev pub left : Handed → List ℕ → List ℕ → List ℕ → Left
left r ws sh bs = record { completion = r; words = ws; sharing = sh; bytes = bs }

-- a call of a tile, where the records were sh
abbrev pub left_by : List ℕ → ℕ → Outcome → Left
left_by sh tile o = left o.completion o.words (noted sh tile o.completion.note) o.bytes
