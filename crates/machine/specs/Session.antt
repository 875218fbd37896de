-- Document 01, the session program: two tiles, M 4096 (one page each), activity 5 everywhere, other fields 0. Nine commands, and for each a line
-- of five numbers: step, answer, ARG_1, cur_crd of tile 0's endpoint 4, occupied of tile 1's endpoint 7.
-- The lines say nothing of bytes and of sharing records, so the commands are given none: nothing waits, and the activity is 5.
use Rattle.std.specs.Prelude.{ℕ, ◌+◌, false, List, [], ◌∷◌, ◌≡◌}
use Rattle.answers.specs.Answers.{number_of}
use Rattle.board.specs.Lent.{board_of}
use Rattle.board.specs.declared.Board.{Board}
use Rattle.endpoint.specs.Kinds.{send_of, receive_of}
use Rattle.endpoint.specs.declared.Endpoint.TheVariants.{Invalid, Send, Receive}
use Rattle.table.specs.Table.{Table, place, upd}
use Rattle.command.specs.Checks.{first}
use Rattle.command.specs.Command.{Command}
use Rattle.command.specs.Outcome.{settled}
use Rattle.machine.specs.Machine.{Opcode, op_send, op_reply, op_fetch, op_ack, step_of}
use Rattle.machine.specs.Kept.{after}

abbrev pub session_board : Board
session_board = board_of 2 (1 ∷ 1 ∷ [])

-- tile 0: endpoint 4 sends to tile 1 endpoint 7, endpoint 6 receives; tile 1: endpoint 7 receives
abbrev pub session_table : Table
session_table =
    upd (upd (upd (λ q. Invalid)
    (place 0 4) (Send record { act = 5; cur_crd = 2; max_crd = 2; msg_sz = 8; crd_ep = 0; reply = false; tgt_ep = 7; tgt_tile = 1; tgt_chip = 0; label = 0 }))
    (place 0 6) (Receive record { act = 5; rpl_eps = 65535; slots = 1; slot_size = 6; wpos = 0; rpos = 0; buffer = 2048; occupied = 0; unread = 0 }))
    (place 1 7) (Receive record { act = 5; rpl_eps = 20; slots = 1; slot_size = 8; wpos = 0; rpos = 0; buffer = 1024; occupied = 0; unread = 0 })

-- a command of a tile on an endpoint, with DATA_ADDR 0
pub record Step : Type 0 where
  pub tile : ℕ
  pub opcode : Opcode
  pub ep : ℕ
  pub arg0 : ℕ
  pub size : ℕ
  pub arg1 : ℕ

abbrev pub step : ℕ → Opcode → ℕ → ℕ → ℕ → ℕ → Step
step tile op ep arg0 size arg1 = record { tile = tile; opcode = op; ep = ep; arg0 = arg0; size = size; arg1 = arg1 }

abbrev pub session : List Step
session =
    step 0 op_send 4 6 16 77
    ∷ step 0 op_send 4 65535 16 77
    ∷ step 0 op_send 4 65535 16 77
    ∷ step 1 op_fetch 7 0 0 0
    ∷ step 1 op_reply 7 0 32 0
    ∷ step 1 op_reply 7 256 32 0
    ∷ step 1 op_ack 7 256 0 0
    ∷ step 0 op_fetch 6 0 0 0
    ∷ step 0 op_fetch 6 0 0 0
    ∷ []

-- what a step does to a table, and its line where the table is t before and u afterwards
abbrev pub command_on : Table → Step → Command
command_on t c = step_of session_board t [] [] 5 c.tile c.opcode c.ep (record { arg0 = c.arg0; addr = 0; size = c.size; arg1 = c.arg1 })

abbrev pub line_of : ℕ → Step → Command → Table → List ℕ
line_of n c k u =
    n ∷ number_of (first k.checks) ∷ settled (λ e. c.arg1) (λ d. d.hands) k ∷ (send_of (u (place 0 4))).cur_crd ∷ (receive_of (u (place 1 7))).occupied ∷ []

unfoldable pub lines : ℕ → Table → List Step → List (List ℕ)
lines n t [] = []
lines n t (c ∷ l) =
    let k = command_on t c in
    let u = after t k in
    line_of n c k u ∷ lines (n + 1) u l

abbrev pub Session : Type 0
Session =
    lines 1 session_table session
    ≡ (1 ∷ 0 ∷ 77 ∷ 1 ∷ 1 ∷ [])
    ∷ (2 ∷ 0 ∷ 77 ∷ 0 ∷ 3 ∷ [])
    ∷ (3 ∷ 10 ∷ 77 ∷ 0 ∷ 3 ∷ [])
    ∷ (4 ∷ 0 ∷ 0 ∷ 0 ∷ 3 ∷ [])
    ∷ (5 ∷ 0 ∷ 0 ∷ 1 ∷ 2 ∷ [])
    ∷ (6 ∷ 2 ∷ 0 ∷ 1 ∷ 2 ∷ [])
    ∷ (7 ∷ 0 ∷ 0 ∷ 1 ∷ 0 ∷ [])
    ∷ (8 ∷ 0 ∷ 0 ∷ 1 ∷ 0 ∷ [])
    ∷ (9 ∷ 0 ∷ 18446744073709551615 ∷ 1 ∷ 0 ∷ [])
    ∷ []
