-- Document 02, T-04: sound wiring never reaches the cap on credits. After any run on it, the endpoint to which an accepted REPLY (opcode 2)
-- brings its credit sends, has fewer credits than its max_crd, and at most 61: the credit is added, as it was before the request.
use Rattle.std.specs.Prelude.{true, List, ◌≡◌, ℕ, ◌+◌, Ok}
use Rattle.endpoint.specs.Kinds.{send_of, receive_of}
use Rattle.table.specs.Table.{endpoint_at, view}
use Rattle.slots.specs.Slots.{slot_named}
use Rattle.command.specs.declared.Registers.{Registers}
use Rattle.messages.specs.Reply.{creditable}
use Rattle.machine.specs.Machine.{machine_right}
use Rattle.ledger.specs.Run.{Machine, Step, command, AllNarrow, answer_of, run, start}
use Rattle.wiring.specs.Sound.{Sound}

-- in a machine, the endpoint that the credit goes to
abbrev pub Room : Machine → Type 0
Room m =
    (tile ep : ℕ) (a : Registers) → answer_of m (command tile 2 ep a) ≡ Ok tt
    → let t = view m.words in
    let g = receive_of (endpoint_at t tile ep) in
    let s = send_of (endpoint_at t tile (g.rpl_eps + slot_named g a.arg0)) in
    creditable (endpoint_at t s.tgt_tile s.crd_ep) ≡ true

unfoldable pub AlwaysRoom : Type 0
AlwaysRoom =
    (m : Machine) → machine_right m.board m.words m.sharing m.bytes ≡ true → Sound m.board.tiles (view m.words)
    → (cs : List Step) → AllNarrow cs → Room (run (start m) cs).machine
