-- Demand 3: on sound wiring, after any run, no credit is lost or made, no receiver is owed more than it can hold, and a SEND is told
-- that a buffer is full only where a reply lies in it, or the queue of its tile is full. The last clause is about SEND: a REPLY may
-- meet 7 among requests alone.
use Rattle.std.specs.Prelude.{ℕ, ◌+◌, ◌*◌, ◌≤◌, ◌<◌, true, List, ◌⊎◌, ◌≡◌, Err}
use Rattle.answers.specs.declared.Error.TheVariants.{RecvNoSpace}
use Rattle.endpoint.specs.Kinds.{send_of, receive_of}
use Rattle.endpoint.specs.declared.SendFields.{SendFields}
use Rattle.endpoint.specs.declared.ReceiveFields.{ReceiveFields}
use Rattle.endpoint.specs.declared.Endpoint.TheVariants.{Send}
use Rattle.table.specs.Table.{Table, place, endpoint_at, view}
use Rattle.sharing.specs.Sharing.{waiting_of}
use Rattle.slots.specs.Slots.{slots_of}
use Rattle.command.specs.declared.Registers.{Registers}
use Rattle.machine.specs.Machine.{machine_right}
use Rattle.wiring.specs.Credits.{credits_held}
use Rattle.ledger.specs.Ledger.{Ledger, reply, holds, requests_held}
use Rattle.wiring.specs.Sound.{Receiver, Sender, Sound}
use Rattle.ledger.specs.Run.{Machine, Step, command, AllNarrow, World, answer_of, run, start}

-- n tiles; t₀ is the table at the start, m the machine now, t its table and L the history
pub record Kept (n : ℕ) (t₀ : Table) (m : Machine) (t : Table) (L : Ledger) : Type 0 where
  -- each sender's cur_crd and its accepted messages are what it began with and the accepted replies to them
  pub books : {q : ℕ} {s : SendFields} → Sender n t₀ q s
      → (s' : SendFields) × (t q ≡ Send s') × (s'.cur_crd + L.sent q ≡ s.cur_crd + L.answered q)
  -- the credits held towards a receiver and the requests in its slots are never more than its slots
  pub bound : {r : ℕ} {g : ReceiveFields} → Receiver n t r g → credits_held (n * 64) t r + requests_held t L r (slots_of g) ≤ slots_of g
  -- where a SEND (opcode 1) is refused with RECV_NO_SPACE, its receiver holds a reply, or its tile's queue is full
  pub full : (tile ep : ℕ) (a : Registers) → answer_of m (command tile 1 ep a) ≡ Err RecvNoSpace
      → let s = send_of (endpoint_at t tile ep) in
      let r = place s.tgt_tile s.tgt_ep in
      ((i : ℕ) × (i < slots_of (receive_of (t r))) × (holds t L r i ≡ reply)) ⊎ (waiting_of m.sharing s.tgt_tile ≡ 64)

abbrev pub KeptBy : Machine → World → Type 0
KeptBy m₀ w = Kept m₀.board.tiles (view m₀.words) w.machine (view w.machine.words) w.ledger

unfoldable pub Demand3 : Type 0
Demand3 =
    (m : Machine) → machine_right m.board m.words m.sharing m.bytes ≡ true → Sound m.board.tiles (view m.words)
    → (cs : List Step) → AllNarrow cs → KeptBy m (run (start m) cs)
