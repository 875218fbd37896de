-- Demand 3 of the machine on words: sound wiring gives the invariant, a run keeps it, and it gives the three claims.
-- Assumes nothing.
use Prim.Native.Nat.{ℕ, ◌*◌, ◌<◌}
use mathlib.Core.Bool.{Bool, true, false, not}
use mathlib.Core.List.{List, [], ◌∷◌}
use mathlib.Core.Logic.{◌⊎◌}
use mathlib.Core.Path.{◌≡◌, refl, sym, ◌∙◌}
use borrow.Author.Tests.{not-false}
use lib.Dec.{leb}
use Rattle.numbers.specs.Choice.{◌gives◌else◌}
use Rattle.answers.specs.Answers.{Answer}
use Rattle.std.specs.Prelude.{Ok, Err}
use Rattle.answers.specs.declared.Error.{Error}
use Rattle.answers.specs.declared.Error.TheVariants.{RecvNoSpace}
use Rattle.endpoint.specs.Kinds.{send_of, receive_of}
use Rattle.table.specs.Table.{Table, place, endpoint_at, view}
use Rattle.slots.specs.Slots.{slots_of}
use Rattle.sharing.specs.Sharing.{own_of, waiting_of}
use Rattle.command.specs.Checks.{first, ◌fails◌else◌}
use Rattle.command.specs.Command.{Command}
use Rattle.command.specs.Narrow.{Narrow}
use Rattle.command.specs.Outcome.{tabled}
use Rattle.command.specs.declared.Registers.{Registers}
use Rattle.command.proofs.CheckFacts.{passed, before}
use Rattle.command.proofs.WriteLaws.{by_answer, carried_accepted, carried_refused}
use Rattle.machine.proofs.Kept as kept
use Rattle.machine.proofs.Demand1.{answered}
use Rattle.machine.proofs.PrivilegedLaws.{one_of_three}
use Rattle.machine.specs.Machine.{opcode_of, step_of, machine_right, host_checks, command_of, privileged_of, respond_of}
use Rattle.ledger.specs.Ledger.{Ledger, reply, holds}
use Rattle.wiring.specs.Sound.{Sound}
use Rattle.ledger.specs.Run.{Machine, Step, command, privileged, response, IsNarrow, AllNarrow, World, given_to, call_of, left_of, answer_of, entry, next, run, start}
use Rattle.wiring.specs.Wiring.{wiring_of, YesExactly}
use Rattle.ledger.specs.Demand3.{KeptBy, Demand3}
use Rattle.ledger.specs.Room.{AlwaysRoom}
use Rattle.wiring.proofs.Exactly.{yes_exactly}
use Rattle.wiring.proofs.Right.{few, turns, shares}
use Rattle.ledger.proofs.Inv.{Net, Inv}
use Rattle.ledger.proofs.Commands.{accepted, due}
use Rattle.ledger.proofs.Begins.{net, begins}
use Rattle.ledger.proofs.Claims as claims

-- ---- any step
answer_is : (m : Machine) (c : Step) → answer_of m c ≡ first (call_of m c).checks
answer_is m c = answered (given_to c) m.words m.bytes (call_of m c)

-- a refusal changes no word; nor does what writes none
refused : (m : Machine) (c : Step) (e : Error) → first (call_of m c).checks ≡ Err e → (left_of m c).words ≡ m.words
refused m c e h = rw (carried_refused (given_to c) m.words m.bytes (call_of m c) e h)

unwritten : (m : Machine) (c : Step) → (call_of m c).effect.writes ≡ [] → (left_of m c).words ≡ m.words
unwritten m c q =
    by_answer (first (call_of m c).checks) (λ h. rw (carried_accepted (given_to c) m.words m.bytes (call_of m c) h, q)) (λ e h. refused m c e h)

-- ---- a command: where the machine is right and the tile is there, the answer is the command's own
module _ (m : Machine) (tile op ep : ℕ) (a : Registers) where
  abbrev right : Bool
  right = machine_right m.board m.words m.sharing m.bytes

  abbrev call : Command
  call = command_of m.board m.words m.sharing m.bytes tile op ep a

  abbrev own : Command
  own = step_of m.board (view m.words) m.sharing m.bytes (own_of m.sharing tile) tile (opcode_of op) ep a

  record Inner (x : Answer) : Type 0 where
    sizes : right ≡ true
    there : leb m.board.tiles tile ≡ false
    answer : first own.checks ≡ x

  inner : (x : Answer) → not right ≡ false → leb m.board.tiles tile ≡ false → first call.checks ≡ x → Inner x
  unfolding command_of host_checks
  inner x p q h = record { sizes = not-false right p; there = q; answer = rw (p, q) at h }

  when_accepted : first call.checks ≡ Ok tt → Inner (Ok tt)
  unfolding command_of host_checks
  when_accepted h = let ok = passed call.checks h in inner (Ok tt) (ok 0) (ok 1) h

  when_full : first call.checks ≡ Err RecvNoSpace → Inner (Err RecvNoSpace)
  unfolding command_of host_checks
  when_full h = let ok = before RecvNoSpace call.checks h in inner (Err RecvNoSpace) (ok 0 tt) (ok 1 tt) h

  -- the table that an accepted one leaves in the words is the one that its writes make
  follows : Narrow a → right ≡ true → first call.checks ≡ Ok tt → view (left_of m (command tile op ep a)).words ≡ tabled (view m.words) call.effect.writes
  follows n ok h = (kept.follows).command m.board m.words m.sharing m.bytes tile op ep a n ok a.arg1 ∙ rw h

-- ---- the privileged side writes nothing
privileged_bare : (m : Machine) (tile op arg0 arg1 : ℕ) → (call_of m (privileged tile op arg0 arg1)).effect.writes ≡ []
unfolding privileged_of
privileged_bare m tile op arg0 arg1 = one_of_three (λ k. k.effect.writes ≡ []) m.sharing tile op arg0 arg1 refl refl refl

response_bare : (m : Machine) (tile : ℕ) → (call_of m (response tile)).effect.writes ≡ []
unfolding respond_of
response_bare m tile = refl

-- and has no entry
no_entry : (x : Answer) (L : Ledger) → (x fails (λ e. L) else L) ≡ L
no_entry (Ok x) L = refl
no_entry (Err e) L = refl

-- ---- a run
record Good (N : Net) (w : World) : Type 0 where
  size : N.places ≡ w.machine.board.tiles * 64
  inv : Inv N (view w.machine.words) w.ledger

-- a step that leaves the words and has no entry
stays : {N : Net} (w : World) (c : Step) → (left_of w.machine c).words ≡ w.machine.words → entry w.machine c w.ledger ≡ w.ledger → Good N w → Good N (next w c)
unfolding next
stays w c p q G = record { size = G.size; inv = rw (p, q) G.inv }

command_keeps : {N : Net} (w : World) (tile op ep : ℕ) (a : Registers) → Narrow a → Good N w → Good N (next w (command tile op ep a))
unfolding next command_of
command_keeps {N} w tile op ep a W G = go (first (call_of m c).checks) refl
  where
    m : Machine
    m = w.machine

    c : Step
    c = command tile op ep a

    go : (x : Answer) → first (call_of m c).checks ≡ x → Good N (next w c)
    go (Ok x) h =
        let i : Inner m tile op ep a (Ok tt) = when_accepted m tile op ep a h in
        record {
          size = G.size;
          inv =
              rw (follows m tile op ep a W i.sizes h, answer_is m c, h)
              (accepted N m.board (view m.words) m.sharing m.bytes (own_of m.sharing tile) tile G.size
              (turns m.board m.words m.sharing m.bytes i.sizes) i.there w.ledger G.inv (opcode_of op) ep a i.answer);
        }
    go (Err e) h = stays w c (refused m c e h) (rw (answer_is m c, h)) G

keeps : {N : Net} (w : World) (c : Step) → IsNarrow c → Good N w → Good N (next w c)
keeps w (command tile op ep a) W G = command_keeps w tile op ep a W G
keeps w (privileged tile op arg0 arg1) W G = let c = privileged tile op arg0 arg1 in stays w c (unwritten w.machine c (privileged_bare w.machine tile op arg0 arg1)) (no_entry _ w.ledger) G
keeps w (response tile) W G = let c = response tile in stays w c (unwritten w.machine c (response_bare w.machine tile)) (no_entry _ w.ledger) G

runs : {N : Net} (cs : List Step) → AllNarrow cs → (w : World) → Good N w → Good N (run w cs)
unfolding run
runs [] W w G = G
runs (c ∷ cs) W w G = runs cs W.1 (next w c) (keeps w c W.0 G)

-- where a run on sound wiring leads
reached : (m : Machine) → machine_right m.board m.words m.sharing m.bytes ≡ true → Sound m.board.tiles (view m.words)
    → (cs : List Step) → AllNarrow cs → Good (net m.board.tiles (view m.words)) (run (start m) cs)
reached m ok O cs W =
    runs cs W (start m) (record { size = refl; inv = begins m.board.tiles (view m.words) O (few m.board m.words m.sharing m.bytes ok) })

pub demand_3 : Demand3
unfolding Demand3 opcode_of ◌gives◌else◌ step_of
demand_3 m₀ ok O cs W = record {
  books = claims.books n t₀ t O L G.inv;
  bound = claims.bound n t₀ t O L G.inv;
  full = full;
}
  where
    n : ℕ
    n = m₀.board.tiles

    t₀ : Table
    t₀ = view m₀.words

    w : World
    w = run (start m₀) cs

    t : Table
    t = view w.machine.words

    L : Ledger
    L = w.ledger

    G : Good (net n t₀) w
    G = reached m₀ ok O cs W

    full : (tile ep : ℕ) (a : Registers) → answer_of w.machine (command tile 1 ep a) ≡ Err RecvNoSpace
        → let s = send_of (endpoint_at t tile ep) in
        let r = place s.tgt_tile s.tgt_ep in
        ((i : ℕ) × (i < slots_of (receive_of (t r))) × (holds t L r i ≡ reply)) ⊎ (waiting_of w.machine.sharing s.tgt_tile ≡ 64)
    full tile ep a h =
        let m : Machine = w.machine in
        let i : Inner m tile 1 ep a (Err RecvNoSpace) = when_full m tile 1 ep a (sym (answer_is m (command tile 1 ep a)) ∙ h) in
        claims.full (net n t₀) m.board G.size t L G.inv (turns m.board m.words m.sharing m.bytes i.sizes) m.sharing m.bytes
        (shares m.board m.words m.sharing m.bytes i.sizes) (own_of m.sharing tile) tile ep a i.there i.answer

-- and so of every wiring to which the check says yes
pub demand_3_checked : (m : Machine) → wiring_of m.board m.words m.sharing m.bytes ≡ Ok true → (cs : List Step) → AllNarrow cs
    → KeptBy m (run (start m) cs)
unfolding Demand3 YesExactly
demand_3_checked m h = let p = (yes_exactly m.board m.words m.sharing m.bytes).0 h in demand_3 m p.0 p.1

-- T-04: an accepted REPLY finds room for its credit
pub always_room : AlwaysRoom
unfolding AlwaysRoom opcode_of ◌gives◌else◌ step_of
always_room m₀ ok O cs W tile ep a h =
    let w : World = run (start m₀) cs in
    let m : Machine = w.machine in
    let G : Good (net m₀.board.tiles (view m₀.words)) w = reached m₀ ok O cs W in
    let i : Inner m tile 2 ep a (Ok tt) = when_accepted m tile 2 ep a (sym (answer_is m (command tile 2 ep a)) ∙ h) in
    (due (net m₀.board.tiles (view m₀.words)) m.board (view m.words) m.sharing m.bytes (own_of m.sharing tile) tile G.size
    (turns m.board m.words m.sharing m.bytes i.sizes) i.there w.ledger G.inv ep a i.answer).1
