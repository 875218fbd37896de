-- Where all tiles have the same number of pages, the machine is as it was before T-03. Assumes nothing.
use Prim.Native.Nat.{ℕ, ◌*◌, ◌/◌}
use mathlib.Core.Bool.{Bool, true, false}
use mathlib.Core.List.{List}
use mathlib.Core.Path.{◌≡◌, refl}
use native.Mathlib.Omega.{arith}
use borrow.Author.Tests.{leb-false}
use lib.Dec.{leb}
use Rattle.bits.specs.Search.{all}
use Rattle.bits.proofs.SearchLaws.{all_at, all_true}
use Rattle.numbers.proofs.TestLaws.{same_flag}
use Rattle.board.specs.Equal.{AsBefore, Alike}
use Rattle.board.specs.declared.Board.{Board}
use Rattle.board.proofs.Equal.{as_before}
use Rattle.endpoint.specs.Acceptable.{acceptable_words}
use Rattle.endpoint.specs.declared.MemoryFields.{MemoryFields}
use Rattle.table.specs.Words.{words_nth}
use Rattle.table.specs.Good.{acceptable_at, good_table}
use Rattle.command.specs.Checks.{first}
use Rattle.command.specs.Local.{outside}
use Rattle.access.specs.Access.{remote_checks}
use Rattle.delivery.specs.Delivery.{slot_at}
use Rattle.machine.specs.Machine.{machine_right}
use Rattle.machine.specs.Equal.{remote_before, MachineAsBefore}

module _ (b : Board) (m : ℕ) (same : AsBefore b m) where
  good_same : (ws : List ℕ) → good_table b ws ≡ all (λ q. acceptable_words m (words_nth ws q)) (b.tiles * 64)
  unfolding good_table
  good_same ws =
      let now = acceptable_at b ws in
      let before : ℕ → Bool = λ q. acceptable_words m (words_nth ws q) in
      same_flag (all now (b.tiles * 64)) (all before (b.tiles * 64))
      (λ h. all_true before (b.tiles * 64) (λ q l. rw (← same.same_size (q / 64) (omega arith)) (all_at now (b.tiles * 64) h q l)))
      (λ h. all_true now (b.tiles * 64) (λ q l. rw (same.same_size (q / 64) (omega arith)) (all_at before (b.tiles * 64) h q l)))

  remote_same : (f : MemoryFields) (off size : ℕ) → first (remote_checks b f off size) ≡ first (remote_before b m f off size)
  remote_same f off size = go (leb b.tiles f.tile) refl
    where
      go : (x : Bool) → leb b.tiles f.tile ≡ x → first (remote_checks b f off size) ≡ first (remote_before b m f off size)
      go true p = rw p
      go false p = rw (same.same_size f.tile (leb-false b.tiles f.tile p))

  machine_as_before : MachineAsBefore b m
  unfolding machine_right outside slot_at
  machine_as_before = record {
    right = λ ws sh bs. rw (same.same_right, good_same ws);
    configurable = λ tile w l. rw (same.same_size tile l);
    local_range = λ tile a l. rw (same.same_size tile l);
    local_start = λ tile a l. rw (same.same_start tile (omega arith));
    remote_range = remote_same;
    remote_start = λ f off l. rw (same.same_start f.tile (omega arith));
    slot_start = λ s r i l. rw (same.same_start s.tgt_tile (omega arith));
  }

pub equal_as_before : (b : Board) (p : ℕ) → Alike b p → MachineAsBefore b (p * 4096)
equal_as_before b p alike = machine_as_before b (p * 4096) (as_before b p alike)
