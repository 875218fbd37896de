-- What a machine of right sizes with a good table has. Assumes nothing.
use Prim.Native.Nat.{ℕ, ◌*◌, ◌≤◌, ◌<◌}
use mathlib.Core.Bool.{true, ◌&&◌}
use mathlib.Core.List.{List}
use mathlib.Core.Path.{◌≡◌}
use lib.ListN.{length}
use Rattle.numbers.proofs.TestLaws.{split_and}
use Rattle.board.specs.Board.{sizes_right}
use Rattle.board.specs.declared.Board.{Board}
use Rattle.board.proofs.BoardLaws.{right, bounds}
use Rattle.endpoint.specs.declared.ReceiveFields.{ReceiveFields}
use Rattle.endpoint.specs.declared.Endpoint.TheVariants.{Receive}
use Rattle.endpoint.proofs.EndpointLaws.{Rules, accepted}
use Rattle.table.specs.Table.{Table, view}
use Rattle.table.specs.Good.{memory_at, good_table}
use Rattle.table.proofs.TableLaws.{good_at}
use Rattle.sharing.specs.Sharing.{Shared, sharing_good}
use Rattle.slots.specs.Slots.{slots_of}
use Rattle.machine.specs.Machine.{machine_right}
use Rattle.wiring.specs.Sound.{Receiver}

-- at most 8 tiles, and their words
abbrev pub Lent : Board → ℕ → Type 0
Lent b words = (b.tiles ≤ 8) × (words ≡ b.tiles * 192)

pub lent : (b : Board) (words sharing bytes : ℕ) → sizes_right b words sharing bytes ≡ true → Lent b words
lent b words sharing bytes h = let r = right b words sharing bytes h in ((bounds b r.board).few, r.words_right)

-- each receive endpoint's wpos is one that a search may start from: a good table has it
abbrev pub Turns : ℕ → Table → Type 0
Turns n t = (r : ℕ) (g : ReceiveFields) → r < n * 64 → t r ≡ Receive g → g.wpos ≤ slots_of g

module _ (b : Board) (ws sh bs : List ℕ) (ok : machine_right b ws sh bs ≡ true) where
  abbrev parts : (sizes_right b (length ws) (length sh) (length bs) ≡ true) × (good_table b ws ≡ true) × (sharing_good b sh ≡ true)
  unfolding machine_right
  parts =
      let p = split_and (sizes_right b (length ws) (length sh) (length bs)) (good_table b ws && sharing_good b sh) ok in
      let q = split_and (good_table b ws) (sharing_good b sh) p.1 in
      (p.0, q.0, q.1)

  pub right_lent : Lent b (length ws)
  right_lent = lent b (length ws) (length sh) (length bs) parts.0

  pub shares : Shared b sh
  shares = record { long = (right b (length ws) (length sh) (length bs) parts.0).sharing_right; good = parts.2 }

  rules : (q : ℕ) (g : ReceiveFields) → q < b.tiles * 64 → view ws q ≡ Receive g → Rules (memory_at b q) g
  rules q g l e = accepted (memory_at b q) g (rw e at (good_at b ws parts.1 q l))

  pub few : (r : ℕ) (g : ReceiveFields) → Receiver b.tiles (view ws) r g → g.slots ≤ 5
  few r g R = (rules r g R.there R.is).sizes_hold.0

  pub turns : Turns b.tiles (view ws)
  turns r g l e = (rules r g l e).positions_hold.0
