-- `machine::machine_right` meets its contract. Assumes nothing.
use mathlib.Core.Path.{sym, ◌∙◌}
use Rattle.board.proofs.BoardLaws.{right, bounds}
use Rattle.machine.proofs.machine_right.Goals as goal

pub good-requires : goal.good-requires
good-requires c =
    let r = right _ _ _ _ (sym c.sizes_right.ensures ∙ c.if-not-sizes_right.false) in
    ((bounds _ r.board).few, r.words_right)

pub good-requires-then-good : goal.good-requires-then-good
good-requires-then-good c =
    let r = right _ _ _ _ (sym c.sizes_right.ensures ∙ c.if-not-sizes_right.false) in
    ((bounds _ r.board).few, r.sharing_right)
