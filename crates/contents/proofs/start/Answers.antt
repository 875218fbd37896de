-- `contents::start` meets its contract: the bytes of 8 tiles are 524,288 at most. Assumes nothing.
use Rattle.std.proofs.Common.{sym, ◌∙◌, arith}
use Rattle.board.proofs.BoardLaws.{bounds, start_small}
use Rattle.contents.proofs.start.Goals as goal

pub returns : goal.returns
returns c =
    let a = c.args in
    let ok = sym c.board_allowed.ensures ∙ c.if-not-board_allowed.false in
    omega (arith, c.start.ensures, (bounds a.b ok).few, start_small a.b a.tile ok (omega arith))
