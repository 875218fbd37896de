-- The first 40 bytes of more than 40 are 40.
use Rattle.std.proofs.Common.{sym, length-take-le, arith}
use Rattle.mistakes.proofs.first.Goals as goal

pub slice_bounds-result-end : goal.slice_bounds-result-end
slice_bounds-result-end c = sym (length-take-le 40 c.args.bytes.now (omega (arith, c.requires)))
