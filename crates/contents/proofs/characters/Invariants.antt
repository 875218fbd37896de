-- After some turns the bytes that they are about are appended.
use Rattle.std.proofs.Common.{take, map}
use Rattle.std.specs.Io.KnownBytes.{Appends}
use Rattle.contents.specs.Rows.{printable}
use Rattle.contents.proofs.characters.Given as goal

abbrev pub invariant-loop-byte : goal.invariant-loop-byte
invariant-loop-byte g l = Appends (g.W.Write.contents l.initial.out) (g.W.Write.contents l.out) (map printable (take l.byte-index l.bytes))
