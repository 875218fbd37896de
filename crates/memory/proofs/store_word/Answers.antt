-- `memory::store_word` meets its contract: the word's bytes, least first. Assumes nothing.
use Prim.Native.Nat.{◌+◌, ◌-◌}
use mathlib.Core.Path.{◌∙◌}
use native.Mathlib.Omega.{arith}
use Rattle.memory.proofs.ByteLaws.{put_word}
use Rattle.memory.proofs.store_word.Goals as goal

pub returns : goal.returns
returns c =
    let a = c.args in
    rw (c.copy_from_slice.ensures.after ∙ c.word_bytes.ensures) (put_word a.mem.now a.at (a.at + 8 - a.at) a.value (omega arith) c.requires)
