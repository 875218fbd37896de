-- `delivery::header_word` meets its contract: each field stands at its place, and nothing is carried over. Assumes nothing.
use native.Mathlib.Omega.{arith}
use Rattle.delivery.specs.Header.{header_word}
use Rattle.delivery.proofs.header_word.Goals as goal

pub returns : goal.returns
unfolding header_word
returns c = omega arith
