-- The laws of `above`: from and to the order of whole numbers. Assumes nothing.
use Prim.Native.Nat.{ℕ, ◌≤◌}
use mathlib.Core.Bool.{false, not}
use mathlib.Core.Path.{◌≡◌, ap}
use lib.Dec.{leb}
use borrow.Author.Tests.{le-ltb, ltb-false, le-leb, leb-true, not-true}
use Rattle.numbers.specs.Sums.{◌above◌}
use Rattle.numbers.proofs.TestLaws.{same_flag}

pub le_above : (x l : ℕ) → x ≤ l → (x above l) ≡ false
le_above x l h = le-ltb l x h

pub above_false : (x l : ℕ) → (x above l) ≡ false → x ≤ l
above_false x l h = ltb-false l x h

-- not above is at most
pub not_above : (x l : ℕ) → not (x above l) ≡ leb x l
not_above x l = same_flag (not (x above l)) (leb x l) (λ h. le-leb x l (above_false x l (not-true (x above l) h))) (λ h. ap not (le_above x l (leb-true x l h)))
