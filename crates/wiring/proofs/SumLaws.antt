-- The laws of `sum`. Assumes nothing.
use Prim.Native.Nat.{ℕ, zero, suc, ◌+◌, ◌*◌, ◌≤◌, ◌<◌}
use mathlib.Core.Logic.{◌≢◌, ◌⊎◌, inl, inr}
use mathlib.Core.Path.{◌≡◌, refl, ap, fun_ext, ◌∙◌}
use native.Mathlib.Nat.{le_refl}
use native.Mathlib.Omega.{arith}
use Rattle.std.proofs.Common.{add-one, suc-mul}
use Rattle.std.specs.List.{sum_by, range_with_len}
use Rattle.std.proofs.lemmas.List.{map-id}
use Rattle.std.proofs.lemmas.List.FromFn.{sum_by-map-range_with_len_more}
use Rattle.wiring.specs.Sums.{sum}
use Rattle.wiring.proofs.Places.{same?}

pub sum_none : (n : ℕ) (f : ℕ → ℕ) → ((j : ℕ) → f j ≡ 0) → sum n f ≡ 0
unfolding sum
sum_none zero f h = refl
sum_none (suc n) f h = omega (arith, sum_none n f h, h n)

-- a term is at most the sum
pub sum_term : (n k : ℕ) (f : ℕ → ℕ) → k < n → f k ≤ sum n f
unfolding sum
sum_term zero k f l = omega arith
sum_term (suc n) k f l = go (same? n k) (λ l'. sum_term n k f l')
  where
    go : (n ≡ k) ⊎ (n ≢ k) → (k < n → f k ≤ sum n f) → f k ≤ sum n f + f n
    go (inl e) ih = rw e (omega arith)
    go (inr d) ih = omega (arith, ih (omega arith))

-- ---- two sums, term by term
pub sum_same : (n : ℕ) (f g : ℕ → ℕ) → ((j : ℕ) → f j ≡ g j) → sum n f ≡ sum n g
sum_same n f g h = ap (sum n) (fun_ext h)

pub sum_le : (n : ℕ) (f g : ℕ → ℕ) → ((j : ℕ) → j < n → f j ≤ g j) → sum n f ≤ sum n g
unfolding sum
sum_le zero f g h = le_refl 0
sum_le (suc n) f g h = omega (arith, sum_le n f g (λ j l. h j (omega arith)), h n (le_refl (suc n)))

-- that differ at most at k
sum_below : (m k : ℕ) (f g : ℕ → ℕ) → m ≤ k → ((j : ℕ) → j ≢ k → f j ≡ g j) → sum m f ≡ sum m g
unfolding sum
sum_below zero k f g l h = refl
sum_below (suc m) k f g l h = omega (arith, sum_below m k f g (omega arith) h, h m (omega arith))

pub sum_at : (n k : ℕ) (f g : ℕ → ℕ) → k < n → ((j : ℕ) → j ≢ k → f j ≡ g j) → sum n f + g k ≡ sum n g + f k
unfolding sum
sum_at zero k f g l h = omega arith
sum_at (suc n) k f g l h = go (same? n k) (λ l'. sum_at n k f g l' h)
  where
    go : (n ≡ k) ⊎ (n ≢ k) → (k < n → sum n f + g k ≡ sum n g + f k) → sum n f + f n + g k ≡ sum n g + g n + f k
    go (inl e) ih = rw (← e) (omega (arith, sum_below n k f g (omega arith) h))
    go (inr d) ih = omega (arith, ih (omega arith), h n d)

-- one term is smaller, and none larger
pub sum_lt : (n k : ℕ) (f g : ℕ → ℕ) → k < n → ((j : ℕ) → j < n → f j ≤ g j) → f k < g k → sum n f < sum n g
unfolding sum
sum_lt zero k f g l h s = omega arith
sum_lt (suc n) k f g l h s = go (same? n k) (λ l'. sum_lt n k f g l' (λ j l''. h j (omega arith)) s)
  where
    go : (n ≡ k) ⊎ (n ≢ k) → (k < n → sum n f < sum n g) → sum n f + f n < sum n g + g n
    go (inl e) ih = omega (arith, sum_le n f g (λ j l'. h j (omega arith)), rw (← e) at s)
    go (inr d) ih = omega (arith, ih (omega arith), h n (omega arith))

-- ---- a sum as code adds it up
sum_by_more : (f : ℕ → ℕ) (n : ℕ) → sum_by f (range_with_len 0 (n + 1)) ≡ sum_by f (range_with_len 0 n) + f n
sum_by_more f n = simp map-id at (sum_by-map-range_with_len_more f (λ (k : ℕ). k) 0 n n (omega arith))

pub summed : (f : ℕ → ℕ) (n : ℕ) → sum_by f (range_with_len 0 n) ≡ sum n f
unfolding sum
summed f zero = refl
summed f (suc n) = rw add-one at (sum_by_more f n) ∙ rw (summed f n)

pub sum_small : (n k : ℕ) (f : ℕ → ℕ) → ((j : ℕ) → f j ≤ k) → sum n f ≤ n * k
unfolding sum
sum_small zero k f h = omega arith
sum_small (suc n) k f h = rw suc-mul (omega (arith, sum_small n k f h, h n))
