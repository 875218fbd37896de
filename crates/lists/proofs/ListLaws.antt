-- Two lists are the same where they are number by number. Assumes nothing.
use Prim.Native.Nat.{ℕ, zero, suc, ◌+◌}
use mathlib.Core.Bool.{Bool, ◌&&◌}
use mathlib.Core.List.{List, [], ◌∷◌}
use mathlib.Core.Path.{◌≡◌, refl, sym, ap, subst, ◌∙◌}
use native.Mathlib.Omega.{arith}
use lib.Dec.{eqb}
use lib.ListN.{length, get_or}
use Rattle.std.specs.Cmp.Lexicographic.{pointwise}
use Rattle.std.specs.List.{list_all, range_with_len}

-- the same numbers, each asked of the one after it
shifted : (g h : ℕ → Bool) → ((i : ℕ) → g (i + 1) ≡ h i) → (a n : ℕ) → list_all g (range_with_len (a + 1) n) ≡ list_all h (range_with_len a n)
shifted g h e a zero = refl
shifted g h e a (suc n) = rw (e a) (ap (λ (b : Bool). h a && b) (shifted g h e (a + 1) n))

by_number : (k l : List ℕ) → length k ≡ length l → list_all (λ i. eqb (get_or k i 0) (get_or l i 0)) (range_with_len 0 (length k)) ≡ pointwise eqb k l
by_number [] [] e = refl
by_number [] (y ∷ l) e = absurd (omega arith)
by_number (x ∷ k) [] e = absurd (omega arith)
by_number (x ∷ k) (y ∷ l) e =
    ap (λ (b : Bool). eqb x y && b)
    (shifted (λ i. eqb (get_or (x ∷ k) i 0) (get_or (y ∷ l) i 0)) (λ i. eqb (get_or k i 0) (get_or l i 0)) (λ i. let s : i + 1 ≡ suc i = omega arith in rw s refl) 0 (length k) ∙ by_number k l (omega arith))

pub eleven_same : (k l : List ℕ) → length k ≡ 11 → length l ≡ 11 → list_all (λ i. eqb (get_or k i 0) (get_or l i 0)) (range_with_len 0 11) ≡ pointwise eqb k l
eleven_same k l d e = subst (λ (n : ℕ). list_all (λ i. eqb (get_or k i 0) (get_or l i 0)) (range_with_len 0 n) ≡ pointwise eqb k l) d (by_number k l (d ∙ sym e))
