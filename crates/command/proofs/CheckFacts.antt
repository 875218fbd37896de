-- What an answer says of the checks: all have passed in an accepted command; in a refused one those before have passed, and the
-- only one with that refusal has failed. A check is named by its place in the list, counted from 0. Assumes nothing.
use mathlib.Core.Path.{◌≡◌, refl}
use mathlib.Core.Bool.{Bool, true, false, cond, not}
use mathlib.Core.List.{List, [], ◌∷◌}
use mathlib.Core.Logic.{◌⊎◌, inl, inr}
use Prim.Native.Nat.{ℕ, zero, suc}
use native.Mathlib.Omega.{arith}
use lib.Dec.{T, eqb, eqb_refl}
use Rattle.answers.specs.Answers.{code_of}
use Rattle.answers.specs.declared.Error.{Error}
use Rattle.answers.specs.Answers.{Answer}
use Rattle.std.specs.Prelude.{Ok, Err}
use Rattle.command.specs.Checks.{Check, ◌⇒◌, first, ◌then◌}

-- the test of check k
abbrev pub nth : List Check → ℕ → Bool
nth [] k = false
nth ((b ⇒ e) ∷ l) zero = b
nth ((b ⇒ e) ∷ l) (suc k) = nth l k

-- ---- an accepted command
pub passed : (l : List Check) → first l ≡ Ok tt → (k : ℕ) → nth l k ≡ false
passed [] h k = refl
passed ((false ⇒ e) ∷ l) h zero = refl
passed ((false ⇒ e) ∷ l) h (suc k) = passed l h k
passed ((true ⇒ e) ∷ l) h k = let z : ◌≡◌ {A = ℕ} 0 1 = cc in absurd (omega arith)

-- ---- a refused one
abbrev pub same : Error → Error → Bool
same d e = eqb (code_of d) (code_of e)

-- no check up to k, and k itself, gives e
abbrev pub other_than : Error → List Check → ℕ → Bool
other_than e [] k = true
other_than e ((b ⇒ d) ∷ l) zero = not (same d e)
other_than e ((b ⇒ d) ∷ l) (suc k) = cond (same d e) false (other_than e l k)

-- none at all does; none but k does
abbrev pub never : Error → List Check → Bool
never e [] = true
never e ((b ⇒ d) ∷ l) = cond (same d e) false (never e l)

abbrev pub only : Error → List Check → ℕ → Bool
only e [] k = true
only e ((b ⇒ d) ∷ l) zero = never e l
only e ((b ⇒ d) ∷ l) (suc k) = cond (same d e) false (only e l k)

-- the refusal is not that of the check in front, so it has passed
skip : (b : Bool) (d e : Error) (r : Answer) (k : Bool) → T (cond (same d e) false k) → cond b (Err d) r ≡ Err e → (b ≡ false) × (r ≡ Err e) × T k
skip false d e r k t h = (refl, h, go (same d e) t)
  where
    go : (x : Bool) → T (cond x false k) → T k
    go true u = elim u [ ]
    go false u = u
skip true d e r k t h = absurd (go (same d e) (rw (unrefused d e h) (eqb_refl (code_of e))) t)
  where
    unrefused : (d e : Error) → ◌≡◌ {A = Answer} (Err d) (Err e) → d ≡ e
    unrefused d e q = cc

    go : (x : Bool) → T x → T (cond x false k) → ⊥
    go false u t = elim u [ ]
    go true u t = t

-- where the refusal is e, a check before any that gives e has passed
pub before : (e : Error) (l : List Check) → first l ≡ Err e → (k : ℕ) → T (other_than e l k) → nth l k ≡ false
before e [] h k t = refl
before e ((b ⇒ d) ∷ l) h zero t = (skip b d e (first l) true (go (same d e) t) h).0
  where
    go : (x : Bool) → T (not x) → T (cond x false true)
    go true u = elim u [ ]
    go false u = tt
before e ((b ⇒ d) ∷ l) h (suc k) t = let s = skip b d e (first l) (other_than e l k) t h in before e l s.1 k s.2

never_is : (e : Error) (l : List Check) → T (never e l) → first l ≡ Err e → ⊥
never_is e [] t h = let z : ◌≡◌ {A = ℕ} 0 1 = cc in omega arith
never_is e ((b ⇒ d) ∷ l) t h = let s = skip b d e (first l) (never e l) t h in never_is e l s.2 s.1

-- and the only check that gives e has failed
pub stopped : (e : Error) (l : List Check) → first l ≡ Err e → (k : ℕ) → T (only e l k) → nth l k ≡ true
stopped e [] h k t = absurd (never_is e [] tt h)
stopped e ((false ⇒ d) ∷ l) h zero t = absurd (never_is e l t h)
stopped e ((true ⇒ d) ∷ l) h zero t = refl
stopped e ((b ⇒ d) ∷ l) h (suc k) t = let s = skip b d e (first l) (only e l k) t h in stopped e l s.1 k s.2

-- one of the two checks k and k + 1 has failed, where no other gives e
abbrev pub only_two : Error → List Check → ℕ → Bool
only_two e [] k = true
only_two e ((b ⇒ d) ∷ l) zero = only e l zero
only_two e ((b ⇒ d) ∷ l) (suc k) = cond (same d e) false (only_two e l k)

pub stopped_at_two : (e : Error) (l : List Check) → first l ≡ Err e → (k : ℕ) → T (only_two e l k) → (nth l k ≡ true) ⊎ (nth l (suc k) ≡ true)
stopped_at_two e [] h k t = absurd (never_is e [] tt h)
stopped_at_two e ((false ⇒ d) ∷ l) h zero t = inr (stopped e l h zero t)
stopped_at_two e ((true ⇒ d) ∷ l) h zero t = inl refl
stopped_at_two e ((b ⇒ d) ∷ l) h (suc k) t = let s = skip b d e (first l) (only_two e l k) t h in stopped_at_two e l s.1 k s.2

-- ---- one list, then another: the second decides where the first passes
abbrev pub followed : Answer → Answer → Answer
followed (Ok _) r = r
followed (Err e) r = Err e

pub first_then : (l k : List Check) → first (l then k) ≡ followed (first l) (first k)
first_then [] k = refl
first_then ((true ⇒ e) ∷ l) k = refl
first_then ((false ⇒ e) ∷ l) k = first_then l k
