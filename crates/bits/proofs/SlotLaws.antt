-- What `find_slot` finds: the slot fewest steps from the position that is as wanted, or that no slot is. Assumes nothing.
use Rattle.std.proofs.Common.{ℕ, zero, suc, ◌+◌, ◌-◌, ◌%◌, ◌^◌, ◌<◌, ◌≤◌, ◌≡◌, refl, sym, ◌∙◌, Bool, true, false, true≢false, not, cond, map, Option, Some, None, inl, inr, arith}
use mathlib.Core.Bool.{false≢true}
use Rattle.std.proofs.lemmas.Bool.{cases_lt}
use Rattle.std.specs.Bool.{beq}
use Rattle.std.specs.List.{find, range_with_len}
use native.Mathlib.Nat.{mod-lt, mod-eq_of_lt, add-mod_left}
use native.Mathlib.Decide.{dec_le}
use lib.Pow.{pow_pos}
use lib.Count.{ones}
use Rattle.bits.specs.Bits.{has_bit}
use Rattle.bits.specs.Slots.{slot_at, find_slot}
use Rattle.bits.specs.declared.Slot.{Slot}
use Rattle.bits.proofs.BitLaws.{has_bit_lem, ones_full}

pub beq_true : (a b : Bool) → beq a b ≡ true → a ≡ b
beq_true true true e = refl
beq_true true false e = cc
beq_true false true e = cc
beq_true false false e = refl

pub beq_false : (a b : Bool) → beq a b ≡ false → a ≡ not b
beq_false true true e = cc
beq_false true false e = refl
beq_false false true e = refl
beq_false false false e = cc

-- ---- a search over numbers, each made into an element
module _ {X : Type 0} (p : X → Bool) (f : ℕ → X) where
  -- the first number of a range whose element passes
  pub record First (a n : ℕ) (x : X) : Type 0 where
    pub at : ℕ
    pub low : a ≤ at
    pub high : at < a + n
    pub made : x ≡ f at
    pub passes : p (f at) ≡ true
    pub before : (k : ℕ) → a ≤ k → k < at → p (f k) ≡ false

  abbrev pub Searched : ℕ → ℕ → Option X → Type 0
  Searched a n (Some x) = First a n x
  Searched a n None = (k : ℕ) → a ≤ k → k < a + n → p (f k) ≡ false

  pub searched : (a n : ℕ) → Searched a n (find p (map f (range_with_len a n)))
  searched a zero = λ k l h. absurd (omega arith)
  searched a (suc n) = step (p (f a)) refl (find p (map f (range_with_len (a + 1) n))) (searched (a + 1) n)
    where
      step : (b : Bool) → p (f a) ≡ b → (r : Option X) → Searched (a + 1) n r → Searched a (suc n) (cond b (Some (f a)) r)
      step true e r s = record { at = a; low = omega arith; high = omega arith; made = refl; passes = e; before = λ k l h. absurd (omega arith) }
      step false e (Some x) s =
          record {
            at = s.at;
            low = omega (arith, s.low);
            high = omega (arith, s.high);
            made = s.made;
            passes = s.passes;
            before = λ k l h. elim (cases_lt a k) [ inl q ↦ s.before k (omega arith) h | inr q ↦ let z : a ≡ k = omega arith in rw (← z) e ];
          }
      step false e None s =
          λ k l h. elim (cases_lt a k) [ inl q ↦ s k (omega arith) (omega arith) | inr q ↦ let z : a ≡ k = omega arith in rw (← z) e ]

-- every slot is some steps from pos
steps : (n pos s : ℕ) → pos ≤ n → s < n → (d : ℕ) × (d < n) × ((pos + d) % n ≡ s)
steps n pos s p l = go (dec_le pos s)
  where
    at : (d k : ℕ) → pos + d ≡ k → k % n ≡ s → (pos + d) % n ≡ s
    at d k e q = rw e q

    go : Dec (pos ≤ s) → (d : ℕ) × (d < n) × ((pos + d) % n ≡ s)
    go (yes h) = (s - pos, omega arith, at (s - pos) s (omega arith) (mod-eq_of_lt l))
    go (no h) = (n + s - pos, omega arith, at (n + s - pos) (n + s) (omega arith) (add-mod_left n s ∙ mod-eq_of_lt l))

module _ (mask pos slots : ℕ) (wanted : Bool) where
  -- a slot that is found: it is one of the slots, its bit is as wanted, and no slot on the way to it is
  pub record Nearest (s : Slot) : Type 0 where
    pub below : s.index < 2 ^ slots
    pub wanted_bit : has_bit mask s.index ≡ wanted
    pub there : s.index ≡ (pos + s.distance) % 2 ^ slots
    pub within : s.distance < 2 ^ slots
    pub nearer : (k : ℕ) → k < s.distance → has_bit mask ((pos + k) % 2 ^ slots) ≡ not wanted

  -- what the search answers is the nearest slot as wanted, or that no slot is
  abbrev pub Outcome : Option Slot → Type 0
  Outcome (Some s) = Nearest s
  Outcome None = (s : ℕ) → s < 2 ^ slots → has_bit mask s ≡ not wanted

  pub outcome : pos ≤ 2 ^ slots → Outcome (find_slot mask pos slots wanted)
  outcome p = go (find_slot mask pos slots wanted) (searched as_wanted (slot_at pos n) 0 n)
    where
      n : ℕ
      n = 2 ^ slots

      as_wanted : Slot → Bool
      as_wanted s = beq (has_bit mask s.index) wanted

      go : (r : Option Slot) → Searched as_wanted (slot_at pos n) 0 n r → Outcome r
      go (Some s) f =
          rw f.made
          (record {
            below = mod-lt (pos + f.at) (pow_pos slots);
            wanted_bit = beq_true (has_bit mask ((pos + f.at) % n)) wanted f.passes;
            there = refl;
            within = omega (arith, f.high);
            nearer = λ k h. beq_false (has_bit mask ((pos + k) % n)) wanted (f.before k (omega arith) h);
          })
      go None f =
          λ s l.
          let q = steps n pos s p l in
          rw (← q.2) (beq_false (has_bit mask ((pos + q.0) % n)) wanted (f q.0 (omega arith) (omega (arith, q.1))))

  pub nothing_if : pos ≤ 2 ^ slots → ((s : ℕ) → s < 2 ^ slots → has_bit mask s ≡ not wanted) → find_slot mask pos slots wanted ≡ None
  nothing_if p h = go (find_slot mask pos slots wanted) (outcome p)
    where
      neq : (b : Bool) → b ≡ not b → ⊥
      neq true e = true≢false e
      neq false e = false≢true e

      go : (r : Option Slot) → Outcome r → r ≡ None
      go (Some s) o = absurd (neq wanted (sym o.wanted_bit ∙ h s.index o.below))
      go None o = refl

-- fewer set bits than slots: some slot is free
pub room : (mask pos slots : ℕ) → pos ≤ 2 ^ slots → ones mask < 2 ^ slots → find_slot mask pos slots false ≡ None → ⊥
room mask pos slots p l e =
    let none : Outcome mask pos slots false None = rw e at (outcome mask pos slots false p) in
    omega (arith, ones_full (2 ^ slots) mask (λ i k. has_bit_lem mask i (none i k)))
