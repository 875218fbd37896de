-- Places told apart, and functions that change at one place. Assumes nothing.
use Prim.Native.Nat.{ℕ}
use mathlib.Core.Logic.{◌≢◌, ◌⊎◌, inl, inr}
use mathlib.Core.Path.{◌≡◌, sym, ◌∙◌, fun_ext}
use native.Mathlib.Decide.{ℕ_discrete}
use native.Mathlib.Omega.{arith}
use Rattle.table.specs.Table.{upd}
use Rattle.table.proofs.TableLaws.{upd_at, upd_off}

-- two constructors that cannot be equal: `clash (cc)`
pub clash : {A : Type 0} → ◌≡◌ {A = ℕ} 0 1 → A
clash e = absurd (omega arith)

-- two places are one, or two
pub same? : (j k : ℕ) → (j ≡ k) ⊎ (j ≢ k)
same? j k = go (ℕ_discrete j k)
  where
    go : Dec (j ≡ k) → (j ≡ k) ⊎ (j ≢ k)
    go (yes e) = inl e
    go (no d) = inr d

-- to show something of every place: at one, and elsewhere
pub everywhere : (P : ℕ → Type 0) (k : ℕ) → P k → ((j : ℕ) → j ≢ k → P j) → (j : ℕ) → P j
everywhere P k here there j = go (same? j k)
  where
    go : (j ≡ k) ⊎ (j ≢ k) → P j
    go (inl e) = rw e here
    go (inr d) = there j d

module _ {A : Type 0} (f : ℕ → A) (k : ℕ) (v : A) where
  -- the same after a change: at the place itself, and elsewhere
  pub upd_case : (P : ℕ → A → Type 0) → P k v → ((j : ℕ) → j ≢ k → P j (f j)) → (j : ℕ) → P j (upd f k v j)
  upd_case P here there j = go (same? j k)
    where
      go : (j ≡ k) ⊎ (j ≢ k) → P j (upd f k v j)
      go (inl e) = rw (upd_at f k v j e, e) here
      go (inr d) = rw (upd_off f k v j d) (there j d)

  -- changes at two places, in either order
  pub upd_comm : (l : ℕ) (w : A) → k ≢ l → upd (upd f k v) l w ≡ upd (upd f l w) k v
  upd_comm l w d = fun_ext (λ j. go j (same? j k) (same? j l))
    where
      go : (j : ℕ) → (j ≡ k) ⊎ (j ≢ k) → (j ≡ l) ⊎ (j ≢ l) → upd (upd f k v) l w j ≡ upd (upd f l w) k v j
      go j (inl e) (inl e') = absurd (d (sym e ∙ e'))
      go j (inl e) (inr d') = simp (upd_at, upd_off)
      go j (inr d') (inl e) = simp (upd_at, upd_off)
      go j (inr d') (inr d'') = simp upd_off
