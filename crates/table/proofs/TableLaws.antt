-- The laws of the table: what is written is read back, everything else stays, and a good table stays good. Assumes nothing.
use Prim.Native.Nat.{ℕ, ◌+◌, ◌*◌, ◌<◌}
use mathlib.Core.Bool.{Bool, true, false, cond}
use mathlib.Core.List.{List}
use mathlib.Core.Logic.{◌≢◌}
use mathlib.Core.Path.{◌≡◌, refl, fun_ext}
use native.Mathlib.Decide.{ℕ_discrete}
use borrow.Author.Tests.{eqb-true, eqb-false, ltb-true, lt-ltb}
use lib.Dec.{eqb, ltb}
use lib.ListN.{length}
use Rattle.bits.proofs.SearchLaws.{all_at, all_true}
use Rattle.board.specs.declared.Board.{Board}
use Rattle.endpoint.specs.Endpoint.{fields_of, words_of}
use Rattle.endpoint.specs.Kinds.{is_invalid}
use Rattle.endpoint.specs.Acceptable.{acceptable}
use Rattle.endpoint.specs.declared.Endpoint.{Endpoint}
use Rattle.endpoint.specs.declared.Endpoint.TheVariants.{Invalid}
use Rattle.endpoint.proofs.EndpointLaws.{fits_true}
use Rattle.endpoint.proofs.RoundTrip.{fields_back, words_back, words_acceptable}
use Rattle.table.specs.Words.{words_nth, put_nth}
use Rattle.table.specs.Table.{Table, place, endpoint_at, upd, view, stored}
use Rattle.table.specs.Good.{memory_at, acceptable_at, good_table}
use Rattle.table.proofs.WordLaws.{length-put, words_put_same, words_put_other}

-- ---- a function changed at one place
module _ {A : Type 0} (f : ℕ → A) (q : ℕ) (v : A) (j : ℕ) where
  pub upd_at : j ≡ q → upd f q v j ≡ v
  unfolding upd
  upd_at p = go (eqb j q) refl
    where
      go : (b : Bool) → eqb j q ≡ b → cond b v (f j) ≡ v
      go true e = refl
      go false e = absurd (eqb-false j q e p)

  pub upd_off : j ≢ q → upd f q v j ≡ f j
  unfolding upd
  upd_off d = go (eqb j q) refl
    where
      go : (b : Bool) → eqb j q ≡ b → cond b v (f j) ≡ f j
      go true e = absurd (d (eqb-true j q e))
      go false e = refl

-- ---- one endpoint written
pub length-stored : (ws : List ℕ) (q : ℕ) (e : Endpoint) → length (stored ws q e) ≡ length ws
unfolding stored
length-stored ws q e = length-put ws q (words_of e)

-- read back, and elsewhere unchanged
pub view-stored : (ws : List ℕ) (q m : ℕ) (e : Endpoint) → q * 3 + 2 < length ws → acceptable m e ≡ true → view (stored ws q e) ≡ upd (view ws) q e
unfolding view stored
view-stored ws q m e l ok = fun_ext (λ j. at j (ℕ_discrete j q))
  where
    at : (j : ℕ) → Dec (j ≡ q) → fields_of (words_nth (put_nth ws q (words_of e)) j) ≡ upd (view ws) q e j
    at j (yes p) = rw (upd_at (view ws) q e j p, p, words_put_same ws q (words_of e) l) (fields_back e (fits_true m e ok))
    at j (no d) = rw (upd_off (view ws) q e j d, words_put_other ws q j (words_of e) d)

-- an endpoint that has a number below 64 stands at its place
pub look : (t : Table) (tile ep : ℕ) → ep < 64 → endpoint_at t tile ep ≡ t (place tile ep)
unfolding endpoint_at
look t tile ep l = rw (lt-ltb ep 64 l)

-- an endpoint that is not INVALID was read at a number below 64
pub live : (t : Table) (tile ep : ℕ) → is_invalid (endpoint_at t tile ep) ≡ false → ep < 64
unfolding endpoint_at
live t tile ep h = go (ltb ep 64) refl h
  where
    go : (b : Bool) → ltb ep 64 ≡ b → is_invalid (cond b (t (place tile ep)) Invalid) ≡ false → ep < 64
    go true e k = ltb-true ep 64 e
    go false e k = absurd (cc)

-- ---- a good table
module _ (b : Board) (ws : List ℕ) (good : good_table b ws ≡ true) where
  -- each endpoint of it is acceptable
  pub good_at : (q : ℕ) → q < b.tiles * 64 → acceptable (memory_at b q) (view ws q) ≡ true
  unfolding good_table view
  good_at q l = (words_back (memory_at b q) (words_nth ws q) (all_at (acceptable_at b ws) (b.tiles * 64) good q l)).0

  -- and it stays good when something acceptable is written
  pub good_stored : (q : ℕ) (e : Endpoint) → q * 3 + 2 < length ws → acceptable (memory_at b q) e ≡ true → good_table b (stored ws q e) ≡ true
  unfolding good_table stored
  good_stored q e l ok = all_true (acceptable_at b (put_nth ws q (words_of e))) (b.tiles * 64) (λ j k. at j k (ℕ_discrete j q))
    where
      at : (j : ℕ) → j < b.tiles * 64 → Dec (j ≡ q) → acceptable_at b (put_nth ws q (words_of e)) j ≡ true
      at j k (yes p) = rw (p, words_put_same ws q (words_of e) l) (words_acceptable (memory_at b q) e ok)
      at j k (no d) = rw (words_put_other ws q j (words_of e) d) (all_at (acceptable_at b ws) (b.tiles * 64) good j k)
