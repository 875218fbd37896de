-- A field that was read fits its bits, and so do the credits that are promised. Assumes nothing.
use Prim.Native.Nat.{ℕ, zero, suc, ◌≤◌}
use mathlib.Core.Bool.{Bool, true, false, cond}
use mathlib.Core.List.{List}
use mathlib.Core.Path.{◌≡◌, ap}
use native.Mathlib.Omega.{arith}
use Rattle.endpoint.specs.Kinds.{receive_of}
use Rattle.endpoint.specs.Layout.{bits}
use Rattle.endpoint.specs.Endpoint.{kind_of, fields_of, read_send}
use Rattle.endpoint.specs.declared.Words.{Words}
use Rattle.table.specs.Words.{words_nth}
use Rattle.table.specs.Table.{view}
use Rattle.wiring.specs.Credits.{aims_at, share, promise}
use Rattle.wiring.specs.Wiring.{Low}
use Rattle.wiring.proofs.Places.{clash}

read_low : (t : ℕ) (w : Words) → Low (kind_of t w)
read_low zero w g e = clash (cc)
read_low (suc zero) w g e = clash (cc)
read_low (suc (suc zero)) w g e =
    let s : bits 35 40 w.first ≡ g.slots = ap (λ x. (receive_of x).slots) e in
    omega arith
read_low (suc (suc (suc zero))) w g e = clash (cc)
read_low (suc (suc (suc (suc n)))) w g e = clash (cc)

pub view_low : (ws : List ℕ) (q : ℕ) → Low (view ws q)
unfolding view fields_of
view_low ws q = read_low (bits 0 2 (words_nth ws q).first) (words_nth ws q)

of_choice : (b : Bool) (n k : ℕ) → n ≤ k → cond b n 0 ≤ k
of_choice true n k h = h
of_choice false n k h = omega arith

read_few : (r t : ℕ) (w : Words) → promise r (kind_of t w) ≤ 63
unfolding share
read_few r zero w = omega arith
read_few r (suc zero) w = of_choice (aims_at r (read_send w)) (bits 25 30 w.first) 63 (omega arith)
read_few r (suc (suc zero)) w = omega arith
read_few r (suc (suc (suc zero))) w = omega arith
read_few r (suc (suc (suc (suc n)))) w = omega arith

pub promised_few : (ws : List ℕ) (r q : ℕ) → promise r (view ws q) ≤ 63
unfolding view fields_of
promised_few ws r q = read_few r (bits 0 2 (words_nth ws q).first) (words_nth ws q)
