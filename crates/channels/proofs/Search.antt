-- A search over endpoints goes on from where it began. Assumes nothing.
use Rattle.std.proofs.Common.{◌≡◌, ℕ, ◌+◌, ◌*◌, ◌≤◌, List, [], ◌∷◌, Some, arith, sym, subst}
use Rattle.std.specs.Iterator.{Yields, YieldsThen}
use Rattle.endpoint.specs.declared.Endpoint.{Endpoint}
use Rattle.channels.specs.declared.Place.{Place}
use Rattle.channels.specs.declared.Endpoints.{Endpoints}
use Rattle.channels.specs.Endpoints.{place_of, TakesEndpoint}

goes_on : (s t : Endpoints) (xs : List (Place × Endpoint)) → Yields TakesEndpoint s xs t → s.number ≤ t.number
goes_on s t [] y = subst (λ (u : Endpoints). s.number ≤ u.number) y (omega arith)
goes_on s t (x ∷ xs) y =
    let h : y.0.number ≤ t.number = goes_on y.0 t xs y.2 in
    let e : y.0.number ≡ s.number + 1 = y.1.number in
    omega (arith, h, e)

at : (n : ℕ) (p : Place) → p ≡ place_of n → p.tile * 64 + p.ep ≡ n
at n p e = subst (λ (q : Place). q.tile * 64 + q.ep ≡ n) (sym e) (omega arith)

pub not_before : (s u : Endpoints) (x : Place × Endpoint) (xs : List (Place × Endpoint)) → YieldsThen TakesEndpoint s xs (Some x) u → s.number ≤ x.0.tile * 64 + x.0.ep
not_before s u x xs y =
    let h : s.number ≤ y.0.number = goes_on s y.0 xs y.1 in
    let e : x.0.tile * 64 + x.0.ep ≡ y.0.number = at y.0.number x.0 y.2.place in
    omega (arith, h, e)

pub after : (s u : Endpoints) (x : Place × Endpoint) (xs : List (Place × Endpoint)) → YieldsThen TakesEndpoint s xs (Some x) u → u.number ≡ x.0.tile * 64 + x.0.ep + 1
after s u x xs y =
    let e : x.0.tile * 64 + x.0.ep ≡ y.0.number = at y.0.number x.0 y.2.place in
    let f : u.number ≡ y.0.number + 1 = y.2.number in
    omega (arith, e, f)
