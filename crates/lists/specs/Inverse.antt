-- Demand 2 over lists: an endpoint becomes a list and the same endpoint again, and the other way round. A statement; the proof is in
-- proofs/Inverse.antt.
use Rattle.std.specs.Prelude.{ℕ, List, ◌↔◌, ◌≡◌, Some}
use Rattle.numbers.specs.Tests.{All}
use Rattle.endpoint.specs.Acceptable.{fits}
use Rattle.endpoint.specs.declared.Endpoint.{Endpoint}
use Rattle.lists.specs.Fields.{field_values, endpoint_of}

-- a list names an endpoint exactly where it is that endpoint's list and each field fits its bits
abbrev pub Inverse : Type 0
Inverse = (l : List ℕ) (e : Endpoint) → (endpoint_of l ≡ Some e) ↔ ((field_values e ≡ l) × All (fits e))
