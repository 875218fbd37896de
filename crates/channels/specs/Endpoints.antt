-- Which endpoints come, of the words that are left from endpoint number n of the board on: three words each, in their order.
use Rattle.std.specs.Prelude.{ℕ, ◌+◌, ◌*◌, ◌/◌, ◌%◌, ◌≡◌, ◌<◌, ◌≤◌, nat_lt, if◌then◌else◌, Option, MatchOption, IfSome, List, [], length, drop, slice_range}
use Rattle.endpoint.specs.Endpoint.{fields_of}
use Rattle.endpoint.specs.declared.Endpoint.{Endpoint}
use Rattle.table.specs.Words.{three}
use Rattle.channels.specs.declared.Place.{Place}
use Rattle.channels.specs.declared.Endpoints.{Endpoints}
use Rattle.channels.specs.declared.Senders.{Senders}

abbrev pub place_of : ℕ → Place
place_of n = record { tile = n / 64; ep = n % 64 }

-- the next endpoint with its place
pub record IsNext (old : Endpoints) (p : Place) (e : Endpoint) (new : Endpoints) : Type 0 where
  pub place : p ≡ place_of old.number
  pub fields : e ≡ fields_of (three old.words.now 0)
  pub number : new.number ≡ old.number + 1
  pub words : new.words.now ≡ drop 3 old.words.now

-- or nothing, where fewer than three words are left
abbrev pub TakesEndpoint : Endpoints → Option (Place × Endpoint) → Endpoints → Type 0
TakesEndpoint old r new = MatchOption r ((length old.words.now < 3) × (new ≡ old)) (λ x. IsNext old x.0 x.1 new)

-- the words of a tile's endpoints, none of a tile that is not there
abbrev pub tile_words : ℕ → List ℕ → ℕ → List ℕ
tile_words tiles words tile = if nat_lt tile tiles then slice_range words (tile * 192) (tile * 192 + 192) else []

-- a sender stands where the search stood, or later; the search goes on after it
pub record IsNextSender (old : Senders) (p : Place) (new : Senders) : Type 0 where
  pub not_before : old.endpoints.number ≤ p.tile * 64 + p.ep
  pub after : new.endpoints.number ≡ p.tile * 64 + p.ep + 1
  pub receiver : new.receiver ≡ old.receiver

abbrev pub TakesSender : Senders → Option Place → Senders → Type 0
TakesSender old r new = IfSome r (λ p. IsNextSender old p new)
