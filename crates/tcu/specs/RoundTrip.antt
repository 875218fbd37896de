-- Demand 2 over the lists of the C interface: acceptable words become fields and the same words again, and the other way round.
-- And no second answer or list fits a promise of this interface. Statements; the proofs are in proofs/RoundTrip.antt.
use Rattle.std.specs.Prelude.{ℕ, List, ◌↔◌, ◌≡◌, length}
use Rattle.endpoint.specs.declared.Words.{Words}
use Rattle.tcu.specs.Interface.{list_of, Returned, returned, Turned, turned, unpack_in_c, pack_in_c}

-- tcu_unpack gives the list f for the words w exactly where tcu_pack gives the words w for the list f, whatever stood before in
-- what was lent for them
abbrev pub RoundTrip : Type 0
RoundTrip =
    (m : ℕ) (w : Words) (f l ws : List ℕ) → length l ≡ 11 → length ws ≡ 3
    → (unpack_in_c m w l ≡ turned 0 f) ↔ (pack_in_c m f ws ≡ turned 0 (list_of w))

-- no second answer or end state fits
pub record Only : Type 0 where
  pub calls : (o : Returned) (n k x y : ℕ) (us vs rs ss bs cs : List ℕ) → returned n x us rs bs ≡ o → returned k y vs ss cs ≡ o → (n ≡ k) × (x ≡ y) × (us ≡ vs) × (rs ≡ ss) × (bs ≡ cs)
  pub lists : (o : Turned) (n k : ℕ) (us vs : List ℕ) → turned n us ≡ o → turned k vs ≡ o → (n ≡ k) × (us ≡ vs)
