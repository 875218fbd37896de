-- Words and a list: each way back to the other. Assumes nothing.
use Prim.Native.Nat.{ℕ}
use mathlib.Core.Bool.{Bool, true, false, ◌&&◌}
use mathlib.Core.List.{List}
use mathlib.Core.Path.{◌≡◌, refl, sym, ap, ◌∙◌}
use native.Mathlib.Omega.{arith}
use borrow.Author.Tests.{eq-eqb}
use lib.Dec.{eqb}
use lib.ListN.{length}
use Rattle.std.specs.Prelude.{if◌then◌else◌, Option, Some, None, Result, Ok, Err}
use Rattle.numbers.specs.Tests.{All}
use Rattle.answers.specs.Answers.{code_of}
use Rattle.answers.specs.declared.Error.{Error}
use Rattle.answers.specs.declared.Error.TheVariants.{BadMachine, BadConfig}
use Rattle.board.specs.Board.{memory_allowed}
use Rattle.endpoint.specs.Endpoint.{words_of}
use Rattle.endpoint.specs.Acceptable.{fits, acceptable}
use Rattle.endpoint.specs.Turning.{unpack_of, pack_of}
use Rattle.endpoint.specs.declared.Words.{Words}
use Rattle.endpoint.specs.declared.Endpoint.{Endpoint}
use Rattle.endpoint.proofs.EndpointLaws.{words_eq, fits_true}
use Rattle.endpoint.proofs.RoundTrip.{round_trip}
use Rattle.lists.specs.Fields.{field_values, endpoint_of, pack_named, pack_list}
use Rattle.lists.proofs.Inverse.{eleven, inverse}
use Rattle.tcu.specs.Interface.{list_of, Returned, returned, Turned, turned, fields_in_c, unpack_in_c, words_in_c, pack_in_c}
use Rattle.tcu.specs.RoundTrip as statements
use Rattle.tcu.proofs.InterfaceLaws.{no_zero}

-- ---- what the answers tell
abbrev numbered : Turned → ℕ
numbered t = t.number

abbrev listed : Turned → List ℕ
listed t = t.list

fields_from : (l f : List ℕ) (u : Result Endpoint Error) → fields_in_c l u ≡ turned 0 f → (e : Endpoint) × (u ≡ Ok e) × (field_values e ≡ f)
unfolding fields_in_c turned
fields_from l f (Ok e) h = (e, refl, ap listed h)
fields_from l f (Err x) h = absurd (no_zero x (ap numbered h))

words_from : (ws : List ℕ) (w : Words) (p : Result Words Error) → words_in_c ws p ≡ turned 0 (list_of w) → p ≡ Ok w
unfolding words_in_c turned
words_from ws w (Ok v) h =
    let l : list_of v ≡ list_of w = ap listed h in
    ap Ok (words_eq (cc) (cc) (cc))
words_from ws w (Err x) h = absurd (no_zero x (ap numbered h))

long_from : (b : Bool) (ws : List ℕ) (t : Turned) (k : List ℕ) → (if b then t else turned (code_of BadMachine) ws) ≡ turned 0 k → (b ≡ true) × (t ≡ turned 0 k)
unfolding turned
long_from true ws t k h = (refl, h)
long_from false ws t k h = absurd (no_zero BadMachine (ap numbered h))

-- both tests of a choice between words and refusals held
chosen_words : (b : Bool) (p : Result Words Error) (x : Error) (w : Words) → (if b then p else Err x) ≡ Ok w → (b ≡ true) × (p ≡ Ok w)
chosen_words true p x w h = (refl, h)
chosen_words false p x w h = let z : ◌≡◌ {A = ℕ} 0 1 = cc in absurd (omega arith)

named_words : (m : ℕ) (n : Option Endpoint) (w : Words) → pack_named m n ≡ Ok w → (e : Endpoint) × (n ≡ Some e) × (pack_of m e ≡ Ok w)
unfolding pack_named
named_words m (Some e) w h = (e, refl, h)
named_words m None w h = let z : ◌≡◌ {A = ℕ} 0 1 = cc in absurd (omega arith)

pack_fits : (m : ℕ) (e : Endpoint) (w : Words) → pack_of m e ≡ Ok w → (memory_allowed m ≡ true) × All (fits e)
unfolding pack_of
pack_fits m e w h =
    let p = chosen_words (memory_allowed m) _ BadMachine w h in
    let q = chosen_words (acceptable m e) (Ok (words_of e)) BadConfig w p.1 in
    (p.0, fits_true m e q.0)

-- ---- the round trip
there : (m : ℕ) (w : Words) (f l ws : List ℕ) → length l ≡ 11 → length ws ≡ 3 → unpack_in_c m w l ≡ turned 0 f → pack_in_c m f ws ≡ turned 0 (list_of w)
unfolding unpack_in_c pack_in_c pack_list pack_named words_in_c
there m w f l ws long three h =
    let u = fields_from l f (unpack_of m w) (long_from (eqb (length l) 11) l _ f h).1 in
    let e = u.0 in
    let p = (round_trip m w e).0 u.1 in
    let q = pack_fits m e w p in
    let n : length f ≡ 11 = rw (← u.2) (eleven e) in
    rw (eq-eqb _ _ n, eq-eqb _ _ three, q.0, (inverse f e).1 (u.2, q.1), p)

back : (m : ℕ) (w : Words) (f l ws : List ℕ) → length l ≡ 11 → pack_in_c m f ws ≡ turned 0 (list_of w) → unpack_in_c m w l ≡ turned 0 f
unfolding unpack_in_c pack_in_c pack_list fields_in_c
back m w f l ws long h =
    let p = words_from ws w (pack_list m f) (long_from (eqb (length f) 11 && eqb (length ws) 3) ws _ (list_of w) h).1 in
    let q = named_words m (endpoint_of f) w (chosen_words (memory_allowed m) _ BadMachine w p).1 in
    let e = q.0 in
    rw (eq-eqb _ _ long, (round_trip m w e).1 q.2, ((inverse f e).0 q.1).0)

pub round_trip_in_c : statements.RoundTrip
round_trip_in_c m w f l ws long three = (there m w f l ws long three, back m w f l ws long)

pub only : statements.Only
unfolding returned turned
only =
    record {
      calls = λ o n k x y us vs rs ss bs cs p q.
          let e = p ∙ sym q in
          (ap (λ (r : Returned). r.number) e, ap (λ (r : Returned). r.arg1) e, ap (λ (r : Returned). r.words) e, ap (λ (r : Returned). r.sharing) e, ap (λ (r : Returned). r.bytes) e);
      lists = λ o n k us vs p q. (ap numbered (p ∙ sym q), ap listed (p ∙ sym q));
    }
