-- Document 01, "Sound wiring", as a test of the table t of n tiles: it is true exactly where `Sound` holds. The wiring check gives
-- BAD_MACHINE or yes or no.
use Rattle.std.specs.Prelude.{ℕ, ◌+◌, ◌*◌, ◌<◌, Bool, true, not, ◌&&◌, ◌||◌, List, Result, Ok, Err, if◌then◌else◌, ◌↔◌, ◌≡◌, eqb, leb, ltb}
use Rattle.answers.specs.declared.Error.{Error}
use Rattle.answers.specs.declared.Error.TheVariants.{BadMachine}
use Rattle.bits.specs.Search.{all}
use Rattle.board.specs.declared.Board.{Board}
use Rattle.endpoint.specs.Kinds.{is_invalid, is_receive}
use Rattle.endpoint.specs.declared.SendFields.{SendFields}
use Rattle.endpoint.specs.declared.ReceiveFields.{ReceiveFields}
use Rattle.endpoint.specs.declared.Endpoint.{Endpoint}
use Rattle.endpoint.specs.declared.Endpoint.TheVariants.{Invalid, Send, Receive, Memory}
use Rattle.table.specs.Table.{Table, endpoint_at, view}
use Rattle.slots.specs.Slots.{slots_of}
use Rattle.machine.specs.Machine.{machine_right}
use Rattle.wiring.specs.Credits.{promised}
use Rattle.wiring.specs.Sound.{beside, Sound}

-- ---- a send endpoint: no reply mark, cur_crd equal to max_crd, at most 62
abbrev pub whole : SendFields → Bool
whole s = not s.reply && (eqb s.cur_crd s.max_crd && leb s.max_crd 62)

-- and it aims at an existing receive endpoint
abbrev pub on_board : ℕ → SendFields → Bool
on_board n s = eqb s.tgt_chip 0 && ltb s.tgt_tile n

unfoldable pub sender_sound : ℕ → Table → SendFields → Bool
sender_sound n t s = whole s && (on_board n s && is_receive (endpoint_at t s.tgt_tile s.tgt_ep))

-- ---- a reply range: one of two ends before the other starts
abbrev pub disjoint : ReceiveFields → ReceiveFields → Bool
disjoint g h = leb (g.rpl_eps + slots_of g) h.rpl_eps || leb (h.rpl_eps + slots_of h) g.rpl_eps

-- the range of h, if it has one, shares no endpoint with that of g
unfoldable pub clear_of : ReceiveFields → ReceiveFields → Bool
clear_of g h = eqb h.rpl_eps 65535 || disjoint g h

-- nor does that of an endpoint of any kind: only a receive endpoint has one
unfoldable pub apart_from : ReceiveFields → Endpoint → Bool
apart_from g Invalid = true
apart_from g (Send s) = true
apart_from g (Receive h) = clear_of g h
apart_from g (Memory m) = true

-- endpoint i of the range of g, which stands at place q, is INVALID
abbrev pub bare_at : Table → ℕ → ReceiveFields → ℕ → Bool
bare_at t q g i = is_invalid (t (beside q (g.rpl_eps + i)))

-- endpoint e of the same tile is g itself or has a range apart from it
unfoldable pub apart_at : Table → ℕ → ReceiveFields → ℕ → Bool
apart_at t q g e = eqb (beside q e) q || apart_from g (t (beside q e))

-- so is every endpoint of the tile
unfoldable pub range_apart : Table → ℕ → ReceiveFields → Bool
range_apart t q g = all (apart_at t q g) 64

-- it ends at or below 64, holds only INVALID endpoints, and shares none with another range on its tile; 65535 has no range
unfoldable pub range_sound : Table → ℕ → ReceiveFields → Bool
range_sound t q g =
    eqb g.rpl_eps 65535 || (leb (g.rpl_eps + slots_of g) 64 && (all (bare_at t q g) (slots_of g) && range_apart t q g))

-- ---- a receive endpoint: no occupied bit; its range; and the max_crd aimed at it sum to at most 2^slots
unfoldable pub receiver_sound : ℕ → Table → ℕ → ReceiveFields → Bool
receiver_sound n t q g = eqb g.occupied 0 && (range_sound t q g && leb (promised (n * 64) t q) (slots_of g))

-- ---- the table
unfoldable pub endpoint_sound : ℕ → Table → ℕ → Endpoint → Bool
endpoint_sound n t q Invalid = true
endpoint_sound n t q (Send s) = sender_sound n t s
endpoint_sound n t q (Receive g) = receiver_sound n t q g
endpoint_sound n t q (Memory m) = true

abbrev pub sound_at : ℕ → Table → ℕ → Bool
sound_at n t q = endpoint_sound n t q (t q)

unfoldable pub sound : ℕ → Table → Bool
sound n t = all (sound_at n t) (n * 64)

-- ---- what the host gets
unfoldable pub wiring_of : Board → List ℕ → List ℕ → List ℕ → Result Bool Error
wiring_of b ws sh bs = if machine_right b ws sh bs then Ok (sound b.tiles (view ws)) else Err BadMachine

-- It says yes exactly for sound wiring.
unfoldable pub YesExactly : Type 0
YesExactly =
    (b : Board) (ws sh bs : List ℕ) → (wiring_of b ws sh bs ≡ Ok true) ↔ ((machine_right b ws sh bs ≡ true) × Sound b.tiles (view ws))

-- ---- what the code asks of an endpoint that it read: the field of 6 bits is below 64
abbrev pub Low : Endpoint → Type 0
Low e = (g : ReceiveFields) → e ≡ Receive g → g.slots < 64
