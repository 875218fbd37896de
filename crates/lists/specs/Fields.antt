-- An endpoint as eleven numbers, as `include/tcu.h` names their places: the kind (INVALID 0, SEND 1, RECEIVE 2, MEMORY 3), the fields
-- of that kind in order, and zeros. Read both ways: a list names an endpoint when it is that endpoint's own list. That the kind is at
-- most 3, that no field is too large for its bits, that reply is 0 or 1 and that unused numbers are zero is thereby said.
use Rattle.std.specs.Prelude.{ℕ, ◌%◌, ◌^◌, Bool, List, [], ◌∷◌, Option, Some, None, Result, Err, if◌then◌else◌, eqb, get_or}
use Rattle.std.specs.Cmp.Lexicographic.{pointwise}
use Rattle.answers.specs.declared.Error.{Error}
use Rattle.answers.specs.declared.Error.TheVariants.{BadMachine, BadConfig}
use Rattle.board.specs.Board.{memory_allowed}
use Rattle.endpoint.specs.Layout.{flag}
use Rattle.endpoint.specs.Turning.{pack_of}
use Rattle.endpoint.specs.declared.Words.{Words}
use Rattle.endpoint.specs.declared.SendFields.{SendFields}
use Rattle.endpoint.specs.declared.ReceiveFields.{ReceiveFields}
use Rattle.endpoint.specs.declared.MemoryFields.{MemoryFields}
use Rattle.endpoint.specs.declared.Endpoint.{Endpoint}
use Rattle.endpoint.specs.declared.Endpoint.TheVariants.{Invalid, Send, Receive, Memory}

-- ---- an endpoint into numbers
abbrev pub field_values : Endpoint → List ℕ
field_values Invalid = 0 ∷ 0 ∷ 0 ∷ 0 ∷ 0 ∷ 0 ∷ 0 ∷ 0 ∷ 0 ∷ 0 ∷ 0 ∷ []
field_values (Send s) =
    1 ∷ s.act ∷ s.cur_crd ∷ s.max_crd ∷ s.msg_sz ∷ s.crd_ep ∷ flag s.reply ∷ s.tgt_ep ∷ s.tgt_tile ∷ s.tgt_chip ∷ s.label ∷ []
field_values (Receive r) =
    2 ∷ r.act ∷ r.rpl_eps ∷ r.slots ∷ r.slot_size ∷ r.wpos ∷ r.rpos ∷ r.buffer ∷ r.occupied ∷ r.unread ∷ 0 ∷ []
field_values (Memory m) = 3 ∷ m.act ∷ m.rw ∷ m.tile ∷ m.chip ∷ m.addr ∷ m.size ∷ 0 ∷ 0 ∷ 0 ∷ 0 ∷ []

-- ---- numbers into an endpoint: each field is cut to its bits
-- the lowest bits of number i of a list
abbrev pub cut : List ℕ → ℕ → ℕ → ℕ
cut l i bits = get_or l i 0 % 2 ^ bits

abbrev pub send_at : List ℕ → SendFields
send_at l =
    record {
      act = cut l 1 16;
      cur_crd = cut l 2 6;
      max_crd = cut l 3 6;
      msg_sz = cut l 4 6;
      crd_ep = cut l 5 16;
      reply = eqb (get_or l 6 0) 1;
      tgt_ep = cut l 7 16;
      tgt_tile = cut l 8 8;
      tgt_chip = cut l 9 6;
      label = cut l 10 64;
    }

abbrev pub receive_at : List ℕ → ReceiveFields
receive_at l =
    record {
      act = cut l 1 16;
      rpl_eps = cut l 2 16;
      slots = cut l 3 6;
      slot_size = cut l 4 6;
      wpos = cut l 5 6;
      rpos = cut l 6 6;
      buffer = cut l 7 64;
      occupied = cut l 8 32;
      unread = cut l 9 32;
    }

abbrev pub memory_at : List ℕ → MemoryFields
memory_at l = record { act = cut l 1 16; rw = cut l 2 2; tile = cut l 3 8; chip = cut l 4 6; addr = cut l 5 64; size = cut l 6 64 }

unfoldable pub read_list : List ℕ → Endpoint
read_list l =
    if eqb (get_or l 0 0) 1 then Send (send_at l) else
    if eqb (get_or l 0 0) 2 then Receive (receive_at l) else
    if eqb (get_or l 0 0) 3 then Memory (memory_at l) else Invalid

-- ---- the endpoint that a list names
abbrev pub same_list : List ℕ → List ℕ → Bool
same_list k l = pointwise eqb k l

unfoldable pub endpoint_of : List ℕ → Option Endpoint
endpoint_of l = if same_list (field_values (read_list l)) l then Some (read_list l) else None

-- the eleven numbers l into words: BAD_CONFIG where they name no endpoint
unfoldable pub pack_named : ℕ → Option Endpoint → Result Words Error
pack_named m (Some e) = pack_of m e
pack_named m None = Err BadConfig

unfoldable pub pack_list : ℕ → List ℕ → Result Words Error
pack_list m l = if memory_allowed m then pack_named m (endpoint_of l) else Err BadMachine
