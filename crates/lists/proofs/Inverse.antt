-- A list and an endpoint: each way back to the other. Assumes nothing.
use Prim.Native.Nat.{ℕ, ◌%◌, ◌^◌}
use mathlib.Core.Bool.{Bool, true, false}
use mathlib.Core.List.{List, [], ◌∷◌}
use mathlib.Core.Path.{◌≡◌, refl}
use native.Mathlib.Omega.{arith}
use lib.Dec.{eqb}
use lib.ListN.{length, get_or}
use Rattle.std.specs.Prelude.{if◌then◌else◌, Some, None}
use lib.Pointwise.{bytes_decides}
use Rattle.numbers.specs.Tests.{Test, All}
use Rattle.numbers.specs.Tests.Test.{equal}
use Rattle.endpoint.specs.Layout.{flag}
use Rattle.endpoint.specs.Acceptable.{fits}
use Rattle.endpoint.specs.declared.SendFields.{SendFields}
use Rattle.endpoint.specs.declared.ReceiveFields.{ReceiveFields}
use Rattle.endpoint.specs.declared.MemoryFields.{MemoryFields}
use Rattle.endpoint.specs.declared.Endpoint.{Endpoint}
use Rattle.endpoint.specs.declared.Endpoint.TheVariants.{Invalid, Send, Receive, Memory}
use Rattle.endpoint.proofs.EndpointLaws.{flag_lt}
use Rattle.lists.specs.Fields.{field_values, send_at, receive_at, memory_at, read_list, same_list, endpoint_of}
use Rattle.lists.specs.Inverse.{Inverse}

-- ---- what is read from a list fits, and an endpoint that fits is read back from its list
read_fits : (l : List ℕ) → All (fits (read_list l))
unfolding read_list
read_fits l = go (eqb (get_or l 0 0) 1) (eqb (get_or l 0 0) 2) (eqb (get_or l 0 0) 3)
  where
    go : (a b c : Bool) → All (fits (if a then Send (send_at l) else if b then Receive (receive_at l) else if c then Memory (memory_at l) else Invalid))
    go true b c = omega (arith, flag_lt (eqb (get_or l 6 0) 1))
    go false true c = omega arith
    go false false true = omega arith
    go false false false = tt

flag_back : (b : Bool) → eqb (flag b) 1 ≡ b
flag_back true = refl
flag_back false = refl

-- a value that its bits hold is not cut
abbrev kept : ℕ → ℕ → Test
kept bits x = equal (x % 2 ^ bits) x

send_kept : (s : SendFields) → All (fits (Send s))
    → All (kept 16 s.act ∷ kept 6 s.cur_crd ∷ kept 6 s.max_crd ∷ kept 6 s.msg_sz ∷ kept 16 s.crd_ep ∷ kept 16 s.tgt_ep ∷ kept 8 s.tgt_tile
    ∷ kept 6 s.tgt_chip ∷ kept 64 s.label ∷ [])
send_kept s h = omega arith

receive_kept : (r : ReceiveFields) → All (fits (Receive r))
    → All (kept 16 r.act ∷ kept 16 r.rpl_eps ∷ kept 6 r.slots ∷ kept 6 r.slot_size ∷ kept 6 r.wpos ∷ kept 6 r.rpos ∷ kept 64 r.buffer
    ∷ kept 32 r.occupied ∷ kept 32 r.unread ∷ [])
receive_kept r h = omega arith

memory_kept : (x : MemoryFields) → All (fits (Memory x))
    → All (kept 16 x.act ∷ kept 2 x.rw ∷ kept 8 x.tile ∷ kept 6 x.chip ∷ kept 64 x.addr ∷ kept 64 x.size ∷ [])
memory_kept x h = omega arith

read_back : (e : Endpoint) → All (fits e) → read_list (field_values e) ≡ e
unfolding read_list
read_back Invalid h = refl
read_back (Send s) h =
    let p = send_kept s h in
    let q = p.1.1.1.1.1 in
    (λ i. Send (record {
      act = p.0 i;
      cur_crd = p.1.0 i;
      max_crd = p.1.1.0 i;
      msg_sz = p.1.1.1.0 i;
      crd_ep = p.1.1.1.1.0 i;
      reply = flag_back s.reply i;
      tgt_ep = q.0 i;
      tgt_tile = q.1.0 i;
      tgt_chip = q.1.1.0 i;
      label = q.1.1.1.0 i;
    }))
read_back (Receive r) h =
    let p = receive_kept r h in
    let q = p.1.1.1.1.1 in
    (λ i. Receive (record {
      act = p.0 i;
      rpl_eps = p.1.0 i;
      slots = p.1.1.0 i;
      slot_size = p.1.1.1.0 i;
      wpos = p.1.1.1.1.0 i;
      rpos = q.0 i;
      buffer = q.1.0 i;
      occupied = q.1.1.0 i;
      unread = q.1.1.1.0 i;
    }))
read_back (Memory x) h =
    let p = memory_kept x h in
    (λ i. Memory (record {
      act = p.0 i;
      rw = p.1.0 i;
      tile = p.1.1.0 i;
      chip = p.1.1.1.0 i;
      addr = p.1.1.1.1.0 i;
      size = p.1.1.1.1.1.0 i;
    }))

pub eleven : (e : Endpoint) → length (field_values e) ≡ 11
eleven Invalid = refl
eleven (Send s) = refl
eleven (Receive r) = refl
eleven (Memory x) = refl

named_from : (b : Bool) (x e : Endpoint) → (if b then Some x else None) ≡ Some e → (b ≡ true) × (x ≡ e)
named_from true x e h = (refl, cc)
named_from false x e h = let z : ◌≡◌ {A = ℕ} 0 1 = cc in absurd (omega arith)

pub inverse : Inverse
unfolding endpoint_of
inverse l e = (
  (λ h.
      let p = named_from (same_list (field_values (read_list l)) l) (read_list l) e h in
      rw (← p.1) ((bytes_decides (field_values (read_list l)) l).0 p.0, read_fits l)),
  (λ h. rw (← h.0, read_back e h.1, (bytes_decides (field_values e) (field_values e)).1 refl)),
)
