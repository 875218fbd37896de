-- What an accepted SEND is known to have before its delivery: each fact out of its list of checks, by its place. Assumes nothing.
use Prim.Native.Nat.{ℕ, ◌<◌, ◌≤◌}
use mathlib.Core.Bool.{Bool, true, false, not, cond, ◌&&◌}
use mathlib.Core.List.{List}
use mathlib.Core.Path.{◌≡◌, refl, sym, ◌∙◌}
use native.Mathlib.Omega.{arith}
use lib.Dec.{eqb}
use borrow.Author.Tests.{eqb-true, eqb-false}
use Rattle.numbers.specs.Tests.{All}
use Rattle.numbers.proofs.SumLaws.{above_false}
use Rattle.std.specs.Prelude.{Result, Ok}
use Rattle.answers.specs.Answers.{Answer}
use Rattle.answers.specs.declared.Error.{Error}
use Rattle.board.specs.Board.{size_of, bytes_of}
use Rattle.board.specs.declared.Board.{Board}
use Rattle.endpoint.specs.Acceptable.{acceptable}
use Rattle.endpoint.specs.Kinds.{is_invalid, is_receive, receive_of, no_receive}
use Rattle.endpoint.specs.Layout.{fit}
use Rattle.endpoint.specs.declared.Endpoint.{Endpoint}
use Rattle.endpoint.specs.declared.Endpoint.TheVariants.{Invalid, Send, Receive, Memory}
use Rattle.endpoint.specs.declared.SendFields.{SendFields}
use Rattle.endpoint.proofs.EndpointLaws.{accepted}
use Rattle.table.specs.Table.{endpoint_at, view}
use Rattle.table.proofs.TableLaws.{live}
use Rattle.command.specs.Checks.{first}
use Rattle.command.specs.Checked.{Checked}
use Rattle.command.specs.Local.{outside}
use Rattle.command.specs.declared.Registers.{Registers}
use Rattle.command.proofs.CheckFacts.{passed}
use Rattle.command.proofs.CheckedLaws.{live_send, read_acceptable}
use Rattle.delivery.specs.Header.{header_fields}
use Rattle.delivery.specs.Delivery.{message_checks}
use Rattle.delivery.specs.Target.{target_of}
use Rattle.delivery.specs.Stowing.{Stowed}
use Rattle.delivery.specs.declared.Header.{Header}
use Rattle.delivery.specs.declared.Target.{Target}
use Rattle.messages.specs.Send.{send_checks, sep_of, rsize_of, request}
use Rattle.messages.specs.Ready.{Sendable}
use Rattle.messages.proofs.MessageLaws.{short, tile_small, stowable}

-- ---- the endpoint that arg0 names
receive_live : (e : Endpoint) → is_receive e ≡ true → is_invalid e ≡ false
receive_live Invalid h = sym h
receive_live (Send s) h = refl
receive_live (Receive r) h = refl
receive_live (Memory m) h = refl

-- arg0 is 65535, or names a receive endpoint and so a number below 64
named : (x y : Bool) (arg0 : ℕ) → eqb arg0 65535 ≡ x → (not x && not y) ≡ false → (y ≡ true → arg0 < 64) → arg0 < 65536
named true y arg0 e h l = omega (arith, eqb-true arg0 65535 e)
named false true arg0 e h l = omega (arith, l refl)
named false false arg0 e h l = let z : ◌≡◌ {A = ℕ} 0 1 = cc in absurd (omega arith)

slot_size_small : (m : ℕ) (e : Endpoint) → acceptable m e ≡ true → (receive_of e).slot_size ≤ 11
unfolding no_receive
slot_size_small m Invalid h = omega arith
slot_size_small m (Send s) h = omega arith
slot_size_small m (Receive r) h = (accepted m r h).sizes_hold.1.1.0
slot_size_small m (Memory x) h = omega arith

rsize_small : (b : Board) (ws : List ℕ) (tile : ℕ) (a : Registers) → Checked b ws tile → rsize_of (view ws) tile a ≤ 11
unfolding rsize_of
rsize_small b ws tile a c = go (eqb a.arg0 65535)
  where
    go : (x : Bool) → (cond x 5 ((receive_of (endpoint_at (view ws) tile a.arg0)).slot_size)) ≤ 11
    go true = omega arith
    go false = slot_size_small (size_of b tile) (endpoint_at (view ws) tile a.arg0) (read_acceptable b ws tile tile a.arg0 c c.there)

-- ---- the checks have passed
pub sendable : (n : Answer) (b : Board) (ws : List ℕ) (own tile ep : ℕ) (s : SendFields) (a : Registers) (o : Endpoint) → Checked b ws tile
    → n ≡ first (send_checks b (view ws) own tile s a) → n ≡ Ok tt → o ≡ endpoint_at (view ws) tile ep → o ≡ Send s → Sendable b (view ws) tile ep s a
unfolding send_checks message_checks outside
sendable n b ws own tile ep s a o c e h q p =
    let ok = passed (send_checks b (view ws) own tile s a) (sym e ∙ h) in
    let back = endpoint_at (view ws) tile a.arg0 in
    record {
      from = live_send o (view ws) tile ep s q p;
      credit = omega (arith, eqb-false s.cur_crd 0 (ok 8));
      rep_small = named (eqb a.arg0 65535) (is_receive back) a.arg0 refl (ok 6) (λ y. live (view ws) tile a.arg0 (receive_live back y));
      rsize_small = rsize_small b ws tile a c;
      short = short a.size s.msg_sz (ok 2) (ok 3);
      local_in = above_false _ _ (ok 7);
    }

-- ---- the header fits its bits
sep_small : (ep : ℕ) (s : SendFields) → ep < 64 → sep_of ep s < 65536
unfolding sep_of
sep_small ep s l = go (eqb s.cur_crd 63)
  where
    go : (x : Bool) → cond x 65535 ep < 65536
    go true = omega arith
    go false = omega arith

request_fits : (b : Board) (ws : List ℕ) (tile ep : ℕ) (s : SendFields) (a : Registers) → Checked b ws tile → Sendable b (view ws) tile ep s a → All (fit (header_fields (request (view ws) tile ep s a)))
unfolding request
request_fits b ws tile ep s a c z = omega (arith, tile_small b ws tile c, sep_small ep s z.from, z.rsize_small, z.short, z.rep_small)

-- what storing the message asks
pub stow_request : (b : Board) (ws sh : List ℕ) (n tile ep : ℕ) (s : SendFields) (a : Registers) (q : Result Target Error) (t : Target) (h : Header) → Checked b ws tile → n ≡ bytes_of b
    → Sendable b (view ws) tile ep s a → q ≡ target_of b (view ws) sh s a → q ≡ Ok t → h ≡ request (view ws) tile ep s a → Stowed b n tile a s t.receiver t.slot h
stow_request b ws sh n tile ep s a q t h c l z e p k = stowable b ws sh tile s a q t c e p h n l z.local_in (rw k (request_fits b ws tile ep s a c z))
