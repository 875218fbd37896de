-- What an accepted REPLY is known to have before its delivery, each fact by its check's place, and the rules of its writes.
-- Assumes nothing.
use Prim.Native.Nat.{ℕ, ◌<◌}
use mathlib.Core.Bool.{false}
use mathlib.Core.List.{List}
use mathlib.Core.Path.{◌≡◌, sym, ap, ◌∙◌}
use native.Mathlib.Omega.{arith}
use borrow.Author.Tests.{ne_eqb, leb-false}
use Rattle.numbers.specs.Tests.{All}
use Rattle.numbers.proofs.SumLaws.{above_false}
use Rattle.std.specs.Prelude.{Result, Ok}
use Rattle.answers.specs.Answers.{Answer}
use Rattle.answers.specs.declared.Error.{Error}
use Rattle.board.specs.Board.{size_of, bytes_of}
use Rattle.board.specs.declared.Board.{Board}
use Rattle.endpoint.specs.Acceptable.{acceptable}
use Rattle.endpoint.specs.Layout.{fit}
use Rattle.endpoint.specs.declared.Endpoint.{Endpoint}
use Rattle.endpoint.specs.declared.Endpoint.TheVariants.{Send}
use Rattle.endpoint.specs.declared.SendFields.{SendFields}
use Rattle.endpoint.specs.declared.ReceiveFields.{ReceiveFields}
use Rattle.endpoint.proofs.EndpointLaws.{fits_true}
use Rattle.table.specs.Table.{endpoint_at, view}
use Rattle.slots.specs.Slots.{slots_of, slot_named, range_past, Usable}
use Rattle.slots.proofs.SlotFacts.{few_slots}
use Rattle.command.specs.Checks.{first}
use Rattle.command.specs.Checked.{Checked}
use Rattle.command.specs.Local.{outside}
use Rattle.command.specs.declared.Registers.{Registers}
use Rattle.command.proofs.CheckFacts.{passed}
use Rattle.command.proofs.CheckedLaws.{read_acceptable}
use Rattle.delivery.specs.Header.{header_fields}
use Rattle.delivery.specs.Delivery.{message_checks}
use Rattle.delivery.specs.Target.{target_of}
use Rattle.delivery.specs.Stowing.{Stowed}
use Rattle.delivery.specs.declared.Header.{Header}
use Rattle.delivery.specs.declared.Target.{Target}
use Rattle.messages.specs.Reply.{from_checks, credit_bad, reply_checks, response}
use Rattle.messages.specs.Ready.{Replyable, Creditable, Named}
use Rattle.messages.proofs.MessageLaws.{short, tile_small, stowable}

-- ---- the checks of the receive endpoint have passed
pub named : (n : Answer) (own ep i : ℕ) (g : ReceiveFields) (a : Registers) → Usable g → ep < 64 → n ≡ first (from_checks own g a) → n ≡ Ok tt → i ≡ slot_named g a.arg0 → Named ep g i
unfolding from_checks range_past
named n own ep i g a u l e h k =
    let ok = passed (from_checks own g a) (sym e ∙ h) in
    let low : i < slots_of g = rw k (leb-false (slots_of g) (slot_named g a.arg0) (ok 3)) in
    record { from = l; slot = few_slots g i u low; reach = omega (arith, above_false _ _ (ok 1), low) }

-- ---- and those of the reply endpoint
credit_in : (s : SendFields) → credit_bad s ≡ false → (s.crd_ep ≡ 65535 → ⊥) → s.crd_ep < 64
unfolding credit_bad
credit_in s h d = leb-false 64 s.crd_ep (rw (ne_eqb s.crd_ep 65535 d) at h)

-- crd_ep of a send endpoint that was read fits its bits
crd_small : (b : Board) (ws : List ℕ) (tile ep : ℕ) (s : SendFields) (o : Endpoint) → Checked b ws tile → o ≡ endpoint_at (view ws) tile ep → o ≡ Send s → s.crd_ep < 65536
crd_small b ws tile ep s o c q p =
    let ok = ap (acceptable (size_of b tile)) (sym p ∙ q) ∙ read_acceptable b ws tile tile ep c c.there in
    (fits_true (size_of b tile) (Send s) ok).1.1.1.1.1.0

pub replyable : (n : Answer) (b : Board) (ws : List ℕ) (tile ep i at : ℕ) (g : ReceiveFields) (s : SendFields) (a : Registers) (o : Endpoint) → Checked b ws tile → Named ep g i
    → n ≡ first (reply_checks b tile s a) → n ≡ Ok tt → o ≡ endpoint_at (view ws) tile at → o ≡ Send s → Replyable b tile ep g i s a
unfolding reply_checks message_checks outside
replyable n b ws tile ep i at g s a o c z e h y p =
    let ok = passed (reply_checks b tile s a) (sym e ∙ h) in
    record {
      from = z.from;
      slot = z.slot;
      reach = z.reach;
      credit_small = crd_small b ws tile at s o c y p;
      credit_in = credit_in s (ok 1);
      short = short a.size s.msg_sz (ok 2) (ok 3);
      local_in = above_false _ _ (ok 6);
    }

-- ---- the header fits its bits, and what storing the message asks
response_fits : (b : Board) (ws : List ℕ) (tile ep i : ℕ) (g : ReceiveFields) (s : SendFields) (a : Registers) → Checked b ws tile → Replyable b tile ep g i s a
    → All (fit (header_fields (response tile ep s a)))
unfolding response
response_fits b ws tile ep i g s a c z = omega (arith, tile_small b ws tile c, z.from, z.short, z.credit_small)

pub stow_response : (b : Board) (ws sh : List ℕ) (n tile ep i : ℕ) (g : ReceiveFields) (s : SendFields) (a : Registers) (q : Result Target Error) (t : Target) (h : Header)
    → Checked b ws tile → n ≡ bytes_of b → Replyable b tile ep g i s a → q ≡ target_of b (view ws) sh s a → q ≡ Ok t → h ≡ response tile ep s a → Stowed b n tile a s t.receiver t.slot h
stow_response b ws sh n tile ep i g s a q t h c m z e p k = stowable b ws sh tile s a q t c e p h n m z.local_in (rw k (response_fits b ws tile ep i g s a c z))

-- ---- the credit
pub may_credit : (b : Board) (tile ep i : ℕ) (g : ReceiveFields) (s : SendFields) (a : Registers) (h : Header) → Replyable b tile ep g i s a → h ≡ response tile ep s a → Creditable h.rep
unfolding response
may_credit b tile ep i g s a h z k = record { there = λ d. rw k (z.credit_in (λ w. d (rw k w))) }
