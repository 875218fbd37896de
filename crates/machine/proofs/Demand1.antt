-- Demand 1. The refusal of a list of checks is one that stands in it, and each command's refusals stand in the document's list.
-- Assumes nothing.
use Prim.Native.Nat.{ℕ}
use mathlib.Core.Bool.{Bool, true, false, not, cond, ◌&&◌}
use mathlib.Core.List.{List, [], ◌∷◌, ◌++◌, Memᴰ}
use mathlib.Core.Path.{◌≡◌, refl, sym, ap, ◌∙◌}
use native.Mathlib.Omega.{arith}
use lib.Dec.{eqb}
use borrow.Author.Tests.{eqb-true, ne_eqb}
use Rattle.std.specs.Prelude.{if◌then◌else◌, Result, Ok, Err, Option, Some, None}
use Rattle.numbers.proofs.TestLaws.{split_and}
use Rattle.answers.specs.Answers.{code_of}
use Rattle.answers.specs.declared.Error.{Error}
use Rattle.answers.proofs.AnswerLaws.{code_injective}
use Rattle.bits.specs.declared.Slot.{Slot}
use Rattle.board.specs.declared.Board.{Board}
use Rattle.endpoint.specs.Kinds.{receive_of, memory_of}
use Rattle.endpoint.specs.declared.MemoryFields.{MemoryFields}
use Rattle.table.specs.Table.{Table, endpoint_at, view}
use Rattle.slots.specs.Slots.{unread_slot}
use Rattle.sharing.specs.Sharing.{own_of}
use Rattle.sharing.specs.Note.{noted}
use Rattle.command.specs.Checks.{Check, ◌⇒◌, first, ◌then◌}
use Rattle.command.specs.Command.{Command, send◌or◌gives◌, receive◌or◌gives◌, memory◌or◌gives◌, slot◌or◌gives◌, slot◌else◌gives◌}
use Rattle.command.specs.Outcome.{Handed, handed, carried}
use Rattle.command.specs.declared.Completion.{Completion}
use Rattle.command.specs.declared.Registers.{Registers}
use Rattle.command.proofs.CheckFacts.{same}
use Rattle.command.proofs.WriteLaws.{by_answer, carried_refused, carried_accepted}
use Rattle.access.specs.Access.{range_checks, access_checks, permitted, ACCESS}
use Rattle.receive.specs.Fetch.{FETCH}
use Rattle.receive.specs.Ack.{ack_checks, ACK_MSG}
use Rattle.delivery.specs.Delivery.{message_checks, delivered, landing}
use Rattle.messages.specs.Send.{send_checks, request_of, SEND}
use Rattle.messages.specs.Reply.{from_checks, reply_checks, response_of, answer_of, REPLY}
use Rattle.machine.specs.Machine.{Opcode, op_idle, op_send, op_reply, op_read, op_write, op_fetch, op_ack, op_other, opcode_of, step_of, privileged_step, host_checks, command_of, configure_of, invalidate_of, privileged_of, respond_of, Left, left_by}
use Rattle.machine.proofs.PrivilegedLaws.{one_of_three}
use Rattle.machine.specs.Demand1.{host_refusals, access_refusals, refusals_of, configure_refusals, invalidate_refusals, privileged_refusals, From, Settles, Demand1}

-- ---- the refusal of a list of checks is one that stands in it
-- e stands in p; and so does each refusal of the list
abbrev stands : Error → List Error → Bool
stands e [] = false
stands e (d ∷ p) = cond (same e d) true (stands e p)

abbrev within : List Error → List Check → Bool
within p [] = true
within p ((b ⇒ e) ∷ l) = stands e p && within p l

stands_in : (e : Error) (p : List Error) → stands e p ≡ true → Memᴰ e p
stands_in e [] h = let z : ◌≡◌ {A = ℕ} 0 1 = cc in absurd (omega arith)
stands_in e (d ∷ p) h = go (same e d) refl h (stands_in e p)
  where
    go : (t : Bool) → same e d ≡ t → cond t true (stands e p) ≡ true → (stands e p ≡ true → Memᴰ e p) → Memᴰ e (d ∷ p)
    go true q h next = Memᴰ.head (code_injective e d (eqb-true (code_of e) (code_of d) q))
    go false q h next = Memᴰ.tail (next h)

first_from : (p : List Error) (l : List Check) → within p l ≡ true → From p (first l)
first_from p [] h = tt
first_from p ((true ⇒ e) ∷ l) h = stands_in e p (split_and (stands e p) (within p l) h).0
first_from p ((false ⇒ e) ∷ l) h = first_from p l (split_and (stands e p) (within p l) h).1

-- one list after another, a choice between two, and a search that leads to one of two commands
module _ (p : List Error) where
  within_then : (l k : List Check) → within p l ≡ true → within p k ≡ true → within p (l then k) ≡ true
  within_then [] k h i = i
  within_then ((b ⇒ e) ∷ l) k h i =
      let d = split_and (stands e p) (within p l) h in
      rw d.0 (within_then l k d.1 i)

  within_choice : (t : Bool) (l k : List Check) → within p l ≡ true → within p k ≡ true → within p (if t then l else k) ≡ true
  within_choice true l k h i = h
  within_choice false l k h i = i

  within_slot : (x : Option Slot) (k : Command) (f : ℕ → Command) → within p k.checks ≡ true → ((i : ℕ) → within p (f i).checks ≡ true)
      → within p (slot x else k gives f).checks ≡ true
  within_slot (Some s₀) k f h g = g s₀.index
  within_slot None k f h g = h

-- ---- each command's refusals stand in its list, by computation
access_within : (b : Board) (own tile : ℕ) (missing : Bool) (m : MemoryFields) (a : Registers) → within (host_refusals ++ access_refusals) (access_checks b own tile missing m a then []) ≡ true
unfolding access_checks
access_within b own tile missing m a =
    let p = host_refusals ++ access_refusals in
    within_then p (access_checks b own tile missing m a) [] (within_choice p (eqb a.size 0) [] (range_checks b tile m a) refl refl) refl

step_within : (b : Board) (t : Table) (sh bs : List ℕ) (own tile : ℕ) (op : Opcode) (ep : ℕ) (a : Registers) → within (host_refusals ++ refusals_of op) (step_of b t sh bs own tile op ep a).checks ≡ true
unfolding step_of SEND request_of send_checks message_checks delivered landing REPLY answer_of response_of from_checks reply_checks ACCESS FETCH ACK_MSG ack_checks
step_within b t sh bs own tile op_idle ep a = refl
step_within b t sh bs own tile op_send ep a = refl
step_within b t sh bs own tile op_reply ep a = refl
step_within b t sh bs own tile op_read ep a = let m = memory_of (endpoint_at t tile ep) in access_within b own tile (not (permitted false m.rw)) m a
step_within b t sh bs own tile op_write ep a = let m = memory_of (endpoint_at t tile ep) in access_within b own tile (not (permitted true m.rw)) m a
step_within b t sh bs own tile op_fetch ep a = within_slot (host_refusals ++ refusals_of op_fetch) (unread_slot (receive_of (endpoint_at t tile ep))) _ _ refl (λ i. refl)
step_within b t sh bs own tile op_ack ep a = refl
step_within b t sh bs own tile op_other ep a = refl

privileged_within : (sh : List ℕ) (tile op arg0 arg1 : ℕ) → within privileged_refusals (privileged_step sh tile op arg0 arg1).checks ≡ true
privileged_within sh tile op arg0 arg1 = one_of_three (λ k. within privileged_refusals k.checks ≡ true) sh tile op arg0 arg1 refl refl refl

-- ---- what code handed back is fixed by what is said of it
fixed : (x : ℕ) (r s : Result Completion Error) → handed x r ≡ handed x s → r ≡ s
fixed x (Ok c) (Ok d) h = ap Ok (both (ap (λ (z : Handed). z.arg1) h) (ap (λ (z : Handed). z.note) h))
  where
    both : c.arg1 ≡ d.arg1 → c.note ≡ d.note → c ≡ d
    both p q = let z : ◌≡◌ {A = Completion} (record { arg1 = c.arg1; note = c.note }) (record { arg1 = d.arg1; note = d.note }) = rw (p, q) in z
fixed x (Ok c) (Err e) h = let q = ap (λ (z : Handed). z.answer) h in cc
fixed x (Err d) (Ok c) h = let q = ap (λ (z : Handed). z.answer) h in cc
fixed x (Err d) (Err e) h = let q = ap (λ (z : Handed). z.answer) h in cc

-- ---- any command: what it settles to
module _ (x : ℕ) (ws bs : List ℕ) (k : Command) where
  pub answered : (carried x ws bs k).completion.answer ≡ first k.checks
  answered = by_answer (first k.checks) (λ h. rw (carried_accepted x ws bs k h, h)) (λ e h. rw (carried_refused x ws bs k e h, h))

  settles : (sh : List ℕ) (tile : ℕ) (l : List Error) → within l k.checks ≡ true → Settles x ws sh bs tile l k
  unfolding noted
  settles sh tile l h =
      record {
        listed = rw answered (first_from l k.checks h);
        unchanged = λ e q. ap (left_by sh tile) (carried_refused x ws bs k e (sym answered ∙ q));
        only = λ r s v w p q c d e f.
            let same = e ∙ sym f in
            (ap (λ (o : Left). o.completion) same, ap (λ (o : Left). o.words) same, ap (λ (o : Left). o.sharing) same, ap (λ (o : Left). o.bytes) same);
        only_result = fixed x;
      }

-- ---- ARG_1
abbrev is_fetch : Opcode → Bool
is_fetch op_idle = false
is_fetch op_send = false
is_fetch op_reply = false
is_fetch op_read = false
is_fetch op_write = false
is_fetch op_fetch = true
is_fetch op_ack = false
is_fetch op_other = false

-- every opcode but 5 is another's
other_opcode : (op : ℕ) → (op ≡ 5 → ⊥) → is_fetch (opcode_of op) ≡ false
unfolding opcode_of
other_opcode op d = rw (ne_eqb op 5 d) (go (eqb op 0) (eqb op 1) (eqb op 2) (eqb op 3) (eqb op 4) (eqb op 6))
  where
    go : (t₀ t₁ t₂ t₃ t₄ t₆ : Bool)
        → is_fetch (if t₀ then op_idle else if t₁ then op_send else if t₂ then op_reply else if t₃ then op_read else if t₄ then op_write else if t₆ then op_ack else op_other) ≡ false
    go true t₁ t₂ t₃ t₄ t₆ = refl
    go false true t₂ t₃ t₄ t₆ = refl
    go false false true t₃ t₄ t₆ = refl
    go false false false true t₄ t₆ = refl
    go false false false false true t₆ = refl
    go false false false false false true = refl
    go false false false false false false = refl

hands_back : (b : Board) (t : Table) (sh bs : List ℕ) (own tile : ℕ) (op : Opcode) (ep : ℕ) (a : Registers) → is_fetch op ≡ false → (step_of b t sh bs own tile op ep a).effect.hands ≡ a.arg1
unfolding step_of SEND request_of delivered landing REPLY answer_of response_of ACCESS ACK_MSG
hands_back b t sh bs own tile op_idle ep a h = refl
hands_back b t sh bs own tile op_send ep a h = refl
hands_back b t sh bs own tile op_reply ep a h = refl
hands_back b t sh bs own tile op_read ep a h = refl
hands_back b t sh bs own tile op_write ep a h = refl
hands_back b t sh bs own tile op_fetch ep a h = let z : ◌≡◌ {A = ℕ} 0 1 = cc in absurd (omega arith)
hands_back b t sh bs own tile op_ack ep a h = refl
hands_back b t sh bs own tile op_other ep a h = refl

pub arg1_back : (x : ℕ) (ws bs : List ℕ) (k : Command) → k.effect.hands ≡ x → (carried x ws bs k).completion.arg1 ≡ x
arg1_back x ws bs k h = by_answer (first k.checks) (λ e. rw (carried_accepted x ws bs k e) h) (λ d e. rw (carried_refused x ws bs k d e))

-- ---- the demand
pub demand_1 : Demand1
unfolding command_of configure_of invalidate_of privileged_of respond_of host_checks
demand_1 =
    record {
      command = λ b ws sh bs tile op ep a. settles a.arg1 ws bs _ sh tile (host_refusals ++ refusals_of (opcode_of op)) (step_within b (view ws) sh bs (own_of sh tile) tile (opcode_of op) ep a);
      configure = λ b ws sh bs tile ep w x. settles x ws bs _ sh tile configure_refusals refl;
      invalidate = λ b ws sh bs tile ep x. settles x ws bs _ sh tile invalidate_refusals refl;
      privileged = λ b ws sh bs tile op arg0 arg1. settles arg1 ws bs _ sh tile privileged_refusals (privileged_within sh tile op arg0 arg1);
      respond = λ b ws sh bs tile x. settles x ws bs _ sh tile host_refusals refl;
      arg1_back = λ b ws sh bs tile op ep a d. arg1_back a.arg1 ws bs (command_of b ws sh bs tile op ep a) (hands_back b (view ws) sh bs (own_of sh tile) tile (opcode_of op) ep a (other_opcode op d));
    }
