-- A right machine stays right under every call, whatever is answered; and the table that its words hold changes as the command's
-- writes say. Assumes nothing.
use Prim.Native.Nat.{ℕ, ◌*◌, ◌/◌, ◌<◌}
use mathlib.Core.Bool.{true, false, ◌&&◌}
use mathlib.Core.List.{List, [], ◌∷◌}
use mathlib.Core.Path.{◌≡◌, sym, ◌∙◌}
use native.Mathlib.Omega.{arith}
use lib.ListN.{length}
use borrow.Author.Tests.{leb-false, not-false}
use Rattle.numbers.proofs.TestLaws.{split_and}
use Rattle.std.specs.Prelude.{Ok}
use Rattle.board.specs.Board.{allowed, size_of, sizes_right}
use Rattle.board.specs.declared.Board.{Board}
use Rattle.board.proofs.BoardLaws.{bounds, right}
use Rattle.endpoint.specs.Acceptable.{acceptable_words}
use Rattle.endpoint.specs.declared.Words.{Words}
use Rattle.endpoint.proofs.RoundTrip.{words_back}
use Rattle.table.specs.Table.{place, view}
use Rattle.table.specs.Good.{memory_at, good_table}
use Rattle.table.proofs.TableLaws.{good_at}
use Rattle.sharing.specs.Sharing.{Shared, sharing_good, own_of}
use Rattle.sharing.specs.Note.{noted, NoteFits}
use Rattle.sharing.proofs.NoteLaws.{shared_noted}
use Rattle.command.specs.Checks.{Check, ◌⇒◌, first, ◌then◌}
use Rattle.command.specs.Command.{Command}
use Rattle.command.specs.Outcome.{carried}
use Rattle.command.specs.declared.Registers.{Registers}
use Rattle.command.proofs.CheckFacts.{passed}
use Rattle.command.proofs.WriteLaws.{Fits, by_answer, carried_refused, carried_accepted, length_words, length-bytes, good_words, view_words}
use Rattle.access.specs.Access.{ACCESS}
use Rattle.machine.specs.Machine.{Opcode, op_idle, op_send, op_reply, op_read, op_write, op_fetch, op_ack, op_other, opcode_of, step_of, machine_right, host_checks, command_of, configure_of, invalidate_of, privileged_of, respond_of, left_by}
use Rattle.machine.specs.Kept.{Stays, after, Keeps, Follows, EveryCall}
use Rattle.command.specs.Narrow.{Narrow}
use Rattle.machine.proofs.Fitting.{invalid_ok, send_fits, reply_fits, ack_fits, fetch_fits}
use Rattle.machine.proofs.PrivilegedLaws.{one_of_three}
use Rattle.machine.proofs.Noting.{step_notes, privileged_notes}

-- ---- every command's writes fit
module _ (b : Board) (ws sh bs : List ℕ) (good : good_table b ws ≡ true) (sizes : allowed b ≡ true) (own tile ep : ℕ) (a : Registers) (narrow : Narrow a) (on : tile < b.tiles) where
  pub step_fits : (op : Opcode) → first (step_of b (view ws) sh bs own tile op ep a).checks ≡ Ok tt → Fits b (step_of b (view ws) sh bs own tile op ep a).effect.writes
  unfolding step_of ACCESS
  step_fits op_idle h = tt
  step_fits op_send h = send_fits b (view ws) (good_at b ws good) tile ep on (bounds b sizes).few a narrow sh bs own h
  step_fits op_reply h = reply_fits b (view ws) (good_at b ws good) tile ep on sh bs own a h
  step_fits op_read h = tt
  step_fits op_write h = tt
  step_fits op_fetch h = fetch_fits b (view ws) (good_at b ws good) tile ep on own h
  step_fits op_ack h = ack_fits b (view ws) (good_at b ws good) tile ep on own a h
  step_fits op_other h = tt

-- ---- a machine that is right
pub record Held (b : Board) (ws sh bs : List ℕ) : Type 0 where
  pub sizes_right_lem : sizes_right b (length ws) (length sh) (length bs) ≡ true
  pub sizes : allowed b ≡ true
  pub words : length ws ≡ b.tiles * 192
  pub good : good_table b ws ≡ true
  pub shared : Shared b sh

pub held : (b : Board) (ws sh bs : List ℕ) → machine_right b ws sh bs ≡ true → Held b ws sh bs
unfolding machine_right
held b ws sh bs h =
    let p = split_and (sizes_right b (length ws) (length sh) (length bs)) (good_table b ws && sharing_good b sh) h in
    let q = split_and (good_table b ws) (sharing_good b sh) p.1 in
    let r = right b (length ws) (length sh) (length bs) p.0 in
    record { sizes_right_lem = p.0; sizes = r.board; words = r.words_right; good = q.0; shared = record { long = r.sharing_right; good = q.1 } }

-- ---- any call of a tile whose writes and note fit
-- the sharing records afterwards are as many and good; a refusal notes nothing, whatever the tile
module _ (b : Board) (ws sh bs : List ℕ) (tile : ℕ) (k : Command) (on : first k.checks ≡ Ok tt → tile < b.tiles) (notes : first k.checks ≡ Ok tt → NoteFits b sh k.effect.notes) (s : Shared b sh) where
  call_shares : (x : ℕ) → Shared b (noted sh tile (carried x ws bs k).completion.note)
  unfolding noted
  call_shares x =
      by_answer (first k.checks) (λ h. rw (carried_accepted x ws bs k h) (shared_noted b sh tile k.effect.notes s (on h) (notes h))) (λ e h. rw (carried_refused x ws bs k e h) s)

module _ (b : Board) (ws sh bs : List ℕ) (tile : ℕ) (k : Command) (fits : first k.checks ≡ Ok tt → Fits b k.effect.writes) (h : machine_right b ws sh bs ≡ true) where
  call_keeps : (first k.checks ≡ Ok tt → tile < b.tiles) → (first k.checks ≡ Ok tt → NoteFits b sh k.effect.notes) → (x : ℕ) → Stays b (left_by sh tile (carried x ws bs k))
  unfolding machine_right
  call_keeps on notes x =
      let m = held b ws sh bs h in
      let s = call_shares b ws sh bs tile k on notes m.shared x in
      rw (length_words x ws bs k, length-bytes x ws bs k, s.long ∙ sym m.shared.long, m.sizes_right_lem, good_words x ws bs k b m.words fits m.good) s.good

  call_follows : (x : ℕ) → view (carried x ws bs k).words ≡ after (view ws) k
  call_follows x = view_words x ws bs k b (held b ws sh bs h).words fits

-- ---- the calls: check 1 of each is that the tile is there
-- the second list has passed where both have
pub rest_passed : (l k : List Check) → first (l then k) ≡ Ok tt → first k ≡ Ok tt
rest_passed [] k h = h
rest_passed ((false ⇒ e) ∷ l) k h = rest_passed l k h
rest_passed ((true ⇒ e) ∷ l) k h = let z : ◌≡◌ {A = ℕ} 0 1 = cc in absurd (omega arith)

module _ (b : Board) (ws sh bs : List ℕ) (tile : ℕ) where
  command_fits : (op ep : ℕ) (a : Registers) → Narrow a → machine_right b ws sh bs ≡ true
      → first (command_of b ws sh bs tile op ep a).checks ≡ Ok tt → Fits b (command_of b ws sh bs tile op ep a).effect.writes
  unfolding command_of host_checks
  command_fits op ep a narrow h e =
      let m = held b ws sh bs h in
      let on = leb-false b.tiles tile (passed (command_of b ws sh bs tile op ep a).checks e 1) in
      step_fits b ws sh bs m.good m.sizes (own_of sh tile) tile ep a narrow on (opcode_of op) (rest_passed (host_checks b ws sh bs tile) (step_of b (view ws) sh bs (own_of sh tile) tile (opcode_of op) ep a).checks e)

  -- checks 2: the endpoint's number; 3: the words are acceptable in the tile's memory
  configure_fits : (ep : ℕ) (w : Words) → first (configure_of b ws sh bs tile ep w).checks ≡ Ok tt → Fits b (configure_of b ws sh bs tile ep w).effect.writes
  unfolding configure_of host_checks
  configure_fits ep w e =
      let ok = passed (configure_of b ws sh bs tile ep w).checks e in
      let on = leb-false b.tiles tile (ok 1) in
      let low = leb-false 64 ep (ok 2) in
      let here : place tile ep / 64 ≡ tile = omega arith in
      ((λ _. record { there = omega arith; ok = rw here (words_back (size_of b tile) w (not-false (acceptable_words (size_of b tile) w) (ok 3))).0 }), tt)

  -- check 2: the endpoint's number
  invalidate_fits : (ep : ℕ) → first (invalidate_of b ws sh bs tile ep).checks ≡ Ok tt → Fits b (invalidate_of b ws sh bs tile ep).effect.writes
  unfolding invalidate_of host_checks
  invalidate_fits ep e =
      let ok = passed (invalidate_of b ws sh bs tile ep).checks e in
      let on = leb-false b.tiles tile (ok 1) in
      let low = leb-false 64 ep (ok 2) in
      ((λ _. record { there = omega arith; ok = invalid_ok (memory_at b (place tile ep)) }), tt)

  -- ---- what each notes, and that its tile is there
  command_on_lem : (op ep : ℕ) (a : Registers) → first (command_of b ws sh bs tile op ep a).checks ≡ Ok tt → tile < b.tiles
  unfolding command_of host_checks
  command_on_lem op ep a e = leb-false b.tiles tile (passed (command_of b ws sh bs tile op ep a).checks e 1)

  command_notes : (op ep : ℕ) (a : Registers) → first (command_of b ws sh bs tile op ep a).checks ≡ Ok tt → NoteFits b sh (command_of b ws sh bs tile op ep a).effect.notes
  unfolding command_of
  command_notes op ep a e = step_notes b (view ws) sh bs (own_of sh tile) tile ep a (opcode_of op) (rest_passed (host_checks b ws sh bs tile) (step_of b (view ws) sh bs (own_of sh tile) tile (opcode_of op) ep a).checks e)

  configure_on : (ep : ℕ) (w : Words) → first (configure_of b ws sh bs tile ep w).checks ≡ Ok tt → tile < b.tiles
  unfolding configure_of host_checks
  configure_on ep w e = leb-false b.tiles tile (passed (configure_of b ws sh bs tile ep w).checks e 1)

  configure_notes : (ep : ℕ) (w : Words) → NoteFits b sh (configure_of b ws sh bs tile ep w).effect.notes
  unfolding configure_of
  configure_notes ep w = tt

  invalidate_on : (ep : ℕ) → first (invalidate_of b ws sh bs tile ep).checks ≡ Ok tt → tile < b.tiles
  unfolding invalidate_of host_checks
  invalidate_on ep e = leb-false b.tiles tile (passed (invalidate_of b ws sh bs tile ep).checks e 1)

  invalidate_notes : (ep : ℕ) → NoteFits b sh (invalidate_of b ws sh bs tile ep).effect.notes
  unfolding invalidate_of
  invalidate_notes ep = tt

  -- the privileged side writes nothing
  privileged_fits : (op arg0 arg1 : ℕ) → Fits b (privileged_of b ws sh bs tile op arg0 arg1).effect.writes
  unfolding privileged_of
  privileged_fits op arg0 arg1 = one_of_three (λ k. Fits b k.effect.writes) sh tile op arg0 arg1 tt tt tt

  privileged_on : (op arg0 arg1 : ℕ) → first (privileged_of b ws sh bs tile op arg0 arg1).checks ≡ Ok tt → tile < b.tiles
  unfolding privileged_of host_checks
  privileged_on op arg0 arg1 e = leb-false b.tiles tile (passed (privileged_of b ws sh bs tile op arg0 arg1).checks e 1)

  privileged_fits_note : (op arg0 arg1 : ℕ) → NoteFits b sh (privileged_of b ws sh bs tile op arg0 arg1).effect.notes
  unfolding privileged_of
  privileged_fits_note op arg0 arg1 = privileged_notes b sh tile op arg0 arg1

  respond_fits : Fits b (respond_of b ws sh bs tile).effect.writes
  unfolding respond_of
  respond_fits = tt

  respond_on : first (respond_of b ws sh bs tile).checks ≡ Ok tt → tile < b.tiles
  unfolding respond_of host_checks
  respond_on e = leb-false b.tiles tile (passed (respond_of b ws sh bs tile).checks e 1)

  respond_notes : NoteFits b sh (respond_of b ws sh bs tile).effect.notes
  unfolding respond_of
  respond_notes = tt

pub keeps : EveryCall Keeps
keeps =
    record {
      command = λ b ws sh bs tile op ep a narrow h. call_keeps b ws sh bs tile (command_of b ws sh bs tile op ep a) (command_fits b ws sh bs tile op ep a narrow h) h (command_on_lem b ws sh bs tile op ep a) (command_notes b ws sh bs tile op ep a);
      configure = λ b ws sh bs tile ep w h. call_keeps b ws sh bs tile (configure_of b ws sh bs tile ep w) (configure_fits b ws sh bs tile ep w) h (configure_on b ws sh bs tile ep w) (λ e. configure_notes b ws sh bs tile ep w);
      invalidate = λ b ws sh bs tile ep h. call_keeps b ws sh bs tile (invalidate_of b ws sh bs tile ep) (invalidate_fits b ws sh bs tile ep) h (invalidate_on b ws sh bs tile ep) (λ e. invalidate_notes b ws sh bs tile ep);
      privileged = λ b ws sh bs tile op arg0 arg1 h.
          call_keeps b ws sh bs tile (privileged_of b ws sh bs tile op arg0 arg1) (λ e. privileged_fits b ws sh bs tile op arg0 arg1) h (privileged_on b ws sh bs tile op arg0 arg1) (λ e. privileged_fits_note b ws sh bs tile op arg0 arg1);
      respond = λ b ws sh bs tile h. call_keeps b ws sh bs tile (respond_of b ws sh bs tile) (λ e. respond_fits b ws sh bs tile) h (respond_on b ws sh bs tile) (λ e. respond_notes b ws sh bs tile);
    }

pub follows : EveryCall Follows
follows =
    record {
      command = λ b ws sh bs tile op ep a narrow h. call_follows b ws sh bs tile (command_of b ws sh bs tile op ep a) (command_fits b ws sh bs tile op ep a narrow h) h;
      configure = λ b ws sh bs tile ep w h. call_follows b ws sh bs tile (configure_of b ws sh bs tile ep w) (configure_fits b ws sh bs tile ep w) h;
      invalidate = λ b ws sh bs tile ep h. call_follows b ws sh bs tile (invalidate_of b ws sh bs tile ep) (invalidate_fits b ws sh bs tile ep) h;
      privileged = λ b ws sh bs tile op arg0 arg1 h. call_follows b ws sh bs tile (privileged_of b ws sh bs tile op arg0 arg1) (λ e. privileged_fits b ws sh bs tile op arg0 arg1) h;
      respond = λ b ws sh bs tile h. call_follows b ws sh bs tile (respond_of b ws sh bs tile) (λ e. respond_fits b ws sh bs tile) h;
    }
