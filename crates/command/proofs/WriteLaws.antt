-- What a command's writes do to lent words: their number stays, the table that they hold changes as `tabled` says, and a good
-- table stays good; and so for what any command comes to. Assumes nothing.
use Prim.Native.Nat.{ℕ, ◌+◌, ◌*◌, ◌<◌}
use mathlib.Core.Bool.{true, false}
use mathlib.Core.List.{List, [], ◌∷◌}
use mathlib.Core.Path.{◌≡◌, refl, ap, ◌∙◌}
use native.Mathlib.Omega.{arith}
use lib.ListN.{length}
use Rattle.answers.specs.declared.Error.{Error}
use Rattle.answers.specs.Answers.{Answer}
use Rattle.std.specs.Prelude.{Ok, Err}
use Rattle.board.specs.declared.Board.{Board}
use Rattle.memory.proofs.ByteLaws.{length-put}
use Rattle.endpoint.specs.Acceptable.{acceptable}
use Rattle.endpoint.specs.declared.Endpoint.{Endpoint}
use Rattle.table.specs.Table.{Table, view, stored}
use Rattle.table.specs.Good.{memory_at, good_table}
use Rattle.table.proofs.TableLaws.{length-stored, view-stored, good_stored}
use Rattle.command.specs.Checks.{first}
use Rattle.command.specs.Command.{Write, ◌⇐◌to◌, Put, nothing, bytes_to, Effect, Command}
use Rattle.command.specs.Outcome.{outcome, completes, finishes, written, tabled, placed, settled, carried}

-- ---- a list of writes
-- the place is one of the board's, and the endpoint is acceptable there
pub record Fit (b : Board) (e : Endpoint) (q : ℕ) : Type 0 where
  pub there : q < b.tiles * 64
  pub ok : acceptable (memory_at b q) e ≡ true

-- each write that is done fits
abbrev pub Fits : Board → List Write → Type 0
Fits b [] = Unit {0}
Fits b ((t ⇐ e to q) ∷ l) = (t ≡ true → Fit b e q) × Fits b l

pub length-written : (l : List Write) (ws : List ℕ) → length (written ws l) ≡ length ws
length-written [] ws = refl
length-written ((true ⇐ e to q) ∷ l) ws = length-written l (stored ws q e) ∙ length-stored ws q e
length-written ((false ⇐ e to q) ∷ l) ws = length-written l ws

pub length-placed : (bs : List ℕ) (p : Put) → length (placed bs p) ≡ length bs
length-placed bs nothing = refl
length-placed bs (bytes_to a l) = length-put bs a l

-- a place's three words are among the lent ones
inside : (b : Board) (n q : ℕ) → n ≡ b.tiles * 192 → q < b.tiles * 64 → q * 3 + 2 < n
inside b n q e l = omega arith

pub view-written : (b : Board) (l : List Write) (ws : List ℕ) → length ws ≡ b.tiles * 192 → Fits b l → view (written ws l) ≡ tabled (view ws) l
view-written b [] ws n h = refl
view-written b ((true ⇐ e to q) ∷ l) ws n h =
    let f = h.0 refl in
    view-written b l (stored ws q e) (length-stored ws q e ∙ n) h.1
    ∙ ap (λ (t : Table). tabled t l) (view-stored ws q (memory_at b q) e (inside b (length ws) q n f.there) f.ok)
view-written b ((false ⇐ e to q) ∷ l) ws n h = view-written b l ws n h.1

pub good_written : (b : Board) (l : List Write) (ws : List ℕ) → length ws ≡ b.tiles * 192 → Fits b l → good_table b ws ≡ true → good_table b (written ws l) ≡ true
good_written b [] ws n h good = good
good_written b ((true ⇐ e to q) ∷ l) ws n h good =
    let f = h.0 refl in
    good_written b l (stored ws q e) (length-stored ws q e ∙ n) h.1 (good_stored b ws good q e (inside b (length ws) q n f.there) f.ok)
good_written b ((false ⇐ e to q) ∷ l) ws n h good = good_written b l ws n h.1 good

-- ---- what a command comes to, by its answer
module _ {X : Type 0} (f : Error → X) (g : Effect → X) (k : Command) where
  pub settled_refused : (e : Error) → first k.checks ≡ Err e → settled f g k ≡ f e
  settled_refused e h = rw h

  pub settled_accepted : first k.checks ≡ Ok tt → settled f g k ≡ g k.effect
  settled_accepted h = rw h

-- an answer is NONE or a refusal
pub by_answer : {P : Type 0} (r : Answer) → (r ≡ Ok tt → P) → ((e : Error) → r ≡ Err e → P) → P
by_answer (Ok tt) f g = f refl
by_answer (Err e) f g = g e refl

module _ (x : ℕ) (ws bs : List ℕ) (k : Command) where
  pub carried_refused : (e : Error) → first k.checks ≡ Err e → carried x ws bs k ≡ outcome (completes (Err e) x) ws bs
  carried_refused e h = rw h

  pub carried_accepted : first k.checks ≡ Ok tt → carried x ws bs k ≡ outcome (finishes k.effect.hands k.effect.notes) (written ws k.effect.writes) (placed bs k.effect.puts)
  carried_accepted h = rw h

  pub length_words : length (carried x ws bs k).words ≡ length ws
  length_words = by_answer (first k.checks) (λ h. rw (carried_accepted h) (length-written k.effect.writes ws)) (λ e h. rw (carried_refused e h))

  pub length-bytes : length (carried x ws bs k).bytes ≡ length bs
  length-bytes = by_answer (first k.checks) (λ h. rw (carried_accepted h) (length-placed bs k.effect.puts)) (λ e h. rw (carried_refused e h))

  -- where the writes of an accepted command fit
  module _ (b : Board) (n : length ws ≡ b.tiles * 192) (fits : first k.checks ≡ Ok tt → Fits b k.effect.writes) where
    pub good_words : good_table b ws ≡ true → good_table b (carried x ws bs k).words ≡ true
    good_words good =
        by_answer (first k.checks) (λ h. rw (carried_accepted h) (good_written b k.effect.writes ws n (fits h) good)) (λ e h. rw (carried_refused e h) good)

    pub view_words : view (carried x ws bs k).words ≡ settled (λ e. view ws) (λ d. tabled (view ws) d.writes) k
    view_words =
        by_answer (first k.checks)
        (λ h. rw (carried_accepted h, settled_accepted (λ e. view ws) (λ d. tabled (view ws) d.writes) k h) (view-written b k.effect.writes ws n (fits h)))
        (λ e h. rw (carried_refused e h, settled_refused (λ e. view ws) (λ d. tabled (view ws) d.writes) k e h))
