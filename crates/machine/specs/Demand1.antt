-- Demand 1: every call answers NONE or a refusal that document 01 lists for it, and a refusal changes nothing. ARG_1 comes back
-- as given, except from a FETCH that answers 0. No second answer or end state fits.
use Rattle.std.specs.Prelude.{ℕ, ◌≡◌, Result, Ok, Err}
use mathlib.Core.List.{List, [], ◌∷◌, ◌++◌, Memᴰ}
use Rattle.answers.specs.declared.Error.{Error}
use Rattle.answers.specs.declared.Error.TheVariants.{NoMep, NoSep, NoRep, ForeignEp, SendReplyEp, RecvGone, RecvNoSpace, RepliesDisabled, OutOfBounds, NoCredits, NoPerm, InvMsgOff, Abort, UnknownCmd, RecvOutOfBounds, RecvInvRplEps, SendInvCrdEp, SendInvMsgSz, TimeoutNoc, PageBoundary, MsgUnaligned, BadMachine, NoSuchTile, BadEp, BadConfig}
use Rattle.answers.specs.Answers.{Answer}
use Rattle.board.specs.declared.Board.{Board}
use Rattle.endpoint.specs.declared.Words.{Words}
use Rattle.command.specs.Command.{Command}
use Rattle.command.specs.Outcome.{Handed, handed, completes, carried}
use Rattle.command.specs.declared.Registers.{Registers}
use Rattle.command.specs.declared.Completion.{Completion}
use Rattle.machine.specs.Machine.{Opcode, op_idle, op_send, op_reply, op_read, op_write, op_fetch, op_ack, op_other, opcode_of, command_of, configure_of, invalidate_of, privileged_of, respond_of, left, left_by}

-- ---- document 01's lists, in its order: the host's refusals come first
abbrev pub host_refusals : List Error
host_refusals = BadMachine ∷ NoSuchTile ∷ []

-- what SEND and REPLY share
abbrev pub delivery_refusals : List Error
delivery_refusals = TimeoutNoc ∷ RecvGone ∷ RecvOutOfBounds ∷ RecvInvRplEps ∷ RecvNoSpace ∷ []

abbrev pub access_refusals : List Error
access_refusals = NoMep ∷ ForeignEp ∷ NoPerm ∷ OutOfBounds ∷ PageBoundary ∷ Abort ∷ []

abbrev pub refusals_of : Opcode → List Error
refusals_of op_idle = []
refusals_of op_send = NoSep ∷ SendReplyEp ∷ ForeignEp ∷ SendInvMsgSz ∷ OutOfBounds ∷ MsgUnaligned ∷ PageBoundary ∷ NoRep ∷ Abort ∷ NoCredits ∷ delivery_refusals
refusals_of op_reply =
    NoRep ∷ RepliesDisabled ∷ RecvInvRplEps ∷ ForeignEp ∷ InvMsgOff ∷ NoSep ∷ SendReplyEp ∷ SendInvCrdEp ∷ SendInvMsgSz ∷ OutOfBounds ∷ MsgUnaligned ∷ PageBoundary ∷ Abort
    ∷ delivery_refusals
refusals_of op_read = access_refusals
refusals_of op_write = access_refusals
refusals_of op_fetch = NoRep ∷ ForeignEp ∷ []
refusals_of op_ack = NoRep ∷ RecvInvRplEps ∷ ForeignEp ∷ InvMsgOff ∷ []
refusals_of op_other = UnknownCmd ∷ []

abbrev pub configure_refusals : List Error
configure_refusals = host_refusals ++ (BadEp ∷ BadConfig ∷ [])

abbrev pub invalidate_refusals : List Error
invalidate_refusals = host_refusals ++ (BadEp ∷ [])

-- what both kinds of commands refuse by their opcode alone
abbrev pub privileged_refusals : List Error
privileged_refusals = host_refusals ++ (UnknownCmd ∷ [])

-- ---- one call of a tile: the command k, given x as ARG_1, on the words ws, the sharing records sh and the bytes bs
-- NONE, or a refusal in the list
abbrev pub From : List Error → Answer → Type 0
From l (Ok x) = Unit {0}
From l (Err e) = Memᴰ e l

pub record Settles (x : ℕ) (ws sh bs : List ℕ) (tile : ℕ) (l : List Error) (k : Command) : Type 0 where
  -- the answer is in the list
  pub listed : From l (carried x ws bs k).completion.answer
  -- a refusal changes no word, no record and no byte, and gives ARG_1 back
  pub unchanged : (e : Error) → (carried x ws bs k).completion.answer ≡ Err e → left_by sh tile (carried x ws bs k) ≡ left (completes (Err e) x) ws sh bs
  -- no second answer or end state fits
  pub only : (r s : Handed) (v w p q c d : List ℕ) → left r v p c ≡ left_by sh tile (carried x ws bs k) → left s w q d ≡ left_by sh tile (carried x ws bs k)
      → (r ≡ s) × (v ≡ w) × (p ≡ q) × (c ≡ d)
  -- nor do two results of the code say the same
  pub only_result : (r s : Result Completion Error) → handed x r ≡ handed x s → r ≡ s

pub record Demand1 : Type 0 where
  pub command : (b : Board) (ws sh bs : List ℕ) (tile op ep : ℕ) (a : Registers)
      → Settles a.arg1 ws sh bs tile (host_refusals ++ refusals_of (opcode_of op)) (command_of b ws sh bs tile op ep a)
  pub configure : (b : Board) (ws sh bs : List ℕ) (tile ep : ℕ) (w : Words) (x : ℕ) → Settles x ws sh bs tile configure_refusals (configure_of b ws sh bs tile ep w)
  pub invalidate : (b : Board) (ws sh bs : List ℕ) (tile ep x : ℕ) → Settles x ws sh bs tile invalidate_refusals (invalidate_of b ws sh bs tile ep)
  pub privileged : (b : Board) (ws sh bs : List ℕ) (tile op arg0 arg1 : ℕ) → Settles arg1 ws sh bs tile privileged_refusals (privileged_of b ws sh bs tile op arg0 arg1)
  pub respond : (b : Board) (ws sh bs : List ℕ) (tile x : ℕ) → Settles x ws sh bs tile host_refusals (respond_of b ws sh bs tile)
  -- ARG_1 comes back as given from every opcode but FETCH's; a FETCH that is refused gives it back by `unchanged`
  pub arg1_back : (b : Board) (ws sh bs : List ℕ) (tile op ep : ℕ) (a : Registers) → (op ≡ 5 → ⊥)
      → (carried a.arg1 ws bs (command_of b ws sh bs tile op ep a)).completion.arg1 ≡ a.arg1
