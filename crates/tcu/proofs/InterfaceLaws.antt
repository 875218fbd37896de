-- What a C caller gets follows from what the library's call comes to. Assumes nothing.
use Prim.Native.Nat.{ℕ}
use mathlib.Core.List.{List}
use mathlib.Core.Path.{◌≡◌, refl}
use native.Mathlib.Omega.{arith}
use Rattle.answers.specs.Answers.{code_of}
use Rattle.answers.specs.declared.Error.{Error}
use Rattle.answers.specs.declared.Error.TheVariants.{NoMep, NoSep, NoRep, ForeignEp, SendReplyEp, RecvGone, RecvNoSpace, RepliesDisabled, OutOfBounds, NoCredits, NoPerm, InvMsgOff, Abort, UnknownCmd, RecvOutOfBounds, RecvInvRplEps, SendInvCrdEp, SendInvMsgSz, TimeoutNoc, PageBoundary, MsgUnaligned, BadMachine, NoSuchTile, BadEp, BadConfig}
use Rattle.command.specs.Outcome.{carried}
use Rattle.board.specs.declared.Board.{Board}
use Rattle.machine.specs.Machine.{respond_of}
use Rattle.machine.proofs.Demand1.{arg1_back}

-- a response hands nothing back
pub respond_back : (b : Board) (ws sh bs : List ℕ) (tile : ℕ) → (carried 0 ws bs (respond_of b ws sh bs tile)).completion.arg1 ≡ 0
unfolding respond_of
respond_back b ws sh bs tile = arg1_back 0 ws bs (respond_of b ws sh bs tile) refl

-- no refusal has the number 0
pub no_zero : (e : Error) → code_of e ≡ 0 → ⊥
no_zero NoMep h = omega arith
no_zero NoSep h = omega arith
no_zero NoRep h = omega arith
no_zero ForeignEp h = omega arith
no_zero SendReplyEp h = omega arith
no_zero RecvGone h = omega arith
no_zero RecvNoSpace h = omega arith
no_zero RepliesDisabled h = omega arith
no_zero OutOfBounds h = omega arith
no_zero NoCredits h = omega arith
no_zero NoPerm h = omega arith
no_zero InvMsgOff h = omega arith
no_zero Abort h = omega arith
no_zero UnknownCmd h = omega arith
no_zero RecvOutOfBounds h = omega arith
no_zero RecvInvRplEps h = omega arith
no_zero SendInvCrdEp h = omega arith
no_zero SendInvMsgSz h = omega arith
no_zero TimeoutNoc h = omega arith
no_zero PageBoundary h = omega arith
no_zero MsgUnaligned h = omega arith
no_zero BadMachine h = omega arith
no_zero NoSuchTile h = omega arith
no_zero BadEp h = omega arith
no_zero BadConfig h = omega arith
