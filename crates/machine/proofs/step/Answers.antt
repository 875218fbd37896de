-- `machine::step` meets its contract. Assumes nothing.
use Rattle.board.proofs.BoardLaws.{bounds}
use Rattle.sharing.proofs.NoteLaws.{inside}
use Rattle.machine.specs.Machine.{opcode_of}
use Rattle.machine.proofs.Noting.{step_note_fits}
use Rattle.machine.proofs.step.Goals as goal

pub own-own-requires : goal.own-own-requires
own-own-requires c =
    let p = c.requires in
    inside _ _ _ (bounds _ p.0.board).few p.1 p.0.there

pub take_note-requires : goal.take_note-requires
take_note-requires c =
    let a = c.args in
    let p = c.requires in
    ((bounds _ p.0.board).few, p.0.there, p.1, step_note_fits a.a.arg1 a.b a.words.now a.sharing.now a.mem.now c.dispatch.new.words c.dispatch.new.mem c.own-own.result a.tile a.ep (opcode_of a.opcode) a.a c.dispatch.result c.in_ok-done.done c.dispatch.ensures c.in_ok-done.was)
