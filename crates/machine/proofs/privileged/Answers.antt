-- `machine::privileged` meets its contract. Assumes nothing.
use mathlib.Core.List.{[]}
use Rattle.machine.proofs.Noting.{privileged_note_fits}
use Rattle.machine.proofs.privileged.Goals as goal

pub take_note-requires : goal.take_note-requires
take_note-requires c =
    let a = c.args in
    let l = c.in_ok-host_checks.ensures.lent in
    (l.few, l.checked.there, l.shared, privileged_note_fits a.arg1 a.b a.sharing.now [] a.tile a.opcode a.arg0 c.privileged_step.result c.in_ok-done.done (c.privileged_step.ensures [] []) c.in_ok-done.was)
