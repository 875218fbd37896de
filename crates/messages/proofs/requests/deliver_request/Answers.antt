-- `messages::requests/deliver_request` meets its contract. Assumes nothing.
use Rattle.std.proofs.lemmas.Result.{err_from_is_err_and}
use Rattle.command.proofs.CheckedLaws.{own_words}
use Rattle.delivery.proofs.Landing.{turned_away}
use Rattle.messages.specs.Send.{request_of}
use Rattle.messages.proofs.MessageLaws.{landed}
use Rattle.messages.proofs.SendLaws.{stow_request}
use Rattle.messages.proofs.requests.deliver_request.Goals as goal

pub returns-in_err-to : goal.returns-in_err-to
unfolding request_of
returns-in_err-to c =
    let a = c.args in
    let p = err_from_is_err_and c.from_residual.result c.from_residual.ensures.1 in
    rw (p.1, p.2) (turned_away a.a.arg1 a.b a.words.now a.sharing.now a.mem.now a.s a.a c.find_target.result _ c.find_target.ensures c.in_err-to.field-0.0 c.in_err-to.was)

pub stow-requires : goal.stow-requires
stow-requires c =
    let s = c in
    stow_request _ _ _ _ _ _ _ _ _ _ _ s.requires.0 s.requires.2 s.requires.3 c.find_target.ensures c.in_ok-to.was c.request_header-h.ensures

pub send_write-requires : goal.send_write-requires
send_write-requires c =
    let s = c in
    (search own_words, s.requires.3.from, s.requires.3.credit, landed _ _ _ _ _ _ _ _ s.requires.0 c.find_target.ensures c.in_ok-to.was)
