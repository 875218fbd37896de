-- `messages::replies/deliver_reply` meets its contract. Assumes nothing.
use mathlib.Core.Path.{sym}
use Rattle.command.proofs.CheckedLaws.{own_words}
use Rattle.delivery.proofs.Landing.{to_words, taken}
use Rattle.messages.specs.Reply.{response_of, reply_writes, credit_returned, response}
use Rattle.messages.proofs.MessageLaws.{tile_small, landed}
use Rattle.messages.proofs.ReplyLaws.{stow_response, may_credit}
use Rattle.messages.proofs.replies.deliver_reply.Goals as goal

pub response_header-h-requires : goal.response_header-h-requires
response_header-h-requires c = (search tile_small, c.requires.3.from)

pub endpoint_at-x-requires : goal.endpoint_at-x-requires
endpoint_at-x-requires c = to_words _ _ _ _ _ _ _ _ c.requires.0 c.find_target.ensures c.in_ok-to.was

pub stow-requires : goal.stow-requires
stow-requires c =
    let s = c in
    stow_response _ _ _ _ _ _ _ _ _ _ _ _ _ s.requires.0 s.requires.2 s.requires.3 c.find_target.ensures c.in_ok-to.was c.response_header-h.ensures

pub reply_write-requires : goal.reply_write-requires
reply_write-requires c =
    let s = c in
    let z = s.requires.3 in
    (search own_words, z.from, z.slot, z.reach, landed _ _ _ _ _ _ _ _ s.requires.0 c.find_target.ensures c.in_ok-to.was, may_credit _ _ _ _ _ _ _ _ z c.response_header-h.ensures)

pub returns : goal.returns
unfolding response_of reply_writes credit_returned response
returns c =
    let a = c.args in
    rw (c.reply_write.ensures, c.stow.ensures, c.arrival_of-at.ensures, c.is_unread-read.ensures, c.endpoint_at-x.ensures, c.from.ensures, c.response_header-h.ensures)
    (sym (taken a.a.arg1 a.b a.words.now a.sharing.now a.mem.now a.s a.a c.find_target.result _ c.find_target.ensures c.in_ok-to.to c.in_ok-to.was))
