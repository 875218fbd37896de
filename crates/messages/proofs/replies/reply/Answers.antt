-- `messages::replies/reply` meets its contract. Assumes nothing.
use Rattle.messages.proofs.ReplyLaws.{named}
use Rattle.messages.proofs.replies.reply.Goals as goal

pub reply_to_slot-requires : goal.reply_to_slot-requires
reply_to_slot-requires c =
    let s = c in
    (s.requires.0, s.requires.1, s.requires.2, named _ _ _ _ _ _ c.in_ok-g.ensures.usable.0 c.in_ok-g.ensures.usable.1 c.from_checks.ensures c.in_ok-from_checks.was c.slot_named-i.ensures)
