-- `messages::replies/reply_to_slot` meets its contract. Assumes nothing.
use Rattle.messages.proofs.ReplyLaws.{replyable}
use Rattle.messages.proofs.replies.reply_to_slot.Goals as goal

pub deliver_reply-requires : goal.deliver_reply-requires
deliver_reply-requires c =
    let s = c in
    (s.requires.0, s.requires.1, s.requires.2, replyable _ _ _ _ _ _ _ _ _ _ _ s.requires.0 s.requires.3 c.reply_checks.ensures c.in_ok-reply_checks.was c.endpoint_at.ensures c.in-Send.is)
