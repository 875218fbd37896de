-- `messages::requests/send` meets its contract. Assumes nothing.
use Rattle.messages.proofs.SendLaws.{sendable}
use Rattle.messages.proofs.requests.send.Goals as goal

pub deliver_request-requires : goal.deliver_request-requires
deliver_request-requires c =
    let s = c in
    (s.requires.0, s.requires.1, s.requires.2, sendable _ _ _ _ _ _ _ _ _ s.requires.0 c.send_checks.ensures c.in_ok-send_checks.was c.endpoint_at.ensures c.in-Send.is)
