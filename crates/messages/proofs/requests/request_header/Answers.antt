-- `messages::requests/request_header` meets its contract. Assumes nothing.
use Rattle.messages.proofs.MessageLaws.{tile_fits}
use Rattle.messages.proofs.requests.request_header.Goals as goal

pub overflow_cast-result : goal.overflow_cast-result
overflow_cast-result c = search tile_fits
