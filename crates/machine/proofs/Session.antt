-- The session's nine lines, by computation. Assumes nothing.
use mathlib.Core.Path.{refl}
use Rattle.numbers.specs.Choice.{◌gives◌else◌}
use Rattle.board.specs.Board.{pages_of, size_of}
use Rattle.board.specs.Lent.{in_word, board_of}
use Rattle.bits.specs.Bits.{put_bit}
use Rattle.table.specs.Table.{endpoint_at, upd}
use Rattle.sharing.specs.Sharing.{word_at, foreign, crowded}
use Rattle.slots.specs.Slots.{free_slot, unread_slot, slot_named, range_past, range_bad, filled, fetched, cleared}
use Rattle.command.specs.Local.{crosses_page, outside}
use Rattle.delivery.specs.Delivery.{too_long, message_checks, delivered, arrival, landing}
use Rattle.credits.specs.Credits.{with_credits}
use Rattle.credits.specs.Room.{room_for}
use Rattle.messages.specs.Send.{send_checks, sep_of, rsize_of, request, reply_to, reply_placed, credit_spent, send_writes, request_of, SEND}
use Rattle.messages.specs.Reply.{from_checks, credit_bad, reply_checks, response, creditable, credited, credit_to, credit_returned, reply_gone, slot_freed, reply_writes, response_of, answer_of, REPLY}
use Rattle.receive.specs.Fetch.{fetch_writes, FETCH}
use Rattle.receive.specs.Ack.{ack_checks, ack_writes, ACK_MSG}
use Rattle.machine.specs.Machine.{step_of}
use Rattle.machine.specs.Session.{lines, Session}

pub as_printed : Session
unfolding lines step_of ◌gives◌else◌ board_of in_word pages_of size_of put_bit endpoint_at upd free_slot unread_slot slot_named range_past range_bad filled fetched cleared crosses_page word_at foreign crowded outside too_long message_checks delivered landing arrival send_checks sep_of rsize_of request reply_to with_credits reply_placed credit_spent send_writes request_of SEND from_checks credit_bad reply_checks response room_for creditable credited credit_to credit_returned reply_gone slot_freed reply_writes response_of answer_of REPLY fetch_writes FETCH ack_checks ack_writes ACK_MSG
as_printed = refl
