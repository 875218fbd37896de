-- Demand 3 speaks of something: document 01's session wiring is sound, and a run on sound wiring meets messages, replies and a full
-- buffer. All by computation. Assumes nothing.
use Prim.Native.Nat.{ℕ, ◌^◌, ◌<◌}
use mathlib.Core.Bool.{Bool, true, false}
use mathlib.Core.List.{List, [], ◌∷◌, ◌++◌}
use mathlib.Core.Path.{◌≡◌, refl}
use lib.Dec.{lit<}
use lib.ListN.{replicate}
use Rattle.numbers.specs.Choice.{◌gives◌else◌}
use Rattle.board.specs.Board.{pages_allowed, pages_of, allowed, start_of, size_of, bytes_of, sizes_right}
use Rattle.board.specs.Lent.{in_word, board_of}
use Rattle.board.specs.declared.Board.{Board}
use Rattle.endpoint.specs.Endpoint.{fields_of}
use Rattle.endpoint.specs.Acceptable.{acceptable, acceptable_words}
use Rattle.endpoint.specs.declared.Endpoint.{Endpoint}
use Rattle.endpoint.specs.declared.Endpoint.TheVariants.{Send, Receive}
use Rattle.table.specs.Words.{words_nth, put_nth}
use Rattle.table.specs.Table.{endpoint_at, upd, view, stored}
use Rattle.table.specs.Good.{good_table}
use Rattle.std.specs.Prelude.{Ok, Err, Result}
use Rattle.answers.specs.declared.Error.TheVariants.{RecvNoSpace}
use Rattle.bits.specs.Bits.{put_bit}
use Rattle.endpoint.specs.Kinds.{send_of}
use Rattle.slots.specs.Slots.{free_slot, unread_slot, slot_named, range_past, range_bad, filled, fetched, cleared}
use Rattle.sharing.specs.Sharing as sharing
use Rattle.sharing.specs.Note.{noted}
use Rattle.command.specs.declared.Registers.{Registers}
use Rattle.memory.specs.Bytes as bytes
use Rattle.command.specs.Local.{crosses_page, outside}
use Rattle.delivery.specs.Header.{header_word, header_bytes}
use Rattle.delivery.specs.Delivery as delivery
use Rattle.messages.specs.Send as sending
use Rattle.credits.specs.Credits.{with_credits}
use Rattle.credits.specs.Room.{room_for}
use Rattle.messages.specs.Reply as replying
use Rattle.receive.specs.Fetch as fetching
use Rattle.ledger.specs.Ledger.{Held, nothing, request, reply, holds}
use Rattle.ledger.specs.Run.{Machine, Step, command, IsNarrow, AllNarrow, World, answer_of, next, run, start}
use Rattle.machine.specs.Machine.{opcode_of, step_of, machine_right, host_checks, command_of}
use Rattle.wiring.specs.Sums.{sum}
use Rattle.wiring.specs.Credits.{share, promised}
use Rattle.wiring.specs.Wiring.{sender_sound, clear_of, apart_from, apart_at, range_sound, range_apart, receiver_sound, endpoint_sound, sound, wiring_of}
use Rattle.answers.specs.declared.Error.{Error}

board : Board
board = board_of 2 (1 ∷ 1 ∷ [])

-- a sender to an endpoint of a tile
send_to : (tile ep credits : ℕ) → Endpoint
send_to tile ep credits = Send record { act = 5; cur_crd = credits; max_crd = credits; msg_sz = 8; crd_ep = 0; reply = false; tgt_ep = ep; tgt_tile = tile; tgt_chip = 0; label = 0 }

-- a receiver of 2^k slots of 2^z bytes
receiver : (k z buffer rpl : ℕ) → Endpoint
receiver k z buffer rpl = Receive record { act = 5; rpl_eps = rpl; slots = k; slot_size = z; wpos = 0; rpos = 0; buffer = buffer; occupied = 0; unread = 0 }

machine : List ℕ → Machine
-- activity 5 on both tiles, and nothing waits
machine ws = record { board = board; words = ws; sharing = (5 ∷ replicate 66 0) ++ (5 ∷ replicate 66 0); bytes = replicate 8192 0 }

check : Machine → Result Bool Error
check m = wiring_of m.board m.words m.sharing m.bytes

-- document 01's session
session : List ℕ
session = stored (stored (stored (replicate 384 0) 4 (send_to 1 7 2)) 6 (receiver 1 6 2048 65535)) 71 (receiver 1 8 1024 20)

-- three credits towards two slots
too_many : List ℕ
too_many = stored session 5 (send_to 1 7 1)

-- the session's wiring with one slot for replies, and a sender on tile 1 that aims at it
crowded : List ℕ
crowded = stored (stored session 6 (receiver 0 6 2048 65535)) 72 (send_to 0 6 1)

registers : (size arg0 : ℕ) → Registers
registers size arg0 = record { arg0 = arg0; addr = 0; size = size; arg1 = 0 }

given : (tile opcode ep size arg0 : ℕ) → Step
given tile opcode ep size arg0 = command tile opcode ep (registers size arg0)

wide : (tile opcode ep size arg0 : ℕ) → size < 2 ^ 64 → arg0 < 2 ^ 64 → IsNarrow (given tile opcode ep size arg0)
unfolding given registers
wide tile opcode ep size arg0 p q = record { arg0_fits = q; addr_fits = lit< tt; size_fits = p; arg1_fits = lit< tt }

-- tile 0 sends two messages and wants a reply to the first; tile 1 fetches that and replies to it
commands : List Step
commands = given 0 1 4 16 6 ∷ given 0 1 4 16 65535 ∷ given 1 5 7 0 0 ∷ given 1 2 7 16 0 ∷ []

end : World
end = run (start (machine crowded)) commands

slot_at_end : ℕ → ℕ → Held
slot_at_end r i = holds (view end.machine.words) end.ledger r i

record Shown : Type 0 where
  session_is_sound : check (machine session) ≡ Ok true
  too_many_is_not : check (machine too_many) ≡ Ok false
  crowded_is_sound : check (machine crowded) ≡ Ok true
  commands_are_wide : AllNarrow commands
  -- the books of tile 0's sender: 1 credit and 2 messages are 2 credits and 1 reply
  credits : (send_of (view end.machine.words 4)).cur_crd ≡ 1
  sent : end.ledger.sent 4 ≡ 2
  answered : end.ledger.answered 4 ≡ 1
  -- its receiver holds the second message alone, and the slot for replies the reply
  first_slot : slot_at_end 71 0 ≡ nothing
  second_slot : slot_at_end 71 1 ≡ request 4
  reply_slot : slot_at_end 6 0 ≡ reply
  -- and a SEND of tile 1 to that slot finds it full
  full : answer_of end.machine (given 1 1 8 16 65535) ≡ Err RecvNoSpace

shown : Shown
unfolding machine check slot_at_end board send_to receiver session crowded registers given commands end stored put_nth words_nth view fields_of endpoint_at upd ◌gives◌else◌ board_of in_word pages_allowed pages_of allowed start_of size_of bytes_of sizes_right acceptable acceptable_words good_table machine_right host_checks sharing.word_at sharing.set_at sharing.request_at sharing.request_good sharing.record_good sharing.sharing_good sharing.foreign sharing.crowded sharing.counted sharing.arrived sharing.taken noted opcode_of step_of command_of put_bit free_slot unread_slot slot_named range_past range_bad filled fetched cleared crosses_page outside header_word header_bytes delivery.too_long delivery.message_checks delivery.delivered delivery.landing delivery.arrival delivery.arrival_of delivery.slot_at delivery.message_to sending.send_checks sending.sep_of sending.rsize_of sending.request sending.reply_to with_credits sending.reply_placed sending.credit_spent sending.send_writes sending.request_of sending.SEND replying.from_checks replying.credit_bad replying.reply_checks replying.response room_for replying.creditable replying.credited replying.credit_to replying.credit_returned replying.reply_gone replying.slot_freed replying.reply_writes replying.response_of replying.answer_of replying.REPLY fetching.fetch_writes fetching.FETCH bytes.part bytes.put bytes.bytes bytes.word bytes.header next run too_many sum share promised sender_sound clear_of apart_from apart_at range_sound range_apart receiver_sound endpoint_sound sound wiring_of
shown =
    record {
      session_is_sound = refl;
      too_many_is_not = refl;
      crowded_is_sound = refl;
      commands_are_wide = (wide 0 1 4 16 6 (lit< tt) (lit< tt), (wide 0 1 4 16 65535 (lit< tt) (lit< tt), (wide 1 5 7 0 0 (lit< tt) (lit< tt), (wide 1 2 7 16 0 (lit< tt) (lit< tt), tt))));
      credits = refl;
      sent = refl;
      answered = refl;
      first_slot = refl;
      second_slot = refl;
      reply_slot = refl;
      full = refl;
    }
