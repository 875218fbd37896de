-- What the later parts of SEND and REPLY ask of the earlier ones: their checks have passed.
use Rattle.std.specs.Prelude.{ℕ, ◌+◌, ◌*◌, ◌<◌, ◌≤◌, ◌≡◌}
use Rattle.board.specs.Board.{size_of}
use Rattle.board.specs.declared.Board.{Board}
use Rattle.endpoint.specs.declared.SendFields.{SendFields}
use Rattle.endpoint.specs.declared.ReceiveFields.{ReceiveFields}
use Rattle.table.specs.Table.{Table}
use Rattle.slots.specs.Slots.{InReach}
use Rattle.command.specs.declared.Registers.{Registers}
use Rattle.messages.specs.Send.{rsize_of}

-- SEND by endpoint ep of a tile: a credit is left, the reply endpoint's number and slot size are small, the payload is short and local
pub record Sendable (b : Board) (t : Table) (tile ep : ℕ) (s : SendFields) (a : Registers) : Type 0 where
  pub from : ep < 64
  pub credit : 0 < s.cur_crd
  pub rep_small : a.arg0 < 65536
  pub rsize_small : rsize_of t tile a ≤ 11
  pub short : a.size < 4096
  pub local_in : a.addr + a.size ≤ size_of b tile

-- REPLY to slot i of the endpoint ep of a tile by the reply endpoint s
pub record Replyable (b : Board) (tile ep : ℕ) (g : ReceiveFields) (i : ℕ) (s : SendFields) (a : Registers) : Type 0 where
  pub from : ep < 64
  pub slot : i < 32
  pub reach : g.rpl_eps + i < 64
  pub credit_small : s.crd_ep < 65536
  pub credit_in : (s.crd_ep ≡ 65535 → ⊥) → s.crd_ep < 64
  pub short : a.size < 4096
  pub local_in : a.addr + a.size ≤ size_of b tile

-- the endpoint at number rep may get a credit: it is one of its tile's
pub record Creditable (rep : ℕ) : Type 0 where
  pub there : (rep ≡ 65535 → ⊥) → rep < 64

-- the target's words are lent, and its slot's reply endpoint is one of its tile's
pub record Landed (n : ℕ) (s : SendFields) (r : ReceiveFields) (i : ℕ) : Type 0 where
  pub words : s.tgt_tile * 192 + 192 ≤ n
  pub live : s.tgt_ep < 64
  pub small : i < 32
  pub reach : InReach r i

-- the slot that REPLY names is one of the slots, and its reply endpoint one of the tile's
pub record Named (ep : ℕ) (g : ReceiveFields) (i : ℕ) : Type 0 where
  pub from : ep < 64
  pub slot : i < 32
  pub reach : g.rpl_eps + i < 64
