-- Document 01, "Sound wiring": credits held towards a receiver are the cur_crd of send endpoints without the reply mark that aim at
-- it; the credits promised to it are the max_crd aimed at it. A receiver is named by its place in the table, of which n are looked at.
use Rattle.std.specs.Prelude.{ℕ, Bool, not, cond, ◌&&◌, eqb, ltb}
use Rattle.endpoint.specs.declared.SendFields.{SendFields}
use Rattle.endpoint.specs.declared.Endpoint.{Endpoint}
use Rattle.endpoint.specs.declared.Endpoint.TheVariants.{Invalid, Send, Receive, Memory}
use Rattle.table.specs.Table.{Table, place}
use Rattle.wiring.specs.Sums.{sum}

-- s has no reply mark and aims at an endpoint
abbrev pub sends : SendFields → Bool
sends s = not s.reply && (eqb s.tgt_chip 0 && ltb s.tgt_ep 64)

-- and that is the one at place r
abbrev pub aims_at : ℕ → SendFields → Bool
aims_at r s = sends s && eqb (place s.tgt_tile s.tgt_ep) r

-- what an endpoint adds to a sum over those that aim at place r
unfoldable pub share : (SendFields → ℕ) → ℕ → Endpoint → ℕ
share f r Invalid = 0
share f r (Send s) = cond (aims_at r s) (f s) 0
share f r (Receive g) = 0
share f r (Memory m) = 0

-- credits held by an endpoint towards the receiver at place r, and by all
abbrev pub held : ℕ → Endpoint → ℕ
held r x = share (λ s. s.cur_crd) r x

unfoldable pub credits_held : ℕ → Table → ℕ → ℕ
credits_held n t r = sum n (λ q. held r (t q))

-- credits promised by an endpoint to the receiver at place r, and by all
abbrev pub promise : ℕ → Endpoint → ℕ
promise r x = share (λ s. s.max_crd) r x

unfoldable pub promised : ℕ → Table → ℕ → ℕ
promised n t r = sum n (λ q. promise r (t q))
