-- `wiring::Endpoints::promised_to` meets its contract: what each endpoint promises, summed up. Assumes nothing.
use Rattle.std.proofs.Common.{ℕ, ◌*◌, rules, arith, ◌∙◌}
use Rattle.std.specs.List.{range_with_len}
use Rattle.std.proofs.lemmas.Iterator.{YieldsList-from_map, YieldsList-from_range}
use Rattle.std.proofs.lemmas.Iterator.Consumers.{fits_by_from_yields_list, sum_by_from_yields_List}
use Rattle.table.specs.Table.{view}
use Rattle.wiring.specs.Credits.{promise, promised}
use Rattle.wiring.proofs.Low.{promised_few}
use Rattle.wiring.proofs.SumLaws.{summed, sum_small}
use Rattle.wiring.proofs.Endpoints.promised_to.Goals as goal

pub sum-requires-clause-fits : goal.sum-requires-clause-fits
sum-requires-clause-fits c =
    let s = c.args.self.now in
    let f = λ (q : ℕ). promise c.args.place (view s.words.now q) in
    fits_by_from_yields_list f (range_with_len 0 (s.tiles * 64)) c.map.result _
    (YieldsList-from_map _ f (YieldsList-from_range 0 _ _ c.map.ensures.source (omega arith)) c.map.ensures.closure (λ x r q k. search rules))
    (omega (arith, summed f (s.tiles * 64), sum_small (s.tiles * 64) 63 f (promised_few s.words.now c.args.place), s.few))

pub returns : goal.returns
unfolding promised
returns c =
    let s = c.args.self.now in
    let f = λ (q : ℕ). promise c.args.place (view s.words.now q) in
    sum_by_from_yields_List f (range_with_len 0 (s.tiles * 64)) c.map.result _ c.sum.ensures.ran
    (YieldsList-from_map _ f (YieldsList-from_range 0 _ _ c.map.ensures.source (omega arith)) c.map.ensures.closure (λ x r q k. search rules))
    ∙ summed f (s.tiles * 64)
