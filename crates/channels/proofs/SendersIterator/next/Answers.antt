use Rattle.std.proofs.Common.{refl}
use Rattle.channels.proofs.Search.{not_before, after}
use Rattle.channels.proofs.SendersIterator.next.Goals as goal

pub returns-clause-steps : goal.returns-clause-steps
returns-clause-steps c =
    let d = c.in_ok-place.ensures.ran in
    record {
      not_before = not_before c.args.self.now.endpoints c.find.new.self (c.in_ok-place.place, c.in_ok-place.field-0-1) d.0 d.2;
      after = after c.args.self.now.endpoints c.find.new.self (c.in_ok-place.place, c.in_ok-place.field-0-1) d.0 d.2;
      receiver = refl;
    }
