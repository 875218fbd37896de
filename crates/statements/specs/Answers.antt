-- How an answer of the machine is told in a rehearsal: NONE, or the refusal.
use Rattle.std.specs.Prelude.{Result, Ok, Err}
use Rattle.answers.specs.declared.Error.{Error}
use Rattle.language.specs.declared.outcomes.Outcome.{Outcome}
use Rattle.language.specs.declared.outcomes.Outcome.TheVariants.{Done, Refused}

abbrev pub outcome_of : {T : Type 0} → Result T Error → Outcome
outcome_of (Ok x) = Done
outcome_of (Err e) = Refused e
