-- An ordered list of checks. The answer is the refusal of the first whose test holds, NONE where none does.
use Rattle.std.specs.Prelude.{Bool, List, [], ◌∷◌, Ok, Err, if◌then◌else◌}
use Rattle.answers.specs.Answers.{Answer}
use Rattle.answers.specs.declared.Error.{Error}

infix 70 ◌⇒◌
pub data Check : Type 0 where
  ◌⇒◌ : Bool → Error → Check

abbrev pub first : List Check → Answer
first [] = Ok tt
first ((b ⇒ e) ∷ l) = if b then Err e else first l

-- one list, then another
infixr 66 ◌then◌
abbrev pub ◌then◌ : {A : Type 0} → List A → List A → List A
◌then◌ [] k = k
◌then◌ (c ∷ l) k = c ∷ (l then k)

-- what an answer comes to: f e for a refusal e, and y for NONE
infixr 5 ◌fails◌else◌
abbrev pub ◌fails◌else◌ : {X : Type 0} → Answer → (Error → X) → X → X
◌fails◌else◌ (Ok x) f y = y
◌fails◌else◌ (Err e) f y = f e
