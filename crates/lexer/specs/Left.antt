-- What is left of a line, and what a token takes of it.
use Rattle.std.specs.Prelude.{◌≡◌, ℕ, ◌<◌, ◌≤◌, ◌-◌, ◌⊎◌, Option, MatchOption, List, [], ◌∷◌, ◌++◌, length, slice_range}
use Rattle.lexer.specs.declared.Kind.TheVariants.{End}
use Rattle.lexer.specs.declared.Token.{Token}
use Rattle.lexer.specs.declared.Tokens.{Tokens}

abbrev pub left_of : Tokens → ℕ
left_of t = length t.line.now - t.at

-- a token is a part of the line that has a byte at least, behind what was read before; what is read ends where it ends
pub record IsNextPart (old : Tokens) (x : Token) (new : Tokens) : Type 0 where
  pub line : new.line.now ≡ old.line.now
  pub behind : old.at ≤ x.start
  pub some : x.start < new.at
  pub text : x.text.now ≡ slice_range old.line.now x.start new.at

-- the next token, or nothing where the line has no more
abbrev pub TakesNext : Tokens → Option Token → Tokens → Type 0
TakesNext old r new = MatchOption r (new ≡ old) (λ x. IsNextPart old x new)

-- the line's end, which has no byte and stands where the search for it began
pub record IsLineEnd (old : Tokens) (x : Token) (new : Tokens) : Type 0 where
  pub kind : x.kind ≡ End
  pub start : x.start ≡ old.at
  pub text : x.text.now ≡ []
  pub same : new ≡ old

-- the next token, or the line's end
abbrev pub TakesNextOrEnd : Tokens → Token → Tokens → Type 0
TakesNextOrEnd old x new = IsNextPart old x new ⊎ IsLineEnd old x new

-- a line is taken without its line feed
abbrev pub IsWithoutFeed : List ℕ → List ℕ → Type 0
IsWithoutFeed line taken = (taken ++ 10 ∷ [] ≡ line) ⊎ (taken ≡ line)
