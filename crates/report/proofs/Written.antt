-- What a text holds that was empty before something was written to it.
use Rattle.std.proofs.Common.{◌≡◌, ℕ, List, [], ◌++◌, ap, ◌∙◌}
use Rattle.std.specs.Fmt.{WritesInCalls}
use Rattle.std.proofs.lemmas.Fmt.{contents_after_writes}
use Rattle.arrayvec.specs.ArrayString.{ArrayString}

abbrev bytes : ArrayString → List ℕ
bytes s = s.bytes

abbrev pub Gives : ArrayString → List ℕ → ArrayString → Type 0
Gives s bs t = t.bytes ≡ s.bytes ++ bs

pub written : (s : ArrayString) (bs : List ℕ) (t : ArrayString) → s.bytes ≡ [] → WritesInCalls Gives s bs t → t.bytes ≡ bs
written s bs t e w = contents_after_writes Gives bytes (λ _ _ _ gives. gives) s bs t w ∙ ap (λ l. l ++ bs) e
