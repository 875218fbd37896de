-- A byte in hexadecimal is its two digits.
use Rattle.std.proofs.Common.{◌≡◌, ℕ, ◌/◌, ◌%◌, ◌<◌, [], ◌∷◌, sym, ◌∙◌, false}
use Rattle.std.specs.Fmt.{digits, digit_glyph}
use Rattle.std.proofs.lemmas.Fmt.{hex_byte}
use Rattle.output.proofs.Padding.{zero_padded}
use Rattle.contents.specs.Rows.{byte_text}

pub two_digits : (b : ℕ) → b < 256 → 32 ∷ digit_glyph false (b / 16) ∷ digit_glyph false (b % 16) ∷ [] ≡ byte_text b
two_digits b byte = (λ k. 32 ∷ (sym (hex_byte false b byte) ∙ zero_padded 2 (digits 16 false b)) k)
