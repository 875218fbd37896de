-- Document 01, "Endpoint words": header words, 64 bits each, least byte first: flags 0..1, rsize 2..5, stile 6..13, schip 14..19,
-- length 20..31, sep 32..47, rep 48..63; then rlabel; then label; then zero.
use Rattle.std.specs.Prelude.{ℕ, List, [], ◌∷◌}
use Rattle.endpoint.specs.Layout.{Field, field, word}
use Rattle.memory.specs.Bytes.{header}
use Rattle.delivery.specs.declared.Header.{Header}

abbrev pub header_fields : Header → List Field
header_fields h =
    field 0 1 h.flags ∷ field 2 5 h.rsize ∷ field 6 13 h.stile ∷ field 14 19 h.schip
    ∷ field 20 31 h.length ∷ field 32 47 h.sep ∷ field 48 63 h.rep ∷ []

unfoldable pub header_word : Header → ℕ
header_word h = word (header_fields h)

unfoldable pub header_bytes : Header → List ℕ
header_bytes h = header (header_word h) h.rlabel h.label
