-- What was found where a mistake stands, as it is told.
use Rattle.std.specs.Prelude.{ℕ, ◌-◌, ◌&&◌, List, [], ◌∷◌, ◌++◌, length, take, replicate, if◌then◌else◌, ◌==◌, nat_le, codes}
use Rattle.std.specs.List.{flat_map}
use Rattle.output.specs.Columns.{hex_text}

-- a byte: itself where it is printable, others as \xNN
abbrev pub shown : ℕ → List ℕ
shown b = if nat_le 32 b && nat_le b 126 then b ∷ [] else codes "\\x" ++ (replicate (2 - length (hex_text b)) 48 ++ hex_text b)

-- 40 bytes at most, between quotes, and dots where there are more
abbrev pub found : List ℕ → List ℕ
found bytes = if length bytes == 0 then codes "the line's end"
    else if nat_le (length bytes) 40 then codes "'" ++ (flat_map shown bytes ++ codes "'")
    else codes "'" ++ (flat_map shown (take 40 bytes) ++ codes "..'")
