-- A row of `dump`, as it is printed.
use Rattle.std.specs.Prelude.{ℕ, ◌+◌, ◌*◌, ◌-◌, ◌&&◌, List, ◌++◌, length, map, replicate, if◌then◌else◌, nat_le, codes}
use Rattle.std.specs.Fmt.{decimal}
use Rattle.std.specs.List.{flat_map}
use Rattle.output.specs.Columns.{hex_text}

-- a number in hexadecimal, of so many digits at least
abbrev pub hex : ℕ → ℕ → List ℕ
hex digits n = replicate (digits - length (hex_text n)) 48 ++ hex_text n

-- TILE:ADDRESS
abbrev pub row_start : ℕ → ℕ → List ℕ
row_start tile address = decimal tile ++ (codes ":0x" ++ (hex 4 address ++ codes " "))

-- a byte among the others
abbrev pub byte_text : ℕ → List ℕ
byte_text b = codes " " ++ hex 2 b

-- what stands for a byte between the bars: itself, or a full stop where it is not printable
abbrev pub printable : ℕ → ℕ
printable b = if nat_le 32 b && nat_le b 126 then b else 46

-- the bytes, in 16 columns, and between bars what of them is printable
abbrev pub row : ℕ → ℕ → List ℕ → List ℕ
row tile address bytes = row_start tile address ++ (flat_map byte_text bytes ++ (replicate ((16 - length bytes) * 3 + 2) 32
    ++ (codes "|" ++ (map printable bytes ++ codes "|\n"))))
