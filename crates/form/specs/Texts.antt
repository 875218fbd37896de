-- What is written of a value.
use Rattle.std.specs.Prelude.{ℕ, List, [], ◌++◌, if◌then◌else◌, ◌==◌, codes}
use Rattle.std.specs.Fmt.{decimal}
use Rattle.output.specs.Columns.{hex_text}

-- 0x and hexadecimal
abbrev pub hexadecimal : ℕ → List ℕ
hexadecimal n = codes "0x" ++ hex_text n

-- the s of a plural
abbrev pub plural : ℕ → List ℕ
plural n = if n == 1 then [] else codes "s"

-- a permission as a script writes it
abbrev pub permission : ℕ → List ℕ
permission n = if n == 1 then codes "r" else if n == 2 then codes "w" else if n == 3 then codes "rw" else decimal n

-- what a permission allows
abbrev pub allowed : ℕ → List ℕ
allowed n = if n == 1 then codes "read" else if n == 2 then codes "write" else if n == 3 then codes "read and write"
    else codes "neither read nor write"

-- a number, of which one has a name
abbrev pub named : ℕ → List ℕ → ℕ → List ℕ
named special name n = if n == special then name else decimal n
