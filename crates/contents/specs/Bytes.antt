-- The memory of all tiles with bytes put into it.
use Rattle.std.specs.Prelude.{ℕ, List, ◌++◌, ◌+◌, ◌-◌, length, take, drop}

-- as many of the bytes as there are places from `at` on
abbrev pub with_bytes : List ℕ → ℕ → List ℕ → List ℕ
with_bytes memory at bytes = take at memory ++ take (length memory - at) bytes ++ drop (at + length bytes) memory
