-- What is told of mistakes.
use Rattle.std.specs.Prelude.{ℕ, List, ◌++◌, if◌then◌else◌, ◌==◌, nat_le, codes}
use Rattle.std.specs.Fmt.{decimal}
use Rattle.mistakes.specs.Found.{found}

-- where a mistake stands, and what was found there
abbrev pub found_at : ℕ → ℕ → List ℕ → List ℕ
found_at line column text = decimal line ++ (codes ":" ++ (decimal column ++ (codes ": found " ++ (found text ++ codes ", expected "))))

-- the script ends before its board
abbrev pub no_board : ℕ → List ℕ
no_board line = decimal line ++ codes ":1: found the script's end, expected board, the first statement\n"

-- how many mistakes there are, of which the first 20 are told
abbrev pub count : ℕ → List ℕ
count n = if n == 1 then codes "1 mistake; nothing was run\n"
    else if nat_le n 20 then decimal n ++ codes " mistakes; nothing was run\n"
    else decimal n ++ (codes " mistakes, the first " ++ (decimal 20 ++ codes " of them told; nothing was run\n"))
