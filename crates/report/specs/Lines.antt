-- The lines that a run prints, in columns.
use Rattle.std.specs.Prelude.{ℕ, ◌-◌, List, ◌++◌, length, replicate, Option, Some, None, if◌then◌else◌, ◌==◌, codes}
use Rattle.std.specs.Fmt.{decimal}

-- a number, with blanks before it up to a width
abbrev pub right : ℕ → ℕ → List ℕ
right width n = replicate (width - length (decimal n)) 32 ++ decimal n

-- a text, with blanks after it up to a width
abbrev pub left : ℕ → List ℕ → List ℕ
left width text = text ++ replicate (width - length text) 32

-- what stands above the columns
abbrev pub header : List ℕ
header = codes " line  tile  statement            no  answer              ARG_1\n"

-- the tile that a line is about, if any
abbrev pub tile : Option ℕ → List ℕ
tile (Some n) = codes "  " ++ right 4 n
tile None = codes "     -"

-- the line's number, the tile and the statement
abbrev pub place : ℕ → Option ℕ → List ℕ → List ℕ
place line about label = right 5 line ++ (tile about ++ (codes "  " ++ (left 19 label ++ codes " ")))

-- an answer's number, if it has one
abbrev pub number_text : Option ℕ → List ℕ
number_text (Some n) = right 3 n ++ codes "  "
number_text None = codes "  -  "

-- an answer's name, and ARG_1 after a command's
abbrev pub named : List ℕ → Option ℕ → List ℕ
named name (Some arg1) = left 18 name ++ (codes "  " ++ (decimal arg1 ++ codes "\n"))
named name None = name ++ codes "\n"

-- what was answered where another answer was expected, and where another ARG_1 was
abbrev pub wrong_answer : List ℕ → List ℕ
wrong_answer name = codes "  -  failed: the answer was " ++ (name ++ codes "\n")

abbrev pub wrong_arg1 : ℕ → ℕ → List ℕ
wrong_arg1 arg1 expected = codes "  -  failed: ARG_1 was " ++ (decimal arg1 ++ (codes ", not " ++ (decimal expected ++ codes "\n")))

-- so many of something, with an s where they are not one
abbrev pub counted : ℕ → List ℕ → List ℕ
counted n what = if n == 1 then codes "1 " ++ what else decimal n ++ (codes " " ++ (what ++ codes "s"))

abbrev pub last_line : ℕ → ℕ → ℕ → ℕ → List ℕ
last_line commands refusals expectations failed = counted commands (codes "command") ++ (codes ", " ++ (counted refusals (codes "refusal")
    ++ (codes ", " ++ (counted expectations (codes "expectation") ++ (codes ", " ++ (decimal failed ++ codes " failed\n"))))))
