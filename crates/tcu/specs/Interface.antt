-- What a C caller gets: the number of the answer, and all that it lent, as they are afterwards. Each is a function of what the
-- library's call comes to, with document 01's number for the answer. A refusal changes nothing.
use Rattle.std.specs.Prelude.{ℕ, Bool, true, false, ◌&&◌, List, [], ◌∷◌, Result, Ok, Err, if◌then◌else◌, eqb, length}
use Rattle.answers.specs.Answers.{code_of, number_of}
use Rattle.answers.specs.declared.Error.{Error}
use Rattle.answers.specs.declared.Error.TheVariants.{BadMachine}
use Rattle.endpoint.specs.Turning.{unpack_of}
use Rattle.endpoint.specs.declared.Words.{Words}
use Rattle.endpoint.specs.declared.Endpoint.{Endpoint}
use Rattle.sharing.specs.declared.Waiting.{Waiting}
use Rattle.machine.specs.Machine.{Left}
use Rattle.command.specs.declared.Registers.{Registers}
use Rattle.lists.specs.Fields.{field_values, pack_list}

-- ---- what the caller passes, as the library takes it
abbrev pub registers : (arg0 addr size arg1 : ℕ) → Registers
registers arg0 addr size arg1 = record { arg0 = arg0; addr = addr; size = size; arg1 = arg1 }

abbrev pub three : (first second third : ℕ) → Words
three first second third = record { first = first; second = second; third = third }

-- ---- a call of the machine: the number, ARG_1, the words, the sharing records and the bytes
pub record Returned : Type 0 where
  pub number : ℕ
  pub arg1 : ℕ
  pub words : List ℕ
  pub sharing : List ℕ
  pub bytes : List ℕ

unfoldable pub returned : ℕ → ℕ → List ℕ → List ℕ → List ℕ → Returned
returned n x ws sh bs = record { number = n; arg1 = x; words = ws; sharing = sh; bytes = bs }

unfoldable pub in_c : Left → Returned
in_c o = returned (number_of o.completion.answer) o.completion.arg1 o.words o.sharing o.bytes

-- ---- the wiring check: 1 for yes and 0 for no
abbrev pub wiring_in_c : Result Bool Error → ℕ
wiring_in_c (Ok true) = 1
wiring_in_c (Ok false) = 0
wiring_in_c (Err e) = code_of e

-- ---- words into fields, or back: the number, and the list that was lent for them
pub record Turned : Type 0 where
  pub number : ℕ
  pub list : List ℕ

unfoldable pub turned : ℕ → List ℕ → Turned
turned n l = record { number = n; list = l }

-- what is waiting into three numbers, l before: how many requests wait, and the oldest's endpoint and activity. BAD_MACHINE where there
-- are not three
abbrev pub numbers_of : Waiting → List ℕ
numbers_of w = w.count ∷ w.ep ∷ w.act ∷ []

unfoldable pub waits_in_c : List ℕ → Result Waiting Error → Turned
waits_in_c l (Ok w) = turned 0 (numbers_of w)
waits_in_c l (Err e) = turned (code_of e) l

unfoldable pub waiting_in_c : List ℕ → Result Waiting Error → Turned
waiting_in_c l x = if eqb (length l) 3 then waits_in_c l x else turned (code_of BadMachine) l

-- the words w into a list, l before: BAD_MACHINE where it has not eleven numbers
unfoldable pub fields_in_c : List ℕ → Result Endpoint Error → Turned
fields_in_c l (Ok e) = turned 0 (field_values e)
fields_in_c l (Err x) = turned (code_of x) l

unfoldable pub unpack_in_c : ℕ → Words → List ℕ → Turned
unpack_in_c m w l = if eqb (length l) 11 then fields_in_c l (unpack_of m w) else turned (code_of BadMachine) l

-- the numbers l into three words, ws before: BAD_MACHINE for any other lengths
abbrev pub list_of : Words → List ℕ
list_of w = w.first ∷ w.second ∷ w.third ∷ []

unfoldable pub words_in_c : List ℕ → Result Words Error → Turned
words_in_c ws (Ok w) = turned 0 (list_of w)
words_in_c ws (Err x) = turned (code_of x) ws

unfoldable pub pack_in_c : ℕ → List ℕ → List ℕ → Turned
pack_in_c m l ws = if eqb (length l) 11 && eqb (length ws) 3 then words_in_c ws (pack_list m l) else turned (code_of BadMachine) ws
