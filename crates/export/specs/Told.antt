-- How an answer is told to a program in another language: a code, and numbers over the front of a row that it lends. Definitions only.
use Rattle.std.specs.Prelude.{ℕ, ltb, length}
use mathlib.Core.List.{List, [], ◌∷◌, ◌++◌, flat_map}
use Rattle.refusal.specs.Said.{Said, gives, absent, refuses, pick}
use Rattle.wire.specs.Bytes.{laid}
use Rattle.pdu.specs.Pdu.{frame_header_bytes}
use Rattle.pdu.specs.Answers.{header_said, pdu_values}
use Rattle.pdu.specs.declared.PduFields.{PduFields}
use Rattle.created_frame.specs.declared.Builder.{Builder}
use Rattle.created_frame.specs.Answers.{state_values}
use Rattle.spread.specs.Row.{Run}

-- the code: 0 where values are given, 255 where there are none, and a refusal's number
abbrev pub code_of : Said → ℕ
code_of (gives l) = 0
code_of absent = 255
code_of (refuses n l) = n

-- the values that are told
abbrev pub values_in : Said → List ℕ
values_in (gives l) = l
values_in absent = []
values_in (refuses n l) = l

-- the row after it: the values at its front, as many as have room, and behind them what it held
unfoldable pub row_over : List ℕ → Said → List ℕ
row_over row said = laid row 0 (values_in said)

-- ---- the builder

-- a state of three numbers
abbrev pub state_of : ℕ → ℕ → ℕ → Builder
state_of used count last = record { used = used; count = count; last = last }

-- the values that are given; a refusal's are not
abbrev pub given_in : Said → List ℕ
given_in (gives l) = l
given_in absent = []
given_in (refuses n l) = []

-- the row after a push: the state and the next index, whatever is said, and then what is given
unfoldable pub state_over : List ℕ → Builder → ℕ → Said → List ℕ
state_over row b next said = laid row 0 (state_values b ++ next ∷ given_in said)

-- bytes after a call that may give some: these at their front, or what they were
unfoldable pub bytes_over : List ℕ → Said → List ℕ → List ℕ
bytes_over before (gives l) bytes = laid before 0 bytes
bytes_over before absent bytes = before
bytes_over before (refuses n l) bytes = before

-- what is told of a frame's header that is to go to so many bytes: fewer than its own are an argument out of bounds
unfoldable pub header_told : ℕ → ℕ → Said
header_told used room = pick (ltb room frame_header_bytes) (refuses 14 []) (header_said used)

-- ---- rows of records

-- how many numbers a row has before its records at most, and how many each record has
abbrev pub before_most : ℕ
before_most = 2

abbrev pub each_most : ℕ
each_most = 9

-- the row after a spreading: the next index, how many areas have a state, and the numbers of each
unfoldable pub run_over : List ℕ → Run → List ℕ
run_over row run = laid row 0 (run.next ∷ length run.states ∷ flat_map state_values run.states)

-- the row after reading a frame: how many PDUs it has, and the fields of each
unfoldable pub pdus_over : List ℕ → List PduFields → List ℕ
pdus_over row pdus = laid row 0 (length pdus ∷ flat_map pdu_values pdus)
