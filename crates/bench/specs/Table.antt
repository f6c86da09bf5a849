-- THE TABLE: RULES, bench, each case marked P. A row sets what the definitions say beside what was measured. Definitions only.
use Rattle.std.specs.Prelude.{ℕ, ◌+◌, ◌*◌, true, false, List, [], ◌∷◌, ◌++◌, length, take, replicate}
use Rattle.refusal.specs.Said.{Said, gives, absent, refuses}
use Rattle.pdu.specs.Pdu.{frame_header}
use Rattle.crc.specs.Crc.{crc_of}
use Rattle.category.specs.Numbers as numbers
use Rattle.category.specs.Category.{category_said}
use Rattle.strings.specs.Strings.{string_said}
use Rattle.ports.specs.declared.Ports.{Ports}
use Rattle.ports.specs.Ports.{fresh, times_set}
use Rattle.ports.specs.Delays.{total_said, intermediate_said}
use Rattle.created_frame.specs.Frame.{pushed, pushed_next}
use Rattle.created_frame.specs.Frame.{fresh as opened}
use Rattle.created_frame.specs.Built.{a_push, Kept, opened_with, run}
use Rattle.spread.specs.Row.{spread_of}
use Rattle.bench.specs.Agrees.{Case}

abbrev row : Said → Said → Case
row says measured = record { says = says; measured = measured }

-- ---- what the cases speak of

-- n empty type-0 headers from word 0x0040 on, then empty strings
unfoldable pub empties_then_strings : ℕ → List ℕ
empties_then_strings n = replicate (128 + 4 * n) 0 ++ (10 ∷ 0 ∷ 0 ∷ 0 ∷ [])

-- strings `02 03 41 00 B5 01 42 00`
unfoldable pub two_strings : List ℕ
two_strings = replicate 128 0 ++ (10 ∷ 0 ∷ 4 ∷ 0 ∷ 0x02 ∷ 0x03 ∷ 0x41 ∷ 0x00 ∷ 0xB5 ∷ 0x01 ∷ 0x42 ∷ 0x00 ∷ [])

-- what is said of string number i of them, for a room of 8 bytes
abbrev pub string_no : ℕ → Said
string_no i = string_said two_strings i 8

-- all four active, 100 200 300 400 by place
unfoldable pub four : Ports
four = times_set (fresh true true true true) 100 200 300 400

-- active 0, 3, 2 at 10, 30, 90
unfoldable pub three : Ports
three = times_set (fresh true true false true) 10 30 0 90

-- an area of 28; command 7, address `00 00 30 01`, data `00 00`; then 5, `01 10 20 01`, `08 00`; first index 0
unfoldable pub built : Kept
built = run (opened_with (replicate 28 255) 0) (a_push 7 0x01300000 (0x00 ∷ 0x00 ∷ []) 0 ∷ a_push 5 0x01201001 (0x08 ∷ 0x00 ∷ []) 0 ∷ [])

-- the frame, header first
abbrev pub frame : Kept → List ℕ
frame k = frame_header k.builder.used ++ take k.builder.used k.area

-- what an empty push says then, and the next index
abbrev pub empty_push : Kept → Said
empty_push k = pushed (length k.area) k.builder k.next 0 0 0

abbrev pub next_index : Kept → ℕ
next_index k = pushed_next (length k.area) k.builder k.next 0 0 0

-- what is said of an image of n bytes over two areas of 100, empty
abbrev pub over_two : ℕ → Said
over_two n = (spread_of (replicate 200 0) 100 opened 0 12 0 (replicate n 0)).said

-- ---- the table

unfoldable pub cases : List Case
cases =
    -- CRC of 14 zero bytes, and of "123456789"
    row (gives (crc_of (replicate 14 0) ∷ [])) (gives (0x30 ∷ []))
    ∷ row (gives (crc_of (0x31 ∷ 0x32 ∷ 0x33 ∷ 0x34 ∷ 0x35 ∷ 0x36 ∷ 0x37 ∷ 0x38 ∷ 0x39 ∷ []) ∷ [])) (gives (0xFB ∷ []))
    -- 31 empty type-0 headers, then empty strings; with 30: found, empty
    ∷ row (category_said (empties_then_strings 31) numbers.strings) absent
    ∷ row (category_said (empties_then_strings 30) numbers.strings) (gives (252 ∷ 252 ∷ []))
    -- strings 1 to 4: `A?`, `B`, the empty string, absent
    ∷ row (string_no 1) (gives (0x41 ∷ 0x3F ∷ []))
    ∷ row (string_no 2) (gives (0x42 ∷ []))
    ∷ row (string_no 3) absent
    ∷ row (string_no 4) absent
    -- total; intermediate to port 2
    ∷ row (total_said four) (gives (300 ∷ []))
    ∷ row (intermediate_said three 2) (gives (20 ∷ []))
    -- the frame; an empty push then; the next index
    ∷ row (gives (frame built)) (gives (
    0x1C ∷ 0x10
    ∷ 0x07 ∷ 0x00 ∷ 0x00 ∷ 0x00 ∷ 0x30 ∷ 0x01 ∷ 0x02 ∷ 0x80 ∷ 0x00 ∷ 0x00 ∷ 0x00 ∷ 0x00 ∷ 0x00 ∷ 0x00
    ∷ 0x05 ∷ 0x01 ∷ 0x01 ∷ 0x10 ∷ 0x20 ∷ 0x01 ∷ 0x02 ∷ 0x00 ∷ 0x00 ∷ 0x00 ∷ 0x08 ∷ 0x00 ∷ 0x00 ∷ 0x00 ∷ []
    ))
    ∷ row (empty_push built) (refuses 8 [])
    ∷ row (gives (next_index built ∷ [])) (gives (3 ∷ []))
    -- areas of 100, two, empty: 88 ends in 1, 89 in 2, 177 is refused
    ∷ row (over_two 88) (gives (1 ∷ []))
    ∷ row (over_two 89) (gives (2 ∷ []))
    ∷ row (over_two 177) (refuses 13 [])
    ∷ []
