-- The frame of the bench (RULES, bench) is read as the two PDUs that were pushed into it: by computing.
use Prim.Native.Nat.{ℕ}
use mathlib.Core.Path.{◌≡◌, refl}
use mathlib.Core.Bool.{true, false}
use mathlib.Core.List.{List, [], ◌∷◌, ◌++◌, map}
use Rattle.wire.specs.Bytes.{byte_at}
use Rattle.pdu.specs.Pdu.{Pdu, frame_header, layout}
use Rattle.pdu.specs.Read.{rightly, body_at, places_at, headed, frame_of, seen_at, payload_of, read_of, read, shown_all}

-- 1C 10 07 00 00 00 30 01 02 80 00 00 00 00 00 00 05 01 01 10 20 01 02 00 00 00 08 00 00 00
abbrev pub bench_frame : List ℕ
bench_frame =
    28 ∷ 16
    ∷ 7 ∷ 0 ∷ 0 ∷ 0 ∷ 48 ∷ 1 ∷ 2 ∷ 128 ∷ 0 ∷ 0
    ∷ 0 ∷ 0 ∷ 0 ∷ 0
    ∷ 5 ∷ 1 ∷ 1 ∷ 16 ∷ 32 ∷ 1 ∷ 2 ∷ 0 ∷ 0 ∷ 0
    ∷ 8 ∷ 0 ∷ 0 ∷ 0 ∷ []

-- command 7, index 0, address 00 00 30 01, data 00 00; command 5, index 1, address 01 10 20 01, data 08 00
abbrev pub bench_pdus : List Pdu
bench_pdus =
    record { command = 7; index = 0; address = 19922944; extra = 0; irq = 0; payload = 0 ∷ 0 ∷ []; counter = 0 }
    ∷ record { command = 5; index = 1; address = 18878465; extra = 0; irq = 0; payload = 8 ∷ 0 ∷ []; counter = 0 }
    ∷ []

-- the header and the PDUs laid behind it are these bytes
pub bench_laid : frame_header 28 ++ layout bench_pdus ≡ bench_frame
unfolding layout
bench_laid = refl

pub bench_read : read_of bench_frame ≡ read (shown_all 2 bench_pdus)
unfolding read_of frame_of headed places_at body_at rightly seen_at byte_at shown_all
bench_read = refl

-- the fields, spelled out: the payloads lie at 12 and at 26
pub bench_fields : shown_all 2 bench_pdus
    ≡ record { command = 7; index = 0; address = 19922944; len = 2; circulated = false; more_follows = true; irq = 0; place = 12; counter = 0 }
    ∷ record { command = 5; index = 1; address = 18878465; len = 2; circulated = false; more_follows = false; irq = 0; place = 26; counter = 0 }
    ∷ []
unfolding shown_all
bench_fields = refl

pub bench_payloads : map (payload_of bench_frame) (shown_all 2 bench_pdus) ≡ (0 ∷ 0 ∷ []) ∷ (8 ∷ 0 ∷ []) ∷ []
unfolding payload_of shown_all
bench_payloads = refl
