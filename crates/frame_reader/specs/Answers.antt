-- What the reader answers of what is read (RULES, reader). Definitions only.
use Rattle.std.specs.Prelude.{ℕ, ◌-◌, false, List, [], ◌++◌, length, replicate, Result, Ok, Err}
use Rattle.refusal.specs.declared.Refusal.{Refusal}
use Rattle.refusal.specs.Said.{Said, gives, refuses, said_of}
use Rattle.pdu.specs.declared.PduFields.{PduFields}
use Rattle.pdu.specs.Pdu.{pdus_most}
use Rattle.pdu.specs.Read.{Reading, read, refused}
use Rattle.frame_reader.specs.declared.FrameRead.{FrameRead}

-- a frame is said with no values: its list is said below
abbrev pub said_frame : Result FrameRead Refusal → Said
said_frame (Ok r) = gives []
said_frame (Err x) = said_of x

-- a frame, or 12
unfoldable pub read_said : Reading → Said
read_said refused = refuses 12 []
read_said (read vs) = gives []

-- what an unused place holds
abbrev pub no_pdu : PduFields
no_pdu =
    record {
      command = 0;
      index = 0;
      address = 0;
      len = 0;
      circulated = false;
      more_follows = false;
      irq = 0;
      place = 0;
      counter = 0;
    }

unfoldable pub unused : ℕ → List PduFields
unused n = replicate n no_pdu

-- the list's places: these PDUs, and the rest unused
unfoldable pub padded : List PduFields → List PduFields
padded vs = vs ++ unused (pdus_most - length vs)

-- how many PDUs an answer gives, and the places of their list; a refusal gives none, and so no place that is used
abbrev pub count_of : Result FrameRead Refusal → ℕ
count_of (Ok r) = r.count
count_of (Err x) = 0

abbrev pub pdus_in : Result FrameRead Refusal → List PduFields
pdus_in (Ok r) = r.pdus
pdus_in (Err x) = padded []
