-- The answer of what is found (RULES, received). Definitions only.
use Rattle.std.specs.Prelude.{ℕ, ◌-◌, List, ◌++◌, length, replicate, Result, Ok, Err}
use Rattle.refusal.specs.declared.Refusal.{Refusal}
use Rattle.pdu.specs.Pdu.{pdus_most}
use Rattle.received.specs.declared.ReceivedPdu.{ReceivedPdu}
use Rattle.received.specs.declared.Received.{Received}
use Rattle.received.specs.Matching.{Receiving, refused, got}

-- what an unused place holds
abbrev pub none_pdu : ReceivedPdu
none_pdu = record { place = 0; len = 0; counter = 0 }

unfoldable pub unused : ℕ → List ReceivedPdu
unused n = replicate n none_pdu

-- the list's places: these PDUs, and the rest unused
unfoldable pub padded : List ReceivedPdu → List ReceivedPdu
padded ps = ps ++ unused (pdus_most - length ps)

-- a refusal, or the list
unfoldable pub told : Receiving → Result Received Refusal
told (refused x) = Err x
told (got ps) = Ok (record { count = length ps; pdus = padded ps })
