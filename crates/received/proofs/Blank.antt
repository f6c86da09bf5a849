-- What `default` gives is what a place of the list holds that is not used.
use mathlib.Core.Path.{◌≡◌}
use Rattle.received.specs.Answers.{none_pdu}
use Rattle.received.specs.declared.ReceivedPdu.{ReceivedPdu}

pub pdu_blank : (p : ReceivedPdu) → (p.place ≡ 0) × ((p.len ≡ 0) × (p.counter ≡ 0)) → p ≡ none_pdu
pdu_blank p d i = record { place = d.0 i; len = d.1.0 i; counter = d.1.1 i }
