-- What `default` gives is what a place of the list holds that is not used.
use mathlib.Core.Path.{◌≡◌}
use mathlib.Core.Bool.{false}
use Rattle.pdu.specs.declared.PduFields.{PduFields}
use Rattle.frame_reader.specs.Answers.{no_pdu}

pub pdu_blank : (p : PduFields) →
    (p.command ≡ 0) × ((p.index ≡ 0) × ((p.address ≡ 0) × ((p.len ≡ 0) × ((p.circulated ≡ false) × ((p.more_follows ≡ false) × ((p.irq ≡ 0) × ((p.place ≡ 0) × (p.counter ≡ 0))))))))
    → p ≡ no_pdu
pdu_blank p d i = record {
  command = d.0 i;
  index = d.1.0 i;
  address = d.1.1.0 i;
  len = d.1.1.1.0 i;
  circulated = d.1.1.1.1.0 i;
  more_follows = d.1.1.1.1.1.0 i;
  irq = d.1.1.1.1.1.1.0 i;
  place = d.1.1.1.1.1.1.1.0 i;
  counter = d.1.1.1.1.1.1.1.1 i;
}
