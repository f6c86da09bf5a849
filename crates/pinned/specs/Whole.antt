-- PINNED DOWN (RULES, pinned): a row for each public call, named as the call, over the call's own contract, with nothing left to the choice of the table.
-- Of the same arguments, two results that the contract allows have the same answer and leave the same behind every reference that is lent to be changed;
-- and where the call takes a chunk, whatever the width in either (RULES, range). `.ci/promises` compares the rows' names with the public functions. Definitions only.
use Rattle.std.specs.Prelude.{ℕ, ◌≡◌, List, take}
use seplogic.Ra.Ura.{Ura}
use base.Logic.{SProp, ent}
use prog.Memory.{Memory}
use prog.Routine.{Routine}
use types.Logic.{Logic}
use mir.Syntax.{Dict}
use denote.RattleType.{RattleType}
use Rattle.std.specs.declared.clone.Clone.{Ghosts}
use contract.Lifetimes.{Lfts}
use contract.Monad.{Fun, conj, fact}
use denote.Triple.Entry.{Args, Res}
use denote.Triple.Clauses.{Ended, Lasts, at_exit, Clauses}
use Rattle.eeprom.specs.declared.Chunk.{Chunk}
use Rattle.refusal.specs.contracts as of-refusal
use Rattle.wire.specs.contracts as of-wire
use Rattle.crc.specs.contracts as of-crc
use Rattle.eeprom.specs.contracts as of-eeprom
use Rattle.category.specs.contracts as of-category
use Rattle.sii.specs.contracts as of-sii
use Rattle.setup.specs.contracts as of-setup
use Rattle.lists.specs.contracts as of-lists
use Rattle.lists.specs.declared.Record as of-lists-records
use Rattle.clock.specs.contracts as of-clock
use Rattle.strings.specs.contracts as of-strings
use Rattle.ports.specs.contracts as of-ports
use Rattle.pdu.specs.contracts as of-pdu
use Rattle.created_frame.specs.contracts as of-created-frame
use Rattle.frame_reader.specs.contracts as of-frame-reader
use Rattle.received.specs.contracts as of-received
use Rattle.spread.specs.contracts as of-spread
use Rattle.lines.specs.contracts as of-lines
use Rattle.held.specs.contracts as of-held
use Rattle.export.specs.contracts as of-export

-- a call's contract, in a model of the logic
abbrev pub Contract : {M : Type 1} → Ura M → Ended → Type 2
Contract 𝓤 T = (𝓛 : Logic 𝓤) → (Memory → SProp 𝓤) → (Routine → Fun 𝓤) → Clauses 𝓤 T

-- the arguments with the width m, which is the second, the third or the fourth of them
abbrev pub second : {L X Y : Type 0} → L → Chunk → X × (Chunk × Y) → X × (Chunk × Y)
second κs m a = (a.0, (m, a.1.1))

abbrev pub third : {L X Y Z : Type 0} → L → Chunk → X × (Y × (Chunk × Z)) → X × (Y × (Chunk × Z))
third κs m a = (a.0, (a.1.0, (m, a.1.1.1)))

abbrev pub fourth : {L X Y Z W : Type 0} → L → Chunk → X × (Y × (Z × (Chunk × W))) → X × (Y × (Z × (Chunk × W)))
fourth κs m a = (a.0, (a.1.0, (a.1.1.0, (m, a.1.1.1.1))))

-- the last values for one width are those for the other
abbrev pub IsAlike : {L B X : Type 0} → L → B → Chunk → X → X → Type 0
IsAlike κs a m ws vs = ws ≡ vs

-- a model of the logic
module _ {M : Type 1} {𝓤 : Ura M} (𝓛 : Logic 𝓤) (mem : Memory → SProp 𝓤) (run : Routine → Fun 𝓤) where
  -- what the contract says of an answer r with the last values ws, and of an answer s with the last values vs, shows that ws and vs are the same, and r and s as `seen`
  abbrev pub WholeAs : (T : Ended) → Contract 𝓤 T → (X : Lfts T.signature.lifetimes → Type 0) → ((κs : Lfts T.signature.lifetimes) → Res T.signature κs → X κs) → Type 1
  WholeAs T contract X seen =
      let c = contract 𝓛 mem run in
      (κs : Lfts T.signature.lifetimes) (a : Args T.signature κs) (g : (c κs a).ghost) (r s : Res T.signature κs) (ws vs : Lasts T κs a)
      → ent 𝓤 (conj 𝓤 ((c κs a).ensures g r (at_exit T κs a ws)) ((c κs a).ensures g s (at_exit T κs a vs))) (fact 𝓤 ((seen κs r ≡ seen κs s) × (ws ≡ vs)))

  -- .. and r and s themselves
  abbrev pub Whole : (T : Ended) → Contract 𝓤 T → Type 1
  Whole T contract = WholeAs T contract (Res T.signature) (λ κs r. r)

  -- the same where the second result is of another width, m, which `put` puts among the arguments
  abbrev pub WideAs : (T : Ended) → Contract 𝓤 T → (X : Lfts T.signature.lifetimes → Type 0) → ((κs : Lfts T.signature.lifetimes) → Res T.signature κs → X κs)
      → (put : (κs : Lfts T.signature.lifetimes) → Chunk → Args T.signature κs → Args T.signature κs)
      → ((κs : Lfts T.signature.lifetimes) (a : Args T.signature κs) (m : Chunk) → Lasts T κs a → Lasts T κs (put κs m a) → Type 0) → Type 1
  WideAs T contract X seen put Left =
      let c = contract 𝓛 mem run in
      (κs : Lfts T.signature.lifetimes) (a : Args T.signature κs) (m : Chunk) (g : (c κs a).ghost) (h : (c κs (put κs m a)).ghost)
      (r s : Res T.signature κs) (ws : Lasts T κs a) (vs : Lasts T κs (put κs m a))
      → ent 𝓤 (conj 𝓤 ((c κs a).ensures g r (at_exit T κs a ws)) ((c κs (put κs m a)).ensures h s (at_exit T κs (put κs m a) vs))) (fact 𝓤 ((seen κs r ≡ seen κs s) × Left κs a m ws vs))

  abbrev pub Wide : (T : Ended) → Contract 𝓤 T → (put : (κs : Lfts T.signature.lifetimes) → Chunk → Args T.signature κs → Args T.signature κs)
      → ((κs : Lfts T.signature.lifetimes) (a : Args T.signature κs) (m : Chunk) → Lasts T κs a → Lasts T κs (put κs m a) → Type 0) → Type 1
  Wide T contract = WideAs T contract (Res T.signature) (λ κs r. r)

  -- EVERY CALL
  pub record EveryCall : Type 1 where
    -- ---- refusal
    pub «refusal::number» : Whole of-refusal.number.ended of-refusal.number.clauses
    pub «refusal::values» : Whole of-refusal.values.ended of-refusal.values.clauses
    -- ---- wire
    pub «wire::byte_at» : Whole of-wire.byte_at.ended of-wire.byte_at.clauses
    pub «wire::word_at» : Whole of-wire.word_at.ended of-wire.word_at.clauses
    pub «wire::long_at» : Whole of-wire.long_at.ended of-wire.long_at.clauses
    pub «wire::flag» : Whole of-wire.flag.ended of-wire.flag.clauses
    pub «wire::lesser» : Whole of-wire.lesser.ended of-wire.lesser.clauses
    pub «wire::lay» : (T : RattleType) (copying : Ghosts T.Denot) (d : Dict) → Whole (of-wire.lay.ended T copying d) (of-wire.lay.clauses T copying d)
    pub «wire::fill» : Whole of-wire.fill.ended of-wire.fill.clauses
    -- ---- crc
    pub «crc::crc» : Whole of-crc.crc.ended of-crc.crc.clauses
    -- ---- eeprom
    pub «eeprom::image_within» : Whole of-eeprom.image_within.ended of-eeprom.image_within.clauses
    pub «eeprom::checked» : Whole of-eeprom.checked.ended of-eeprom.checked.clauses
    pub «eeprom::read_chunk» : Whole of-eeprom.read_chunk.ended of-eeprom.read_chunk.clauses
    -- a chunk is as wide as it is asked: of two widths the bytes that both have are the same
    pub narrow : WideAs of-eeprom.read_chunk.ended of-eeprom.read_chunk.clauses (λ κs. List ℕ) (λ κs r. take 4 r) third IsAlike
    pub «eeprom::byte_of» : Wide of-eeprom.byte_of.ended of-eeprom.byte_of.clauses second IsAlike
    pub «eeprom::word_of» : Wide of-eeprom.word_of.ended of-eeprom.word_of.clauses second IsAlike
    pub «eeprom::long_of» : Wide of-eeprom.long_of.ended of-eeprom.long_of.clauses second IsAlike
    pub «eeprom::Range::new» : Whole of-eeprom.Range.new.ended of-eeprom.Range.new.clauses
    pub «eeprom::Range::start_at» : Whole of-eeprom.Range.start_at.ended of-eeprom.Range.start_at.clauses
    pub «eeprom::Range::skip_ahead_bytes» : Whole of-eeprom.Range.skip_ahead_bytes.ended of-eeprom.Range.skip_ahead_bytes.clauses
    pub «eeprom::Range::read_byte» : Wide of-eeprom.Range.read_byte.ended of-eeprom.Range.read_byte.clauses third IsAlike
    pub «eeprom::Range::read» : Wide of-eeprom.Range.read.ended of-eeprom.Range.read.clauses third IsAlike
    pub «eeprom::Range::read_exact» : Wide of-eeprom.Range.read_exact.ended of-eeprom.Range.read_exact.clauses third IsAlike
    pub «eeprom::Range::write» : Whole of-eeprom.Range.write.ended of-eeprom.Range.write.clauses
    -- ---- category
    pub «category::category» : Wide of-category.category.ended of-category.category.clauses second IsAlike
    pub «category::category_inside» : Wide of-category.category_inside.ended of-category.category_inside.clauses second IsAlike
    -- ---- sii
    pub «sii::station_alias» : Wide of-sii.station_alias.ended of-sii.station_alias.clauses second IsAlike
    pub «sii::set_station_alias» : Whole of-sii.set_station_alias.ended of-sii.set_station_alias.clauses
    pub «sii::identity» : Wide of-sii.identity.ended of-sii.identity.clauses second IsAlike
    pub «sii::mailbox_config» : Wide of-sii.mailbox_config.ended of-sii.mailbox_config.clauses second IsAlike
    pub «sii::has_mailbox» : Whole of-sii.has_mailbox.ended of-sii.has_mailbox.clauses
    pub «sii::size» : Wide of-sii.size.ended of-sii.size.clauses second IsAlike
    pub «sii::general» : Wide of-sii.general.ended of-sii.general.clauses second IsAlike
    pub «sii::find_general» : Wide of-sii.find_general.ended of-sii.find_general.clauses second IsAlike
    pub «sii::physical_ports» : Wide of-sii.physical_ports.ended of-sii.physical_ports.clauses second IsAlike
    pub «sii::physical_memory_address» : Wide of-sii.physical_memory_address.ended of-sii.physical_memory_address.clauses second IsAlike
    pub «sii::identity_row» : Whole of-sii.identity_row.ended of-sii.identity_row.clauses
    pub «sii::mailbox_row» : Whole of-sii.mailbox_row.ended of-sii.mailbox_row.clauses
    pub «sii::ports_row» : Whole of-sii.ports_row.ended of-sii.ports_row.clauses
    pub «sii::general_row» : Whole of-sii.general_row.ended of-sii.general_row.clauses
    -- ---- setup
    pub «setup::pdi_control» : Wide of-setup.pdi_control.ended of-setup.pdi_control.clauses second IsAlike
    pub «setup::bootstrap_mailbox» : Wide of-setup.bootstrap_mailbox.ended of-setup.bootstrap_mailbox.clauses second IsAlike
    pub «setup::version» : Wide of-setup.version.ended of-setup.version.clauses second IsAlike
    pub «setup::checksum» : Wide of-setup.checksum.ended of-setup.checksum.clauses second IsAlike
    pub «setup::pdi_row» : Whole of-setup.pdi_row.ended of-setup.pdi_row.clauses
    pub «setup::bootstrap_row» : Whole of-setup.bootstrap_row.ended of-setup.bootstrap_row.clauses
    pub «setup::checksum_row» : Whole of-setup.checksum_row.ended of-setup.checksum_row.clauses
    -- ---- lists
    pub «lists::rest_behind» : Whole of-lists.rest_behind.ended of-lists.rest_behind.clauses
    pub «lists::read_records» : (R V : RattleType) (kind : of-lists-records.Ghosts R.Denot V.Denot) (k : Dict) (copying : Ghosts V.Denot) (d : Dict)
        → Wide (of-lists.read_records.ended R V kind k copying d) (of-lists.read_records.clauses R V kind k copying d) second IsAlike
    pub «lists::read_array» : (R N V : RattleType) (kind : of-lists-records.Ghosts R.Denot V.Denot) (k : Dict) (copying : Ghosts V.Denot) (d : Dict)
        → Wide (of-lists.read_array.ended R N V kind k copying d) (of-lists.read_array.clauses R N V kind k copying d) second IsAlike
    pub «lists::sync_managers» : Wide of-lists.sync_managers.ended of-lists.sync_managers.clauses second IsAlike
    pub «lists::fmmus» : Wide of-lists.fmmus.ended of-lists.fmmus.clauses second IsAlike
    pub «lists::fmmu_mappings» : Wide of-lists.fmmu_mappings.ended of-lists.fmmu_mappings.clauses second IsAlike
    pub «lists::maindevice_read_pdos» : Wide of-lists.maindevice_read_pdos.ended of-lists.maindevice_read_pdos.clauses second IsAlike
    pub «lists::maindevice_write_pdos» : Wide of-lists.maindevice_write_pdos.ended of-lists.maindevice_write_pdos.clauses second IsAlike
    pub «lists::usage_type» : Whole of-lists.usage_type.ended of-lists.usage_type.clauses
    pub «lists::sync_manager_row» : Whole of-lists.sync_manager_row.ended of-lists.sync_manager_row.clauses
    pub «lists::pdo_row» : Whole of-lists.pdo_row.ended of-lists.pdo_row.clauses
    -- ---- clock
    pub «clock::distributed_clocks» : Wide of-clock.distributed_clocks.ended of-clock.distributed_clocks.clauses second IsAlike
    pub «clock::clock_row» : Whole of-clock.clock_row.ended of-clock.clock_row.clauses
    -- ---- strings
    pub «strings::find_string» : Wide of-strings.find_string.ended of-strings.find_string.clauses second IsAlike
    pub «strings::device_name» : Wide of-strings.device_name.ended of-strings.device_name.clauses second IsAlike
    pub «strings::device_description» : Wide of-strings.device_description.ended of-strings.device_description.clauses second IsAlike
    -- ---- ports
    pub «ports::Ports::new» : Whole of-ports.Ports.new.ended of-ports.Ports.new.clauses
    pub «ports::Ports::set_receive_times» : Whole of-ports.Ports.set_receive_times.ended of-ports.Ports.set_receive_times.clauses
    pub «ports::Ports::entry_port» : Whole of-ports.Ports.entry_port.ended of-ports.Ports.entry_port.clauses
    pub «ports::Ports::last_port» : Whole of-ports.Ports.last_port.ended of-ports.Ports.last_port.clauses
    pub «ports::Ports::topology» : Whole of-ports.Ports.topology.ended of-ports.Ports.topology.clauses
    pub «ports::Ports::total_propagation_time» : Whole of-ports.Ports.total_propagation_time.ended of-ports.Ports.total_propagation_time.clauses
    pub «ports::Ports::total_propagation_time_from» : Whole of-ports.Ports.total_propagation_time_from.ended of-ports.Ports.total_propagation_time_from.clauses
    pub «ports::Ports::propagation_time_to» : Whole of-ports.Ports.propagation_time_to.ended of-ports.Ports.propagation_time_to.clauses
    pub «ports::Ports::intermediate_propagation_time_to» : Whole of-ports.Ports.intermediate_propagation_time_to.ended of-ports.Ports.intermediate_propagation_time_to.clauses
    pub «ports::Ports::assign_next_downstream_port» : Whole of-ports.Ports.assign_next_downstream_port.ended of-ports.Ports.assign_next_downstream_port.clauses
    pub «ports::Ports::port_assigned_to» : Whole of-ports.Ports.port_assigned_to.ended of-ports.Ports.port_assigned_to.clauses
    pub «ports::Ports::display» : Whole of-ports.Ports.display.ended of-ports.Ports.display.clauses
    -- ---- pdu
    pub «pdu::pack_header» : Whole of-pdu.pack_header.ended of-pdu.pack_header.clauses
    pub «pdu::frame_header» : Whole of-pdu.frame_header.ended of-pdu.frame_header.clauses
    pub «pdu::pdu_row» : Whole of-pdu.pdu_row.ended of-pdu.pdu_row.clauses
    pub «pdu::pdus_end» : Whole of-pdu.pdus_end.ended of-pdu.pdus_end.clauses
    pub «pdu::ends_rightly» : Whole of-pdu.ends_rightly.ended of-pdu.ends_rightly.clauses
    -- ---- created_frame
    pub «created_frame::open» : Whole of-created-frame.«open».ended of-created-frame.«open».clauses
    pub «created_frame::push_pdu» : Whole of-created-frame.push_pdu.ended of-created-frame.push_pdu.clauses
    pub «created_frame::push_pdu_slice_rest» : Whole of-created-frame.push_pdu_slice_rest.ended of-created-frame.push_pdu_slice_rest.clauses
    pub «created_frame::can_push_pdu_payload» : Whole of-created-frame.can_push_pdu_payload.ended of-created-frame.can_push_pdu_payload.clauses
    pub «created_frame::is_sound» : Whole of-created-frame.is_sound.ended of-created-frame.is_sound.clauses
    pub «created_frame::state_row» : Whole of-created-frame.state_row.ended of-created-frame.state_row.clauses
    pub «created_frame::handle_row» : Whole of-created-frame.handle_row.ended of-created-frame.handle_row.clauses
    -- ---- frame_reader
    pub «frame_reader::read_frame» : Whole of-frame-reader.read_frame.ended of-frame-reader.read_frame.clauses
    -- ---- received
    pub «received::receive» : Whole of-received.receive.ended of-received.receive.clauses
    -- ---- spread
    pub «spread::spread» : Whole of-spread.spread.ended of-spread.spread.clauses
    -- ---- lines
    pub «lines::word_end» : Whole of-lines.word_end.ended of-lines.word_end.clauses
    -- the answer is a part of the line, of which its bytes are promised
    pub «lines::word» : WholeAs of-lines.word.ended of-lines.word.clauses (λ κs. List ℕ) (λ κs r. r.now)
    pub «lines::number» : Whole of-lines.number.ended of-lines.number.clauses
    pub «lines::hex» : Whole of-lines.hex.ended of-lines.hex.clauses
    pub «lines::say» : Whole of-lines.say.ended of-lines.say.clauses
    pub «lines::decimal» : Whole of-lines.decimal.ended of-lines.decimal.clauses
    pub «lines::hex_out» : Whole of-lines.hex_out.ended of-lines.hex_out.clauses
    -- ---- held
    pub «held::EepromRange::new» : Whole of-held.EepromRange.new.ended of-held.EepromRange.new.clauses
    pub «held::EepromRange::skip_ahead_bytes» : Whole of-held.EepromRange.skip_ahead_bytes.ended of-held.EepromRange.skip_ahead_bytes.clauses
    pub «held::EepromRange::read_byte» : Wide of-held.EepromRange.read_byte.ended of-held.EepromRange.read_byte.clauses second IsAlike
    pub «held::EepromRange::read» : Wide of-held.EepromRange.read.ended of-held.EepromRange.read.clauses second IsAlike
    pub «held::EepromRange::read_exact» : Wide of-held.EepromRange.read_exact.ended of-held.EepromRange.read_exact.clauses second IsAlike
    pub «held::EepromRangeMut::new» : Whole of-held.EepromRangeMut.new.ended of-held.EepromRangeMut.new.clauses
    pub «held::EepromRangeMut::write» : Whole of-held.EepromRangeMut.write.ended of-held.EepromRangeMut.write.clauses
    pub «held::byte_in» : Wide of-held.byte_in.ended of-held.byte_in.clauses third IsAlike
    pub «held::write_in» : Whole of-held.write_in.ended of-held.write_in.clauses
    pub «held::set_receive_times» : Whole of-held.set_receive_times.ended of-held.set_receive_times.clauses
    pub «held::assign_next_downstream_port» : Whole of-held.assign_next_downstream_port.ended of-held.assign_next_downstream_port.clauses
    pub «held::after_assign» : Whole of-held.after_assign.ended of-held.after_assign.clauses
    -- ---- export
    pub «export::read_out::morel_crc» : Whole of-export.read_out.morel_crc.ended of-export.read_out.morel_crc.clauses
    pub «export::read_out::morel_station_alias» : Whole of-export.read_out.morel_station_alias.ended of-export.read_out.morel_station_alias.clauses
    pub «export::read_out::morel_set_station_alias» : Whole of-export.read_out.morel_set_station_alias.ended of-export.read_out.morel_set_station_alias.clauses
    pub «export::read_out::morel_identity» : Whole of-export.read_out.morel_identity.ended of-export.read_out.morel_identity.clauses
    pub «export::read_out::morel_mailbox_config» : Whole of-export.read_out.morel_mailbox_config.ended of-export.read_out.morel_mailbox_config.clauses
    pub «export::read_out::morel_size» : Whole of-export.read_out.morel_size.ended of-export.read_out.morel_size.clauses
    pub «export::read_out::morel_category» : Whole of-export.read_out.morel_category.ended of-export.read_out.morel_category.clauses
    pub «export::read_out::morel_category_inside» : Whole of-export.read_out.morel_category_inside.ended of-export.read_out.morel_category_inside.clauses
    pub «export::read_out::morel_general» : Whole of-export.read_out.morel_general.ended of-export.read_out.morel_general.clauses
    pub «export::text::morel_find_string» : Whole of-export.text.morel_find_string.ended of-export.text.morel_find_string.clauses
    pub «export::text::morel_device_name» : Whole of-export.text.morel_device_name.ended of-export.text.morel_device_name.clauses
    pub «export::text::morel_device_description» : Whole of-export.text.morel_device_description.ended of-export.text.morel_device_description.clauses
    pub «export::frame::morel_open» : Whole of-export.frame.morel_open.ended of-export.frame.morel_open.clauses
    pub «export::frame::morel_push_pdu» : Whole of-export.frame.morel_push_pdu.ended of-export.frame.morel_push_pdu.clauses
    pub «export::frame::morel_push_pdu_slice_rest» : Whole of-export.frame.morel_push_pdu_slice_rest.ended of-export.frame.morel_push_pdu_slice_rest.clauses
    pub «export::frame::morel_can_push_pdu_payload» : Whole of-export.frame.morel_can_push_pdu_payload.ended of-export.frame.morel_can_push_pdu_payload.clauses
    pub «export::frame::morel_frame_header» : Whole of-export.frame.morel_frame_header.ended of-export.frame.morel_frame_header.clauses
    pub «export::reader::morel_read_frame» : Whole of-export.reader.morel_read_frame.ended of-export.reader.morel_read_frame.clauses
    pub «export::spreading::morel_spread» : Whole of-export.spreading.morel_spread.ended of-export.spreading.morel_spread.clauses
