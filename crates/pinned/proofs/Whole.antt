-- Each row: the contract's clauses are equations, so two results of it are equal; an answer is known from what it says by its crate's law.
-- `one`, `two`, `three` is how many clauses the contract has; the second part builds the last values from those that can change, `tt` standing for each argument that cannot.
use Prim.Native.Nat.{ℕ, ◌*◌}
use mathlib.Core.Path.{◌≡◌, refl, ap, ap₂, ◌∙◌}
use mathlib.Core.List.{List}
use lib.ListN.{take}
use seplogic.Ra.Ura.{Ura}
use base.Logic.{SProp}
use prog.Memory.{Memory}
use prog.Routine.{Routine}
use types.Logic.{Logic}
use contract.Monad.{Fun}
use Rattle.refusal.specs.declared.ValueRow.{ValueRow}
use Rattle.wire.specs.Bytes.{span, filled}
use Rattle.eeprom.specs.Image.{width_of, chunk_of}
use Rattle.eeprom.specs.declared.Chunk.{Chunk}
use Rattle.eeprom.specs.declared.Chunk.TheVariants as chunk
use Rattle.eeprom.proofs.Unique.{checked_unique, range_unique, byte_unique, reading_unique, exact_read_unique, words-written_unique}
use Rattle.category.proofs.Unique.{found_unique as category-unique, inside_unique}
use Rattle.sii.proofs.Unique.{alias_unique, set_unique, identity_unique, mailbox_unique, size_unique, general_unique, found_unique, ports_unique, word_unique}
use Rattle.setup.proofs.Unique.{pdi_unique, bootstrap_unique, version_unique, checksum_unique}
use Rattle.lists.proofs.Unique.{count_unique, records_unique, rest_unique, sms_unique, fmmus_unique, pdos_unique}
use Rattle.clock.proofs.Unique.{clocks_unique}
use Rattle.strings.proofs.Unique.{string_unique}
use Rattle.ports.proofs.Unique.{port_unique, entry_unique, last_unique, assigned_unique, time_unique, total_unique, sum_unique, topology_unique, text_unique}
use Rattle.pdu.proofs.Unique.{frame-header_unique}
use Rattle.created_frame.proofs.Unique.{opened_unique, push_unique, rest_push_unique, can_unique}
use Rattle.frame_reader.proofs.Unique.{read-frame_unique}
use Rattle.spread.proofs.Unique.{spread_unique}
use Rattle.lines.proofs.Unique.{number_unique, hex_unique}
use Rattle.eeprom.specs.declared.Standing.{Standing}
use Rattle.held.specs.declared.Opened.{Opened}
use Rattle.held.specs.declared.OpenedMut.{OpenedMut}
use Rattle.held.proofs.Unique.{outcome_unique, byte-read_unique, counted_unique}
use Rattle.pinned.specs.Whole.{EveryCall}
use Rattle.pinned.proofs.Laws.{same, one, two, three}

-- the first four bytes of a chunk are those of the narrow one
narrow-is : (image : List ℕ) (word : ℕ) (c : Chunk) → take 4 (chunk_of image word (width_of c)) ≡ span image (2 * word) 4
unfolding chunk_of filled span
narrow-is image word chunk.Four = refl
narrow-is image word chunk.Eight = refl

-- a refusal's values: the row's two fields are known
values_same : (a b : ValueRow) (n : ℕ) (l m : List ℕ) → (a.count ≡ n) × (a.items ≡ l) × (take a.count a.items ≡ m) → (b.count ≡ n) × (b.items ≡ l) × (take b.count b.items ≡ m) → a ≡ b
values_same a b n l m p q =
    ap (λ (z : ℕ). record { count = z; items = a.items }) (same p.0 q.0) ∙ ap (λ (z : List ℕ). record { count = b.count; items = z }) (same p.1 q.1)

-- a model of the logic
module _ {M : Type 1} {𝓤 : Ura M} (𝓛 : Logic 𝓤) (mem : Memory → SProp 𝓤) (run : Routine → Fun 𝓤) where
  -- THE STATEMENT
  pub every_call : EveryCall 𝓛 mem run
  every_call = record {
    -- ---- refusal
    «refusal::number» = λ κs a g r s ws vs. one 𝓤 (λ p q. (same p q, refl));
    «refusal::values» = λ κs a g r s ws vs. one 𝓤 (λ p q. (values_same r s _ _ _ p q, refl));
    -- ---- wire
    «wire::byte_at» = λ κs a g r s ws vs. one 𝓤 (λ p q. (same p q, refl));
    «wire::word_at» = λ κs a g r s ws vs. one 𝓤 (λ p q. (same p q, refl));
    «wire::long_at» = λ κs a g r s ws vs. one 𝓤 (λ p q. (same p q, refl));
    «wire::flag» = λ κs a g r s ws vs. one 𝓤 (λ p q. (same p q, refl));
    «wire::lesser» = λ κs a g r s ws vs. one 𝓤 (λ p q. (same p q, refl));
    «wire::lay» = λ T copying d κs a g r s ws vs. one 𝓤 (λ p q. (refl, ap (λ l. (l, (tt, (tt, tt)))) (same p q)));
    «wire::fill» = λ κs a g r s ws vs. one 𝓤 (λ p q. (refl, ap (λ l. (l, (tt, tt))) (same p q)));
    -- ---- crc
    «crc::crc» = λ κs a g r s ws vs. one 𝓤 (λ p q. (same p q, refl));
    -- ---- eeprom
    «eeprom::image_within» = λ κs a g r s ws vs. one 𝓤 (λ p q. (same p q, refl));
    «eeprom::checked» = λ κs a g r s ws vs. one 𝓤 (λ p q. (checked_unique _ r s p q, refl));
    «eeprom::read_chunk» = λ κs a g r s ws vs. one 𝓤 (λ p q. (same p q, refl));
    narrow = λ κs a m g h r s ws vs. one 𝓤 (λ p q. (same (ap (take 4) p ∙ narrow-is _ _ a.1.1.0) (ap (take 4) q ∙ narrow-is _ _ m), refl));
    «eeprom::byte_of» = λ κs a m g h r s ws vs. one 𝓤 (λ p q. (same p q, refl));
    «eeprom::word_of» = λ κs a m g h r s ws vs. one 𝓤 (λ p q. (same p q, refl));
    «eeprom::long_of» = λ κs a m g h r s ws vs. one 𝓤 (λ p q. (same p q, refl));
    «eeprom::Range::new» = λ κs a g r s ws vs. one 𝓤 (λ p q. (range_unique r s _ p q, refl));
    «eeprom::Range::start_at» = λ κs a g r s ws vs. one 𝓤 (λ p q. (range_unique r s _ p q, refl));
    «eeprom::Range::skip_ahead_bytes» = λ κs a g r s ws vs. one 𝓤 (λ p q. (range_unique r s _ p q, refl));
    «eeprom::Range::read_byte» = λ κs a m g h r s ws vs. one 𝓤 (λ p q. (byte_unique r s _ p q, refl));
    «eeprom::Range::read» = λ κs a m g h r s ws vs. two 𝓤 (λ p q p' q'. (reading_unique r s _ p q, ap (λ l. (tt, (tt, (tt, (l, tt))))) (same p' q')));
    «eeprom::Range::read_exact» = λ κs a m g h r s ws vs. three 𝓤 (λ p q p' q' p'' q''. (exact_read_unique r s _ _ (p, p') (q, q'), ap (λ l. (tt, (tt, (tt, (l, tt))))) (same p'' q'')));
    «eeprom::Range::write» = λ κs a g r s ws vs. three 𝓤 (λ p q p' q' p'' q''. (words-written_unique r s _ _ (p, p') (q, q'), ap (λ l. (tt, (l, (tt, tt)))) (same p'' q'')));
    -- ---- category
    «category::category» = λ κs a m g h r s ws vs. one 𝓤 (λ p q. (category-unique r s _ p q, refl));
    «category::category_inside» = λ κs a m g h r s ws vs. one 𝓤 (λ p q. (inside_unique r s _ p q, refl));
    -- ---- sii
    «sii::station_alias» = λ κs a m g h r s ws vs. one 𝓤 (λ p q. (alias_unique r s _ p q, refl));
    «sii::set_station_alias» = λ κs a g r s ws vs. two 𝓤 (λ p q p' q'. (set_unique r s _ p q, ap (λ l. (l, (tt, tt))) (same p' q')));
    «sii::identity» = λ κs a m g h r s ws vs. one 𝓤 (λ p q. (identity_unique r s _ p q, refl));
    «sii::mailbox_config» = λ κs a m g h r s ws vs. one 𝓤 (λ p q. (mailbox_unique r s _ p q, refl));
    «sii::has_mailbox» = λ κs a g r s ws vs. one 𝓤 (λ p q. (same p q, refl));
    «sii::size» = λ κs a m g h r s ws vs. one 𝓤 (λ p q. (size_unique r s _ p q, refl));
    «sii::general» = λ κs a m g h r s ws vs. one 𝓤 (λ p q. (general_unique r s _ p q, refl));
    «sii::find_general» = λ κs a m g h r s ws vs. one 𝓤 (λ p q. (found_unique r s _ p q, refl));
    «sii::physical_ports» = λ κs a m g h r s ws vs. one 𝓤 (λ p q. (ports_unique r s _ p q, refl));
    «sii::physical_memory_address» = λ κs a m g h r s ws vs. one 𝓤 (λ p q. (word_unique r s _ p q, refl));
    «sii::identity_row» = λ κs a g r s ws vs. one 𝓤 (λ p q. (same p q, refl));
    «sii::mailbox_row» = λ κs a g r s ws vs. one 𝓤 (λ p q. (same p q, refl));
    «sii::ports_row» = λ κs a g r s ws vs. one 𝓤 (λ p q. (same p q, refl));
    «sii::general_row» = λ κs a g r s ws vs. one 𝓤 (λ p q. (same p q, refl));
    -- ---- setup
    «setup::pdi_control» = λ κs a m g h r s ws vs. one 𝓤 (λ p q. (pdi_unique r s _ p q, refl));
    «setup::bootstrap_mailbox» = λ κs a m g h r s ws vs. one 𝓤 (λ p q. (bootstrap_unique r s _ p q, refl));
    «setup::version» = λ κs a m g h r s ws vs. one 𝓤 (λ p q. (version_unique r s _ p q, refl));
    «setup::checksum» = λ κs a m g h r s ws vs. one 𝓤 (λ p q. (checksum_unique r s _ p q, refl));
    «setup::pdi_row» = λ κs a g r s ws vs. one 𝓤 (λ p q. (same p q, refl));
    «setup::bootstrap_row» = λ κs a g r s ws vs. one 𝓤 (λ p q. (same p q, refl));
    «setup::checksum_row» = λ κs a g r s ws vs. one 𝓤 (λ p q. (same p q, refl));
    -- ---- lists
    «lists::rest_behind» = λ κs a g r s ws vs. one 𝓤 (λ p q. (rest_unique _ _ r s p q, refl));
    «lists::read_records» = λ R V kind k copying d κs a m g h r s ws vs. two 𝓤 (λ p q p' q'. (count_unique r s _ p q, ap (λ l. (tt, (tt, (tt, (l, tt))))) (same p' q')));
    «lists::read_array» = λ R N V kind k copying d κs a m g h r s ws vs. two 𝓤 (λ p q p' q'. (records_unique _ r s _ p q p' q', refl));
    «lists::sync_managers» = λ κs a m g h r s ws vs. one 𝓤 (λ p q. (sms_unique r s _ p q, refl));
    «lists::fmmus» = λ κs a m g h r s ws vs. one 𝓤 (λ p q. (fmmus_unique r s _ p q, refl));
    «lists::fmmu_mappings» = λ κs a m g h r s ws vs. one 𝓤 (λ p q. (fmmus_unique r s _ p q, refl));
    «lists::maindevice_read_pdos» = λ κs a m g h r s ws vs. one 𝓤 (λ p q. (pdos_unique r s _ p q, refl));
    «lists::maindevice_write_pdos» = λ κs a m g h r s ws vs. one 𝓤 (λ p q. (pdos_unique r s _ p q, refl));
    «lists::usage_type» = λ κs a g r s ws vs. one 𝓤 (λ p q. (same p q, refl));
    «lists::sync_manager_row» = λ κs a g r s ws vs. one 𝓤 (λ p q. (same p q, refl));
    «lists::pdo_row» = λ κs a g r s ws vs. one 𝓤 (λ p q. (same p q, refl));
    -- ---- clock
    «clock::distributed_clocks» = λ κs a m g h r s ws vs. one 𝓤 (λ p q. (clocks_unique r s _ p q, refl));
    «clock::clock_row» = λ κs a g r s ws vs. one 𝓤 (λ p q. (same p q, refl));
    -- ---- strings
    «strings::find_string» = λ κs a m g h r s ws vs. two 𝓤 (λ p q p' q'. (string_unique r s _ p q, ap (λ l. (tt, (tt, (tt, (l, tt))))) (same p' q')));
    «strings::device_name» = λ κs a m g h r s ws vs. two 𝓤 (λ p q p' q'. (string_unique r s _ p q, ap (λ l. (tt, (tt, (l, tt)))) (same p' q')));
    «strings::device_description» = λ κs a m g h r s ws vs. two 𝓤 (λ p q p' q'. (string_unique r s _ p q, ap (λ l. (tt, (tt, (l, tt)))) (same p' q')));
    -- ---- ports
    «ports::Ports::new» = λ κs a g r s ws vs. one 𝓤 (λ p q. (same p q, refl));
    «ports::Ports::set_receive_times» = λ κs a g r s ws vs. one 𝓤 (λ p q. (same p q, refl));
    «ports::Ports::entry_port» = λ κs a g r s ws vs. one 𝓤 (λ p q. (entry_unique r s _ p q, refl));
    «ports::Ports::last_port» = λ κs a g r s ws vs. one 𝓤 (λ p q. (last_unique r s _ p q, refl));
    «ports::Ports::topology» = λ κs a g r s ws vs. one 𝓤 (λ p q. (topology_unique r s _ p q, refl));
    «ports::Ports::total_propagation_time» = λ κs a g r s ws vs. one 𝓤 (λ p q. (total_unique r s _ p q, refl));
    «ports::Ports::total_propagation_time_from» = λ κs a g r s ws vs. one 𝓤 (λ p q. (time_unique r s _ p q, refl));
    «ports::Ports::propagation_time_to» = λ κs a g r s ws vs. one 𝓤 (λ p q. (time_unique r s _ p q, refl));
    «ports::Ports::intermediate_propagation_time_to» = λ κs a g r s ws vs. one 𝓤 (λ p q. (sum_unique r s _ p q, refl));
    «ports::Ports::assign_next_downstream_port» = λ κs a g r s ws vs. one 𝓤 (λ p q. (assigned_unique _ _ r s p q, refl));
    «ports::Ports::port_assigned_to» = λ κs a g r s ws vs. one 𝓤 (λ p q. (port_unique r s _ p q, refl));
    «ports::Ports::display» = λ κs a g r s ws vs. two 𝓤 (λ p q p' q'. (text_unique r s _ p q, ap (λ l. (tt, (l, tt))) (same p' q')));
    -- ---- pdu
    «pdu::pack_header» = λ κs a g r s ws vs. one 𝓤 (λ p q. (same p q, refl));
    «pdu::frame_header» = λ κs a g r s ws vs. one 𝓤 (λ p q. (frame-header_unique _ r s p q, refl));
    «pdu::pdu_row» = λ κs a g r s ws vs. one 𝓤 (λ p q. (same p q, refl));
    «pdu::pdus_end» = λ κs a g r s ws vs. one 𝓤 (λ p q. (same p q, refl));
    «pdu::ends_rightly» = λ κs a g r s ws vs. one 𝓤 (λ p q. (same p q, refl));
    -- ---- created_frame
    «created_frame::open» = λ κs a g r s ws vs. two 𝓤 (λ p q p' q'. (opened_unique r s _ p q, ap (λ l. (l, tt)) (same p' q')));
    «created_frame::push_pdu» = λ κs a g r s ws vs. three 𝓤 (λ p q p' q' p'' q''. (push_unique _ _ _ r s (p, p') (q, q'), ap (λ l. (l, (tt, (tt, (tt, (tt, (tt, (tt, tt)))))))) (same p'' q'')));
    «created_frame::push_pdu_slice_rest» = λ κs a g r s ws vs. three 𝓤 (λ p q p' q' p'' q''. (rest_push_unique _ _ _ r s (p, p') (q, q'), ap (λ l. (l, (tt, (tt, (tt, (tt, (tt, tt))))))) (same p'' q'')));
    «created_frame::can_push_pdu_payload» = λ κs a g r s ws vs. one 𝓤 (λ p q. (can_unique r s _ p q, refl));
    «created_frame::is_sound» = λ κs a g r s ws vs. one 𝓤 (λ p q. (same p q, refl));
    «created_frame::state_row» = λ κs a g r s ws vs. one 𝓤 (λ p q. (same p q, refl));
    «created_frame::handle_row» = λ κs a g r s ws vs. one 𝓤 (λ p q. (same p q, refl));
    -- ---- frame_reader
    «frame_reader::read_frame» = λ κs a g r s ws vs. three 𝓤 (λ p q p' q' p'' q''. (read-frame_unique _ r s (p, (p', p'')) (q, (q', q'')), refl));
    -- ---- received
    «received::receive» = λ κs a g r s ws vs. one 𝓤 (λ p q. (same p q, refl));
    -- ---- spread
    «spread::spread» = λ κs a g r s ws vs. one 𝓤 (λ p q. (spread_unique _ _ _ _ _ _ _ r s _ _ p q, ap (λ l. (l, (tt, (tt, (tt, (tt, (tt, (tt, tt)))))))) (same p.1.1 q.1.1)));
    -- ---- lines
    «lines::word_end» = λ κs a g r s ws vs. one 𝓤 (λ p q. (same p q, refl));
    «lines::word» = λ κs a g r s ws vs. one 𝓤 (λ p q. (same p q, refl));
    «lines::number» = λ κs a g r s ws vs. one 𝓤 (λ p q. (number_unique r s _ p q, refl));
    «lines::hex» = λ κs a g r s ws vs. two 𝓤 (λ p q p' q'. (hex_unique r s _ p q, ap (λ l. (tt, (l, tt))) (same p' q')));
    «lines::say» = λ κs a g r s ws vs. two 𝓤 (λ p q p' q'. (same p q, ap (λ l. (l, (tt, (tt, tt)))) (same p' q')));
    «lines::decimal» = λ κs a g r s ws vs. two 𝓤 (λ p q p' q'. (same p q, ap (λ l. (l, (tt, (tt, tt)))) (same p' q')));
    «lines::hex_out» = λ κs a g r s ws vs. two 𝓤 (λ p q p' q'. (same p q, ap (λ l. (l, (tt, (tt, tt)))) (same p' q')));
    -- ---- held
    «held::EepromRange::new» = λ κs a g r s ws vs. one 𝓤 (λ p q. (ap₂ {C = Opened} (λ x y. record { answer = x; range = y }) (outcome_unique r.answer s.answer _ p.0 q.0) (same p.1 q.1), refl));
    «held::EepromRange::skip_ahead_bytes» = λ κs a g r s ws vs. one 𝓤 (λ p q. (outcome_unique r s _ p.0 q.0, ap (λ l. (l, (tt, tt))) (same p.1 q.1)));
    «held::EepromRange::read_byte» = λ κs a m g h r s ws vs. one 𝓤 (λ p q. (byte-read_unique r s _ p.0 q.0, ap (λ l. (l, (tt, tt))) (same p.1 q.1)));
    «held::EepromRange::read» = λ κs a m g h r s ws vs. one 𝓤 (λ p q. (counted_unique r s _ p.0 q.0, ap₂ (λ b l. (b, (tt, (l, tt)))) (same p.1.0 q.1.0) (same p.1.1 q.1.1)));
    «held::EepromRange::read_exact» = λ κs a m g h r s ws vs. one 𝓤 (λ p q. (outcome_unique r s _ p.0 q.0, ap₂ (λ b l. (b, (tt, (l, tt)))) (same p.1.0 q.1.0) (same p.1.1 q.1.1)));
    «held::EepromRangeMut::new» = λ κs a g r s ws vs. one 𝓤 (λ p q. (ap₂ {C = OpenedMut} (λ x y. record { answer = x; range = y }) (outcome_unique r.answer s.answer _ p.0 q.0) (same p.1 q.1), refl));
    «held::EepromRangeMut::write» = λ κs a g r s ws vs. one 𝓤 (λ p q. (counted_unique r s _ p.0 q.0, ap (λ l. (l, (tt, tt))) (same p.1 q.1)));
    «held::byte_in» = λ κs a m g h r s ws vs. one 𝓤 (λ p q. (ap₂ {C = Standing ℕ} (λ x y. record { answer = x; range = y }) (byte-read_unique r.answer s.answer _ p.0 q.0) (same p.1 q.1), refl));
    «held::write_in» = λ κs a g r s ws vs. one 𝓤 (λ p q. (ap₂ {C = Standing ℕ} (λ x y. record { answer = x; range = y }) (counted_unique r.answer s.answer _ p.0.0 q.0.0) (same p.0.1 q.0.1), ap (λ l. (l, (tt, (tt, tt)))) (same p.1 q.1)));
    «held::set_receive_times» = λ κs a g r s ws vs. one 𝓤 (λ p q. (refl, ap (λ l. (l, (tt, (tt, (tt, (tt, tt)))))) (same p q)));
    «held::assign_next_downstream_port» = λ κs a g r s ws vs. one 𝓤 (λ p q. (port_unique r s _ p.0 q.0, ap (λ l. (l, (tt, tt))) (same p.1 q.1)));
    «held::after_assign» = λ κs a g r s ws vs. one 𝓤 (λ p q. (assigned_unique _ _ r s p q, refl));
    -- ---- export
    «export::read_out::morel_crc» = λ κs a g r s ws vs. one 𝓤 (λ p q. (same p q, refl));
    «export::read_out::morel_station_alias» = λ κs a g r s ws vs. two 𝓤 (λ p q p' q'. (same p q, ap (λ l. (tt, (l, tt))) (same p' q')));
    «export::read_out::morel_set_station_alias» = λ κs a g r s ws vs. two 𝓤 (λ p q p' q'. (same p q, ap (λ l. (l, (tt, tt))) (same p' q')));
    «export::read_out::morel_identity» = λ κs a g r s ws vs. two 𝓤 (λ p q p' q'. (same p q, ap (λ l. (tt, (l, tt))) (same p' q')));
    «export::read_out::morel_mailbox_config» = λ κs a g r s ws vs. two 𝓤 (λ p q p' q'. (same p q, ap (λ l. (tt, (l, tt))) (same p' q')));
    «export::read_out::morel_size» = λ κs a g r s ws vs. two 𝓤 (λ p q p' q'. (same p q, ap (λ l. (tt, (l, tt))) (same p' q')));
    «export::read_out::morel_category» = λ κs a g r s ws vs. two 𝓤 (λ p q p' q'. (same p q, ap (λ l. (tt, (tt, (l, tt)))) (same p' q')));
    «export::read_out::morel_category_inside» = λ κs a g r s ws vs. two 𝓤 (λ p q p' q'. (same p q, ap (λ l. (tt, (tt, (l, tt)))) (same p' q')));
    «export::read_out::morel_general» = λ κs a g r s ws vs. two 𝓤 (λ p q p' q'. (same p q, ap (λ l. (tt, (l, tt))) (same p' q')));
    «export::text::morel_find_string» = λ κs a g r s ws vs. three 𝓤 (λ p q p' q' p'' q''. (same p q, ap₂ (λ b l. (tt, (tt, (b, (l, tt))))) (same p' q') (same p'' q'')));
    «export::text::morel_device_name» = λ κs a g r s ws vs. three 𝓤 (λ p q p' q' p'' q''. (same p q, ap₂ (λ b l. (tt, (b, (l, tt)))) (same p' q') (same p'' q'')));
    «export::text::morel_device_description» = λ κs a g r s ws vs. three 𝓤 (λ p q p' q' p'' q''. (same p q, ap₂ (λ b l. (tt, (b, (l, tt)))) (same p' q') (same p'' q'')));
    «export::frame::morel_open» = λ κs a g r s ws vs. three 𝓤 (λ p q p' q' p'' q''. (same p q, ap₂ (λ b l. (b, (l, tt))) (same p' q') (same p'' q'')));
    «export::frame::morel_push_pdu» = λ κs a g r s ws vs. three 𝓤 (λ p q p' q' p'' q''. (same p q, ap₂ (λ b l. (b, (tt, (tt, (tt, (tt, (tt, (tt, (tt, (tt, (l, tt))))))))))) (same p' q') (same p'' q'')));
    «export::frame::morel_push_pdu_slice_rest» = λ κs a g r s ws vs. three 𝓤 (λ p q p' q' p'' q''. (same p q, ap₂ (λ b l. (b, (tt, (tt, (tt, (tt, (tt, (tt, (tt, (l, tt)))))))))) (same p' q') (same p'' q'')));
    «export::frame::morel_can_push_pdu_payload» = λ κs a g r s ws vs. two 𝓤 (λ p q p' q'. (same p q, ap (λ l. (tt, (tt, (tt, (tt, (tt, (l, tt))))))) (same p' q')));
    «export::frame::morel_frame_header» = λ κs a g r s ws vs. two 𝓤 (λ p q p' q'. (same p q, ap (λ l. (tt, (l, tt))) (same p' q')));
    «export::reader::morel_read_frame» = λ κs a g r s ws vs. two 𝓤 (λ p q p' q'. (same p q, ap (λ l. (tt, (l, tt))) (same p' q')));
    «export::spreading::morel_spread» = λ κs a g r s ws vs. three 𝓤 (λ p q p' q' p'' q''. (same p q, ap₂ (λ b l. (b, (tt, (tt, (tt, (tt, (tt, (tt, (tt, (tt, (l, tt))))))))))) (same p' q') (same p'' q'')));
  }
