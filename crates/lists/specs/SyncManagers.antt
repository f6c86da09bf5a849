-- Sync managers as the SII lists them. Definitions only.
use Rattle.std.specs.Prelude.{ℕ, ◌+◌, ◌/◌, ◌%◌, List, [], ◌∷◌, Bool, false, leb, ltb, eqb}
use Rattle.refusal.specs.Said.{pick}
use Rattle.category.specs.Numbers as numbers
use Rattle.category.specs.Category.{category_said}
use Rattle.sii.specs.Layout.{field}
use Rattle.wire.specs.Bytes.{bit}
use Rattle.sii.specs.General.{listed}
use Rattle.lists.specs.Layout.{sm_bytes, physical_start_address, sm_length, control_register, mailbox_mode, direction_last, ecat_event_field, dls_user_event_field, watchdog, enable_sync_m, enable_below, sync_m_type, sync_m_type_last, mailbox_write, mailbox_read, process_data_write, process_data_read}
use Rattle.lists.specs.Records.{Item, one, none, bad, Listed, records, in_category}
use Rattle.lists.specs.declared.SyncManager.{SyncManager}

-- the most that are listed (RULES, limits); one more is 6
abbrev pub sm_most : ℕ
sm_most = 8

-- the mode: buffered (0, the default) or mailbox
unfoldable pub mode_of : ℕ → ℕ
mode_of control = pick (eqb (control % 4) mailbox_mode) mailbox_mode 0

-- the direction: the MainDevice reads (0, the default) or writes (1)
abbrev pub direction_of : ℕ → ℕ
direction_of control = listed direction_last (control / 4 % 4)

-- a flag of the control register, by the value of its bit
abbrev pub flag_of : ℕ → ℕ → Bool
flag_of control value = eqb (control / value % 2) 1

-- the usage: unknown (0, the default), mailbox out, mailbox in, process data out, process data in
abbrev pub usage_type : ℕ → ℕ
usage_type n = listed sync_m_type_last n

unfoldable pub sm_of : List ℕ → ℕ → SyncManager
sm_of image p = record {
  start_addr = field image p physical_start_address;
  length_bytes = field image p sm_length;
  operation_mode = mode_of (field image p control_register);
  direction = direction_of (field image p control_register);
  ecat_event_enable = flag_of (field image p control_register) ecat_event_field;
  dls_user_event_enable = flag_of (field image p control_register) dls_user_event_field;
  watchdog_enable = flag_of (field image p control_register) watchdog;
  enable = field image p enable_sync_m;
  usage_type = usage_type (field image p sync_m_type);
}

-- the numbers that a list gives of it
abbrev pub sm_values : SyncManager → List ℕ
sm_values sm =
    sm.start_addr ∷ sm.length_bytes ∷ sm.operation_mode ∷ sm.direction
    ∷ bit sm.ecat_event_enable ∷ bit sm.dls_user_event_enable ∷ bit sm.watchdog_enable ∷ sm.enable ∷ sm.usage_type ∷ []

-- its usage where none is given (types.rs, `usage_type`): by the mode, and by the direction, reading being 0
unfoldable pub recovered : ℕ → ℕ → ℕ
recovered mode direction =
    pick (eqb mode mailbox_mode) (pick (eqb direction 0) mailbox_read mailbox_write) (pick (eqb direction 0) process_data_read process_data_write)

unfoldable pub usage_type_of : SyncManager → ℕ
usage_type_of sm = pick (eqb sm.usage_type 0) (recovered sm.operation_mode sm.direction) sm.usage_type

-- no undefined bit stands in the enable byte
abbrev pub sm_admits : SyncManager → Bool
sm_admits sm = ltb sm.enable enable_below

-- what stands at p of a category that ends at end
unfoldable pub sm_at : List ℕ → ℕ → ℕ → Item SyncManager
sm_at image end p = pick (leb (p + sm_bytes) end) (pick (sm_admits (sm_of image p)) (one (sm_of image p) (p + sm_bytes)) bad) none

unfoldable pub sms_of : List ℕ → Listed SyncManager
sms_of image = in_category (category_said image numbers.sync_managers) (λ p end. records (sm_at image end) sm_most p)

-- what a place of the list holds that is not used
abbrev pub sm_zero : SyncManager
sm_zero = record {
  start_addr = 0;
  length_bytes = 0;
  operation_mode = 0;
  direction = 0;
  ecat_event_enable = false;
  dls_user_event_enable = false;
  watchdog_enable = false;
  enable = 0;
  usage_type = 0;
}
