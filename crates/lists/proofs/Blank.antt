-- What `default` gives is what a place of a list holds that is not used.
use mathlib.Core.Path.{◌≡◌}
use mathlib.Core.Bool.{false}
use Rattle.lists.specs.SyncManagers.{sm_zero}
use Rattle.lists.specs.Pdos.{pdo_zero}
use Rattle.lists.specs.declared.SyncManager.{SyncManager}
use Rattle.lists.specs.declared.Pdo.{Pdo}

pub sm_blank : (s : SyncManager) →
    (s.start_addr ≡ 0) × ((s.length_bytes ≡ 0) × ((s.operation_mode ≡ 0) × ((s.direction ≡ 0) × ((s.ecat_event_enable ≡ false) × ((s.dls_user_event_enable ≡ false) × ((s.watchdog_enable ≡ false) × ((s.enable ≡ 0) × (s.usage_type ≡ 0))))))))
    → s ≡ sm_zero
sm_blank s d i = record {
  start_addr = d.0 i;
  length_bytes = d.1.0 i;
  operation_mode = d.1.1.0 i;
  direction = d.1.1.1.0 i;
  ecat_event_enable = d.1.1.1.1.0 i;
  dls_user_event_enable = d.1.1.1.1.1.0 i;
  watchdog_enable = d.1.1.1.1.1.1.0 i;
  enable = d.1.1.1.1.1.1.1.0 i;
  usage_type = d.1.1.1.1.1.1.1.1 i;
}

pub pdo_blank : (p : Pdo) → (p.index ≡ 0) × ((p.num_entries ≡ 0) × ((p.sync_manager ≡ 0) × (p.bit_len ≡ 0))) → p ≡ pdo_zero
pdo_blank p d i = record { index = d.0 i; num_entries = d.1.0 i; sync_manager = d.1.1.0 i; bit_len = d.1.1.1 i }
