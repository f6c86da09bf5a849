-- The categories of the SII that may be sought, by number (ETG1000.6 Table 19; RULES, category). Definitions only.
use Rattle.std.specs.Prelude.{ℕ}

abbrev pub strings : ℕ
strings = 10

abbrev pub general : ℕ
general = 30

abbrev pub fmmu : ℕ
fmmu = 40

abbrev pub sync_managers : ℕ
sync_managers = 41

abbrev pub fmmu_extended : ℕ
fmmu_extended = 42

abbrev pub tx_pdo : ℕ
tx_pdo = 50

abbrev pub rx_pdo : ℕ
rx_pdo = 51

-- distributed clock
abbrev pub clock : ℕ
clock = 60
