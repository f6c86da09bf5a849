-- What the rules come to, in words that do not compute: proved of the definitions in proofs/, for callers above. Definitions only.
use Rattle.std.specs.Prelude.{◌≡◌, ℕ, ◌<◌, ◌≤◌, true, ◌≢◌}
use Rattle.ports.specs.declared.Ports.{Ports}
use Rattle.ports.specs.Ports.{place_of, port_count, nowhere, port_at, active_at, time_at, unlinked_at, entry, linked}

-- the place k is that of an entry port: active, no active port is earlier, and those before it are later
pub record IsEntry (p : Ports) (k : ℕ) : Type 0 where
  pub place : k < nowhere
  pub active : active_at p k ≡ true
  pub least : (j : ℕ) → j < nowhere → active_at p j ≡ true → time_at p k ≤ time_at p j
  pub first : (j : ℕ) → j < k → active_at p j ≡ true → time_at p k < time_at p j

-- port n of p was active and unlinked, and not the entry port; in q it leads to device d, and nothing else has changed
pub record Took (p : Ports) (d n : ℕ) (q : Ports) : Type 0 where
  pub port : n < port_count
  pub was_active : active_at p (place_of n) ≡ true
  pub was_free : unlinked_at p (place_of n) ≡ true
  pub not_entry : place_of n ≢ entry p
  pub here : port_at q (place_of n) ≡ linked (port_at p (place_of n)) d
  pub others : (j : ℕ) → j ≢ place_of n → port_at q j ≡ port_at p j
