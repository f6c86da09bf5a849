-- What setting the alias means for these read-outs: the checksum is right, and all else is read as before. Definitions only.
use Rattle.std.specs.Prelude.{ℕ, ◌≡◌, List, [], ◌∷◌}
use Rattle.refusal.specs.Said.{gives}
use Rattle.crc.specs.Crc.{crc_of}
use Rattle.setup.specs.Setup.{pdi_said, bootstrap_said, version_said, summed, checksum_said}

-- an image whose checksum is right: what is stored is what is computed
abbrev pub Right : List ℕ → Type 0
Right image = checksum_said image ≡ gives (crc_of (summed image) ∷ crc_of (summed image) ∷ [])

-- an image and the same after its alias was set
pub record SetupKept (image after : List ℕ) : Type 0 where
  pub right : Right after
  pub pdi : pdi_said after ≡ pdi_said image
  pub bootstrap : bootstrap_said after ≡ bootstrap_said image
  pub version : version_said after ≡ version_said image
