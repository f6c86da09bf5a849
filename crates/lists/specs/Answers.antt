-- What comes back of each list: what is said, in numbers and values (RULES, refusals), the count and every place. Definitions only.
use Rattle.std.specs.Prelude.{ℕ, Result}
use Rattle.refusal.specs.declared.Refusal.{Refusal}
use Rattle.lists.specs.Records.{Back, back_of}
use Rattle.lists.specs.SyncManagers.{sm_zero, sm_most}
use Rattle.lists.specs.Fmmus.{fmmu_most}
use Rattle.lists.specs.Pdos.{pdo_zero, pdo_most}
use Rattle.lists.specs.declared.SyncManager.{SyncManager}
use Rattle.lists.specs.declared.SyncManagers.{SyncManagers}
use Rattle.lists.specs.declared.FmmuList.{FmmuList}
use Rattle.lists.specs.declared.Pdo.{Pdo}
use Rattle.lists.specs.declared.PdoList.{PdoList}

abbrev pub back_sms : Result SyncManagers Refusal → Back SyncManager
back_sms = back_of sm_zero sm_most (λ r. r.count) (λ r. r.items)

abbrev pub back_fmmus : Result FmmuList Refusal → Back ℕ
back_fmmus = back_of 0 fmmu_most (λ r. r.count) (λ r. r.items)

abbrev pub back_pdos : Result PdoList Refusal → Back Pdo
back_pdos = back_of pdo_zero pdo_most (λ r. r.count) (λ r. r.items)
