-- A range that is lent for a call: its type at a lifetime, what it owns, and what becomes of that. A walk of any of `EepromRange`'s calls by hand can rest on it, with its own callee beside it.
--     typed      what the machine value of the range has for its type
--     apart      what the range owns gives the callee image, position and end, beside what else the callee is passed, and is kept
--     again      what image owns is kept, and the position's facts are made anew
use mathlib.Core.Path.{◌≡◌, refl}
use Prim.Native.Nat.{ℕ, ◌<◌, ◌^◌}
use mathlib.Core.List.{[], ◌∷◌, List}
use lib.Dec.{T as Holds}
use lib.ListN.{length}
use seplogic.Ra.Ura.{Ura}
use mir.Syntax.{named, erased, w32}
use mir.Val.{Val, WT, has_ty, vint}
use base.Logic.{SProp, ent, sep}
use base.Fml.{Lft, Fml}
use types.Logic.{Logic, sem}
use types.Kit.{‵, raw, ◌⊛◌, ◌$◌, ◌∵◌, !, qed, by, move, drop, use1, use2, split, learn, given, fjoin, frame, done}
use denote.RattleType.{RattleType, Denots, Valss, owns}
use denote.Laws.{Is}
use denote.Plain.{uint_Makes}
use denote.Builtin.{u8, u32}
use denote.Ref.{NamedLft}
use denote.Slice.{slice_val, ShrSlice}
use denote.Steps.{owned}
use denote.Struct.Declared.{Declared}
use denote.Struct.Values.{Values}
use denote.Struct.Rest.{all_own, field_own, rest, own_open, own_out, own_put}
use denote.Struct.Laws as LL
use Rattle.held.specs.Range.{moved_to}
use Rattle.held.specs.declared.EepromRange.{EepromRange}
use Rattle.held.specs.contracts.EepromRange as T
use Rattle.held.proofs.EepromRange.TheLaws as T'

-- 'a, and the struct's type and laws at it
abbrev pub α : Lft → NamedLft
α κ = record { mir = named 1; lft = κ }

abbrev pub D : Lft → Declared
D κ = T.the_type (α κ)

abbrev pub L : (κ : Lft) → LL.Laws (D κ)
L κ = T'.the_laws (α κ)

abbrev pub B : Lft → RattleType
B κ = T.the_row (α κ)

-- 'a where the walk's MIR has the lifetime erased
abbrev ε : Lft → NamedLft
ε κ = record { mir = erased; lft = κ }

abbrev pub Own : Lft → EepromRange → Fml
Own κ h = (B κ).own_val h (T'.lowered h ∷ [])

-- the machine value of image
abbrev pub image_val : EepromRange → Val
image_val h = slice_val h.image.ref_ptr (length h.image.now)

module _ (κ : Lft) (h : EepromRange) where
  abbrev fields : Values (D κ).parts
  fields = (h.image, (h.byte_pos, (h.end, tt)))

  module _ {M : Type 1} {𝓤 : Ura M} (𝓛 : Logic 𝓤) where
    pub typed : Is (B κ) h (T'.lowered h ∷ []) → Holds (has_ty (T'.mir erased) (T'.lowered h)) × WT (T'.lowered h)
    typed was = ((LL.lawful (T.the_type (ε κ)) (T'.the_laws (ε κ)) 𝓛).typed h _ was).0

    pub again : (n : ℕ) → n < 2 ^ 32 → ent 𝓤 (sem 𝓛 (Own κ h)) (sem 𝓛 (Own κ (moved_to h n)))
    again n ok = qed 𝓛 (‵ (Own κ h) ∷ []) ∵ owned ! u32 (Is u32) (uint_Makes 𝓛 w32) n _ (refl, ok) $ move ! (1 ∷ 0 ∷ []) $ by ! (own_put 𝓛 (D κ) (L κ) 1 fields n (T'.lowered h))

    -- the callee is passed the range and more, at the tokens ts; with them it has what it asks
    pub apart : (rows : List RattleType) (more : Denots rows) (vals : Valss rows) (ts asked : SProp 𝓤)
        → ent 𝓤 (sep 𝓤 ts (sem 𝓛 (owns (ShrSlice (named 0) κ u8 ∷ u32 ∷ u32 ∷ rows) (h.image, (h.byte_pos, (h.end, more))) (image_val h ∷ [], (vint w32 h.byte_pos ∷ [], (vint w32 h.end ∷ [], vals)))))) asked
        → h.byte_pos < 2 ^ 32 → h.end < 2 ^ 32 → ent 𝓤 (sep 𝓤 ts (sep 𝓤 (sem 𝓛 (Own κ h)) (sem 𝓛 (owns rows more vals)))) (sep 𝓤 asked (sem 𝓛 (Own κ h)))
    apart rows more vals ts asked gives fp fe =
        qed 𝓛 (raw ts ∷ ‵ (Own κ h) ∷ ‵ (owns rows more vals) ∷ []) ∵
        move ! (1 ∷ []) $ use1 𝓛 (‵ (Own κ h) ⊛ ‵ (Own κ h)) ((LL.copy (D κ) (T'.the_copy (α κ)) 𝓛).twice h (T'.lowered h ∷ [])) $ split ! $
        use1 𝓛 (given (T'.lowered h ∷ [] ≡ T'.lowered h ∷ []) (‵ (all_own (D κ).parts (L κ) fields))) (own_open 𝓛 (D κ) (L κ) fields (T'.lowered h)) $ learn ! (λ _.
        use1 𝓛 (‵ (field_own (D κ).parts (L κ) 0 h.image) ⊛ ‵ (rest (D κ).parts (L κ) 0 fields)) (own_out 𝓛 (D κ).parts (L κ) 0 fields) $ split ! $
        -- [what image owns; what the rest owns; what the struct owns; the tokens; what the others own]
        move ! (1 ∷ []) $ drop ! $ move ! (3 ∷ []) $ owned ! u32 (Is u32) (uint_Makes 𝓛 w32) h.end _ (refl, fe) $ fjoin ! $ owned ! u32 (Is u32) (uint_Makes 𝓛 w32) h.byte_pos _ (refl, fp) $ fjoin ! $ move ! (1 ∷ 0 ∷ []) $ fjoin ! $
        move ! (2 ∷ 0 ∷ []) $ use2 𝓛 (raw asked) gives $ frame ! $ done !)
