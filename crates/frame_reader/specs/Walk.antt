-- What the cycle leaves of the places that it finds, and the answer that they make. Definitions only.
use Rattle.std.specs.Prelude.{ℕ, ◌+◌, List, [], ◌∷◌, map, length, set, Option, Some, None, Result, Ok, Err}
use Rattle.refusal.specs.declared.Refusal.{Refusal}
use Rattle.refusal.specs.declared.Refusal.TheVariants.{BadFrame}
use Rattle.pdu.specs.Read.{Places, bad, good, seen_at}
use Rattle.frame_reader.specs.Answers.{padded}
use Rattle.frame_reader.specs.declared.FrameRead.{FrameRead}

-- what a walk says that has k PDUs behind it
unfoldable pub walked_of : ℕ → Places → Option ℕ
walked_of k bad = None
walked_of k (good l) = Some (k + length l)

-- l stored from k on
unfoldable pub stored : ℕ → List ℕ → List ℕ → List ℕ
stored k [] out = out
stored k (p ∷ l) out = set (stored (k + 1) l out) k p

-- .. if there is no fault
unfoldable pub placed : ℕ → Places → List ℕ → List ℕ
placed k bad out = out
placed k (good l) out = stored k l out

-- the answer
unfoldable pub listing : List ℕ → Places → Result FrameRead Refusal
listing s bad = Err BadFrame
listing s (good l) = Ok (record { count = length l; pdus = padded (map (seen_at s) l) })
