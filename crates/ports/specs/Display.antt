-- The text of a device's ports (RULES, ports): `ports [ open closed open closed ]` for active ports 0 and 1. Definitions only.
use Rattle.std.specs.Prelude.{ℕ, zero, suc, Bool, List, [], ◌∷◌, ◌++◌, length, nat_le}
use Rattle.refusal.specs.Said.{Said, gives, refuses, pick}
use Rattle.wire.specs.Bytes.{overlay}
use Rattle.ports.specs.declared.Ports.{Ports}
use Rattle.ports.specs.Ports.{port_count, active_at}

-- `ports [ `
abbrev pub opening : List ℕ
opening = 112 ∷ 111 ∷ 114 ∷ 116 ∷ 115 ∷ 32 ∷ 91 ∷ 32 ∷ []

-- `]`
abbrev pub closing : List ℕ
closing = 93 ∷ []

-- `open ` of an active port, `closed ` of another
unfoldable pub word_of : Bool → List ℕ
word_of active = pick active (111 ∷ 112 ∷ 101 ∷ 110 ∷ 32 ∷ []) (99 ∷ 108 ∷ 111 ∷ 115 ∷ 101 ∷ 100 ∷ 32 ∷ [])

-- the longer of the words, `closed `, in bytes
abbrev pub word_most : ℕ
word_most = 7

-- the words of the first k places
unfoldable pub words : Ports → ℕ → List ℕ
words p zero = []
words p (suc k) = words p k ++ word_of (active_at p k)

-- the text: a word for each port, in the order of places
unfoldable pub text_of : Ports → List ℕ
text_of p = opening ++ words p port_count ++ closing

-- the longest text, that of four closed ports, in bytes
abbrev pub text_most : ℕ
text_most = 37

-- how many bytes are written; a buffer that is too short is refused
unfoldable pub display_said : Ports → List ℕ → Said
display_said p buf = pick (nat_le (length (text_of p)) (length buf)) (gives (length (text_of p) ∷ [])) (refuses 14 [])

-- the buffer after that: the text in front, the bytes behind it as before; refused, it stays
unfoldable pub display_buf : Ports → List ℕ → List ℕ
display_buf p buf = pick (nat_le (length (text_of p)) (length buf)) (overlay buf 0 (text_of p)) buf
