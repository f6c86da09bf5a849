-- Where the next text goes. Definitions only.
use Rattle.std.specs.Prelude.{ℕ, ◌+◌, ◌-◌, min}

-- the place after n bytes that are laid from k on over len: no further than the end
unfoldable pub after : ℕ → ℕ → ℕ → ℕ
after len k n = k + min n (len - k)
