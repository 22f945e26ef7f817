-- Tokens of a raw lock with a mistake.
use Rattle.std.specs.Prelude.{Bool, true, Option, None, Some}

-- the token is own, if it was acquired
abbrev pub owns_if_some : {T : Type 0} → (T → Bool) → Option T → Bool
owns_if_some owns None = true
owns_if_some owns (Some token) = owns token
