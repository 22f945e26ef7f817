-- The machine of guards: a value, and the register of its guards.
use Rattle.std.specs.Prelude.{ℕ, ◌+◌, ◌-◌, ◌^◌, if◌then◌else◌, min}
use Rattle.lock_modes.specs.declared.kind.Kind.{Kind}
use Rattle.lock_machine.specs.Register.{Register, empty_register, moves_token}

pub record Machine (T : Type 0) : Type 0 where
  pub register : Register
  pub open register use *
  pub value : T
  -- how many tokens were released
  pub spent : ℕ

-- a new machine
abbrev pub start : {T : Type 0} → Kind → T → ℕ → ℕ → Machine T
start kind value places limit = record { register = empty_register kind places limit; value = value; spent = 0 }

-- a saturating count
abbrev pub one_spent_more : ℕ → ℕ
one_spent_more n = min (n + 1) (2 ^ 64 - 1)

-- the machine after an unlock or a park that left this register: it counts the token that was released, if there was
-- one
abbrev pub after_release : {T : Type 0} → Machine T → Register → Machine T
after_release m left =
    record m { register = left; spent = if moves_token left then one_spent_more m.spent else m.spent }
