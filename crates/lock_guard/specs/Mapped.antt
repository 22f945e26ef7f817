-- The part that a mapped guard shows.
use Rattle.std.specs.Prelude.{◌≡◌, Option, None, IsSome, Result, MatchResult}
use Rattle.lock_parts.specs.Lens.{Lens}
use Rattle.lock_guard.specs.GuardPart.{guard_part, guard_with_part}
use Rattle.lock_guard.specs.declared.guard.mapped.Mapped.{Mapped}

-- the mapped guard holds this guard, and shows the part by this projection
pub record IsMapOf {G P : Type 0} (guard : G) (projection : P) (mapped : Mapped G P) : Type 0 where
  pub same_guard : mapped.guard ≡ guard
  pub same_projection : mapped.projection ≡ projection

-- a guard is mapped where it shows the part, and else this holds of what comes back
abbrev pub IsMappedOr : {G P Y E : Type 0} → Option Y → G → P → (E → Type 0) → Result (Mapped G P) E → Type 0
IsMappedOr part guard projection ComesBack result = MatchResult result
    (λ mapped. IsSome part × IsMapOf guard projection mapped)
    (λ back. (part ≡ None) × ComesBack back)

module _ {G P X Y : Type 0} where
  -- the part that it shows, where there is one
  abbrev pub mapped_part : (G → Option X) → (P → X → Option Y) → Mapped G P → Option Y
  mapped_part value_of part mapped = guard_part value_of (part mapped.projection) mapped.guard

  -- the same guard, with another part in its value
  abbrev pub mapped_with_part : (G → Option X) → (G → X → G) → (P → Lens X Y) → Mapped G P → Y → Mapped G P
  mapped_with_part value_of with_value lens mapped new =
      record mapped { guard = guard_with_part value_of with_value (lens mapped.projection) mapped.guard new }
