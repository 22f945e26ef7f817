-- What a guard of a part of a ranked lock's value holds.
use Rattle.std.specs.Prelude.{◌≡◌, Option, None, IsSome, Result, MatchResult}
use Rattle.lock_guard.specs.Mapped.{IsMapOf}
use Rattle.lock_guard.specs.declared.guard.mapped.Mapped.{Mapped}
use Rattle.lock_ranked.specs.declared.ranked.Ranked.{Ranked}

module _ {G P B K : Type 0} where
  -- the mapped guard under a ranked one
  abbrev pub mapped_of : Ranked (Mapped G P) B K → Mapped G P
  mapped_of ranked = ranked.guard

  -- a guard is mapped where it shows the part, and else this holds of what comes back
  abbrev pub IsMappedOr : {Y E : Type 0} → Option Y → G → P → (E → Type 0) → Result (Ranked (Mapped G P) B K) E → Type 0
  IsMappedOr part held projection ComesBack result = MatchResult result
      (λ mapped. IsSome part × IsMapOf held projection (mapped_of mapped))
      (λ back. (part ≡ None) × ComesBack back)
