-- The composition of projections.
use Rattle.lock_parts.specs.declared.then.Then.{Then}

-- the part by the second projection of the part by the first
abbrev pub then : {P Q : Type 0} → P → Q → Then P Q
then first second = record { first = first; second = second }

-- three composed projections, grouped the other way
abbrev pub other_grouping : {P Q S : Type 0} → Then (Then P Q) S → Then P (Then Q S)
other_grouping p = then p.first.first (then p.first.second p.second)
