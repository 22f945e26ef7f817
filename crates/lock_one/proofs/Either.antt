-- What holds of both of two next actions holds of the one that is chosen.
use Rattle.std.proofs.Common.{Bool, true, false, if◌then◌else◌}
use Rattle.lock_one.specs.Machine.{Progress}

pub of_either : (P : Progress → Type 0) (b : Bool) (p q : Progress) → P p → P q → P (if b then p else q)
of_either P true p q first second = first
of_either P false p q first second = second
