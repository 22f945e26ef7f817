-- A run that ends well had its limits in range.
use Rattle.std.proofs.Common.{◌≡◌, Result, Ok, Err}
use Rattle.std.specs.Prelude.{◌↔◌, OnOk}
use Rattle.lock_modes.specs.declared.fault.Fault.{Fault}
use Rattle.lock_modes.specs.declared.fault.Fault.TheVariants.{BadLimits}

-- it is refused exactly if its kind is right and its limits are not
pub ok_in_range : {T K L : Type 0} (r : Result T Fault) → ((r ≡ Err BadLimits) ↔ (K × (L → ⊥))) → K → OnOk r ((L → ⊥) → ⊥)
ok_in_range (Ok x) limits kind = λ out. let same : Ok x ≡ Err BadLimits = limits.1 (kind, out) in cc
ok_in_range (Err fault) limits kind = tt
