-- How far a running job has come, as a part that can be written.
use Rattle.std.specs.Prelude.{◌≡◌, ℕ, Option, None, Some, IsSome, refl}
use Rattle.std.proofs.Common.{ap, sym}
use Rattle.std.proofs.lemmas.Option.{same_Some}
use Rattle.lock_api.specs.Lens.{Lens, IsLawful}
use Rattle.lock_examples.specs.declared.parts.Job.{Job}
use Rattle.lock_examples.specs.declared.parts.Job.TheVariants.{Waiting, Running}

abbrev pub progress_of : Job → Option ℕ
progress_of Waiting = None
progress_of (Running held) = Some held

abbrev pub with_progress : Job → ℕ → Job
with_progress Waiting new = Waiting
with_progress (Running old) new = Running new

abbrev pub progress : Lens Job ℕ
progress = record { part = progress_of; put = with_progress }

part_of_put : (job : Job) (new : ℕ) → IsSome (progress_of job) → progress_of (with_progress job new) ≡ Some new
part_of_put Waiting new has = Prim.cc
part_of_put (Running old) new has = refl

put_same : (job : Job) (old : ℕ) → progress_of job ≡ Some old → with_progress job old ≡ job
put_same Waiting old is = refl
put_same (Running held) old is = ap Running (sym (same_Some _ _ is))

put_twice : (job : Job) (first last : ℕ) → IsSome (progress_of job)
    → with_progress (with_progress job first) last ≡ with_progress job last
put_twice Waiting first last has = refl
put_twice (Running held) first last has = refl

pub IsLawful-progress : IsLawful progress
IsLawful-progress = record { part_of_put = part_of_put; put_same = put_same; put_twice = put_twice }
