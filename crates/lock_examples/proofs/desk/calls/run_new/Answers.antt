use Rattle.std.proofs.Common.{ℕ, subst, refl}
use Rattle.lock_api.specs.declared.model.Kind.{Kind}
use Rattle.lock_api.specs.Kind.{is_reentrant}
use Rattle.lock_api.specs.Machine.{Machine, start}
use Rattle.lock_api.specs.Steps.{after_all}
use Rattle.lock_api.specs.Modes.{AreCompatible}
use Rattle.lock_api.specs.Entries.{held_bag}
use Rattle.lock_api.specs.Legal.{AreLegallyHeld}
use Rattle.lock_api.specs.Sound.{IsSound}
use Rattle.lock_api.specs.SoundRuns.{KeepsLimits}
use Rattle.lock_examples.proofs.desk.calls.run_new.Goals as goal

pub returns : goal.returns
returns g c =
    let new : Machine ℕ = start Kind.Mutex 0 4 1 in
    let last : Machine ℕ = after_all g.O.Op.meaning new c.args.calls.now in
    let sound : IsSound last.register = c.runs_are_sound.ensures.sound Kind.Mutex 0 4 1 c.args.calls.now refl in
    let kept : KeepsLimits new.register last.register = c.runs_are_sound.ensures.limits new c.args.calls.now in
    let held : AreCompatible last.register.limit (held_bag last.register.entries) =
    subst (λ (kind : Kind). AreLegallyHeld (is_reentrant kind) last.register.limit last.register.entries) kept.same_kind sound.legal.held in
    let alone : AreCompatible 1 (held_bag last.register.entries) =
    subst (λ (limit : ℕ). AreCompatible limit (held_bag last.register.entries)) kept.same_limit held in
    rw (c.in_ok-run.ensures.machine, c.in_ok-desk.ensures.made) alone
