-- Each action of a release lowers its rank.
use Rattle.std.proofs.Common.{◌≡◌, ℕ, ◌+◌, ◌-◌, ◌<◌, Bool, true, false, ◌==◌, nat_lt, if◌then◌else◌, refl, sym, ap, subst, ◌∙◌, arith, ltb-true}
use Rattle.std.proofs.lemmas.Bool.{false≢true, true≢false}
use Rattle.lock_modes.specs.declared.hold.Hold.{Hold}
use Rattle.lock_word.specs.declared.down.Down.{Down}
use Rattle.lock_one.specs.declared.action.Action.{Action}
use Rattle.lock_one.specs.declared.action.Action.TheVariants as action
use Rattle.lock_one.specs.declared.call.WordCall.{WordCall}
use Rattle.lock_one.specs.declared.stage.Stage.{Stage}
use Rattle.lock_one.specs.declared.stage.Stage.TheVariants as stage
use Rattle.lock_one.specs.declared.sleep_view.Debt.{Debt}
use Rattle.lock_one.specs.declared.sleep_view.Debt.TheVariants as debt
use Rattle.lock_one.specs.Machine.{Progress, has_sleepers, release_of, release_on, subtract, release_again, wakes, next_at, next_of}
use Rattle.lock_one.specs.Answers.{releases_at}
use Rattle.lock_one.specs.Runs.{debt_at}
use Rattle.lock_one.specs.Steps.{IsAt, IsWake}
use Rattle.lock_one_word.specs.declared.rule.OneView.{OneView}
use Rattle.lock_one_word.specs.Seats.{placed, Task, to_release, IsGoing}
use Rattle.lock_one_word.specs.Drives.{touches_lock, rank_at, rank}

abbrev ranked : Progress → ℕ
ranked p = rank p.0

wakes_last : (d : Debt) (call : WordCall) → ranked (wakes d call) < 2
wakes_last debt.Nothing call = omega arith
wakes_last debt.One call = omega arith
wakes_last debt.All call = omega arith
wakes_last debt.Next call = omega arith
wakes_last debt.Turn call = omega arith

module _ (found : ℕ) (call : WordCall) where
  again : (b : Bool) → nat_lt call.pauses 8 ≡ b
      → ranked (if b then release_on found (record call { pauses = call.pauses + 1 }) else subtract call) < 3 + (8 - call.pauses)
  again true e = let few = ltb-true call.pauses 8 e in omega arith
  again false e = omega arith

  releasing : (b : Bool) → ranked (if b then wakes (release_of call.readers call.loaded call.down).1 call else release_again found call) < 3 + (8 - call.pauses)
  releasing true = let last = wakes_last (release_of call.readers call.loaded call.down).1 call in omega arith
  releasing false = again (nat_lt call.pauses 8) refl

  looking : (b : Bool) → ranked (if b then release_on found call else subtract call) < 12
  looking true = omega arith
  looking false = omega arith

  less : (st : Stage) → releases_at st ≡ true → (st ≡ stage.Ended → ⊥) → ranked (next_at st found call) < rank_at st call.pauses
  less stage.LookToRemove r on = looking (has_sleepers found)
  less stage.Subtract r on = wakes_last (release_of call.readers found call.down).1 call
  less stage.Release r on = releasing (found == call.loaded)
  less stage.Wake r on = omega arith
  less stage.Ended r on = absurd (on refl)
  less stage.Look r on = absurd (false≢true r)
  less stage.Try r on = absurd (false≢true r)
  less stage.Pause r on = absurd (false≢true r)
  less stage.Mark r on = absurd (false≢true r)
  less stage.Sleep r on = absurd (false≢true r)
  less stage.Withdraw r on = absurd (false≢true r)
  less stage.Leave r on = absurd (false≢true r)
  less stage.WakeRefused r on = absurd (false≢true r)
  less stage.WakeAcquired r on = absurd (false≢true r)
  less stage.Acquired r on = absurd (false≢true r)
  less stage.Refused r on = absurd (false≢true r)

pub smaller : (found : ℕ) (call : WordCall) (a : Action) (before : Hold) (d : Down) (v : OneView) → touches_lock a ≡ true → IsGoing (call, a) before (to_release d) v
    → rank (next_of found call).0 < rank call
smaller found call a before d v touches going =
    less found call call.stage (ap (λ (t : Task). t.2) going.tasked)
    (λ e. let is = subst (λ st. IsAt st call (placed v.held a) a) e going.at in true≢false (sym touches ∙ ap touches_lock is.1))

-- a release whose next action is none on the lock has ended
pub has_ended : (call : WordCall) (a : Action) (before : Hold) (d : Down) (v : OneView) → touches_lock a ≡ false → IsGoing (call, a) before (to_release d) v → a ≡ action.End true
has_ended call a before d v off going = by call.stage (ap (λ (t : Task). t.2) going.tasked) going.at
  where
    by : (st : Stage) → releases_at st ≡ true → IsAt st call (placed v.held a) a → a ≡ action.End true
    by stage.LookToRemove r is = absurd (true≢false (sym (ap touches_lock is.2) ∙ off))
    by stage.Subtract r is = absurd (true≢false (sym (ap touches_lock is.2) ∙ off))
    by stage.Release r is = absurd (true≢false (sym (ap touches_lock is.2) ∙ off))
    by stage.Wake r is = woken (debt_at a) is.1
      where
        woken : (x : Debt) → IsWake x a → a ≡ action.End true
        woken debt.Nothing e = absurd e
        woken debt.One e = absurd (true≢false (sym (ap touches_lock e) ∙ off))
        woken debt.All e = absurd (true≢false (sym (ap touches_lock e) ∙ off))
        woken debt.Next e = absurd (true≢false (sym (ap touches_lock e) ∙ off))
        woken debt.Turn e = absurd (true≢false (sym (ap touches_lock e) ∙ off))
    by stage.Ended r is = is.1
    by stage.Look r is = absurd (false≢true r)
    by stage.Try r is = absurd (false≢true r)
    by stage.Pause r is = absurd (false≢true r)
    by stage.Mark r is = absurd (false≢true r)
    by stage.Sleep r is = absurd (false≢true r)
    by stage.Withdraw r is = absurd (false≢true r)
    by stage.Leave r is = absurd (false≢true r)
    by stage.WakeRefused r is = absurd (false≢true r)
    by stage.WakeAcquired r is = absurd (false≢true r)
    by stage.Acquired r is = absurd (false≢true r)
    by stage.Refused r is = absurd (false≢true r)
