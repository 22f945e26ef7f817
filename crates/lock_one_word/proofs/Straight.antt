-- The straight path makes the first steps of the machine.
use Rattle.std.proofs.Common.{◌≡◌, ℕ, true, false, IsTrue, refl, sym, ap, subst, ◌∙◌}
use Rattle.std.proofs.lemmas.Bool.{true≢false}
use Rattle.lock_modes.specs.declared.hold.Hold.{Hold}
use Rattle.lock_modes.specs.Holds.{hold_has, hold_after}
use Rattle.lock_word.specs.declared.want.ExWant.{ExWant}
use Rattle.lock_word.specs.declared.down.Down.{Down}
use Rattle.lock_word.specs.Word.{step_of_down}
use Rattle.lock_one.specs.declared.action.Action.{Action}
use Rattle.lock_one.specs.declared.action.Action.TheVariants.{Exchange, End}
use Rattle.lock_one.specs.Machine.{Progress, acquiring, taking, next_of}
use Rattle.lock_one.specs.Rule.{is_upgrade}
use Rattle.lock_one.proofs.Actions.{on_word, steps_on}
use Rattle.lock_one.proofs.Answers.{first_steps}
use Rattle.lock_one_word.specs.declared.rule.OneView.{OneView}
use Rattle.lock_one_word.specs.declared.word_lock.steps.looked.Looked.{Looked}
use Rattle.lock_one_word.specs.Calls.{Ending, IsTry}
use Rattle.lock_one_word.specs.Drives.{looked_at, first_end, Admits, CanMake, IsTrying}
use Rattle.lock_one_word.specs.Plays.{Goes}
use Rattle.lock_one_word.specs.Seats.{Self, Task, placed, to_acquire, to_release, IsGoing}
use Rattle.lock_one_word.proofs.Blocks.{looked_readers}
use Rattle.lock_one_word.proofs.Rests.{releasing_first, released_end}
use Rattle.lock_one_word.proofs.Tasks.{keeps_task}
use Rattle.lock_one_word.proofs.TryEnds.{looks}

-- the call goes on with what the step found
pub goes : (p : Progress) (a : Action) (me after : Self) (found : ℕ) (before : Hold) (task : Task) → p.1 ≡ a → on_word a ≡ true → Goes a me found after
    → IsGoing p before task me.0 → IsGoing (next_of found p.0) before task after.0
goes p a me after found before task is on made going =
    let here = subst (λ (x : Action). IsGoing (p.0, x) before task me.0) is going in
    made p.0 before task (steps_on p.0.stage p.0 (placed me.0.held a) a here.at on) here

-- a call that has looked asks for this exchange
pub asks : (l : Looked) (left : ℕ) → Admits l left → (looked_at l).1 ≡ Exchange l.word left
asks l left admits = first_steps.acquires l.readers l.word l.want l.blocks true admits.1 admits.2 ∙ ap (λ n. Exchange l.word n) (sym admits.0)

-- and has acquired, if the exchange finds its word
pub acquires : (l : Looked) (left found : ℕ) → Admits l left → found ≡ l.word → (next_of found (looked_at l).0).1 ≡ End true
acquires l left found admits is =
    ap (λ n. (next_of n (looked_at l).0).1) is ∙ first_steps.acquired l.readers l.word l.want l.blocks true admits.1 admits.2

pub tries : (l : Looked) → l.blocks ≡ false → IsTrying (looked_at l)
tries l never = looks l.word (acquiring l.readers l.want l.blocks true).0 never refl

-- the end of a try that its first exchange has ended
pub try_started : (l : Looked) (v : OneView) (before : Hold) (wish : ExWant) (e : Ending) → IsGoing (looked_at l) before (to_acquire wish) v → l.blocks ≡ false
    → e ≡ first_end l → IsTry v.readers wish true e
try_started l v before wish e going never is =
    subst (λ (x : Ending). IsTry v.readers wish true x) (sym is)
    record {
      lock = sym (looked_readers l) ∙ going.lock;
      upgrades = ap (λ (t : Task). is_upgrade t.0) (sym (keeps_task l.word (acquiring l.readers l.want l.blocks true).0 refl) ∙ going.tasked);
      tries = never;
      answered = refl;
      refused = λ off. absurd (true≢false off);
    }

-- the release asks for this action
pub may_make : (readers : ℕ) (d : Down) (me : Self) (a : Action) → me.0.readers ≡ readers → IsTrue (hold_has me.0.held (step_of_down d))
    → (taking readers d).1 ≡ a → CanMake a me
may_make readers d me a lock has is = (
  (taking readers d).0,
  me.0.held,
  to_release d,
  subst (λ (x : Action). IsGoing ((taking readers d).0, x) me.0.held (to_release d) me.0) is (releasing_first readers d me.0 (sym lock) has),
)

-- a release goes on after its first step
pub first_release : (readers : ℕ) (d : Down) (me after : Self) (a : Action) (found : ℕ) → me.0.readers ≡ readers → IsTrue (hold_has me.0.held (step_of_down d))
    → (taking readers d).1 ≡ a → on_word a ≡ true → Goes a me found after → IsGoing (next_of found (taking readers d).0) me.0.held (to_release d) after.0
first_release readers d me after a found lock has is on made =
    goes (taking readers d) a me after found me.0.held (to_release d) is on made (releasing_first readers d me.0 (sym lock) has)

-- a release that has ended has released
pub has_released : (p : Progress) (before : Hold) (d : Down) (v : OneView) → p.1 ≡ End true → IsGoing p before (to_release d) v → v.held ≡ hold_after before (step_of_down d)
has_released p before d v is going = released_end p.0 before d true v (subst (λ (x : Action). IsGoing (p.0, x) before (to_release d) v) is going)
