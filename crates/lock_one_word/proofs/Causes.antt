-- Why a call was refused.
use Rattle.std.proofs.Common.{◌≡◌, ℕ, ◌-◌, ◌^◌, Bool, true, false, ◌⊎◌, inl, inr, Result, Ok, Err, is_ok, IfErr, MatchResult, refl, subst, sym, ap, ◌∙◌}
use Rattle.std.proofs.lemmas.Bool.{false≢true, true≢false}
use Rattle.lock_modes.specs.declared.hold.Hold.{Hold}
use Rattle.lock_word.specs.declared.want.ExWant.{ExWant}
use Rattle.lock_word.specs.declared.down.Down.{Down}
use Rattle.lock_one.specs.declared.action.Action.{Action}
use Rattle.lock_one.specs.declared.action.Action.TheVariants.{End}
use Rattle.lock_one.specs.declared.call.WordCall.{WordCall}
use Rattle.lock_one.specs.Machine.{Progress, admits_word, acquiring, taking, next_of}
use Rattle.lock_one.specs.Rule.{is_upgrade}
use Rattle.lock_one.specs.Answers.{IsLate, HasCause, CauseAt}
use Rattle.lock_one.proofs.Answers.{ends_not}
use Rattle.lock_one.proofs.Refusals.{refusals_have_causes}
use Rattle.lock_one_word.specs.declared.rule.OneView.{OneView}
use Rattle.lock_one_word.specs.Calls.{Ending, IsRefusedBy, IsTry, TimesOut}
use Rattle.lock_one_word.specs.Drives.{Pending, at, ended_with}
use Rattle.lock_one_word.specs.Seats.{Task, placed, to_acquire, IsGoing}

pub begins : (readers : ℕ) (wish : ExWant) (blocks : Bool) (p : Progress) → p ≡ acquiring readers wish blocks true → HasCause p.0
begins readers wish blocks p is = subst (λ (q : Progress). HasCause q.0) (sym is) (refusals_have_causes.acquires readers wish blocks true)

pub begins_release : (readers : ℕ) (d : Down) (p : Progress) → p ≡ taking readers d → HasCause p.0
begins_release readers d p is = subst (λ (q : Progress). HasCause q.0) (sym is) (refusals_have_causes.releases readers d)

pub goes_on : (found : ℕ) (call next : WordCall) (a : Action) → HasCause call → (next, a) ≡ next_of found call → HasCause next
goes_on found call next a known is = subst (λ (q : Progress). HasCause q.0) (sym is) (refusals_have_causes.goes_on found call known)

-- the refusal of a call rests on the word that it found last, or on its deadline
cause_by : (call : WordCall) (v : OneView) (before : Hold) (wish : ExWant) (e : Ending) → IsGoing (call, End false) before (to_acquire wish) v → HasCause call
    → e.readers ≡ call.readers → e.word ≡ call.loaded → ((call.blocks ≡ false) × IsRefusedBy v.readers wish e.word) ⊎ IsLate call
cause_by call v before wish e going known readers word =
    elim (ends_not call.stage call (placed v.held (End false)) false going.at) [
      | inl acquired ↦ absurd (false≢true acquired.1)
      | inr other ↦
          elim other [
            | inl refused ↦
                (let cause = subst (λ st. CauseAt st call) refused.0 known.cause in
                let wants : call.want ≡ wish = ap (λ (t : Task). t.0) going.tasked in
                elim cause [
                  | inl by ↦ inl (by.0, (λ i. admits_word false (sym going.lock i) (word i) (sym wants i)) ∙ by.1)
                  | inr late ↦ inr late
                ])
            | inr ended ↦ absurd (false≢true ended.1)
          ]
    ]

-- a try that has ended was answered by its exchange, or refused by a word
pub try_ended : (p : Pending) (v : OneView) (before : Hold) (wish : ExWant) (answer : Bool) (e : Ending) → IsGoing (at p) before (to_acquire wish) v
    → p.action ≡ End answer → p.call.blocks ≡ false → HasCause p.call → e ≡ ended_with p answer → IsTry v.readers wish answer e
try_ended p v before wish answer e going ends never known is =
    subst (λ (x : Ending). IsTry v.readers wish answer x) (sym is)
    record {
      lock = going.lock;
      upgrades = ap (λ (t : Task). is_upgrade t.0) going.tasked;
      tries = never;
      answered = refl;
      refused = λ off.
          elim (cause_by p.call v before wish (ended_with p answer)
          (subst (λ (a : Action). IsGoing (p.call, a) before (to_acquire wish) v) (ends ∙ ap (λ b. End b) off) going) known refl refl) [
            | inl by ↦ inl by.1
            | inr late ↦ absurd (true≢false (sym late.0 ∙ never))
          ];
    }

-- a try that can count no more exchanges has ended unacquired
pub try_spent : (p : Pending) (v : OneView) (before : Hold) (wish : ExWant) (e : Ending) → IsGoing (at p) before (to_acquire wish) v
    → p.call.blocks ≡ false → p.exchanges ≡ 2 ^ 64 - 1 → e ≡ ended_with p false → IsTry v.readers wish false e
try_spent p v before wish e going never spent is =
    subst (λ (x : Ending). IsTry v.readers wish false x) (sym is)
    record {
      lock = going.lock;
      upgrades = ap (λ (t : Task). is_upgrade t.0) going.tasked;
      tries = never;
      answered = refl;
      refused = λ _. inr spent;
    }

-- a call that blocks was refused after its deadline
pub times_out : (call : WordCall) (v : OneView) (before : Hold) (wish : ExWant) (e : Ending) → IsGoing (call, End false) before (to_acquire wish) v → call.blocks ≡ true
    → HasCause call → e.readers ≡ call.readers → e.word ≡ call.loaded → e.late ≡ call.late → TimesOut v.readers e
times_out call v before wish e going blocks known readers word late = (
  readers ∙ going.lock,
  elim (cause_by call v before wish e going known readers word) [
    | inl by ↦ absurd (true≢false (sym blocks ∙ by.0))
    | inr passed ↦ late ∙ passed.1
  ],
)

-- why an answer is no
pub if_no : (r : Result Ending Ending) (answer : Bool) (there here : Ending) (Q : Ending → Type 0) → is_ok r ≡ answer → MatchResult r (λ e. e ≡ there) (λ e. e ≡ here)
    → (answer ≡ false → (e : Ending) → e ≡ here → Q e) → IfErr r Q
if_no (Ok x) answer there here Q ok is then = tt
if_no (Err e) answer there here Q ok is then = then (sym ok) e is

-- the end of a call by its answer
pub by_answer : (r : Result Ending Ending) (answer : Bool) (there here : Ending) (P Q : Ending → Type 0) → is_ok r ≡ answer
    → MatchResult r (λ e. e ≡ there) (λ e. e ≡ here) → (answer ≡ true → (e : Ending) → e ≡ there → P e) → (answer ≡ false → (e : Ending) → e ≡ here → Q e) → MatchResult r P Q
by_answer (Ok e) answer there here P Q ok is yes_ no_ = yes_ (sym ok) e is
by_answer (Err e) answer there here P Q ok is yes_ no_ = no_ (sym ok) e is

-- the no of a call
pub the_no : (r : Result Ending Ending) (Q : Ending → Type 0) → is_ok r ≡ false → IfErr r Q → (e : Ending) × Q e
the_no (Ok x) Q off is = absurd (true≢false off)
the_no (Err e) Q off is = (e, is)

-- the end of a try by its answer
pub the_try : (r : Result Ending Ending) (Q : Bool → Ending → Type 0) (answer : Bool) → is_ok r ≡ answer → MatchResult r (Q true) (Q false) → (e : Ending) × Q answer e
the_try (Ok e) Q answer ok is = (e, subst (λ b. Q b e) ok is)
the_try (Err e) Q answer ok is = (e, subst (λ b. Q b e) ok is)

pub if_err : (r : Result Ending Ending) (P Q : Ending → Type 0) → IfErr r P → ((e : Ending) → P e → Q e) → IfErr r Q
if_err (Ok x) P Q is then = tt
if_err (Err e) P Q is then = then e is
