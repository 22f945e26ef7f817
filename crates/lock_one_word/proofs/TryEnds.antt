-- After its load, a try makes exchanges until it ends.
use Rattle.std.proofs.Common.{◌≡◌, ℕ, Bool, true, false, ◌&&◌, ◌==◌, if◌then◌else◌, inl, inr, IsTrue, refl, sym, ap, subst, ◌∙◌}
use Rattle.std.proofs.lemmas.Bool.{false≢true, true≢false}
use Rattle.lock_modes.specs.declared.hold.Hold.{Hold}
use Rattle.lock_modes.specs.Holds.{hold_after}
use Rattle.lock_word.specs.declared.want.ExWant.{ExWant}
use Rattle.lock_word.specs.Unblocking.{is_awaited}
use Rattle.lock_word.specs.Word.{step_of_want}
use Rattle.lock_one.specs.declared.action.Action.{Action}
use Rattle.lock_one.specs.declared.action.Action.TheVariants as action
use Rattle.lock_one.specs.declared.call.WordCall.{WordCall}
use Rattle.lock_one.specs.declared.stage.Stage.TheVariants as stage
use Rattle.lock_one.specs.Machine.{Progress, has_sleepers, admits_word, takes_turn, after_try, won, decide, wait, acquired, goes_to, next_at, next_of}
use Rattle.lock_one.proofs.Actions.{on_word}
use Rattle.lock_one.specs.Steps.{ends, IsAt, hold_at}
use Rattle.lock_one_word.specs.declared.rule.OneView.{OneView}
use Rattle.lock_one_word.specs.Seats.{placed, Task, to_acquire, IsGoing}
use Rattle.lock_one_word.specs.Drives.{Pending, at, IsTrying, HasWoken, is_tried, is_exchange, says_yes}
use Rattle.lock_one_word.proofs.Rests.{rests, acquired_end, refused_end}

rest_tries : (call : WordCall) → call.blocks ≡ false → IsTrying (wait call)
rest_tries call never = rw never record { tries = refl; stage = inr (inr (inl refl)) }

decide_tries : (word : ℕ) (call : WordCall) → call.blocks ≡ false → IsTrying (decide word call)
decide_tries word call never = by (admits_word call.announced call.readers word call.want)
  where
    by : (b : Bool) → IsTrying (if b then goes_to (record call { loaded = word; left = after_try call word }) stage.Try (action.Exchange word (after_try call word)) else wait (record call { loaded = word }))
    by true = record { tries = never; stage = inl refl }
    by false = rest_tries (record call { loaded = word }) never

try_tries : (found : ℕ) (call : WordCall) → call.blocks ≡ false → IsTrying (next_at stage.Try found call)
try_tries found call never = by (found == call.loaded)
  where
    by : (b : Bool) → IsTrying (if b then won call else decide found call)
    by true = wins (takes_turn call call.loaded && has_sleepers call.loaded)
      where
        wins : (b : Bool) → IsTrying (if b then goes_to call stage.WakeAcquired action.WakeAll else acquired call)
        wins true = record { tries = never; stage = inr (inr (inr refl)) }
        wins false = record { tries = never; stage = inr (inl refl) }
    by false = decide_tries found call never

-- a try after its load
pub looks : (found : ℕ) (call : WordCall) → call.blocks ≡ false → call.stage ≡ stage.Look → IsTrying (next_of found call)
looks found call never at = subst (λ st. IsTrying (next_at st found call)) (sym at) (decide_tries found call never)

at_try : (call : WordCall) (a : Action) (v : OneView) (before : Hold) (task : Task) → ends a ≡ false → is_tried a ≡ true → IsGoing (call, a) before task v → IsTrying (call, a) → call.stage ≡ stage.Try
at_try call a v before task on tried going trying =
    elim trying.stage [
      | inl tries ↦ tries
      | inr over ↦
          elim over [
            | inl acquired ↦ (let is = subst (λ st. IsAt st call (placed v.held a) a) acquired going.at in absurd (true≢false (sym (ap ends is.1) ∙ on)))
            | inr last ↦
                elim last [
                  | inl refused ↦ (let is = subst (λ st. IsAt st call (placed v.held a) a) refused going.at in absurd (true≢false (sym (ap ends is.1) ∙ on)))
                  | inr owes ↦ (let is = subst (λ st. IsAt st call (placed v.held a) a) owes going.at in absurd (false≢true (sym (ap is_tried is.2) ∙ tried)))
                ]
          ]
    ]

-- a try after an exchange
pub tries_again : (found old new : ℕ) (call : WordCall) (v : OneView) (before : Hold) (task : Task) → IsGoing (call, action.Exchange old new) before task v
    → IsTrying (call, action.Exchange old new) → IsTrying (next_of found call)
tries_again found old new call v before task going trying =
    subst (λ st. IsTrying (next_at st found call)) (sym (at_try call (action.Exchange old new) v before task refl refl going trying)) (try_tries found call trying.tries)

-- a try that asks for no exchange makes the wake-up that it owes, or has ended
pub wakes_up : (p q : Pending) → p.action ≡ action.WakeAll → at q ≡ next_of 0 p.call → HasWoken p q
wakes_up p q is turns before task v going trying none =
    elim trying.stage [
      | inl tries ↦ (let at_it = subst (λ st. IsAt st p.call (placed v.held p.action) p.action) tries going.at in absurd (true≢false (sym (ap is_exchange at_it.2) ∙ none)))
      | inr over ↦
          elim over [
            | inl acquired ↦ (let at_it = subst (λ st. IsAt st p.call (placed v.held p.action) p.action) acquired going.at in let e = sym is ∙ at_it.1 in cc)
            | inr last ↦
                elim last [
                  | inl refused ↦ (let at_it = subst (λ st. IsAt st p.call (placed v.held p.action) p.action) refused going.at in let e = sym is ∙ at_it.1 in cc)
                  | inr owes ↦
                      (let done : at q ≡ acquired p.call = turns ∙ ap (λ st. next_at st 0 p.call) owes in (
                        subst (λ r. IsGoing r before task v) (sym turns) (rests p.call p.action before task v 0 (ap on_word is) (ap ends is) going),
                        subst IsTrying (sym done) record { tries = trying.tries; stage = inr (inl refl) },
                        ap (λ (r : Progress). is_tried r.1) done,
                        ap (λ (r : Progress). is_exchange r.1) done,
                      ))
                ]
          ]
    ]

pub owes_nothing : (p : Pending) → (p.action ≡ action.WakeAll → ⊥) → HasWoken p p
owes_nothing p never before task v going trying none = (
  going,
  trying,
  (elim trying.stage [
    | inl tries ↦ (let is = subst (λ st. IsAt st p.call (placed v.held p.action) p.action) tries going.at in ap is_tried is.2)
    | inr over ↦
        elim over [
          | inl acquired ↦ (let is = subst (λ st. IsAt st p.call (placed v.held p.action) p.action) acquired going.at in ap is_tried is.1)
          | inr last ↦
              elim last [
                | inl refused ↦ (let is = subst (λ st. IsAt st p.call (placed v.held p.action) p.action) refused going.at in ap is_tried is.1)
                | inr owes ↦ (let is = subst (λ st. IsAt st p.call (placed v.held p.action) p.action) owes going.at in absurd (never is.2))
              ]
        ]
  ]),
  none,
)

-- a try that has not acquired has changed nothing
pub leaves_all : (call : WordCall) (a : Action) (v : OneView) (before : Hold) (task : Task) → before.announced ≡ false → IsGoing (call, a) before task v → IsTrying (call, a)
    → is_tried a ≡ true → says_yes a ≡ false → v.held ≡ before
leaves_all call a v before task clean going trying asks off =
    elim trying.stage [
      | inl tries ↦
          (let is = subst (λ st. IsAt st call (placed v.held a) a) tries going.at in
          let unannounced : call.announced ≡ false = (is.0.0.tries trying.tries).1 in
          subst (λ st. v.held ≡ hold_at st call before) tries going.held
          ∙ (ap (λ x. record before { announced = x }) unannounced ∙ ap (λ (x : Bool). let h : Hold = record { bag = before.bag; announced = x } in h) (sym clean)))
      | inr over ↦
          elim over [
            | inl acquired ↦ (let is = subst (λ st. IsAt st call (placed v.held a) a) acquired going.at in absurd (true≢false (sym (ap says_yes is.1) ∙ off)))
            | inr last ↦
                elim last [
                  | inl refused ↦
                      (let is = subst (λ st. IsAt st call (placed v.held a) a) refused going.at in
                      refused_end call before task v clean (subst (λ (x : Action). IsGoing (call, x) before task v) is.1 going))
                  | inr owes ↦ (let is = subst (λ st. IsAt st call (placed v.held a) a) owes going.at in absurd (false≢true (sym (ap is_tried is.2) ∙ asks)))
                ]
          ]
    ]

-- a try that says yes has acquired
yes_ends : (a : Action) → is_tried a ≡ true → says_yes a ≡ true → a ≡ action.End true
yes_ends (action.Exchange x y) t h = absurd (false≢true h)
yes_ends (action.End b) t h = ap (λ x. action.End x) h
yes_ends other t h = absurd (false≢true t)

pub tried : (call : WordCall) (a : Action) (v : OneView) (before : Hold) (wish : ExWant) → before.announced ≡ false → IsTrue (is_awaited wish)
    → IsGoing (call, a) before (to_acquire wish) v → IsTrying (call, a) → is_tried a ≡ true → (b : Bool) → b ≡ says_yes a
    → v.held ≡ (if b then hold_after before (step_of_want wish) else before)
tried call a v before wish clean awaited going trying asks true e =
    acquired_end call before wish v clean awaited (subst (λ (x : Action). IsGoing (call, x) before (to_acquire wish) v) (yes_ends a asks (sym e)) going)
tried call a v before wish clean awaited going trying asks false e = leaves_all call a v before (to_acquire wish) clean going trying asks (sym e)

pub no_exchange : (a : Action) → ((x y : ℕ) → a ≡ action.Exchange x y → ⊥) → is_exchange a ≡ false
no_exchange action.Load not = refl
no_exchange (action.Exchange x y) not = absurd (not x y refl)
no_exchange (action.Subtract d) not = refl
no_exchange (action.Sleep n c b) not = refl
no_exchange action.WakeOne not = refl
no_exchange action.WakeAll not = refl
no_exchange action.WakeNext not = refl
no_exchange action.WakeTurn not = refl
no_exchange (action.Spin n) not = refl
no_exchange action.Yield not = refl
no_exchange (action.End b) not = refl

-- a try that asks for no exchange, and owes nothing, asks for its end
pub asks_end : (a : Action) → is_tried a ≡ true → is_exchange a ≡ false → a ≡ action.End (says_yes a)
asks_end action.Load t off = absurd (false≢true t)
asks_end (action.Exchange x y) t off = absurd (true≢false off)
asks_end (action.Subtract d) t off = absurd (false≢true t)
asks_end (action.Sleep n c b) t off = absurd (false≢true t)
asks_end action.WakeOne t off = absurd (false≢true t)
asks_end action.WakeAll t off = absurd (false≢true t)
asks_end action.WakeNext t off = absurd (false≢true t)
asks_end action.WakeTurn t off = absurd (false≢true t)
asks_end (action.Spin n) t off = absurd (false≢true t)
asks_end action.Yield t off = absurd (false≢true t)
asks_end (action.End b) t off = refl
