-- What calls that may not succeed do to the party that makes them.
use Rattle.std.specs.Prelude.{◌≡◌, ℕ, ◌+◌, ◌<◌, ◌≤◌, false, None}
use Rattle.lock_modes.specs.Holds.{hold_after}
use Rattle.lock_word.specs.declared.want.ExWant.{ExWant}
use Rattle.lock_word.specs.Word.{word_admits, step_of_want}
use Rattle.lock_word.specs.Rule.{WordShows}
use Rattle.lock_word.specs.declared.seated.attempt.Attempt.{Attempt}
use Rattle.lock_word.specs.declared.seated.attempt.Attempt.TheVariants.{Done, NotAdmitted, Changed}
use Rattle.lock_word.specs.Seats.{GuardsDoNotGrow}
use Rattle.lock_word.specs.CallerView.{CallerView, after_load, after_own_step, after_lost_exchange}

-- the word was loaded, and does not admit what was wanted
pub record IsNotAdmitted (want : ExWant) (before : CallerView) (word : ℕ) (after : CallerView) : Type 0 where
  pub party : after ≡ after_load before word
  pub refuses : word_admits before.state.held.announced before.lock.readers word want ≡ false
  pub shows : WordShows before.lock.readers word before.state.held
  pub guards : GuardsDoNotGrow before.state.held.announced before.last word

-- an attempt loads once, and then exchanges at most once
abbrev pub Attempted : ExWant → CallerView → Attempt → CallerView → Type 0
Attempted want before Done after = after ≡ after_own_step (after_load before after.last) (step_of_want want)
Attempted want before (NotAdmitted word) after = IsNotAdmitted want before word after
Attempted want before Changed after = after ≡ after_lost_exchange (after_load before after.last)

-- any number of attempts that did not succeed
pub record Tried (before after : CallerView) : Type 0 where
  pub lock : after.lock ≡ before.lock
  pub number : after.number ≡ before.number
  pub held : after.state.held ≡ before.state.held
  pub wins : after.state.wins ≡ before.state.wins
  pub fails : before.state.fails ≤ after.state.fails
  pub loads : before.loads ≤ after.loads

-- any number of attempts that did not succeed, and one that did
pub record Acquired (want : ExWant) (before after : CallerView) : Type 0 where
  pub lock : after.lock ≡ before.lock
  pub number : after.number ≡ before.number
  pub held : after.state.held ≡ hold_after before.state.held (step_of_want want)
  pub none_open : after.state.loaded ≡ None
  pub wins : after.state.wins ≡ before.state.wins + 1
  pub fails : before.state.fails ≤ after.state.fails
  pub loads : before.loads < after.loads
