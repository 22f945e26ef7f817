-- A journal records the steps of a lock.
use Rattle.std.proofs.Common.{◌≡◌, ℕ, ◌<◌, Bool, true, false, nat_lt, List, [], ◌∷◌, ◌++◌, length, length-append, refl, sym, ap, ◌∙◌, subst, arith, ltb-true}
use Rattle.std.specs.Prelude.{if◌then◌else◌}
use Rattle.std.proofs.lemmas.Bool.{false≢true}
use Rattle.lock_modes.specs.declared.mode.Mode.{Mode}
use Rattle.lock_modes.specs.declared.mode_step.ModeStep.{ModeStep}
use Rattle.lock_modes.specs.declared.bag.Bag.{Bag}
use Rattle.lock_modes.specs.Modes.{empty_bag}
use Rattle.lock_modes.specs.ModeRuns.{Permits, bag_after, IsModeRun}
use Rattle.lock_modes.specs.Tokens.{bag_of_tokens}
use Rattle.lock_modes.specs.Limits.{IsLimit}
use Rattle.lock_raws_monitor.specs.Journal.{Journal, empty_journal, journal_after, IsJournalOf}
use Rattle.lock_raws_monitor.specs.Recording.{IsRecording}
use Rattle.lock_modes.proofs.ModeLemmas.{IsModeRun-push}
use Rattle.lock_modes.proofs.TokenSteps.{MakesStep}

empty_is_journal : (limit room : ℕ) → IsJournalOf limit empty_bag (empty_journal room)
empty_is_journal limit room = record {
  replays = (empty_bag, refl);
  to_bag = λ going. refl;
  within = omega arith;
  full = λ stopped. absurd (false≢true stopped);
}

-- a journal with room has not stopped
has_not_stopped : {limit : ℕ} {bag : Bag} (journal : Journal) → IsJournalOf limit bag journal
    → length journal.steps < journal.room → (stopped : Bool) → journal.stopped ≡ stopped → stopped ≡ false
has_not_stopped journal kept room false is = refl
has_not_stopped journal kept room true is = absurd (let full = kept.full is in omega arith)

written_step : (limit : ℕ) (bag : Bag) (journal : Journal) (step : ModeStep) → IsJournalOf limit bag journal → Permits limit bag step
    → (room : Bool)
    → nat_lt (length journal.steps) journal.room ≡ room
    → IsJournalOf limit (bag_after bag step)
    (if room then record journal { steps = journal.steps ++ step ∷ [] } else record journal { stopped = true })
written_step limit bag journal step kept permitted true is =
    let room = ltb-true (length journal.steps) journal.room is in
    let going : journal.stopped ≡ false = has_not_stopped journal kept room journal.stopped refl in
    let run : IsModeRun limit empty_bag (journal.steps ++ step ∷ []) (bag_after bag step)
    = IsModeRun-push limit empty_bag bag journal.steps step (kept.to_bag going) permitted in
    record {
      replays = (bag_after bag step, run);
      to_bag = λ still. run;
      within = omega (arith, length-append journal.steps (step ∷ []));
      full = λ stopped. absurd (false≢true (sym going ∙ stopped));
    }
written_step limit bag journal step kept permitted false is = record {
  replays = kept.replays;
  to_bag = λ going. absurd (false≢true (sym going));
  within = kept.within;
  full = λ stopped. grind (arith, kept.within, is);
}

-- a permitted step keeps the journal, recorded or not
pub IsJournalOf-journal_after : (limit : ℕ) (bag : Bag) (journal : Journal) (step : ModeStep)
    → IsJournalOf limit bag journal → Permits limit bag step
    → IsJournalOf limit (bag_after bag step) (journal_after journal step)
IsJournalOf-journal_after limit bag journal step kept permitted =
    written_step limit bag journal step kept permitted (nat_lt (length journal.steps) journal.room) refl

journal_along : {limit limit' : ℕ} {bag bag' : Bag} {journal journal' : Journal} → limit' ≡ limit → bag' ≡ bag
    → journal' ≡ journal → IsJournalOf limit bag journal → IsJournalOf limit' bag' journal'
journal_along {limit} {limit'} {bag} {bag'} {journal} {journal'} same_limit same_bag same_journal kept =
    subst (λ l. IsJournalOf l bag' journal') (sym same_limit)
    (subst (λ b. IsJournalOf limit b journal') (sym same_bag)
    (subst (λ j. IsJournalOf limit bag j) (sym same_journal) kept))

module _ {K : Type 0} where
  -- after a call that made a step
  pub recording_stepped : {old new : List (K × Mode)} {limit limit' : ℕ} {journal journal' : Journal} (step : ModeStep)
      → IsRecording old limit journal → MakesStep limit old new step
      → limit' ≡ limit → journal' ≡ journal_after journal step
      → IsRecording new limit' journal'
  recording_stepped {old} {new} {limit} {limit'} {journal} step recording made same_limit same_journal = record {
    lawful = subst IsLimit (sym same_limit) recording.lawful;
    kept = journal_along same_limit made.after same_journal
        (IsJournalOf-journal_after limit (bag_of_tokens old) journal step recording.kept made.permitted);
  }

  -- with no token held, and nothing recorded
  pub new_recording : {ts : List (K × Mode)} {limit : ℕ} {journal : Journal} (room : ℕ) → IsLimit limit → ts ≡ [] → journal ≡ empty_journal room
      → IsRecording ts limit journal
  new_recording {limit = limit} room lawful none_out none_written = record {
    lawful = lawful;
    kept = journal_along refl (ap bag_of_tokens none_out) none_written (empty_is_journal limit room);
  }
