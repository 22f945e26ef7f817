-- Worlds: parties that step on one word, one step after another.
use Rattle.std.specs.Prelude.{◌≡◌, ℕ, ◌+◌, ◌-◌, ◌^◌, ◌<◌, ◌≤◌, ◌==◌, if◌then◌else◌, List, [], ◌∷◌, ◌++◌, replicate, slice_get, slice_set, Option, Some, None, IsSomeAnd}
use Rattle.lock_modes.specs.declared.fault.Fault.{Fault}
use Rattle.lock_modes.specs.declared.fault.Fault.TheVariants as fault
use Rattle.lock_modes.specs.Limits.{IsLimit}
use Rattle.lock_word.specs.declared.party.WorldParty.{WorldParty}
use Rattle.lock_word.specs.declared.step.AtomicStep.{AtomicStep}
use Rattle.lock_word.specs.declared.step.AtomicStep.TheVariants.{Exchange, Take}
use Rattle.lock_word.specs.declared.step.Outcome.{Outcome}
use Rattle.lock_word.specs.declared.step.Outcome.TheVariants.{Done, Refused}
use Rattle.lock_word.specs.Holders.{holder_at, HolderStep}
use Rattle.lock_word.specs.Word.{step_of_want, step_of_down, IsPacked}
use Rattle.lock_word.specs.Turns.{WordTurn, idle, turn, party_of, steps_after}
use Rattle.lock_word.specs.Rule.{KeepsRule}

-- the word, the readers' limit, how many steps were done, and the parties, numbered from 1
pub record WorldState : Type 0 where
  pub word : ℕ
  pub readers : ℕ
  pub steps : ℕ
  pub parties : List WorldParty

abbrev pub new_world : ℕ → ℕ → WorldState
new_world count limit = record { word = 0; readers = limit; steps = 0; parties = replicate count idle }

-- the party of that number exists, and this holds of it
abbrev pub IsOfParty : WorldState → ℕ → (WorldParty → Type 0) → Type 0
IsOfParty w party fact = IsSomeAnd (holder_at w.parties party) fact

-- no party has that number, and this is the fault of that
abbrev pub IsUnknownIn : WorldState → ℕ → Fault → Type 0
IsUnknownIn w party reply = (reply ≡ fault.UnknownParty) × (holder_at w.parties party ≡ None)

-- the world after a step, and the step's outcome
pub record Stepped : Type 0 where
  pub world : WorldState
  pub outcome : Outcome

-- the world after the turn of the party at this index
abbrev pub after_turn : WorldState → ℕ → WordTurn → Stepped
after_turn w k t =
    record {
      world =
          record {
            word = t.word;
            readers = w.readers;
            steps = steps_after w.steps t.outcome;
            parties = slice_set w.parties k t.party;
          };
      outcome = t.outcome;
    }

abbrev pub after_step_of : WorldState → AtomicStep → Option WorldParty → Stepped
after_step_of w s None = record { world = w; outcome = Refused fault.UnknownParty }
after_step_of w s (Some me) = after_turn w (party_of s - 1) (turn w.readers w.word me s)

unfoldable pub after_step : WorldState → AtomicStep → Stepped
after_step w s =
    if w.steps == 2 ^ 64 - 1
    then record { world = w; outcome = Refused fault.NumbersSpent }
    else after_step_of w s (holder_at w.parties (party_of s))

abbrev pub world_after : WorldState → List AtomicStep → WorldState
world_after w [] = w
world_after w (s ∷ ss) = world_after (after_step w s).world ss

abbrev pub outcomes : WorldState → List AtomicStep → List Outcome
outcomes w [] = []
outcomes w (s ∷ ss) = (after_step w s).outcome ∷ outcomes (after_step w s).world ss

-- the step on modes and bar of an atomic step that was done
abbrev pub holder_step : AtomicStep → Outcome → List HolderStep
holder_step (Exchange p want) Done = record { holder = p; step = step_of_want want } ∷ []
holder_step (Take p down) Done = record { holder = p; step = step_of_down down } ∷ []
holder_step s outcome = []

-- those of all atomic steps that were done, in order
abbrev pub done_steps : List AtomicStep → List Outcome → List HolderStep
done_steps [] outcomes = []
done_steps (s ∷ ss) [] = []
done_steps (s ∷ ss) (outcome ∷ outcomes) = holder_step s outcome ++ done_steps ss outcomes

-- the party's open load, if any, encodes a legal bag with at most one bar
abbrev pub HasPackedLoad : ℕ → WorldParty → Type 0
HasPackedLoad limit me = (loaded : ℕ) → me.loaded ≡ Some loaded → IsPacked limit loaded

-- a world that steps from a new one can reach
pub record IsReachable (w : WorldState) : Type 0 where
  pub limit : IsLimit w.readers
  pub steps_fit : w.steps < 2 ^ 64
  pub rule : KeepsRule w.readers w.word w.parties
  pub counted : (k : ℕ) (me : WorldParty) → slice_get w.parties k ≡ Some me → me.wins + me.fails ≤ w.steps
  pub loads : (k : ℕ) (me : WorldParty) → slice_get w.parties k ≡ Some me → HasPackedLoad w.readers me
