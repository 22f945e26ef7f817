-- What is proved of every interleaving of atomic steps from a new world.
use Rattle.std.specs.Prelude.{◌≡◌, ◌≢◌, ◌↔◌, ℕ, ◌^◌, ◌<◌, ◌≤◌, true, List, [], ◌∷◌, ◌++◌, Some, ⊤}
use Rattle.lock_modes.specs.Limits.{IsLimit}
use Rattle.lock_modes.specs.Modes.{AreCompatible, empty_bag}
use Rattle.lock_word.specs.BarredBags.{BarredBag, IsLegalBarredBag, PermitsLockStep}
use Rattle.lock_modes.specs.ModeRuns.{IsModeRun}
use Rattle.lock_word.specs.declared.want.ExWant.{ExWant}
use Rattle.lock_word.specs.declared.party.WorldParty.{WorldParty}
use Rattle.lock_word.specs.declared.step.AtomicStep.{AtomicStep}
use Rattle.lock_word.specs.declared.step.AtomicStep.TheVariants.{Load, Exchange, Take}
use Rattle.lock_word.specs.declared.step.Outcome.{Outcome}
use Rattle.lock_word.specs.declared.step.Outcome.TheVariants.{Loaded, Done, NotAdmitted, Changed, Refused}
use Rattle.lock_word.specs.Holders.{holder_at, HolderStep, IsHolderRun, steps_of}
use Rattle.lock_word.specs.Word.{word_of, step_of_want}
use Rattle.lock_word.specs.Rule.{holds, held_by_all, others_wins}
use Rattle.lock_word.specs.Worlds.{WorldState, after_step, new_world, world_after, outcomes, done_steps}

-- the word and what each party holds stay as they were
abbrev pub KeepsWord : WorldState → WorldState → Type 0
KeepsWord old new = (new.word ≡ old.word) × (holds new.parties ≡ holds old.parties)

-- what a step leaves unchanged, by its outcome
abbrev pub Leaves : Outcome → WorldState → WorldState → Type 0
Leaves (Refused fault) old new = new ≡ old
Leaves (Loaded word) old new = (word ≡ old.word) × KeepsWord old new
Leaves NotAdmitted old new = KeepsWord old new
Leaves Changed old new = KeepsWord old new
Leaves Done old new = ⊤

-- no party's fails outnumber the wins of the others
abbrev pub FailsAreBounded : List WorldParty → Type 0
FailsAreBounded parties =
    (p : ℕ) (me : WorldParty) → holder_at parties p ≡ Some me → me.fails ≤ others_wins parties me

-- the party has announced itself
abbrev pub IsAnnounced : List WorldParty → ℕ → Type 0
IsAnnounced parties p = (me : WorldParty) × (holder_at parties p ≡ Some me) × (me.held.announced ≡ true)

-- at most one party has announced itself, and the word has the bar, 2^34, exactly if one has
pub record BarIsOfOne (word : ℕ) (parties : List WorldParty) : Type 0 where
  pub sole : (p q : ℕ) → IsAnnounced parties p → IsAnnounced parties q → p ≡ q
  pub shown : (2 ^ 34 ≤ word) ↔ ((p : ℕ) × IsAnnounced parties p)

-- no step is a load of the party
abbrev pub NoLoadBy : ℕ → List AtomicStep → Type 0
NoLoadBy p [] = ⊤
NoLoadBy p (Load q ∷ ss) = (q ≢ p) × NoLoadBy p ss
NoLoadBy p (Exchange q want ∷ ss) = NoLoadBy p ss
NoLoadBy p (Take q down ∷ ss) = NoLoadBy p ss

-- the party's last load lies between these steps and those
pub record IsLastLoad (steps : List AtomicStep) (p : ℕ) (before after : List AtomicStep) : Type 0 where
  pub are : steps ≡ before ++ (Load p ∷ after)
  pub last : NoLoadBy p after

-- at the party's last load, what was held did not permit the exchange
pub record LastLoadRefuses (start : WorldState) (steps : List AtomicStep) (p : ℕ) (want : ExWant) : Type 0 where
  pub before : List AtomicStep
  pub after : List AtomicStep
  pub split : IsLastLoad steps p before after
  pub past : WorldParty
  pub was : holder_at (world_after start before).parties p ≡ Some past
  pub refuses :
      ¬ PermitsLockStep past.held.announced start.readers (held_by_all (world_after start before).parties) (step_of_want want)

-- the party's open load is the word of what was held at that load, which did not permit the exchange
pub record OpenLoadRefuses (w : WorldState) (p : ℕ) (want : ExWant) : Type 0 where
  pub me : WorldParty
  pub is : holder_at w.parties p ≡ Some me
  pub all : BarredBag
  pub open_load : me.loaded ≡ Some (word_of all)
  pub stood : IsLegalBarredBag w.readers all
  pub refuses : ¬ PermitsLockStep me.held.announced w.readers all (step_of_want want)

-- if the step was an exchange that was not admitted, the party's open load refused it
abbrev pub IsRefusedByLoad : WorldState → AtomicStep → Outcome → Type 0
IsRefusedByLoad w s outcome =
    (p : ℕ) (want : ExWant) → s ≡ Exchange p want → outcome ≡ NotAdmitted → OpenLoadRefuses w p want

-- the same of each of these steps
abbrev pub AreRefusedByLoads : WorldState → List AtomicStep → Type 0
AreRefusedByLoads w [] = ⊤
AreRefusedByLoads w (s ∷ ss) =
    IsRefusedByLoad w s (after_step w s).outcome × AreRefusedByLoads (after_step w s).world ss

-- the other parties have won since the party's last load
pub record LastLoadOutrun (start : WorldState) (steps : List AtomicStep) (p : ℕ) : Type 0 where
  pub before : List AtomicStep
  pub after : List AtomicStep
  pub split : IsLastLoad steps p before after
  pub past : WorldParty
  pub now : WorldParty
  pub was : holder_at (world_after start before).parties p ≡ Some past
  pub is : holder_at (world_after start steps).parties p ≡ Some now
  pub outrun : others_wins (world_after start before).parties past < others_wins (world_after start steps).parties now

-- the steps on modes and bar that these atomic steps made
abbrev pub changes_from : WorldState → List AtomicStep → List HolderStep
changes_from start steps = done_steps steps (outcomes start steps)

-- these are a run of the modes by the parties
abbrev pub IsRunByParties : WorldState → List HolderStep → WorldState → Type 0
IsRunByParties old changes new = IsHolderRun old.readers (holds old.parties) changes (holds new.parties)

-- these are a run of the modes on what all parties hold together
abbrev pub IsRunOnAll : WorldState → List HolderStep → WorldState → Type 0
IsRunOnAll old changes new =
    IsModeRun old.readers (held_by_all old.parties).bag (steps_of changes) (held_by_all new.parties).bag

-- what holds of the world after these steps, and of any next step
pub record IsSoundInterleaving (start : WorldState) (steps : List AtomicStep) (last : WorldState) : Type 0 where
  -- the word encodes what all parties hold, which is compatible, and the bar of the one party that announced itself
  pub coded : last.word ≡ word_of (held_by_all last.parties)
  pub legal : AreCompatible start.readers (held_by_all last.parties).bag
  pub bar : BarIsOfOne last.word last.parties
  -- the steps that were done are, in order, a run of the modes by the parties
  pub by_parties : IsRunByParties start (changes_from start steps) last
  -- and a run of the modes from the empty bag to what all parties hold
  pub run : IsModeRun start.readers empty_bag (steps_of (changes_from start steps)) (held_by_all last.parties).bag
  pub bounded : FailsAreBounded last.parties
  pub leaves : (next : AtomicStep) → Leaves (after_step last next).outcome last (after_step last next).world
  pub refuses : (p : ℕ) (want : ExWant) → (after_step last (Exchange p want)).outcome ≡ NotAdmitted
      → LastLoadRefuses start steps p want
  pub changes : (p : ℕ) (want : ExWant) → (after_step last (Exchange p want)).outcome ≡ Changed
      → LastLoadOutrun start steps p

-- every list of steps by any parties is sound from a new world
abbrev pub EveryInterleaving : Type 0
EveryInterleaving =
    (count limit : ℕ) (steps : List AtomicStep) → IsLimit limit
    → IsSoundInterleaving (new_world count limit) steps (world_after (new_world count limit) steps)
