-- One atomic step of one party on the word.
use Rattle.std.specs.Prelude.{ℕ, ◌+◌, ◌-◌, ◌^◌, ◌<◌, ◌≤◌, ◌==◌, if◌then◌else◌, Option, Some, None}
use Rattle.lock_modes.specs.declared.fault.Fault.{Fault}
use Rattle.lock_modes.specs.declared.fault.Fault.TheVariants as fault
use Rattle.lock_modes.specs.declared.lock_step.LockStep.{LockStep}
use Rattle.lock_modes.specs.Holds.{no_hold, hold_has, hold_after}
use Rattle.lock_word.specs.declared.want.ExWant.{ExWant}
use Rattle.lock_word.specs.declared.down.Down.{Down}
use Rattle.lock_word.specs.declared.party.WorldParty.{WorldParty}
use Rattle.lock_word.specs.declared.step.AtomicStep.{AtomicStep}
use Rattle.lock_word.specs.declared.step.AtomicStep.TheVariants.{Load, Exchange, Take}
use Rattle.lock_word.specs.declared.step.Outcome.{Outcome}
use Rattle.lock_word.specs.declared.step.Outcome.TheVariants.{Loaded, Done, NotAdmitted, Changed, Refused}
use Rattle.lock_word.specs.BarredBags.{bars_of}
use Rattle.lock_word.specs.Word.{word_of, word_admits, word_after, amount, step_of_want, step_of_down}

-- the word and the party after a step, and its outcome
pub record WordTurn : Type 0 where
  pub word : ℕ
  pub party : WorldParty
  pub outcome : Outcome

-- how many steps are done, of which so many came before: a refused step does not count
abbrev pub steps_after : ℕ → Outcome → ℕ
steps_after before (Refused fault) = before
steps_after before (Loaded word) = before + 1
steps_after before Done = before + 1
steps_after before NotAdmitted = before + 1
steps_after before Changed = before + 1

-- a party that has done nothing yet
abbrev pub idle : WorldParty
idle = record { held = no_hold; loaded = None; wins = 0; fails = 0 }

abbrev pub with_load : WorldParty → ℕ → WorldParty
with_load me word = record me { loaded = Some word }

-- the party without its open load
abbrev pub without_load : WorldParty → WorldParty
without_load me = record me { loaded = None }

-- the party after a step that changed the word; its open load is spent
abbrev pub after_win : WorldParty → LockStep → WorldParty
after_win me step = record me { held = hold_after me.held step; loaded = None; wins = me.wins + 1 }

-- the party after an exchange that found another word
abbrev pub after_fail : WorldParty → WorldParty
after_fail me = record me { loaded = None; fails = me.fails + 1 }

abbrev pub refused_turn : ℕ → WorldParty → Fault → WordTurn
refused_turn word me fault = record { word = word; party = me; outcome = Refused fault }

abbrev pub load_turn : ℕ → WorldParty → WordTurn
load_turn word me = record { word = word; party = with_load me word; outcome = Loaded word }

abbrev pub admitted_turn : ℕ → WorldParty → ExWant → ℕ → WordTurn
admitted_turn word me want loaded =
    if word == loaded
    then record { word = word_after loaded want; party = after_win me (step_of_want want); outcome = Done }
    else record { word = word; party = after_fail me; outcome = Changed }

abbrev pub loaded_turn : ℕ → ℕ → WorldParty → ExWant → Option ℕ → WordTurn
loaded_turn limit word me want None = refused_turn word me fault.NoLoad
loaded_turn limit word me want (Some loaded) =
    if word_admits me.held.announced limit loaded want
    then admitted_turn word me want loaded
    else record { word = word; party = without_load me; outcome = NotAdmitted }

abbrev pub exchange_turn : ℕ → ℕ → WorldParty → ExWant → WordTurn
exchange_turn limit word me want =
    if hold_has me.held (step_of_want want)
    then loaded_turn limit word me want me.loaded
    else refused_turn word me fault.WrongMode

abbrev pub take_turn : ℕ → WorldParty → Down → WordTurn
take_turn word me down =
    if hold_has me.held (step_of_down down)
    then record { word = word - amount down; party = after_win me (step_of_down down); outcome = Done }
    else refused_turn word me fault.WrongMode

abbrev pub turn : ℕ → ℕ → WorldParty → AtomicStep → WordTurn
turn limit word me (Load p) = load_turn word me
turn limit word me (Exchange p want) = exchange_turn limit word me want
turn limit word me (Take p down) = take_turn word me down

abbrev pub party_of : AtomicStep → ℕ
party_of (Load p) = p
party_of (Exchange p want) = p
party_of (Take p down) = p

-- the word includes what the party holds, and there is room to count one step more
pub record CanStep (word : ℕ) (me : WorldParty) : Type 0 where
  pub part : word_of record { bag = me.held.bag; bars = bars_of me.held.announced } ≤ word
  pub small : word < 2 ^ 63
  pub wins : me.wins < 2 ^ 64 - 1
  pub fails : me.fails < 2 ^ 64 - 1
