-- The bridge: the scenes of a plan and its worlds make the same runs, and have the same stops.
use Rattle.std.specs.Prelude.{◌≡◌, ℕ, ◌+◌, ◌<◌, ◌≤◌, ◌^◌, ◌==◌, Bool, true, if◌then◌else◌, List, [], ◌∷◌, length, map, sum_by, Some, Ok, IsTrue, option_map}
use Rattle.std.proofs.Common.{get_or}
use Rattle.lock_modes.specs.declared.bag.Bag.{Bag}
use Rattle.lock_modes.specs.declared.party.PartyId.{PartyId}
use Rattle.lock_machine.specs.Operation.{Operation}
use Rattle.lock_modes.specs.Party.{id_of}
use Rattle.lock_modes.specs.Modes.{bag_of}
use Rattle.lock_modes.specs.Kind.{is_rwlock}
use Rattle.lock_machine.specs.Entries.{Entry, held_entries, held_bag, modes_of_entries}
use Rattle.lock_machine.specs.Sound.{IsLimitOf}
use Rattle.lock_modes.specs.Holds.{no_hold}
use Rattle.lock_plan.specs.declared.lock.PlanLock.{PlanLock}
use Rattle.lock_plan.specs.declared.program.ProgramPlace.{ProgramPlace}
use Rattle.lock_plan.specs.declared.program.Step.{Step}
use Rattle.lock_plan.specs.Checks.{none_fair}
use Rattle.lock_plan.specs.Known.{Known, known_of}
use Rattle.lock_plan.specs.Worlds.{Stand, no_stand, no_lock, bag_on, bar_from, world_after, first_world, is_stop}
use Rattle.lock_plan_laws.specs.Scenes.{Caller, steps_of, Scene, limit_for, first_scene, IsRun, IsStopScene}

-- the entries of the party
abbrev pub of_party : ℕ → List Entry → List Entry
of_party party [] = []
of_party party (e ∷ es) = if e.party == party then e ∷ of_party party es else of_party party es

-- what the party holds
abbrev pub bag_held_by : ℕ → List (ℕ × Entry) → Bag
bag_held_by party entries = bag_of (modes_of_entries (of_party party (held_entries entries)))

-- the plan can be made of machines with room for so many guards each
pub record FitsMachines (locks : List PlanLock) (programs : List (List ProgramPlace)) (room : ℕ) : Type 0 where
  -- the limits are those that machines have
  pub limits : (l : ℕ) → l < length locks → IsLimitOf (get_or locks l no_lock).kind
      (limit_for (get_or locks l no_lock).kind (get_or locks l no_lock).limit)
  -- only writes on reader-writer locks announce themselves
  pub bars : (l : ℕ) → IsTrue (get_or locks l no_lock).bar → IsTrue (is_rwlock (get_or locks l no_lock).kind)
  -- no act of the plan is wrong in itself
  pub right : (p : ℕ) → (known : Known) × (known_of locks (get_or programs p []) ≡ Ok known)
  -- a machine has room for a guard of each place of each program
  pub enough : sum_by length programs ≤ room

-- no two parties have one id
abbrev pub AreDistinct : (ℕ → PartyId) → Type 0
AreDistinct ids = (p q : ℕ) → id_of (ids p) ≡ id_of (ids q) → p ≡ q

-- the scene has the programs, the places, the holds, the bags and the bars of the world
pub record Shows {T : Type 0} (ids : ℕ → PartyId) (locks : List PlanLock) (programs : List (List ProgramPlace)) (w : List Stand) (s : Scene T) : Type 0 where
  pub programs_same : programs ≡ map (λ stand. stand.program) w
  pub places : s.places ≡ map (λ stand. stand.place) w
  pub holds : (l p : ℕ) → l < length locks → bag_held_by (id_of (ids p)) (s.machines l).entries
      ≡ (get_or (get_or w p no_stand).holds l no_hold).bag
  pub bags : (l : ℕ) → l < length locks → held_bag (s.machines l).entries ≡ bag_on l (map (λ stand. stand.holds) w)
  pub bars : (l : ℕ) → l < length locks → (s.machines l).bar
      ≡ option_map (λ p. id_of (ids p)) (bar_from 0 l (map (λ stand. stand.holds) w))

-- a machine numbers its guards below 2 ^ 64, and no two alike: each run here has fewer steps than there are numbers
module _ {O T A : Type 0} (meaning : O → Operation T A) where
  -- each run of the machines is a run of the worlds, and leads to a world that it shows
  abbrev pub RunsAreOfWorlds : Type 0
  RunsAreOfWorlds =
      (ids : ℕ → PartyId) (locks : List PlanLock) (programs : List (List ProgramPlace)) (values : ℕ → T) (room : ℕ)
      (cs : List Caller) (s : Scene T)
      → AreDistinct ids → FitsMachines locks programs room → length cs < 2 ^ 64
      → IsRun meaning ids locks programs (first_scene locks programs values room) cs s
      → (w : List Stand) × (world_after locks (first_world locks programs) (steps_of cs) ≡ Some w) × Shows ids locks programs w s

  -- each run of the worlds is one of the machines
  abbrev pub WorldRunsAreOfMachines : Type 0
  WorldRunsAreOfMachines =
      (ids : ℕ → PartyId) (locks : List PlanLock) (programs : List (List ProgramPlace)) (values : ℕ → T) (room : ℕ)
      (steps : List Step) (w : List Stand)
      → AreDistinct ids → FitsMachines locks programs room → length steps < 2 ^ 64
      → world_after locks (first_world locks programs) steps ≡ Some w
      → (cs : List Caller) × (s : Scene T) × (steps_of cs ≡ steps)
      × IsRun meaning ids locks programs (first_scene locks programs values room) cs s × Shows ids locks programs w s

  -- where the machines stop the worlds do, whichever parties are servers, if the next guard can have a number, too; and where
  -- the worlds stop the machines do, if no lock is fair: a machine has no line of waiters
  abbrev pub StopsAreTheSame : Type 0
  StopsAreTheSame =
      (ids : ℕ → PartyId) (locks : List PlanLock) (programs : List (List ProgramPlace)) (values : ℕ → T) (room : ℕ)
      (cs : List Caller) (s : Scene T) (w : List Stand) (servers : List Bool)
      → AreDistinct ids → FitsMachines locks programs room → length cs + 1 < 2 ^ 64
      → IsRun meaning ids locks programs (first_scene locks programs values room) cs s
      → world_after locks (first_world locks programs) (steps_of cs) ≡ Some w
      → (IsStopScene meaning ids locks programs servers s → is_stop servers locks w ≡ true)
      × (IsTrue (none_fair locks) → is_stop servers locks w ≡ true → IsStopScene meaning ids locks programs servers s)
