-- Invariants of reachable machines.
use Rattle.std.specs.Prelude.{◌≡◌, ℕ, List}
use Rattle.lock_modes.specs.declared.kind.Kind.{Kind}
use Rattle.lock_machine.specs.declared.call.Call.{Call}
use Rattle.lock_machine.specs.Operation.{Operation}
use Rattle.lock_machine.specs.Register.{Register}
use Rattle.lock_machine.specs.Machine.{Machine, start}
use Rattle.lock_machine.specs.Calls.{skip_to}
use Rattle.lock_machine.specs.Sound.{IsLimitOf, IsSound}
use Rattle.lock_machine.specs.Steps.{after_all}

-- the kind and the limits stay as they were made
pub record KeepsLimits (old new : Register) : Type 0 where
  pub same_kind : new.kind ≡ old.kind
  pub same_places : new.places ≡ old.places
  pub same_limit : new.limit ≡ old.limit

-- each machine that a run reaches from a new one is sound
abbrev pub RunsAreSound : {O T A : Type 0} → (O → Operation T A) → Type 0
RunsAreSound {O} {T} meaning =
    (kind : Kind) (value : T) (places limit : ℕ) (calls : List (Call O)) → IsLimitOf kind limit
    → IsSound (after_all meaning (start kind value places limit) calls).register

-- a sound machine stays sound, whatever is called
abbrev pub CallsKeepSound : {O T A : Type 0} → (O → Operation T A) → Type 0
CallsKeepSound {O} {T} meaning =
    (m : Machine T) (calls : List (Call O)) → IsSound m.register → IsSound (after_all meaning m calls).register

-- skipping numbers keeps a machine sound
abbrev pub SkipsKeepSound : Type 0 → Type 0
SkipsKeepSound T = (m : Machine T) (next : ℕ) → IsSound m.register → IsSound (skip_to m next).machine.register

-- no run changes the kind or a limit
abbrev pub RunsKeepLimits : {O T A : Type 0} → (O → Operation T A) → Type 0
RunsKeepLimits {O} {T} meaning =
    (m : Machine T) (calls : List (Call O)) → KeepsLimits m.register (after_all meaning m calls).register
