-- What the test of a party knows of its program.
use Rattle.std.proofs.Common.{◌≡◌, ℕ, ◌<◌, ◌≤◌, Bool, true, false, if◌then◌else◌, nat_lt, List, length, get_or, Option, Some, None, Ok, refl, sym, ap, ◌∙◌, subst}
use Rattle.std.proofs.lemmas.Bool.{ltb-true}
use Rattle.std.proofs.lemmas.List.{get_or_default}
use Rattle.lock_modes.specs.declared.hold.Hold.{Hold}
use Rattle.lock_modes.specs.Modes.{tokens}
use Rattle.lock_modes.specs.Holds.{no_hold}
use Rattle.lock_plan.specs.declared.call.PlanCall.{PlanCall}
use Rattle.lock_plan.specs.declared.fault.CallFault.{CallFault}
use Rattle.lock_plan.specs.declared.fault.CallFault.TheVariants.{UnknownLock}
use Rattle.lock_plan.specs.declared.lock.PlanLock.{PlanLock}
use Rattle.lock_plan.specs.declared.program.Act.{Act}
use Rattle.lock_plan.specs.declared.program.Act.TheVariants.{Call}
use Rattle.lock_plan.specs.declared.program.ProgramPlace.{ProgramPlace}
use Rattle.lock_plan.specs.Known.{Known, known_at, known_of}
use Rattle.lock_plan.specs.Worlds.{act_in}
use Rattle.lock_plan.proofs.Walked.{Leaves, act_there, walked_is}

-- what the party holds at a place, as the code reads it
pub known_item : (known : Known) (i place : ℕ) (held : Option (List Hold)) (holds : List Hold) → place ≡ i → held ≡ get_or known i held
    → i < length known → held ≡ Some holds → known_at known place ≡ Some holds
known_item known i place held holds at is lt e = ap (known_at known) at ∙ get_or_default known i None held lt ∙ sym is ∙ e

lock_known : (b : Bool) (o : Option CallFault) → (if b then o else Some UnknownLock) ≡ None → b ≡ true
lock_known true o e = refl
lock_known false o e = cc

module _ (locks : List PlanLock) (program : List ProgramPlace) (known : Known) (right : known_of locks program ≡ Ok known) (place : ℕ)
    (holds : List Hold) (is : known_at known place ≡ Some holds) where
  -- a call that is reached is one of a lock of the plan
  pub call_within : (call : PlanCall) → act_in program place ≡ Some (Call call) → call.lock < length locks
  call_within call e =
      let there = act_there program place (Call call) e in
      let p = (walked_is locks program (length program) known right).passed place there.0 in
      let l : Leaves locks program place (Call call) p.holds known =
      subst (λ (a : Act). Leaves locks program place a p.holds known) there.1 p.leaves in
      ltb-true call.lock (length locks) (lock_known (nat_lt call.lock (length locks)) _ (l.right call refl))

  -- a party has no more tokens of a lock than its program has places
  pub tokens_few : (lock : ℕ) → tokens (get_or holds lock no_hold).bag ≤ length program
  tokens_few lock = ((walked_is locks program (length program) known right).held place holds is).few lock
