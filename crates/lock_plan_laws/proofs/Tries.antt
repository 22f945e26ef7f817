-- The try of a party on its machine is made exactly where its call would go in the world, and changes nothing elsewhere.
use Rattle.std.proofs.Common.{◌≡◌, ℕ, Bool, true, false, ◌&&◌, if◌then◌else◌, List, Option, Some, None, Result, Ok, Err, IsTrue, refl, ap, sym, ◌∙◌, subst}
use Rattle.lock_modes.specs.declared.mode.Mode.{Mode}
use Rattle.lock_modes.specs.declared.mode.Mode.TheVariants.{Shared, Exclusive, Upgradable}
use Rattle.lock_modes.specs.declared.mode_step.ModeStep.{ModeStep}
use Rattle.lock_modes.specs.declared.mode_step.ModeStep.TheVariants.{Acquire, Release, Change}
use Rattle.lock_modes.specs.declared.bag.Bag.{Bag}
use Rattle.lock_modes.specs.declared.kind.Kind.{Kind}
use Rattle.lock_machine.specs.declared.call.Call.{Call}
use Rattle.lock_machine.specs.declared.call.Form.TheVariants.{Block, Try}
use Rattle.lock_modes.specs.declared.party.PartyId.{PartyId}
use Rattle.lock_machine.specs.declared.reply.Reply.{Reply}
use Rattle.lock_modes.specs.declared.fault.Fault.{Fault}
use Rattle.lock_modes.specs.declared.fault.Fault.TheVariants as fault
use Rattle.lock_modes.specs.declared.lock_step.LockStep.{LockStep}
use Rattle.lock_modes.specs.declared.lock_step.LockStep.TheVariants as lock_step
use Rattle.lock_modes.specs.declared.hold.Hold.{Hold}
use Rattle.lock_machine.specs.Operation.{Operation}
use Rattle.lock_modes.specs.Party.{id_of}
use Rattle.lock_modes.specs.Kind.{is_rwlock}
use Rattle.lock_machine.specs.Machine.{Machine}
use Rattle.lock_machine.specs.Calls.{blocking_answer}
use Rattle.lock_machine.specs.Steps.{Response, reply_of, reply_or_none, done_reply, step}
use Rattle.lock_modes.specs.Holds.{hold_after}
use Rattle.lock_machine.proofs.Effects.{Effect, effect}
use Rattle.lock_plan.specs.declared.lock.PlanLock.{PlanLock}
use Rattle.lock_plan.specs.declared.turn.Turn.{Turn}
use Rattle.lock_plan.specs.declared.turn.Turn.TheVariants.{Goes, Announces, Waits, Refused}
use Rattle.lock_plan.specs.Holds.{is_write, turn_on}
use Rattle.lock_plan.specs.Worlds.{bag_on, lock_holds, is_goes}
use Rattle.lock_plan_laws.specs.MachineTurns.{call_for, Names, turn_of_fault, turn_of_reply, is_made, announced_turn, announces_after, MachineTurn, machine_turn, machine_try}
use Rattle.lock_plan_laws.specs.Bridge.{AreDistinct}
use Rattle.lock_plan_laws.proofs.Columns.{hold_of}
use Rattle.lock_plan_laws.proofs.Moves.{IsSeen, Moved, bag_after_step}
use Rattle.lock_plan_laws.proofs.Acquisitions.{HasRoom}
use Rattle.lock_plan_laws.proofs.MachineTurns.{IsRight, ByTurn, acts}

-- a call that is not made changes nothing
unmade : {O T A : Type 0} {m after : Machine T} {call : Call O} {reply : Reply A} {steps : List ModeStep}
    → Effect m call reply steps after → is_made reply ≡ false → after ≡ m
unmade (Effect.kept unnumbered) is = refl
unmade other is = cc

-- a fault is no turn that goes
no_fault_goes : (f : Fault) → false ≡ is_goes (Some (turn_of_fault f))
no_fault_goes fault.WouldWait = refl
no_fault_goes other = refl

module _ {R A : Type 0} (reply_for : R → Reply A)
    (goes : (answer : R) → is_made (reply_for answer) ≡ is_goes (Some (turn_of_reply (reply_for answer)))) where
  made_always : (answer : Result R Fault) → is_made (reply_of reply_for answer) ≡ is_goes (Some (turn_of_reply (reply_of reply_for answer)))
  made_always (Ok answer) = goes answer
  made_always (Err f) = no_fault_goes f

  made_in_form : (answer : Result (Option R) Fault)
      → is_made (reply_of (reply_or_none reply_for) answer) ≡ is_goes (Some (turn_of_reply (reply_of reply_for (blocking_answer answer))))
  made_in_form (Ok (Some answer)) = goes answer
  made_in_form (Ok None) = refl
  made_in_form (Err f) = no_fault_goes f

-- a try is made where the blocking call goes, and both leave one machine
record AreAlike {A T : Type 0} (blocking tried : Response A T) : Type 0 where
  made : is_made tried.reply ≡ is_goes (Some (turn_of_reply blocking.reply))
  machine : blocking.machine ≡ tried.machine

module _ {O T A : Type 0} (meaning : O → Operation T A) (m : Machine T) (kind : Kind) (party : PartyId) (guard : ℕ) where
  alike : (a : LockStep) → AreAlike (step meaning m (call_for Block kind party guard a)) (step meaning m (call_for Try kind party guard a))
  alike (lock_step.Modes (Acquire mode)) = record { made = made_in_form Reply.Guard (λ n. refl) _; machine = refl }
  alike (lock_step.Modes (Release mode)) = record { made = made_always done_reply (λ u. refl) _; machine = refl }
  alike (lock_step.Modes (Change from Shared)) = record { made = made_always done_reply (λ u. refl) _; machine = refl }
  alike (lock_step.Modes (Change from Exclusive)) = record { made = made_in_form done_reply (λ u. refl) _; machine = refl }
  alike (lock_step.Modes (Change from Upgradable)) = record { made = made_always done_reply (λ u. refl) _; machine = refl }
  alike lock_step.Announce = record { made = made_always done_reply (λ u. refl) _; machine = refl }
  alike lock_step.Withdraw = record { made = made_always done_reply (λ u. refl) _; machine = refl }

-- a turn goes where the reply does, whatever an announcement does after it
module _ {T : Type 0} (lock : PlanLock) (a : LockStep) (after : Turn) (m next : Machine T) where
  abbrev turn_from : Turn → MachineTurn T
  turn_from u =
      if announces_after lock a u
      then record { turn = announced_turn after; machine = next }
      else record { turn = u; machine = m }

  none_goes : (u : Turn) → is_goes (Some (announced_turn u)) ≡ false
  none_goes Goes = refl
  none_goes u = refl

  abbrev waiting : Bool → MachineTurn T
  waiting b = if b then record { turn = announced_turn after; machine = next } else record { turn = Waits; machine = m }

  waits_on : (b : Bool) → is_goes (Some (waiting b).turn) ≡ false
  waits_on true = none_goes after
  waits_on false = refl

  goes_alike : (u : Turn) → is_goes (Some (turn_from u).turn) ≡ is_goes (Some u)
  goes_alike Goes = refl
  goes_alike Announces = refl
  goes_alike Waits = waits_on (lock.bar && is_write a)
  goes_alike Refused = refl

  machine_alike : (u : Turn) → is_goes (Some u) ≡ true → (turn_from u).machine ≡ m
  machine_alike Goes is = refl
  machine_alike Announces is = cc
  machine_alike Waits is = cc
  machine_alike Refused is = cc

-- the try is made where the turn goes; it changes what that turn changes, and else nothing
pub record TriesAs {T A : Type 0} (r : Response A T) (m : Machine T) (x : ℕ) (own : Hold) (all : Bag) (a : LockStep) (turn : Turn) : Type 0 where
  pub made : is_made r.reply ≡ is_goes (Some turn)
  pub moved : turn ≡ Goes → Moved m r.machine x (hold_after own a) (bag_after_step all a)
  pub kept : is_goes (Some turn) ≡ false → r.machine ≡ m

module _ {O T A : Type 0} (meaning : O → Operation T A) (ids : ℕ → PartyId) (distinct : AreDistinct ids) (lock : PlanLock) (m : Machine T)
    (hss : List (List Hold)) (p l guard : ℕ) (seen : IsSeen ids lock m hss p l) where
  pub tries : (a : LockStep) → ((mode : Mode) → a ≡ lock_step.Modes (Acquire mode) → HasRoom m) → IsRight lock (hold_of hss p l) a → (IsTrue lock.bar → IsTrue (is_rwlock lock.kind))
      → Names m.entries (id_of (ids p)) guard a
      → TriesAs (machine_try meaning ids lock m p guard a) m (id_of (ids p)) (hold_of hss p l) (bag_on l hss) a
      (turn_on lock (lock_holds hss p l) a)
  tries a room right bars names =
      let both = acts meaning ids distinct lock m hss p l guard seen a room right bars names in
      let blocking : Response A T = step meaning m (call_for Block lock.kind (ids p) guard a) in
      let tried : Response A T = step meaning m (call_for Try lock.kind (ids p) guard a) in
      let forms : AreAlike blocking tried = alike meaning m lock.kind (ids p) guard a in
      let announcing : Response A T = step meaning blocking.machine (Call.Announce (ids p)) in
      let u = turn_of_reply blocking.reply in
      let after = turn_of_reply announcing.reply in
      let turn = turn_on lock (lock_holds hss p l) a in
      let goes : is_goes (Some turn) ≡ is_goes (Some u) =
      ap (λ (t : Turn). is_goes (Some t)) (sym both.same) ∙ goes_alike lock a after blocking.machine announcing.machine u in
      record {
        made = forms.made ∙ sym goes;
        moved = λ is.
            subst (λ (n : Machine T). Moved m n (id_of (ids p)) (hold_after (hold_of hss p l) a) (bag_after_step (bag_on l hss) a))
            (machine_alike lock a after blocking.machine announcing.machine u (sym goes ∙ ap (λ (t : Turn). is_goes (Some t)) is) ∙ forms.machine)
            (subst (λ (t : Turn). ByTurn t
            (Moved m (machine_turn meaning ids lock m p guard a).machine (id_of (ids p)) (hold_after (hold_of hss p l) a)
            (bag_after_step (bag_on l hss) a))
            (Moved m (machine_turn meaning ids lock m p guard a).machine (id_of (ids p)) (hold_after (hold_of hss p l) lock_step.Announce)
            (bag_on l hss))) is both.moved);
        kept = λ is. unmade (effect meaning m (call_for Try lock.kind (ids p) guard a)) (forms.made ∙ sym goes ∙ is);
      }
