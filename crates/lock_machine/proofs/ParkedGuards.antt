-- A parked guard is resumed at once.
use Rattle.std.proofs.Common.{◌≡◌, ℕ, Bool, true, false, ◌&&◌, if◌then◌else◌, Option, None, IsTrue, refl, ap, sym, ◌∙◌, subst}
use Rattle.lock_modes.specs.declared.mode.Mode.{Mode}
use Rattle.lock_machine.specs.declared.call.Call.{Call}
use Rattle.lock_machine.specs.declared.reply.Reply.{Reply}
use Rattle.lock_modes.specs.declared.fault.Fault.TheVariants as fault
use Rattle.lock_machine.specs.Operation.{Operation}
use Rattle.lock_modes.specs.Party.{id_of}
use Rattle.lock_modes.specs.Modes.{is_exclusive}
use Rattle.lock_modes.specs.Kind.{is_reentrant}
use Rattle.lock_machine.specs.Entries.{Entry, parked_entry, resumed_entry}
use Rattle.lock_modes.specs.Bar.{bar_lets_pass, bar_after}
use Rattle.lock_machine.specs.Register.{Register, admits_ignoring_bar, admits_party, is_full_count, with_change, after_admission}
use Rattle.lock_machine.specs.Machine.{Machine, after_release}
use Rattle.lock_machine.specs.Refusals.{held_guard, parked_guard}
use Rattle.lock_machine.specs.Calls.{CallEffect, give, refuse, with_register, park, resume}
use Rattle.lock_machine.specs.Steps.{response_of, reply_of, done_reply}
use Rattle.lock_machine.proofs.Splices.{EntryMap, splice, find-update, update-back}
use Rattle.lock_machine.proofs.HeldEntries.{resumed_entry-parked_entry, more_than_parked}
use Rattle.lock_machine.proofs.Admissions.{fits_in_again, is_full_count-fewer}
use Rattle.lock_machine.specs.Sound.{IsSound}
use Rattle.lock_machine.specs.Parking.{ParkedIsResumed}
use Rattle.lock_machine.proofs.CallEffects.{Meets, of_guard, on_guard-met}

module _ {T : Type 0} (m : Machine T) (parker resumer guard : ℕ) (sound : IsSound m.register) (unbarred : m.bar ≡ None)
    (same_owner : IsTrue (is_reentrant m.kind) → resumer ≡ parker) where
  -- the register with the guard parked
  abbrev left : Register
  left = with_change m.register guard parked_entry

  -- a turn that parked the guard
  record HasParked (turn : CallEffect (Unit {0}) T) : Type 0 where
    entry : Entry
    meets : Meets m.register held_guard parker guard entry
    machine_is : turn.machine ≡ after_release m left

  parked_turn : {A : Type 0} → reply_of (done_reply {A = A}) (park m parker guard).answer ≡ Reply.Done → HasParked (park m parker guard)
  parked_turn {A} answered =
      of_guard (λ turn. reply_of (done_reply {A = A}) turn.answer ≡ Reply.Done → HasParked turn) m held_guard parker guard
      (λ e. give tt (after_release m left))
      (λ f refused. cc) (λ e meets _. record { entry = e; meets = meets; machine_is = refl }) answered

  -- no bar is left where none stands
  still_unbarred : (mode : Mode) → bar_after m.bar mode ≡ m.bar
  still_unbarred mode = ap (λ (bar : Option ℕ). bar_after bar mode) unbarred ∙ by_mode (is_exclusive mode) ∙ sym unbarred
    where
      by_mode : (ends : Bool) → ◌≡◌ {A = Option ℕ} (if ends then None else None) None
      by_mode true = refl
      by_mode false = refl

  resumed_turn : (e : Entry) → Meets m.register held_guard parker guard e
      → resume (after_release m left) resumer guard ≡ give tt (record m { spent = (after_release m left).spent })
  resumed_turn e meets =
      let next : Machine T = after_release m left in
      let one = more_than_parked guard e m.entries (splice guard e m.entries meets.found) meets.held in
      let own : IsTrue (is_reentrant m.kind) → e.party ≡ resumer = λ nested. meets.own nested ∙ sym (same_owner nested) in
      let meets_parked : Meets left parked_guard resumer guard (parked_entry e) = record {
        found = find-update guard parked_entry e m.entries meets.found;
        on_kind = refl;
        own = own;
        held = refl;
        in_mode = refl;
      } in
      let held_again : CallEffect (Unit {0}) T = give tt (with_register next (after_admission (with_change left guard resumed_entry) e.mode)) in
      let if_let_in : CallEffect (Unit {0}) T = (if admits_party left resumer e.mode then held_again else refuse next fault.WouldWait) in
      on_guard-met next parked_guard resumer guard
      (λ x. if is_full_count left resumer then refuse next fault.FullCount
      else (if admits_party left resumer x.mode
      then give tt (with_register next (after_admission (with_change left guard resumed_entry) x.mode))
      else refuse next fault.WouldWait))
      (parked_entry e) meets_parked
      ∙ ap (λ (b : Bool). if b then refuse next fault.FullCount else if_let_in)
      (is_full_count-fewer left resumer e m.entries one own sound.legal.held)
      ∙ ap (λ (b : Bool). if b then held_again else refuse next fault.WouldWait)
      (ap (λ (bar : Option ℕ). bar_lets_pass bar resumer e.mode && admits_ignoring_bar left resumer e.mode) unbarred
      ∙ fits_in_again left resumer e m.entries one own sound.legal.held)
      ∙ ap (λ (bar : Option ℕ). give tt (with_register next (record (with_change left guard resumed_entry) { bar = bar }))) (still_unbarred e.mode)
      ∙ ap (λ (es : EntryMap). give tt (with_register next (record left { entries = es })))
      (update-back guard parked_entry resumed_entry e m.entries meets.found (resumed_entry-parked_entry e meets.held))

module _ {O T A : Type 0} (meaning : O → Operation T A) where
  -- whichever call parked it
  pub parked_is_resumed : ParkedIsResumed meaning Call.Park
  parked_is_resumed m parker resumer guard sound unbarred same_owner answered =
      let p = parked_turn m (id_of parker) (id_of resumer) guard sound unbarred same_owner {A = A} answered in
      subst (λ (next : Machine T). response_of (done_reply {A = A}) (resume next (id_of resumer) guard)
      ≡ record { reply = Reply.Done; machine = record m { spent = next.spent } }) (sym p.machine_is)
      (ap (λ (turn : CallEffect (Unit {0}) T). response_of (done_reply {A = A}) turn)
      (resumed_turn m (id_of parker) (id_of resumer) guard sound unbarred same_owner p.entry p.meets))

  pub fairly_parked_is_resumed : ParkedIsResumed meaning Call.ParkFair
  fairly_parked_is_resumed = parked_is_resumed
