-- A party stands at a place with what is known of it, or has announced itself there for a write.
use Rattle.std.proofs.Common.{◌≡◌, ℕ, ◌+◌, ◌<◌, ◌⊎◌, inl, inr, Bool, true, false, nat_lt, if◌then◌else◌, List, length, get_or, Option, Some, None, Ok, refl, ap, sym, ◌∙◌, subst, arith}
use Rattle.std.proofs.lemmas.Bool.{and_parts, false≢true}
use Rattle.std.proofs.lemmas.List.{length-set, get_or-set_same}
use Rattle.lock_modes.specs.declared.mode.Mode.{Mode}
use Rattle.lock_modes.specs.declared.mode_step.ModeStep.TheVariants.{Acquire}
use Rattle.lock_modes.specs.declared.lock_step.LockStep.{LockStep}
use Rattle.lock_modes.specs.declared.lock_step.LockStep.TheVariants as lock_step
use Rattle.lock_modes.specs.declared.hold.Hold.{Hold}
use Rattle.lock_modes.specs.Modes.{tokens}
use Rattle.lock_modes.specs.Holds.{no_hold, hold_after}
use Rattle.lock_modes.proofs.ModeLemmas.{tokens-one_more}
use Rattle.lock_plan.specs.declared.call.PlanCall.{PlanCall}
use Rattle.lock_plan.specs.declared.fault.CallFault.{CallFault}
use Rattle.lock_plan.specs.declared.lock.PlanLock.{PlanLock}
use Rattle.lock_plan.specs.declared.program.Act.{Act}
use Rattle.lock_plan.specs.declared.program.Act.TheVariants.{Call, Try, Choose, Signal}
use Rattle.lock_plan.specs.declared.program.Block.{Block}
use Rattle.lock_plan.specs.declared.program.Signal.{Signal as PlanSignal}
use Rattle.lock_plan.specs.declared.program.ProgramPlace.{ProgramPlace}
use Rattle.lock_plan.specs.Holds.{is_write, announces_itself}
use Rattle.lock_plan.specs.CallFaults.{fault_on, call_fault}
use Rattle.lock_plan.specs.Known.{Known, known_at, known_of}
use Rattle.lock_plan.specs.Signals.{idles}
use Rattle.lock_plan.specs.Worlds.{Stand, no_lock, act_of, call_in, next_in, other_in, is_counter, values_of, holds_after, at_place, gone, announced_for, first_stand}
use Rattle.lock_plan.proofs.Counters.{counter_is}
use Rattle.lock_plan.proofs.Held.{IsHeld, few_announced}
use Rattle.lock_plan.proofs.Walked.{IsWalked, Passed, Leaves, act_there, walked_is}
use Rattle.lock_plan.proofs.Announced.{Announces, announces, once, goes_same}

-- the party has announced itself for the write at its place
pub record IsAhead (locks : List PlanLock) (known : Known) (x : Stand) : Type 0 where
  pub call : PlanCall
  pub here : act_of x ≡ Some (Call call)
  pub before : List Hold
  pub is : known_at known x.place ≡ Some before
  pub announces : Announces before call
  pub bars : (get_or locks call.lock no_lock).bar ≡ true
  pub holds : x.holds ≡ holds_after before call.lock lock_step.Announce

pub record IsKnownStand (locks : List PlanLock) (x : Stand) : Type 0 where
  pub known : Known
  pub walked : IsWalked locks x.program (length x.program) known
  pub is : (known_at known x.place ≡ Some x.holds) ⊎ IsAhead locks known x

same_holds : (a b : List Hold) → Some a ≡ Some b → a ≡ b
same_holds a b e = cc

-- an announcement for a write makes no fault of it
fault_same : (lock : PlanLock) (own : Hold) (a : LockStep) → is_write a ≡ true → fault_on lock (hold_after own lock_step.Announce) a ≡ fault_on lock own a
fault_same lock own (lock_step.Modes step) w = refl
fault_same lock own lock_step.Announce w = cc
fault_same lock own lock_step.Withdraw w = cc

fault_ahead : (locks : List PlanLock) (before : List Hold) (call : PlanCall) → Announces before call
    → call_fault locks (holds_after before call.lock lock_step.Announce) call ≡ call_fault locks before call
fault_ahead locks before call a =
    let own = get_or before call.lock no_hold in
    let lock = get_or locks call.lock no_lock in
    ap (λ (h : Hold). if nat_lt call.lock (length locks) then fault_on lock h call.step else Some CallFault.UnknownLock)
    (get_or-set_same before call.lock (hold_after own lock_step.Announce) no_hold a.within)
    ∙ ap (λ (o : Option CallFault). if nat_lt call.lock (length locks) then o else Some CallFault.UnknownLock)
    (fault_same lock own call.step a.writes)

-- The lemmas marked `unfoldable` keep the list of what is known. The proof of ordered plans relies on that.
module _ (locks : List PlanLock) where
  -- what is known of the place of a party that has not ended
  record IsAt (x : Stand) (known : Known) (a : Act) : Type 0 where
    before : List Hold
    is : known_at known x.place ≡ Some before
    leaves : Leaves locks x.program x.place a before known

  at_act : (x : Stand) (k : IsKnownStand locks x) (a : Act) → act_of x ≡ Some a → IsAt x k.known a
  at_act x k a e =
      let there = act_there x.program x.place a e in
      let p : Passed locks x.program x.place k.known = k.walked.passed x.place there.0 in
      record { before = p.holds; is = p.is; leaves = subst (λ (b : Act). Leaves locks x.program x.place b p.holds k.known) there.1 p.leaves }

  pub plain_leaves : (x : Stand) (k : IsKnownStand locks x) (a : Act) → act_of x ≡ Some a → known_at k.known x.place ≡ Some x.holds
      → Leaves locks x.program x.place a x.holds k.known
  plain_leaves x k a e is =
      let h = at_act x k a e in
      subst (λ (hs : List Hold). Leaves locks x.program x.place a hs k.known) (same_holds h.before x.holds (sym h.is ∙ is)) h.leaves

  pub ahead_leaves : (x : Stand) (k : IsKnownStand locks x) (ahead : IsAhead locks k.known x)
      → Leaves locks x.program x.place (Call ahead.call) ahead.before k.known
  ahead_leaves x k ahead =
      let h = at_act x k (Call ahead.call) ahead.here in
      subst (λ (hs : List Hold). Leaves locks x.program x.place (Call ahead.call) hs k.known)
      (same_holds h.before ahead.before (sym h.is ∙ ahead.is)) h.leaves

  -- the call of a party that is ahead is the one that it announced itself for
  pub same_call : (x : Stand) (known : Known) (ahead : IsAhead locks known x) (a : Act) (call : PlanCall) → act_of x ≡ Some a
      → call_in (Some a) ≡ Some call → ahead.call ≡ call
  same_call x known ahead a call e of =
      let there : call_in (act_of x) ≡ Some ahead.call = ap call_in ahead.here in
      let same : Some ahead.call ≡ Some call = sym there ∙ ap call_in e ∙ of in
      cc

  -- no call that a party makes or tries has a fault
  pub no_fault : (x : Stand) → IsKnownStand locks x → (a : Act) (call : PlanCall) → act_of x ≡ Some a → call_in (Some a) ≡ Some call
      → call_fault locks x.holds call ≡ None
  no_fault x k a call e of = by_stand k.is
    where
      by_stand : (known_at k.known x.place ≡ Some x.holds) ⊎ IsAhead locks k.known x → call_fault locks x.holds call ≡ None
      by_stand (inl is) = (plain_leaves x k a e is).right call of
      by_stand (inr ahead) =
          ap (λ (hs : List Hold). call_fault locks hs call) ahead.holds
          ∙ subst (λ (c : PlanCall). call_fault locks (holds_after ahead.before ahead.call.lock lock_step.Announce) c ≡ None)
          (same_call x k.known ahead a call e of)
          (fault_ahead locks ahead.before ahead.call ahead.announces ∙ (ahead_leaves x k ahead).right ahead.call refl)

  -- after a call that is made
  unfoldable pub known_gone : (x : Stand) → IsKnownStand locks x → (a : Act) (call : PlanCall) → act_of x ≡ Some a → call_in (Some a) ≡ Some call
      → IsKnownStand locks (gone x call)
  known_gone x k a call e of = record { known = k.known; walked = k.walked; is = inl (by_stand k.is) }
    where
      by_stand : (known_at k.known x.place ≡ Some x.holds) ⊎ IsAhead locks k.known x
          → known_at k.known (next_in x.program x.place) ≡ Some (holds_after x.holds call.lock call.step)
      by_stand (inl is) = (plain_leaves x k a e is).goes call of
      by_stand (inr ahead) =
          (ahead_leaves x k ahead).goes ahead.call refl
          ∙ ap (λ (hs : List Hold). Some hs) (sym (goes_same ahead.before ahead.call ahead.announces))
          ∙ ap (λ (hs : List Hold). Some (holds_after hs ahead.call.lock ahead.call.step)) (sym ahead.holds)
          ∙ ap (λ (c : PlanCall). Some (holds_after x.holds c.lock c.step)) (same_call x k.known ahead a call e of)

  -- what a party holds
  pub is_held : (x : Stand) → IsKnownStand locks x → IsHeld locks (length x.program) x.holds
  is_held x k = by_stand k.is
    where
      by_stand : (known_at k.known x.place ≡ Some x.holds) ⊎ IsAhead locks k.known x → IsHeld locks (length x.program) x.holds
      by_stand (inl is) = k.walked.held x.place x.holds is
      by_stand (inr ahead) =
          let many = length x.program in
          let held = k.walked.held x.place ahead.before ahead.is in
          let own = get_or ahead.before ahead.call.lock no_hold in
          subst (λ (hs : List Hold). IsHeld locks many hs) (sym ahead.holds) (record {
            long = length-set ahead.before ahead.call.lock (hold_after own lock_step.Announce) ∙ held.long;
            few = λ lock. few_announced many ahead.call.lock lock ahead.before held.few;
          })

  -- before an acquisition a party has fewer guards of the lock than its program has places
  pub fewer : (x : Stand) → IsKnownStand locks x → (a : Act) (call : PlanCall) (mode : Mode) → act_of x ≡ Some a → call_in (Some a) ≡ Some call
      → call.lock < length locks → call.step ≡ lock_step.Modes (Acquire mode)
      → tokens (get_or x.holds call.lock no_hold).bag < length x.program
  fewer x k a call mode e of lt acquires =
      let own = get_or x.holds call.lock no_hold in
      let long = (is_held x k).long in
      let after = (is_held (gone x call) (known_gone x k a call e of)).few call.lock in
      let there : tokens (get_or (holds_after x.holds call.lock call.step) call.lock no_hold).bag ≡ tokens own.bag + 1 =
      ap (λ (h : Hold). tokens h.bag) (get_or-set_same x.holds call.lock (hold_after own call.step) no_hold (omega (arith, lt, long)))
      ∙ ap (λ (s : LockStep). tokens (hold_after own s).bag) acquires
      ∙ tokens-one_more own.bag mode in
      omega (arith, after, there)

  -- after an announcement
  unfoldable pub known_announced : (x : Stand) → IsKnownStand locks x → (call : PlanCall) → act_of x ≡ Some (Call call)
      → announces_itself (get_or locks call.lock no_lock) (get_or x.holds call.lock no_hold) call.step ≡ true
      → IsKnownStand locks (announced_for x call)
  known_announced x k call e itself = record { known = k.known; walked = k.walked; is = inr (by_stand k.is) }
    where
      by_stand : (known_at k.known x.place ≡ Some x.holds) ⊎ IsAhead locks k.known x → IsAhead locks k.known (announced_for x call)
      by_stand (inl is) = record {
        call = call;
        here = e;
        before = x.holds;
        is = is;
        announces = announces locks x.holds call (is_held x k).long itself;
        bars = (and_parts (get_or locks call.lock no_lock).bar _ itself).0;
        holds = refl;
      }
      by_stand (inr ahead) =
          let lock : PlanLock = get_or locks call.lock no_lock in
          let again : announces_itself lock (get_or x.holds ahead.call.lock no_hold) ahead.call.step ≡ true =
          subst (λ (c : PlanCall). announces_itself lock (get_or x.holds c.lock no_hold) c.step ≡ true)
          (sym (same_call x k.known ahead (Call call) call e refl)) itself in
          let never = ap (λ (hs : List Hold). announces_itself lock (get_or hs ahead.call.lock no_hold) ahead.call.step) ahead.holds
          ∙ once ahead.before ahead.call ahead.announces lock in
          absurd (false≢true (sym never ∙ again))

  -- after a try that is not made, and after a choice

  unfoldable pub known_passed : (x : Stand) → IsKnownStand locks x → (call : PlanCall) → act_of x ≡ Some (Try call)
      → IsKnownStand locks (at_place x (other_in x.program x.place) x.holds)
  known_passed x k call e = record { known = k.known; walked = k.walked; is = inl (by_stand k.is) }
    where
      by_stand : (known_at k.known x.place ≡ Some x.holds) ⊎ IsAhead locks k.known x
          → known_at k.known (other_in x.program x.place) ≡ Some x.holds
      by_stand (inl is) = (plain_leaves x k (Try call) e is).passes call refl
      by_stand (inr ahead) = let calls = ahead.here in cc

  unfoldable pub known_chosen : (x : Stand) → IsKnownStand locks x → (other : Bool) (block : Block) → act_of x ≡ Some (Choose block)
      → IsKnownStand locks (at_place x (if other then other_in x.program x.place else next_in x.program x.place) x.holds)
  known_chosen x k other block e = record { known = k.known; walked = k.walked; is = inl (by_stand k.is other) }
    where
      by_stand : (known_at k.known x.place ≡ Some x.holds) ⊎ IsAhead locks k.known x → (other : Bool)
          → known_at k.known (if other then other_in x.program x.place else next_in x.program x.place) ≡ Some x.holds
      by_stand (inl is) true = (plain_leaves x k (Choose block) e is).second block refl
      by_stand (inl is) false = (plain_leaves x k (Choose block) e is).first block refl
      by_stand (inr ahead) other = let calls = ahead.here in cc

  -- after a signal, or where it is moved on from one
  pub known_signalled : (x : Stand) → IsKnownStand locks x → (signal : PlanSignal) → act_of x ≡ Some (Signal signal)
      → IsKnownStand locks (at_place x (next_in x.program x.place) x.holds)
  known_signalled x k signal e = record { known = k.known; walked = k.walked; is = inl (by_stand k.is) }
    where
      by_stand : (known_at k.known x.place ≡ Some x.holds) ⊎ IsAhead locks k.known x
          → known_at k.known (next_in x.program x.place) ≡ Some x.holds
      by_stand (inl is) = (plain_leaves x k (Signal signal) e is).signals signal refl
      by_stand (inr ahead) = let calls = ahead.here in cc

  -- a counter holds nothing, so it can stand at each of its places
  pub known_counted : (x : Stand) → IsKnownStand locks x → (place : ℕ) → idles (act_of x) ≡ true
      → nat_lt place (values_of x.program) ≡ true → IsKnownStand locks (at_place x place x.holds)
  known_counted x k place idle e = record { known = k.known; walked = k.walked; is = inl (by_stand k.is) }
    where
      counter : (is_counter x.program ≡ true) × (place < length x.program)
      counter = counter_is x.program place e

      there : Passed locks x.program place k.known
      there = k.walked.passed place counter.1

      by_stand : (known_at k.known x.place ≡ Some x.holds) ⊎ IsAhead locks k.known x → known_at k.known place ≡ Some x.holds
      by_stand (inl is) =
          let same : there.holds ≡ x.holds =
          k.walked.none counter.0 place there.holds there.is ∙ sym (k.walked.none counter.0 x.place x.holds is) in
          there.is ∙ ap (λ (hs : List Hold). Some hs) same
      by_stand (inr ahead) = let calls = ahead.here in cc

  -- before its first act
  unfoldable pub known_first : (program : List ProgramPlace) (known : Known) → known_of locks program ≡ Ok known → IsKnownStand locks (first_stand locks program)
  known_first program known e =
      let walked = walked_is locks program (length program) known e in
      record { known = known; walked = walked; is = inl walked.start }
