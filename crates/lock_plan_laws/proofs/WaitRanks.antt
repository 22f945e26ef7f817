-- In a world of a plan without a circle of waits some party has a step or none is due, and there is no circle. Else each party
-- that waits is held up by one that waits at a higher rank.
use Rattle.std.proofs.Common.{◌≡◌, ◌≢◌, ℕ, zero, suc, ◌+◌, ◌<◌, ◌≤◌, inl, inr, Bool, true, false, not, ◌&&◌, ◌||◌, if◌then◌else◌, List, [], ◌∷◌, length, map, get_or, Option, Some, None, Ok, refl, ap, sym, ◌∙◌, subst, arith}
use Rattle.std.specs.Prelude.{◌==◌, nat_lt}
use Rattle.std.proofs.lemmas.Bool.{false≢true, and_parts, and_from, and_left, and_right, cases_eq, cases_lt, cases_Bool, eq-eqb, lt-ltb, ltb-true, eqb-true, eqb-false, not-false, not_from_false, not_from_true, or_from, or_left, or_right, false_from_ne_true}
use Rattle.std.proofs.lemmas.List.{get_or-map, get_or_past, length-map}
use Rattle.lock_modes.specs.declared.mode.Mode.{Mode}
use Rattle.lock_modes.specs.declared.mode_step.ModeStep.TheVariants.{Acquire}
use Rattle.lock_modes.specs.declared.bag.Bag.{Bag}
use Rattle.lock_modes.specs.declared.lock_step.LockStep.TheVariants as lock_step
use Rattle.lock_modes.specs.declared.hold.Hold.{Hold}
use Rattle.lock_modes.specs.Modes.{tokens, readers, admits, is_exclusive}
use Rattle.lock_machine.specs.Operation.{Operation}
use Rattle.lock_modes.specs.Kind.{is_reentrant, is_rwlock}
use Rattle.lock_modes.specs.Bar.{bar_lets_pass}
use Rattle.lock_modes.specs.Holds.{no_hold, hold_has}
use Rattle.lock_plan.specs.declared.call.PlanCall.{PlanCall}
use Rattle.lock_plan.specs.declared.lock.PlanLock.{PlanLock}
use Rattle.lock_plan.specs.declared.program.Act.{Act}
use Rattle.lock_plan.specs.declared.program.Act.TheVariants.{Call, Try, Choose, Signal}
use Rattle.lock_plan.specs.declared.program.ProgramPlace.{ProgramPlace}
use Rattle.lock_plan.specs.declared.turn.Turn.{Turn}
use Rattle.lock_plan.specs.declared.turn.Turn.TheVariants.{Waits}
use Rattle.lock_plan.specs.Circles.{is_member, held_within, is_wait, waits_within, is_circle_by, has_circle, is_deadlock}
use Rattle.lock_plan.specs.Holds.{is_write, lines_up, admits_step}
use Rattle.lock_plan.specs.CallFaults.{fault_on}
use Rattle.lock_plan.specs.Checks.{fits_machine, fits_kind}
use Rattle.lock_plan.specs.Known.{Known, known_of}
use Rattle.lock_plan.specs.Worlds.{Stand, no_stand, act_in, act_of, acts_of, bag_on, bar_from, lock_holds, reply_at, reply_to, turn_by, turn_of, is_server, is_due, is_refused_turn, is_step_turn, some_below, line_of, waits_for, has_waiter, on_lock, goes_on, is_stuck, is_refused, is_stop, first_world}
use Rattle.lock_plan.proofs.CircleSearch.{within_at}
use Rattle.lock_plan.proofs.CircleSets.{IsRing, ring_of, some_set_at, below_none, below_each, member_within}
use Rattle.lock_plan_laws.specs.WaitRanks.{excludes, may_hold_up, CanMeet, Wait, IsWaitOf, IsLenient, HasWaitRanks, RankedPlansNeverDeadlock, RankedMachinesNeverStop}
use Rattle.lock_plan_laws.proofs.Columns.{hold_of}
use Rattle.lock_plan_laws.proofs.CoveredStands.{IsCoveredAt, IsFine, fine}
use Rattle.lock_plan_laws.proofs.CoveredWorlds.{Lock, AreCovered, steps_covered, starts_covered}
use Rattle.lock_plan_laws.proofs.Exclusion.{not_excluded, one_within, right_kind}
use Rattle.lock_plan_laws.proofs.Fits.{fits_by}
use Rattle.lock_plan_laws.proofs.MachineStops.{never, no_deadlocks}
use Rattle.lock_plan_laws.proofs.SceneStops.{some_found}
use Rattle.lock_plan_laws.proofs.HeldByAll.{some_holder, some_other, few_readers, sum_more, some_bar, first_false, second_false, not_zero, refusing}
use Rattle.lock_plan_laws.proofs.BlockedCalls.{free_admits, fits_at, no_unknown, by_kind, reentrant_is, no_step, not_refused, step_blocks, no_line, lined_mode, call_same, call_is, bar_there, own_bar, write_mode}

and_not_true : (a b : Bool) → b ≡ true → (a && not b) ≡ false
and_not_true true true e = refl
and_not_true true false e = cc
and_not_true false b e = refl

if_true : {X : Type 0} (b : Bool) (x y : X) → b ≡ true → (if b then x else y) ≡ x
if_true true x y e = refl
if_true false x y e = cc

if_false : {X : Type 0} (b : Bool) (x y : X) → b ≡ false → (if b then x else y) ≡ y
if_false true x y e = cc
if_false false x y e = refl

module _ (rank : ℕ → ℕ → ℕ) (strict : ℕ → Bool) (servers : List Bool) (locks : List PlanLock) (programs : List (List ProgramPlace))
    (plan : HasWaitRanks rank strict locks programs) (w : List Stand)
    (all : AreCovered locks programs plan.known (λ party lt place hs is. plan.covered party place hs lt is) w) where
  abbrev stand : ℕ → Stand
  stand p = get_or w p no_stand

  fine_at : (p : ℕ) → p < length w → IsFine locks (plan.known p) (stand p)
  fine_at p lt =
      let within : p < length programs = omega (arith, lt, all.many) in
      fine locks (stand p) (plan.known p) (get_or programs p []) (all.stand p lt) (λ place hs is. plan.covered p place hs within is)

  fit_at : (l : ℕ) → l < length locks → fits_machine (Lock locks l) ≡ true
  fit_at l lt = fits_at locks l plan.machines lt

  -- holds of some parties, of which all that hold or announce are in the set
  record IsScope (hss : List (List Hold)) (In : ℕ → Type 0) : Type 0 where
    long : length hss ≤ length w
    within : (p : ℕ) → In p → p < length w
    own : (p : ℕ) → In p → get_or hss p [] ≡ (stand p).holds
    holders : (p l : ℕ) → 0 < tokens (get_or (get_or hss p []) l no_hold).bag → In p
    announcers : (p l : ℕ) → (get_or (get_or hss p []) l no_hold).announced ≡ true → In p

  module _ (hss : List (List Hold)) (In : ℕ → Type 0) (scope : IsScope hss In) where
    -- the party waits for a lock that does not admit it
    record Blocked (p : ℕ) : Type 0 where
      call : PlanCall
      mode : Mode
      here : act_of (stand p) ≡ Some (Call call)
      acquires : call.step ≡ lock_step.Modes (Acquire mode)
      refused : admits_step (Lock locks call.lock) (lock_holds hss p call.lock) (Acquire mode) ≡ false

    -- the party waits for a lock that does not admit some party that waits for it, which may be this one
    record HeldUp (p : ℕ) : Type 0 where
      call : PlanCall
      mode : Mode
      here : act_of (stand p) ≡ Some (Call call)
      acquires : call.step ≡ lock_step.Modes (Acquire mode)
      waiter : ℕ
      within : In waiter
      blocked : Blocked waiter
      same : blocked.call.lock ≡ call.lock
      itself : lines_up (Lock locks call.lock) call.step ≡ false → waiter ≡ p

    blocked_by : (p : ℕ) → In p → (a : Act) → act_of (stand p) ≡ Some a
        → is_step_turn (turn_by (acts_of w) (Some a) (reply_at locks hss p (Some a))) ≡ false → Blocked p
    blocked_by p in_it (Call call) e idle =
        let b = step_blocks (Lock locks call.lock) hss p call.lock call.step ((fine_at p (scope.within p in_it)).ranked call e) idle in
        record { call = call; mode = b.0; here = e; acquires = b.1; refused = b.2 }
    blocked_by p in_it (Try call) e idle = cc
    blocked_by p in_it (Choose block) e idle = cc
    blocked_by p in_it (Signal signal) e idle = absurd ((fine_at p (scope.within p in_it)).no_signal signal e)

    -- a party that is blocked holds itself up
    by_itself : (p : ℕ) → In p → Blocked p → HeldUp p
    by_itself p in_it b = record {
      call = b.call;
      mode = b.mode;
      here = b.here;
      acquires = b.acquires;
      waiter = p;
      within = in_it;
      blocked = b;
      same = refl;
      itself = λ plain. refl;
    }

    -- the lock of a blocked call is one of the plan, of a kind that has the call
    record IsRight (b_lock : ℕ) (mode : Mode) : Type 0 where
      below : b_lock < length locks
      kind : (is_exclusive mode || is_rwlock (Lock locks b_lock).kind) ≡ true
      fits : fits_kind (Lock locks b_lock).kind (Lock locks b_lock).limit (Lock locks b_lock).bar ≡ true

    right_call : (p : ℕ) → In p → (b : Blocked p) → IsRight b.call.lock b.mode
    right_call p in_it b =
        let l = b.call.lock in
        let own = get_or (stand p).holds l no_hold in
        let no = no_unknown (nat_lt l (length locks)) (fault_on (Lock locks l) own b.call.step) ((fine_at p (scope.within p in_it)).right b.call b.here) in
        let below : l < length locks = ltb-true l (length locks) no.0 in
        let no_fault : fault_on (Lock locks l) own (lock_step.Modes (Acquire b.mode)) ≡ None = ap (fault_on (Lock locks l) own) (sym b.acquires) ∙ no.1 in
        record {
          below = below;
          kind = (right_kind (is_exclusive b.mode || is_rwlock (Lock locks l).kind) _ no_fault).0;
          fits = (and_parts (fits_kind (Lock locks l).kind (Lock locks l).limit (Lock locks l).bar) _ (fit_at l below)).0;
        }

    -- a free lock admits each mode that it has, but for its bar
    open_if_free : (p l : ℕ) (mode : Mode) → IsRight l mode → tokens (bag_on l hss) ≡ 0
        → (if is_reentrant (Lock locks l).kind then tokens (bag_on l hss) == tokens (hold_of hss p l).bag else admits (Lock locks l).limit (bag_on l hss) mode) ≡ true
    open_if_free p l mode right none = by (is_reentrant (Lock locks l).kind)
      where
        by : (r : Bool) → (if r then tokens (bag_on l hss) == tokens (hold_of hss p l).bag else admits (Lock locks l).limit (bag_on l hss) mode) ≡ true
        by true =
            let part = one_within hss l p in
            eq-eqb (tokens (bag_on l hss)) (tokens (hold_of hss p l).bag) (omega (arith, none, part.shared, part.exclusive, part.upgradable))
        by false =
            free_admits (Lock locks l).limit (bag_on l hss) mode none (by_kind (Lock locks l).kind (Lock locks l).limit (Lock locks l).bar mode right.kind right.fits)

    -- a free lock refuses a party only by the bar of another one
    barred : (p : ℕ) (b : Blocked p) → IsRight b.call.lock b.mode → tokens (bag_on b.call.lock hss) ≡ 0
        → bar_lets_pass (bar_from 0 b.call.lock hss) p b.mode ≡ false
    barred p b right none =
        first_false (bar_lets_pass (bar_from 0 b.call.lock hss) p b.mode) _ (open_if_free p b.call.lock b.mode right none) b.refused

    -- the party that has announced itself on a lock
    record Announcer (l : ℕ) : Type 0 where
      who : ℕ
      in_it : In who
      is : bar_from 0 l hss ≡ Some who
      call : PlanCall
      here : act_of (stand who) ≡ Some (Call call)
      on : call.lock ≡ l
      writes : is_write call.step ≡ true
      bars : (Lock locks l).bar ≡ true

    announcer : (l q : ℕ) → bar_from 0 l hss ≡ Some q → Announcer l
    announcer l q e =
        let found = some_bar hss 0 l q e in
        let who = found.0 in
        let in_it = scope.announcers who l found.2 in
        let announced : (get_or (stand who).holds l no_hold).announced ≡ true =
        ap (λ (hs : List Hold). (get_or hs l no_hold).announced) (sym (scope.own who in_it)) ∙ found.2 in
        let a = (fine_at who (scope.within who in_it)).announced l announced in
        record {
          who = who;
          in_it = in_it;
          is = e ∙ ap (λ (i : ℕ). Some i) (omega (arith, found.1));
          call = a.call;
          here = a.here;
          on = a.on;
          writes = a.writes;
          bars = ap (λ (k : ℕ). (Lock locks k).bar) (sym a.on) ∙ a.bars;
        }

    -- a lock without a bar is not barred
    no_bar : (l p : ℕ) (mode : Mode) → (Lock locks l).bar ≡ false → bar_lets_pass (bar_from 0 l hss) p mode ≡ true
    no_bar l p mode none = by (bar_from 0 l hss) refl
      where
        by : (o : Option ℕ) → bar_from 0 l hss ≡ o → bar_lets_pass o p mode ≡ true
        by None e = refl
        by (Some q) e = absurd (false≢true (sym none ∙ (announcer l q e).bars))

    -- each party of the set that has not ended is held up
    module _ (held : (p : ℕ) → In p → (a : Act) → act_of (stand p) ≡ Some a → HeldUp p) where
      -- the party that set the bar of a free lock has a step
      free : (p : ℕ) → In p → (b : Blocked p) → tokens (bag_on b.call.lock hss) ≡ 0 → ⊥
      free p in_it b none =
          let l = b.call.lock in
          let right = right_call p in_it b in
          let bar = bar_there (bar_from 0 l hss) p b.mode (barred p b right none) in
          let a = announcer l bar.0 bar.1 in
          let q = a.who in
          let h = held q a.in_it (Call a.call) a.here in
          let plain : lines_up (Lock locks h.call.lock) h.call.step ≡ false =
          ap (λ (k : PlanCall). lines_up (Lock locks k.lock) k.step) (call_same h.call a.call (sym h.here ∙ a.here))
          ∙ ap (λ (k : ℕ). lines_up (Lock locks k) a.call.step) a.on
          ∙ no_line (Lock locks l) a.call.step (fit_at l right.below) a.bars in
          let itself : h.waiter ≡ q = h.itself plain in
          let c : Blocked q = subst Blocked itself h.blocked in
          let same : a.call ≡ c.call = call_same a.call c.call (sym a.here ∙ c.here) in
          let on : c.call.lock ≡ l = ap (λ (k : PlanCall). k.lock) (sym same) ∙ a.on in
          let writes : is_exclusive c.mode ≡ true =
          write_mode c.call.step c.mode (ap (λ (k : PlanCall). is_write k.step) (sym same) ∙ a.writes) c.acquires in
          let no : bar_lets_pass (bar_from 0 c.call.lock hss) q c.mode ≡ false =
          barred q c (right_call q a.in_it c) (ap (λ (k : ℕ). tokens (bag_on k hss)) on ∙ none) in
          let yes : bar_lets_pass (bar_from 0 c.call.lock hss) q c.mode ≡ true =
          own_bar (bar_from 0 c.call.lock hss) q c.mode (ap (λ (k : ℕ). bar_from 0 k hss) on ∙ a.is) writes in
          false≢true (sym no ∙ yes)

      -- a party that holds what may refuse the call
      record Holder (p l : ℕ) (mode : Mode) : Type 0 where
        who : ℕ
        some : 0 < tokens (hold_of hss who l).bag
        refuses : (strict l || not (admits (Lock locks l).limit (hold_of hss who l).bag mode)) ≡ true
        not_owner : is_reentrant (Lock locks l).kind ≡ true → who ≢ p

      -- a call that does not line up is blocked itself
      blocked_itself : (p : ℕ) (h : HeldUp p) → (Lock locks h.call.lock).fair && not (is_reentrant (Lock locks h.call.lock).kind) ≡ false
          → admits_step (Lock locks h.call.lock) (lock_holds hss p h.call.lock) (Acquire h.mode) ≡ false
      blocked_itself p h plain =
          let lines : lines_up (Lock locks h.call.lock) h.call.step ≡ false = ap (lines_up (Lock locks h.call.lock)) h.acquires ∙ plain in
          let c : Blocked p = subst Blocked (h.itself lines) h.blocked in
          let same : c.call ≡ h.call = call_same c.call h.call (sym c.here ∙ h.here) in
          let mode : c.mode ≡ h.mode = mode_same c.mode h.mode (sym c.acquires ∙ ap (λ (k : PlanCall). k.step) same ∙ h.acquires) in
          subst (λ (m : Mode). admits_step (Lock locks h.call.lock) (lock_holds hss p h.call.lock) (Acquire m) ≡ false) mode
          (subst (λ (k : PlanCall). admits_step (Lock locks k.lock) (lock_holds hss p k.lock) (Acquire c.mode) ≡ false) same c.refused)
        where
          mode_same : (m n : Mode) → lock_step.Modes (Acquire m) ≡ lock_step.Modes (Acquire n) → m ≡ n
          mode_same m n e = cc

      -- the owner of a reentrant lock is another party
      owner : (p : ℕ) (h : HeldUp p) → In p → IsRight h.call.lock h.mode → is_reentrant (Lock locks h.call.lock).kind ≡ true → Holder p h.call.lock h.mode
      owner p h in_it right r =
          let l = h.call.lock in
          let is = reentrant_is (Lock locks l).kind (Lock locks l).limit (Lock locks l).bar h.mode r right.kind right.fits in
          let plain : (Lock locks l).fair && not (is_reentrant (Lock locks l).kind) ≡ false =
          and_right (Lock locks l).fair (not (is_reentrant (Lock locks l).kind)) (not_from_true _ r) in
          let refused = blocked_itself p h plain in
          let more : (tokens (bag_on l hss) == tokens (hold_of hss p l).bag) ≡ false =
          sym (if_true (is_reentrant (Lock locks l).kind) (tokens (bag_on l hss) == tokens (hold_of hss p l).bag) (admits (Lock locks l).limit (bag_on l hss) h.mode) r)
          ∙ second_false (bar_lets_pass (bar_from 0 l hss) p h.mode) _ (no_bar l p h.mode is.0) refused in
          let other = some_other hss l p (eqb-false (tokens (bag_on l hss)) (tokens (hold_of hss p l).bag) more) in
          record {
            who = other.0;
            some = other.2;
            refuses = or_right (strict l) (not (admits (Lock locks l).limit (hold_of hss other.0 l).bag h.mode))
                (not_from_false (admits (Lock locks l).limit (hold_of hss other.0 l).bag h.mode)
                (ap (admits (Lock locks l).limit (hold_of hss other.0 l).bag) is.1 ∙ not_zero (tokens (hold_of hss other.0 l).bag) other.2));
            not_owner = λ is_owner. other.1;
          }

      -- any holder of a strict lock
      any_holder : (p : ℕ) (h : HeldUp p) → is_reentrant (Lock locks h.call.lock).kind ≡ false → strict h.call.lock ≡ true → Holder p h.call.lock h.mode
      any_holder p h plain is_strict =
          let l = h.call.lock in
          let on = ap (λ (k : ℕ). tokens (bag_on k hss)) h.same in
          elim (cases_lt 0 (tokens (bag_on l hss))) [
            | inr none ↦ absurd (free h.waiter h.within h.blocked (omega (arith, none, on)))
            | inl some ↦
                let q = some_holder hss l some in
                record {
                  who = q.0;
                  some = q.1;
                  refuses = or_left (strict l) (not (admits (Lock locks l).limit (hold_of hss q.0 l).bag h.mode)) is_strict;
                  not_owner = λ r. absurd (false≢true (sym plain ∙ r));
                }
          ]

      -- a party in the set reads no more than what is known of its program
      each_reads : (l : ℕ) (k : IsLenient (Lock locks l) (length programs) plan.known l) (q : ℕ) → q < length hss → readers (hold_of hss q l).bag ≤ k.most q
      each_reads l k q q_in = elim (cases_lt 0 (tokens (hold_of hss q l).bag)) [
        | inr none ↦ omega (arith, none)
        | inl some ↦
            let in_it = scope.holders q l some in
            let lt = scope.within q in_it in
            let f = fine_at q lt in
            let most = k.each q (stand q).place f.before (omega (arith, lt, all.many)) f.is in
            let same : readers (hold_of hss q l).bag ≡ readers (get_or f.before l no_hold).bag =
            ap (λ (hs : List Hold). readers (get_or hs l no_hold).bag) (scope.own q in_it) ∙ ap (λ (b : Bag). readers b) (f.bags l) in
            omega (arith, most, same)
      ]

      -- a holder of a lenient lock that alone refuses the call
      refusing_holder : (p : ℕ) (h : HeldUp p) → is_reentrant (Lock locks h.call.lock).kind ≡ false → IsLenient (Lock locks h.call.lock) (length programs) plan.known h.call.lock
          → Holder p h.call.lock h.mode
      refusing_holder p h plain k =
          let l = h.call.lock in
          let refused = blocked_itself p h (and_left (Lock locks l).fair (not (is_reentrant (Lock locks l).kind)) k.no_line) in
          let no : admits (Lock locks l).limit (bag_on l hss) h.mode ≡ false =
          sym (if_false (is_reentrant (Lock locks l).kind) (tokens (bag_on l hss) == tokens (hold_of hss p l).bag) (admits (Lock locks l).limit (bag_on l hss) h.mode) plain)
          ∙ second_false (bar_lets_pass (bar_from 0 l hss) p h.mode) _ (no_bar l p h.mode k.no_bar) refused in
          let reads = few_readers hss l k.most (each_reads l k) in
          let fewer = sum_more (length hss) (length programs) k.most (omega (arith, scope.long, all.many)) in
          let q = refusing hss l (Lock locks l).limit (omega (arith, reads, fewer, k.room)) h.mode no in
          record {
            who = q.0;
            some = q.1;
            refuses = or_right (strict l) (not (admits (Lock locks l).limit (hold_of hss q.0 l).bag h.mode))
                (not_from_false (admits (Lock locks l).limit (hold_of hss q.0 l).bag h.mode) q.2);
            not_owner = λ r. absurd (false≢true (sym plain ∙ r));
          }

      holder : (p : ℕ) → In p → (h : HeldUp p) → Holder p h.call.lock h.mode
      holder p in_it h =
          let right = right_here p in_it h in
          elim (cases_Bool (is_reentrant (Lock locks h.call.lock).kind)) [
            | inl r ↦ owner p h in_it right r
            | inr plain ↦ elim (cases_Bool (strict h.call.lock)) [
              | inl is_strict ↦ any_holder p h plain is_strict
              | inr lenient ↦ refusing_holder p h plain (plan.lenient h.call.lock right.below lenient)
            ]
          ]
        where
          right_here : (p : ℕ) → In p → (h : HeldUp p) → IsRight h.call.lock h.mode
          right_here p in_it h =
              let l = h.call.lock in
              let own = get_or (stand p).holds l no_hold in
              let no = no_unknown (nat_lt l (length locks)) (fault_on (Lock locks l) own h.call.step) ((fine_at p (scope.within p in_it)).right h.call h.here) in
              let below : l < length locks = ltb-true l (length locks) no.0 in
              let no_fault : fault_on (Lock locks l) own (lock_step.Modes (Acquire h.mode)) ≡ None = ap (fault_on (Lock locks l) own) (sym h.acquires) ∙ no.1 in
              record {
                below = below;
                kind = (right_kind (is_exclusive h.mode || is_rwlock (Lock locks l).kind) _ no_fault).0;
                fits = (and_parts (fits_kind (Lock locks l).kind (Lock locks l).limit (Lock locks l).bar) _ (fit_at l below)).0;
              }

      -- the party as a wait
      abbrev wait_of : (p : ℕ) → p < length w → HeldUp p → Wait
      wait_of p lt h = record { party = p; place = (stand p).place; holds = (fine_at p lt).before; lock = h.call.lock; mode = h.mode }

      wait_is : (p : ℕ) (lt : p < length w) (h : HeldUp p) → IsWaitOf programs plan.known (wait_of p lt h)
      wait_is p lt h = record {
        within = omega (arith, lt, all.many);
        is = (fine_at p lt).is;
        here = ap (λ (program : List ProgramPlace). act_in program (stand p).place) (sym (all.stand p lt).runs) ∙ h.here
            ∙ ap (λ (c : PlanCall). Some (Call c)) (call_is h.call h.mode h.acquires);
      }

      -- what two parties of the world hold at their places
      can_meet : (p q : ℕ) (lt : p < length w) (below : q < length w) → p ≢ q → CanMeet locks (fine_at p lt).before (fine_at q below).before
      can_meet p q lt below different l =
          subst (λ (b : Bag). excludes (Lock locks l) b (get_or (fine_at q below).before l no_hold).bag ≡ false) ((fine_at p lt).bags l)
          (subst (λ (b : Bag). excludes (Lock locks l) (get_or (stand p).holds l no_hold).bag b ≡ false) ((fine_at q below).bags l)
          (not_excluded (Lock locks l) (get_or (stand p).holds l no_hold).bag (get_or (stand q).holds l no_hold).bag (all.apart l p q different)))

      -- one that waits at a higher rank
      record Next (p : ℕ) : Type 0 where
        who : ℕ
        in_it : In who
        held_up : HeldUp who
        above : rank p (stand p).place < rank who (stand who).place

      next_by : (p : ℕ) → In p → (h : HeldUp p) (f : Holder p h.call.lock h.mode) → In f.who → (here : Option Act) → act_of (stand f.who) ≡ here → Next p
      next_by p in_it h f there None e =
          let q = f.who in
          let none = (fine_at q (scope.within q there)).ended e h.call.lock in
          let same : tokens (hold_of hss q h.call.lock).bag ≡ tokens (get_or (stand q).holds h.call.lock no_hold).bag =
          ap (λ (hs : List Hold). tokens (get_or hs h.call.lock no_hold).bag) (scope.own q there) in
          absurd (omega (arith, f.some, none, same))
      next_by p in_it h f there (Some a) e =
          let q = f.who in
          let lt = scope.within p in_it in
          let below = scope.within q there in
          let c = held q there a e in
          let l = h.call.lock in
          let bag : (hold_of hss q l).bag ≡ (get_or (fine_at q below).before l no_hold).bag =
          ap (λ (hs : List Hold). (get_or hs l no_hold).bag) (scope.own q there) ∙ (fine_at q below).bags l in
          let may : may_hold_up (strict l) (Lock locks l).limit h.mode (hold_of hss q l).bag ≡ true =
          and_from (nat_lt 0 (tokens (hold_of hss q l).bag)) (strict l || not (admits (Lock locks l).limit (hold_of hss q l).bag h.mode))
          (lt-ltb 0 (tokens (hold_of hss q l).bag) f.some) f.refuses in
          record {
            who = q;
            in_it = there;
            held_up = c;
            above = plan.upward (wait_of p lt h) (wait_of q below c) (wait_is p lt h) (wait_is q below c) (record {
              together = elim (cases_eq p q) [
                | inl same ↦ inr ((same, ap (λ (i : ℕ). (stand i).place) same), owner_or_not (is_reentrant (Lock locks l).kind) refl same)
                | inr different ↦ inl (different, can_meet p q lt below different)
              ];
              refuses = subst (λ (b : Bag). may_hold_up (strict l) (Lock locks l).limit h.mode b ≡ true) bag may;
            });
          }
        where
          owner_or_not : (r : Bool) → is_reentrant (Lock locks h.call.lock).kind ≡ r → p ≡ f.who → is_reentrant (Lock locks h.call.lock).kind ≡ false
          owner_or_not true is same = absurd (f.not_owner is (sym same))
          owner_or_not false is same = is

      next_of : (p : ℕ) → In p → HeldUp p → Next p
      next_of p in_it h =
          let f = holder p in_it h in
          next_by p in_it h f (scope.holders f.who h.call.lock f.some) (act_of (stand f.who)) refl

      -- the ranks of so many parties are below a number
      bound : (n : ℕ) → (top : ℕ) × ((p : ℕ) → p < n → rank p (stand p).place < top)
      bound zero = (0, λ p lt. absurd (omega (arith, lt)))
      bound (suc n) =
          let b = bound n in (
            b.0 + rank n (stand n).place + 1,
            λ p lt. elim (cases_eq p n) [
              | inl same ↦ let e : rank p (stand p).place ≡ rank n (stand n).place = ap (λ (i : ℕ). rank i (stand i).place) same in omega (arith, e)
              | inr other ↦ omega (arith, b.1 p (omega (arith, lt, other)))
            ],
          )

      nobody_below : (n : ℕ) (p : ℕ) → In p → HeldUp p → (bound (length w)).0 ≤ rank p (stand p).place + n → ⊥
      nobody_below zero p in_it h le = let high = (bound (length w)).1 p (scope.within p in_it) in omega (arith, high, le)
      nobody_below (suc n) p in_it h le =
          let next = next_of p in_it h in
          nobody_below n next.who next.in_it next.held_up (omega (arith, le, next.above))

      -- so no party of the set is held up
      nobody : (p : ℕ) → In p → HeldUp p → ⊥
      nobody p in_it h = nobody_below (bound (length w)).0 p in_it h (omega arith)

  -- Stops: what all parties hold

  abbrev everyone : List (List Hold)
  everyone = map (λ (s : Stand). s.holds) w

  abbrev IsParty : ℕ → Type 0
  IsParty p = p < length w

  abbrev long_as : length everyone ≡ length w
  long_as = length-map w (λ (s : Stand). s.holds)

  party_if : (p : ℕ) → (get_or everyone p [] ≡ [] → ⊥) → IsParty p
  party_if p some = elim (cases_lt p (length w)) [
    | inl lt ↦ lt
    | inr past ↦ absurd (some (get_or_past everyone p [] (omega (arith, past, long_as))))
  ]

  of_everyone : IsScope everyone IsParty
  of_everyone = record {
    long = omega (arith, long_as);
    within = λ p lt. lt;
    own = λ p lt. get_or-map (λ (s : Stand). s.holds) w p no_stand [] lt;
    holders = λ p l some. party_if p (λ none.
        let same : tokens (get_or (get_or everyone p []) l no_hold).bag ≡ 0 = ap (λ (hs : List Hold). tokens (get_or hs l no_hold).bag) none in
        omega (arith, some, same));
    announcers = λ p l some. party_if p (λ none.
        false≢true (sym (ap (λ (hs : List Hold). (get_or hs l no_hold).announced) none) ∙ some));
  }

  turn_at : (p : ℕ) (here : Option Act) → act_of (stand p) ≡ here → turn_of locks w p ≡ turn_by (acts_of w) here (reply_at locks everyone p here)
  turn_at p here e = ap (λ (o : Option Act). turn_by (acts_of w) o (reply_at locks everyone p o)) e

  -- a party that waits for the lock is blocked there
  waiter_by : (l q : ℕ) → q < length w → (here : Option Act) → act_of (stand q) ≡ here → (turn : Option Turn)
      → turn_by (acts_of w) here (reply_at locks everyone q here) ≡ turn → waits_for l here turn ≡ true
      → (b : Blocked everyone IsParty of_everyone q) × (b.call.lock ≡ l)
  waiter_by l q lt (Some (Call call)) e (Some Waits) is waits =
      let b = blocked_by everyone IsParty of_everyone q lt (Call call) e (ap is_step_turn is) in
      let same : b.call ≡ call = call_same b.call call (sym b.here ∙ e) in
      (b, ap (λ (k : PlanCall). k.lock) same ∙ eqb-true call.lock l waits)
  waiter_by l q lt here e turn is waits = absurd (false≢true waits)

  -- a party whose turn is a step may have come after another one
  behind_by : (p : ℕ) → p < length w → (a : Act) → act_of (stand p) ≡ Some a
      → on_lock (has_waiter locks w) (line_of locks (Some a)) ≡ true → HeldUp everyone IsParty of_everyone p
  behind_by p lt (Call call) e on =
      let l = call.lock in
      let line = line_is (lines_up (Lock locks l) call.step) l on in
      let found = some_found (λ q. waits_for l (act_of (stand q)) (turn_of locks w q)) (length w) line.1 in
      let b = waiter_by l found.0 found.2 (act_of (stand found.0)) refl (turn_of locks w found.0) refl found.1 in
      let mode = lined_mode (Lock locks l) call.step line.0 in
      record {
        call = call;
        mode = mode.0;
        here = e;
        acquires = mode.1;
        waiter = found.0;
        within = found.2;
        blocked = b.0;
        same = b.1;
        itself = λ plain. absurd (false≢true (sym plain ∙ line.0));
      }
    where
      line_is : (b : Bool) (l : ℕ) → on_lock (has_waiter locks w) (if b then Some l else None) ≡ true
          → (b ≡ true) × (has_waiter locks w l ≡ true)
      line_is true l on = (refl, on)
      line_is false l on = cc
  behind_by p lt (Try call) e on = cc
  behind_by p lt (Choose block) e on = cc
  behind_by p lt (Signal signal) e on = cc

  held_up : (p : ℕ) (lt : p < length w) (a : Act) (e : act_of (stand p) ≡ Some a) → goes_on locks w p ≡ false → HeldUp everyone IsParty of_everyone p
  held_up p lt a e idle = by_step (is_step_turn (turn_of locks w p)) refl idle
    where
      by_step : (b : Bool) → is_step_turn (turn_of locks w p) ≡ b
          → (b && not (on_lock (has_waiter locks w) (line_of locks (act_of (stand p))))) ≡ false → HeldUp everyone IsParty of_everyone p
      by_step true steps none =
          behind_by p lt a e
          (ap (λ (o : Option Act). on_lock (has_waiter locks w) (line_of locks o)) (sym e) ∙ not-false _ none)
      by_step false steps none =
          by_itself everyone IsParty of_everyone p lt
          (blocked_by everyone IsParty of_everyone p lt a e (ap is_step_turn (sym (turn_at p (Some a) e)) ∙ steps))

  refused_by : (p : ℕ) → p < length w → (here : Option Act) → act_of (stand p) ≡ here
      → is_refused_turn (turn_by (acts_of w) here (reply_at locks everyone p here)) ≡ false
  refused_by p lt None e = refl
  refused_by p lt (Some (Call call)) e = not_refused (Lock locks call.lock) everyone p call.lock call.step ((fine_at p lt).ranked call e)
  refused_by p lt (Some (Try call)) e = refl
  refused_by p lt (Some (Choose block)) e = refl
  refused_by p lt (Some (Signal signal)) e = absurd ((fine_at p lt).no_signal signal e)

  none_refused : is_refused locks w ≡ false
  none_refused =
      below_none (λ p. is_refused_turn (turn_of locks w p)) (length w)
      (λ p lt. ap is_refused_turn (turn_at p (act_of (stand p)) refl) ∙ refused_by p lt (act_of (stand p)) refl)

  module _ (still : (q : ℕ) → q < length w → goes_on locks w q ≡ false) where
    has_no_turn : (p : ℕ) → p < length w → (here : Option Act) → act_of (stand p) ≡ here → turn_of locks w p ≡ None
    has_no_turn p lt None e = turn_at p None e
    has_no_turn p lt (Some a) e =
        absurd (nobody everyone IsParty of_everyone (λ q below b is. held_up q below b is (still q below)) p lt (held_up p lt a e (still p lt)))

    none_due : some_below (λ p. is_due (is_server servers p) (turn_of locks w p)) (length w) ≡ false
    none_due =
        below_none (λ p. is_due (is_server servers p) (turn_of locks w p)) (length w)
        (λ p lt. ap (is_due (is_server servers p)) (has_no_turn p lt (act_of (stand p)) refl))

  abbrev some_goes : Bool
  some_goes = some_below (goes_on locks w) (length w)

  not_stuck_by : (b : Bool) → some_goes ≡ b → is_stuck servers locks w ≡ false
  not_stuck_by true e = and_not_true (some_below (λ p. is_due (is_server servers p) (turn_of locks w p)) (length w)) some_goes e
  not_stuck_by false e =
      ap (λ (d : Bool). d && not some_goes) (none_due (λ q lt. below_each (goes_on locks w) (length w) q e lt))

  no_stop : is_stop servers locks w ≡ false
  no_stop = or_from (is_refused locks w) (is_stuck servers locks w) none_refused (not_stuck_by some_goes refl)

  -- Circles: what the members hold

  module _ (members : List Bool) (ring : IsRing locks (acts_of w) everyone members) where
    abbrev within : List (List Hold)
    within = held_within members everyone

    abbrev IsMember : ℕ → Type 0
    IsMember p = is_member members p ≡ true

    shorter : (set : List Bool) (hss : List (List Hold)) → length (held_within set hss) ≤ length hss
    shorter [] hss = omega arith
    shorter (b ∷ set) [] = omega arith
    shorter (b ∷ set) (hs ∷ hss) = let rest = shorter set hss in omega (arith, rest)

    member_lt : (p : ℕ) → IsMember p → p < length w
    member_lt p is = omega (arith, member_within members p is, ring.long, long_as)

    member_if : (p : ℕ) → (get_or within p [] ≡ [] → ⊥) → IsMember p
    member_if p some = by (is_member members p) refl
      where
        by : (b : Bool) → is_member members p ≡ b → b ≡ true
        by true e = refl
        by false e = absurd (some (within_at members everyone p ∙ if_false (is_member members p) (get_or everyone p []) [] e))

    of_members : IsScope within IsMember
    of_members = record {
      long = omega (arith, shorter members everyone, long_as);
      within = member_lt;
      own = λ p is.
          within_at members everyone p ∙ if_true (is_member members p) (get_or everyone p []) [] is
          ∙ get_or-map (λ (s : Stand). s.holds) w p no_stand [] (member_lt p is);
      holders = λ p l some. member_if p (λ none.
          let same : tokens (get_or (get_or within p []) l no_hold).bag ≡ 0 = ap (λ (hs : List Hold). tokens (get_or hs l no_hold).bag) none in
          omega (arith, some, same));
      announcers = λ p l some. member_if p (λ none.
          false≢true (sym (ap (λ (hs : List Hold). (get_or hs l no_hold).announced) none) ∙ some));
    }

    member_held : (p : ℕ) → IsMember p → (here : Option Act) → act_of (stand p) ≡ here → waits_within locks everyone members p here ≡ true
        → HeldUp within IsMember of_members p
    member_held p is (Some (Call call)) e waits =
        let two = and_parts (hold_has (get_or (get_or everyone p []) call.lock no_hold) call.step) (is_wait (reply_to locks within p call)) waits in
        by_itself within IsMember of_members p is
        (blocked_by within IsMember of_members p is (Call call) e (no_step (reply_to locks within p call) two.1))
    member_held p is (Some (Signal signal)) e waits = absurd ((fine_at p (member_lt p is)).no_signal signal e)
    member_held p is here e waits = absurd (false≢true waits)

    held_at : (p : ℕ) → IsMember p → HeldUp within IsMember of_members p
    held_at p is =
        let lt = member_lt p is in
        let act : get_or (acts_of w) p None ≡ act_of (stand p) = get_or-map act_of w p no_stand None lt in
        member_held p is (act_of (stand p)) refl
        (ap (waits_within locks everyone members p) (sym act) ∙ ring.waits p is)

    no_ring : ⊥
    no_ring = nobody within IsMember of_members (λ p is a e. held_at p is) ring.some.0 ring.some.1 (held_at ring.some.0 ring.some.1)

  no_circle : has_circle locks w ≡ false
  no_circle = false_from_ne_true (has_circle locks w) (λ e.
      let it = some_set_at (is_circle_by locks (acts_of w) everyone) (length everyone) e in
      no_ring it.set (ring_of locks (acts_of w) everyone it.set it.long it.has))

  pub no_deadlock : is_deadlock servers locks w ≡ false
  no_deadlock = or_from (is_stop servers locks w) (has_circle locks w) no_stop no_circle

pub never_deadlock : RankedPlansNeverDeadlock
never_deadlock rank strict servers locks programs plan steps w e =
    let covered : (party : ℕ) → party < length programs → IsCoveredAt (plan.known party) (get_or programs party []) =
    λ party lt place hs is. plan.covered party place hs lt is in
    no_deadlock rank strict servers locks programs plan w
    (steps_covered locks programs plan.known covered steps (first_world locks programs) w
    (starts_covered locks programs plan.known covered plan.is) e)

-- no act of such a plan is wrong in itself
right : (rank : ℕ → ℕ → ℕ) (strict : ℕ → Bool) (locks : List PlanLock) (programs : List (List ProgramPlace)) → HasWaitRanks rank strict locks programs
    → (p : ℕ) → (known : Known) × (known_of locks (get_or programs p []) ≡ Ok known)
right rank strict locks programs plan p =
    elim (cases_lt p (length programs)) [
      | inl lt ↦ (plan.known p, plan.is p lt)
      | inr past ↦ (_, ap (known_of locks) (get_or_past programs p [] past))
    ]

pub machines_never_stop : {O T A : Type 0} (meaning : O → Operation T A) → RankedMachinesNeverStop meaning
machines_never_stop meaning rank strict servers locks programs plan =
    never meaning servers locks programs
    (λ room enough. fits_by locks programs room (right rank strict locks programs plan) plan.machines enough)
    (no_deadlocks servers locks programs (never_deadlock rank strict servers locks programs plan))
