-- The turn of a party on its machine is its turn in the world, and changes what that turn changes.
use Rattle.std.proofs.Common.{◌≡◌, ℕ, ◌+◌, Bool, true, false, not, ◌&&◌, ◌||◌, nat_lt, if◌then◌else◌, List, Option, Some, None, option_map, is_some, IsTrue, refl, ap, sym, ◌∙◌, subst}
use Rattle.std.proofs.lemmas.Bool.{and_parts, and_right}
use Rattle.lock_modes.specs.declared.mode.Mode.{Mode}
use Rattle.lock_modes.specs.declared.mode.Mode.TheVariants.{Shared, Exclusive, Upgradable}
use Rattle.lock_modes.specs.declared.mode_step.ModeStep.TheVariants.{Acquire, Release, Change}
use Rattle.lock_modes.specs.declared.bag.Bag.{Bag}
use Rattle.lock_machine.specs.declared.call.Form.TheVariants.{Block}
use Rattle.lock_modes.specs.declared.party.PartyId.{PartyId}
use Rattle.lock_machine.specs.declared.reply.Reply.{Reply}
use Rattle.lock_modes.specs.declared.fault.Fault.{Fault}
use Rattle.lock_modes.specs.declared.fault.Fault.TheVariants as fault
use Rattle.lock_modes.specs.declared.lock_step.LockStep.{LockStep}
use Rattle.lock_modes.specs.declared.lock_step.LockStep.TheVariants as lock_step
use Rattle.lock_modes.specs.declared.hold.Hold.{Hold}
use Rattle.lock_machine.specs.Operation.{Operation}
use Rattle.lock_modes.specs.Party.{id_of}
use Rattle.lock_modes.specs.Modes.{is_exclusive, is_shared, is_upgradable, is_move, may_become, tokens}
use Rattle.lock_modes.specs.Kind.{is_reentrant, is_rwlock}
use Rattle.lock_modes.specs.Bar.{has_announced, bar_lets_pass}
use Rattle.lock_machine.specs.Entries.{Entry, find, held_bag}
use Rattle.lock_machine.specs.Register.{admits_party, admits_ignoring_bar, with_guard, without_guard, with_bar, after_admission}
use Rattle.lock_machine.specs.Machine.{Machine, after_release}
use Rattle.lock_machine.specs.Refusals.{Demand, mode_of, held_guard, upgradable_guard, unshared_guard, exclusive_guard}
use Rattle.lock_machine.specs.Calls.{CallEffect, give, unless, on_guard, with_register, with_mode, announce}
use Rattle.lock_machine.specs.Steps.{response_of, response_in_form, done_reply}
use Rattle.lock_modes.specs.Holds.{hold_has, hold_after}
use Rattle.lock_machine.proofs.CallEffects.{Meets, on_guard-met}
use Rattle.lock_plan.specs.declared.fault.CallFault.{CallFault}
use Rattle.lock_plan.specs.declared.lock.PlanLock.{PlanLock}
use Rattle.lock_plan.specs.declared.turn.Turn.{Turn}
use Rattle.lock_plan.specs.declared.turn.Turn.TheVariants.{Goes, Announces, Waits, Refused}
use Rattle.lock_plan.specs.Holds.{turn_on, admits_step, announces_itself}
use Rattle.lock_plan.specs.CallFaults.{fault_on, is_of_kind, is_over, is_again}
use Rattle.lock_plan.specs.Worlds.{bag_on, bar_from, lock_holds}
use Rattle.lock_plan_laws.specs.MachineTurns.{want_for, Names, MachineTurn, turn_of_reply, announced_turn, after_reply, machine_turn}
use Rattle.lock_plan_laws.specs.Bridge.{AreDistinct}
use Rattle.lock_plan_laws.proofs.Columns.{hold_of}
use Rattle.lock_plan_laws.proofs.Moves.{IsSeen, Moved, bag_after_step, none_announced, acquired, released, changed, announced, withdrawn}
use Rattle.lock_plan_laws.proofs.Acquisitions.{HasRoom, mode_wanted, none_refused, same_admission}

-- a call that is not wrong in itself
pub record IsRight (lock : PlanLock) (h : Hold) (a : LockStep) : Type 0 where
  pub of_kind : is_of_kind lock.kind a ≡ true
  pub has : hold_has h a ≡ true
  pub not_over : is_over lock h a ≡ false
  pub not_again : is_again h a ≡ false

record NoFault (a b c d : Bool) : Type 0 where
  first : a ≡ true
  second : b ≡ true
  third : c ≡ false
  fourth : d ≡ false

no_fault : (a b c d : Bool) (f g h i : CallFault)
    → (if not a then Some f else (if not b then Some g else (if c then Some h else (if d then Some i else None)))) ≡ None
    → NoFault a b c d
no_fault false b c d f g h i none = cc
no_fault true false c d f g h i none = cc
no_fault true true true d f g h i none = cc
no_fault true true false true f g h i none = cc
no_fault true true false false f g h i none =
    record { first = refl; second = refl; third = refl; fourth = refl }

pub is_right : (lock : PlanLock) (h : Hold) (a : LockStep) → fault_on lock h a ≡ None → IsRight lock h a
is_right lock h a none =
    let all = no_fault (is_of_kind lock.kind a) (hold_has h a) (is_over lock h a) (is_again h a) _ _ _ _ none in
    record { of_kind = all.first; has = all.second; not_over = all.third; not_again = all.fourth }

-- what a turn changes, if it is a step
abbrev pub ByTurn : Turn → Type 0 → Type 0 → Type 0
ByTurn Goes goes announces = goes
ByTurn Announces goes announces = announces
ByTurn Waits goes announces = Unit {0}
ByTurn Refused goes announces = Unit {0}

pub record Acts {T : Type 0} (t : MachineTurn T) (m : Machine T) (x : ℕ) (own : Hold) (all : Bag) (a : LockStep) (turn : Turn) : Type 0 where
  pub same : t.turn ≡ turn
  pub moved : ByTurn turn (Moved m t.machine x (hold_after own a) (bag_after_step all a))
      (Moved m t.machine x (hold_after own lock_step.Announce) all)

and_group : (a b c : Bool) → (a && (b && c)) ≡ ((a && b) && c)
and_group true b c = refl
and_group false b c = refl

not_shared_from : (from : Mode) → is_move from Shared ≡ true → not (is_shared from) ≡ true
not_shared_from Shared h = cc
not_shared_from Exclusive h = refl
not_shared_from Upgradable h = refl

upgradable_from : (from : Mode) → is_move from Exclusive ≡ true → is_upgradable from ≡ true
upgradable_from Shared h = cc
upgradable_from Exclusive h = cc
upgradable_from Upgradable h = refl

exclusive_from : (from : Mode) → is_move from Upgradable ≡ true → is_exclusive from ≡ true
exclusive_from Shared h = cc
exclusive_from Exclusive h = refl
exclusive_from Upgradable h = cc

module _ {O T A : Type 0} (meaning : O → Operation T A) (ids : ℕ → PartyId) (distinct : AreDistinct ids) (lock : PlanLock) (m : Machine T)
    (hss : List (List Hold)) (p l guard : ℕ) (seen : IsSeen ids lock m hss p l) where
  abbrev x : ℕ
  x = id_of (ids p)

  -- the turn that the machine gives, and the turn of the world
  abbrev Fits : LockStep → MachineTurn T → Turn → Type 0
  Fits a t turn = Acts t m (id_of (ids p)) (hold_of hss p l) (bag_on l hss) a turn

  abbrev replied : LockStep → Reply A → Machine T → MachineTurn T
  replied a reply next = after_reply meaning ids lock p a (record { reply = reply; machine = next })

  fits_from : (a : LockStep) (t u : MachineTurn T) (v w : Turn) → t ≡ u → v ≡ w → Fits a u w → Fits a t v
  fits_from a t u v w same turn fits =
      subst (λ (t' : MachineTurn T). Fits a t' v) (sym same) (subst (λ (v' : Turn). Fits a u v') (sym turn) fits)

  -- what a waiting party does, by whether it announces itself
  abbrev waiting_by : CallEffect (Unit {0}) T → Bool → MachineTurn T
  waiting_by effect c =
      if c
      then record { turn = announced_turn (turn_of_reply (response_of {A = A} done_reply effect).reply); machine = effect.machine }
      else record { turn = Waits; machine = m }

  -- the guard that a call names meets what the call demands of it
  meets : (demand : Demand) (mode : Mode) → find guard m.entries ≡ Some (record { party = x; mode = mode; held = true })
      → demand.on_kind m.kind ≡ true → true ≡ demand.held → demand.in_mode mode ≡ true
      → Meets m.register demand x guard (record { party = x; mode = mode; held = true })
  meets demand mode found on_kind held in_mode =
      record { found = found; on_kind = on_kind; own = λ reentrant. refl; held = held; in_mode = in_mode }

  release_acts : (mode : Mode) → find guard m.entries ≡ Some (record { party = x; mode = mode; held = true })
      → Fits (lock_step.Modes (Release mode)) (machine_turn meaning ids lock m p guard (lock_step.Modes (Release mode)))
      (turn_on lock (lock_holds hss p l) (lock_step.Modes (Release mode)))
  release_acts mode found =
      let e : Entry = record { party = x; mode = mode; held = true } in
      let after = after_release m (without_guard m.register guard) in
      fits_from (lock_step.Modes (Release mode)) _ (record { turn = Goes; machine = after }) Goes Goes
      (ap (λ (effect : CallEffect (Unit {0}) T). after_reply meaning ids lock p (lock_step.Modes (Release mode)) (response_of done_reply effect))
      (on_guard-met m held_guard x guard (λ e'. give tt after) e (meets held_guard mode found refl refl refl)))
      refl
      (record { same = refl; moved = released ids lock m hss p l seen guard mode found })

  module _ (from : Mode) (found : find guard m.entries ≡ Some (record { party = x; mode = from; held = true }))
      (rwlock : is_rwlock lock.kind ≡ true) where
    rwlock_machine : is_rwlock m.kind ≡ true
    rwlock_machine = ap is_rwlock seen.kind ∙ rwlock

    abbrev entry : Entry
    entry = record { party = x; mode = from; held = true }

    -- a downgrade
    downgrade_acts : (to : Mode) (demand : Demand) → is_exclusive to ≡ false
        → Meets m.register demand x guard (record { party = x; mode = from; held = true })
        → Fits (lock_step.Modes (Change from to))
        (after_reply meaning ids lock p (lock_step.Modes (Change from to))
        (response_of done_reply (on_guard m demand x guard (λ e. give tt (with_mode m guard to))))) Goes
    downgrade_acts to demand lower met =
        fits_from (lock_step.Modes (Change from to)) _ (record { turn = Goes; machine = with_mode m guard to }) Goes Goes
        (ap (λ (effect : CallEffect (Unit {0}) T). after_reply meaning ids lock p (lock_step.Modes (Change from to)) (response_of done_reply effect))
        (on_guard-met m demand x guard (λ e'. give tt (with_mode m guard to)) entry met))
        refl
        (record { same = refl; moved = changed ids lock m hss p l seen guard from found to })

    abbrev upgraded : Bool → CallEffect (Option (Unit {0})) T
    upgraded b = if b then give (Some tt) (with_mode m guard Exclusive) else give None m

    upgrade_by : (b : Bool)
        → Fits (lock_step.Modes (Change from Exclusive))
        (after_reply meaning ids lock p (lock_step.Modes (Change from Exclusive)) (response_in_form Block done_reply (upgraded b)))
        (if b then Goes else (if (lock.bar && false) && not (is_some (bar_from 0 l hss)) then Announces else Waits))
    upgrade_by true = record { same = refl; moved = changed ids lock m hss p l seen guard from found Exclusive }
    upgrade_by false =
        fits_from (lock_step.Modes (Change from Exclusive)) _ (record { turn = Waits; machine = m }) _ Waits
        (ap (waiting_by (announce m x)) (and_right lock.bar false refl))
        (ap (λ (b : Bool). if b && not (is_some (bar_from 0 l hss)) then Announces else Waits) (and_right lock.bar false refl))
        (record { same = refl; moved = tt })

    upgrade_acts : is_upgradable from ≡ true
        → Fits (lock_step.Modes (Change from Exclusive))
        (machine_turn meaning ids lock m p guard (lock_step.Modes (Change from Exclusive)))
        (turn_on lock (lock_holds hss p l) (lock_step.Modes (Change from Exclusive)))
    upgrade_acts upgradable =
        let sole = may_become (held_bag m.entries) Exclusive in
        fits_from (lock_step.Modes (Change from Exclusive)) _
        (after_reply meaning ids lock p (lock_step.Modes (Change from Exclusive)) (response_in_form Block done_reply (upgraded sole))) _
        (if sole then Goes else (if (lock.bar && false) && not (is_some (bar_from 0 l hss)) then Announces else Waits))
        (ap (λ (effect : CallEffect (Option (Unit {0})) T).
        after_reply meaning ids lock p (lock_step.Modes (Change from Exclusive)) (response_in_form Block done_reply effect))
        (on_guard-met m upgradable_guard x guard (λ e'. upgraded sole) entry
        (meets upgradable_guard from found rwlock_machine refl upgradable)))
        (ap (λ (b : Bag). if may_become b Exclusive then Goes
        else (if (lock.bar && false) && not (is_some (bar_from 0 l hss)) then Announces else Waits)) (sym seen.all))
        (upgrade_by sole)

    change_acts : (to : Mode) → is_move from to ≡ true
        → Fits (lock_step.Modes (Change from to))
        (machine_turn meaning ids lock m p guard (lock_step.Modes (Change from to)))
        (turn_on lock (lock_holds hss p l) (lock_step.Modes (Change from to)))
    change_acts Shared move =
        downgrade_acts Shared unshared_guard refl
        (meets unshared_guard from found rwlock_machine refl (not_shared_from from move))
    change_acts Exclusive move = upgrade_acts (upgradable_from from move)
    change_acts Upgradable move =
        downgrade_acts Upgradable exclusive_guard refl
        (meets exclusive_guard from found rwlock_machine refl (exclusive_from from move))

  -- announcements

  bar_some : is_some m.bar ≡ is_some (bar_from 0 l hss)
  bar_some = ap is_some seen.bar ∙ some_mapped (bar_from 0 l hss)
    where
      some_mapped : (o : Option ℕ) → is_some (option_map (λ q. id_of (ids q)) o) ≡ is_some o
      some_mapped None = refl
      some_mapped (Some q) = refl

  abbrev barred_by : Bool → CallEffect (Unit {0}) T
  barred_by d = unless (if d then Some fault.Barred else None) m (give tt (with_register m (with_bar m.register (Some x))))

  announce_is : is_rwlock lock.kind ≡ true → announce m x ≡ barred_by (is_some (bar_from 0 l hss))
  announce_is rwlock =
      ap (λ (b : Bool). unless (if not b then Some fault.WrongKind else (if is_some m.bar then Some fault.Barred else None)) m
      (give tt (with_register m (with_bar m.register (Some x))))) (ap is_rwlock seen.kind ∙ rwlock)
      ∙ ap barred_by bar_some

  announce_by : (d : Bool) → is_some (bar_from 0 l hss) ≡ d
      → Fits lock_step.Announce (after_reply meaning ids lock p lock_step.Announce (response_of done_reply (barred_by d))) (if d then Refused else Goes)
  announce_by true is = record { same = refl; moved = tt }
  announce_by false is = record { same = refl; moved = announced ids lock m hss p l seen (bar_some ∙ is) }

  announce_acts : is_rwlock lock.kind ≡ true
      → Fits lock_step.Announce (machine_turn meaning ids lock m p guard lock_step.Announce)
      (turn_on lock (lock_holds hss p l) lock_step.Announce)
  announce_acts rwlock =
      fits_from lock_step.Announce _ (after_reply meaning ids lock p lock_step.Announce (response_of done_reply (barred_by (is_some (bar_from 0 l hss))))) _ _
      (ap (λ (effect : CallEffect (Unit {0}) T). after_reply meaning ids lock p lock_step.Announce (response_of done_reply effect)) (announce_is rwlock))
      refl
      (announce_by (is_some (bar_from 0 l hss)) refl)

  withdraw_acts : is_rwlock lock.kind ≡ true → (hold_of hss p l).announced ≡ true
      → Fits lock_step.Withdraw (machine_turn meaning ids lock m p guard lock_step.Withdraw)
      (turn_on lock (lock_holds hss p l) lock_step.Withdraw)
  withdraw_acts rwlock own =
      let after = with_register m (with_bar m.register None) in
      fits_from lock_step.Withdraw _ (record { turn = Goes; machine = after }) Goes Goes
      (ap (λ (b : Bool). after_reply meaning ids lock p lock_step.Withdraw (response_of done_reply
      (unless (if not b then Some fault.WrongKind else (if not (has_announced m.bar x) then Some fault.NotAnnounced else None)) m (give tt after))))
      (ap is_rwlock seen.kind ∙ rwlock)
      ∙ ap (λ (b : Bool). after_reply meaning ids lock p lock_step.Withdraw (response_of done_reply
      (unless (if not b then Some fault.NotAnnounced else None) m (give tt after)))) (seen.announced ∙ own))
      refl
      (record { same = refl; moved = withdrawn ids lock m hss p l seen (seen.announced ∙ own) })

  -- acquisitions

  module _ (mode : Mode) (bars : IsTrue lock.bar → IsTrue (is_rwlock lock.kind)) where
    abbrev a : LockStep
    a = lock_step.Modes (Acquire mode)

    abbrev own : Hold
    own = hold_of hss p l

    abbrev no_bar : Bool
    no_bar = not (is_some (bar_from 0 l hss))

    waits_barred : (d : Bool) → is_some (bar_from 0 l hss) ≡ d
        → Fits (lock_step.Modes (Acquire mode)) (waiting_by (barred_by d) true) (if not own.announced && not d then Announces else Waits)
    waits_barred true is =
        fits_from a _ (record { turn = Waits; machine = m }) _ Waits refl
        (ap (λ (b : Bool). if b then Announces else Waits) (and_right (not own.announced) false refl))
        (record { same = refl; moved = tt })
    waits_barred false is =
        let none = bar_some ∙ is in
        fits_from a _ (record { turn = Announces; machine = with_register m (with_bar m.register (Some x)) }) _ Announces refl
        (ap (λ (b : Bool). if not b && true then Announces else Waits) (sym seen.announced ∙ sym (none_announced m.bar x none)))
        (record { same = refl; moved = announced ids lock m hss p l seen none })

    waits_by : (c : Bool) → (lock.bar && is_exclusive mode) ≡ c
        → Fits (lock_step.Modes (Acquire mode)) (waiting_by (announce m x) c) (if (c && not own.announced) && no_bar then Announces else Waits)
    waits_by true is =
        let rwlock = bars (and_parts lock.bar (is_exclusive mode) is).0 in
        fits_from a _ (waiting_by (barred_by (is_some (bar_from 0 l hss))) true) _ _
        (ap (λ (effect : CallEffect (Unit {0}) T). waiting_by effect true) (announce_is rwlock))
        refl
        (waits_barred (is_some (bar_from 0 l hss)) refl)
    waits_by false is = record { same = refl; moved = tt }

    abbrev let_in_by : Bool → CallEffect (Option ℕ) T
    let_in_by b =
        if b
        then give (Some (m.last + 1)) (with_register m (after_admission (with_guard m.register x mode) mode))
        else give None m

    abbrev asked : CallEffect (Option ℕ) T → MachineTurn T
    asked effect = after_reply meaning ids lock p (lock_step.Modes (Acquire mode)) (response_in_form Block Reply.Guard effect)

    acquire_by : (b : Bool) → admits_party m.register x mode ≡ b
        → Fits (lock_step.Modes (Acquire mode)) (asked (let_in_by b))
        (if b then Goes else (if announces_itself lock own a && no_bar then Announces else Waits))
    acquire_by true is = record {
      same = refl;
      moved = acquired ids lock m hss p l seen mode
          (and_parts (bar_lets_pass m.bar x mode) (admits_ignoring_bar m.register x mode) is).0;
    }
    acquire_by false is =
        fits_from a _ (waiting_by (announce m x) (lock.bar && is_exclusive mode)) _
        (if ((lock.bar && is_exclusive mode) && not own.announced) && no_bar then Announces else Waits) refl
        (ap (λ (b : Bool). if b && no_bar then Announces else Waits) (and_group lock.bar (is_exclusive mode) (not own.announced)))
        (waits_by (lock.bar && is_exclusive mode) refl)

    abbrev asked_in : Mode → CallEffect (Option ℕ) T
    asked_in got =
        if admits_party m.register x got
        then give (Some (m.last + 1)) (with_register m (after_admission (with_guard m.register x got) got))
        else give None m

    acquire_acts : HasRoom m → (is_exclusive mode || is_rwlock lock.kind) ≡ true
        → (is_exclusive mode && (is_reentrant lock.kind && not (nat_lt (tokens own.bag) lock.limit))) ≡ false
        → Fits (lock_step.Modes (Acquire mode)) (machine_turn meaning ids lock m p guard (lock_step.Modes (Acquire mode)))
        (turn_on lock (lock_holds hss p l) (lock_step.Modes (Acquire mode)))
    acquire_acts more of_kind not_over =
        let want = want_for lock.kind mode in
        let same = same_admission ids distinct lock m hss p l seen mode of_kind not_over in
        fits_from a _ (asked (let_in_by (admits_step lock (lock_holds hss p l) (Acquire mode)))) _ _
        (ap (λ (o : Option Fault). asked (unless o m (asked_in (mode_of want))))
        (none_refused ids distinct lock m hss p l seen mode of_kind not_over more)
        ∙ ap (λ (got : Mode). asked (asked_in got)) (mode_wanted lock.kind mode)
        ∙ ap (λ (b : Bool). asked (let_in_by b)) same)
        refl
        (acquire_by (admits_step lock (lock_holds hss p l) (Acquire mode)) same)

  -- the turn on the machine is the turn in the world
  pub acts : (a : LockStep) → ((mode : Mode) → a ≡ lock_step.Modes (Acquire mode) → HasRoom m) → IsRight lock (hold_of hss p l) a → (IsTrue lock.bar → IsTrue (is_rwlock lock.kind))
      → Names m.entries x guard a
      → Acts (machine_turn meaning ids lock m p guard a) m (id_of (ids p)) (hold_of hss p l) (bag_on l hss) a
      (turn_on lock (lock_holds hss p l) a)
  acts (lock_step.Modes (Acquire mode)) more right bars names = acquire_acts mode bars (more mode refl) right.of_kind right.not_over
  acts (lock_step.Modes (Release mode)) more right bars names = release_acts mode names
  acts (lock_step.Modes (Change from to)) more right bars names =
      let both = and_parts (is_move from to) (is_rwlock lock.kind) right.of_kind in
      change_acts from names both.1 to both.0
  acts lock_step.Announce more right bars names = announce_acts right.of_kind
  acts lock_step.Withdraw more right bars names =
      withdraw_acts right.of_kind right.has
