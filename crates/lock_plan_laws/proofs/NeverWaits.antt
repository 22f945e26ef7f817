-- A party that never waits stays at a place where it has a step, and no other row comes to use its locks.
use Rattle.std.proofs.Common.{◌≡◌, ℕ, zero, suc, ◌+◌, ◌<◌, ◌⊎◌, inl, inr, ◌==◌, Bool, true, false, not, ◌&&◌, if◌then◌else◌, List, [], ◌∷◌, length, map, get_or, set, Option, Some, None, Result, Ok, Err, refl, ap, sym, ◌∙◌, subst, arith}
use Rattle.std.proofs.Math.ListN.{get_or-map}
use Rattle.std.proofs.lemmas.Bool.{and_parts, and_from, or_parts, or_cases, cases_eq, cases_lt, false≢true, eq-eqb, ne_eqb, not-true, not_from_false}
use Rattle.std.proofs.lemmas.List.{length-map, get_or-set_other, get_or_past, get_or-map as get_or-map-within}
use Rattle.lock_modes.specs.declared.hold.Hold.{Hold}
use Rattle.lock_modes.specs.declared.lock_step.LockStep.{LockStep}
use Rattle.lock_modes.specs.declared.lock_step.LockStep.TheVariants.{Modes}
use Rattle.lock_modes.specs.declared.mode_step.ModeStep.TheVariants.{Acquire}
use Rattle.lock_modes.specs.Holds.{no_hold}
use Rattle.lock_plan.specs.declared.call.PlanCall.{PlanCall}
use Rattle.lock_plan.specs.declared.lock.PlanLock.{PlanLock}
use Rattle.lock_plan.specs.declared.program.Act.{Act}
use Rattle.lock_plan.specs.declared.program.Act.TheVariants.{Call, Try, Choose, Signal}
use Rattle.lock_plan.specs.declared.program.ProgramPlace.{ProgramPlace}
use Rattle.lock_plan.specs.declared.program.Signal.TheVariants.{Idle, Start, Set, NotifyOne, NotifyAll}
use Rattle.lock_plan.specs.declared.program.Step.{Step}
use Rattle.lock_plan.specs.declared.turn.Turn.{Turn}
use Rattle.lock_plan.specs.declared.turn.Turn.TheVariants.{Goes, Announces, Waits}
use Rattle.lock_plan.specs.Holds.{lines_up, turn_on}
use Rattle.lock_plan.specs.Known.{PlaceFault, Known, known_at, known_of}
use Rattle.lock_plan.specs.NeverWaits.{calls_lock, uses, others_use, held_alone, act_never_waits, place_never_waits, places_never_wait, never_waits_by}
use Rattle.lock_plan.specs.Releases.{always_goes}
use Rattle.lock_plan.specs.Signals.{idles, lets, move_of}
use Rattle.lock_plan.specs.Worlds.{Stand, no_stand, no_lock, act_in, act_of, acts_of, call_in, next_in, other_in, values_of, holds_after, lock_holds, reply_to, reply_at, reply_of, turn_by, turn_of, at_place, gone, announced_for, after_call, is_goes, either_by, stand_by, stand_after, stand_moved, rows_moved, world_by, world_step, world_after, is_step_turn, line_of, waits_for, has_waiter, on_lock, goes_on, no_holds, first_stand, first_world}
use Rattle.lock_plan.proofs.CircleSets.{below_none, below_each}
use Rattle.lock_plan.proofs.ExchangeBars.{set_cases, moved_program, moved_holds, rows_keep, step_program, put_parts, on_parts, nothing_held, first_programs}
use Rattle.lock_plan.proofs.Landing.{goes_is}
use Rattle.lock_plan.proofs.Moves.{moved_has, row_after}
use Rattle.lock_plan.proofs.Releases.{goes}
use Rattle.lock_plan.proofs.Walked.{IsWalked, Leaves, walked_is}
use Rattle.lock_plan.proofs.Ways.{only_some}
use Rattle.lock_plan_laws.specs.NeverWaits.{NeverWaitingPartiesGoOn}
use Rattle.lock_plan_laws.proofs.AloneOnLocks.{held_is}
use Rattle.lock_plan_laws.proofs.KnownStands.{IsKnownStand, plain_leaves}

-- a row without an act on the lock leaves what it holds of it

unused : (program : List ProgramPlace) (lock place : ℕ) (a : Act) → uses lock program ≡ false → act_in program place ≡ Some a
    → calls_lock lock a ≡ false
unused [] lock place a none e = cc
unused (x ∷ program) lock zero a none e =
    let same : x.act ≡ a = cc in
    ap (calls_lock lock) (sym same) ∙ (or_parts (calls_lock lock x.act) (uses lock program) none).0
unused (x ∷ program) lock (suc place) a none e =
    unused program lock place a (or_parts (calls_lock lock x.act) (uses lock program) none).1 e

other_lock : (lock : ℕ) (here : Option Act) (call : PlanCall) → ((a : Act) → here ≡ Some a → calls_lock lock a ≡ false)
    → call_in here ≡ Some call → call.lock ≡ lock → ⊥
other_lock lock None call none e same = cc
other_lock lock (Some (Call c)) call none e same =
    let is : c ≡ call = cc in
    false≢true (sym (none (Call c) refl) ∙ eq-eqb c.lock lock (ap (λ (x : PlanCall). x.lock) is ∙ same))
other_lock lock (Some (Try c)) call none e same =
    let is : c ≡ call = cc in
    false≢true (sym (none (Try c) refl) ∙ eq-eqb c.lock lock (ap (λ (x : PlanCall). x.lock) is ∙ same))
other_lock lock (Some (Choose block)) call none e same = cc
other_lock lock (Some (Signal signal)) call none e same = cc

module _ (s : Stand) (lock : ℕ) where
  abbrev Keeps : Stand → Type 0
  Keeps t = get_or t.holds lock no_hold ≡ get_or s.holds lock no_hold

  keeps_at : (t u : Stand) → Keeps t → Some t ≡ Some u → Keeps u
  keeps_at t u h e =
      let is : t ≡ u = cc in
      subst Keeps is h

  call_keeps : (call : PlanCall) (reply : Option Turn) (t : Stand) → (lock ≡ call.lock → ⊥) → after_call s call reply ≡ Some t → Keeps t
  call_keeps call (Some Goes) t other e = keeps_at (gone s call) t (get_or-set_other s.holds call.lock lock _ no_hold other) e
  call_keeps call (Some Announces) t other e = keeps_at (announced_for s call) t (get_or-set_other s.holds call.lock lock _ no_hold other) e
  call_keeps call reply t other e = cc

  abbrev passed : Stand
  passed = at_place s (other_in s.program s.place) s.holds

  try_keeps : (call : PlanCall) (goes other : Bool) (t : Stand) → (lock ≡ call.lock → ⊥)
      → either_by goes other (gone s call) passed ≡ Some t → Keeps t
  try_keeps call true true t off e = cc
  try_keeps call true false t off e = keeps_at (gone s call) t (get_or-set_other s.holds call.lock lock _ no_hold off) e
  try_keeps call false true t off e = keeps_at passed t refl e
  try_keeps call false false t off e = cc

  keeps_by : (other : Bool) (here : Option Act) (reply : Option Turn) (t : Stand)
      → ((call : PlanCall) → call_in here ≡ Some call → call.lock ≡ lock → ⊥) → stand_by s other here reply ≡ Some t → Keeps t
  keeps_by other None reply t off e = cc
  keeps_by other (Some (Call call)) reply t off e = call_keeps call reply t (λ same. off call refl (sym same)) e
  keeps_by other (Some (Try call)) reply t off e = try_keeps call (is_goes reply) other t (λ same. off call refl (sym same)) e
  keeps_by other (Some (Choose block)) reply t off e =
      keeps_at (at_place s (if other then other_in s.program s.place else next_in s.program s.place) s.holds) t refl e
  keeps_by other (Some (Signal signal)) reply t off e = keeps_at (at_place s (next_in s.program s.place) s.holds) t refl e

-- no act at another lock waits for this one, nor does one that goes

waits_goes : (lock : ℕ) (here : Option Act) → waits_for lock here (Some Goes) ≡ false
waits_goes lock (Some (Call call)) = refl
waits_goes lock here = refl

waits_off : (lock : ℕ) (here : Option Act) (turn : Option Turn) → ((a : Act) → here ≡ Some a → calls_lock lock a ≡ false)
    → waits_for lock here turn ≡ false
waits_off lock (Some (Call call)) (Some Waits) none = none (Call call) refl
waits_off lock here turn none = refl

off_line : (f : ℕ → Bool) (lock : ℕ) (b : Bool) → f lock ≡ false → on_lock f (if b then Some lock else None) ≡ false
off_line f lock true e = e
off_line f lock false e = refl

no_line_up : (lock : PlanLock) (step : LockStep) → always_goes step ≡ true → lines_up lock step ≡ false
no_line_up lock (Modes (Acquire mode)) e = cc
no_line_up lock step e = refl

within : (w : List Stand) (row : ℕ) (a : Act) → act_of (get_or w row no_stand) ≡ Some a → row < length w
within [] row a e = cc
within (x ∷ w) zero a e = omega arith
within (x ∷ w) (suc row) a e = omega (arith, within w row a e)

module _ (locks : List PlanLock) (programs : List (List ProgramPlace)) (party : ℕ) where
  -- from each place to which the party comes, it goes on
  each_place : (program : List ProgramPlace) (start : ℕ) (known : Known) → places_never_wait locks programs party program start known ≡ true
      → (i place : ℕ) (holds : List Hold) → place ≡ start + i → known_at known i ≡ Some holds
      → act_never_waits locks programs party holds (act_in program place) ≡ true
  each_place program start [] e i place holds at is = cc
  each_place program start (held ∷ known) e zero place holds at is =
      let here : place ≡ start = omega (arith, at) in
      ap (λ (k : ℕ). act_never_waits locks programs party holds (act_in program k)) here
      ∙ ap (place_never_waits locks programs party (act_in program start)) (sym is)
      ∙ (and_parts (place_never_waits locks programs party (act_in program start) held) _ e).0
  each_place program start (held ∷ known) e (suc i) place holds at is =
      each_place program (start + 1) known
      (and_parts (place_never_waits locks programs party (act_in program start) held) _ e).1 i place holds (omega (arith, at)) is

  some_act : (holds : List Hold) (here : Option Act) → act_never_waits locks programs party holds here ≡ true → (a : Act) × (here ≡ Some a)
  some_act holds None e = cc
  some_act holds (Some a) e = (a, refl)

  -- what an act does that goes on, if a call is admitted
  turn_goes : (acts : List (Option Act)) (holds : List Hold) (here : Option Act) (reply : Option Turn)
      → act_never_waits locks programs party holds here ≡ true → ((call : PlanCall) → here ≡ Some (Call call) → reply ≡ Some Goes)
      → turn_by acts here reply ≡ Some Goes
  turn_goes acts holds None reply e goes = cc
  turn_goes acts holds (Some (Call call)) reply e goes = goes call refl
  turn_goes acts holds (Some (Try call)) reply e goes = refl
  turn_goes acts holds (Some (Choose block)) reply e goes = refl
  turn_goes acts holds (Some (Signal (Start row))) reply e goes = refl
  turn_goes acts holds (Some (Signal (Set row place))) reply e goes = refl
  turn_goes acts holds (Some (Signal (NotifyOne cond))) reply e goes = refl
  turn_goes acts holds (Some (Signal (NotifyAll cond))) reply e goes = refl
  turn_goes acts holds (Some (Signal signal)) reply e goes = cc

  -- a lock that no other row uses
  free_row : (lock row : ℕ) → others_use programs party lock ≡ false → (row ≡ party → ⊥) → uses lock (get_or programs row []) ≡ false
  free_row lock row none other = elim (cases_lt row (length programs)) [
    | inl lt ↦
        ap (λ (b : Bool). not b && uses lock (get_or programs row [])) (sym (ne_eqb row party other))
        ∙ below_each (λ r. not (r == party) && uses lock (get_or programs r [])) (length programs) row none lt
    | inr le ↦ ap (uses lock) (get_or_past programs row [] le)
  ]

  module _ (known : Known) (right : known_of locks (get_or programs party []) ≡ Ok known)
      (steady : places_never_wait locks programs party (get_or programs party []) 0 known ≡ true) where
    abbrev program : List ProgramPlace
    program = get_or programs party []

    walked : IsWalked locks program (length program) known
    walked = walked_is locks program (length program) known right

    -- the party is at a place to which it comes, and holds what it has there
    record IsThere (s : Stand) : Type 0 where
      runs : s.program ≡ program
      is : known_at known s.place ≡ Some s.holds

    acts : (s : Stand) → IsThere s → act_never_waits locks programs party s.holds (act_of s) ≡ true
    acts s there =
        ap (λ (ps : List ProgramPlace). act_never_waits locks programs party s.holds (act_in ps s.place)) there.runs
        ∙ each_place program 0 known steady s.place s.place s.holds (omega arith) there.is

    leaves : (s : Stand) → IsThere s → (a : Act) → act_of s ≡ Some a → Leaves locks s.program s.place a s.holds known
    leaves s there a e =
        let stands : IsKnownStand locks s = record {
          known = known;
          walked = subst (λ (ps : List ProgramPlace). IsWalked locks ps (length ps) known) (sym there.runs) walked;
          is = inl there.is;
        } in
        plain_leaves locks s stands a e there.is

    goes_to : (s : Stand) → IsThere s → (place : ℕ) (holds : List Hold) → known_at known place ≡ Some holds → IsThere (at_place s place holds)
    goes_to s there place holds e = record { runs = there.runs; is = e }

    first_goes : act_never_waits locks programs party (no_holds locks) (act_in program 0) ≡ true
    first_goes = each_place program 0 known steady 0 0 (no_holds locks) (omega arith) walked.start

    -- a party that goes on does not idle
    no_idle : (holds : List Hold) (here : Option Act) → act_never_waits locks programs party holds here ≡ true → idles here ≡ true → ⊥
    no_idle holds (Some (Signal (Idle value))) goes e = cc
    no_idle holds here goes e = cc

    moved_there : (s : Stand) → IsThere s → (a : Option Act) (way row : ℕ)
        → IsThere (stand_moved s (move_of a way row (act_of s) (values_of s.program)))
    moved_there s there a way row =
        moved_has IsThere s there
        (λ signal e. goes_to s there (next_in s.program s.place) s.holds ((leaves s there (Signal signal) e).signals signal refl))
        (λ block e. goes_to s there (next_in s.program s.place) s.holds ((leaves s there (Choose block) e).first block refl))
        (λ place idle e. absurd (no_idle s.holds (act_of s) (acts s there) idle)) a way row

    -- after its own act
    module _ (s t : Stand) (there : IsThere s) where
      there_at : (u : Stand) → IsThere u → Some u ≡ Some t → IsThere t
      there_at u h e =
          let is : u ≡ t = cc in
          subst IsThere is h

      made_there : (a : Act) (call : PlanCall) → act_of s ≡ Some a → call_in (Some a) ≡ Some call → IsThere (gone s call)
      made_there a call here e =
          goes_to s there (next_in s.program s.place) (holds_after s.holds call.lock call.step) ((leaves s there a here).goes call e)

      try_there : (call : PlanCall) (goes other : Bool) → act_of s ≡ Some (Try call)
          → either_by goes other (gone s call) (at_place s (other_in s.program s.place) s.holds) ≡ Some t → IsThere t
      try_there call true true here e = cc
      try_there call true false here e = there_at (gone s call) (made_there (Try call) call here refl) e
      try_there call false true here e =
          there_at (at_place s (other_in s.program s.place) s.holds) (goes_to s there (other_in s.program s.place) s.holds ((leaves s there (Try call) here).passes call refl)) e
      try_there call false false here e = cc

      own_there : (other : Bool) (here : Option Act) (reply : Option Turn) → act_of s ≡ here
          → ((call : PlanCall) → here ≡ Some (Call call) → reply ≡ Some Goes) → stand_by s other here reply ≡ Some t → IsThere t
      own_there other None reply here goes e = cc
      own_there other (Some (Call call)) reply here goes e =
          there_at (gone s call) (made_there (Call call) call here refl) (ap (after_call s call) (sym (goes call refl)) ∙ e)
      own_there other (Some (Try call)) reply here goes e = try_there call (is_goes reply) other here e
      own_there true (Some (Choose block)) reply here goes e =
          there_at (at_place s (other_in s.program s.place) s.holds)
          (goes_to s there (other_in s.program s.place) s.holds ((leaves s there (Choose block) here).second block refl)) e
      own_there false (Some (Choose block)) reply here goes e =
          there_at (at_place s (next_in s.program s.place) s.holds)
          (goes_to s there (next_in s.program s.place) s.holds ((leaves s there (Choose block) here).first block refl)) e
      own_there other (Some (Signal signal)) reply here goes e =
          there_at (at_place s (next_in s.program s.place) s.holds)
          (goes_to s there (next_in s.program s.place) s.holds ((leaves s there (Signal signal) here).signals signal refl)) e

    -- each row runs its program, and holds nothing of a lock that it does not use
    record IsSteady (w : List Stand) : Type 0 where
      there : IsThere (get_or w party no_stand)
      runs : (row : ℕ) → (get_or w row no_stand).program ≡ get_or programs row []
      free : (row lock : ℕ) → (row ≡ party → ⊥) → uses lock (get_or programs row []) ≡ false
          → get_or (get_or w row no_stand).holds lock no_hold ≡ no_hold

    module _ (w : List Stand) (all : IsSteady w) where
      abbrev own : Stand
      own = get_or w party no_stand

      abbrev hss : List (List Hold)
      hss = map (λ (x : Stand). x.holds) w

      off : (row lock : ℕ) → uses lock (get_or programs row []) ≡ false → (a : Act) → act_of (get_or w row no_stand) ≡ Some a
          → calls_lock lock a ≡ false
      off row lock none a e =
          unused (get_or programs row []) lock (get_or w row no_stand).place a none
          (ap (λ (ps : List ProgramPlace). act_in ps (get_or w row no_stand).place) (sym (all.runs row)) ∙ e)

      module _ (call : PlanCall) (here : act_of own ≡ Some (Call call)) where
        abbrev lock : PlanLock
        lock = get_or locks call.lock no_lock

        abbrev alone : Turn
        alone = turn_on lock (held_alone party (get_or own.holds call.lock no_hold)) call.step

        abbrev IsSole : Type 0
        IsSole = (others_use programs party call.lock ≡ false) × (is_goes (Some alone) ≡ true)

        -- the call is admitted whatever is held, or no other row uses its lock
        either : (always_goes call.step ≡ true) ⊎ IsSole
        either = elim (or_cases (always_goes call.step) _ (ap (act_never_waits locks programs party own.holds) (sym here) ∙ acts own all.there)) [
          | inl e ↦ inl e
          | inr e ↦
              let both = and_parts (not (others_use programs party call.lock)) (is_goes (Some alone)) e in
              inr (not-true (others_use programs party call.lock) both.0, both.1)
        ]

        admitted : reply_to locks hss party call ≡ Goes
        admitted = elim either [
          | inl e ↦ sym (goes lock (lock_holds hss party call.lock) call.step e)
          | inr sole ↦
              ap (λ h. turn_on lock h call.step)
              (held_is call.lock hss party
              (λ row other. ap (λ (hs : List Hold). get_or hs call.lock no_hold) (get_or-map (λ (x : Stand). x.holds) w row no_stand)
              ∙ all.free row call.lock other (free_row call.lock row sole.0 other)))
              ∙ ap (λ (hs : List Hold). turn_on lock (held_alone party (get_or hs call.lock no_hold)) call.step)
              (get_or-map (λ (x : Stand). x.holds) w party no_stand)
              ∙ goes_is alone sole.1
        ]

        replied : reply_of locks w party ≡ Some Goes
        replied = ap (reply_at locks hss party) here ∙ ap Some admitted

      turn_is : turn_of locks w party ≡ Some Goes
      turn_is = turn_goes (acts_of w) own.holds (act_of own) (reply_of locks w party) (acts own all.there) replied

      nobody_waits : (lock : ℕ) → others_use programs party lock ≡ false → has_waiter locks w lock ≡ false
      nobody_waits lock none =
          below_none (λ row. waits_for lock (act_of (get_or w row no_stand)) (turn_of locks w row)) (length w)
          (λ row lt. elim (cases_eq row party) [
            | inl same ↦
                ap (λ (r : ℕ). waits_for lock (act_of (get_or w r no_stand)) (turn_of locks w r)) same
                ∙ ap (waits_for lock (act_of own)) turn_is
                ∙ waits_goes lock (act_of own)
            | inr other ↦
                waits_off lock (act_of (get_or w row no_stand)) (turn_of locks w row) (off row lock (free_row lock row none other))
          ])

      no_line : (here : Option Act) → act_of own ≡ here → on_lock (has_waiter locks w) (line_of locks here) ≡ false
      no_line (Some (Call call)) here = elim (either call here) [
        | inl e ↦
            ap (λ (b : Bool). on_lock (has_waiter locks w) (if b then Some call.lock else None)) (no_line_up (get_or locks call.lock no_lock) call.step e)
        | inr sole ↦
            off_line (has_waiter locks w) call.lock (lines_up (get_or locks call.lock no_lock) call.step) (nobody_waits call.lock sole.0)
      ]
      no_line other here = refl

      going : goes_on locks w party ≡ true
      going =
          and_from (is_step_turn (turn_of locks w party)) (not (on_lock (has_waiter locks w) (line_of locks (act_of own))))
          (ap is_step_turn turn_is)
          (not_from_false (on_lock (has_waiter locks w) (line_of locks (act_of own))) (no_line (act_of own) refl))

      module _ (step : Step) (t : Stand)
          (after : stand_after (get_or w step.party no_stand) (step.way == 1) (reply_of locks w step.party) ≡ Some t) where
        abbrev mover : Stand
        mover = get_or w step.party no_stand

        abbrev rows : List Stand
        rows = rows_moved (act_of mover) step.way 0 w

        rows_hold : (row : ℕ) → (get_or rows row no_stand).holds ≡ (get_or w row no_stand).holds
        rows_hold row =
            sym (get_or-map (λ (x : Stand). x.holds) rows row no_stand)
            ∙ ap (λ (xs : List (List Hold)). get_or xs row []) (rows_keep (λ (x : Stand). x.holds) moved_holds (act_of mover) step.way 0 w)
            ∙ get_or-map (λ (x : Stand). x.holds) w row no_stand

        rows_run : (row : ℕ) → (get_or rows row no_stand).program ≡ (get_or w row no_stand).program
        rows_run row =
            sym (get_or-map (λ (x : Stand). x.program) rows row no_stand)
            ∙ ap (λ (xs : List (List ProgramPlace)). get_or xs row []) (rows_keep (λ (x : Stand). x.program) moved_program (act_of mover) step.way 0 w)
            ∙ get_or-map (λ (x : Stand). x.program) w row no_stand

        rows_there : IsThere (get_or rows party no_stand)
        rows_there =
            let act = some_act own.holds (act_of own) (acts own all.there) in
            subst IsThere (sym (row_after (act_of mover) step.way 0 w party (within w party act.0 act.1)))
            (moved_there own all.there (act_of mover) step.way (0 + party))

        mover_there : party ≡ step.party → IsThere t
        mover_there same =
            own_there own t all.there (step.way == 1) (act_of own) (reply_of locks w party) refl replied
            (subst (λ (row : ℕ). stand_after (get_or w row no_stand) (step.way == 1) (reply_of locks w row) ≡ Some t) (sym same) after)

        put_steady : IsSteady (set rows step.party t)
        put_steady = record {
          there = elim (set_cases rows step.party party t no_stand) [
            | inl same ↦ subst IsThere (sym same) rows_there
            | inr new ↦ subst IsThere (sym new.1) (mover_there new.0)
          ];
          runs = λ row. elim (set_cases rows step.party row t no_stand) [
            | inl same ↦ ap (λ (x : Stand). x.program) same ∙ rows_run row ∙ all.runs row
            | inr new ↦
                ap (λ (x : Stand). x.program) new.1
                ∙ step_program mover (step.way == 1) (act_of mover) (reply_of locks w step.party) t after
                ∙ all.runs step.party
                ∙ ap (λ (r : ℕ). get_or programs r []) (sym new.0)
          ];
          free = λ row lock other none. elim (set_cases rows step.party row t no_stand) [
            | inl same ↦
                ap (λ (x : Stand). get_or x.holds lock no_hold) same
                ∙ ap (λ (hs : List Hold). get_or hs lock no_hold) (rows_hold row)
                ∙ all.free row lock other none
            | inr new ↦
                let none_here : uses lock (get_or programs step.party []) ≡ false = ap (λ (r : ℕ). uses lock (get_or programs r [])) (sym new.0) ∙ none in
                ap (λ (x : Stand). get_or x.holds lock no_hold) new.1
                ∙ keeps_by mover lock (step.way == 1) (act_of mover) (reply_of locks w step.party) t
                (λ call e. other_lock lock (act_of mover) call (off step.party lock none_here) e) after
                ∙ all.free step.party lock (λ same. other (new.0 ∙ same)) none_here
          ];
        }

    steady_step : (w v : List Stand) (step : Step) → IsSteady w → world_step locks w step ≡ Some v → IsSteady v
    steady_step w v step all e =
        let s = get_or w step.party no_stand in
        let made = (only_some (lets (acts_of w) step.way (act_of s)) (world_by locks w step s) v e).1 in
        let parts = put_parts (rows_moved (act_of s) step.way 0 w) v step.party (stand_after s (step.way == 1) (reply_of locks w step.party)) made in
        subst IsSteady parts.2 (put_steady w all step parts.0 parts.1)

    steady_steps : (steps : List Step) (w v : List Stand) → IsSteady w → world_after locks w steps ≡ Some v → IsSteady v
    steady_steps [] w v all e =
        let same : w ≡ v = cc in
        subst IsSteady same all
    steady_steps (step ∷ steps) w v all e =
        let parts = on_parts (world_step locks w step) (λ u. world_after locks u steps) v e in
        steady_steps steps parts.0 v (steady_step w parts.0 step all parts.1) parts.2

    -- a party without a place has no act
    some_party : party < length programs
    some_party = elim (cases_lt party (length programs)) [
      | inl lt ↦ lt
      | inr le ↦
          absurd (false≢true (sym (ap (λ (ps : List ProgramPlace). act_never_waits locks programs party (no_holds locks) (act_in ps 0))
          (get_or_past programs party [] le)) ∙ first_goes))
    ]

    first_hold : (row lock : ℕ) → get_or (get_or (first_world locks programs) row no_stand).holds lock no_hold ≡ no_hold
    first_hold row lock = elim (cases_lt row (length programs)) [
      | inl lt ↦
          ap (λ (x : Stand). get_or x.holds lock no_hold) (get_or-map-within (first_stand locks) programs row [] no_stand lt)
          ∙ nothing_held (length locks) lock
      | inr le ↦
          ap (λ (x : Stand). get_or x.holds lock no_hold)
          (get_or_past (first_world locks programs) row no_stand (omega (arith, le, length-map programs (first_stand locks))))
    ]

    first_steady : IsSteady (first_world locks programs)
    first_steady = record {
      there = subst IsThere (sym (get_or-map-within (first_stand locks) programs party [] no_stand some_party))
          (record { runs = refl; is = walked.start });
      runs = λ row.
          sym (get_or-map (λ (x : Stand). x.program) (first_world locks programs) row no_stand)
          ∙ ap (λ (ps : List (List ProgramPlace)). get_or ps row []) (first_programs locks programs);
      free = λ row lock other none. first_hold row lock;
    }

    always : (w : List Stand) (steps : List Step) → world_after locks (first_world locks programs) steps ≡ Some w → goes_on locks w party ≡ true
    always w steps e = going w (steady_steps steps (first_world locks programs) w first_steady e)

pub go_on : NeverWaitingPartiesGoOn
go_on locks programs party w never reached = by_known (known_of locks (get_or programs party [])) refl never
  where
    by_known : (r : Result Known PlaceFault) → known_of locks (get_or programs party []) ≡ r
        → never_waits_by locks programs party (get_or programs party []) r ≡ true → goes_on locks w party ≡ true
    by_known (Ok known) right steady = always locks programs party known right steady w reached.0 reached.1
    by_known (Err fault) right steady = cc
