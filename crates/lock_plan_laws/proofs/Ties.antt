-- Machines that are tied to a world stay so: each machine holds what the parties hold, and has room for another guard.
use Rattle.std.proofs.Common.{◌≡◌, ◌≢◌, ℕ, zero, suc, ◌+◌, ◌≤◌, ◌<◌, ◌^◌, Bool, true, false, ◌==◌, ◌⊎◌, inl, inr, if◌then◌else◌, List, [], ◌∷◌, length, map, get_or, set, sum_by, Some, None, Ok, refl, ap, sym, ◌∙◌, subst, arith, eqb-true}
use Rattle.std.proofs.lemmas.Bool.{eqb-false, cases_eq}
use Rattle.std.proofs.lemmas.List.{length-set, length-map, map-set, set-get_or, get_or-set_same, get_or-set_other}
use Rattle.std.proofs.lemmas.List.Sums.{sum_by-cons}
use Rattle.std.proofs.Math.ListN.{get_or-map}
use Rattle.lock_modes.specs.declared.bag.Bag.{Bag}
use Rattle.lock_modes.specs.declared.party.PartyId.{PartyId}
use Rattle.lock_modes.specs.declared.hold.Hold.{Hold}
use Rattle.lock_modes.specs.Party.{id_of}
use Rattle.lock_modes.specs.Modes.{empty_bag, tokens}
use Rattle.lock_modes.specs.Bar.{has_announced}
use Rattle.lock_machine.specs.Entries.{held_bag}
use Rattle.lock_machine.specs.Machine.{Machine}
use Rattle.lock_machine.specs.Sound.{IsSound}
use Rattle.lock_machine.proofs.SoundRegisters.{empty_sound}
use Rattle.lock_modes.specs.Holds.{no_hold}
use Rattle.lock_machine.specs.SoundRuns.{KeepsLimits}
use Rattle.lock_plan.specs.declared.lock.PlanLock.{PlanLock}
use Rattle.lock_plan.specs.declared.program.ProgramPlace.{ProgramPlace}
use Rattle.lock_plan.specs.Known.{Known, known_of}
use Rattle.lock_plan.specs.Worlds.{Stand, no_stand, no_lock, joined, bag_on, at_place, first_world}
use Rattle.lock_plan.proofs.ExchangeBars.{nothing_held}
use Rattle.lock_plan.proofs.HeldRows.{joined_tokens}
use Rattle.lock_plan_laws.specs.Scenes.{Scene, scene_with, limit_for, first_scene}
use Rattle.lock_plan_laws.specs.Bridge.{bag_held_by, FitsMachines, AreDistinct}
use Rattle.lock_plan_laws.proofs.PartyBags.{tokens-held}
use Rattle.lock_plan_laws.proofs.Columns.{hold_of, Beside, beside, IsBarOf, bar_is}
use Rattle.lock_plan_laws.proofs.Moves.{AreHeld, IsSeen, Moved}
use Rattle.lock_plan_laws.proofs.Acquisitions.{HasRoom}
use Rattle.lock_plan_laws.proofs.KnownStands.{IsKnownStand, is_held, known_first}

-- the machine of a lock holds what the parties hold of it, has so many places at least, and has issued so many numbers at most
pub record IsLockTied {T : Type 0} (ids : ℕ → PartyId) (lock : PlanLock) (m : Machine T) (hss : List (List Hold)) (l room used : ℕ) : Type 0 where
  pub kind : m.kind ≡ lock.kind
  pub limit : m.limit ≡ limit_for lock.kind lock.limit
  pub sound : IsSound m.register
  pub all : held_bag m.entries ≡ bag_on l hss
  pub own : (q : ℕ) → bag_held_by (id_of (ids q)) m.entries ≡ (hold_of hss q l).bag
  pub announced : (q : ℕ) → has_announced m.bar (id_of (ids q)) ≡ (hold_of hss q l).announced
  pub barred : IsBarOf (λ q. id_of (ids q)) 0 (length hss) m.bar
  pub held : AreHeld m.entries
  pub enough : room ≤ m.places
  pub numbers : m.last ≤ used

abbrev pub holds_in : List Stand → List (List Hold)
holds_in w = map (λ stand. stand.holds) w

-- the scene is tied to the world after so many steps, and each party stands where its program leads
pub record IsTied {T : Type 0} (ids : ℕ → PartyId) (locks : List PlanLock) (programs : List (List ProgramPlace)) (w : List Stand) (s : Scene T)
    (used : ℕ) : Type 0 where
  pub programs_same : programs ≡ map (λ stand. stand.program) w
  pub places : s.places ≡ map (λ stand. stand.place) w
  pub known : (q : ℕ) → q < length w → IsKnownStand locks (get_or w q no_stand)
  pub at : (l : ℕ) → l < length locks
      → IsLockTied ids (get_or locks l no_lock) (s.machines l) (map (λ stand. stand.holds) w) l (sum_by length programs) used

-- the guards of all parties are fewer than the places of their programs, if those of one party are

abbrev held_by : ℕ → Stand → ℕ
held_by l x = tokens (get_or x.holds l no_hold).bag

all_few : (l : ℕ) (w : List Stand) → ((q : ℕ) → q < length w → held_by l (get_or w q no_stand) ≤ length (get_or w q no_stand).program)
    → tokens (bag_on l (map (λ x. x.holds) w)) ≤ sum_by length (map (λ x. x.program) w)
all_few l [] few = omega arith
all_few l (x ∷ w) few =
    let here = few 0 (omega arith) in
    let rest = all_few l w (λ q lt. few (suc q) (omega (arith, lt))) in
    omega (
      arith,
      here,
      rest,
      joined_tokens (get_or x.holds l no_hold).bag (bag_on l (map (λ (y : Stand). y.holds) w)),
      sum_by-cons length x.program (map (λ (y : Stand). y.program) w),
    )

pub all_fewer : (l : ℕ) (w : List Stand) (p : ℕ) → p < length w
    → ((q : ℕ) → q < length w → tokens (get_or (get_or w q no_stand).holds l no_hold).bag ≤ length (get_or w q no_stand).program)
    → tokens (get_or (get_or w p no_stand).holds l no_hold).bag < length (get_or w p no_stand).program
    → tokens (bag_on l (map (λ x. x.holds) w)) < sum_by length (map (λ x. x.program) w)
all_fewer l [] p lt few fewer = absurd (omega arith)
all_fewer l (x ∷ w) zero lt few fewer =
    let rest = all_few l w (λ q lt. few (suc q) (omega (arith, lt))) in
    omega (
      arith,
      fewer,
      rest,
      joined_tokens (get_or x.holds l no_hold).bag (bag_on l (map (λ (y : Stand). y.holds) w)),
      sum_by-cons length x.program (map (λ (y : Stand). y.program) w),
    )
all_fewer l (x ∷ w) (suc p) lt few fewer =
    let here = few 0 (omega arith) in
    let rest = all_fewer l w p (omega (arith, lt)) (λ q lt. few (suc q) (omega (arith, lt))) fewer in
    omega (
      arith,
      here,
      rest,
      joined_tokens (get_or x.holds l no_hold).bag (bag_on l (map (λ (y : Stand). y.holds) w)),
      sum_by-cons length x.program (map (λ (y : Stand). y.program) w),
    )

-- holds after those of one party changed at one lock
module _ (hss : List (List Hold)) (p l : ℕ) (h : Hold) (known : p < length hss) where
  abbrev after : List (List Hold)
  after = set hss p (set (get_or hss p []) l h)

  pub hold_same : l < length (get_or hss p []) → hold_of after p l ≡ h
  hold_same within =
      ap (λ (hs : List Hold). get_or hs l no_hold) (get_or-set_same hss p (set (get_or hss p []) l h) [] known)
      ∙ get_or-set_same (get_or hss p []) l h no_hold within

  pub hold_of_other : (q k : ℕ) → q ≢ p → hold_of after q k ≡ hold_of hss q k
  hold_of_other q k other =
      ap (λ (hs : List Hold). get_or hs k no_hold) (get_or-set_other hss p q (set (get_or hss p []) l h) [] other)

  hold_at_other : (k : ℕ) → k ≢ l → hold_of after p k ≡ hold_of hss p k
  hold_at_other k other =
      ap (λ (hs : List Hold). get_or hs k no_hold) (get_or-set_same hss p (set (get_or hss p []) l h) [] known)
      ∙ get_or-set_other (get_or hss p []) l k h no_hold other

  elsewhere_by : (q k : ℕ) → k ≢ l → (q ≡ p) ⊎ (q ≡ p → ⊥) → hold_of after q k ≡ hold_of hss q k
  elsewhere_by q k other (inl same) =
      ap (λ (n : ℕ). hold_of after n k) same ∙ hold_at_other k other ∙ ap (λ (n : ℕ). hold_of hss n k) (sym same)
  elsewhere_by q k other (inr apart) = hold_of_other q k apart

  pub elsewhere : (q k : ℕ) → k ≢ l → hold_of after q k ≡ hold_of hss q k
  elsewhere q k other = elsewhere_by q k other (cases_eq q p)

  pub bag_elsewhere : (k : ℕ) → k ≢ l → bag_on k after ≡ bag_on k hss
  bag_elsewhere k other =
      let b : Beside hss p k = beside hss p k known in
      b.changed (set (get_or hss p []) l h)
      ∙ ap (λ (x : Hold). joined x.bag b.rest) (get_or-set_other (get_or hss p []) l k h no_hold other)
      ∙ sym b.whole

module _ {T : Type 0} (ids : ℕ → PartyId) (distinct : AreDistinct ids) where
  pub seen_of : (lock : PlanLock) (m : Machine T) (hss : List (List Hold)) (p l room used : ℕ) → IsLockTied ids lock m hss l room used
      → IsSeen ids lock m hss p l
  seen_of lock m hss p l room used tied = record {
    kind = tied.kind;
    limit = tied.limit;
    sound = tied.sound;
    all = tied.all;
    own = tied.own p;
    bar = bar_is (λ q. id_of (ids q)) distinct l hss m.bar tied.barred tied.announced;
    announced = tied.announced p;
  }

  module _ (hss : List (List Hold)) (p l : ℕ) (h : Hold) (known : p < length hss) where
    -- another lock
    pub tied_elsewhere : (lock : PlanLock) (m : Machine T) (k room used : ℕ) → k ≢ l
        → IsLockTied ids lock m hss k room used → IsLockTied ids lock m (set hss p (set (get_or hss p []) l h)) k room (suc used)
    tied_elsewhere lock m k room used other tied = record {
      kind = tied.kind;
      limit = tied.limit;
      sound = tied.sound;
      all = tied.all ∙ sym (bag_elsewhere hss p l h known k other);
      own = λ q. tied.own q ∙ ap (λ (x : Hold). x.bag) (sym (elsewhere hss p l h known q k other));
      announced = λ q. tied.announced q ∙ ap (λ (x : Hold). x.announced) (sym (elsewhere hss p l h known q k other));
      barred = subst (λ (n : ℕ). IsBarOf (λ q. id_of (ids q)) 0 n m.bar) (sym (length-set hss p (set (get_or hss p []) l h))) tied.barred;
      held = tied.held;
      enough = tied.enough;
      numbers = let numbers = tied.numbers in omega arith;
    }

    -- this lock
    module _ (lock : PlanLock) (m next : Machine T) (room used : ℕ) (bag : Bag) (moved : Moved m next (id_of (ids p)) h bag)
        (bag_is : bag_on l (set hss p (set (get_or hss p []) l h)) ≡ bag) (within : l < length (get_or hss p []))
        (tied : IsLockTied ids lock m hss l room used) where
      own_by : (q : ℕ) → (q ≡ p) ⊎ (q ≡ p → ⊥) → bag_held_by (id_of (ids q)) next.entries ≡ (hold_of (set hss p (set (get_or hss p []) l h)) q l).bag
      own_by q (inl same) =
          ap (λ (n : ℕ). bag_held_by (id_of (ids n)) next.entries) same ∙ moved.own
          ∙ ap (λ (x : Hold). x.bag) (sym (hold_same hss p l h known within)) ∙ ap (λ (n : ℕ). (hold_of (set hss p (set (get_or hss p []) l h)) n l).bag) (sym same)
      own_by q (inr apart) =
          moved.others (id_of (ids q)) (λ same. apart (sym (distinct p q same))) ∙ tied.own q
          ∙ ap (λ (x : Hold). x.bag) (sym (hold_of_other hss p l h known q l apart))

      announced_by : (q : ℕ) → (q ≡ p) ⊎ (q ≡ p → ⊥) → has_announced next.bar (id_of (ids q)) ≡ (hold_of (set hss p (set (get_or hss p []) l h)) q l).announced
      announced_by q (inl same) =
          ap (λ (n : ℕ). has_announced next.bar (id_of (ids n))) same ∙ moved.announced
          ∙ ap (λ (x : Hold). x.announced) (sym (hold_same hss p l h known within)) ∙ ap (λ (n : ℕ). (hold_of (set hss p (set (get_or hss p []) l h)) n l).announced) (sym same)
      announced_by q (inr apart) =
          moved.other_bars (id_of (ids q)) (λ same. apart (sym (distinct p q same))) ∙ tied.announced q
          ∙ ap (λ (x : Hold). x.announced) (sym (hold_of_other hss p l h known q l apart))

      barred_by : (next.bar ≡ m.bar) ⊎ ((next.bar ≡ None) ⊎ (next.bar ≡ Some (id_of (ids p))))
          → IsBarOf (λ q. id_of (ids q)) 0 (length hss) next.bar
      barred_by (inl same) = subst (IsBarOf (λ q. id_of (ids q)) 0 (length hss)) (sym same) tied.barred
      barred_by (inr (inl none)) = subst (IsBarOf (λ q. id_of (ids q)) 0 (length hss)) (sym none) tt
      barred_by (inr (inr own)) = subst (IsBarOf (λ q. id_of (ids q)) 0 (length hss)) (sym own) (p, omega arith, known, refl)

      pub tied_here : IsSound next.register → KeepsLimits m.register next.register
          → IsLockTied ids lock next (set hss p (set (get_or hss p []) l h)) l room (suc used)
      tied_here sound limits = record {
        kind = limits.same_kind ∙ tied.kind;
        limit = limits.same_limit ∙ tied.limit;
        sound = sound;
        all = moved.all ∙ sym bag_is;
        own = λ q. own_by q (cases_eq q p);
        announced = λ q. announced_by q (cases_eq q p);
        barred = subst (λ (n : ℕ). IsBarOf (λ q. id_of (ids q)) 0 n next.bar) (sym (length-set hss p (set (get_or hss p []) l h)))
            (barred_by moved.barred);
        held = moved.held tied.held;
        enough = let enough = tied.enough in let places = limits.same_places in omega arith;
        numbers = let numbers = tied.numbers in let last = moved.last in omega arith;
      }

  module _ (locks : List PlanLock) (programs : List (List ProgramPlace)) (w : List Stand) (s : Scene T) (used : ℕ)
      (tied : IsTied ids locks programs w s used) where
    abbrev room : ℕ
    room = sum_by length programs

    pub held_few : (l q : ℕ) → q < length w → tokens (get_or (get_or w q no_stand).holds l no_hold).bag ≤ length (get_or w q no_stand).program
    held_few l q lt = (is_held locks (get_or w q no_stand) (tied.known q lt)).few l

    -- a machine has room for another guard of a party that has fewer than its program has places
    pub has_room : (l p : ℕ) → l < length locks → p < length w → used + 1 < 2 ^ 64
        → tokens (get_or (get_or w p no_stand).holds l no_hold).bag < length (get_or w p no_stand).program → HasRoom (s.machines l)
    has_room l p within here few fewer =
        let lock : IsLockTied ids (get_or locks l no_lock) (s.machines l) (holds_in w) l (sum_by length programs) used = tied.at l within in
        let all = all_fewer l w p here (λ q lt. held_few l q lt) fewer in
        let same : sum_by length programs ≡ sum_by length (map (λ x. x.program) w) = ap (sum_by length) tied.programs_same in
        let count = sym (tokens-held (s.machines l).entries) ∙ ap tokens lock.all in
        record {
          room = omega (arith, all, same, count, lock.held, lock.enough);
          number = omega (arith, lock.numbers, few);
        }

    module _ (p place : ℕ) (known : p < length w) where
      abbrev stand : Stand
      stand = get_or w p no_stand

      holds_at : get_or (holds_in w) p [] ≡ (get_or w p no_stand).holds
      holds_at = get_or-map (λ (x : Stand). x.holds) w p no_stand

      known_by : (holds : List Hold) (q : ℕ) → q < length w → IsKnownStand locks (at_place (get_or w p no_stand) place holds) → (q ≡ p) ⊎ (q ≡ p → ⊥)
          → IsKnownStand locks (get_or (set w p (at_place (get_or w p no_stand) place holds)) q no_stand)
      known_by holds q lt stands (inl same) =
          subst (IsKnownStand locks)
          (sym (ap (λ (n : ℕ). get_or (set w p (at_place stand place holds)) n no_stand) same
          ∙ get_or-set_same w p (at_place stand place holds) no_stand known)) stands
      known_by holds q lt stands (inr apart) =
          subst (IsKnownStand locks) (sym (get_or-set_other w p q (at_place stand place holds) no_stand apart)) (tied.known q lt)

      -- the programs are the same, and the place is another
      programs_after : (holds : List Hold) → programs ≡ map (λ x. x.program) (set w p (at_place (get_or w p no_stand) place holds))
      programs_after holds =
          tied.programs_same
          ∙ sym (map-set (λ (x : Stand). x.program) w p (at_place stand place holds)
          ∙ ap (set (map (λ (x : Stand). x.program) w) p) (sym (get_or-map (λ (x : Stand). x.program) w p no_stand))
          ∙ set-get_or (map (λ (x : Stand). x.program) w) p [])

      places_after : (holds : List Hold) → set s.places p place ≡ map (λ x. x.place) (set w p (at_place (get_or w p no_stand) place holds))
      places_after holds =
          ap (λ (ns : List ℕ). set ns p place) tied.places ∙ sym (map-set (λ (x : Stand). x.place) w p (at_place stand place holds))

      -- a scene after a step of one party on one lock
      module _ (l : ℕ) (within : l < length locks) (h : Hold) (next : Machine T) (bag : Bag) where
        abbrev stand_after : Stand
        stand_after = at_place (get_or w p no_stand) place (set (get_or w p no_stand).holds l h)

        abbrev scene_after : Scene T
        scene_after = scene_with s l next p place

        holds_known : p < length (holds_in w)
        holds_known = omega (arith, known, length-map w (λ (x : Stand). x.holds))

        -- what the parties hold after it
        holds_after : holds_in (set w p stand_after) ≡ set (holds_in w) p (set (get_or (holds_in w) p []) l h)
        holds_after =
            map-set (λ (x : Stand). x.holds) w p stand_after
            ∙ ap (λ (hs : List Hold). set (holds_in w) p (set hs l h)) (sym holds_at)

        pub tied_after : Moved (s.machines l) next (id_of (ids p)) h bag
            → bag_on l (set (map (λ x. x.holds) w) p (set (get_or (map (λ x. x.holds) w) p []) l h)) ≡ bag
            → IsSound next.register → KeepsLimits (s.machines l).register next.register
            → IsKnownStand locks (at_place (get_or w p no_stand) place (set (get_or w p no_stand).holds l h))
            → IsTied ids locks programs (set w p (at_place (get_or w p no_stand) place (set (get_or w p no_stand).holds l h)))
            (scene_with s l next p place) (suc used)
        tied_after moved bag_is sound limits stands = record {
          programs_same = programs_after (set stand.holds l h);
          places = places_after (set stand.holds l h);
          known = λ q lt. known_by (set stand.holds l h) q (omega (arith, lt, length-set w p stand_after)) stands (cases_eq q p);
          at = λ k lt. subst (λ (hss : List (List Hold)). IsLockTied ids (get_or locks k no_lock) (scene_after.machines k) hss k room (suc used))
              (sym holds_after) (at_by k lt (k == l) refl);
        }
          where
            at_by : (k : ℕ) → k < length locks → (b : Bool) → (k == l) ≡ b
                → IsLockTied ids (get_or locks k no_lock) (if k == l then next else s.machines k)
                (set (holds_in w) p (set (get_or (holds_in w) p []) l h)) k room (suc used)
            at_by k lt true is =
                let same : l ≡ k = sym (eqb-true k l is) in
                let long = (is_held locks stand (tied.known p known)).long in
                let inside : l < length (get_or (holds_in w) p []) = omega (arith, within, ap length holds_at, long) in
                subst (λ (b : Bool). IsLockTied ids (get_or locks k no_lock) (if b then next else s.machines k)
                (set (holds_in w) p (set (get_or (holds_in w) p []) l h)) k room (suc used)) (sym is)
                (subst (λ (j : ℕ). IsLockTied ids (get_or locks j no_lock) next
                (set (holds_in w) p (set (get_or (holds_in w) p []) l h)) j room (suc used)) same
                (tied_here (holds_in w) p l h holds_known (get_or locks l no_lock) (s.machines l) next room used bag moved bag_is inside
                (tied.at l within) sound limits))
            at_by k lt false is =
                subst (λ (b : Bool). IsLockTied ids (get_or locks k no_lock) (if b then next else s.machines k)
                (set (holds_in w) p (set (get_or (holds_in w) p []) l h)) k room (suc used)) (sym is)
                (tied_elsewhere (holds_in w) p l h holds_known (get_or locks k no_lock) (s.machines k) k room used (eqb-false k l is)
                (tied.at k lt))

      -- a scene in which one party goes to another place, and no machine changes
      holds_still : holds_in (set w p (at_place (get_or w p no_stand) place (get_or w p no_stand).holds)) ≡ holds_in w
      holds_still =
          map-set (λ (x : Stand). x.holds) w p (at_place stand place stand.holds)
          ∙ ap (set (holds_in w) p) (sym holds_at) ∙ set-get_or (holds_in w) p []

      still_at : (lock : PlanLock) (m : Machine T) (k : ℕ) → IsLockTied ids lock m (holds_in w) k room used
          → IsLockTied ids lock m (holds_in w) k room (suc used)
      still_at lock m k at = record {
        kind = at.kind;
        limit = at.limit;
        sound = at.sound;
        all = at.all;
        own = at.own;
        announced = at.announced;
        barred = at.barred;
        held = at.held;
        enough = at.enough;
        numbers = let numbers = at.numbers in omega arith;
      }

      pub tied_still : (machines : ℕ → Machine T) → ((k : ℕ) → s.machines k ≡ machines k)
          → IsKnownStand locks (at_place (get_or w p no_stand) place (get_or w p no_stand).holds)
          → IsTied ids locks programs (set w p (at_place (get_or w p no_stand) place (get_or w p no_stand).holds))
          (record { machines = machines; places = set s.places p place }) (suc used)
      tied_still machines same stands = record {
        programs_same = programs_after stand.holds;
        places = places_after stand.holds;
        known = λ q lt. known_by stand.holds q (omega (arith, lt, length-set w p (at_place stand place stand.holds))) stands (cases_eq q p);
        at = λ k lt.
            subst (λ (hss : List (List Hold)). IsLockTied ids (get_or locks k no_lock) (machines k) hss k room (suc used)) (sym holds_still)
            (subst (λ (m : Machine T). IsLockTied ids (get_or locks k no_lock) m (holds_in w) k room (suc used)) (same k)
            (still_at (get_or locks k no_lock) (s.machines k) k (tied.at k lt)));
      }

-- the first scene is tied to the first world

module _ (locks : List PlanLock) where
  first_hold : (programs : List (List ProgramPlace)) (q l : ℕ) → hold_of (map (λ stand. stand.holds) (first_world locks programs)) q l ≡ no_hold
  first_hold [] q l = refl
  first_hold (program ∷ programs) zero l = nothing_held (length locks) l
  first_hold (program ∷ programs) (suc q) l = first_hold programs q l

  first_bag : (programs : List (List ProgramPlace)) (l : ℕ) → bag_on l (map (λ stand. stand.holds) (first_world locks programs)) ≡ empty_bag
  first_bag [] l = refl
  first_bag (program ∷ programs) l =
      ap (λ (x : Hold). joined x.bag (bag_on l (map (λ stand. stand.holds) (first_world locks programs)))) (nothing_held (length locks) l)
      ∙ ap (λ (b : Bag). joined empty_bag b) (first_bag programs l)

  first_programs : (programs : List (List ProgramPlace)) → programs ≡ map (λ stand. stand.program) (first_world locks programs)
  first_programs [] = refl
  first_programs (program ∷ programs) = ap (λ (rest : List (List ProgramPlace)). program ∷ rest) (first_programs programs)

  first_places : (programs : List (List ProgramPlace)) → map (λ (program : List ProgramPlace). 0) programs ≡ map (λ stand. stand.place) (first_world locks programs)
  first_places [] = refl
  first_places (program ∷ programs) = ap (λ (rest : List ℕ). 0 ∷ rest) (first_places programs)

  first_known : (programs : List (List ProgramPlace)) → ((q : ℕ) → (known : Known) × (known_of locks (get_or programs q []) ≡ Ok known)) → (q : ℕ)
      → q < length (first_world locks programs) → IsKnownStand locks (get_or (first_world locks programs) q no_stand)
  first_known [] right q lt = absurd (omega arith)
  first_known (program ∷ programs) right zero lt = known_first locks program (right zero).0 (right zero).1
  first_known (program ∷ programs) right (suc q) lt = first_known programs (λ r. right (suc r)) q (omega (arith, lt))

  pub first_tied : {T : Type 0} (ids : ℕ → PartyId) (programs : List (List ProgramPlace)) (values : ℕ → T) (room : ℕ)
      → FitsMachines locks programs room
      → IsTied ids locks programs (first_world locks programs) (first_scene locks programs values room) 0
  first_tied ids programs values room fits = record {
    programs_same = first_programs programs;
    places = first_places programs;
    known = first_known programs fits.right;
    at = λ l lt. record {
      kind = refl;
      limit = refl;
      sound = empty_sound (get_or locks l no_lock).kind room (limit_for (get_or locks l no_lock).kind (get_or locks l no_lock).limit)
          (fits.limits l lt);
      all = sym (first_bag programs l);
      own = λ q. ap (λ (x : Hold). x.bag) (sym (first_hold programs q l));
      announced = λ q. ap (λ (x : Hold). x.announced) (sym (first_hold programs q l));
      barred = tt;
      held = refl;
      enough = fits.enough;
      numbers = omega arith;
    };
  }
