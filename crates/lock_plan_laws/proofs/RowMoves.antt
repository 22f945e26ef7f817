-- The rows that an act moves keep what they hold, and scene and world stay tied.
use Rattle.std.proofs.Common.{◌≡◌, ℕ, suc, ◌+◌, ◌<◌, false, List, [], ◌∷◌, length, map, zip, get_or, set, sum_by, Option, refl, ap, sym, ◌∙◌, subst, arith}
use Rattle.lock_modes.specs.declared.party.PartyId.{PartyId}
use Rattle.lock_modes.specs.declared.hold.Hold.{Hold}
use Rattle.lock_plan.specs.declared.lock.PlanLock.{PlanLock}
use Rattle.lock_plan.specs.declared.program.Act.{Act}
use Rattle.lock_plan.specs.declared.program.ProgramPlace.{ProgramPlace}
use Rattle.lock_plan.specs.Signals.{move_of}
use Rattle.lock_plan.specs.Worlds.{Stand, no_stand, no_lock, act_of, acts_of, values_of, at_place, stand_moved, rows_moved}
use Rattle.lock_plan.proofs.ExchangeBars.{moved_program, moved_holds, rows_keep}
use Rattle.lock_plan.proofs.ExchangeWalks.{rows_long}
use Rattle.lock_plan.proofs.Moves.{moved_has, row_after}
use Rattle.lock_plan_laws.specs.Scenes.{Scene, row_at, rows_of, scene_at, scene_moved}
use Rattle.lock_plan_laws.specs.Bridge.{AreDistinct}
use Rattle.lock_plan_laws.proofs.KnownStands.{IsKnownStand, known_chosen, known_signalled, known_counted}
use Rattle.lock_plan_laws.proofs.Ties.{IsLockTied, IsTied, tied_still}

-- however a row is moved, only its place changes

same_place : (x : Stand) (m : _) → (stand_moved (row_at (x.program, x.place)) m).place ≡ (stand_moved x m).place
same_place x m = grind arith

at_moved : (x : Stand) (m : _) (place : ℕ)
    → at_place (stand_moved x m) place (stand_moved x m).holds ≡ at_place x place x.holds
at_moved x m place = grind arith

-- a row that is moved stands where its program leads
known_moved : (locks : List PlanLock) (x : Stand) → IsKnownStand locks x → (way row : ℕ) (a : Option Act)
    → IsKnownStand locks (stand_moved x (move_of a way row (act_of x) (values_of x.program)))
known_moved locks x k way row a =
    moved_has (IsKnownStand locks) x k (known_signalled locks x k) (λ block e. known_chosen locks x k false block e)
    (known_counted locks x k) a way row

abbrev rows_in : List Stand → List Stand
rows_in w = map row_at (zip (map (λ x. x.program) w) (map (λ x. x.place) w))

-- the rows of the scene act as those of the world
acts_in : (w : List Stand) → acts_of (rows_in w) ≡ acts_of w
acts_in [] = refl
acts_in (x ∷ w) = ap (λ (acts : List (Option Act)). act_of x ∷ acts) (acts_in w)

module _ (a : Option Act) (way : ℕ) where
  moved_places : (row : ℕ) (w : List Stand)
      → map (λ x. x.place) (rows_moved a way row (rows_in w)) ≡ map (λ x. x.place) (rows_moved a way row w)
  moved_places row [] = refl
  moved_places row (x ∷ w) =
      ap (λ (n : ℕ). n ∷ map (λ (y : Stand). y.place) (rows_moved a way (suc row) (rows_in w))) (same_place x (move_of a way row (act_of x) (values_of x.program)))
      ∙ ap (λ (ns : List ℕ). (stand_moved x (move_of a way row (act_of x) (values_of x.program))).place ∷ ns)
      (moved_places (suc row) w)

module _ {T : Type 0} (ids : ℕ → PartyId) (distinct : AreDistinct ids) (locks : List PlanLock)
    (programs : List (List ProgramPlace)) (w : List Stand) (s : Scene T) (used : ℕ)
    (tied : IsTied ids locks programs w s used) where
  rows_same : rows_of programs s ≡ map row_at (zip (map (λ x. x.program) w) (map (λ x. x.place) w))
  rows_same =
      ap (λ (ps : List (List ProgramPlace)). map row_at (zip ps s.places)) tied.programs_same
      ∙ ap (λ (ns : List ℕ). map row_at (zip (map (λ (x : Stand). x.program) w) ns)) tied.places

  pub acts_same : acts_of (rows_of programs s) ≡ acts_of w
  acts_same = ap acts_of rows_same ∙ acts_in w

  module _ (a : Option Act) (way : ℕ) where
    -- rows that are moved keep scene and world tied
    moved_tied : IsTied ids locks programs (rows_moved a way 0 w) (scene_moved programs s a way) used
    moved_tied = record {
      programs_same = tied.programs_same ∙ sym (rows_keep (λ (x : Stand). x.program) moved_program a way 0 w);
      places =
          ap (λ (v : List Stand). map (λ (x : Stand). x.place) (rows_moved a way 0 v)) rows_same
          ∙ moved_places a way 0 w;
      known = λ q lt.
          let below : q < length w = omega (arith, lt, rows_long a way 0 w) in
          subst (IsKnownStand locks) (sym (row_after a way 0 w q below))
          (known_moved locks (get_or w q no_stand) (tied.known q below) way (0 + q) a);
      at = λ l lt.
          subst
          (λ (hss : List (List Hold)).
          IsLockTied ids (get_or locks l no_lock) (s.machines l) hss l (sum_by length programs) used)
          (sym (rows_keep (λ (x : Stand). x.holds) moved_holds a way 0 w)) (tied.at l lt);
    }

    -- and so does the party that has moved them and goes to another place
    pub signal_tied : (p place : ℕ) → p < length w
        → IsKnownStand locks (at_place (get_or w p no_stand) place (get_or w p no_stand).holds)
        → IsTied ids locks programs
        (set (rows_moved a way 0 w) p (at_place (get_or w p no_stand) place (get_or w p no_stand).holds))
        (scene_at (scene_moved programs s a way) p place) (suc used)
    signal_tied p place known stands =
        let x : Stand = get_or w p no_stand in
        let v : List Stand = rows_moved a way 0 w in
        let y : Stand = get_or v p no_stand in
        let same : at_place y place y.holds ≡ at_place x place x.holds =
        ap (λ (z : Stand). at_place z place z.holds) (row_after a way 0 w p known) ∙ at_moved x _ place in
        let after : Scene T = scene_at (scene_moved programs s a way) p place in
        subst (λ (z : Stand). IsTied ids locks programs (set v p z) after (suc used)) same
        (tied_still ids distinct locks programs v (scene_moved programs s a way) used moved_tied p place
        (omega (arith, known, rows_long a way 0 w)) s.machines (λ k. refl)
        (subst (IsKnownStand locks) (sym same) stands))
