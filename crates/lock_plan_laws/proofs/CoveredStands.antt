-- A party at any place of its program, of which each act is covered by an order.
use Rattle.std.proofs.Common.{◌≡◌, ℕ, zero, suc, ◌⊎◌, inl, inr, true, false, List, [], ◌∷◌, get_or, set, Some, None, refl, ap, sym, ◌∙◌, subst}
use Rattle.std.proofs.lemmas.Bool.{false≢true}
use Rattle.lock_modes.specs.declared.lock_step.LockStep.TheVariants as lock_step
use Rattle.lock_modes.specs.declared.hold.Hold.{Hold}
use Rattle.lock_modes.specs.Modes.{tokens}
use Rattle.lock_modes.specs.Holds.{no_hold, hold_after}
use Rattle.lock_plan.specs.declared.call.PlanCall.{PlanCall}
use Rattle.lock_plan.specs.declared.lock.PlanLock.{PlanLock}
use Rattle.lock_plan.specs.declared.program.Act.TheVariants.{Call, Signal}
use Rattle.lock_plan.specs.declared.program.ProgramPlace.{ProgramPlace}
use Rattle.lock_plan.specs.declared.program.Signal.{Signal as PlanSignal}
use Rattle.lock_plan.specs.Holds.{is_write}
use Rattle.lock_plan.specs.CallFaults.{call_fault}
use Rattle.lock_plan.specs.Known.{Known, known_at}
use Rattle.lock_plan.specs.Worlds.{Stand, no_lock, act_in, act_of}
use Rattle.lock_plan_laws.specs.Ranks.{is_ranked_step, IsCovered}
use Rattle.lock_plan_laws.proofs.KnownStands.{IsAhead, IsKnownStand, no_fault}

-- the party is where its program leads; so much is known of the program
pub record IsStandOf (locks : List PlanLock) (known : Known) (program : List ProgramPlace) (x : Stand) : Type 0 where
  pub stands : IsKnownStand locks x
  pub known_is : stands.known ≡ known
  pub runs : x.program ≡ program

abbrev pub IsCoveredAt : Known → List ProgramPlace → Type 0
IsCoveredAt known program = (place : ℕ) (holds : List Hold) → known_at known place ≡ Some holds → IsCovered holds (act_in program place)

-- the party has announced itself for a write of this lock
pub record HasAnnounced (locks : List PlanLock) (x : Stand) (lock : ℕ) : Type 0 where
  pub call : PlanCall
  pub here : act_of x ≡ Some (Call call)
  pub on : call.lock ≡ lock
  pub writes : is_write call.step ≡ true
  pub bars : (get_or locks call.lock no_lock).bar ≡ true

-- what its program says of the next act and of the holds
pub record IsFine (locks : List PlanLock) (known : Known) (x : Stand) : Type 0 where
  pub before : List Hold
  pub is : known_at known x.place ≡ Some before
  pub bags : (lock : ℕ) → (get_or x.holds lock no_hold).bag ≡ (get_or before lock no_hold).bag
  pub ranked : (call : PlanCall) → act_of x ≡ Some (Call call) → is_ranked_step call.step ≡ true
  pub no_signal : (signal : PlanSignal) → act_of x ≡ Some (Signal signal) → ⊥
  pub ended : act_of x ≡ None → (lock : ℕ) → tokens (get_or x.holds lock no_hold).bag ≡ 0
  pub announced : (lock : ℕ) → (get_or x.holds lock no_hold).announced ≡ true → HasAnnounced locks x lock
  pub right : (call : PlanCall) → act_of x ≡ Some (Call call) → call_fault locks x.holds call ≡ None

-- an announcement changes no bag
pub bag_same : (hs : List Hold) (l k : ℕ)
    → (get_or (set hs l (hold_after (get_or hs l no_hold) lock_step.Announce)) k no_hold).bag ≡ (get_or hs k no_hold).bag
bag_same [] l k = refl
bag_same (h ∷ hs) zero zero = refl
bag_same (h ∷ hs) zero (suc k) = refl
bag_same (h ∷ hs) (suc l) zero = refl
bag_same (h ∷ hs) (suc l) (suc k) = bag_same hs l k

-- and no other announcement
announced_by : (hs : List Hold) (l k : ℕ) → (get_or hs k no_hold).announced ≡ false
    → (get_or (set hs l (hold_after (get_or hs l no_hold) lock_step.Announce)) k no_hold).announced ≡ true → l ≡ k
announced_by [] l k silent now = cc
announced_by (h ∷ hs) zero zero silent now = refl
announced_by (h ∷ hs) zero (suc k) silent now = cc
announced_by (h ∷ hs) (suc l) zero silent now = cc
announced_by (h ∷ hs) (suc l) (suc k) silent now = ap suc (announced_by hs l k silent now)

module _ (locks : List PlanLock) (x : Stand) where
  -- an act that has been announced is this call
  no_end : (known : Known) → IsAhead locks known x → act_of x ≡ None → ⊥
  no_end known ahead e = let here = ahead.here in cc

  fine_by : (k : IsKnownStand locks x) → IsCoveredAt k.known x.program
      → (known_at k.known x.place ≡ Some x.holds) ⊎ IsAhead locks k.known x → IsFine locks k.known x
  fine_by k covered (inl is) =
      let o : IsCovered x.holds (act_of x) = covered x.place x.holds is in
      record {
        before = x.holds;
        is = is;
        bags = λ lock. refl;
        ranked = o.ranked;
        no_signal = o.no_signal;
        ended = o.ended;
        announced = λ lock now. absurd (false≢true (sym (o.silent lock) ∙ now));
        right = λ call e. no_fault locks x k (Call call) call e refl;
      }
  fine_by k covered (inr ahead) =
      let o : IsCovered ahead.before (act_of x) = covered x.place ahead.before ahead.is in
      record {
        before = ahead.before;
        is = ahead.is;
        bags = λ lock. ap (λ (hs : List Hold). (get_or hs lock no_hold).bag) ahead.holds ∙ bag_same ahead.before ahead.call.lock lock;
        ranked = o.ranked;
        no_signal = o.no_signal;
        ended = λ e. absurd (no_end k.known ahead e);
        announced = λ lock now. record {
          call = ahead.call;
          here = ahead.here;
          on = announced_by ahead.before ahead.call.lock lock (o.silent lock)
              (ap (λ (hs : List Hold). (get_or hs lock no_hold).announced) (sym ahead.holds) ∙ now);
          writes = ahead.announces.writes;
          bars = ahead.bars;
        };
        right = λ call e. no_fault locks x k (Call call) call e refl;
      }

  pub fine : (known : Known) (program : List ProgramPlace) → IsStandOf locks known program x → IsCoveredAt known program → IsFine locks known x
  fine known program s covered =
      subst (λ (k : Known). IsFine locks k x) s.known_is
      (fine_by s.stands
      (subst (λ (k : Known). IsCoveredAt k x.program) (sym s.known_is)
      (subst (IsCoveredAt known) (sym s.runs) covered)) s.stands.is)
