-- How condition loops are put together, and what a caller learns of one.
use Rattle.std.specs.Prelude.{◌≡◌, Bool, true, false, Option, None, Some, List, [], ◌∷◌, refl}
use Rattle.std.specs.Borrow.{MutBor}
use Rattle.std.specs.Fn.{Mut}
use Rattle.std.proofs.Common.{◌∙◌, sym, subst}
use denote.Param.Members.{Called}
use Rattle.lock_mutex.specs.declared.condition_loop.LoopEnd.{LoopEnd}
use Rattle.lock_mutex.specs.declared.condition_loop.LoopEnd.TheVariants.{False, TimedOut, RanOut}
use Rattle.lock_mutex.specs.ConditionLoop.{Check, InTurn, last_of, EndsBy, ConditionLoop}

module _ {F W X : Type 0} (calls : Mut F (MutBor X × Unit {0}) (Bool × (MutBor X × Unit {0}))) (current : W → X)
    (with_current : W → X → W) (wait_gives : W → Option Bool → W → Type 0) where
  abbrev AnyCheck : Type 0
  AnyCheck = Check calls current with_current wait_gives

  abbrev Loop : Bool → F → W → LoopEnd → W → Type 0
  Loop = ConditionLoop calls current with_current wait_gives

  abbrev check_at : (timed_out : Bool) (waits : W) {f f' : F} {answer : Bool} {shown left : MutBor X}
      → shown.now ≡ current waits → Called calls f (shown, tt) (answer, (left, tt)) f' → AnyCheck
  check_at timed_out waits {f} {f'} {answer} {shown} {left} shows called = record {
    timed_out = timed_out;
    condition = f;
    waits = waits;
    answer = answer;
    next_condition = f';
    left = left.now;
    called = record { shown = shown; shows = shows; left = left; called = called; leaves = refl };
  }

  -- the loop with one check more in front
  pub one_more : {timed_out next : Bool} {f f' : F} {w w' after : W} {end : LoopEnd} {shown left : MutBor X}
      → timed_out ≡ false → shown.now ≡ current w → Called calls f (shown, tt) (true, (left, tt)) f'
      → wait_gives (with_current w left.now) (Some next) w' → Loop next f' w' end after → Loop timed_out f w end after
  one_more {timed_out} {next} {w = w} {left = left} in_time shows called waits loop = record {
    first = check_at timed_out w shows called;
    rest = loop.first ∷ loop.rest;
    starts_timed_out = refl;
    starts_with = refl;
    starts_on = refl;
    in_turn = (
      record {
        holds = refl;
        in_time = in_time;
        waits = subst (λ b. wait_gives (with_current w left.now) (Some b) loop.first.waits) (sym loop.starts_timed_out)
            (subst (λ v. wait_gives (with_current w left.now) (Some next) v) (sym loop.starts_on) waits);
        condition = loop.starts_with;
      },
      loop.in_turn,
    );
    ends = loop.ends;
    value = loop.value;
  }

  -- the loops of one check, where a value that is put in place is the current one
  module _ (current_with : (w : W) (x : X) → current (with_current w x) ≡ x) {timed_out : Bool} {f f' : F} {w : W} {shown left : MutBor X} where
    pub was_false : shown.now ≡ current w → Called calls f (shown, tt) (false, (left, tt)) f' → Loop timed_out f w False (with_current w left.now)
    was_false shows called = record {
      first = check_at timed_out w shows called;
      rest = [];
      starts_timed_out = refl;
      starts_with = refl;
      starts_on = refl;
      in_turn = tt;
      ends = (refl, refl);
      value = current_with w left.now;
    }

    pub was_timed_out : timed_out ≡ true → shown.now ≡ current w → Called calls f (shown, tt) (true, (left, tt)) f'
        → Loop timed_out f w TimedOut (with_current w left.now)
    was_timed_out has_timed_out shows called = record {
      first = check_at timed_out w shows called;
      rest = [];
      starts_timed_out = refl;
      starts_with = refl;
      starts_on = refl;
      in_turn = tt;
      ends = (refl, has_timed_out, refl);
      value = current_with w left.now;
    }

    pub ran_out : {after : W} → timed_out ≡ false → shown.now ≡ current w → Called calls f (shown, tt) (true, (left, tt)) f'
        → wait_gives (with_current w left.now) None after → current after ≡ current (with_current w left.now) → Loop timed_out f w RanOut after
    ran_out in_time shows called spent stays = record {
      first = check_at timed_out w shows called;
      rest = [];
      starts_timed_out = refl;
      starts_with = refl;
      starts_on = refl;
      in_turn = tt;
      ends = (refl, in_time, spent);
      value = stays ∙ current_with w left.now;
    }

  -- where no wait times out, the wait before the last check did not time out
  last_in_time : ((w v : W) (timed_out : Bool) → wait_gives w (Some timed_out) v → timed_out ≡ false)
      → (first : AnyCheck) (rest : List AnyCheck) → first.timed_out ≡ false
      → InTurn calls current with_current wait_gives first rest → (last_of calls current with_current wait_gives first rest).timed_out ≡ false
  last_in_time never first [] in_time turn = in_time
  last_in_time never first (next ∷ rest) in_time turn = last_in_time never next rest (never _ _ _ turn.0.waits) turn.1

  -- where in addition no wait times out, only a check that is false ends a loop
  pub only_false : ((w v : W) (timed_out : Bool) → wait_gives w (Some timed_out) v → timed_out ≡ false) → ((w v : W) → wait_gives w None v → ⊥)
      → {f : F} {w after : W} {end : LoopEnd} → Loop false f w end after → end ≡ False
  only_false never more {after = after} {end = end} loop =
      at (last_of _ _ _ _ loop.first loop.rest) end loop.ends (last_in_time never loop.first loop.rest loop.starts_timed_out loop.in_turn)
    where
      at : (last : AnyCheck) (end : LoopEnd) → EndsBy calls current with_current wait_gives last end after → last.timed_out ≡ false → end ≡ False
      at last False ends in_time = refl
      at last TimedOut ends in_time = Prim.cc (ends.1, in_time)
      at last RanOut ends in_time = absurd (more _ _ ends.2)
