-- A condition loop, seen from the value that it waits on.
use Rattle.std.specs.Prelude.{◌≡◌, Bool, false, Option, None, List, [], ◌∷◌, refl, map}
use Rattle.std.specs.Borrow.{MutBor}
use Rattle.std.specs.Fn.{Mut}
use Rattle.std.proofs.Common.{ap, sym, subst}
use Rattle.lock_mutex.specs.declared.condition_loop.LoopEnd.{LoopEnd}
use Rattle.lock_mutex.specs.declared.condition_loop.LoopEnd.TheVariants.{False, TimedOut, RanOut}
use Rattle.lock_mutex.specs.ConditionLoop.{Check, InTurn, last_of, EndsBy, ConditionLoop}
use Rattle.lock_mutex.specs.ValueLoop.{LeavesAny, ValueLoop}

module _ {F W X : Type 0} (calls : Mut F (MutBor X × Unit {0}) (Bool × (MutBor X × Unit {0}))) (current : W → X)
    (with_current : W → X → W) (wait_gives : W → Option Bool → W → Type 0)
    (current_with : (w : W) (x : X) → current (with_current w x) ≡ x) (more : (w v : W) → wait_gives w None v → ⊥) where
  abbrev ValueCheck : Type 0
  ValueCheck = Check calls (λ x. x) (λ x left. left) LeavesAny

  abbrev AnyCheck : Type 0
  AnyCheck = Check calls current with_current wait_gives

  abbrev value_check : AnyCheck → ValueCheck
  value_check check = record {
    timed_out = check.timed_out;
    condition = check.condition;
    waits = current check.waits;
    answer = check.answer;
    next_condition = check.next_condition;
    left = check.left;
    called = check.called;
  }

  in_turn : (check : AnyCheck) (rest : List AnyCheck) → InTurn calls current with_current wait_gives check rest
      → InTurn calls (λ x. x) (λ x left. left) LeavesAny (value_check check) (map value_check rest)
  in_turn check [] turn = tt
  in_turn check (next ∷ rest) turn = (
    record {
      holds = turn.0.holds;
      in_time = turn.0.in_time;
      waits = refl;
      condition = turn.0.condition;
    },
    in_turn next rest turn.1,
  )

  last_seen : (check : AnyCheck) (rest : List AnyCheck)
      → last_of calls (λ x. x) (λ x left. left) LeavesAny (value_check check) (map value_check rest)
      ≡ value_check (last_of calls current with_current wait_gives check rest)
  last_seen check [] = refl
  last_seen check (next ∷ rest) = last_seen next rest

  ends_seen : (last : AnyCheck) (end : LoopEnd) (after : W) → EndsBy calls current with_current wait_gives last end after → current after ≡ last.left
      → EndsBy calls (λ x. x) (λ x left. left) LeavesAny (value_check last) end (current after)
  ends_seen last False after ends value = (ends.0, value)
  ends_seen last TimedOut after ends value = (ends.0, ends.1, value)
  ends_seen last RanOut after ends value = absurd (more _ _ ends.2)

  -- where there is always one more wait, a condition loop is one over the values that are current
  pub value_loop : {condition : F} {w after : W} {end : LoopEnd} → ConditionLoop calls current with_current wait_gives false condition w end after
      → ValueLoop calls condition (current w) end (current after)
  value_loop {condition} {w} {after} {end} loop =
      let last : AnyCheck = last_of calls current with_current wait_gives loop.first loop.rest in
      record {
        first = value_check loop.first;
        rest = map value_check loop.rest;
        starts_timed_out = loop.starts_timed_out;
        starts_with = loop.starts_with;
        starts_on = ap current loop.starts_on;
        in_turn = in_turn loop.first loop.rest loop.in_turn;
        ends = subst (λ (check : ValueCheck). EndsBy calls (λ x. x) (λ x left. left) LeavesAny check end
            (current after)) (sym (last_seen loop.first loop.rest)) (ends_seen last end after loop.ends loop.value);
        value = subst (λ (check : ValueCheck). current after ≡ check.left) (sym (last_seen loop.first loop.rest)) loop.value;
      }
