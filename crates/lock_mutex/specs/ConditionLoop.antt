-- The condition loop: a list of checks, with a wait between one check and the next.
use Rattle.std.specs.Prelude.{◌≡◌, Bool, true, false, Option, None, Some, List, [], ◌∷◌, ⊤}
use Rattle.std.specs.Borrow.{MutBor}
use Rattle.std.specs.Fn.{Mut, CalledAtMut}
use Rattle.lock_mutex.specs.declared.condition_loop.LoopEnd.{LoopEnd}
use Rattle.lock_mutex.specs.declared.condition_loop.LoopEnd.TheVariants.{False, TimedOut, RanOut}

module _ {F W X : Type 0} (calls : Mut F (MutBor X × Unit {0}) (Bool × (MutBor X × Unit {0})))
    (current : W → X) (with_current : W → X → W) (wait_gives : W → Option Bool → W → Type 0) where
  -- a check: the condition is called on the value as it is, answers, and may change itself and the value
  pub record Check : Type 0 where
    -- whether the wait before this check timed out
    pub timed_out : Bool
    pub condition : F
    pub waits : W
    pub answer : Bool
    pub next_condition : F
    pub left : X
    pub called : CalledAtMut calls condition (current waits) answer next_condition left

  abbrev pub state_after : Check → W
  state_after check = with_current check.waits check.left

  -- a check answers true, the wait before it did not time out, and the next check is made on what the wait after it
  -- leaves
  pub record LeadsTo (check next : Check) : Type 0 where
    pub holds : check.answer ≡ true
    pub in_time : check.timed_out ≡ false
    pub waits : wait_gives (state_after check) (Some next.timed_out) next.waits
    pub condition : next.condition ≡ check.next_condition

  -- each check leads to the next
  abbrev pub InTurn : Check → List Check → Type 0
  InTurn check [] = ⊤
  InTurn check (next ∷ rest) = LeadsTo check next × InTurn next rest

  abbrev pub last_of : Check → List Check → Check
  last_of check [] = check
  last_of check (next ∷ rest) = last_of next rest

  -- the last check answers false; or true after a wait that timed out; or true, no wait before it timed out, and
  -- nothing is left to wait for
  abbrev pub EndsBy : Check → LoopEnd → W → Type 0
  EndsBy last False after = (last.answer ≡ false) × (after ≡ state_after last)
  EndsBy last TimedOut after = (last.answer ≡ true) × (last.timed_out ≡ true) × (after ≡ state_after last)
  EndsBy last RanOut after = (last.answer ≡ true) × (last.timed_out ≡ false) × wait_gives (state_after last) None after

  -- The first check is made on what is there at the start, where `timed_out` says whether a wait timed out before. The
  -- value after the loop is as the last check left it
  pub record ConditionLoop (timed_out : Bool) (condition : F) (waits : W) (end : LoopEnd) (after : W) : Type 0 where
    pub first : Check
    pub rest : List Check
    pub starts_timed_out : first.timed_out ≡ timed_out
    pub starts_with : first.condition ≡ condition
    pub starts_on : first.waits ≡ waits
    pub in_turn : InTurn first rest
    pub ends : EndsBy (last_of first rest) end after
    pub value : current after ≡ (last_of first rest).left
