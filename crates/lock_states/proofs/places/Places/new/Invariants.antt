use Rattle.std.proofs.Common.{◌≡◌, ◌-◌, ◌<◌, ◌≤◌, Some, vec_len, length}
use Rattle.std.specs.Prelude.{vec_capacity}
use Rattle.lock_states.specs.Places.{IsChain}
use Rattle.lock_states.proofs.PlaceChains.{AllFree}
use Rattle.lock_states.proofs.places.Places.new.Given as goal

-- the places so far are free and chained, from the last one on
abbrev pub invariant-loop-place : goal.invariant-loop-place
invariant-loop-place l =
    record {
      number : length l.free.items ≡ l.place;
      counted : vec_len l.free ≡ l.place;
      room : l.places ≤ vec_capacity l.free;
      free : AllFree l.free.items;
      chain : IsChain l.free.items l.place l.start;
      start : 0 < l.place → l.start ≡ Some (l.place - 1);
    }
