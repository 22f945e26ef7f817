use Rattle.std.proofs.Common.{◌≡◌, ◌+◌, ◌-◌, Some, arith, ap, sym, length-append}
use Rattle.lock_states.proofs.PlaceChains.{free_push, none_taken, chain_push}
use Rattle.lock_states.proofs.places.Places.new.Goals as goal

pub loop-place-preserved : goal.loop-place-preserved
loop-place-preserved c =
    let same : c.loop-place.place + 1 - 1 ≡ c.loop-place.place = omega arith in
    record {
      number = rw c.push_reserved.ensures.items (simp length-append (omega (arith, c.loop-place.invariant.number)));
      counted = omega (arith, c.push_reserved.ensures.len, c.loop-place.invariant.counted);
      room = omega (arith, c.push_reserved.ensures.capacity, c.loop-place.invariant.room);
      free = rw c.push_reserved.ensures.items (free_push _ _ c.loop-place.invariant.free);
      chain = rw c.push_reserved.ensures.items (chain_push _ _ _ c.loop-place.invariant.number c.loop-place.invariant.chain);
      start = λ h. ap Some (sym same);
    }

pub returns-clause-free : goal.returns-clause-free
returns-clause-free c = none_taken _ c.loop-place.invariant.free
