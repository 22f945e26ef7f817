use Rattle.std.proofs.Common.{arith}
use Rattle.lock_modes.specs.Limits.{IsLimit}
use Rattle.lock_word.proofs.Reached.{reachable_new}
use Rattle.lock_states.proofs.world.World.new.Goals as goal

pub invariant_of-result : goal.invariant_of-result
invariant_of-result c =
    let range : IsLimit c.args.readers = (omega arith, omega arith) in
    rw (c.in_ok-parties.ensures.items_if_clones_equal (λ y e. e), c.idle.ensures)
    (reachable_new c.args.parties c.args.readers range)
