use Rattle.std.proofs.Common.{ap, arith}
use Rattle.lock_slots.proofs.Rising.{rising_more}
use Rattle.lock_slots.proofs.numbered_slots.NumberedSlots.skip_to.Goals as goal

pub invariant_of-self : goal.invariant_of-self
invariant_of-self g c =
    let last = ap (λ r. r.last) c.self.view_is in
    record {
      rising = rising_more _ _ _ c.self.inside.rows.items c.self.invariant.rising (omega (arith, last, c.requires));
      counted = c.self.invariant.counted;
      within = c.self.invariant.within;
      small = c.self.invariant.small;
      reserved = c.self.invariant.reserved;
    }
