use Rattle.std.proofs.Common.{arith, ap}
use Rattle.lock_machine.proofs.SoundRegisters.{raised_sound}
use Rattle.std.specs.Option.{option_map}
use Rattle.lock_modes.specs.Party.{id_of}
use Rattle.lock_machine.specs.Register.{with_bar}
use Rattle.lock_desk.specs.Backing.{register_of}
use Rattle.lock_desk.proofs.guards.Guards.skip_to.Goals as goal

pub invariant_of-self : goal.invariant_of-self
invariant_of-self g c =
    let last = ap (λ h. h.last) c.self.view_is in
    rw c.skip_to.ensures (record {
      backed = c.self.invariant.backed;
      capacity = c.self.invariant.capacity;
      within = c.self.invariant.within;
      flag = c.self.invariant.flag;
      sound = raised_sound (with_bar (register_of c.self.inside.backing c.self.inside.slots.capacity c.self.inside.slots.last c.self.inside.slots.items)
          (option_map id_of c.self.inside.bar)) c.args.last (omega (arith, last, c.requires)) c.self.invariant.sound;
    })
