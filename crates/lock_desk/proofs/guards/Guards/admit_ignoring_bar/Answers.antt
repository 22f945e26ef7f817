use Rattle.std.proofs.Common.{◌+◌, arith, ap, sym, subst, ◌∙◌, refl, length-append}
use Rattle.lock_modes.specs.Party.{id_of}
use Rattle.lock_machine.specs.Register.{admits_ignoring_bar}
use Rattle.lock_machine.specs.Sound.{IsSound}
use Rattle.lock_machine.proofs.SoundRegisters.{with_guard_sound}
use Rattle.lock_desk.proofs.Entries.{view_issued, slots_shown, pushed_slot}
use Rattle.lock_desk.proofs.Slots.{differs_push}
use Rattle.lock_desk.proofs.guards.Guards.admit_ignoring_bar.Goals as goal

pub acquire-requires : goal.acquire-requires
acquire-requires g c =
    let shown = slots_shown c.self.inside.slots.items _ (ap (λ h. h.entries) c.self.view_is) in
    let places = ap (λ h. h.places) c.self.view_is in
    record { room = (c.self.inside.slots.items, c.self.invariant.backed, omega (arith, shown, places, c.requires.room, c.self.invariant.capacity)) }

pub push-requires-clause-room : goal.push-requires-clause-room
push-requires-clause-room g c =
    let shown = slots_shown c.self.inside.slots.items _ (ap (λ h. h.entries) c.self.view_is) in
    let places = ap (λ h. h.places) c.self.view_is in
    omega (arith, shown, places, c.requires.room)

pub invariant_of-self-2 : goal.invariant_of-self-2
invariant_of-self-2 g c =
    let shown = slots_shown c.self.inside.slots.items _ (ap (λ h. h.entries) c.self.view_is) in
    let places = ap (λ h. h.places) c.self.view_is in
    let fits = sym (c.in_ok-hold.ensures.admitted c.self.inside.slots.capacity c.self.inside.slots.last _ c.self.invariant.backed
    ∙ ap (λ h. admits_ignoring_bar h (id_of c.args.party) c.args.mode) c.self.view_is) in
    rw c.push.ensures.added (record {
      backed = c.in_ok-hold.ensures.taken _ _ _ (differs_push c.self.inside.slots.items _ _) refl refl refl c.self.invariant.backed;
      capacity = c.acquire.ensures.limits.capacity ∙ c.self.invariant.capacity;
      within = simp length-append (omega (arith, shown, places, c.requires.room));
      flag = c.acquire.ensures.limits.barred ∙ c.self.invariant.flag;
      sound = subst IsSound (sym (view_issued _ _ _ _ _ _ _ _ c.acquire.ensures.limits c.self.view_is
          (pushed_slot c.self.inside.slots.items
          (c.self.inside.slots.last + 1) c.args.party c.args.mode c.in_ok-hold.hold c.in_ok-hold.ensures.held)))
          (with_guard_sound c.args.self.now (subst IsSound c.self.view_is c.self.invariant.sound)
          (id_of c.args.party) c.args.mode c.requires.mode (λ full. omega (arith, c.requires.room, full)) fits);
    })

pub returns-clause-added : goal.returns-clause-added
returns-clause-added g c =
    rw c.push.ensures.added (view_issued _ _ _ _ _ _ _ _ c.acquire.ensures.limits c.self.view_is
    (pushed_slot c.self.inside.slots.items (c.self.inside.slots.last + 1) c.args.party c.args.mode c.in_ok-hold.hold c.in_ok-hold.ensures.held))

pub returns-in_err-hold-clause-admitted : goal.returns-in_err-hold-clause-admitted
returns-in_err-hold-clause-admitted g c =
    rw c.from_residual.ensures (c.in_err-hold.ensures.admitted c.self.inside.slots.capacity c.self.inside.slots.last _ c.self.invariant.backed
    ∙ ap (λ h. admits_ignoring_bar h (id_of c.args.party) c.args.mode) c.self.view_is)

pub returns-clause-admitted : goal.returns-clause-admitted
returns-clause-admitted g c =
    c.in_ok-hold.ensures.admitted c.self.inside.slots.capacity c.self.inside.slots.last _ c.self.invariant.backed
    ∙ ap (λ h. admits_ignoring_bar h (id_of c.args.party) c.args.mode) c.self.view_is
