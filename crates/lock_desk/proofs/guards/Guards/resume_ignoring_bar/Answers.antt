use Rattle.std.proofs.Common.{arith, ap, sym, subst, refl, ◌∙◌}
use Rattle.lock_slots.specs.Items as items
use Rattle.lock_machine.specs.Entries.{resumed_entry, update}
use Rattle.lock_modes.specs.Party.{id_of}
use Rattle.lock_machine.specs.Register.{admits_ignoring_bar}
use Rattle.lock_machine.specs.Sound.{IsSound}
use Rattle.lock_machine.proofs.Splices.{splice}
use Rattle.lock_machine.proofs.SoundRegisters.{resumed_sound}
use Rattle.lock_desk.specs.Slots.{entry_of}
use Rattle.lock_desk.proofs.Entries.{slot_found, has_slot, slot_is, view_after, entries_of-put, length-put, length-without, is_true}
use Rattle.lock_desk.proofs.Slots.{differs_found, differs_put, shows_parked}
use Rattle.lock_desk.proofs.Backed.{drop_parked}
use Rattle.lock_desk.proofs.guards.Guards.resume_ignoring_bar.Goals as goal

pub acquire-requires : goal.acquire-requires
acquire-requires g c =
    let ss = c.self.inside.slots.items in
    let n = c.args.found.bookmark.number in
    let entries = ap (λ h. h.entries) c.self.view_is in
    let s = slot_found n ss _ _ entries c.requires.at in
    let shows = slot_is n ss _ s.0 _ entries c.requires.at s.1 in
    let parked = shows_parked _ (ap (λ e. e.held) shows ∙ c.requires.parked) in
    let others = drop_parked _ _ _ _ (differs_found n ss s.0 s.1) parked c.self.invariant.backed in
    record { room = (items.without n ss, others, omega (arith, length-without n ss s.0 s.1, c.self.invariant.capacity, c.self.invariant.within)) }

pub item_mut-slot-requires : goal.item_mut-slot-requires
item_mut-slot-requires g c =
    has_slot c.args.found.bookmark.number c.self.inside.slots.items _ _ (ap (λ h. h.entries) c.self.view_is) c.requires.at

pub invariant_of-self-2 : goal.invariant_of-self-2
invariant_of-self-2 g c =
    let ss = c.self.inside.slots.items in
    let n = c.args.found.bookmark.number in
    let shows = slot_is n ss _ c.item_mut-slot.result.now _ (ap (λ h. h.entries) c.self.view_is) c.requires.at c.item_mut-slot.ensures.item in
    let parked = shows_parked _ (ap (λ e. e.held) shows ∙ c.requires.parked) in
    let others = drop_parked _ _ _ _ (differs_found n ss _ c.item_mut-slot.ensures.item) parked c.self.invariant.backed in
    let fits = sym (c.in-Some.ensures.admitted c.self.inside.slots.capacity c.self.inside.slots.last _ c.self.invariant.backed
    ∙ ap (λ h. admits_ignoring_bar h (id_of c.args.found.party) c.args.found.mode) c.self.view_is) in
    record {
      backed = c.in-Some.ensures.taken _ _ _ (differs_put n ss _ _ c.item_mut-slot.ensures.item) refl
          (ap (λ e. e.party) shows) (ap (λ e. e.mode) shows) others;
      capacity = c.acquire.ensures.limits.capacity ∙ c.self.invariant.capacity;
      within = rw length-put c.self.invariant.within;
      flag = c.acquire.ensures.limits.barred ∙ c.self.invariant.flag;
      sound = subst IsSound (sym (view_after _ _ _ _ _ _ _ (update n resumed_entry) c.acquire.ensures.limits c.self.view_is
          (entries_of-put n c.self.inside.slots.items c.item_mut-slot.result.now _ resumed_entry
          c.item_mut-slot.ensures.item (rw (is_true _ c.in-Some.ensures.held) refl))))
          (resumed_sound c.args.self.now (subst IsSound c.self.view_is c.self.invariant.sound) n
          (entry_of c.args.found) (splice n (entry_of c.args.found) c.args.self.now.entries c.requires.at)
          (id_of c.args.found.party)
          c.requires.parked (λ nested. refl) fits);
    }

pub returns-clause-held : goal.returns-clause-held
returns-clause-held g c =
    view_after _ _ _ _ _ _ _ (update c.args.found.bookmark.number resumed_entry) c.acquire.ensures.limits c.self.view_is
    (entries_of-put c.args.found.bookmark.number c.self.inside.slots.items c.item_mut-slot.result.now _ resumed_entry
    c.item_mut-slot.ensures.item (rw (is_true _ c.in-Some.ensures.held) refl))

pub returns-in_default-clause-admitted : goal.returns-in_default-clause-admitted
returns-in_default-clause-admitted g c =
    c.in_default.ensures.admitted c.self.inside.slots.capacity c.self.inside.slots.last _ c.self.invariant.backed
    ∙ ap (λ h. admits_ignoring_bar h (id_of c.args.found.party) c.args.found.mode) c.self.view_is

pub returns-clause-admitted : goal.returns-clause-admitted
returns-clause-admitted g c =
    c.in-Some.ensures.admitted c.self.inside.slots.capacity c.self.inside.slots.last _ c.self.invariant.backed
    ∙ ap (λ h. admits_ignoring_bar h (id_of c.args.found.party) c.args.found.mode) c.self.view_is
