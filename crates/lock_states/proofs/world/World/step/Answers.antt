-- Each return is one of the three cases of a step, and the fields that are left are those of the world after it.
use Rattle.std.proofs.Common.{◌≡◌, ℕ, ◌-◌, ◌^◌, ◌<◌, ◌∙◌, slice_get, slice_set, Some, None, length, sym, ap, subst, arith}
use Rattle.std.proofs.lemmas.Option.{slice_get-get_or}
use Rattle.lock_modes.specs.declared.fault.Fault.TheVariants.{UnknownParty}
use Rattle.lock_word.specs.declared.step.Outcome.TheVariants.{Refused}
use Rattle.lock_word.specs.Holders.{holder_at}
use Rattle.lock_word.specs.Worlds.{WorldState, Stepped, after_step, IsReachable}
use Rattle.lock_word.specs.Claims.{Leaves, IsRefusedByLoad}
use Rattle.lock_word.proofs.Reached.{can_step, stepped_spent, stepped_unknown, stepped_is, leaves_step, reachable_step, step_effect}
use Rattle.lock_word.proofs.LastLoads.{is_refused_by_load}
use Rattle.lock_states.specs.declared.world.World.TheInside.{Inside}
use Rattle.lock_states.proofs.world.World.step.Goals as goal

-- the fields as contracts see them
abbrev world_of : Inside → WorldState
world_of i = record { word = i.word; readers = i.readers; steps = i.steps; parties = i.parties.items }

-- fewer steps were made than can be counted
more : (n : ℕ) → n < 2 ^ 64 → (n ≡ 2 ^ 64 - 1 → ⊥) → n < 2 ^ 64 - 1
more n fits h = omega arith

pub returns-then-self-clause-outcome : goal.returns-then-self-clause-outcome
returns-then-self-clause-outcome c =
    let e = stepped_spent (world_of c.self.inside) c.args.step c.if-self.true in
    rw (← c.self.view_is) (sym (ap (λ (r : Stepped). r.outcome) e))

pub returns-then-self-clause-after : goal.returns-then-self-clause-after
returns-then-self-clause-after c =
    let e = stepped_spent (world_of c.self.inside) c.args.step c.if-self.true in
    rw (← c.self.view_is) (sym (ap (λ (r : Stepped). r.world) e))

none_there : (c : goal.In_default)
    → after_step (world_of c.self.inside) c.args.step ≡ record { world = world_of c.self.inside; outcome = Refused UnknownParty }
none_there c =
    stepped_unknown (world_of c.self.inside) c.args.step
    (more c.self.inside.steps c.self.invariant.steps_fit c.if-self.false)
    (let e : holder_at c.as_slice.result.now c.party.result ≡ None = c.in_default.ensures.unknown in
    rw (c.as_slice.ensures.value, c.party.ensures) at e)

pub returns-in_default-clause-outcome : goal.returns-in_default-clause-outcome
returns-in_default-clause-outcome c = rw (← c.self.view_is) (sym (ap (λ (r : Stepped). r.outcome) (none_there c)))

pub returns-in_default-clause-after : goal.returns-in_default-clause-after
returns-in_default-clause-after c = rw (← c.self.view_is) (sym (ap (λ (r : Stepped). r.world) (none_there c)))

there : (c : goal.After-make-arg-1) → slice_get c.self.inside.parties.items c.in-Some.place ≡ Some c.index_mut.result.now
there c =
    let within : c.in-Some.place < length c.self.inside.parties.items = rw c.as_slice.ensures.value at c.in-Some.ensures.known.1 in
    slice_get-get_or c.self.inside.parties.items c.in-Some.place c.index_mut.result.now within
    ∙ ap Some (sym c.index_mut.ensures.value)

pub make-outcome-requires : goal.make-outcome-requires
make-outcome-requires c =
    can_step (world_of c.self.inside) c.in-Some.place c.index_mut.result.now c.self.invariant (there c)
    (more c.self.inside.steps c.self.invariant.steps_fit c.if-self.false)

-- the step, as it was computed
next : (c : goal.After-self-2-1)
    → after_step (world_of c.self.inside) c.args.step ≡ record {
      world =
          record {
            word = c.make-outcome.new.word;
            readers = c.self.inside.readers;
            steps = c.steps_after-self-inside.result;
            parties = slice_set c.self.inside.parties.items c.in-Some.place c.make-outcome.new.self;
          };
      outcome = c.make-outcome.result;
    }
next c =
    let within : c.in-Some.place < length c.self.inside.parties.items = rw c.as_slice.ensures.value at c.in-Some.ensures.known.1 in
    let at : slice_get c.self.inside.parties.items c.in-Some.place ≡ Some c.index_mut.result.now
    = slice_get-get_or c.self.inside.parties.items c.in-Some.place c.index_mut.result.now within
    ∙ ap Some (sym c.index_mut.ensures.value) in
    stepped_is (world_of c.self.inside) c.args.step c.in-Some.place c.index_mut.result.now
    (record { word = c.make-outcome.new.word; party = c.make-outcome.new.self; outcome = c.make-outcome.result })
    c.steps_after-self-inside.result
    (more c.self.inside.steps c.self.invariant.steps_fit c.if-self.false)
    (sym c.party.ensures ∙ c.in-Some.ensures.known.0) at
    c.make-outcome.ensures.word c.make-outcome.ensures.party c.make-outcome.ensures.outcome
    c.steps_after-self-inside.ensures

pub invariant_of-self : goal.invariant_of-self
invariant_of-self c =
    let w = world_of c.self.inside in
    subst IsReachable (ap (λ (r : Stepped). r.world) (next c))
    (reachable_step w c.args.step (after_step w c.args.step) c.self.invariant (step_effect w c.args.step))

pub returns-clause-outcome : goal.returns-clause-outcome
returns-clause-outcome c = rw (← c.self.view_is) (sym (ap (λ (r : Stepped). r.outcome) (next c)))

pub returns-clause-after : goal.returns-clause-after
returns-clause-after c = rw (← c.self.view_is) (sym (ap (λ (r : Stepped). r.world) (next c)))

pub returns-clause-leaves : goal.returns-clause-leaves
returns-clause-leaves c =
    let w = world_of c.self.inside in
    rw (← c.self.view_is)
    (subst (λ (r : Stepped). Leaves r.outcome w r.world) (next c)
    (leaves_step w c.args.step (after_step w c.args.step) (step_effect w c.args.step)))

pub returns-clause-refuses : goal.returns-clause-refuses
returns-clause-refuses c =
    let w = world_of c.self.inside in
    rw (← c.self.view_is)
    (subst (λ (r : Stepped). IsRefusedByLoad w c.args.step r.outcome) (next c)
    (is_refused_by_load w c.args.step c.self.invariant))

pub returns-clause-reached : goal.returns-clause-reached
returns-clause-reached c =
    let w = world_of c.self.inside in
    subst IsReachable (ap (λ (r : Stepped). r.world) (next c))
    (reachable_step w c.args.step (after_step w c.args.step) c.self.invariant (step_effect w c.args.step))
