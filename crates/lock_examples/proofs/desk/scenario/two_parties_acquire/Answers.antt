use Rattle.std.proofs.Common.{◌≡◌, ℕ, refl}
use Rattle.lock_api.specs.declared.model.Kind.{Kind}
use Rattle.lock_api.specs.declared.model.Want.{Want}
use Rattle.lock_api.specs.Machine.{Machine, start}
use Rattle.lock_api.specs.Party.{id_of}
use Rattle.lock_api.specs.Calls.{acquire}
use Rattle.lock_examples.proofs.desk.scenario.two_parties_acquire.Goals as goal

-- the new mutex, once this party has locked it
abbrev locked_by : ℕ → Machine ℕ
locked_by party = (acquire (start Kind.Mutex 0 2 1) Want.Lock party).machine

pub returns-clause-tried : goal.returns-clause-tried
returns-clause-tried g c =
    rw (c.try_lock-tried.ensures.answer, c.lock-locked.ensures.machine, c.in_ok-desk.ensures.made) refl

pub returns-clause-asked : goal.returns-clause-asked
returns-clause-asked g c =
    rw (c.lock-asked.ensures.answer, c.try_lock-tried.ensures.machine, c.lock-locked.ensures.machine, c.in_ok-desk.ensures.made) refl

pub returns-clause-locked_again : goal.returns-clause-locked_again
returns-clause-locked_again g c =
    let locked : c.lock-locked.new.self ≡ locked_by (id_of c.args.first) = rw (c.lock-locked.ensures.machine, c.in_ok-desk.ensures.made) refl in
    let tried : c.try_lock-tried.new.self ≡ locked_by (id_of c.args.first) = rw (c.try_lock-tried.ensures.machine, locked) refl in
    let asked : c.lock-asked.new.self ≡ locked_by (id_of c.args.first) = rw (c.lock-asked.ensures.machine, tried) refl in
    rw (c.lock-locked_again.ensures.answer, c.unlock.ensures.machine, asked) refl
