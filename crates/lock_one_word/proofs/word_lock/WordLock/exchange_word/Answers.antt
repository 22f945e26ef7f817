use Rattle.std.proofs.Common.{rules, refl, subst, sym, ap, ◌∙◌}
use Rattle.lock_one.specs.declared.action.Action.{Action}
use Rattle.lock_one.specs.declared.action.Action.TheVariants.{Exchange}
use Rattle.lock_one.specs.Machine.{next_of}
use Rattle.lock_one.proofs.Actions.{steps_on}
use Rattle.lock_one_word.specs.Calls.{WordLockView}
use Rattle.lock_one_word.specs.Seats.{placed, IsGoing}
use Rattle.lock_one_word.proofs.Loaded.{exchange_small}
use Rattle.lock_one_word.proofs.Seats.{exchanges_as, same_numbers}
use Rattle.lock_one_word.proofs.word_lock.WordLock.exchange_word.Goals as goal

pub compare_exchange-stored-requires : goal.compare_exchange-stored-requires
compare_exchange-stored-requires c =
    let a = Exchange c.args.old c.args.new in
    let call = c.requires.going.0 in
    let before = c.requires.going.1 in
    let task = c.requires.going.2 in
    let going = c.requires.going.3 in
    let on = steps_on call.stage call (placed c.args.seat.now.seat.me.0.held a) a going.at refl in
    let small = exchange_small call.stage call (placed c.args.seat.now.seat.me.0.held a) c.args.old c.args.new on going.loaded going.at in (
      c.requires.table ∙ sym (ap (λ (l : WordLockView). l.id) c.self.view_is),
      search rules,
      exchanges_as _ _ _ c.args.seat.now.seat.me call before task c.args.old c.args.new c.to_stored-first.result c.to_stored-second.result on going small.0 small.1
          c.to_stored-first.ensures c.to_stored-second.ensures,
    )

pub returns-clause-goes : goal.returns-clause-goes
returns-clause-goes c other first todo step goes =
    let a = Exchange c.args.old c.args.new in
    let call = c.requires.going.0 in
    let going = c.requires.going.3 in
    let on = steps_on call.stage call (placed c.args.seat.now.seat.me.0.held a) a going.at refl in
    let small = exchange_small call.stage call (placed c.args.seat.now.seat.me.0.held a) c.args.old c.args.new on going.loaded going.at in
    subst (λ w. IsGoing (next_of w other) first todo c.compare_exchange-stored.new.seat.me.0) (sym c.from_stored.ensures)
    (c.compare_exchange-stored.ensures.2.2 other first todo step
    (subst (λ (x : Action). IsGoing (other, x) first todo c.args.seat.now.seat.me.0)
    (same_numbers c.args.old c.args.new c.to_stored-first.result c.to_stored-second.result small.0 small.1 c.to_stored-first.ensures c.to_stored-second.ensures) goes))
