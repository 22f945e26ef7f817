use Rattle.std.proofs.Common.{rules, refl, subst, sym, ap, ◌∙◌}
use Rattle.lock_one.specs.declared.action.Action.{Action}
use Rattle.lock_one.specs.declared.action.Action.TheVariants.{Subtract}
use Rattle.lock_one.specs.Machine.{next_of}
use Rattle.lock_one.proofs.Actions.{steps_on, subtracts_own}
use Rattle.lock_one_word.specs.Calls.{WordLockView}
use Rattle.lock_one_word.specs.Seats.{placed, IsGoing}
use Rattle.lock_one_word.proofs.Seats.{subtracts_as, same_release}
use Rattle.lock_one_word.proofs.word_lock.WordLock.subtract_from_word.Goals as goal

pub fetch_sub-stored-requires : goal.fetch_sub-stored-requires
fetch_sub-stored-requires c =
    let a = Subtract c.args.down in
    let call = c.requires.going.0 in
    let going = c.requires.going.3 in
    let on = steps_on call.stage call (placed c.args.seat.now.seat.me.0.held a) a going.at refl in (
      c.requires.table ∙ sym (ap (λ (l : WordLockView). l.id) c.self.view_is),
      search rules,
      subtracts_as _ _ _ c.args.seat.now.seat.me call c.requires.going.1 c.requires.going.2 c.args.down c.stored_amount-amount.result on going
          (subtracts_own call.stage call (placed c.args.seat.now.seat.me.0.held a) c.args.down going.at) c.stored_amount-amount.ensures,
    )

pub returns-clause-goes : goal.returns-clause-goes
returns-clause-goes c other first todo step goes =
    subst (λ w. IsGoing (next_of w other) first todo c.fetch_sub-stored.new.seat.me.0) (sym c.from_stored.ensures)
    (c.fetch_sub-stored.ensures.2.2 other first todo step
    (subst (λ (x : Action). IsGoing (other, x) first todo c.args.seat.now.seat.me.0) (same_release c.args.down c.stored_amount-amount.result c.stored_amount-amount.ensures) goes))
