use Rattle.std.proofs.Common.{true, false, refl, sym, ap, subst, ◌∙◌, if◌then◌else◌}
use Rattle.lock_modes.specs.Holds.{hold_after}
use Rattle.lock_modes.specs.declared.mode.Mode.TheVariants.{Exclusive, Upgradable}
use Rattle.lock_word.specs.declared.want.ExWant.TheVariants.{Upgrade}
use Rattle.lock_word.specs.Word.{step_of_want}
use Rattle.lock_one_word.specs.Calls.{one_hold, IsTry}
use Rattle.lock_one_word.proofs.Begins.{token_is}
use Rattle.lock_one_word.proofs.Causes.{the_try}
use Rattle.lock_one_word.proofs.word_lock.WordLock.try_upgrade.Goals as goal

pub returns-then-upgraded-clause-upgraded : goal.returns-then-upgraded-clause-upgraded
returns-then-upgraded-clause-upgraded c =
    let begun = c.begin_upgrade-seat.ensures in
    let held = c.attempt-ended.ensures.tried (one_hold Upgradable) Upgrade refl refl begun.going in
    token_is c.args.self.now Exclusive c.attempt-ended.new.seat.seat.table_id c.attempt-ended.new.seat.seat.me c.into_token-token.result c.into_token-token.ensures
    (c.attempt-ended.ensures.table.0 ∙ begun.table.0)
    (c.attempt-ended.ensures.table.2 ∙ begun.table.2)
    (held ∙ ap (λ b. if b then hold_after (one_hold Upgradable) (step_of_want Upgrade) else one_hold Upgradable) (sym c.is_ok-upgraded.ensures.value ∙ c.if-upgraded.true))

pub returns-then-upgraded-clause-tried : goal.returns-then-upgraded-clause-tried
returns-then-upgraded-clause-tried c =
    let got = the_try c.attempt-ended.result (λ b e. IsTry c.begin_upgrade-seat.result.1.seat.me.0.readers Upgrade b e) true (sym c.is_ok-upgraded.ensures.value ∙ c.if-upgraded.true)
    (c.attempt-ended.ensures.ended (one_hold Upgradable) Upgrade c.begin_upgrade-seat.ensures.going) in
    (got.0, subst (λ n. IsTry n Upgrade true got.0) c.begin_upgrade-seat.ensures.table.2 got.1)

pub returns-else-upgraded-clause-upgraded : goal.returns-else-upgraded-clause-upgraded
returns-else-upgraded-clause-upgraded c =
    let begun = c.begin_upgrade-seat.ensures in
    let held = c.attempt-ended.ensures.tried (one_hold Upgradable) Upgrade refl refl begun.going in
    token_is c.args.self.now Upgradable c.attempt-ended.new.seat.seat.table_id c.attempt-ended.new.seat.seat.me c.into_token-token.result c.into_token-token.ensures
    (c.attempt-ended.ensures.table.0 ∙ begun.table.0)
    (c.attempt-ended.ensures.table.2 ∙ begun.table.2)
    (held ∙ ap (λ b. if b then hold_after (one_hold Upgradable) (step_of_want Upgrade) else one_hold Upgradable) (sym c.is_ok-upgraded.ensures.value ∙ c.if-upgraded.false))
    ∙ sym c.requires

pub returns-else-upgraded-clause-tried : goal.returns-else-upgraded-clause-tried
returns-else-upgraded-clause-tried c =
    let got = the_try c.attempt-ended.result (λ b e. IsTry c.begin_upgrade-seat.result.1.seat.me.0.readers Upgrade b e) false (sym c.is_ok-upgraded.ensures.value ∙ c.if-upgraded.false)
    (c.attempt-ended.ensures.ended (one_hold Upgradable) Upgrade c.begin_upgrade-seat.ensures.going) in
    (got.0, subst (λ n. IsTry n Upgrade false got.0) c.begin_upgrade-seat.ensures.table.2 got.1)
