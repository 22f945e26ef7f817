use Rattle.std.proofs.Common.{sym, subst, ◌∙◌}
use Rattle.lock_modes.specs.declared.mode.Mode.TheVariants.{Exclusive, Upgradable}
use Rattle.lock_word.specs.declared.want.ExWant.TheVariants.{Upgrade}
use Rattle.lock_one.specs.declared.action.Action.TheVariants.{End}
use Rattle.lock_one_word.specs.Calls.{one_hold, TimesOut}
use Rattle.lock_one_word.specs.Seats.{to_acquire, IsGoing}
use Rattle.lock_one_word.proofs.Begins.{token_is, upgraded_holds, still_holds}
use Rattle.lock_one_word.proofs.Causes.{the_no}
use Rattle.lock_one_word.proofs.word_lock.WordLock.upgrade_within.Goals as goal

pub returns-then-upgraded-clause-upgraded : goal.returns-then-upgraded-clause-upgraded
returns-then-upgraded-clause-upgraded g c =
    let begun = c.begin_upgrade-seat.ensures in
    let last = c.come_to_end-ended.new.seat.seat in
    let end = c.come_to_end-ended.ensures.ended (one_hold Upgradable) (to_acquire Upgrade) begun.going in
    let ended = subst (λ b. IsGoing (end.0, End b) (one_hold Upgradable) (to_acquire Upgrade) last.me.0) (sym c.is_ok-upgraded.ensures.value ∙ c.if-upgraded.true) end.1 in
    token_is c.args.self.now Exclusive last.table_id last.me c.into_token-token.result c.into_token-token.ensures
    (c.come_to_end-ended.ensures.table.0 ∙ begun.table.0) (c.come_to_end-ended.ensures.table.2 ∙ begun.table.2) (upgraded_holds end.0 last.me.0 ended)

pub returns-else-upgraded-clause-upgraded : goal.returns-else-upgraded-clause-upgraded
returns-else-upgraded-clause-upgraded g c =
    let begun = c.begin_upgrade-seat.ensures in
    let last = c.come_to_end-ended.new.seat.seat in
    let end = c.come_to_end-ended.ensures.ended (one_hold Upgradable) (to_acquire Upgrade) begun.going in
    let ended = subst (λ b. IsGoing (end.0, End b) (one_hold Upgradable) (to_acquire Upgrade) last.me.0) (sym c.is_ok-upgraded.ensures.value ∙ c.if-upgraded.false) end.1 in
    token_is c.args.self.now Upgradable last.table_id last.me c.into_token-token.result c.into_token-token.ensures
    (c.come_to_end-ended.ensures.table.0 ∙ begun.table.0) (c.come_to_end-ended.ensures.table.2 ∙ begun.table.2) (still_holds end.0 last.me.0 ended) ∙ sym c.requires

pub returns-else-upgraded-clause-refused : goal.returns-else-upgraded-clause-refused
returns-else-upgraded-clause-refused g c =
    let no = the_no c.come_to_end-ended.result _ (sym c.is_ok-upgraded.ensures.value ∙ c.if-upgraded.false) c.come_to_end-ended.ensures.refused in (
      no.0,
      subst (λ n. TimesOut n no.0) c.begin_upgrade-seat.ensures.table.2 (no.1 (one_hold Upgradable) Upgrade c.begin_upgrade-seat.ensures.going).0,
    )

pub returns-else-upgraded-clause-over : goal.returns-else-upgraded-clause-over
returns-else-upgraded-clause-over g c =
    let no = the_no c.come_to_end-ended.result _ (sym c.is_ok-upgraded.ensures.value ∙ c.if-upgraded.false) c.come_to_end-ended.ensures.refused in
    (no.1 (one_hold Upgradable) Upgrade c.begin_upgrade-seat.ensures.going).1
