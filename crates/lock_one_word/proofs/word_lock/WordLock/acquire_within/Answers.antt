use Rattle.std.proofs.Common.{true, refl, sym, subst, ◌∙◌}
use Rattle.lock_modes.specs.Holds.{no_hold}
use Rattle.lock_word.specs.declared.want.ExWant.{ExWant}
use Rattle.lock_one.specs.declared.action.Action.TheVariants.{End}
use Rattle.lock_one_word.specs.Calls.{TimesOut}
use Rattle.lock_one_word.specs.Seats.{to_acquire, IsGoing}
use Rattle.lock_one_word.proofs.Begins.{ended_holds, token_is}
use Rattle.lock_one_word.proofs.Causes.{the_no}
use Rattle.lock_one_word.proofs.Rests.{refused_end}
use Rattle.lock_one_word.proofs.word_lock.WordLock.acquire_within.Goals as goal

pub returns-then-is_ok-clause-acquired : goal.returns-then-is_ok-clause-acquired
returns-then-is_ok-clause-acquired g c =
    let mode = c.args.mode in
    let last = c.come_to_end-ended.new.seat.seat in
    let end = c.come_to_end-ended.ensures.ended no_hold (to_acquire c.of_mode.result) c.begin-seat.ensures.going in
    let ended = subst (λ b. IsGoing (end.0, End b) no_hold (to_acquire c.of_mode.result) last.me.0) (sym c.is_ok.ensures.value ∙ c.if-is_ok.true) end.1 in
    token_is c.args.self.now mode last.table_id last.me c.into_token.result c.into_token.ensures
    (c.come_to_end-ended.ensures.table.0 ∙ c.begin-seat.ensures.table.0)
    (c.come_to_end-ended.ensures.table.2 ∙ c.begin-seat.ensures.table.2)
    (ended_holds mode end.0 last.me.0 (subst (λ (w : ExWant). IsGoing (end.0, End true) no_hold (to_acquire w) last.me.0) c.of_mode.ensures ended))

pub end-requires : goal.end-requires
end-requires g c =
    let task = to_acquire c.of_mode.result in
    let last = c.come_to_end-ended.new.seat.seat in
    let end = c.come_to_end-ended.ensures.ended no_hold task c.begin-seat.ensures.going in
    refused_end end.0 no_hold task last.me.0 refl (subst (λ b. IsGoing (end.0, End b) no_hold task last.me.0) (sym c.is_ok.ensures.value ∙ c.if-is_ok.false) end.1)

pub returns-clause-refused : goal.returns-clause-refused
returns-clause-refused g c =
    let no = the_no c.come_to_end-ended.result _ (sym c.is_ok.ensures.value ∙ c.if-is_ok.false) c.come_to_end-ended.ensures.refused in (
      no.0,
      subst (λ n. TimesOut n no.0) c.begin-seat.ensures.table.2 (no.1 no_hold c.of_mode.result c.begin-seat.ensures.going).0,
    )

pub returns-clause-over : goal.returns-clause-over
returns-clause-over g c =
    let no = the_no c.come_to_end-ended.result _ (sym c.is_ok.ensures.value ∙ c.if-is_ok.false) c.come_to_end-ended.ensures.refused in
    (no.1 no_hold c.of_mode.result c.begin-seat.ensures.going).1
