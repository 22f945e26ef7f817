use Rattle.std.proofs.Common.{true, false, refl, sym, ap, subst, ◌∙◌, if◌then◌else◌}
use Rattle.lock_modes.specs.Holds.{no_hold, hold_after}
use Rattle.lock_word.specs.declared.want.ExWant.{ExWant}
use Rattle.lock_word.specs.Word.{step_of_want, want_of_mode}
use Rattle.lock_one_word.specs.Calls.{IsTry}
use Rattle.lock_one_word.specs.Drives.{looked_at}
use Rattle.lock_one_word.specs.Seats.{to_acquire, IsGoing}
use Rattle.lock_one_word.proofs.Begins.{token_is}
use Rattle.lock_one_word.proofs.Tokens.{acquires, awaits}
use Rattle.lock_one_word.proofs.Causes.{the_try}
use Rattle.lock_one_word.proofs.word_lock.WordLock.try_acquire.Goals as goal

pub returns-then-is_ok-clause-acquired : goal.returns-then-is_ok-clause-acquired
returns-then-is_ok-clause-acquired c =
    let mode = c.args.mode in
    let begun = c.begin-seat.ensures in
    let going = subst (λ (w : ExWant). IsGoing (looked_at c.begin-seat.result.0) no_hold (to_acquire w) c.begin-seat.result.1.seat.me.0) c.of_mode.ensures begun.going in
    let held = c.attempt-ended.ensures.tried no_hold (want_of_mode mode) refl (awaits mode) going in
    token_is c.args.self.now mode c.attempt-ended.new.seat.seat.table_id c.attempt-ended.new.seat.seat.me c.into_token.result c.into_token.ensures
    (c.attempt-ended.ensures.table.0 ∙ begun.table.0)
    (c.attempt-ended.ensures.table.2 ∙ begun.table.2)
    (held ∙ (ap (λ b. if b then hold_after no_hold (step_of_want (want_of_mode mode)) else no_hold) (sym c.is_ok.ensures.value ∙ c.if-is_ok.true) ∙ acquires mode))

pub returns-then-is_ok-clause-tried : goal.returns-then-is_ok-clause-tried
returns-then-is_ok-clause-tried c =
    let wish = c.of_mode.result in
    let got = the_try c.attempt-ended.result (λ b e. IsTry c.begin-seat.result.1.seat.me.0.readers wish b e) true (sym c.is_ok.ensures.value ∙ c.if-is_ok.true)
    (c.attempt-ended.ensures.ended no_hold wish c.begin-seat.ensures.going) in (
      got.0,
      subst (λ (w : ExWant). IsTry c.args.self.now.readers w true got.0) c.of_mode.ensures
          (subst (λ n. IsTry n wish true got.0) c.begin-seat.ensures.table.2 got.1),
    )

pub end-requires : goal.end-requires
end-requires c =
    let mode = c.args.mode in
    let begun = c.begin-seat.ensures in
    let going = subst (λ (w : ExWant). IsGoing (looked_at c.begin-seat.result.0) no_hold (to_acquire w) c.begin-seat.result.1.seat.me.0) c.of_mode.ensures begun.going in
    c.attempt-ended.ensures.tried no_hold (want_of_mode mode) refl (awaits mode) going
    ∙ ap (λ b. if b then hold_after no_hold (step_of_want (want_of_mode mode)) else no_hold) (sym c.is_ok.ensures.value ∙ c.if-is_ok.false)

pub returns-clause-tried : goal.returns-clause-tried
returns-clause-tried c =
    let wish = c.of_mode.result in
    let got = the_try c.attempt-ended.result (λ b e. IsTry c.begin-seat.result.1.seat.me.0.readers wish b e) false (sym c.is_ok.ensures.value ∙ c.if-is_ok.false)
    (c.attempt-ended.ensures.ended no_hold wish c.begin-seat.ensures.going) in (
      got.0,
      subst (λ (w : ExWant). IsTry c.args.self.now.readers w false got.0) c.of_mode.ensures
          (subst (λ n. IsTry n wish false got.0) c.begin-seat.ensures.table.2 got.1),
    )
