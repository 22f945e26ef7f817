-- The first load of a call, and what its token holds at the end.
use Rattle.std.proofs.Common.{◌≡◌, ℕ, Bool, true, false, IsTrue, refl, sym, ap, subst, ◌∙◌}
use Rattle.atomic_table.specs.Seated.{TableId}
use Rattle.lock_modes.specs.declared.hold.Hold.{Hold}
use Rattle.lock_modes.specs.declared.mode.Mode.{Mode}
use Rattle.lock_modes.specs.declared.mode.Mode.TheVariants.{Exclusive, Upgradable}
use Rattle.lock_modes.specs.Holds.{no_hold, hold_has}
use Rattle.lock_word.specs.declared.want.ExWant.{ExWant}
use Rattle.lock_word.specs.declared.want.ExWant.TheVariants as want
use Rattle.lock_word.specs.Unblocking.{is_awaited}
use Rattle.lock_word.specs.Word.{step_of_want, want_of_mode}
use Rattle.lock_one.specs.declared.action.Action.TheVariants.{Load, End}
use Rattle.lock_one.specs.declared.call.WordCall.{WordCall}
use Rattle.lock_one.specs.Machine.{Progress, acquiring, next_of}
use Rattle.lock_one_word.specs.declared.rule.OneView.{OneView}
use Rattle.lock_one_word.specs.Calls.{WordLockView, TokenView, IsTokenOf, token_of, one_hold}
use Rattle.lock_one_word.specs.Plays.{Goes}
use Rattle.lock_one_word.specs.Seats.{Self, to_acquire, IsGoing}
use Rattle.lock_one_word.proofs.Rests.{acquiring_first, acquired_end, refused_end}
use Rattle.lock_one_word.proofs.Tokens.{acquires, awaits}

-- a call after its first load
pub first_look : (readers found : ℕ) (wish : ExWant) (blocks : Bool) (me : Self) (begun next : Progress) → readers ≡ me.0.readers → me.0.held.announced ≡ false
    → begun ≡ acquiring readers wish blocks true → IsTrue (is_awaited wish) → IsTrue (hold_has me.0.held (step_of_want wish)) → Goes Load me found me
    → next ≡ next_of found begun.0 → IsGoing next me.0.held (to_acquire wish) me.0
first_look readers found wish blocks me begun next lock clean is awaited has goes turns =
    subst (λ p. IsGoing p me.0.held (to_acquire wish) me.0) (sym (turns ∙ ap (λ (p : Progress). next_of found p.0) is))
    (goes (acquiring readers wish blocks true).0 me.0.held (to_acquire wish) refl (acquiring_first readers wish blocks true me.0 lock awaited has clean))

-- a seat that holds the mode becomes a token of the mode
pub token_is : (lock : WordLockView) (mode : Mode) (table : TableId) (me : Self) (token : TokenView) → token ≡ token_of table me → table ≡ lock.id
    → me.0.readers ≡ lock.readers → me.0.held ≡ one_hold mode → token ≡ record { lock = lock; held = one_hold mode }
token_is lock mode table me token is id readers held =
    is ∙ (λ i. record { lock = record { id = id i; readers = readers i }; held = held i })

pub ended_holds : (mode : Mode) (call : WordCall) (v : OneView) → IsGoing (call, End true) no_hold (to_acquire (want_of_mode mode)) v → v.held ≡ one_hold mode
ended_holds mode call v going = acquired_end call no_hold (want_of_mode mode) v refl (awaits mode) going ∙ acquires mode

pub upgraded_holds : (call : WordCall) (v : OneView) → IsGoing (call, End true) (one_hold Upgradable) (to_acquire want.Upgrade) v → v.held ≡ one_hold Exclusive
upgraded_holds call v going = acquired_end call (one_hold Upgradable) want.Upgrade v refl refl going

pub still_holds : (call : WordCall) (v : OneView) → IsGoing (call, End false) (one_hold Upgradable) (to_acquire want.Upgrade) v → v.held ≡ one_hold Upgradable
still_holds call v going = refused_end call (one_hold Upgradable) (to_acquire want.Upgrade) v refl going

-- an upgrade at its first action
pub first_upgrade : (lock : WordLockView) (token : TokenView) (table : TableId) (me : Self) (readers : ℕ) (blocks : Bool) (begun : Progress) → readers ≡ lock.readers
    → IsTokenOf lock Upgradable token → token ≡ token_of table me → begun ≡ acquiring readers want.Upgrade blocks true
    → IsGoing begun (one_hold Upgradable) (to_acquire want.Upgrade) me.0
first_upgrade lock token table me readers blocks begun same own seated is =
    let mine = sym seated ∙ own in
    let holds = ap (λ (t : TokenView). t.held) mine in
    let here : readers ≡ me.0.readers = same ∙ sym (ap (λ (t : TokenView). t.lock.readers) mine) in
    let has = subst (λ h. IsTrue (hold_has h (step_of_want want.Upgrade))) (sym holds) refl in
    subst (λ h. IsGoing begun h (to_acquire want.Upgrade) me.0) holds
    (subst (λ p. IsGoing p me.0.held (to_acquire want.Upgrade) me.0) (sym is)
    (acquiring_first readers want.Upgrade blocks true me.0 here refl has (ap (λ (h : Hold). h.announced) holds)))
