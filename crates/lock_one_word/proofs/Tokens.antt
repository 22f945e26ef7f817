-- One exchange acquires a token of each mode, and one take releases it.
use Rattle.std.proofs.Common.{◌≡◌, IsTrue, refl}
use Rattle.lock_modes.specs.declared.mode.Mode.{Mode}
use Rattle.lock_modes.specs.declared.mode.Mode.TheVariants.{Shared, Exclusive, Upgradable}
use Rattle.lock_modes.specs.Holds.{no_hold, hold_has, hold_after}
use Rattle.lock_word.specs.Word.{step_of_want, step_of_down, want_of_mode, down_of_mode}
use Rattle.lock_word.specs.Unblocking.{is_awaited}
use Rattle.lock_one_word.specs.Calls.{one_hold}

pub may_acquire : (mode : Mode) → IsTrue (hold_has no_hold (step_of_want (want_of_mode mode)))
may_acquire Shared = refl
may_acquire Exclusive = refl
may_acquire Upgradable = refl

pub acquires : (mode : Mode) → hold_after no_hold (step_of_want (want_of_mode mode)) ≡ one_hold mode
acquires Shared = refl
acquires Exclusive = refl
acquires Upgradable = refl

pub awaits : (mode : Mode) → IsTrue (is_awaited (want_of_mode mode))
awaits Shared = refl
awaits Exclusive = refl
awaits Upgradable = refl

pub may_release : (mode : Mode) → IsTrue (hold_has (one_hold mode) (step_of_down (down_of_mode mode)))
may_release Shared = refl
may_release Exclusive = refl
may_release Upgradable = refl

pub releases : (mode : Mode) → hold_after (one_hold mode) (step_of_down (down_of_mode mode)) ≡ no_hold
releases Shared = refl
releases Exclusive = refl
releases Upgradable = refl
