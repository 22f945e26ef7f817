-- Raw calls as text.
use Rattle.std.specs.Prelude.{ℕ, List, ◌++◌, codes}
use Rattle.lock_recorder.specs.declared.raw_call.RawCall.{RawCall}
use Rattle.lock_recorder.specs.ModeWords.{word_of}

-- the name of a raw call, as the raw traits of a reader-writer lock have it
abbrev pub call_name : RawCall → List ℕ
call_name (RawCall.Lock mode) = codes "lock_" ++ word_of mode
call_name (RawCall.TryLock mode) = codes "try_lock_" ++ word_of mode
call_name (RawCall.TryLockFor mode time) = codes "try_lock_" ++ word_of mode ++ codes "_for"
call_name (RawCall.TryLockUntil mode time) = codes "try_lock_" ++ word_of mode ++ codes "_until"
call_name (RawCall.Unlock mode) = codes "unlock_" ++ word_of mode
call_name (RawCall.UnlockFair mode) = codes "unlock_" ++ word_of mode ++ codes "_fair"
call_name (RawCall.Bump mode) = codes "bump_" ++ word_of mode
call_name RawCall.Upgrade = codes "upgrade"
call_name RawCall.TryUpgrade = codes "try_upgrade"
call_name (RawCall.TryUpgradeFor time) = codes "try_upgrade_for"
call_name (RawCall.TryUpgradeUntil time) = codes "try_upgrade_until"
call_name RawCall.Downgrade = codes "downgrade"
call_name RawCall.DowngradeUpgradable = codes "downgrade_upgradable"
call_name RawCall.DowngradeToUpgradable = codes "downgrade_to_upgradable"
call_name RawCall.IsLocked = codes "is_locked"
call_name RawCall.IsLockedExclusive = codes "is_locked_exclusive"

abbrev pub raw_call_line : RawCall → List ℕ
raw_call_line call = codes "  " ++ call_name call ++ codes "\n"
