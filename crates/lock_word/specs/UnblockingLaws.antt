-- What is proved of the steps that unblock waiters.
use Rattle.std.specs.Prelude.{◌≡◌, ℕ, Bool, false, IsTrue}
use Rattle.lock_modes.specs.declared.hold.Hold.{Hold}
use Rattle.lock_modes.specs.Limits.{IsLimit}
use Rattle.lock_modes.specs.Holds.{hold_has}
use Rattle.lock_word.specs.declared.want.ExWant.{ExWant}
use Rattle.lock_word.specs.Word.{word_admits, word_after, step_of_want, IsPacked}
use Rattle.lock_word.specs.Unblocking.{is_awaited, word_unblocks}
use Rattle.lock_word.specs.Rule.{WordShows}

-- an admitted exchange unblocks nobody: what the new word admits to a waiter, the old word admitted
abbrev pub ExchangesUnblockNobody : Type 0
ExchangesUnblockNobody =
    (announced : Bool) (limit word : ℕ) (want : ExWant) (own : Hold) (other : ExWant) → IsLimit limit
    → WordShows limit word own → IsTrue (word_admits announced limit word want) → IsTrue (is_awaited other)
    → IsTrue (hold_has own (step_of_want other)) → IsTrue (word_admits own.announced limit (word_after word want) other)
    → IsTrue (word_admits own.announced limit word other)

-- `unblocks` misses nobody: if it finds that a step unblocks no waiter, what the new word admits, the old word admitted
abbrev pub UnblocksMissesNobody : Type 0
UnblocksMissesNobody =
    (announced : Bool) (limit before after : ℕ) (want : ExWant) → IsLimit limit → IsPacked limit before
    → IsPacked limit after → IsTrue (is_awaited want) → word_unblocks limit before after ≡ false
    → IsTrue (word_admits announced limit after want) → IsTrue (word_admits announced limit before want)
