-- A lock and the token of an acquisition, as contracts see them.
use Rattle.std.specs.Prelude.{◌≡◌, ℕ, ◌-◌, ◌^◌, Bool, true, false, not, ◌==◌, ◌⊎◌, []}
use Rattle.atomic_table.specs.Seated.{TableId}
use Rattle.atomic_table.specs.Table.{Me}
use Rattle.lock_modes.specs.declared.mode.Mode.{Mode}
use Rattle.lock_modes.specs.declared.hold.Hold.{Hold}
use Rattle.lock_modes.specs.Modes.{empty_bag, one_more, tokens}
use Rattle.lock_word.specs.declared.want.ExWant.{ExWant}
use Rattle.lock_word.specs.Word.{bag_of_word}
use Rattle.lock_one.specs.Machine.{core_of, has_sleepers, admits_word}
use Rattle.lock_one.specs.Rule.{is_upgrade}
use Rattle.lock_one_word.specs.declared.rule.OneView.{OneView}
pub use Rattle.lock_one_word.specs.Seals.{Ending, Seen}

-- a word lock: its identity, and its limit
pub record WordLockView : Type 0 where
  pub id : TableId
  pub readers : ℕ

-- the lock of a token, and what it holds
pub record TokenView : Type 0 where
  pub lock : WordLockView
  pub held : Hold

-- the view of the token that this seat becomes
abbrev pub token_of : TableId → Me (Unit {0}) OneView → TokenView
token_of table me = record { lock = record { id = table; readers = me.0.readers }; held = me.0.held }

-- a seat may become a token: it owns no slot
abbrev pub IsTokenSeat : Me (Unit {0}) OneView → Type 0
IsTokenSeat me = me.1 ≡ []

-- one hold of the mode, and no bar
abbrev pub one_hold : Mode → Hold
one_hold mode = record { bag = one_more empty_bag mode; announced = false }

-- the token holds the mode of this lock
abbrev pub IsTokenOf : WordLockView → Mode → TokenView → Type 0
IsTokenOf lock mode token = token ≡ record { lock = lock; held = one_hold mode }

-- the word that the call found last refuses what it wants
abbrev pub IsRefusedBy : ℕ → ExWant → ℕ → Type 0
IsRefusedBy readers wish word = admits_word false readers word wish ≡ false

-- the end of a try with this answer: it does not block, and if it was refused, a word refuses it, or it has made as many
-- exchanges as it can count, and each failed
pub record IsTry (readers : ℕ) (wish : ExWant) (answer : Bool) (e : Ending) : Type 0 where
  pub lock : e.readers ≡ readers
  pub upgrades : e.upgrades ≡ is_upgrade wish
  pub tries : e.blocks ≡ false
  pub answered : e.acquired ≡ answer
  pub refused : answer ≡ false → IsRefusedBy readers wish e.word ⊎ (e.exchanges ≡ 2 ^ 64 - 1)

-- the lock has made a try with this answer
abbrev pub WasTried : WordLockView → ExWant → Bool → Type 0
WasTried lock wish answer = (e : Ending) × IsTry lock.readers wish answer e

-- a timed call was refused after an answer that its deadline had passed
abbrev pub TimesOut : ℕ → Ending → Type 0
TimesOut readers e = (e.readers ≡ readers) × (e.late ≡ true)

abbrev pub HasTimedOut : WordLockView → Type 0
HasTimedOut lock = (e : Ending) × TimesOut lock.readers e

-- a call with a deadline was refused after it, or as a try; so is a plain try, and a call whose deadline measures no time
abbrev pub WasLate : WordLockView → ExWant → Type 0
WasLate lock wish = HasTimedOut lock ⊎ WasTried lock wish false

-- the answers of a load
abbrev pub SawTokens : Bool → Type 0
SawTokens answer = (s : Seen) × (answer ≡ not (tokens (bag_of_word (core_of s.word)) == 0))

abbrev pub SawExclusive : Bool → Type 0
SawExclusive answer = (s : Seen) × (answer ≡ not ((bag_of_word (core_of s.word)).exclusive == 0))

abbrev pub SawSleepers : Bool → Type 0
SawSleepers answer = (s : Seen) × (answer ≡ has_sleepers s.word)
