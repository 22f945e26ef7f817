-- The next step of a call on a lock of one word, by what it found.
use Rattle.std.specs.Prelude.{ℕ, ◌+◌, ◌-◌, ◌^◌, ◌%◌, Bool, true, false, not, ◌&&◌, ◌||◌, ◌==◌, nat_lt, if◌then◌else◌}
use Rattle.lock_word.specs.declared.want.ExWant.{ExWant}
use Rattle.lock_word.specs.declared.want.ExWant.TheVariants as want
use Rattle.lock_word.specs.declared.down.Down.{Down}
use Rattle.lock_word.specs.declared.down.Down.TheVariants as down
use Rattle.lock_word.specs.Word.{word_admits, word_after, amount}
use Rattle.lock_word.specs.Unblocking.{word_unblocks}
use Rattle.lock_one.specs.declared.action.Action.{Action}
use Rattle.lock_one.specs.declared.action.Action.TheVariants.{Load, Exchange, Subtract, Sleep, WakeOne, WakeAll, WakeNext, WakeTurn, Spin, Yield, End}
use Rattle.lock_one.specs.declared.action.Sleeper.{Sleeper}
use Rattle.lock_one.specs.declared.action.Sleeper.TheVariants as sleeper
use Rattle.lock_one.specs.declared.call.WordCall.{WordCall}
use Rattle.lock_one.specs.declared.stage.Stage.{Stage}
use Rattle.lock_one.specs.declared.stage.Stage.TheVariants as stage
use Rattle.lock_one.specs.declared.sleep_view.Debt.{Debt}
use Rattle.lock_one.specs.declared.sleep_view.Debt.TheVariants as debt
use Rattle.lock_one.specs.Rule.{is_upgrade, is_shared, passes_turn}

-- a call, and its next action
abbrev pub Progress : Type 0
Progress = WordCall × Action

-- T, the turn of readers; S, the bit of sleepers; and the word without both
abbrev pub turn : ℕ
turn = 2 ^ 35

abbrev pub sleepers : ℕ
sleepers = 2 ^ 36

abbrev pub core_of : ℕ → ℕ
core_of word = word % turn

abbrev pub has_turn : ℕ → Bool
has_turn word = not (nat_lt (word % sleepers) turn)

abbrev pub has_sleepers : ℕ → Bool
has_sleepers word = not (nat_lt word sleepers)

abbrev pub with_turn : ℕ → Bool → ℕ
with_turn core t = if t then core + turn else core

abbrev pub with_sleepers : ℕ → Bool → ℕ
with_sleepers core s = if s then core + sleepers else core

-- whether the word admits it: its core does, and T is clear or lets it pass
abbrev pub admits_word : Bool → ℕ → ℕ → ExWant → Bool
admits_word announced readers word want =
    word_admits announced readers (core_of word) want && (not (has_turn word) || passes_turn announced want)

abbrev pub begun : ℕ → Stage → ExWant → Down → Bool → Bool → WordCall
begun readers at wish release blocks announces = record {
  readers = readers;
  stage = at;
  want = wish;
  down = release;
  blocks = blocks;
  announces = announces;
  announced = false;
  turned = false;
  late = false;
  sleeps = 0;
  pauses = 0;
  loaded = 0;
  left = 0;
}

-- only an exclusive acquisition clears the bar of its party, so no other call sets one
abbrev pub is_exclusive : ExWant → Bool
is_exclusive want.Shared = false
is_exclusive want.Exclusive = true
is_exclusive want.Upgradable = false
is_exclusive want.Upgrade = false
is_exclusive want.Announce = false

abbrev pub acquiring : ℕ → ExWant → Bool → Bool → Progress
acquiring readers wish blocks announces = (begun readers stage.Look wish down.Shared blocks announces, Load)

abbrev pub goes_to : WordCall → Stage → Action → Progress
goes_to call at action = (record call { stage = at }, action)

abbrev pub ended : Bool → WordCall → Progress
ended answer call = goes_to call stage.Ended (End answer)

abbrev pub acquired : WordCall → Progress
acquired call = goes_to call stage.Acquired (End true)

abbrev pub refused : WordCall → Progress
refused call = goes_to call stage.Refused (End false)

abbrev pub wakes_one : WordCall → Bool
wakes_one call = call.readers == 1

-- a call of a mutex that slept so often sets the bar, and such a reader T
abbrev pub enough_sleeps : ℕ
enough_sleeps = 4

abbrev pub has_slept : WordCall → Bool
has_slept call = not (call.sleeps == 0)

-- the sleeps of a call after one more. It counts no further than it has to
abbrev pub one_more_sleep : ℕ → ℕ
one_more_sleep sleeps = if nat_lt sleeps enough_sleeps then sleeps + 1 else sleeps

-- a brief sleep ends after half a millisecond, and then the call counts as one that slept enough. A reader's sleep is brief, for a word
-- without T. In a mutex so is that of a call that was woken, for a word without a bar. Its first sleep is not, so calls that come
-- cannot hand the bar to one another while a third sleeps
abbrev pub is_brief : WordCall → Bool
is_brief call =
    nat_lt call.sleeps enough_sleeps
    && (if wakes_one call then has_slept call && (call.announces && (is_exclusive call.want && nat_lt (call.loaded % sleepers) (2 ^ 34)))
    else is_shared call.want && not (has_turn call.loaded))

abbrev pub sleeps_after : ℕ → WordCall → ℕ
sleeps_after found call = if (found == 2) && is_brief call then enough_sleeps else one_more_sleep call.sleeps

abbrev pub is_due : WordCall → Bool
is_due call = not (wakes_one call) || (call.sleeps == enough_sleeps)

abbrev pub pauses_before : ℕ
pauses_before = 6

abbrev pub class_of : Bool → ExWant → Sleeper
class_of announced want = if announced || is_upgrade want then sleeper.Next else if is_shared want then sleeper.Reader else sleeper.Other

-- a sleep compares the low half of a stored word, which has 27 bits of readers. A call on a lock for more of them yields
abbrev pub sleep_of : WordCall → Action
sleep_of call = if nat_lt call.readers (2 ^ 27) then Sleep call.loaded (class_of call.announced call.want) (is_brief call) else Yield

abbrev pub sleep : WordCall → Progress
sleep call = goes_to call stage.Sleep (sleep_of call)

-- a writer that is due sets the bar, if neither a bar nor T is set
abbrev pub sets_bar : WordCall → Bool
sets_bar call =
    call.announces && (is_exclusive call.want && (not call.announced && (is_due call && nat_lt (call.loaded % sleepers) (2 ^ 34))))

-- a reader that slept enough sets T, if a writer holds the lock or has set the bar
abbrev pub sets_turn : WordCall → Bool
sets_turn call =
    is_shared call.want && (not (wakes_one call)
    && ((call.sleeps == enough_sleeps) && (nat_lt (call.loaded % sleepers) turn && not (nat_lt (call.loaded % sleepers) (2 ^ 33)))))

abbrev pub word_marked : WordCall → ℕ
word_marked call =
    with_turn (core_of call.loaded + (if sets_bar call then 2 ^ 34 else 0)) (has_turn call.loaded || sets_turn call) + sleepers

abbrev pub mark_or_sleep : WordCall → Progress
mark_or_sleep call =
    if word_marked call == call.loaded then sleep call
    else goes_to (record call { left = word_marked call }) stage.Mark (Exchange call.loaded (word_marked call))

abbrev pub marked : WordCall → Progress
marked call = sleep (record call { announced = call.announced || sets_bar call; turned = call.turned || sets_turn call; loaded = call.left })

-- whether a late call has set T, and T is set
abbrev pub drops_turn : WordCall → Bool
drops_turn call = call.turned && has_turn call.loaded

-- the word after a withdrawal of the bar. In a mutex it has S, so no wake-up is owed. That of T leaves S, since a bar may be set
abbrev pub word_unbarred : WordCall → ℕ
word_unbarred call = with_sleepers (with_turn (core_of call.loaded - 2 ^ 34) (has_turn call.loaded)) (wakes_one call)

abbrev pub word_withdrawn : WordCall → ℕ
word_withdrawn call = if call.announced then word_unbarred call else call.loaded - turn

abbrev pub time_out : WordCall → Progress
time_out call =
    if call.announced || drops_turn call
    then goes_to (record call { left = word_withdrawn call }) stage.Withdraw (Exchange call.loaded (word_withdrawn call))
    else if wakes_one call && (has_slept call && nat_lt call.loaded sleepers)
    then goes_to (record call { left = call.loaded + sleepers }) stage.Leave (Exchange call.loaded (call.loaded + sleepers))
    else refused call

abbrev pub withdrawn : WordCall → Progress
withdrawn call =
    if has_sleepers call.loaded && not (wakes_one call)
    then goes_to (record call { announced = false; turned = false }) stage.WakeRefused WakeAll
    else refused (record call { announced = false; turned = false })

-- the loaded word refuses
abbrev pub wait : WordCall → Progress
wait call =
    if not call.blocks then refused call
    else if call.late then time_out call
    else if nat_lt call.pauses pauses_before then goes_to (record call { pauses = call.pauses + 1 }) stage.Pause (Spin (if nat_lt call.pauses 3 then call.pauses + 6 else 9))
    else mark_or_sleep call

-- a reader that acquires takes the turn: it clears T and S, and wakes all
abbrev pub takes_turn : WordCall → ℕ → Bool
takes_turn call word = has_turn word && is_shared call.want

-- the word after another acquisition. It keeps T and S. A call of a mutex that has slept sets S
abbrev pub after_other : WordCall → ℕ → ℕ
after_other call word =
    with_sleepers (with_turn (word_after (core_of word) call.want) (has_turn word)) (has_sleepers word || (wakes_one call && has_slept call))

abbrev pub after_try : WordCall → ℕ → ℕ
after_try call word = if takes_turn call word then word_after (core_of word) call.want else after_other call word

abbrev pub won : WordCall → Progress
won call = if takes_turn call call.loaded && has_sleepers call.loaded then goes_to call stage.WakeAcquired WakeAll else acquired call

abbrev pub decide : ℕ → WordCall → Progress
decide word call =
    if admits_word call.announced call.readers word call.want
    then goes_to (record call { loaded = word; left = after_try call word }) stage.Try (Exchange word (after_try call word))
    else wait (record call { loaded = word })

-- releases

abbrev pub frees_word : ℕ → ℕ → ℕ → Bool
frees_word readers before after = if readers == 1 then after % 2 ^ 34 == 0 else word_unblocks readers before after

-- the wake-up of a release that leaves a bar. A writer that leaves no T wakes the readers too, so they count a sleep for each writer
abbrev pub under_bar : ℕ → ℕ → Debt
under_bar readers word =
    if (readers == 1) || (has_turn word || nat_lt (core_of word % 2 ^ 34) (2 ^ 33)) then debt.Next else debt.Turn

-- S after a release of this word, and the wake-up that the release owes
abbrev pub release_of : ℕ → ℕ → Down → Bool × Debt
release_of readers word release =
    if not (has_sleepers word) then (false, debt.Nothing)
    else if not (frees_word readers (core_of word) (core_of word - amount release)) then (true, debt.Nothing)
    else if not (nat_lt (core_of word - amount release) (2 ^ 34)) then (true, under_bar readers word)
    else if has_turn word then (true, debt.Turn)
    else (false, if readers == 1 then debt.One else debt.All)

abbrev pub word_released : ℕ → ℕ → Down → ℕ
word_released readers word release =
    with_sleepers (with_turn (core_of word - amount release) (has_turn word)) (release_of readers word release).0

abbrev pub release_on : ℕ → WordCall → Progress
release_on word call =
    goes_to (record call { loaded = word; left = word_released call.readers word call.down }) stage.Release
    (Exchange word (word_released call.readers word call.down))

-- the word of a holder that is alone
abbrev pub alone : Down → ℕ
alone down.Shared = 1
alone down.Exclusive = 2 ^ 33
alone down.Upgradable = 2 ^ 32 + 1
alone down.ToShared = 2 ^ 33
alone down.ToUpgradable = 2 ^ 33
alone down.UpgradableToShared = 2 ^ 32 + 1
alone down.Withdraw = 2 ^ 34

-- a release whose exchange has failed so often is a subtraction, which cannot fail. It leaves S as it is
abbrev pub exchanges_before : ℕ
exchanges_before = 8

-- a shared hold of a lock for several readers is released by one subtraction, unless a load finds S
abbrev pub removes_reader : ℕ → Down → Bool
removes_reader readers down.Shared = not (readers == 1)
removes_reader readers other = false

abbrev pub subtract : WordCall → Progress
subtract call = goes_to call stage.Subtract (Subtract call.down)

abbrev pub look_to_remove : ℕ → WordCall → Progress
look_to_remove word call =
    if has_sleepers word then release_on word call else subtract call

abbrev pub release_again : ℕ → WordCall → Progress
release_again word call =
    if nat_lt call.pauses exchanges_before then release_on word (record call { pauses = call.pauses + 1 }) else subtract call

abbrev pub taking : ℕ → Down → Progress
taking readers release =
    if removes_reader readers release then goes_to (begun readers stage.LookToRemove want.Shared release false false) stage.LookToRemove Load
    else release_on (alone release) (begun readers stage.Release want.Shared release false false)

abbrev pub wakes : Debt → WordCall → Progress
wakes debt.Nothing call = ended true call
wakes debt.One call = goes_to call stage.Wake WakeOne
wakes debt.All call = goes_to call stage.Wake WakeAll
wakes debt.Next call = goes_to call stage.Wake WakeNext
wakes debt.Turn call = goes_to call stage.Wake WakeTurn

abbrev pub next_at : Stage → ℕ → WordCall → Progress
next_at stage.Look found call = decide found call
next_at stage.Try found call = if found == call.loaded then won call else decide found call
next_at stage.Pause found call = goes_to call stage.Look Load
next_at stage.Mark found call = if found == call.loaded then marked call else decide found call
next_at stage.Sleep found call = goes_to (record call { late = found == 1; sleeps = sleeps_after found call; pauses = 0 }) stage.Look Load
next_at stage.Withdraw found call = if found == call.loaded then withdrawn call else decide found call
next_at stage.Leave found call = if found == call.loaded then refused call else decide found call
next_at stage.LookToRemove found call = look_to_remove found call
next_at stage.Subtract found call = wakes (release_of call.readers found call.down).1 call
next_at stage.Release found call = if found == call.loaded then wakes (release_of call.readers call.loaded call.down).1 call else release_again found call
next_at stage.Wake found call = ended true call
next_at stage.WakeRefused found call = refused call
next_at stage.WakeAcquired found call = acquired call
next_at stage.Acquired found call = ended false call
next_at stage.Refused found call = ended false call
next_at stage.Ended found call = ended false call

abbrev pub next_of : ℕ → WordCall → Progress
next_of found call = next_at call.stage found call
