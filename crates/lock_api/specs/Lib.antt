pub use Rattle.lock_modes.specs.Modes
pub use Rattle.lock_modes.specs.ModeRuns
pub use Rattle.lock_modes.specs.Kind
pub use Rattle.lock_modes.specs.Party
pub use Rattle.lock_modes.specs.Fault
pub use Rattle.lock_modes.specs.Limits
pub use Rattle.lock_modes.specs.Levels
pub use Rattle.lock_modes.specs.Tokens
pub use Rattle.lock_machine.specs.Operation
pub use Rattle.lock_machine.specs.Entries
pub use Rattle.lock_modes.specs.Bar
pub use Rattle.lock_modes.specs.Holds
pub use Rattle.lock_machine.specs.Register
pub use Rattle.lock_machine.specs.Machine
pub use Rattle.lock_machine.specs.Refusals
pub use Rattle.lock_machine.specs.Calls
pub use Rattle.lock_machine.specs.Steps
pub use Rattle.lock_machine.specs.Legal
pub use Rattle.lock_machine.specs.Sound
pub use Rattle.lock_parts.specs.Lens
pub use Rattle.lock_parts.specs.Then
pub use Rattle.lock_machine.specs.Kept
pub use Rattle.lock_machine.specs.SoundRuns
pub use Rattle.lock_machine.specs.Replies
pub use Rattle.lock_machine.specs.TokenSteps
pub use Rattle.lock_machine.specs.Nesting
pub use Rattle.lock_machine.specs.Numbers
pub use Rattle.lock_machine.specs.Parking
pub use Rattle.lock_machine.specs.Barring
pub use Rattle.lock_machine.specs.Values
pub use Rattle.lock_machine.specs.Exclusion
pub use Rattle.lock_machine.specs.Parked
pub use Rattle.lock_machine.specs.Order
pub use Rattle.lock_guard.specs.Closure
pub use Rattle.lock_guard.specs.Inner
pub use Rattle.lock_guard.specs.Held
pub use Rattle.lock_guard.specs.GuardPart
pub use Rattle.lock_guard.specs.Mapped
pub use Rattle.lock_word.specs.BarredBags
pub use Rattle.lock_word.specs.Holders
pub use Rattle.lock_word.specs.Word
pub use Rattle.lock_word.specs.Unblocking
pub use Rattle.lock_word.specs.UnblockingLaws
pub use Rattle.lock_word.specs.WordLaws
pub use Rattle.lock_word.specs.BarLaws
pub use Rattle.lock_word.specs.Turns
pub use Rattle.lock_word.specs.Rule
pub use Rattle.lock_word.specs.Worlds
pub use Rattle.lock_word.specs.Claims
pub use Rattle.lock_states.specs.TableState
pub use Rattle.lock_states.specs.Packed
pub use Rattle.lock_word.specs.Seats
pub use Rattle.lock_word.specs.CallerView
pub use Rattle.lock_word.specs.Attempts
pub use Rattle.lock_one.specs.Rule as SleepRule
pub use Rattle.lock_one.specs.Machine as CallMachine
pub use Rattle.lock_one.specs.Steps as CallSteps
pub use Rattle.lock_one.specs.Answers
pub use Rattle.lock_one.specs.Runs as CallRuns
pub use Rattle.lock_one.specs.Bars as CallBars
pub use Rattle.lock_one.specs.Turn as CallTurns
pub use Rattle.lock_one.specs.Stored
pub use Rattle.lock_one_word.specs.Seats as WordSeats
pub use Rattle.lock_one_word.specs.Calls as WordCalls
pub use Rattle.lock_one_word.specs.Legal as WordLegal
pub use Rattle.lock_one_word.specs.Own
pub use Rattle.lock_ruled.specs.Ruled
pub use Rattle.lock_ruled.specs.SleepingUsers
pub use Rattle.lock_ruled.specs.Slots
pub use Rattle.lock_ruled.specs.EachView
pub use Rattle.lock_ruled.specs.Ledger
pub use Rattle.lock_ruled.specs.Tally
pub use Rattle.lock_ruled.specs.Bounds
pub use Rattle.lock_ruled.specs.InOrder
pub use Rattle.lock_ruled.specs.Permits
pub use Rattle.lock_ruled.specs.With
pub use Rattle.lock_ruled.specs.Accounts
pub use Rattle.lock_ruled.specs.Acquiring
pub use Rattle.lock_ruled.specs.PermitCalls
pub use Rattle.lock_time.specs.Deadlines
pub use Rattle.lock_events.specs.Words as EventWords
pub use Rattle.lock_events.specs.Events
pub use Rattle.lock_events.specs.Kept as EventsKept
pub use Rattle.lock_wake.specs.EventCounts
pub use Rattle.lock_wake.specs.EventCalls
pub use Rattle.lock_desk.specs.Closures
pub use Rattle.lock_mutex.specs.Mutex
pub use Rattle.lock_mutex.specs.MutexGuard
pub use Rattle.lock_mutex.specs.Condvar
pub use Rattle.lock_mutex.specs.WaitsWhile
pub use Rattle.lock_mutex.specs.ArcMutexGuard
pub use Rattle.lock_mutex.specs.ConditionLoop
pub use Rattle.lock_mutex.specs.ValueLoop
pub use Rattle.lock_mutex.specs.Script
pub use Rattle.lock_rwlock.specs.ArcRwLockGuard
pub use Rattle.lock_rwlock.specs.RwLock
pub use Rattle.lock_rwlock.specs.RwLockGuard
pub use Rattle.lock_remutex.specs.Guards
pub use Rattle.lock_remutex.specs.ArcGuards
pub use Rattle.lock_remutex.specs.LevelSteps
pub use Rattle.lock_ranked.specs.Guards as RankedGuards
pub use Rattle.lock_ranked.specs.RwLockGuards as RankedRwLockGuards
pub use Rattle.lock_ranked.specs.Rows as RankedRows
pub use Rattle.lock_ranked.specs.MappedGuards as RankedMappedGuards
pub use Rattle.lock_ranked.specs.ReentrantGuards as RankedReentrantGuards
pub use Rattle.lock_ranked.specs.Condvars as RankedCondvars
pub use Rattle.lock_raws.specs.Downgrades
pub use Rattle.lock_raws_monitor.specs.TokenArbiter
pub use Rattle.lock_raws_monitor.specs.Waking
pub use Rattle.lock_raws_monitor.specs.Journal
pub use Rattle.lock_raws_monitor.specs.Recording
pub use Rattle.lock_raws_condvar.specs.Condvars
pub use Rattle.lock_raws_monitor.specs.ModeTokens
pub use Rattle.lock_raws_fair.specs.Tickets
pub use Rattle.lock_raws_fair.specs.LineLaws
pub use Rattle.lock_raws_fair.specs.FairState
pub use Rattle.lock_raws_fair.specs.FairSteps
pub use Rattle.lock_raws_fair.specs.FairLaws
pub use Rattle.lock_raws_fair.specs.FairWaking
pub use Rattle.lock_raws_fair.specs.Notifying
pub use Rattle.lock_raws_fair.specs.Sleeping
