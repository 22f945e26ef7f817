-- The numbers of the faults.
use Rattle.std.specs.Prelude.{ℕ}
use Rattle.lock_modes.specs.declared.fault.Fault.{Fault}
use Rattle.lock_modes.specs.declared.fault.Fault.TheVariants.{WouldWait, UnknownGuard, Parked, NotParked, Foreign, WrongMode, WrongKind, NoPlace, NumbersSpent, FullCount, GuardsOut, BadLimits, OutOfMemory, NoFocus, NoLoad, UnknownParty, Barred, NotAnnounced}

abbrev pub number_of : Fault → ℕ
number_of WouldWait = 1
number_of UnknownGuard = 2
number_of Parked = 3
number_of NotParked = 4
number_of Foreign = 5
number_of WrongMode = 6
number_of WrongKind = 7
number_of NoPlace = 8
number_of NumbersSpent = 9
number_of FullCount = 10
number_of GuardsOut = 11
number_of BadLimits = 12
number_of OutOfMemory = 13
number_of NoFocus = 14
number_of NoLoad = 15
number_of UnknownParty = 16
number_of Barred = 17
number_of NotAnnounced = 18
