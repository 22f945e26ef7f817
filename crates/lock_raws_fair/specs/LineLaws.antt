-- Laws of every list of permitted steps.
use Rattle.std.specs.Prelude.{◌≡◌, ℕ, ◌+◌, ◌<◌, ◌≤◌, Bool, false, ◌||◌, ◌==◌, if◌then◌else◌, List, [], ◌∷◌, ◌++◌, length, IsTrue}
use Rattle.lock_raws_fair.specs.declared.line.step.LineStep.{LineStep}
use Rattle.lock_raws_fair.specs.declared.line.step.LineStep.TheVariants.{Arrive, Enter, Leave, Pass}
use Rattle.lock_raws_fair.specs.Tickets.{Line, empty_line, is_among, permits, line_after, span, may_leave}

-- each step is permitted where it is made, and the steps lead from the old line to the new one
abbrev pub IsLineRun : Line → List LineStep → Line → Type 0
IsLineRun old [] new = old ≡ new
IsLineRun old (step ∷ steps) new = IsTrue (permits old step) × IsLineRun (line_after old step) steps new

-- some list of permitted steps leads from the empty line to this one
abbrev pub IsReached : Line → Type 0
IsReached line = (steps : List LineStep) × IsLineRun empty_line steps line

-- no ticket that waits is smaller
abbrev pub IsEarliest : Line → ℕ → Type 0
IsEarliest line t = (s : ℕ) → IsTrue (is_among line.waiting s) → t ≤ s

-- whether the ticket enters or leaves by the step
abbrev pub removes : LineStep → ℕ → Bool
removes Arrive t = false
removes (Enter s) t = s == t
removes (Leave s) t = s == t
removes Pass t = false

-- whether the ticket enters or leaves by one of the steps
abbrev pub is_removed : List LineStep → ℕ → Bool
is_removed [] t = false
is_removed (step ∷ steps) t = removes step t || is_removed steps t

-- how many tickets the steps issue
abbrev pub arrivals : List LineStep → ℕ
arrivals [] = 0
arrivals (Arrive ∷ steps) = arrivals steps + 1
arrivals (Enter s ∷ steps) = arrivals steps
arrivals (Leave s ∷ steps) = arrivals steps
arrivals (Pass ∷ steps) = arrivals steps

-- how many acquisitions the steps admit
abbrev pub admissions : List LineStep → ℕ
admissions [] = 0
admissions (Arrive ∷ steps) = admissions steps
admissions (Enter s ∷ steps) = admissions steps + 1
admissions (Leave s ∷ steps) = admissions steps
admissions (Pass ∷ steps) = admissions steps + 1

-- the acquisition with this ticket joined the line by these steps, and neither entered nor left
pub record StillWaits (steps : List LineStep) (t : ℕ) : Type 0 where
  pub joined : t < arrivals steps
  pub stays : is_removed steps t ≡ false

-- in every run: a ticket counts the acquisitions that joined before its own. An acquisition enters or leaves only if it still
-- waits, so once. While it waits, no acquisition is admitted that joined later or did not join
pub record NobodyIsOvertaken : Type 0 where
  pub numbered : (steps : List LineStep) (line : Line) → IsLineRun empty_line steps line → line.issued ≡ arrivals steps
  pub enters : (before after : List LineStep) (t : ℕ) (last : Line)
      → IsLineRun empty_line (before ++ Enter t ∷ after) last
      → StillWaits before t × ((s : ℕ) → s < t → StillWaits before s → ⊥)
  pub leaves : (before after : List LineStep) (t : ℕ) (last : Line)
      → IsLineRun empty_line (before ++ Leave t ∷ after) last → StillWaits before t
  pub passes : (before after : List LineStep) (last : Line)
      → IsLineRun empty_line (before ++ Pass ∷ after) last → (s : ℕ) → StillWaits before s → ⊥

-- how many tickets are before this one
abbrev pub place_of : List ℕ → ℕ → ℕ
place_of [] t = 0
place_of (s ∷ rest) t = if s == t then 0 else place_of rest t + 1

-- while a ticket waits, each admission is one of a ticket before it
abbrev pub OvertakingIsBounded : Type 0
OvertakingIsBounded = (old new : Line) (steps : List LineStep) (t : ℕ)
    → IsTrue (is_among old.waiting t) → IsLineRun old steps new → (is_removed steps t ≡ false)
    → admissions steps + place_of new.waiting t ≤ place_of old.waiting t

-- a ticket that arrives less than `limit` behind the first may leave as long as it waits
abbrev pub TimedTicketsMayLeave : ℕ → Type 0
TimedTicketsMayLeave limit = (before after : List LineStep) (here last : Line)
    → IsLineRun empty_line before here → span here < limit → IsLineRun (line_after here Arrive) after last
    → IsTrue (is_among last.waiting here.issued) → IsTrue (may_leave limit last here.issued)

-- after an acquisition arrives, and as long as it waits, no more acquisitions are admitted than waited when it arrived
abbrev pub ArrivalsWaitForFew : Type 0
ArrivalsWaitForFew = (here last : Line) (steps : List LineStep)
    → IsLineRun (line_after here Arrive) steps last → is_removed steps here.issued ≡ false
    → admissions steps ≤ length here.waiting
