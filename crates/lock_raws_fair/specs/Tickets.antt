-- The tickets that wait for a lock, and the steps of their line.
use Rattle.std.specs.Prelude.{◌≡◌, ℕ, suc, zero, ◌+◌, ◌-◌, ◌/◌, ◌%◌, Bool, true, false, ◌&&◌, ◌||◌, ◌==◌, nat_lt, if◌then◌else◌, List, [], ◌∷◌, ◌++◌, IsTrue}
use Rattle.lock_raws_fair.specs.declared.line.step.LineStep.{LineStep}
use Rattle.lock_raws_fair.specs.declared.line.step.LineStep.TheVariants.{Arrive, Enter, Leave, Pass}

-- the tickets that wait, the earliest first, and the next ticket to issue
pub record Line : Type 0 where
  pub waiting : List ℕ
  pub issued : ℕ

abbrev pub empty_line : Line
empty_line = record { waiting = []; issued = 0 }

abbrev pub is_nobody : List ℕ → Bool
is_nobody [] = true
is_nobody (s ∷ rest) = false

-- whether the ticket is the first of these
abbrev pub leads : List ℕ → ℕ → Bool
leads [] t = false
leads (s ∷ rest) t = s == t

-- whether the ticket is among these
abbrev pub is_among : List ℕ → ℕ → Bool
is_among [] t = false
is_among (s ∷ rest) t = (s == t) || is_among rest t

abbrev pub without : ℕ → List ℕ → List ℕ
without t [] = []
without t (s ∷ rest) = if s == t then without t rest else s ∷ without t rest

-- the first ticket that waits, or else the next ticket
abbrev pub first_of : List ℕ → ℕ → ℕ
first_of [] issued = issued
first_of (s ∷ rest) issued = s

abbrev pub head : Line → ℕ
head line = first_of line.waiting line.issued

abbrev pub is_empty : Line → Bool
is_empty line = is_nobody line.waiting

abbrev pub is_first : Line → ℕ → Bool
is_first line t = leads line.waiting t

-- how far the next ticket is behind the first that waits
abbrev pub span : Line → ℕ
span line = line.issued - head line

-- whether the ticket waits, less than `limit` behind the first
abbrev pub may_leave : ℕ → Line → ℕ → Bool
may_leave limit line t = is_among line.waiting t && nat_lt (t - head line) limit

-- whether the line permits the step: only the first ticket enters, and an acquisition passes only if no ticket waits
abbrev pub permits : Line → LineStep → Bool
permits line Arrive = true
permits line (Enter t) = is_first line t
permits line (Leave t) = is_among line.waiting t
permits line Pass = is_empty line

-- the line after the step
abbrev pub line_after : Line → LineStep → Line
line_after line Arrive = record { waiting = line.waiting ++ line.issued ∷ []; issued = line.issued + 1 }
line_after line (Enter t) = record line { waiting = without t line.waiting }
line_after line (Leave t) = record line { waiting = without t line.waiting }
line_after line Pass = line

-- the step is permitted in the old line, and leads to the new one
pub record Makes (old : Line) (step : LineStep) (new : Line) : Type 0 where
  pub permitted : IsTrue (permits old step)
  pub after : new ≡ line_after old step

-- of `n` tickets from `first` on, those that did not leave: bit i of `left` is 1 if `first + i` left
abbrev pub staying : ℕ → ℕ → ℕ → List ℕ
staying zero first left = []
staying (suc n) first left =
    if left % 2 == 1 then staying n (first + 1) (left / 2) else first ∷ staying n (first + 1) (left / 2)
