-- The register of a lock: kind, limits, entries and bar. Admission looks at nothing else.
use Rattle.std.specs.Prelude.{ℕ, ◌+◌, Bool, true, ◌&&◌, ◌==◌, nat_lt, if◌then◌else◌, List, [], ◌∷◌, ◌++◌, Option, None}
use Rattle.lock_modes.specs.declared.mode.Mode.{Mode}
use Rattle.lock_modes.specs.declared.mode.Mode.TheVariants.{Exclusive}
use Rattle.lock_modes.specs.declared.bag.Bag.{Bag}
use Rattle.lock_modes.specs.declared.kind.Kind.{Kind}
use Rattle.lock_modes.specs.Modes.{empty_bag, one_more, admits}
use Rattle.lock_modes.specs.Kind.{is_reentrant}
use Rattle.lock_modes.specs.Bar.{bar_lets_pass, bar_after}
use Rattle.lock_machine.specs.Entries.{Entry, without, update, held_entries, held_bag, held_count, all_of_party, some_of_party}

pub record Register : Type 0 where
  pub kind : Kind
  -- the limit of readers; of levels on a reentrant lock; 1 on a mutex
  pub limit : ℕ
  -- how many guards may be held or parked
  pub places : ℕ
  -- the last guard number that was issued
  pub last : ℕ
  -- the guards that are held or parked, by rising numbers
  pub entries : List (ℕ × Entry)
  -- the party that set the bar
  pub bar : Option ℕ

-- a register without guards and bar
abbrev pub empty_register : Kind → ℕ → ℕ → Register
empty_register kind places limit =
    record { kind = kind; limit = limit; places = places; last = 0; entries = []; bar = None }

-- whether the mode is admitted next to the held guards, whatever the bar. A reentrant lock admits its owner, below the
-- limit of levels
abbrev pub admits_ignoring_bar : Register → ℕ → Mode → Bool
admits_ignoring_bar r party mode =
    if is_reentrant r.kind
    then all_of_party party (held_entries r.entries) && nat_lt (held_count r.entries) r.limit
    else admits r.limit (held_bag r.entries) mode

-- whether the party may acquire the mode: the bar lets it pass, and the mode is admitted
abbrev pub admits_party : Register → ℕ → Mode → Bool
admits_party r party mode = bar_lets_pass r.bar party mode && admits_ignoring_bar r party mode

-- whether the party holds a guard
abbrev pub owns : Register → ℕ → Bool
owns r party = some_of_party party (held_entries r.entries)

-- whether the party owns a reentrant lock at the limit of its levels
abbrev pub is_full_count : Register → ℕ → Bool
is_full_count r party = is_reentrant r.kind && (owns r party && (held_count r.entries == r.limit))

-- the tokens behind the held guards: one each, but on a reentrant lock one exclusive token while any guard is held
abbrev pub tokens_of : Register → Bag
tokens_of r =
    if is_reentrant r.kind
    then (if held_count r.entries == 0 then empty_bag else one_more empty_bag Exclusive)
    else held_bag r.entries

-- the readers' limit of the raw state: a reentrant lock has one token
abbrev pub token_limit : Kind → ℕ → ℕ
token_limit kind limit = if is_reentrant kind then 1 else limit

-- whether the first guard added to these, or the last one removed down to these, moves a token. Levels share one token
abbrev pub moves_token : Register → Bool
moves_token r = if is_reentrant r.kind then held_count r.entries == 0 else true

-- whether a bump releases a token: on a reentrant lock only with one held guard
abbrev pub bumps_token : Register → Bool
bumps_token r = if is_reentrant r.kind then held_count r.entries == 1 else true

-- a register with another bar

abbrev pub with_bar : Register → Option ℕ → Register
with_bar r bar = record r { bar = bar }

-- the register after an admitted acquisition: an exclusive one clears the bar
abbrev pub after_admission : Register → Mode → Register
after_admission r mode = with_bar r (bar_after r.bar mode)

-- with a new held guard of the party, under the next number
abbrev pub with_guard : Register → ℕ → Mode → Register
with_guard r party mode = record r {
  last = r.last + 1;
  entries = r.entries ++ (r.last + 1, record { party = party; mode = mode; held = true }) ∷ [];
}

abbrev pub without_guard : Register → ℕ → Register
without_guard r guard = record r { entries = without guard r.entries }

-- with the guard's entry changed
abbrev pub with_change : Register → ℕ → (Entry → Entry) → Register
with_change r guard change = record r { entries = update guard change r.entries }
