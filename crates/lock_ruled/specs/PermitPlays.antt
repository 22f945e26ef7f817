-- What each kind of step tells the party that makes it.
use Rattle.std.specs.Prelude.{◌≡◌, ◌≢◌, ℕ, ◌+◌, ◌-◌, ◌≤◌}
use Rattle.atomic_table.specs.Table.{Me, Step}
use Rattle.lock_ruled.specs.declared.shared_semaphore.rule.PermitView.{PermitView}

-- a party's view, and the slots that it holds: none
abbrev pub Self : Type 0
Self = Me (Unit {0}) PermitView

abbrev pub with_own : Self → ℕ → Self
with_own me permits = (record me.0 { own = permits }, me.1)

-- the permits that it found and its own are at most all
abbrev pub IsWithin : Self → ℕ → Type 0
IsWithin me found = found + me.0.own ≤ me.0.all

abbrev pub Looks : Self → ℕ → Self → Type 0
Looks me found after = (after ≡ me) × IsWithin me found

-- what an exchange takes from the free permits, its party has
abbrev pub Takes : Step (Unit {0}) → Self → ℕ → Self → Type 0
Takes s me found after =
    (found ≡ s.first → after ≡ with_own me (me.0.own + (s.first - s.second))) × (found ≢ s.first → after ≡ me)
    × IsWithin me found

-- what an addition gives to the free permits, its party no longer has
abbrev pub Gives : Step (Unit {0}) → Self → ℕ → Self → Type 0
Gives s me found after = after ≡ with_own me (me.0.own - s.first)
