-- A release of a level has made the step that took it.
use Rattle.std.proofs.Common.{◌≡◌, ℕ, ◌+◌, ◌-◌, ◌<◌, Bool, true, false, ◌==◌, if◌then◌else◌, refl, sym, ap, subst, ◌∙◌, arith}
use Rattle.std.specs.Prelude.{Option, Some, None, Ok, IfSome}
use Rattle.std.specs.Option.{option_map, option_map_or}
use Rattle.lock_modes.specs.Levels.{Owner, Levels, level_of, LosesLevel, GivesTokenBack}
use Rattle.lock_remutex.specs.declared.owner_table.rule.OwnerStep.{OwnerStep}
use Rattle.lock_remutex.specs.declared.owner_table.rule.OwnerStep.TheVariants.{Start, Saw, Took, Made}
use Rattle.lock_remutex.specs.OwnerTables.{OwnerFits}
use Rattle.lock_remutex.specs.OwnerCalls.{Leaves}
use Rattle.lock_remutex.specs.LevelSteps.{Lost}

chosen : (b : Bool) (n m : ℕ) → 0 < (if b then n else 0) → (if b then m else 0) ≡ m
chosen true n m has = refl
chosen false n m has = absurd (omega arith)

module _ {T : Type 0} where
  -- the levels that an owner is of a party
  abbrev level_in : ℕ → Option (Owner T) → ℕ
  level_in party owner = option_map_or (λ (o : Owner T). if o.party == party then o.count else 0) owner 0

  recounted : (owner : Option (Owner T)) (party m : ℕ) → 0 < level_in party owner
      → level_in party (option_map (λ (o : Owner T). record o { count = m }) owner) ≡ m
  recounted None party m has = absurd (omega arith)
  recounted (Some o) party m has = chosen (o.party == party) o.count m has

  lowered : (old new : Levels T) (party : ℕ) → LosesLevel old new party → level_of old party ≡ level_of new party + 1
  lowered old new party loses =
      let nested = loses.nested in
      let now : level_of new party ≡ level_of old party - 1
      = ap (λ (l : Levels T). level_of l party) loses.after ∙ recounted old.owner party (level_of old party - 1) (omega arith) in
      omega arith

  -- the token that the owner held fits, if the one that it still holds does, or the one that came back
  same_token : (fits : T → Type 0) (owner : Option (Owner T)) (m : ℕ)
      → IfSome (option_map (λ (o : Owner T). record o { count = m }) owner) (λ o. fits o.token) → IfSome owner (λ o. fits o.token)
  same_token fits None m fit = fit
  same_token fits (Some o) m fit = fit

  held_token : (fits : T → Type 0) (owner : Option (Owner T)) (token : T) → option_map (λ (o : Owner T). o.token) owner ≡ Some token
      → fits token → IfSome owner (λ o. fits o.token)
  held_token fits None token held fit = tt
  held_token fits (Some o) token held fit = subst (λ (back : Option T). IfSome back fits) (sym held) fit

  lost_nested : (fits : T → Type 0) (party : ℕ) (old new : Levels T) → LosesLevel old new party
      → IfSome new.owner (λ o. fits o.token) → Lost fits party (Made old new)
  lost_nested fits party old new loses fit =
      record {
        old = old;
        new = new;
        made = refl;
        one_less = lowered old new party loses;
        fit =
            same_token fits old.owner (level_of old party - 1)
            (subst (λ (l : Levels T). IfSome l.owner (λ o. fits o.token)) loses.after fit);
      }

  lost_last : (fits : T → Type 0) (party : ℕ) (token : T) (old new : Levels T) → GivesTokenBack old new party token → fits token
      → Lost fits party (Made old new)
  lost_last fits party token old new gave fit =
      record {
        old = old;
        new = new;
        made = refl;
        one_less = gave.sole ∙ sym (ap (λ (l : Levels T). level_of l party + 1) gave.after);
        fit = held_token fits old.owner token gave.held fit;
      }

  pub leave_lost : (fits : T → Type 0) (party : ℕ) (last : Option T) (step : OwnerStep T) → Leaves party (Ok last) step
      → OwnerFits fits step → IfSome last fits → Lost fits party step
  leave_lost fits party None (Made old new) did left fit = lost_nested fits party old new did left
  leave_lost fits party (Some token) (Made old new) did left fit = lost_last fits party token old new did fit
  leave_lost fits party None (Saw word) did left fit = absurd did
  leave_lost fits party None (Took l) did left fit = absurd did
  leave_lost fits party None Start did left fit = absurd did
  leave_lost fits party (Some token) (Saw word) did left fit = absurd did
  leave_lost fits party (Some token) (Took l) did left fit = absurd did
  leave_lost fits party (Some token) Start did left fit = absurd did
