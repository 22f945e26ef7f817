-- What a try for a level has done, by what its calls did.
use Rattle.std.proofs.Common.{◌≡◌, ◌≢◌, ◌⊎◌, inl, inr, ℕ, Bool, true, refl, sym, subst, ◌∙◌}
use Rattle.std.specs.Prelude.{Option, Some, None, IfSome}
use Rattle.std.specs.declared.snapshot.Snapshot.{Snapshot}
use Rattle.lock_modes.specs.Levels.{Owner}
use Rattle.lock_remutex.specs.declared.owner_table.rule.OwnerStep.{OwnerStep}
use Rattle.lock_remutex.specs.declared.owner_table.rule.OwnerStep.TheVariants.{Start, Saw, Took, Made}
use Rattle.lock_remutex.specs.OwnerTables.{CallView}
use Rattle.lock_remutex.specs.OwnerCalls.{First}
use Rattle.lock_remutex.specs.LevelSteps.{LevelView, Gained, WasOwned, HasToken, ByTry, IsOn, IsNoOwner, FoundOwner, TriedLevel, IsNewLevel, TriedFor, AnswersLevel}

module _ {T : Type 0} where
  by_owned : (tried : Option T → Type 0) (step : OwnerStep T) → WasOwned step → ByTry tried step
  by_owned tried (Made old new) owned = λ free. absurd (owned free)
  by_owned tried (Saw word) owned = tt
  by_owned tried (Took l) owned = tt
  by_owned tried Start owned = tt

  by_token : (tried : Option T → Type 0) (token : T) (step : OwnerStep T) → tried (Some token) → HasToken token step → ByTry tried step
  by_token tried token (Made old new) did has = λ free. held new.owner has
    where
      held : (owner : Option (Owner T)) → IfSome owner (λ o. o.token ≡ token) → IfSome owner (λ o. tried (Some o.token))
      held None has = tt
      held (Some o) has = subst (λ t. tried (Some t)) (sym has) did
  by_token tried token (Saw word) did has = tt
  by_token tried token (Took l) did has = tt
  by_token tried token Start did has = tt

  found_word : (party : ℕ) (token back : T) (step : OwnerStep T) → First party token (Some back) step
      → (word : ℕ) × (step ≡ Saw word) × (word ≢ 0)
  found_word party token back (Saw word) first = (word, refl, first.1)
  found_word party token back (Made old new) first = absurd first
  found_word party token back (Took l) first = absurd first
  found_word party token back Start first = absurd first

module _ {R T : Type 0} where
  pub found_owner : (raw : R) (party : ℕ) (token back : T) (call : CallView (Snapshot R) T) → IsOn raw call
      → First party token (Some back) call.step → FoundOwner T raw
  found_owner raw party token back call on first =
      let found = found_word party token back call.step first in
      record { call = call; on = on; word = found.0; saw = found.1; owned = found.2 }

  pub tried_again : (tried : Option T → Type 0) (raw : R) (party : ℕ) (level : LevelView R T) → IsNewLevel raw party level
      → WasOwned level.call.step → TriedFor tried raw party (Some level)
  tried_again tried raw party level is owned = (is, by_owned tried level.call.step owned)

  pub tried_first : (tried : Option T → Type 0) (raw : R) (party : ℕ) (answer : Option T) (level : LevelView R T) → IsNewLevel raw party level
      → tried answer → (given : T) × (answer ≡ Some given) × HasToken given level.call.step → TriedFor tried raw party (Some level)
  tried_first tried raw party answer level is did from =
      (is, by_token tried from.0 level.call.step (subst tried from.1 did) from.2)

  pub refused_first : (tried : Option T → Type 0) (raw : R) (party : ℕ) (answer : Option T) → IsNoOwner T raw party → tried answer
      → (answer ≡ None) ⊎ FoundOwner T raw → TriedFor {R = R} {T = T} tried raw party None
  refused_first tried raw party answer other did (inl none) = (other, inl (subst tried none did))
  refused_first tried raw party answer other did (inr found) = (other, inr found)

  pub tried_level : (tried : Option T → Type 0) (is_own : R → T → Bool) (raw : R) (party : ℕ) (got : Option (LevelView R T)) (answer : Bool)
      → TriedFor tried raw party got → AnswersLevel is_own got answer → TriedLevel tried is_own raw party answer
  tried_level tried is_own raw party None answer did says = subst (TriedLevel tried is_own raw party) (sym says) did
  tried_level tried is_own raw party (Some level) answer did says =
      let kept = says.1 in
      let gained = subst (λ r. Gained (λ token. is_own r token ≡ true) level.party kept.0.call.step) did.0.same_raw kept.0.gained in
      subst (TriedLevel tried is_own raw party) (sym says.0) (
        record {
          call = kept.0.call;
          on = kept.0.on ∙ did.0.same_raw;
          gained = subst (λ p. Gained (λ token. is_own raw token ≡ true) p kept.0.call.step) did.0.same_party gained;
        },
        subst (λ (c : CallView (Snapshot R) T). ByTry tried c.step) (sym kept.1) did.1,
      )
