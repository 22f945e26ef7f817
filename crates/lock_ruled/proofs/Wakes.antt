-- Each kind of step of a user keeps the rule by which no sleeping user is forgotten.
use Rattle.std.proofs.Common.{◌≡◌, ◌≢◌, ℕ, ◌+◌, ◌≤◌, ◌⊎◌, inl, inr, List, [], ◌∷◌, ◌++◌, set, sym, ap, subst, ◌∙◌, ⊎_elim, arith, suc-ne-zero}
use mathlib.Core.Option.{some, some-injective}
use mathlib.Core.Logic.{dite}
use native.Mathlib.Decide.{ℕ_discrete}
use lib.ListN.{get_elem?}
use Rattle.atomic_table.proofs.Lists.{at_set, at_snoc, at_longer, set_else}
use Rattle.lock_ruled.specs.declared.rule.UserStage.{UserStage}
use Rattle.lock_ruled.specs.declared.rule.UserStage.TheVariants.{Free}
use Rattle.lock_ruled.specs.declared.rule.UserView.{UserView}
use Rattle.lock_ruled.specs.SleepingUsers.{awaited, last_epoch, IsAsleep, IsDue, watched, SomeoneIsDue, KeepsWakes, ForgetsNoUser}
use Rattle.lock_ruled.proofs.Views.{set_at}

module _ {T V : Type 0} where
  -- someone is still due where the one who changed is due if it was
  due_after : (epoch : ℕ) (views : List (UserView T V)) (id : ℕ) (u w : UserView T V) → get_elem? views id ≡ some u
      → (IsDue epoch u.stage → IsDue epoch w.stage) → SomeoneIsDue epoch views → SomeoneIsDue epoch (set views id w)
  due_after epoch views id u w at still someone =
      dite (ℕ_discrete someone.number id)
      (λ e.
      let found : get_elem? views id ≡ some someone.user = subst (λ (n : ℕ). get_elem? views n ≡ some someone.user) e someone.is in
      let same : someone.user ≡ u = some-injective someone.user u (sym found ∙ at) in
      record {
        number = id;
        user = w;
        is = set_at views id u w at;
        due = still (subst (λ (x : UserView T V). IsDue epoch x.stage) same someone.due);
      })
      (λ other. record {
        number = someone.number;
        user = someone.user;
        is = set_else views id someone.number w other ∙ someone.is;
        due = someone.due;
      })

  -- a step of one user that leaves the epoch
  pub changes : (word new epoch : ℕ) (views : List (UserView T V)) (id : ℕ) (u w : UserView T V) → get_elem? views id ≡ some u
      → KeepsWakes word epoch views → watched w.stage ≤ epoch → (IsDue epoch u.stage → IsDue epoch w.stage)
      → (IsAsleep epoch w.stage → new ≡ awaited) → (word ≡ awaited → (new ≡ awaited) ⊎ IsDue epoch w.stage)
      → KeepsWakes new epoch (set views id w)
  changes word new epoch views id u w at kept past still own others =
      record {
        within = λ k x e. ⊎_elim
            (λ (here : (k ≡ id) × (w ≡ x)). subst (λ (y : UserView T V). watched y.stage ≤ epoch) here.1 past)
            (λ (there : (k ≢ id) × (get_elem? views k ≡ some x)). kept.within k x there.1) (at_set views id k w x e);
        none_forgotten = λ k x e asleep. ⊎_elim
            (λ (here : (k ≡ id) × (w ≡ x)). inl (own (subst (λ (y : UserView T V). IsAsleep epoch y.stage) (sym here.1) asleep)))
            (λ (there : (k ≢ id) × (get_elem? views k ≡ some x)). ⊎_elim
            (λ (was : word ≡ awaited). ⊎_elim (λ (now : new ≡ awaited). inl now)
            (λ (due : IsDue epoch w.stage). inr record { number = id; user = w; is = set_at views id u w at; due = due }) (others was))
            (λ (someone : SomeoneIsDue epoch views). inr (due_after epoch views id u w at still someone))
            (kept.none_forgotten k x there.1 asleep))
            (at_set views id k w x e);
      }

  -- the word stays, and the user who changed does not sleep
  pub moves : (word epoch : ℕ) (views : List (UserView T V)) (id : ℕ) (u w : UserView T V) → get_elem? views id ≡ some u
      → KeepsWakes word epoch views → watched w.stage ≤ epoch → (IsDue epoch u.stage → IsDue epoch w.stage)
      → (IsAsleep epoch w.stage → ⊥) → KeepsWakes word epoch (set views id w)
  moves word epoch views id u w at kept past still awake =
      changes word word epoch views id u w at kept past still (λ asleep. absurd (awake asleep)) (λ is. inl is)

  -- the user was not due, and does nothing now
  pub frees : (word epoch : ℕ) (views : List (UserView T V)) (id : ℕ) (u w : UserView T V) → get_elem? views id ≡ some u
      → KeepsWakes word epoch views → (IsDue epoch u.stage → ⊥) → w.stage ≡ Free → KeepsWakes word epoch (set views id w)
  frees word epoch views id u w at kept not_due free =
      moves word epoch views id u w at kept (subst (λ (st : UserStage T). watched st ≤ epoch) (sym free) (omega arith))
      (λ due. absurd (not_due due)) (λ asleep. let e = sym free ∙ asleep.0 in cc)

  -- nobody sleeps at this epoch
  nobody_sleeps : (word epoch : ℕ) (views : List (UserView T V))
      → ((k : ℕ) (x : UserView T V) → get_elem? views k ≡ some x → watched x.stage ≤ epoch)
      → ((k : ℕ) (x : UserView T V) → get_elem? views k ≡ some x → IsAsleep epoch x.stage → ⊥) → KeepsWakes word epoch views
  nobody_sleeps word epoch views past nobody =
      record { within = past; none_forgotten = λ k x e asleep. absurd (nobody k x e asleep) }

  -- the views after a user has nothing more to do
  within_after : (epoch : ℕ) (views : List (UserView T V)) (id : ℕ) (w : UserView T V) → w.stage ≡ Free
      → ((k : ℕ) (x : UserView T V) → get_elem? views k ≡ some x → watched x.stage ≤ epoch)
      → (k : ℕ) (x : UserView T V) → get_elem? (set views id w) k ≡ some x → (watched x.stage ≤ epoch)
  within_after epoch views id w free within k x e =
      ⊎_elim
      (λ (here : (k ≡ id) × (w ≡ x)). subst (λ (y : UserView T V). watched y.stage ≤ epoch) here.1
      (subst (λ (st : UserStage T). watched st ≤ epoch) (sym free) (omega arith)))
      (λ (there : (k ≢ id) × (get_elem? views k ≡ some x)). within k x there.1) (at_set views id k w x e)

  -- the epoch ends, so nobody sleeps at the next one
  pub ends : (word epoch : ℕ) (views : List (UserView T V)) (id : ℕ) (w : UserView T V) → KeepsWakes word epoch views
      → w.stage ≡ Free → KeepsWakes word (epoch + 1) (set views id w)
  ends word epoch views id w kept free =
      let within = within_after epoch views id w free kept.within in
      nobody_sleeps word (epoch + 1) (set views id w) (λ k x e. let past = within k x e in omega arith)
      (λ k x e asleep. let past = within k x e in let later = ap watched asleep.0 in omega arith)

  -- at the last epoch nobody sleeps
  pub finds_last : (word epoch : ℕ) (views : List (UserView T V)) (id : ℕ) (w : UserView T V) → KeepsWakes word epoch views
      → last_epoch ≤ epoch → w.stage ≡ Free → KeepsWakes word epoch (set views id w)
  finds_last word epoch views id w kept last free =
      nobody_sleeps word epoch (set views id w) (within_after epoch views id w free kept.within)
      (λ k x e asleep. let early = asleep.1 in omega arith)

  -- one more user, which does nothing yet
  pub newcomer : (word epoch : ℕ) (views : List (UserView T V)) (w : UserView T V) → KeepsWakes word epoch views → w.stage ≡ Free
      → KeepsWakes word epoch (views ++ w ∷ [])
  newcomer word epoch views w kept free =
      record {
        within = λ k x e. ⊎_elim (λ (old : get_elem? views k ≡ some x). kept.within k x old)
            (λ (new : w ≡ x). subst (λ (y : UserView T V). watched y.stage ≤ epoch) new
            (subst (λ (st : UserStage T). watched st ≤ epoch) (sym free) (omega arith)))
            (at_snoc views w x k e);
        none_forgotten = λ k x e asleep. ⊎_elim
            (λ (old : get_elem? views k ≡ some x). ⊎_elim (λ (is : word ≡ awaited). inl is)
            (λ (someone : SomeoneIsDue epoch views). inr record {
              number = someone.number;
              user = someone.user;
              is = at_longer views (w ∷ []) someone.number someone.user someone.is;
              due = someone.due;
            })
            (kept.none_forgotten k x old asleep))
            (λ (new : w ≡ x). (let is = sym free ∙ (ap (λ (y : UserView T V). y.stage) new ∙ asleep.0) in cc))
            (at_snoc views w x k e);
      }

  pub forgets_no_user : (word epoch : ℕ) (views : List (UserView T V)) → KeepsWakes word epoch views
      → ForgetsNoUser word epoch views
  forgets_no_user word epoch views kept =
      record {
        none_forgotten = kept.none_forgotten;
        free = λ k x e asleep free. ⊎_elim (λ (is : word ≡ awaited). absurd (suc-ne-zero 1 (sym is ∙ free)))
            (λ (someone : SomeoneIsDue epoch views). someone) (kept.none_forgotten k x e asleep);
        at_rest = λ k x e asleep nobody. ⊎_elim (λ (is : word ≡ awaited). is)
            (λ (someone : SomeoneIsDue epoch views). absurd (nobody someone)) (kept.none_forgotten k x e asleep);
      }
