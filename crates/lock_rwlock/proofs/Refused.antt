-- What a refused upgrade leaves: the same guard.
use Rattle.std.proofs.Common.{◌≡◌, true, refl, ap, ◌∙◌, Option, Some, None, Result, Ok, Err}
use Rattle.std.specs.Prelude.{IfErr, IfNone, is_some, is_ok}
use Rattle.lock_guard.specs.declared.guard.inner.Inner.{Inner}
use Rattle.lock_guard.specs.declared.guard.inner.Inner.TheVariants.{Filled}
use Rattle.lock_guard.specs.declared.guard.held.Held.{Held}
use Rattle.lock_guard.specs.declared.guard.lock.Release as release
use Rattle.lock_guard.specs.Held.{same_held_at}
use Rattle.lock_guard.specs.Inner.{is_filled, owns}

module _ {L V K W X : Type 0} {r : release.Ghosts L K W} {g : _} where
  -- the held lock with another inner part
  abbrev pub with_inner : (held : Held L V K W X r g) (inner : Inner K V) → is_filled inner ≡ true
      → owns (r.is_own held.lock) inner ≡ true → Held L V K W X r g
  with_inner held inner filled own = record { lock = held.lock; inner = inner; filled = filled; own = own }

  -- where the upgrade was refused, the token that was taken out is back, and the guard `one held` is the same
  pub same_if_refused : {G U E : Type 0} (one : Held L V K W X r g → G) (held : Held L V K W X r g) (inner : Inner K V)
      (filled : is_filled inner ≡ true) (own : owns (r.is_own held.lock) inner ≡ true)
      (answer : Option U) (upgraded : Result E K) {token : K} {shown : V}
      → Filled token shown ≡ held.inner → is_some answer ≡ is_ok upgraded
      → IfErr upgraded (λ back. back ≡ token) → IfErr upgraded (λ back. inner ≡ Filled back shown)
      → IfNone answer (one (with_inner held inner filled own) ≡ one held)
  same_if_refused one held inner filled own (Some answer) upgraded taken is back put = tt
  same_if_refused one held inner filled own None (Ok token) taken is back put = cc
  same_if_refused one held inner filled own None (Err token) {shown = shown} taken is back put =
      ap one (same_held_at (with_inner held inner filled own) held refl (put ∙ ap (λ k. Filled k shown) back ∙ taken))

  -- the guard of a held lock that was taken apart, made again with the token that is back
  pub same_with_token : {G : Type 0} (one : Held L V K W X r g → G) (made held : Held L V K W X r g) {back token : K} {shown : V}
      → made.lock ≡ held.lock → made.inner ≡ Filled back shown → back ≡ token → Filled token shown ≡ held.inner
      → one made ≡ one held
  same_with_token one made held {shown = shown} lock inner back taken =
      ap one (same_held_at made held lock (inner ∙ ap (λ k. Filled k shown) back ∙ taken))
