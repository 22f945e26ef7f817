use Rattle.std.proofs.Common.{◌≡◌, ℕ, ◌+◌, ◌*◌, ◌^◌, ◌<◌, ◌≤◌, refl, sym, ap, subst, ◌∙◌, arith, inl, inr}
use Rattle.std.proofs.lemmas.Bool.{cases_lt, false≢true}
use Rattle.std.specs.Prelude.{Option, Some, None, IfSome, IfNone, IsSome, IsNone}
use Rattle.lock_modes.specs.Levels.{Levels, free_levels, with_owner}
use Rattle.lock_modes.specs.Party.{id_of}
use Rattle.lock_remutex.specs.OwnerTables.{party_in, count_in, word_at, owned_at, IsAtHome}
use Rattle.lock_remutex.proofs.owner_table.OwnerTable.first.Goals as goal

module _ {T : Type 0} where
  -- the levels of a new owner
  first_levels : (old new : Levels T) (party : ℕ) (token : T) (back : Option T)
      → IfNone back (IsNone old.owner × (new ≡ with_owner old party token))
      → IfSome back (λ same. IsSome old.owner × (same ≡ token) × (new ≡ old))
      → (limit : ℕ) → old ≡ free_levels limit → new ≡ owned_at limit party 1 token
  first_levels old new party token None taken kept limit free =
      taken.1 ∙ ap (λ (l : Levels T). with_owner l party token) free
  first_levels old new party token (Some same) taken kept limit free =
      absurd (false≢true (subst (λ (l : Levels T). IsSome l.owner) free kept.0))

  -- they are at home under the party's word at level 1
  first_home : (fits : T → Type 0) (limit party word : ℕ) (token : T) → 0 < party → 0 < limit → fits token
      → (party < 2 ^ 32 → word ≡ word_at party 1) → (2 ^ 32 ≤ party → word ≡ 2)
      → IsAtHome fits limit word (owned_at limit party 1 token)
  first_home fits limit party word token positive range fit named large =
      elim (cases_lt party (2 ^ 32)) [
        | inl small ↦
            (let is : word ≡ party * 2 ^ 32 + 1 = named small in
            let party_is : party_in word ≡ party = omega arith in
            let count_is : count_in word ≡ 1 = omega arith in
            record {
              free = λ e. absurd (omega arith);
              large = λ e. absurd (omega arith);
              named = λ _. (
                (λ _. (omega arith, omega arith)),
                (token, ap (λ (p : ℕ). owned_at limit p 1 token) (sym party_is), fit),
              );
            })
        | inr big ↦
            (let is : word ≡ 2 = large big in
            record { free = λ e. absurd (omega arith); large = λ e. (refl, (refl, (big, fit))); named = λ e. absurd (omega arith) })
      ]

pub put-requires-clause-home : goal.put-requires-clause-home
put-requires-clause-home g c =
    let key = c.args.self.now.key in
    let fits = g.P.TokenRule.fits key.raw in
    let party = id_of c.args.party in
    let word = c.first_word-word in
    let said = c.first-back.ensures in
    let free = c.in-Ok.ensures.taken.home.free refl in
    let made = first_levels _ _ party c.args.token _ said.taken said.back key.limit free in
    let home = first_home fits key.limit party word.result c.args.token c.args.party.positive c.look-call.ensures.limit.0 c.requires word.ensures.named word.ensures.large in
    subst (IsAtHome fits key.limit word.result) (sym made) home
