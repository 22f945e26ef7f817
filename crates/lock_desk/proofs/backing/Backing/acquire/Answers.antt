use Rattle.std.proofs.Common.{◌≡◌, false, refl, sym, ap, subst, ◌∙◌}
use Rattle.lock_modes.specs.Kind.{is_reentrant}
use Rattle.lock_modes.specs.Party.{id_of}
use Rattle.lock_modes.specs.Modes.{admits}
use Rattle.lock_modes.specs.Tokens.{bag_of_tokens}
use Rattle.lock_desk.proofs.Backed.{room_bag, room_fits, serves_level, serves_token, admitted_level, admitted_token}
use Rattle.lock_machine.specs.Register.{token_limit}
use Rattle.lock_desk.specs.Backing.{HasRoom}
use Rattle.lock_desk.proofs.backing.Backing.acquire.Goals as goal

pub add_level-requires-clause-backed : goal.add_level-requires-clause-backed
add_level-requires-clause-backed g c =
    let nested = sym (ap (λ t. is_reentrant t.kind) c.self.view_is) ∙ sym c.is_reentrant.ensures ∙ c.if-is_reentrant.true in
    room_bag _ nested c.requires.room

pub returns-then-add_level-clause-taken : goal.returns-then-add_level-clause-taken
returns-then-add_level-clause-taken g c =
    let nested = sym (ap (λ t. is_reentrant t.kind) c.self.view_is) ∙ sym c.is_reentrant.ensures ∙ c.if-is_reentrant.true in
    serves_level _ _ _ _ nested c.add_level.ensures.limits
    (sym c.add_level.ensures.admitted ∙ c.if-add_level.true) c.if-add_level.ensures.entered c.add_level.ensures.still_backed

pub returns-then-add_level-clause-admitted : goal.returns-then-add_level-clause-admitted
returns-then-add_level-clause-admitted g c = λ places last slots b.
    let nested = sym (ap (λ t. is_reentrant t.kind) c.self.view_is) ∙ sym c.is_reentrant.ensures ∙ c.if-is_reentrant.true in
    admitted_level _ (id_of c.args.party) c.args.mode places last slots _ nested (sym c.if-add_level.true ∙ c.add_level.ensures.admitted) b

pub returns-else-add_level-clause-admitted : goal.returns-else-add_level-clause-admitted
returns-else-add_level-clause-admitted g c = λ places last slots b.
    let nested = sym (ap (λ t. is_reentrant t.kind) c.self.view_is) ∙ sym c.is_reentrant.ensures ∙ c.if-is_reentrant.true in
    admitted_level _ (id_of c.args.party) c.args.mode places last slots _ nested (sym c.if-add_level.false ∙ c.add_level.ensures.admitted) b

pub admit_ignoring_bar-requires : goal.admit_ignoring_bar-requires
admit_ignoring_bar-requires g c =
    room_fits _ (sym c.is_reentrant.ensures ∙ c.if-is_reentrant.false) (subst (λ t. HasRoom t) (sym c.self.view_is) c.requires.room)

pub returns-in_err-token-clause-admitted : goal.returns-in_err-token-clause-admitted
returns-in_err-token-clause-admitted g c = λ places last slots b.
    let alone = sym c.is_reentrant.ensures ∙ c.if-is_reentrant.false in
    let refused : false ≡ admits (token_limit c.self.inside.kind c.self.inside.levels.limit)
    (bag_of_tokens (g.R.RawState.tokens c.self.inside.raw)) c.args.mode =
    c.in_err-token.ensures.admitted
    ∙ ap (λ n. admits n (bag_of_tokens (g.R.RawState.tokens c.self.inside.raw)) c.args.mode) c.self.invariant in
    rw c.from_residual.ensures (admitted_token false (id_of c.args.party) c.args.mode places last slots _ _ c.self.view_is alone refused b)

pub returns-clause-admitted : goal.returns-clause-admitted
returns-clause-admitted g c = λ places last slots b.
    let alone = sym c.is_reentrant.ensures ∙ c.if-is_reentrant.false in
    let granted = c.in_ok-token.ensures.admitted
    ∙ ap (λ n. admits n (bag_of_tokens (g.R.RawState.tokens c.self.inside.raw)) c.args.mode) c.self.invariant in
    admitted_token _ (id_of c.args.party) c.args.mode places last slots _ _ c.self.view_is alone granted b

pub returns-clause-taken : goal.returns-clause-taken
returns-clause-taken g c =
    let alone = sym c.is_reentrant.ensures ∙ c.if-is_reentrant.false in
    let granted = c.in_ok-token.ensures.admitted
    ∙ ap (λ n. admits n (bag_of_tokens (g.R.RawState.tokens c.self.inside.raw)) c.args.mode) c.self.invariant in
    serves_token (id_of c.args.party) c.args.mode _ _ _ _ c.self.view_is alone
    (record { kind = refl; limit = refl; capacity = c.admit_ignoring_bar.ensures.capacity_kept; barred = c.admit_ignoring_bar.ensures.bar_kept }) refl
    (sym granted) c.in_ok-token.ensures.added
