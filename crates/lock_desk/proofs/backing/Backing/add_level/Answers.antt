use Rattle.std.proofs.Common.{◌<◌, sym, ap, ◌∙◌, subst}
use Rattle.lock_modes.specs.Party.{id_of}
use Rattle.lock_desk.specs.Owners.{may_add_level}
use Rattle.lock_desk.specs.Backing.{HasTokenOfOwner}
use Rattle.lock_desk.proofs.Owned.{again_admits, not_some}
use Rattle.lock_desk.proofs.Backed.{no_owner}
use Rattle.lock_desk.proofs.backing.Backing.add_level.Goals as goal

pub returns-then-is_owned-clause-admitted : goal.returns-then-is_owned-clause-admitted
returns-then-is_owned-clause-admitted g c =
    c.unwrap_or.ensures
    ∙ again_admits c.self.inside.levels c.again.new.self (id_of c.args.party) c.again.result
    (c.is_owned.ensures.owned.0 c.if-is_owned.true) c.is_owned.ensures.lawful c.again.ensures.full
    c.again.ensures.more
    ∙ ap (λ t. may_add_level t.levels.limit (id_of c.args.party) t.levels.owner) c.self.view_is

pub admit_ignoring_bar-requires : goal.admit_ignoring_bar-requires
admit_ignoring_bar-requires g c =
    let backed = subst HasTokenOfOwner (sym c.self.view_is) c.requires.backed in
    let none = no_owner _ _ (not_some c.self.inside.levels.owner (rw c.if-is_owned.false at c.is_owned.ensures.owned.1)) backed in
    rw none (subst (λ t. 0 < t.capacity) (sym c.self.view_is) c.requires.room)

pub unreachable-requires : goal.unreachable-requires
unreachable-requires g c =
    let backed = subst HasTokenOfOwner (sym c.self.view_is) c.requires.backed in
    let none = no_owner _ _ (not_some c.self.inside.levels.owner (rw c.if-is_owned.false at c.is_owned.ensures.owned.1)) backed in
    let e = c.in_default.ensures.admitted in
    let t = rw none at e in
    cc
