use Rattle.std.proofs.Common.{refl, sym, subst}
use Rattle.lock_modes.specs.Party.{id_of}
use Rattle.lock_desk.specs.Backing.{IsHeldIn}
use Rattle.lock_desk.proofs.Backed.{held_token, held_level, releases_parked, releases_token, releases_level, tells_parked, tells_token, tells_level}
use Rattle.lock_desk.proofs.backing.Backing.release.Goals as goal

pub give_back-requires : goal.give_back-requires
give_back-requires g c = held_token _ (id_of c.args.party) _ _ c.in-Token.is
    (subst (λ t. IsHeldIn (id_of c.args.party) c.args.hold t) (sym c.self.view_is) c.requires)

pub leave-requires-clause-owned : goal.leave-requires-clause-owned
leave-requires-clause-owned g c = (held_level _ _ _ c.in-Level.is c.requires).0

pub leave-requires-clause-backed : goal.leave-requires-clause-backed
leave-requires-clause-backed g c = (held_level _ _ _ c.in-Level.is c.requires).1

pub returns-in-Parked-clause-back : goal.returns-in-Parked-clause-back
returns-in-Parked-clause-back g c = tells_parked _ c.args.self.now c.in-Parked.is

pub returns-in-Parked-clause-released : goal.returns-in-Parked-clause-released
returns-in-Parked-clause-released g c = releases_parked _ _ _ c.in-Parked.is refl

pub returns-in-Token-clause-back : goal.returns-in-Token-clause-back
returns-in-Token-clause-back g c = tells_token _ _ c.args.self.now c.in-Token.is

pub returns-in-Token-clause-released : goal.returns-in-Token-clause-released
returns-in-Token-clause-released g c =
    releases_token _ _ _ _ _ c.self.view_is c.in-Token.is
    (record {
      kind = refl;
      limit = refl;
      capacity = c.give_back.ensures.capacity_kept;
      barred = c.give_back.ensures.bar_kept;
    }) refl c.give_back.ensures.removed

pub returns-in-Level-clause-back : goal.returns-in-Level-clause-back
returns-in-Level-clause-back g c =
    tells_level _ _ _ _ c.in-Level.is c.leave.ensures.limits c.leave.ensures.left c.leave.ensures.still_backed
    c.leave.ensures.back

pub returns-in-Level-clause-released : goal.returns-in-Level-clause-released
returns-in-Level-clause-released g c = releases_level _ _ _ c.in-Level.is c.leave.ensures.limits c.leave.ensures.left c.leave.ensures.still_backed
