use Rattle.std.proofs.Common.{rules, sym, ap, ◌∙◌}
use Rattle.lock_word.specs.CallerView.{Lock, CallerView}
use Rattle.lock_word.proofs.SeatKeeps.{loads}
use Rattle.lock_word.proofs.seated.lock.SeatedLock.load.Goals as goal

pub load-requires : goal.load-requires
load-requires c = (
  ap (λ (l : Lock). l.id) (ap (λ (p : CallerView). p.lock) c.party.view_is ∙ c.requires ∙ sym c.self.view_is),
  search rules,
  loads _ _ _ _,
)
