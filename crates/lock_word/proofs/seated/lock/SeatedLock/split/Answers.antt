use Rattle.std.proofs.Common.{rules, sym, ap, ◌∙◌}
use Rattle.lock_word.specs.CallerView.{Lock, CallerView}
use Rattle.lock_word.proofs.SeatKeeps.{parts}
use Rattle.lock_word.proofs.seated.lock.SeatedLock.split.Goals as goal

pub split_seat-other-requires : goal.split_seat-other-requires
split_seat-other-requires c = (
  ap (λ (l : Lock). l.id) (ap (λ (p : CallerView). p.lock) c.party.view_is ∙ c.requires ∙ sym c.self.view_is),
  search rules,
  parts _ _ _,
)
