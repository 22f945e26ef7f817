use Rattle.std.proofs.Common.{rules, sym, ap, ◌∙◌}
use Rattle.lock_word.specs.CallerView.{Lock, CallerView}
use Rattle.lock_word.proofs.SeatKeeps.{takes}
use Rattle.lock_word.proofs.seated.lock.SeatedLock.take.Goals as goal

pub fetch_sub-requires : goal.fetch_sub-requires
fetch_sub-requires c = (
  ap (λ (l : Lock). l.id) (ap (λ (p : CallerView). p.lock) c.party.view_is ∙ c.requires.lock ∙ sym c.self.view_is),
  search rules,
  takes _ _ _ c.party.inside.seat.me c.args.down _ (search rules) c.amount.ensures,
)
