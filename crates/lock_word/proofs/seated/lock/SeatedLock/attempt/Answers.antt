use Rattle.std.proofs.Common.{rules, sym, ap, ◌∙◌}
use Rattle.lock_word.specs.CallerView.{Lock, CallerView}
use Rattle.lock_word.proofs.SeatKeeps.{exchanges}
use Rattle.lock_word.proofs.seated.lock.SeatedLock.attempt.Goals as goal

pub compare_exchange-requires : goal.compare_exchange-requires
compare_exchange-requires c =
    let whole = c.party.view_is ∙ c.load-word.ensures.party in (
      ap (λ (p : CallerView). p.lock.id) whole ∙ ap (λ (l : Lock). l.id) (c.requires.lock ∙ sym c.self.view_is),
      search rules,
      exchanges _ c.self.inside.readers _ _ c.party.inside.seat.me c.args.want _ _ (sym c.self.invariant.1)
          (ap (λ (p : CallerView). p.state.loaded) whole) (ap (λ (p : CallerView). p.last) whole) (search rules)
          (search rules) (search rules),
    )

pub invariant_of-party-2 : goal.invariant_of-party-2
invariant_of-party-2 c =
    let now = (c.compare_exchange.ensures.2 c.self.inside.readers c.args.want (search rules) (search rules)).0 (search rules) in
    search rules
