use Rattle.std.proofs.Common.{rules, Some, ◌∷◌, sym, ◌∙◌}
use Rattle.atomic_table.specs.Table.{rest}
use Rattle.lock_ruled.proofs.mutex.RuledMutex.guard_of.Goals as goal

pub exchange-requires : goal.exchange-requires
exchange-requires g c =
    let value = c.requires.out.0 in
    let carries = c.requires.out.1.1 in
    (search rules, (Some value, carries ∙ sym (λ i. (0, Some value) ∷ rest (carries i))))
