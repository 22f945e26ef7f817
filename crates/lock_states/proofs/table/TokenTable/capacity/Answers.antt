use Rattle.std.proofs.Common.{length, ap, sym, ◌∙◌}
use Rattle.lock_states.proofs.PlaceChains.{length-modes_in}
use Rattle.lock_states.proofs.table.TokenTable.capacity.Goals as goal

pub returns : goal.returns
returns c = c.len.ensures ∙ sym (length-modes_in c.self.inside.places.places) ∙ ap (λ t. length t.places) c.self.view_is
