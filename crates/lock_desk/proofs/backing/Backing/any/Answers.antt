use Rattle.std.proofs.Common.{not, nat_eq, length, ap, ◌∙◌}
use Rattle.lock_desk.proofs.Backed.{any_held}
use Rattle.lock_desk.proofs.backing.Backing.any.Goals as goal

pub returns-else-is_reentrant : goal.returns-else-is_reentrant
returns-else-is_reentrant g c = λ slots b. any_held _ slots _ b (c.any.ensures ∙ ap (λ t. not (nat_eq (length t.tokens) 0)) c.self.view_is)
