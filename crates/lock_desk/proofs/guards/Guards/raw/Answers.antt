use Rattle.std.proofs.Common.{not, nat_eq, length, ap, ◌∙◌}
use Rattle.lock_machine.specs.Entries.{held_count}
use Rattle.lock_machine.specs.Register.{tokens_of}
use Rattle.lock_modes.specs.Tokens.{bag_of_tokens}
use Rattle.lock_desk.proofs.Backed.{any_held, bag_of_register}
use Rattle.lock_desk.proofs.guards.Guards.raw.Goals as goal

pub returns-clause-tokens : goal.returns-clause-tokens
returns-clause-tokens g c =
    ap bag_of_tokens c.raw.ensures.tokens
    ∙ bag_of_register c.self.inside.slots.capacity c.self.inside.slots.last _ _ c.self.invariant.backed ∙ ap tokens_of c.self.view_is

pub returns-clause-any : goal.returns-clause-any
returns-clause-any g c =
    any_held _ _ _ c.self.invariant.backed (ap (λ ts. not (nat_eq (length ts) 0)) c.raw.ensures.tokens)
    ∙ ap (λ h. not (nat_eq (held_count h.entries) 0)) c.self.view_is
