use Rattle.std.proofs.Common.{◌≡◌, ◌∙◌, sym, arith}
use Rattle.std.proofs.lemmas.Fmt.{decimal_injective}
use Rattle.lock_script.proofs.call.party.Goals as goal

-- a number has one text
pub returns-clause-some : goal.returns-clause-some
returns-clause-some c = (
  λ some. (c.in_ok-id.id, (c.new.ensures.some.0 some, (omega arith, c.in_ok-id.ensures.text))),
  λ found.
      let same : found.0 ≡ c.in_ok-id.id
      = decimal_injective found.0 c.in_ok-id.id found.1.1.0 (omega arith)
      (found.1.1.1 ∙ sym c.in_ok-id.ensures.text) in
      c.new.ensures.some.1 (omega arith),
)
