-- The rows so far have the programs with their numbers.
use Rattle.std.proofs.Common.{◌≡◌, get_or, map, take, []}
use Rattle.plan_text.proofs.alike.rows_of.Given as goal

abbrev pub invariant-loop-number : goal.invariant-loop-number
invariant-loop-number l = map (λ v. v.items) l.rows.items
    ≡ map (λ number. get_or (map (λ v. v.items) l.programs) number []) (take l.number-index l.numbers)
