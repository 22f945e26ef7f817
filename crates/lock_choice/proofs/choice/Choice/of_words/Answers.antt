use Rattle.std.proofs.Common.{◌≡◌, ◌∷◌, rules}
use Rattle.lock_choice.proofs.choice.Choice.of_words.Goals as goal

pub returns-clause-some : goal.returns-clause-some
returns-clause-some c =
    let split : c.args.words.now ≡ c.in_ok-first.first.now ∷ c.in_ok-first.options.now = search rules in
    rw split (record { raw = search rules; known = search rules; within = c.park_by.ensures; arc = c.has.ensures; calls = c.has-2.ensures })
