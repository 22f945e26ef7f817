use Rattle.std.proofs.Common.{false, None, arith, refl, sym, ap, ◌∙◌}
use Rattle.lock_states.specs.Places.{mode_in}
use Rattle.lock_states.proofs.TableTokens.{tells_out, found_in, found_free}
use Rattle.lock_states.proofs.PlaceChains.{found_at, nothing_past}
use Rattle.lock_states.proofs.table.TokenTableObservableState.out.Goals.{in-Taken, in-Free}
use Rattle.lock_states.proofs.table.TokenTableObservableState.out.Goals as goal

pub returns-then-token-len-clause-out : goal.returns-then-token-len-clause-out
returns-then-token-len-clause-out c =
    let places = ap (λ t. t.places) c.self.view_is in
    tells_out c.args.self.now.places c.args.token.now c.args.mode None false
    (nothing_past c.self.inside.places.places _ c.args.token.now.place places (omega (arith, c.len.ensures, c.if-token-len.true))) refl

pub returns-clause-out : goal.returns-clause-out
returns-clause-out c =
    let places = ap (λ t. t.places) c.self.view_is in
    let found = sym (found_at c.self.inside.places.places _ c.args.token.now.place c.read.result places c.read.ensures.value) in
    elim c.match-read.branch [
      | in-Taken w ↦ tells_out c.args.self.now.places c.args.token.now c.args.mode
          (mode_in c.read.result) c.match-read.result found
          (found_in c.args.mode (ap mode_in w.in-Taken.is) (w.result-is ∙ w.eq.ensures))
      | in-Free w ↦ tells_out c.args.self.now.places c.args.token.now c.args.mode
          (mode_in c.read.result) c.match-read.result found
          (w.result-is ∙ found_free c.args.mode (ap mode_in w.in-Free.is))
    ]
