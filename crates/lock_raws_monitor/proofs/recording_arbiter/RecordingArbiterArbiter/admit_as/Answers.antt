use Rattle.std.proofs.Common.{sym}
use Rattle.std.proofs.lemmas.Bool.{and_parts}
use Rattle.lock_modes.specs.declared.mode_step.ModeStep.TheVariants.{Acquire}
use Rattle.lock_modes.proofs.TokenSteps.{acquires}
use Rattle.lock_raws_monitor.proofs.JournalLemmas.{recording_stepped}
use Rattle.lock_raws_monitor.proofs.recording_arbiter.RecordingArbiterArbiter.admit_as.Goals as goal

pub invariant_of-self-2 : goal.invariant_of-self-2
invariant_of-self-2 g c =
    let e = c.in_ok-token.ensures in
    recording_stepped (Acquire c.args.mode) c.self.invariant
    (acquires (g.A.Arbiter.reader_limit c.self.inside.arbiter) c.args.mode
    (and_parts _ _ (sym e.admitted)).1 e.added)
    e.limit_kept c.write.ensures
