use Rattle.std.proofs.lemmas.Bool.{OnTrue_at}
use Rattle.lock_modes.specs.declared.mode_step.ModeStep.TheVariants.{Release}
use Rattle.lock_modes.proofs.TokenSteps.{releases}
use Rattle.lock_raws_monitor.proofs.JournalLemmas.{recording_stepped}
use Rattle.lock_raws_monitor.proofs.recording_arbiter.RecordingArbiterArbiter.give_back.Goals as goal

pub invariant_of-self-2 : goal.invariant_of-self-2
invariant_of-self-2 g c =
    let e = c.give_back.ensures in
    let was_out = c.if-not-give_back.false in
    recording_stepped (Release c.args.mode) c.self.invariant
    (releases (g.A.Arbiter.reader_limit c.self.inside.arbiter) c.args.mode (e.was_out.0 was_out) (OnTrue_at was_out e.removed))
    e.limit_kept c.write.ensures
