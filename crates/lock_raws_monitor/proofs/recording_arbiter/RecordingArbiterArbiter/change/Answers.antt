use Rattle.std.proofs.Common.{sym}
use Rattle.lock_modes.specs.declared.mode_step.ModeStep.TheVariants.{Change}
use Rattle.lock_modes.proofs.TokenSteps.{changes}
use Rattle.lock_raws_monitor.proofs.JournalLemmas.{recording_stepped}
use Rattle.lock_raws_monitor.proofs.recording_arbiter.RecordingArbiterArbiter.change.Goals as goal

pub invariant_of-self-2 : goal.invariant_of-self-2
invariant_of-self-2 g c =
    let e = c.in_ok-next.ensures in
    recording_stepped (Change c.args.from c.args.to) c.self.invariant
    (changes (g.A.Arbiter.reader_limit c.self.inside.arbiter) c.args.from c.args.to c.requires (sym (e.admitted e.was_out)) e.was_out e.replaced)
    e.limit_kept c.write.ensures
