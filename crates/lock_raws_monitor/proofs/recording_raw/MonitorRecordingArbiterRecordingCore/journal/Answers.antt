use Rattle.std.proofs.Common.{◌≤◌, ◌∙◌, sym, subst, arith}
use Rattle.lock_modes.specs.declared.limits.TheConstants.{MAX_LIMIT}
use Rattle.lock_modes.specs.ModeRuns.{Replays}
use Rattle.lock_modes.proofs.ModeLemmas.{Replays_larger}
use Rattle.lock_raws_monitor.proofs.recording_raw.MonitorRecordingArbiterRecordingCore.journal.Goals as goal

pub returns-clause-replays : goal.returns-clause-replays
returns-clause-replays g c =
    let recording = c.journal.ensures.recording in
    let limit = c.deref.result.now.readers in
    let below : limit ≤ MAX_LIMIT = omega (arith, recording.lawful.1) in
    subst (Replays MAX_LIMIT) (sym (c.in-Ok.ensures.items ∙ c.journal.ensures.steps)) (Replays_larger limit MAX_LIMIT _ below recording.kept.replays)
