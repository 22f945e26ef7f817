use Rattle.std.proofs.Common.{sym, subst}
use Rattle.lock_modes.specs.Limits.{IsLimit}
use Rattle.lock_raws_monitor.proofs.JournalLemmas.{new_recording}
use Rattle.lock_raws_monitor.proofs.recording_arbiter.RecordingArbiter.with_room.Goals as goal

pub invariant_of-result : goal.invariant_of-result
invariant_of-result g c =
    let made = c.in_ok-arbiter.ensures in
    new_recording c.args.entries (subst IsLimit (sym made.limit_kept) made.in_range) made.empty c.in_ok-journal.ensures.empty
