use Rattle.std.proofs.Common.{◌∙◌}
use Rattle.lock_script.proofs.Blocks.{block_told}
use Rattle.lock_script.proofs.session.write_calls.Goals as goal

pub loop-rest-preserved : goal.loop-rest-preserved
loop-rest-preserved g c =
    block_told _ _ _ c.loop-rest.desk c.run.new.self c.loop-rest.rest.now c.split_at.result.0.now c.split_at.result.1.now c.as_slice.result.now
    c.split_at.ensures.by_index.0 (c.as_slice.ensures.value ∙ c.in_ok-replies.ensures.replies) c.in_ok-replies.ensures.machine
    c.in_ok-write_replies.ensures c.loop-rest.invariant
