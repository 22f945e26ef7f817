use Rattle.std.proofs.Common.{arith}
use Rattle.std.proofs.lemmas.List.{take_rest}
use Rattle.script_text.proofs.KnownStreams.{Appends-take}
use Rattle.script_text.proofs.writing.put.Goals as goal

pub loop-preserved : goal.loop-preserved
loop-preserved g c = (
  omega (arith, c.in_ok-written.ensures.bound),
  Appends-take _ _ _ c.as_bytes-bytes.result.now c.loop.written c.in_ok-written.field-0 c.loop.invariant.1
      (rw take_rest at c.in_ok-written.ensures.written),
)
