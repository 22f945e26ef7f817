use Rattle.std.proofs.Common.{◌++◌, take, arith}
use Rattle.std.proofs.lemmas.List.{length-append, length-take, length-take-le}
use Rattle.std.proofs.lemmas.Result.{err_from_is_err_and}
use Rattle.std.proofs.KnownBytes.{Consumes-kept, Consumes-trans}
use Rattle.script_text.proofs.reading.read_script.Goals as goal

pub returns-in_err-count-clause-fault : goal.returns-in_err-count-clause-fault
returns-in_err-count-clause-fault g c =
    let told = err_from_is_err_and c.from_residual.result c.from_residual.ensures.1 in
    rw (told.1, told.2, c.in_err-count.ensures.fault)
    (c.loop.script.items, (Consumes-kept _ _ _ c.loop.script.items c.loop.invariant.1 c.in_err-count.ensures.kept, omega arith))

pub returns-in_err-keep-clause-fault : goal.returns-in_err-keep-clause-fault
returns-in_err-keep-clause-fault g c =
    let told = err_from_is_err_and c.from_residual-in_err-keep.result c.from_residual-in_err-keep.ensures.1 in
    let read = take c.in_ok-count.count c.read_once.new.chunk in
    let count = c.in_ok-count.ensures.bound in
    let taken = length-take-le c.in_ok-count.count c.read_once.new.chunk count in
    let room = length-take c.min-room.result c.loop.chunk in
    rw (told.1, told.2, c.in_err-keep.ensures.fault) (
      c.loop.script.items ++ read,
      (
        Consumes-trans _ _ _ c.loop.script.items read c.loop.invariant.1 c.in_ok-count.ensures.read,
        rw (length-append c.loop.script.items read) (omega (arith, c.read_once.auto.chunk)),
      ),
    )
