-- The calls so far, and what is left of them, are all.
use Rattle.std.proofs.Common.{◌≡◌, ◌++◌, drop, string_bytes}
use Rattle.std.specs.List.{flat_map}
use Rattle.lock_recorder.specs.RawCalls.{raw_call_line}
use Rattle.lock_conform.proofs.report_text.write_raw_calls.Given as goal

abbrev pub invariant-loop-call : goal.invariant-loop-call
invariant-loop-call l =
    string_bytes l.text ++ flat_map raw_call_line (drop l.call-index l.calls)
    ≡ string_bytes l.initial.text ++ flat_map raw_call_line l.calls
