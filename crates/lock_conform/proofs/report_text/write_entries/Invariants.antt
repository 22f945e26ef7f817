-- The entries so far, and what is left of them, are all.
use Rattle.std.proofs.Common.{◌≡◌, ◌++◌, drop, string_bytes}
use Rattle.std.specs.List.{flat_map}
use Rattle.lock_conform.specs.Texts.{entry_text}
use Rattle.lock_conform.proofs.report_text.write_entries.Given as goal

abbrev pub invariant-loop-entry : goal.invariant-loop-entry
invariant-loop-entry l =
    string_bytes l.text ++ flat_map (entry_text l.prints_calls) (drop l.entry-index l.entries)
    ≡ string_bytes l.initial.text ++ flat_map (entry_text l.prints_calls) l.entries
