-- The entries of a report.
use Rattle.std.specs.Prelude.{◌≡◌, ℤ, List, [], map}
use Rattle.lock_machine.specs.declared.reply.Reply.{Reply}
use Rattle.lock_conform.specs.declared.report.ReportEntry.{ReportEntry}
use Rattle.lock_conform.specs.Refusals.{IsOutright}

-- the replies of the entries
abbrev pub replies_of : List ReportEntry → List (Reply ℤ)
replies_of entries = map (λ entry. entry.reply) entries

-- an entry of a refused call has no raw calls, unless the call would block
abbrev pub IsSilentIfRefused : ReportEntry → Type 0
IsSilentIfRefused entry = IsOutright entry.reply → entry.raw_calls.items ≡ []
