-- The answers so far are the first replies of the `Desk`.
use Rattle.std.proofs.Common.{◌≡◌, ℕ, ℤ, ◌≤◌, Bool, true, false, if◌then◌else◌, List, [], ◌∷◌, ◌++◌, length, map, take, get_or, refl, ◌∙◌, rules}
use Rattle.std.specs.Prelude.{All, IfSome, Option, None, Some, is_some}
use Rattle.std.specs.List.{slice_get}
use Rattle.std.proofs.lemmas.List.{take_more, take_all, map-append, length_push}
use Rattle.std.proofs.lemmas.Option.{slice_get_within, get_or_from_slice_get}
use Rattle.lock_machine.specs.declared.reply.Reply.{Reply}
use Rattle.lock_conform.specs.declared.comparison.Comparison.{Comparison}
use Rattle.lock_conform.specs.declared.report.Difference.{Difference}
use Rattle.lock_conform.specs.declared.report.ReportEntry.{ReportEntry}
use Rattle.lock_conform.specs.Done.{lines_done}
use Rattle.lock_conform.specs.Entries.{replies_of, IsSilentIfRefused}

-- so they are with the next reply
pub one_more : (entries : List ReportEntry) (replies : List (Reply ℤ)) (entry : ReportEntry)
    → replies_of entries ≡ take (length entries) replies
    → slice_get replies (length entries) ≡ Some entry.reply
    → replies_of (entries ++ entry ∷ []) ≡ take (length (entries ++ entry ∷ [])) replies
one_more entries replies entry first next =
    rw (
      length_push entries entry,
      map-append (λ e. e.reply) entries (entry ∷ []),
      first,
      take_more replies (length entries) entry.reply (slice_get_within _ _ _ next),
      get_or_from_slice_get replies (length entries) entry.reply entry.reply next,
    ) refl

-- if as many are answered as there are replies, they are all the replies
pub all_answered : (entries : List ReportEntry) (replies : List (Reply ℤ))
    → replies_of entries ≡ take (length entries) replies → length replies ≤ length entries
    → replies_of entries ≡ replies
all_answered entries replies first enough = first ∙ take_all (length entries) replies enough

pub all_silent : (entries : List ReportEntry) → All IsSilentIfRefused entries
all_silent entries k d within = (get_or entries k d).silent

-- they are with the next reply, if there is memory for it
pub one_more_if : (is_pushed : Bool) (entries new : List ReportEntry) (replies : List (Reply ℤ)) (entry : ReportEntry)
    → new ≡ (if is_pushed then entries ++ entry ∷ [] else entries)
    → replies_of entries ≡ take (length entries) replies
    → slice_get replies (length entries) ≡ Some entry.reply
    → replies_of new ≡ take (length new) replies
one_more_if true entries new replies entry pushed first next = rw pushed (one_more entries replies entry first next)
one_more_if false entries new replies entry pushed first next = rw pushed first

-- without a difference there is none to be at a call
pub no_difference : (found : Option Difference) (P : Difference → Type 0) → is_some found ≡ false → ∥ IfSome found P ∥₁
no_difference None P none = ∣ tt ∣₁
no_difference (Some difference) P none = search rules

-- without a difference the lines that are done are answered
pub done_if_none : (found : Option Difference) (n all answered : ℕ) → n ≤ (if is_some found then all else answered)
    → found ≡ None → n ≤ answered
done_if_none None n all answered done none = done
done_if_none (Some difference) n all answered done none = let same : Some difference ≡ None = none in cc

-- if all lines are done without a difference, the answers are all the replies
pub all_done : (c : Comparison) → length c.lines.replies.items ≤ lines_done c → c.difference ≡ None
    → replies_of c.entries.items ≡ c.lines.replies.items
all_done c done none = all_answered c.entries.items c.lines.replies.items c.first
    (done_if_none c.difference (length c.lines.replies.items) (length c.lines.replies.items) (length c.entries.items) done none)
