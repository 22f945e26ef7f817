-- One step of the machine for each call, and runs of calls.
use Rattle.std.specs.Prelude.{List, [], ◌∷◌, Option, Some, None, Result, Ok, Err}
use Rattle.lock_machine.specs.declared.call.Form.{Form}
use Rattle.lock_machine.specs.declared.call.Form.TheVariants.{Block, Try, For, Until}
use Rattle.lock_machine.specs.declared.call.Call.{Call}
use Rattle.lock_machine.specs.declared.reply.Reply.{Reply}
use Rattle.lock_modes.specs.declared.fault.Fault.{Fault}
use Rattle.lock_machine.specs.Operation.{Operation}
use Rattle.lock_modes.specs.Party.{id_of}
use Rattle.lock_machine.specs.Machine.{Machine}
use Rattle.lock_machine.specs.Calls.{CallEffect, blocking_answer, acquire, unlock, park, resume, abandon, bump, upgrade, downgrade, downgrade_to_upgradable, with_upgraded, ask, change, is_locked, is_locked_exclusive, is_owned_by, announce, withdraw, is_barred}

-- the reply to a call, and the machine after it
pub record Response (A T : Type 0) : Type 0 where
  pub reply : Reply A
  pub machine : Machine T

module _ {R A : Type 0} where
  abbrev pub reply_of : (R → Reply A) → Result R Fault → Reply A
  reply_of reply_for (Ok answer) = reply_for answer
  reply_of reply_for (Err fault) = Reply.Refused fault

module _ {R A : Type 0} where
  abbrev pub reply_or_none : (R → Reply A) → Option R → Reply A
  reply_or_none reply_for (Some answer) = reply_for answer
  reply_or_none reply_for None = Reply.NoGuard

  -- where a call is not admitted, the blocking form is refused and the other forms answer `NoGuard`
  abbrev pub reply_in_form : Form → (R → Reply A) → Result (Option R) Fault → Reply A
  reply_in_form Block reply_for answer = reply_of reply_for (blocking_answer answer)
  reply_in_form Try reply_for answer = reply_of (reply_or_none reply_for) answer
  reply_in_form For reply_for answer = reply_of (reply_or_none reply_for) answer
  reply_in_form Until reply_for answer = reply_of (reply_or_none reply_for) answer

module _ {R A T : Type 0} where
  abbrev pub response_of : (R → Reply A) → CallEffect R T → Response A T
  response_of reply_for turn = record { reply = reply_of reply_for turn.answer; machine = turn.machine }

  abbrev pub response_in_form : Form → (R → Reply A) → CallEffect (Option R) T → Response A T
  response_in_form form reply_for turn =
      record { reply = reply_in_form form reply_for turn.answer; machine = turn.machine }

-- the reply of a call without an answer
abbrev pub done_reply : {A : Type 0} → Unit {0} → Reply A
done_reply _ = Reply.Done

module _ {O T A : Type 0} (meaning : O → Operation T A) where
  -- one call
  abbrev pub step : Machine T → Call O → Response A T
  step m (Call.Acquire want form party) = response_in_form form Reply.Guard (acquire m want (id_of party))
  step m (Call.Unlock party guard way) = response_of done_reply (unlock m (id_of party) guard)
  step m (Call.Park party guard) = response_of done_reply (park m (id_of party) guard)
  step m (Call.ParkFair party guard) = response_of done_reply (park m (id_of party) guard)
  step m (Call.Resume party guard) = response_of done_reply (resume m (id_of party) guard)
  step m (Call.Abandon party guard) = response_of done_reply (abandon m (id_of party) guard)
  step m (Call.Bump party guard) = response_of done_reply (bump m (id_of party) guard)
  step m (Call.Upgrade form party guard) = response_in_form form done_reply (upgrade m (id_of party) guard)
  step m (Call.Downgrade party guard) = response_of done_reply (downgrade m (id_of party) guard)
  step m (Call.DowngradeToUpgradable party guard) =
      response_of done_reply (downgrade_to_upgradable m (id_of party) guard)
  step m (Call.WithUpgraded form party guard op) =
      response_in_form form Reply.Answer (with_upgraded m (id_of party) guard (meaning op))
  step m (Call.Get party guard op) = response_of Reply.Answer (ask m (id_of party) guard (meaning op))
  step m (Call.Change party guard op) = response_of Reply.Answer (change m (id_of party) guard (meaning op))
  step m Call.IsLocked = record { reply = Reply.Bool (is_locked m); machine = m }
  step m Call.IsLockedExclusive = response_of Reply.Bool (is_locked_exclusive m)
  step m (Call.IsOwnedBy party) = response_of Reply.Bool (is_owned_by m (id_of party))
  step m (Call.Announce party) = response_of done_reply (announce m (id_of party))
  step m (Call.Withdraw party) = response_of done_reply (withdraw m (id_of party))
  step m Call.IsBarred = response_of Reply.Bool (is_barred m)
  step m Call.Spent = record { reply = Reply.Count m.spent; machine = m }

  -- the replies to a list of calls, in order
  abbrev pub replies : Machine T → List (Call O) → List (Reply A)
  replies m [] = []
  replies m (call ∷ calls) = (step m call).reply ∷ replies (step m call).machine calls

  -- the machine after a list of calls
  abbrev pub after_all : Machine T → List (Call O) → Machine T
  after_all m [] = m
  after_all m (call ∷ calls) = after_all (step m call).machine calls
