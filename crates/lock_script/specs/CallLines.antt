-- The lines of calls: the words of each call.
use Rattle.std.specs.Prelude.{ℕ, ℤ, List, [], ◌∷◌, ◌++◌, codes, decimal}
use Rattle.std.specs.Fmt.{signed_decimal}
use Rattle.lock_machine.specs.declared.call.Form.{Form}
use Rattle.lock_machine.specs.declared.call.Form.TheVariants.{Block, Try, For, Until}
use Rattle.lock_machine.specs.declared.call.Want.{Want}
use Rattle.lock_machine.specs.declared.call.Want.TheVariants.{Lock, Read, Write, UpgradableRead}
use Rattle.lock_machine.specs.declared.call.Way.{Way}
use Rattle.lock_machine.specs.declared.call.Way.TheVariants.{Plain, Fair, IntoArc, IntoArcFair}
use Rattle.lock_machine.specs.declared.call.Call.{Call}
use Rattle.lock_modes.specs.declared.party.PartyId.{PartyId}
use Rattle.lock_modes.specs.Party.{id_of}
use Rattle.lock_script.specs.declared.maker.Maker.{Maker}
use Rattle.lock_script.specs.declared.pair.Pair.{Pair}
use Rattle.lock_script.specs.declared.pair.PairOp.{PairOp}
use Rattle.lock_script.specs.declared.pair.PairOp.TheVariants.{Item, Set, Add}

-- the word of a call in a form, from the word of its blocking form
abbrev pub in_form : Form → List ℕ → List ℕ
in_form Block word = word
in_form Try word = codes "try_" ++ word
in_form For word = codes "try_" ++ (word ++ codes "_for")
in_form Until word = codes "try_" ++ (word ++ codes "_until")

abbrev pub want_word : Want → List ℕ
want_word Lock = codes "lock"
want_word Read = codes "read"
want_word Write = codes "write"
want_word UpgradableRead = codes "upgradable_read"

abbrev pub way_word : Way → List ℕ
way_word Plain = codes "unlock"
way_word Fair = codes "unlock_fair"
way_word IntoArc = codes "into_arc"
way_word IntoArcFair = codes "into_arc_fair"

-- a word and a party
abbrev pub by_party : List ℕ → PartyId → List (List ℕ)
by_party word party = word ∷ decimal (id_of party) ∷ []

-- a word, a party and a guard's number
abbrev pub on_guard : List ℕ → PartyId → ℕ → List (List ℕ)
on_guard word party guard = word ∷ decimal (id_of party) ∷ decimal guard ∷ []

-- these, and the number of an item
abbrev pub on_item : List ℕ → PartyId → ℕ → ℕ → List (List ℕ)
on_item word party guard k = word ∷ decimal (id_of party) ∷ decimal guard ∷ decimal k ∷ []

-- these, and a signed number
abbrev pub with_number : List ℕ → PartyId → ℕ → ℕ → ℤ → List (List ℕ)
with_number word party guard k n = word ∷ decimal (id_of party) ∷ decimal guard ∷ decimal k ∷ signed_decimal n ∷ []

-- the fields of a call's line; none if no line makes the call
abbrev pub call_fields : Call PairOp → List (List ℕ)
call_fields (Call.Acquire want form party) = by_party (in_form form (want_word want)) party
call_fields (Call.Unlock party guard way) = on_guard (way_word way) party guard
call_fields (Call.Park party guard) = on_guard (codes "park") party guard
call_fields (Call.ParkFair party guard) = on_guard (codes "park_fair") party guard
call_fields (Call.Resume party guard) = on_guard (codes "resume") party guard
call_fields (Call.Abandon party guard) = on_guard (codes "abandon") party guard
call_fields (Call.Bump party guard) = on_guard (codes "bump") party guard
call_fields (Call.Upgrade form party guard) = on_guard (in_form form (codes "upgrade")) party guard
call_fields (Call.Downgrade party guard) = on_guard (codes "downgrade") party guard
call_fields (Call.DowngradeToUpgradable party guard) = on_guard (codes "downgrade_to_upgradable") party guard
call_fields (Call.WithUpgraded form party guard (Add k n)) =
    with_number (in_form form (codes "with_upgraded")) party guard k n
call_fields (Call.WithUpgraded _ party guard (Item k)) = []
call_fields (Call.WithUpgraded _ party guard (Set k n)) = []
call_fields (Call.Get party guard (Item k)) = on_item (codes "get") party guard k
call_fields (Call.Get party guard (Set k n)) = []
call_fields (Call.Get party guard (Add k n)) = []
call_fields (Call.Change party guard (Set k n)) = with_number (codes "set") party guard k n
call_fields (Call.Change party guard (Add k n)) = with_number (codes "add") party guard k n
call_fields (Call.Change party guard (Item k)) = []
call_fields Call.IsLocked = codes "is_locked" ∷ []
call_fields Call.IsLockedExclusive = codes "is_locked_exclusive" ∷ []
call_fields (Call.IsOwnedBy party) = by_party (codes "is_owned_by") party
call_fields (Call.Announce party) = by_party (codes "announce") party
call_fields (Call.Withdraw party) = by_party (codes "withdraw") party
call_fields Call.IsBarred = codes "is_barred" ∷ []
call_fields Call.Spent = codes "spent" ∷ []

-- the two numbers of a pair
abbrev pub pair_fields : Pair → List (List ℕ)
pair_fields pair = signed_decimal pair.first ∷ signed_decimal pair.second ∷ []

-- a word, the places, a limit and a pair
abbrev pub limited_fields : List ℕ → ℕ → ℕ → Pair → List (List ℕ)
limited_fields word places limit pair = word ∷ decimal places ∷ decimal limit ∷ pair_fields pair

-- the fields of a script's first line
abbrev pub maker_fields : Maker → List (List ℕ)
maker_fields (Maker.Mutex places pair) = codes "mutex" ∷ decimal places ∷ pair_fields pair
maker_fields (Maker.RwLock places readers pair) = limited_fields (codes "rwlock") places readers pair
maker_fields (Maker.Reentrant places levels pair) = limited_fields (codes "reentrant") places levels pair
