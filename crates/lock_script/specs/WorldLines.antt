-- The lines of a script of steps.
use Rattle.std.specs.Prelude.{◌≡◌, ℕ, List, [], ◌∷◌, ◌⊎◌, codes, decimal}
use Rattle.lock_word.specs.declared.down.Down.{Down}
use Rattle.lock_word.specs.declared.down.Down.TheVariants as down
use Rattle.lock_word.specs.declared.want.ExWant.{ExWant}
use Rattle.lock_word.specs.declared.want.ExWant.TheVariants as want
use Rattle.lock_word.specs.declared.step.AtomicStep.TheVariants.{Load, Exchange, Take}
use Rattle.lock_script.specs.declared.world_call.WorldCall.{WorldCall}
use Rattle.lock_script.specs.declared.world_maker.WorldMaker.{WorldMaker}
use Rattle.script_text.specs.Numbers.{IsUnsigned}
use Rattle.lock_script.specs.Numbers.{AreTwo}
use Rattle.lock_script.specs.Words.{IsOneOf}

-- the word of what an exchange acquires or sets
abbrev pub want_word : ExWant → List ℕ
want_word want.Shared = codes "shared"
want_word want.Exclusive = codes "exclusive"
want_word want.Upgradable = codes "upgradable"
want_word want.Upgrade = codes "upgrade"
want_word want.Announce = codes "announce"

-- the word of what a subtraction releases or downgrades
abbrev pub down_word : Down → List ℕ
down_word down.Shared = codes "shared"
down_word down.Exclusive = codes "exclusive"
down_word down.Upgradable = codes "upgradable"
down_word down.ToShared = codes "to_shared"
down_word down.ToUpgradable = codes "to_upgradable"
down_word down.UpgradableToShared = codes "upgradable_to_shared"
down_word down.Withdraw = codes "withdraw"

-- the limits of a world
abbrev pub limit_fields : WorldMaker → List (List ℕ)
limit_fields maker = decimal maker.parties ∷ decimal maker.readers ∷ []

-- the fields of a first line
abbrev pub world_maker_fields : WorldMaker → List (List ℕ)
world_maker_fields maker = codes "world" ∷ limit_fields maker

-- the fields of a further line
abbrev pub world_call_fields : WorldCall → List (List ℕ)
world_call_fields (WorldCall.Step (Load party)) = codes "load" ∷ decimal party ∷ []
world_call_fields (WorldCall.Step (Exchange party want)) = codes "exchange" ∷ decimal party ∷ want_word want ∷ []
world_call_fields (WorldCall.Step (Take party down)) = codes "take" ∷ decimal party ∷ down_word down ∷ []
world_call_fields WorldCall.Word = codes "word" ∷ []
world_call_fields (WorldCall.Wins party) = codes "wins" ∷ decimal party ∷ []
world_call_fields (WorldCall.Fails party) = codes "fails" ∷ decimal party ∷ []
world_call_fields (WorldCall.Announced party) = codes "announced" ∷ decimal party ∷ []

abbrev pub want_words : List (List ℕ)
want_words =
    codes "shared" ∷ codes "exclusive" ∷ codes "upgradable" ∷ codes "upgrade" ∷ codes "announce" ∷ []

abbrev pub down_words : List (List ℕ)
down_words =
    codes "shared" ∷ codes "exclusive" ∷ codes "upgradable" ∷ codes "to_shared" ∷ codes "to_upgradable"
    ∷ codes "upgradable_to_shared" ∷ codes "withdraw" ∷ []

-- the words that only a party follows
abbrev pub party_questions : List (List ℕ)
party_questions = codes "load" ∷ codes "wins" ∷ codes "fails" ∷ codes "announced" ∷ []

-- an exchange and what it acquires or sets, or a subtraction and what it releases or downgrades
abbrev pub IsChange : List ℕ → List ℕ → Type 0
IsChange word change =
    ((word ≡ codes "exchange") × IsOneOf want_words change) ⊎ ((word ≡ codes "take") × IsOneOf down_words change)

-- the fields are those of a world: the number of parties, and the readers' limit
abbrev pub IsWorldMaker : List (List ℕ) → Type 0
IsWorldMaker [] = ⊥
IsWorldMaker (word ∷ limits) = (word ≡ codes "world") × AreTwo IsUnsigned limits

-- the fields are those of a step or a question
abbrev pub IsWorldCall : List (List ℕ) → Type 0
IsWorldCall [] = ⊥
IsWorldCall (word ∷ []) = word ≡ codes "word"
IsWorldCall (word ∷ party ∷ []) = IsOneOf party_questions word × IsUnsigned party
IsWorldCall (word ∷ party ∷ change ∷ []) = IsUnsigned party × IsChange word change
IsWorldCall (word ∷ party ∷ change ∷ more ∷ others) = ⊥
