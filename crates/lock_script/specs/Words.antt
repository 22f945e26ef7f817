-- The words of lines, by the number of their fields.
use Rattle.std.specs.Prelude.{◌≡◌, ℕ, List, [], ◌∷◌, ◌++◌, codes, ◌⊎◌}
use Rattle.lock_machine.specs.declared.call.Form.TheVariants.{Block, Try, For, Until}
use Rattle.script_text.specs.Numbers.{IsSigned, IsUnsigned}
use Rattle.lock_script.specs.Numbers.{AreTwo, IsParty}
use Rattle.lock_script.specs.CallLines.{in_form}

-- the word is one of these
abbrev pub IsOneOf : List (List ℕ) → List ℕ → Type 0
IsOneOf [] word = ⊥
IsOneOf (w ∷ ws) word = (word ≡ w) ⊎ IsOneOf ws word

-- the words of an acquisition in its four forms
abbrev pub in_forms : List ℕ → List (List ℕ)
in_forms word = in_form Block word ∷ in_form Try word ∷ in_form For word ∷ in_form Until word ∷ []

abbrev pub lone_words : List (List ℕ)
lone_words = codes "is_locked" ∷ codes "is_locked_exclusive" ∷ codes "is_barred" ∷ codes "spent" ∷ []

abbrev pub party_words : List (List ℕ)
party_words =
    in_forms (codes "lock")
    ++ (in_forms (codes "read")
    ++ (in_forms (codes "write")
    ++ (in_forms (codes "upgradable_read") ++ (codes "is_owned_by" ∷ codes "announce" ∷ codes "withdraw" ∷ []))))

abbrev pub guard_words : List (List ℕ)
guard_words =
    codes "unlock" ∷ codes "unlock_fair" ∷ codes "into_arc" ∷ codes "into_arc_fair" ∷ codes "park" ∷ codes "park_fair"
    ∷ codes "resume" ∷ codes "abandon" ∷ codes "bump" ∷ codes "downgrade" ∷ codes "downgrade_to_upgradable"
    ∷ in_forms (codes "upgrade")

abbrev pub item_words : List (List ℕ)
item_words = codes "get" ∷ []

abbrev pub number_words : List (List ℕ)
number_words = codes "set" ∷ codes "add" ∷ in_forms (codes "with_upgraded")

-- the words of a first line with a limit
abbrev pub limit_words : List (List ℕ)
limit_words = codes "rwlock" ∷ codes "reentrant" ∷ []

-- the fields are those of a call
abbrev pub IsCall : List (List ℕ) → Type 0
IsCall [] = ⊥
IsCall (word ∷ []) = IsOneOf lone_words word
IsCall (word ∷ party ∷ []) = IsOneOf party_words word × IsParty party
IsCall (word ∷ party ∷ guard ∷ []) = IsOneOf guard_words word × (IsParty party × IsUnsigned guard)
IsCall (word ∷ party ∷ guard ∷ item ∷ []) =
    IsOneOf item_words word × (IsParty party × (IsUnsigned guard × IsUnsigned item))
IsCall (word ∷ party ∷ guard ∷ item ∷ number ∷ []) =
    IsOneOf number_words word × (IsParty party × (IsUnsigned guard × (IsUnsigned item × IsSigned number)))
IsCall (word ∷ party ∷ guard ∷ item ∷ number ∷ more ∷ others) = ⊥

-- a limit, and two signed numbers
abbrev pub AreLimitAndPair : List (List ℕ) → Type 0
AreLimitAndPair [] = ⊥
AreLimitAndPair (limit ∷ numbers) = IsUnsigned limit × AreTwo IsSigned numbers

-- the fields are those of a first line
abbrev pub IsMaker : List (List ℕ) → Type 0
IsMaker [] = ⊥
IsMaker (word ∷ []) = ⊥
IsMaker (word ∷ places ∷ others) =
    IsUnsigned places
    × (((word ≡ codes "mutex") × AreTwo IsSigned others) ⊎ (IsOneOf limit_words word × AreLimitAndPair others))
