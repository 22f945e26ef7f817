-- The owner word of a reentrant lock, the rule of its table, and what a call knows after each kind of step.
use Rattle.std.specs.Prelude.{◌≡◌, ◌≢◌, ℕ, ◌*◌, ◌+◌, ◌/◌, ◌%◌, ◌^◌, ◌<◌, ◌≤◌, List, [], ◌∷◌, length, slice_index, IfSome, IsSome, Some}
use Rattle.std.specs.Prelude.{refl}
use Rattle.std.specs.Prelude as std
use Rattle.std.specs.Coded.{Coded, code_by, coded×}
use mathlib.Core.Option.{some}
use Rattle.atomic_table.specs.Table.{State, Me, Step, rest}
use Rattle.atomic_table.specs.Seated.{TableId}
use Rattle.lock_modes.specs.Levels.{Levels, free_levels}
use Rattle.lock_remutex.specs.declared.owner_table.rule.OwnerKey.{OwnerKey}
use Rattle.lock_remutex.specs.declared.owner_table.rule.OwnerStep.{OwnerStep}
use Rattle.lock_remutex.specs.declared.owner_table.rule.OwnerStep.TheVariants.{Start, Saw, Took, Made}
use Rattle.lock_remutex.specs.declared.owner_table.rule.OwnerView.{OwnerView}

-- the owner that a word names, and its levels: 0 names no owner
abbrev pub party_in : ℕ → ℕ
party_in word = word / 2 ^ 32

abbrev pub count_in : ℕ → ℕ
count_in word = word % 2 ^ 32

-- the word of an owner at a number of levels
abbrev pub word_at : ℕ → ℕ → ℕ
word_at party count = party * 2 ^ 32 + count

-- a word that names an owner has from one level to the limit
abbrev pub IsWord : ℕ → ℕ → Type 0
IsWord limit word = 0 < party_in word → (0 < count_in word) × (count_in word ≤ limit)

-- which table it is, and the key of its lock
pub record TableView (K : Type 0) : Type 0 where
  pub id : TableId
  pub key : OwnerKey K

-- the table of a call, and its last step. A private field seals it: only a call on a table has one
pub record CallView (K T : Type 0) : Type 0 where
  pub table : TableView K
  pub step : OwnerStep T
  sealed : Unit {0}

abbrev pub call_view : {K T : Type 0} → TableView K → OwnerStep T → CallView K T
call_view table step = record { table = table; step = step; sealed = tt }

abbrev pub call_view_code : {K T : Type 0} → Coded (TableView K) → Coded (OwnerStep T) → Coded (CallView K T)
call_view_code {K} {T} table step = code_by (TableView K × OwnerStep T) (coded× table step) (λ c. (c.table, c.step)) (λ p. call_view p.0 p.1) (λ _. refl)

module _ {T : Type 0} where
  -- the levels of an owner
  abbrev pub owned_at : ℕ → ℕ → ℕ → T → Levels T
  owned_at limit party count token = record { limit = limit; owner = Some (record { party = party; count = count; token = token }) }

  -- of the owner, if there is one
  abbrev pub OwnerMeets : (ℕ → T → Type 0) → Levels T → Type 0
  OwnerMeets meets l = IfSome l.owner (λ o. meets o.party o.token)

  -- what the slot has while it is at home and the owner's id does not fit into the word, or there is no owner
  abbrev pub IsLarge : (T → Type 0) → ℕ → Levels T → Type 0
  IsLarge fits limit l = (l.limit ≡ limit) × OwnerMeets (λ party token. (2 ^ 32 ≤ party) × fits token) l

  -- the levels that the slot has at home, by the word. A word that names the owner also counts its levels: then the
  -- slot has the owner at level 1
  pub record IsAtHome (fits : T → Type 0) (limit word : ℕ) (l : Levels T) : Type 0 where
    pub free : word ≡ 0 → l ≡ free_levels limit
    pub large : word ≡ 2 → IsSome l.owner × IsLarge fits limit l
    pub named : 0 < party_in word → IsWord limit word × ((token : T) × (l ≡ owned_at limit (party_in word) 1 token) × fits token)

  -- the step of a call that puts levels back
  abbrev pub put_step : OwnerStep T → List (ℕ × std.Option (Levels T)) → OwnerStep T
  put_step (Took before) ((slot, Some now) ∷ more) = Made before now
  put_step step slots = Start

  abbrev pub made_by : OwnerStep T → Levels T → OwnerStep T
  made_by (Took before) now = Made before now
  made_by step now = Start

  -- a call makes at most one change: after it, a further step is none that a contract takes
  abbrev pub after_look : OwnerStep T → OwnerStep T → OwnerStep T
  after_look (Saw word) next = next
  after_look step next = Start

  -- the step of a call that changed nothing
  abbrev pub IsIdle : OwnerStep T → Type 0
  IsIdle (Saw word) = Unit {0}
  IsIdle (Made old new) = new ≡ old
  IsIdle step = ⊥

  -- the token of the owner, if the step left one
  abbrev pub OwnerFits : (T → Type 0) → OwnerStep T → Type 0
  OwnerFits fits (Made old new) = IfSome new.owner (λ o. fits o.token)
  OwnerFits fits step = Unit {0}

-- the view of a call, and the slots that it has taken
abbrev pub Self : Type 0 → Type 0 → Type 0
Self K T = Me (std.Option (Levels T)) (OwnerView K T)

module _ {K T : Type 0} where
  -- the view of a party that has made no step
  abbrev pub newcomer : OwnerKey K → OwnerView K T
  newcomer key = record { key = key; step = Start }

  -- while the word is not 1, the slot is at home
  pub record IsOwnerTable (fits : K → T → Type 0) (key : OwnerKey K) (s : State (std.Option (Levels T)) (OwnerView K T)) : Type 0 where
    pub one_word : length s.words ≡ 1
    pub one_slot : length s.homes ≡ 1
    pub at_home : slice_index s.words 0 ≢ 1
        → (l : Levels T) × (s.homes ≡ some (Some l) ∷ []) × IsAtHome (fits key.raw) key.limit (slice_index s.words 0) l

  abbrev pub after_step : Self K T → OwnerStep T → Self K T
  after_step me step = (record me.0 { step = step }, me.1)

  -- after a load the call knows the word
  abbrev pub Looks : Step (std.Option (Levels T)) → Self K T → ℕ → Self K T → Type 0
  Looks s me found after = (after ≡ after_step me (Saw found)) × IsWord me.0.key.limit found

  -- an exchange that changes the levels of the owner that the word names
  abbrev pub Recounts : (K → T → Type 0) → Step (std.Option (Levels T)) → Self K T → ℕ → Self K T → Type 0
  Recounts fits s me found after =
      (found ≡ s.first → (token : T) × (after ≡ after_step me (after_look me.0.step (Made
      (owned_at me.0.key.limit (party_in s.first) (count_in s.first) token)
      (owned_at me.0.key.limit (party_in s.first) (count_in s.second) token))))
      × fits me.0.key.raw token)
      × (found ≢ s.first → after ≡ after_step me (after_look me.0.step (Saw found)))

  -- an exchange that takes the levels
  abbrev pub Takes : (K → T → Type 0) → Step (std.Option (Levels T)) → Self K T → ℕ → Self K T → Type 0
  Takes fits s me found after =
      (found ≡ s.first → (l : Levels T) × (after ≡ (record me.0 { step = after_look me.0.step (Took l) }, (0, Some l) ∷ me.1))
      × IsAtHome (fits me.0.key.raw) me.0.key.limit s.first l)
      × (found ≢ s.first → after ≡ after_step me (after_look me.0.step (Saw found)))

  -- a swap that puts levels back
  abbrev pub Puts : Self K T → ℕ → Self K T → Type 0
  Puts me found after = after ≡ (record me.0 { step = put_step me.0.step me.1 }, rest me.1)
