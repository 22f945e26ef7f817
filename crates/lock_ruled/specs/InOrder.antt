-- The rule of a queue, and what its users may do.
use Rattle.std.specs.Prelude.{◌≡◌, ℕ, ◌+◌, ◌<◌, List, [], ◌++◌, drop, length, sum_by, flat_map}
use Rattle.lock_ruled.specs.EachView.{Each}
use Rattle.lock_ruled.specs.declared.in_order.Log.{Log}

-- of one end of the queue: one user has it, and the others did nothing there
abbrev pub IsOne : {V X : Type 0} → (V → ℕ) → (V → List X) → List V → Type 0
IsOne has did users = (sum_by has users ≡ 1) × Each (λ user. has user ≡ 0 → did user ≡ []) users

module _ {X : Type 0} where
  abbrev pub both_ends : List X → List X → Log X
  both_ends pushed popped = record { pushes = 1; pops = 1; pushed = pushed; popped = popped }

  abbrev pub producer : List X → Log X
  producer pushed = record { pushes = 1; pops = 0; pushed = pushed; popped = [] }

  abbrev pub consumer : List X → Log X
  consumer popped = record { pushes = 0; pops = 1; pushed = []; popped = popped }

  -- the users did the same at both ends, but for these items
  abbrev pub Matches : List X → List (Log X) → Type 0
  Matches items logs = flat_map (λ log. log.pushed) logs ≡ flat_map (λ log. log.popped) logs ++ items

  abbrev pub IsInOrder : List X → List (Log X) → Type 0
  IsInOrder items logs =
      IsOne (λ log. log.pushes) (λ log. log.pushed) logs × IsOne (λ log. log.pops) (λ log. log.popped) logs × Matches items logs

  -- the second list begins with the first one, and goes on with the third
  abbrev pub later : List X → List X → List X
  later before after = drop (length before) after

  -- what a user did at one end
  abbrev pub GoesOn : ℕ → List X → List X → Type 0
  GoesOn has before after = (after ≡ before ++ later before after) × (has ≡ 0 → later before after ≡ [])

  -- the items, followed by those that the user pushed, are those that it popped, followed by the items after
  abbrev pub Passes : List X → Log X → List X → Log X → Type 0
  Passes items log items' log' =
      (log'.pushes ≡ log.pushes) × (log'.pops ≡ log.pops)
      × GoesOn log.pushes log.pushed log'.pushed × GoesOn log.pops log.popped log'.popped
      × (items ++ later log.pushed log'.pushed ≡ later log.popped log'.popped ++ items')

  -- of one end: it goes to one of two users, with all that was done there
  abbrev pub Goes : ℕ → List X → ℕ → List X → ℕ → List X → Type 0
  Goes has did has' did' has'' did'' =
      (has' + has'' ≡ has) × (did' ++ did'' ≡ did) × (has' ≡ 0 → did' ≡ []) × (has'' ≡ 0 → did'' ≡ [])

  abbrev pub IsDivided : Log X → Log X → Log X → Type 0
  IsDivided log left right =
      Goes log.pushes log.pushed left.pushes left.pushed right.pushes right.pushed
      × Goes log.pops log.popped left.pops left.popped right.pops right.popped

  abbrev pub united : Log X → Log X → Log X
  united log other = record {
    pushes = log.pushes + other.pushes;
    pops = log.pops + other.pops;
    pushed = log.pushed ++ other.pushed;
    popped = log.popped ++ other.popped;
  }

  abbrev pub IsUnited : Log X → Log X → Log X → Type 0
  IsUnited log other both = both ≡ united log other

  -- what the one user that pushes has pushed ends with the items
  abbrev pub EndsWith : List X → Log X → Type 0
  EndsWith items log = 0 < log.pushes → (popped : List X) × (log.pushed ≡ popped ++ items)

  -- what the only user knows; it popped all if it popped as many as it pushed
  abbrev pub IsWhole : List X → Log X → Type 0
  IsWhole items log = (log.pushed ≡ log.popped ++ items) × (length log.popped ≡ length log.pushed → log.popped ≡ log.pushed)
