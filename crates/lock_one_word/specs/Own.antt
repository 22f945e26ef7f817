-- Whether a token holds a mode of a lock, as a `Bool`, which a guard can keep.
use Rattle.std.specs.Prelude.{ℕ, Bool, true, false, not, ◌&&◌, eqb, List, [], ◌∷◌}
use Rattle.atomic_table.specs.Seated.{TableId}
use Rattle.lock_modes.specs.declared.mode.Mode.{Mode}
use Rattle.lock_modes.specs.declared.bag.Bag.{Bag}
use Rattle.lock_one_word.specs.Calls.{WordLockView, TokenView, one_hold}

abbrev pub same_flag : Bool → Bool → Bool
same_flag true b = b
same_flag false b = not b

abbrev pub same_numbers : List ℕ → List ℕ → Bool
same_numbers [] [] = true
same_numbers [] (y ∷ ys) = false
same_numbers (x ∷ xs) [] = false
same_numbers (x ∷ xs) (y ∷ ys) = eqb x y && same_numbers xs ys

abbrev pub same_id : TableId → TableId → Bool
same_id a b =
    (eqb a.words b.words && eqb a.slots b.slots)
    && ((eqb a.views_name b.views_name && eqb a.atom b.atom) && ((eqb a.block b.block && eqb a.offset b.offset) && same_numbers a.slot_names b.slot_names))

abbrev pub same_bag : Bag → Bag → Bool
same_bag a b = eqb a.shared b.shared && (eqb a.exclusive b.exclusive && eqb a.upgradable b.upgradable)

abbrev pub same_lock : WordLockView → WordLockView → Bool
same_lock a b =
    same_id a.id b.id && eqb a.readers b.readers

-- the token holds the mode of this lock
unfoldable pub is_token_of : WordLockView → Mode → TokenView → Bool
is_token_of lock mode token = same_lock token.lock lock && (same_bag token.held.bag (one_hold mode).bag && same_flag token.held.announced false)
