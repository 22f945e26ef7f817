-- `is_token_of` is true of the tokens of the lock, and of no other.
use Rattle.std.proofs.Common.{◌≡◌, ℕ, Bool, true, false, ◌&&◌, eqb, List, [], ◌∷◌, refl, sym, subst}
use Rattle.std.proofs.lemmas.Bool.{false≢true, eqb-true, eq-eqb}
use Rattle.atomic_table.specs.Seated.{TableId}
use Rattle.lock_modes.specs.declared.mode.Mode.{Mode}
use Rattle.lock_modes.specs.declared.bag.Bag.{Bag}
use Rattle.lock_one_word.specs.Calls.{WordLockView, TokenView, one_hold, IsTokenOf}
use Rattle.lock_one_word.specs.Own.{same_flag, same_numbers, same_id, same_bag, same_lock, is_token_of}

both : (a b : Bool) → (a && b) ≡ true → (a ≡ true) × (b ≡ true)
both true b h = (refl, h)
both false b h = absurd (false≢true h)

meet : (a b : Bool) → a ≡ true → b ≡ true → (a && b) ≡ true
meet true b h k = k
meet false b h k = h

flags : (a b : Bool) → same_flag a b ≡ true → a ≡ b
flags true true h = refl
flags true false h = absurd (false≢true h)
flags false true h = absurd (false≢true h)
flags false false h = refl

flag_refl : (a : Bool) → same_flag a a ≡ true
flag_refl true = refl
flag_refl false = refl

numbers : (xs ys : List ℕ) → same_numbers xs ys ≡ true → xs ≡ ys
numbers [] [] h = refl
numbers [] (y ∷ ys) h = absurd (false≢true h)
numbers (x ∷ xs) [] h = absurd (false≢true h)
numbers (x ∷ xs) (y ∷ ys) h =
    let t = both (eqb x y) (same_numbers xs ys) h in
    let e : x ≡ y = eqb-true x y t.0 in
    let r : xs ≡ ys = numbers xs ys t.1 in
    λ i. e i ∷ r i

itself : (n : ℕ) → eqb n n ≡ true
itself n = eq-eqb n n refl

numbers_refl : (xs : List ℕ) → same_numbers xs xs ≡ true
numbers_refl [] = refl
numbers_refl (x ∷ xs) = meet (eqb x x) (same_numbers xs xs) (itself x) (numbers_refl xs)

ids : (a b : TableId) → same_id a b ≡ true → a ≡ b
ids a b h =
    let one = both _ _ h in
    let p = both _ _ one.0 in
    let two = both _ _ one.1 in
    let q = both _ _ two.0 in
    let three = both _ _ two.1 in
    let r = both _ _ three.0 in
    let words : a.words ≡ b.words = eqb-true _ _ p.0 in
    let slots : a.slots ≡ b.slots = eqb-true _ _ p.1 in
    let views : a.views_name ≡ b.views_name = eqb-true _ _ q.0 in
    let atom : a.atom ≡ b.atom = eqb-true _ _ q.1 in
    let block : a.block ≡ b.block = eqb-true _ _ r.0 in
    let offset : a.offset ≡ b.offset = eqb-true _ _ r.1 in
    let names : a.slot_names ≡ b.slot_names = numbers _ _ three.1 in
    λ i. record { words = words i; slots = slots i; views_name = views i; atom = atom i; block = block i; offset = offset i; slot_names = names i }

ids_refl : (a : TableId) → same_id a a ≡ true
ids_refl a =
    meet _ _ (meet _ _ (itself a.words) (itself a.slots))
    (meet _ _ (meet _ _ (itself a.views_name) (itself a.atom))
    (meet _ _ (meet _ _ (itself a.block) (itself a.offset)) (numbers_refl a.slot_names)))

bags : (a b : Bag) → same_bag a b ≡ true → a ≡ b
bags a b h =
    let one = both _ _ h in
    let two = both _ _ one.1 in
    let shared : a.shared ≡ b.shared = eqb-true _ _ one.0 in
    let exclusive : a.exclusive ≡ b.exclusive = eqb-true _ _ two.0 in
    let upgradable : a.upgradable ≡ b.upgradable = eqb-true _ _ two.1 in
    λ i. record { shared = shared i; exclusive = exclusive i; upgradable = upgradable i }

bags_refl : (a : Bag) → same_bag a a ≡ true
bags_refl a = meet _ _ (itself a.shared) (meet _ _ (itself a.exclusive) (itself a.upgradable))

locks : (a b : WordLockView) → same_lock a b ≡ true → a ≡ b
locks a b h =
    let one = both _ _ h in
    let id : a.id ≡ b.id = ids _ _ one.0 in
    let readers : a.readers ≡ b.readers = eqb-true _ _ one.1 in
    λ i. record { id = id i; readers = readers i }

locks_refl : (a : WordLockView) → same_lock a a ≡ true
locks_refl a = meet _ _ (ids_refl a.id) (itself a.readers)

pub token_of : (lock : WordLockView) (mode : Mode) (token : TokenView) → is_token_of lock mode token ≡ true → IsTokenOf lock mode token
unfolding is_token_of
token_of lock mode token h =
    let one = both _ _ h in
    let two = both _ _ one.1 in
    let same : token.lock ≡ lock = locks _ _ one.0 in
    let bag : token.held.bag ≡ (one_hold mode).bag = bags _ _ two.0 in
    let flag : token.held.announced ≡ false = flags _ _ two.1 in
    λ i. record { lock = same i; held = record { bag = bag i; announced = flag i } }

pub own_token : (lock : WordLockView) (mode : Mode) (token : TokenView) → IsTokenOf lock mode token → is_token_of lock mode token ≡ true
unfolding is_token_of
own_token lock mode token is =
    subst (λ t. is_token_of lock mode t ≡ true) (sym is)
    (meet _ _ (locks_refl lock) (meet _ _ (bags_refl (one_hold mode).bag) refl))
