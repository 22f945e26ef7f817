-- The numbers of a step tell which step it is: an exchange by its two words, a subtraction by its amount.
use Rattle.std.proofs.Common.{if◌then◌else◌, ◌≡◌, ℕ, ◌+◌, ◌-◌, ◌^◌, ◌==◌, Bool, inl, inr, IsTrue, refl, sym, ap, ◌∙◌, arith}
use Rattle.lock_word.specs.declared.want.ExWant.{ExWant}
use Rattle.lock_word.specs.declared.want.ExWant.TheVariants.{Shared, Exclusive, Upgradable, Upgrade, Announce}
use Rattle.lock_word.specs.declared.down.Down.{Down}
use Rattle.lock_word.specs.declared.down.Down.TheVariants as down
use Rattle.lock_word.specs.Word.{word_admits, word_after, amount}
use Rattle.lock_word.proofs.Unblocking.{free_or_own}

-- the exchange that raises a word by this number, if any does
abbrev want_of_rise : ℕ → ExWant
want_of_rise rise =
    if rise == 1
    then Shared
    else (if rise == 2 ^ 32 + 1
    then Upgradable
    else (if rise == 2 ^ 32 - 1 then Upgrade else (if rise == 2 ^ 34 then Announce else Exclusive)))

rise_tells : (announced : Bool) (limit word : ℕ) (want : ExWant) → IsTrue (word_admits announced limit word want)
    → want_of_rise (word_after word want - word) ≡ want
rise_tells announced limit word Shared h = let rise : word + 1 - word ≡ 1 = omega arith in ap want_of_rise rise
rise_tells announced limit word Exclusive h =
    elim (free_or_own announced word h) [ inl e ↦ rw e refl | inr own ↦ rw own.1 refl ]
rise_tells announced limit word Upgradable h =
    let rise : word + (2 ^ 32 + 1) - word ≡ 2 ^ 32 + 1 = omega arith in ap want_of_rise rise
rise_tells announced limit word Upgrade h =
    let rise : word + (2 ^ 32 - 1) - word ≡ 2 ^ 32 - 1 = omega arith in ap want_of_rise rise
rise_tells announced limit word Announce h =
    let rise : word + 2 ^ 34 - word ≡ 2 ^ 34 = omega arith in ap want_of_rise rise

-- two admitted exchanges from one word to one word are the same
pub same_exchange : (announced : Bool) (limit other word new : ℕ) (x y : ExWant)
    → IsTrue (word_admits announced limit word x) → new ≡ word_after word x
    → IsTrue (word_admits announced other word y) → new ≡ word_after word y → x ≡ y
same_exchange announced limit other word new x y admits_x is_x admits_y is_y =
    sym (rise_tells announced limit word x admits_x) ∙ ap (λ n. want_of_rise (n - word)) (sym is_x ∙ is_y)
    ∙ rise_tells announced other word y admits_y

-- the subtraction of this number, if any is
abbrev down_of_amount : ℕ → Down
down_of_amount n =
    if n == 1
    then down.Shared
    else (if n == 2 ^ 33
    then down.Exclusive
    else (if n == 2 ^ 32 + 1
    then down.Upgradable
    else (if n == 2 ^ 33 - 1
    then down.ToShared
    else (if n == 2 ^ 32 - 1
    then down.ToUpgradable
    else (if n == 2 ^ 32 then down.UpgradableToShared else down.Withdraw)))))

amount_tells : (d : Down) → down_of_amount (amount d) ≡ d
amount_tells down.Shared = refl
amount_tells down.Exclusive = refl
amount_tells down.Upgradable = refl
amount_tells down.ToShared = refl
amount_tells down.ToUpgradable = refl
amount_tells down.UpgradableToShared = refl
amount_tells down.Withdraw = refl

-- two subtractions of one number are the same
pub same_take : (k : ℕ) (x y : Down) → k ≡ amount x → k ≡ amount y → x ≡ y
same_take k x y is_x is_y = sym (amount_tells x) ∙ ap down_of_amount (sym is_x ∙ is_y) ∙ amount_tells y
