-- The items of pairs, as lenses.
use Rattle.std.specs.Prelude.{ℕ, zero, suc, None, Some, refl}
use Rattle.std.proofs.Common.{ap, sym}
use Rattle.std.proofs.lemmas.Option.{same_Some}
use Rattle.lock_parts.specs.Lens.{Lens, IsLawful}

module _ {A B : Type 0} where
  abbrev pub first_item : Lens (A × B) A
  first_item = record { part = λ pair. Some pair.0; put = λ pair new. (new, pair.1) }

  abbrev pub second_item : Lens (A × B) B
  second_item = record { part = λ pair. Some pair.1; put = λ pair new. (pair.0, new) }

  pub IsLawful-first_item : IsLawful first_item
  IsLawful-first_item = record {
    part_of_put = λ pair new has. refl;
    put_same = λ pair old has. ap (λ item. (item, pair.1)) (sym (same_Some _ _ has));
    put_twice = λ pair first last has. refl;
  }

  pub IsLawful-second_item : IsLawful second_item
  IsLawful-second_item = record {
    part_of_put = λ pair new has. refl;
    put_same = λ pair old has. ap (λ item. (pair.0, item)) (sym (same_Some _ _ has));
    put_twice = λ pair first last has. refl;
  }

-- the item at this index, of pairs that have two
abbrev pub nth_item : ℕ → Lens (ℕ × ℕ) ℕ
nth_item zero = first_item
nth_item (suc zero) = second_item
nth_item (suc (suc n)) = record { part = λ pair. None; put = λ pair new. pair }

pub IsLawful-nth_item : (n : ℕ) → IsLawful (nth_item n)
IsLawful-nth_item zero = IsLawful-first_item
IsLawful-nth_item (suc zero) = IsLawful-second_item
IsLawful-nth_item (suc (suc n)) = record {
  part_of_put = λ pair new has. Prim.cc;
  put_same = λ pair old has. refl;
  put_twice = λ pair first last has. refl;
}
