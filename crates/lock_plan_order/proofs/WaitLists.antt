-- The list of all waits: one more place, one more program, and that it has each wait.
use Rattle.std.proofs.Common.{◌≡◌, ℕ, zero, suc, ◌+◌, ◌<◌, Bool, true, List, [], ◌∷◌, ◌++◌, length, get_or, Option, Some, None, ap, append_assoc, sym, ◌∙◌, arith}
use Rattle.std.specs.List.{cons_option, filter_map, flat_map, list_all, range_with_len}
use Rattle.std.proofs.lemmas.Bool.{and_parts}
use Rattle.std.proofs.lemmas.List.{flat_map_more}
use Rattle.std.proofs.lemmas.List.Elements.{filter_map-append}
use Rattle.std.proofs.lemmas.List.Folds.{list_all-append}
use Rattle.std.proofs.lemmas.List.FromFn.{get_or-range_with_len, length-range_with_len}
use Rattle.lock_plan.specs.declared.program.ProgramPlace.{ProgramPlace}
use Rattle.lock_plan.specs.Known.{Known}
use Rattle.lock_plan_order.specs.declared.wait_place.WaitPlace.{WaitPlace}
use Rattle.lock_plan_order.specs.WaitChecks.{wait_in, numbered_waits, waits_of}

-- the numbers from this one on
counting : (from n : ℕ) → range_with_len from (suc n) ≡ range_with_len from n ++ (from + n) ∷ []
counting from zero =
    let same : from ≡ from + 0 = omega arith in
    ap (λ (k : ℕ). k ∷ []) same
counting from (suc n) =
    let same : from + 1 + n ≡ from + suc n = omega arith in
    ap (λ (ks : List ℕ). from ∷ ks) (counting (from + 1) n ∙ ap (λ (k : ℕ). range_with_len (from + 1) n ++ k ∷ []) same)

one_more : (n : ℕ) → range_with_len 0 (n + 1) ≡ range_with_len 0 n ++ n ∷ []
one_more n =
    let next : n + 1 ≡ suc n = omega arith in
    let same : 0 + n ≡ n = omega arith in
    ap (range_with_len 0) next ∙ counting 0 n ∙ ap (λ (k : ℕ). range_with_len 0 n ++ k ∷ []) same

pub one_more_place : (before : List WaitPlace) (h : ℕ → Option WaitPlace) (n : ℕ) (o : Option WaitPlace) → h n ≡ o
    → (before ++ filter_map h (range_with_len 0 n)) ++ cons_option o [] ≡ before ++ filter_map h (range_with_len 0 (n + 1))
one_more_place before h n o is =
    append_assoc before (filter_map h (range_with_len 0 n)) (cons_option o [])
    ∙ ap (λ (xs : List WaitPlace). before ++ xs) (ap (λ (p : Option WaitPlace). filter_map h (range_with_len 0 n) ++ cons_option p []) (sym is)
    ∙ sym (filter_map-append h (range_with_len 0 n) (n ∷ [])) ∙ ap (filter_map h) (sym (one_more n)))

pub one_more_program : (g : ℕ → List WaitPlace) (n : ℕ)
    → flat_map g (range_with_len 0 (n + 1)) ≡ flat_map g (range_with_len 0 n) ++ g n
one_more_program g n = ap (flat_map g) (one_more n) ∙ sym (flat_map_more g [] (range_with_len 0 n) n)

-- what all waits have, each has
module _ (f : WaitPlace → Bool) where
  cons_parts : (o : Option WaitPlace) (xs : List WaitPlace) → list_all f (cons_option o xs) ≡ true
      → ((x : WaitPlace) → o ≡ Some x → f x ≡ true) × (list_all f xs ≡ true)
  cons_parts None xs e = (λ x is. cc, e)
  cons_parts (Some y) xs e =
      let two = and_parts (f y) (list_all f xs) e in
      (λ x is. let same : y ≡ x = cc in ap f (sym same) ∙ two.0, two.1)

  in_program : (h : ℕ → Option WaitPlace) (ns : List ℕ) → list_all f (filter_map h ns) ≡ true
      → (i : ℕ) (x : WaitPlace) → i < length ns → h (get_or ns i 0) ≡ Some x → f x ≡ true
  in_program h [] e i x lt is = absurd (omega (arith, lt))
  in_program h (n ∷ ns) e zero x lt is = (cons_parts (h n) (filter_map h ns) e).0 x is
  in_program h (n ∷ ns) e (suc i) x lt is = in_program h ns (cons_parts (h n) (filter_map h ns) e).1 i x (omega (arith, lt)) is

  of_program : (g : ℕ → List WaitPlace) (ns : List ℕ) → list_all f (flat_map g ns) ≡ true
      → (i : ℕ) → i < length ns → list_all f (g (get_or ns i 0)) ≡ true
  of_program g [] e i lt = absurd (omega (arith, lt))
  of_program g (n ∷ ns) e zero lt = (and_parts (list_all f (g n)) _ (sym (list_all-append f (g n) (flat_map g ns)) ∙ e)).0
  of_program g (n ∷ ns) e (suc i) lt =
      of_program g ns (and_parts (list_all f (g n)) _ (sym (list_all-append f (g n) (flat_map g ns)) ∙ e)).1 i (omega (arith, lt))

  pub in_programs : (programs : List (List ProgramPlace)) (known : List Known) → list_all f (waits_of programs known) ≡ true
      → (number place : ℕ) (x : WaitPlace) → number < length programs → place < length (get_or known number [])
      → wait_in number (get_or programs number []) (get_or known number []) place ≡ Some x → f x ≡ true
  in_programs programs known e number place x lt below is =
      let numbers = range_with_len 0 (length programs) in
      let places = range_with_len 0 (length (get_or known number [])) in
      let long : length numbers ≡ length programs = length-range_with_len 0 (length programs) in
      let as_long : length places ≡ length (get_or known number []) = length-range_with_len 0 (length (get_or known number [])) in
      let number_is : get_or numbers number 0 ≡ number = omega (arith, get_or-range_with_len 0 (length programs) number 0 lt) in
      let place_is : get_or places place 0 ≡ place = omega (arith, get_or-range_with_len 0 (length (get_or known number [])) place 0 below) in
      in_program (wait_in number (get_or programs number []) (get_or known number [])) places
      (ap (λ (i : ℕ). list_all f (numbered_waits programs known i)) (sym number_is)
      ∙ of_program (numbered_waits programs known) numbers e number (omega (arith, lt, long)))
      place x (omega (arith, below, as_long))
      (ap (wait_in number (get_or programs number []) (get_or known number [])) place_is ∙ is)
