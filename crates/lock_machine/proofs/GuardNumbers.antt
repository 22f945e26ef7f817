-- Guard numbers.
use Rattle.std.proofs.Common.{◌≡◌, ℕ, ◌+◌, ◌<◌, ◌≤◌, Bool, if◌then◌else◌, List, [], ◌∷◌, ◌++◌, Some, None, refl, ap, sym, ◌∙◌, subst, arith}
use Rattle.std.proofs.lemmas.Bool.{ne_eqb}
use Rattle.lock_modes.specs.declared.mode_step.ModeStep.{ModeStep}
use Rattle.lock_machine.specs.declared.call.Call.{Call}
use Rattle.lock_machine.specs.declared.reply.Reply.{Reply}
use Rattle.lock_machine.specs.Operation.{Operation}
use Rattle.lock_machine.specs.Entries.{Entry, find}
use Rattle.lock_machine.specs.Machine.{Machine}
use Rattle.lock_machine.specs.Legal.{AreNumbered}
use Rattle.lock_machine.specs.Steps.{step}
use Rattle.lock_machine.specs.Numbers.{numbers_of, AreRising, issued_numbers, NumbersAreUsedOnce, NewNumbersAreFree}
use Rattle.lock_machine.specs.Sound.{IsSound}
use Rattle.lock_machine.proofs.Effects.{Effect, effect}

rises : {O T A : Type 0} {m after : Machine T} {call : Call O} {reply : Reply A} {steps : List ModeStep} (more : List ℕ)
    → Effect m call reply steps after
    → AreRising after.last more → AreRising m.last (numbers_of reply ++ more)
rises {m = m} more (Effect.kept unnumbered) h = subst (λ (ns : List ℕ). AreRising m.last (ns ++ more)) (sym unnumbered) h
rises {m = m} more (Effect.acquired party mode lets) h = (omega arith, h)
rises more other h = h

-- no guard has a number above the last one
numbered_within : (low last : ℕ) (es : List (ℕ × Entry)) → AreNumbered low last es → low ≤ last
numbered_within low last [] h = h
numbered_within low last (e ∷ es) h = let rest = numbered_within e.0 last es h.1 in omega arith

pub find-above : (low last number : ℕ) (es : List (ℕ × Entry)) → AreNumbered low last es → last < number → find number es ≡ None
find-above low last number [] h above = refl
find-above low last number (e ∷ es) h above =
    let within = numbered_within e.0 last es h.1 in
    ap (λ (b : Bool). if b then Some e.1 else find number es) (ne_eqb e.0 number (λ same. omega arith))
    ∙ find-above e.0 last number es h.1 above

no_number : {A : Type 0} (reply : Reply A) (number : ℕ) → numbers_of reply ≡ [] → reply ≡ Reply.Guard number → ⊥
no_number reply number none given = let one : number ∷ [] ≡ [] = subst (λ (r : Reply _). numbers_of r ≡ []) given none in cc

free : {O T A : Type 0} {m after : Machine T} {call : Call O} {reply : Reply A} {steps : List ModeStep} (number : ℕ) → IsSound m.register
    → Effect m call reply steps after
    → reply ≡ Reply.Guard number → find number m.entries ≡ None
free {reply = reply} number sound (Effect.kept unnumbered) given = absurd (no_number reply number unnumbered given)
free {m = m} number sound (Effect.acquired party mode lets) given =
    let is : m.last + 1 ≡ number = cc in find-above 0 m.last number m.entries sound.legal.numbered (omega arith)
free number sound other given = cc

module _ {O T A : Type 0} (meaning : O → Operation T A) where
  pub used_once : NumbersAreUsedOnce meaning
  used_once m [] = tt
  used_once m (call ∷ calls) =
      let next : Machine T = (step meaning m call).machine in rises (issued_numbers meaning next calls) (effect meaning m call)
      (used_once next calls)

  pub new_are_free : NewNumbersAreFree meaning
  new_are_free m call number sound given = free number sound (effect meaning m call) given
