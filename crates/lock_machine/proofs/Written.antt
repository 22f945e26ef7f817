-- When the value changes.
use Rattle.std.proofs.Common.{◌≡◌, ℕ, ◌+◌, ◌<◌, Bool, true, false, ◌==◌, if◌then◌else◌, List, [], ◌∷◌, Option, Some, IsTrue, refl, ap, sym, ◌∙◌, subst, arith, eqb-true}
use Rattle.std.proofs.lemmas.Bool.{eqb-false, ne_eqb}
use Rattle.lock_modes.specs.declared.mode.Mode.{Mode}
use Rattle.lock_modes.specs.declared.mode.Mode.TheVariants.{Shared, Exclusive, Upgradable}
use Rattle.lock_modes.specs.declared.mode_step.ModeStep.{ModeStep}
use Rattle.lock_modes.specs.declared.bag.Bag.{Bag}
use Rattle.lock_machine.specs.declared.call.Call.{Call}
use Rattle.lock_machine.specs.declared.reply.Reply.{Reply}
use Rattle.lock_machine.specs.Operation.{Operation}
use Rattle.lock_modes.specs.Modes.{readers, tokens, count_of, one_more, may_become, is_exclusive, AreCompatible}
use Rattle.lock_modes.specs.Kind.{is_reentrant}
use Rattle.lock_machine.specs.Entries.{Entry, find, without, held_bag}
use Rattle.lock_machine.specs.Machine.{Machine}
use Rattle.lock_machine.specs.Legal.{AreLegallyHeld}
use Rattle.lock_machine.specs.Steps.{step}
use Rattle.lock_modes.proofs.ModeLemmas.{count-one_more, tokens-one_more, count-le-tokens}
use Rattle.lock_machine.proofs.Splices.{EntryMap, splice}
use Rattle.lock_machine.proofs.HeldEntries.{held_bag-more, more_than_rest}
use Rattle.lock_machine.specs.Sound.{IsSound}
use Rattle.lock_machine.specs.Values.{is_write, IsReading, upgrades, OnlyWritesChangeValue, ReadersSeeOneValue}
use Rattle.lock_machine.proofs.Effects.{Effect, effect}
use Rattle.lock_machine.proofs.RunsReached.{step_sound}

value_kept : {O T A : Type 0} {m after : Machine T} {call : Call O} {reply : Reply A} {steps : List ModeStep}
    → Effect m call reply steps after
    → is_write call ≡ false → after.value ≡ m.value
value_kept (Effect.written guard e answer value out kind mode) reads = cc
value_kept (Effect.written_upgraded guard e answer value out kind mode sole) reads = cc
value_kept other reads = refl

-- a held guard counts in the bag
pub held_is_counted : (guard : ℕ) (e : Entry) (es : EntryMap) → find guard es ≡ Some e → IsTrue e.held → 0 < count_of (held_bag es) e.mode
held_is_counted guard e es found held =
    subst (λ (b : Bag). 0 < count_of b e.mode) (sym (held_bag-more e es (without guard es)
    (more_than_rest guard e es (splice guard e es found) held)))
    (count-one_more (held_bag (without guard es)) e.mode)

reader_is_counted : (b : Bag) (mode : Mode) → is_exclusive mode ≡ false → 0 < count_of b mode → 0 < readers b
reader_is_counted b Shared reads out = omega arith
reader_is_counted b Exclusive reads out = cc
reader_is_counted b Upgradable reads out = omega arith

find_past : (x : ℕ × Entry) (guard other : ℕ) (es : EntryMap) (here : Bool) → (x.0 == other) ≡ here → (other ≡ guard → ⊥)
    → find guard (without other es) ≡ find guard es
    → find guard (if here then es else x ∷ without other es) ≡ find guard (x ∷ es)
find_past x guard other es true at differs rest =
    let here = eqb-true x.0 other at in
    sym (ap (λ (b : Bool). if b then Some x.1 else find guard es) (ne_eqb x.0 guard (λ same. differs (sym here ∙ same))))
find_past x guard other es false at differs rest = ap (λ (o : Option Entry). if x.0 == guard then Some x.1 else o) rest

find-without : (guard other : ℕ) (es : EntryMap) → (other ≡ guard → ⊥) → find guard (without other es) ≡ find guard es
find-without guard other [] differs = refl
find-without guard other (x ∷ es) differs = find_past x guard other es (x.0 == other) refl differs (find-without guard other es differs)

compatible_if : (reentrant : Bool) (limit : ℕ) (es : EntryMap) → reentrant ≡ false → AreLegallyHeld reentrant limit es
    → AreCompatible limit (held_bag es)
compatible_if true limit es plain h = cc
compatible_if false limit es plain h = h

module _ {T : Type 0} (m : Machine T) (guard : ℕ) (reading : IsReading m guard) where
  -- no exclusive guard is held next to one that reads
  no_writer : (writer : ℕ) (e : Entry) → IsSound m.register → find writer m.entries ≡ Some e → IsTrue e.held → is_reentrant m.kind ≡ false
      → e.mode ≡ Exclusive → ⊥
  no_writer writer e sound found held plain mode =
      let compatible = compatible_if (is_reentrant m.kind) m.limit m.entries plain sound.legal.held in
      let writes : 0 < count_of (held_bag m.entries) Exclusive =
      subst (λ (x : Mode). 0 < count_of (held_bag m.entries) x) mode (held_is_counted writer e m.entries found held) in
      let reads = reader_is_counted (held_bag m.entries) reading.entry.mode reading.reads
      (held_is_counted guard reading.entry m.entries reading.found reading.held) in
      let alone = compatible.alone writes in
      omega arith

  -- a sole held guard is the one that reads
  no_sole : (writer : ℕ) (e : Entry) → find writer m.entries ≡ Some e → IsTrue e.held → IsTrue (may_become (held_bag m.entries) Exclusive)
      → (writer ≡ guard → ⊥) → ⊥
  no_sole writer e found held sole differs =
      let rest : Bag = held_bag (without writer m.entries) in
      let bag : held_bag m.entries ≡ one_more rest e.mode =
      held_bag-more e m.entries (without writer m.entries) (more_than_rest writer e m.entries (splice writer e m.entries found) held) in
      let beside : 0 < count_of rest reading.entry.mode =
      held_is_counted guard reading.entry (without writer m.entries)
      (find-without guard writer m.entries differs ∙ reading.found) reading.held in
      let within = count-le-tokens rest reading.entry.mode in
      let more : tokens (held_bag m.entries) ≡ tokens rest + 1 = ap tokens bag ∙ tokens-one_more rest e.mode in
      let one : tokens (held_bag m.entries) ≡ 1 = eqb-true (tokens (held_bag m.entries)) 1 sole in
      omega arith

value_seen : {O T A : Type 0} {m after : Machine T} {call : Call O} {reply : Reply A} {steps : List ModeStep} (guard : ℕ) → IsSound m.register
    → IsReading m guard
    → Effect m call reply steps after → upgrades call guard ≡ false → after.value ≡ m.value
value_seen {m = m} guard sound reading (Effect.written other e answer value out kind mode) low =
    absurd (no_writer m guard reading other e sound out.found out.held kind mode)
value_seen {m = m} guard sound reading (Effect.written_upgraded other e answer value out kind mode sole) low =
    absurd (no_sole m guard reading other e out.found out.held sole (eqb-false other guard low))
value_seen guard sound reading other low = refl

module _ {O T A : Type 0} (meaning : O → Operation T A) where
  pub only_writes : OnlyWritesChangeValue meaning
  only_writes m call reads = value_kept (effect meaning m call) reads

  pub readers_see : ReadersSeeOneValue meaning
  readers_see m [] guard sound reading = refl
  readers_see m (call ∷ calls) guard sound reading =
      readers_see (step meaning m call).machine calls guard (step_sound meaning m call sound) reading.2
      ∙ value_seen guard sound reading.0 (effect meaning m call) reading.1
