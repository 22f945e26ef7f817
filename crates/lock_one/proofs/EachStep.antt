-- Each kind of step of one party keeps the rule by which no sleeper is forgotten.
use Rattle.std.proofs.Common.{◌≡◌, ◌≢◌, ℕ, zero, suc, not, ◌-◌, ◌^◌, ◌%◌, nat_lt, ltb-true, ◌+◌, ◌<◌, ◌≤◌, Bool, true, false, ◌&&◌, ◌||◌, ◌==◌, if◌then◌else◌, inl, inr, List, [], ◌∷◌, map, slice_get, slice_set, Some, None, IsTrue, refl, sym, ap, subst, ◌∙◌, arith, eqb-true, eq-eqb}
use Rattle.std.proofs.lemmas.Bool.{false≢true, true≢false, and_parts, and_from, or_parts, or_cases, or_left, cases_eq, cases_Bool, false_from_ne_true}
use Rattle.std.proofs.lemmas.List.{map-set}
use Rattle.std.proofs.lemmas.Option.{same_Some, slice_get-map}
use Rattle.lock_modes.specs.declared.hold.Hold.{Hold}
use Rattle.lock_modes.specs.Limits.{IsLimit}
use Rattle.lock_modes.specs.Holds.{hold_has}
use Rattle.lock_word.specs.declared.want.ExWant.{ExWant}
use Rattle.lock_word.specs.declared.want.ExWant.TheVariants as want
use Rattle.lock_word.specs.declared.down.Down.{Down}
use Rattle.lock_word.specs.declared.party.WorldParty.{WorldParty}
use Rattle.lock_word.specs.BarredBags.{IsLegalBarredBag}
use Rattle.lock_word.specs.Holders.{all_of}
use Rattle.lock_word.specs.Word.{word_of, word_admits, word_after, amount, step_of_want, step_of_down}
use Rattle.lock_word.specs.Unblocking.{is_awaited, word_unblocks}
use Rattle.lock_word.specs.Turns as turns
use Rattle.lock_word.specs.Rule.{holds, KeepsRule}
use Rattle.lock_word.proofs.Rules.{changed_or_not, slice_set_same, holds_set, keeps_exchange, keeps_take, shows, element_of_longer}
use Rattle.lock_word.proofs.Lists.{placed, other_stays}
use Rattle.lock_word.proofs.Reached.{packed_word}
use Rattle.lock_word.proofs.Unblocking.{exchanges_unblock_nobody, unblocks_misses_nobody}
use Rattle.lock_one.specs.declared.sleep_view.WordLimits.{WordLimits}
use Rattle.lock_one.specs.declared.sleep_view.SleepView.{SleepView}
use Rattle.lock_one.specs.declared.sleep_view.SleepState.{SleepState}
use Rattle.lock_one.specs.declared.sleep_view.SleepState.TheVariants.{Awake, Asleep, Woken}
use Rattle.lock_one.specs.declared.sleep_view.Debt.{Debt}
use Rattle.lock_one.specs.declared.sleep_view.Debt.TheVariants.{Nothing, One, All, Next, Turn}
use Rattle.lock_one.specs.Rule.{holds_of, admits_to, is_shared, is_upgrade, passes_turn, IsRefused, is_next, is_in_turn, is_woken, is_asleep, reaches, is_free, has_duty, serves, SomeoneServes, IsServed, NoneIsForgotten, IsEntitled, KeepsSleepers, with_sleep, with_debt, woken_all, woken_of, wake_all, wake_of, new_party}
use Rattle.lock_one.proofs.Kept.{after_win, after_take, frees, IsPaid, is_unset, is_unneeded, is_barred, is_shared_bar, is_turned, is_all, is_one, EachStepKeeps, StepsKeepSleepers}

-- lists of views of which one is changed

pub holds_of-set : (views : List SleepView) (k : ℕ) (you : SleepView) → holds_of (slice_set views k you) ≡ slice_set (holds_of views) k you.held
holds_of-set views k you = map-set (λ (v : SleepView). v.held) views k you

hold_at : (views : List SleepView) (k : ℕ) (me : SleepView) → slice_get views k ≡ Some me → slice_get (holds_of views) k ≡ Some me.held
hold_at views k me h = rw (slice_get-map (λ (v : SleepView). v.held) views k, h)

-- the party keeps what it holds
pub same_holds : (views : List SleepView) (k : ℕ) (me you : SleepView) → slice_get views k ≡ Some me → you.held ≡ me.held
    → holds_of (slice_set views k you) ≡ holds_of views
same_holds views k me you at held =
    holds_of-set views k you
    ∙ (ap (λ b. slice_set (holds_of views) k b) held ∙ slice_set_same (holds_of views) k me.held (hold_at views k me at))

-- parties that have only what they hold
abbrev pub party_of : SleepView → WorldParty
party_of v = record { held = v.held; loaded = None; wins = 0; fails = 0 }

abbrev pub parties_of : List SleepView → List WorldParty
parties_of views = map party_of views

pub holds_of_parties : (views : List SleepView) → holds (parties_of views) ≡ holds_of views
holds_of_parties [] = refl
holds_of_parties (v ∷ views) = ap (λ hs. v.held ∷ hs) (holds_of_parties views)

pub party_at : (views : List SleepView) (k : ℕ) (me : SleepView) → slice_get views k ≡ Some me → slice_get (parties_of views) k ≡ Some (party_of me)
party_at views k me h = rw (slice_get-map party_of views k, h)

no_fails : (views : List SleepView) (k : ℕ) (q : WorldParty) → slice_get (parties_of views) k ≡ Some q → (q.fails ≡ 0) × (q.loaded ≡ None)
no_fails [] k q h = cc
no_fails (v ∷ views) zero q h = let e = same_Some (party_of v) q h in (sym (ap (λ (w : WorldParty). w.fails) e), sym (ap (λ (w : WorldParty). w.loaded) e))
no_fails (v ∷ views) (suc k) q h = no_fails views k q h

pub rule_of : (limit core : ℕ) (views : List SleepView) → core ≡ word_of (all_of (holds_of views)) → IsLegalBarredBag limit (all_of (holds_of views))
    → KeepsRule limit core (parties_of views)
rule_of limit core views coded legal =
    let same = holds_of_parties views in
    record {
      coded = coded ∙ ap (λ hs. word_of (all_of hs)) (sym same);
      legal = subst (λ hs. IsLegalBarredBag limit (all_of hs)) (sym same) legal;
      behind = λ k q is.
          let none = no_fails views k q is in
          let fails = none.0 in
          record { bounded = omega arith; open_load = λ loaded e d. let l = none.1 in cc };
    }

-- what all hold after a step of one
pub record Sums (limit core : ℕ) (views : List SleepView) : Type 0 where
  pub coded : core ≡ word_of (all_of (holds_of views))
  pub legal : IsLegalBarredBag limit (all_of (holds_of views))

pub sums_of : (limit core : ℕ) (ps : List WorldParty) (views : List SleepView) → holds ps ≡ holds_of views → KeepsRule limit core ps → Sums limit core views
sums_of limit core ps views same rule =
    record {
      coded = rule.coded ∙ ap (λ hs. word_of (all_of hs)) same;
      legal = subst (λ hs. IsLegalBarredBag limit (all_of hs)) same rule.legal;
    }

sums_same : (limit core : ℕ) (views later : List SleepView) → holds_of later ≡ holds_of views → Sums limit core views → Sums limit core later
sums_same limit core views later same sums =
    record {
      coded = sums.coded ∙ ap (λ hs. word_of (all_of hs)) (sym same);
      legal = subst (λ hs. IsLegalBarredBag limit (all_of hs)) (sym same) sums.legal;
    }

set_holds : (views : List SleepView) (k : ℕ) (p : WorldParty) (you : SleepView) → p.held ≡ you.held
    → holds (slice_set (parties_of views) k p) ≡ holds_of (slice_set views k you)
set_holds views k p you held =
    holds_set (parties_of views) k p
    ∙ (ap (λ hs. slice_set hs k p.held) (holds_of_parties views) ∙ (ap (λ b. slice_set (holds_of views) k b) held ∙ sym (holds_of-set views k you)))

-- booleans

or_right : (a b : Bool) → IsTrue b → IsTrue (a || b)
or_right true b h = refl
or_right false b h = h

or_no : (a b : Bool) → a ≡ false → b ≡ false → (a || b) ≡ false
or_no a b x y = rw x y

-- who serves

server_stays : (limits : WordLimits) (views : List SleepView) (k : ℕ) (you : SleepView) (v : SleepView) (want : ExWant) (someone : SomeoneServes limits views v want)
    → someone.number ≢ k → SomeoneServes limits (slice_set views k you) v want
server_stays limits views k you v want someone other =
    record { number = someone.number; server = someone.server; is = other_stays views k someone.number you someone.server other someone.is; does = someone.does }

here : (limits : WordLimits) (views : List SleepView) (k : ℕ) (me you v : SleepView) (want : ExWant) → slice_get views k ≡ Some me
    → IsTrue (serves limits you v want) → SomeoneServes limits (slice_set views k you) v want
here limits views k me you v want at does = record { number = k; server = you; is = placed views k me you at; does = does }

-- none is forgotten after a step of one party, where each other sleeper is served after it, whether it was refused or served by
-- the one before it
forgets_none : (limits : WordLimits) (core new : ℕ) (t later s now : Bool) (views : List SleepView) (k : ℕ) (me you : SleepView)
    → slice_get views k ≡ Some me → NoneIsForgotten limits core t s views
    → ((j : ℕ) (v : SleepView) (want : ExWant) → j ≢ k → slice_get views j ≡ Some v → v.sleep ≡ Asleep want → s ≡ true → IsRefused limits core t v want
    → IsServed limits new later now (slice_set views k you) v want)
    → ((j : ℕ) (v : SleepView) (want : ExWant) → slice_get views j ≡ Some v → v.sleep ≡ Asleep want → IsTrue (serves limits me v want)
    → IsServed limits new later now (slice_set views k you) v want)
    → ((want : ExWant) → you.sleep ≡ Asleep want → IsServed limits new later now (slice_set views k you) you want)
    → NoneIsForgotten limits new later now (slice_set views k you)
forgets_none limits core new t later s now views k me you at none refused served own j v want is asleep =
    elim (changed_or_not views k j you v is) [
      | inl e ↦
          subst (λ (w : SleepView). IsServed limits new later now (slice_set views k you) w want) (sym e.1)
          (own want (subst (λ (w : SleepView). w.sleep ≡ Asleep want) e.1 asleep))
      | inr e ↦
          elim (none j v want e.1 asleep) [
            | inl before ↦ refused j v want e.0 e.1 asleep before.0 before.1
            | inr someone ↦
                elim (cases_eq someone.number k) [
                  | inl same ↦
                      (let found : slice_get views k ≡ Some someone.server = subst (λ n. slice_get views n ≡ Some someone.server) same someone.is in
                      let is_me : someone.server ≡ me = same_Some someone.server me (sym found ∙ at) in
                      served j v want e.1 asleep (subst (λ (w : SleepView). IsTrue (serves limits w v want)) is_me someone.does))
                  | inr other ↦ inr (server_stays limits views k you v want someone other)
                ]
          ]
    ]

-- a mutex has no T, so its core refuses
core_refuses : (limits : WordLimits) (core : ℕ) (t : Bool) (v : SleepView) (want : ExWant) → t ≡ false → IsRefused limits core t v want
    → admits_to limits core v want ≡ false
core_refuses limits core t v want clear (inl core_does) = core_does
core_refuses limits core t v want clear (inr turn) = absurd (false≢true (sym clear ∙ turn.0))

-- T refuses those that no release under it reaches
turn_refuses : (v : SleepView) (wish : ExWant) → is_in_turn v wish ≡ false → passes_turn v.held.announced wish ≡ false
turn_refuses v wish out =
    let two = or_parts (is_next v wish) (is_shared wish) out in
    let one = or_parts v.held.announced (is_upgrade wish) two.0 in
    by v.held.announced wish one.0 one.1 two.1
  where
    by : (a : Bool) (w : ExWant) → a ≡ false → is_upgrade w ≡ false → is_shared w ≡ false → passes_turn a w ≡ false
    by a want.Shared bare up shared = absurd (true≢false shared)
    by a want.Exclusive bare up shared = bare
    by a want.Upgradable bare up shared = refl
    by a want.Upgrade bare up shared = absurd (true≢false up)
    by a want.Announce bare up shared = refl

not_true : (a : Bool) → IsTrue (not a) → a ≡ false
not_true true h = absurd (false≢true h)
not_true false h = refl

-- a duty serves those without a bar
pub duty_serves : (limits : WordLimits) (me v : SleepView) → IsTrue (has_duty limits me && not v.held.announced)
    → IsTrue (has_duty limits me) × (v.held.announced ≡ false)
duty_serves limits me v does =
    let two = and_parts (has_duty limits me) (not v.held.announced) does in
    (two.0, not_true v.held.announced two.1)

-- one that owes nothing serves by its duty
serves_by_duty : (limits : WordLimits) (me v : SleepView) (want : ExWant) → me.debt ≡ Nothing → IsTrue (serves limits me v want)
    → IsTrue (has_duty limits me) × (v.held.announced ≡ false)
serves_by_duty limits me v want debt does =
    let none : reaches limits me.debt v want ≡ false = ap (λ d. reaches limits d v want) debt in
    elim (or_cases (reaches limits me.debt v want) (has_duty limits me && not v.held.announced) does) [
      | inl some ↦ absurd (false≢true (sym none ∙ some))
      | inr duty ↦ duty_serves limits me v duty
    ]

duty_in_mutex : (limits : WordLimits) (v : SleepView) → IsTrue (has_duty limits v) → IsTrue limits.wakes_one
duty_in_mutex limits v duty = (and_parts limits.wakes_one (is_woken v.sleep) duty).0

mutex_admits : (limits : WordLimits) (core : ℕ) (v : SleepView) (want : ExWant) → IsTrue limits.wakes_one
    → admits_to limits core v want ≡ is_free v core
mutex_admits limits core v want one = ap (λ b. if b then is_free v core else word_admits v.held.announced limits.readers core want) one

-- a mutex that somebody holds refuses all
pub held_refuses : (limits : WordLimits) (core : ℕ) (v : SleepView) (want : ExWant) → IsTrue limits.wakes_one → core % 2 ^ 34 ≢ 0
    → admits_to limits core v want ≡ false
held_refuses limits core v want one held = mutex_admits limits core v want one ∙ by v.held.announced
  where
    by : (b : Bool) → (if b then core % 2 ^ 34 == 0 else core == 0) ≡ false
    by true = false_from_ne_true (core % 2 ^ 34 == 0) (λ e. held (eqb-true (core % 2 ^ 34) 0 e))
    by false = false_from_ne_true (core == 0) (λ e. held (ap (λ n. n % 2 ^ 34) (eqb-true core 0 e)))

-- a mutex whose word is not zero refuses those without a bar
pub mutex_refuses : (limits : WordLimits) (core : ℕ) (v : SleepView) (want : ExWant) → IsTrue limits.wakes_one → v.held.announced ≡ false
    → core ≢ 0 → admits_to limits core v want ≡ false
mutex_refuses limits core v want one bare taken =
    mutex_admits limits core v want one
    ∙ (ap (λ b. if b then core % 2 ^ 34 == 0 else core == 0) bare ∙ false_from_ne_true (core == 0) (λ e. taken (eqb-true core 0 e)))

pub mutex_held : (limits : WordLimits) (core : ℕ) (v : SleepView) (want : ExWant) → IsTrue limits.wakes_one → v.held.announced ≡ true
    → admits_to limits core v want ≡ false → core % 2 ^ 34 ≢ 0
mutex_held limits core v want one bar refused free =
    false≢true
    (sym refused
    ∙ (mutex_admits limits core v want one ∙ (ap (λ b. if b then core % 2 ^ 34 == 0 else core == 0) bar ∙ eq-eqb (core % 2 ^ 34) 0 free)))

pub mutex_taken : (limits : WordLimits) (core : ℕ) (v : SleepView) (want : ExWant) → IsTrue limits.wakes_one
    → admits_to limits core v want ≡ false → core ≢ 0
mutex_taken limits core v want one refused free = false≢true (sym refused ∙ (mutex_admits limits core v want one ∙ by v.held.announced))
  where
    by : (b : Bool) → (if b then core % 2 ^ 34 == 0 else core == 0) ≡ true
    by true = eq-eqb (core % 2 ^ 34) 0 (ap (λ n. n % 2 ^ 34) free)
    by false = eq-eqb core 0 free

pub others_admit : (limits : WordLimits) (core : ℕ) (v : SleepView) (want : ExWant) → limits.wakes_one ≡ false
    → admits_to limits core v want ≡ word_admits v.held.announced limits.readers core want
others_admit limits core v want many = ap (λ b. if b then is_free v core else word_admits v.held.announced limits.readers core want) many

-- an acquisition leaves no release_on word
taken_after : (a : Bool) (limit core : ℕ) (want : ExWant) → IsTrue (word_admits a limit core want) → word_after core want ≢ 0
taken_after a limit core want.Shared h e = omega arith
taken_after a limit core want.Exclusive h e = omega arith
taken_after a limit core want.Upgradable h e = omega arith
taken_after a limit core want.Upgrade h e = omega arith
taken_after a limit core want.Announce h e = omega arith

-- a word that is held is held after it
held_after : (a : Bool) (limit core : ℕ) (want : ExWant) → IsTrue (word_admits a limit core want) → core % 2 ^ 34 ≢ 0
    → word_after core want % 2 ^ 34 ≢ 0
held_after a limit core want.Shared h held e = let low = ltb-true core (2 ^ 33) (and_parts (nat_lt core (2 ^ 33)) (nat_lt (core % 2 ^ 32) limit) h).0 in omega arith
held_after a limit core want.Exclusive h held e = omega arith
held_after a limit core want.Upgradable h held e = let low = ltb-true core (2 ^ 32) (and_parts (nat_lt core (2 ^ 32)) (nat_lt (core % 2 ^ 32) limit) h).0 in omega arith
held_after a limit core want.Upgrade h held e =
    elim (or_cases (core == 2 ^ 32 + 1) (core == 2 ^ 34 + 2 ^ 32 + 1) h) [
      | inl one ↦ (let is = eqb-true core (2 ^ 32 + 1) one in omega arith)
      | inr one ↦ (let is = eqb-true core (2 ^ 34 + 2 ^ 32 + 1) one in omega arith)
    ]
held_after a limit core want.Announce h held e = let low = ltb-true core (2 ^ 34) h in omega arith

-- under a bar, only those that are next are admitted
barred_refuses : (limits : WordLimits) (core : ℕ) (v : SleepView) (wish : ExWant) → limits.wakes_one ≡ false → IsTrue (is_awaited wish)
    → 2 ^ 34 ≤ core → is_next v wish ≡ false → admits_to limits core v wish ≡ false
barred_refuses limits core v wish many awaited bar not_next =
    let two = or_parts v.held.announced (is_upgrade wish) not_next in
    others_admit limits core v wish many ∙ by v.held.announced two.0 wish awaited two.1
  where
    by : (a : Bool) → a ≡ false → (w : ExWant) → IsTrue (is_awaited w) → is_upgrade w ≡ false → word_admits a limits.readers core w ≡ false
    by a not_set want.Shared h u = false_from_ne_true (word_admits a limits.readers core want.Shared) (λ e. grind arith)
    by a not_set want.Exclusive h u = false_from_ne_true (word_admits a limits.readers core want.Exclusive) (λ e. grind arith)
    by a not_set want.Upgradable h u = false_from_ne_true (word_admits a limits.readers core want.Upgradable) (λ e. grind arith)
    by a not_set want.Upgrade h u = absurd (true≢false u)
    by a not_set want.Announce h u = absurd (false≢true h)

-- a release that frees no mutex leaves it held
still_held : (limits : WordLimits) (core new : ℕ) → IsTrue limits.wakes_one → frees limits core new ≡ false → new % 2 ^ 34 ≢ 0
still_held limits core new one need free =
    let opened : frees limits core new ≡ (new % 2 ^ 34 == 0) = ap (λ b. if b then new % 2 ^ 34 == 0 else word_unblocks limits.readers core new) one in
    false≢true (sym need ∙ (opened ∙ eq-eqb (new % 2 ^ 34) 0 free))

-- the steps of a party, whatever all others are

module _ (limits : WordLimits) (core : ℕ) (t s : Bool) (views : List SleepView) (k : ℕ) (me : SleepView)
    (range : IsLimit limits.readers) (kept : KeepsSleepers limits core t s views) (at : slice_get views k ≡ Some me) where
  sums : Sums limits.readers core views
  sums = record { coded = kept.coded; legal = kept.legal }

  rule : KeepsRule limits.readers core (parties_of views)
  rule = rule_of limits.readers core views kept.coded kept.legal

  -- a step of the party at k, as far as the rule speaks of all
  keeps : (new : ℕ) (later now : Bool) (you : SleepView) → Sums limits.readers new (slice_set views k you)
      → ((want : ExWant) → you.sleep ≡ Asleep want → IsEntitled you want)
      → (IsTrue limits.wakes_one → later ≡ false)
      → NoneIsForgotten limits new later now (slice_set views k you) → KeepsSleepers limits new later now (slice_set views k you)
  keeps new later now you total own no_turn none =
      record {
        coded = total.coded;
        legal = total.legal;
        one_token = kept.one_token;
        no_turn = no_turn;
        entitled = λ j v want is asleep.
            elim (changed_or_not views k j you v is) [
              | inl e ↦ subst (λ (w : SleepView). IsEntitled w want) (sym e.1) (own want (subst (λ (w : SleepView). w.sleep ≡ Asleep want) e.1 asleep))
              | inr e ↦ kept.entitled j v want e.1 asleep
            ];
        none_forgotten = none;
      }

  -- a step that leaves the word and what the party holds
  quiet : (you : SleepView) → you.held ≡ me.held → ((want : ExWant) → you.sleep ≡ Asleep want → IsEntitled you want)
      → NoneIsForgotten limits core t s (slice_set views k you) → KeepsSleepers limits core t s (slice_set views k you)
  quiet you held own none =
      keeps core t s you (sums_same limits.readers core views (slice_set views k you) (same_holds views k me you at held) sums) own
      kept.no_turn none

  no_turn_in : IsTrue limits.wakes_one → (v : SleepView) (want : ExWant) → IsRefused limits core t v want → admits_to limits core v want ≡ false
  no_turn_in one v want refused = core_refuses limits core t v want (kept.no_turn one) refused

  exchange : (want : ExWant) (now : Bool) → IsTrue (hold_has me.held (step_of_want want))
      → IsTrue (word_admits me.held.announced limits.readers core want)
      → me.debt ≡ Nothing → (s ≡ true → now ≡ true) → (IsTrue (has_duty limits me) → now ≡ true)
      → KeepsSleepers limits (word_after core want) t now (slice_set views k (after_win me want))
  exchange want now has admits debt stays sets =
      let you = after_win me want in
      let new = word_after core want in
      let won = keeps_exchange limits.readers core (parties_of views) k (party_of me) want range rule (party_at views k me at) has admits in
      let taken : new ≢ 0 = taken_after me.held.announced limits.readers core want admits in
      keeps new t now you
      (sums_of limits.readers new (slice_set (parties_of views) k (turns.after_win (party_of me) (step_of_want want))) (slice_set views k you)
      (set_holds views k (turns.after_win (party_of me) (step_of_want want)) you refl) won)
      (λ other asleep. cc)
      kept.no_turn
      (forgets_none limits core new t t s now views k me you at kept.none_forgotten
      (λ j v other apart is asleep set refused.
      inl (
        stays set,
        elim refused [
          | inr turn ↦ inr turn
          | inl core_refused ↦
              inl (elim (cases_Bool limits.wakes_one) [
                | inl one ↦
                    elim (cases_Bool v.held.announced) [
                      | inl bar ↦
                          held_refuses limits new v other one
                          (held_after me.held.announced limits.readers core want admits (mutex_held limits core v other one bar core_refused))
                      | inr bare ↦ mutex_refuses limits new v other one bare taken
                    ]
                | inr many ↦
                    others_admit limits new v other many
                    ∙ false_from_ne_true (word_admits v.held.announced limits.readers new other) (λ after.
                    let due = kept.entitled j v other is asleep in
                    let before = exchanges_unblock_nobody me.held.announced limits.readers core want v.held other range
                    (shows limits.readers core (parties_of views) j (party_of v) range rule (party_at views j v is)) admits due.0 due.1 after in
                    false≢true (sym core_refused ∙ (others_admit limits core v other many ∙ before)))
              ])
        ],
      ))
      (λ j v other is asleep does.
      let duty = serves_by_duty limits me v other debt does in
      inl (sets duty.0, inl (mutex_refuses limits new v other (duty_in_mutex limits me duty.0) duty.1 taken)))
      (λ other asleep. cc))

  -- the party owes all a wake-up, if S was set
  all_owed : (you : SleepView) (new : ℕ) (now : Bool) → me.debt ≡ Nothing → limits.wakes_one ≡ false → (s ≡ true → you.debt ≡ All) → you.sleep ≡ Awake
      → NoneIsForgotten limits new false now (slice_set views k you)
  all_owed you new now debt many owes awake =
      forgets_none limits core new t false s now views k me you at kept.none_forgotten
      (λ j v other apart is asleep set refused.
      let reached : reaches limits you.debt v other ≡ true = ap (λ d. reaches limits d v other) (owes set) in
      inr (here limits views k me you v other at (or_left (reaches limits you.debt v other) (has_duty limits you && not v.held.announced) reached)))
      (λ j v other is asleep does.
      let duty = serves_by_duty limits me v other debt does in
      absurd (false≢true (sym many ∙ duty_in_mutex limits me duty.0)))
      (λ other asleep. let sleeping : Asleep other ≡ Awake = sym asleep ∙ awake in cc)

  takes_turn : (want : ExWant) (now : Bool) (debt : Debt) → IsTrue (hold_has me.held (step_of_want want))
      → IsTrue (word_admits me.held.announced limits.readers core want)
      → me.debt ≡ Nothing → limits.wakes_one ≡ false → (s ≡ true → debt ≡ All)
      → KeepsSleepers limits (word_after core want) false now (slice_set views k (with_debt (after_win me want) debt))
  takes_turn want now debt has admits nothing many owes =
      let you = with_debt (after_win me want) debt in
      let new = word_after core want in
      let won = keeps_exchange limits.readers core (parties_of views) k (party_of me) want range rule (party_at views k me at) has admits in
      keeps new false now you
      (sums_of limits.readers new (slice_set (parties_of views) k (turns.after_win (party_of me) (step_of_want want))) (slice_set views k you)
      (set_holds views k (turns.after_win (party_of me) (step_of_want want)) you refl) won)
      (λ other asleep. cc) (λ one. refl)
      (all_owed you new now nothing many owes refl)

  drops_turn : (debt : Debt) → me.debt ≡ Nothing → limits.wakes_one ≡ false → (s ≡ true → debt ≡ All)
      → KeepsSleepers limits core false s (slice_set views k (with_debt (with_sleep me Awake) debt))
  drops_turn debt nothing many owes =
      let you = with_debt (with_sleep me Awake) debt in
      keeps core false s you (sums_same limits.readers core views (slice_set views k you) (same_holds views k me you at refl) sums)
      (λ other asleep. cc) (λ one. refl)
      (all_owed you core s nothing many owes refl)

  turns_set : limits.wakes_one ≡ false → KeepsSleepers limits core true true views
  turns_set many =
      record {
        coded = kept.coded;
        legal = kept.legal;
        one_token = kept.one_token;
        no_turn = λ one. absurd (false≢true (sym many ∙ one));
        entitled = kept.entitled;
        none_forgotten = λ j v want is asleep.
            elim (kept.none_forgotten j v want is asleep) [ inl e ↦ inl (refl, still v want e.1) | inr e ↦ inr e ];
      }
    where
      still : (v : SleepView) (want : ExWant) → IsRefused limits core t v want → IsRefused limits core true v want
      still v want (inl core_does) = inl core_does
      still v want (inr turn) = inr (refl, turn.1)

  marks : KeepsSleepers limits core t true views
  marks =
      record {
        coded = kept.coded;
        legal = kept.legal;
        one_token = kept.one_token;
        no_turn = kept.no_turn;
        entitled = kept.entitled;
        none_forgotten = λ j v want is asleep.
            elim (kept.none_forgotten j v want is asleep) [ inl e ↦ inl (refl, e.1) | inr e ↦ inr e ];
      }

  -- a sleeper that was refused, after a release that does what it has to
  -- the party after the release
  abbrev freed : Hold → Debt → SleepView
  freed held debt = record { held = held; sleep = Awake; debt = debt }

  -- under a bar, those that are not next are refused
  still_barred : (new : ℕ) (j : ℕ) (v : SleepView) (want : ExWant) → 2 ^ 34 ≤ new → slice_get views j ≡ Some v → v.sleep ≡ Asleep want → is_next v want ≡ false
      → admits_to limits new v want ≡ false
  still_barred new j v want bar is asleep not_next =
      elim (cases_Bool limits.wakes_one) [
        | inl one ↦ mutex_refuses limits new v want one (or_parts v.held.announced (is_upgrade want) not_next).0 (λ free. omega arith)
        | inr many ↦ barred_refuses limits new v want many (kept.entitled j v want is asleep).0 bar not_next
      ]

  paid : (new : ℕ) (now : Bool) (debt : Debt) (held : Hold) (j : ℕ) (v : SleepView) (want : ExWant) → IsPaid limits core new t s now debt
      → Sums limits.readers new (slice_set views k (freed held debt))
      → j ≢ k → slice_get views j ≡ Some v → v.sleep ≡ Asleep want → s ≡ true → IsRefused limits core t v want
      → IsServed limits new t now (slice_set views k (freed held debt)) v want
  paid new now Nothing held j v want (is_unset clear) total apart is asleep set refused = absurd (false≢true (sym clear ∙ set))
  paid new now Nothing held j v want (is_unneeded need keeps_s) total apart is asleep set refused =
      inl (
        keeps_s,
        elim refused [
          | inr turn ↦ inr turn
          | inl core_refused ↦
              inl (elim (cases_Bool limits.wakes_one) [
                | inl one ↦
                    held_refuses limits new v want one (still_held limits core new one need)
                | inr many ↦
                    (let opened : frees limits core new ≡ word_unblocks limits.readers core new = ap (λ b. if b then new % 2 ^ 34 == 0 else word_unblocks limits.readers core new) many in
                    let you = freed held Nothing in
                    let later = rule_of limits.readers new (slice_set views k you) total.coded total.legal in
                    others_admit limits new v want many
                    ∙ false_from_ne_true (word_admits v.held.announced limits.readers new want) (λ after.
                    let due = kept.entitled j v want is asleep in
                    let before = unblocks_misses_nobody v.held.announced limits.readers core new want range (packed_word limits.readers core (parties_of views) range rule)
                    (packed_word limits.readers new (parties_of (slice_set views k you)) range later) due.0 (sym opened ∙ need) after in
                    false≢true (sym core_refused ∙ (others_admit limits core v want many ∙ before))))
              ])
        ],
      )
  paid new now Next held j v want (is_barred bar keeps_s) total apart is asleep set refused =
      elim (cases_Bool (is_next v want)) [
        | inl next ↦ inr (here limits views k me (freed held Next) v want at (or_left (is_next v want) (has_duty limits (freed held Next) && not v.held.announced) next))
        | inr not_next ↦ inl (keeps_s, inl (still_barred new j v want bar is asleep not_next))
      ]
  paid new now Turn held j v want (is_shared_bar bar keeps_s) total apart is asleep set refused =
      elim (cases_Bool (is_in_turn v want)) [
        | inl in_turn ↦ inr (here limits views k me (freed held Turn) v want at (or_left (is_in_turn v want) (has_duty limits (freed held Turn) && not v.held.announced) in_turn))
        | inr not_in ↦ inl (keeps_s, inl (still_barred new j v want bar is asleep (or_parts (is_next v want) (is_shared want) not_in).0))
      ]
  paid new now Turn held j v want (is_turned set_t keeps_s) total apart is asleep set refused =
      elim (cases_Bool (is_in_turn v want)) [
        | inl in_turn ↦ inr (here limits views k me (freed held Turn) v want at (or_left (is_in_turn v want) (has_duty limits (freed held Turn) && not v.held.announced) in_turn))
        | inr not_in ↦ inl (keeps_s, inr (set_t, turn_refuses v want not_in))
      ]
  paid new now All held j v want is_all total apart is asleep set refused = inr (here limits views k me (freed held All) v want at refl)
  paid new now One held j v want (is_one wakes low) total apart is asleep set refused =
      let you = freed held One in
      let later = rule_of limits.readers new (slice_set views k you) total.coded total.legal in
      let seen = shows limits.readers new (parties_of (slice_set views k you)) j (party_of v) range later
      (party_at (slice_set views k you) j v (other_stays views k j you v apart is)) in
      let bare : v.held.announced ≡ false = false_from_ne_true v.held.announced (λ bar.
      let shown = seen.announced (subst (λ b. 0 < (if b then 1 else 0)) (sym bar) (omega arith)) in omega arith) in
      inr (here limits views k me you v want at
      (or_left (limits.wakes_one && not v.held.announced) (has_duty limits you && not v.held.announced) (and_from limits.wakes_one (not v.held.announced) wakes (ap not bare))))

  take : (down : Down) (now : Bool) (debt : Debt) → IsTrue (hold_has me.held (step_of_down down))
      → me.debt ≡ Nothing → (IsTrue (has_duty limits me) → (now ≡ true) × (frees limits core (core - amount down) ≡ false))
      → IsPaid limits core (core - amount down) t s now debt
      → KeepsSleepers limits (core - amount down) t now (slice_set views k (after_take me down debt))
  take down now debt has nothing dutiful pays =
      let you = after_take me down debt in
      let new = core - amount down in
      let won = keeps_take limits.readers core (parties_of views) k (party_of me) down range rule (party_at views k me at) has in
      let total = sums_of limits.readers new (slice_set (parties_of views) k (turns.after_win (party_of me) (step_of_down down))) (slice_set views k you)
      (set_holds views k (turns.after_win (party_of me) (step_of_down down)) you refl) won in
      keeps new t now you total
      (λ other asleep. cc)
      kept.no_turn
      (forgets_none limits core new t t s now views k me you at kept.none_forgotten
      (λ j v want apart is asleep set refused. paid new now debt you.held j v want pays total apart is asleep set refused)
      (λ j v want is asleep does.
      let duty = (serves_by_duty limits me v want nothing does).0 in
      let leaves = dutiful duty in
      let one = duty_in_mutex limits me duty in
      inl (leaves.0, inl (held_refuses limits new v want one (still_held limits core new one leaves.1))))
      (λ other asleep. cc))

  sleeps : (want : ExWant) → IsEntitled me want → me.debt ≡ Nothing → s ≡ true → IsRefused limits core t me want
      → KeepsSleepers limits core t s (slice_set views k (with_sleep me (Asleep want)))
  sleeps want due debt set refused =
      let you = with_sleep me (Asleep want) in
      quiet you refl (λ other asleep. by other asleep)
      (forgets_none limits core core t t s s views k me you at kept.none_forgotten
      (λ j v other apart is asleep was no. inl (was, no))
      (λ j v other is asleep does.
      let duty = serves_by_duty limits me v other debt does in
      let one = duty_in_mutex limits me duty.0 in
      inl (set, inl (mutex_refuses limits core v other one duty.1 (mutex_taken limits core me want one (no_turn_in one me want refused)))))
      (λ other asleep. inl (set, subst (λ w. IsRefused limits core t me w) (same want other asleep) refused)))
    where
      same : (x y : ExWant) → Asleep x ≡ Asleep y → x ≡ y
      same x y e = cc

      by : (other : ExWant) → Asleep want ≡ Asleep other → IsEntitled (with_sleep me (Asleep want)) other
      by other e = subst (λ w. IsEntitled (with_sleep me (Asleep want)) w) (same want other e) due

  wakes : KeepsSleepers limits core t s (slice_set views k (with_sleep me Woken))
  wakes =
      let you = with_sleep me Woken in
      quiet you refl (λ other asleep. cc)
      (forgets_none limits core core t t s s views k me you at kept.none_forgotten
      (λ j v other apart is asleep was no. inl (was, no))
      (λ j v other is asleep does.
      inr (here limits views k me you v other at
      (elim (or_cases (reaches limits me.debt v other) (has_duty limits me && not v.held.announced) does) [
        | inl owes ↦ or_left (reaches limits me.debt v other) (has_duty limits you && not v.held.announced) owes
        | inr duty ↦
            (let two = and_parts (has_duty limits me) (not v.held.announced) duty in
            or_right (reaches limits me.debt v other) (has_duty limits you && not v.held.announced)
            (and_from (has_duty limits you) (not v.held.announced) (and_from limits.wakes_one true (duty_in_mutex limits me two.0) refl) two.1))
      ])))
      (λ other asleep. cc))

  stops : me.debt ≡ Nothing → (IsTrue limits.wakes_one → (s ≡ true) × (core ≢ 0))
      → KeepsSleepers limits core t s (slice_set views k (with_sleep me Awake))
  stops debt found =
      let you = with_sleep me Awake in
      quiet you refl (λ other asleep. cc)
      (forgets_none limits core core t t s s views k me you at kept.none_forgotten
      (λ j v other apart is asleep was no. inl (was, no))
      (λ j v other is asleep does.
      let duty = serves_by_duty limits me v other debt does in
      let one = duty_in_mutex limits me duty.0 in
      inl ((found one).0, inl (mutex_refuses limits core v other one duty.1 (found one).1)))
      (λ other asleep. cc))

  pays_one : (j : ℕ) (w : SleepView) → me.debt ≡ One → is_asleep me.sleep ≡ false → j ≢ k → slice_get views j ≡ Some w → w.sleep ≡ Woken
      → KeepsSleepers limits core t s (slice_set views k (with_debt me Nothing))
  pays_one j w owes awake other is_w woken =
      let you = with_debt me Nothing in
      quiet you refl (λ want asleep. absurd (true≢false (sym (ap is_asleep asleep) ∙ awake)))
      (forgets_none limits core core t t s s views k me you at kept.none_forgotten
      (λ i v want apart is asleep was no. inl (was, no))
      (λ i v want is asleep does.
      let owed : IsTrue limits.wakes_one × IsTrue (not v.held.announced)
      = elim (or_cases (reaches limits me.debt v want) (has_duty limits me && not v.held.announced) does) [
        | inl reached ↦ and_parts limits.wakes_one (not v.held.announced) (sym (ap (λ d. reaches limits d v want) owes) ∙ reached)
        | inr duty ↦
            (let two = and_parts (has_duty limits me) (not v.held.announced) duty in
            (duty_in_mutex limits me two.0, two.1))
      ] in
      inr record {
        number = j;
        server = w;
        is = other_stays views k j you w other is_w;
        does =
            or_right (reaches limits w.debt v want) (has_duty limits w && not v.held.announced)
            (and_from (has_duty limits w) (not v.held.announced) (and_from limits.wakes_one (is_woken w.sleep) owed.0 (ap is_woken woken)) owed.1);
      })
      (λ want asleep. absurd (true≢false (sym (ap is_asleep asleep) ∙ awake))))

  pays_nobody : ((j : ℕ) (v : SleepView) → slice_get views j ≡ Some v → is_asleep v.sleep ≡ false)
      → KeepsSleepers limits core t s (slice_set views k (with_debt me Nothing))
  pays_nobody nobody =
      let you = with_debt me Nothing in
      quiet you refl (λ want asleep. absurd (true≢false (sym (ap is_asleep asleep) ∙ nobody k me at)))
      (forgets_none limits core core t t s s views k me you at kept.none_forgotten
      (λ i v want apart is asleep was no. inl (was, no))
      (λ i v want is asleep does. absurd (true≢false (sym (ap is_asleep asleep) ∙ nobody i v is)))
      (λ want asleep. absurd (true≢false (sym (ap is_asleep asleep) ∙ nobody k me at))))

-- the wake-ups of many

-- an element of a mapped list is the image of one
of_mapped : (f : SleepView → SleepView) (views : List SleepView) (j : ℕ) (w : SleepView) → slice_get (map f views) j ≡ Some w
    → (v : SleepView) × (slice_get views j ≡ Some v) × (w ≡ f v)
of_mapped f [] j w h = cc
of_mapped f (v ∷ views) zero w h = (v, refl, same_Some w (f v) (sym h))
of_mapped f (v ∷ views) (suc j) w h = of_mapped f views j w h

in_mapped : (f : SleepView → SleepView) (views : List SleepView) (j : ℕ) (v : SleepView) → slice_get views j ≡ Some v → slice_get (map f views) j ≡ Some (f v)
in_mapped f views j v h = rw (slice_get-map f views j, h)

pub mapped_holds : (f : SleepView → SleepView) (views : List SleepView) → ((v : SleepView) → (f v).held ≡ v.held) → holds_of (map f views) ≡ holds_of views
mapped_holds f [] same = refl
mapped_holds f (v ∷ views) same = ap (λ hs. (f v).held ∷ hs) (mapped_holds f views same) ∙ ap (λ h. h ∷ holds_of views) (same v)

none_asleep_all : (state : SleepState) (want : ExWant) → woken_all state ≡ Asleep want → ⊥
none_asleep_all Awake want e = cc
none_asleep_all (Asleep x) want e = cc
none_asleep_all Woken want e = cc

-- one that is still asleep slept before, and the test does not name it
still_asleep : (test : SleepView → ExWant → Bool) (v : SleepView) (state : SleepState) (want : ExWant) → woken_of test v state ≡ Asleep want → (state ≡ Asleep want) × (test v want ≡ false)
still_asleep test v Awake want e = cc
still_asleep test v (Asleep x) want e = by (test v x) refl e
  where
    same : (x y : ExWant) → Asleep x ≡ Asleep y → x ≡ y
    same x y e = cc

    by : (b : Bool) → b ≡ test v x → (if b then Woken else Asleep x) ≡ Asleep want → (Asleep x ≡ Asleep want) × (test v want ≡ false)
    by true is e = cc
    by false is e = (e, subst (λ w. test v w ≡ false) (same x want e) (sym is))
still_asleep test v Woken want e = cc

woken_stays : (test : SleepView → ExWant → Bool) (v : SleepView) (state : SleepState) → IsTrue (is_woken state) → IsTrue (is_woken (woken_of test v state))
woken_stays test v Awake h = h
woken_stays test v (Asleep x) h = absurd (false≢true h)
woken_stays test v Woken h = h

still_reaches : (test : SleepView → ExWant → Bool) (limits : WordLimits) (debt : Debt) (v : SleepView) (want : ExWant) → IsTrue (reaches limits debt v want)
    → IsTrue (reaches limits debt (wake_of test v) want)
still_reaches test limits Nothing v want h = h
still_reaches test limits One v want h = h
still_reaches test limits All v want h = h
still_reaches test limits Next v want h = h
still_reaches test limits Turn v want h = h

module _ (limits : WordLimits) (core : ℕ) (t s : Bool) (views : List SleepView) (k : ℕ) (me : SleepView)
    (range : IsLimit limits.readers) (kept : KeepsSleepers limits core t s views) (at : slice_get views k ≡ Some me) where
  -- the party at k pays, and f wakes
  paid_by : (f : SleepView → SleepView) (views_after : List SleepView) → views_after ≡ slice_set (map f views) k (with_debt (f me) Nothing)
      → ((v : SleepView) → (f v).held ≡ v.held)
      → ((j : ℕ) (w : SleepView) (want : ExWant) → slice_get views_after j ≡ Some w → w.sleep ≡ Asleep want → IsEntitled w want × IsServed limits core t s views_after w want)
      → KeepsSleepers limits core t s views_after
  paid_by f later is same each =
      let mid = map f views in
      let you = with_debt (f me) Nothing in
      let there = in_mapped f views k me at in
      let hs : holds_of later ≡ holds_of views = ap holds_of is ∙ (same_holds mid k (f me) you there refl ∙ mapped_holds f views same) in
      let total = sums_same limits.readers core views later hs record { coded = kept.coded; legal = kept.legal } in
      record {
        coded = total.coded;
        legal = total.legal;
        one_token = kept.one_token;
        no_turn = kept.no_turn;
        entitled = λ j w want at_j asleep. (each j w want at_j asleep).0;
        none_forgotten = λ j w want at_j asleep. (each j w want at_j asleep).1;
      }

  pays_all : me.debt ≡ All → KeepsSleepers limits core t s (slice_set (map wake_all views) k (with_debt (wake_all me) Nothing))
  pays_all owes =
      let you = with_debt (wake_all me) Nothing in
      paid_by wake_all (slice_set (map wake_all views) k you) refl (λ v. refl) (λ j w want is asleep.
      elim (changed_or_not (map wake_all views) k j you w is) [
        | inl e ↦ absurd (none_asleep_all me.sleep want (subst (λ (x : SleepView). x.sleep ≡ Asleep want) e.1 asleep))
        | inr e ↦
            (let from = of_mapped wake_all views j w e.1 in
            absurd (none_asleep_all from.0.sleep want (subst (λ (x : SleepView). x.sleep ≡ Asleep want) from.2 asleep)))
      ])

  -- a wake-up of those that the test names, whom the debt reaches
  pays_some : (test : SleepView → ExWant → Bool) (debt : Debt) → ((v : SleepView) (want : ExWant) → reaches limits debt v want ≡ test v want)
      → me.debt ≡ debt → is_asleep me.sleep ≡ false → has_duty limits me ≡ false
      → KeepsSleepers limits core t s (slice_set (map (wake_of test) views) k (with_debt (wake_of test me) Nothing))
  pays_some test debt names owes awake idle =
      let wakes = wake_of test in
      let you = with_debt (wakes me) Nothing in
      let mid = map wakes views in
      paid_by wakes (slice_set mid k you) refl (λ v. refl) (λ j w want is asleep.
      elim (changed_or_not mid k j you w is) [
        | inl e ↦
            (let mine = still_asleep test me me.sleep want (subst (λ (x : SleepView). x.sleep ≡ Asleep want) e.1 asleep) in
            absurd (true≢false (sym (ap is_asleep mine.0) ∙ awake)))
        | inr e ↦
            (let from = of_mapped wakes views j w e.1 in
            let v = from.0 in
            let slept = still_asleep test v v.sleep want (subst (λ (x : SleepView). x.sleep ≡ Asleep want) from.2 asleep) in (
              subst (λ (x : SleepView). IsEntitled x want) (sym from.2) (kept.entitled j v want from.1 slept.0),
              subst (λ (x : SleepView). IsServed limits core t s (slice_set mid k you) x want) (sym from.2)
                  (elim (kept.none_forgotten j v want from.1 slept.0) [
                    | inl before ↦ inl before
                    | inr someone ↦
                        elim (cases_eq someone.number k) [
                          | inl same ↦
                              (let found : slice_get views k ≡ Some someone.server = subst (λ n. slice_get views n ≡ Some someone.server) same someone.is in
                              let is_me : someone.server ≡ me = same_Some someone.server me (sym found ∙ at) in
                              let does : IsTrue (serves limits me v want) = subst (λ (x : SleepView). IsTrue (serves limits x v want)) is_me someone.does in
                              let not_me : serves limits me v want ≡ false
                              = or_no (reaches limits me.debt v want) (has_duty limits me && not v.held.announced) (ap (λ d. reaches limits d v want) owes ∙ (names v want ∙ slept.1))
                              (ap (λ b. b && not v.held.announced) idle) in
                              absurd (true≢false (sym does ∙ not_me)))
                          | inr other ↦ inr record {
                            number = someone.number;
                            server = wakes someone.server;
                            is = other_stays mid k someone.number you (wakes someone.server) other (in_mapped wakes views someone.number someone.server someone.is);
                            does =
                                elim (or_cases (reaches limits someone.server.debt v want) (has_duty limits someone.server && not v.held.announced) someone.does) [
                                  | inl owed ↦ or_left (reaches limits someone.server.debt (wakes v) want) (has_duty limits (wakes someone.server) && not v.held.announced) (still_reaches test limits someone.server.debt v want owed)
                                  | inr duty ↦
                                      (let both = and_parts (has_duty limits someone.server) (not v.held.announced) duty in
                                      let two = and_parts limits.wakes_one (is_woken someone.server.sleep) both.0 in
                                      or_right (reaches limits someone.server.debt (wakes v) want) (has_duty limits (wakes someone.server) && not v.held.announced)
                                      (and_from (has_duty limits (wakes someone.server)) (not v.held.announced)
                                      (and_from limits.wakes_one (is_woken (woken_of test someone.server someone.server.sleep)) two.0
                                      (woken_stays test someone.server someone.server.sleep two.1)) both.1))
                                ];
                          }
                        ]
                  ]),
            ))
      ])

  pub each_step : EachStepKeeps limits core t s views k me
  each_step =
      record {
        exchange = exchange limits core t s views k me range kept at;
        takes_turn = takes_turn limits core t s views k me range kept at;
        marks = marks limits core t s views k me range kept at;
        turns = turns_set limits core t s views k me range kept at;
        drops_turn = drops_turn limits core t s views k me range kept at;
        take = take limits core t s views k me range kept at;
        sleeps = sleeps limits core t s views k me range kept at;
        wakes = wakes limits core t s views k me range kept at;
        stops = stops limits core t s views k me range kept at;
        pays_all = pays_all;
        pays_next = pays_some is_next Next (λ v want. refl);
        pays_turn = pays_some is_in_turn Turn (λ v want. refl);
        pays_one = pays_one limits core t s views k me range kept at;
        pays_nobody = pays_nobody limits core t s views k me range kept at;
      }

pub starts : (limits : WordLimits) → IsLimit limits.readers → (IsTrue limits.wakes_one → limits.readers ≡ 1)
    → KeepsSleepers limits 0 false false (new_party ∷ [])
starts limits range one =
    record {
      coded = refl;
      legal = record {
        compatible = record { within = omega arith; one_upgradable = omega arith; alone = λ some. absurd (omega arith) };
        one_bar = omega arith;
      };
      one_token = one;
      no_turn = λ is. refl;
      entitled = λ k v want is asleep. absurd (awake k v want is asleep);
      none_forgotten = λ k v want is asleep. absurd (awake k v want is asleep);
    }
  where
    awake : (k : ℕ) (v : SleepView) (want : ExWant) → slice_get (new_party ∷ []) k ≡ Some v → v.sleep ≡ Asleep want → ⊥
    awake k v want is asleep =
        elim (element_of_longer [] new_party v k is) [
          | inl old ↦ cc
          | inr new ↦ (let state = ap (λ (w : SleepView). w.sleep) new in cc)
        ]

pub steps_keep_sleepers : StepsKeepSleepers
steps_keep_sleepers = record { starts = starts; steps = each_step }
