-- Every list of steps from a new world is sound.
use Rattle.std.proofs.Common.{List, subst}
use Rattle.lock_modes.specs.Modes.{AreCompatible}
use Rattle.lock_modes.specs.ModeRuns.{IsModeRun}
use Rattle.lock_word.specs.declared.step.AtomicStep.{AtomicStep}
use Rattle.lock_word.specs.Holders.{steps_of}
use Rattle.lock_word.specs.BarredBags.{BarredBag}
use Rattle.lock_word.specs.Rule.{holds, held_by_all}
use Rattle.lock_word.specs.Worlds.{WorldState, after_step, new_world, world_after, IsReachable}
use Rattle.lock_word.specs.Claims.{changes_from, EveryInterleaving}
use Rattle.lock_word.proofs.Holders.{run_of_all}
use Rattle.lock_word.proofs.Rules.{fails_bounded}
use Rattle.lock_word.proofs.Reached.{step_effect, reachable_new, reachable_after, readers_after, held_by_idle, run_of_steps, leaves_step}
use Rattle.lock_word.proofs.Bars.{bar_of_rule}
use Rattle.lock_word.proofs.LastLoads.{refused_at_last_load, outrun_since_last_load}

-- the steps that were done from a reachable world are a run of the modes on what all parties hold
pub run_on_all : (w : WorldState) (ss : List AtomicStep) → IsReachable w
    → IsModeRun w.readers (held_by_all w.parties).bag (steps_of (changes_from w ss)) (held_by_all (world_after w ss).parties).bag
run_on_all w ss h =
    run_of_all w.readers (holds w.parties) (holds (world_after w ss).parties) (changes_from w ss) (run_of_steps w ss h)

pub every_interleaving : EveryInterleaving
every_interleaving count limit ss range =
    let start = new_world count limit in
    let last = world_after start ss in
    let new = reachable_new count limit range in
    let reached = reachable_after start ss new in
    record {
      coded = reached.rule.coded;
      legal =
          subst (λ n. AreCompatible n (held_by_all last.parties).bag) (readers_after start ss) reached.rule.legal.compatible;
      bar = bar_of_rule last.readers last.word last.parties reached.limit reached.rule;
      by_parties = run_of_steps start ss new;
      run =
          subst (λ (b : BarredBag). IsModeRun limit b.bag (steps_of (changes_from start ss)) (held_by_all last.parties).bag)
          (held_by_idle count)
          (run_on_all start ss new);
      bounded = fails_bounded last.readers last.word last.parties reached.rule;
      leaves = λ s. leaves_step last s (after_step last s) (step_effect last s);
      refuses = λ p want h. refused_at_last_load count limit ss p want range h;
      changes = λ p want h. outrun_since_last_load count limit ss p want range h;
    }
