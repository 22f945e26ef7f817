-- The locks keep nobody apart exactly if those that are left do not.
use Rattle.std.proofs.Common.{◌≡◌, drop, []}
use Rattle.std.specs.Prelude.{option_map}
use Rattle.std.specs.Option.{unwrap_or}
use Rattle.lock_plan_order.specs.WaitChecks.{meet_from}
use Rattle.lock_plan_order.proofs.setting.meet_from.Given as goal

abbrev pub invariant-loop-lock : goal.invariant-loop-lock
invariant-loop-lock l = record {
  at : l.number ≡ l.lock-index;
  same : meet_from (drop l.lock-index l.locks) l.number (unwrap_or (option_map (λ h. h.now) l.hs) []) (unwrap_or (option_map (λ h. h.now) l.ks) [])
      ≡ meet_from l.locks 0 (unwrap_or (option_map (λ h. h.now) l.hs) []) (unwrap_or (option_map (λ h. h.now) l.ks) []);
}
