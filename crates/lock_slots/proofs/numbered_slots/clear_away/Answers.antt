use Rattle.std.proofs.Common.{◌≡◌, rules, is_some}
use Rattle.std.specs.List.{filter}
use Rattle.std.proofs.lemmas.List.Elements.{filter_from_retain}
use Rattle.lock_slots.specs.declared.row.Row.{Row}
use Rattle.lock_slots.proofs.Rising.{rising_filter, items_of-filter, length-filter}
use Rattle.lock_slots.proofs.numbered_slots.clear_away.Goals as goal

pub returns-clause-items : goal.returns-clause-items
returns-clause-items g c =
    let kept : c.retain.new.self.items ≡ filter (λ (r : Row g.row.X.Denot). is_some r.item) c.args.rows.now.items
    = filter_from_retain _ (λ (r : Row g.row.X.Denot). is_some r.item)
    (λ p x b q k. search rules) _ _ _ c.retain.ensures.filtered in
    rw kept (items_of-filter c.args.rows.now.items)

pub returns-clause-rising : goal.returns-clause-rising
returns-clause-rising g c =
    let kept : c.retain.new.self.items ≡ filter (λ (r : Row g.row.X.Denot). is_some r.item) c.args.rows.now.items
    = filter_from_retain _ (λ (r : Row g.row.X.Denot). is_some r.item)
    (λ p x b q k. search rules) _ _ _ c.retain.ensures.filtered in
    λ last h. rw kept (rising_filter _ _ _ _ h)

pub returns-clause-full : goal.returns-clause-full
returns-clause-full g c =
    let kept : c.retain.new.self.items ≡ filter (λ (r : Row g.row.X.Denot). is_some r.item) c.args.rows.now.items
    = filter_from_retain _ (λ (r : Row g.row.X.Denot). is_some r.item)
    (λ p x b q k. search rules) _ _ _ c.retain.ensures.filtered in
    rw kept (length-filter {X = g.row.X.Denot} c.args.rows.now.items)
