use Rattle.std.proofs.Common.{rules, ◌≡◌, sym}
use Rattle.std.specs.Prelude.{Some, is_ok, length}
use Rattle.std.specs.List.{slice_get}
use Rattle.lock_conform.proofs.Answered.{no_difference, one_more_if}
use Rattle.lock_conform.proofs.comparison.Comparison.answer.Goals as goal

pub invariant_of-self : goal.invariant_of-self
invariant_of-self c = record {
  first = c.args.self.now.first;
  differs = ∣ record { line = search rules; call = search rules; wanted = search rules; differs = search rules } ∣₁;
}

pub invariant_of-self-2 : goal.invariant_of-self-2
invariant_of-self-2 c =
    let at : c.len-at.result ≡ length c.args.self.now.entries.items = search rules in
    let next : slice_get c.args.self.now.lines.replies.items (length c.args.self.now.entries.items) ≡ Some c.line-line.result.wanted =
    rw (sym at) c.line-line.ensures.wanted in record {
      first = one_more_if (is_ok c.push.result) c.args.self.now.entries.items c.push.new.self.items
          c.args.self.now.lines.replies.items _ c.push.ensures.items c.args.self.now.first next;
      differs = no_difference c.args.self.now.difference _ (search rules);
    }
