use Rattle.std.proofs.Common.{Some, ap, sym, ◌∙◌}
use Rattle.lock_machine.specs.Entries.{find}
use Rattle.lock_desk.proofs.Entries.{none_found, entry_found}
use Rattle.lock_desk.proofs.guards.Guards.look.Goals as goal

pub returns-in_err-bookmark : goal.returns-in_err-bookmark
returns-in_err-bookmark g c =
    rw c.from_residual.ensures
    (ap (λ h. find c.args.number h.entries) (sym c.self.view_is)
    ∙ none_found c.args.number c.self.inside.slots.items c.in_err-bookmark.ensures)

pub returns : goal.returns
returns g c =
    let entry = entry_found _ c.self.inside.slots.items _ c.item.ensures in
    record {
      number_is = ap (λ p. p.number) c.found_at.ensures.bookmark ∙ c.in_ok-bookmark.ensures.0;
      entry_is = ap (λ h. find c.args.number h.entries) (sym c.self.view_is) ∙ (rw c.in_ok-bookmark.ensures.0 at entry)
          ∙ ap Some (sym c.found_at.ensures.entry);
    }
