use Rattle.lock_slots.proofs.Rising.{find_none, find_row}
use Rattle.lock_slots.proofs.Kept.{no_none}
use Rattle.lock_slots.proofs.numbered_slots.marked_row.Goals as goal

pub unreachable-requires : goal.unreachable-requires
unreachable-requires g c =
    no_none _ c.requires.item (find_none c.args.bookmark.number c.args.rows.now.items c.in_default.ensures)

pub returns-clause-found : goal.returns-clause-found
returns-clause-found g c = λ r e. find_row _ _ c.args.rows.now.items c.requires.rising.1 _ _ r c.in-Some.ensures e
