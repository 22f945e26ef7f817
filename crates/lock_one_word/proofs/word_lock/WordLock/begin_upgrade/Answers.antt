use Rattle.std.proofs.Common.{true, refl, sym, ap, ◌∙◌}
use Rattle.lock_modes.specs.declared.mode.Mode.TheVariants.{Upgradable}
use Rattle.lock_word.specs.declared.want.ExWant.TheVariants.{Upgrade}
use Rattle.lock_one.specs.declared.action.Action.TheVariants.{Load}
use Rattle.lock_one.specs.Machine.{acquiring}
use Rattle.lock_one_word.specs.Calls.{WordLockView, TokenView, one_hold}
use Rattle.lock_one_word.specs.Seats.{Self, to_acquire}
use Rattle.lock_one_word.proofs.Begins.{first_upgrade}
use Rattle.lock_one_word.proofs.Straight.{goes}
use Rattle.lock_one_word.proofs.word_lock.WordLock.begin_upgrade.Goals as goal

pub load_word-word-requires : goal.load_word-word-requires
load_word-word-requires c = ap (λ (t : TokenView). t.lock.id) (sym c.into_seat-seat.ensures.token ∙ c.requires)

pub returns : goal.returns
returns c =
    let mine = sym c.into_seat-seat.ensures.token ∙ c.requires in
    let begun = acquiring c.self.inside.readers Upgrade c.args.blocks true in
    let me = c.into_seat-seat.result.seat.me in
    let after = c.load_word-word.new.seat.seat.me in record {
      table = (
        c.load_word-word.ensures.same.0 ∙ ap (λ (t : TokenView). t.lock.id) mine,
        ap (λ (m : Self). m.1) c.load_word-word.ensures.same.1 ∙ c.into_seat-seat.ensures.seat,
        ap (λ (m : Self). m.0.readers) c.load_word-word.ensures.same.1 ∙ ap (λ (t : TokenView). t.lock.readers) mine,
      );
      call = refl;
      going =
          goes begun Load me after c.load_word-word.result (one_hold Upgradable) (to_acquire Upgrade) refl refl c.load_word-word.ensures.goes
          (first_upgrade c.args.self.now c.args.token c.into_seat-seat.result.seat.table_id me c.self.inside.readers c.args.blocks begun
          (ap (λ (l : WordLockView). l.readers) c.self.view_is) c.requires c.into_seat-seat.ensures.token refl);
    }
