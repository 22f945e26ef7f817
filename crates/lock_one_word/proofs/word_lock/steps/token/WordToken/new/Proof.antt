-- The struct owns the seat.
use Rattle.atomic_table.proofs.Names.{◌≡◌, [], ◌∷◌, ◌++◌, refl, List, Val, vstruct, vcons, vnil, of_list, emp, ftrue, fsep, ‵, raw, ◌⊛◌, ◌$◌, ◌∵◌, !, qed, by, move, keep, split, fjoin, fpack, feq_i, use0, of_opd, no_more, and_then, returns, enter, alloc_all, pass_all, free_all, look_at, get, sets, agg, tables, yes, owns, Valss, types_at, plain, nothing, heard, alive, Stays, stay_dropped, walk_of, Goes-dropped, fact, fact_i}
use Rattle.atomic_table.proofs.Walks.{proved, leaves}
use Rattle.atomic_table.proofs.Fields.{token_val, token_told}
use Rattle.atomic_table.specs.contracts.shared.Seat as seat
use base.Fml.{feq}
use denote.Builtin.{unit}
use denote.RattleType.{RattleType}
use Rattle.lock_one_word.specs.contracts.rule.OneView as known
use Rattle.lock_one_word.specs.contracts.word_lock.steps.token.WordToken.{the_view, the_invariant}
use Rattle.lock_one_word.specs.contracts.word_lock.steps.token.WordToken.TheInside as inside
use Rattle.lock_one_word.specs.declared.word_lock.steps.token.WordToken.TheInside.{Inside}
use Rattle.lock_one_word.specs.contracts.word_lock.steps.token.WordToken.new as f
use Rattle.lock_one_word.specs.contracts.word_lock.steps.token.WordToken.new.Key.{name as #self}
use Rattle.lock_one_word.proofs.word_lock.steps.token.WordToken.new.Statement.{statement}
use Rattle.lock_one_word.proofs.word_lock.steps.token.WordToken.new.Code as code

abbrev Held : RattleType
Held = seat.the_row unit known.the_row

abbrev stayed : Stays f.ended.signature.params f.ended.kept
stayed = (stay_dropped (plain (λ _. Held)) yes, tt)

abbrev token : Val
token = vstruct (vcons token_val vnil)

pub new_spec : {M : Type 1} → statement M
new_spec 𝓤 𝓛 𝓜 𝓡 wired =
    let c = f.clauses 𝓛 𝓜.mem 𝓡.returns in let W = walk_of 𝓛 f.ended stayed c in let 𝓣 = tables 𝓤 𝓛.H 𝓜 𝓡 𝓡.env in
    proved 𝓛 f.ended stayed c 𝓜 𝓡 (Goes-dropped 𝓛 0 (plain (λ _. Held)) yes (λ κs x w. refl), tt)
    #self code.function (code.unfolded 𝓤 𝓛.H 𝓜 𝓡 wired)
    (λ κs. ((λ _. token_val ∷ []), tt)) (λ κs. ((λ x vs so. token_told unit known.the_row vs so.0), tt)) (λ κs qs bounds a gh are.
    let x : Held.Denot = a.0 in let kept : Inside = record { seat = x } in let y : W.Ghost = ((κs, qs, bounds, a, (token_val ∷ [], tt)), gh) in
    qed 𝓛 ((raw (alive 𝓛 f.signature κs qs) ⊛ ‵ (owns (types_at f.signature.params κs) a y.0.4)) ∷ raw (fact 𝓤 (the_invariant kept)) ∷ []) ∵
    split ! $ move ! (2 ∷ []) $ heard ! (the_invariant kept) (λ invariant. move ! (1 ∷ 0 ∷ []) $
    feq_i ! (List Val) (token ∷ []) (token ∷ []) refl $ fjoin ! $
    fpack ! (Valss (Held ∷ [])) (λ vss. fsep (feq (List Val) (token ∷ []) (vstruct (of_list (vss.0 ++ [])) ∷ [])) (owns (Held ∷ []) (x, tt) vss)) (token_val ∷ [], tt) $
    nothing ! $ move ! (1 ∷ 0 ∷ []) $ fjoin ! $ nothing ! $ move ! (1 ∷ 0 ∷ []) $ fjoin ! $
    fpack ! ((i : Inside) × ((the_view i ≡ the_view kept) × the_invariant i)) (λ h. fsep (inside.the_row.own_val h.0 (token ∷ [])) ftrue) (kept, (refl, invariant)) $
    enter ! 𝓣.C 𝓣.Λ code.function (token_val ∷ []) (W.post y) $ alloc_all ! (λ l. pass_all ! refl ((tt, (tt, tt)), tt) $
    sets ! (of_opd ! (get ! refl)) refl (tt, (tt, tt)) $ sets ! (agg ! (and_then ! (get ! refl) (no_more !))) refl (tt, ((tt, tt), tt)) $
    use0 𝓛 (raw (fact 𝓤 (the_view kept ≡ the_view kept))) (fact_i 𝓤 (the_view kept ≡ the_view kept) (emp 𝓤) refl) $ nothing ! $ nothing ! $ fjoin ! $
    returns ! (look_at ! 0 refl) $ free_all ! refl $ keep ! (3 ∷ 0 ∷ 2 ∷ 1 ∷ []) $ by ! (leaves 𝓛 f.ended stayed c y token (the_view kept) (tt, tt) (tt, tt)))))
