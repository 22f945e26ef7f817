-- The replies to calls that are made block by block.
use Rattle.std.proofs.Common.{◌≡◌, ℕ, ℤ, List, [], ◌∷◌, ◌++◌, refl, sym, ap, ◌∙◌, append_assoc}
use Rattle.std.proofs.lemmas.List.Concat.{flat_map-append}
use Rattle.lock_machine.specs.declared.call.Call.{Call}
use Rattle.lock_machine.specs.declared.reply.Reply.{Reply}
use Rattle.lock_machine.specs.Machine.{Machine}
use Rattle.lock_machine.specs.Steps.{replies, after_all, step}
use Rattle.lock_script.specs.declared.answer.Answer.{Answer}
use Rattle.lock_script.specs.declared.pair.Pair.{Pair}
use Rattle.lock_script.specs.declared.pair.PairOp.{PairOp}
use Rattle.lock_script.specs.Answers.{answer_line, reply_lines}
use Rattle.lock_script.specs.Pair.{meaning}

replies-append : (m : Machine Pair) (xs ys : List (Call PairOp))
    → replies meaning m (xs ++ ys) ≡ replies meaning m xs ++ replies meaning (after_all meaning m xs) ys
replies-append m [] ys = refl
replies-append m (x ∷ xs) ys = ap (λ rs. (step meaning m x).reply ∷ rs) (replies-append (step meaning m x).machine xs ys)

lines-append : (xs ys : List (Reply ℤ)) → reply_lines (xs ++ ys) ≡ reply_lines xs ++ reply_lines ys
lines-append xs ys = flat_map-append (λ reply. answer_line (Answer.Reply reply)) xs ys

-- once a block is told, what is told with the replies to the rest is what it was with those to the block and the rest
pub block_told : (text told whole : List ℕ) (m left : Machine Pair) (rest block after : List (Call PairOp)) (given : List (Reply ℤ))
    → rest ≡ block ++ after → given ≡ replies meaning m block → left ≡ after_all meaning m block
    → told ≡ text ++ reply_lines given → text ++ reply_lines (replies meaning m rest) ≡ whole
    → told ++ reply_lines (replies meaning left after) ≡ whole
block_told text told whole m left rest block after given e f g h before =
    let both : reply_lines (replies meaning m rest)
    ≡ reply_lines (replies meaning m block) ++ reply_lines (replies meaning (after_all meaning m block) after) =
    ap (λ r. reply_lines (replies meaning m r)) e ∙ ap reply_lines (replies-append m block after)
    ∙ lines-append (replies meaning m block) (replies meaning (after_all meaning m block) after) in
    rw (h, f, g) (append_assoc text _ _ ∙ ap (λ w. text ++ w) (sym both) ∙ before)
