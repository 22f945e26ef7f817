-- One write after another, where bytes are known.
use Rattle.std.proofs.Common.{ℕ, ◌+◌, List, ◌++◌, take, drop, Option, Some, None, ap, ◌∙◌, append_assoc}
use Rattle.std.proofs.Math.Seq.{take-add}
use Rattle.std.specs.Io.KnownBytes.{Appends}

-- the next write adds what comes next in the text
pub Appends-take : (old mid new : Option (List ℕ)) (text : List ℕ) (written count : ℕ) → Appends old mid (take written text)
    → Appends mid new (take count (drop written text)) → Appends old new (take (written + count) text)
Appends-take None mid new text written count added more = tt
Appends-take (Some xs) None new text written count added more = absurd added
Appends-take (Some xs) (Some ys) None text written count added more = absurd more
Appends-take (Some xs) (Some ys) (Some zs) text written count added more =
    rw take-add (more ∙ ap (λ front. front ++ take count (drop written text)) added
    ∙ append_assoc xs (take written text) (take count (drop written text)))
