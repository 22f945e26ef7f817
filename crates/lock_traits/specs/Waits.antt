-- What a wait with a timeout did.
use Rattle.std.specs.Prelude.{◌≡◌, Bool, false, ◌⊎◌}

-- it waited until some deadline; or it waited without one, and did not time out
abbrev pub WaitedFor : {I : Type 0} → Type 0 → (I → Bool → Type 0) → Bool → Type 0
WaitedFor {I} waited waited_until timed_out =
    ((deadline : I) × waited_until deadline timed_out) ⊎ (waited × (timed_out ≡ false))
