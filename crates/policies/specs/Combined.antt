-- The either policy, over any two. Assumes nothing.
use Rattle.std.specs.Prelude.{ℕ, Bool, ◌||◌}

-- yes when one of the two says yes
abbrev pub either : (ℕ → ℕ → ℕ → Bool) → (ℕ → ℕ → ℕ → Bool) → ℕ → ℕ → ℕ → Bool
either first second viewer label day = first viewer label day || second viewer label day
