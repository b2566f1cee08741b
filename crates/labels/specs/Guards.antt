-- What a guard means: the choices that it admits, as a test on choices. Assumes nothing.
use Rattle.std.specs.Prelude.{◌≡◌, ℕ, ◌<◌, Bool, true, false, not, ◌&&◌, nat_lt}
use Rattle.labels.specs.declared.literals.Literal.{Literal}
use Rattle.words.specs.Bits.{has, some_choice}
use Rattle.labels.specs.Literals.{holds}

-- the guard that admits every choice
abbrev pub everything : ℕ → Bool
everything choice = true

-- the guard that admits no choice
abbrev pub nothing : ℕ → Bool
nothing choice = false

-- a literal's guard admits the choices where the literal holds; that of a label which the kind does not know, none
abbrev pub literal_guard : ℕ → Literal → ℕ → Bool
literal_guard known literal choice = nat_lt literal.label known && holds literal choice

-- the meet admits what both admit
abbrev pub meet : (ℕ → Bool) → (ℕ → Bool) → ℕ → Bool
meet g h choice = g choice && h choice

-- a guard is empty when it admits no choice
abbrev pub empty : (ℕ → Bool) → Bool
empty g = not (some_choice g)

-- a guard does not look at labels from `known` up
abbrev pub IgnoresFrom : ℕ → (ℕ → Bool) → Type 0
IgnoresFrom known g = (c d : ℕ) → ((l : ℕ) → l < known → has c l ≡ has d l) → g c ≡ g d
