-- Paths: up to eight literals that hold together. Assumes nothing.
use Rattle.std.specs.Prelude.{ℕ, Bool, List, length, take, Result, nat_lt}
use Rattle.faults.specs.declared.Fault.{Fault}
use Rattle.faults.specs.declared.Refusal.TheVariants.{CountOutOfLimits}
use Rattle.labels.specs.declared.literals.Literal.{Literal}
use Rattle.labels.specs.declared.paths.Path.{Path}
use Rattle.faults.specs.Faults.{unless, answered}
use Rattle.labels.specs.Guards.{literal_guard}
use Rattle.std.specs.List.{list_all}
use Rattle.labels.specs.Literals.{holds}

-- the literals of a path, in order
abbrev pub literals : Path → List Literal
literals path = take path.len path.literals

-- a path holds where all of its literals hold
abbrev pub path_holds : List Literal → ℕ → Bool
path_holds path choice = list_all (λ l. holds l choice) path

-- the guard of a path is the meet of its literals' guards: it admits what they all admit
abbrev pub path_guard : ℕ → List Literal → ℕ → Bool
path_guard known path choice = list_all (λ l. literal_guard known l choice) path

-- each label of the path is known
abbrev pub all_known : ℕ → List Literal → Bool
all_known known path = list_all (λ l. nat_lt l.label known) path

-- a path takes a literal more while it has fewer than eight
abbrev pub room : List Literal → Result (Unit {0}) Fault
room path = answered (unless (nat_lt (length path) 8) CountOutOfLimits 0)
