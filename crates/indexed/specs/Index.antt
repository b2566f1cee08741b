-- An index: numbers with the places where they stand, in order. Assumes nothing.
use Rattle.std.specs.Prelude.{◌≡◌, ℕ, ◌<◌, ◌≤◌, Bool, true, false, not, ◌&&◌, ◌||◌, List, [], ◌∷◌, length, ℤ, Some, None, Option, ◌==◌, int_lt, nat_lt, slice_index_or}
use Rattle.std.specs.List.{list_all, list_any}
use Rattle.std.specs.Ordering.{int_eq}
use Rattle.indexed.specs.declared.entries.Entry.{Entry}

-- the entry comes before the number with the place: its number is lower, or its number is the same and its place is lower
abbrev pub before : Entry → ℤ → ℕ → Bool
before entry number place = int_lt entry.number number || (int_eq entry.number number && nat_lt entry.place place)

-- each entry comes before each later one
abbrev pub ascending : List Entry → Bool
ascending [] = true
ascending (entry ∷ entries) = list_all (λ later. before entry later.number later.place) entries && ascending entries

-- the two numbers are the same, and the two places
abbrev pub same_pair : ℤ → ℕ → ℤ → ℕ → Bool
same_pair number place n p = int_eq number n && place == p

-- the number is listed with the place
abbrev pub lists : List Entry → ℤ → ℕ → Bool
lists entries number place = list_any (λ entry. same_pair entry.number entry.place number place) entries

-- what is listed when a number is listed with the place instead of the old one
abbrev pub renumbered : List Entry → ℕ → ℤ → ℤ → ℤ → ℕ → Bool
renumbered entries place old new n p = (lists entries n p && not (same_pair old place n p)) || same_pair new place n p

-- the first `at` entries come before the number with the place, and no later one does
pub record Splits (entries : List Entry) (number : ℤ) (place at : ℕ) : Type 0 where
  pub within : at ≤ length entries
  pub below : (k : ℕ) (d : Entry) → k < at → before (slice_index_or entries k d) number place ≡ true
  pub above : (k : ℕ) (d : Entry) → at ≤ k → k < length entries → before (slice_index_or entries k d) number place ≡ false

-- the lowest listed place at or after `from`, or nothing where none is listed
abbrev pub LowestListed : (ℕ → Bool) → ℕ → Option ℕ → Type 0
LowestListed listed from None = (q : ℕ) → from ≤ q → listed q ≡ false
LowestListed listed from (Some p) = (from ≤ p) × (listed p ≡ true) × ((q : ℕ) → from ≤ q → q < p → listed q ≡ false)
