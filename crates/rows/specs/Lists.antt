-- The one list: what its entries are, and what a change leaves in its memory. Assumes nothing.
use Rattle.std.specs.Prelude.{◌≡◌, ℕ, cond, min, List, ◌++◌, length, take, drop, Ok, Err, Result, nat_lt}
use Rattle.std.specs.Borrow.{GName}
use Rattle.rows.specs.declared.lists.List as borrowed

-- the slots that the list borrows
abbrev pub memory : {E : Type 0} → borrowed.List E → List E
memory list = list.slots.now

-- the reference by which it borrows them
abbrev pub lender : {E : Type 0} → borrowed.List E → GName
lender list = list.slots.ghost_name

-- how many entries there is room for: as many as there are slots, and no more than 65,535
abbrev pub most : {E : Type 0} → borrowed.List E → ℕ
most list = min (length (memory list)) 65535

-- the entries: the first `count` slots, as far as there is room
abbrev pub entries : {E : Type 0} → borrowed.List E → List E
entries list = take (min list.count (most list)) (memory list)

-- an entry is taken while there are fewer than there is room for, and else given back
abbrev pub room_for : {E : Type 0} → borrowed.List E → E → Result (Unit {0}) E
room_for list entry = cond (nat_lt (length (entries list)) (most list)) (Ok tt) (Err entry)

-- the list now has these entries, in the memory that it had, and the slots behind them keep what they held
pub record NowHas {E : Type 0} (before after : borrowed.List E) (now_in_it : List E) : Type 0 where
  pub holds : entries after ≡ now_in_it
  pub behind : memory after ≡ now_in_it ++ drop (length now_in_it) (memory before)
  pub room : most after ≡ most before
  pub lent : lender after ≡ lender before
