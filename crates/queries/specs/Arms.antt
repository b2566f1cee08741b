-- Queries: what an arm shows of a row, and what may be wrong with a query. Assumes nothing.
use Rattle.std.specs.Prelude.{ℕ, ◌+◌, Bool, true, ◌&&◌, List, ◌++◌, map, length, take, replicate, ℤ, pos, Option, nat_le, nat_lt}
use Rattle.std.specs.List.{list_all}
use Rattle.faults.specs.declared.Fault.{Fault}
use Rattle.faults.specs.declared.Refusal.TheVariants.{CountOutOfLimits, TestOutOfForm, UnknownColumn}
use Rattle.queries.specs.declared.arms.Arm.{Arm}
use Rattle.queries.specs.declared.arms.Query.{Query}
use Rattle.queries.specs.declared.arms.Source.{Source}
use Rattle.queries.specs.declared.arms.Source.TheVariants.{Files, Readings, Joined}
use Rattle.queries.specs.declared.nodes.Node.{Node}
use Rattle.rows.specs.declared.cells.Cells.{Cells}
use Rattle.rows.specs.Cells.{width}
use Rattle.faults.specs.Faults.{unless, first_not, first_told}
use Rattle.queries.specs.Tests.{number_in, is_counted, in_form, columns_within}

-- an arm by what it asks: its source, the nodes of its test and the columns that it shows
pub record Asked : Type 0 where
  pub source : Source
  pub test : List Node
  pub shown : List ℕ

-- what an arm asks
abbrev pub arm_of : Arm → Asked
arm_of arm = record { source = arm.source; test = arm.test.nodes.now; shown = arm.shown.now }

-- what a query asks, arm by arm
abbrev pub query_of : Query → List Asked
query_of query = map arm_of query.arms.now

-- how many columns the rows of a source have: those of a file stand before those of a reading
abbrev pub source_width : Source → ℕ
source_width Files = width
source_width Readings = width
source_width (Joined f r) = width + width

-- the columns that are joined exist, each in its table
abbrev pub joins_within : Source → Bool
joins_within Files = true
joins_within Readings = true
joins_within (Joined f r) = nat_lt f width && nat_lt r width

-- an arm has 1 to 15 nodes and shows 1 to 6 columns
abbrev pub arm_counted : Asked → Bool
arm_counted arm = is_counted arm.test && nat_le 1 (length arm.shown) && nat_le (length arm.shown) width

-- the test of an arm is in form
abbrev pub arm_in_form : Asked → Bool
arm_in_form arm = in_form arm.test

-- an arm names no column that its source does not have
abbrev pub arm_within : Asked → Bool
arm_within arm = joins_within arm.source && columns_within (source_width arm.source) arm.test && list_all (λ column. nat_lt column (source_width arm.source)) arm.shown

-- what is wrong with a query: the number of its arms, then the counts of an arm, then the form of a test, then a column
abbrev pub query_fault : List Asked → Option Fault
query_fault arms =
    first_told (unless (nat_le 1 (length arms) && nat_le (length arms) 4) CountOutOfLimits 0)
    (first_told (first_not arm_counted CountOutOfLimits arms)
    (first_told (first_not arm_in_form TestOutOfForm arms)
    (first_not arm_within UnknownColumn arms)))

-- the shown cells in order, and zeros behind them
abbrev pub shown_cells : List ℕ → List ℤ → Cells
shown_cells shown cells = record { values = take width (map (number_in cells) shown ++ replicate width (pos 0)) }
