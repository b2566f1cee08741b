-- Tests of rows: what a test is true of, and when it is in form. Assumes nothing.
use Rattle.std.specs.Prelude.{◌≡◌, ℕ, ◌-◌, ◌<◌, Bool, true, false, not, ◌&&◌, ◌||◌, List, [], ◌∷◌, ◌++◌, length, ℤ, pos, Option, int_lt, nat_le, nat_lt, slice_index_or}
use Rattle.std.specs.List.{enumerate_from, list_all}
use Rattle.std.specs.declared.cmp.Ordering.{Ordering}
use Rattle.std.specs.declared.cmp.Ordering.TheVariants.{Less, Equal, Greater}
use Rattle.faults.specs.declared.Fault.{Fault}
use Rattle.faults.specs.declared.Refusal.TheVariants.{CountOutOfLimits, TestOutOfForm}
use Rattle.queries.specs.declared.nodes.Node.{Node}
use Rattle.queries.specs.declared.nodes.Node.TheVariants.{Always, Compare, Not, And, Or}
use Rattle.faults.specs.Faults.{unless, first_told}
use Rattle.std.specs.Ordering.{int_eq}

-- the two numbers compare in this way
abbrev pub compares : Ordering → ℤ → ℤ → Bool
compares Less a b = int_lt a b
compares Equal a b = int_eq a b
compares Greater a b = int_lt b a

-- the number in a column of a row or of two joined rows
abbrev pub number_in : List ℤ → ℕ → ℤ
number_in cells column = slice_index_or cells column (pos 0)

-- the truth of a node, by the truth of the nodes before it
abbrev pub node_truth : Node → List Bool → List ℤ → Bool
node_truth Always earlier cells = true
node_truth (Compare column ordering number) earlier cells = compares ordering (number_in cells column) number
node_truth (Not a) earlier cells = not (slice_index_or earlier a false)
node_truth (And a b) earlier cells = slice_index_or earlier a false && slice_index_or earlier b false
node_truth (Or a b) earlier cells = slice_index_or earlier a false || slice_index_or earlier b false

-- the truth of each node in number order, after those of the nodes before them
abbrev pub truths_after : List Bool → List Node → List ℤ → List Bool
truths_after earlier [] cells = earlier
truths_after earlier (node ∷ nodes) cells = truths_after (earlier ++ node_truth node earlier cells ∷ []) nodes cells

-- the truth of each node in number order
abbrev pub truths : List Node → List ℤ → List Bool
truths nodes cells = truths_after [] nodes cells

-- a test has 1 to 15 nodes
abbrev pub is_counted : List Node → Bool
is_counted nodes = nat_le 1 (length nodes) && nat_le (length nodes) 15

-- the row passes the test: the last node, the root, is true of it
unfoldable pub passes : List Node → List ℤ → Bool
passes nodes cells = is_counted nodes && slice_index_or (truths nodes cells) (length nodes - 1) false

-- a node rests on nodes of lower number alone
abbrev pub rests_below : ℕ → Node → Bool
rests_below number Always = true
rests_below number (Compare column ordering n) = true
rests_below number (Not a) = nat_lt a number
rests_below number (And a b) = nat_lt a number && nat_lt b number
rests_below number (Or a b) = nat_lt a number && nat_lt b number

-- a test is in form if each node rests on nodes of lower number
abbrev pub in_form : List Node → Bool
in_form nodes = list_all (λ (number, node). rests_below number node) (enumerate_from 0 nodes)

-- the truth of each node of a test in form is that of its words on the truths of the nodes that it rests on
abbrev pub WorkedOut : List Node → List ℤ → Type 0
WorkedOut nodes cells =
    in_form nodes ≡ true → (i : ℕ) (d : Node) → i < length nodes → slice_index_or (truths nodes cells) i false ≡ node_truth (slice_index_or nodes i d) (truths nodes cells) cells

-- the node looks at no column from `width` up
abbrev pub column_within : ℕ → Node → Bool
column_within width Always = true
column_within width (Compare column ordering number) = nat_lt column width
column_within width (Not a) = true
column_within width (And a b) = true
column_within width (Or a b) = true

-- the test looks at no column from `width` up
abbrev pub columns_within : ℕ → List Node → Bool
columns_within width nodes = list_all (column_within width) nodes

-- what is wrong with the number of a test's nodes, and then with their form
abbrev pub test_fault : List Node → Option Fault
test_fault nodes = first_told (unless (is_counted nodes) CountOutOfLimits 0) (unless (in_form nodes) TestOutOfForm 0)
