-- What the turns of a set or a cut leave in a table, as it shows at the choices that it keeps. Assumes nothing.
use Rattle.std.specs.Prelude.{◌≡◌, ℕ, ◌+◌, ◌<◌, ◌≤◌, Bool, true, false, List, [], ◌∷◌, ◌++◌, map, length, take, drop, Some, None, filter, Option, slice_index_or, slice_set}
use Rattle.std.specs.List.{flat_map, list_all}
use Rattle.labels.specs.declared.literals.Literal.{Literal}
use Rattle.queries.specs.declared.nodes.Node.{Node}
use Rattle.rows.specs.declared.cells.Cells.{Cells}
use Rattle.archive.specs.declared.changes.Change.{Change}
use Rattle.archive.specs.declared.rewriting.Rewrite.{Rewrite}
use Rattle.labels.specs.Paths.{literals}
use Rattle.stores.specs.Changes.{SameMaking}
use Rattle.stores.specs.Tables.{Facet, Table, count}
use Rattle.archive.specs.Rules.{at_kept, changed, under, inside, rewritten}

-- the literals of the path of a set or a cut
abbrev pub path_of : Rewrite → List Literal
path_of rewrite = literals rewrite.path.now

-- the nodes of its test
abbrev pub test_of : Rewrite → List Node
test_of rewrite = rewrite.test.nodes.now

-- what a set or a cut is given, as it means: how many labels are known, the literals of its path, the nodes of its test, and its change
pub record Given : Type 0 where
  pub known : ℕ
  pub path : List Literal
  pub test : List Node
  pub change : Change

-- what it is given over guards that know this many labels
abbrev pub given : ℕ → Rewrite → Given
given known rewrite = record { known = known; path = path_of rewrite; test = test_of rewrite; change = rewrite.change }

-- what a rule says of what a set or a cut is given
abbrev pub ruled : {X : Type 0} → (ℕ → List Literal → List Node → Change → X) → Given → X
ruled rule given = rule given.known given.path given.test given.change

-- the rows of a table as they show at these choices
abbrev pub view : (ℕ → Bool) → Table → List (Facet Cells)
view keeps table = map (at_kept keeps) table.rows

-- the rows of a table as they show at the choices that it keeps
abbrev pub shown : Table → List (Facet Cells)
shown table = view table.keeps table

-- the parts that become of a row, as they show at the choices that the table keeps
abbrev pub parts : Table → Given → Facet Cells → List (Facet Cells)
parts table given row = map (at_kept table.keeps) (ruled (rewritten table) given row)

-- there is at least one
abbrev pub some_left : {X : Type 0} → List X → Bool
some_left [] = false
some_left (x ∷ xs) = true

-- something is left of the row
abbrev pub is_left : Table → Given → Facet Cells → Bool
is_left table given row = some_left (parts table given row)

-- the parts of a row in the place that it had: the first stands there, and the others behind all rows
abbrev pub placed : {X : Type 0} → List X → ℕ → List X → List X
placed rows place [] = rows
placed rows place (part ∷ parts) = slice_set rows place part ++ parts

-- the place of a row while none of its parts stands there
abbrev pub still_free : {X : Type 0} → ℕ → List X → Option ℕ
still_free place [] = Some place
still_free place (part ∷ parts) = None

-- one part more: at the free place, or behind all rows where none is free
abbrev pub with_part : {X : Type 0} → List X → Option ℕ → X → List X
with_part rows (Some place) part = slice_set rows place part
with_part rows None part = rows ++ part ∷ []

-- the table has a row at the free place, or room for one more where none is free
abbrev pub Takes : Table → Option ℕ → Type 0
Takes table (Some place) = place < count table
Takes table None = count table < table.capacity

-- the part of a changed row inside the path, as it shows, and then others
abbrev pub inside_then : Table → Given → Facet Cells → List (Facet Cells) → List (Facet Cells)
inside_then table given row others =
    map (at_kept table.keeps) (under (inside given.known given.path row).guard (changed given.change row.held)) ++ others

-- the first part of each element, and then the other parts
abbrev pub spread_out : {X : Type 0} → (X → List X) → List X → List X
spread_out parts_of xs = map (λ x. slice_index_or (parts_of x) 0 x) xs ++ flat_map (λ x. drop 1 (parts_of x)) xs

-- the rows of which something is left, as they show
abbrev pub rows_left : Table → Given → List (Facet Cells)
rows_left table given = filter (is_left table given) (shown table)

-- the parts of all rows, as they show: the first of each, and then the others
abbrev pub rows_spread : Table → Given → List (Facet Cells)
rows_spread table given = spread_out (parts table given) (shown table)

-- the rows that pass are gathered at the front, and there are this many of them
pub record Gathered (passes : Facet Cells → Bool) (before after : Table) (gathered : ℕ) : Type 0 where
  pub making : SameMaking before after
  pub long : count after ≡ count before
  pub within : gathered ≤ count before
  pub front : take gathered (view before.keeps after) ≡ filter passes (shown before)

-- the table is cut off behind this many rows
pub record Shortened (before after : Table) (left : ℕ) : Type 0 where
  pub making : SameMaking before after
  pub front : view before.keeps after ≡ take left (shown before)

-- a table of the same making shows these rows
pub record Shows (before after : Table) (rows : List (Facet Cells)) : Type 0 where
  pub making : SameMaking before after
  pub seen : view before.keeps after ≡ rows

-- parts of a row are being placed: those that are done show, the place is free while there is none, and with those still to come they are the whole
pub record Placing (start now : Table) (place : ℕ) (free : Option ℕ) (still whole : List (Facet Cells)) : Type 0 where
  pub done : List (Facet Cells)
  pub shows : Shows start now (placed (shown start) place done)
  pub free_is : free ≡ still_free place done
  pub rest : done ++ still ≡ whole

-- there is room for the parts of the row at a place
pub record Room (table : Table) (place : ℕ) (whole : List (Facet Cells)) : Type 0 where
  pub within : place < count table
  pub fits : count table + length whole ≤ table.capacity + 1

-- of each row something is left, and there is room for the parts of all
pub record Spreadable (table : Table) (given : Given) : Type 0 where
  pub left : list_all (is_left table given) (shown table) ≡ true
  pub fits : length (flat_map (parts table given) (shown table)) ≤ table.capacity
