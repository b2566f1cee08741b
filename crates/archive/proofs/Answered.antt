-- What a query answers at a choice is what the plain archive of that choice answers, and it does not rest on the order of the rows. Assumes nothing.
use Rattle.std.proofs.Common.{◌≡◌, ℕ, Bool, true, false, cond, ◌&&◌, List, [], ◌∷◌, ◌++◌, ℤ, refl, ap, ◌∙◌, ap₂}
use Rattle.std.specs.List.{flat_map}
use Rattle.queries.specs.declared.arms.Source.{Source}
use Rattle.queries.specs.declared.arms.Source.TheVariants.{Files, Readings, Joined}
use Rattle.queries.specs.declared.nodes.Node.{Node}
use Rattle.rows.specs.declared.cells.Cells.{Cells}
use Rattle.archive.specs.declared.changes.Change.{Change}
use Rattle.labels.specs.Guards.{meet}
use Rattle.queries.specs.Arms.{Asked, shown_cells}
use Rattle.queries.specs.Tests.{passes}
use Rattle.rows.specs.Cells.{cell}
use Rattle.std.specs.Ordering.{int_eq}
use Rattle.stores.specs.Tables.{Facet}
use Rattle.archive.specs.Askings.{seen, spread, pair, source_rows, arm_row, arm_rows, query_rows}
use Rattle.archive.specs.Plain.{Plain, plain_changed, plain_pair, plain_source, plain_arm, plain_answer}
use Rattle.archive.specs.Rules.{changed}
use Rattle.archive.proofs.Bags.{SameBag, bag_trans, bag_map, bag_joined, bag_joined_each, joined_if}
use Rattle.archive.proofs.Seen.{seen_append, seen_one, seen_map, seen_joined}

module _ (c : ℕ) where
  -- what the rows of two tables are for the choice
  abbrev pub plain_seen : List (Facet Cells) → List (Facet Cells) → Plain
  plain_seen files readings = record { files = seen c files; readings = seen c readings }

  -- of a facet that is there if a test passes
  seen_if : {X : Type 0} (b : Bool) (x : Facet X) → seen c (cond b (x ∷ []) []) ≡ cond (x.guard c) (cond b (x.held ∷ []) []) []
  seen_if true x = seen_one c x
  seen_if {X} false x = elim (x.guard c) as (λ g. ◌≡◌ {A = List X} [] (cond g [] [])) [ true ↦ refl | false ↦ refl ]

  module _ (files readings : List (Facet Cells)) where
    -- a file with its readings: the meet admits the choice where both guards do
    seen_pairs : (f r : ℕ) (file : Facet Cells) → seen c (flat_map (pair f r file) readings) ≡ cond (file.guard c) (flat_map (plain_pair f r file.held) (seen c readings)) []
    seen_pairs f r file =
        seen_joined c (pair f r file) (λ reading. cond (file.guard c) (plain_pair f r file.held reading) []) one readings
        ∙ joined_if (file.guard c) (plain_pair f r file.held) (seen c readings)
      where
        either_order : (a b : Bool) (xs : List (List ℤ)) → cond (a && b) xs [] ≡ cond b (cond a xs []) []
        either_order true b xs = refl
        either_order false true xs = refl
        either_order false false xs = refl

        one : (reading : Facet Cells) → seen c (pair f r file reading) ≡ cond (reading.guard c) (cond (file.guard c) (plain_pair f r file.held reading.held) []) []
        one reading =
            seen_if (int_eq (cell f file.held) (cell r reading.held)) (record { guard = meet file.guard reading.guard; held = file.held.values ++ reading.held.values })
            ∙ either_order (file.guard c) (reading.guard c) (plain_pair f r file.held reading.held)

    seen_source : (source : Source) → seen c (source_rows files readings source) ≡ plain_source (plain_seen files readings) source
    seen_source Files = seen_map c spread (λ cells. cells.values) (λ _. refl) (λ _. refl) files
    seen_source Readings = seen_map c spread (λ cells. cells.values) (λ _. refl) (λ _. refl) readings
    seen_source (Joined f r) = seen_joined c (λ file. flat_map (pair f r file) readings) (λ file. flat_map (plain_pair f r file) (seen c readings)) (seen_pairs f r) files

    seen_arm : (arm : Asked) → seen c (arm_rows files readings arm) ≡ plain_arm (plain_seen files readings) arm
    seen_arm arm =
        seen_joined c (arm_row arm) (λ cells. cond (passes arm.test cells) (shown_cells arm.shown cells ∷ []) []) (λ row. seen_if (passes arm.test row.held) (record { guard = row.guard; held = shown_cells arm.shown row.held })) (source_rows files readings arm.source)
        ∙ ap (flat_map (λ cells. cond (passes arm.test cells) (shown_cells arm.shown cells ∷ []) [])) (seen_source arm.source)

    -- a query
    pub seen_query : (arms : List Asked) → seen c (query_rows files readings arms) ≡ plain_answer (plain_seen files readings) arms
    seen_query [] = refl
    seen_query (arm ∷ arms) = seen_append c (arm_rows files readings arm) (query_rows files readings arms) ∙ ap₂ ◌++◌ (seen_arm arm) (seen_query arms)

-- the rows after a change, in whatever order they were
pub bag_changed : (test : List Node) (change : Change) {rows others : List Cells} → SameBag rows others → SameBag (plain_changed test change rows) (plain_changed test change others)
bag_changed test change bag = bag_joined (λ cells. cond (passes test cells.values) (changed change cells) (cells ∷ [])) bag

module _ (plain other : Plain) (files : SameBag plain.files other.files) (readings : SameBag plain.readings other.readings) where
  bag_source : (source : Source) → SameBag (plain_source plain source) (plain_source other source)
  bag_source Files = bag_map (λ cells. cells.values) files
  bag_source Readings = bag_map (λ cells. cells.values) readings
  bag_source (Joined f r) =
      bag_trans
      (bag_joined (λ file. flat_map (plain_pair f r file) plain.readings) files)
      (bag_joined_each (λ file. flat_map (plain_pair f r file) plain.readings) (λ file. flat_map (plain_pair f r file) other.readings) (λ file. bag_joined (plain_pair f r file) readings) other.files)

  -- an answer, in whatever order the rows are
  pub bag_answer : (arms : List Asked) → SameBag (plain_answer plain arms) (plain_answer other arms)
  bag_answer arms =
      bag_joined_each (plain_arm plain) (plain_arm other)
      (λ arm. bag_joined (λ cells. cond (passes arm.test cells) (shown_cells arm.shown cells ∷ []) []) (bag_source arm.source))
      arms
