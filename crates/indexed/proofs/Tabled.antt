-- What the parts of an indexed table say of its rows. Assumes nothing.
use Rattle.std.proofs.Common.{◌≡◌, ℕ, zero, suc, ◌<◌, ◌≤◌, Bool, true, false, ◌&&◌, ltb, leb, List, [], ◌∷◌, map, length, get_or, ℤ, pos, Some, None, vec_items, vec_len, Option, sym, refl, ap, ◌∙◌, subst, ap₂, arith}
use Rattle.std.proofs.lemmas.List.{length-map, get_or-map}
use Rattle.std.proofs.lemmas.Bool.{and_parts, lt-ltb, ltb-true, ltb-false, leb-true, leb-false}
use Rattle.rows.specs.declared.cells.Row.{Row}
use Rattle.std.specs.Ordering.{int_eq}
use Rattle.rows.specs.Cells.{cell}
use Rattle.stores.specs.Tables.{Bounded, count, facet, no_row, row_at, has_number, Lowest}
use Rattle.indexed.specs.declared.tables.IndexedRows.{IndexedRows}
use Rattle.indexed.specs.Index.{lists, LowestListed}
use Rattle.indexed.specs.Numbers.{first_numbers}
use Rattle.indexed.specs.Tables.{rows_table}

module _ {G : Type 0} (admitted : G → ℕ → Bool) (table : IndexedRows G) where
  pub rows_count : count (rows_table admitted table) ≡ vec_len table.rows
  rows_count = length-map (vec_items table.rows) (facet admitted) ∙ sym table.rows.ok.0

  pub bounded : Bounded (rows_table admitted table)
  bounded = record { rows = omega (arith, rows_count, table.few); capacity = omega (arith, table.limited) }

  -- what the tests of the number of rows tell
  pub has_row : (place : ℕ) → true ≡ ltb place (vec_len table.rows) → place < count (rows_table admitted table)
  has_row place told = omega (arith, ltb-true place (vec_len table.rows) (sym told), rows_count)

  pub has_none : (place : ℕ) → false ≡ ltb place (vec_len table.rows) → count (rows_table admitted table) ≤ place
  has_none place told = omega (arith, ltb-false place (vec_len table.rows) (sym told), rows_count)

  pub is_full : true ≡ leb table.capacity (vec_len table.rows) → table.capacity ≤ count (rows_table admitted table)
  is_full told = omega (arith, leb-true table.capacity (vec_len table.rows) (sym told), rows_count)

  pub has_room : false ≡ leb table.capacity (vec_len table.rows) → count (rows_table admitted table) < table.capacity
  has_room told = omega (arith, leb-false table.capacity (vec_len table.rows) (sym told), rows_count)

  -- a row that was read
  pub row_read : (place : ℕ) (row : Row G) → place < count (rows_table admitted table) → row ≡ get_or (vec_items table.rows) place row → facet admitted row ≡ row_at (rows_table admitted table) place
  row_read place row within read =
      ap (facet admitted) read ∙ sym (get_or-map (facet admitted) (vec_items table.rows) place row no_row (omega (arith, rows_count, table.rows.ok.0)))

  -- the number at a place
  number_there : (rows : List (Row G)) (place : ℕ) → get_or (first_numbers rows) place (pos 0) ≡ cell 0 (get_or (map (facet admitted) rows) place no_row).held
  number_there [] place = refl
  number_there (row ∷ rows) zero = refl
  number_there (row ∷ rows) (suc place) = number_there rows place

  module _ (number : ℤ) where
    abbrev listed : ℕ → Bool
    listed = lists (vec_items table.index.entries) number

    many : length (first_numbers (vec_items table.rows)) ≡ count (rows_table admitted table)
    many = length-map (vec_items table.rows) (λ row. cell 0 row.cells) ∙ sym (length-map (vec_items table.rows) (facet admitted))

    -- what is listed is the place of a row
    within_rows : (place : ℕ) → listed place ≡ true → place < count (rows_table admitted table)
    within_rows place is =
        let inside = ltb-true place (length (first_numbers (vec_items table.rows))) (and_parts _ _ (sym (table.listed number place) ∙ is)).0 in
        omega (arith, inside, many)

    -- a row has the number in column 0 exactly if the number is listed with its place
    listed_there : (place : ℕ) → place < count (rows_table admitted table) → has_number (rows_table admitted table) 0 number place ≡ listed place
    listed_there place within =
        sym (table.listed number place
        ∙ ap₂ ◌&&◌ (lt-ltb place (length (first_numbers (vec_items table.rows))) (omega (arith, many))) (ap (λ n. int_eq n number) (number_there (vec_items table.rows) place)))

    -- the lowest place that is listed with the number
    lowest_in_column : (from : ℕ) (r : Option ℕ) → LowestListed listed from r → Lowest (count (rows_table admitted table)) (has_number (rows_table admitted table) 0 number) from r
    lowest_in_column from None none = λ q after within. listed_there q within ∙ none q after
    lowest_in_column from (Some p) (after, is, none) =
        let within : p < count (rows_table admitted table) = within_rows p is in
        (after, within, listed_there p within ∙ is, λ q later below. listed_there q (omega arith) ∙ none q later below)

  -- the same, where the column and the number were passed on
  pub lowest_by_index : (column : ℕ) (m n : ℤ) (from : ℕ) (r : Option ℕ) → column ≡ 0 → m ≡ n → LowestListed (lists (vec_items table.index.entries) m) from r → Lowest (count (rows_table admitted table)) (has_number (rows_table admitted table) column n) from r
  lowest_by_index column m n from r first same it =
      subst (λ test. Lowest (count (rows_table admitted table)) test from r) (ap₂ (has_number (rows_table admitted table)) (sym first) same) (lowest_in_column m from r it)
