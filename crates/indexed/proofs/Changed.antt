-- A table with other rows: what the change comes to. Assumes nothing.
use Rattle.std.proofs.Common.{◌≡◌, ℕ, suc, ◌<◌, List, [], ◌∷◌, ◌++◌, take, drop, set, sym, ap, ◌∙◌, subst}
use Rattle.std.specs.List.Sorted.{IsPermutation}
use Rattle.rows.specs.declared.cells.Cells.{Cells}
use Rattle.stores.specs.Changes.{SameMaking, Appended, Replaced, Removed}
use Rattle.stores.specs.Tables.{Facet, Table, count, no_row}
use Rattle.stores.proofs.Changed.{appended, replaced}
use Rattle.indexed.specs.Tables.{with_rows, moved_last}
use Rattle.indexed.proofs.Moved.{below_swapped, above_swapped}

module _ (before after : Table) where
  making : (rows : List (Facet Cells)) → after ≡ with_rows before rows → SameMaking before after
  making rows is = record { keeps = ap (λ t. t.keeps) is; capacity = ap (λ t. t.capacity) is }

  pub row_appended : (given : Facet Cells) → after ≡ with_rows before (before.rows ++ given ∷ []) → Appended before after given
  row_appended given is = appended before after (making (before.rows ++ given ∷ []) is) given (ap (λ t. t.rows) is)

  module _ (place : ℕ) (within : place < count before) where
    pub row_replaced : (given : Facet Cells) → after ≡ with_rows before (set before.rows place given) → Replaced before after place given
    row_replaced given is = replaced before after (making (set before.rows place given) is) place within given (ap (λ t. t.rows) is)

    -- the last row has moved into the gap
    pub row_removed : after ≡ with_rows before (moved_last before.rows place) → Removed before after place
    row_removed is =
        let rows : after.rows ≡ moved_last before.rows place = ap (λ t. t.rows) is in
        record {
          making = making (moved_last before.rows place) is;
          lower = ap (take place) rows ∙ below_swapped before.rows place no_row within;
          above = subst (λ rs. IsPermutation (drop (suc place) before.rows) (drop place rs)) (sym rows) (above_swapped before.rows place no_row within);
        }
