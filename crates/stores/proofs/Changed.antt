-- Tables that store a row just as it is given: what a change of the list of rows comes to. Assumes nothing.
use Rattle.std.proofs.Common.{◌≡◌, ℕ, suc, ◌<◌, [], ◌∷◌, ◌++◌, length, get_or, take, drop, set, sym, refl, ap, ◌∙◌, arith, length-take-le}
use Rattle.std.specs.List.{remove}
use Rattle.std.proofs.lemmas.List.{get_or_push, get_or-set_same, take_at, drop_at}
use Rattle.std.proofs.lemmas.List.Sorted.{IsPermutation-refl}
use Rattle.rows.specs.declared.cells.Cells.{Cells}
use Rattle.stores.specs.Tables.{Facet, Table, count, row_at, no_row}
use Rattle.stores.specs.Changes.{StandsFor, SameMaking, Appended, Replaced, Removed}

-- a row stands for itself
pub stands_for_itself : (keeps : ℕ → _) (stored given : Facet Cells) → stored ≡ given → StandsFor keeps stored given
stands_for_itself keeps stored given same = record { held = ap (λ f. f.held) same; admits = λ c _. ap (λ f. f.guard c) same }

module _ (before after : Table) (making : SameMaking before after) where
  pub appended : (given : Facet Cells) → after.rows ≡ before.rows ++ given ∷ [] → Appended before after given
  appended given rows =
      let last : row_at after (count before) ≡ given = ap (λ rs. get_or rs (count before) no_row) rows ∙ get_or_push before.rows given no_row (count before) refl in
      record { making = making; rows = rows ∙ ap (λ r. before.rows ++ r ∷ []) (sym last); stored = stands_for_itself before.keeps (row_at after (count before)) given last }

  module _ (place : ℕ) (within : place < count before) where
    pub replaced : (given : Facet Cells) → after.rows ≡ set before.rows place given → Replaced before after place given
    replaced given rows =
        let there : row_at after place ≡ given = ap (λ rs. get_or rs place no_row) rows ∙ get_or-set_same before.rows place given no_row within in
        record { making = making; rows = rows ∙ ap (set before.rows place) (sym there); stored = stands_for_itself before.keeps (row_at after place) given there }

    -- the rows behind the gap have moved up
    pub removed_closing : after.rows ≡ remove before.rows place → Removed before after place
    removed_closing rows =
        let front = take place before.rows in
        let long : length front ≡ place = length-take-le place before.rows (omega arith) in
        let behind : drop place after.rows ≡ drop (suc place) before.rows = ap (drop place) rows ∙ drop_at front (drop (suc place) before.rows) place long in
        record {
          making = making;
          lower = ap (take place) rows ∙ take_at front (drop (suc place) before.rows) place long;
          above = rw behind (IsPermutation-refl (drop (suc place) before.rows));
        }
