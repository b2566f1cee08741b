-- Where each row touches its table, each row touches it after a change. Assumes nothing.
use Rattle.std.proofs.Common.{◌≡◌, ℕ, suc, ◌<◌, Bool, true, false, ◌&&◌, ◌⊎◌, [], ◌∷◌, drop, Result, sym, refl, ap, ◌∙◌, subst, ap₂, ⊎_elim}
use mathlib.Core.Path.{fun_ext}
use Rattle.std.proofs.lemmas.Bool.{and_from, cases_Bool, cases_lt}
use Rattle.faults.specs.declared.Fault.{Fault}
use Rattle.rows.specs.declared.cells.Cells.{Cells}
use Rattle.labels.specs.Guards.{meet}
use Rattle.words.specs.Bits.{some_choice}
use Rattle.std.specs.List.{list_all}
use Rattle.std.proofs.lemmas.List.Folds.{list_all-append}
use Rattle.words.proofs.Walked.{all_in_any_order, all_parts, all_from_parts, all_set, all_at}
use Rattle.stores.specs.Tables.{Facet, Table, count, touches, AllTouch, row_at, no_row}
use Rattle.stores.specs.Changes.{StandsFor, SameMaking, Appended, Replaced, Removed, Add, Put, Remove}

-- what stands for a row admits the same of the kept choices
pub stands_meet : (keeps : ℕ → Bool) (stored given : Facet Cells) → StandsFor keeps stored given → meet keeps stored.guard ≡ meet keeps given.guard
stands_meet keeps stored given same = fun_ext (λ c. each c (cases_Bool (keeps c)))
  where
    each : (c : ℕ) → (keeps c ≡ true) ⊎ (keeps c ≡ false) → (keeps c && stored.guard c) ≡ (keeps c && given.guard c)
    each c = ⊎_elim (λ kept. ap (keeps c &&◌) (same.admits c kept)) (λ out. ap (◌&& stored.guard c) out ∙ sym (ap (◌&& given.guard c) out))

-- so it touches the table exactly if the row does
pub stands_touches : (table : Table) (stored given : Facet Cells) → StandsFor table.keeps stored given → touches table stored.guard ≡ touches table given.guard
stands_touches table stored given same = ap some_choice (stands_meet table.keeps stored given same)

-- whether a guard touches a table is a matter of the choices that it keeps
pub same_touches : (before after : Table) (g : ℕ → Bool) → SameMaking before after → touches after g ≡ touches before g
same_touches before after g making = ap (λ k. some_choice (meet k g)) making.keeps

module _ (before after : Table) where
  abbrev test : Table → Facet Cells → Bool
  test table row = touches table row.guard

  -- the test of a row is the same after the change
  same_test : SameMaking before after → test after ≡ test before
  same_test making = fun_ext (λ row. same_touches before after row.guard making)

  appended_touching : (given : Facet Cells) → touches before given.guard ≡ true → Appended before after given → AllTouch before → AllTouch after
  appended_touching given touch done each =
      let last = row_at after (count before) in
      ap₂ list_all (same_test done.making) done.rows
      ∙ list_all-append (test before) before.rows (last ∷ [])
      ∙ and_from _ _ each (and_from _ _ (stands_touches before last given done.stored ∙ touch) refl)

  replaced_touching : (place : ℕ) (given : Facet Cells) → place < count before → touches before given.guard ≡ true → Replaced before after place given → AllTouch before → AllTouch after
  replaced_touching place given within touch done each =
      let there = row_at after place in
      ap₂ list_all (same_test done.making) done.rows
      ∙ all_set (test before) before.rows place there within each (stands_touches before there given done.stored ∙ touch)

  removed_touching : (place : ℕ) → Removed before after place → AllTouch before → AllTouch after
  removed_touching place done each =
      ap (λ t. list_all t after.rows) (same_test done.making)
      ∙ all_from_parts (test before) after.rows place
      (ap (list_all (test before)) done.lower ∙ (all_parts (test before) before.rows place each).0)
      (all_in_any_order (test before) (drop (suc place) before.rows) (drop place after.rows) done.above (all_parts (test before) before.rows (suc place) each).1)

  stays : after ≡ before → AllTouch before → AllTouch after
  stays same each = subst AllTouch (sym same) each

  module _ {Same : Type 0} (unchanged : Same → after ≡ before) {answer : Result (Unit {0}) Fault} where
    pub add_touching : (given : Facet Cells) → Add Same before after given answer → AllTouch before → AllTouch after
    add_touching given change each =
        ⊎_elim
        (λ touch. ⊎_elim (λ room. appended_touching given touch (change.added touch room).1 each) (λ full. stays (unchanged (change.full touch full).1) each) (cases_lt (count before) before.capacity))
        (λ apart. stays (unchanged (change.ignored apart).1) each)
        (cases_Bool (touches before given.guard))

    pub put_touching : (place : ℕ) (given : Facet Cells) → Put Same before after place given answer → AllTouch before → AllTouch after
    put_touching place given change each =
        ⊎_elim
        (λ within. ⊎_elim (λ touch. replaced_touching place given within touch (change.replaced within touch).1 each) (λ apart. removed_touching place (change.removed within apart).1 each) (cases_Bool (touches before given.guard)))
        (λ past. stays (unchanged (change.outside past).1) each)
        (cases_lt place (count before))

    pub remove_touching : (place : ℕ) → Remove Same before after place answer → AllTouch before → AllTouch after
    remove_touching place change each =
        ⊎_elim (λ within. removed_touching place (change.removed within).1 each) (λ past. stays (unchanged (change.outside past).1) each) (cases_lt place (count before))

-- the row at a place touches the table
pub row_touching : (table : Table) (place : ℕ) (row : Facet Cells) → row ≡ row_at table place → AllTouch table → place < count table → touches table row.guard ≡ true
row_touching table place row same each within =
    ap (λ f. touches table f.guard) same ∙ all_at (λ f. touches table f.guard) table.rows place no_row within each
