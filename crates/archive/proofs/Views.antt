-- How the changes of a store show at the choices that it keeps. Assumes nothing.
use Rattle.std.proofs.Common.{◌≡◌, ℕ, suc, ◌<◌, Bool, true, false, ◌&&◌, [], ◌∷◌, ◌++◌, map, length, get_or, take, drop, set, sym, refl, ap, ◌∙◌, ap₂, arith}
use mathlib.Core.Path.{fun_ext}
use Rattle.std.proofs.lemmas.List.{append-nil, map_push, map-set, get_or-map, take-map, take-append-drop, drop_all, length-map, nil_from_length}
use Rattle.std.proofs.lemmas.List.Sorted.{length_permutation}
use Rattle.rows.specs.declared.cells.Cells.{Cells}
use Rattle.labels.specs.Guards.{meet}
use Rattle.stores.specs.Changes.{StandsFor, Appended, Replaced, Removed}
use Rattle.stores.specs.Tables.{Facet, Table, count, row_at, no_row}
use Rattle.stores.proofs.Touching.{stands_meet}
use Rattle.archive.specs.Rules.{at_kept}
use Rattle.archive.specs.Turns.{view}

-- what stands for a row shows as it does
pub stands_shows : (keeps : ℕ → Bool) (stored given : Facet Cells) → StandsFor keeps stored given → at_kept keeps stored ≡ at_kept keeps given
stands_shows keeps stored given same = λ i. record { guard = stands_meet keeps stored given same i; held = same.held i }

-- to show twice is to show once
pub kept_twice : (keeps : ℕ → Bool) (row : Facet Cells) → at_kept keeps (at_kept keeps row) ≡ at_kept keeps row
kept_twice keeps row = λ i. record { guard = twice i; held = row.held }
  where
    once : (b x : Bool) → (b && (b && x)) ≡ (b && x)
    once true x = refl
    once false x = refl

    twice : meet keeps (meet keeps row.guard) ≡ meet keeps row.guard
    twice = fun_ext (λ c. once (keeps c) (row.guard c))

pub view_length : (keeps : ℕ → Bool) (table : Table) → length (view keeps table) ≡ count table
view_length keeps table = length-map table.rows (at_kept keeps)

-- what is read at a place shows as the view has it there
pub view_at : (keeps : ℕ → Bool) (table : Table) (place : ℕ) (row d : Facet Cells) → row ≡ row_at table place → place < count table → at_kept keeps row ≡ get_or (view keeps table) place d
view_at keeps table place row d same within = ap (at_kept keeps) same ∙ sym (get_or-map (at_kept keeps) table.rows place no_row d within)

module _ (before after : Table) where
  pub view_appended : (given : Facet Cells) → Appended before after given → view before.keeps after ≡ view before.keeps before ++ at_kept before.keeps given ∷ []
  view_appended given done =
      let last = row_at after (count before) in
      ap (map (at_kept before.keeps)) done.rows
      ∙ map_push (at_kept before.keeps) before.rows last
      ∙ ap (λ r. view before.keeps before ++ r ∷ []) (stands_shows before.keeps last given done.stored)

  pub view_replaced : (place : ℕ) (given : Facet Cells) → Replaced before after place given → view before.keeps after ≡ set (view before.keeps before) place (at_kept before.keeps given)
  view_replaced place given done =
      let there = row_at after place in
      ap (map (at_kept before.keeps)) done.rows
      ∙ map-set (at_kept before.keeps) before.rows place there
      ∙ ap (set (view before.keeps before) place) (stands_shows before.keeps there given done.stored)

  -- the last row goes: nothing is left open
  pub view_shortened : (place : ℕ) → suc place ≡ count before → Removed before after place → view before.keeps after ≡ take place (view before.keeps before)
  view_shortened place last done =
      let none : drop (suc place) before.rows ≡ [] = drop_all (suc place) before.rows (omega arith) in
      let gone : drop place after.rows ≡ [] = nil_from_length (drop place after.rows) (length_permutation (drop (suc place) before.rows) (drop place after.rows) done.above ∙ ap length none) in
      let rows : after.rows ≡ take place before.rows = sym (take-append-drop place after.rows) ∙ ap₂ ◌++◌ done.lower gone ∙ append-nil (take place before.rows) in
      ap (map (at_kept before.keeps)) rows ∙ sym (take-map (at_kept before.keeps) place before.rows)
