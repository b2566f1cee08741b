-- What the index of a table lists when the table's rows change. Assumes nothing.
use Rattle.std.proofs.Common.{◌≡◌, ℕ, ◌+◌, ◌<◌, Bool, true, false, not, ◌&&◌, ◌||◌, List, [], ◌∷◌, ◌++◌, length, get_or, take, set, ℤ, pos, vec_items, vec_len, sym, refl, ap, ◌∙◌, ⊎_elim, arith}
use Rattle.std.specs.List.{swap_remove}
use Rattle.std.proofs.lemmas.List.{length-map, length-set, map_push, map-set, get_or-set_same, get_or-set_other}
use Rattle.std.proofs.lemmas.Bool.{cases_eq}
use Rattle.rows.specs.declared.cells.Row.{Row}
use Rattle.std.specs.Ordering.{int_eq}
use Rattle.rows.specs.Cells.{cell}
use Rattle.indexed.specs.declared.tables.IndexedRows.{IndexedRows}
use Rattle.indexed.specs.Index.{same_pair, lists, renumbered}
use Rattle.indexed.specs.Numbers.{first_numbers, stands}
use Rattle.indexed.proofs.Listed.{ListsAll, listed_at, not_listed, not_listed_behind, lists_added, lists_changed, lists_shortened}
use Rattle.indexed.proofs.Moved.{map_swapped}

-- the same numbers are listed
relisted : (listed : ℤ → ℕ → Bool) (numbers others : List ℤ) → others ≡ numbers → ListsAll listed numbers → ListsAll listed others
relisted listed numbers others same it n p = it n p ∙ ap (λ xs. stands xs n p) (sym same)

module _ {G : Type 0} (table : IndexedRows G) where
  abbrev rows : List (Row G)
  rows = vec_items table.rows

  abbrev numbers : List ℤ
  numbers = first_numbers rows

  abbrev listed : ℤ → ℕ → Bool
  listed = lists (vec_items table.index.entries)

  many : length numbers ≡ vec_len table.rows
  many = length-map rows (λ row. cell 0 row.cells) ∙ sym table.rows.ok.0

  -- behind the rows nothing is listed
  pub nothing_behind : (number : ℤ) (place : ℕ) → place ≡ vec_len table.rows → listed number place ≡ false
  nothing_behind number place behind = not_listed_behind numbers listed table.listed number place (omega (arith, many))

  -- a row was added
  pub append_lists : (ys : List (Row G)) (after : ℤ → ℕ → Bool) (row : Row G) (number : ℤ) (place : ℕ) → number ≡ cell 0 row.cells → place ≡ vec_len table.rows → ys ≡ rows ++ row ∷ [] → ((n : ℤ) (p : ℕ) → after n p ≡ (listed n p || same_pair number place n p)) → ListsAll after (first_numbers ys)
  append_lists ys after row number place is behind items told =
      relisted after (numbers ++ number ∷ []) (first_numbers ys)
      (ap first_numbers items ∙ map_push (λ r. cell 0 r.cells) rows row ∙ ap (λ n. numbers ++ n ∷ []) (sym is))
      (lists_added numbers listed after table.listed number place (behind ∙ sym many) told)

  module _ (place : ℕ) (within : place < vec_len table.rows) (old : ℤ) (stood : old ≡ get_or numbers place (pos 0)) where
    -- the number there is listed with the place
    pub old_listed : listed old place ≡ true
    old_listed = listed_at numbers listed table.listed old place (omega (arith, many)) (sym stood)

    module _ (new : ℤ) where
      -- no other number is
      pub other_not_listed : int_eq old new ≡ false → listed new place ≡ false
      other_not_listed other = not_listed numbers listed table.listed new place (ap (λ n. int_eq n new) (sym stood) ∙ other)

      abbrev then_listed : ℤ → ℕ → Bool
      then_listed = renumbered (vec_items table.index.entries) place old new

      then_lists : ListsAll then_listed (set numbers place new)
      then_lists = lists_changed numbers listed then_listed table.listed old new place (omega (arith, many)) (sym stood) (λ n p. refl)

      -- a row was put in the place of another
      pub replace_lists : (after : ℤ → ℕ → Bool) (row : Row G) → new ≡ cell 0 row.cells → ((n : ℤ) (p : ℕ) → after n p ≡ then_listed n p) → ListsAll after (first_numbers (set rows place row))
      replace_lists after row is told =
          relisted after (set numbers place new) (first_numbers (set rows place row)) (map-set (λ r. cell 0 r.cells) rows place row ∙ ap (set numbers place) (sym is))
          (λ n p. told n p ∙ then_lists n p)

      module _ (last : ℕ) (end : last + 1 ≡ vec_len table.rows) (is_last : new ≡ get_or numbers last (pos 0)) where
        -- the number of the last row stands at its place still
        at_last : get_or (set numbers place new) last (pos 0) ≡ new
        at_last =
            ⊎_elim (λ same. ap (λ k. get_or (set numbers place new) k (pos 0)) same ∙ get_or-set_same numbers place new (pos 0) (omega (arith, many)))
            (λ apart. get_or-set_other numbers place last new (pos 0) apart ∙ sym is_last)
            (cases_eq last place)

        long : last + 1 ≡ length (set numbers place new)
        long = end ∙ sym many ∙ sym (length-set numbers place new)

        pub last_listed : then_listed new last ≡ true
        last_listed = listed_at (set numbers place new) then_listed then_lists new last (omega (arith, long)) at_last

        -- the last row moved into the place of another
        pub move_lists : (ys : List (Row G)) (d : Row G) (after : ℤ → ℕ → Bool) → ys ≡ swap_remove rows place d → ((n : ℤ) (p : ℕ) → after n p ≡ (then_listed n p && not (same_pair new last n p))) → ListsAll after (first_numbers ys)
        move_lists ys d after items told =
            relisted after (take last (set numbers place new)) (first_numbers ys)
            (ap first_numbers items
            ∙ map_swapped (λ r. cell 0 r.cells) rows place d (pos 0) (omega (arith, table.rows.ok.0))
            ∙ ap (λ k. take k (set numbers place (get_or numbers k (pos 0)))) (omega (arith, many))
            ∙ ap (λ n. take last (set numbers place n)) (sym is_last))
            (lists_shortened (set numbers place new) then_listed after then_lists new last long at_last told)
