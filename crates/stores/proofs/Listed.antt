-- What a list of rows says of the table that it means. Assumes nothing.
use Rattle.std.proofs.Common.{◌≡◌, ℕ, zero, suc, ◌<◌, ◌≤◌, Bool, true, List, [], ◌∷◌, ◌++◌, map, length, get_or, take, drop, set, Some, None, Option, Ok, Err, Result, sym, refl, ap, ◌∙◌, subst, ap₂, arith}
use Rattle.std.specs.List.{slice_get, remove, list_all}
use Rattle.std.specs.Option.{MatchOption, unwrap_or}
use Rattle.std.specs.Result.{MatchResult}
use Rattle.std.proofs.lemmas.Bool.{and_from}
use Rattle.std.proofs.lemmas.List.{append-nil, map-append, map_push, map-set, take-map, drop-map, take_all, drop_all, length-map}
use Rattle.std.proofs.lemmas.Option.{slice_get_within}
use Rattle.rows.specs.declared.cells.Cells.{Cells}
use Rattle.rows.specs.declared.cells.Row.{Row}
use Rattle.rows.specs.declared.lists.List as borrowed
use Rattle.rows.specs.Lists.{entries, NowHas}
use Rattle.std.proofs.lemmas.List.Folds.{list_all-append}
use Rattle.words.proofs.Walked.{all_parts, all_set}
use Rattle.stores.specs.Changes.{SameMaking, Appended, Replaced, Removed}
use Rattle.stores.specs.Listed.{listed_table}
use Rattle.stores.specs.Tables.{Facet, Table, AllTouch, count, facet, touches}
use Rattle.stores.proofs.Changed.{appended, replaced, removed_closing}

module _ {X Y : Type 0} (f : X → Y) where
  -- to take an element out of a list and out of its image is one
  pub map_removed : (xs : List X) (i : ℕ) → map f (remove xs i) ≡ remove (map f xs) i
  map_removed xs i = map-append f (take i xs) (drop (suc i) xs) ∙ ap₂ ◌++◌ (sym (take-map f i xs)) (sym (drop-map f (suc i) xs))

  -- the image of the element at a place, or of what stands for one
  pub image_at : (xs : List X) (i : ℕ) (x : X) (y : Y) → f x ≡ y → f (unwrap_or (slice_get xs i) x) ≡ get_or (map f xs) i y
  image_at [] i x y same = same
  image_at (z ∷ zs) zero x y same = refl
  image_at (z ∷ zs) (suc i) x y same = image_at zs i x y same

-- where no element is found, the list is no longer
pub none_there : {X : Type 0} (xs : List X) (i : ℕ) → None ≡ slice_get xs i → length xs ≤ i
none_there [] i none = omega arith
none_there (x ∷ xs) zero none = absurd (let z : ◌≡◌ {A = ℕ} 0 1 = cc in omega arith)
none_there (x ∷ xs) (suc i) none = omega (arith, none_there xs i none)

-- where there is no element to take out, the list stays
pub removed_past : {X : Type 0} (xs : List X) (i : ℕ) → length xs ≤ i → xs ≡ remove xs i
removed_past xs i past = sym (ap₂ ◌++◌ (take_all i xs past) (drop_all (suc i) xs (omega arith)) ∙ append-nil xs)

module _ {G : Type 0} (admitted : G → ℕ → Bool) where
  abbrev table : borrowed.List (Row G) → Table
  table = listed_table admitted

  pub listed_count : (rows : borrowed.List (Row G)) → count (table rows) ≡ length (entries rows)
  listed_count rows = length-map (entries rows) (facet admitted)

  module _ (before after : borrowed.List (Row G)) where
    making : (xs : List (Row G)) → NowHas before after xs → SameMaking (table before) (table after)
    making xs has = record { keeps = refl; capacity = has.room }

    -- the rows after the change, as facets
    now : (xs : List (Row G)) → NowHas before after xs → (table after).rows ≡ map (facet admitted) xs
    now xs has = ap (map (facet admitted)) has.holds

    pub listed_appended : (row : Row G) → NowHas before after (entries before ++ row ∷ []) → Appended (table before) (table after) (facet admitted row)
    listed_appended row has =
        appended (table before) (table after) (making _ has) (facet admitted row) (now _ has ∙ map_push (facet admitted) (entries before) row)

    -- a row is added that touches the table, or nothing happens
    pub pushed_touching : (row : Row G) (answer : Result (Unit {0}) (Row G)) → MatchResult answer (λ _. NowHas before after (entries before ++ row ∷ [])) (λ _. after ≡ before) → touches (table before) (admitted row.guard) ≡ true → AllTouch (table before) → AllTouch (table after)
    pushed_touching row (Ok done) has touch each =
        let test = λ (f : Facet Cells). touches (table before) f.guard in
        ap (list_all test) (now _ has ∙ map_push (facet admitted) (entries before) row)
        ∙ list_all-append test (table before).rows (facet admitted row ∷ [])
        ∙ and_from _ _ each (and_from _ _ touch refl)
    pushed_touching row (Err back) same touch each = subst (λ rows. AllTouch (table rows)) (sym same) each

    module _ (place : ℕ) where
      pub listed_replaced : (row : Row G) → place < length (entries before) → NowHas before after (set (entries before) place row) → Replaced (table before) (table after) place (facet admitted row)
      listed_replaced row within has =
          replaced (table before) (table after) (making _ has) place (omega (arith, within, listed_count before)) (facet admitted row) (now _ has ∙ map-set (facet admitted) (entries before) place row)

      -- a row takes the place of another and touches the table, or nothing happens
      pub set_touching : (row : Row G) (answer : Option (Row G)) → answer ≡ slice_get (entries before) place → MatchOption answer (after ≡ before) (λ _. NowHas before after (set (entries before) place row)) → touches (table before) (admitted row.guard) ≡ true → AllTouch (table before) → AllTouch (table after)
      set_touching row None told same touch each = subst (λ rows. AllTouch (table rows)) (sym same) each
      set_touching row (Some old) told has touch each =
          let test = λ (f : Facet Cells). touches (table before) f.guard in
          let within = slice_get_within (entries before) place old (sym told) in
          ap (list_all test) (now _ has ∙ map-set (facet admitted) (entries before) place row)
          ∙ all_set test (table before).rows place (facet admitted row) (omega (arith, within, listed_count before)) each touch

      pub listed_closes : NowHas before after (remove (entries before) place) → (table after).rows ≡ remove (table before).rows place
      listed_closes has = now _ has ∙ map_removed (facet admitted) (entries before) place

      pub listed_removed : place < length (entries before) → NowHas before after (remove (entries before) place) → Removed (table before) (table after) place
      listed_removed within has = removed_closing (table before) (table after) (making _ has) place (omega (arith, within, listed_count before)) (listed_closes has)

      -- a row is taken out, or nothing happens
      pub removed_touching : (answer : Option (Row G)) → MatchOption answer (after ≡ before) (λ _. NowHas before after (remove (entries before) place)) → AllTouch (table before) → AllTouch (table after)
      removed_touching None same each = subst (λ rows. AllTouch (table rows)) (sym same) each
      removed_touching (Some old) has each =
          let test = λ (f : Facet Cells). touches (table before) f.guard in
          let rows = (table before).rows in
          ap (list_all test) (listed_closes has)
          ∙ list_all-append test (take place rows) (drop (suc place) rows)
          ∙ and_from _ _ (all_parts test rows place each).0 (all_parts test rows (suc place) each).1
