-- Counting the parts of rows, turn by turn. Assumes nothing.
use Rattle.std.proofs.Common.{◌≡◌, ℕ, ◌+◌, ◌<◌, ◌≤◌, Bool, true, false, cond, List, [], ◌∷◌, map, length, get_or, drop, sym, ap, ◌∙◌, ap₂, arith}
use Rattle.std.specs.List.{flat_map, range_with_len, sum, sum_by}
use Rattle.std.proofs.lemmas.List.{drop_more, drop_all, get_or-map, length-map}
use Rattle.std.proofs.lemmas.List.Concat.{length-flat_map}
use Rattle.std.proofs.lemmas.List.FromFn.{fill_by_all}
use Rattle.std.proofs.lemmas.List.Sums.{sum-map}
use Rattle.labels.specs.declared.literals.Literal.{Literal}
use Rattle.rows.specs.declared.cells.Cells.{Cells}
use Rattle.labels.specs.Guards.{literal_guard, meet}
use Rattle.labels.specs.Literals.{opposite}
use Rattle.stores.specs.Tables.{Facet, Table, count, row_at, no_row, touches}
use Rattle.archive.specs.Rules.{outside}

pub outside_none : (table : Table) (known : ℕ) (path : List Literal) (i : ℕ) (row : Facet Cells) → length path ≤ i → outside table known (drop i path) row ≡ []
outside_none table known path i row past = ap (λ ls. outside table known ls row) (drop_all i path past)

-- one piece more was counted, or not
counted_turn : {X : Type 0} (xs ys : List X) (x : X) (b : Bool) (n m total : ℕ) → xs ≡ cond b (x ∷ ys) ys → m ≡ cond b (n + 1) n → n + length xs ≡ total → m + length ys ≡ total
counted_turn xs ys x true n m total split counted before = omega (arith, ap length split)
counted_turn xs ys x false n m total split counted before = omega (arith, ap length split)

-- one turn of the walk along a path, at the literal i: g is the guard so far, h is turned away from the literal, and g' goes on
module _ (table : Table) (known : ℕ) (path : List Literal) (i : ℕ) (d : Literal) (g g' h : ℕ → Bool) (cells : Cells) (within : i < length path) (away : h ≡ meet g (literal_guard known (opposite (get_or path i d)))) (on : g' ≡ meet g (literal_guard known (get_or path i d))) where
  abbrev piece : Facet Cells
  piece = record { guard = h; held = cells }

  -- the pieces that are still to come, with this one and without it
  abbrev still : List (Facet Cells)
  still = outside table known (drop i path) record { guard = g; held = cells }

  abbrev later : List (Facet Cells)
  later = outside table known (drop (i + 1) path) record { guard = g'; held = cells }

  -- the next piece, if it touches the table, and those behind it
  pub outside_turn : still ≡ cond (touches table h) (piece ∷ later) later
  outside_turn =
      ap (λ ls. outside table known ls record { guard = g; held = cells }) (drop_more path i d within)
      ∙ ap₂ (λ a b. cond (touches table a) (record { guard = a; held = cells } ∷ outside table known (drop (i + 1) path) record { guard = b; held = cells }) (outside table known (drop (i + 1) path) record { guard = b; held = cells })) (sym away) (sym on)

  pub next_touches : touches table h ≡ true → still ≡ piece ∷ later
  next_touches touch = outside_turn ∙ ap (λ b. cond b (piece ∷ later) later) touch

  pub next_apart : touches table h ≡ false → still ≡ later
  next_apart apart = outside_turn ∙ ap (λ b. cond b (piece ∷ later) later) apart

  -- the walk that counts the pieces
  pub outside_counted : (n m total : ℕ) → n + length still ≡ total → (b : Bool) → b ≡ touches table h → m ≡ cond b (n + 1) n → m + length later ≡ total
  outside_counted n m total before b test counted = counted_turn still later piece b n m total (outside_turn ∙ ap (λ t. cond t (piece ∷ later) later) (sym test)) counted before

-- the parts of all rows, counted place by place
pub joined_by_place : (f : Facet Cells → List (Facet Cells)) (table : Table) (n : ℕ) → n ≡ count table → sum_by (λ place. length (f (row_at table place))) (range_with_len 0 n) ≡ length (flat_map f table.rows)
joined_by_place f table n counted =
    let parts = λ (x : Facet Cells). length (f x) in
    let by_place : map parts table.rows ≡ map (λ place. parts (row_at table place)) (range_with_len 0 n) =
    fill_by_all (λ place. parts (row_at table place)) (map parts table.rows) n 0 (length-map table.rows parts ∙ sym counted) (λ place within. get_or-map parts table.rows place no_row 0 (omega arith)) in
    sym (sum-map (λ place. parts (row_at table place)) (range_with_len 0 n)) ∙ ap sum (sym by_place) ∙ sum-map parts table.rows ∙ sym (length-flat_map f table.rows)
