-- The parts of a row inside and outside a path, and what a change makes of the row at a choice. Assumes nothing.
use Rattle.std.proofs.Common.{◌≡◌, ℕ, ◌^◌, ◌<◌, Bool, true, false, cond, not, ◌&&◌, ltb, List, [], ◌∷◌, ◌++◌, map, sym, refl, ap, ◌∙◌, ap₂}
use mathlib.Core.Bool.{not-not}
use Rattle.std.specs.List.{flat_map}
use Rattle.std.proofs.lemmas.List.{append-nil, map-id}
use Rattle.std.proofs.lemmas.List.Concat.{flat_map_single}
use Rattle.std.proofs.lemmas.Bool.{and_parts, both_ways, true≢false, false_from_ne_true}
use Rattle.labels.specs.declared.literals.Literal.{Literal}
use Rattle.labels.specs.declared.literals.Sign.{Sign}
use Rattle.labels.specs.declared.literals.Sign.TheVariants.{Plus, Minus}
use Rattle.queries.specs.declared.nodes.Node.{Node}
use Rattle.rows.specs.declared.cells.Cells.{Cells}
use Rattle.archive.specs.declared.changes.Change.{Change}
use Rattle.labels.specs.Guards.{literal_guard, meet}
use Rattle.labels.specs.Literals.{holds, opposite, opposite_sign, signed}
use Rattle.labels.specs.Paths.{path_holds, path_guard, all_known}
use Rattle.queries.specs.Tests.{passes}
use Rattle.stores.specs.Tables.{Facet, Table, touches}
use Rattle.words.specs.Bits.{has}
use Rattle.labels.proofs.Along.{path_guard_holds}
use Rattle.archive.specs.Askings.{seen}
use Rattle.archive.specs.Plain.{plain_changed}
use Rattle.archive.specs.Rules.{changed, under, pieces, inside, outside, touching, rewritten, rewritten_rows, added_rows}
use Rattle.archive.proofs.Seen.{seen_append, seen_one, seen_more, seen_joined, seen_under, seen_touching, admits_touches}

-- the opposite of a literal holds where it does not
opposite_holds : (l : Literal) (c : ℕ) → holds (opposite l) c ≡ not (holds l c)
opposite_holds l c = turned l.sign (has c l.label)
  where
    turned : (s : Sign) (b : Bool) → signed (opposite_sign s) b ≡ not (signed s b)
    turned Plus b = refl
    turned Minus b = sym (not-not b)

-- where the label is known, the guard of a literal admits the choices at which it holds
known_literal : (known : ℕ) (l : Literal) (c : ℕ) → ltb l.label known ≡ true → literal_guard known l c ≡ holds l c
known_literal known l c k = ap (◌&& holds l c) k

-- the cells under each of the guards
abbrev each_under : Cells → List (ℕ → Bool) → List (Facet Cells)
each_under cells guards = map (λ guard. record { guard = guard; held = cells }) guards

-- of the pieces outside a path, one admits a choice where the guard does and the path fails, and else none
seen_pieces : (c known : ℕ) (cells : Cells) (path : List Literal) (guard : ℕ → Bool) → all_known known path ≡ true → seen c (each_under cells (pieces known path guard)) ≡ cond (guard c && not (path_holds path c)) (cells ∷ []) []
seen_pieces c known cells [] guard k = elim (guard c) as (λ g. ◌≡◌ {A = List Cells} [] (cond (g && false) (cells ∷ []) [])) [ true ↦ refl | false ↦ refl ]
seen_pieces c known cells (l ∷ path) guard k =
    let parts = and_parts (ltb l.label known) (all_known known path) k in
    let further : ℕ → Bool = meet guard (literal_guard known l) in
    seen_more c (record { guard = meet guard (literal_guard known (opposite l)); held = cells }) (each_under cells (pieces known path further))
    ∙ ap₂ ◌++◌
    (ap (λ b. cond (guard c && b) (cells ∷ []) []) (known_literal known (opposite l) c parts.0 ∙ opposite_holds l c))
    (seen_pieces c known cells path further parts.1 ∙ ap (λ b. cond ((guard c && b) && not (path_holds path c)) (cells ∷ []) []) (known_literal known l c parts.0))
    ∙ one (guard c) (holds l c) (path_holds path c)
  where
    one : (g h p : Bool) → cond (g && not h) (cells ∷ []) [] ++ cond ((g && h) && not p) (cells ∷ []) [] ≡ cond (g && not (h && p)) (cells ∷ []) []
    one true true true = refl
    one true true false = refl
    one true false p = refl
    one false h p = refl

-- what becomes of cells inside the path
abbrev changed_cells : List Node → Change → Cells → List Cells
changed_cells test change cells = cond (passes test cells.values) (changed change cells) (cells ∷ [])

module _ (c : ℕ) (table : Table) (small : c < 2 ^ 64) (kept : table.keeps c ≡ true) (known : ℕ) (path : List Literal) (labels : all_known known path ≡ true) where
  admits_inside : path_guard known path c ≡ path_holds path c
  admits_inside = ap (λ guard. guard c) (path_guard_holds known path labels)

  -- a row at the choice: changed where the path holds and the test passes
  seen_rewritten : (test : List Node) (change : Change) (row : Facet Cells) → seen c (rewritten table known path test change row) ≡ cond (row.guard c) (cond (path_holds path c) (changed_cells test change row.held) (row.held ∷ [])) []
  seen_rewritten test change row = go (passes test row.held.values) (touches table (inside known path row).guard) refl
    where
      both_parts : (g h : Bool) (new old : List Cells) → cond (g && h) new [] ++ cond (g && not h) old [] ≡ cond g (cond h new old) []
      both_parts true true new old = append-nil new
      both_parts true false new old = refl
      both_parts false h new old = refl

      not_inside : (g h : Bool) (new old : List Cells) → (g && h) ≡ false → cond g old [] ≡ cond g (cond h new old) []
      not_inside true true new old f = absurd (true≢false f)
      not_inside true false new old f = refl
      not_inside false h new old f = refl

      not_passing : (g h : Bool) (old : List Cells) → cond g old [] ≡ cond g (cond h old old) []
      not_passing true true old = refl
      not_passing true false old = refl
      not_passing false h old = refl

      go : (p t : Bool) → touches table (inside known path row).guard ≡ t →
          seen c (cond (p && t) (under (inside known path row).guard (changed change row.held) ++ outside table known path row) (row ∷ []))
          ≡ cond (row.guard c) (cond (path_holds path c) (cond p (changed change row.held) (row.held ∷ [])) (row.held ∷ [])) []
      go true true is =
          seen_append c (under (inside known path row).guard (changed change row.held)) (outside table known path row)
          ∙ ap₂ ◌++◌
          (seen_under c (inside known path row).guard (changed change row.held) ∙ ap (λ b. cond (row.guard c && b) (changed change row.held) []) admits_inside)
          (seen_touching c table small kept (each_under row.held (pieces known path row.guard)) ∙ seen_pieces c known row.held path row.guard labels)
          ∙ both_parts (row.guard c) (path_holds path c) (changed change row.held) (row.held ∷ [])
      go true false is =
          seen_one c row
          ∙ not_inside (row.guard c) (path_holds path c) (changed change row.held) (row.held ∷ [])
          (ap (row.guard c &&◌) (sym admits_inside) ∙ false_from_ne_true _ (λ admits. both_ways _ is (admits_touches c table small kept (inside known path row).guard admits)))
      go false t is = seen_one c row ∙ not_passing (row.guard c) (path_holds path c) (row.held ∷ [])

  -- a table after a set or a cut
  pub seen_rewritten_rows : (test : List Node) (change : Change) → seen c (rewritten_rows table known path test change) ≡ cond (path_holds path c) (plain_changed test change (seen c table.rows)) (seen c table.rows)
  seen_rewritten_rows test change =
      seen_joined c (rewritten table known path test change) (λ cells. cond (path_holds path c) (changed_cells test change cells) (cells ∷ [])) (seen_rewritten test change) table.rows
      ∙ elim (path_holds path c) as (λ b. flat_map (λ cells. cond b (changed_cells test change cells) (cells ∷ [])) (seen c table.rows) ≡ cond b (plain_changed test change (seen c table.rows)) (seen c table.rows))
      [ true ↦ refl | false ↦ flat_map_single (λ cells. cells) (seen c table.rows) ∙ map-id (seen c table.rows) ]

  -- a table after an add
  pub seen_added_rows : (cells : Cells) → seen c (added_rows table known path cells) ≡ cond (path_holds path c) (seen c table.rows ++ cells ∷ []) (seen c table.rows)
  seen_added_rows cells =
      seen_append c table.rows (touching table (under (path_guard known path) (cells ∷ [])))
      ∙ ap (seen c table.rows ++◌) (seen_touching c table small kept (under (path_guard known path) (cells ∷ [])) ∙ seen_under c (path_guard known path) (cells ∷ []) ∙ ap (λ b. cond b (cells ∷ []) []) admits_inside)
      ∙ elim (path_holds path c) as (λ b. seen c table.rows ++ cond b (cells ∷ []) [] ≡ cond b (seen c table.rows ++ cells ∷ []) (seen c table.rows))
      [ true ↦ refl | false ↦ append-nil (seen c table.rows) ]
