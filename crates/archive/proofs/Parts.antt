-- What becomes of a row depends only on how it shows at the choices that are kept. Assumes nothing.
use Rattle.std.proofs.Common.{◌≡◌, ℕ, Bool, true, false, cond, ◌&&◌, List, [], ◌∷◌, ◌++◌, map, sym, refl, ap, ◌∙◌, ap₂}
use mathlib.Core.Path.{fun_ext}
use mathlib.Core.Bool.{and_assoc}
use Rattle.std.proofs.lemmas.List.{map-append}
use Rattle.labels.specs.declared.literals.Literal.{Literal}
use Rattle.rows.specs.declared.cells.Cells.{Cells}
use Rattle.labels.specs.Guards.{literal_guard, meet}
use Rattle.labels.specs.Literals.{opposite}
use Rattle.labels.specs.Paths.{path_guard}
use Rattle.queries.specs.Tests.{passes}
use Rattle.stores.specs.Tables.{Facet, Table, touches, empty_table}
use Rattle.words.specs.Bits.{some_choice}
use Rattle.archive.specs.Rules.{at_kept, changed, under, outside, concerned, rewritten}
use Rattle.archive.specs.Turns.{Given, ruled, parts}

-- tables that keep the same choices make the same of a row
pub same_rewritten : (a b : Table) (given : Given) → b.keeps ≡ a.keeps → ruled (rewritten b) given ≡ ruled (rewritten a) given
same_rewritten a b given e = ap (λ k. ruled (rewritten (empty_table k 0)) given) e

pub same_parts : (a b : Table) (given : Given) → b.keeps ≡ a.keeps → parts b given ≡ parts a given
same_parts a b given e = ap (λ k. parts (empty_table k 0) given) e

module _ (table : Table) where
  abbrev keeps : ℕ → Bool
  keeps = table.keeps

  -- guards that admit the same of the kept choices do so when they are met with another
  alike_meet : (g h k : ℕ → Bool) → meet keeps g ≡ meet keeps h → meet keeps (meet g k) ≡ meet keeps (meet h k)
  alike_meet g h k same = fun_ext (λ c. sym (and_assoc (keeps c) (g c) (k c)) ∙ ap (λ f. f c && k c) same ∙ and_assoc (keeps c) (h c) (k c))

  -- rows with the same cells and guards that are alike
  shown_alike : (g h : ℕ → Bool) (cells : Cells) → meet keeps g ≡ meet keeps h → at_kept keeps record { guard = g; held = cells } ≡ at_kept keeps record { guard = h; held = cells }
  shown_alike g h cells same = λ i. record { guard = same i; held = cells }

  -- the parts outside the path show alike
  pub outside_alike : (known : ℕ) (path : List Literal) (g h : ℕ → Bool) (cells : Cells) → meet keeps g ≡ meet keeps h → map (at_kept keeps) (outside table known path record { guard = g; held = cells }) ≡ map (at_kept keeps) (outside table known path record { guard = h; held = cells })
  outside_alike known [] g h cells same = refl
  outside_alike known (l ∷ path) g h cells same = ap (λ b. map (at_kept keeps) (cond b (piece g ∷ rest g) (rest g))) (ap some_choice here) ∙ both (outside_alike known path (meet g (literal_guard known l)) (meet h (literal_guard known l)) cells (alike_meet g h (literal_guard known l) same)) (touches table (piece h).guard)
    where
      piece : (ℕ → Bool) → Facet Cells
      piece f = record { guard = meet f (literal_guard known (opposite l)); held = cells }

      rest : (ℕ → Bool) → List (Facet Cells)
      rest f = outside table known path record { guard = meet f (literal_guard known l); held = cells }

      here : meet keeps (piece g).guard ≡ meet keeps (piece h).guard
      here = alike_meet g h (literal_guard known (opposite l)) same

      both : map (at_kept keeps) (rest g) ≡ map (at_kept keeps) (rest h) → (b : Bool) → map (at_kept keeps) (cond b (piece g ∷ rest g) (rest g)) ≡ map (at_kept keeps) (cond b (piece h ∷ rest h) (rest h))
      both more true = ap₂ ◌∷◌ (shown_alike (piece g).guard (piece h).guard cells here) more
      both more false = more

  -- the part inside the path shows alike
  inside_alike : (g h : ℕ → Bool) (cells : List Cells) → meet keeps g ≡ meet keeps h → map (at_kept keeps) (under g cells) ≡ map (at_kept keeps) (under h cells)
  inside_alike g h [] same = refl
  inside_alike g h (x ∷ cells) same = ap₂ ◌∷◌ (shown_alike g h x same) (inside_alike g h cells same)

  -- so do all the parts of a row
  pub parts_alike : (given : Given) (row other : Facet Cells) → at_kept keeps row ≡ at_kept keeps other → parts table given row ≡ parts table given other
  parts_alike given row other same =
      ap (λ cells. parts table given record { guard = row.guard; held = cells }) (ap (λ f. f.held) same)
      ∙ ap (λ b. map (at_kept keeps) (cond b (split row.guard) (whole row.guard))) (ap (λ b. passes given.test cells.values && b) (ap some_choice within))
      ∙ both (concerned table known path given.test other)
    where
      known : ℕ
      known = given.known

      path : List Literal
      path = given.path

      cells : Cells
      cells = other.held

      alike_guards : meet keeps row.guard ≡ meet keeps other.guard
      alike_guards = ap (λ f. f.guard) same

      within : meet keeps (meet row.guard (path_guard known path)) ≡ meet keeps (meet other.guard (path_guard known path))
      within = alike_meet row.guard other.guard (path_guard known path) alike_guards

      split : (ℕ → Bool) → List (Facet Cells)
      split g = under (meet g (path_guard known path)) (changed given.change other.held) ++ outside table known path record { guard = g; held = other.held }

      whole : (ℕ → Bool) → List (Facet Cells)
      whole g = record { guard = g; held = other.held } ∷ []

      both : (b : Bool) → map (at_kept keeps) (cond b (split row.guard) (whole row.guard)) ≡ map (at_kept keeps) (cond b (split other.guard) (whole other.guard))
      both true =
          map-append (at_kept keeps) (under (meet row.guard (path_guard known path)) (changed given.change other.held)) (outside table known path record { guard = row.guard; held = other.held })
          ∙ ap₂ ◌++◌ (inside_alike (meet row.guard (path_guard known path)) (meet other.guard (path_guard known path)) (changed given.change other.held) within) (outside_alike known path row.guard other.guard other.held alike_guards)
          ∙ sym (map-append (at_kept keeps) (under (meet other.guard (path_guard known path)) (changed given.change other.held)) (outside table known path other))
      both false = ap (λ r. r ∷ []) (shown_alike row.guard other.guard other.held alike_guards)
