-- The lowest place that passes a test. Assumes nothing.
use Rattle.std.proofs.Common.{◌≡◌, ℕ, zero, suc, ◌+◌, ◌<◌, ◌≤◌, Bool, true, false, cond, ◌&&◌, leb, ℤ, Some, None, Option, sym, refl, ap, ◌∙◌, ap₂, ⊎_elim, arith}
use Rattle.std.proofs.lemmas.Bool.{le-leb, lt-leb, and_from, and_left, and_right, cases_lt, cases_eq}
use Rattle.rows.specs.declared.cells.Cells.{Cells}
use Rattle.rows.specs.Cells.{cell_is}
use Rattle.stores.specs.Tables.{Table, count, row_at, has_number, next_place, or_else, lowest_below, Lowest}

-- nothing passes
lowest_none : (n : ℕ) (test : ℕ → Bool) → ((q : ℕ) → q < n → test q ≡ false) → lowest_below n test ≡ None
lowest_none zero test none = refl
lowest_none (suc n) test none =
    ap (λ first. or_else first (cond (test n) (Some n) None)) (lowest_none n test (λ q h. none q (omega arith)))
    ∙ ap (λ b. cond b (Some n) None) (none n (omega arith))

-- one place passes, and none below it
lowest_some : (n : ℕ) (test : ℕ → Bool) (p : ℕ) → p < n → test p ≡ true → ((q : ℕ) → q < p → test q ≡ false) → lowest_below n test ≡ Some p
lowest_some zero test p within passes none = absurd (omega arith)
lowest_some (suc n) test p within passes none =
    ⊎_elim
    (λ below. ap (λ first. or_else first (cond (test n) (Some n) None)) (lowest_some n test p below passes none))
    (λ above.
    let here : p ≡ n = omega arith in
    ap (λ first. or_else first (cond (test n) (Some n) None)) (lowest_none n test (λ q h. none q (omega arith)))
    ∙ ap (λ b. cond b (Some n) None) (ap test (sym here) ∙ passes)
    ∙ ap Some (sym here))
    (cases_lt p n)

module _ (n : ℕ) (test : ℕ → Bool) (from : ℕ) where
  abbrev from_there : ℕ → Bool
  from_there p = leb from p && test p

  fails : (q : ℕ) → (from ≤ q → test q ≡ false) → from_there q ≡ false
  fails q none = ⊎_elim (λ before. and_left (leb from q) (test q) (lt-leb from q before)) (λ after. and_right (leb from q) (test q) (none after)) (cases_lt q from)

  -- the lowest place is the one that the definition gives
  pub lowest_is : (r : Option ℕ) → Lowest n test from r → r ≡ lowest_below n from_there
  lowest_is None none = sym (lowest_none n from_there (λ q h. fails q (λ after. none q after h)))
  lowest_is (Some p) (after, within, passes, none) =
      sym (lowest_some n from_there p within (and_from (leb from p) (test p) (le-leb from p after) passes) (λ q h. fails q (λ later. none q later h)))

-- a walk along the places of a table, with the number as it is asked for (n) and as it is compared (m)
module _ (table : Table) (column : ℕ) (m n : ℤ) (same : m ≡ n) where
  -- what was found at a place
  pub number_at : (place : ℕ) (cells : Cells) (b : Bool) → cells ≡ (row_at table place).held → b ≡ cell_is column m cells → has_number table column n place ≡ b
  number_at place cells b there told = sym (told ∙ ap₂ (λ k d. cell_is column k d) same there)

  -- none so far
  pub none_yet : (from place : ℕ) → ((q : ℕ) → from ≤ q → q < place → has_number table column m q ≡ false) → (q : ℕ) → from ≤ q → q < place → has_number table column n q ≡ false
  none_yet from place none q after before = ap (λ k. has_number table column k q) (sym same) ∙ none q after before

  -- none at one place more
  pub none_more : (from place : ℕ) → ((q : ℕ) → from ≤ q → q < place → has_number table column m q ≡ false) → has_number table column n place ≡ false → (q : ℕ) → from ≤ q → q < place + 1 → has_number table column m q ≡ false
  none_more from place none here q after before =
      ⊎_elim (λ e. ap₂ (λ k p. has_number table column k p) same e ∙ here) (λ ne. none q after (omega arith)) (cases_eq q place)

-- an answer that is the lowest is the one that the definition gives
pub next_is : (table : Table) (from column : ℕ) (number : ℤ) (r : Option ℕ) → Lowest (count table) (has_number table column number) from r → r ≡ next_place table from column number
next_is table from column number = lowest_is (count table) (has_number table column number) from
