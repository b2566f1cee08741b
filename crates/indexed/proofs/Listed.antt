-- An index that lists the numbers of a column, when the column changes. Assumes nothing.
use Rattle.std.proofs.Common.{◌≡◌, ℕ, ◌+◌, ◌<◌, ◌≤◌, Bool, true, false, not, ◌&&◌, ◌||◌, ◌⊎◌, List, [], ◌∷◌, ◌++◌, length, get_or, take, set, ℤ, pos, Decides, sym, ap, ◌∙◌, inl, inr, ⊎_elim, arith}
use Rattle.std.proofs.lemmas.List.{length-set, length-take-le, length_push, get_or-map, get_or-set_same, get_or-set_other, get_or-take, get_or_push, get_or_append_left}
use Rattle.std.proofs.lemmas.Bool.{and_left, and_right, cases_eq, cases_lt, le-ltb}
use Rattle.std.proofs.lemmas.Bool.Decides.{Decides-int_eq, Decides-and, Decides-or, Decides-not, Decides-like, Decides-ltb, same_from_decides}
use Rattle.rows.specs.declared.cells.Row.{Row}
use Rattle.std.specs.Ordering.{int_eq}
use Rattle.rows.specs.Cells.{cell}
use Rattle.indexed.specs.Index.{same_pair}
use Rattle.indexed.specs.Numbers.{first_numbers, stands}
use Rattle.indexed.proofs.Order.{same_pair_tells}

-- the numbers are listed with their places, and nothing else is
abbrev pub ListsAll : (ℤ → ℕ → Bool) → List ℤ → Type 0
ListsAll listed numbers = (n : ℤ) (p : ℕ) → listed n p ≡ stands numbers n p

-- what a row that was read has in the first column
pub number_read : {G : Type 0} (rows : List (Row G)) (place : ℕ) (row : Row G) → place < length rows → row ≡ get_or rows place row → cell 0 row.cells ≡ get_or (first_numbers rows) place (pos 0)
number_read rows place row within read =
    ap (λ r. cell 0 r.cells) read ∙ sym (get_or-map (λ r. cell 0 r.cells) rows place row (pos 0) within)

abbrev Stands : List ℤ → ℤ → ℕ → Type 0
Stands numbers n p = (p < length numbers) × (get_or numbers p (pos 0) ≡ n)

stands_tells : (numbers : List ℤ) (n : ℤ) (p : ℕ) → Decides (stands numbers n p) (Stands numbers n p)
stands_tells numbers n p = Decides-and _ _ (Decides-ltb p (length numbers)) (Decides-int_eq (get_or numbers p (pos 0)) n)

module _ (numbers : List ℤ) (listed : ℤ → ℕ → Bool) (lists : ListsAll listed numbers) where
  -- what stands in the column is listed
  pub listed_at : (n : ℤ) (p : ℕ) → p < length numbers → get_or numbers p (pos 0) ≡ n → listed n p ≡ true
  listed_at n p within is = lists n p ∙ (stands_tells numbers n p).1 (within, is)

  -- behind the column nothing is listed
  pub not_listed_behind : (n : ℤ) (p : ℕ) → length numbers ≤ p → listed n p ≡ false
  not_listed_behind n p past = lists n p ∙ and_left _ _ (le-ltb p (length numbers) past)

  -- another number than the one there is not listed with the place
  pub not_listed : (n : ℤ) (p : ℕ) → int_eq (get_or numbers p (pos 0)) n ≡ false → listed n p ≡ false
  not_listed n p other = lists n p ∙ and_right _ _ other

module _ (numbers : List ℤ) (listed after : ℤ → ℕ → Bool) (lists : ListsAll listed numbers) where
  -- one number more is listed, with the place behind the last one
  pub lists_added : (number : ℤ) (place : ℕ) → place ≡ length numbers → ((n : ℤ) (p : ℕ) → after n p ≡ (listed n p || same_pair number place n p)) → ListsAll after (numbers ++ number ∷ [])
  lists_added number place behind told n p =
      told n p
      ∙ ap (λ b. b || same_pair number place n p) (lists n p)
      ∙ same_from_decides _ _ (Decides-like _ there back (Decides-or _ _ (stands_tells numbers n p) (same_pair_tells number place n p))) (stands_tells (numbers ++ number ∷ []) n p)
    where
      long : length (numbers ++ number ∷ []) ≡ length numbers + 1
      long = length_push numbers number

      there : Stands numbers n p ⊎ ((number ≡ n) × (place ≡ p)) → Stands (numbers ++ number ∷ []) n p
      there =
          ⊎_elim (λ s. (omega (arith, long, s.0), get_or_append_left numbers (number ∷ []) (pos 0) p s.0 ∙ s.1))
          (λ e. (omega (arith, long, e.1), get_or_push numbers number (pos 0) p (omega (arith, e.1)) ∙ e.0))

      back : Stands (numbers ++ number ∷ []) n p → Stands numbers n p ⊎ ((number ≡ n) × (place ≡ p))
      back s =
          ⊎_elim (λ low. inl (low, sym (get_or_append_left numbers (number ∷ []) (pos 0) p low) ∙ s.1))
          (λ high. let last : length numbers ≡ p = omega (arith, long, s.0) in inr (sym (get_or_push numbers number (pos 0) p last) ∙ s.1, omega arith))
          (cases_lt p (length numbers))

  -- another number is listed with the place
  pub lists_changed : (old new : ℤ) (place : ℕ) → place < length numbers → get_or numbers place (pos 0) ≡ old → ((n : ℤ) (p : ℕ) → after n p ≡ ((listed n p && not (same_pair old place n p)) || same_pair new place n p)) → ListsAll after (set numbers place new)
  lists_changed old new place within stood told n p =
      told n p
      ∙ ap (λ b. (b && not (same_pair old place n p)) || same_pair new place n p) (lists n p)
      ∙ same_from_decides _ _
      (Decides-like _ there back (Decides-or _ _ (Decides-and _ _ (stands_tells numbers n p) (Decides-not _ (same_pair_tells old place n p))) (same_pair_tells new place n p)))
      (stands_tells (set numbers place new) n p)
    where
      long : length (set numbers place new) ≡ length numbers
      long = length-set numbers place new

      there : (Stands numbers n p × ((old ≡ n) × (place ≡ p) → ⊥)) ⊎ ((new ≡ n) × (place ≡ p)) → Stands (set numbers place new) n p
      there =
          ⊎_elim
          (λ s.
          let apart : p ≡ place → ⊥ = λ e. s.1 (sym stood ∙ ap (λ k. get_or numbers k (pos 0)) (sym e) ∙ s.0.1, sym e) in
          (omega (arith, long, s.0.0), get_or-set_other numbers place p new (pos 0) apart ∙ s.0.1))
          (λ e. (omega (arith, long, e.1), ap (λ k. get_or (set numbers place new) k (pos 0)) (sym e.1) ∙ get_or-set_same numbers place new (pos 0) within ∙ e.0))

      back : Stands (set numbers place new) n p → (Stands numbers n p × ((old ≡ n) × (place ≡ p) → ⊥)) ⊎ ((new ≡ n) × (place ≡ p))
      back s =
          ⊎_elim
          (λ same. inr (sym (get_or-set_same numbers place new (pos 0) within) ∙ ap (λ k. get_or (set numbers place new) k (pos 0)) same ∙ s.1, same))
          (λ apart. inl ((omega (arith, long, s.0), sym (get_or-set_other numbers place p new (pos 0) (λ e. apart (sym e))) ∙ s.1), λ e. apart e.1))
          (cases_eq place p)

  -- the last number is not listed any more
  pub lists_shortened : (last : ℤ) (place : ℕ) → place + 1 ≡ length numbers → get_or numbers place (pos 0) ≡ last → ((n : ℤ) (p : ℕ) → after n p ≡ (listed n p && not (same_pair last place n p))) → ListsAll after (take place numbers)
  lists_shortened last place end stood told n p =
      told n p
      ∙ ap (λ b. b && not (same_pair last place n p)) (lists n p)
      ∙ same_from_decides _ _ (Decides-like _ there back (Decides-and _ _ (stands_tells numbers n p) (Decides-not _ (same_pair_tells last place n p)))) (stands_tells (take place numbers) n p)
    where
      long : length (take place numbers) ≡ place
      long = length-take-le place numbers (omega arith)

      there : Stands numbers n p × ((last ≡ n) × (place ≡ p) → ⊥) → Stands (take place numbers) n p
      there s =
          let apart : place ≡ p → ⊥ = λ e. s.1 (sym stood ∙ ap (λ k. get_or numbers k (pos 0)) e ∙ s.0.1, e) in
          let low : p < place = omega (arith, s.0.0) in
          (omega (arith, long), get_or-take place numbers p (pos 0) low ∙ s.0.1)

      back : Stands (take place numbers) n p → Stands numbers n p × ((last ≡ n) × (place ≡ p) → ⊥)
      back s =
          let low : p < place = omega (arith, long, s.0) in
          ((omega arith, sym (get_or-take place numbers p (pos 0) low) ∙ s.1), λ e. omega (arith, e.1))
