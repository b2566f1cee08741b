-- Entries in order, and how a search narrows them down. Assumes nothing.
use Rattle.std.proofs.Common.{◌≡◌, ℕ, zero, suc, ◌<◌, ◌≤◌, true, false, List, [], ◌∷◌, length, get_or, ℤ, refl, ap, ◌∙◌, inl, inr, arith}
use Rattle.std.specs.List.Sorted.{IsPartitionedBy, IsPartitionPoint}
use Rattle.std.proofs.lemmas.Bool.{and_parts, and_from, cases_eq}
use Rattle.indexed.specs.declared.entries.Entry.{Entry}
use Rattle.indexed.specs.Index.{before, ascending, Splits}
use Rattle.indexed.proofs.Order.{before_trans}
use Rattle.words.proofs.Walked.{all_at}
use Rattle.indexed.proofs.Places.{all_from}

-- each entry comes before each later one, by place
abbrev pub InOrder : List Entry → Type 0
InOrder es = (i j : ℕ) (d : Entry) → i < j → j < length es → before (get_or es i d) (get_or es j d).number (get_or es j d).place ≡ true

pub in_order : (es : List Entry) → ascending es ≡ true → InOrder es
in_order [] e i j d lower within = absurd (omega arith)
in_order (x ∷ xs) e zero zero d lower within = absurd (omega arith)
in_order (x ∷ xs) e zero (suc j) d lower within = all_at (λ later. before x later.number later.place) xs j d (omega arith) (and_parts _ _ e).0
in_order (x ∷ xs) e (suc i) zero d lower within = absurd (omega arith)
in_order (x ∷ xs) e (suc i) (suc j) d lower within = in_order xs (and_parts _ _ e).1 i j d (omega arith) (omega arith)

pub ascending_from : (es : List Entry) → InOrder es → ascending es ≡ true
ascending_from [] each = refl
ascending_from (x ∷ xs) each =
    and_from _ _ (all_from (λ later. before x later.number later.place) xs (λ k d within. each 0 (suc k) d (omega arith) (omega arith)))
    (ascending_from xs (λ i j d lower within. each (suc i) (suc j) d (omega arith) (omega arith)))

module _ (es : List Entry) (order : ascending es ≡ true) (n : ℤ) (p : ℕ) where
  -- the entries that come before the number with the place stand in front of those that do not
  pub partitioned : IsPartitionedBy (λ e. before e n p) es
  partitioned i j d upto within comes =
      elim (cases_eq i j) [
        | inl same ↦ ap (λ k. before (get_or es k d) n p) same ∙ comes
        | inr differ ↦ before_trans (get_or es i d) (get_or es j d) n p (in_order es order i j d (omega arith) within) comes
      ]

  -- where the ones end and the others begin
  pub splits : (at : ℕ) → at ≤ length es → IsPartitionPoint (λ e. before e n p ≡ true) (λ e. before e n p ≡ false) es at → Splits es n p at
  splits at within parts = record { within = within; below = λ k d lower. parts.0 k d (omega arith) lower; above = parts.1 }
