-- What stands at the position of a number with a place. Assumes nothing.
use Rattle.std.proofs.Common.{◌≡◌, ℕ, ◌<◌, ◌≤◌, true, false, List, length, get_or, ℤ, pos, Some, None, sym, refl, ap, ◌∙◌, subst, inl, inr, arith}
use Rattle.std.proofs.lemmas.Int.{ints}
use Rattle.std.proofs.lemmas.Bool.{cases_lt, cases_order, both_ways, false_from_ne_true}
use Rattle.std.proofs.lemmas.Bool.Decides.{Decides-int_eq, not_from_Decides}
use Rattle.std.proofs.lemmas.List.Folds.{list_any_at}
use Rattle.std.specs.Ordering.{int_eq}
use Rattle.indexed.specs.declared.entries.Entry.{Entry}
use Rattle.indexed.specs.Index.{ascending, same_pair, lists, Splits, LowestListed}
use Rattle.indexed.proofs.Order.{Comes, before_tells, before_apart, same_pair_tells}
use Rattle.indexed.proofs.Ordered.{in_order}
use Rattle.indexed.proofs.Places.{any_at}

module _ (es : List Entry) (n : ℤ) (p at : ℕ) (order : ascending es ≡ true) (it : Splits es n p at) (d : Entry) where
  -- no entry below the position is the number with the place p or a later one
  not_below : (k q : ℕ) → k < at → p ≤ q → same_pair (get_or es k d).number (get_or es k d).place n q ≡ true → ⊥
  not_below k q lower from = before_apart (get_or es k d) n p q (it.below k d lower) from

  -- the entry at the position does not come before
  stays : at < length es → Comes (get_or es at d).number (get_or es at d).place n p → ⊥
  stays within = not_from_Decides _ (before_tells (get_or es at d) n p) (it.above at d (omega arith) within)

  -- it comes before each later entry
  leads : (k : ℕ) → at < k → k < length es → Comes (get_or es at d).number (get_or es at d).place (get_or es k d).number (get_or es k d).place
  leads k lower within = (before_tells (get_or es at d) (get_or es k d).number (get_or es k d).place).0 (in_order es order at k d lower within)

  -- a number that is listed with the place stands at the position
  pub found : lists es n p ≡ true → (at < length es) × (same_pair (get_or es at d).number (get_or es at d).place n p ≡ true)
  found listed =
      let w = any_at (λ e. same_pair e.number e.place n p) es listed in
      let k = w.0 in
      let within : k < length es = w.1 in
      let same = w.2 d in
      let is = (same_pair_tells (get_or es k d).number (get_or es k d).place n p).0 same in
      elim (cases_order k at) [
        | inl here ↦ (omega arith, ap (λ m. same_pair (get_or es m d).number (get_or es m d).place n p) (sym here) ∙ same)
        | inr differ ↦ elim differ [
          | inl less ↦ absurd (not_below k p less (omega arith) same)
          | inr more ↦
              absurd (stays (omega arith)
              (elim (leads k more within) [ inl lower ↦ inl (omega (arith, ints, is.0)) | inr level ↦ inr (level.0 ∙ is.0, omega (arith, is.1)) ]))
        ]
      ]

  -- another number at the position: no place from p on is listed
  pub lowest_none : (at < length es → int_eq (get_or es at d).number n ≡ false) → (q : ℕ) → p ≤ q → lists es n q ≡ false
  lowest_none other q from =
      false_from_ne_true (lists es n q)
      (λ listed.
      let w = any_at (λ e. same_pair e.number e.place n q) es listed in
      let k = w.0 in
      let within : k < length es = w.1 in
      let same = w.2 d in
      let is = (same_pair_tells (get_or es k d).number (get_or es k d).place n q).0 same in
      elim (cases_order k at) [
        | inl here ↦ both_ways _ (other (omega arith)) ((Decides-int_eq _ n).1 (ap (λ m. (get_or es m d).number) (sym here) ∙ is.0))
        | inr differ ↦ elim differ [
          | inl less ↦ not_below k q less from same
          | inr more ↦ elim (leads k more within) [
            | inl lower ↦ stays (omega arith) (inl (omega (arith, ints, is.0)))
            | inr level ↦ both_ways _ (other (omega arith)) ((Decides-int_eq _ n).1 (level.0 ∙ is.0))
          ]
        ]
      ])

  -- the number at the position: its place is the lowest from p on
  pub lowest_some : at < length es → int_eq (get_or es at d).number n ≡ true → LowestListed (lists es n) p (Some (get_or es at d).place)
  lowest_some within it-is =
      let level : (get_or es at d).number ≡ n = (Decides-int_eq (get_or es at d).number n).0 it-is in (
        elim (cases_lt (get_or es at d).place p) [ inl less ↦ absurd (stays within (inr (level, less))) | inr from ↦ from ],
        list_any_at (λ e. same_pair e.number e.place n (get_or es at d).place) es at d within ((same_pair_tells _ _ n _).1 (level, refl)),
        λ q from less. false_from_ne_true (lists es n q)
            (λ listed.
            let w = any_at (λ e. same_pair e.number e.place n q) es listed in
            let k = w.0 in
            let inside : k < length es = w.1 in
            let same = w.2 d in
            let is = (same_pair_tells (get_or es k d).number (get_or es k d).place n q).0 same in
            elim (cases_order k at) [
              | inl here ↦ omega (arith, ap (λ m. (get_or es m d).place) here, is.1)
              | inr differ ↦ elim differ [
                | inl lower ↦ not_below k q lower from same
                | inr more ↦ elim (leads k more inside) [ inl low ↦ omega (arith, ints, is.0, level) | inr flat ↦ omega (arith, is.1) ]
              ]
            ]),
      )

-- what is read at the position, where the entries are read through a slice and the number was passed on
module _ (es xs : List Entry) (m n : ℤ) (p at : ℕ) (slice : xs ≡ es) (passed : m ≡ n) (order : ascending es ≡ true) (it : Splits es m p at) where
  rises : ascending xs ≡ true
  rises = ap ascending slice ∙ order

  parts : Splits xs n p at
  parts = subst (λ k. Splits xs k p at) passed (subst (λ ys. Splits ys m p at) (sym slice) it)

  pub read_same : (e : Entry) → at < length xs → e ≡ get_or xs at e → e.number ≡ n → LowestListed (lists es n) p (Some e.place)
  read_same e within here same =
      subst (λ ys. LowestListed (lists ys n) p (Some e.place)) slice
      (subst (λ x. LowestListed (lists xs n) p (Some x.place)) (sym here)
      (lowest_some xs n p at rises parts e within ((Decides-int_eq _ n).1 (ap (λ x. x.number) (sym here) ∙ same))))

  pub read_other : (e : Entry) → e ≡ get_or xs at e → (e.number ≡ n → ⊥) → LowestListed (lists es n) p None
  read_other e here other =
      subst (λ ys. LowestListed (lists ys n) p None) slice
      (lowest_none xs n p at rises parts e (λ _. false_from_ne_true _ (λ t. other (ap (λ x. x.number) here ∙ (Decides-int_eq _ n).0 t))))

  pub read_past : length xs ≤ at → LowestListed (lists es n) p None
  read_past past =
      subst (λ ys. LowestListed (lists ys n) p None) slice
      (lowest_none xs n p at rises parts (record { number = pos 0; place = 0 }) (λ within. absurd (omega arith)))
