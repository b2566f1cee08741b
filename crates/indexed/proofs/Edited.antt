-- What an insertion and a removal leave of ordered entries. Assumes nothing.
use Rattle.std.proofs.Common.{◌≡◌, ℕ, suc, ◌+◌, ◌-◌, ◌<◌, ◌≤◌, Bool, true, false, cond, not, ◌&&◌, ◌||◌, List, ◌∷◌, length, get_or, take, drop, ℤ, sym, refl, ap, ◌∙◌, subst, ap₂, inl, inr, add-one, arith, take-append-drop}
use Rattle.std.specs.List.{insert, remove, list_any}
use Rattle.std.proofs.lemmas.List.{drop_more}
use Rattle.std.proofs.lemmas.List.Edits.{length-insert, get_or-insert_below, get_or-insert_at, get_or-insert_above, length-remove, get_or-remove_below, get_or-remove_above}
use Rattle.std.proofs.lemmas.Int.{ints}
use Rattle.std.proofs.lemmas.Bool.{cases_lt, cases_order, both_ways, false≢true, cond-true, false_from_ne_true}
use Rattle.std.proofs.lemmas.List.Folds.{list_any-append, list_any_at}
use Rattle.indexed.specs.declared.entries.Entry.{Entry}
use Rattle.indexed.specs.Index.{before, ascending, same_pair, lists, Splits}
use Rattle.indexed.proofs.Found.{found}
use Rattle.indexed.proofs.Order.{before_tells, before_else, same_pair_tells}
use Rattle.indexed.proofs.Ordered.{in_order, ascending_from}
use Rattle.indexed.proofs.Places.{any_none}

-- the first entry comes before the second
abbrev comes : Entry → Entry → Bool
comes a b = before a b.number b.place

-- with the entry at its position the order holds
pub inserted_ascends : (es : List Entry) (e : Entry) (at : ℕ) → ascending es ≡ true → Splits es e.number e.place at → lists es e.number e.place ≡ false → ascending (insert es at e) ≡ true
inserted_ascends es e at order it absent = ascending_from (insert es at e) each
  where
    below : (d : Entry) (k : ℕ) → k < at → get_or (insert es at e) k d ≡ get_or es k d
    below d k lower = get_or-insert_below es at e d k lower it.within

    here : (d : Entry) (k : ℕ) → k ≡ at → get_or (insert es at e) k d ≡ e
    here d k same = ap (λ m. get_or (insert es at e) m d) same ∙ get_or-insert_at es at e d it.within

    above : (d : Entry) (k : ℕ) → at < k → get_or (insert es at e) k d ≡ get_or es (k - 1) d
    above d k higher = ap (λ m. get_or (insert es at e) m d) (omega arith) ∙ get_or-insert_above es at e d (k - 1) (omega arith) it.within

    -- it comes before the entries from the position on
    precedes : (d : Entry) (k : ℕ) → at ≤ k → k < length es → comes e (get_or es k d) ≡ true
    precedes d k from within =
        before_else (get_or es k d) e (it.above k d from within)
        (false_from_ne_true (same_pair (get_or es k d).number (get_or es k d).place e.number e.place)
        (λ same. both_ways _ absent (list_any_at (λ x. same_pair x.number x.place e.number e.place) es k d within same)))

    each : (i j : ℕ) (d : Entry) → i < j → j < length (insert es at e) → comes (get_or (insert es at e) i d) (get_or (insert es at e) j d) ≡ true
    each i j d lower within =
        let long = length-insert es at e it.within in
        elim (cases_order j at) [
          | inl last ↦ ap₂ comes (below d i (omega arith)) (here d j last) ∙ it.below i d (omega arith)
          | inr side ↦ elim side [
            | inl low ↦ ap₂ comes (below d i (omega arith)) (below d j low) ∙ in_order es order i j d lower (omega arith)
            | inr high ↦ elim (cases_order i at) [
              | inl first ↦ ap₂ comes (here d i first) (above d j high) ∙ precedes d (j - 1) (omega arith) (omega arith)
              | inr other ↦ elim other [
                | inl less ↦ ap₂ comes (below d i less) (above d j high) ∙ in_order es order i (j - 1) d (omega arith) (omega arith)
                | inr more ↦ ap₂ comes (above d i more) (above d j high) ∙ in_order es order (i - 1) (j - 1) d (omega arith) (omega arith)
              ]
            ]
          ]
        ]

or_last : (a b c : Bool) → (a || (b || c)) ≡ ((a || c) || b)
or_last true b c = refl
or_last false true true = refl
or_last false true false = refl
or_last false false true = refl
or_last false false false = refl

-- one pair more is listed
pub lists_inserted : (es : List Entry) (e : Entry) (at : ℕ) (n : ℤ) (p : ℕ) → lists (insert es at e) n p ≡ (lists es n p || same_pair e.number e.place n p)
lists_inserted es e at n p =
    let is : Entry → Bool = λ x. same_pair x.number x.place n p in
    list_any-append is (take at es) (e ∷ drop at es)
    ∙ or_last (list_any is (take at es)) (is e) (list_any is (drop at es))
    ∙ ap (λ b. b || is e) (sym (list_any-append is (take at es) (drop at es)) ∙ ap (list_any is) (take-append-drop at es))

or_without : (a b c : Bool) → (b ≡ true → (a || c) ≡ false) → (a || c) ≡ ((a || (b || c)) && not b)
or_without true true c none = absurd (false≢true (sym (none refl)))
or_without true false c none = refl
or_without false true c none = none refl
or_without false false true none = refl
or_without false false false none = refl

module _ (es : List Entry) (at : ℕ) (d : Entry) (order : ascending es ≡ true) (within : at < length es) where
  -- without the entry at a place the order holds
  pub removed_ascends : ascending (remove es at) ≡ true
  removed_ascends = ascending_from (remove es at) each
    where
      each : (i j : ℕ) (d' : Entry) → i < j → j < length (remove es at) → comes (get_or (remove es at) i d') (get_or (remove es at) j d') ≡ true
      each i j d' lower inside =
          let long = length-remove es at within in
          elim (cases_lt j at) [
            | inl low ↦ ap₂ comes (get_or-remove_below es at d' i (omega arith) within) (get_or-remove_below es at d' j low within) ∙ in_order es order i j d' lower (omega arith)
            | inr high ↦ elim (cases_lt i at) [
              | inl less ↦ ap₂ comes (get_or-remove_below es at d' i less within) (get_or-remove_above es at d' j high within) ∙ in_order es order i (j + 1) d' (omega arith) (omega arith)
              | inr more ↦ ap₂ comes (get_or-remove_above es at d' i more within) (get_or-remove_above es at d' j high within) ∙ in_order es order (i + 1) (j + 1) d' (omega arith) (omega arith)
            ]
          ]

  -- no pair stands at two places
  apart : (i j : ℕ) (n : ℤ) (p : ℕ) → i < j → j < length es → same_pair (get_or es i d).number (get_or es i d).place n p ≡ true → same_pair (get_or es j d).number (get_or es j d).place n p ≡ true → ⊥
  apart i j n p lower inside first second =
      let is = (same_pair_tells (get_or es i d).number (get_or es i d).place n p).0 first in
      let too = (same_pair_tells (get_or es j d).number (get_or es j d).place n p).0 second in
      elim ((before_tells (get_or es i d) (get_or es j d).number (get_or es j d).place).0 (in_order es order i j d lower inside)) [
        | inl low ↦ omega (arith, ints, is.0, too.0)
        | inr level ↦ omega (arith, is.1, too.1)
      ]

  -- the pair that stood there is not listed any more
  gone : (n : ℤ) (p : ℕ) → same_pair (get_or es at d).number (get_or es at d).place n p ≡ true → lists (remove es at) n p ≡ false
  gone n p stood =
      any_none (λ x. same_pair x.number x.place n p) (remove es at) d
      (λ k inside.
      let long = length-remove es at within in
      false_from_ne_true (same_pair (get_or (remove es at) k d).number (get_or (remove es at) k d).place n p)
      (λ same. elim (cases_lt k at) [
        | inl less ↦ apart k at n p less within (ap (λ x. same_pair x.number x.place n p) (sym (get_or-remove_below es at d k less within)) ∙ same) stood
        | inr more ↦ apart at (k + 1) n p (omega arith) (omega arith) stood (ap (λ x. same_pair x.number x.place n p) (sym (get_or-remove_above es at d k more within)) ∙ same)
      ]))

  -- one pair less is listed
  pub lists_removed : (number : ℤ) (place : ℕ) → same_pair (get_or es at d).number (get_or es at d).place number place ≡ true → (n : ℤ) (p : ℕ) → lists (remove es at) n p ≡ (lists es n p && not (same_pair number place n p))
  lists_removed number place stood n p =
      let is : Entry → Bool = λ x. same_pair x.number x.place n p in
      let told = (same_pair_tells (get_or es at d).number (get_or es at d).place number place).0 stood in
      let split = list_any-append is (take at es) (drop (suc at) es) in
      let behind : drop at es ≡ get_or es at d ∷ drop (suc at) es = drop_more es at d within ∙ ap (λ k. get_or es at d ∷ drop k es) (add-one at) in
      let whole : list_any is es ≡ (list_any is (take at es) || (is (get_or es at d) || list_any is (drop (suc at) es))) = ap (list_any is) (sym (take-append-drop at es)) ∙ list_any-append is (take at es) (drop at es) ∙ ap (λ xs. list_any is (take at es) || list_any is xs) behind in
      split
      ∙ or_without (list_any is (take at es)) (is (get_or es at d)) (list_any is (drop (suc at) es)) (λ here. sym split ∙ gone n p here)
      ∙ ap₂ (λ b c. b && not c) (sym whole) (ap₂ (λ m x. same_pair m x n p) told.0 told.1)

-- the same, as `insert` has it: the number was passed on, and there was room
module _ (es ys : List Entry) (done : Bool) (m n : ℤ) (p at : ℕ) (items : ys ≡ cond done (insert es at (record { number = m; place = p })) es) (room : done ≡ true) (passed : m ≡ n) where
  now_in : ys ≡ insert es at (record { number = n; place = p })
  now_in = items ∙ cond-true done _ es room ∙ ap (λ k. insert es at (record { number = k; place = p })) passed

  pub insert_ascends : ascending es ≡ true → Splits es m p at → lists es n p ≡ false → ascending ys ≡ true
  insert_ascends order it absent = ap ascending now_in ∙ inserted_ascends es _ at order (subst (λ k. Splits es k p at) passed it) absent

  pub insert_lists : (i : ℤ) (q : ℕ) → lists ys i q ≡ (lists es i q || same_pair n p i q)
  insert_lists i q = ap (λ xs. lists xs i q) now_in ∙ lists_inserted es _ at i q

-- the same, as `remove` has it: the number was passed on, and it is listed
module _ (es : List Entry) (m n : ℤ) (p at : ℕ) (passed : m ≡ n) (order : ascending es ≡ true) (it : Splits es m p at) (listed : lists es n p ≡ true) where
  entry : Entry
  entry = record { number = n; place = p }

  stands : (at < length es) × (same_pair (get_or es at entry).number (get_or es at entry).place n p ≡ true)
  stands = found es n p at order (subst (λ k. Splits es k p at) passed it) entry listed

  pub remove_within : at < length es
  remove_within = stands.0

  pub remove_ascends : (ys : List Entry) → ys ≡ remove es at → ascending ys ≡ true
  remove_ascends ys items = ap ascending items ∙ removed_ascends es at entry order stands.0

  pub remove_lists : (ys : List Entry) → ys ≡ remove es at → (i : ℤ) (q : ℕ) → lists ys i q ≡ (lists es i q && not (same_pair n p i q))
  remove_lists ys items i q = ap (λ xs. lists xs i q) items ∙ lists_removed es at entry order stands.0 n p stands.1 i q
