-- What gathering the labels that pass a test comes to. Assumes nothing.
use Rattle.std.proofs.Common.{◌≡◌, ℕ, zero, suc, ◌+◌, ◌<◌, ◌≤◌, Bool, true, false, cond, [], ◌∷◌, ◌++◌, refl, ap, subst, ◌∙◌, add-one, arith}
use Rattle.std.specs.Prelude.{fold, filter}
use Rattle.std.specs.List.{range_with_len}
use Rattle.std.proofs.lemmas.Grind.{fold-append}
use Rattle.std.proofs.lemmas.List.{map-id}
use Rattle.std.proofs.lemmas.List.FromFn.{filter_of_map_range_with_len_more}
use Rattle.labels.specs.declared.choices.Choice.{Choice}
use Rattle.words.specs.Bits.{word_of, with_label}
use Rattle.words.proofs.Digits.{word_of_more, word_of_same}

-- the choice with one label more
abbrev pub with : Choice → ℕ → Choice
with choice label = record { bits = with_label choice.bits label }

-- the choice that has no label
abbrev pub none : Choice
none = record { bits = 0 }

module _ (p : ℕ → Bool) where
  -- the choice of those labels below n that pass
  abbrev pub gathered : ℕ → Choice
  gathered n = fold with none (filter p (range_with_len 0 n))

  one_more : (n : ℕ) → filter p (range_with_len 0 (n + 1)) ≡ filter p (range_with_len 0 n) ++ cond (p n) (n ∷ []) []
  one_more n = simp map-id at (filter_of_map_range_with_len_more p (λ l. l) 0 n n (omega arith))

  folded_more : (n : ℕ) → gathered (n + 1) ≡ fold with (gathered n) (cond (p n) (n ∷ []) [])
  folded_more n = ap (fold with none) (one_more n) ∙ fold-append with none (filter p (range_with_len 0 n)) (cond (p n) (n ∷ []) [])

  step : (n : ℕ) (b : Bool) → n < 64 → b ≡ p n → (gathered n).bits ≡ word_of n p → (fold with (gathered n) (cond b (n ∷ []) [])).bits ≡ word_of (n + 1) p
  step n true few e before = word_of_more n p _ _ few e before refl
  step n false few e before = word_of_same n p _ e before

  -- its word is that of the test
  pub bits-gathered : (n : ℕ) → n ≤ 64 → (gathered n).bits ≡ word_of n p
  unfolding word_of
  bits-gathered zero few = refl
  bits-gathered (suc n) few =
      let here : (gathered (n + 1)).bits ≡ word_of (n + 1) p = ap (λ k. k.bits) (folded_more n) ∙ step n (p n) (omega arith) refl (bits-gathered n (omega arith)) in
      subst (λ (m : ℕ). (gathered m).bits ≡ word_of m p) (add-one n) here
