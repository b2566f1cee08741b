-- A list whose last element has moved into the place of another. Assumes nothing.
use Rattle.std.proofs.Common.{◌≡◌, ℕ, zero, suc, ◌+◌, ◌-◌, ◌<◌, List, [], ◌∷◌, ◌++◌, map, length, get_or, take, drop, set, sym, refl, ap, ◌∙◌, subst, add-one, arith}
use Rattle.std.specs.List.{swap_remove}
use Rattle.std.specs.List.Sorted.{IsPermutation}
use Rattle.std.proofs.lemmas.List.{length-map, length-drop, get_or-map, get_or-drop, map-set, take-map, take_more, take_all, take-take, take-set, drop-take, drop-set, nil_from_length}
use Rattle.std.proofs.lemmas.List.Sorted.{IsPermutation-refl, IsPermutation-to_front}

-- the image of a list whose last element has moved
pub map_swapped : {X Y : Type 0} (f : X → Y) (xs : List X) (i : ℕ) (d : X) (e : Y) → i < length xs → map f (swap_remove xs i d) ≡ swap_remove (map f xs) i e
map_swapped f xs i d e within =
    let last : ℕ = length xs - 1 in
    sym (take-map f last (set xs i (get_or xs last d)))
    ∙ ap (take last) (map-set f xs i (get_or xs last d))
    ∙ ap (λ y. take last (set (map f xs) i y)) (sym (get_or-map f xs last d e (omega arith)))
    ∙ ap (λ n. take (n - 1) (set (map f xs) i (get_or (map f xs) (n - 1) e))) (sym (length-map xs f))

module _ {X : Type 0} where
  -- the last element has moved to the front
  turned : (xs : List X) (n : ℕ) (x d : X) → length xs ≡ n → ((k : ℕ) → suc k ≡ n → get_or xs k d ≡ x) → IsPermutation xs (take n (x ∷ xs))
  turned xs zero x d long last = subst (λ ys. IsPermutation ys []) (sym (nil_from_length xs long)) (IsPermutation-refl [])
  turned xs (suc k) x d long last =
      let parts : take k xs ++ x ∷ [] ≡ xs = ap (λ y. take k xs ++ y ∷ []) (sym (last k refl)) ∙ sym (take_more xs k d (omega arith)) ∙ take_all (k + 1) xs (omega arith) in
      subst (λ ys. IsPermutation ys (x ∷ take k xs)) parts (IsPermutation-to_front (take k xs) x)

  module _ (xs : List X) (i : ℕ) (d : X) (within : i < length xs) where
    -- the elements below the gap stay
    pub below_swapped : take i (swap_remove xs i d) ≡ take i xs
    below_swapped = take-take i (length xs - 1) (set xs i (get_or xs (length xs - 1) d)) (omega arith) ∙ take-set xs i (get_or xs (length xs - 1) d)

    -- those above it are left in some order
    pub above_swapped : IsPermutation (drop (suc i) xs) (drop i (swap_remove xs i d))
    above_swapped =
        let x : X = get_or xs (length xs - 1) d in
        let n : ℕ = length xs - 1 - i in
        let size : length xs - 1 ≡ i + n = omega arith in
        let behind : drop i (set xs i x) ≡ x ∷ drop (suc i) xs = drop-set xs i x within ∙ ap (λ k. x ∷ drop k xs) (add-one i) in
        let rest : drop i (swap_remove xs i d) ≡ take n (x ∷ drop (suc i) xs) = ap (λ k. drop i (take k (set xs i x))) size ∙ drop-take i n (set xs i x) ∙ ap (take n) behind in
        subst (IsPermutation (drop (suc i) xs)) (sym rest)
        (turned (drop (suc i) xs) n x d (length-drop (suc i) xs ∙ omega arith) (λ k e. get_or-drop (suc i) xs k d ∙ ap (λ j. get_or xs j d) (omega arith)))
