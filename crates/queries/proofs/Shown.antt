-- The cells that an arm shows, place by place. Assumes nothing.
use Rattle.std.proofs.Common.{◌≡◌, ℕ, ◌-◌, ◌<◌, List, ◌++◌, length, get_or, take, replicate, sym, ◌∙◌, ⊎_elim, arith}
use Rattle.std.proofs.Math.Seq.{get_or-append_right}
use Rattle.std.proofs.lemmas.List.{ext_get_or, get_or-take, get_or_append_left, get_or-replicate, get_or_past, length-append, length-replicate, length-take-le}
use Rattle.std.proofs.lemmas.Bool.{cases_lt}

module _ {Y : Type 0} (z : Y) (xs : List Y) where
  -- an element of a list with as many zeros behind it as are wanted
  padded : (n i : ℕ) → i < n → get_or (xs ++ replicate n z) i z ≡ get_or xs i z
  padded n i below =
      ⊎_elim
      (λ within. get_or_append_left xs (replicate n z) z i within)
      (λ past. get_or-append_right xs (replicate n z) i z past ∙ get_or-replicate n (i - length xs) z z (omega arith) ∙ sym (get_or_past xs i z past))
      (cases_lt i (length xs))

  -- a list that has those elements, and no others
  pub shown_all : (n : ℕ) (ys : List Y) → length ys ≡ n → ((i : ℕ) → i < n → get_or ys i z ≡ get_or xs i z) → ys ≡ take n (xs ++ replicate n z)
  shown_all n ys long at =
      let as_long : length (take n (xs ++ replicate n z)) ≡ n = length-take-le n (xs ++ replicate n z) (omega (arith, length-append xs (replicate n z), length-replicate n z)) in
      ext_get_or z ys (take n (xs ++ replicate n z)) (long ∙ sym as_long) (λ i h. let below : i < n = omega arith in at i below ∙ sym (get_or-take n (xs ++ replicate n z) i z below ∙ padded n i below))
