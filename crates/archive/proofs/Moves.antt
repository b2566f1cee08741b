-- Lists in another order, and lists of parts taken apart. Assumes nothing.
use Rattle.std.proofs.Common.{◌≡◌, ℕ, suc, ◌+◌, ◌<◌, ◌≤◌, Bool, true, false, cond, List, [], ◌∷◌, ◌++◌, map, length, get_or, take, drop, set, filter, sym, refl, ap, ◌∙◌, subst, ap₂, arith, length-take-le}
use Rattle.std.specs.List.Sorted.{IsPermutation}
use Rattle.std.specs.List.{flat_map, list_all}
use Rattle.std.proofs.lemmas.List.{append_assoc, append-nil, map-append, length-append, length-map, length-set, length-drop, take-append-drop, take_more, get_or_at, drop_more, set_at, flat_map_more, map_more}
use Rattle.std.proofs.lemmas.List.Concat.{flat_map-append}
use Rattle.std.proofs.lemmas.List.Sorted.{IsPermutation-refl, IsPermutation-append_comm, IsPermutation-append_left, IsPermutation-append_right, IsPermutation-cons, IsPermutation-trans, length_permutation}
use Rattle.std.proofs.lemmas.Bool.{and_from, and_parts, both_ways}
use Rattle.words.proofs.Walked.{all_at}
use Rattle.archive.specs.Turns.{some_left, placed}

-- several elements move behind others
pub moved_over : {X : Type 0} (xs ys zs : List X) → IsPermutation (xs ++ (ys ++ zs)) (ys ++ (xs ++ zs))
moved_over xs ys zs = simp append_assoc at (IsPermutation-append_left zs (xs ++ ys) (ys ++ xs) (IsPermutation-append_comm xs ys))

-- the first elements make no more than all
pub joined_front : {X Y : Type 0} (f : X → List Y) (xs : List X) (i : ℕ) → length (flat_map f (take i xs)) ≤ length (flat_map f xs)
joined_front f xs i =
    let whole : length (flat_map f xs) ≡ length (flat_map f (take i xs)) + length (flat_map f (drop i xs)) =
    ap (λ ys. length (flat_map f ys)) (sym (take-append-drop i xs)) ∙ ap length (flat_map-append f (take i xs) (drop i xs)) ∙ length-append (flat_map f (take i xs)) (flat_map f (drop i xs)) in
    omega arith

pub map_joined : {X Y Z : Type 0} (f : X → List Y) (h : Y → Z) (xs : List X) → map h (flat_map f xs) ≡ flat_map (λ x. map h (f x)) xs
map_joined f h [] = refl
map_joined f h (x ∷ xs) = map-append h (f x) (flat_map f xs) ∙ ap (map h (f x) ++◌) (map_joined f h xs)

module _ {X : Type 0} (r : X → List X) where
  -- the first part of an element, and the others
  abbrev pub first_of : X → X
  first_of x = get_or (r x) 0 x

  abbrev pub others_of : X → List X
  others_of x = drop 1 (r x)

  pub apart : (x : X) → some_left (r x) ≡ true → r x ≡ first_of x ∷ others_of x
  apart x left = go (r x) left
    where
      go : (ys : List X) → some_left ys ≡ true → ys ≡ get_or ys 0 x ∷ drop 1 ys
      go [] none = absurd (both_ways false refl none)
      go (y ∷ ys) some = refl

  -- elements of which nothing is left add nothing
  pub joined_kept : (xs : List X) → flat_map r (filter (λ x. some_left (r x)) xs) ≡ flat_map r xs
  joined_kept [] = refl
  joined_kept (x ∷ xs) = go (r x) refl (joined_kept xs)
    where
      go : (ys : List X) → r x ≡ ys → flat_map r (filter (λ y. some_left (r y)) xs) ≡ flat_map r xs → flat_map r (cond (some_left (r x)) (x ∷ filter (λ y. some_left (r y)) xs) (filter (λ y. some_left (r y)) xs)) ≡ r x ++ flat_map r xs
      go [] none more = ap (λ zs. flat_map r (cond (some_left zs) (x ∷ filter (λ y. some_left (r y)) xs) (filter (λ y. some_left (r y)) xs))) none ∙ more ∙ sym (ap (λ zs. zs ++ flat_map r xs) none)
      go (y ∷ ys) some more = ap (λ zs. flat_map r (cond (some_left zs) (x ∷ filter (λ y. some_left (r y)) xs) (filter (λ y. some_left (r y)) xs))) some ∙ ap (r x ++◌) more

  pub kept_left : (xs : List X) → list_all (λ x. some_left (r x)) (filter (λ x. some_left (r x)) xs) ≡ true
  kept_left [] = refl
  kept_left (x ∷ xs) = go (some_left (r x)) refl (kept_left xs)
    where
      go : (b : Bool) → some_left (r x) ≡ b → list_all (λ y. some_left (r y)) (filter (λ y. some_left (r y)) xs) ≡ true → list_all (λ y. some_left (r y)) (cond b (x ∷ filter (λ y. some_left (r y)) xs) (filter (λ y. some_left (r y)) xs)) ≡ true
      go true some more = and_from (some_left (r x)) (list_all (λ y. some_left (r y)) (filter (λ y. some_left (r y)) xs)) some more
      go false none more = more

  -- the first parts and then the others are all the parts in another order
  pub all_parts : (xs : List X) → list_all (λ x. some_left (r x)) xs ≡ true → IsPermutation (flat_map r xs) (map first_of xs ++ flat_map others_of xs)
  all_parts [] left = IsPermutation-refl []
  all_parts (x ∷ xs) left =
      let both = and_parts (some_left (r x)) (list_all (λ y. some_left (r y)) xs) left in
      let more = all_parts xs both.1 in
      let firsts = map first_of xs in
      let others = flat_map others_of xs in
      let moved : IsPermutation (others_of x ++ flat_map r xs) (firsts ++ (others_of x ++ others)) =
      IsPermutation-trans (others_of x ++ flat_map r xs) (others_of x ++ (firsts ++ others)) (firsts ++ (others_of x ++ others)) (IsPermutation-append_right (others_of x) (flat_map r xs) (firsts ++ others) more) (moved_over (others_of x) firsts others) in
      subst (λ ys. IsPermutation (ys ++ flat_map r xs) (first_of x ∷ (firsts ++ (others_of x ++ others)))) (sym (apart x both.0)) (IsPermutation-cons (first_of x) (others_of x ++ flat_map r xs) (firsts ++ (others_of x ++ others)) moved)

  -- how many there are
  pub count_parts : (xs : List X) → list_all (λ x. some_left (r x)) xs ≡ true → length (flat_map r xs) ≡ length xs + length (flat_map others_of xs)
  count_parts xs left = sym (length_permutation (flat_map r xs) (map first_of xs ++ flat_map others_of xs) (all_parts xs left)) ∙ length-append (map first_of xs) (flat_map others_of xs) ∙ ap (λ n. n + length (flat_map others_of xs)) (length-map xs first_of)

  -- as far as the first i elements are taken apart: their first parts, the elements still to come, and the other parts
  abbrev pub spread_to : ℕ → List X → List X
  spread_to i xs = map first_of (take i xs) ++ (drop i xs ++ flat_map others_of (take i xs))

  -- one element more
  pub spread_more : (xs : List X) (i : ℕ) (d : X) → i < length xs → set (spread_to i xs) i (first_of (get_or xs i d)) ++ others_of (get_or xs i d) ≡ spread_to (i + 1) xs
  spread_more xs i d within =
      ap (λ ys. set ys i (first_of x) ++ others_of x) (ap (λ ys. firsts ++ (ys ++ others)) (drop_more xs i d within))
      ∙ ap (λ ys. ys ++ others_of x) (set_at firsts x (drop (i + 1) xs ++ others) (first_of x) i long)
      ∙ append_assoc firsts (first_of x ∷ (drop (i + 1) xs ++ others)) (others_of x)
      ∙ ap (λ ys. firsts ++ first_of x ∷ ys) (append_assoc (drop (i + 1) xs) others (others_of x))
      ∙ sym (append_assoc firsts (first_of x ∷ []) (drop (i + 1) xs ++ (others ++ others_of x)))
      ∙ ap₂ (λ ys zs. ys ++ (drop (i + 1) xs ++ zs)) (sym (map_more first_of xs i d within)) (flat_map_more others_of [] (take i xs) x ∙ ap (flat_map others_of) (sym (take_more xs i d within)))
    where
      x : X
      x = get_or xs i d

      firsts : List X
      firsts = map first_of (take i xs)

      others : List X
      others = flat_map others_of (take i xs)

      long : length firsts ≡ i
      long = length-map (take i xs) first_of ∙ length-take-le i xs (omega arith)

  -- what stands at the next element, and the room that it needs
  pub spread_at : (xs : List X) (i : ℕ) (d : X) → i < length xs → get_or (spread_to i xs) i d ≡ get_or xs i d
  spread_at xs i d within =
      ap (λ ys. get_or (map first_of (take i xs) ++ (ys ++ flat_map others_of (take i xs))) i d) (drop_more xs i d within)
      ∙ get_or_at (map first_of (take i xs)) (get_or xs i d) (drop (i + 1) xs ++ flat_map others_of (take i xs)) d i (length-map (take i xs) first_of ∙ length-take-le i xs (omega arith))

  pub spread_length : (xs : List X) (i : ℕ) → i ≤ length xs → length (spread_to i xs) ≡ length xs + length (flat_map others_of (take i xs))
  spread_length xs i within =
      length-append (map first_of (take i xs)) (drop i xs ++ flat_map others_of (take i xs))
      ∙ ap₂ ◌+◌ (length-map (take i xs) first_of ∙ length-take-le i xs within) (length-append (drop i xs) (flat_map others_of (take i xs)) ∙ ap (λ n. n + length (flat_map others_of (take i xs))) (length-drop i xs))
      ∙ omega arith

  pub spread_room : (xs : List X) (i : ℕ) (d : X) → i < length xs → list_all (λ x. some_left (r x)) xs ≡ true → length (spread_to i xs) + length (r (get_or xs i d)) ≤ length (flat_map r xs) + 1
  spread_room xs i d within left =
      let x = get_or xs i d in
      let parts : length (r x) ≡ suc (length (others_of x)) = ap length (apart x (all_at (λ y. some_left (r y)) xs i d within left)) in
      let step : length (spread_to i xs) + length (others_of x) ≡ length (spread_to (i + 1) xs) =
      sym (length-append (set (spread_to i xs) i (first_of x)) (others_of x) ∙ ap (λ n. n + length (others_of x)) (length-set (spread_to i xs) i (first_of x))) ∙ ap length (spread_more xs i d within) in
      omega (arith, spread_length xs (i + 1) (omega arith), count_parts xs left, joined_front others_of xs (i + 1))

-- the parts of an element stand at its place and behind the others
module _ {X : Type 0} (rows : List X) (place : ℕ) (within : place < length rows) where
  pub placed_none : (part : X) → set rows place part ≡ placed rows place (part ∷ [])
  placed_none part = sym (append-nil (set rows place part))

  pub placed_more : (parts : List X) (part : X) → some_left parts ≡ true → placed rows place parts ++ part ∷ [] ≡ placed rows place (parts ++ part ∷ [])
  placed_more [] part none = absurd (both_ways false refl none)
  placed_more (first ∷ others) part some = append_assoc (set rows place first) others (part ∷ [])

  pub placed_length : (parts : List X) → some_left parts ≡ true → length (placed rows place parts) + 1 ≡ length rows + length parts
  placed_length [] none = absurd (both_ways false refl none)
  placed_length (first ∷ others) some = omega (arith, length-append (set rows place first) others, length-set rows place first)
