-- What a change of the memory makes of a list's entries. Assumes nothing.
use Rattle.std.proofs.Common.{◌≡◌, ℕ, suc, ◌+◌, ◌-◌, ◌<◌, ◌≤◌, Bool, true, false, cond, ltb, Ok, Err, min, List, [], ◌∷◌, ◌++◌, length, take, drop, set, sym, refl, ap, ◌∙◌, ap₂, add-one, arith, length-append, length-drop, length-take-le}
use Rattle.std.proofs.lemmas.Bool.{ltb-true, ltb-false}
use Rattle.std.proofs.lemmas.List.{append_assoc, take_at, take-append-drop, take-take, drop-take, set_split, set-append_left, length-set, length_push}
use Rattle.std.proofs.lemmas.List.Edits.{length-remove}
use Rattle.std.specs.List.{copy_within, remove}
use Rattle.rows.specs.declared.lists.List as borrowed
use Rattle.rows.specs.Lists.{memory, most, entries, room_for, NowHas}

module _ {E : Type 0} where
  -- how many entries there are
  pub entries_length : (list : borrowed.List E) → length (entries list) ≡ min list.count (most list)
  entries_length list = length-take-le (min list.count (most list)) (memory list) (omega arith)

  pub few_entries : (list : borrowed.List E) → length (entries list) ≤ most list
  few_entries list = omega (arith, entries_length list)

  -- the entries are known by what the memory has become
  pub now_has : (before after : borrowed.List E) (zs : List E) → min after.count (most before) ≡ length zs → memory after ≡ zs ++ drop (length zs) (memory before) → after.slots.ghost_name ≡ before.slots.ghost_name → NowHas before after zs
  now_has before after zs counted rest same =
      let within : length zs ≤ length (memory before) = omega arith in
      let long : length (memory after) ≡ length (memory before) = ap length rest ∙ length-append zs (drop (length zs) (memory before)) ∙ omega (arith, length-drop (length zs) (memory before)) in
      let room : most after ≡ most before = ap (λ n. min n 65535) long in
      record {
        holds = ap₂ take (ap (min after.count) room ∙ counted) rest ∙ take_at zs (drop (length zs) (memory before)) (length zs) refl;
        behind = rest;
        room = room;
        lent = same;
      }

  -- one entry more
  pub pushed : (xs : List E) (n : ℕ) (e : E) → n < length xs → set xs n e ≡ (take n xs ++ e ∷ []) ++ drop (length (take n xs ++ e ∷ [])) xs
  pushed xs n e within =
      let long : length (take n xs ++ e ∷ []) ≡ suc n = length_push (take n xs) e ∙ ap (λ k. k + 1) (length-take-le n xs (omega arith)) ∙ add-one n in
      set_split xs n e within ∙ sym (append_assoc (take n xs) (e ∷ []) (drop (suc n) xs)) ∙ ap (λ k. (take n xs ++ e ∷ []) ++ drop k xs) (sym long)

  -- one entry in the place of another
  pub replaced : (xs : List E) (n p : ℕ) (e : E) → n ≤ length xs → p < n → set xs p e ≡ set (take n xs) p e ++ drop (length (set (take n xs) p e)) xs
  replaced xs n p e within below =
      let long : length (set (take n xs) p e) ≡ n = length-set (take n xs) p e ∙ length-take-le n xs within in
      ap (λ ys. set ys p e) (sym (take-append-drop n xs))
      ∙ set-append_left (take n xs) (drop n xs) p e (omega (arith, length-take-le n xs within))
      ∙ ap (λ k. set (take n xs) p e ++ drop k xs) (sym long)

  -- one entry less: those behind it have moved up
  pub closed_up : (xs : List E) (n p : ℕ) → n ≤ length xs → p < n → copy_within xs (p + 1) n p ≡ remove (take n xs) p ++ drop (length (remove (take n xs) p)) xs
  closed_up xs n p within below =
      let m : ℕ = n - (p + 1) in
      let split : n ≡ suc p + m = omega arith in
      let front : take p (take n xs) ≡ take p xs = take-take p n xs (omega arith) in
      let back : drop (suc p) (take n xs) ≡ take m (drop (suc p) xs) = ap (λ k. drop (suc p) (take k xs)) split ∙ drop-take (suc p) m xs in
      let whole : remove (take n xs) p ≡ take p xs ++ take m (drop (suc p) xs) = ap₂ ◌++◌ front back in
      let long : length (remove (take n xs) p) ≡ p + m = omega (arith, length-remove (take n xs) p (omega (arith, length-take-le n xs within)), length-take-le n xs within) in
      ap (λ k. (take p xs ++ take m (drop k xs)) ++ drop (p + m) xs) (add-one p)
      ∙ ap₂ (λ ys k. ys ++ drop k xs) (sym whole) (sym long)

module _ {E : Type 0} (list : borrowed.List E) (entry : E) where
  -- an entry was taken, so there was room for it
  pub had_room : Ok tt ≡ room_for list entry → length (entries list) < most list
  had_room told = go (ltb (length (entries list)) (most list)) refl told
    where
      go : (b : Bool) → ltb (length (entries list)) (most list) ≡ b → Ok (tt {0}) ≡ cond b (Ok (tt {0})) (Err entry) → length (entries list) < most list
      go true e _ = ltb-true (length (entries list)) (most list) e
      go false _ told = absurd (let z : ◌≡◌ {A = ℕ} 0 1 = cc in omega arith)

  -- an entry was given back, so there was none
  pub had_no_room : (back : E) → Err back ≡ room_for list entry → most list ≤ length (entries list)
  had_no_room back told = go (ltb (length (entries list)) (most list)) refl told
    where
      go : (b : Bool) → ltb (length (entries list)) (most list) ≡ b → Err back ≡ cond b (Ok (tt {0})) (Err entry) → most list ≤ length (entries list)
      go true _ told = absurd (let z : ◌≡◌ {A = ℕ} 0 1 = cc in omega arith)
      go false e _ = ltb-false (length (entries list)) (most list) e
