-- The order of an index: what its tests tell. Assumes nothing.
use Rattle.std.proofs.Common.{◌≡◌, ℕ, ◌<◌, ◌≤◌, true, false, ◌⊎◌, ℤ, ◌<ℤ◌, Decides, sym, ◌∙◌, inl, inr, arith}
use lib.Signed.{lt_z}
use Rattle.std.proofs.lemmas.Int.{ints}
use Rattle.std.proofs.lemmas.Bool.{cases_Bool, cases_order}
use Rattle.std.proofs.lemmas.Bool.Decides.{Decides-and, Decides-or, Decides-eqb, Decides-int_eq, Decides-ltb, not_from_Decides}
use Rattle.indexed.specs.declared.entries.Entry.{Entry}
use Rattle.indexed.specs.Index.{before, same_pair}

lower_tells : (a b : ℤ) → Decides (lt_z a b) (a <ℤ b)
lower_tells a b = (λ e. grind (arith, ints), λ e. grind (arith, ints))

pub same_pair_tells : (a : ℤ) (x : ℕ) (n : ℤ) (p : ℕ) → Decides (same_pair a x n p) ((a ≡ n) × (x ≡ p))
same_pair_tells a x n p = Decides-and _ _ (Decides-int_eq a n) (Decides-eqb x p)

-- the number is lower, or it is the same and the place is lower
abbrev pub Comes : ℤ → ℕ → ℤ → ℕ → Type 0
Comes a x n p = (a <ℤ n) ⊎ ((a ≡ n) × (x < p))

pub before_tells : (e : Entry) (n : ℤ) (p : ℕ) → Decides (before e n p) (Comes e.number e.place n p)
before_tells e n p =
    Decides-or _ _ (lower_tells e.number n) (Decides-and _ _ (Decides-int_eq e.number n) (Decides-ltb e.place p))

-- what comes before an entry comes before all that the entry comes before
pub before_trans : (a b : Entry) (n : ℤ) (p : ℕ) → before a b.number b.place ≡ true → before b n p ≡ true → before a n p ≡ true
before_trans a b n p ab bn =
    (before_tells a n p).1
    (elim ((before_tells a b.number b.place).0 ab) [
      | inl lower ↦ elim ((before_tells b n p).0 bn) [ inl low ↦ inl (omega (arith, ints)) | inr same ↦ inl (omega (arith, ints)) ]
      | inr level ↦ elim ((before_tells b n p).0 bn) [ inl low ↦ inl (omega (arith, ints)) | inr same ↦ inr (level.0 ∙ same.0, omega arith) ]
    ])

-- an entry that comes before the number with the place is not the number with that place or a later one
pub before_apart : (e : Entry) (n : ℤ) (p q : ℕ) → before e n p ≡ true → p ≤ q → same_pair e.number e.place n q ≡ true → ⊥
before_apart e n p q comes from same =
    let is = (same_pair_tells e.number e.place n q).0 same in
    elim ((before_tells e n p).0 comes) [ inl lower ↦ omega (arith, ints, is.0) | inr level ↦ omega (arith, is.1) ]

-- of two that differ, one comes before the other
pub before_else : (e f : Entry) → before e f.number f.place ≡ false → same_pair e.number e.place f.number f.place ≡ false → before f e.number e.place ≡ true
before_else e f not-before not_same =
    let never = not_from_Decides (before e f.number f.place) (before_tells e f.number f.place) not-before in
    let apart = not_from_Decides (same_pair e.number e.place f.number f.place) (same_pair_tells e.number e.place f.number f.place) not_same in
    (before_tells f e.number e.place).1
    (elim (cases_Bool (lt_z f.number e.number)) [
      | inl lower ↦ inl ((lower_tells f.number e.number).0 lower)
      | inr not_lower ↦ elim (cases_Bool (lt_z e.number f.number)) [
        | inl higher ↦ absurd (never (inl ((lower_tells e.number f.number).0 higher)))
        | inr not-higher ↦
            let level : e.number ≡ f.number = grind (arith, ints) in
            elim (cases_order e.place f.place) [
              | inl same ↦ absurd (apart (level, same))
              | inr differ ↦ elim differ [ inl low ↦ absurd (never (inr (level, low))) | inr high ↦ inr (sym level, high) ]
            ]
      ]
    ])
