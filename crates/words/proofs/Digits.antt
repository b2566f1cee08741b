-- The labels in a word: what the word operations do to them, and that a word is known by them. Assumes nothing.
use Rattle.std.proofs.Common.{◌≡◌, ℕ, zero, suc, ◌+◌, ◌/◌, ◌%◌, ◌^◌, ◌<◌, ◌≤◌, Bool, true, false, cond, ◌&&◌, ◌||◌, eqb, ltb, sym, ap, ◌∙◌, add-zero, one-mul, add-one, arith, pow-suc}
use mathlib.Core.Bool.{and-true, and-false}
use lib.Bits.{bit_and, bit_or, or_shifted_r, or_zero_r}
use Rattle.std.proofs.lemmas.Nat.{shr_split}
use Rattle.std.proofs.lemmas.Nat.Bits.{bit_at_and, bit_at_or, bit_at-zero, bit_at-pow_same, bit_at-pow_other, bit_at_above, bit_at_cat_low, bit_at-lt, same_from_bits_below}
use Rattle.std.proofs.lemmas.Bool.{cond_both}
use Rattle.std.proofs.lemmas.Bool.Decides.{nat_tests}
use Rattle.std.proofs.lemmas.Grind.{common_steps}
use Rattle.std.specs.Int.{bit_at}
use Rattle.words.specs.Bits.{has, with_label, word_of}

-- the labels in both
pub has_and : (a b l : ℕ) → has (bit_and a b) l ≡ (has a l && has b l)
unfolding has
has_and a b l = grind (arith, nat_tests, bit_at_and a b l, bit_at-lt a l, bit_at-lt b l)

-- the labels in either
pub has_or : (a b l : ℕ) → has (bit_or a b) l ≡ (has a l || has b l)
unfolding has
has_or a b l = grind (arith, nat_tests, bit_at_or a b l, bit_at-lt a l, bit_at-lt b l)

-- a word has no label from its width up
pub has_high : (a k l : ℕ) → a < 2 ^ k → k ≤ l → has a l ≡ false
unfolding has
has_high a k l small high = ap (λ n. eqb n 1) (bit_at_above a k l small high)

-- no label is in the empty word
pub has_zero : (l : ℕ) → has 0 l ≡ false
unfolding has
has_zero l = ap (λ n. eqb n 1) (bit_at-zero l)

-- a power of two has one label
pub has_pow : (k l : ℕ) → has (2 ^ k) l ≡ eqb k l
unfolding has
has_pow k l = grind (arith, nat_tests, bit_at-pow_same k, bit_at-pow_other k l)

-- the low part of a word keeps the labels below its width
pub has_mod : (a k l : ℕ) → l < k → has (a % 2 ^ k) l ≡ has a l
unfolding has
has_mod a k l h = ap (λ n. eqb n 1) (sym (bit_at_cat_low (a / 2 ^ k) k (a % 2 ^ k) l h) ∙ ap (λ n. bit_at n l) (shr_split a k))

-- a word is known by its labels
pub same_word : (k a b : ℕ) → a < 2 ^ k → b < 2 ^ k → ((l : ℕ) → l < k → has a l ≡ has b l) → a ≡ b
unfolding has
same_word k a b h j e = same_from_bits_below k a b h j same
  where
    same : (l : ℕ) → l < k → bit_at a l ≡ bit_at b l
    same l lt = grind (arith, nat_tests, e l lt, bit_at-lt a l, bit_at-lt b l)

-- a word that is shifted to the place of a label is odd exactly if it has the label
pub has_shifted : (a l : ℕ) → a < 2 ^ 64 → eqb (cond (ltb l 64) (a / 2 ^ l) 0 % 2) 1 ≡ has a l
unfolding has
has_shifted a l small = grind (arith, nat_tests, common_steps, bit_at_above a 64 l small)

-- a word made from a test is as wide as the test is long
pub word_of_small : (n : ℕ) (p : ℕ → Bool) → word_of n p < 2 ^ n
unfolding word_of
word_of_small zero p = omega arith
word_of_small (suc n) p = cond_both (p n) (2 ^ n) 0 (λ x. word_of n p + x < 2 ^ suc n) (λ _. omega (arith, pow-suc 2 n, word_of_small n p)) (λ _. omega (arith, pow-suc 2 n, word_of_small n p))

-- its next digit stands above it
word_and_top : (n : ℕ) (p : ℕ → Bool) → word_of n p + 2 ^ n ≡ bit_or (word_of n p) (2 ^ n)
word_and_top n p = sym (ap (bit_or (word_of n p)) (sym (one-mul (2 ^ n))) ∙ or_shifted_r 1 n (word_of n p) (word_of_small n p) ∙ omega arith)

-- so adding it joins the labels
word_and_bit : (n : ℕ) (p : ℕ → Bool) (b : Bool) → word_of n p + cond b (2 ^ n) 0 ≡ bit_or (word_of n p) (cond b (2 ^ n) 0)
word_and_bit n p true = word_and_top n p
word_and_bit n p false = add-zero (word_of n p) ∙ sym (or_zero_r (word_of n p))

has_bit : (n l : ℕ) (b : Bool) → has (cond b (2 ^ n) 0) l ≡ (eqb n l && b)
has_bit n l true = has_pow n l ∙ sym (and-true (eqb n l))
has_bit n l false = has_zero l ∙ sym (and-false (eqb n l))

-- and has the labels where the test passes
pub has_word_of : (n : ℕ) (p : ℕ → Bool) (l : ℕ) → has (word_of n p) l ≡ (ltb l n && p l)
unfolding word_of
has_word_of zero p l = grind (arith, nat_tests, has_zero l)
has_word_of (suc n) p l =
    ap (λ w. has w l) (word_and_bit n p (p n))
    ∙ has_or (word_of n p) (cond (p n) (2 ^ n) 0) l
    ∙ grind (arith, nat_tests, has_word_of n p l, has_bit n l (p n))

-- a test that passes at n adds the label n to the word, and one that fails adds nothing
pub word_of_more : (n : ℕ) (p : ℕ → Bool) (w v : ℕ) → n < 64 → true ≡ p n → w ≡ word_of n p → v ≡ with_label w n → v ≡ word_of (n + 1) p
unfolding word_of
word_of_more n p w v few passes before after = rw add-one (grind (arith, nat_tests, word_and_top n p))

pub word_of_same : (n : ℕ) (p : ℕ → Bool) (w : ℕ) → false ≡ p n → w ≡ word_of n p → w ≡ word_of (n + 1) p
unfolding word_of
word_of_same n p w stays before = rw add-one (grind (arith, nat_tests))
