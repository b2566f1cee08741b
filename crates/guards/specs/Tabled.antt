-- Lemmas on the table kind: what its word admits. Assumes nothing.
use Rattle.std.specs.Prelude.{◌≡◌, ℕ, ◌-◌, ◌%◌, ◌^◌, ◌<◌, ◌≤◌, Bool, true, false, not, ◌&&◌, ◌==◌, bit_and, nat_eq, refl}
use Rattle.std.proofs.Common.{sym, ap, ap₂, ◌∙◌, ⊎_elim, arith, pow_pos}
use Rattle.std.proofs.Math.Path.{fun_ext}
use Rattle.std.proofs.lemmas.Nat.{mod_below}
use Rattle.std.specs.Int.Bits.{and_lt}
use Rattle.std.proofs.lemmas.Bool.{eqb-true, eq-eqb, lt-ltb, cases_lt, both_ways, false_from_ne_true}
use Rattle.std.proofs.lemmas.Bool.Decides.{nat_tests}
use Rattle.labels.specs.declared.literals.Literal.{Literal}
use Rattle.labels.specs.declared.literals.Sign.{Sign}
use Rattle.labels.specs.declared.literals.Sign.TheVariants.{Plus, Minus}
use Rattle.words.specs.Bits.{has, word_of, all_below}
use Rattle.labels.specs.Guards.{everything, literal_guard, meet, empty, IgnoresFrom}
use Rattle.labels.specs.Literals.{signed}
use Rattle.guards.specs.Tables.{table_admits, table_word, signed_word, literal_word}
use Rattle.words.proofs.Searched.{same_truth, all_below_each, some_choice_by, no_choice}
use Rattle.words.proofs.Digits.{has_and, has_zero, has_mod, has_word_of, word_of_small, same_word}

-- a choice has a bit of its own in the word
low : (c : ℕ) → c % 64 < 64
low c = mod_below c 64 (omega arith)

-- below 64, a choice is admitted if its bit is 1
admits_low : (w l : ℕ) → l < 64 → table_admits w l ≡ has w l
unfolding table_admits
admits_low w l h = let same : l % 64 ≡ l = omega arith in ap (has w) same

-- a word made from a test admits what the test admits, of the low labels
pub word_admits : (g : ℕ → Bool) (c : ℕ) → table_admits (table_word g) c ≡ g (c % 64)
unfolding table_admits
word_admits g c = has_word_of 64 g (c % 64) ∙ ap (λ b. b && g (c % 64)) (lt-ltb (c % 64) 64 (low c))

-- each word is the word of what it admits
pub word_again : (w : ℕ) → w < 2 ^ 64 → w ≡ table_word (table_admits w)
word_again w h =
    same_word 64 w (table_word (table_admits w)) h (word_of_small 64 (table_admits w))
    (λ l lt. sym (has_word_of 64 (table_admits w) l ∙ ap₂ ◌&&◌ (lt-ltb l 64 lt) (admits_low w l lt)))

-- so what a word admits gives the word
pub word_by : (w : ℕ) (g : ℕ → Bool) → w < 2 ^ 64 → table_admits w ≡ g → w ≡ table_word g
word_by w g h e = word_again w h ∙ ap table_word e

-- a table looks at the six lowest labels alone
pub ignores : (w : ℕ) → IgnoresFrom 6 (table_admits w)
unfolding table_admits
ignores w c d e = ap (has w) (same_word 6 (c % 64) (d % 64) (low c) (low d) (λ l h. has_mod c 6 l h ∙ e l h ∙ sym (has_mod d 6 l h)))

-- the empty word admits no choice
none_admitted : (c : ℕ) → table_admits 0 c ≡ false
unfolding table_admits
none_admitted c = has_zero (c % 64)

-- the full word is that of the guard that admits everything
pub full_word : 2 ^ 64 - 1 ≡ table_word everything
unfolding word_of
full_word = refl

-- the full word admits every choice
pub all_admitted : table_admits (2 ^ 64 - 1) ≡ everything
all_admitted = fun_ext (λ c. ap (λ w. table_admits w c) full_word ∙ word_admits everything c)

-- the bits that are 1 in both
pub meet_admits : (w v : ℕ) → table_admits (bit_and w v) ≡ meet (table_admits w) (table_admits v)
unfolding table_admits
meet_admits w v = fun_ext (λ c. has_and w v (c % 64))

-- the common bits are the word of the meet
pub meet_word : (w v : ℕ) → w < 2 ^ 64 → v < 2 ^ 64 → bit_and w v ≡ table_word (meet (table_admits w) (table_admits v))
meet_word w v h k = word_by (bit_and w v) (meet (table_admits w) (table_admits v)) (and_lt 64 w v h k) (meet_admits w v)

-- the words are right at each of the six labels, with either sign
words_right : (s : Sign) → all_below 6 (λ l. nat_eq (signed_word s l) (table_word (λ c. signed s (has c l)))) ≡ true
unfolding word_of has
words_right Plus = refl
words_right Minus = refl

-- the word of a label is that of the choices with it, and turned round of those without it
label_word : (s : Sign) (l : ℕ) → l < 6 → signed_word s l ≡ table_word (λ c. signed s (has c l))
label_word s l h = eqb-true (signed_word s l) (table_word (λ c. signed s (has c l))) (all_below_each 6 (λ k. nat_eq (signed_word s k) (table_word (λ c. signed s (has c k)))) (words_right s) l h)

-- a literal's word admits what its guard admits
pub literal_admits : (literal : Literal) → table_admits (literal_word literal) ≡ literal_guard 6 literal
literal_admits literal = fun_ext (λ c. ⊎_elim (below c) (above c) (cases_lt literal.label 6))
  where
    below : (c : ℕ) → literal.label < 6 → table_admits (literal_word literal) c ≡ literal_guard 6 literal c
    below c h =
        let s = literal.sign in
        let l = literal.label in
        grind (arith, nat_tests, label_word s l h, word_admits (λ d. signed s (has d l)) c, has_mod c 6 l h)

    above : (c : ℕ) → 6 ≤ literal.label → table_admits (literal_word literal) c ≡ literal_guard 6 literal c
    above c h = grind (arith, nat_tests, none_admitted c)

-- the word of a literal is that of its guard
pub word_by_literal : (literal : Literal) → literal_word literal < 2 ^ 64 → literal_word literal ≡ table_word (literal_guard 6 literal)
word_by_literal literal h = word_by (literal_word literal) (literal_guard 6 literal) h (literal_admits literal)

-- a word is 0 exactly if it admits no choice
pub empty_by_word : (w : ℕ) → w < 2 ^ 64 → (w == 0) ≡ empty (table_admits w)
empty_by_word w h = same_truth (w == 0) (empty (table_admits w)) to from
  where
    to : (w == 0) ≡ true → empty (table_admits w) ≡ true
    to t = ap not (no_choice (table_admits w) (λ c. ap (λ v. table_admits v c) (eqb-true w 0 t) ∙ none_admitted c))

    absent : empty (table_admits w) ≡ true → (l : ℕ) → l < 64 → has w l ≡ has 0 l
    absent t l lt =
        false_from_ne_true (has w l) (λ e. both_ways (empty (table_admits w)) (ap not (some_choice_by (table_admits w) l (omega arith) (admits_low w l lt ∙ e))) t) ∙ sym (has_zero l)

    from : empty (table_admits w) ≡ true → (w == 0) ≡ true
    from t = eq-eqb w 0 (same_word 64 w 0 h (pow_pos 64) (absent t))
