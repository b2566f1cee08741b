-- Lemmas on the conjunction kind: what its words admit. Assumes nothing.
use Rattle.std.specs.Prelude.{◌≡◌, ℕ, ◌^◌, ◌<◌, ◌≤◌, Bool, true, false, not, ◌&&◌, ◌||◌, ◌==◌, bit_and, bit_or, nat_lt, refl}
use Rattle.std.proofs.Common.{sym, ap, ◌∙◌, ⊎_elim, lt_of_le_of_lt, arith, pow_pos}
use Rattle.std.proofs.Math.Path.{fun_ext}
use Rattle.std.proofs.lemmas.Nat.{and_le_r}
use lib.Bits.{or_lt}
use Rattle.std.specs.Int.Bits.{and_lt}
use Rattle.std.proofs.lemmas.Bool.{eqb-true, eqb-false, eq-eqb, and_parts, and_from, cases_lt, lt-ltb, le-ltb, cond-true, cond-false, cond_both, false_from_ne_true}
use Rattle.std.proofs.lemmas.Bool.Decides.{nat_tests}
use Rattle.words.specs.Bits.{has, some_choice}
use Rattle.guards.specs.Conjunctions.{Words, words, implies, as_asked, conjunction_admits, full, empty_words, is_consistent, canonical, is_canonical, literal_words, one_label, meet_words, AreWide}
use Rattle.labels.specs.Guards.{everything, literal_guard, meet, empty, IgnoresFrom}
use Rattle.labels.specs.Literals.{signed}
use Rattle.labels.specs.declared.literals.Literal.{Literal}
use Rattle.labels.specs.declared.literals.Sign.{Sign}
use Rattle.labels.specs.declared.literals.Sign.TheVariants.{Plus, Minus}
use Rattle.words.proofs.Searched.{same_truth, every_label_each, every_label_same, some_choice_by, no_choice}
use Rattle.words.proofs.Digits.{has_and, has_or, has_zero, has_pow, same_word}

-- a label that the first word has is asked to be in
implied_in : (r c : Bool) → (c && r) ≡ r → implies r c ≡ true
implied_in r c e = grind (arith)

in_implied : (r c : Bool) → implies r c ≡ true → (c && r) ≡ r
in_implied r c e = grind (arith)

-- a label that the second word has is asked to be out
implied_out : (x c : Bool) → (c && x) ≡ false → implies x (not c) ≡ true
implied_out x c e = grind (arith)

out_implied : (x c : Bool) → implies x (not c) ≡ true → (c && x) ≡ false
out_implied x c e = grind (arith)

-- no label is both in and out
apart : (r x c : Bool) → implies r c ≡ true → implies x (not c) ≡ true → (r && x) ≡ false
apart r x c e f = grind (arith)

implied_same : (a : Bool) → implies a a ≡ true
implied_same a = grind (arith)

implied_apart : (r x : Bool) → (r && x) ≡ false → implies x (not r) ≡ true
implied_apart r x e = grind (arith)

-- what is asked for by one or another is asked for by each
implied_or : (a b c : Bool) → implies (a || b) c ≡ (implies a c && implies b c)
implied_or a b c = grind (arith)

-- what is asked of one label alone is as its own truth
implied_by_eq : (l m : ℕ) (f : ℕ → Bool) → f l ≡ true → implies (l == m) (f m) ≡ true
implied_by_eq l m f e = go (l == m) refl
  where
    go : (b : Bool) → (l == m) ≡ b → implies b (f m) ≡ true
    go true t = ap f (sym (eqb-true l m t)) ∙ e
    go false t = refl

-- each label of an admitted choice is as asked
each : (w : Words) (c : ℕ) → conjunction_admits w c ≡ true → (l : ℕ) → l < 64 → as_asked w c l ≡ true
unfolding conjunction_admits
each w c = (every_label_each (as_asked w c)).0

-- it is in, where it must be, and out, where it must be
pub each_in : (w : Words) (c : ℕ) → conjunction_admits w c ≡ true → (l : ℕ) → l < 64 → implies (has w.required l) (has c l) ≡ true
each_in w c t l h = (and_parts (implies (has w.required l) (has c l)) (implies (has w.excluded l) (not (has c l))) (each w c t l h)).0

pub each_out : (w : Words) (c : ℕ) → conjunction_admits w c ≡ true → (l : ℕ) → l < 64 → implies (has w.excluded l) (not (has c l)) ≡ true
each_out w c t l h = (and_parts (implies (has w.required l) (has c l)) (implies (has w.excluded l) (not (has c l))) (each w c t l h)).1

-- and a choice whose labels are all as asked is admitted
by_each : (w : Words) (c : ℕ) → ((l : ℕ) → l < 64 → as_asked w c l ≡ true) → conjunction_admits w c ≡ true
unfolding conjunction_admits
by_each w c = (every_label_each (as_asked w c)).1

admitted_by : (w : Words) (c : ℕ) → ((l : ℕ) → l < 64 → implies (has w.required l) (has c l) ≡ true) → ((l : ℕ) → l < 64 → implies (has w.excluded l) (not (has c l)) ≡ true) → conjunction_admits w c ≡ true
admitted_by w c ins outs = by_each w c (λ l h. and_from (implies (has w.required l) (has c l)) (implies (has w.excluded l) (not (has c l))) (ins l h) (outs l h))

-- the test by words
pub by_words : (w : Words) (c : ℕ) → AreWide w → conjunction_admits w c ≡ (bit_and c w.required == w.required && bit_and c w.excluded == 0)
by_words w c wide = same_truth (conjunction_admits w c) (bit_and c w.required == w.required && bit_and c w.excluded == 0) from to
  where
    to : (bit_and c w.required == w.required && bit_and c w.excluded == 0) ≡ true → conjunction_admits w c ≡ true
    to t =
        let tests = and_parts (bit_and c w.required == w.required) (bit_and c w.excluded == 0) t in
        let ins : bit_and c w.required ≡ w.required = eqb-true (bit_and c w.required) w.required tests.0 in
        let outs : bit_and c w.excluded ≡ 0 = eqb-true (bit_and c w.excluded) 0 tests.1 in
        by_each w c (λ l h. grind (arith, ap (λ v. has v l) ins, ap (λ v. has v l) outs, has_and c w.required l, has_and c w.excluded l, has_zero l))

    from : conjunction_admits w c ≡ true → (bit_and c w.required == w.required && bit_and c w.excluded == 0) ≡ true
    from t =
        and_from (bit_and c w.required == w.required) (bit_and c w.excluded == 0)
        (eq-eqb (bit_and c w.required) w.required (same_word 64 (bit_and c w.required) w.required (lt_of_le_of_lt (and_le_r c w.required) wide.required) wide.required (λ l h. grind (arith, has_and c w.required l, each w c t l h))))
        (eq-eqb (bit_and c w.excluded) 0 (same_word 64 (bit_and c w.excluded) 0 (lt_of_le_of_lt (and_le_r c w.excluded) wide.excluded) (pow_pos 64) (λ l h. grind (arith, has_and c w.excluded l, has_zero l, each w c t l h))))

-- words that admit a choice are consistent
pub consistent : (w : Words) (c : ℕ) → AreWide w → conjunction_admits w c ≡ true → bit_and w.required w.excluded ≡ 0
consistent w c wide t =
    same_word 64 (bit_and w.required w.excluded) 0 (and_lt 64 w.required w.excluded wide.required wide.excluded) (pow_pos 64)
    (λ l h. grind (arith, has_and w.required w.excluded l, has_zero l, each w c t l h))

-- words that contradict each other admit none
pub contradiction : (w : Words) (c : ℕ) → AreWide w → is_consistent w ≡ false → conjunction_admits w c ≡ false
contradiction w c wide e = false_from_ne_true (conjunction_admits w c) (λ t. eqb-false (bit_and w.required w.excluded) 0 e (consistent w c wide t))

-- consistent words admit the choice of just the labels that they require
pub least : (w : Words) → is_consistent w ≡ true → conjunction_admits w w.required ≡ true
least w e =
    let none : bit_and w.required w.excluded ≡ 0 = eqb-true (bit_and w.required w.excluded) 0 e in
    by_each w w.required (λ l h. grind (arith, ap (λ v. has v l) none, has_and w.required w.excluded l, has_zero l))

full_small : full < 2 ^ 64
full_small = omega arith

-- the one empty value admits no choice
pub full_empty : (c : ℕ) → conjunction_admits empty_words c ≡ false
full_empty c = contradiction empty_words c (record { required = full_small; excluded = full_small }) refl

-- the canonical words mean the same
pub canonical_admits : (w : Words) → AreWide w → conjunction_admits (canonical w) ≡ conjunction_admits w
canonical_admits w wide =
    cond_both (is_consistent w) w empty_words (λ v. conjunction_admits v ≡ conjunction_admits w) (λ _. refl)
    (λ e. fun_ext (λ c. full_empty c ∙ sym (contradiction w c wide e)))

-- joined words ask for what both ask for
pub joined_admits : (r x r' x' : ℕ) → conjunction_admits (words (bit_or r r') (bit_or x x')) ≡ meet (conjunction_admits (words r x)) (conjunction_admits (words r' x'))
joined_admits r x r' x' = fun_ext (λ c. same_truth (conjunction_admits (words (bit_or r r') (bit_or x x')) c) (conjunction_admits (words r x) c && conjunction_admits (words r' x') c) (to c) (from c))
  where
    to : (c : ℕ) → conjunction_admits (words (bit_or r r') (bit_or x x')) c ≡ true → (conjunction_admits (words r x) c && conjunction_admits (words r' x') c) ≡ true
    to c t =
        and_from (conjunction_admits (words r x) c) (conjunction_admits (words r' x') c)
        (by_each (words r x) c (λ l h. grind (arith, has_or r r' l, has_or x x' l, each (words (bit_or r r') (bit_or x x')) c t l h)))
        (by_each (words r' x') c (λ l h. grind (arith, has_or r r' l, has_or x x' l, each (words (bit_or r r') (bit_or x x')) c t l h)))

    from : (c : ℕ) → (conjunction_admits (words r x) c && conjunction_admits (words r' x') c) ≡ true → conjunction_admits (words (bit_or r r') (bit_or x x')) c ≡ true
    from c t =
        let both = and_parts (conjunction_admits (words r x) c) (conjunction_admits (words r' x') c) t in
        by_each (words (bit_or r r') (bit_or x x')) c (λ l h. grind (arith, has_or r r' l, has_or x x' l, each (words r x) c both.0 l h, each (words r' x') c both.1 l h))

-- the met words admit what both admit
pub meet_admits : (g h : Words) → AreWide g → AreWide h → conjunction_admits (meet_words g h) ≡ meet (conjunction_admits g) (conjunction_admits h)
meet_admits g h gs hs =
    canonical_admits (words (bit_or g.required h.required) (bit_or g.excluded h.excluded))
    (record { required = or_lt 64 g.required h.required gs.required hs.required; excluded = or_lt 64 g.excluded h.excluded gs.excluded hs.excluded })
    ∙ joined_admits g.required g.excluded h.required h.excluded

-- no word asks for anything
pub none_asked : conjunction_admits (words 0 0) ≡ everything
none_asked = fun_ext (λ c. by_each (words 0 0) c (λ l h. grind (arith, has_zero l)))

-- one label is asked for
pub one_admits : (s : Sign) (l : ℕ) → l < 64 → (c : ℕ) → conjunction_admits (one_label s l) c ≡ signed s (has c l)
one_admits Plus l h c =
    same_truth (conjunction_admits (words (2 ^ l) 0) c) (has c l)
    (λ t. grind (arith, nat_tests, has_pow l l, each (words (2 ^ l) 0) c t l h))
    (λ t. by_each (words (2 ^ l) 0) c (λ m k. grind (arith, nat_tests, has_pow l m, has_zero m)))
one_admits Minus l h c =
    same_truth (conjunction_admits (words 0 (2 ^ l)) c) (not (has c l))
    (λ t. grind (arith, nat_tests, has_pow l l, each (words 0 (2 ^ l)) c t l h))
    (λ t. by_each (words 0 (2 ^ l)) c (λ m k. grind (arith, nat_tests, has_pow l m, has_zero m)))

-- only labels below 64 are looked at
pub ignores : (w : Words) → IgnoresFrom 64 (conjunction_admits w)
unfolding conjunction_admits
ignores w c d e = every_label_same (as_asked w c) (as_asked w d) (λ l h. ap (λ b. implies (has w.required l) b && implies (has w.excluded l) (not b)) (e l h))

-- words are empty exactly if they contradict each other
pub empty_by_words : (w : Words) → AreWide w → not (is_consistent w) ≡ empty (conjunction_admits w)
empty_by_words w wide = ap not (go (is_consistent w) refl)
  where
    go : (b : Bool) → is_consistent w ≡ b → b ≡ some_choice (conjunction_admits w)
    go true e = sym (some_choice_by (conjunction_admits w) w.required wide.required (least w e))
    go false e = sym (no_choice (conjunction_admits w) (λ c. contradiction w c wide e))

-- a literal's words, where its label is known and where it is not
pub known_words : (literal : Literal) (s : Sign) → literal.sign ≡ s → literal.label < 64 → literal_words literal ≡ one_label s literal.label
known_words literal s is h = cond-true (nat_lt literal.label 64) (one_label literal.sign literal.label) empty_words (lt-ltb literal.label 64 h) ∙ ap (λ t. one_label t literal.label) is

pub unknown_words : (literal : Literal) → 64 ≤ literal.label → literal_words literal ≡ empty_words
unknown_words literal h = cond-false (nat_lt literal.label 64) (one_label literal.sign literal.label) empty_words (le-ltb literal.label 64 h)

-- a literal's words admit what its guard admits
pub literal_admits : (literal : Literal) → conjunction_admits (literal_words literal) ≡ literal_guard 64 literal
literal_admits literal = fun_ext (λ c. ⊎_elim (below c) (above c) (cases_lt literal.label 64))
  where
    below : (c : ℕ) → literal.label < 64 → conjunction_admits (literal_words literal) c ≡ literal_guard 64 literal c
    below c h = grind (arith, nat_tests, one_admits literal.sign literal.label h c)

    above : (c : ℕ) → 64 ≤ literal.label → conjunction_admits (literal_words literal) c ≡ literal_guard 64 literal c
    above c h = grind (arith, nat_tests, full_empty c)

-- a canonical guard that is empty is the one empty guard
pub one_empty_lem : (w : Words) → is_canonical w ≡ true → not (is_consistent w) ≡ true → w ≡ empty_words
one_empty_lem w s e = grind (arith, nat_tests)
