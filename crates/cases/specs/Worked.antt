-- The worked cases, as facts about the definitions. Assumes nothing.
use Rattle.std.specs.Prelude.{◌≡◌, ℕ, ◌^◌, ◌<◌, Bool, true, cond, ◌&&◌, ◌||◌, List, length, pos, Ok, Decides, ◌==◌, nat_lt}
use Rattle.words.specs.Bits.{has, with_label, word_of, every_label, some_choice}
use Rattle.guards.specs.Conjunctions.{conjunction_admits, literal_words, meet_words, empty_words}
use Rattle.labels.specs.Guards.{literal_guard, empty}
use Rattle.labels.specs.Literals.{plus, minus}
use Rattle.guards.specs.Tables.{table_word}
use Rattle.policies.specs.declared.partners.Pair.{Pair}
use Rattle.policies.specs.declared.releases.LabelRecord.{LabelRecord}
use Rattle.policies.specs.Partners.{pair, same_pair, listed, with_pair}
use Rattle.policies.specs.Releases.{release_day, with_day}

-- the definitions that search or count do what their names say
pub record Meanings : Type 0 where
  -- a word is known by its bits
  pub known_by_bits : (a b : ℕ) → a < 2 ^ 64 → b < 2 ^ 64 → ((l : ℕ) → l < 64 → has a l ≡ has b l) → a ≡ b
  -- a word made from a test has bit i exactly if i is in range and the test passes
  pub made_from : (n : ℕ) (p : ℕ → Bool) (i : ℕ) → has (word_of n p) i ≡ (nat_lt i n && p i)
  -- every label passes exactly if each label below 64 does
  pub every : (p : ℕ → Bool) → Decides (every_label p) ((l : ℕ) → l < 64 → p l ≡ true)
  -- some choice passes exactly if there is one
  pub some : (p : ℕ → Bool) → Decides (some_choice p) ((c : ℕ) × (c < 2 ^ 64) × (p c ≡ true))

-- what a change of a choice or a policy comes to
pub record Changes : Type 0 where
  -- a choice with one label more has that label and those that it had
  pub one_more : (c l m : ℕ) → l < 64 → has (with_label c l) m ≡ (has c m || l == m)
  -- a day that is accepted is that label's release day from then on, and the other labels keep theirs
  pub day_set : (records after : List LabelRecord) (l d k : ℕ) → length records ≡ 64 → with_day records (pos l) (pos d) ≡ Ok after → release_day after k ≡ cond (l == k) d (release_day records k)
  -- a pair that is accepted is listed from then on, beside those that were
  pub pair_listed : (before after : List Pair) (v l : ℕ) (other : Pair) → with_pair before (pos v) (pos l) ≡ Ok after → listed after other ≡ (listed before other || same_pair (pair v l) other)

-- small cases that can be followed by hand
pub record WorkedCases : Type 0 where
  -- in the conjunction kind, +3 met with -3 is the one empty guard
  pub contradiction : meet_words (literal_words (plus 3)) (literal_words (minus 3)) ≡ empty_words
  -- which admits no choice
  pub nothing_admitted : empty (conjunction_admits empty_words) ≡ true
  -- in the table kind, +5 is the upper half of the word
  pub fifth_label : table_word (literal_guard 6 (plus 5)) ≡ 0xFFFFFFFF00000000
