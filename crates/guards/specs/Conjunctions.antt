-- The conjunction kind: a word of labels that must be in a choice, and one of labels that must be out. Assumes nothing.
use Rattle.std.specs.Prelude.{ℕ, ◌-◌, ◌^◌, ◌<◌, Bool, true, false, cond, not, ◌&&◌, ◌||◌, ◌==◌, bit_and, bit_or, nat_lt}
use Rattle.labels.specs.declared.literals.Literal.{Literal}
use Rattle.labels.specs.declared.literals.Sign.{Sign}
use Rattle.labels.specs.declared.literals.Sign.TheVariants.{Plus, Minus}
use Rattle.words.specs.Bits.{has, every_label}

-- the two words of a conjunction
pub record Words : Type 0 where
  pub required : ℕ
  pub excluded : ℕ

-- the labels that must be in, and those that must be out
abbrev pub words : ℕ → ℕ → Words
words r x = record { required = r; excluded = x }

-- if the first, then the second
abbrev pub implies : Bool → Bool → Bool
implies true b = b
implies false b = true

-- one label of a choice is as the words ask
abbrev pub as_asked : Words → ℕ → ℕ → Bool
as_asked w choice l = implies (has w.required l) (has choice l) && implies (has w.excluded l) (not (has choice l))

-- a choice is admitted when each label is as the words ask
unfoldable pub conjunction_admits : Words → ℕ → Bool
conjunction_admits w choice = every_label (as_asked w choice)

-- all labels
abbrev pub full : ℕ
full = 2 ^ 64 - 1

-- the one empty guard asks for every label to be in and to be out
abbrev pub empty_words : Words
empty_words = words full full

-- no label is asked to be both in and out
abbrev pub is_consistent : Words → Bool
is_consistent w = bit_and w.required w.excluded == 0

-- the words are consistent, or this is the one empty guard
abbrev pub is_canonical : Words → Bool
is_canonical w = is_consistent w || w.required == full && w.excluded == full

-- words that contradict each other stand for the one empty guard
abbrev pub canonical : Words → Words
canonical w = cond (is_consistent w) w empty_words

-- one label that must be in, or out
abbrev pub one_label : Sign → ℕ → Words
one_label Plus l = words (2 ^ l) 0
one_label Minus l = words 0 (2 ^ l)

-- a literal as words: its one label in or out; an unknown label gives the empty guard
abbrev pub literal_words : Literal → Words
literal_words literal = cond (nat_lt literal.label 64) (one_label literal.sign literal.label) empty_words

-- the meet asks for what both ask for
abbrev pub meet_words : Words → Words → Words
meet_words g h = canonical (words (bit_or g.required h.required) (bit_or g.excluded h.excluded))

-- both words fit 64 bits
pub record AreWide (w : Words) : Type 0 where
  pub required : w.required < 2 ^ 64
  pub excluded : w.excluded < 2 ^ 64
