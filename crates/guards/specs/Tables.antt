-- The table kind: a truth table over the choices of six labels. Assumes nothing.
use Rattle.std.specs.Prelude.{ℕ, ◌-◌, ◌%◌, ◌^◌, Bool, cond, List, [], ◌∷◌, nat_lt, slice_index}
use Rattle.labels.specs.declared.literals.Literal.{Literal}
use Rattle.labels.specs.declared.literals.Sign.{Sign}
use Rattle.labels.specs.declared.literals.Sign.TheVariants.{Plus, Minus}
use Rattle.words.specs.Bits.{has, word_of}

-- bit c of the word is 1 exactly if choice c is admitted; of a choice only the six lowest labels count
unfoldable pub table_admits : ℕ → ℕ → Bool
table_admits word choice = has word (choice % 64)

-- the word of the guard that admits what the test admits
abbrev pub table_word : (ℕ → Bool) → ℕ
table_word g = word_of 64 g

-- for each of the six labels, the word of the choices that have it
abbrev pub with_label_words : List ℕ
with_label_words = 0xAAAAAAAAAAAAAAAA ∷ 0xCCCCCCCCCCCCCCCC ∷ 0xF0F0F0F0F0F0F0F0 ∷ 0xFF00FF00FF00FF00 ∷ 0xFFFF0000FFFF0000 ∷ 0xFFFFFFFF00000000 ∷ []

-- the word of a sign and a label: the choices that have it, or those that do not
abbrev pub signed_word : Sign → ℕ → ℕ
signed_word Plus label = slice_index with_label_words label
signed_word Minus label = 2 ^ 64 - 1 - slice_index with_label_words label

-- a literal's word; that of an unknown label admits none
abbrev pub literal_word : Literal → ℕ
literal_word literal = cond (nat_lt literal.label 6) (signed_word literal.sign literal.label) 0
