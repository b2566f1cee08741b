-- Words read as sets. A choice is a set of labels, held as a word whose bit l is 1 when label l is in it. Assumes nothing.
use Rattle.std.specs.Prelude.{ℕ, zero, suc, ◌+◌, ◌^◌, Bool, true, false, cond, ◌&&◌, ◌||◌, ◌==◌, bit_or, nat_lt}
use Rattle.std.specs.Int.{bit_at}

-- bit l of the word is 1; of a choice: label l is in it
unfoldable pub has : ℕ → ℕ → Bool
has choice label = bit_at choice label == 1

-- the choice with one label more; a choice holds labels below 64
abbrev pub with_label : ℕ → ℕ → ℕ
with_label choice label = cond (nat_lt label 64) (bit_or choice (2 ^ label)) choice

-- the number whose bits are the answers of a test: bit i is 1 exactly if i is below n and the test passes at i
unfoldable pub word_of : ℕ → (ℕ → Bool) → ℕ
word_of zero p = 0
word_of (suc n) p = word_of n p + cond (p n) (2 ^ n) 0

-- the test passes at every number below n
abbrev pub all_below : ℕ → (ℕ → Bool) → Bool
all_below zero p = true
all_below (suc n) p = p n && all_below n p

-- the test passes at every label that a choice can hold
unfoldable pub every_label : (ℕ → Bool) → Bool
every_label p = all_below 64 p

-- the test passes at some number below n
abbrev pub some_below : ℕ → (ℕ → Bool) → Bool
some_below zero p = false
some_below (suc n) p = p n || some_below n p

-- the test passes at some choice
unfoldable pub some_choice : (ℕ → Bool) → Bool
some_choice p = some_below (2 ^ 64) p
