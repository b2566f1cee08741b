-- Literals: a label, asked to be in a choice or to be out of it. Assumes nothing.
use Rattle.std.specs.Prelude.{ℕ, Bool, not}
use Rattle.labels.specs.declared.literals.Literal.{Literal}
use Rattle.labels.specs.declared.literals.Sign.{Sign}
use Rattle.labels.specs.declared.literals.Sign.TheVariants.{Plus, Minus}
use Rattle.words.specs.Bits.{has}

-- plus takes an answer as it is, minus turns it round
abbrev pub signed : Sign → Bool → Bool
signed Plus b = b
signed Minus b = not b

-- +l holds at the choices with l, and -l at the others
abbrev pub holds : Literal → ℕ → Bool
holds literal choice = signed literal.sign (has choice literal.label)

-- the other sign
abbrev pub opposite_sign : Sign → Sign
opposite_sign Plus = Minus
opposite_sign Minus = Plus

-- the literal that holds exactly where this one does not
abbrev pub opposite : Literal → Literal
opposite literal = record { sign = opposite_sign literal.sign; label = literal.label }

-- the literal +l
abbrev pub plus : ℕ → Literal
plus l = record { sign = Plus; label = l }

-- the literal -l
abbrev pub minus : ℕ → Literal
minus l = record { sign = Minus; label = l }
