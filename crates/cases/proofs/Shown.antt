-- The worked cases hold. Assumes nothing.
use Rattle.std.proofs.Common.{not, refl, ap}
use Rattle.words.specs.Bits.{has, word_of}
use Rattle.guards.specs.Conjunctions.{conjunction_admits, empty_words}
use Rattle.guards.specs.Conjoined.{full_empty}
use Rattle.words.proofs.Digits.{same_word, has_word_of}
use Rattle.words.proofs.Searched.{no_choice, every_label_each, some_choice_one}
use Rattle.cases.specs.Worked.{Meanings, WorkedCases}

pub meanings : Meanings
meanings = record { known_by_bits = same_word 64; made_from = has_word_of; every = every_label_each; some = some_choice_one }

pub worked : WorkedCases
unfolding has word_of
worked = record {
  contradiction = refl;
  nothing_admitted = ap not (no_choice (conjunction_admits empty_words) full_empty);
  fifth_label = refl;
}
