-- A refusal is known by its number. Assumes nothing.
use Rattle.std.proofs.Common.{◌≡◌, ℕ, cond, eqb, sym, refl, ap, ◌∙◌}
use Rattle.faults.specs.declared.Refusal.{Refusal}
use Rattle.faults.specs.declared.Refusal.TheVariants.{
  WordNotAllowed,
  NotANumber,
  WordsLeftOver,
  LineTooLong,
  LimitExceeded,
  FormOutOfPlace,
  UnknownColumn,
  UnknownLabel,
  CountOutOfLimits,
  TestOutOfForm,
  TableFull,
  AnswerFull,
  SheetFull,
  PartnersFull,
  ViewerOutOfRange,
  DayOutOfRange,
  ChoiceNotKept,
  PlaceOutOfRange,
  StoreNotEmpty,
}
use Rattle.faults.specs.Faults.{code}

-- the refusal of a number
abbrev of_number : ℕ → Refusal
of_number n =
    cond (eqb n 11) WordNotAllowed (cond (eqb n 12) NotANumber (cond (eqb n 13) WordsLeftOver (cond (eqb n 14) LineTooLong
    (cond (eqb n 15) LimitExceeded (cond (eqb n 16) FormOutOfPlace (cond (eqb n 21) UnknownColumn (cond (eqb n 22) UnknownLabel
    (cond (eqb n 23) CountOutOfLimits (cond (eqb n 24) TestOutOfForm (cond (eqb n 31) TableFull (cond (eqb n 32) AnswerFull
    (cond (eqb n 33) SheetFull (cond (eqb n 34) PartnersFull (cond (eqb n 41) ViewerOutOfRange (cond (eqb n 42) DayOutOfRange
    (cond (eqb n 43) ChoiceNotKept (cond (eqb n 51) PlaceOutOfRange StoreNotEmpty)))))))))))))))))

back : (r : Refusal) → of_number (code r).number ≡ r
back WordNotAllowed = refl
back NotANumber = refl
back WordsLeftOver = refl
back LineTooLong = refl
back LimitExceeded = refl
back FormOutOfPlace = refl
back UnknownColumn = refl
back UnknownLabel = refl
back CountOutOfLimits = refl
back TestOutOfForm = refl
back TableFull = refl
back AnswerFull = refl
back SheetFull = refl
back PartnersFull = refl
back ViewerOutOfRange = refl
back DayOutOfRange = refl
back ChoiceNotKept = refl
back PlaceOutOfRange = refl
back StoreNotEmpty = refl

pub same_refusal : (a b : Refusal) → (code a).number ≡ (code b).number → a ≡ b
same_refusal a b e = sym (back a) ∙ ap of_number e ∙ back b
