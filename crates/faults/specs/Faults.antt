-- What each refusal is: the number that users see, and the layer that tells it. Assumes nothing.
use Rattle.std.specs.Prelude.{ℕ, Bool, cond, not, List, ◌++◌, codes, Some, None, Ok, Err, Option, Result, decimal}
use Rattle.std.specs.List.{position}
use Rattle.std.specs.Option.{option_map}
use Rattle.faults.specs.declared.Fault.{Fault}
use Rattle.faults.specs.declared.Layer.{Layer}
use Rattle.faults.specs.declared.Layer.TheVariants.{Text, Statement, Store}
use Rattle.faults.specs.declared.Refusal.{Refusal}
use Rattle.faults.specs.declared.Refusal.TheVariants.{
  WordNotAllowed,
  NotANumber,
  WordsLeftOver,
  LineTooLong,
  LimitExceeded,
  FormOutOfPlace,
  UnknownColumn,
  UnknownLabel,
  CountOutOfLimits,
  TestOutOfForm,
  TableFull,
  AnswerFull,
  SheetFull,
  PartnersFull,
  ViewerOutOfRange,
  DayOutOfRange,
  ChoiceNotKept,
  PlaceOutOfRange,
  StoreNotEmpty,
}

-- a refusal's number and layer
pub record Code : Type 0 where
  pub number : ℕ
  pub layer : Layer

-- a number with its layer
abbrev coded : ℕ → Layer → Code
coded n l = record { number = n; layer = l }

-- the table of refusals
abbrev pub code : Refusal → Code
code WordNotAllowed = coded 11 Text
code NotANumber = coded 12 Text
code WordsLeftOver = coded 13 Text
code LineTooLong = coded 14 Text
code LimitExceeded = coded 15 Text
code FormOutOfPlace = coded 16 Text
code UnknownColumn = coded 21 Statement
code UnknownLabel = coded 22 Statement
code CountOutOfLimits = coded 23 Statement
code TestOutOfForm = coded 24 Statement
code TableFull = coded 31 Store
code AnswerFull = coded 32 Store
code SheetFull = coded 33 Store
code PartnersFull = coded 34 Store
code ViewerOutOfRange = coded 41 Statement
code DayOutOfRange = coded 42 Statement
code ChoiceNotKept = coded 43 Statement
code PlaceOutOfRange = coded 51 Store
code StoreNotEmpty = coded 52 Store

-- a refusal told outside a script: line 0
abbrev pub fault : Refusal → ℕ → Fault
fault refusal place = record { refusal = refusal; line = 0; place = place }

-- a fault in words, without its line
abbrev pub fault_text : Fault → List ℕ
fault_text f = codes "refusal " ++ (decimal (code f.refusal).number ++ (codes " at place " ++ decimal f.place))

-- nothing is told where the test passes, else the refusal at the place
abbrev pub unless : Bool → Refusal → ℕ → Option Fault
unless ok refusal place = cond ok None (Some (fault refusal place))

-- the refusal at the place of the first element that does not pass
abbrev pub first_not : {X : Type 0} → (X → Bool) → Refusal → List X → Option Fault
first_not ok refusal xs = option_map (fault refusal) (position (λ x. not (ok x)) xs)

-- the first that is told
abbrev pub first_told : Option Fault → Option Fault → Option Fault
first_told (Some told) later = Some told
first_told None later = later

-- a call answers what is told
abbrev pub answered : Option Fault → Result (Unit {0}) Fault
answered None = Ok tt
answered (Some told) = Err told
