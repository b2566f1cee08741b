-- The changes of a store, outcome by outcome: where one outcome is at hand, the others are ruled out. Assumes nothing.
use Rattle.std.proofs.Common.{◌≡◌, ℕ, ◌<◌, ◌≤◌, true, false, Ok, Err, Result, arith}
use Rattle.std.proofs.lemmas.Bool.{both_ways}
use Rattle.faults.specs.declared.Fault.{Fault}
use Rattle.faults.specs.declared.Refusal.TheVariants.{TableFull, PlaceOutOfRange}
use Rattle.rows.specs.declared.cells.Cells.{Cells}
use Rattle.faults.specs.Faults.{fault}
use Rattle.stores.specs.Tables.{Facet, Table, count, touches}
use Rattle.stores.specs.Changes.{Appended, Replaced, Removed, Add, Put, Remove}

module _ {Same : Type 0} (before after : Table) (given : Facet Cells) {answer : Result (Unit {0}) Fault} where
  pub add_ignored : touches before given.guard ≡ false → answer ≡ Ok tt → Same → Add Same before after given answer
  add_ignored apart told same =
      record {
        ignored = λ _. (told, same);
        full = λ t _. absurd (both_ways (touches before given.guard) apart t);
        added = λ t _. absurd (both_ways (touches before given.guard) apart t);
      }

  pub add_full : touches before given.guard ≡ true → before.capacity ≤ count before → answer ≡ Err (fault TableFull 0) → Same → Add Same before after given answer
  add_full touch full told same =
      record {
        ignored = λ f. absurd (both_ways (touches before given.guard) f touch);
        full = λ _ _. (told, same);
        added = λ _ room. absurd (omega arith);
      }

  pub add_added : touches before given.guard ≡ true → count before < before.capacity → answer ≡ Ok tt → Appended before after given → Add Same before after given answer
  add_added touch room told done =
      record {
        ignored = λ f. absurd (both_ways (touches before given.guard) f touch);
        full = λ _ full. absurd (omega arith);
        added = λ _ _. (told, done);
      }

  module _ (place : ℕ) where
    pub put_outside : count before ≤ place → answer ≡ Err (fault PlaceOutOfRange place) → Same → Put Same before after place given answer
    put_outside past told same =
        record { outside = λ _. (told, same); replaced = λ within _. absurd (omega arith); removed = λ within _. absurd (omega arith) }

    pub put_replaced : place < count before → touches before given.guard ≡ true → answer ≡ Ok tt → Replaced before after place given → Put Same before after place given answer
    put_replaced within touch told done =
        record {
          outside = λ past. absurd (omega arith);
          replaced = λ _ _. (told, done);
          removed = λ _ f. absurd (both_ways (touches before given.guard) f touch);
        }

    -- a row that does not touch the table is put as a removal
    pub put_as_remove : touches before given.guard ≡ false → Remove Same before after place answer → Put Same before after place given answer
    put_as_remove apart done =
        record {
          outside = done.outside;
          replaced = λ _ t. absurd (both_ways (touches before given.guard) apart t);
          removed = λ within _. done.removed within;
        }

module _ {Same : Type 0} (before after : Table) (place : ℕ) {answer : Result (Unit {0}) Fault} where
  pub remove_outside : count before ≤ place → answer ≡ Err (fault PlaceOutOfRange place) → Same → Remove Same before after place answer
  remove_outside past told same = record { outside = λ _. (told, same); removed = λ within. absurd (omega arith) }

  pub remove_removed : place < count before → answer ≡ Ok tt → Removed before after place → Remove Same before after place answer
  remove_removed within told done = record { outside = λ past. absurd (omega arith); removed = λ _. (told, done) }
