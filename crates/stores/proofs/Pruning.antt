-- What a change of the table below comes to in a pruned table. Assumes nothing.
use Rattle.std.proofs.Common.{◌≡◌, ℕ, Bool, true, ◌&&◌, Result, sym, ap, ◌∙◌, subst}
use mathlib.Core.Path.{fun_ext}
use mathlib.Core.Bool.{Bool-set, and_assoc, and_comm}
use mathlib.Core.HLevel.{is_prop→PathP}
use Rattle.std.proofs.lemmas.Bool.{and_parts}
use Rattle.faults.specs.declared.Fault.{Fault}
use Rattle.rows.specs.declared.cells.Cells.{Cells}
use Rattle.labels.specs.Guards.{meet}
use Rattle.words.specs.Bits.{some_choice}
use Rattle.labels.specs.declared.kinds.Guard as Guard
use Rattle.stores.specs.declared.pruned.Pruned.{Pruned}
use Rattle.stores.specs.declared.tables.Store as Store
use Rattle.stores.specs.Changes.{StandsFor, SameMaking, Removed, Add, Put, Remove}
use Rattle.stores.specs.Pruned.{pruned_table, met_with}
use Rattle.stores.specs.Tables.{Facet, Table, AllTouch, touches}

-- a pruned store is as it was if the one below is
pub same_pruned : {S G : Type 0} (store : Store.Ghosts S G) (kind : Guard.Ghosts G) (before after : Pruned S G store kind) → after.guard ≡ before.guard → after.below ≡ before.below → after ≡ before
same_pruned store kind before after guard below =
    λ i. record { below = below i; guard = guard i; touching = is_prop→PathP (λ j. AllTouch (pruned_table (store.table (below j)) (kind.admitted (guard j)))) (λ j. Bool-set _ _) after.touching before.touching i }

-- a guard touches the pruned table exactly if its meet with the pruning guard touches the one below
pub touches_met : (below : Table) (k g : ℕ → Bool) → touches below (meet g k) ≡ touches (pruned_table below k) g
touches_met below k g = ap some_choice (fun_ext (λ c. ap (below.keeps c &&◌) (and_comm (g c) (k c)) ∙ sym (and_assoc (below.keeps c) (k c) (g c))))

module _ (k : ℕ → Bool) (before after : Table) where
  abbrev pruned : Table → Table
  pruned table = pruned_table table k

  making : SameMaking before after → SameMaking (pruned before) (pruned after)
  making same = record { keeps = ap (λ keeps. meet keeps k) same.keeps; capacity = same.capacity }

  stands : (stored given : Facet Cells) → StandsFor before.keeps stored (met_with k given) → StandsFor (pruned before).keeps stored given
  stands stored given same =
      record {
        held = same.held;
        admits =
            λ c kept.
            let parts = and_parts (before.keeps c) (k c) kept in
            same.admits c parts.0 ∙ ap (given.guard c &&◌) parts.1 ∙ and_comm (given.guard c) true;
      }

  pruned_removed : (place : ℕ) → Removed before after place → Removed (pruned before) (pruned after) place
  pruned_removed place done = record { making = making done.making; lower = done.lower; above = done.above }

  module _ {Below Same : Type 0} (same : Below → Same) {answer : Result (Unit {0}) Fault} where
    pub pruned_remove : (place : ℕ) → Remove Below before after place answer → Remove Same (pruned before) (pruned after) place answer
    pruned_remove place change =
        record {
          outside = λ past. ((change.outside past).0, same (change.outside past).1);
          removed = λ within. ((change.removed within).0, pruned_removed place (change.removed within).1);
        }

    module _ (given handed : Facet Cells) (narrowed : handed ≡ met_with k given) where
      pub pruned_add : Add Below before after handed answer → Add Same (pruned before) (pruned after) given answer
      pruned_add told =
          let change = subst (λ row. Add Below before after row answer) narrowed told in
          let met = touches_met before k given.guard in
          record {
            ignored = λ apart. ((change.ignored (met ∙ apart)).0, same (change.ignored (met ∙ apart)).1);
            full = λ touch full. ((change.full (met ∙ touch) full).0, same (change.full (met ∙ touch) full).1);
            added =
                λ touch room.
                let done = (change.added (met ∙ touch) room).1 in
                ((change.added (met ∙ touch) room).0, record { making = making done.making; rows = done.rows; stored = stands _ given done.stored });
          }

      pub pruned_put : (place : ℕ) → Put Below before after place handed answer → Put Same (pruned before) (pruned after) place given answer
      pruned_put place told =
          let change = subst (λ row. Put Below before after place row answer) narrowed told in
          let met = touches_met before k given.guard in
          record {
            outside = λ past. ((change.outside past).0, same (change.outside past).1);
            replaced =
                λ within touch.
                let done = (change.replaced within (met ∙ touch)).1 in
                ((change.replaced within (met ∙ touch)).0, record { making = making done.making; rows = done.rows; stored = stands _ given done.stored });
            removed = λ within apart. ((change.removed within (met ∙ apart)).0, pruned_removed place (change.removed within (met ∙ apart)).1);
          }
