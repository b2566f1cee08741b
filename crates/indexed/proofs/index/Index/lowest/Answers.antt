use Rattle.std.proofs.Common.{◌≡◌, ◌<◌, ◌≤◌, length, get_or, w32, rules}
use Rattle.std.proofs.lemmas.Int.{to_z-of_z}
use Rattle.indexed.proofs.Found.{read_same, read_other, read_past}
use Rattle.indexed.proofs.index.Index.lowest.Goals as goal

pub returns-in-Some : goal.returns-in-Some
returns-in-Some c =
    let entry = c.in-Some.entry.now in
    let es = c.deref.result.now in
    let at = c.position-at.result in
    let within : at < length es = search rules in
    let here : entry ≡ get_or es at entry = search rules in
    let same : entry.number ≡ c.args.number = search rules in
    read_same _ _ _ _ _ _ c.deref.ensures.value (to_z-of_z w32 c.args.number c.ranges.number) c.args.self.now.ordered c.position-at.ensures entry within here same

pub returns-in_default : goal.returns-in_default
returns-in_default c =
    let entry = c.in-Some.entry.now in
    let es = c.deref.result.now in
    let at = c.position-at.result in
    let here : entry ≡ get_or es at entry = search rules in
    let other : entry.number ≡ c.args.number → ⊥ = search rules in
    read_other _ _ _ _ _ _ c.deref.ensures.value (to_z-of_z w32 c.args.number c.ranges.number) c.args.self.now.ordered c.position-at.ensures entry here other

pub returns-in_default-2 : goal.returns-in_default-2
returns-in_default-2 c =
    let past : length c.deref.result.now ≤ c.position-at.result = search rules in
    read_past _ _ _ _ _ _ c.deref.ensures.value (to_z-of_z w32 c.args.number c.ranges.number) c.args.self.now.ordered c.position-at.ensures past
