use Rattle.std.proofs.Common.{◌≡◌, ◌<◌, length, arith, length-take-le, rules}
use Rattle.std.proofs.lemmas.List.{take_more_set}
use Rattle.labels.proofs.paths.Path.append.Goals as goal

pub returns : goal.returns
returns c =
    let p = c.args.self.now in
    let eight : length p.literals ≡ 8 = search rules in
    let below : p.len < 8 = omega (arith, c.requires, length-take-le p.len p.literals (omega (arith, p.short))) in
    take_more_set p.literals p.len c.args.literal (omega arith)
