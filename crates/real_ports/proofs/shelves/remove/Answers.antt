use Rattle.std.proofs.Common.{◌∙◌, ◌==◌, not, rules, ap}
use Rattle.std.proofs.lemmas.Fn.{filter_same}
use Rattle.real_ports.specs.Lent.{lent_of}
use Rattle.real_ports.proofs.LentLemmas.{lent_of-without}
use Rattle.real_ports.proofs.shelves.remove.Goals as goal

pub returns : goal.returns
returns c =
    let is = filter_same _ (λ x. not (x.0 == c.args.block.0)) _ (λ x b q k. search rules) _ _ c.retain.ensures.filtered in
    ap lent_of is ∙ (λ i b. lent_of-without c.args.lent.now.items c.args.block.0 b i)
