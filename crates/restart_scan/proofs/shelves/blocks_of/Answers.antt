-- The numbers, sorted, each once.
use Rattle.std.proofs.Common.{eqb}
use Rattle.std.proofs.lemmas.List.Filters.{dedup_is}
use Rattle.restart_scan.proofs.NumberLemmas.{numbers_are}
use Rattle.restart_scan.proofs.shelves.blocks_of.Goals as goal

pub returns : goal.returns
returns c =
    numbers_are c.args.names.now c.in_ok-numbers.numbers.items c.sort.new.self.items c.dedup.new.self.items c.in_ok-numbers.ensures c.in_ok-sort.ensures.permutation c.in_ok-sort.ensures.sorted
    (dedup_is eqb c.sort.new.self.items c.dedup.new.self.items c.dedup.ensures.filtered)
