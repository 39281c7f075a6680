-- The strays are kept.
use Rattle.std.proofs.Common.{◌∙◌, subst, sym, ap, rules}
use Rattle.std.specs.List.Sorted.{IsStrictlyIncreasing}
use Rattle.std.specs.Prelude.{filter}
use Rattle.std.proofs.lemmas.Fn.{filter_same}
use Rattle.restart_scan.specs.Shelves.{is_stray}
use Rattle.restart_scan.proofs.strays.strays_among.Goals as goal

pub returns : goal.returns
returns c = λ up.
    let same = c.in_ok-numbers.ensures in
    let rise : IsStrictlyIncreasing c.in_ok-numbers.numbers.items = subst IsStrictlyIncreasing (sym same) up in
    filter_same _ (is_stray c.in_ok-numbers.numbers.items) _ (λ x b q called. (search rules, search rules)) c.args.names.items c.retain.new.self.items c.retain.ensures.filtered
    ∙ ap (λ l. filter (is_stray l) c.args.names.items) same
