-- Each number is one less, and those past 0 stay.
use Rattle.std.proofs.Common.{◌≡◌, ◌-◌, map, filter, nat_lt, length, arith, rules, ap, append-nil, ◌∙◌}
use Rattle.std.proofs.lemmas.Grind.{common_steps}
use Rattle.std.proofs.lemmas.List.{take_all, drop_all, take_at}
use Rattle.std.proofs.lemmas.List.Edits.{map_over_more}
use Rattle.std.proofs.lemmas.List.Elements.{filter_from_retain}
use Rattle.mem_ports.proofs.schedules.count_on.Goals as goal

pub loop-number-preserved : goal.loop-number-preserved
loop-number-preserved c = grind (arith, common_steps, map_over_more (λ n. n - 1))

pub returns : goal.returns
returns c =
    let kept = filter_from_retain _ (nat_lt 0) (λ p x b q k. search rules) _ _ _ c.retain.ensures.filtered in
    let all : c.loop-number.number-items ≡ map (λ n. n - 1) c.args.numbers.now.items = grind (arith, common_steps, take_all, drop_all, append-nil) in
    let whole : length c.loop-number.number-items ≡ c.args.numbers.now.len = omega (arith, ap length all, c.args.numbers.now.ok.0, c.loop-number.auto.number-items, c.deref_mut-number-items.ensures.len) in
    kept ∙ ap (filter (nat_lt 0)) (take_at _ _ _ whole ∙ all)
