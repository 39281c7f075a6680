-- One more piece was written behind those before it.
use Rattle.std.proofs.Common.{◌≡◌, ◌-◌, ◌<◌, ◌∙◌, length, drop, take, arith}
use Rattle.std.proofs.lemmas.Grind.{common_steps}
use Rattle.whole_streams.proofs.StreamLaws.{wrote_more, follows_still, follows_on}
use Rattle.whole_streams.proofs.streams.write_all.Goals as goal

pub writes-preserved : goal.writes-preserved
writes-preserved g c =
    let rest = take (length c.args.text.now - c.writes.at) (drop c.writes.at c.args.text.now) in
    let whole : rest ≡ drop c.writes.at c.args.text.now = grind (arith, common_steps) in
    let small : length rest < g.O.Sink.room c.writes.sink = grind (arith, common_steps) in
    let schedule = c.write.ensures.schedule small in
    record {
      within = grind (arith, common_steps);
      wrote = wrote_more _ _ _ c.args.text.now rest c.writes.at c.in-Ok.count whole c.writes.invariant.wrote c.in-Ok.ensures.wrote;
      room = omega (arith, c.in-Ok.ensures.room, c.writes.invariant.room);
      never_falls = omega (arith, c.in-Ok.ensures.cause.never_falls, c.writes.invariant.never_falls);
      still = λ none. follows_still _ _ _ _ _ schedule (c.writes.invariant.goes_on none) ∙ c.writes.invariant.still none;
      goes_on = λ none. follows_on _ _ _ _ _ schedule (c.writes.invariant.goes_on none);
    }
