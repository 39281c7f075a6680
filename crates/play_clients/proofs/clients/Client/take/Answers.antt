-- The first command was given to the writer, which did something alone then.
use Rattle.std.proofs.Common.{rules, Some, Ok, sym, ap, refl}
use Rattle.play_clients.specs.Owning.{taken_of}
use Rattle.play_clients.proofs.CourseLaws.{popped_first}
use Rattle.play_clients.proofs.PartLaws.{takes_so}
use Rattle.play_clients.proofs.clients.Client.take.Goals as goal

pub returns-in_err-act-clause-takes : goal.returns-in_err-act-clause-takes
returns-in_err-act-clause-takes g c =
    let x = c.args.self.now in
    takes_so g.R.Roads g.I.LinkIn g.O.LinkOut x (record x { queue = c.pop_front.new.self }) c.give.new.self c.act.new.self c.in-Some.taken c.args.roads.now c.act.new.roads c.act.result c.from_residual-in_err-act.result refl
    (popped_first x.queue.items c.pop_front.new.self.items c.in-Some.taken c.in-Some.ensures.items) c.pop_front.ensures.rest c.in_ok-give.ensures c.act.ensures.acts (search rules)

pub returns-clause-takes : goal.returns-clause-takes
returns-clause-takes g c =
    let x = c.args.self.now in
    takes_so g.R.Roads g.I.LinkIn g.O.LinkOut x (record x { queue = c.pop_front.new.self }) c.give.new.self c.act.new.self c.in-Some.taken c.args.roads.now c.act.new.roads c.act.result (Ok (Some c.in-Some.taken)) refl
    (popped_first x.queue.items c.pop_front.new.self.items c.in-Some.taken c.in-Some.ensures.items) c.pop_front.ensures.rest c.in_ok-give.ensures c.act.ensures.acts (sym (ap (taken_of c.in-Some.taken) c.in_ok-act.was))
