-- The oldest dial at the port is taken.
use Rattle.std.proofs.Common.{Some, vec_len, ap, sym, refl, ◌∙◌}
use Rattle.mem_ports.specs.Roads.{waiting_at, dials_below}
use Rattle.mem_ports.proofs.Places.{place_found, nowhere_found}
use Rattle.mem_ports.proofs.DialLaws.{is_at, waiting-first, waiting-nowhere, waiting-remove, below-remove}
use Rattle.mem_ports.proofs.RoadLaws.{plain-parts}
use Rattle.mem_ports.proofs.roads.MemRoadsRoads.accept.Goals as goal

pub returns-in_default-clause-none : goal.returns-in_default-clause-none
returns-in_default-clause-none c = (λ _. waiting-nowhere c.args.self.now.dials.items c.args.port (nowhere_found (is_at c.args.port) c.args.self.now.dials.items c.in_default.ensures.place), λ _. refl)

pub invariant_of-self-2 : goal.invariant_of-self-2
invariant_of-self-2 c = record {
  dials_known = ap (dials_below (vec_len c.args.self.now.duplexes)) c.remove.ensures.items ∙ below-remove (vec_len c.args.self.now.duplexes) c.args.self.now.dials.items c.in-Some.place c.args.self.now.dials_known;
  trace_known = c.args.self.now.trace_known;
}

pub returns-clause-none : goal.returns-clause-none
returns-clause-none c =
    let first = waiting-first c.args.self.now.dials.items c.args.port c.in-Some.place c.index.result.now (place_found (is_at c.args.port) c.args.self.now.dials.items c.in-Some.place c.in-Some.ensures.place) c.index.ensures in
    (λ e. absurd (cc e), λ e. absurd (cc (rw e at first)))

pub returns-clause-number : goal.returns-clause-number
returns-clause-number c =
    waiting-first c.args.self.now.dials.items c.args.port c.in-Some.place c.index.result.now (place_found (is_at c.args.port) c.args.self.now.dials.items c.in-Some.place c.in-Some.ensures.place) c.index.ensures ∙ ap (λ n. Some n.0) (sym c.in-Ok.ensures.id.0)

pub returns-clause-plain : goal.returns-clause-plain
returns-clause-plain c =
    ap Some (plain-parts c.args.self.now.listening c.remove.new.self.items c.args.self.now.duplexes.items _ _ _ (ap waiting_at c.remove.ensures.items ∙ waiting-remove c.args.self.now.dials.items c.args.port c.in-Some.place (place_found (is_at c.args.port) c.args.self.now.dials.items c.in-Some.place c.in-Some.ensures.place)) refl refl)
