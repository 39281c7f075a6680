-- All ends of the node's connections are cut and brought back.
use Rattle.std.proofs.Common.{◌≡◌, ℕ, true, sym, ap, ◌∙◌, arith}
use Rattle.node_stops.proofs.CutLemmas.{keeps_keep}
use Rattle.node_stops.proofs.EndLemmas.{known_stay}
use Rattle.node_stops.proofs.StandLemmas.{all_known, at_below, keeps_hung, known_at, roads_pass}
use Rattle.node_stops.proofs.StopLemmas.{stop_left, stop_ends}
use Rattle.world_stops.specs.Stopping.{is_among}
use Rattle.node_stops.specs.Connections.{is_at}
use Rattle.node_stops.proofs.stopping.stop_node.Given.{Over}
use Rattle.node_stops.proofs.stopping.stop_node.Goals as goal

-- These are the connections with an end at the node.
listed : (g : Over) (c : goal.After-as_slice-2 g) (conn : ℕ) → is_among c.as_slice-2.result.now conn ≡ is_at c.args.nodes.now.connections.items c.args.node conn
listed g c conn =
    ap (λ l. is_among l conn) c.as_slice-2.ensures.value
    ∙ (c.in_ok-conns.ensures conn ∙ ap (λ l. is_at l c.args.node conn) c.as_slice.ensures.value)

pub cut_all-requires-after_bounds : goal.cut_all-requires-after_bounds
cut_all-requires-after_bounds g c κs within conn among =
    let st = c.requires.stand in
    let at : is_at c.args.nodes.now.connections.items c.args.node conn ≡ true = sym (listed g c conn) ∙ among in
    known_at g.R.Roads g.I.LinkIn g.O.LinkOut c.args.node st.w st.net c.args.roads.now c.args.nodes.now st.stands conn
    (at_below g.R.Roads g.I.LinkIn g.O.LinkOut c.args.node st.w st.net c.args.roads.now c.args.nodes.now st.stands conn at)

pub end_all-requires-after_bounds : goal.end_all-requires-after_bounds
end_all-requires-after_bounds g c κs within =
    let st = c.requires.stand in
    let known = all_known g.R.Roads g.I.LinkIn g.O.LinkOut c.args.node st.w st.net c.args.roads.now c.args.nodes.now st.stands in
    let hung = keeps_hung (g.R.Roads.plain c.cut_all.new.roads) (g.R.Roads.plain c.hang_up.new.self) _ c.hang_up.ensures.plain in
    known_stay (g.R.Roads.plain c.args.roads.now) (g.R.Roads.plain c.hang_up.new.self) c.args.nodes.now (keeps_keep (g.R.Roads.plain c.args.roads.now) (g.R.Roads.plain c.cut_all.new.roads) (g.R.Roads.plain c.hang_up.new.self) c.cut_all.ensures.connections hung) known

pub returns-clause-shows : goal.returns-clause-shows
returns-clause-shows g c = λ w net stands can. stop_ends g.R.Roads g.I.LinkIn g.O.LinkOut c.args.node w net c.args.nodes.now c.end_all.new.nodes c.hang_up.new.self c.end_all.new.roads c.end_all.result c.end_all.ensures.ended (λ ended.
    stop_left g.R.Roads g.I.LinkIn g.O.LinkOut c.args.node c.cuts_are_losses.ensures c.ends_stay_in_cuts.ensures c.stops_are_cuts.ensures w net c.args.nodes.now c.end_all.new.nodes c.args.roads.now c.cut_all.new.roads c.hang_up.new.self c.end_all.new.roads c.as_slice-2.result.now
    stands can (λ conn. ap (λ l. is_among l conn) c.as_slice-2.ensures.value ∙ (c.in_ok-conns.ensures conn ∙ ap (λ l. is_at l c.args.node conn) c.as_slice.ensures.value)) c.in_ok-cut_all.ensures.shows c.hang_up.ensures.plain c.hang_up.ensures.carried ended)

pub returns-clause-pass : goal.returns-clause-pass
returns-clause-pass g c =
    let hung = keeps_hung (g.R.Roads.plain c.cut_all.new.roads) (g.R.Roads.plain c.hang_up.new.self) _ c.hang_up.ensures.plain in
    roads_pass g.R.Roads c.args.roads.now c.end_all.new.roads
    (keeps_keep (g.R.Roads.plain c.args.roads.now) (g.R.Roads.plain c.hang_up.new.self) (g.R.Roads.plain c.end_all.new.roads)
    (keeps_keep (g.R.Roads.plain c.args.roads.now) (g.R.Roads.plain c.cut_all.new.roads) (g.R.Roads.plain c.hang_up.new.self) c.cut_all.ensures.connections hung) c.end_all.ensures.connections)
    (omega (arith, c.cut_all.ensures.faults, c.hang_up.ensures.faults, c.end_all.ensures.faults))
