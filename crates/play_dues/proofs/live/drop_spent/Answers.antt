-- Those that aren't spent stay.
use Rattle.std.proofs.Common.{◌≡◌, rules, subst}
use Rattle.std.specs.Prelude.{◌&&◌, not, nat_lt}
use Rattle.std.proofs.lemmas.Fn.{filter_same}
use Rattle.play_dues.specs.Live.{TellsLive}
use Rattle.play_dues.specs.Spent.{is_spent}
use Rattle.play_dues.proofs.live.drop_spent.Goals as goal

pub returns : goal.returns
returns g c = λ w net h. filter_same _ (λ x. not (nat_lt x.0 w.next_conn && is_spent w x.0)) _ (λ x b q k.
    let t : TellsLive g.I.LinkIn g.O.LinkOut k.shown.now c.args.nodes.now c.args.clients.now c.args.reads.now c.args.recoveries.now b × (q ≡ (c.args.nodes, c.args.clients, c.args.reads, c.args.recoveries)) = search rules in
    (subst (λ y. b ≡ not (nat_lt y.0 w.next_conn && is_spent w y.0)) k.shows (t.0 w net h), t.1)) _ _ c.retain.ensures.filtered
