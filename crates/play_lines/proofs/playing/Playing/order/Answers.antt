-- The client of the block was given the command.
use Rattle.std.proofs.Common.{◌<◌, ℕ, refl, sym, ap, ◌∙◌, subst}
use Rattle.play_scripts.proofs.PlayNodes.PlaceLaws.{none_so, element_some}
use Rattle.play_opening.specs.PlayDues.Places.{client_place}
use Rattle.play_opening.proofs.PlayDues.UpperLaws.{client_within}
use Rattle.play_lines.proofs.Ordered.{order_so, order_none}
use Rattle.play_lines.proofs.playing.Playing.order.Goals as goal

pub returns-in_default-clause-orders : goal.returns-in_default-clause-orders
returns-in_default-clause-orders g c =
    order_none c.args.block c.args.command c.args.self.now (ap (λ xs. client_place xs c.args.block.0) (sym c.as_slice.ensures.value) ∙ (sym c.client_of.ensures ∙ none_so c.client_of.result c.in_default.not-Some))

pub index-requires : goal.index-requires
index-requires g c =
    let clients = c.args.self.now.player.clients in
    subst (λ (k : ℕ). c.in-Some.place < k) (sym clients.ok.0) (client_within clients.items c.args.block.0 c.in-Some.place (client_place clients.items c.args.block.0) refl (ap (λ xs. client_place xs c.args.block.0) (sym c.as_slice.ensures.value) ∙ sym c.in-Some.ensures))

pub index_mut-requires : goal.index_mut-requires
index_mut-requires g c =
    let clients = c.args.self.now.player.clients in
    subst (λ (k : ℕ). c.in-Some.place < k) (sym clients.ok.0) (client_within clients.items c.args.block.0 c.in-Some.place (client_place clients.items c.args.block.0) refl (ap (λ xs. client_place xs c.args.block.0) (sym c.as_slice.ensures.value) ∙ sym c.in-Some.ensures))

pub returns-clause-orders : goal.returns-clause-orders
returns-clause-orders g c =
    let old = c.args.self.now in
    let clients = old.player.clients in
    let there = ap (λ xs. client_place xs c.args.block.0) (sym c.as_slice.ensures.value) ∙ sym c.in-Some.ensures in
    let within = client_within clients.items c.args.block.0 c.in-Some.place (client_place clients.items c.args.block.0) refl there in
    let was = c.index_mut.result.now in
    order_so c.args.block c.args.command c.in-Some.place old _ was c.index.result.now (record was { queue = c.enqueue.new.queue }) c.enqueue.result there
    (element_some clients.items c.in-Some.place was within c.index_mut.ensures.value) (element_some clients.items c.in-Some.place c.index.result.now within c.index.ensures) refl refl refl c.enqueue.ensures.ok c.enqueue.ensures.err
