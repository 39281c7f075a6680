-- The book of what was found, or the drawer again.
use Rattle.std.proofs.Common.{◌≡◌, ◌⊎◌, sym, subst}
use Rattle.hd_base.specs.declared.states.ReplicaState.{ReplicaState}
use Rattle.hd_base.specs.declared.states.ReplicaState.TheVariants as state
use Rattle.replica_files.specs.Finding.{HoldsFound, IsFound}
use Rattle.node_restarts.proofs.MakingLemmas.{settled_is, holds_settled, found_for, found_back}
use Rattle.node_restarts.proofs.making.found_book.Goals as goal

pub found-requires-clause-settled : goal.found-requires-clause-settled
found-requires-clause-settled g c =
    subst (λ (q : ReplicaState). (q ≡ state.Finalized) ⊎ (q ≡ state.Rwr)) (sym c.settled-state.ensures) (settled_is c.args.seen.state)

pub found-requires-clause-held : goal.found-requires-clause-held
found-requires-clause-held g c =
    subst (λ (q : ReplicaState). HoldsFound (g.F.Files.files c.args.drawer) c.args.block q c.args.seen.stamp c.args.seen.sums) (sym c.settled-state.ensures)
    (holds_settled (g.F.Files.files c.args.drawer) c.args.block c.args.seen c.requires)

pub returns-in-Ok-clause-made : goal.returns-in-Ok-clause-made
returns-in-Ok-clause-made g c =
    found_for g.F.Files c.args.block c.args.seen c.args.drawer c.in-Ok.book c.requires
    (subst (λ (q : ReplicaState). IsFound g.F.Files c.in-Ok.book c.args.block q c.args.seen.stamp c.args.seen.sums c.args.drawer) c.settled-state.ensures c.in-Ok.ensures.made)

pub returns-in-Err-clause-given_back : goal.returns-in-Err-clause-given_back
returns-in-Err-clause-given_back g c =
    found_back g.F.Files c.args.drawer c.in-Err.drawer c.in-Err.fault c.of_found.result c.in-Err.ensures.given_back c.of_found.ensures
