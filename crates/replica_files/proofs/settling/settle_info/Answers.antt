-- What is held stays, or becomes another.
use Rattle.replica_files.proofs.AmidLemmas.{amid_settled, settled_still, settled_none, settled_gone, still_carries, amid_holding, amid_to_settle, amid_carries}
use Rattle.replica_files.proofs.settling.settle_info.Goals as goal

pub returns-then-prior-clause-carried : goal.returns-then-prior-clause-carried
returns-then-prior-clause-carried g c a =
    still_carries g.F.Files c.args.drawer.now c.args.block c.args.prior.now c.args.next c.args.last_sum _ a
    (settled_still a.e c.args.prior.now.is_broken c.args.prior.now.info c.args.next c.if-prior.true
    (amid_settled g.F.Files c.args.drawer.now c.args.block c.args.prior.now c.args.next c.args.last_sum _ a))

pub returns-in_default-clause-carried : goal.returns-in_default-clause-carried
returns-in_default-clause-carried g c a =
    settled_gone a.e c.args.prior.now.is_broken c.args.prior.now.info c.args.next c.in_default.field-0-0 c.in_default.is-0 c.in_default.is-1
    (amid_settled g.F.Files c.args.drawer.now c.args.block c.args.prior.now c.args.next c.args.last_sum _ a)

pub returns-in_default-2-clause-carried : goal.returns-in_default-2-clause-carried
returns-in_default-2-clause-carried g c a =
    still_carries g.F.Files c.args.drawer.now c.args.block c.args.prior.now c.args.next c.args.last_sum _ a
    (settled_none a.e c.args.prior.now.is_broken c.args.prior.now.info c.args.next c.in_default.is-0
    (amid_settled g.F.Files c.args.drawer.now c.args.block c.args.prior.now c.args.next c.args.last_sum _ a))

pub settle_files-requires : goal.settle_files-requires
settle_files-requires g c =
    amid_to_settle g.F.Files c.args.drawer.now c.args.block c.args.prior.now c.args.next c.args.last_sum _ c.requires c.in-Some-Some.held c.in-Some-Some.next c.in-Some-Some.is-0 c.in-Some-Some.is-1
    c.if-prior.false

pub returns-clause-carried : goal.returns-clause-carried
returns-clause-carried g c a =
    let is_before = c.in-Some-Some.is-0 in
    amid_carries g.F.Files c.args.drawer.now c.settle_files.new.drawer c.args.block c.args.prior.now c.args.next c.args.last_sum _ a c.in-Some-Some.held c.in-Some-Some.next c.settle_files.result is_before c.in-Some-Some.is-1
    (c.settle_files.ensures a.r.bytes
    (amid_holding g.F.Files c.args.drawer.now c.args.block c.args.prior.now c.args.next c.args.last_sum _ a c.in-Some-Some.held is_before c.if-prior.false))
