-- The replica is there, and the packet was prepared.
use Rattle.std.proofs.Common.{ℕ, List, sym, subst}
use Rattle.replica_files.specs.Carried.{HoldsGrowing, IsToGrow, GrowsFiles}
use Rattle.replica_files.specs.Packets.{brought_by}
use Rattle.replica_files.proofs.GrowLemmas.{growing_there, growing_ready, growing_fits, growing_holds, growing_to_grow, growing_carries, rest_of}
use Rattle.replica_files.proofs.growing.grow_info.Goals as goal

pub returns-in_default : goal.returns-in_default
returns-in_default g c a =
    growing_there g.F.Files c.args.drawer.now c.args.block c.args.prior.now c.args.packet.now c.args.growth c.args.last_sum _ a c.in_default.is

pub returns-in_default-growth : goal.returns-in_default-growth
returns-in_default-growth g c a =
    growing_ready g.F.Files c.args.drawer.now c.args.block c.args.prior.now c.args.packet.now c.args.growth c.args.last_sum c.in-Some.held _ a c.in-Some.is c.in_default-growth.is

pub grow_files-requires : goal.grow_files-requires
grow_files-requires g c =
    let h = c.in-Some.held in
    let w = c.in-Some-growth.growth in
    let p = c.args.packet.now in
    let fits = growing_fits g.F.Files c.args.drawer.now c.args.block c.args.prior.now p c.args.growth c.args.last_sum h w c.requires c.in-Some.is c.in-Some-growth.is in
    subst (λ (more : List ℕ). IsToGrow g.F.Files c.args.drawer.now c.args.block h more w.sums) (sym (rest_of c.deref.result.now p.body w.from (brought_by h.written p) c.deref.ensures fits.bytes))
    (growing_to_grow g.F.Files c.args.drawer.now c.args.block c.args.prior.now p c.args.growth c.args.last_sum h w c.requires c.in-Some.is c.in-Some-growth.is)

pub returns : goal.returns
returns g c a =
    let h = c.in-Some.held in
    let w = c.in-Some-growth.growth in
    let p = c.args.packet.now in
    let d = c.args.drawer.now in
    let fits = growing_fits g.F.Files d c.args.block c.args.prior.now p c.args.growth c.args.last_sum h w a c.in-Some.is c.in-Some-growth.is in
    let same = rest_of c.deref.result.now p.body w.from (brought_by h.written p) c.deref.ensures fits.bytes in
    growing_carries g.F.Files d c.grow_files.new.drawer c.args.block c.args.prior.now p c.args.growth c.args.last_sum h c.grow_files.result a c.in-Some.is
    (subst (λ (more : List ℕ). GrowsFiles g.F.Files d c.grow_files.new.drawer c.args.block h a.r.bytes more p.sync c.grow_files.result) same
    (c.grow_files.ensures a.r.bytes
    (subst (λ (more : List ℕ). HoldsGrowing (g.F.Files.files d) c.args.block h a.r.bytes more w.sums) (sym same)
    (growing_holds g.F.Files d c.args.block c.args.prior.now p c.args.growth c.args.last_sum h w a c.in-Some.is c.in-Some-growth.is))))
