-- The sum is read first, and then the files are settled.
use Rattle.std.proofs.Common.{arith}
use Rattle.std.proofs.lemmas.Result.{err_from_is_err_and}
use Rattle.replica_files.proofs.SettleLemmas.{to_settle_ready, settles_unread, settles_failed, settles_made}
use Rattle.replica_files.proofs.settling.settle_files.Goals as goal

pub returns-in_err-sum : goal.returns-in_err-sum
returns-in_err-sum g c bytes holding =
    let failed = err_from_is_err_and c.from_residual.result c.from_residual.ensures.1 in
    rw (failed.1, failed.2)
    (settles_unread g.F.Files c.args.drawer.now c.sum_after.new.drawer c.args.block c.args.held c.args.next bytes _ c.in_err-sum.ensures.kept c.in_err-sum.ensures.cause)

pub settle-requires : goal.settle-requires
settle-requires g c =
    rw (c.of-before.ensures, c.of-after.ensures)
    (to_settle_ready g.F.Files c.args.drawer.now c.sum_after.new.drawer c.args.block c.args.held c.args.next c.args.last_sum _ c.in_ok-sum.sum (omega arith) c.requires
    c.in_ok-sum.ensures.kept (c.in_ok-sum.ensures.value c.requires.bytes c.requires.holding))

pub returns-in_err-settle : goal.returns-in_err-settle
returns-in_err-settle g c bytes holding =
    let failed = err_from_is_err_and c.from_residual-in_err-settle.result c.from_residual-in_err-settle.ensures.1 in
    rw (failed.1, failed.2)
    (settles_failed g.F.Files c.args.drawer.now c.sum_after.new.drawer c.settle.new.files c.args.block c.args.held c.args.next c.args.last_sum _ c.in_ok-sum.sum _ bytes
    (record {
      fits = omega arith;
      stamp = omega arith;
      to_settle = c.requires;
      kept = c.in_ok-sum.ensures.kept;
      below = c.in_ok-sum.ensures.cause.never_falls;
      log = g.met.F.Files.log_makes_files c.args.drawer.now;
      last = c.in_ok-sum.ensures.value;
      performed = rw (c.of-before.ensures, c.of-after.ensures) at c.in_err-settle.ensures;
    }) holding)

pub returns : goal.returns
returns g c bytes holding =
    settles_made g.F.Files c.args.drawer.now c.sum_after.new.drawer c.settle.new.files c.args.block c.args.held c.args.next c.args.last_sum _ c.in_ok-sum.sum _ bytes
    (record {
      fits = omega arith;
      stamp = omega arith;
      to_settle = c.requires;
      kept = c.in_ok-sum.ensures.kept;
      below = c.in_ok-sum.ensures.cause.never_falls;
      log = g.met.F.Files.log_makes_files c.args.drawer.now;
      last = c.in_ok-sum.ensures.value;
      performed = rw (c.of-before.ensures, c.of-after.ensures) at c.in_ok-settle.ensures;
    }) holding
