-- One piece after another is looked at.
use Rattle.std.proofs.Common.{arith, rules, subst}
use Rattle.restart_scan.specs.Kept.{ReachesOn}
use Rattle.restart_scan.proofs.PieceLemmas.{room_stays, matches_next, ends_kept, whole_kept}
use Rattle.restart_scan.proofs.pieces.reach_all.Goals as goal

pub returns-then-not-next-clause-value : goal.returns-then-not-next-clause-value
returns-then-not-next-clause-value g c =
    let on : ReachesOn (g.F.Files.files c.args.drawer.now) c.args.names.now c.args.rule c.args.len c.pieces.kept c.in_ok-next.next =
    subst (λ f. ReachesOn f c.args.names.now c.args.rule c.args.len c.pieces.kept c.in_ok-next.next) c.pieces.invariant.kept.same c.in_ok-next.ensures.value in
    ends_kept (g.F.Files.files c.args.drawer.now) c.args.names.now c.args.rule c.args.len c.pieces.kept c.in_ok-next.next c.requires.has c.pieces.invariant.so_far on (search rules)

pub pieces-preserved : goal.pieces-preserved
pieces-preserved g c =
    let on : ReachesOn (g.F.Files.files c.args.drawer.now) c.args.names.now c.args.rule c.args.len c.pieces.kept c.in_ok-next.next =
    subst (λ f. ReachesOn f c.args.names.now c.args.rule c.args.len c.pieces.kept c.in_ok-next.next) c.pieces.invariant.kept.same c.in_ok-next.ensures.value in
    record {
      within = on.within;
      room = room_stays c.args.rule c.pieces.buffer c.pieces.sums c.reach_piece.new.buffer c.reach_piece.new.sums c.pieces.invariant.room c.reach_piece.auto.buffer c.reach_piece.auto.sums;
      so_far = matches_next (g.F.Files.files c.args.drawer.now) c.args.names.now c.args.rule c.args.len c.pieces.kept c.in_ok-next.next c.pieces.invariant.so_far on (search rules);
      kept = search rules;
      never_falls = omega (arith, c.pieces.invariant.never_falls, c.reach_piece.ensures.cause.never_falls);
    }

pub returns-clause-value : goal.returns-clause-value
returns-clause-value g c =
    whole_kept (g.F.Files.files c.args.drawer.now) c.args.names.now c.args.rule c.args.len c.pieces.kept c.requires.has c.pieces.invariant.so_far c.pieces.invariant.within c.pieces-test.false
