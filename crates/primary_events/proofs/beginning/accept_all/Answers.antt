-- One dial more was accepted, or wasn't.
use Rattle.std.proofs.Common.{ℕ, ◌<◌, ◌++◌, ◌∷◌, [], length, Option, None, sym, subst, arith}
use Rattle.std.proofs.lemmas.List.Elements.{All-same}
use Rattle.std.proofs.lemmas.Option.{slice_get-get_or}
use Rattle.block_recovery.proofs.ActionLaws.{passes_more}
use Rattle.client_events.proofs.MemberEvents.SetupKnown.{pass_on}
use Rattle.primary_events.specs.Beginning.{AcceptsIf, AcceptFails, LowerIsKnown, TakesLower}
use Rattle.primary_events.proofs.BeginPassLaws.{lowers_stay}
use Rattle.primary_events.proofs.beginning.accept_all.Goals as goal

pub loop-place-preserved : goal.loop-place-preserved
loop-place-preserved g c =
    let n = c.loop-place.place in
    let within : n < length c.args.ports.now = omega (arith, c.loop-place-test.true) in
    record {
      taken = passes_more (TakesLower g.R.Roads g.R.Inward.LinkIn g.R.Outward.LinkOut c.args.ports.now) n (record { lowers = []; road = c.args.roads.now }) (record { lowers = c.loop-place.lowers.items; road = c.loop-place.roads })
          (record { lowers = c.push.new.self.items; road = c.accept_at.new.roads }) c.loop-place.invariant.taken (record {
            lower = c.in-Ok.lower;
            more = c.in-Ok-push.ensures.items;
            accepts = subst (λ (q : Option (Option ℕ)). AcceptsIf g.R.Roads g.R.Inward.LinkIn g.R.Outward.LinkOut q c.loop-place.roads c.accept_at.new.roads c.in-Ok.lower) (sym {A = Option (Option ℕ)} (slice_get-get_or c.args.ports.now n None within)) c.in-Ok.ensures.accepts;
            pass = c.accept_at.ensures.pass;
          });
      within = omega arith;
      pass = pass_on g.R.Roads g.R.Inward.LinkIn g.R.Outward.LinkOut c.args.roads.now c.loop-place.roads c.accept_at.new.roads c.loop-place.invariant.pass c.accept_at.ensures.pass;
      known = All-same (LowerIsKnown (g.R.Roads.plain c.accept_at.new.roads)) c.push.new.self.items (c.loop-place.lowers.items ++ c.in-Ok.lower ∷ []) c.in-Ok-push.ensures.items
          (lowers_stay g.R.Roads g.R.Inward.LinkIn g.R.Outward.LinkOut c.loop-place.lowers.items c.in-Ok.lower c.loop-place.roads c.accept_at.new.roads c.accept_at.ensures.pass c.loop-place.invariant.known c.in-Ok.ensures.known);
    }

pub returns-in-Err-clause-accepts : goal.returns-in-Err-clause-accepts
returns-in-Err-clause-accepts g c =
    let n = c.loop-place.place in
    let within : n < length c.args.ports.now = omega (arith, c.loop-place-test.true) in
    record {
      count = n;
      middle = record { lowers = c.loop-place.lowers.items; road = c.loop-place.roads };
      passes = c.loop-place.invariant.taken;
      fails = subst (λ (q : Option (Option ℕ)). AcceptFails g.R.Roads q c.loop-place.roads c.accept_at.new.roads c.in-Err.why) (sym {A = Option (Option ℕ)} (slice_get-get_or c.args.ports.now n None within)) c.in-Err.ensures.accepts;
    }

pub returns-in-Err-clause-pass : goal.returns-in-Err-clause-pass
returns-in-Err-clause-pass g c =
    pass_on g.R.Roads g.R.Inward.LinkIn g.R.Outward.LinkOut c.args.roads.now c.loop-place.roads c.accept_at.new.roads c.loop-place.invariant.pass c.accept_at.ensures.pass

pub returns-in-Err-push-clause-accepts : goal.returns-in-Err-push-clause-accepts
returns-in-Err-push-clause-accepts g c = record {
  count = c.loop-place.place;
  middle = record { lowers = c.loop-place.lowers.items; road = c.loop-place.roads };
  passes = c.loop-place.invariant.taken;
  fails = tt;
}

pub returns-in-Err-push-clause-pass : goal.returns-in-Err-push-clause-pass
returns-in-Err-push-clause-pass g c =
    pass_on g.R.Roads g.R.Inward.LinkIn g.R.Outward.LinkOut c.args.roads.now c.loop-place.roads c.accept_at.new.roads c.loop-place.invariant.pass c.accept_at.ensures.pass
