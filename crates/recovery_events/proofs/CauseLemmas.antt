-- An end whose link failed before its answer was sent is the cause of that fault.
use Rattle.std.proofs.Common.{◌≡◌, ℕ, true, subst}
use Rattle.hd_base.specs.Ends.{has_failed}
use Rattle.hd_base.specs.declared.ends.Conn.{Conn}
use Rattle.hd_base.specs.declared.links.LinkIn as link_in
use Rattle.hd_base.specs.declared.links.LinkOut as link_out
use Rattle.hd_base.specs.declared.roads.Roads as roads
use Rattle.block_recovery.specs.Telling.{LosesLink}
use Rattle.member_events.proofs.CauseLaws.{still_risen, out_failed, one_risen}
use Rattle.recovery_events.specs.declared.faults.RecoveryFault.{RecoveryFault}
use Rattle.recovery_events.specs.declared.faults.RecoveryFault.TheVariants as fault
use Rattle.recovery_events.specs.Ends.{IsBroken}
use Rattle.recovery_events.specs.Faults.{IsCause}

module _ {R I O : Type 0} (r : roads.Ghosts R I O) (i : link_in.Ghosts I) (o : link_out.Ghosts O) where
  pub broken_cause : (c : ℕ) (first road road' : R) (e : Conn I O) (why : RecoveryFault) → e.id.0 ≡ c → has_failed i o e ≡ true → IsBroken r i o e road road' why → IsCause r c first road' why
  broken_cause c first road road' e fault.LinkFailed id failed h = subst (λ (n : ℕ). r.risen road' n ≡ true) id (one_risen r i o e road road' h failed)
  broken_cause c first road road' e fault.Memory id failed h = tt
  broken_cause c first road road' e fault.RoadsFailed id failed h = absurd h

  -- a link that failed before the answer was sent
  pub lost_failed : (before : O) (e : Conn I O) → LosesLink o before e.outward → has_failed i o e ≡ true
  lost_failed before e h = out_failed i o (o.faults before) e (still_risen (o.faults before) (o.faults h.half) (o.faults e.outward) h.fails.rose h.shuts.never_falls)
