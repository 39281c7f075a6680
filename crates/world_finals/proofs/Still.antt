-- Events that change marks, lives and replicas alone.
use Rattle.std.proofs.Common.{◌≡◌, ℕ, ◌<◌, Bool, true, false, List, [], length, slice_get, Some, None, IfSome, refl, sym, ◌∙◌, ap, subst}
use Rattle.std.specs.Prelude.{◌==◌, if◌then◌else◌}
use Rattle.hd_base.specs.declared.numbers.Stamp.{Stamp}
use Rattle.name_core.specs.Offices.{OfficeState}
use Rattle.replica_model.specs.Rows.{FullReplica}
use Rattle.world.specs.declared.events.Direction.{Direction}
use Rattle.world.specs.declared.events.Direction.TheVariants as direction
use Rattle.world.specs.declared.events.FoundReplica.{FoundReplica}
use Rattle.world.specs.Parts.{Writing, Primary}
use Rattle.world.specs.Worlds.{Past, World}
use Rattle.world.specs.Connections.{Next, down_taken, up_taken}
use Rattle.world.specs.Restarts.{found_in, restarted, restart}
use Rattle.world.specs.Events.{lost, stop}
use Rattle.world_laws.specs.Growing.{Grows}
use Rattle.world_laws.proofs.GrowthLaws.{run-grows}
use Rattle.world_laws.proofs.FactTables.{some-weaker}
use Rattle.world_laws.specs.Filling.{IsBreak}
use Rattle.world_laws.specs.Stamping.{Givens, heard}
use Rattle.world_laws.proofs.ByteLeaves.{Facts}
use Rattle.world_recoveries.specs.Recovering.{HasId}
use Rattle.world_finals.specs.Finishing.{Ids, Sealed, AcksFrom, LeadSent, ReplicaEnds, BreakEnds, SetsNoId, WriterEnds, Finals}
use Rattle.world_finals.proofs.Frame.{Stays, replica-stays, break-stays, entries-stay, session-stays, acks-stays, down-below, down-stays}
use Rattle.world_finals.proofs.Restarting.{restarted-ends}

-- worlds with the same past, office, sessions, writers and primaries
pub record SameLeads (w v : World) : Type 0 where
  pub past : v.past ≡ w.past
  pub office : v.office ≡ w.office
  pub latest : v.latest ≡ w.latest
  pub writers : v.writers ≡ w.writers
  pub primaries : v.primaries ≡ w.primaries

same-stays : (f : Ids) (g : Givens) (w v : World) → Finals f g w → Facts g w → SameLeads w v → Stays f g w f g v
same-stays f g w v h a s = record {
  same = λ b t d x. x;
  back = λ b t u d e x _ _. x;
  ids = λ t _. refl;
  below = h.below;
  given_below = a.recorded.below;
  past = subst (λ (p : Past). Grows w.past p) (sym s.past) (run-grows w []);
  ends = λ b t n x. record {
    session = x.session;
    given = x.given;
    shut = subst (λ (ws : ℕ → Writing). Sealed (v.latest b) (heard (ws b)) x.session) (sym s.writers) (subst (λ (l : ℕ → ℕ). Sealed (l b) (heard (w.writers b)) x.session) (sym s.latest) x.shut);
    length = x.length ∙ ap (λ (p : Past). length (p.written x.session)) (sym s.past);
  };
}

pub same-finals : (f : Ids) (g : Givens) (w v : World) → Finals f g w → Facts g w → SameLeads w v → ((n b : ℕ) → ReplicaEnds f g w b (v.replicas n b)) → ((n b : ℕ) → IfSome (v.breaks n b) (BreakEnds f g w b)) → Finals f g v
same-finals f g w v h a s r k =
    let y = same-stays f g w v h a s in
    record {
      earlier = h.earlier;
      entries = entries-stay f g w f g v v.office y s.office h.entries;
      sessions = λ b i q. session-stays f g w f g v b i y h q;
      acks = λ b. subst (λ (ws : ℕ → Writing). AcksFrom f g v b (v.latest b) (heard (ws b))) (sym s.writers) (subst (λ (l : ℕ → ℕ). AcksFrom f g v b (l b) (heard (w.writers b))) (sym s.latest) (acks-stays f g w f g v b (w.latest b) (heard (w.writers b)) y (h.acks b)));
      sends = subst (λ (p : Past). (i : ℕ) → LeadSent p (v.primaries i)) (sym s.past) (subst (λ (ps : ℕ → Primary). (i : ℕ) → LeadSent w.past (ps i)) (sym s.primaries) h.sends);
      below = λ t e. subst (λ (o : OfficeState). t < o.next.0) (sym s.office) (h.below t e);
      downs = λ c i m e.
          let x = subst (λ (p : Past). slice_get (p.downs c) i ≡ Some m) s.past e in
          down-stays f g w f g v c m y (down-below g w c m a.recorded (a.carried.downs c i m x)) (h.downs c i m x);
      replicas = λ n b. replica-stays f g w f g v b (v.replicas n b) y (r n b);
      breaks = λ n b. some-weaker (BreakEnds f g w b) (BreakEnds f g v b) (v.breaks n b) (λ x z. break-stays f g w f g v b x y z) (k n b);
      writers = subst (λ (ws : ℕ → Writing). (b : ℕ) → WriterEnds (heard (ws b))) (sym s.writers) h.writers;
      stamps = subst (λ (ws : ℕ → Writing). (b : ℕ) → SetsNoId f (heard (ws b)).phase) (sym s.writers) h.stamps;
      primaries = subst (λ (ps : ℕ → Primary). (i : ℕ) (id : Stamp) → HasId (ps i) id → f id.0 ≡ true) (sym s.primaries) h.primaries;
    }

pub down-taken-final : (f : Ids) (g : Givens) (w : World) (c : ℕ) (x : Next) → Finals f g w → Facts g w → Finals f g (down_taken w c x)
unfolding down_taken
down-taken-final f g w c x h a = same-finals f g w (down_taken w c x) h a (record { past = refl; office = refl; latest = refl; writers = refl; primaries = refl }) h.replicas h.breaks

pub up-taken-final : (f : Ids) (g : Givens) (w : World) (c : ℕ) (x : Next) → Finals f g w → Facts g w → Finals f g (up_taken w c x)
unfolding up_taken
up-taken-final f g w c x h a = same-finals f g w (up_taken w c x) h a (record { past = refl; office = refl; latest = refl; writers = refl; primaries = refl }) h.replicas h.breaks

pub stop-final : (f : Ids) (g : Givens) (w : World) (n : ℕ) → Finals f g w → Facts g w → Finals f g (stop w n)
stop-final f g w n h a = same-finals f g w (stop w n) h a (record { past = refl; office = refl; latest = refl; writers = refl; primaries = refl }) h.replicas h.breaks

pub lost-final : (f : Ids) (g : Givens) (w : World) (c : ℕ) (way : Direction) (more : ℕ) → Finals f g w → Facts g w → Finals f g (lost w c way more)
lost-final f g w c direction.Down more h a = same-finals f g w (lost w c direction.Down more) h a (record { past = refl; office = refl; latest = refl; writers = refl; primaries = refl }) h.replicas h.breaks
lost-final f g w c direction.Up more h a = same-finals f g w (lost w c direction.Up more) h a (record { past = refl; office = refl; latest = refl; writers = refl; primaries = refl }) h.replicas h.breaks

pub restart-final : (f : Ids) (g : Givens) (w : World) (n : ℕ) (list : List FoundReplica) → Finals f g w → Facts g w → ((m b : ℕ) → IfSome (w.breaks m b) IsBreak) → Finals f g (restart w n list)
unfolding restart
restart-final f g w n list h a i =
    same-finals f g w (restart w n list) h a (record { past = refl; office = refl; latest = refl; writers = refl; primaries = refl }) (λ m b. at m b (m == n) refl) (λ m b. broke m b (m == n) refl)
  where
    New : ℕ → FullReplica
    New b = restarted b (w.replicas n b) (w.breaks n b) (found_in list b)

    at : (m b : ℕ) (t : Bool) → (m == n) ≡ t → ReplicaEnds f g w b ((if t then New else w.replicas m) b)
    at m b true e = restarted-ends f g w n b (found_in list b) h (a.full n b) (i n b)
    at m b false e = h.replicas m b

    broke : (m b : ℕ) (t : Bool) → (m == n) ≡ t → IfSome ((if t then (λ (c : ℕ). None) else w.breaks m) b) (BreakEnds f g w b)
    broke m b true e = tt
    broke m b false e = h.breaks m b
