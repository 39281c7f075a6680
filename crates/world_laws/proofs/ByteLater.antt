-- What was said of a past is said of a later one.
use Rattle.std.proofs.Common.{◌≡◌, ℕ, ◌<◌, ◌≤◌, ◌⊎◌, inl, inr, List, slice_get, Option, Some, None, Ok, Err, sym, ◌∙◌, subst, arith}
use Rattle.hd_base.specs.declared.numbers.Stamp.{Stamp}
use Rattle.name_core.specs.declared.calls.OfficeAnswer.TheVariants as office
use Rattle.world.specs.OpHeaders.Op.TheVariants as op
use Rattle.world.specs.OpHeaders.Values.{WriteFields}
use Rattle.world.specs.PacketCodec.Packet.{Packet}
use Rattle.replica_core.specs.declared.info.ReplicaInfo.{ReplicaInfo}
use Rattle.world.specs.ReplicaModel.Rows.{FullReplica, row}
use Rattle.world.specs.ReplicaModel.Found.{IsFront}
use Rattle.world.specs.MemberCore.SetupKind.{SetupKind}
use Rattle.world.specs.MemberCore.SetupKind.TheVariants as kind
use Rattle.world.specs.MemberCore.Requests.{setup_with}
use Rattle.world.specs.RecoveryCore.Phase.{Phase as LeadPhase}
use Rattle.world.specs.RecoveryCore.Phase.TheVariants as lead_phase
use Rattle.world.specs.RecoveryCore.Standing.{Standing}
use Rattle.world.specs.RecoveryCore.Standing.TheVariants as standing
use Rattle.world.specs.Parts.{Message, request, packet, ack, response, read_status, recovery_answer, Lower, idle, writes, serves, recovers, ended_below, Told, Primary, no_primary, was_told, leads, has_led, Break}
use Rattle.world.specs.Worlds.{Past}
use Rattle.world_laws.proofs.FactTables.{some-weaker}
use Rattle.world_laws.specs.Stamping.{Givens}
use Rattle.world_laws.specs.Carrying.{new_stamp, Sets, Shares, Passing, WriteSays, Recovers, IsRecovery, LiesIn, PacketSays, DownSays, InfoSays, UpSays, Under, Holds, SetFor, ReplicaSays, Both, BreakSays, LowerSays, StandingSays, PhaseSays, ToldSays, PrimarySays, LedBy}
use Rattle.world_laws.proofs.Fronts.{front-refl, front-trans, front-length, front-takes, piece-front}

-- A later past: stamps that were given stay, and later ones are above them; what was sent and written stays; and a session that gets bytes has all
-- stamps of its block from its first on.
pub record Later (g k : Givens) (h p : Past) : Type 0 where
  pub before : (b t e : ℕ) → g b t ≡ Some e → e ≤ t
  pub given : (b t e : ℕ) → g b t ≡ Some e → k b t ≡ Some e
  pub old : (b c t u s e : ℕ) → k b t ≡ Some s → g c u ≡ Some e → t ≤ u → g b t ≡ Some s
  pub first : (c : ℕ) (m : Message) → slice_get (h.downs c) 0 ≡ Some m → slice_get (p.downs c) 0 ≡ Some m
  pub written : (e : ℕ) → IsFront (h.written e) (p.written e)
  pub whole : (b t s : ℕ) → g b t ≡ Some s → (p.written s ≡ h.written s) ⊎ ((u e : ℕ) → g b u ≡ Some e → s ≤ u → e ≡ s)

pub sets-later : (g k : Givens) (h p : Past) (c : ℕ) (t : Stamp) → Later g k h p → Sets h c t → Sets p c t
sets-later g k h p c t l s = record { fields = s.fields; first = l.first c (request (op.Write s.fields)) s.first; is = s.is }

shares-later : (g k : Givens) (h p : Past) (s e n : ℕ) → Later g k h p → Shares h s e n → Shares p s e n
shares-later g k h p s e n l x = record {
  same = sym (front-takes n (h.written s) (p.written s) (l.written s) x.within) ∙ x.same ∙ front-takes n (h.written e) (p.written e) (l.written e) x.inside;
  within = omega (arith, x.within, front-length (h.written s) (p.written s) (l.written s));
  inside = omega (arith, x.inside, front-length (h.written e) (p.written e) (l.written e));
}

either-later : (g k : Givens) (h p : Past) (s e n : ℕ) → Later g k h p → ((s ≡ e) ⊎ Shares h s e n) → (s ≡ e) ⊎ Shares p s e n
either-later g k h p s e n l (inl q) = inl q
either-later g k h p s e n l (inr x) = inr (shares-later g k h p s e n l x)

pub passing-later : (g k : Givens) (h p : Past) (o : Option SetupKind) (s e n : ℕ) → Later g k h p → Passing o h s e n → Passing o p s e n
passing-later g k h p None s e n l x = tt
passing-later g k h p (Some kind.Create) s e n l x = tt
passing-later g k h p (Some kind.Append) s e n l x = either-later g k h p s e n l x
passing-later g k h p (Some kind.AppendRecovery) s e n l x = either-later g k h p s e n l x
passing-later g k h p (Some kind.StreamRecovery) s e n l x = x
passing-later g k h p (Some kind.CloseRecovery) s e n l x = either-later g k h p s e n l x

write-later : (g k : Givens) (h p : Past) (c : ℕ) (f : WriteFields) → Later g k h p → WriteSays g h c f → WriteSays k p c f
write-later g k h p c f l x = record {
  first = l.first c (request (op.Write f)) x.first;
  session = x.session;
  given = l.given f.block.block.0 (new_stamp f).0 x.session x.given;
  passes = λ t e q low high.
      passing-later g k h p (setup_with f.stage) e x.session f.min l (x.passes t e (l.old f.block.block.0 f.block.block.0 t (new_stamp f).0 e x.session q x.given high) low high);
}

pub recovers-later : (g k : Givens) (h p : Past) (c : ℕ) (id : Stamp) → Later g k h p → Recovers h c id → Recovers p c id
recovers-later g k h p c id l x = record { asked = x.asked; first = l.first c (request (op.Recovery x.asked)) x.first; is = x.is }

pub recovery-later : (g k : Givens) (h p : Past) (b : ℕ) (named id : Stamp) → Later g k h p → IsRecovery g h b named id → IsRecovery k p b named id
recovery-later g k h p b named id l x = record {
  session = x.session;
  given = l.given b id.0 x.session x.given;
  fronts = λ t e q low high. at t e (l.old b b t id.0 e x.session q x.given (omega (arith, high))) low high;
}
  where
    at : (t e : ℕ) → g b t ≡ Some e → named.0 ≤ t → t < id.0 → IsFront (p.written e) (p.written x.session)
    at t e q low high = go (l.whole b t e q)
      where
        go : ((p.written e ≡ h.written e) ⊎ ((u s : ℕ) → g b u ≡ Some s → e ≤ u → s ≡ e)) → IsFront (p.written e) (p.written x.session)
        go (inl same) = subst (λ (v : List ℕ). IsFront v (p.written x.session)) (sym same) (front-trans (h.written e) (h.written x.session) (p.written x.session) (x.fronts t e q low high) (l.written x.session))
        go (inr all) = subst (λ (s : ℕ). IsFront (p.written e) (p.written s)) (sym (all id.0 x.session x.given (omega (arith, l.before b t e q, high)))) (front-refl (p.written e))

pub lies-later : (g k : Givens) (h p : Past) (t : Stamp) (n : ℕ) → Later g k h p → LiesIn g h t n → LiesIn k p t n
lies-later g k h p t n l x = record {
  block = x.block;
  session = x.session;
  given = l.given x.block t.0 x.session x.given;
  within = omega (arith, x.within, front-length (h.written x.session) (p.written x.session) (l.written x.session));
}

packet-later : (g k : Givens) (h p : Past) (c : ℕ) (q : Packet) → Later g k h p → PacketSays g h c q → PacketSays k p c q
packet-later g k h p c q l x = record {
  stamp = x.stamp;
  sets = sets-later g k h p c x.stamp l x.sets;
  block = x.block;
  session = x.session;
  given = l.given x.block x.stamp.0 x.session x.given;
  piece = piece-front (h.written x.session) (p.written x.session) q (l.written x.session) x.piece;
}

pub down-later : (g k : Givens) (h p : Past) (c : ℕ) (m : Message) → Later g k h p → DownSays g h c m → DownSays k p c m
down-later g k h p c (request (op.Write f)) l x = write-later g k h p c f l x
down-later g k h p c (request (op.Read r)) l x = tt
down-later g k h p c (request (op.Recovery r)) l x =
    record { first = recovers-later g k h p c r.recovery l x.first; recovery = recovery-later g k h p r.block.block.0 r.block.stamp r.recovery l x.recovery }
down-later g k h p c (request (op.Transfer r)) l x = tt
down-later g k h p c (request (op.Checksum r)) l x = tt
down-later g k h p c (packet q) l x = packet-later g k h p c q l x
down-later g k h p c (ack a) l x = tt
down-later g k h p c (response r) l x = tt
down-later g k h p c (read_status s) l x = tt
down-later g k h p c (recovery_answer a) l x = tt

info-later : (g k : Givens) (h p : Past) (c n : ℕ) → Later g k h p → InfoSays g h c n → InfoSays k p c n
info-later g k h p c n l x = record { id = x.id; first = recovers-later g k h p c x.id l x.first; lies = lies-later g k h p x.id n l x.lies }

pub up-later : (g k : Givens) (h p : Past) (c : ℕ) (m : Message) → Later g k h p → UpSays g h c m → UpSays k p c m
up-later g k h p c (recovery_answer a) l x = some-weaker (λ i. InfoSays g h c i.2) (λ i. InfoSays k p c i.2) a.info (λ i y. info-later g k h p c i.2 l y) x
up-later g k h p c (request o) l x = tt
up-later g k h p c (packet q) l x = tt
up-later g k h p c (ack a) l x = tt
up-later g k h p c (response r) l x = tt
up-later g k h p c (read_status s) l x = tt

pub under-later : (g k : Givens) (h p : Past) (b : ℕ) (t : Stamp) (v : List ℕ) → Later g k h p → Under g h b t v → Under k p b t v
under-later g k h p b t v l x = record {
  session = x.session;
  given = l.given b t.0 x.session x.given;
  front = front-trans v (h.written x.session) (p.written x.session) x.front (l.written x.session);
}

holds-later : (g k : Givens) (h p : Past) (b : ℕ) (v : List ℕ) (i : ReplicaInfo) → Later g k h p → Holds g h b v i → Holds k p b v i
holds-later g k h p b v i l x = record { under = under-later g k h p b i.stamp v l x.under; held = λ id e. under-later g k h p b id v l (x.held id e) }

pub replica-later : (g k : Givens) (h p : Past) (b : ℕ) (r : FullReplica) → Later g k h p → ReplicaSays g h b r → ReplicaSays k p b r
replica-later g k h p b r l x = record {
  info = some-weaker (Holds g h b r.bytes) (Holds k p b r.bytes) r.known.info (λ i y. holds-later g k h p b r.bytes i l y) x.info;
  stream = some-weaker (SetFor h r.known.info) (SetFor p r.known.info) r.known.stream
      (λ s y. some-weaker (λ i. Sets h s.conn.0 i.stamp) (λ i. Sets p s.conn.0 i.stamp) r.known.info (λ i z. sets-later g k h p s.conn.0 i.stamp l z) y) x.stream;
}

both-later : (g k : Givens) (h p : Past) (b : ℕ) (v w : List ℕ) (i : ReplicaInfo) → Later g k h p → Both g h b v w i → Both k p b v w i
both-later g k h p b v w i l x = record { before = under-later g k h p b i.stamp v l x.before; after = under-later g k h p b i.stamp w l x.after }

pub break-later : (g k : Givens) (h p : Past) (b : ℕ) (x : Break) → Later g k h p → BreakSays g h b x → BreakSays k p b x
break-later g k h p b x l y =
    let v = x.before.bytes in
    let w = (row x.before x.event).bytes in
    record {
      old = some-weaker (Both g h b v w) (Both k p b v w) x.before.known.info (λ i z. both-later g k h p b v w i l z) y.old;
      new = some-weaker (Both g h b v w) (Both k p b v w) (row x.before x.event).known.info (λ i z. both-later g k h p b v w i l z) y.new;
    }

pub lower-later : (g k : Givens) (h p : Past) (c : ℕ) (x : Lower) → Later g k h p → LowerSays h c x → LowerSays p c x
lower-later g k h p c idle l y = tt
lower-later g k h p c (writes m) l y = record {
  conn = y.conn;
  sets = sets-later g k h p c (new_stamp m.fields) l y.sets;
  mirror = some-weaker (λ d. Sets h d (new_stamp m.fields)) (λ d. Sets p d (new_stamp m.fields)) m.mirror (λ d z. sets-later g k h p d (new_stamp m.fields) l z) y.mirror;
}
lower-later g k h p c (serves b s) l y = tt
lower-later g k h p c recovers l y = tt
lower-later g k h p c ended_below l y = tt

pub standing-later : (g k : Givens) (h p : Past) (id : Stamp) (s : Standing) → Later g k h p → StandingSays g h id s → StandingSays k p id s
standing-later g k h p id (standing.Told state stamp bytes ended) l y = lies-later g k h p id bytes l y
standing-later g k h p id standing.Unreached l y = tt
standing-later g k h p id standing.Asked l y = tt
standing-later g k h p id standing.Updating l y = tt
standing-later g k h p id standing.Updated l y = tt
standing-later g k h p id standing.Out l y = tt

phase-later : (g k : Givens) (h p : Past) (id : Stamp) (s : LeadPhase) → Later g k h p → PhaseSays g h id s → PhaseSays k p id s
phase-later g k h p id (lead_phase.Updating n) l y = lies-later g k h p id n l y
phase-later g k h p id lead_phase.Informing l y = tt
phase-later g k h p id lead_phase.Over l y = tt

told-later : (g k : Givens) (h p : Past) (b : ℕ) (t : Told) → Later g k h p → ToldSays g h b t → ToldSays k p b t
told-later g k h p b (Ok (office.Begun begun)) l y = recovery-later g k h p b begun.committed begun.id l y
told-later g k h p b (Ok (office.Stamp s)) l y = tt
told-later g k h p b (Ok (office.Reopened r)) l y = tt
told-later g k h p b (Ok office.Nothing) l y = tt
told-later g k h p b (Err e) l y = tt

pub primary-later : (g k : Givens) (h p : Past) (x : Primary) → Later g k h p → PrimarySays g h x → PrimarySays k p x
primary-later g k h p no_primary l y = tt
primary-later g k h p (was_told block told) l y = told-later g k h p block.0 told l y
primary-later g k h p (leads x) l y = record {
  recovery = recovery-later g k h p x.state.block.0 x.state.begun.committed x.state.begun.id l y.recovery;
  conns = λ i c e. recovers-later g k h p c x.state.begun.id l (y.conns i c e);
  standings = λ i s e. standing-later g k h p x.state.begun.id s l (y.standings i s e);
  phase = phase-later g k h p x.state.begun.id x.state.phase l y.phase;
}
primary-later g k h p (has_led r) l y = tt

pub led-later : (g k : Givens) (h p : Past) (c : ℕ) (x : Primary) → Later g k h p → LedBy h c x → LedBy p c x
led-later g k h p c no_primary l y = y
led-later g k h p c (was_told block told) l y = y
led-later g k h p c (leads x) l y = recovers-later g k h p c x.state.begun.id l y
led-later g k h p c (has_led r) l y = tt
