-- What members say, and whether they hear their mirror, from one turn to the next.
use Rattle.std.proofs.Common.{◌≡◌, Bool, true, false, [], ◌∷◌, Option, Some, None, IfSome, refl, sym, ap, ◌∙◌, subst}
use Rattle.std.specs.Prelude.{ℤ, ◌==◌, ◌&&◌, if◌then◌else◌}
use Rattle.hd_base.specs.declared.states.Status.TheVariants as status
use Rattle.world_laws.specs.AckCodec.Ack.{Ack}
use Rattle.replica_core.specs.declared.ack_queue.PendingPacket.{PendingPacket}
use Rattle.replica_core.specs.declared.refusals.Refusal.{Refusal}
use Rattle.replica_core.specs.declared.refusals.Refusal.TheVariants as refusal
use Rattle.world_laws.specs.ReplicaModel.ReplicaEvent.{ReplicaEvent}
use Rattle.world_laws.specs.ReplicaModel.ReplicaEvent.TheVariants as replica_event
use Rattle.world_laws.specs.MemberCore.FromAbove.{FromAbove}
use Rattle.world_laws.specs.MemberCore.FromAbove.TheVariants as above
use Rattle.world_laws.specs.MemberCore.FromBelow.{FromBelow}
use Rattle.world_laws.specs.MemberCore.FromBelow.TheVariants as below
use Rattle.world_laws.specs.MemberCore.Effect.{Effect}
use Rattle.world_laws.specs.MemberCore.Shuts.{Shuts}
use Rattle.world_laws.specs.MemberCore.Shuts.TheVariants as shuts
use Rattle.world_laws.specs.MemberCore.Upward.{Upward}
use Rattle.world_laws.specs.MemberCore.Upward.TheVariants as upward
use Rattle.world_laws.specs.MemberCore.Mirror.{Mirror}
use Rattle.world_laws.specs.MemberCore.Mirror.TheVariants as mirror
use Rattle.world_laws.specs.MemberCore.Booked.{Booked}
use Rattle.world_laws.specs.MemberCore.Booked.TheVariants as booked
use Rattle.world_laws.specs.MemberCore.Side.{Side}
use Rattle.world_laws.specs.MemberCore.Side.TheVariants as side
use Rattle.world_laws.specs.MemberCore.Turn.{Turn}
use Rattle.world_laws.specs.MemberCore.Acks.{is_success, failures, begins_with_bad_sum, is_read, with_own, ack_of}
use Rattle.world_laws.specs.MemberCore.Members.{MemberState, is_waiting, is_heard, hears, closed, closed_by, done, cut_off, bad_sum, kept_bad, refused_turn, settled, no_effect, down_turn, ready_at, ready_turn, quiet_turn, idle_turn, patient_turn, up_at, up_turn, setup_turn, ack_turn}

-- HOW A TURN ENDS

refused-cases : (m : MemberState) (t : Turn) (r : Refusal) (P : MemberState × Effect → Type 0) → P (bad_sum m t.call t) → P (cut_off m t) → P (refused_turn m t r)
refused-cases m t refusal.NoReplica P b c = c
refused-cases m t refusal.Exists P b c = c
refused-cases m t (refusal.WrongState state) P b c = c
refused-cases m t (refusal.Stale held low high) P b c = c
refused-cases m t (refusal.LengthOut acked written low high) P b c = c
refused-cases m t refusal.NotWriter P b c = c
refused-cases m t (refusal.Gap written offset) P b c = c
refused-cases m t (refusal.BadSum chunk) P b c = b
refused-cases m t (refusal.Piece rule) P b c = c
refused-cases m t refusal.Broken P b c = c
refused-cases m t (refusal.RecoveryHeld id) P b c = c
refused-cases m t (refusal.Seqno want got) P b c = c
refused-cases m t (refusal.OutOfRange visible) P b c = c

settled-cases : (m : MemberState) (t : Turn) (b : Booked) (P : MemberState × Effect → Type 0) → P (done m t) → P (bad_sum m t.call t) → P (cut_off m t) → P (settled m t b)
settled-cases m t booked.Taken P d x c = d
settled-cases m t (booked.Refused r) P d x c = refused-cases m t r P x c
settled-cases m t booked.Failed P d x c = c

bad-cases : (m : MemberState) (call : Option ReplicaEvent) (t : Turn) (P : MemberState × Effect → Type 0) → ((seqno : ℤ) → P (record m { bad = kept_bad m.bad seqno }, no_effect)) → P (cut_off m t)
    → P (bad_sum m call t)
bad-cases m None t P b c = c
bad-cases m (Some (replica_event.Packet conn p)) t P b c = b p.seqno
bad-cases m (Some (replica_event.Other e)) t P b c = c

closed-mirror : (s : Side) (m : MemberState) → (closed s m).mirror ≡ m.mirror
closed-mirror side.Receiver m = refl
closed-mirror side.Responder m = refl

closed-by-mirror : (h : Shuts) (s : Side) (m : MemberState) → (closed_by h s m).mirror ≡ m.mirror
closed-by-mirror shuts.Nothing s m = refl
closed-by-mirror shuts.Mirror s m = closed-mirror s m
closed-by-mirror shuts.Both s m = closed-mirror s m

-- WHAT IS SAID

-- What a member says upwards: its answer when it stops waiting, and acks afterwards.
abbrev pub Speaks : Bool → Option Upward → Bool → Type 0
Speaks true None true = Unit {0}
Speaks true (Some (upward.Answer a)) false = Unit {0}
Speaks false None false = Unit {0}
Speaks false (Some (upward.Ack a)) false = Unit {0}
Speaks before said after = ⊥

silent : (b c : Bool) → b ≡ c → Speaks b None c
silent true true e = tt
silent true false e = cc
silent false true e = cc
silent false false e = tt

speaks-so : (b c d : Bool) (said : Option Upward) → c ≡ d → Speaks b said c → Speaks b said d
speaks-so b c d said e h = subst (Speaks b said) e h

-- what a turn would say
abbrev TurnSpeaks : MemberState → Turn → Type 0
TurnSpeaks m t = Speaks (is_waiting m.mirror) t.effect.sends (is_waiting t.mirror)

pub settled-speaks : (m : MemberState) (t : Turn) (b : Booked) → TurnSpeaks m t → Speaks (is_waiting m.mirror) (settled m t b).1.sends (is_waiting (settled m t b).0.mirror)
settled-speaks m t b h = settled-cases m t b Says
    (speaks-so _ _ _ _ (ap is_waiting (sym (closed-by-mirror t.effect.shuts t.side (record m { mirror = t.mirror })))) h)
    (bad-cases m t.call t Says (λ seqno. silent _ _ refl) cut) cut
  where
    Says : MemberState × Effect → Type 0
    Says x = Speaks (is_waiting m.mirror) x.1.sends (is_waiting x.0.mirror)

    cut : Says (cut_off m t)
    cut = silent _ _ (ap is_waiting (sym (closed-mirror t.side m)))

pub down-speaks : (m : MemberState) (x : FromAbove) → TurnSpeaks m (down_turn m x)
down-speaks m (above.Packet p) = silent _ _ refl
down-speaks m above.Unreadable = silent _ _ refl
down-speaks m above.End = silent _ _ refl

-- what is said where the mirror stands so
abbrev SpeaksAt : Mirror → Turn → Type 0
SpeaksAt p t = Speaks (is_waiting p) t.effect.sends (is_waiting t.mirror)

acks-on : (b : Bool) (a : Ack) → b ≡ false → Speaks false (Some (upward.Ack a)) b
acks-on true a e = cc
acks-on false a e = tt

quiet-on : (b : Bool) → b ≡ false → Speaks false None b
quiet-on true e = cc
quiet-on false e = tt

idle-speaks : (m : MemberState) (writes : Bool) → is_waiting m.mirror ≡ false → IfSome (idle_turn m writes) (λ t. Speaks false t.effect.sends (is_waiting t.mirror))
idle-speaks m true e = tt
idle-speaks m false e = quiet-on _ e

quiet-speaks : (m : MemberState) (bad : Option ℤ) (writes : Bool) → is_waiting m.mirror ≡ false → IfSome (quiet_turn m bad writes) (λ t. Speaks false t.effect.sends (is_waiting t.mirror))
quiet-speaks m (Some seqno) writes e = acks-on _ (ack_of seqno (status.ErrorChecksum ∷ [])) e
quiet-speaks m None writes e = idle-speaks m writes e

patient-speaks : (m : MemberState) (bad : Option ℤ) → is_waiting m.mirror ≡ false → IfSome (patient_turn m bad) (λ t. Speaks false t.effect.sends (is_waiting t.mirror))
patient-speaks m (Some seqno) e = acks-on _ (ack_of seqno (status.ErrorChecksum ∷ [])) e
patient-speaks m None e = tt

ready-at-speaks : (p : Mirror) (m : MemberState) (oldest : Option PendingPacket) (writes : Bool) → m.mirror ≡ p → IfSome (ready_at p m oldest writes) (SpeaksAt p)
ready-at-speaks mirror.Asked m oldest writes e = tt
ready-at-speaks mirror.Unreachable m oldest writes e = tt
ready-at-speaks mirror.Nobody m (Some x) writes e = acks-on _ (ack_of x.seqno (status.Success ∷ [])) (ap is_waiting e)
ready-at-speaks mirror.Nobody m None writes e = quiet-speaks m m.bad writes (ap is_waiting e)
ready-at-speaks mirror.Open m (Some x) writes e = tt
ready-at-speaks mirror.Open m None writes e = patient-speaks m m.bad (ap is_waiting e)
ready-at-speaks mirror.Ended m (Some x) writes e = tt
ready-at-speaks mirror.Ended m None writes e = quiet-speaks m m.bad writes (ap is_waiting e)

if-some : {A : Type 0} (P : A → Type 0) (b : Bool) (o : Option A) → IfSome o P → IfSome (if b then o else None) P
if-some P true o h = h
if-some P false o h = tt

pub ready-speaks : (m : MemberState) (oldest : Option PendingPacket) (writes : Bool) → IfSome (ready_turn m oldest writes) (TurnSpeaks m)
ready-speaks m oldest writes = if-some (TurnSpeaks m) m.responds (ready_at m.mirror m oldest writes) (ready-at-speaks m.mirror m oldest writes refl)

if-turn : (P : Turn → Type 0) (b : Bool) (s t : Turn) → P s → P t → P (if b then s else t)
if-turn P true s t h k = h
if-turn P false s t h k = k

setup-speaks : (m : MemberState) (x : FromBelow) → SpeaksAt mirror.Asked (setup_turn m x)
setup-speaks m (below.Response r) = if-turn (SpeaksAt mirror.Asked) (is_success r.status) _ _ tt tt
setup-speaks m (below.Ack a) = tt
setup-speaks m below.Unreadable = tt
setup-speaks m below.End = tt

ack-speaks : (m : MemberState) (e : PendingPacket) (x : FromBelow) → m.mirror ≡ mirror.Open → SpeaksAt mirror.Open (ack_turn m e x)
ack-speaks m e (below.Ack a) open_is =
    if-turn (SpeaksAt mirror.Open) (is_read m.below e.seqno a) _ _
    (if-turn (SpeaksAt mirror.Open) (failures a.replies == 0) _ _ (acks-on _ (ack_of e.seqno (with_own a.replies)) (ap is_waiting open_is))
    (if-turn (SpeaksAt mirror.Open) (begins_with_bad_sum a.replies) _ _ (quiet-on _ (ap is_waiting open_is)) (acks-on _ (ack_of e.seqno (with_own a.replies)) (ap is_waiting open_is)))) tt
ack-speaks m e (below.Response r) open_is = tt
ack-speaks m e below.Unreadable open_is = tt
ack-speaks m e below.End open_is = tt

up-at-speaks : (p : Mirror) (m : MemberState) (oldest : Option PendingPacket) (x : FromBelow) → m.mirror ≡ p → SpeaksAt p (up_at p m oldest x)
up-at-speaks mirror.Asked m oldest x e = setup-speaks m x
up-at-speaks mirror.Open m None x e = tt
up-at-speaks mirror.Open m (Some o) x e = ack-speaks m o x e
up-at-speaks mirror.Nobody m oldest x e = quiet-on _ (ap is_waiting e)
up-at-speaks mirror.Unreachable m oldest x e = silent _ _ (sym (ap is_waiting e))
up-at-speaks mirror.Ended m oldest x e = quiet-on _ (ap is_waiting e)

pub up-speaks : (m : MemberState) (oldest : Option PendingPacket) (x : FromBelow) → TurnSpeaks m (up_turn m oldest x)
up-speaks m oldest x = up-at-speaks m.mirror m oldest x refl

-- WHETHER THE MIRROR IS HEARD

pub hears-both : (m : MemberState) → hears m ≡ true → (m.responds ≡ true) × (is_heard m.mirror ≡ true)
hears-both m e = go m.responds (is_heard m.mirror) e
  where
    go : (a b : Bool) → (a && b) ≡ true → (a ≡ true) × (b ≡ true)
    go true true h = (refl, refl)
    go true false h = cc
    go false b h = cc

-- Who hears its mirror then did so before, and it stands the same.
pub record HearsStill (m n : MemberState) : Type 0 where
  pub mirror_same : hears n ≡ true → n.mirror ≡ m.mirror
  pub heard : hears n ≡ true → hears m ≡ true

both-true : (a b : Bool) → a ≡ true → b ≡ true → (a && b) ≡ true
both-true true true e f = refl
both-true true false e f = cc
both-true false b e f = cc

still-heard : (m n : MemberState) → n.mirror ≡ m.mirror → (n.responds ≡ true → m.responds ≡ true) → HearsStill m n
still-heard m n e r = record {
  mirror_same = λ h. e;
  heard = λ h. let d = hears-both n h in both-true _ _ (r d.0) (ap is_heard (sym e) ∙ d.1);
}

closed-responds : (h : Shuts) (s : Side) (m : MemberState) → (closed_by h s m).responds ≡ true → m.responds ≡ true
closed-responds shuts.Nothing s m e = e
closed-responds shuts.Mirror side.Receiver m e = e
closed-responds shuts.Mirror side.Responder m e = cc
closed-responds shuts.Both side.Receiver m e = e
closed-responds shuts.Both side.Responder m e = cc

-- the mirror of a turn, where it is still heard
abbrev KeepsMirror : MemberState → Turn → Type 0
KeepsMirror m t = is_heard t.mirror ≡ true → t.mirror ≡ m.mirror

pub settled-still : (m : MemberState) (t : Turn) (b : Booked) → KeepsMirror m t → HearsStill m (settled m t b).0
settled-still m t b k = settled-cases m t b (λ x. HearsStill m x.0) (done-still (closed-by-mirror t.effect.shuts t.side moved)) (bad-cases m t.call t (λ x. HearsStill m x.0) (λ seqno. still-heard m _ refl (λ e. e)) cut) cut
  where
    moved : MemberState
    moved = record m { mirror = t.mirror }

    done-still : (closed_by t.effect.shuts t.side moved).mirror ≡ t.mirror → HearsStill m (closed_by t.effect.shuts t.side moved)
    done-still is = record {
      mirror_same = λ h. is ∙ k (ap is_heard (sym is) ∙ (hears-both (closed_by t.effect.shuts t.side moved) h).1);
      heard = λ h.
          let d = hears-both (closed_by t.effect.shuts t.side moved) h in
          let heard_is : is_heard t.mirror ≡ true = ap is_heard (sym is) ∙ d.1 in
          both-true _ _ (closed-responds t.effect.shuts t.side moved d.0) (ap is_heard (sym (k heard_is)) ∙ heard_is);
    }

    cut-responds : (s : Side) → (closed s m).responds ≡ true → m.responds ≡ true
    cut-responds side.Receiver e = e
    cut-responds side.Responder e = cc

    cut : HearsStill m (cut_off m t).0
    cut = still-heard m _ (closed-mirror t.side m) (cut-responds t.side)

pub down-keeps : (m : MemberState) (x : FromAbove) → KeepsMirror m (down_turn m x)
down-keeps m (above.Packet p) h = refl
down-keeps m above.Unreadable h = refl
down-keeps m above.End h = refl

quiet-keeps : (m : MemberState) (bad : Option ℤ) (writes : Bool) → IfSome (quiet_turn m bad writes) (KeepsMirror m)
quiet-keeps m (Some seqno) writes = λ h. refl
quiet-keeps m None true = tt
quiet-keeps m None false = λ h. refl

ready-at-keeps : (p : Mirror) (m : MemberState) (oldest : Option PendingPacket) (writes : Bool) → IfSome (ready_at p m oldest writes) (KeepsMirror m)
ready-at-keeps mirror.Asked m oldest writes = tt
ready-at-keeps mirror.Unreachable m oldest writes = λ h. cc
ready-at-keeps mirror.Nobody m (Some x) writes = λ h. refl
ready-at-keeps mirror.Nobody m None writes = quiet-keeps m m.bad writes
ready-at-keeps mirror.Open m (Some x) writes = tt
ready-at-keeps mirror.Open m None writes = patient-keeps m.bad
  where
    patient-keeps : (bad : Option ℤ) → IfSome (patient_turn m bad) (KeepsMirror m)
    patient-keeps (Some seqno) = λ h. refl
    patient-keeps None = tt
ready-at-keeps mirror.Ended m (Some x) writes = λ h. cc
ready-at-keeps mirror.Ended m None writes = quiet-keeps m m.bad writes

pub ready-keeps : (m : MemberState) (oldest : Option PendingPacket) (writes : Bool) → IfSome (ready_turn m oldest writes) (KeepsMirror m)
ready-keeps m oldest writes = if-some (KeepsMirror m) m.responds (ready_at m.mirror m oldest writes) (ready-at-keeps m.mirror m oldest writes)

-- WHETHER THE RECEIVER ACTS

closed-by-receives : (h : Shuts) (s : Side) (m : MemberState) → (closed_by h s m).receives ≡ true → m.receives ≡ true
closed-by-receives shuts.Nothing s m e = e
closed-by-receives shuts.Mirror side.Receiver m e = cc
closed-by-receives shuts.Mirror side.Responder m e = e
closed-by-receives shuts.Both side.Receiver m e = cc
closed-by-receives shuts.Both side.Responder m e = e

-- whose receiver acts then, its receiver acted before
pub settled-receives : (m : MemberState) (t : Turn) (b : Booked) → (settled m t b).0.receives ≡ true → m.receives ≡ true
settled-receives m t b = settled-cases m t b (λ x. x.0.receives ≡ true → m.receives ≡ true) (closed-by-receives t.effect.shuts t.side (record m { mirror = t.mirror }))
    (bad-cases m t.call t (λ x. x.0.receives ≡ true → m.receives ≡ true) (λ seqno e. e) (cut t.side)) (cut t.side)
  where
    cut : (s : Side) → (closed s m).receives ≡ true → m.receives ≡ true
    cut side.Receiver e = cc
    cut side.Responder e = e

-- Once it has taken the end, it acts no more.
pub end-closes : (m : MemberState) (b : Booked) → (settled m (down_turn m above.End) b).0.receives ≡ true → ⊥
end-closes m b = settled-cases m (down_turn m above.End) b (λ x. x.0.receives ≡ true → ⊥) (λ e. cc) (λ e. cc) (λ e. cc)

-- WHAT IS TAKEN FROM THE MIRROR

-- What is taken from the mirror: who still hears it afterwards has it open, and it wasn't the end.
abbrev pub is_packet_call : Option ReplicaEvent → Bool
is_packet_call (Some (replica_event.Packet conn p)) = true
is_packet_call other = false

pub record UpTurn (x : FromBelow) (t : Turn) : Type 0 where
  pub side_is : t.side ≡ side.Responder
  pub call_is : is_packet_call t.call ≡ false
  pub forwards_is : t.effect.forwards ≡ false
  pub opens : is_heard t.mirror ≡ true → (t.mirror ≡ mirror.Open) × (x ≡ below.End → ⊥)

pub record HearsOn (x : FromBelow) (n : MemberState) : Type 0 where
  pub opened : hears n ≡ true → n.mirror ≡ mirror.Open
  pub not_end : hears n ≡ true → x ≡ below.End → ⊥

silenced : (x : FromBelow) (n : MemberState) → n.responds ≡ false → HearsOn x n
silenced x n e = record { opened = λ h. absurd (never h); not_end = λ h. absurd (never h) }
  where
    clash : (a : Bool) → a ≡ false → a ≡ true → ⊥
    clash true f g = cc
    clash false f g = cc

    never : hears n ≡ true → ⊥
    never h = clash n.responds e (hears-both n h).0

pub settled-on : (m : MemberState) (t : Turn) (b : Booked) (x : FromBelow) → UpTurn x t → HearsOn x (settled m t b).0
settled-on m t b x u = settled-cases m t b (λ y. HearsOn x y.0) (done-on t.effect.shuts) (bad-on t.call u.call_is) cut
  where
    moved : MemberState
    moved = record m { mirror = t.mirror }

    closed-on : (s : Side) (n : MemberState) → s ≡ side.Responder → HearsOn x (closed s n)
    closed-on side.Receiver n e = cc
    closed-on side.Responder n e = silenced x _ refl

    done-on : (h : Shuts) → HearsOn x (closed_by h t.side moved)
    done-on shuts.Nothing = record { opened = λ h. (u.opens (hears-both moved h).1).0; not_end = λ h. (u.opens (hears-both moved h).1).1 }
    done-on shuts.Mirror = closed-on t.side moved u.side_is
    done-on shuts.Both = closed-on t.side moved u.side_is

    cut : HearsOn x (cut_off m t).0
    cut = closed-on t.side m u.side_is

    bad-on : (c : Option ReplicaEvent) → is_packet_call c ≡ false → HearsOn x (bad_sum m c t).0
    bad-on None e = cut
    bad-on (Some (replica_event.Packet conn p)) e = cc
    bad-on (Some (replica_event.Other e)) f = cut

setup-up : (m : MemberState) (x : FromBelow) → UpTurn x (setup_turn m x)
setup-up m (below.Response r) = if-turn (UpTurn (below.Response r)) (is_success r.status) _ _ (record { side_is = refl; call_is = refl; forwards_is = refl; opens = λ h. (refl, λ e. cc) }) (record { side_is = refl; call_is = refl; forwards_is = refl; opens = λ h. cc })
setup-up m (below.Ack a) = record { side_is = refl; call_is = refl; forwards_is = refl; opens = λ h. cc }
setup-up m below.Unreadable = record { side_is = refl; call_is = refl; forwards_is = refl; opens = λ h. cc }
setup-up m below.End = record { side_is = refl; call_is = refl; forwards_is = refl; opens = λ h. cc }

ack-up : (m : MemberState) (e : PendingPacket) (x : FromBelow) → m.mirror ≡ mirror.Open → UpTurn x (ack_turn m e x)
ack-up m e (below.Ack a) is =
    if-turn (UpTurn (below.Ack a)) (is_read m.below e.seqno a) _ _
    (if-turn (UpTurn (below.Ack a)) (failures a.replies == 0) _ _ (record { side_is = refl; call_is = refl; forwards_is = refl; opens = λ h. kept })
    (if-turn (UpTurn (below.Ack a)) (begins_with_bad_sum a.replies) _ _ (record { side_is = refl; call_is = refl; forwards_is = refl; opens = λ h. kept })
    (record { side_is = refl; call_is = refl; forwards_is = refl; opens = λ h. kept }))) (record { side_is = refl; call_is = refl; forwards_is = refl; opens = λ h. cc })
  where
    kept : (m.mirror ≡ mirror.Open) × (below.Ack a ≡ below.End → ⊥)
    kept = (is, λ z. cc)
ack-up m e (below.Response r) is = record { side_is = refl; call_is = refl; forwards_is = refl; opens = λ h. cc }
ack-up m e below.Unreadable is = record { side_is = refl; call_is = refl; forwards_is = refl; opens = λ h. cc }
ack-up m e below.End is = record { side_is = refl; call_is = refl; forwards_is = refl; opens = λ h. cc }

up-at-up : (p : Mirror) (m : MemberState) (oldest : Option PendingPacket) (x : FromBelow) → m.mirror ≡ p → is_heard p ≡ true → UpTurn x (up_at p m oldest x)
up-at-up mirror.Asked m oldest x e h = setup-up m x
up-at-up mirror.Open m None x e h = record { side_is = refl; call_is = refl; forwards_is = refl; opens = λ h. cc }
up-at-up mirror.Open m (Some o) x e h = ack-up m o x e
up-at-up mirror.Nobody m oldest x e h = cc
up-at-up mirror.Unreachable m oldest x e h = cc
up-at-up mirror.Ended m oldest x e h = cc

pub up-up : (m : MemberState) (oldest : Option PendingPacket) (x : FromBelow) → hears m ≡ true → UpTurn x (up_turn m oldest x)
up-up m oldest x h = up-at-up m.mirror m oldest x refl (hears-both m h).1

-- Only packets from above are sent on.
pub settled-forwards : (m : MemberState) (t : Turn) (b : Booked) → t.effect.forwards ≡ false → (settled m t b).1.forwards ≡ false
settled-forwards m t b e = settled-cases m t b (λ x. x.1.forwards ≡ false) e (bad-cases m t.call t (λ x. x.1.forwards ≡ false) (λ seqno. refl) refl) refl
