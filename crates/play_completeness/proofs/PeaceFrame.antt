-- What keeps the peace: changes that bring nothing but what pipelines have.
use Rattle.std.proofs.Common.{◌≡◌, ℕ, false, List, [], ◌++◌, Option, Some, None, IfSome, refl, sym, subst}
use Rattle.std.specs.Prelude.{◌==◌, ◌&&◌, ◌-◌, option_map, unwrap_or}
use Rattle.replica_model.specs.Rows.{FullReplica}
use Rattle.name_core.specs.Offices.{OfficeState, record_of}
use Rattle.world.specs.Parts.{Message, Lower, Primary, no_primary, Break}
use Rattle.world.specs.Worlds.{World, Dial, Change, put_at, listed, dial_at, dialled_with, apply}
use Rattle.world.specs.Connections.{sent_on}
use Rattle.world_laws.proofs.FactTables.{if-each, put-each}
use Rattle.world_laws.proofs.ByteFrame.{Each, each-nil, each-one, each-append, dial-place}
use Rattle.play_completeness.specs.Plain.{is_of_primary, is_of_recovery, asks_recovery, IsOwn, IsLeased, Peaceful}
use Rattle.play_completeness.proofs.OwnReplicas.{Calm}

-- asks for no recovery
abbrev pub IsGood : Message → Type 0
IsGood m = asks_recovery m ≡ false

-- no primary's connection, to a node in its first life, with a request of no recovery
abbrev pub IsGoodDial : Dial → Type 0
IsGoodDial d = (is_of_primary d.dialled.upper ≡ false) × IsGood d.request × (d.dialled.to.life ≡ 0)

abbrev pub Leases : OfficeState → Type 0
Leases o = (b : ℕ) → IfSome (record_of o (record { 0 = b })) IsLeased

-- what a change brings
pub record Brings (k : Change) : Type 0 where
  pub primary : k.primary ≡ no_primary
  pub replica : Calm k.replica.known
  pub broke : k.broke ≡ None
  pub lower : is_of_recovery k.lower ≡ false
  pub downs : (c : ℕ) → Each IsGood (k.downs c)
  pub ups : (c : ℕ) → Each IsGood (k.ups c)
  pub dials : Each IsGoodDial k.dials
  pub leases : Leases k.office

-- the same of one that leaves the replicas and lower ends as they are
pub record Leaves (w : World) (k : Change) : Type 0 where
  pub primary : k.primary ≡ w.primaries k.primary_at
  pub replica : k.replica ≡ w.replicas k.node k.block
  pub broke : k.broke ≡ w.breaks k.node k.block
  pub lower : k.lower ≡ w.lowers k.lower_at
  pub downs : (c : ℕ) → Each IsGood (k.downs c)
  pub ups : (c : ℕ) → Each IsGood (k.ups c)
  pub dials : Each IsGoodDial k.dials
  pub leases : Leases k.office

pub calm-at : (w : World) (n b : ℕ) → Peaceful w → Calm (w.replicas n b).known
calm-at w n b h = (h.sound n b, h.own n b)

pub leaves-brings : (w : World) (k : Change) → Peaceful w → Leaves w k → Brings k
leaves-brings w k h l = record {
  primary = subst (λ (x : Primary). x ≡ no_primary) (sym l.primary) (h.primaries k.primary_at);
  replica = subst (λ (x : FullReplica). Calm x.known) (sym l.replica) (calm-at w k.node k.block h);
  broke = subst (λ (x : Option Break). x ≡ None) (sym l.broke) (h.whole k.node k.block);
  lower = subst (λ (x : Lower). is_of_recovery x ≡ false) (sym l.lower) (h.lowers k.lower_at);
  downs = l.downs;
  ups = l.ups;
  dials = l.dials;
  leases = l.leases;
}

-- LISTS AND TABLES

pub each-sent : (o : Option ℕ) (ms : List Message) → Each IsGood ms → (c : ℕ) → Each IsGood (sent_on o ms c)
each-sent None ms h c = each-nil IsGood
each-sent (Some d) ms h c = if-each (Each IsGood) (c == d) ms [] (λ _. h) (λ _. each-nil IsGood)

put-at-each : {A : Type 0} (P : ℕ → ℕ → A → Type 0) (f : ℕ → ℕ → A) (i k : ℕ) (x : A) → ((j l : ℕ) → P j l x) → ((j l : ℕ) → P j l (f j l)) → (j l : ℕ) → P j l (put_at f i k x j l)
put-at-each P f i k x h q j l = if-each (P j l) (j == i && l == k) x (f j l) (λ _. h j l) (λ _. q j l)

-- APPLYING A CHANGE

upper-peace : (w : World) (k : Change) → Peaceful w → Brings k → (c : ℕ) → is_of_primary (dialled_with w k c).upper ≡ false
upper-peace w k h n c = go (dial_at w.next_conn k.dials c) refl
  where
    go : (o : Option Dial) → dial_at w.next_conn k.dials c ≡ o → is_of_primary (unwrap_or (option_map (λ (d : Dial). d.dialled) o) (w.dialled c)).upper ≡ false
    go None e = h.uppers c
    go (Some d) e = (n.dials.at (c - w.next_conn) d (dial-place w.next_conn k.dials c d e).0).0

born-peace : (w : World) (k : Change) → Peaceful w → Brings k → (c : ℕ) → (dialled_with w k c).to.life ≡ 0
born-peace w k h n c = go (dial_at w.next_conn k.dials c) refl
  where
    go : (o : Option Dial) → dial_at w.next_conn k.dials c ≡ o → (unwrap_or (option_map (λ (d : Dial). d.dialled) o) (w.dialled c)).to.life ≡ 0
    go None e = h.born c
    go (Some d) e = (n.dials.at (c - w.next_conn) d (dial-place w.next_conn k.dials c d e).0).2

new-request : (w : World) (k : Change) → Brings k → (c : ℕ) (o : Option Dial) → dial_at w.next_conn k.dials c ≡ o → Each IsGood (listed (option_map (λ (d : Dial). d.request) o))
new-request w k n c None e = each-nil IsGood
new-request w k n c (Some d) e = each-one IsGood d.request (n.dials.at (c - w.next_conn) d (dial-place w.next_conn k.dials c d e).0).1

pub apply-peace : (w : World) (k : Change) → Peaceful w → Brings k → Peaceful (apply w k)
unfolding apply
apply-peace w k h n = record {
  lives = h.lives;
  born = born-peace w k h n;
  primaries = put-each (λ (i : ℕ) (x : Primary). x ≡ no_primary) w.primaries k.primary_at k.primary n.primary h.primaries;
  uppers = upper-peace w k h n;
  lowers = put-each (λ (c : ℕ) (x : Lower). is_of_recovery x ≡ false) w.lowers k.lower_at k.lower n.lower h.lowers;
  downs = λ c. (each-append IsGood (w.downs c ++ k.downs c) _
      (each-append IsGood (w.downs c) (k.downs c) (record { at = h.downs c }) (n.downs c))
      (new-request w k n c (dial_at w.next_conn k.dials c) refl)).at;
  ups = λ c. (each-append IsGood (w.ups c) (k.ups c) (record { at = h.ups c }) (n.ups c)).at;
  sound = put-at-each (λ (m b : ℕ) (r : FullReplica). r.known.is_broken ≡ false) w.replicas k.node k.block k.replica (λ m b. n.replica.0) h.sound;
  whole = put-at-each (λ (m b : ℕ) (o : Option Break). o ≡ None) w.breaks k.node k.block k.broke (λ m b. n.broke) h.whole;
  own = put-at-each (λ (m b : ℕ) (r : FullReplica). IfSome r.known.info IsOwn) w.replicas k.node k.block k.replica (λ m b. n.replica.1) h.own;
  leases = n.leases;
}
