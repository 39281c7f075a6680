-- Nodes that took a packet with sync have done so still, whatever happens.
use Rattle.std.proofs.Common.{◌≡◌, ℕ, ◌≤◌, ◌⊎◌, inl, inr, Bool, true, false, List, [], ◌∷◌, length, length-take, Option, Some, None, refl, sym, ap, subst, ◌∙◌, arith, eqb-true}
use Rattle.std.specs.Prelude.{◌==◌, ◌&&◌, if◌then◌else◌}
use Rattle.std.proofs.lemmas.Bool.{false≢true}
use Rattle.replica_core.specs.Views.{written_in}
use Rattle.replica_model.specs.declared.events.ReplicaEvent.{ReplicaEvent}
use Rattle.replica_model.specs.Rows.{FullReplica, IsFull, row}
use Rattle.world.specs.Worlds.{World, Change, put_at, apply}
use Rattle.world.specs.Safe.{Has}
use Rattle.world_laws.proofs.FactTables.{and-left, and-right}
use Rattle.world_laws.specs.Joining.{joined_as}
use Rattle.world_acks.specs.Acking.{Shown, UpdatesLeave}
use Rattle.world_acks.proofs.Seats.{has-left, has-right, IsCut, Steps}
use Rattle.world_acks.proofs.AllAcked.{IsLike}
use Rattle.world_syncs.specs.Histories.{TakenEvent, History, Histories, more_events, with_event, replayed}
use Rattle.world_syncs.specs.Syncing.{SyncedSince}
use Rattle.world_syncs.proofs.Synced.{replayed-append, synced-more}
use Rattle.world_syncs.proofs.Booking.{IsBooked}

-- HISTORIES

-- a history goes on: nothing is taken, or an event
pub data Goes (x y : History) (r q : FullReplica) : Type 0 where
  stays : y ≡ x → q ≡ r → Goes x y r q
  takes : (e : ReplicaEvent) → y ≡ more_events x e → q ≡ row r e → Goes x y r q

pub goes-of : (w : World) (o : Option TakenEvent) (k : Change) (h : Histories) → IsBooked w o k → (n b : ℕ) → Goes (h n b) (with_event h o n b) (w.replicas n b) (put_at w.replicas k.node k.block k.replica n b)
goes-of w None k h y n b = stays refl (y.each n b)
goes-of w (Some x) k h y n b = subst (λ (q : FullReplica). Goes (h n b) (with_event h (Some x) n b) (w.replicas n b) q) (sym (y.each n b)) (at (n == x.node && b == x.block) refl)
  where
    at : (t : Bool) → (n == x.node && b == x.block) ≡ t
        → Goes (h n b) (if t then more_events (h x.node x.block) x.event else h n b) (w.replicas n b) (if t then row (w.replicas x.node x.block) x.event else w.replicas n b)
    at false e = stays refl refl
    at true e =
        let en = eqb-true n x.node (and-left (n == x.node) (b == x.block) e) in
        let eb = eqb-true b x.block (and-right (n == x.node) (b == x.block) e) in
        takes x.event (sym (ap (λ (j : ℕ). more_events (h j b) x.event) en ∙ ap (λ (j : ℕ). more_events (h x.node j) x.event) eb))
        (sym (ap (λ (j : ℕ). row (w.replicas j b) x.event) en ∙ ap (λ (j : ℕ). row (w.replicas x.node j) x.event) eb))

-- the replica is what the events of its history made
pub record Replays (x : History) (r : FullReplica) : Type 0 where
  pub is : replayed x.first x.events ≡ r

pub goes-replays : (x y : History) (r q : FullReplica) → Goes x y r q → Replays x r → Replays y q
goes-replays x y r q (stays a b) h = record { is = ap (λ (z : History). replayed z.first z.events) a ∙ h.is ∙ sym b }
goes-replays x y r q (takes e a b) h = record { is = ap (λ (z : History). replayed z.first z.events) a ∙ replayed-append x.first x.events (e ∷ []) ∙ ap (λ (z : FullReplica). row z e) h.is ∙ sym b }

pub goes-synced : (x y : History) (r q : FullReplica) (n : ℕ) → Goes x y r q → Replays x r → n ≤ written_in q.known → SyncedSince x.first x.events n → SyncedSince y.first y.events n
goes-synced x y r q n (stays a b) h le s = subst (λ (z : History). SyncedSince z.first z.events n) (sym a) s
goes-synced x y r q n (takes e a b) h le s =
    subst (λ (z : History). SyncedSince z.first z.events n) (sym a)
    (synced-more x.first x.events e n s (subst (λ (z : FullReplica). n ≤ written_in z.known) (b ∙ ap (λ (z : FullReplica). row z e) (sym h.is)) le))

-- SEATS

-- a replica shows so many bytes, and took a packet with sync since when it has them
pub record Holds (x : History) (r : FullReplica) (stamp least : ℕ) : Type 0 where
  pub bytes : List ℕ
  pub shown : Shown r stamp least bytes
  pub synced : SyncedSince x.first x.events least

-- A node accepted the setup of a stamp in a life. As long as it runs in that life and its replica isn't broken, and no
-- later recovery left it fewer bytes, it holds so many, or as many as these left, since a packet with sync.
pub record SyncSeat (h : Histories) (w : World) (b stamp n least : ℕ) : Type 0 where
  pub life : ℕ
  pub joins : Has w.joined (joined_as stamp n life)
  pub born : life ≤ w.lives n
  pub holds : w.running n ≡ true → w.lives n ≡ life → (w.replicas n b).known.is_broken ≡ false → (j : ℕ) → j ≤ least → UpdatesLeave w b stamp n life j → Holds (h n b) (w.replicas n b) stamp j

pub shown-written : (r : FullReplica) (s n : ℕ) (v : List ℕ) → IsFull r → Shown r s n v → n ≤ written_in r.known
shown-written r s n v f x = omega (arith, ap (λ (zs : List ℕ). length zs) x.bytes, length-take n r.bytes, length-take n v, x.within, f.all)

-- what is unbroken after the change was so before
whole-before : (c d : Bool) → (c ≡ true → d ≡ true) → d ≡ false → c ≡ false
whole-before false d h e = refl
whole-before true d h e = absurd (false≢true (sym e ∙ h refl))

pub seat-apply : (h l : Histories) (w : World) (k : Change) (b s n most : ℕ) → Steps w k → ((m d : ℕ) → IsFull (w.replicas m d)) → ((m d : ℕ) → IsFull ((apply w k).replicas m d))
    → ((m d : ℕ) → Replays (h m d) (w.replicas m d)) → ((m d : ℕ) → Goes (h m d) (l m d) (w.replicas m d) (put_at w.replicas k.node k.block k.replica m d)) → SyncSeat h w b s n most → SyncSeat l (apply w k) b s n most
unfolding apply
seat-apply h l w k b s n most st full new rep goes x = record {
  life = x.life;
  joins = has-left w.joined k.joined (joined_as s n x.life) x.joins;
  born = x.born;
  holds = λ runs alive sound j le left. at j le runs alive left (n == k.node && b == k.block) refl (goes n b) (new n b) sound;
}
  where
    left-before : (j : ℕ) → UpdatesLeave (apply w k) b s n x.life j → UpdatesLeave w b s n x.life j
    left-before j u = record { each = λ y q a c d i. u.each y (has-left w.updated k.updated y q) a c d i }

    cut : (j : ℕ) → n ≡ k.node → b ≡ k.block → w.lives n ≡ x.life → UpdatesLeave (apply w k) b s n x.life j → IsCut w k s j → ⊥
    cut j en eb alive u c =
        let left : j ≤ c.entry.length =
        u.each c.entry (has-right w.updated k.updated c.entry c.has) (c.node ∙ sym en) (c.life ∙ ap (λ (y : ℕ). w.lives y) (sym en) ∙ alive) (c.block ∙ sym eb) c.above in
        omega (arith, left, c.fewer)

    with-shown : (j : ℕ) (q : FullReplica) (v : List ℕ) → Goes (h n b) (l n b) (w.replicas n b) q → IsFull q → SyncedSince (h n b).first (h n b).events j → Shown q s j v → Holds (l n b) q s j
    with-shown j q v g f y z = record { bytes = v; shown = z; synced = goes-synced (h n b) (l n b) (w.replicas n b) q j g (rep n b) (shown-written q s j v f z) y }

    at : (j : ℕ) → j ≤ most → w.running n ≡ true → w.lives n ≡ x.life → UpdatesLeave (apply w k) b s n x.life j → (t : Bool) → (n == k.node && b == k.block) ≡ t
        → Goes (h n b) (l n b) (w.replicas n b) (if t then k.replica else w.replicas n b) → IsFull (if t then k.replica else w.replicas n b)
        → (if t then k.replica else w.replicas n b).known.is_broken ≡ false → Holds (l n b) (if t then k.replica else w.replicas n b) s j
    at j le runs alive left false q g f sound = let o = x.holds runs alive sound j le (left-before j left) in with-shown j (w.replicas n b) o.bytes g f o.synced o.shown
    at j le runs alive left true q g f sound = go (st.shown old f s j o.bytes (subst (λ (r : FullReplica). Shown r s j o.bytes) is o.shown))
      where
        en : n ≡ k.node
        en = eqb-true n k.node (and-left (n == k.node) (b == k.block) q)

        eb : b ≡ k.block
        eb = eqb-true b k.block (and-right (n == k.node) (b == k.block) q)

        is : w.replicas n b ≡ w.replicas k.node k.block
        is = ap (λ (y : ℕ). w.replicas y b) en ∙ ap (λ (y : ℕ). w.replicas k.node y) eb

        old : IsFull (w.replicas k.node k.block)
        old = full k.node k.block

        before : (w.replicas n b).known.is_broken ≡ false
        before = ap (λ (r : FullReplica). r.known.is_broken) is ∙ whole-before (w.replicas k.node k.block).known.is_broken k.replica.known.is_broken st.broken sound

        o : Holds (h n b) (w.replicas n b) s j
        o = x.holds runs alive before j le (left-before j left)

        go : Shown k.replica s j o.bytes ⊎ IsCut w k s j → Holds (l n b) k.replica s j
        go (inl z) = with-shown j k.replica o.bytes g f o.synced z
        go (inr c) = absurd (cut j en eb alive left c)

-- the same in a world with the same past and replicas
pub seat-like : (h : Histories) (w v : World) (b s n j : ℕ) → IsLike w v → SyncSeat h w b s n j → SyncSeat h v b s n j
seat-like h w v b s n j l x = record {
  life = x.life;
  joins = subst (λ p. Has p.joined (joined_as s n x.life)) (sym l.past) x.joins;
  born = omega (arith, x.born, l.lives n);
  holds = λ r a q i le u.
      subst (λ (y : FullReplica). Holds (h n b) y s i) (sym (l.replicas n b))
      (x.holds (l.runs n r) (sym (l.lives n) ∙ a) (ap (λ (y : FullReplica). y.known.is_broken) (sym (l.replicas n b)) ∙ q) i le (record { each = λ y z. u.each y (subst (λ p. Has p.updated y) (sym l.past) z) }));
}

-- of fewer bytes
pub seat-less : (h : Histories) (w : World) (b s n i j : ℕ) → i ≤ j → SyncSeat h w b s n j → SyncSeat h w b s n i
seat-less h w b s n i j le x = record { life = x.life; joins = x.joins; born = x.born; holds = λ r a q m lt u. x.holds r a q m (omega (arith, lt, le)) u }
