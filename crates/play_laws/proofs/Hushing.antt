-- Connections on which nothing behind the request was sent down: what a change leaves of them.
use Rattle.std.proofs.Common.{◌≡◌, ℕ, ◌<◌, ◌≤◌, Bool, true, false, List, [], ◌++◌, length, slice_get, Some, None, append-nil, refl, sym, ◌∙◌, subst, arith, eqb-true}
use Rattle.std.specs.Prelude.{◌==◌, if◌then◌else◌}
use Rattle.world.specs.Parts.{Message, by_writer, by_member, by_reader, by_primary, FullMember, Lower, writes, reads, Leading, leads}
use Rattle.world.specs.ReadCore.Readings.{ReadingState}
use Rattle.world.specs.Worlds.{World, Change}
use Rattle.world.specs.Connections.{sent_on}
use Rattle.world_orders.specs.Orders.{purpose_of, pipeline}
use Rattle.world_settling.specs.Traffic.{entries_by}

-- a member keeps no packet with a wrong sum
abbrev pub KeepsNone : Lower → Type 0
KeepsNone (writes m) = m.state.bad ≡ None
KeepsNone other = Unit {0}

-- a member has its connection's number
abbrev pub IsAt : ℕ → Lower → Type 0
IsAt c (writes m) = m.state.conn.0 ≡ c
IsAt c other = Unit {0}

abbrev pub IsPipe : World → ℕ → Type 0
IsPipe w c = purpose_of (w.dialled c).upper ≡ pipeline

-- of this connection nothing is pending, and no more than one message came up
pub record Silent (w : World) (c : ℕ) : Type 0 where
  pub held : (n b : ℕ) → entries_by c (w.replicas n b).known ≡ 0
  pub bad : KeepsNone (w.lowers c)
  pub few : c < w.next_conn → IsPipe w c → length (w.ups c) ≤ 1

-- who dialled the connections that members, writers, readers and primaries have
pub record Uppers (w : World) : Type 0 where
  pub writers : (b e : ℕ) → (w.writers b).conn ≡ Some e → (w.dialled e).upper ≡ by_writer b
  pub mirrors : (d e : ℕ) (m : FullMember) → w.lowers d ≡ writes m → m.mirror ≡ Some e → (w.dialled e).upper ≡ by_member d
  pub readers : (i e : ℕ) (s : ReadingState) → w.readers i ≡ reads e s → (w.dialled e).upper ≡ by_reader i
  pub primaries : (i place e : ℕ) (l : Leading) → w.primaries i ≡ leads l → slice_get l.conns place ≡ Some (Some e) → (w.dialled e).upper ≡ by_primary i place

module _ (w : World) (c : ℕ) where
  -- what a change leaves
  pub record Hush (k : Change) : Type 0 where
    pub conn : IsAt k.lower_at k.lower
    pub held : entries_by c k.replica.known ≤ entries_by c (w.replicas k.node k.block).known
    pub lower : (c == k.lower_at) ≡ true → KeepsNone k.lower
    pub few : c < w.next_conn → IsPipe w c → length (w.ups c ++ k.ups c) ≤ 1
    pub fresh : w.next_conn ≤ c → k.ups c ≡ []

  -- besides, where a writer dialled the connection, nothing is sent down
  pub record Mute (k : Change) : Type 0 where
    pub hush : Hush k
    pub downs : (b : ℕ) → (w.dialled c).upper ≡ by_writer b → k.downs c ≡ []

  module _ (s : Silent w c) where
    no-more : c < w.next_conn → IsPipe w c → length (w.ups c ++ []) ≤ 1
    no-more lt p = subst (λ (ms : List Message). length ms ≤ 1) (sym (append-nil (w.ups c))) (s.few lt p)

    quiet-few : (ms : List Message) → ms ≡ [] → c < w.next_conn → IsPipe w c → length (w.ups c ++ ms) ≤ 1
    quiet-few ms u lt p = subst (λ (ns : List Message). length (w.ups c ++ ns) ≤ 1) (sym u) (no-more lt p)

    -- a change that leaves replicas and lower ends
    pub apart : (k : Change) → ((d : ℕ) → IsAt d (w.lowers d)) → k.replica ≡ w.replicas k.node k.block → k.lower ≡ w.lowers k.lower_at → k.ups c ≡ [] → Hush k
    apart k a r l u = record {
      conn = subst (IsAt k.lower_at) (sym l) (a k.lower_at);
      held = rw r (omega arith);
      lower = λ e. subst KeepsNone (sym l) (subst (λ (i : ℕ). KeepsNone (w.lowers i)) (eqb-true c k.lower_at e) s.bad);
      few = quiet-few (k.ups c) u;
      fresh = λ g. u;
    }

    -- a lower end that sends nothing
    pub ends : (k : Change) → IsAt k.lower_at k.lower → entries_by c k.replica.known ≤ entries_by c (w.replicas k.node k.block).known → KeepsNone k.lower → k.ups c ≡ [] → Hush k
    ends k a h l u = record { conn = a; held = h; lower = λ e. l; few = quiet-few (k.ups c) u; fresh = λ g. u }

    sent-few : (d : ℕ) (ms : List Message) → (c ≡ d → IsPipe w c → length (w.ups c ++ ms) ≤ 1) → c < w.next_conn → IsPipe w c → length (w.ups c ++ sent_on (Some d) ms c) ≤ 1
    sent-few d ms f lt p = go (c == d) refl
      where
        go : (t : Bool) → (c == d) ≡ t → length (w.ups c ++ (if t then ms else [])) ≤ 1
        go true e = f (eqb-true c d e) p
        go false e = no-more lt p

    sent-fresh : (d : ℕ) (ms : List Message) → d < w.next_conn → w.next_conn ≤ c → sent_on (Some d) ms c ≡ []
    sent-fresh d ms lt g = go (c == d) refl
      where
        go : (t : Bool) → (c == d) ≡ t → (if t then ms else []) ≡ []
        go true e = absurd (omega (arith, lt, g, eqb-true c d e))
        go false e = refl

    -- a lower end that sends
    pub says : (k : Change) (ms : List Message) → k.lower_at < w.next_conn → k.ups c ≡ sent_on (Some k.lower_at) ms c → IsAt k.lower_at k.lower
        → entries_by c k.replica.known ≤ entries_by c (w.replicas k.node k.block).known → (c ≡ k.lower_at → KeepsNone k.lower) → (c ≡ k.lower_at → IsPipe w c → length (w.ups c ++ ms) ≤ 1) → Hush k
    says k ms lt u a h l f = record {
      conn = a;
      held = h;
      lower = λ e. l (eqb-true c k.lower_at e);
      few = λ low p. subst (λ (ns : List Message). length (w.ups c ++ ns) ≤ 1) (sym u) (sent-few k.lower_at ms f low p);
      fresh = λ g. u ∙ sent-fresh k.lower_at ms lt g;
    }
