-- What is true of each packet of a read where it is sent stays true.
use Rattle.std.proofs.Common.{◌≡◌, ℕ, ◌^◌, ◌<◌, ◌≤◌, ◌⊎◌, inl, inr, Bool, true, false, List, [], length, slice_get, Option, Some, None, IfSome, refl, sym, ap, ◌∙◌, subst, arith, eqb-true}
use Rattle.std.specs.Prelude.{◌==◌, nat_lt}
use Rattle.std.proofs.lemmas.Bool.Decides.{nat_tests}
use Rattle.std.proofs.lemmas.Option.{none-some, same_Some}
use Rattle.op_headers.specs.declared.ops.Op.TheVariants as op
use Rattle.op_headers.specs.declared.ops.ReadOp.{ReadOp}
use Rattle.packet_codec.specs.declared.packets.Packet.{Packet}
use Rattle.replica_model.specs.Rows.{FullReplica}
use Rattle.read_core.specs.Servings.{ServingState, piece_len, packet_of, piece_of}
use Rattle.world.specs.Parts.{Message, request, packet, Dialled, Lower, idle, serves}
use Rattle.world.specs.Worlds.{Past, World, Change, put, dialled_with, past_after, apply}
use Rattle.world.specs.Events.{changed}
use Rattle.world_laws.proofs.GrowthLaws.{apply-grows}
use Rattle.world_orders.proofs.Lists.{Behind, get-append, dialled-before}
use Rattle.world_readings.specs.Results.{Asks}
use Rattle.world_readings.proofs.Giving.{Below}
use Rattle.world_readings.proofs.Keeping.{IsOf, Reads, put-here, put-else, begins-first, Moves, Sends, Fetched}

-- the lower end of a reader's connection
pub record Lowly (p : Past) (lowers : ℕ → Lower) (c : ℕ) : Type 0 where
  pub read : ReadOp
  pub asked : slice_get (p.downs c) 0 ≡ Some (request (op.Read read))
  pub start : ServingState
  pub below : Below read start (p.ups c) (lowers c)

pub lowlies : (w : World) → Reads w → (i c : ℕ) → IsOf w.past i c → Lowly w.past w.lowers c
lowlies w h i c o = let x = h.conns i c o in record { read = x.read; asked = x.asked; start = x.start; below = x.below }

-- one message stands first
one-read : (ms : List Message) (a b : ReadOp) → slice_get ms 0 ≡ Some (request (op.Read a)) → slice_get ms 0 ≡ Some (request (op.Read b)) → a ≡ b
one-read ms a b p q = same (same_Some (request (op.Read a)) (request (op.Read b)) (sym p ∙ q))
  where
    same : request (op.Read a) ≡ request (op.Read b) → a ≡ b
    same e = cc

module _ (H : ℕ → ℕ → Packet → Type 0) where
  -- on a connection that asks this
  pub record From (p : Past) (lowers : ℕ → Lower) (c : ℕ) (read : ReadOp) : Type 0 where
    pub block : (b : ℕ) (s : ServingState) → lowers c ≡ serves b s → b ≡ read.block.block.0
    pub packets : (k : ℕ) (x : Packet) → slice_get (p.ups c) k ≡ Some (packet x) → H (p.dialled c).to.node read.block.block.0 x

  -- each packet of each read
  abbrev pub Held : Past → (ℕ → Lower) → Type 0
  Held p lowers = (i c : ℕ) (read : ReadOp) → Asks p i c read → From p lowers c read

  -- What is known of a world: its readers' connections, that nothing stands where none was dialled, and that it is true of what may be sent.
  pub record Knows (p : Past) (lowers : ℕ → Lower) (replicas : ℕ → ℕ → FullReplica) : Type 0 where
    pub lower : (i c : ℕ) → IsOf p i c → Lowly p lowers c
    pub undialled : (c : ℕ) → p.next_conn ≤ c → (p.ups c ≡ []) × (lowers c ≡ idle)
    pub now : (n b : ℕ) (s : ServingState) → s.at < 2 ^ 63 → length (piece_of (replicas n b) s) ≡ piece_len s → H n b (packet_of s (piece_of (replicas n b) s))
    pub held : Held p lowers

  module _ (w : World) (k : Change) (f : Knows w.past w.lowers w.replicas) (s : Sends w k) where
    dialled-same : (c : ℕ) (b : ℕ) (y : Packet) → dialled_with w k c ≡ w.dialled c → H (w.dialled c).to.node b y → H (dialled_with w k c).to.node b y
    dialled-same c b y e h = subst (λ (d : Dialled). H d.to.node b y) (sym e) h

    -- where the change is
    here : (i : ℕ) → IsOf w.past i k.lower_at → (x : Lowly w.past w.lowers k.lower_at) → From w.past w.lowers k.lower_at x.read → dialled_with w k k.lower_at ≡ w.dialled k.lower_at
        → put w.lowers k.lower_at k.lower k.lower_at ≡ k.lower → From (past_after w k) (put w.lowers k.lower_at k.lower) k.lower_at x.read
    here i o x old e l = record { block = λ b t q. block b t (m.block b t (sym l ∙ q)); packets = λ j y q. packets j y (get-append (w.ups k.lower_at) (k.ups k.lower_at) j (packet y) q) }
      where
        m : Moves w k x.read x.start
        m = s.moves i o x.read x.start x.asked x.below

        block : (b : ℕ) (t : ServingState) → ((u : ServingState) × (w.lowers k.lower_at ≡ serves b u)) ⊎ (b ≡ x.read.block.block.0) → b ≡ x.read.block.block.0
        block b t (inl u) = old.block b u.0 u.1
        block b t (inr q) = q

        fetched : (y : Packet) → Fetched w k.lower_at y → H (w.dialled k.lower_at).to.node x.read.block.block.0 y
        fetched y z =
            subst (λ (b : ℕ). H (w.dialled k.lower_at).to.node b y) (old.block z.block z.serving z.served)
            (subst (λ (q : Packet). H (w.dialled k.lower_at).to.node z.block q) (sym z.is) (f.now (w.dialled k.lower_at).to.node z.block z.serving z.small z.whole))

        packets : (j : ℕ) (y : Packet) → (slice_get (w.ups k.lower_at) j ≡ Some (packet y)) ⊎ Behind (w.ups k.lower_at) (k.ups k.lower_at) j (packet y) → H (dialled_with w k k.lower_at).to.node x.read.block.block.0 y
        packets j y (inl q) = dialled-same k.lower_at x.read.block.block.0 y e (old.packets j y q)
        packets j y (inr b) = dialled-same k.lower_at x.read.block.block.0 y e (fetched y (m.packets b.place y b.found))

    -- where it isn't
    there : (c : ℕ) (read : ReadOp) → (c == k.lower_at) ≡ false → From w.past w.lowers c read → dialled_with w k c ≡ w.dialled c → From (past_after w k) (put w.lowers k.lower_at k.lower) c read
    there c read no_change old e = record {
      block = λ b t q. old.block b t (sym (put-else w.lowers k.lower_at k.lower c no_change) ∙ q);
      packets = λ j y q. packets j y (get-append (w.ups c) (k.ups c) j (packet y) q);
    }
      where
        packets : (j : ℕ) (y : Packet) → (slice_get (w.ups c) j ≡ Some (packet y)) ⊎ Behind (w.ups c) (k.ups c) j (packet y) → H (dialled_with w k c).to.node read.block.block.0 y
        packets j y (inl q) = dialled-same c read.block.block.0 y e (old.packets j y q)
        packets j y (inr b) = absurd (none-some (packet y) (subst (λ (ms : List Message). slice_get ms b.place ≡ Some (packet y)) (s.quiet c no_change) b.found))

    -- a new connection
    new-from : (c : ℕ) (read : ReadOp) → w.next_conn ≤ c → From (past_after w k) (put w.lowers k.lower_at k.lower) c read
    new-from c read le = record {
      block = λ b t q. absurd (differ b t (sym (s.unborn c le ∙ (f.undialled c le).1) ∙ q));
      packets = λ j y q. packets j y (get-append (w.ups c) (k.ups c) j (packet y) q);
    }
      where
        differ : (b : ℕ) (t : ServingState) → idle ≡ serves b t → ⊥
        differ b t q = cc

        packets : (j : ℕ) (y : Packet) → (slice_get (w.ups c) j ≡ Some (packet y)) ⊎ Behind (w.ups c) (k.ups c) j (packet y) → H (dialled_with w k c).to.node read.block.block.0 y
        packets j y (inl q) = absurd (none-some (packet y) (subst (λ (ms : List Message). slice_get ms j ≡ Some (packet y)) (f.undialled c le).0 q))
        packets j y (inr b) = absurd (none-some (packet y) (subst (λ (ms : List Message). slice_get ms b.place ≡ Some (packet y)) (s.fresh c le) b.found))

    -- a connection that was there
    old-from : (i c : ℕ) (read : ReadOp) → c < w.next_conn → Asks (past_after w k) i c read → From (past_after w k) (put w.lowers k.lower_at k.lower) c read
    unfolding apply
    old-from i c read lt a = subst (From (past_after w k) (put w.lowers k.lower_at k.lower) c) same (go (c == k.lower_at) refl)
      where
        dialled : dialled_with w k c ≡ w.dialled c
        dialled = dialled-before w k c lt

        mine : IsOf w.past i c
        mine = record { known = lt; upper = ap (λ (d : Dialled). d.upper) (sym dialled) ∙ a.upper }

        x : Lowly w.past w.lowers c
        x = f.lower i c mine

        same : x.read ≡ read
        same = one-read ((past_after w k).downs c) x.read read (begins-first (w.downs c) ((past_after w k).downs c) (request (op.Read x.read)) ((apply-grows w k).downs c) x.asked) a.asked

        old : From w.past w.lowers c x.read
        old = f.held i c x.read (record { known = lt; upper = mine.upper; asked = x.asked })

        At : ℕ → Type 0
        At d = IsOf w.past i d → (z : Lowly w.past w.lowers d) → From w.past w.lowers d z.read → dialled_with w k d ≡ w.dialled d → put w.lowers k.lower_at k.lower d ≡ k.lower → From (past_after w k) (put w.lowers k.lower_at k.lower) d z.read

        go : (b : Bool) → (c == k.lower_at) ≡ b → From (past_after w k) (put w.lowers k.lower_at k.lower) c x.read
        go true e = subst At (sym (eqb-true c k.lower_at e)) (here i) mine x old dialled (put-here w.lowers k.lower_at k.lower c e)
        go false e = there c x.read e old dialled

    held-after : Held (apply w k).past (apply w k).lowers
    unfolding apply
    held-after i c read a = go (nat_lt c w.next_conn) refl
      where
        go : (b : Bool) → nat_lt c w.next_conn ≡ b → From (past_after w k) (put w.lowers k.lower_at k.lower) c read
        go true e = old-from i c read (grind (arith, nat_tests, e)) a
        go false e = new-from c read (grind (arith, nat_tests, e))

  -- a change, if there is one
  pub changed-held : (w : World) (o : Option Change) → Knows w.past w.lowers w.replicas → IfSome o (Sends w) → IfSome (changed w o) (λ v. Held v.past v.lowers)
  changed-held w None f s = tt
  changed-held w (Some k) f s = held-after w k f s
