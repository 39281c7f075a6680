-- What is known of the messages of a world, what a change brings, and that a change which brings what is asked leaves all asked.
use Rattle.std.proofs.Common.{◌≡◌, ℕ, ◌-◌, Bool, true, false, List, [], slice_get, Option, Some, None, option_map, refl, sym, subst}
use Rattle.std.specs.Prelude.{◌==◌, nat_le, if◌then◌else◌}
use Rattle.std.proofs.lemmas.Option.{none-some}
use Rattle.op_headers.specs.declared.ops.Op.TheVariants as op
use Rattle.world_laws.specs.World.Parts.{Message, request, Primary, leads}
use Rattle.world_laws.specs.World.Worlds.{World, Dial, Change, apply, listed, dial_at}
use Rattle.world_laws.specs.World.Connections.{Next, message, the_end, sent_on}
use Rattle.world_laws.proofs.ByteFrame.{Each, each-nil, each-one, each-append}
use Rattle.world_laws.proofs.FactTables.{if-each, put-each}
use Rattle.world_requests.specs.Requests.{IsAsked}

-- what is asked: to write, to read, or to recover
pub data Asking : Type 0 where
  to_write : Asking
  to_read : Asking
  to_recover : Asking

module _ (Of : Asking → ℕ → Type 0) where
  -- a request to write, to read or to recover, and nothing of any other message
  abbrev pub MessageIs : Message → Type 0
  MessageIs (request (op.Write f)) = IsAsked (Of to_write) f
  MessageIs (request (op.Read r)) = Of to_read r.block.block.0
  MessageIs (request (op.Recovery r)) = Of to_recover r.block.block.0
  MessageIs _ = Unit {0}

  abbrev pub NextIs : Next → Type 0
  NextIs (message m) = MessageIs m
  NextIs the_end = Unit {0}

  abbrev pub DialIs : Dial → Type 0
  DialIs d = MessageIs d.request

  -- what a primary that leads recovers
  abbrev pub PrimaryIs : Primary → Type 0
  PrimaryIs (leads l) = Of to_recover l.state.block.0
  PrimaryIs _ = Unit {0}

  abbrev pub PrimariesAre : World → Type 0
  PrimariesAre w = (i : ℕ) → PrimaryIs (w.primaries i)

  -- each message that was sent, and each primary that leads
  pub record Asked (w : World) : Type 0 where
    pub downs : (c : ℕ) → Each MessageIs (w.downs c)
    pub ups : (c : ℕ) → Each MessageIs (w.ups c)
    pub primaries : PrimariesAre w

  -- each message that a change of the world sends, and the primary that it leaves
  pub record Brings (w : World) (k : Change) : Type 0 where
    pub dials : Each DialIs k.dials
    pub downs : (c : ℕ) → Each MessageIs (k.downs c)
    pub ups : (c : ℕ) → Each MessageIs (k.ups c)
    pub primary : PrimariesAre w → PrimaryIs k.primary

  dialled-asked : (n c : ℕ) (ds : List Dial) → Each DialIs ds → (o : Option Dial) → dial_at n ds c ≡ o → Each MessageIs (listed (option_map (λ (d : Dial). d.request) o))
  dialled-asked n c ds h None e = each-nil MessageIs
  dialled-asked n c ds h (Some d) e = each-one MessageIs d.request (found (nat_le n c) e)
    where
      found : (b : Bool) → (if b then slice_get ds (c - n) else None) ≡ Some d → MessageIs d.request
      found true f = h.at (c - n) d f
      found false f = absurd (none-some d f)

  pub asked-after : (w : World) (k : Change) → Asked w → Brings w k → Asked (apply w k)
  unfolding apply
  asked-after w k h n = record {
    downs = λ c. each-append MessageIs _ _ (each-append MessageIs (w.downs c) (k.downs c) (h.downs c) (n.downs c)) (dialled-asked w.next_conn c k.dials n.dials _ refl);
    ups = λ c. each-append MessageIs (w.ups c) (k.ups c) (h.ups c) (n.ups c);
    primaries = λ i. put-each (λ (j : ℕ) (x : Primary). PrimaryIs x) w.primaries k.primary_at k.primary (n.primary h.primaries) h.primaries i;
  }

  -- WHAT IS SENT

  pub sent-asked : (o : Option ℕ) (ms : List Message) → Each MessageIs ms → (c : ℕ) → Each MessageIs (sent_on o ms c)
  sent-asked None ms h c = each-nil MessageIs
  sent-asked (Some d) ms h c = if-each (Each MessageIs) (c == d) ms [] (λ _. h) (λ _. each-nil MessageIs)

  -- a change that sends nothing
  pub quiet : (w : World) (k : Change) → k.dials ≡ [] → ((c : ℕ) → k.downs c ≡ []) → ((c : ℕ) → k.ups c ≡ []) → (PrimariesAre w → PrimaryIs k.primary) → Brings w k
  quiet w k d e u p = record {
    dials = subst (Each DialIs) (sym d) (each-nil DialIs);
    downs = λ c. subst (Each MessageIs) (sym (e c)) (each-nil MessageIs);
    ups = λ c. subst (Each MessageIs) (sym (u c)) (each-nil MessageIs);
    primary = p;
  }
