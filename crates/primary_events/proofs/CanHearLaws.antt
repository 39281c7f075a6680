-- What stands next to a primary is what it can hear, where all messages are spelled as they are written; and it can do its own step.
use Rattle.std.proofs.Common.{◌≡◌, ℕ, true, slice_get, Some, None, sym, ◌∙◌, subst}
use Rattle.hd_base.specs.declared.numbers.ConnId.{ConnId}
use Rattle.recovery_core.specs.declared.standings.Standing.{Standing}
use Rattle.world.specs.Parts.{Message, request, packet, ack, response, read_status, recovery_answer, Upper, by_primary, Leading, leads, Primary}
use Rattle.world.specs.Worlds.{World}
use Rattle.world.specs.Connections.{Next, message, the_end, next_up}
use Rattle.world.specs.Primaries.{listens}
use Rattle.world_primaries.specs.WorldNets.Drawn.{ComesUp}
use Rattle.world_primaries.specs.WorldOrders.Orders.{Ordered, PrimaryIs, purpose_of, comes_up, is_first, recovering}
use Rattle.world_primaries.proofs.WorldOrders.AllOrdered.{next-found}
use Rattle.world_primaries.specs.Drawn.{Leads}
use Rattle.world_primaries.specs.Links.{AreDistinct}
use Rattle.client_events.specs.WorldTexts.Texts.{SpellsText, Written}
use Rattle.primary_events.specs.Hearing.{IsNextToPrimary, CanHear}
use Rattle.primary_events.specs.Leading.{CanLead}

same_primary : (i j k : ℕ) → by_primary i j ≡ by_primary i k → j ≡ k
same_primary i j k e = cc

next_in : (n : ℕ) (m : Message) → comes_up recovering (is_first n) m ≡ true → SpellsText m → IsNextToPrimary (message m)
next_in n (recovery_answer a) e spelled = spelled
next_in n (request a) e spelled = cc
next_in n (packet a) e spelled = cc
next_in n (ack a) e spelled = cc
next_in n (response a) e spelled = cc
next_in n (read_status a) e spelled = cc

next_fits : (w : World) (c number place : ℕ) (x : Next) → Ordered w → Written w → next_up w c ≡ Some x → (w.dialled c).upper ≡ by_primary number place → IsNextToPrimary x
next_fits w c number place the_end o written next upper = tt
next_fits w c number place (message m) o written next upper =
    next_in (w.up_marks c).taken m (subst (λ (u : Upper). comes_up (purpose_of u) (is_first (w.up_marks c).taken) m ≡ true) upper (o.ups c (w.up_marks c).taken m (next-found (w.ups c) (w.up_marks c) m next)))
    (written.ups c (w.up_marks c).taken m (next-found (w.ups c) (w.up_marks c) m next))

-- each of its connections was dialled for one place
dialled_there : (w : World) (number : ℕ) (l : Leading) → Ordered w → Leads w number l None → PrimaryIs w.dialled number (leads l)
dialled_there w number l o led = subst (λ (p : Primary). PrimaryIs w.dialled number p) led.is (o.primaries_are number)

distinct_there : (w : World) (number : ℕ) (l : Leading) → Ordered w → Leads w number l None → AreDistinct l.conns
distinct_there w number l o led = λ j k c one other.
    let all = dialled_there w number l o led in same_primary number j k (sym (all j c one) ∙ all k c other)

-- A primary that leads can do its own step.
pub can_lead : (w : World) (number : ℕ) (l : Leading) → Ordered w → Leads w number l None → CanLead w number l
can_lead w number l o led = record { leads_so = led; distinct = distinct_there w number l o led }

-- A primary that listens to a member can hear what stands next.
pub can_hear : (w : World) (conn : ConnId) (number place : ℕ) (l : Leading) (s : Standing) (x : Next) → Ordered w → Written w → Leads w number l None → slice_get l.state.standings place ≡ Some s → listens l.state.phase s ≡ true → slice_get l.conns place ≡ Some (Some conn.0) → ComesUp w conn.0 x → CanHear w conn number place l x
can_hear w conn number place l s x o written led stands hears at comes =
    let all : PrimaryIs w.dialled number (leads l) = dialled_there w number l o led in
    record {
      comes = comes;
      hears = record { upper = all place conn.0 at; leads_so = led; standing = s; stands = stands; listens_to = hears };
      conn_is = at;
      distinct = distinct_there w number l o led;
      fits = next_fits w conn.0 number place x o written comes.next (all place conn.0 at);
    }
