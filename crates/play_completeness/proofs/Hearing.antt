-- What a member takes from its mirror keeps all connections.
use Rattle.std.proofs.Common.{◌≡◌, ℕ, ◌<◌, Bool, true, false, List, [], ◌∷◌, map, slice_get, Option, Some, None, IfSome, refl, sym, ◌∙◌, ap, subst, arith}
use Rattle.std.specs.Prelude.{not, nat_lt, if◌then◌else◌}
use Rattle.std.proofs.lemmas.Bool.Decides.{nat_tests}
use Rattle.std.proofs.lemmas.Option.{none-some}
use Rattle.ack_codec.specs.declared.acks.Ack.{Ack}
use Rattle.ack_codec.specs.declared.responses.Response.{Response}
use Rattle.replica_core.specs.declared.ack_queue.PendingPacket.{PendingPacket}
use Rattle.member_core.specs.declared.member.Mirror.{Mirror}
use Rattle.member_core.specs.declared.member.Mirror.TheVariants as mirror
use Rattle.member_core.specs.Members.{up_turn, hears}
use Rattle.member_core.specs.Steps.{oldest_at}
use Rattle.world.specs.declared.events.Event.{Event}
use Rattle.world.specs.declared.events.Event.TheVariants as event
use Rattle.world.specs.Parts.{Message, ack, response, Upper, by_member, FullMember, Lower, writes}
use Rattle.world.specs.Worlds.{World, start}
use Rattle.world.specs.Connections.{Next, message, the_end, next_up, up_taken, is_alive}
use Rattle.world.specs.Nodes.{below_of, block_of, replica_at, turn_change, mirror_up}
use Rattle.world.specs.Events.{changed, upper_up, up_as, up_event, outcome, happens, run}
use Rattle.world_laws.specs.Carrying.{LowerSays}
use Rattle.world_laws.specs.Filling.{Filled}
use Rattle.world_laws.specs.Placing.{Placed, IsUpper}
use Rattle.world_laws.proofs.AllCarried.{all-carried}
use Rattle.world_laws.proofs.FactTables.{when-each}
use Rattle.world_laws.proofs.FilledLaws.{all-filled}
use Rattle.world_laws.proofs.PlacedLaws.{all-placed}
use Rattle.play_scripts.specs.WorldAcks.Acking.{Mirrors, UpperTells}
use Rattle.play_scripts.proofs.WorldAcks.AllAcked.{all-acked}
use Rattle.world_orders.specs.Orders.{pipeline, comes_up, HasDialled, Ordered}
use Rattle.world_orders.specs.Takes.{is_asked, TakesInOrder}
use Rattle.world_orders.proofs.AllOrdered.{all-ordered, next-found}
use Rattle.world_orders.proofs.Takes.{takes-in-order}
use Rattle.play_model.specs.Dues.{is_open}
use Rattle.play_completeness.specs.Plain.{ArePlain, Peaceful}
use Rattle.play_completeness.specs.Streams.{acks_in, HasLast}
use Rattle.play_completeness.specs.Links.{acks_left, MirrorFits, InPipeline, Links}
use Rattle.play_completeness.specs.Turning.{HearingKeepsLinks}
use Rattle.play_completeness.proofs.Peace.{all-peaceful}
use Rattle.play_completeness.proofs.TurnWorld.{named}
use Rattle.play_completeness.proofs.DownTurns.{no-end, after-links}
use Rattle.play_completeness.proofs.UpSteps.{ack-only, response-only, end-last}
use Rattle.play_completeness.proofs.UpTurns.{old, acting, acks, answers}
use Rattle.play_completeness.proofs.Pipelines.{writing-in, dialled-in}

module _ (w : World) (o : Ordered w) (takes : TakesInOrder w) (placed : Placed w) (h : Peaceful w) (says : (c : ℕ) → LowerSays w.past c (w.lowers c)) (filled : Filled w) (links : Links w)
    (d : ℕ) (m : FullMember) (lt : InPipeline w d) (is : w.lowers d ≡ writes m) (opened : is_open (writes m) ≡ true) (c : ℕ) (lc : InPipeline w c) (mirrored : m.mirror ≡ Some c) (upper : (w.dialled c).upper ≡ by_member d)
    (tells : Mirrors w.past d c) (x : Event) where
  abbrev Named : World → Type 0
  Named v = Links (named x v)

  -- a member that took this message
  abbrev Took : Message → Type 0
  Took y = IfSome (changed (up_taken w c (message y)) (turn_change (up_taken w c (message y)) d m (message y) (up_turn m.state (oldest_at (replica_at w d (block_of m.fields))) (below_of (message y))) false)) Named

  took-ack : (a : Ack) → slice_get (w.ups c) (w.up_marks c).taken ≡ Some (ack a) → m.state.mirror ≡ mirror.Open → Took (ack a)
  unfolding up_taken
  took-ack a found z = acks w o takes placed h says filled links d m lt is opened c lc mirrored upper tells x a found z

  took-answer : (a : Response) → slice_get (w.ups c) (w.up_marks c).taken ≡ Some (response a) → m.state.mirror ≡ mirror.Asked → Took (response a)
  unfolding up_taken
  took-answer a found z = answers w o takes placed h says filled links d m lt is opened c lc mirrored upper tells x a found z

  took : (y : Message) → next_up w c ≡ Some (message y) → hears m.state ≡ true → (z : Mirror) → m.state.mirror ≡ z → MirrorFits (links d lt).fields m z → Took y
  took y next hear mirror.Open at fits =
      let q = ack-only y (sym (ap (λ (k : Mirror). comes_up pipeline (is_asked k) y) at) ∙ takes.mirrors d c m y is mirrored hear next) in
      subst Took (sym q.1) (took-ack q.0 (next-found (w.ups c) (w.up_marks c) (ack q.0) (next ∙ ap (λ (k : Message). Some (message k)) q.1)) at)
  took y next hear mirror.Asked at fits =
      let q = response-only y (sym (ap (λ (k : Mirror). comes_up pipeline (is_asked k) y) at) ∙ takes.mirrors d c m y is mirrored hear next) in
      subst Took (sym q.1) (took-answer q.0 (next-found (w.ups c) (w.up_marks c) (response q.0) (next ∙ ap (λ (k : Message). Some (message k)) q.1)) at)
  took y next hear mirror.Nobody at fits = absurd (none-some c (sym fits.1 ∙ mirrored))
  took y next hear mirror.Unreachable at fits = absurd fits
  took y next hear mirror.Ended at fits = absurd fits

  mirror-message : (y : Message) → next_up w c ≡ Some (message y) → IfSome (changed (up_taken w c (message y)) (mirror_up (w.lowers d) (up_taken w c (message y)) d (message y) false)) Named
  unfolding up_taken
  mirror-message y next =
      subst (λ (l : Lower). IfSome (changed (up_taken w c (message y)) (mirror_up l (up_taken w c (message y)) d (message y) false)) Named) (sym is)
      (alive (is_alive w (w.dialled d).to) (hears m.state) refl)
    where
      alive : (k q : Bool) → hears m.state ≡ q → IfSome (changed (up_taken w c (message y)) (if k then (if q then turn_change (up_taken w c (message y)) d m (message y) (up_turn m.state (oldest_at (replica_at w d (block_of m.fields))) (below_of (message y))) false else None) else None)) Named
      alive false q hear = tt
      alive true false hear = tt
      alive true true hear = took y next hear m.state.mirror refl (acting w o takes placed h says filled links d m lt is opened c lc mirrored upper tells x).mirror

  -- no end stands next for a member that acts
  no-acks : (acked : List PendingPacket) → map (λ (e : PendingPacket). e.seqno) acked ≡ [] → HasLast acked → ⊥
  no-acks [] n l = none-some l.packet l.there.there
  no-acks (e ∷ acked) n l = absurd (cc)

  no-mirror-end : next_up w c ≡ Some the_end → ⊥
  no-mirror-end next = go (is_open (w.lowers c)) refl
    where
      go : (b : Bool) → is_open (w.lowers c) ≡ b → ⊥
      go true q = no-end (w.ups c) (w.up_marks c) ((links c lc).ends.up q) next
      go false q =
          let none : acks_left w c ≡ [] = ap acks_in (end-last (w.ups c) (w.up_marks c) ((links c lc).ends.over q) next) in
          let f = (old w o takes placed h says filled links d m lt is opened c lc mirrored upper tells x).flows in
          no-acks f.acked (f.numbers ∙ ap (λ (bs : List Ack). map (λ (a : Ack). a.seqno) bs) none) (f.over_so (ap not q))

  mirror-next : (n : Option Next) → next_up w c ≡ n → IfSome (up_as w c false n) Named
  unfolding up_taken
  mirror-next None next = tt
  mirror-next (Some the_end) next = absurd (no-mirror-end next)
  mirror-next (Some (message y)) next =
      subst (λ (u : Upper). IfSome (changed (up_taken w c (message y)) (upper_up u (up_taken w c (message y)) c (message y) false)) Named) (sym upper) (through y next)
    where
      through : (y : Message) → next_up w c ≡ Some (message y) → IfSome (changed (up_taken w c (message y)) (upper_up (by_member d) (up_taken w c (message y)) c (message y) false)) Named
      through y next = mirror-message y next

pub less : (n : ℕ) (w : World) → nat_lt n w.next_conn ≡ true → n < w.next_conn
less n w k = grind (arith, nat_tests, k)

heard-links : (nodes : ℕ) (events : List Event) (c d : ℕ) (m : FullMember) → ArePlain events → Links (run (start nodes) events) → ((run (start nodes) events).dialled c).upper ≡ by_member d → (run (start nodes) events).lowers d ≡ writes m → is_open (writes m) ≡ true → (x : Event)
    → c < (run (start nodes) events).next_conn → IfSome (up_as (run (start nodes) events) c false (next_up (run (start nodes) events) c)) (λ v. Links (named x v))
heard-links nodes events c d m plain links upper is opened x lc =
    let w : World = run (start nodes) events in
    let o : Ordered w = all-ordered nodes events in
    let placed : Placed w = all-placed nodes events in
    let within : InPipeline w d = writing-in w o d m is (subst (λ (u : Upper). IsUpper w.next_conn u) upper (placed.dialled c lc).upper) in
    let mirrored : m.mirror ≡ Some c = subst (λ (l : Lower). HasDialled c l) is (o.dialled_by c d lc upper) in
    let tells : Mirrors w.past d c = subst (λ (u : Upper). UpperTells w.past c u) upper ((all-acked nodes events).1.uppers c lc) in
    mirror-next w o (takes-in-order w o) placed (all-peaceful nodes events plain) (all-carried nodes events).lowers (all-filled nodes events) links d m within is opened c (dialled-in w c (by_member d) upper refl lc) mirrored upper tells x (next_up w c) refl

pub hearing-keeps : HearingKeepsLinks
unfolding happens outcome
hearing-keeps nodes events c d m plain links upper is opened =
    let w : World = run (start nodes) events in
    after-links w (event.Up c) (up_event w c.0 false) links
    (when-each (λ (v : World). Links (named (event.Up c) v)) (nat_lt c.0 w.next_conn) _ (λ k. heard-links nodes events c.0 d m plain links upper is opened (event.Up c) (less c.0 w k)))
