-- Where something is awaited on a connection, something is due of it, or of one below it.
use Rattle.std.proofs.Common.{◌≡◌, ℕ, zero, suc, ◌<◌, ◌≤◌, ◌+◌, Bool, true, false, List, [], ◌∷◌, ◌++◌, slice_get, Option, Some, None, IfSome, refl, sym, ◌∙◌, ap, subst, arith, inl, inr}
use Rattle.std.specs.Prelude.{◌==◌, ◌&&◌, not, nat_lt, is_some, is_none}
use Rattle.std.proofs.lemmas.Bool.{false≢true}
use Rattle.std.proofs.lemmas.Option.{none-some}
use Rattle.op_headers.specs.declared.ops.Op.TheVariants as op
use Rattle.op_headers.specs.Values.{WriteFields}
use Rattle.replica_core.specs.declared.ack_queue.PendingPacket.{PendingPacket}
use Rattle.member_core.specs.declared.member.Mirror.{Mirror}
use Rattle.member_core.specs.declared.member.Mirror.TheVariants as mirror
use Rattle.member_core.specs.Members.{is_waiting, is_heard, hears}
use Rattle.world.specs.declared.events.Event.{Event}
use Rattle.world.specs.declared.events.Event.TheVariants as event
use Rattle.world.specs.Parts.{Message, request, Upper, by_writer, by_member, by_reader, by_primary, FullMember, Lower, idle, writes, serves, recovers, ended_below, Writing}
use Rattle.world.specs.Worlds.{World, start}
use Rattle.world.specs.Connections.{Next, message, next_down, next_up, is_alive, is_served, is_conn}
use Rattle.world.specs.Nodes.{block_of, replica_at}
use Rattle.world.specs.Enabled.{takes_down, acts_below, hears_mirror, takes_above, can_up}
use Rattle.world.specs.Events.{run}
use Rattle.world_laws.specs.Placing.{Placed, IsUpper, IsLower}
use Rattle.world_laws.proofs.PlacedLaws.{all-placed}
use Rattle.world_laws.proofs.FactTables.{and-right}
use Rattle.world_orders.specs.Orders.{IsMember, IsBelow, HasHeard, IsMirror, MirrorIs, is_requested, IsWriterConn, WriterIs, Ordered}
use Rattle.world_orders.specs.Open.{IsOpenBelow, OpenEnds}
use Rattle.world_orders.specs.Takes.{is_asked}
use Rattle.world_orders.proofs.AllOrdered.{all-ordered}
use Rattle.world_orders.proofs.AllOpen.{all-open}
use Rattle.world_orders.proofs.Kept.{eqb-itself}
use Rattle.world_orders.proofs.Writing.{asked-none}
use Rattle.play_model.specs.declared.dues.Due.{Due}
use Rattle.play_model.specs.declared.dues.Due.TheVariants as due
use Rattle.play_model.specs.Dues.{Queues, is_open, is_open_above, is_due, when_due}
use Rattle.play_model.specs.Laws.{IsQuiet}
use Rattle.play_scripts.specs.PlayLaws.Nodes.{KeepsNodes, AllKeepNodes, NodesRun}
use Rattle.play_scripts.proofs.PlayLaws.Running.{all-run}
use Rattle.play_completeness.specs.Plain.{ArePlain, is_plain, Peaceful}
use Rattle.play_completeness.specs.Links.{MemberAwaits, Awaits, pending_below, awaited, packets_left, acks_left, WaitsWell, MirrorFits, ActsWell, MemberWell, LowerWell, Link, InPipeline, Links}
use Rattle.play_completeness.specs.Waiting.{is_asking, awaits_answer, IsWaiting, HasDue, AwaitedIsDue}
use Rattle.play_completeness.proofs.Flowing.{Somewhere, acked, pends, goes_down, somewhere}
use Rattle.play_completeness.proofs.Peace.{all-peaceful}
use Rattle.play_completeness.proofs.Next.{next-message, next-ended, acks-found, packets-found, some-first, when-some, right-none, both, lt-so}
use Rattle.play_completeness.proofs.Pipelines.{writing-in, awaiting-in}

-- A WORLD

module _ (w : World) (queues : Queues) (o : Ordered w) (p : Placed w) (e : OpenEnds w) (h : Peaceful w) (runs : (n : ℕ) → n < w.nodes → w.running n ≡ true) (quiet : IsQuiet w) (links : Links w) where
  alive : (c : ℕ) → c < w.next_conn → is_alive w (w.dialled c).to ≡ true
  alive c lt =
      let to = (w.dialled c).to in
      both (w.running to.node) (w.lives to.node == to.life) (runs to.node (p.dialled c lt).to)
      (ap (λ (n : ℕ). n == to.life) (h.lives to.node ∙ sym (h.born c)) ∙ eqb-itself to.life)

  served : (c : ℕ) → c < w.next_conn → is_served w c ≡ true
  served c lt = both (nat_lt c w.next_conn) (is_alive w (w.dialled c).to) (lt-so c w.next_conn lt) (alive c lt)

  -- WHAT IS DUE OF A CONNECTION

  down-due : (c : ℕ) → c < w.next_conn → (l : Lower) → w.lowers c ≡ l → is_open l ≡ true → takes_down l w c (next_down w c) ≡ true → HasDue w queues
  down-due c lt l is acts takes = record {
    conn = c;
    known = lt;
    some = λ none. when-some (is_due w queues (due.Down (record { 0 = c }))) _ _ (both (is_open (w.lowers c)) _ (ap is_open is ∙ acts)
        (both (is_served w c) (takes_down (w.lowers c) w c (next_down w c)) (served c lt) (ap (λ (x : Lower). takes_down x w c (next_down w c)) is ∙ takes))) none;
  }

  ready-due : (c : ℕ) → c < w.next_conn → (l : Lower) → w.lowers c ≡ l → is_open l ≡ true → acts_below l w c ≡ true → HasDue w queues
  ready-due c lt l is acts does = record {
    conn = c;
    known = lt;
    some = λ none. when-some (is_due w queues (due.Ready (record { 0 = c }))) _ _ (both (is_open (w.lowers c)) _ (ap is_open is ∙ acts)
        (both (is_served w c) (acts_below (w.lowers c) w c) (served c lt) (ap (λ (x : Lower). acts_below x w c) is ∙ does)))
        (right-none (when_due w queues (due.Down (record { 0 = c }))) _ none);
  }

  -- the member that awaits its mirror hears it
  heard-by : (f : WriteFields) (m : FullMember) (z : Mirror) (c : ℕ) → MirrorFits f m z → m.mirror ≡ Some c → is_heard z ≡ true
  heard-by f m mirror.Nobody c fits is = absurd (none-some c (sym fits.1 ∙ is))
  heard-by f m mirror.Asked c fits is = refl
  heard-by f m mirror.Open c fits is = refl
  heard-by f m mirror.Unreachable c fits is = absurd fits
  heard-by f m mirror.Ended c fits is = absurd fits

  member-hears : (c d : ℕ) → d < w.next_conn → (a : MemberAwaits w d c) → hears_mirror (w.lowers d) w d ≡ true
  member-hears c d lt a =
      let l : Link w d = links d (writing-in w o d a.member a.is lt) in
      let m : FullMember = a.member in
      let well : MemberWell w d l.fields l.rule m = subst (λ (x : Lower). LowerWell w d l.fields l.rule x) a.is l.lower in
      let responds : m.state.responds ≡ true = and-right m.state.receives m.state.responds (sym (ap is_open a.is) ∙ a.acts) in
      ap (λ (x : Lower). hears_mirror x w d) a.is
      ∙ both (is_alive w (w.dialled d).to) (hears m.state) (alive d lt)
      (both m.state.responds (is_heard m.state.mirror) responds (heard-by l.fields m m.state.mirror c (well.acts responds).mirror a.mirror))

  above-takes : (c : ℕ) (u : Upper) → IsUpper w.next_conn u → Awaits w c u → (is_open_above w u ≡ true) × (takes_above u w c ≡ true)
  above-takes c (by_writer b) in-range a = (
    refl,
    both (is_conn (w.writers b).conn c) (is_none (w.writers b).told) (ap (λ (x : Option ℕ). is_conn x c) a ∙ eqb-itself c) (ap is_none (quiet b)),
  )
  above-takes c (by_member d) in-range a = (a.acts, member-hears c d in-range a)
  above-takes c (by_reader i) in-range a = absurd a
  above-takes c (by_primary i place) in-range a = absurd a

  up-due : (c : ℕ) → c < w.next_conn → Awaits w c (w.dialled c).upper → is_some (next_up w c) ≡ true → HasDue w queues
  up-due c lt a next =
      let u : Upper = (w.dialled c).upper in
      let t = above-takes c u (p.dialled c lt).upper a in
      let can : can_up w c ≡ true = both (nat_lt c w.next_conn && is_some (next_up w c)) (takes_above u w c) (both (nat_lt c w.next_conn) (is_some (next_up w c)) (lt-so c w.next_conn lt) next) t.1 in
      record {
        conn = c;
        known = lt;
        some = λ none. when-some (is_due w queues (due.Up (record { 0 = c }))) _ [] (both (is_open_above w u) (can_up w c) t.0 can)
            (ap (λ (ds : List Due). ds ++ []) (right-none (when_due w queues (due.Ready (record { 0 = c }))) _ (right-none (when_due w queues (due.Down (record { 0 = c }))) _ none)));
      }

  -- whoever awaits a connection hasn't taken its end
  up-open : (c : ℕ) (u : Upper) → IsUpper w.next_conn u → Awaits w c u → (w.up_marks c).over ≡ false
  up-open c (by_writer b) in-range a = e.writers b c a
  up-open c (by_member d) in-range a =
      let l : Link w d = links d (writing-in w o d a.member a.is in-range) in
      let m : FullMember = a.member in
      let well : MemberWell w d l.fields l.rule m = subst (λ (x : Lower). LowerWell w d l.fields l.rule x) a.is l.lower in
      let responds : m.state.responds ≡ true = and-right m.state.receives m.state.responds (sym (ap is_open a.is) ∙ a.acts) in
      e.mirrors d c m a.is a.mirror (both m.state.responds (is_heard m.state.mirror) responds (heard-by l.fields m m.state.mirror c (well.acts responds).mirror a.mirror))
  up-open c (by_reader i) in-range a = absurd a
  up-open c (by_primary i place) in-range a = absurd a

  -- whoever awaits the answer has taken nothing
  writer-early : (b c : ℕ) (x : Writing) → WriterIs w.dialled w.up_marks b x → x.conn ≡ Some c → is_requested x.known.phase ≡ true → (w.up_marks c).taken ≡ 0
  writer-early b c x is at asks =
      let k : IsWriterConn (w.dialled c) (w.up_marks c).taken b x.known = subst (λ (q : Option ℕ). IfSome q (λ n. IsWriterConn (w.dialled n) (w.up_marks n).taken b x.known)) at is in
      (asked-none x.known.phase x.known.members (w.up_marks c).taken k.heard asks).0

  asked-early : (z : Mirror) (n : ℕ) → is_asked z ≡ true → HasHeard z n → n ≡ 0
  asked-early mirror.Asked n a t = t
  asked-early mirror.Nobody n a t = absurd (false≢true a)
  asked-early mirror.Unreachable n a t = absurd (false≢true a)
  asked-early mirror.Open n a t = absurd (false≢true a)
  asked-early mirror.Ended n a t = absurd (false≢true a)

  early : (c : ℕ) (u : Upper) → IsUpper w.next_conn u → Awaits w c u → awaits_answer w u ≡ true → (w.up_marks c).taken ≡ 0
  early c (by_writer b) in-range a asks = writer-early b c (w.writers b) (o.writers_are b) a asks
  early c (by_member d) in-range a asks =
      let l : Link w d = links d (writing-in w o d a.member a.is in-range) in
      let m : FullMember = a.member in
      let well : MemberWell w d l.fields l.rule m = subst (λ (x : Lower). LowerWell w d l.fields l.rule x) a.is l.lower in
      let responds : m.state.responds ≡ true = and-right m.state.receives m.state.responds (sym (ap is_open a.is) ∙ a.acts) in
      let hear : hears m.state ≡ true = both m.state.responds (is_heard m.state.mirror) responds (heard-by l.fields m m.state.mirror c (well.acts responds).mirror a.mirror) in
      let mirrors : MirrorIs w.dialled w.up_marks d (writes m) = subst (λ (x : Lower). MirrorIs w.dialled w.up_marks d x) a.is (o.mirrors d) in
      let is : IsMirror (w.dialled c) (w.up_marks c).taken d c m.state = subst (λ (q : Option ℕ). IfSome q (λ n. IsMirror (w.dialled n) (w.up_marks n).taken d n m.state)) a.mirror mirrors in
      asked-early m.state.mirror (w.up_marks c).taken (sym (ap is_asking a.is) ∙ asks) (is.heard hear)
  early c (by_reader i) in-range a asks = absurd a
  early c (by_primary i place) in-range a asks = absurd a

  -- BY INDUCTION FROM THE LAST CONNECTION UP

  -- so it is of each connection from this one on
  abbrev Below : ℕ → Type 0
  Below n = (c : ℕ) → n < c → c < w.next_conn → Awaits w c (w.dialled c).upper → IsWaiting w (w.dialled c).upper → HasDue w queues

  up-message : (c : ℕ) → InPipeline w c → Awaits w c (w.dialled c).upper → is_open (w.lowers c) ≡ true → (m : Message) → slice_get (w.ups c) (w.up_marks c).taken ≡ Some m → HasDue w queues
  up-message c lt a acts m found =
      up-due c lt.known a (ap is_some (next-message (w.ups c) (w.up_marks c) m (up-open c (w.dialled c).upper (p.dialled c lt.known).upper a) ((links c lt).ends.up acts) found))

  -- the mirror of a member: it leads on to its connection
  lead-on : (c : ℕ) (m : FullMember) → w.lowers c ≡ writes m → is_open (writes m) ≡ true → Below c → (q : Option ℕ) → m.mirror ≡ q → (q ≡ None → ⊥) → IsWaiting w (by_member c) → HasDue w queues
  lead-on c m is acts below None at some x = absurd (some refl)
  lead-on c m is acts below (Some d) at some x =
      let mirrors : MirrorIs w.dialled w.up_marks c (writes m) = subst (λ (y : Lower). MirrorIs w.dialled w.up_marks c y) is (o.mirrors c) in
      let link : IsMirror (w.dialled d) (w.up_marks d).taken c d m.state = subst (λ (y : Option ℕ). IfSome y (λ n. IsMirror (w.dialled n) (w.up_marks n).taken c n m.state)) at mirrors in
      let low : IsLower w.next_conn (writes m) = subst (λ (y : Lower). IsLower w.next_conn y) is (p.lowers c) in
      let known : d < w.next_conn = subst (λ (y : Option ℕ). IfSome y (λ n. n < w.next_conn)) at low.below in
      let a : MemberAwaits w c d = record { member = m; is = is; mirror = at; acts = ap is_open is ∙ acts } in
      below d link.later known (subst (λ (u : Upper). Awaits w d u) (sym link.upper) a) (subst (λ (u : Upper). IsWaiting w u) (sym link.upper) x)

  -- a packet is on its way to a member at which none is pending
  take-due : (c : ℕ) (m : FullMember) → InPipeline w c → w.lowers c ≡ writes m → m.state.receives ≡ true → m.state.responds ≡ true → is_waiting m.state.mirror ≡ false → (replica_at w c (block_of m.fields)).known.pending ≡ []
      → (x : Message) → slice_get (w.downs c) (w.down_marks c).taken ≡ Some x → HasDue w queues
  take-due c m lt is receives responds hush pending x found =
      let acts : is_open (writes m) ≡ true = both m.state.receives m.state.responds receives responds in
      let below : IsOpenBelow (writes m) (w.down_marks c).over = subst (λ (y : Lower). IsOpenBelow y (w.down_marks c).over) is (e.below c) in
      let next : next_down w c ≡ Some (message x) = next-message (w.downs c) (w.down_marks c) x (below receives) ((links c lt).ends.down (ap is_open is ∙ acts)) found in
      down-due c lt.known (writes m) is acts (rw (next, receives, hush, pending) refl)

  -- a packet is pending at a member without a mirror
  act-due : (c : ℕ) (m : FullMember) → InPipeline w c → w.lowers c ≡ writes m → m.state.receives ≡ true → m.state.responds ≡ true → m.state.mirror ≡ mirror.Nobody → (x : PendingPacket) (rest : List PendingPacket)
      → (replica_at w c (block_of m.fields)).known.pending ≡ x ∷ rest → HasDue w queues
  act-due c m lt is receives responds nobody x rest pending =
      ready-due c lt.known (writes m) is (both m.state.receives m.state.responds receives responds) (rw (responds, nobody, pending) refl)

  -- the mirror's state of a member that isn't waiting for it
  by-mirror : (c : ℕ) (f : WriteFields) (m : FullMember) → InPipeline w c → w.lowers c ≡ writes m → m.state.receives ≡ true → m.state.responds ≡ true → Below c → (z : Mirror) → m.state.mirror ≡ z → is_waiting z ≡ false → MirrorFits f m z
      → (x : PendingPacket) (rest : List PendingPacket) → (replica_at w c (block_of m.fields)).known.pending ≡ x ∷ rest → HasDue w queues
  by-mirror c f m lt is receives responds below mirror.Nobody at hush fits x rest pending = act-due c m lt is receives responds at x rest pending
  by-mirror c f m lt is receives responds below mirror.Open at hush fits x rest pending =
      let all : pending_below w c (w.lowers c) ≡ x ∷ rest = ap (pending_below w c) is ∙ rw responds pending in
      lead-on c m is (both m.state.receives m.state.responds receives responds) below m.mirror refl fits (inr (λ none. no-cons (sym none ∙ all)))
    where
      no-cons : [] ≡ x ∷ rest → ⊥
      no-cons q = cc
  by-mirror c f m lt is receives responds below mirror.Asked at hush fits x rest pending = absurd (false≢true (sym hush))
  by-mirror c f m lt is receives responds below mirror.Unreachable at hush fits x rest pending = absurd fits
  by-mirror c f m lt is receives responds below mirror.Ended at hush fits x rest pending = absurd fits

  -- a member that has answered
  serving-due : (c : ℕ) (m : FullMember) (lt : InPipeline w c) → w.lowers c ≡ writes m → m.state.receives ≡ true → m.state.responds ≡ true → ActsWell w c (links c lt).fields (links c lt).rule m → is_waiting m.state.mirror ≡ false
      → Awaits w c (w.dialled c).upper → Below c → IsWaiting w (w.dialled c).upper → HasDue w queues
  serving-due c m lt is receives responds well hush a below (inl asks) =
      let u : Upper = (w.dialled c).upper in
      let member : IsMember u (w.down_marks c).taken (w.ups c) m.state.mirror = subst (λ (x : Lower). IsBelow u (w.down_marks c).taken (w.ups c) x) is (o.below c) in
      let first = some-first (w.ups c) (member.answered ∙ hush) in
      let acts : is_open (w.lowers c) ≡ true = ap is_open is ∙ both m.state.receives m.state.responds receives responds in
      up-message c lt a acts first.0 (subst (λ (n : ℕ). slice_get (w.ups c) n ≡ Some first.0) (sym (early c u (p.dialled c lt.known).upper a asks)) first.1)
  serving-due c m lt is receives responds well hush a below (inr some) =
      let u : Upper = (w.dialled c).upper in
      let r : List PendingPacket = (replica_at w c (block_of m.fields)).known.pending in
      let same : pending_below w c (w.lowers c) ≡ r = ap (pending_below w c) is ∙ rw responds refl in
      let flows = ((links c lt).carries a).flows in
      go (subst (λ (xs : List PendingPacket). Somewhere (acks_left w c) xs (packets_left w c)) same (somewhere (awaited w u) (acks_left w c) (pending_below w c (w.lowers c)) (packets_left w c) (not (is_open (w.lowers c))) flows some))
    where
      acts : is_open (w.lowers c) ≡ true
      acts = ap is_open is ∙ both m.state.receives m.state.responds receives responds

      go : Somewhere (acks_left w c) (replica_at w c (block_of m.fields)).known.pending (packets_left w c) → HasDue w queues
      go (acked x rest q) = let found = acks-found (w.ups c) (w.up_marks c).taken x rest q in up-message c lt a acts found.0 found.1
      go (pends x rest q) = by-mirror c (links c lt).fields m lt is receives responds below m.state.mirror refl hush well.mirror x rest q
      go (goes_down x rest none q) = let found = packets-found (w.downs c) (w.down_marks c).taken x rest q in take-due c m lt is receives responds hush none found.0 found.1

  asks-on : (z : Mirror) (f : WriteFields) (m : FullMember) → MirrorFits f m z → is_waiting z ≡ true → (is_asked z ≡ true) × (m.mirror ≡ None → ⊥)
  asks-on mirror.Asked f m fits e = (refl, fits)
  asks-on mirror.Nobody f m fits e = absurd (false≢true e)
  asks-on mirror.Open f m fits e = absurd (false≢true e)
  asks-on mirror.Ended f m fits e = absurd (false≢true e)
  asks-on mirror.Unreachable f m fits e = absurd fits

  acting-due : (c : ℕ) (m : FullMember) (lt : InPipeline w c) → w.lowers c ≡ writes m → m.state.receives ≡ true → m.state.responds ≡ true → ActsWell w c (links c lt).fields (links c lt).rule m
      → Awaits w c (w.dialled c).upper → Below c → IsWaiting w (w.dialled c).upper → HasDue w queues
  acting-due c m lt is receives responds well a below x = go (is_waiting m.state.mirror) refl
    where
      go : (b : Bool) → is_waiting m.state.mirror ≡ b → HasDue w queues
      go true waits =
          let asks = asks-on m.state.mirror (links c lt).fields m well.mirror waits in
          lead-on c m is (both m.state.receives m.state.responds receives responds) below m.mirror refl asks.1 (inl (ap is_asking is ∙ asks.0))
      go false waits = serving-due c m lt is receives responds well waits a below x

  by-lower : (c : ℕ) (lt : InPipeline w c) → Awaits w c (w.dialled c).upper → IsWaiting w (w.dialled c).upper → Below c → (l : Lower) → w.lowers c ≡ l → HasDue w queues
  by-lower c lt a x below idle is =
      let f : WriteFields = (links c lt).fields in
      let well : WaitsWell w c f (links c lt).rule = subst (λ (y : Lower). LowerWell w c f (links c lt).rule y) is (links c lt).lower in
      let none : (w.down_marks c).taken ≡ 0 = (subst (λ (y : Lower). IsBelow (w.dialled c).upper (w.down_marks c).taken (w.ups c) y) is (o.below c)).0 in
      let over : (w.down_marks c).over ≡ false = subst (λ (y : Lower). IsOpenBelow y (w.down_marks c).over) is (e.below c) in
      let end : (w.down_marks c).end ≡ None = (links c lt).ends.down (ap is_open is) in
      let next : next_down w c ≡ Some (message (request (op.Write f))) = next-message (w.downs c) (w.down_marks c) (request (op.Write f)) over end (rw (none, well.early.alone) refl) in
      down-due c lt.known idle is refl (ap (λ (y : Option Next). takes_down idle w c y) next)
  by-lower c lt a x below (writes m) is = go m.state.responds refl
    where
      well : MemberWell w c (links c lt).fields (links c lt).rule m
      well = subst (λ (y : Lower). LowerWell w c (links c lt).fields (links c lt).rule y) is (links c lt).lower

      go : (b : Bool) → m.state.responds ≡ b → HasDue w queues
      go true responds = acting-due c m lt is well.receives responds (well.acts responds) a below x
      go false responds =
          let shut : is_open (w.lowers c) ≡ false = ap is_open is ∙ rw (well.receives, responds) refl in
          up-due c lt.known a (next-ended (w.ups c) (w.up_marks c) (up-open c (w.dialled c).upper (p.dialled c lt.known).upper a) ((links c lt).ends.over shut))
  by-lower c lt a x below (serves b s) is = absurd (subst (λ (y : Lower). LowerWell w c (links c lt).fields (links c lt).rule y) is (links c lt).lower)
  by-lower c lt a x below recovers is = absurd (subst (λ (y : Lower). LowerWell w c (links c lt).fields (links c lt).rule y) is (links c lt).lower)
  by-lower c lt a x below ended_below is = absurd (subst (λ (y : Lower). LowerWell w c (links c lt).fields (links c lt).rule y) is (links c lt).lower)

  due-from : (k c : ℕ) → w.next_conn ≤ c + k → c < w.next_conn → Awaits w c (w.dialled c).upper → IsWaiting w (w.dialled c).upper → HasDue w queues
  due-from zero c le lt a x = absurd (omega (arith, le, lt))
  due-from (suc k) c le lt a x = by-lower c (awaiting-in w c lt a) a x (λ d later known b y. due-from k d (omega (arith, le, later)) known b y) (w.lowers c) refl

  pub waiting-due : (c : ℕ) → c < w.next_conn → Awaits w c (w.dialled c).upper → IsWaiting w (w.dialled c).upper → HasDue w queues
  waiting-due c lt a x = due-from w.next_conn c (omega arith) lt a x

-- AFTER PLAIN EVENTS

keeps-nodes : (x : Event) → is_plain x ≡ true → KeepsNodes x
keeps-nodes (event.Own s) e = tt
keeps-nodes (event.Office c) e = tt
keeps-nodes (event.Down c answered) e = tt
keeps-nodes (event.Ready c) e = tt
keeps-nodes (event.Up c) e = tt
keeps-nodes (event.Lost c way more) e = tt
keeps-nodes (event.Fault d) e = tt
keeps-nodes (event.Stop n) e = absurd (false≢true e)
keeps-nodes (event.Restart n list) e = absurd (false≢true e)

pub plain-keeps-nodes : (events : List Event) → ArePlain events → AllKeepNodes events
plain-keeps-nodes [] h = tt
plain-keeps-nodes (x ∷ events) h = (keeps-nodes x h.0, plain-keeps-nodes events h.1)

-- all nodes run
pub plain-run : (nodes : ℕ) (events : List Event) → ArePlain events → (n : ℕ) → n < (run (start nodes) events).nodes → (run (start nodes) events).running n ≡ true
plain-run nodes events plain n lt =
    let r : NodesRun nodes (run (start nodes) events) = all-run nodes events (plain-keeps-nodes events plain) in
    r.runs n (subst (λ (k : ℕ). n < k) r.nodes_are lt)

pub awaited-due : AwaitedIsDue
awaited-due nodes events queues c plain quiet links lt a x =
    waiting-due (run (start nodes) events) queues (all-ordered nodes events) (all-placed nodes events) (all-open nodes events) (all-peaceful nodes events plain)
    (plain-run nodes events plain) quiet links c lt a x
