-- A writer's own step that asks nothing and dials nothing, and the world after it.
use Rattle.std.proofs.Common.{◌≡◌, inl, inr, ℕ, not, Bool, true, false, if◌then◌else◌, List, [], ◌∷◌, ◌++◌, length, map, slice_get, is_some, option_map, Option, Some, None, IfSome, Result, Ok, Err, refl, sym, ap, ◌∙◌, subst}
use Rattle.std.specs.Prelude.{◌==◌, ◌&&◌, ◌||◌, cond, nat_lt}
use Rattle.std.proofs.lemmas.Option.{same_Some}
use Rattle.hd_base.specs.Links.{Inbox}
use Rattle.hd_base.specs.Channels.{same_direction}
use Rattle.hd_base.specs.Ends.{has_failed}
use Rattle.hd_base.specs.declared.ends.Conn.{Conn}
use Rattle.hd_base.specs.declared.links.LinkIn as link_in
use Rattle.hd_base.specs.declared.links.LinkOut as link_out
use Rattle.hd_base.specs.declared.numbers.BlockId.{BlockId}
use Rattle.hd_base.specs.declared.roads.Roads as roads
use Rattle.pipe_recovery.specs.LinkMessages.Incomings.{IncomingState}
use Rattle.name_core.specs.Offices.{OfficeState}
use Rattle.packet_codec.specs.Packets.{packet_text}
use Rattle.packet_codec.specs.declared.packets.Packet.{Packet}
use Rattle.member_events.proofs.PipeMember.SizeLemmas.{encodable}
use Rattle.pipe_recovery.specs.declared.links.Link.{Link}
use Rattle.road_traffic.proofs.CallLemmas.{sent-shows, quiet-shows}
use Rattle.road_traffic.proofs.TrafficLemmas.{same-itself}
use Rattle.road_traffic.specs.Showing.{Net}
use Rattle.member_events.specs.World.Event.{Event}
use Rattle.member_events.specs.World.TakenCommand.{TakenCommand}
use Rattle.member_events.specs.World.Parts.{Message, packet, Writing}
use Rattle.member_events.specs.World.Parts as parts
use Rattle.member_events.specs.World.Worlds.{World, Change, add, apply}
use Rattle.member_events.specs.World.Clients.{writing_as, did, did_step, own_writer, writer_step, takes_command, takes_given, command_bytes, is_empty, is_formed, ruled}
use Rattle.member_events.specs.World.Events.{outcome, happens, is_enabled}
use Rattle.member_events.specs.WorldNets.Changes.{sent_by, shut_by}
use Rattle.member_events.specs.WorldNets.Rows.{Row, rows_of, sends, shuts_if, text_of}
use Rattle.member_events.specs.WorldNets.Nets.{held_by, is_over}
use Rattle.member_events.specs.WorldNets.Steps.{SendsBy}
use Rattle.member_events.specs.WorldNets.Flushing.{upper_flushes, action_sends}
use Rattle.member_events.proofs.WorldNets.DrawnLemmas.{own-makes}
use Rattle.member_events.proofs.WorldNets.EndLemmas.{same-end}
use Rattle.member_events.proofs.WorldNets.FlushingLemmas.{writer-sends}
use Rattle.member_events.proofs.WorldNets.StepLemmas.{changed-net, changed-over, followed, rows-by}
use Rattle.member_events.specs.WorldTexts.Texts.{SpellsText}
use Rattle.writer_core.specs.declared.actions.Action.{Action}
use Rattle.writer_core.specs.declared.actions.Action.TheVariants as action
use Rattle.writer_core.specs.declared.phases.Waiting.{Waiting}
use Rattle.writer_core.specs.declared.records.WriterRecord.{WriterRecord}
use Rattle.writer_core.specs.Transitions.{Step, given, own_step, is_connected}
use Rattle.member_events.proofs.CauseLaws.{one_risen, or_true}
use Rattle.member_events.proofs.EndLaws.{HeldAt, end_held}
use Rattle.member_events.proofs.FaultEvents.{same_count}
use Rattle.member_events.proofs.StepLaws.{last_of}
use Rattle.member_events.proofs.WorldLaws.{at_put, happened}
use Rattle.client_events.specs.declared.acting.Acted.{Acted}
use Rattle.member_events.specs.Joining.{SpellDown}
use Rattle.client_events.specs.declared.faults.ClientFault.{ClientFault}
use Rattle.client_events.specs.declared.faults.ClientFault.TheVariants as fault
use Rattle.client_events.specs.declared.pipes.Pipe.{Pipe}
use Rattle.client_events.specs.declared.pipes.Pipe.TheVariants as pipe
use Rattle.client_events.specs.declared.sending.Sending.{Sending}
use Rattle.client_events.specs.declared.sending.Sending.TheVariants as sending
use Rattle.client_events.specs.Acting.{said_by, said_in}
use Rattle.client_events.specs.Events.{given_to, own_event, KeepsSetup, ActShows}
use Rattle.client_events.specs.Faults.{IsCaused, HasRisen}
use Rattle.client_events.specs.Sending.{SendsAction, FollowsSending, IsFollowed}
use Rattle.client_events.specs.Showing.{PipeShows, LinkShows, ClientStands, ClientLeft}
use Rattle.client_events.specs.Steps.{IsLost}
use Rattle.client_events.proofs.SettleLaws.{HasActed, settled_left, settled_caused}

-- WHAT A WRITER DID

-- A writer's step is this change of the world.
pub record HasDone (w : World) (b : ℕ) (s : Step) (k : Change) : Type 0 where
  pub waits : Option Waiting
  pub bytes : List ℕ
  pub is : did w b waits s.action s.writer bytes ≡ Some k

if_some : (q : Bool) (a : Option Change) (k : Change) → (if q then a else None) ≡ Some k → a ≡ Some k
if_some true a k h = h
if_some false a k h = cc

none_some : (k : Change) → None ≡ Some k → ⊥
none_some k h = cc

done_taking : (w : World) (b : ℕ) (x : WriterRecord) (t : TakenCommand) (k : Change) → takes_command w b x t ≡ Some k → HasDone w b (own_step (given (ruled x t.command t.rule) t.command)) k
done_taking w b x t k h =
    let y : WriterRecord = ruled x t.command t.rule in
    let s : Step = own_step (given y t.command) in record {
      waits = y.waiting;
      bytes = command_bytes y t.command;
      is = if_some (is_empty s.writer.queue) (did_step w b y.waiting s (command_bytes y t.command)) k
          (if_some (is_formed t.command t.rule && not (is_empty (given x t.command).queue)) (takes_given w b y t.command) k h);
    }

done_by : (w : World) (b : ℕ) (x : WriterRecord) (takes : Option TakenCommand) (answered : Bool) (k : Change) → writer_step w b x None takes answered ≡ Some k → HasDone w b (own_step (given_to x takes)) k
done_by w b x None answered k h = record { waits = x.waiting; bytes = []; is = h }
done_by w b x (Some t) answered k h = done_taking w b x t k h

-- The change that a writer's step was.
pub record StepDone (w : World) (block : BlockId) (takes : Option TakenCommand) (answered : Bool) : Type 0 where
  pub change : Change
  pub out : outcome w (own_event block takes answered) ≡ Some (apply w change)
  pub done : HasDone w block.0 (own_step (given_to (w.writers block.0).known takes)) change

enabled_by : (w : World) (block : BlockId) (takes : Option TakenCommand) (answered : Bool) (k : Option Change) → own_writer w block.0 takes answered ≡ k → (w.writers block.0).told ≡ None → is_some (option_map (apply w) k) ≡ true → StepDone w block takes answered
enabled_by w block takes answered None own told is = cc
enabled_by w block takes answered (Some k) own told is = record {
  change = k;
  out = own-makes w block takes answered k own;
  done = done_by w block.0 (w.writers block.0).known takes answered k (ap (λ (t : Option parts.Told). writer_step w block.0 (w.writers block.0).known t takes answered) (sym told) ∙ own);
}

pub step_done : (w : World) (block : BlockId) (takes : Option TakenCommand) (answered : Bool) → (w.writers block.0).told ≡ None → is_enabled w (own_event block takes answered) ≡ true → StepDone w block takes answered
unfolding outcome
step_done w block takes answered told is = enabled_by w block takes answered (own_writer w block.0 takes answered) refl told is

-- WHAT IT MAKES OF THE WORLD

-- The writer after what it did, the office, and the answers that were given.
pub record DoneTo (w v : World) (b : ℕ) (a : Action) (x : WriterRecord) : Type 0 where
  pub writer : v.writers b ≡ writing_as x (w.writers b).conn
  pub office : v.office ≡ w.office
  pub said : v.said b ≡ w.said b ++ said_in (said_by a)

pub at_add : {A : Type 0} (f : ℕ → List A) (n : ℕ) (xs : List A) → add f n xs n ≡ f n ++ xs
at_add f n xs = ap (λ q. if q then f n ++ xs else f n) (same-itself n)

pub done_to : (w : World) (b : ℕ) (waits : Option Waiting) (a : Action) (x : WriterRecord) (bytes : List ℕ) (k : Change) → did w b waits a x bytes ≡ Some k → DoneTo w (apply w k) b a x
unfolding apply
done_to w b waits action.Took x bytes k e =
    subst (λ (n : Change). DoneTo w (apply w n) b action.Took x) (same_Some _ _ e)
    (record { writer = at_put w.writers b (writing_as x (w.writers b).conn); office = refl; said = at_add w.said b [] })
done_to w b waits (action.Send p) x bytes k e =
    subst (λ (n : Change). DoneTo w (apply w n) b (action.Send p) x) (same_Some _ _ e)
    (record { writer = at_put w.writers b (writing_as x (w.writers b).conn); office = refl; said = at_add w.said b [] })
done_to w b waits (action.Answered n a) x bytes k e =
    subst (λ (c : Change). DoneTo w (apply w c) b (action.Answered n a) x) (same_Some _ _ e)
    (record { writer = at_put w.writers b (writing_as x (w.writers b).conn); office = refl; said = at_add w.said b (record { ordinal = n; answer = a } ∷ []) })
done_to w b waits other x bytes k e = cc

-- WHAT IT SENT

shut_sent : (shut : Bool) (ms : List Message) (r : Row) → (shuts_if shut (sends ms r)).sent ≡ r.sent ++ ms
shut_sent true ms r = refl
shut_sent false ms r = refl

append_none : (c : ℕ) (m : Message) (shut : Bool) → sent_by (upper_flushes (Some c) shut (m ∷ [])) c true ≡ m ∷ []
append_none c m shut = rw (same-itself c) refl

-- The packet that was sent stands behind all that went down on the connection.
sent_down : (w : World) (k : Change) (c : ℕ) (shut : Bool) (p : Packet) → SendsBy w k (upper_flushes (Some c) shut (packet p ∷ [])) → (apply w k).downs c ≡ w.downs c ++ packet p ∷ []
sent_down w k c shut p s =
    let fs = upper_flushes (Some c) shut (packet p ∷ []) in
    sym (ap (λ (r : Row). r.sent) (rows-by w k fs s.changes c true)) ∙ (shut_sent (shut_by fs c) (sent_by fs c true) (rows_of w c true) ∙ ap (λ (ms : List Message). w.downs c ++ ms) (append_none c (packet p) shut))

-- WHAT BECOMES OF ITS END

-- each packet that an action sends has a written form
abbrev pub IsSpelled : Action → Type 0
IsSpelled (action.Send p) = SpellsText (packet p)
IsSpelled other = Unit {0}

pub sent_spelled : (w : World) (k : Change) (c : ℕ) (shut : Bool) (a : Action) → SendsBy w k (upper_flushes (Some c) shut (action_sends a)) → SpellDown (apply w k) c → IsSpelled a
sent_spelled w k c shut (action.Send p) s h = h (length (w.downs c)) (packet p) (ap (λ (ms : List Message). slice_get ms (length (w.downs c))) (sent_down w k c shut p s) ∙ last_of (w.downs c) (packet p))
sent_spelled w k c shut other s h = tt

module _ {I O : Type 0} (i : link_in.Ghosts I) (o : link_out.Ghosts O) where
  -- What an action sends is sent on the end.
  pub held_sent : (net : Net) (inbox : Inbox) (c : ℕ) (a : Action) (e : Conn I O) (half : O) → IsSpelled a → SendsAction o a e.outward half sending.Done → HeldAt i o net false [] inbox c false e
      → HeldAt i o net false (map text_of (action_sends a)) inbox c false (record e { outward = half })
  held_sent net inbox c (action.Send p) e half spelled (inl none) k = absurd (none (encodable p (packet_text p) spelled))
  held_sent net inbox c (action.Send p) e half spelled (inr s) k =
      let middle : Conn I O = record e { outward = s.half } in
      let new : Conn I O = record e { outward = half } in record {
        id = k.id;
        side = k.side;
        within = k.within;
        is = sent-shows i o net.traffic [] inbox (packet_text p) middle new (record { id = refl; lower = refl; inward = refl }) s.sent
            (quiet-shows i o net.traffic false [] inbox e middle (record { id = refl; lower = refl; inward = refl }) s.room k.is);
        taking = k.taking;
      }
  held_sent net inbox c other e half spelled s k = subst (λ (h : O). HeldAt i o net false [] inbox c false (record e { outward = h })) (sym s.0) k

  -- An end on which a send failed has a count that rose.
  out_rose : (a : Action) (e : Conn I O) (half : O) → SendsAction o a e.outward half sending.Failed → has_failed i o (record e { outward = half }) ≡ true
  out_rose (action.Send p) e half s = rw s (or_true (nat_lt 0 (i.faults e.inward)))
  out_rose other e half s = cc (s.1)

module _ {R I O : Type 0} (r : roads.Ghosts R I O) (i : link_in.Ghosts I) (o : link_out.Ghosts O) where
  lost_rose : (conn : Option ℕ) (c : ℕ) (a : Action) (e : Conn I O) (half : O) (road road' : R) (why : ClientFault) → conn ≡ Some c → e.id.0 ≡ c → SendsAction o a e.outward half sending.Failed → IsLost r i o (record e { outward = half }) road road' why → IsCaused r conn road road' why
  lost_rose conn c a e half road road' fault.LinkFailed at is s lost =
      let risen : r.risen road' e.id.0 ≡ true = one_risen r i o (record e { outward = half }) road road' lost (out_rose i o a e half s) in
      subst (λ (n : Option ℕ). HasRisen (r.risen road') n) (sym at) (subst (λ (n : ℕ). r.risen road' n ≡ true) is risen)
  lost_rose conn c a e half road road' fault.Memory at is s lost = tt
  lost_rose conn c a e half road road' fault.RoadsFailed at is s lost = absurd lost

  stream_caused : (how : Sending) (conn : Option ℕ) (c : ℕ) (on : Bool) (a : Action) (e : Conn I O) (half : O) (incoming : IncomingState) (road road' : R) (why : ClientFault) → conn ≡ Some c → e.id.0 ≡ c → SendsAction o a e.outward half how
      → FollowsSending r i o how on (record e { outward = half }) incoming road road' (Err why) → IsCaused r conn road road' why
  stream_caused sending.Done conn c on a e half incoming road road' why at is s f = settled_caused r i o conn on (record e { outward = half }) incoming road road road' why (same_count (r.faults road)) f
  stream_caused sending.Failed conn c on a e half incoming road road' why at is s f = lost_rose conn c a e half road road' why at is s f
  stream_caused sending.Memory conn c on a e half incoming road road' why at is s f = subst (λ (x : ClientFault). IsCaused r conn road road' x) (sym f) tt

  pub act_caused : (w : World) (net : Net) (conn : Option ℕ) (on : Bool) (a : Action) (connection : Pipe I O) (road road' : R) (why : ClientFault) → PipeShows i o w net conn connection → IsFollowed r i o on a connection road road' (Err why) → IsCaused r conn road road' why
  act_caused w net conn on a pipe.Closed road road' why shows f = cc (f.0)
  act_caused w net conn on a (pipe.SettingUp setup) road road' why shows f = cc (f.0)
  act_caused w net conn on a (pipe.Streaming e incoming) road road' why shows f = stream_caused f.how conn e.id.0 on a e f.half incoming road road' why shows.conn_is refl f.sends f.follows

-- THE WORLD AFTER

nothing_twice : (q : Bool) → ◌≡◌ {A = List Message} (cond q [] [] ++ []) []
nothing_twice true = refl
nothing_twice false = refl

never_shut : (q : Bool) → ((q && false) || false) ≡ false
never_shut true = refl
never_shut false = refl

-- An end that flushes nothing may be left out.
pub unsent : (w : World) (k : Change) (conn : Option ℕ) → SendsBy w k (upper_flushes conn false []) → SendsBy w k []
unsent w k None s = s
unsent w k (Some c) s = record {
  none = s.none;
  changes = record {
    sends = λ d l. s.changes.sends d l ∙ nothing_twice ((c == d) && same_direction true l);
    shuts = λ d. s.changes.shuts d ∙ never_shut (c == d);
    apart = tt;
  };
}

pub if_none : (q : Bool) (conn : Option ℕ) → conn ≡ None → (if q then conn else None) ≡ None
if_none true conn h = h
if_none false conn h = refl

module _ {R I O : Type 0} (r : roads.Ghosts R I O) (i : link_in.Ghosts I) (o : link_out.Ghosts O) where
  -- A step in which nothing is sent, and the connection is kept, or there is none.
  still_left : (w : World) (net : Net) (e : Event) (b : ℕ) (office : OfficeState) (k : Change) (a : Action) (x : WriterRecord) (connection : Pipe I O) (road : R) → outcome w e ≡ Some (apply w k) → SendsBy w k [] → DoneTo w (apply w k) b a x
      → ClientStands r i o w net b office (w.writers b).known connection road
      → ((v : World) → ((d : ℕ) (l : Bool) → is_over v d l ≡ is_over w d l) → PipeShows i o v net (writing_as x (w.writers b).conn).conn connection)
      → ClientLeft r i o w net (happens w e) b office x connection road
  still_left w net e b office k a x connection road out sends to stands shows =
      let v : World = happens w e in
      let f = followed w (apply w k) e out in
      let same : (d : ℕ) (l : Bool) → is_over v d l ≡ is_over w d l = λ d l. f.over d l ∙ changed-over w k d l in
      let own : v.writers b ≡ writing_as x (w.writers b).conn = ap (λ (u : World). u.writers b) (happened w (apply w k) e out) ∙ to.writer in
      record {
        made = net;
        stands = record {
          roads_are = record { is_net = f.nets net (changed-net w net k [] stands.roads_are.is_net sends); sane = stands.roads_are.sane; shows = stands.roads_are.shows };
          writer = sym (ap (λ (y : Writing). y.known) own);
          told = ap (λ (y : Writing). y.told) own;
          pipe_is = subst (λ (n : Option ℕ). PipeShows i o v net n connection) (sym (ap (λ (y : Writing). y.conn) own)) (shows v same);
          office_is = stands.office_is ∙ (sym to.office ∙ sym (ap (λ (u : World). u.office) (happened w (apply w k) e out)));
        };
        others = λ d l y none z. same-end r i o w v net d l y (same d l) z;
      }

  link_moves : (w v : World) (net : Net) (conn : Option ℕ) (link : Option (Link I O)) → ((d : ℕ) (l : Bool) → is_over v d l ≡ is_over w d l) → LinkShows i o w net conn link → LinkShows i o v net conn link
  link_moves w v net conn None same s = s
  link_moves w v net conn (Some link) same s = record {
    conn_is = s.conn_is;
    end_is = same-end r i o w v net link.end.id.0 false link.end (same link.end.id.0 false) s.end_is;
    heard = s.heard;
  }

  -- A step of a writer whose pipeline stands.
  stream_left : (w : World) (net : Net) (e : Event) (b : ℕ) (office : OfficeState) (k : Change) (s : Step) (at_end : Conn I O) (incoming : IncomingState) (left : Pipe I O) (how : Sending) (half : O) (road road' : R) → outcome w e ≡ Some (apply w k) → HasDone w b s k
      → ClientStands r i o w net b office (w.writers b).known (pipe.Streaming at_end incoming) road → SpellDown (happens w e) at_end.id.0 → SendsAction o s.action at_end.outward half how
      → FollowsSending r i o how (is_connected s.writer.phase) (record at_end { outward = half }) incoming road road' (Ok left) → ClientLeft r i o w net (happens w e) b office s.writer left road'
  stream_left w net e b office k s at_end incoming left sending.Done half road road' out done stands spelled sends follows =
      let c : ℕ = at_end.id.0 in
      let p = stands.pipe_is in
      let x : WriterRecord = s.writer in
      let shut : Bool = not (is_connected x.phase) in
      let flushes : SendsBy w k (upper_flushes (Some c) shut (action_sends s.action)) =
      subst (λ (n : Option ℕ). SendsBy w k (upper_flushes n shut (action_sends s.action))) p.conn_is ((writer-sends w b x).does done.waits s.action done.bytes k done.is) in
      let down : SpellDown (apply w k) c = subst (λ (u : World). SpellDown u c) (happened w (apply w k) e out) spelled in
      let is : IsSpelled s.action = sent_spelled w k c shut s.action flushes down in
      let to = done_to w b done.waits s.action x done.bytes k done.is in
      let acted : HasActed i o w w net net e b c office k x (action_sends s.action) (is_over w c false) (record at_end { outward = half }) incoming = record {
        out = out;
        conn = p.conn_is;
        sends = flushes;
        writer = to.writer ∙ ap (writing_as x) p.conn_is;
        office_is = stands.office_is ∙ sym to.office;
        is_net = stands.roads_are.is_net;
        held = held_sent i o net (held_by (is_over w c false)) c s.action at_end half is sends (end_held i o w net c false at_end p.end_is);
        over_is = refl;
        received = p.received;
        others = λ d l y none z. z;
      } in
      settled_left r i o w w net net e b c office k x (action_sends s.action) (is_over w c false) (record at_end { outward = half }) incoming left road road' acted (record { sane = stands.roads_are.sane; shows = stands.roads_are.shows }) follows
  stream_left w net e b office k s at_end incoming left sending.Failed half road road' out done stands spelled sends follows = absurd follows
  stream_left w net e b office k s at_end incoming left sending.Memory half road road' out done stands spelled sends follows = absurd follows

  none_sent : (a : Action) → a ≡ action.Took → action_sends a ≡ []
  none_sent a is = ap action_sends is

  some_left : (x y : Pipe I O) → ◌≡◌ {A = Result (Pipe I O) ClientFault} (Ok x) (Ok y) → y ≡ x
  some_left x y h = cc

  act_left : (w : World) (net : Net) (e : Event) (b : ℕ) (office : OfficeState) (k : Change) (s : Step) (connection left : Pipe I O) (road road' : R) → outcome w e ≡ Some (apply w k) → HasDone w b s k
      → ClientStands r i o w net b office (w.writers b).known connection road → KeepsSetup connection s → IfSome (w.writers b).conn (SpellDown (happens w e)) → IsFollowed r i o (is_connected s.writer.phase) s.action connection road road' (Ok left)
      → ClientLeft r i o w net (happens w e) b office s.writer left road'
  act_left w net e b office k s pipe.Closed left road road' out done stands keeps spelled f =
      let x : WriterRecord = s.writer in
      let none : (w.writers b).conn ≡ None = stands.pipe_is in
      let flushes : SendsBy w k [] = subst (λ (n : Option ℕ). SendsBy w k (upper_flushes n (not (is_connected x.phase)) (action_sends s.action))) none ((writer-sends w b x).does done.waits s.action done.bytes k done.is) in
      subst (λ (y : R). ClientLeft r i o w net (happens w e) b office x left y) (sym f.1)
      (subst (λ (y : Pipe I O). ClientLeft r i o w net (happens w e) b office x y road) (some_left left pipe.Closed f.0)
      (still_left w net e b office k s.action x pipe.Closed road out flushes (done_to w b done.waits s.action x done.bytes k done.is) stands (λ v same. if_none (is_connected x.phase) (w.writers b).conn none)))
  act_left w net e b office k s (pipe.SettingUp setup) left road road' out done stands keeps spelled f =
      let x : WriterRecord = s.writer in
      let conn : Option ℕ = (w.writers b).conn in
      let does : SendsBy w k (upper_flushes conn (not (is_connected x.phase)) (action_sends s.action)) = (writer-sends w b x).does done.waits s.action done.bytes k done.is in
      let quiet : SendsBy w k (upper_flushes conn (not (is_connected x.phase)) []) = subst (λ (ms : List Message). SendsBy w k (upper_flushes conn (not (is_connected x.phase)) ms)) (none_sent s.action keeps.0) does in
      let flushes : SendsBy w k [] = unsent w k conn (subst (λ (q : Bool). SendsBy w k (upper_flushes conn (not q) [])) keeps.1 quiet) in
      let has : (writing_as x conn).conn ≡ conn = ap (λ (q : Bool). if q then conn else None) keeps.1 in
      subst (λ (y : R). ClientLeft r i o w net (happens w e) b office x left y) (sym f.1)
      (subst (λ (y : Pipe I O). ClientLeft r i o w net (happens w e) b office x y road) (some_left left (pipe.SettingUp setup) f.0)
      (still_left w net e b office k s.action x (pipe.SettingUp setup) road out flushes (done_to w b done.waits s.action x done.bytes k done.is) stands
      (λ v same. subst (λ (n : Option ℕ). LinkShows i o v net n setup.link) (sym has) (link_moves w v net conn setup.link same stands.pipe_is))))
  act_left w net e b office k s (pipe.Streaming at_end incoming) left road road' out done stands keeps spelled f =
      stream_left w net e b office k s at_end incoming left f.how f.half road road' out done stands (subst (λ (n : Option ℕ). IfSome n (SpellDown (happens w e))) stands.pipe_is.conn_is spelled) f.sends f.follows

  -- WHAT IT LEAVES, OR WHY IT FAILED

  -- What a step leaves.
  pub act_shows : (known known' : WriterRecord) (a : Action) (connection left : Pipe I O) (road road' : R) → a ≡ (own_step known).action → known' ≡ (own_step known).writer → IsFollowed r i o (is_connected known'.phase) a connection road road' (Ok left)
      → ActShows r i o known known' connection road road' (Ok (record { pipe = left; said = said_by a }))
  act_shows known known' a connection left road road' is_a is_x f = λ w net block office takes answered stands can.
      let e : Event = own_event block takes answered in
      let b : ℕ = block.0 in
      let d = step_done w block takes answered stands.told can.enabled in
      let s : Step = own_step known in
      let done : HasDone w b s d.change = subst (λ (y : WriterRecord). HasDone w b (own_step y) d.change) (sym can.given_is) d.done in
      let does : IsFollowed r i o (is_connected s.writer.phase) s.action connection road road' (Ok left) =
      subst (λ (y : Action). IsFollowed r i o (is_connected s.writer.phase) y connection road road' (Ok left)) is_a (subst (λ (y : WriterRecord). IsFollowed r i o (is_connected y.phase) a connection road road' (Ok left)) is_x f) in
      let to = done_to w b done.waits s.action s.writer done.bytes d.change done.is in
      record {
        shows = subst (λ (y : WriterRecord). ClientLeft r i o w net (happens w e) b office y left road') (sym is_x)
            (act_left w net e b office d.change s connection left road road' d.out done stands can.keeps can.spelled does);
        said = ap (λ (u : World). u.said b) (happened w (apply w d.change) e d.out) ∙ (to.said ∙ ap (λ (y : Action). w.said b ++ said_in (said_by y)) (sym is_a));
      }

  -- Why it failed.
  pub act_failed : (known known' : WriterRecord) (on : Bool) (a : Action) (connection : Pipe I O) (road road' : R) (why : ClientFault) → IsFollowed r i o on a connection road road' (Err why) → ActShows r i o known known' connection road road' (Err why)
  act_failed known known' on a connection road road' why f = λ w net block office takes answered stands can. act_caused r i o w net (w.writers block.0).conn on a connection road road' why stands.pipe_is f

  pub act_failed_as : (known known' : WriterRecord) (on : Bool) (a : Action) (connection : Pipe I O) (road road' : R) (result : Result (Acted I O) ClientFault) (why : ClientFault) → result ≡ Err why → IsFollowed r i o on a connection road road' (Err why) → ActShows r i o known known' connection road road' result
  act_failed_as known known' on a connection road road' result why is f = subst (λ (x : Result (Acted I O) ClientFault). ActShows r i o known known' connection road road' x) (sym is) (act_failed known known' on a connection road road' why f)
