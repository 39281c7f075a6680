-- A client that hears, and the world after it.
use Rattle.std.proofs.Common.{◌≡◌, ◌≢◌, ℕ, Bool, true, false, List, [], ◌∷◌, ◌++◌, map, if◌then◌else◌, Option, Some, None, Result, Ok, Err, IfSome, refl, sym, ap, ◌∙◌, subst, append-nil, eqb-true}
use Rattle.std.proofs.lemmas.Option.{same_Some}
use Rattle.std.specs.Prelude.{◌==◌, ◌&&◌, is_some, is_none, nat_lt}
use Rattle.hd_base.specs.declared.numbers.ConnId.{ConnId}
use Rattle.hd_base.specs.declared.numbers.NodeId.{NodeId}
use Rattle.hd_base.specs.declared.links.LinkIn as link_in
use Rattle.hd_base.specs.declared.links.LinkOut as link_out
use Rattle.hd_base.specs.declared.roads.Roads as roads
use Rattle.name_core.specs.declared.desks.Desk as desks
use Rattle.client_events.specs.PipeRecovery.Link.{Link}
use Rattle.client_events.specs.PipeRecovery.Rebuild.{Rebuild}
use Rattle.client_events.specs.PipeRecovery.Steps.{fits_in, is_stamped}
use Rattle.road_traffic.specs.Showing.{Net}
use Rattle.world.specs.declared.events.Event.TheVariants as event
use Rattle.world.specs.Parts as parts
use Rattle.world.specs.Parts.{Message, request, packet, ack, response, read_status, recovery_answer, Upper, by_writer}
use Rattle.world.specs.Worlds.{World, apply}
use Rattle.world.specs.Connections.{Next, message, the_end, next_up, up_taken, is_conn}
use Rattle.world.specs.Events.{happens}
use Rattle.world.specs.Enabled.{takes_above}
use Rattle.play_model.proofs.WorldLaws.FactTables.{and-left, and-right}
use Rattle.client_events.specs.WorldNets.Drawn.{ComesUp, HearsPipe, hears_as}
use Rattle.client_events.proofs.WorldNets.DrawnLemmas.{up-makes}
use Rattle.world_orders.specs.Orders as orders
use Rattle.world_orders.specs.Orders.{Ordered, IsWriterConn, HasTaken, comes_up, pipeline, is_requested}
use Rattle.world_orders.specs.Takes.{TakesInOrder}
use Rattle.world_orders.proofs.AllOrdered.{next-found}
use Rattle.client_events.specs.WorldTexts.Texts.{Written, SpellsText}
use Rattle.writer_core.specs.declared.phases.Phase.{Phase}
use Rattle.writer_core.specs.declared.phases.Phase.TheVariants as phase
use Rattle.writer_core.specs.declared.records.WriterRecord.{WriterRecord}
use Rattle.writer_core.specs.Transitions.{is_connected}
use Rattle.play_model.specs.declared.dues.Due.TheVariants as due
use Rattle.play_model.specs.Dues.{Queues, is_due, is_open_above}
use Rattle.client_events.proofs.MemberEvents.WorldLaws.{happened}
use Rattle.client_events.specs.declared.faults.ClientFault.{ClientFault}
use Rattle.client_events.specs.declared.faults.ClientFault.TheVariants as fault
use Rattle.client_events.specs.declared.pipes.Pipe.{Pipe}
use Rattle.client_events.specs.declared.pipes.Pipe.TheVariants as pipe
use Rattle.client_events.specs.Events as events
use Rattle.client_events.specs.Faults as faults
use Rattle.client_events.specs.Showing as showing
use Rattle.client_events.specs.Showing.{LinkShows, awaits, PipeFits}
use Rattle.play_clients.specs.declared.clients.Client.{Client}
use Rattle.play_clients.specs.Clients.{known_of, said_as, ClientShows}
use Rattle.play_clients.specs.Events.{IsCaused, HearIsLawful, AcceptedIsQuiet, HearLeft, HearShows, HearKeepsOffice}
use Rattle.play_clients.specs.Hearing.{SetupHearsIf, PipeHears}

-- WHAT IS DUE

conn_so : (o : Option ℕ) (c : ℕ) → is_conn o c ≡ true → o ≡ Some c
conn_so None c h = cc
conn_so (Some d) c h = ap Some (sym (eqb-true c d h))

told_so : {A : Type 0} (x : Option A) → is_none x ≡ true → x ≡ None
told_so None h = refl
told_so (Some a) h = cc

next_so : {A : Type 0} (x : Option A) → is_some x ≡ true → (a : A) × (x ≡ Some a)
next_so None h = cc
next_so (Some a) h = (a, refl)

both_of : (a b : Bool) → a ≡ true → b ≡ true → (a && b) ≡ true
both_of true b h k = k
both_of false b h k = h

-- What stands next on the connection of a block's writer.
pub record HearsAt (w : World) (c b : ℕ) : Type 0 where
  pub next : Next
  pub comes : ComesUp w c next
  pub conn : (w.writers b).conn ≡ Some c
  pub heard : HearsPipe w c b

pub hears_at : (w : World) (conn : ConnId) (b : ℕ) (queues : Queues) → (w.dialled conn.0).upper ≡ by_writer b → is_due w queues (due.Up conn) ≡ true → HearsAt w conn.0 b
hears_at w conn b queues upper h =
    let c : ℕ = conn.0 in
    let q : Bool = takes_above (w.dialled c).upper w c in
    let up : (nat_lt c w.next_conn && is_some (next_up w c) && q) ≡ true = and-right (is_open_above w (w.dialled c).upper) (nat_lt c w.next_conn && is_some (next_up w c) && q) h in
    let front : (nat_lt c w.next_conn && is_some (next_up w c)) ≡ true = and-left (nat_lt c w.next_conn && is_some (next_up w c)) q up in
    let found = next_so (next_up w c) (and-right (nat_lt c w.next_conn) (is_some (next_up w c)) front) in
    let takes : (is_conn (w.writers b).conn c && is_none (w.writers b).told) ≡ true = ap (λ (u : Upper). takes_above u w c) (sym upper) ∙ and-right (nat_lt c w.next_conn && is_some (next_up w c)) q up in
    let conn_is : is_conn (w.writers b).conn c ≡ true = and-left (is_conn (w.writers b).conn c) (is_none (w.writers b).told) takes in
    record {
      next = found.0;
      comes = record { known = and-left (nat_lt c w.next_conn) (is_some (next_up w c)) front; next = found.1 };
      conn = conn_so (w.writers b).conn c conn_is;
      heard = record { upper = upper; conn = conn_is; told = told_so (w.writers b).told (and-right (is_conn (w.writers b).conn c) (is_none (w.writers b).told) takes) };
    }

-- WHAT COMES

ack_so : (m : Message) → orders.is_ack m ≡ true → SpellsText m → events.IsAckNext (message m)
ack_so (ack a) is h = h
ack_so (packet p) is h = cc
ack_so (request q) is h = cc
ack_so (response q) is h = cc
ack_so (read_status s) is h = cc
ack_so (recovery_answer a) is h = cc

answer_so : (m : Message) → orders.is_response m ≡ true → SpellsText m → events.IsAnswerNext (message m)
answer_so (response q) is h = h
answer_so (packet p) is h = cc
answer_so (request q) is h = cc
answer_so (ack a) is h = cc
answer_so (read_status s) is h = cc
answer_so (recovery_answer a) is h = cc

-- A writer that doesn't wait for the answer to its request hears an ack, or the end.
acks_next : (w : World) (b c : ℕ) (x : Next) → TakesInOrder w → Written w → (w.writers b).conn ≡ Some c → is_requested (w.writers b).known.phase ≡ false → next_up w c ≡ Some x → events.IsAckNext x
acks_next w b c the_end taken written conn free next = tt
acks_next w b c (message m) taken written conn free next =
    ack_so m (subst (λ (q : Bool). comes_up pipeline q m ≡ true) free (taken.writers_hear b c m conn next)) (written.ups c (w.up_marks c).taken m (next-found (w.ups c) (w.up_marks c) m next))

-- One that does hears the answer, or the end.
answer_next : (w : World) (b c : ℕ) (x : Next) → TakesInOrder w → Written w → (w.writers b).conn ≡ Some c → is_requested (w.writers b).known.phase ≡ true → next_up w c ≡ Some x → events.IsAnswerNext x
answer_next w b c the_end taken written conn waits next = tt
answer_next w b c (message m) taken written conn waits next =
    answer_so m (subst (λ (q : Bool). comes_up pipeline q m ≡ true) waits (taken.writers_hear b c m conn next)) (written.ups c (w.up_marks c).taken m (next-found (w.ups c) (w.up_marks c) m next))

-- PHASES

free_so : (p : Phase) → awaits p ≡ false → is_requested p ≡ false
free_so (phase.Requested s stamp) h = cc
free_so p h = refl

-- A setup that has the connection is one on which the writer waits.
pub waits_on : (p : Phase) (linked : Bool) → fits_in p linked ≡ true → is_stamped p ≡ false → linked ≡ true → awaits p ≡ true
waits_on (phase.Wanted s) true f k e = cc
waits_on (phase.Stamped s stamp) linked f k e = cc
waits_on (phase.Requested s stamp) linked f k e = refl
waits_on (phase.Accepted s stamp) true f k e = f
waits_on p false f k e = cc
waits_on p true f k e = cc

-- A writer that waits on the connection of its setup hears the answer to its request, or the end; just the end once the
-- request was accepted.
next_in : (w : World) (b c : ℕ) (x : Next) (p : Phase) → (w.writers b).known.phase ≡ p → awaits p ≡ true → TakesInOrder w → Written w → AcceptedIsQuiet w b → (w.writers b).conn ≡ Some c → next_up w c ≡ Some x → events.IsNextIn p x
next_in w b c x (phase.Requested s stamp) at waits taken written quiet conn next = answer_next w b c x taken written conn (ap is_requested at) next
next_in w b c (message m) (phase.Accepted s stamp) at waits taken written quiet conn next = quiet.quiet c s stamp m at conn next
next_in w b c the_end (phase.Accepted s stamp) at waits taken written quiet conn next = tt
next_in w b c x p at waits taken written quiet conn next = cc

members_so : (p : Phase) (members : List NodeId) (taken : ℕ) → is_requested p ≡ true → HasTaken p members taken → members ≢ []
members_so (phase.Requested s stamp) [] taken w h = cc
members_so (phase.Requested s stamp) (m ∷ ms) taken w h = λ e. cc
members_so p members taken w h = cc

writer_conn : (w : World) (b c : ℕ) (o : Option ℕ) (p : WriterRecord) → o ≡ Some c → IfSome o (λ d. IsWriterConn (w.dialled d) (w.up_marks d).taken b p) → IsWriterConn (w.dialled c) (w.up_marks c).taken b p
writer_conn w b c None p e h = cc
writer_conn w b c (Some d) p e h = subst (λ (n : ℕ). IsWriterConn (w.dialled n) (w.up_marks n).taken b p) (same_Some d c e) h

requested_members : (w : World) (b c : ℕ) → Ordered w → (w.writers b).conn ≡ Some c → is_requested (w.writers b).known.phase ≡ true → (w.writers b).known.members ≢ []
requested_members w b c ordered conn waits =
    members_so (w.writers b).known.phase (w.writers b).known.members (w.up_marks c).taken waits (writer_conn w b c (w.writers b).conn (w.writers b).known conn (ordered.writers_are b)).heard

-- So has one whose request was accepted.
members_in : (w : World) (b c : ℕ) (p : Phase) → (w.writers b).known.phase ≡ p → awaits p ≡ true → Ordered w → AcceptedIsQuiet w b → (w.writers b).conn ≡ Some c → (w.writers b).known.members ≢ []
members_in w b c (phase.Requested s stamp) at waits ordered quiet conn = requested_members w b c ordered conn (ap is_requested at)
members_in w b c (phase.Accepted s stamp) at waits ordered quiet conn = quiet.members s stamp at
members_in w b c p at waits ordered quiet conn = cc

-- WHAT WAS SAID

said_same : (said : List parts.Said) (q : Bool) → (if q then said ++ [] else said) ≡ said
said_same said true = append-nil said
said_same said false = refl

-- A writer that hears answers nothing.
changed_said : (w : World) (b : ℕ) (x : Next) (c : ℕ) → (apply (up_taken w c x) (hears_as (up_taken w c x) b x)).said b ≡ w.said b
unfolding apply up_taken
changed_said w b x c = said_same (w.said b) (b == b)

heard_said : (w : World) (conn : ConnId) (b : ℕ) (x : Next) → ComesUp w conn.0 x → HearsPipe w conn.0 b → (happens w (event.Up conn)).said b ≡ w.said b
heard_said w conn b x comes heard =
    ap (λ (v : World). v.said b) (happened w (apply (up_taken w conn.0 x) (hears_as (up_taken w conn.0 x) b x)) (event.Up conn) ((up-makes w conn x comes).writer b heard)) ∙ changed_said w b x conn.0

-- It ends with this fault.
abbrev pub FailsAs : {A : Type 0} → ClientFault → Result A ClientFault → Type 0
FailsAs why (Ok a) = ⊥
FailsAs why (Err other) = other ≡ why

-- WHERE THE CONNECTION IS

none_some : (c : ℕ) → None ≡ Some c → ⊥
none_some c e = cc

module _ {I O : Type 0} where
  linked : (i : link_in.Ghosts I) (o : link_out.Ghosts O) (w : World) (net : Net) (conn : Option ℕ) (c : ℕ) (link : Option (Link I O)) → conn ≡ Some c → LinkShows i o w net conn link → is_some link ≡ true
  linked i o w net conn c None e h = absurd (none_some c (sym h ∙ e))
  linked i o w net conn c (Some l) e h = refl

module _ {D R I O : Type 0} (d : desks.Ghosts D) (r : roads.Ghosts R I O) (i : link_in.Ghosts I) (o : link_out.Ghosts O) where
  -- What becomes of the writer's connection in the event.
  abbrev PipeEnds : World → Net → World → ℕ → WriterRecord → R → R → Result (Pipe I O) ClientFault → Type 0
  PipeEnds w net v b known' road road' (Ok left) = (showing.ClientLeft r i o w net v b w.office known' left road') × PipeFits known'.phase left
  PipeEnds w net v b known' road road' (Err why) = faults.IsCaused r (w.writers b).conn road road' why

  ends_with : (w : World) (net : Net) (v : World) (b : ℕ) (known known' : WriterRecord) (p : Pipe I O) (road road' : R) (result : Result (Pipe I O) ClientFault) → PipeFits known.phase p → showing.FitsAfter known known' p result → events.EventEnds r i o w net v b w.office known' road road' result
      → PipeEnds w net v b known' road road' result
  ends_with w net v b known known' p road road' (Ok left) fits after h = (h, after fits)
  ends_with w net v b known known' p road road' (Err why) fits after h = h

  -- A writer whose setup has the connection may take what stands next there.
  can_answer : (w : World) (net : Net) (conn : ConnId) (b : ℕ) (known : WriterRecord) (setup : Rebuild I O) (road : R) → showing.ClientStands r i o w net b w.office known (pipe.SettingUp setup) road → awaits known.phase ≡ true → HearIsLawful w b → (at : HearsAt w conn.0 b) → (w.dialled conn.0).upper ≡ by_writer b → AcceptedIsQuiet w b
      → events.CanHearAnswer w conn b known at.next
  can_answer w net conn b known setup road stands waits lawful at upper quiet =
      let same : (w.writers b).known.phase ≡ known.phase = ap (λ (x : WriterRecord). x.phase) (sym stands.writer) in
      record {
        comes = at.comes;
        conn_is = at.conn;
        upper = upper;
        answers = next_in w b conn.0 at.next known.phase same waits lawful.taken lawful.written quiet at.conn at.comes.next;
        waits = waits;
        members = subst (λ (x : WriterRecord). x.members ≢ []) (sym stands.writer) (members_in w b conn.0 known.phase same waits lawful.ordered quiet at.conn);
      }

  setup_waits : (w : World) (net : Net) (conn : ConnId) (b : ℕ) (known : WriterRecord) (setup : Rebuild I O) (road : R) → showing.ClientStands r i o w net b w.office known (pipe.SettingUp setup) road → PipeFits known.phase (pipe.SettingUp setup) → HearsAt w conn.0 b → (awaits known.phase ≡ true) × ((awaits known.phase && is_some setup.link) ≡ true)
  setup_waits w net conn b known setup road stands fits at =
      let held : is_some setup.link ≡ true = linked i o w net (w.writers b).conn conn.0 setup.link at.conn stands.pipe_is in
      let waits : awaits known.phase ≡ true = waits_on known.phase (is_some setup.link) fits.0 fits.1 held in
      (waits, both_of (awaits known.phase) (is_some setup.link) waits held)

  pipe_ends : (w : World) (net : Net) (queues : Queues) (conn : ConnId) (b : ℕ) (known known' : WriterRecord) (p : Pipe I O) (desk desk' : D) (road road' : R) (result : Result (Pipe I O) ClientFault) → showing.ClientStands r i o w net b w.office known p road → PipeFits known.phase p → HearIsLawful w b
      → HearsAt w conn.0 b → (w.dialled conn.0).upper ≡ by_writer b → AcceptedIsQuiet w b → PipeHears r i o known known' p desk desk' road road' result → PipeEnds w net (happens w (event.Up conn)) b known' road road' result
  pipe_ends w net queues conn b known known' pipe.Closed desk desk' road road' result stands fits lawful at upper quiet hears = absurd (none_some conn.0 (sym stands.pipe_is ∙ at.conn))
  pipe_ends w net queues conn b known known' (pipe.Streaming end incoming) desk desk' road road' result stands fits lawful at upper quiet hears =
      let same : conn ≡ end.id = conn_same conn end.id (same_Some conn.0 end.id.0 (sym at.conn ∙ stands.pipe_is.conn_is)) in
      ends_with w net (happens w (event.Up conn)) b known known' (pipe.Streaming end incoming) road road' result fits hears.1
      (subst (λ (e : ConnId). events.EventEnds r i o w net (happens w (event.Up e)) b w.office known' road road' result) (sym same)
      (hears.0 w net b w.office at.next stands (subst (λ (e : ConnId). events.CanHear w e b at.next) same (record {
        comes = at.comes;
        upper = upper;
        acks = acks_next w b conn.0 at.next lawful.taken lawful.written at.conn (ap (λ (x : WriterRecord). is_requested x.phase) (sym stands.writer) ∙ free_so known.phase fits) at.comes.next;
      }))))
    where
      conn_same : (a b : ConnId) → a.0 ≡ b.0 → a ≡ b
      conn_same a b e = ap (λ (n : ℕ). record { 0 = n }) e
  pipe_ends w net queues conn b known known' (pipe.SettingUp setup) desk desk' road road' result stands fits lawful at upper quiet hears =
      let waits = setup_waits w net conn b known setup road stands fits at in
      let does = subst (λ (q : Bool). SetupHearsIf r i o q known known' setup desk desk' road road' result) waits.1 hears in
      ends_with w net (happens w (event.Up conn)) b known known' (pipe.SettingUp setup) road road' result fits does.1
      (does.0 w net b w.office conn at.next stands (can_answer w net conn b known setup road stands waits.0 lawful at upper quiet))

  -- The office is as it was.
  pipe_keeps : (w : World) (net : Net) (conn : ConnId) (b : ℕ) (known known' : WriterRecord) (p : Pipe I O) (desk desk' : D) (road road' : R) (result : Result (Pipe I O) ClientFault) → showing.ClientStands r i o w net b w.office known p road → PipeFits known.phase p → HearIsLawful w b
      → HearsAt w conn.0 b → (w.dialled conn.0).upper ≡ by_writer b → AcceptedIsQuiet w b → PipeHears r i o known known' p desk desk' road road' result → desk' ≡ desk
  pipe_keeps w net conn b known known' pipe.Closed desk desk' road road' result stands fits lawful at upper quiet hears = hears.3
  pipe_keeps w net conn b known known' (pipe.Streaming end incoming) desk desk' road road' result stands fits lawful at upper quiet hears = hears.2
  pipe_keeps w net conn b known known' (pipe.SettingUp setup) desk desk' road road' result stands fits lawful at upper quiet hears =
      let waits = setup_waits w net conn b known setup road stands fits at in
      let does = subst (λ (q : Bool). SetupHearsIf r i o q known known' setup desk desk' road road' result) waits.1 hears in
      does.2 w net b w.office conn at.next stands (can_answer w net conn b known setup road stands waits.0 lawful at upper quiet)

  risen_at : (risen : ℕ → Bool) (conn : Option ℕ) → faults.HasRisen risen conn → (c : ℕ) × (risen c ≡ true)
  risen_at risen None h = absurd h
  risen_at risen (Some c) h = (c, h)

  pub caused : (conn : Option ℕ) (road road' : R) (why : ClientFault) → faults.IsCaused r conn road road' why → IsCaused r road road' why
  caused conn road road' fault.LinkFailed h = risen_at (r.risen road') conn h
  caused conn road road' fault.RoadsFailed h = h
  caused conn road road' fault.Memory h = tt

  -- The client whose writer heard.
  left_shows : (w : World) (net : Net) (v : World) (old : Client I O) (known' : WriterRecord) (left : Pipe I O) (desk : D) (road' : R) → v.said old.block.0 ≡ w.said old.block.0 → map said_as old.said.items ≡ w.said old.block.0 → d.office desk ≡ Some w.office
      → (showing.ClientLeft r i o w net v old.block.0 w.office known' left road') → PipeFits known'.phase left → HearLeft d r i o w net v old (record old { writer = Some known'; pipe = left }) desk road'
  left_shows w net v old known' left desk road' said was office h fits = record {
    made = h.made;
    left = record {
      stands = record {
        roads_are = h.stands.roads_are;
        client_is = record { writer = sym h.stands.writer; told = h.stands.told; pipe_is = h.stands.pipe_is; fits = fits; said = was ∙ sym said };
        office_is = office ∙ ap Some h.stands.office_is;
      };
      others = h.others;
      block = refl;
      rule = refl;
    };
    queue = refl;
  }

  pub heard_left : (old : Client I O) (known known' : WriterRecord) (left : Pipe I O) (desk desk' : D) (road road' : R) → old.writer ≡ Some known → PipeHears r i o known known' old.pipe desk desk' road road' (Ok left)
      → HearShows d r i o old (record old { writer = Some known'; pipe = left }) desk road road' (Ok tt)
  heard_left old known known' left desk desk' road road' is hears = λ w net queues conn stands lawful due upper quiet.
      let b : ℕ = old.block.0 in
      let at : HearsAt w conn.0 b = hears_at w conn b queues upper due in
      let c : ClientShows i o w net old = stands.client_is in
      let known_is : known ≡ (w.writers b).known = sym (c.writer ∙ ap (known_of old.block) is) in
      let h = pipe_ends w net queues conn b known known' old.pipe desk desk' road road' (Ok left) (record { roads_are = stands.roads_are; writer = known_is; told = c.told; pipe_is = c.pipe_is; office_is = refl })
      (subst (λ (x : Option WriterRecord). PipeFits (known_of old.block x).phase old.pipe) is c.fits) lawful at upper quiet hears in
      left_shows w net (happens w (event.Up conn)) old known' left desk road' (heard_said w conn b at.next at.comes at.heard) c.said stands.office_is h.0 h.1

  pub heard_failed : (old new : Client I O) (known known' : WriterRecord) (desk desk' : D) (road road' : R) (why : ClientFault) (end : Result (Unit {0}) ClientFault) → old.writer ≡ Some known → PipeHears r i o known known' old.pipe desk desk' road road' (Err why) → FailsAs why end
      → HearShows d r i o old new desk road road' end
  heard_failed old new known known' desk desk' road road' why (Ok u) is hears fails = absurd fails
  heard_failed old new known known' desk desk' road road' why (Err other) is hears fails = λ w net queues conn stands lawful due upper quiet.
      let b : ℕ = old.block.0 in
      let at : HearsAt w conn.0 b = hears_at w conn b queues upper due in
      let c : ClientShows i o w net old = stands.client_is in
      let known_is : known ≡ (w.writers b).known = sym (c.writer ∙ ap (known_of old.block) is) in
      subst (λ (e : ClientFault). IsCaused r road road' e) (sym fails) (caused (w.writers b).conn road road' why (pipe_ends w net queues conn b known known' old.pipe desk desk' road road' (Err why)
      (record { roads_are = stands.roads_are; writer = known_is; told = c.told; pipe_is = c.pipe_is; office_is = refl })
      (subst (λ (x : Option WriterRecord). PipeFits (known_of old.block x).phase old.pipe) is c.fits) lawful at upper quiet hears))

  -- A writer that was given nothing has no connection.
  pub unmade_deaf : (old : Client I O) (desk : D) (road : R) → old.writer ≡ None → HearShows d r i o old old desk road road (Ok tt)
  unmade_deaf old desk road is = λ w net queues conn stands lawful due upper quiet.
      let b : ℕ = old.block.0 in
      let at : HearsAt w conn.0 b = hears_at w conn b queues upper due in
      let phase_is : is_connected (w.writers b).known.phase ≡ false = ap (λ (x : WriterRecord). is_connected x.phase) (stands.client_is.writer ∙ ap (known_of old.block) is) in
      absurd (none_some conn.0 (sym (lawful.rests phase_is) ∙ at.conn))

  pub hear_keeps : (old : Client I O) (known known' : WriterRecord) (desk desk' : D) (road road' : R) (result : Result (Pipe I O) ClientFault) → old.writer ≡ Some known → PipeHears r i o known known' old.pipe desk desk' road road' result → HearKeepsOffice d r i o old desk desk' road
  hear_keeps old known known' desk desk' road road' result is hears = λ w net queues conn stands lawful due upper quiet.
      let b : ℕ = old.block.0 in
      let at : HearsAt w conn.0 b = hears_at w conn b queues upper due in
      let c : ClientShows i o w net old = stands.client_is in
      let known_is : known ≡ (w.writers b).known = sym (c.writer ∙ ap (known_of old.block) is) in
      pipe_keeps w net conn b known known' old.pipe desk desk' road road' result (record { roads_are = stands.roads_are; writer = known_is; told = c.told; pipe_is = c.pipe_is; office_is = refl })
      (subst (λ (x : Option WriterRecord). PipeFits (known_of old.block x).phase old.pipe) is c.fits) lawful at upper quiet hears
