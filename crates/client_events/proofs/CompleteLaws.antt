-- A writer that has its block completed, and the world after it.
use Rattle.std.proofs.Common.{◌≡◌, inl, inr, ℕ, not, Bool, true, false, if◌then◌else◌, List, [], ◌∷◌, ◌++◌, option_map, Option, Some, None, Result, Ok, Err, refl, sym, ap, ◌∙◌, subst}
use Rattle.std.proofs.lemmas.List.{append-nil}
use Rattle.hd_base.specs.Results.{Gives}
use Rattle.hd_base.specs.declared.links.LinkIn as link_in
use Rattle.hd_base.specs.declared.links.LinkOut as link_out
use Rattle.hd_base.specs.declared.numbers.BlockId.{BlockId}
use Rattle.hd_base.specs.declared.roads.Roads as roads
use Rattle.name_core.specs.declared.calls.OfficeAnswer.{OfficeAnswer}
use Rattle.name_core.specs.declared.calls.OfficeAnswer.TheVariants as granted_as
use Rattle.name_core.specs.declared.calls.OfficeCall.{OfficeCall}
use Rattle.name_core.specs.declared.calls.OfficeCall.TheVariants as call
use Rattle.name_core.specs.declared.desks.Desk as desks
use Rattle.name_core.specs.declared.faults.OfficeFault.{OfficeFault}
use Rattle.name_core.specs.declared.faults.OfficeFault.TheVariants as office_fault
use Rattle.name_core.specs.Books.{is_entry}
use Rattle.name_core.specs.Desks.{AnswersAsOffice, office_after_answer}
use Rattle.name_core.specs.Offices.{OfficeState, office_after, answer_to}
use Rattle.member_events.specs.PacketStream.Streams.{written_in}
use Rattle.road_traffic.specs.Showing.{Net}
use Rattle.member_events.specs.World.Caller.TheVariants as caller
use Rattle.member_events.specs.World.Event.{Event}
use Rattle.member_events.specs.World.Event.TheVariants as event
use Rattle.member_events.specs.World.Parts.{Told, Writing}
use Rattle.member_events.specs.World.Parts as parts
use Rattle.member_events.specs.World.Worlds.{World, Change, apply}
use Rattle.member_events.specs.World.Clients.{writing_as, writer_change, own_writer, writer_step, reached_answer, did, rest_in}
use Rattle.member_events.specs.World.Events.{outcome, happens}
use Rattle.member_events.specs.World.Primaries.{asks_writer}
use Rattle.member_events.specs.WorldNets.Steps.{SendsBy}
use Rattle.member_events.specs.WorldNets.Flushing.{upper_flushes, action_sends}
use Rattle.member_events.proofs.WorldNets.DrawnLemmas.{own-makes, asks-make}
use Rattle.member_events.proofs.WorldNets.EndLemmas.{same-end}
use Rattle.member_events.proofs.WorldNets.FlushingLemmas.{writer-sends}
use Rattle.member_events.proofs.WorldNets.StepLemmas.{changed-net, changed-over, followed}
use Rattle.writer_core.specs.declared.actions.Action.{Action}
use Rattle.writer_core.specs.declared.actions.Action.TheVariants as action
use Rattle.writer_core.specs.declared.actions.ClientAnswer.TheVariants as answer
use Rattle.writer_core.specs.declared.phases.Phase.{Phase}
use Rattle.writer_core.specs.declared.phases.Phase.TheVariants as phase
use Rattle.writer_core.specs.declared.records.WriterRecord.{WriterRecord}
use Rattle.writer_core.specs.Transitions.{Step, step, step_in, own_step, granted, granted_in, complete_given, refused, completed_step, ordinal, is_connected, asks}
use Rattle.member_events.proofs.WorldLaws.{at_put, happened}
use Rattle.client_events.specs.declared.acting.Said.{Said}
use Rattle.client_events.specs.declared.faults.ClientFault.{ClientFault}
use Rattle.client_events.specs.declared.faults.ClientFault.TheVariants as fault
use Rattle.client_events.specs.declared.pipes.Pipe.TheVariants as pipe
use Rattle.client_events.specs.Acting.{said_by, said_in, AnswersIf}
use Rattle.client_events.specs.Completing.{put_as, Puts, is_completed}
use Rattle.client_events.specs.Events.{own_event, CompleteLeft, CompleteShows}
use Rattle.client_events.specs.Showing.{StayShown, ClientStands, ClientLeft}
use Rattle.client_events.proofs.ActLaws.{DoneTo, done_to, at_add, if_none}

-- WHAT THE WRITER ASKS

-- A writer whose packets are all acked asks the office to complete its block.
pub finished_step : (x : WriterRecord) → x.phase ≡ phase.Finished → own_step x ≡ step (action.Ask (call.Complete x.block x.committed (written_in x.stream))) x
unfolding own_step
finished_step x h = ap (step_in x) h

-- where a writer may be that the office has answered then
abbrev pub IsAnswered : Phase → Type 0
IsAnswered phase.Finished = Unit {0}
IsAnswered phase.Completed = Unit {0}
IsAnswered (phase.Failed f) = Unit {0}
IsAnswered other = ⊥

still_finished : (x : WriterRecord) → x.phase ≡ phase.Finished → IsAnswered x.phase
still_finished x h = subst IsAnswered (sym h) tt

after_given : (x : WriterRecord) (a : OfficeAnswer) → x.phase ≡ phase.Finished → IsAnswered (complete_given x a).phase
after_given x granted_as.Nothing h = tt
after_given x other h = still_finished x h

after_refused : (x : WriterRecord) (e : OfficeFault) → x.phase ≡ phase.Finished → IsAnswered (refused x e).phase
after_refused x office_fault.Memory h = still_finished x h
after_refused x (office_fault.LeaseLost recovery) h = tt
after_refused x other h = tt

after_answer : (x : WriterRecord) (told : Told) → x.phase ≡ phase.Finished → IsAnswered (granted x told).phase
unfolding granted
after_answer x (Ok a) h = subst (λ (y : WriterRecord). IsAnswered y.phase) (sym (ap (λ (p : Phase). granted_in x p a) h)) (after_given x a h)
after_answer x (Err e) h = subst (λ (q : Bool). IsAnswered (if q then refused x e else x).phase) (sym (ap asks h)) (after_refused x e h)

-- THE OFFICE

entry_of : (r : Told) → put_as r ≡ Ok tt → is_entry r ≡ true
entry_of (Ok x) h = refl
entry_of (Err office_fault.Memory) h = cc
entry_of (Err other) h = refl

pub no_memory : (e : OfficeFault) → e ≡ office_fault.Memory → put_as (Err e) ≡ Ok tt → ⊥
no_memory e is h = let k : put_as (Err office_fault.Memory) ≡ Ok tt = subst (λ (x : OfficeFault). put_as (Err x) ≡ Ok tt) is h in cc

answer_is : (r x : Told) → put_as r ≡ Ok tt → Gives office_fault.Memory r x → r ≡ x
answer_is (Ok a) x h g = g
answer_is (Err e) x h (inl is) = absurd (no_memory e is h)
answer_is (Err e) x h (inr is) = is

-- What a call makes of an office that is observable.
pub record PutTo {D : Type 0} (d : desks.Ghosts D) (o : OfficeState) (c : OfficeCall) (known known' : WriterRecord) (desk' : D) : Type 0 where
  pub office : d.office desk' ≡ Some (office_after o c)
  pub writer : known' ≡ granted known (answer_to o c)

pub put_to : {D : Type 0} (d : desks.Ghosts D) (o : OfficeState) (c : OfficeCall) (known known' : WriterRecord) (desk desk' : D) → d.office desk ≡ Some o → Puts d c known known' desk desk' (Ok tt) → PutTo d o c known known' desk'
put_to d o c known known' desk desk' at p =
    let entry : is_entry p.answer ≡ true = entry_of p.answer (sym p.ends) in
    let is : p.answer ≡ answer_to o c = answer_is p.answer (answer_to o c) (sym p.ends) (subst (λ (x : Option OfficeState). AnswersAsOffice x c p.answer) at p.answers) in
    record {
      office = p.office ∙ (ap (option_map (office_after_answer c p.answer)) at ∙ ap (λ (q : Bool). Some (if q then office_after o c else o)) entry);
      writer = p.writer ∙ ap (granted known) is;
    }

-- THE WORLD

-- One step in which nothing is sent leaves roads and ends as they are.
pub stays_shown : (w : World) (k : Change) (e : Event) → outcome w e ≡ Some (apply w k) → SendsBy w k [] → StayShown w (happens w e)
stays_shown w k e out sends =
    let f = followed w (apply w k) e out in record {
      nets = λ net is. f.nets net (changed-net w net k [] is sends);
      over = λ c l. f.over c l ∙ changed-over w k c l;
    }

pub shown_on : (w u v : World) → StayShown w u → StayShown u v → StayShown w v
shown_on w u v a b = record { nets = λ net is. b.nets net (a.nets net is); over = λ c l. b.over c l ∙ a.over c l }

-- The office was asked.
pub record AskedTo (w v : World) (b : ℕ) (c : OfficeCall) : Type 0 where
  pub writer : v.writers b ≡ record (w.writers b) { told = Some (answer_to w.office c) }
  pub office : v.office ≡ office_after w.office c
  pub said : v.said b ≡ w.said b

pub asked_to : (w : World) (b : ℕ) (c : OfficeCall) → AskedTo w (apply w (asks_writer w b c)) b c
unfolding apply
asked_to w b c = record {
  writer = at_put w.writers b (record (w.writers b) { told = Some (answer_to w.office c) });
  office = refl;
  said = at_add w.said b [] ∙ append-nil (w.said b);
}

pub asked_on : (w v u : World) (b : ℕ) (c : OfficeCall) (e : Event) → v ≡ record u { last = Some e } → AskedTo w u b c → AskedTo w v b c
asked_on w v u b c e is a = record {
  writer = ap (λ (z : World). z.writers b) is ∙ a.writer;
  office = ap (λ (z : World). z.office) is ∙ a.office;
  said = ap (λ (z : World). z.said b) is ∙ a.said;
}

pub moved_to : (w : World) (b : ℕ) (x : WriterRecord) → DoneTo w (apply w (writer_change w b x)) b action.Wait x
unfolding apply
moved_to w b x = record { writer = at_put w.writers b (writing_as x (w.writers b).conn); office = refl; said = at_add w.said b [] }

-- The rest of a writer's step, in a world in which it has no connection.
record RestDone (w : World) (b : ℕ) (y z : WriterRecord) (said : Option Said) (answered : Bool) : Type 0 where
  change : Change
  is : rest_in y.phase w b y answered ≡ Some change
  sends : SendsBy w change []
  writer : (apply w change).writers b ≡ record { known = z; conn = None; told = None }
  office : (apply w change).office ≡ w.office
  said_is : (apply w change).said b ≡ w.said b ++ said_in said

none_writing : (z : WriterRecord) (conn : Option ℕ) → conn ≡ None → ◌≡◌ {A = Writing} (writing_as z conn) (record { known = z; conn = None; told = None })
none_writing z conn h = ap (λ (n : Option ℕ). record { known = z; conn = n; told = None }) (if_none (is_connected z.phase) conn h)

rest_moves : (w : World) (b : ℕ) (y : WriterRecord) (answered : Bool) → (w.writers b).conn ≡ None → rest_in y.phase w b y answered ≡ Some (writer_change w b y) → RestDone w b y y None answered
rest_moves w b y answered none is =
    let to = moved_to w b y in record {
      change = writer_change w b y;
      is = is;
      sends = subst (λ (n : Option ℕ). SendsBy w (writer_change w b y) (upper_flushes n (not (is_connected y.phase)) [])) none (writer-sends w b y).moves;
      writer = to.writer ∙ none_writing y (w.writers b).conn none;
      office = to.office;
      said_is = to.said;
    }

completed_own : (y : WriterRecord) → y.phase ≡ phase.Completed → own_step y ≡ completed_step y
unfolding own_step
completed_own y h = ap (step_in y) h

-- the change in which the close is answered
abbrev close_change : World → ℕ → WriterRecord → Change
close_change w b y = record (writer_change w b (completed_step y).writer) {
  said = record { ordinal = ordinal y; answer = answer.Reached (written_in y.stream) y.committed y.members } ∷ [];
  answered = reached_answer b y.waiting (answer.Reached (written_in y.stream) y.committed y.members);
}

rest_closes : (w : World) (b : ℕ) (y : WriterRecord) (answered : Bool) → (w.writers b).conn ≡ None → y.phase ≡ phase.Completed → RestDone w b y (completed_step y).writer (said_by (completed_step y).action) answered
rest_closes w b y answered none at =
    let s : Step = completed_step y in
    let k : Change = close_change w b y in
    let done : did w b y.waiting s.action s.writer [] ≡ Some k = refl in
    let to = done_to w b y.waiting s.action s.writer [] k done in record {
      change = k;
      is = ap (λ (p : Phase). rest_in p w b y answered) at;
      sends = subst (λ (n : Option ℕ). SendsBy w k (upper_flushes n (not (is_connected s.writer.phase)) (action_sends s.action))) none ((writer-sends w b s.writer).does y.waiting s.action [] k done);
      writer = to.writer ∙ none_writing s.writer (w.writers b).conn none;
      office = to.office;
      said_is = to.said;
    }

pub ok_said : (x y : Option Said) → ◌≡◌ {A = Result (Option Said) ClientFault} (Ok x) (Ok y) → x ≡ y
ok_said x y h = cc

rest_same : (w : World) (b : ℕ) (y z : WriterRecord) (said : Option Said) (answered : Bool) → (w.writers b).conn ≡ None → rest_in y.phase w b y answered ≡ Some (writer_change w b y) → z ≡ y → said ≡ None → RestDone w b y z said answered
rest_same w b y z said answered none is same quiet =
    subst (λ (x : WriterRecord). RestDone w b y x said answered) (sym same) (subst (λ (x : Option Said). RestDone w b y y x answered) (sym quiet) (rest_moves w b y answered none is))

by_phase : (w : World) (b : ℕ) (p : Phase) (y z : WriterRecord) (said : Option Said) (answered : Bool) → (w.writers b).conn ≡ None → y.phase ≡ p → IsAnswered p → AnswersIf (is_completed p) y z (Ok said) → RestDone w b y z said answered
by_phase w b phase.Completed y z said answered none at ok c =
    let own = completed_own y at in
    subst (λ (x : WriterRecord). RestDone w b y x said answered) (sym (c.0 ∙ ap (λ (s : Step). s.writer) own))
    (subst (λ (x : Option Said). RestDone w b y (completed_step y).writer x answered) (sym (c.1 ∙ ap (λ (s : Step). said_by s.action) own)) (rest_closes w b y answered none at))
by_phase w b phase.Finished y z said answered none at ok c = rest_same w b y z said answered none (ap (λ (p : Phase). rest_in p w b y answered) at) c.0 (ok_said said None c.1)
by_phase w b (phase.Failed f) y z said answered none at ok c = rest_same w b y z said answered none (ap (λ (p : Phase). rest_in p w b y answered) at) c.0 (ok_said said None c.1)
by_phase w b other y z said answered none at ok c = absurd ok

-- A writer that has the office's answer goes on with its step.
told_step : (w w1 : World) (block : BlockId) (answered : Bool) (known : WriterRecord) (told : Told) (k : Change) → w1.writers block.0 ≡ record (w.writers block.0) { told = Some told } → known ≡ (w.writers block.0).known
    → rest_in (granted known told).phase w1 block.0 (granted known told) answered ≡ Some k → own_writer w1 block.0 None answered ≡ Some k
told_step w w1 block answered known told k at is rest =
    let b : ℕ = block.0 in
    ap (λ (x : Writing). writer_step w1 b x.known x.told None answered) at
    ∙ (ap (λ (x : WriterRecord). rest_in (granted x told).phase w1 b (granted x told) answered) (sym is) ∙ rest)

-- The office has answered a writer, which goes on with its step.
pub record OfficeAsked (w w1 : World) (block : BlockId) (c : OfficeCall) (y : WriterRecord) (answered : Bool) : Type 0 where
  pub stay : StayShown w w1
  pub at : AskedTo w w1 block.0 c
  pub goes : (k : Change) → rest_in y.phase w1 block.0 y answered ≡ Some k → outcome w1 (own_event block None answered) ≡ Some (apply w1 k)

pub office_asked : (w : World) (block : BlockId) (c : OfficeCall) (known : WriterRecord) (answered : Bool) → known ≡ (w.writers block.0).known → (w.writers block.0).told ≡ None → (own_step known).action ≡ action.Ask c
    → OfficeAsked w (happens w (event.Office (caller.Writer block))) block c (granted known (answer_to w.office c)) answered
office_asked w block c known answered is told does =
    let b : ℕ = block.0 in
    let e : Event = event.Office (caller.Writer block) in
    let k : Change = asks_writer w b c in
    let out = asks-make w block c told (subst (λ (x : WriterRecord). (own_step x).action ≡ action.Ask c) is does) in
    let w1 : World = happens w e in
    let a = asked_on w w1 (apply w k) b c e (happened w (apply w k) e out) (asked_to w b c) in record {
      stay = stays_shown w k e out ((writer-sends w b known).asks c);
      at = a;
      goes = λ change rest. own-makes w1 block None answered change (told_step w w1 block answered known (answer_to w.office c) change a.writer is rest);
    }

-- WHAT IT LEAVES

module _ {D : Type 0} (d : desks.Ghosts D) where
  -- The office has answered, and the writer has gone on.
  pub complete_left : (known asked told known' : WriterRecord) (c : OfficeCall) (desk desk' : D) (said : Option Said) → action.Ask c ≡ (own_step known).action → asked ≡ (own_step known).writer → Puts d c asked told desk desk' (Ok tt)
      → AnswersIf (is_completed told.phase) told known' (Ok said) → CompleteShows d known known' desk desk' (Ok said)
  complete_left known asked told known' c desk desk' said is_c is_asked puts closes = λ w block answered can.
      let b : ℕ = block.0 in
      let own = finished_step known can.finished in
      let same : asked ≡ known = is_asked ∙ ap (λ (s : Step). s.writer) own in
      let e1 : Event = event.Office (caller.Writer block) in
      let w1 : World = happens w e1 in
      let a = office_asked w block c known answered can.writer can.told (sym is_c) in
      let p = put_to d w.office c asked told desk desk' can.office puts in
      let answer_is : Told = answer_to w.office c in
      let y : WriterRecord = granted known answer_is in
      let is_y : told ≡ y = p.writer ∙ ap (λ (x : WriterRecord). granted x answer_is) same in
      let none : (w1.writers b).conn ≡ None = ap (λ (x : Writing). x.conn) a.at.writer ∙ can.conn in
      let rest = by_phase w1 b y.phase y known' said answered none refl (after_answer known answer_is can.finished) (subst (λ (x : WriterRecord). AnswersIf (is_completed x.phase) x known' (Ok said)) is_y closes) in
      let e2 : Event = own_event block None answered in
      let out2 = a.goes rest.change rest.is in
      let v : World = happens w1 e2 in
      let is_v = happened w1 (apply w1 rest.change) e2 out2 in
      record {
        stay = shown_on w w1 v a.stay (stays_shown w1 rest.change e2 out2 rest.sends);
        writer = ap (λ (z : World). z.writers b) is_v ∙ rest.writer;
        office = p.office ∙ ap Some (sym a.at.office ∙ (sym rest.office ∙ sym (ap (λ (z : World). z.office) is_v)));
        said_is = ap (λ (z : World). z.said b) is_v ∙ (rest.said_is ∙ ap (λ (l : List parts.Said). l ++ said_in said) a.at.said);
      }

  -- It asks the office, and nothing else.
  pub complete_else : (known known' : WriterRecord) (does : Action) (desk : D) (said : Option Said) → does ≡ (own_step known).action → ((c : OfficeCall) → does ≡ action.Ask c → ⊥) → CompleteShows d known known' desk desk (Ok said)
  complete_else known known' does desk said is none = λ w block answered can.
      absurd (none (call.Complete known.block known.committed (written_in known.stream)) (is ∙ ap (λ (s : Step). s.action) (finished_step known can.finished)))

  pub complete_memory : (known known' : WriterRecord) (desk desk' : D) (why : ClientFault) → why ≡ fault.Memory → CompleteShows d known known' desk desk' (Err why)
  complete_memory known known' desk desk' why h = λ w block answered can. h

pub answers_failed : (q : Bool) (w w' : WriterRecord) (why : ClientFault) → AnswersIf q w w' (Err why) → why ≡ fault.Memory
answers_failed true w w' why c = c
answers_failed false w w' why c = cc (c.1)

-- What is left, or memory ran out.
pub complete_shows : {D : Type 0} (d : desks.Ghosts D) (known asked told known' : WriterRecord) (c : OfficeCall) (desk desk' : D) (result : Result (Option Said) ClientFault) → action.Ask c ≡ (own_step known).action → asked ≡ (own_step known).writer → Puts d c asked told desk desk' (Ok tt)
    → AnswersIf (is_completed told.phase) told known' result → CompleteShows d known known' desk desk' result
complete_shows d known asked told known' c desk desk' (Ok said) is_c is_asked puts closes = complete_left d known asked told known' c desk desk' said is_c is_asked puts closes
complete_shows d known asked told known' c desk desk' (Err why) is_c is_asked puts closes = complete_memory d known known' desk desk' why (answers_failed (is_completed told.phase) told known' why closes)

-- What shows the world before shows it after.
pub completed_stands : {R I O D : Type 0} (r : roads.Ghosts R I O) (i : link_in.Ghosts I) (o : link_out.Ghosts O) (d : desks.Ghosts D) (w : World) (net : Net) (v : World) (b : ℕ) (office : OfficeState) (known : WriterRecord) (desk : D) (said : Option Said) (road : R)
    → ClientStands r i o w net b office (w.writers b).known pipe.Closed road → CompleteLeft d w v b known desk said → ClientLeft r i o w net v b v.office known pipe.Closed road
completed_stands r i o d w net v b office known desk said road stands left = record {
  made = net;
  stands = record {
    roads_are = record { is_net = left.stay.nets net stands.roads_are.is_net; sane = stands.roads_are.sane; shows = stands.roads_are.shows };
    writer = sym (ap (λ (y : Writing). y.known) left.writer);
    told = ap (λ (y : Writing). y.told) left.writer;
    pipe_is = ap (λ (y : Writing). y.conn) left.writer;
    office_is = refl;
  };
  others = λ c l e none z. same-end r i o w v net c l e (left.stay.over c l) z;
}
