-- What writers, readers, primaries and the office leave of connections on which nothing behind the request was sent down.
use Rattle.std.proofs.Common.{◌≡◌, ℕ, zero, suc, Bool, true, false, List, [], ◌∷◌, slice_get, Option, Some, None, IfSome, Ok, Err, refl, sym, ◌∙◌, ap, subst, eqb-true}
use Rattle.std.specs.Prelude.{◌==◌, ◌&&◌, not, is_none, zip, if◌then◌else◌}
use Rattle.std.proofs.lemmas.Bool.{false≢true}
use Rattle.hd_base.specs.declared.numbers.BlockId.{BlockId}
use Rattle.hd_base.specs.declared.numbers.NodeId.{NodeId}
use Rattle.hd_base.specs.declared.numbers.Stamp.{Stamp}
use Rattle.op_headers.specs.declared.ops.Op.{Op}
use Rattle.op_headers.specs.declared.ops.ReadOp.{ReadOp}
use Rattle.name_core.specs.declared.calls.OfficeAnswer.TheVariants as office
use Rattle.world.specs.ReadCore.Readings.{ReadTaken, take_from}
use Rattle.world.specs.ReadCore.ReadTurn.{ReadTurn}
use Rattle.world.specs.ReadCore.ReadTurn.TheVariants as turn
use Rattle.recovery_core.specs.declared.primary.OwnStep.{OwnStep}
use Rattle.recovery_core.specs.declared.primary.OwnStep.TheVariants as own
use Rattle.recovery_core.specs.declared.standings.Standing.{Standing}
use Rattle.recovery_core.specs.Primaries.{PrimaryState, own_step, is_among}
use Rattle.writer_core.specs.declared.actions.Action.{Action}
use Rattle.writer_core.specs.declared.actions.Action.TheVariants as action
use Rattle.writer_core.specs.declared.phases.Phase.{Phase}
use Rattle.writer_core.specs.declared.phases.Phase.TheVariants as phase
use Rattle.writer_core.specs.declared.phases.Setup.{Setup}
use Rattle.writer_core.specs.declared.phases.Waiting.{Waiting}
use Rattle.writer_core.specs.declared.records.WriterRecord.{WriterRecord}
use Rattle.writer_core.specs.Transitions.{dial_step_as}
use Rattle.writer_core.specs.Transitions as writer
use Rattle.world.specs.declared.events.Caller.{Caller}
use Rattle.world.specs.declared.events.Caller.TheVariants as caller
use Rattle.world.specs.declared.events.TakenCommand.{TakenCommand}
use Rattle.world.specs.Parts.{Message, Place, by_writer, by_reader, by_primary, Told, Reader, no_reader, reads, has_read, Leading, Primary, no_primary, was_told, leads, has_led}
use Rattle.world.specs.Worlds.{World, Change}
use Rattle.world.specs.Connections.{Next, sent_on, is_alive, is_conn, place_of}
use Rattle.world.specs.Clients.{are_members, did, dialled_change, dialling, rest_in, is_formed, ruled, is_empty, takes_command, writer_step, own_writer, writer_up, reader_dials, own_reader_as, own_reader, from_node_of, reader_turn, reader_up_as, reader_up}
use Rattle.world.specs.Primaries.{begins_as, begins_at, own_recover, updates_on, leads_step, commits_step, leads_told, own_primary_as, own_primary, listens, hears_change, primary_up_as, primary_up, writer_asks, primary_commits, primary_asks, office_event}
use Rattle.play_model.proofs.WorldLaws.FactTables.{if-each, when-each, and-right}
use Rattle.play_laws.proofs.Hushing.{IsAt, Silent, Uppers, Hush, Mute, apart}

reader-apart : (b i : ℕ) → by_writer b ≡ by_reader i → ⊥
reader-apart b i e = cc

primary-apart : (b i place : ℕ) → by_writer b ≡ by_primary i place → ⊥
primary-apart b i place e = cc

module _ (w : World) (c : ℕ) (s : Silent w c) (a : (d : ℕ) → IsAt d (w.lowers d)) where
  -- a change that leaves replicas and lower ends
  hush : (k : Change) → k.replica ≡ w.replicas k.node k.block → k.lower ≡ w.lowers k.lower_at → k.ups c ≡ [] → Hush w c k
  hush k = apart w c s k a

  -- and sends nothing down
  mute : (k : Change) → k.replica ≡ w.replicas k.node k.block → k.lower ≡ w.lowers k.lower_at → k.ups c ≡ [] → k.downs c ≡ [] → Mute w c k
  mute k r l u d = record { hush = hush k r l u; downs = λ b up. d }

  -- WRITERS

  did-hush : (b : ℕ) (waits : Option Waiting) (y : Action) (x : WriterRecord) (bytes : List ℕ) → IfSome (did w b waits y x bytes) (Hush w c)
  did-hush b waits action.Took x bytes = hush _ refl refl refl
  did-hush b waits (action.Send p) x bytes = hush _ refl refl refl
  did-hush b waits (action.Answered k said) x bytes = hush _ refl refl refl
  did-hush b waits action.Wait x bytes = tt
  did-hush b waits (action.Ask q) x bytes = tt
  did-hush b waits (action.Dial to r) x bytes = tt
  did-hush b waits action.Memory x bytes = tt

  dialled-hush : (b : ℕ) (x : WriterRecord) (to : NodeId) (r : Op) (answered : Bool) → Hush w c (dialled_change w b x to r answered)
  dialled-hush b x to r true = hush _ refl refl refl
  dialled-hush b x to r false = hush _ refl refl refl

  dialling-hush : (b : ℕ) (x : WriterRecord) (k : Setup) (stamp : Stamp) (ns : List NodeId) (answered : Bool) → Hush w c (dialling w b x (dial_step_as x k stamp ns).action answered)
  dialling-hush b x k stamp [] answered = hush _ refl refl refl
  dialling-hush b x k stamp (n ∷ ns) answered = dialled-hush b x n _ (answered && w.running n.0)

  rest-hush : (b : ℕ) (p : Phase) (x : WriterRecord) (answered : Bool) → IfSome (rest_in p w b x answered) (Hush w c)
  rest-hush b (phase.Stamped k stamp) x answered = dialling-hush b x k stamp x.members answered
  rest-hush b phase.Opened x answered = did-hush b x.waiting (writer.open_step x).action (writer.open_step x).writer []
  rest-hush b phase.Completed x answered = did-hush b x.waiting (writer.completed_step x).action (writer.completed_step x).writer []
  rest-hush b phase.Closed x answered = hush _ refl refl refl
  rest-hush b (phase.Wanted k) x answered = hush _ refl refl refl
  rest-hush b (phase.Requested k stamp) x answered = hush _ refl refl refl
  rest-hush b (phase.Accepted k stamp) x answered = hush _ refl refl refl
  rest-hush b (phase.Streaming n) x answered = hush _ refl refl refl
  rest-hush b phase.Closing x answered = hush _ refl refl refl
  rest-hush b phase.Finished x answered = hush _ refl refl refl
  rest-hush b (phase.Failed f) x answered = hush _ refl refl refl

  takes-hush : (b : ℕ) (x : WriterRecord) (t : TakenCommand) → IfSome (takes_command w b x t) (Hush w c)
  takes-hush b x t = when-each (Hush w c) (is_formed t.command t.rule && not (is_empty (writer.given x t.command).queue)) _
      (λ _. when-each (Hush w c) (is_empty (writer.own_step (writer.given (ruled x t.command t.rule) t.command)).writer.queue) _
      (λ _. did-hush b _ (writer.own_step (writer.given (ruled x t.command t.rule) t.command)).action _ _))

  step-hush : (b : ℕ) (x : WriterRecord) (told : Option Told) (takes : Option TakenCommand) (answered : Bool) → IfSome (writer_step w b x told takes answered) (Hush w c)
  step-hush b x (Some t) None answered = rest-hush b (writer.granted x t).phase (writer.granted x t) answered
  step-hush b x (Some t) (Some k) answered = tt
  step-hush b x None None answered = did-hush b x.waiting (writer.own_step x).action (writer.own_step x).writer []
  step-hush b x None (Some t) answered = takes-hush b x t

  pub own-writer-hush : (b : ℕ) (takes : Option TakenCommand) (answered : Bool) → IfSome (own_writer w b takes answered) (Hush w c)
  own-writer-hush b takes answered = step-hush b (w.writers b).known (w.writers b).told takes answered

  pub writer-up-hush : (b e : ℕ) (n : Next) → IfSome (writer_up w b e n) (Hush w c)
  writer-up-hush b e n = when-each (Hush w c) (is_conn (w.writers b).conn e && is_none (w.writers b).told) _ (λ _. hush _ refl refl refl)

  -- THE OFFICE

  asks-mute : (y : Action) (b : ℕ) → IfSome (writer_asks y w b) (Mute w c)
  asks-mute (action.Ask k) b = mute _ refl refl refl refl
  asks-mute action.Took b = tt
  asks-mute (action.Send p) b = tt
  asks-mute (action.Answered k said) b = tt
  asks-mute action.Wait b = tt
  asks-mute (action.Dial to r) b = tt
  asks-mute action.Memory b = tt

  commits-mute : (x : OwnStep) (i : ℕ) (l : Leading) → IfSome (primary_commits x w i l) (Mute w c)
  commits-mute (own.Commits k) i l = mute _ refl refl refl refl
  commits-mute own.Waits i l = tt
  commits-mute (own.Updates k) i l = tt
  commits-mute (own.Ends r) i l = tt

  primary-asks-mute : (x : Primary) (i : ℕ) (b : BlockId) → IfSome (primary_asks x w i b) (Mute w c)
  primary-asks-mute no_primary i b = mute _ refl refl refl refl
  primary-asks-mute (leads l) i b = when-each (Mute w c) (is_alive w l.at && is_none l.told) _ (λ _. commits-mute (own_step l.state).does i l)
  primary-asks-mute (was_told q t) i b = tt
  primary-asks-mute (has_led x) i b = tt

  pub office-mute : (k : Caller) → IfSome (office_event w k) (Mute w c)
  office-mute (caller.Writer b) = when-each (Mute w c) (is_none (w.writers b.0).told) _ (λ _. asks-mute (writer.own_step (w.writers b.0).known).action b.0)
  office-mute (caller.Primary i b) = primary-asks-mute (w.primaries i) i b

  module _ (u : Uppers w) where
    -- READERS

    reader-dials-mute : (i n : ℕ) (r : ReadOp) (answered : Bool) → Mute w c (reader_dials w i n r answered)
    reader-dials-mute i n r true = mute _ refl refl refl refl
    reader-dials-mute i n r false = mute _ refl refl refl refl

    own-reader-as-mute : (x : Reader) (i n : ℕ) (r : ReadOp) (answered : Bool) → IfSome (own_reader_as x w i n r answered) (Mute w c)
    own-reader-as-mute no_reader i n r answered = reader-dials-mute i n r (answered && w.running n)
    own-reader-as-mute (reads e y) i n r answered = tt
    own-reader-as-mute (has_read y) i n r answered = tt

    pub own-reader-mute : (i n : ℕ) (r : ReadOp) (answered : Bool) → IfSome (own_reader w i n r answered) (Mute w c)
    own-reader-mute i n r answered = own-reader-as-mute (w.readers i) i n r answered

    reader-sends : (i e : ℕ) (ms : List Message) (b : ℕ) → (w.dialled e).upper ≡ by_reader i → (w.dialled c).upper ≡ by_writer b → sent_on (Some e) ms c ≡ []
    reader-sends i e ms b r q = go (c == e) refl
      where
        go : (t : Bool) → (c == e) ≡ t → (if t then ms else []) ≡ []
        go true x = absurd (reader-apart b i (sym q ∙ ap (λ (j : ℕ). (w.dialled j).upper) (eqb-true c e x) ∙ r))
        go false x = refl

    reader-turn-mute : (i e : ℕ) (t : ReadTaken) (x : ReadTurn) → (w.dialled e).upper ≡ by_reader i → Mute w c (reader_turn w i e t x)
    reader-turn-mute i e t turn.Goes r = mute _ refl refl refl refl
    reader-turn-mute i e t turn.Verified r = record { hush = hush _ refl refl refl; downs = λ b q. reader-sends i e _ b r q }
    reader-turn-mute i e t (turn.Fails f) r = mute _ refl refl refl refl

    reader-up-as-mute : (x : Reader) (i e : ℕ) (n : Next) → w.readers i ≡ x → IfSome (reader_up_as x w i e n) (Mute w c)
    reader-up-as-mute no_reader i e n q = tt
    reader-up-as-mute (reads d y) i e n q = when-each (Mute w c) (d == e) _
        (λ t. reader-turn-mute i e (take_from y (from_node_of n)) _ (subst (λ (j : ℕ). (w.dialled j).upper ≡ by_reader i) (eqb-true d e t) (u.readers i d y q)))
    reader-up-as-mute (has_read y) i e n q = tt

    pub reader-up-mute : (i e : ℕ) (n : Next) → IfSome (reader_up w i e n) (Mute w c)
    reader-up-mute i e n = reader-up-as-mute (w.readers i) i e n refl

    -- PRIMARIES

    begins-as-mute : (told : Told) (i : ℕ) (at : Place) (b : BlockId) (ns : List NodeId) (bs : List Bool) → IfSome (begins_as told w i at b ns bs) (Mute w c)
    begins-as-mute (Ok (office.Begun begun)) i at b ns bs = mute _ refl refl refl refl
    begins-as-mute (Ok (office.Stamp x)) i at b ns bs = tt
    begins-as-mute (Ok (office.Reopened x)) i at b ns bs = tt
    begins-as-mute (Ok office.Nothing) i at b ns bs = tt
    begins-as-mute (Err e) i at b ns bs = mute _ refl refl refl refl

    begins-at-mute : (x : Primary) (i n : ℕ) (b : BlockId) (ns : List NodeId) (bs : List Bool) → IfSome (begins_at x w i n b ns bs) (Mute w c)
    begins-at-mute no_primary i n b ns bs = tt
    begins-at-mute (was_told q told) i n b ns bs = when-each (Mute w c) (q.0 == b.0 && w.running n && are_members ns) _ (λ _. begins-as-mute told i (place_of w n) b ns bs)
    begins-at-mute (leads l) i n b ns bs = tt
    begins-at-mute (has_led x) i n b ns bs = tt

    pub own-recover-mute : (i n : ℕ) (b : BlockId) (ns : List NodeId) (bs : List Bool) → IfSome (own_recover w i n b ns bs) (Mute w c)
    own-recover-mute i n b ns bs = begins-at-mute (w.primaries i) i n b ns bs

    its-conn : (o : Option ℕ) → is_conn o c ≡ true → o ≡ Some c
    its-conn None e = absurd (false≢true e)
    its-conn (Some d) e = ap (λ (j : ℕ). Some j) (sym (eqb-true c d e))

    updates-none : (m : Message) (chosen : List NodeId) (ns : List NodeId) (os : List (Option ℕ)) → ((k : ℕ) → slice_get os k ≡ Some (Some c) → ⊥) → updates_on m chosen (zip ns os) c ≡ []
    updates-none m chosen [] os h = refl
    updates-none m chosen (n ∷ ns) [] h = refl
    updates-none m chosen (n ∷ ns) (o ∷ os) h = if-each (λ (ms : List Message). ms ≡ []) (is_among chosen n && is_conn o c) (m ∷ []) (updates_on m chosen (zip ns os) c)
        (λ e. absurd (h zero (ap (λ (x : Option ℕ). Some x) (its-conn o (and-right (is_among chosen n) (is_conn o c) e))))) (λ _. updates-none m chosen ns os (λ k. h (suc k)))

    leads-none : (i : ℕ) (l : Leading) (b : ℕ) → w.primaries i ≡ leads l → (w.dialled c).upper ≡ by_writer b → (k : ℕ) → slice_get l.conns k ≡ Some (Some c) → ⊥
    leads-none i l b q up k e = primary-apart b i k (sym up ∙ u.primaries i k c l q e)

    leads-step-mute : (x : OwnStep) (i : ℕ) (l : Leading) (p : PrimaryState) → w.primaries i ≡ leads l → IfSome (leads_step x w i l p) (Mute w c)
    leads-step-mute own.Waits i l p q = tt
    leads-step-mute (own.Updates k) i l p q = record { hush = hush _ refl refl refl; downs = λ b up. updates-none _ k.members l.state.members l.conns (leads-none i l b q up) }
    leads-step-mute (own.Commits k) i l p q = tt
    leads-step-mute (own.Ends r) i l p q = mute _ refl refl refl refl

    commits-step-mute : (x : OwnStep) (i : ℕ) (l : Leading) (t : Told) → IfSome (commits_step x w i l t) (Mute w c)
    commits-step-mute own.Waits i l t = tt
    commits-step-mute (own.Updates k) i l t = tt
    commits-step-mute (own.Commits k) i l t = mute _ refl refl refl refl
    commits-step-mute (own.Ends x) i l t = tt

    told-mute : (o : Option Told) (i : ℕ) (l : Leading) → w.primaries i ≡ leads l → IfSome (leads_told o w i l) (Mute w c)
    told-mute None i l q = leads-step-mute (own_step l.state).does i l (own_step l.state).primary q
    told-mute (Some t) i l q = commits-step-mute (own_step l.state).does i l t

    own-as-mute : (x : Primary) (i : ℕ) → w.primaries i ≡ x → IfSome (own_primary_as x w i) (Mute w c)
    own-as-mute no_primary i q = tt
    own-as-mute (was_told b t) i q = tt
    own-as-mute (leads l) i q = when-each (Mute w c) (is_alive w l.at) _ (λ _. told-mute l.told i l q)
    own-as-mute (has_led x) i q = tt

    pub own-primary-mute : (i : ℕ) → IfSome (own_primary w i) (Mute w c)
    own-primary-mute i = own-as-mute (w.primaries i) i refl

    hears-mute : (i : ℕ) (l : Leading) (place e : ℕ) (x : Next) (o : Option Standing) → IfSome (hears_change w i l place e x o) (Mute w c)
    hears-mute i l place e x None = tt
    hears-mute i l place e x (Some k) = when-each (Mute w c) (listens l.state.phase k) _ (λ _. mute _ refl refl refl refl)

    up-as-mute : (x : Primary) (i place e : ℕ) (n : Next) → IfSome (primary_up_as x w i place e n) (Mute w c)
    up-as-mute no_primary i place e n = tt
    up-as-mute (was_told b t) i place e n = tt
    up-as-mute (leads l) i place e n = when-each (Mute w c) (is_alive w l.at && is_none l.told) _ (λ _. hears-mute i l place e n (slice_get l.state.standings place))
    up-as-mute (has_led x) i place e n = tt

    pub primary-up-mute : (i place e : ℕ) (n : Next) → IfSome (primary_up w i place e n) (Mute w c)
    primary-up-mute i place e n = up-as-mute (w.primaries i) i place e n
