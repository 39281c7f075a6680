-- What writers and readers leave in order.
use Rattle.std.proofs.Common.{◌≡◌, ℕ, zero, suc, ◌<◌, Bool, true, false, List, [], ◌∷◌, slice_get, Option, Some, None, IfSome, Result, Ok, Err, refl, sym, ap, ◌∙◌, subst, arith, eqb-true}
use Rattle.std.specs.Prelude.{◌==◌, ◌&&◌, not, is_none, if◌then◌else◌}
use Rattle.std.proofs.lemmas.Option.{same_Some}
use Rattle.hd_base.specs.declared.numbers.NodeId.{NodeId}
use Rattle.hd_base.specs.declared.numbers.Stamp.{Stamp}
use Rattle.hd_base.specs.declared.states.Status.TheVariants as status
use Rattle.op_headers.specs.declared.ops.Op.{Op}
use Rattle.op_headers.specs.declared.ops.ReadOp.{ReadOp}
use Rattle.world_laws.specs.WriterCore.Action.{Action}
use Rattle.world_laws.specs.WriterCore.Action.TheVariants as action
use Rattle.world_laws.specs.WriterCore.Command.{Command}
use Rattle.world_laws.specs.WriterCore.Command.TheVariants as command
use Rattle.world_laws.specs.WriterCore.CommandFault.{CommandFault}
use Rattle.world_laws.specs.WriterCore.Phase.{Phase}
use Rattle.world_laws.specs.WriterCore.Phase.TheVariants as phase
use Rattle.world_laws.specs.WriterCore.Setup.{Setup}
use Rattle.world_laws.specs.WriterCore.Waiting.{Waiting}
use Rattle.world_laws.specs.WriterCore.WriterRecord.{WriterRecord}
use Rattle.world_laws.specs.WriterCore.Intake.{Intake}
use Rattle.world_laws.specs.WriterCore.Commands.{admitted}
use Rattle.world_laws.specs.WriterCore.Requests.{request_for}
use Rattle.world_laws.specs.WriterCore.Transitions.{given, given_as, own_step, dial_step, dial_step_as, open_step, completed_step, granted, dialled, dialled_in, is_connected}
use Rattle.world_laws.specs.WriterCore.Transitions as writer
use Rattle.world_laws.specs.ReadCore.ReadTurn.{ReadTurn}
use Rattle.world_laws.specs.ReadCore.ReadTurn.TheVariants as turn
use Rattle.world_laws.specs.ReadCore.Readings.{ReadTaken, take_from}
use Rattle.world_laws.specs.World.TakenCommand.{TakenCommand}
use Rattle.world_laws.specs.World.Parts.{Message, packet, ack, response, request, read_status, recovery_answer, Upper, by_writer, by_member, by_reader, Dialled, Marks, Told, Reader, no_reader, reads, has_read}
use Rattle.world_laws.specs.World.Worlds.{World, Dial, Change, dialled_with}
use Rattle.world_laws.specs.World.Connections.{Next, message, the_end, is_conn}
use Rattle.world_laws.specs.World.Clients.{writing_as, writer_change, did, dialled_change, dialling, rest_in, is_empty, is_formed, ruled, command_bytes, takes_step, takes_command, writer_step, own_writer, writer_hears, writer_up, named_member, reader_change, reader_dials, own_reader_as, own_reader, from_node_of, reader_turn, reader_up_as, reader_up}
use Rattle.world_laws.specs.Placing.{Placed}
use Rattle.world_laws.proofs.FactTables.{when-each, and-left}
use Rattle.world_orders.specs.Orders.{comes_down, comes_up, purpose_of, is_response, has_members, HasTaken, IsWriterConn, WriterIs, ReaderIs, Ordered, is_requested}
use Rattle.world_orders.proofs.Lists.{no-element, dialled-before, dialled-here}
use Rattle.world_orders.proofs.Frame.{marked, Owes}
use Rattle.world_orders.proofs.Kept.{OnlyOf, nobody, nowhere, apart, stays, SentAt, sent-at, kept-below, kept-mirror, kept-dialled, kept-writer, kept-reader, kept-primary}
use Rattle.world_orders.proofs.Writing.{says, asked-none, streams-some, Follows, own-follows, granted-follows, ended-follows, acked-follows, answered-gone, dialled-gone, dialled-asks, dialled-keeps}

-- WHAT A WRITER HAS TAKEN

pub clash : (b : Bool) → b ≡ false → b ≡ true → ⊥
clash true f t = cc
clash false f t = cc

-- the next state, where nothing was taken
pub taken-follows : (x y : WriterRecord) (n : ℕ) → Follows x y → is_connected y.phase ≡ true → HasTaken x.phase x.members n → HasTaken y.phase y.members n
taken-follows x y n f c h = says y.phase y.members n
    (λ e. let l = f.late e in let a = asked-none x.phase x.members n h l.0 in (a.0, ap has_members l.1 ∙ a.1))
    (λ e. streams-some x.phase x.members n h (before (is_requested x.phase) refl e))
  where
    before : (b : Bool) → is_requested x.phase ≡ b → is_requested y.phase ≡ false → is_requested x.phase ≡ false
    before true is e = absurd (clash (is_requested y.phase) e (f.early is c))
    before false is e = is

-- A writer's next state is right for the connection that it keeps.
abbrev pub NextIs : World → (ℕ → Marks) → ℕ → WriterRecord → Type 0
NextIs w um b y = (c : ℕ) → (w.writers b).conn ≡ Some c → is_connected y.phase ≡ true
    → HasTaken (w.writers b).known.phase (w.writers b).known.members (w.up_marks c).taken → HasTaken y.phase y.members (um c).taken

by-follows : (w : World) (b : ℕ) (y : WriterRecord) → Follows (w.writers b).known y → NextIs w w.up_marks b y
by-follows w b y f = λ c on e h. taken-follows (w.writers b).known y (w.up_marks c).taken f e h

by-gone : (w : World) (um : ℕ → Marks) (b : ℕ) (y : WriterRecord) → is_connected y.phase ≡ false → NextIs w um b y
by-gone w um b y g = λ c on e h. absurd (clash (is_connected y.phase) g e)

-- THE CHANGE OF A WRITER

writer-next : (w : World) (um : ℕ → Marks) (b : ℕ) (y : WriterRecord) (k : Change) → Ordered w → Placed (marked w w.down_marks um) → NextIs w um b y
    → WriterIs (dialled_with w k) um b (writing_as y (w.writers b).conn)
writer-next w um b y k h p next = go (is_connected y.phase) refl (w.writers b).conn refl (p.writers b).below (h.writers_are b)
  where
    go : (connected : Bool) → is_connected y.phase ≡ connected → (o : Option ℕ) → (w.writers b).conn ≡ o → IfSome o (λ c. c < w.next_conn)
        → IfSome o (λ c. IsWriterConn (w.dialled c) (w.up_marks c).taken b (w.writers b).known)
        → IfSome (if connected then o else None) (λ c. IsWriterConn (dialled_with w k c) (um c).taken b y)
    go false e o on lt x = tt
    go true e None on lt x = tt
    go true e (Some c) on lt x = record {
      upper = ap (λ (d : Dialled). d.upper) (dialled-before w k c lt) ∙ x.upper;
      heard = next c on e x.heard;
    }

writer-owes : (w : World) (um : ℕ → Marks) (b : ℕ) (y : WriterRecord) → Ordered w → Placed (marked w w.down_marks um) → OnlyOf w um (by_writer b) → NextIs w um b y
    → Owes w w.down_marks um (writer_change (marked w w.down_marks um) b y)
writer-owes w um b y h p only next =
    let k = writer_change (marked w w.down_marks um) b y in
    record {
      sends = record { dials = λ i d e. no-element _ i d e; uppers = λ i d e f g. no-element _ i d f; downs = λ c i m e. no-element _ i m e; ups = λ c i m e. no-element _ i m e; quiet = λ c e. refl };
      stay = stays w w.down_marks um (by_writer b) 0 b (nowhere w 0) only refl;
      below = kept-below w w.down_marks um h p 0 refl;
      mirror = kept-mirror w w.down_marks um h p k 0 (apart w um (by_writer b) (by_member 0) only (λ e. cc));
      dialled = kept-dialled w w.down_marks um h p k 0 (λ i d e f. no-element _ i d e);
      writer = writer-next w um b y k h p next;
      reader = kept-reader w w.down_marks um h p k 0;
      primary = kept-primary w w.down_marks um h p k 0;
    }

did-owes : (w : World) (b : ℕ) (waits : Option Waiting) (a : Action) (y : WriterRecord) (bytes : List ℕ) → Ordered w → Placed w → NextIs w w.up_marks b y
    → IfSome (did w b waits a y bytes) (Owes w w.down_marks w.up_marks)
did-owes w b waits action.Wait y bytes h p next = tt
did-owes w b waits action.Took y bytes h p next =
    let o = writer-owes w w.up_marks b y h p (nobody w (by_writer b)) next in
    record { sends = record { dials = o.sends.dials; uppers = o.sends.uppers; downs = o.sends.downs; ups = o.sends.ups; quiet = o.sends.quiet }; stay = o.stay; below = o.below; mirror = o.mirror; dialled = o.dialled; writer = o.writer; reader = o.reader; primary = o.primary }
did-owes w b waits (action.Ask c) y bytes h p next = tt
did-owes w b waits (action.Dial to r) y bytes h p next = tt
did-owes w b waits (action.Send q) y bytes h p next =
    let o = writer-owes w w.up_marks b y h p (nobody w (by_writer b)) next in
    record { sends = record { dials = o.sends.dials; uppers = o.sends.uppers; downs = λ c i m e. sends c i m (sent-at (w.writers b).conn (packet q ∷ []) c i m e); ups = o.sends.ups; quiet = o.sends.quiet }; stay = o.stay; below = o.below; mirror = o.mirror; dialled = o.dialled; writer = o.writer; reader = o.reader; primary = o.primary }
  where
    one : (i : ℕ) (m : Message) → slice_get (packet q ∷ []) i ≡ Some m → comes_down (purpose_of (by_writer b)) false m ≡ true
    one zero m e = subst (λ (x : Message). comes_down (purpose_of (by_writer b)) false x ≡ true) (same_Some (packet q) m e) refl
    one (suc i) m e = no-element _ i m e

    sends : (c i : ℕ) (m : Message) → SentAt (w.writers b).conn (packet q ∷ []) c i m → comes_down (purpose_of (w.dialled c).upper) false m ≡ true
    sends c i m s =
        let conn : IsWriterConn (w.dialled c) (w.up_marks c).taken b (w.writers b).known = subst (λ (o : Option ℕ). IfSome o (λ d. IsWriterConn (w.dialled d) (w.up_marks d).taken b (w.writers b).known)) s.is (h.writers_are b) in
        subst (λ (u : Upper). comes_down (purpose_of u) false m ≡ true) (sym conn.upper) (one i m s.found)
did-owes w b waits (action.Answered n a) y bytes h p next =
    let o = writer-owes w w.up_marks b y h p (nobody w (by_writer b)) next in
    record { sends = record { dials = o.sends.dials; uppers = o.sends.uppers; downs = o.sends.downs; ups = o.sends.ups; quiet = o.sends.quiet }; stay = o.stay; below = o.below; mirror = o.mirror; dialled = o.dialled; writer = o.writer; reader = o.reader; primary = o.primary }
did-owes w b waits action.Memory y bytes h p next = tt

-- DIALS

-- the request goes down first on the new connection
dialled-owes : (w : World) (b : ℕ) (x : WriterRecord) (to : NodeId) (r : Op) (s : Setup) (stamp : Stamp) (answered : Bool) → x.phase ≡ phase.Stamped s stamp → has_members x.members ≡ true
    → comes_down (purpose_of (by_writer b)) true (request r) ≡ true → Ordered w → Placed w
    → Owes w w.down_marks w.up_marks (dialled_change w b x to r answered)
dialled-owes w b x to r s stamp true e some is h p =
    let k = dialled_change w b x to r true in
    record {
      sends = record { dials = one; uppers = λ i d e f g. other i d e f g; downs = λ c i m f. no-element _ i m f; ups = λ c i m f. no-element _ i m f; quiet = λ c f. refl };
      stay = stays w w.down_marks w.up_marks (by_writer b) 0 b (nowhere w 0) (nobody w (by_writer b)) refl;
      below = kept-below w w.down_marks w.up_marks h p 0 refl;
      mirror = kept-mirror w w.down_marks w.up_marks h p k 0 (λ d f. refl);
      dialled = kept-dialled w w.down_marks w.up_marks h p k 0 (λ i d f g. never i d 0 f g);
      writer = record {
        upper = ap (λ (d : Dialled). d.upper) (dialled-here w k w.next_conn 0 _ (omega arith) refl);
        heard = asking (dialled-asks x s stamp e) (dialled-keeps x) (ap (λ (m : Marks). m.taken) ((p.undialled w.next_conn (omega arith)).up_marks));
      };
      reader = kept-reader w w.down_marks w.up_marks h p k 0;
      primary = kept-primary w w.down_marks w.up_marks h p k 0;
    }
  where
    one : (i : ℕ) (d : Dial) → slice_get ((dialled_change w b x to r true).dials) i ≡ Some d → comes_down (purpose_of d.dialled.upper) true d.request ≡ true
    one zero d f = subst (λ (y : Dial). comes_down (purpose_of y.dialled.upper) true y.request ≡ true) (same_Some _ d f) is
    one (suc i) d f = no-element _ i d f

    never : (i : ℕ) (d : Dial) (n : ℕ) → slice_get ((dialled_change w b x to r true).dials) i ≡ Some d → d.dialled.upper ≡ by_member n → ⊥
    never zero d n f g = writes-not (subst (λ (y : Dial). y.dialled.upper ≡ by_member n) (sym (same_Some _ d f)) g)
      where
        writes-not : by_writer b ≡ by_member n → ⊥
        writes-not z = cc
    never (suc i) d n f g = no-element _ i d f

    other : (i : ℕ) (d : Dial) (n : ℕ) → slice_get ((dialled_change w b x to r true).dials) i ≡ Some d → d.dialled.upper ≡ by_member n → n ≡ 0
    other i d n f g = absurd (never i d n f g)

    asking : (dialled x true).phase ≡ phase.Requested s stamp → (dialled x true).members ≡ x.members → (w.up_marks w.next_conn).taken ≡ 0
        → HasTaken (dialled x true).phase (dialled x true).members (w.up_marks w.next_conn).taken
    asking f m t = says (dialled x true).phase (dialled x true).members (w.up_marks w.next_conn).taken (λ g. (t, ap has_members m ∙ some)) (λ g. absurd (clash (is_requested (dialled x true).phase) g (ap is_requested f)))
dialled-owes w b x to r s stamp false e some is h p =
    writer-owes w w.up_marks b (dialled x false) h p (nobody w (by_writer b)) (by-gone w w.up_marks b (dialled x false) (dialled-gone x s stamp e some))

dialling-as : (w : World) (b : ℕ) (x : WriterRecord) (s : Setup) (stamp : Stamp) (members : List NodeId) (answered : Bool) → x.phase ≡ phase.Stamped s stamp → x.members ≡ members
    → Ordered w → Placed w → Owes w w.down_marks w.up_marks (dialling w b x (dial_step_as x s stamp members).action answered)
unfolding request_for
dialling-as w b x s stamp [] answered e m h p =
    writer-owes w w.up_marks b x h p (nobody w (by_writer b)) (by-gone w w.up_marks b x (ap is_connected e))
dialling-as w b x s stamp (n ∷ ns) answered e m h p = dialled-owes w b x n _ s stamp (answered && w.running n.0) e (ap has_members m) refl h p

-- OWN STEPS

rest-owes : (q : Phase) (w : World) (b : ℕ) (x : WriterRecord) (answered : Bool) → x.phase ≡ q → Follows (w.writers b).known x → Ordered w → Placed w
    → IfSome (rest_in q w b x answered) (Owes w w.down_marks w.up_marks)
rest-owes phase.Closed w b x answered e f h p = writer-owes w w.up_marks b x h p (nobody w (by_writer b)) (by-follows w b x f)
rest-owes (phase.Wanted s) w b x answered e f h p = writer-owes w w.up_marks b x h p (nobody w (by_writer b)) (by-follows w b x f)
rest-owes (phase.Stamped s stamp) w b x answered e f h p = dialling-as w b x s stamp x.members answered e refl h p
rest-owes (phase.Requested s stamp) w b x answered e f h p = writer-owes w w.up_marks b x h p (nobody w (by_writer b)) (by-follows w b x f)
rest-owes (phase.Accepted s stamp) w b x answered e f h p = writer-owes w w.up_marks b x h p (nobody w (by_writer b)) (by-follows w b x f)
rest-owes phase.Opened w b x answered e f h p =
    did-owes w b x.waiting (open_step x).action (open_step x).writer [] h p
    (λ c on d t. says (open_step x).writer.phase (open_step x).writer.members (w.up_marks c).taken (λ g. cc)
    (λ g. streams-some (w.writers b).known.phase (w.writers b).known.members (w.up_marks c).taken t (before (is_requested (w.writers b).known.phase) refl)))
  where
    before : (v : Bool) → is_requested (w.writers b).known.phase ≡ v → is_requested (w.writers b).known.phase ≡ false
    before true is = absurd (clash (is_requested x.phase) (ap is_requested e) (f.early is (ap is_connected e)))
    before false is = is
rest-owes (phase.Streaming sent) w b x answered e f h p = writer-owes w w.up_marks b x h p (nobody w (by_writer b)) (by-follows w b x f)
rest-owes phase.Closing w b x answered e f h p = writer-owes w w.up_marks b x h p (nobody w (by_writer b)) (by-follows w b x f)
rest-owes phase.Finished w b x answered e f h p = writer-owes w w.up_marks b x h p (nobody w (by_writer b)) (by-follows w b x f)
rest-owes phase.Completed w b x answered e f h p =
    did-owes w b x.waiting (completed_step x).action (completed_step x).writer [] h p (by-gone w w.up_marks b (completed_step x).writer refl)
rest-owes (phase.Failed g) w b x answered e f h p = writer-owes w w.up_marks b x h p (nobody w (by_writer b)) (by-follows w b x f)

-- what is given and not taken says nothing of the pipeline
pub record Alike (x y : WriterRecord) : Type 0 where
  pub phase_same : y.phase ≡ x.phase
  pub members_same : y.members ≡ x.members

pub given-alike : (x : WriterRecord) (c : Command) (r : Result Intake CommandFault) → Alike x (given_as x c r)
given-alike x c (Ok i) = record { phase_same = refl; members_same = refl }
given-alike x c (Err e) = record { phase_same = refl; members_same = refl }

pub ruled-alike : (x : WriterRecord) (c : Command) (rule : _) → Alike x (ruled x c rule)
ruled-alike x (command.Create members) rule = record { phase_same = refl; members_same = refl }
ruled-alike x (command.Append members) rule = record { phase_same = refl; members_same = refl }
ruled-alike x (command.Write bytes) rule = record { phase_same = refl; members_same = refl }
ruled-alike x (command.Fill count) rule = record { phase_same = refl; members_same = refl }
ruled-alike x command.Hflush rule = record { phase_same = refl; members_same = refl }
ruled-alike x command.Hsync rule = record { phase_same = refl; members_same = refl }
ruled-alike x command.Close rule = record { phase_same = refl; members_same = refl }

pub alike-then : (x y z : WriterRecord) → Alike x y → Follows y z → Follows x z
alike-then x y z a f = record {
  late = λ e. let l = f.late e in (ap is_requested (sym a.phase_same) ∙ l.0, l.1 ∙ a.members_same);
  early = λ e c. f.early (ap is_requested a.phase_same ∙ e) c;
  keeps = λ c. f.keeps c ∙ a.members_same;
}

takes-owes : (w : World) (b : ℕ) (waits : Option Waiting) (s : writer.Step) (bytes : List ℕ) → Ordered w → Placed w → NextIs w w.up_marks b s.writer
    → IfSome (takes_step w b waits s bytes) (Owes w w.down_marks w.up_marks)
takes-owes w b waits s bytes h p next = when-each (Owes w w.down_marks w.up_marks) (is_empty s.writer.queue) _ (λ _. did-owes w b waits s.action s.writer bytes h p next)

command-owes : (w : World) (b : ℕ) (t : TakenCommand) → Ordered w → Placed w → IfSome (takes_command w b (w.writers b).known t) (Owes w w.down_marks w.up_marks)
command-owes w b t h p =
    let x = (w.writers b).known in
    let y = ruled x t.command t.rule in
    when-each (Owes w w.down_marks w.up_marks) (is_formed t.command t.rule && not (is_empty (given x t.command).queue)) _
    (λ _. takes-owes w b y.waiting (own_step (given y t.command)) (command_bytes y t.command) h p
    (by-follows w b _ (alike-then x y _ (ruled-alike x t.command t.rule) (alike-then y (given y t.command) _ (given-alike y t.command (admitted y.intake t.command)) (own-follows (given y t.command))))))

step-owes : (w : World) (b : ℕ) (told : Option Told) (takes : Option TakenCommand) (answered : Bool) → Ordered w → Placed w
    → IfSome (writer_step w b (w.writers b).known told takes answered) (Owes w w.down_marks w.up_marks)
step-owes w b (Some told) None answered h p =
    rest-owes (granted (w.writers b).known told).phase w b (granted (w.writers b).known told) answered refl (granted-follows (w.writers b).known told) h p
step-owes w b (Some told) (Some t) answered h p = tt
step-owes w b None None answered h p =
    did-owes w b (w.writers b).known.waiting (own_step (w.writers b).known).action (own_step (w.writers b).known).writer [] h p (by-follows w b _ (own-follows (w.writers b).known))
step-owes w b None (Some t) answered h p = command-owes w b t h p

pub own-writer-owes : (w : World) (b : ℕ) (takes : Option TakenCommand) (answered : Bool) → Ordered w → Placed w
    → IfSome (own_writer w b takes answered) (Owes w w.down_marks w.up_marks)
own-writer-owes w b takes answered h p = step-owes w b (w.writers b).told takes answered h p

-- WHAT A WRITER TAKES

is-not : false ≡ true → ⊥
is-not e = cc

later-gone : (x y : WriterRecord) → Follows x y → (is_requested x.phase ≡ true → ⊥) → is_requested y.phase ≡ false
later-gone x y f never = go (is_requested y.phase) refl
  where
    go : (b : Bool) → is_requested y.phase ≡ b → b ≡ false
    go true e = absurd (never (f.late e).0)
    go false e = refl

-- Once a message came to a connected writer, no answer is awaited.
hears-gone : (x : WriterRecord) (m : Message) → (is_requested x.phase ≡ true → has_members x.members ≡ true) → (is_requested x.phase ≡ true → is_response m ≡ true)
    → is_requested (writer_hears x (message m)).phase ≡ false
hears-gone x (response r) some is = answered-gone x r (named_member x.members r.first_bad) some
hears-gone x (ack a) some is = later-gone x _ (acked-follows x a) (λ e. is-not (is e))
hears-gone x (request r) some is = later-gone x _ (ended-follows x) (λ e. is-not (is e))
hears-gone x (packet q) some is = later-gone x _ (ended-follows x) (λ e. is-not (is e))
hears-gone x (read_status s) some is = later-gone x _ (ended-follows x) (λ e. is-not (is e))
hears-gone x (recovery_answer a) some is = later-gone x _ (ended-follows x) (λ e. is-not (is e))

-- who took a message of its connection
heard-next : (w : World) (um : ℕ → Marks) (b : ℕ) (x : Next) (c : ℕ) → Ordered w → (w.writers b).conn ≡ Some c
    → ((y : Message) → x ≡ message y → 0 < (um c).taken) → (x ≡ the_end → (um c).taken ≡ (w.up_marks c).taken)
    → ((y : Message) → x ≡ message y → (w.up_marks c).taken ≡ 0 → comes_up (purpose_of (w.dialled c).upper) true y ≡ true)
    → (d : ℕ) → (w.writers b).conn ≡ Some d → is_connected (writer_hears (w.writers b).known x).phase ≡ true
    → HasTaken (w.writers b).known.phase (w.writers b).known.members (w.up_marks d).taken
    → HasTaken (writer_hears (w.writers b).known x).phase (writer_hears (w.writers b).known x).members (um d).taken
heard-next w um b (message y) c h is grown stays_so order d on e t =
    let same : c ≡ d = same_Some c d (sym is ∙ on) in
    let more : 0 < (um d).taken = subst (λ (n : ℕ). 0 < (um n).taken) same (grown y refl) in
    let conn : IsWriterConn (w.dialled c) (w.up_marks c).taken b (w.writers b).known = subst (λ (o : Option ℕ). IfSome o (λ n. IsWriterConn (w.dialled n) (w.up_marks n).taken b (w.writers b).known)) is (h.writers_are b) in
    let asks : is_requested (w.writers b).known.phase ≡ true → ((w.up_marks c).taken ≡ 0) × (has_members (w.writers b).known.members ≡ true) = asked-none _ _ _ conn.heard in
    let gone : is_requested (writer_hears (w.writers b).known (message y)).phase ≡ false = hears-gone (w.writers b).known y (λ f. (asks f).1)
    (λ f. subst (λ (u : Upper). comes_up (purpose_of u) true y ≡ true) conn.upper (order y refl (asks f).0)) in
    says _ _ (um d).taken (λ f. absurd (clash _ gone f)) (λ f. more)
heard-next w um b the_end c h is grown stays_so order d on e t =
    let same : c ≡ d = same_Some c d (sym is ∙ on) in
    let n_is : (um d).taken ≡ (w.up_marks d).taken = subst (λ (n : ℕ). (um n).taken ≡ (w.up_marks n).taken) same (stays_so refl) in
    subst (HasTaken _ _) (sym n_is) (taken-follows (w.writers b).known _ (w.up_marks d).taken (ended-follows (w.writers b).known) e t)

on-conn : (o : Option ℕ) (c : ℕ) → is_conn o c ≡ true → o ≡ Some c
on-conn None c e = cc
on-conn (Some d) c e = ap Some (sym (eqb-true c d e))

-- what holds of a connection and of what was taken from its upper end
pub record TakenUp (w : World) (um : ℕ → Marks) (c : ℕ) (x : Next) : Type 0 where
  pub grown : (y : Message) → x ≡ message y → 0 < (um c).taken
  pub same : x ≡ the_end → (um c).taken ≡ (w.up_marks c).taken
  pub order : (y : Message) → x ≡ message y → (w.up_marks c).taken ≡ 0 → comes_up (purpose_of (w.dialled c).upper) true y ≡ true

pub writer-up-owes : (w : World) (um : ℕ → Marks) (b c : ℕ) (x : Next) → Ordered w → Placed (marked w w.down_marks um) → OnlyOf w um (by_writer b) → TakenUp w um c x
    → IfSome (writer_up (marked w w.down_marks um) b c x) (Owes w w.down_marks um)
writer-up-owes w um b c x h p only t =
    when-each (Owes w w.down_marks um) (is_conn (w.writers b).conn c && is_none (w.writers b).told) _
    (λ e. writer-owes w um b (writer_hears (w.writers b).known x) h p only
    (heard-next w um b x c h (on-conn (w.writers b).conn c (and-left (is_conn (w.writers b).conn c) (is_none (w.writers b).told) e)) t.grown t.same t.order))

-- READERS

reader-owes : (w : World) (um : ℕ → Marks) (i : ℕ) (r : Reader) → Ordered w → Placed (marked w w.down_marks um) → OnlyOf w um (by_reader i)
    → ReaderIs (dialled_with w (reader_change (marked w w.down_marks um) i r)) i r → Owes w w.down_marks um (reader_change (marked w w.down_marks um) i r)
reader-owes w um i r h p only is =
    let k = reader_change (marked w w.down_marks um) i r in
    record {
      sends = record { dials = λ j d e. no-element _ j d e; uppers = λ j d e f g. no-element _ j d f; downs = λ c j m e. no-element _ j m e; ups = λ c j m e. no-element _ j m e; quiet = λ c e. refl };
      stay = stays w w.down_marks um (by_reader i) 0 0 (nowhere w 0) only tt;
      below = kept-below w w.down_marks um h p 0 refl;
      mirror = kept-mirror w w.down_marks um h p k 0 (apart w um (by_reader i) (by_member 0) only (λ e. cc));
      dialled = kept-dialled w w.down_marks um h p k 0 (λ j d e f. no-element _ j d e);
      writer = kept-writer w w.down_marks um h p k 0 (apart w um (by_reader i) (by_writer 0) only (λ e. cc));
      reader = is;
      primary = kept-primary w w.down_marks um h p k 0;
    }

reader-dials-owes : (w : World) (i n : ℕ) (r : ReadOp) (answered : Bool) → Ordered w → Placed w → Owes w w.down_marks w.up_marks (reader_dials w i n r answered)
reader-dials-owes w i n r true h p =
    let k = reader_dials w i n r true in
    record {
      sends = record { dials = one; uppers = λ j d e f g. absurd (never j d e f g); downs = λ c j m e. no-element _ j m e; ups = λ c j m e. no-element _ j m e; quiet = λ c e. refl };
      stay = stays w w.down_marks w.up_marks (by_reader i) 0 0 (nowhere w 0) (nobody w (by_reader i)) tt;
      below = kept-below w w.down_marks w.up_marks h p 0 refl;
      mirror = kept-mirror w w.down_marks w.up_marks h p k 0 (λ d f. refl);
      dialled = kept-dialled w w.down_marks w.up_marks h p k 0 (λ j d f g. never j d 0 f g);
      writer = kept-writer w w.down_marks w.up_marks h p k 0 (λ d f. refl);
      reader = ap (λ (d : Dialled). d.upper) (dialled-here w k w.next_conn 0 _ (omega arith) refl);
      primary = kept-primary w w.down_marks w.up_marks h p k 0;
    }
  where
    one : (j : ℕ) (d : Dial) → slice_get ((reader_dials w i n r true).dials) j ≡ Some d → comes_down (purpose_of d.dialled.upper) true d.request ≡ true
    one zero d f = subst (λ (y : Dial). comes_down (purpose_of y.dialled.upper) true y.request ≡ true) (same_Some _ d f) refl
    one (suc j) d f = no-element _ j d f

    reads-not : (m : ℕ) → by_reader i ≡ by_member m → ⊥
    reads-not m z = cc

    never : (j : ℕ) (d : Dial) (m : ℕ) → slice_get ((reader_dials w i n r true).dials) j ≡ Some d → d.dialled.upper ≡ by_member m → ⊥
    never zero d m f g = reads-not m (subst (λ (y : Dial). y.dialled.upper ≡ by_member m) (sym (same_Some _ d f)) g)
    never (suc j) d m f g = no-element _ j d f
reader-dials-owes w i n r false h p = reader-owes w w.up_marks i _ h p (nobody w (by_reader i)) tt

own-reader-as-owes : (x : Reader) (w : World) (i n : ℕ) (r : ReadOp) (answered : Bool) → Ordered w → Placed w → IfSome (own_reader_as x w i n r answered) (Owes w w.down_marks w.up_marks)
own-reader-as-owes no_reader w i n r answered h p = reader-dials-owes w i n r (answered && w.running n) h p
own-reader-as-owes (reads c s) w i n r answered h p = tt
own-reader-as-owes (has_read b) w i n r answered h p = tt

pub own-reader-owes : (w : World) (i n : ℕ) (r : ReadOp) (answered : Bool) → Ordered w → Placed w → IfSome (own_reader w i n r answered) (Owes w w.down_marks w.up_marks)
own-reader-owes w i n r answered h p = own-reader-as-owes (w.readers i) w i n r answered h p

reader-turn-owes : (w : World) (um : ℕ → Marks) (i c : ℕ) (t : ReadTaken) (d : ReadTurn) → Ordered w → Placed (marked w w.down_marks um) → OnlyOf w um (by_reader i) → c < w.next_conn → (w.dialled c).upper ≡ by_reader i
    → Owes w w.down_marks um (reader_turn (marked w w.down_marks um) i c t d)
reader-turn-owes w um i c t turn.Goes h p only lt is =
    reader-owes w um i (reads c t.reading) h p only (ap (λ (q : Dialled). q.upper) (dialled-before w (reader_change (marked w w.down_marks um) i (reads c t.reading)) c lt) ∙ is)
reader-turn-owes w um i c t turn.Verified h p only lt is =
    let o = reader-owes w um i (has_read (Ok t.reading.bytes)) h p only tt in
    record { sends = record { dials = o.sends.dials; uppers = o.sends.uppers; downs = λ d j m e. down d j m (sent-at (Some c) _ d j m e); ups = o.sends.ups; quiet = o.sends.quiet }; stay = o.stay; below = o.below; mirror = o.mirror; dialled = o.dialled; writer = o.writer; reader = o.reader; primary = o.primary }
  where
    one : (j : ℕ) (m : Message) → slice_get (read_status status.ChecksumOk ∷ []) j ≡ Some m → comes_down (purpose_of (by_reader i)) false m ≡ true
    one zero m e = subst (λ (x : Message). comes_down (purpose_of (by_reader i)) false x ≡ true) (same_Some _ m e) refl
    one (suc j) m e = no-element _ j m e

    down : (d j : ℕ) (m : Message) → SentAt (Some c) (read_status status.ChecksumOk ∷ []) d j m → comes_down (purpose_of (w.dialled d).upper) false m ≡ true
    down d j m s = subst (λ (n : ℕ). comes_down (purpose_of (w.dialled n).upper) false m ≡ true) (same_Some c d s.is) (subst (λ (u : Upper). comes_down (purpose_of u) false m ≡ true) (sym is) (one j m s.found))
reader-turn-owes w um i c t (turn.Fails f) h p only lt is =
    let o = reader-owes w um i (has_read (Err f)) h p only tt in
    record { sends = record { dials = o.sends.dials; uppers = o.sends.uppers; downs = o.sends.downs; ups = o.sends.ups; quiet = o.sends.quiet }; stay = o.stay; below = o.below; mirror = o.mirror; dialled = o.dialled; writer = o.writer; reader = o.reader; primary = o.primary }

reader-up-as-owes : (r : Reader) (w : World) (um : ℕ → Marks) (i c : ℕ) (x : Next) → Ordered w → Placed (marked w w.down_marks um) → OnlyOf w um (by_reader i) → c < w.next_conn → (w.dialled c).upper ≡ by_reader i
    → IfSome (reader_up_as r (marked w w.down_marks um) i c x) (Owes w w.down_marks um)
reader-up-as-owes no_reader w um i c x h p only lt is = tt
reader-up-as-owes (reads d s) w um i c x h p only lt is =
    when-each (Owes w w.down_marks um) (d == c) _ (λ _. reader-turn-owes w um i c (take_from s (from_node_of x)) (take_from s (from_node_of x)).does h p only lt is)
reader-up-as-owes (has_read b) w um i c x h p only lt is = tt

pub reader-up-owes : (w : World) (um : ℕ → Marks) (i c : ℕ) (x : Next) → Ordered w → Placed (marked w w.down_marks um) → OnlyOf w um (by_reader i) → c < w.next_conn → (w.dialled c).upper ≡ by_reader i
    → IfSome (reader_up (marked w w.down_marks um) i c x) (Owes w w.down_marks um)
reader-up-owes w um i c x h p only lt is = reader-up-as-owes (w.readers i) w um i c x h p only lt is
