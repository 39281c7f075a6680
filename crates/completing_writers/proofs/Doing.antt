-- What a writer does by itself: it answers, takes a command or sends a packet.
use Rattle.std.proofs.Common.{◌≡◌, ℕ, Bool, true, false, List, [], ◌∷◌, ◌++◌, Option, None, refl, sym, ◌∙◌, ap, subst, ◌⊎◌, inl, inr}
use Rattle.std.specs.Prelude.{if◌then◌else◌}
use Rattle.std.proofs.lemmas.List.{append-nil}
use Rattle.hd_base.specs.declared.numbers.BlockId.{BlockId}
use Rattle.name_core.specs.Offices.{OfficeState, record_of}
use Rattle.packet_codec.specs.declared.packets.Packet.{Packet}
use Rattle.writer_core.specs.declared.actions.Action.{Action}
use Rattle.writer_core.specs.declared.actions.Action.TheVariants as action
use Rattle.writer_core.specs.declared.actions.ClientAnswer.{ClientAnswer}
use Rattle.writer_core.specs.declared.commands.Command.{Command}
use Rattle.writer_core.specs.declared.phases.Phase.{Phase}
use Rattle.writer_core.specs.declared.phases.Waiting.{Waiting}
use Rattle.writer_core.specs.declared.records.WriterRecord.{WriterRecord}
use Rattle.writer_core.specs.Transitions.{Step, step, own_step, is_connected}
use Rattle.world.specs.declared.events.Event.{Event}
use Rattle.world.specs.Parts.{packet, Told, Writing, Said}
use Rattle.world.specs.Worlds.{World, Change, apply}
use Rattle.world.specs.Connections.{sent_on, is_conn}
use Rattle.world.specs.Clients.{writing_as, given_up, writer_change, reached_answer, did_step, writer_step, own_writer}
use Rattle.world.specs.Events.{run}
use Rattle.world_laws.specs.Placing.{Placed}
use Rattle.world_laws.proofs.FactTables.{if-each}
use Rattle.world_laws.proofs.PlacedLaws.{all-placed}
use Rattle.play_model.specs.declared.dues.Due.TheVariants as due
use Rattle.play_model.specs.States.{PlayState, world_of}
use Rattle.play_model.specs.Dues.{acting, own_events, queue_left, action_of, due_events}
use Rattle.play_completeness.specs.Writers.{IsOpened, WriterWell}
use Rattle.play_completeness.specs.Played.{BlockPlayed, Played}
use Rattle.play_completeness.proofs.TurnWorld.{named}
use Rattle.completing_writers.proofs.Leaving.{Aside, Unsent, Apart, OfWriter, add-here, add-none, aside-of, unsent-of, said-here, happens-own}
use Rattle.completing_writers.proofs.Linking.{SameStream, quiet-links}
use Rattle.completing_writers.proofs.Others.{Kept, folds}

-- A writer has a connection in this phase, or had none.
abbrev pub StaysOpen : Phase → Option ℕ → Type 0
StaysOpen p o = (is_connected p ≡ true) ⊎ (o ≡ None)

pub no-shut : (p : Phase) (o : Option ℕ) → StaysOpen p o → (k : ℕ) → given_up p o k ≡ false
no-shut p o (inl e) k = ap (λ (q : Bool). (if q then (λ _. false) else is_conn o) k) e
no-shut p o (inr e) k = if-each (λ (f : ℕ → Bool). f k ≡ false) (is_connected p) (λ _. false) (is_conn o) (λ _. refl) (λ _. ap (λ (x : Option ℕ). is_conn x k) e)

pub same-conn : (p : Phase) (o : Option ℕ) → StaysOpen p o → (if is_connected p then o else None) ≡ o
same-conn p o (inl e) = ap (λ (q : Bool). if q then o else None) e
same-conn p o (inr e) = if-each (λ (x : Option ℕ). x ≡ o) (is_connected p) o None (λ _. refl) (λ _. sym e)

-- WHAT A STEP BY ITSELF MAKES OF THE WORLD

-- the writer, what it answered, and the bytes that it wrote
pub record Did (w v : World) (b : ℕ) (new : Writing) (said : List Said) (bytes : List ℕ) : Type 0 where
  pub aside : Aside w v b new
  pub answered : v.said b ≡ w.said b ++ said
  pub wrote : v.written (v.latest b) ≡ w.written (w.latest b) ++ bytes

-- the same, with the office as it was
pub record Stepped (w v : World) (b : ℕ) (new : Writing) (said : List Said) (bytes : List ℕ) : Type 0 where
  pub did : Did w v b new said bytes
  pub open did use *
  pub office : v.office ≡ w.office

-- the block stays open
pub opened-still : (w v : World) (b : ℕ) (new : Writing) (said : List Said) (bytes : List ℕ) → Stepped w v b new said bytes → IsOpened w b → IsOpened v b
opened-still w v b new said bytes s h = record { entry = h.entry; is = ap (λ (o : OfficeState). record_of o (record { 0 = b })) s.office ∙ h.is; open_is = h.open_is }

module _ (w : World) (b : ℕ) (n : WriterRecord) (stays : StaysOpen n.phase (w.writers b).conn) (e : Event) where
  abbrev pub new : Writing
  new = writing_as n (w.writers b).conn

  -- it answers
  abbrev pub answering : ℕ → ClientAnswer → Option Waiting → Change
  answering i a waits = record (writer_change w b n) { said = record { ordinal = i; answer = a } ∷ []; answered = reached_answer b waits a }

  of-answering : (i : ℕ) (a : ClientAnswer) (waits : Option Waiting) → OfWriter w (answering i a waits) b
  of-answering i a waits = record {
    place = refl;
    replica = refl;
    lower = refl;
    ups = λ c. refl;
    shuts = no-shut n.phase (w.writers b).conn stays;
    entries = λ k other. refl;
    written = λ k other. add-none w.written 0 (w.latest k);
    unused = add-none w.written 0 0;
  }

  pub answering-steps : (i : ℕ) (a : ClientAnswer) (waits : Option Waiting) → Stepped w (named e (apply w (answering i a waits))) b new (record { ordinal = i; answer = a } ∷ []) []
  unfolding apply
  answering-steps i a waits = record {
    did = record { aside = aside-of w (answering i a waits) b e (of-answering i a waits); answered = said-here w (answering i a waits) b e refl; wrote = add-none w.written 0 (w.latest b) ∙ sym (append-nil (w.written (w.latest b))) };
    office = refl;
  }

  pub answering-unsent : (i : ℕ) (a : ClientAnswer) (waits : Option Waiting) → Unsent w (named e (apply w (answering i a waits)))
  answering-unsent i a waits = unsent-of w (answering i a waits) b e refl (λ c. refl)

  -- it takes a command, with these bytes
  abbrev pub taking : List ℕ → Change
  taking bytes = record (writer_change w b n) { session = w.latest b; bytes = bytes }

  of-taking : (bytes : List ℕ) → Apart w b (w.latest b) bytes → OfWriter w (taking bytes) b
  of-taking bytes apart = record {
    place = refl;
    replica = refl;
    lower = refl;
    ups = λ c. refl;
    shuts = no-shut n.phase (w.writers b).conn stays;
    entries = λ k other. refl;
    written = apart.others;
    unused = apart.unused;
  }

  pub taking-steps : (bytes : List ℕ) → Apart w b (w.latest b) bytes → Stepped w (named e (apply w (taking bytes))) b new [] bytes
  unfolding apply
  taking-steps bytes apart = record {
    did = record { aside = aside-of w (taking bytes) b e (of-taking bytes apart); answered = said-here w (taking bytes) b e refl; wrote = add-here w.written (w.latest b) bytes };
    office = refl;
  }

  pub taking-unsent : (bytes : List ℕ) → Unsent w (named e (apply w (taking bytes)))
  taking-unsent bytes = unsent-of w (taking bytes) b e refl (λ c. refl)

  -- it sends a packet
  abbrev pub sending : Packet → Change
  sending p = record (writer_change w b n) { downs = sent_on (w.writers b).conn (packet p ∷ []) }

  of-sending : (p : Packet) → OfWriter w (sending p) b
  of-sending p = record {
    place = refl;
    replica = refl;
    lower = refl;
    ups = λ c. refl;
    shuts = no-shut n.phase (w.writers b).conn stays;
    entries = λ k other. refl;
    written = λ k other. add-none w.written 0 (w.latest k);
    unused = add-none w.written 0 0;
  }

  pub sending-steps : (p : Packet) → Stepped w (named e (apply w (sending p))) b new [] []
  unfolding apply
  sending-steps p = record {
    did = record { aside = aside-of w (sending p) b e (of-sending p); answered = said-here w (sending p) b e refl; wrote = add-none w.written 0 (w.latest b) ∙ sym (append-nil (w.written (w.latest b))) };
    office = refl;
  }

-- THE OWN STEP

-- of a writer for which no answer of the office waits, and that takes no command
pub own-alone : (w : World) (b : ℕ) (s : Step) → (w.writers b).told ≡ None → own_step (w.writers b).known ≡ s → own_writer w b None true ≡ did_step w b (w.writers b).known.waiting s []
own-alone w b s told is =
    let x : WriterRecord = (w.writers b).known in
    ap (λ (o : Option Told). writer_step w b x o None true) told ∙ ap (λ (t : Step). did_step w b x.waiting t []) is

module _ (p : PlayState) (commands : ℕ → List Command) (h : Played p commands) (b : BlockId) where
  abbrev pub w : World
  w = world_of p

  abbrev pub X : WriterRecord
  X = (w.writers b.0).known

  -- its next action
  pub action-is : (s : Step) → own_step X ≡ s → action_of w b ≡ s.action
  action-is s is = ap (λ (t : Step). t.action) is

  pub placed : Placed w
  placed = all-placed p.nodes p.events

  abbrev alone : Event
  alone = acting b.0 None

  -- It answers, and keeps its connection and its stream.
  pub answers-keep : (i : ℕ) (a : ClientAnswer) (n : WriterRecord) → own_step X ≡ step (action.Answered i a) n → StaysOpen n.phase (w.writers b.0).conn → SameStream n X
      → ((v : World) → Stepped w v b.0 (writing_as n (w.writers b.0).conn) (record { ordinal = i; answer = a } ∷ []) [] → WriterWell v b.0 n × BlockPlayed v b.0 (p.queues b.0) (commands b.0))
      → Kept p commands b
  answers-keep i a n is stays same own =
      let k : Change = answering w b.0 n stays alone i a X.waiting in
      let v : World = named alone (apply w k) in
      let s : Stepped w v b.0 (writing_as n (w.writers b.0).conn) (record { ordinal = i; answer = a } ∷ []) [] = answering-steps w b.0 n stays alone i a X.waiting in
      let next : action_of w b ≡ action.Answered i a = action-is (step (action.Answered i a) n) is in
      let happened : run w (due_events w p.queues (due.Own b)) ≡ v =
      ap (λ (x : Action). run w (own_events x b.0 (p.queues b.0))) next ∙ happens-own w b.0 None k (own-alone w b.0 (step (action.Answered i a) n) (h.quiet b.0) is) in
      let z = own v s in
      folds p commands h b v (writing_as n (w.writers b.0).conn) happened s.aside
      (quiet-links w v b.0 (writing_as n (w.writers b.0).conn) placed h.links s.aside (answering-unsent w b.0 n stays alone i a X.waiting) (same-conn n.phase (w.writers b.0).conn stays) (λ c e. same))
      z.0
      (subst (λ (x : Action). BlockPlayed v b.0 (queue_left x (p.queues b.0)) (commands b.0)) (sym next) z.1)
