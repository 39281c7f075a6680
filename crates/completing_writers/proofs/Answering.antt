-- A writer answers a create, an hflush or an hsync.
use Rattle.std.proofs.Common.{◌≡◌, ℕ, zero, suc, ◌-◌, true, List, [], ◌∷◌, ◌++◌, length, slice_get, Option, Some, None, refl, sym, ◌∙◌, ap, subst, arith, ◌⊎◌, inl, inr}
use Rattle.std.proofs.lemmas.List.{append-nil}
use Rattle.std.proofs.lemmas.Option.{none-some, same_Some}
use Rattle.hd_base.specs.declared.numbers.BlockId.{BlockId}
use Rattle.hd_base.specs.declared.numbers.Stamp.{Stamp}
use Rattle.name_core.specs.Offices.{OfficeState, record_of}
use Rattle.packet_codec.specs.declared.packets.Packet.{Packet}
use Rattle.writer_core.specs.declared.actions.ClientAnswer.{ClientAnswer}
use Rattle.writer_core.specs.declared.actions.ClientAnswer.TheVariants as answer
use Rattle.writer_core.specs.declared.commands.Command.{Command}
use Rattle.writer_core.specs.declared.commands.Command.TheVariants as command
use Rattle.writer_core.specs.Commands.{is_open}
use Rattle.writer_core.specs.declared.intake.Intake.{Intake}
use Rattle.writer_core.specs.declared.phases.Phase.{Phase}
use Rattle.writer_core.specs.declared.phases.Phase.TheVariants as phase
use Rattle.writer_core.specs.declared.phases.Setup.TheVariants as setup
use Rattle.writer_core.specs.declared.phases.SyncPacket.{SyncPacket}
use Rattle.writer_core.specs.declared.phases.SyncPacket.TheVariants as sync
use Rattle.writer_core.specs.declared.phases.Waiting.{Waiting}
use Rattle.writer_core.specs.declared.phases.Waiting.TheVariants as waiting
use Rattle.writer_core.specs.declared.records.WriterRecord.{WriterRecord}
use Rattle.writer_core.specs.Transitions.{ordinal, reached, reached_length, reach_step_as, due_step, due_now, stream_step_as, step_in, own_step, is_connected}
use Rattle.world.specs.Parts.{Writing, Said}
use Rattle.world.specs.Worlds.{World}
use Rattle.world.specs.Clients.{writing_as}
use Rattle.play_completeness.proofs.WorldOrders.Lists.{Behind, get-append}
use Rattle.play_model.specs.States.{PlayState, world_of}
use Rattle.play_completeness.specs.Complete.{is_done, IsDone, IsGood}
use Rattle.play_completeness.specs.Writers.{OpensWell, StreamsWell, WellIn}
use Rattle.play_completeness.specs.Played.{IsOf, WaitsLast, DoneSoFar, QueueFits, BlockPlayed, Played}
use Rattle.play_completeness.proofs.Flowing.{one-place, end-found, get-front}
use Rattle.completing_writers.proofs.Others.{Kept, SameBlock, opened-kept}
use Rattle.completing_writers.proofs.Doing.{Did, Stepped, answers-keep}

-- THE COMMAND THAT WAITS IS ANSWERED

-- no command waits
abbrev pub no_wait : Option Waiting
no_wait = None

done-more : (said others : List Said) (k : ℕ) (c : Command) → IsDone said k c → IsDone (said ++ others) k c
done-more said others k c d = record { answer = d.answer; is = record { place = d.is.place; there = get-front said others d.is.place _ d.is.there }; good = d.good }

-- Once the command that waits, the last one, is answered well, all are.
pub answered-done : (taken : List Command) (said : List Said) (y : Waiting) (n : ℕ) (a : ClientAnswer) → DoneSoFar taken said (Some y) → suc n ≡ length taken → ((c : Command) → IsOf y c → is_done c a ≡ true)
    → DoneSoFar taken (said ++ record { ordinal = n; answer = a } ∷ []) None
answered-done taken said y n a d last good = record {
  each = λ k c found answered. each k c found (d.each k c found answered);
  only = λ s has. only s has.place (get-append said (new ∷ []) has.place s has.there);
  last = tt;
}
  where
    new : Said
    new = record { ordinal = n; answer = a }

    l : WaitsLast taken y
    l = d.last

    here : slice_get taken n ≡ Some l.command
    here =
        let at : suc l.place ≡ length taken = l.last in
        let same : l.place ≡ n = omega (arith, at, last) in
        subst (λ (i : ℕ). slice_get taken i ≡ Some l.command) same l.is

    each : (k : ℕ) (c : Command) → slice_get taken k ≡ Some c → IsDone said k c ⊎ ((suc k ≡ length taken) × (Some y ≡ None → ⊥)) → IsDone (said ++ new ∷ []) k c ⊎ ((suc k ≡ length taken) × (no_wait ≡ None → ⊥))
    each k c found (inl done) = inl (done-more said (new ∷ []) k c done)
    each k c found (inr late) =
        let end : suc k ≡ length taken = late.0 in
        let same : n ≡ k = omega (arith, end, last) in
        let is : l.command ≡ c = same_Some l.command c (sym here ∙ (ap (slice_get taken) same ∙ found)) in
        inl (subst (λ (i : ℕ). IsDone (said ++ new ∷ []) i c) same (record {
          answer = a;
          is = record { place = length said; there = end-found said new };
          good = subst (λ (x : Command). is_done x a ≡ true) is (good l.command l.of);
        }))

    only : (s : Said) (i : ℕ) → (slice_get said i ≡ Some s) ⊎ Behind said (new ∷ []) i s → IsGood taken s
    only s i (inl found) = d.only s (record { place = i; there = found })
    only s i (inr q) = subst (IsGood taken) (one-place new s q.place q.found).1 (record { command = l.command; is = here; good = good l.command l.of })

-- the number of the last of those that were taken
pub last-number : (n k : ℕ) (taken : List Command) (y : Waiting) → WaitsLast taken y → n ≡ length taken → suc (n - 1) ≡ length taken
last-number n k taken y l e = let at : suc l.place ≡ length taken = l.last in omega (arith, at, e)

pub past-end : {A : Type 0} (xs : List A) (n : ℕ) → n ≡ length xs → slice_get xs n ≡ None
past-end [] zero e = refl
past-end [] (suc n) e = refl
past-end (x ∷ xs) zero e = absurd (omega (arith, e))
past-end (x ∷ xs) (suc n) e = past-end xs n (omega (arith, e))

module _ (p : PlayState) (commands : ℕ → List Command) (h : Played p commands) (b : BlockId) where
  abbrev w : World
  w = world_of p

  abbrev X : WriterRecord
  X = (w.writers b.0).known

  abbrev B : BlockPlayed w b.0 (p.queues b.0) (commands b.0)
  B = h.blocks b.0

  -- what was done of the block's commands
  pub answered-block : (v : World) (n : WriterRecord) (y : Waiting) (a : ClientAnswer) → X.waiting ≡ Some y → n.waiting ≡ None → n.taken ≡ X.taken → n.intake ≡ X.intake → n.members ≡ X.members
      → ((c : Command) → IsOf y c → is_done c a ≡ true) → Did w v b.0 (writing_as n (w.writers b.0).conn) (record { ordinal = ordinal X; answer = a } ∷ []) []
      → BlockPlayed v b.0 (p.queues b.0) (commands b.0)
  answered-block v n y a waits none taken intake members good s =
      let known : (v.writers b.0).known ≡ n = ap (λ (z : Writing). z.known) s.aside.writer in
      let before : DoneSoFar B.taken (w.said b.0) (Some y) = subst (λ (o : Option Waiting). DoneSoFar B.taken (w.said b.0) o) waits B.answers in
      let after : DoneSoFar B.taken (w.said b.0 ++ record { ordinal = ordinal X; answer = a } ∷ []) None =
      answered-done B.taken (w.said b.0) y (ordinal X) a before (last-number X.taken 0 B.taken y before.last B.number) good in
      record {
        taken = B.taken;
        are = B.are;
        writes = B.writes;
        number = ap (λ (z : WriterRecord). z.taken) known ∙ (taken ∙ B.number);
        stand = ap (λ (z : WriterRecord). z.intake.stand) known ∙ (ap (λ (z : Intake). z.stand) intake ∙ B.stand);
        members = λ i created e. ap (λ (z : WriterRecord). z.members) known ∙ (members ∙ B.members i created e);
        answers = subst (λ (z : WriterRecord). DoneSoFar B.taken (v.said b.0) z.waiting) (sym known)
            (subst (λ (o : Option Waiting). DoneSoFar B.taken (v.said b.0) o) (sym none)
            (subst (λ (l : List Said). DoneSoFar B.taken l None) (sym s.answered) after));
        bytes = s.wrote ∙ (append-nil (w.written (w.latest b.0)) ∙ B.bytes);
        queued = subst (λ (z : WriterRecord). QueueFits v.nodes z.intake (p.queues b.0)) (sym known)
            (subst (λ (i : Intake). QueueFits v.nodes i (p.queues b.0)) (sym intake)
            (subst (λ (k : ℕ). QueueFits k X.intake (p.queues b.0)) (sym s.aside.nodes) B.queued));
      }

  pub same-block : (v : World) (n : WriterRecord) (said : List Said) → Stepped w v b.0 (writing_as n (w.writers b.0).conn) said [] → SameBlock w v b.0
  same-block v n said s = record {
    entry = ap (λ (o : OfficeState). record_of o (record { 0 = b.0 })) s.office;
    replicas = λ k. s.aside.replicas k b.0;
    written = s.wrote ∙ append-nil (w.written (w.latest b.0));
  }

  -- A CREATE

  grants : (c : Command) → IsOf waiting.Opening c → is_done c (answer.Granted X.committed) ≡ true
  grants (command.Create ms) o = refl
  grants (command.Append ms) o = refl
  grants (command.Write bytes) o = absurd o
  grants (command.Fill n) o = absurd o
  grants command.Hflush o = absurd o
  grants command.Hsync o = absurd o
  grants command.Close o = absurd o

  pub create-answered : (stamp : Stamp) → X.phase ≡ phase.Accepted setup.Create stamp → OpensWell w b.0 X setup.Create → Kept p commands b
  unfolding own_step
  create-answered stamp at opens =
      let n : WriterRecord = record X { waiting = None; phase = phase.Streaming 0 } in
      answers-keep p commands h b (ordinal X) (answer.Granted X.committed) n (ap (step_in X) at) (inl refl)
      (record { waits = refl; reach = rw at refl; rule = refl })
      (λ v s. (
        record {
          stream = (h.writers b.0).stream;
          phase_is = record {
            office = opened-kept w v b.0 (same-block v n _ s) opens.office;
            sent_all = sym (ap (λ (xs : List Packet). length xs) opens.none);
            waits = tt;
            stand = λ q. opens.stand;
          };
        },
        answered-block v n waiting.Opening (answer.Granted X.committed) opens.waits refl refl refl refl grants s.did,
      ))

  -- A FLUSH OR A SYNC

  reached-flush : (n m : ℕ) (c : Command) → IsOf (waiting.Flush m) c → is_done c (answer.Reached n X.committed X.members) ≡ true
  reached-flush n m command.Hflush o = refl
  reached-flush n m (command.Create ms) o = absurd o
  reached-flush n m (command.Append ms) o = absurd o
  reached-flush n m (command.Write bytes) o = absurd o
  reached-flush n m (command.Fill k) o = absurd o
  reached-flush n m command.Hsync o = absurd o
  reached-flush n m command.Close o = absurd o

  reached-sync : (n m : ℕ) (q : SyncPacket) (c : Command) → IsOf (waiting.Sync m q) c → is_done c (answer.Reached n X.committed X.members) ≡ true
  reached-sync n m q command.Hsync o = refl
  reached-sync n m q (command.Create ms) o = absurd o
  reached-sync n m q (command.Append ms) o = absurd o
  reached-sync n m q (command.Write bytes) o = absurd o
  reached-sync n m q (command.Fill k) o = absurd o
  reached-sync n m q command.Hflush o = absurd o
  reached-sync n m q command.Close o = absurd o

  -- the step that answers what is reached
  reaches : (sent n : ℕ) → X.phase ≡ phase.Streaming sent → sent ≡ length X.stream.unacked → due_now X ≡ None → reached_length X.waiting X.stream ≡ Some n → own_step X ≡ reached X n
  unfolding own_step
  reaches sent n at all none is =
      ap (step_in X) at ∙ (ap (stream_step_as X sent) (past-end X.stream.unacked sent all) ∙ (ap (due_step X) none ∙ ap (reach_step_as X) is))

  reached-keeps : (sent n : ℕ) (y : Waiting) → X.phase ≡ phase.Streaming sent → StreamsWell w b.0 X sent → own_step X ≡ reached X n → X.waiting ≡ Some y → (y ≡ waiting.Close → ⊥) → ((c : Command) → IsOf y c → is_done c (answer.Reached n X.committed X.members) ≡ true)
      → Kept p commands b
  reached-keeps sent n y at well is waits other good =
      let m : WriterRecord = record X { waiting = None } in
      let stays : is_open X.intake.stand ≡ true = well.stand (λ q. other (same_Some y waiting.Close (sym waits ∙ q))) in
      answers-keep p commands h b (ordinal X) (answer.Reached n X.committed X.members) m is (inl (ap is_connected at)) (record { waits = refl; reach = refl; rule = refl })
      (λ v s. (
        record {
          stream = (h.writers b.0).stream;
          phase_is = subst (λ (q : Phase). WellIn v b.0 m q) (sym at) (record {
            office = opened-kept w v b.0 (same-block v m _ s) well.office;
            sent_all = well.sent_all;
            waits = tt;
            stand = λ q. stays;
          });
        },
        answered-block v m y (answer.Reached n X.committed X.members) waits refl refl refl refl good s.did,
      ))

  flush-not-close : (m : ℕ) → waiting.Flush m ≡ waiting.Close → ⊥
  flush-not-close m e = cc

  sync-not-close : (m : ℕ) (q : SyncPacket) → waiting.Sync m q ≡ waiting.Close → ⊥
  sync-not-close m q e = cc

  pub flush-answered : (sent n : ℕ) → X.phase ≡ phase.Streaming sent → StreamsWell w b.0 X sent → due_now X ≡ None → reached_length X.waiting X.stream ≡ Some n → Kept p commands b
  flush-answered sent n at well none is = go X.waiting refl is
    where
      does : own_step X ≡ reached X n
      does = reaches sent n at well.sent_all none is

      go : (o : Option Waiting) → X.waiting ≡ o → reached_length o X.stream ≡ Some n → Kept p commands b
      go None e r = absurd (none-some n r)
      go (Some waiting.Opening) e r = absurd (none-some n r)
      go (Some (waiting.Flush m)) e r = reached-keeps sent n (waiting.Flush m) at well does e (flush-not-close m) (reached-flush n m)
      go (Some (waiting.Sync m sync.Due)) e r = absurd (none-some n r)
      go (Some (waiting.Sync m (sync.Formed q))) e r = reached-keeps sent n (waiting.Sync m (sync.Formed q)) at well does e (sync-not-close m (sync.Formed q)) (reached-sync n m (sync.Formed q))
      go (Some waiting.Close) e r = absurd (none-some n r)
