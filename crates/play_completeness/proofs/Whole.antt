-- What a play in which nothing is due has of the commands of each block, and of its replicas.
use Rattle.std.proofs.Common.{◌≡◌, ℕ, suc, ◌+◌, List, [], ◌∷◌, ◌++◌, length, map, Option, Some, None, IfSome, refl, sym, ◌∙◌, ap, subst, arith, length-append, ◌⊎◌, inl, inr}
use Rattle.std.proofs.lemmas.Bool.{false≢true}
use Rattle.std.proofs.lemmas.List.{append-nil}
use Rattle.std.proofs.lemmas.Option.{none-some}
use Rattle.hd_base.specs.declared.numbers.NodeId.{NodeId}
use Rattle.hd_base.specs.declared.numbers.Stamp.{Stamp}
use Rattle.hd_base.specs.declared.states.ReplicaState.TheVariants as state
use Rattle.name_core.specs.declared.records.BlockRecord.{BlockRecord}
use Rattle.name_core.specs.Offices.{record_of, committed_under, committed_in}
use Rattle.packet_stream.specs.Streams.{written_in}
use Rattle.replica_core.specs.declared.info.ReplicaInfo.{ReplicaInfo}
use Rattle.replica_core.specs.Info.{state_of, state_under}
use Rattle.replica_core.specs.Views.{written_at}
use Rattle.replica_model.specs.Rows.{FullReplica}
use Rattle.replica_model.specs.Found.{IsFront}
use Rattle.writer_core.specs.Commands.{is_open, stand_after}
use Rattle.writer_core.specs.declared.commands.Command.{Command}
use Rattle.writer_core.specs.declared.commands.Command.TheVariants as command
use Rattle.writer_core.specs.declared.intake.Stand.{Stand}
use Rattle.writer_core.specs.declared.intake.Stand.TheVariants as stand
use Rattle.writer_core.specs.declared.phases.Phase.{Phase}
use Rattle.writer_core.specs.declared.phases.Phase.TheVariants as phase
use Rattle.writer_core.specs.declared.phases.Waiting.{Waiting}
use Rattle.writer_core.specs.declared.records.WriterRecord.{WriterRecord}
use Rattle.world.specs.declared.events.TakenCommand.{TakenCommand}
use Rattle.world.specs.Parts.{Said}
use Rattle.world.specs.Worlds.{World, start}
use Rattle.world.specs.Safe.{Has, written_under}
use Rattle.world_laws.specs.Stamping.{Givens, none_given, given_in, known_heard, heard, IsOfLatest, InPhase, HeldOf, Recorded}
use Rattle.world_laws.specs.Sessions.{told_stamp}
use Rattle.world_laws.proofs.Agreements.{office-and-writer-agree}
use Rattle.world_laws.proofs.AllRecorded.{all-recorded}
use Rattle.world_laws.proofs.ByteLaws.{holds-fronts}
use Rattle.world_laws.proofs.FilledLaws.{all-filled}
use Rattle.play_model.specs.States.{PlayState, world_of}
use Rattle.play_completeness.specs.Complete.{bytes_after, IsDone, IsGood, AllDone, IsWhole, ClosesWhole}
use Rattle.play_completeness.specs.Plain.{IsOwn, IsLeased}
use Rattle.play_completeness.specs.Links.{IsFinalWith}
use Rattle.play_completeness.specs.Writers.{IsClosed, RestsWell}
use Rattle.play_completeness.specs.Played.{stand_of, DoneSoFar, BlockPlayed, Played, SettledIsComplete}
use Rattle.play_completeness.proofs.Flowing.{none-left}
use Rattle.play_completeness.proofs.Settled.{AtRest, rests, streams, settles}

-- COMMANDS

-- all that were taken are done, where none waits
all-done : (taken : List Command) (said : List Said) (waits : Option Waiting) → waits ≡ None → DoneSoFar taken said waits → AllDone taken said
all-done taken said waits none d = record { each = λ k c found answered. go k c (d.each k c found answered); only = d.only }
  where
    go : (k : ℕ) (c : Command) → IsDone said k c ⊎ ((suc k ≡ length taken) × (waits ≡ None → ⊥)) → IsDone said k c
    go k c (inl done) = done
    go k c (inr late) = absurd (late.1 none)

-- nothing was answered of no commands
none-done : (said : List Said) → ((s : Said) → Has said s → IsGood [] s) → AllDone [] said
none-done said only = record { each = λ k c found answered. absurd (none-some c found); only = only }

pub stand-end : (s : Stand) (before : List Command) (c : Command) → stand_of s (before ++ c ∷ []) ≡ stand_after (stand_of s before) c
stand-end s [] c = refl
stand-end s (d ∷ before) c = stand-end (stand_after s d) before c

not-empty : (before : List Command) (c : Command) → [] ≡ before ++ c ∷ [] → ⊥
not-empty before c e = let l : 0 ≡ length (before ++ c ∷ []) = ap length e in let k : length (before ++ c ∷ []) ≡ length before + 1 = length-append before (c ∷ []) in absurd (omega (arith, l, k))

-- BYTES

-- a front of the whole length is the whole
front-whole : (xs ys : List ℕ) → IsFront xs ys → length xs ≡ length ys → xs ≡ ys
front-whole xs ys f e =
    let all : length ys ≡ length xs + length f.0 = ap length (sym f.1) ∙ length-append xs f.0 in
    let none : f.0 ≡ [] = none-left f.0 (omega (arith, e, all)) in
    sym (append-nil xs) ∙ (ap (λ (zs : List ℕ). xs ++ zs) (sym none) ∙ f.1)

final-state : (i : ReplicaInfo) → i.recovery ≡ None → i.original ≡ state.Finalized → state_of i ≡ state.Finalized
final-state i free final = ap (λ (r : Option Stamp). state_under r i.original) free ∙ final

-- BLOCKS

module _ (p : PlayState) (commands : ℕ → List Command) (h : Played p commands) (b : ℕ) where
  abbrev g : Givens
  g = given_in none_given (start p.nodes) p.events

  known-is : heard ((world_of p).writers b) ≡ ((world_of p).writers b).known
  known-is = ap (known_heard ((world_of p).writers b).known) (h.quiet b)

  -- the stamp that the writer knows is the one that the office has committed
  stamp-agrees : (r : BlockRecord) → record_of (world_of p).office (record { 0 = b }) ≡ Some r → ((world_of p).writers b).known.committed ≡ r.committed
  stamp-agrees r is =
      let w : World = world_of p in
      let leased : IsLeased r = subst (λ (o : Option BlockRecord). IfSome o IsLeased) is (h.peaceful.leases b) in
      sym (ap (told_stamp (w.writers b).known) (h.quiet b)) ∙ office-and-writer-agree p.nodes p.events b r is leased.free

  -- and of the latest session
  session-is : (r : BlockRecord) → record_of (world_of p).office (record { 0 = b }) ≡ Some r → ((world_of p).writers b).known.phase ≡ phase.Closed → (world_of p).session_of ((world_of p).writers b).known.committed.0 ≡ (world_of p).latest b
  session-is r is closed =
      let w : World = world_of p in
      let x : WriterRecord = (w.writers b).known in
      let recorded : Recorded g w = all-recorded p.nodes p.events in
      let held : HeldOf (g b) (w.latest b) (Some r) x =
      subst (λ (y : WriterRecord). HeldOf (g b) (w.latest b) (Some r) y) known-is (subst (λ (o : Option BlockRecord). HeldOf (g b) (w.latest b) o (heard (w.writers b))) is (recorded.blocks b)) in
      let fits : IsOfLatest (g b) (w.latest b) x.committed = subst (λ (q : Phase). InPhase (g b) (w.latest b) r.recovery x.committed x.waiting x.stream.unacked q) closed held.writer.fits in
      recorded.session b x.committed.0 (w.latest b) fits.is

  -- a member of a closed block
  member-whole : ((world_of p).writers b).known.phase ≡ phase.Closed → IsClosed (world_of p) b ((world_of p).writers b).known → (m : NodeId) → IsFinalWith ((world_of p).writers b).known.committed (written_in ((world_of p).writers b).known.stream) ((world_of p).writers b).known.stream.rule ((world_of p).replicas m.0 b)
      → (bytes : List ℕ) → (world_of p).written ((world_of p).latest b) ≡ bytes → IsWhole (world_of p) (record { 0 = b }) m bytes
  member-whole closed shut m f bytes are =
      let w : World = world_of p in
      let x : WriterRecord = (w.writers b).known in
      let r : FullReplica = w.replicas m.0 b in
      let own : IsOwn f.info = subst (λ (o : Option ReplicaInfo). IfSome o IsOwn) f.is (h.peaceful.own m.0 b) in
      let committed : committed_in w.office (record { 0 = b }) ≡ shut.office.entry.committed = ap committed_under shut.office.is in
      let stamp : f.info.stamp ≡ committed_in w.office (record { 0 = b }) = f.stamp_is ∙ (stamp-agrees shut.office.entry shut.office.is ∙ sym committed) in
      let front : IsFront r.bytes (written_under w f.info.stamp.0) =
      subst (λ (o : Option ReplicaInfo). IfSome o (λ i. IsFront r.bytes (written_under w i.stamp.0))) f.is (holds-fronts p.nodes p.events m.0 b) in
      let session : w.session_of f.info.stamp.0 ≡ w.latest b = ap (λ (s : Stamp). w.session_of s.0) f.stamp_is ∙ session-is shut.office.entry shut.office.is closed in
      let all : IsFront r.bytes (w.written (w.latest b)) = subst (λ (s : ℕ). IsFront r.bytes (w.written s)) session front in
      let long : length r.bytes ≡ length (w.written (w.latest b)) =
      ((all-filled p.nodes p.events).replicas m.0 b).full.all ∙ (ap written_at f.is ∙ (f.written_is ∙ sym shut.all)) in
      record {
        final = record {
          there = λ e. none-some f.info (sym e ∙ f.is);
          final = subst (λ (o : Option ReplicaInfo). IfSome o (λ i. (state_of i ≡ state.Finalized) × (i.stamp.0 ≡ (committed_in w.office (record { 0 = b })).0))) (sym f.is)
              (final-state f.info own.free f.final, ap (λ (s : Stamp). s.0) stamp);
        };
        bytes_are = front-whole r.bytes (w.written (w.latest b)) all long ∙ are;
      }

  closed-rests : (s : Stand) → s ≡ stand.Closed → (x : WriterRecord) → RestsWell (world_of p) b x s → IsClosed (world_of p) b x
  closed-rests stand.Closed e x r = r
  closed-rests stand.Unmade e x r = absurd (cc)
  closed-rests stand.Open e x r = absurd (cc)

  taken-whole : (queue : p.queues b ≡ []) → AtRest (world_of p) b ((world_of p).writers b).known → ClosesWhole (world_of p) (record { 0 = b }) (h.blocks b).taken
  taken-whole queue (rests closed well) i members m ends found has =
      let w : World = world_of p in
      let x : WriterRecord = (w.writers b).known in
      let block : BlockPlayed w b (p.queues b) (commands b) = h.blocks b in
      let s : x.intake.stand ≡ stand.Closed = block.stand ∙ (ap (stand_of stand.Unmade) ends.are ∙ stand-end stand.Unmade ends.before command.Close) in
      let shut : IsClosed w b x = closed-rests x.intake.stand s x well in
      let member : Has x.members m = subst (λ (ms : List NodeId). Has ms m) (sym (block.members i members found)) has in
      member-whole closed shut m (shut.members.each m member) (bytes_after (record { 0 = b }) [] block.taken) block.bytes
  taken-whole queue (streams opened) i members m ends found has =
      let block : BlockPlayed (world_of p) b (p.queues b) (commands b) = h.blocks b in
      let s : ((world_of p).writers b).known.intake.stand ≡ stand.Closed = block.stand ∙ (ap (stand_of stand.Unmade) ends.are ∙ stand-end stand.Unmade ends.before command.Close) in
      absurd (false≢true (sym (ap is_open s) ∙ opened))

  -- all commands were taken
  all-taken : p.queues b ≡ [] → commands b ≡ (h.blocks b).taken
  all-taken e = (h.blocks b).are ∙ (ap (λ (q : List TakenCommand). (h.blocks b).taken ++ map (λ (t : TakenCommand). t.command) q) e ∙ append-nil (h.blocks b).taken)

  abbrev Complete : List Command → Type 0
  Complete cs = AllDone cs ((world_of p).said b) × ClosesWhole (world_of p) (record { 0 = b }) cs

  no-left : (xs ys : List Command) → [] ≡ xs ++ ys → xs ≡ []
  no-left [] ys e = refl
  no-left (x ∷ xs) ys e = absurd (cc)

  without-commands : commands b ≡ [] → Complete (commands b)
  without-commands e =
      let none : (h.blocks b).taken ≡ [] = no-left (h.blocks b).taken _ (sym e ∙ (h.blocks b).are) in
      subst Complete (sym e) (
        none-done ((world_of p).said b) (λ s has. subst (λ (cs : List Command). IsGood cs s) none ((h.blocks b).answers.only s has)),
        λ i members m ends found has. absurd (not-empty ends.before command.Close ends.are),
      )

pub settled-complete : SettledIsComplete
settled-complete blocks p commands b h none (inl has) =
    let end = settles p commands h blocks none b has in
    subst (Complete p commands h b) (sym (all-taken p commands h b end.1)) (
      all-done (h.blocks b).taken ((world_of p).said b) ((world_of p).writers b).known.waiting end.0.waits (h.blocks b).answers,
      taken-whole p commands h b end.1 end.0.rest,
    )
settled-complete blocks p commands b h none (inr e) = without-commands p commands h b e
