-- The commands that a writer takes: a create or an append where its block is closed, and the others where it streams.
use Rattle.std.proofs.Common.{◌≡◌, ℕ, ◌+◌, Bool, true, false, List, [], ◌∷◌, ◌++◌, length, map, slice_get, Option, Some, None, IfSome, refl, sym, ◌∙◌, ap, subst, arith, ◌⊎◌, inl, inr}
use Rattle.std.specs.Prelude.{◌==◌, not}
use Rattle.std.proofs.lemmas.Bool.{false≢true}
use Rattle.std.proofs.lemmas.List.{append-nil}
use Rattle.std.proofs.lemmas.Option.{none-some}
use Rattle.hd_base.specs.declared.numbers.BlockId.{BlockId}
use Rattle.hd_base.specs.declared.numbers.NodeId.{NodeId}
use Rattle.packet_stream.specs.Streams.{written_in, begun, with_bytes, fill_bytes}
use Rattle.writer_core.specs.declared.actions.Action.TheVariants as action
use Rattle.writer_core.specs.declared.commands.Command.{Command}
use Rattle.writer_core.specs.declared.commands.Command.TheVariants as command
use Rattle.writer_core.specs.declared.intake.Intake.{Intake}
use Rattle.writer_core.specs.declared.intake.Stand.{Stand}
use Rattle.writer_core.specs.declared.intake.Stand.TheVariants as stand
use Rattle.writer_core.specs.declared.phases.Phase.{Phase}
use Rattle.writer_core.specs.declared.phases.Phase.TheVariants as phase
use Rattle.writer_core.specs.declared.phases.Setup.TheVariants as setup
use Rattle.writer_core.specs.declared.phases.SyncPacket.TheVariants as sync
use Rattle.writer_core.specs.declared.phases.Waiting.{Waiting}
use Rattle.writer_core.specs.declared.phases.Waiting.TheVariants as waiting
use Rattle.writer_core.specs.declared.records.WriterRecord.{WriterRecord}
use Rattle.writer_core.specs.Commands.{is_unmade, is_open, is_closed, fits, stand_after}
use Rattle.writer_core.specs.Transitions.{taken_as, own_step, has_step, is_connected}
use Rattle.world.specs.declared.events.TakenCommand.{TakenCommand}
use Rattle.world.specs.Worlds.{World}
use Rattle.world.specs.Safe.{Has}
use Rattle.world.specs.Clients.{writing_as, ruled, command_bytes}
use Rattle.world_laws.proofs.FactTables.{and-left}
use Rattle.play_completeness.proofs.WorldOrders.Lists.{Behind, get-append}
use Rattle.play_model.specs.States.{PlayState, world_of}
use Rattle.play_model.specs.Dues.{action_of}
use Rattle.play_completeness.proofs.PlayLaws.Commanding.{unmade-fresh}
use Rattle.play_completeness.proofs.PlayLaws.Resting.{all-rest}
use Rattle.play_completeness.specs.Complete.{is_answered, bytes_with}
use Rattle.play_completeness.specs.Writers.{StreamWaits, IsUnknown, IsClosed, RestsWell, StreamsWell, WellIn}
use Rattle.play_completeness.specs.Played.{IsOf, BlockPlayed, Played}
use Rattle.play_completeness.proofs.Flowing.{one-place, end-found, get-front, none-left}
use Rattle.completing_writers.specs.Steps.{CommandsWell}
use Rattle.completing_writers.proofs.Leaving.{Apart, apart-none}
use Rattle.completing_writers.proofs.Linking.{SameStream}
use Rattle.completing_writers.proofs.Others.{Kept, unknown-kept, closed-kept}
use Rattle.completing_writers.proofs.Doing.{opened-still}
use Rattle.completing_writers.proofs.Answering.{same-block}
use Rattle.completing_writers.proofs.Known.{block-is, streaming-whole, apart}
use Rattle.completing_writers.proofs.Naming.{made}
use Rattle.completing_writers.proofs.Stands.{unmade-is, closed-is}
use Rattle.completing_writers.proofs.Taken.{with_it, takes_as, closed-takes, streaming-takes}
use Rattle.completing_writers.proofs.Taking.{after, admits, commands-are, taken-block, takes-keep}

same-members : (ms ns : List NodeId) → command.Create ms ≡ command.Create ns → ms ≡ ns
same-members ms ns e = cc

module _ (p : PlayState) (commands : ℕ → List Command) (h : Played p commands) (b : BlockId) (fit : CommandsWell p.nodes (commands b.0)) (t : TakenCommand) (rest : List TakenCommand) (are : p.queues b.0 ≡ t ∷ rest)
    (next : action_of (world_of p) b ≡ action.Wait) (idle : has_step ((world_of p).writers b.0).known ≡ false) (free : ((world_of p).writers b.0).known.waiting ≡ None) where
  abbrev w : World
  w = world_of p

  abbrev X : WriterRecord
  X = (w.writers b.0).known

  abbrev B : BlockPlayed w b.0 (p.queues b.0) (commands b.0)
  B = h.blocks b.0

  abbrev i : Intake
  i = after p commands h b t rest are

  abbrev s : Stand
  s = X.intake.stand

  -- where it leaves the block
  stands : (d : Command) → t.command ≡ d → i.stand ≡ stand_after s d
  stands d e = ap (λ (j : Intake). j.stand) (admits p commands h b t rest are).is ∙ ap (stand_after s) e

  it-fits : (d : Command) → t.command ≡ d → fits s d ≡ true
  it-fits d e = ap (fits s) (sym e) ∙ (admits p commands h b t rest are).fits_so

  -- a writer without a connection has no stream to keep
  no-stream : (n : WriterRecord) → is_connected X.phase ≡ false → (k : ℕ) → (w.writers b.0).conn ≡ Some k → SameStream n X
  no-stream n e k c = absurd (none-some k (sym ((all-rest p.nodes p.events b.0).alone e) ∙ c))

  none-apart : Apart w b.0 (w.latest b.0) []
  none-apart = apart-none w b.0 (w.latest b.0)

  -- A CREATE

  abbrev created : List NodeId → WriterRecord
  created ms = record X { intake = i; queue = []; taken = X.taken + 1; waiting = Some waiting.Opening; members = ms; phase = phase.Wanted setup.Create; stream = begun t.rule 0 }

  pub create-taken : (ms : List NodeId) → t.command ≡ command.Create ms → X.phase ≡ phase.Closed → RestsWell w b.0 X s → Kept p commands b
  create-taken ms e at rests =
      let n : WriterRecord = created ms in
      let unmade : is_unmade s ≡ true = and-left (is_unmade s) (not (length ms == 0)) (it-fits (command.Create ms) e) in
      let unknown : IsUnknown w b.0 = subst (RestsWell w b.0 X) (unmade-is s unmade) rests in
      let none : X.taken ≡ 0 = ap (λ (x : WriterRecord). x.taken) (unmade-fresh p.nodes p.events b.0 unmade) in
      let alone : is_connected X.phase ≡ false = ap is_connected at in
      let opened : is_open i.stand ≡ true = ap is_open (stands (command.Create ms) e) in
      let no-taken : B.taken ≡ [] = none-left B.taken (sym B.number ∙ none) in
      takes-keep p commands h b t rest are next n []
      (closed-takes (ruled X t.command t.rule) i t.command (ap (λ (d : Command). (ruled X d t.rule).waiting) e ∙ free) (ap (λ (d : Command). (ruled X d t.rule).phase) e ∙ at))
      (ap (λ (d : Command). taken_as (with_it (ruled X d t.rule) i d) d) e)
      (ap (λ (d : Command). command_bytes (ruled X d t.rule) d) e)
      (inr ((all-rest p.nodes p.events b.0).alone alone))
      (no-stream n alone) none-apart
      (λ v u. (
        record {
          stream = record { all = λ _. refl; ends = λ k q found. absurd (none-some q found); within = omega arith };
          phase_is = (refl, opened, unknown-kept w v b.0 (same-block p commands h b v n [] u) unknown);
        },
        taken-block p commands h b t rest are v n [] u free refl refl
            (λ k made_by found. same-members ms made_by (sym e ∙ (one-place t.command (command.Create made_by) k (subst (λ (l : List Command). slice_get (l ++ t.command ∷ []) k ≡ Some (command.Create made_by)) no-taken found)).1))
            (λ _ q. none-some waiting.Opening (sym q)) (subst (IsOf waiting.Opening) (sym e) tt)
            (ap (bytes_with (record { 0 = b.0 }) (w.written (w.latest b.0))) e ∙ sym (append-nil (w.written (w.latest b.0)))),
      ))

  -- AN APPEND

  abbrev appended : List NodeId → WriterRecord
  appended ms = record X { intake = i; queue = []; taken = X.taken + 1; waiting = Some waiting.Opening; members = ms; phase = phase.Wanted setup.Append }

  -- the commands, with the append among them
  append-there : (ms : List NodeId) → t.command ≡ command.Append ms → slice_get (commands b.0) (length B.taken) ≡ Some (command.Append ms)
  append-there ms e =
      ap (λ (l : List Command). slice_get l (length B.taken)) (commands-are p commands h b t rest are)
      ∙ (get-front (B.taken ++ t.command ∷ []) (map (λ (x : TakenCommand). x.command) rest) (length B.taken) t.command (end-found B.taken t.command) ∙ ap (λ (d : Command). Some d) e)

  create-there : (k : ℕ) (made_by : List NodeId) → slice_get (B.taken ++ t.command ∷ []) k ≡ Some (command.Create made_by) → slice_get (commands b.0) k ≡ Some (command.Create made_by)
  create-there k made_by found =
      ap (λ (l : List Command). slice_get l k) (commands-are p commands h b t rest are)
      ∙ get-front (B.taken ++ t.command ∷ []) (map (λ (x : TakenCommand). x.command) rest) k (command.Create made_by) found

  pub append-taken : (ms : List NodeId) → t.command ≡ command.Append ms → X.phase ≡ phase.Closed → RestsWell w b.0 X s → Kept p commands b
  append-taken ms e at rests =
      let n : WriterRecord = appended ms in
      let is_shut : s ≡ stand.Closed = closed-is s (and-left (is_closed s) (not (length ms == 0)) (it-fits (command.Append ms) e)) in
      let closed : IsClosed w b.0 X = subst (RestsWell w b.0 X) is_shut rests in
      let m = made p commands h b fit (λ q. no-stand (sym is_shut ∙ q)) in
      let same : ms ≡ X.members = fit.keeps 0 (length B.taken) m.created ms m.first (append-there ms e) ∙ sym m.members in
      let closed_so : IsClosed w b.0 n = record { office = closed.office; all = closed.all; members = record { each = λ x has. closed.members.each x (subst (λ (l : List NodeId). Has l x) same has) } } in
      let alone : is_connected X.phase ≡ false = ap is_connected at in
      let opened : is_open i.stand ≡ true = ap is_open (stands (command.Append ms) e) in
      takes-keep p commands h b t rest are next n []
      (closed-takes (ruled X t.command t.rule) i t.command (ap (λ (d : Command). (ruled X d t.rule).waiting) e ∙ free) (ap (λ (d : Command). (ruled X d t.rule).phase) e ∙ at))
      (ap (λ (d : Command). taken_as (with_it (ruled X d t.rule) i d) d) e)
      (ap (λ (d : Command). command_bytes (ruled X d t.rule) d) e)
      (inr ((all-rest p.nodes p.events b.0).alone alone))
      (no-stream n alone) none-apart
      (λ v u. (
        record {
          stream = record { all = (h.writers b.0).stream.all; ends = (h.writers b.0).stream.ends; within = (h.writers b.0).stream.within };
          phase_is = (refl, opened, closed-kept w v b.0 (same-block p commands h b v n [] u) n closed_so);
        },
        taken-block p commands h b t rest are v n [] u free refl refl
            (λ k made_by found. fit.keeps k (length B.taken) made_by ms (create-there k made_by found) (append-there ms e))
            (λ _ q. none-some waiting.Opening (sym q)) (subst (IsOf waiting.Opening) (sym e) tt)
            (ap (bytes_with (record { 0 = b.0 }) (w.written (w.latest b.0))) e ∙ sym (append-nil (w.written (w.latest b.0)))),
      ))
    where
      no-stand : stand.Closed ≡ stand.Unmade → ⊥
      no-stand q = cc

  -- where its block is closed, only these fit
  pub create-or-append : X.phase ≡ phase.Closed → RestsWell w b.0 X s → Kept p commands b
  create-or-append at rests = go t.command refl s refl rests
    where
      other : (a : Stand) → s ≡ a → RestsWell w b.0 X a → is_open s ≡ true → Kept p commands b
      other stand.Unmade same z o = absurd (false≢true (ap is_open (sym same) ∙ o))
      other stand.Closed same z o = absurd (false≢true (ap is_open (sym same) ∙ o))
      other stand.Open same z o = absurd z

      go : (d : Command) → t.command ≡ d → (a : Stand) → s ≡ a → RestsWell w b.0 X a → Kept p commands b
      go (command.Create ms) e a same z = create-taken ms e at rests
      go (command.Append ms) e a same z = append-taken ms e at rests
      go (command.Write bytes) e a same z = other a same z (it-fits (command.Write bytes) e)
      go (command.Fill count) e a same z = other a same z (it-fits (command.Fill count) e)
      go command.Hflush e a same z = other a same z (it-fits command.Hflush e)
      go command.Hsync e a same z = other a same z (it-fits command.Hsync e)
      go command.Close e a same z = other a same z (it-fits command.Close e)

  -- ANOTHER ONE

  -- the members stay where the command is no create
  members-stay : (d : Command) → t.command ≡ d → ((ms : List NodeId) → d ≡ command.Create ms → ⊥) → (k : ℕ) (made_by : List NodeId) → slice_get (B.taken ++ t.command ∷ []) k ≡ Some (command.Create made_by) → X.members ≡ made_by
  members-stay d e other k made_by at = go (get-append B.taken (t.command ∷ []) k (command.Create made_by) at)
    where
      go : (slice_get B.taken k ≡ Some (command.Create made_by)) ⊎ Behind B.taken (t.command ∷ []) k (command.Create made_by) → X.members ≡ made_by
      go (inl found) = B.members k made_by found
      go (inr q) = absurd (other made_by (sym e ∙ (one-place t.command (command.Create made_by) q.place q.found).1))

  module _ (sent : ℕ) (at : X.phase ≡ phase.Streaming sent) (well : StreamsWell w b.0 X sent) where
    is-open : is_open s ≡ true
    is-open = well.stand (λ q. none-some waiting.Close (sym free ∙ q))

    stays-open : (d : Command) → t.command ≡ d → stand_after s d ≡ s → is_open i.stand ≡ true
    stays-open d e same = ap is_open (stands d e ∙ same) ∙ is-open

    does-so : (d : Command) → t.command ≡ d → ruled X d t.rule ≡ X → own_step (with_it (ruled X t.command t.rule) i t.command) ≡ takes_as (ruled X t.command t.rule) i t.command
    does-so d e same =
        let y : ruled X t.command t.rule ≡ X = ap (λ (c : Command). ruled X c t.rule) e ∙ same in
        streaming-takes (ruled X t.command t.rule) i t.command (ap (λ (x : WriterRecord). x.waiting) y ∙ free) sent (ap (λ (x : WriterRecord). x.phase) y ∙ at) (ap has_step y ∙ idle)

    -- bytes that are written
    wrote-taken : (d : Command) (bytes : List ℕ) → t.command ≡ d → ruled X d t.rule ≡ X → stand_after s d ≡ s → (is_answered d ≡ true → ⊥) → ((ms : List NodeId) → d ≡ command.Create ms → ⊥)
        → taken_as (with_it X i d) d ≡ record X { intake = i; queue = []; taken = X.taken + 1; stream = with_bytes X.stream bytes }
        → command_bytes X d ≡ bytes → bytes_with (record { 0 = b.0 }) (w.written (w.latest b.0)) d ≡ w.written (w.latest b.0) ++ bytes
        → Kept p commands b
    wrote-taken d bytes e same stands_so unanswered other is gives written =
        let n : WriterRecord = record X { intake = i; queue = []; taken = X.taken + 1; stream = with_bytes X.stream bytes } in
        takes-keep p commands h b t rest are next n bytes (does-so d e same)
        (ap (λ (c : Command). taken_as (with_it (ruled X c t.rule) i c) c) e ∙ (ap (λ (x : WriterRecord). taken_as (with_it x i d) d) same ∙ is))
        (ap (λ (c : Command). command_bytes (ruled X c t.rule) c) e ∙ (ap (λ (x : WriterRecord). command_bytes x d) same ∙ gives))
        (inl (ap is_connected at))
        (λ k c. record { waits = refl; reach = rw at refl; rule = refl })
        (apart p.nodes p.events h.quiet b.0 well.office.entry well.office.is bytes)
        (λ v u. (
          record {
            stream = record { all = (h.writers b.0).stream.all; ends = (h.writers b.0).stream.ends; within = (h.writers b.0).stream.within };
            phase_is = subst (λ (q : Phase). WellIn v b.0 n q) (sym at) (record {
              office = opened-still w v b.0 (writing_as n (w.writers b.0).conn) [] bytes u well.office;
              sent_all = well.sent_all;
              waits = subst (λ (o : Option Waiting). StreamWaits o (written_in n.stream)) (sym free) tt;
              stand = λ _. stays-open d e stands_so;
            });
          },
          taken-block p commands h b t rest are v n bytes u free refl refl (members-stay d e other)
              (λ a _. unanswered (sym (ap is_answered e) ∙ a)) (subst (λ (o : Option Waiting). IfSome o (λ (y : Waiting). IsOf y t.command)) (sym free) tt)
              (ap (bytes_with (record { 0 = b.0 }) (w.written (w.latest b.0))) e ∙ written),
        ))

    -- a command that waits
    waits-taken : (d : Command) (y : Waiting) (had : Bool) → t.command ≡ d → ruled X d t.rule ≡ X → ((y ≡ waiting.Close → ⊥) → stand_after s d ≡ s) → ((ms : List NodeId) → d ≡ command.Create ms → ⊥) → IsOf y d → StreamWaits (Some y) (written_in X.stream)
        → taken_as (with_it X i d) d ≡ record X { intake = i; queue = []; taken = X.taken + 1; waiting = Some y; had_sync = had }
        → command_bytes X d ≡ [] → bytes_with (record { 0 = b.0 }) (w.written (w.latest b.0)) d ≡ w.written (w.latest b.0)
        → Kept p commands b
    waits-taken d y had e same stands_so other of within is gives written =
        let n : WriterRecord = record X { intake = i; queue = []; taken = X.taken + 1; waiting = Some y; had_sync = had } in
        takes-keep p commands h b t rest are next n [] (does-so d e same)
        (ap (λ (c : Command). taken_as (with_it (ruled X c t.rule) i c) c) e ∙ (ap (λ (x : WriterRecord). taken_as (with_it x i d) d) same ∙ is))
        (ap (λ (c : Command). command_bytes (ruled X c t.rule) c) e ∙ (ap (λ (x : WriterRecord). command_bytes x d) same ∙ gives))
        (inl (ap is_connected at))
        (λ k c. record { waits = refl; reach = refl; rule = refl })
        none-apart
        (λ v u. (
          record {
            stream = (h.writers b.0).stream;
            phase_is = subst (λ (q : Phase). WellIn v b.0 n q) (sym at) (record {
              office = opened-still w v b.0 (writing_as n (w.writers b.0).conn) [] [] u well.office;
              sent_all = well.sent_all;
              waits = within;
              stand = λ not. stays-open d e (stands_so (λ q. not (ap (λ (z : Waiting). Some z) q)));
            });
          },
          taken-block p commands h b t rest are v n [] u free refl refl (members-stay d e other)
              (λ _ q. none-some y (sym q)) (subst (IsOf y) (sym e) of)
              (ap (bytes_with (record { 0 = b.0 }) (w.written (w.latest b.0))) e ∙ (written ∙ sym (append-nil (w.written (w.latest b.0))))),
        ))

    -- where it streams, only these fit
    pub streaming-taken : Kept p commands b
    streaming-taken = go t.command refl
      where
        open-closed : (a : Stand) → is_open a ≡ true → is_closed a ≡ true → ⊥
        open-closed stand.Unmade x y = false≢true x
        open-closed stand.Open x y = false≢true y
        open-closed stand.Closed x y = false≢true x

        open-unmade : (a : Stand) → is_open a ≡ true → is_unmade a ≡ true → ⊥
        open-unmade stand.Unmade x y = false≢true x
        open-unmade stand.Open x y = false≢true y
        open-unmade stand.Closed x y = false≢true x

        fills : (count : ℕ) → fill_bytes X.block (written_in X.stream) count ≡ fill_bytes (record { 0 = b.0 }) (length (w.written (w.latest b.0))) count
        fills count =
            ap (λ (d : BlockId). fill_bytes d (written_in X.stream) count) (block-is p.nodes p.events h.quiet b.0)
            ∙ ap (λ (k : ℕ). fill_bytes (record { 0 = b.0 }) k count) (sym (streaming-whole p.nodes p.events h.quiet b.0 well.office.entry sent well.office.is at))

        go : (d : Command) → t.command ≡ d → Kept p commands b
        go (command.Create ms) e = absurd (open-unmade s is-open (and-left (is_unmade s) (not (length ms == 0)) (it-fits (command.Create ms) e)))
        go (command.Append ms) e = absurd (open-closed s is-open (and-left (is_closed s) (not (length ms == 0)) (it-fits (command.Append ms) e)))
        go (command.Write bytes) e = wrote-taken (command.Write bytes) bytes e refl refl (λ q. false≢true q) (λ ms q. cc) refl refl refl
        go (command.Fill count) e =
            wrote-taken (command.Fill count) (fill_bytes X.block (written_in X.stream) count) e refl refl (λ q. false≢true q) (λ ms q. cc) refl refl
            (ap (λ (l : List ℕ). w.written (w.latest b.0) ++ l) (sym (fills count)))
        go command.Hflush e = waits-taken command.Hflush (waiting.Flush (written_in X.stream)) X.had_sync e refl (λ _. refl) (λ ms q. cc) tt (omega arith) refl refl refl
        go command.Hsync e = waits-taken command.Hsync (waiting.Sync (written_in X.stream) sync.Due) true e refl (λ _. refl) (λ ms q. cc) tt (omega arith) refl refl refl
        go command.Close e = waits-taken command.Close waiting.Close X.had_sync e refl (λ not. absurd (not refl)) (λ ms q. cc) tt tt refl refl refl
