-- What is due of connections and of readers keeps a play without failures as it should be.
use Rattle.std.proofs.Common.{◌≡◌, ℕ, ◌<◌, true, false, List, [], ◌∷◌, ◌++◌, Option, Some, None, IfSome, refl, sym, ◌∙◌, ap, subst}
use Rattle.std.specs.Prelude.{◌&&◌, nat_lt, is_some}
use Rattle.std.proofs.lemmas.Bool.{false≢true}
use Rattle.hd_base.specs.SumRules.{Rule}
use Rattle.hd_base.specs.declared.numbers.ConnId.{ConnId}
use Rattle.op_headers.specs.Values.{WriteFields}
use Rattle.writer_core.specs.declared.commands.Command.{Command}
use Rattle.writer_core.specs.declared.records.WriterRecord.{WriterRecord}
use Rattle.world.specs.declared.events.Event.{Event}
use Rattle.world.specs.declared.events.Event.TheVariants as event
use Rattle.world.specs.Parts.{Upper, by_writer, by_member, by_reader, by_primary, FullMember, Lower, idle, writes, serves, recovers, ended_below, Writing}
use Rattle.world.specs.Worlds.{World, start}
use Rattle.world.specs.Connections.{Next, next_down, next_up, is_served, is_conn}
use Rattle.world.specs.Clients.{writing_as, writer_hears}
use Rattle.world.specs.Enabled.{acts_below, can_down, can_ready, can_up, takes_above}
use Rattle.world.specs.Nodes.{block_of}
use Rattle.world.specs.Events.{down_event, ready_event, up_event, outcome, after_event, happens, run}
use Rattle.world_laws.specs.Placing.{IsUpper}
use Rattle.world_laws.proofs.FactTables.{and-left, and-right, when-each}
use Rattle.world_laws.proofs.PlacedLaws.{all-placed}
use Rattle.world_laws.proofs.RunLaws.{runs-end}
use Rattle.world_orders.specs.Orders.{HasDialled}
use Rattle.world_orders.proofs.AllOrdered.{all-ordered}
use Rattle.play_model.specs.declared.asks.ReadAsk.{ReadAsk}
use Rattle.play_model.specs.declared.dues.Due.TheVariants as due
use Rattle.play_model.specs.Asks.{asking_node}
use Rattle.play_model.specs.States.{PlayState, world_of}
use Rattle.play_model.specs.Dues.{is_open, is_open_above, is_due, after_due}
use Rattle.play_model.specs.Laws.{IsQuiet}
use Rattle.play_scripts.specs.PlayLaws.Members.{IsNode, EventNames}
use Rattle.play_scripts.proofs.PlayLaws.Untold.{stays-quiet}
use Rattle.play_completeness.specs.Formed.{Ruled}
use Rattle.play_completeness.specs.Keeping.{PlayedOn, ConnsKeepPlays, ReadersKeepPlays}
use Rattle.play_completeness.specs.Links.{LowerWell, InPipeline, Links}
use Rattle.play_completeness.specs.Plain.{is_plain, is_of_pipeline, is_of_primary, Peaceful}
use Rattle.play_completeness.specs.Played.{BlockPlayed, Played}
use Rattle.play_completeness.specs.Writers.{Writers}
use Rattle.play_completeness.proofs.Asking.{live-writer, requests-keep}
use Rattle.play_completeness.proofs.Beside.{Beside, beside-links, beside-writers, beside-ruled, beside-block}
use Rattle.play_completeness.proofs.DownTurns.{packets-keep}
use Rattle.play_completeness.proofs.EndTurns.{EndTurned, down-turned, ready-turned, up-turned}
use Rattle.play_completeness.proofs.EndsKeep.{SameBlock, block-same, ends-keep-writers, ends-keep-block, ends-keep-ruled}
use Rattle.play_completeness.proofs.Hearing.{less, hearing-keeps}
use Rattle.play_completeness.proofs.OwnMoves.{quiet-formed}
use Rattle.play_completeness.proofs.Peace.{happens-peace}
use Rattle.play_completeness.proofs.Pipelines.{writing-in, dialled-in}
use Rattle.play_completeness.proofs.ReaderTurns.{asking-beside, hearing-beside, taking-beside, serving-beside}
use Rattle.play_completeness.proofs.ReadyTurns.{ready-keeps}
use Rattle.play_completeness.proofs.TurnWorld.{named}
use Rattle.play_completeness.proofs.WriterHearing.{conn-is, writers-hear}
use Rattle.play_completeness.proofs.WriterKeeps.{heard_as, writer-heard, up-is, heard-writers, heard-ruled, heard-block}
use Rattle.play_completeness.proofs.WriterPlays.{plain-more, names-more, hears-well}

-- ONE EVENT MORE

-- What is true of the world after one event more.
pub record Kept (w v : World) : Type 0 where
  pub links : Links v
  pub writers : Writers v
  pub quiet : IsQuiet v
  pub ruled : Ruled v
  pub block : (b : ℕ) → SameBlock w v b

pub played-more : (p : PlayState) (commands : ℕ → List Command) (e : Event) → Played p commands → is_plain e ≡ true → Kept (world_of p) (happens (world_of p) e) → Played (record p { events = p.events ++ e ∷ [] }) commands
played-more p commands e h plain k =
    let v : World = happens (world_of p) e in
    let u : World = run (start p.nodes) (p.events ++ e ∷ []) in
    let is : v ≡ u = sym (runs-end (start p.nodes) p.events e) in
    record {
      recoveries = h.recoveries;
      unarmed = h.unarmed;
      plain = plain-more p.events e h.plain plain;
      quiet = subst IsQuiet is k.quiet;
      peaceful = subst Peaceful is (happens-peace (world_of p) e plain h.peaceful);
      links = subst Links is k.links;
      writers = subst Writers is k.writers;
      blocks = λ b. subst (λ (x : World). BlockPlayed x b (p.queues b) (commands b)) is (block-same (world_of p) v b (p.queues b) (commands b) (k.block b) (h.blocks b));
    }

-- ENDS AT NODES

same-turned : (w : World) (block : ℕ) (rule : Rule) → EndTurned w w block rule
same-turned w block rule = record { nodes = refl; office = refl; latest = λ b. refl; written = λ s. refl; writers = λ b. refl; said = λ b. refl; replicas = λ n b e. refl; rules = λ h. h }

after-turned : (w : World) (e : Event) (o : Option World) (block : ℕ) (rule : Rule) → IfSome o (λ v. EndTurned w (named e v) block rule) → EndTurned w (after_event w e o) block rule
after-turned w e None block rule h = same-turned w block rule
after-turned w e (Some v) block rule h = h

module _ (p : PlayState) (commands : ℕ → List Command) (h : PlayedOn p commands) where
  abbrev w : World
  w = world_of p

  abbrev links : Links w
  links = h.played.links

  by-turn : (c : ℕ) (lc : InPipeline w c) (v : World) → is_open (w.lowers c) ≡ true → EndTurned w v (block_of (links c lc).fields) (links c lc).rule → Links v → IsQuiet v → Kept w v
  by-turn c lc v open_yet t l q =
      let of = live-writer p.nodes p.events h.names.few h.played.plain h.names.named h.played.quiet links c lc open_yet in
      let f : WriteFields = (links c lc).fields in
      record {
        links = l;
        writers = ends-keep-writers w v (block_of f) (links c lc).rule t of.connected h.played.writers;
        quiet = q;
        ruled = ends-keep-ruled w v (block_of f) (links c lc).rule t of.connected of.rule_is h.ruled;
        block = λ b. ends-keep-block w v (block_of f) (links c lc).rule t of.connected b;
      }

  -- A LOWER END TAKES SOMETHING

  down-links : (c : ConnId) (lc : InPipeline w c.0) → is_open (w.lowers c.0) ≡ true → Links (happens w (event.Down c true))
  down-links c lc open_yet = go (w.lowers c.0) refl (links c.0 lc).lower
    where
      go : (l : Lower) → w.lowers c.0 ≡ l → LowerWell w c.0 (links c.0 lc).fields (links c.0 lc).rule l → Links (happens w (event.Down c true))
      go idle is well = requests-keep p.nodes p.events c h.names.few h.played.plain h.names.named h.played.quiet links lc.of is
      go (writes m) is well = packets-keep p.nodes p.events c m h.played.plain links is (sym (ap is_open is) ∙ open_yet)
      go (serves b s) is well = absurd well
      go recovers is well = absurd well
      go ended_below is well = absurd well

  down-event : (c : ConnId) (lc : InPipeline w c.0) → EndTurned w (happens w (event.Down c true)) (block_of (links c.0 lc).fields) (links c.0 lc).rule
  unfolding happens outcome
  down-event c lc =
      after-turned w (event.Down c true) (down_event w c.0 true false) (block_of (links c.0 lc).fields) (links c.0 lc).rule
      (when-each (λ (v : World). EndTurned w (named (event.Down c true) v) (block_of (links c.0 lc).fields) (links c.0 lc).rule) (is_served w c.0) _ (λ _. down-turned w (all-ordered p.nodes p.events) h.played.peaceful links c.0 lc (event.Down c true) (next_down w c.0) refl))

  down-piped : (c : ConnId) → is_of_pipeline (w.dialled c.0).upper ≡ true → is_due w p.queues (due.Down c) ≡ true → Kept w (happens w (event.Down c true))
  down-piped c piped is =
      let known : c.0 < w.next_conn = less c.0 w (and-left (nat_lt c.0 w.next_conn) _ (and-left (is_served w c.0) _ (and-right (is_open (w.lowers c.0)) (can_down w c.0) is))) in
      let lc : InPipeline w c.0 = record { known = known; of = piped } in
      let open_yet : is_open (w.lowers c.0) ≡ true = and-left (is_open (w.lowers c.0)) (can_down w c.0) is in
      by-turn c.0 lc (happens w (event.Down c true)) open_yet (down-event c lc) (down-links c lc open_yet) (stays-quiet w p.queues (due.Down c) h.played.quiet)

  -- A LOWER END ACTS

  ready-links : (c : ConnId) (lc : InPipeline w c.0) → is_open (w.lowers c.0) ≡ true → acts_below (w.lowers c.0) w c.0 ≡ true → Links (happens w (event.Ready c))
  ready-links c lc open_yet acts = go (w.lowers c.0) refl (links c.0 lc).lower
    where
      go : (l : Lower) → w.lowers c.0 ≡ l → LowerWell w c.0 (links c.0 lc).fields (links c.0 lc).rule l → Links (happens w (event.Ready c))
      go idle is well = absurd (false≢true (sym (ap (λ (l : Lower). acts_below l w c.0) is) ∙ acts))
      go (writes m) is well = ready-keeps p.nodes p.events c m h.played.plain links is (sym (ap is_open is) ∙ open_yet)
      go (serves b s) is well = absurd well
      go recovers is well = absurd well
      go ended_below is well = absurd well

  ready-event : (c : ConnId) (lc : InPipeline w c.0) → EndTurned w (happens w (event.Ready c)) (block_of (links c.0 lc).fields) (links c.0 lc).rule
  unfolding happens outcome
  ready-event c lc =
      after-turned w (event.Ready c) (ready_event w c.0 false) (block_of (links c.0 lc).fields) (links c.0 lc).rule
      (when-each (λ (v : World). EndTurned w (named (event.Ready c) v) (block_of (links c.0 lc).fields) (links c.0 lc).rule) (is_served w c.0) _ (λ _. ready-turned w (all-ordered p.nodes p.events) h.played.peaceful links c.0 lc (event.Ready c)))

  ready-piped : (c : ConnId) → is_of_pipeline (w.dialled c.0).upper ≡ true → is_due w p.queues (due.Ready c) ≡ true → Kept w (happens w (event.Ready c))
  ready-piped c piped is =
      let can = and-right (is_open (w.lowers c.0)) (can_ready w c.0) is in
      let lc : InPipeline w c.0 = record { known = less c.0 w (and-left (nat_lt c.0 w.next_conn) _ (and-left (is_served w c.0) _ can)); of = piped } in
      let open_yet : is_open (w.lowers c.0) ≡ true = and-left (is_open (w.lowers c.0)) (can_ready w c.0) is in
      by-turn c.0 lc (happens w (event.Ready c)) open_yet (ready-event c lc) (ready-links c lc open_yet (and-right (is_served w c.0) _ can)) (stays-quiet w p.queues (due.Ready c) h.played.quiet)

  -- A MEMBER HEARS ITS MIRROR

  -- the member that dialled
  member-of : (c d : ℕ) (l : Lower) → HasDialled c l → is_open l ≡ true → (m : FullMember) × (l ≡ writes m)
  member-of c d (writes m) dialled acts = (m, refl)
  member-of c d ended_below dialled acts = absurd (false≢true acts)
  member-of c d idle dialled acts = absurd dialled
  member-of c d (serves b s) dialled acts = absurd dialled
  member-of c d recovers dialled acts = absurd dialled

  up-event-turned : (c : ConnId) (d : ℕ) (ld : InPipeline w d) (m : FullMember) → w.lowers d ≡ writes m → (w.dialled c.0).upper ≡ by_member d → EndTurned w (happens w (event.Up c)) (block_of (links d ld).fields) (links d ld).rule
  unfolding happens outcome
  up-event-turned c d ld m is upper =
      after-turned w (event.Up c) (up_event w c.0 false) (block_of (links d ld).fields) (links d ld).rule
      (when-each (λ (v : World). EndTurned w (named (event.Up c) v) (block_of (links d ld).fields) (links d ld).rule) (nat_lt c.0 w.next_conn) _ (λ _. up-turned w (all-ordered p.nodes p.events) h.played.peaceful links d ld (event.Up c) c.0 m is upper (next_up w c.0)))

  up-kept : (c : ConnId) (d : ℕ) → (w.dialled c.0).upper ≡ by_member d → is_due w p.queues (due.Up c) ≡ true → Kept w (happens w (event.Up c))
  up-kept c d upper is =
      let can = and-right (is_open_above w (w.dialled c.0).upper) (can_up w c.0) is in
      let lc : c.0 < w.next_conn = less c.0 w (and-left (nat_lt c.0 w.next_conn) (is_some (next_up w c.0)) (and-left (nat_lt c.0 w.next_conn && is_some (next_up w c.0)) (takes_above (w.dialled c.0).upper w c.0) can)) in
      let acts : is_open (w.lowers d) ≡ true = sym (ap (is_open_above w) upper) ∙ and-left (is_open_above w (w.dialled c.0).upper) (can_up w c.0) is in
      let m = member-of c.0 d (w.lowers d) ((all-ordered p.nodes p.events).dialled_by c.0 d lc upper) acts in
      let ld : InPipeline w d = writing-in w (all-ordered p.nodes p.events) d m.0 m.1 (subst (λ (u : Upper). IsUpper w.next_conn u) upper ((all-placed p.nodes p.events).dialled c.0 lc).upper) in
      by-turn d ld (happens w (event.Up c)) acts (up-event-turned c d ld m.0 m.1 upper)
      (hearing-keeps p.nodes p.events c d m.0 h.played.plain links upper m.1 (sym (ap is_open m.1) ∙ acts)) (stays-quiet w p.queues (due.Up c) h.played.quiet)

  -- A WRITER HEARS

  next-there : (o : Option Next) → is_some o ≡ true → (x : Next) × (o ≡ Some x)
  next-there (Some x) e = (x, refl)
  next-there None e = absurd (false≢true e)

  writer-kept : (c : ConnId) (b : ℕ) → (w.dialled c.0).upper ≡ by_writer b → is_due w p.queues (due.Up c) ≡ true → Kept w (happens w (event.Up c))
  writer-kept c b upper is =
      let can = and-right (is_open_above w (w.dialled c.0).upper) (can_up w c.0) is in
      let front = and-left (nat_lt c.0 w.next_conn && is_some (next_up w c.0)) (takes_above (w.dialled c.0).upper w c.0) can in
      let known : nat_lt c.0 w.next_conn ≡ true = and-left (nat_lt c.0 w.next_conn) (is_some (next_up w c.0)) front in
      let lc : InPipeline w c.0 = dialled-in w c.0 (by_writer b) upper refl (less c.0 w known) in
      let x = next-there (next_up w c.0) (and-right (nat_lt c.0 w.next_conn) (is_some (next_up w c.0)) front) in
      let takes : takes_above (by_writer b) w c.0 ≡ true = sym (ap (λ (u : Upper). takes_above u w c.0) upper) ∙ and-right (nat_lt c.0 w.next_conn && is_some (next_up w c.0)) (takes_above (w.dialled c.0).upper w c.0) can in
      let conn : (w.writers b).conn ≡ Some c.0 = conn-is (w.writers b).conn c.0 (and-left (is_conn (w.writers b).conn c.0) _ takes) in
      let new : WriterRecord = writer_hears (w.writers b).known x.0 in
      let same : happens w (event.Up c) ≡ heard_as w b c.0 x.0 new (event.Up c) = up-is w c b x.0 known x.1 upper takes in
      let heard = hears-well p.nodes p.events h.names.few h.played.plain h.names.named h.played.quiet links h.played.writers (quiet-formed p.nodes p.events h.played.quiet) h.ruled b c lc upper conn x.0 x.1 same in
      let t = writer-heard w b c.0 x.0 new (event.Up c) in
      let u : World = heard_as w b c.0 x.0 new (event.Up c) in
      let n : Writing = writing_as new (w.writers b).conn in
      record {
        links = writers-hear p.nodes p.events c b h.played.plain h.played.quiet links h.played.writers upper;
        writers = subst Writers (sym same) (heard-writers w u b n t heard h.played.writers);
        quiet = stays-quiet w p.queues (due.Up c) h.played.quiet;
        ruled = subst Ruled (sym same) (heard-ruled w u b n t heard h.ruled);
        block = λ k. subst (λ (v : World). SameBlock w v k) (sym same) (heard-block w u b n t heard k);
      }

  -- READERS

  -- what leaves alone all but readers and their connections
  kept-beside : (v : World) → Beside w v → IsQuiet v → Kept w v
  kept-beside v s quiet = record {
    links = beside-links w v (all-ordered p.nodes p.events) (all-placed p.nodes p.events) links s;
    writers = beside-writers w v s h.played.writers;
    quiet = quiet;
    ruled = beside-ruled w v s h.ruled;
    block = beside-block w v s;
  }

  no-primary : {A : Type 0} (c : ConnId) (i place : ℕ) → (w.dialled c.0).upper ≡ by_primary i place → A
  no-primary c i place upper = absurd (false≢true (sym (ap is_of_primary (sym upper) ∙ h.played.peaceful.uppers c.0)))

  reader-kept : (c : ConnId) (i : ℕ) → (w.dialled c.0).upper ≡ by_reader i → Kept w (happens w (event.Up c))
  reader-kept c i upper = kept-beside (happens w (event.Up c)) (hearing-beside p.nodes p.events c i upper) (stays-quiet w p.queues (due.Up c) h.played.quiet)

  down-kept : (c : ConnId) → is_due w p.queues (due.Down c) ≡ true → Kept w (happens w (event.Down c true))
  down-kept c is = go (w.dialled c.0).upper refl
    where
      go : (u : Upper) → (w.dialled c.0).upper ≡ u → Kept w (happens w (event.Down c true))
      go (by_writer b) upper = down-piped c (ap is_of_pipeline upper) is
      go (by_member d) upper = down-piped c (ap is_of_pipeline upper) is
      go (by_reader i) upper = kept-beside (happens w (event.Down c true)) (taking-beside p.nodes p.events c i upper) (stays-quiet w p.queues (due.Down c) h.played.quiet)
      go (by_primary i place) upper = no-primary c i place upper

  ready-kept : (c : ConnId) → is_due w p.queues (due.Ready c) ≡ true → Kept w (happens w (event.Ready c))
  ready-kept c is = go (w.dialled c.0).upper refl
    where
      go : (u : Upper) → (w.dialled c.0).upper ≡ u → Kept w (happens w (event.Ready c))
      go (by_writer b) upper = ready-piped c (ap is_of_pipeline upper) is
      go (by_member d) upper = ready-piped c (ap is_of_pipeline upper) is
      go (by_reader i) upper = kept-beside (happens w (event.Ready c)) (serving-beside p.nodes p.events c i upper) (stays-quiet w p.queues (due.Ready c) h.played.quiet)
      go (by_primary i place) upper = no-primary c i place upper

  asking-kept : (ask : ReadAsk) → Kept w (happens w (asking_node ask true))
  asking-kept ask = kept-beside (happens w (asking_node ask true)) (asking-beside w ask) (stays-quiet w p.queues (due.Reader ask) h.played.quiet)

  up-any : (c : ConnId) → (u : Upper) → (w.dialled c.0).upper ≡ u → is_due w p.queues (due.Up c) ≡ true → Kept w (happens w (event.Up c))
  up-any c (by_writer b) upper is = writer-kept c b upper is
  up-any c (by_member d) upper is = up-kept c d upper is
  up-any c (by_reader i) upper is = reader-kept c i upper
  up-any c (by_primary i place) upper is = no-primary c i place upper

-- PLAYS

more : (p : PlayState) (commands : ℕ → List Command) (e : Event) → PlayedOn p commands → is_plain e ≡ true → EventNames (IsNode p.nodes) e → Kept (world_of p) (happens (world_of p) e) → PlayedOn (record p { events = p.events ++ e ∷ [] }) commands
more p commands e h plain names k =
    let is : happens (world_of p) e ≡ run (start p.nodes) (p.events ++ e ∷ []) = sym (runs-end (start p.nodes) p.events e) in
    record {
      played = played-more p commands e h.played plain k;
      names = record { few = h.names.few; named = names-more (IsNode p.nodes) p.events e h.names.named names };
      ruled = subst Ruled is k.ruled;
    }

pub conns-keep : ConnsKeepPlays
unfolding after_due
conns-keep p commands (due.Own b) h is at = absurd at
conns-keep p commands (due.Reader ask) h is at = absurd at
conns-keep p commands (due.Primary r) h is at = absurd at
conns-keep p commands (due.Down c) h is at = more p commands (event.Down c true) h refl tt (down-kept p commands h c is)
conns-keep p commands (due.Ready c) h is at = more p commands (event.Ready c) h refl tt (ready-kept p commands h c is)
conns-keep p commands (due.Up c) h is at = more p commands (event.Up c) h refl tt (up-any p commands h c ((world_of p).dialled c.0).upper refl is)

pub readers-keep : ReadersKeepPlays
unfolding after_due
readers-keep p commands ask h = more p commands (asking_node ask true) h refl tt (asking-kept p commands h ask)
