-- A member that acts without a message.
use Rattle.std.proofs.Common.{◌≡◌, ◌≢◌, ◌<◌, ℕ, Bool, true, false, [], map, Option, Some, None, IfSome, Result, Ok, Err, refl, sym, ap, ◌∙◌, subst, arith}
use Rattle.hd_base.specs.declared.ends.Conn.{Conn}
use Rattle.hd_base.specs.declared.files.Files as files
use Rattle.hd_base.specs.declared.links.LinkIn as link_in
use Rattle.hd_base.specs.declared.links.LinkOut as link_out
use Rattle.hd_base.specs.declared.numbers.ConnId.{ConnId}
use Rattle.hd_base.specs.declared.roads.Roads as roads
use Rattle.pipe_member.specs.LinkMessages.Incomings.{IncomingState, nothing_received}
use Rattle.pipe_member.specs.ReplicaModel.Rows.{FullReplica}
use Rattle.pipe_member.specs.ReplicaFiles.BookState.{BookState}
use Rattle.pipe_member.specs.ReplicaFiles.Books.{replica_of}
use Rattle.pipe_member.specs.MemberCore.Turn.{Turn}
use Rattle.pipe_member.specs.MemberCore.Members.{MemberState, ready_turn_by}
use Rattle.pipe_member.specs.MemberCore.Steps.{Step, step}
use Rattle.pipe_member.specs.PipeTurns.Acting.{texts_of}
use Rattle.pipe_member.specs.declared.member.Member.{Member}
use Rattle.pipe_member.specs.declared.stages.Stage.{Stage}
use Rattle.pipe_member.specs.declared.stages.Took.TheVariants as took
use Rattle.pipe_member.specs.declared.stepped.Stepped.{Stepped}
use Rattle.pipe_member.specs.Below.{BelowState}
use Rattle.pipe_member.specs.EventSteps.{IsOfHistory}
use Rattle.pipe_member.specs.Events.{TurnsIf, IsReady}
use Rattle.pipe_member.specs.Stepping.{IsStep}
use Rattle.pipe_member.specs.Turns.{Turns}
use Rattle.pipe_member.proofs.EventStepLemmas.{readies_step}
use Rattle.pipe_member.proofs.RuledTurns.{IsQuiet, readies, acting, ready_ruled}
use Rattle.pipe_member.proofs.SteppingLemmas.{turns_step}
use Rattle.road_traffic.specs.Showing.{Net}
use Rattle.world_texts.specs.World.Event.TheVariants as event
use Rattle.world_texts.specs.World.Parts.{FullMember, writes, Break}
use Rattle.world_texts.specs.World.Worlds.{World, apply, listed}
use Rattle.world_texts.specs.World.Connections.{the_end}
use Rattle.world_texts.specs.World.Nodes.{block_of, replica_at, member_change}
use Rattle.world_texts.specs.World.Events.{outcome, happens}
use Rattle.world_texts.specs.WorldNets.Rows.{text_of}
use Rattle.world_texts.specs.WorldNets.Nets.{held_by, is_over}
use Rattle.world_texts.specs.WorldNets.Drawn.{break_at}
use Rattle.world_texts.proofs.WorldNets.DrawnLemmas.{ready-makes}
use Rattle.member_events.specs.declared.faults.MemberFault.{MemberFault}
use Rattle.member_events.specs.Events.{CanReady, ReadyShows}
use Rattle.member_events.specs.Showing.{MirrorShows, NoneReceived, IsLater, MemberStands, MemberLeft}
use Rattle.member_events.specs.Steps.{IsPlaced}
use Rattle.member_events.proofs.CauseLaws.{turn_link, turn_file}
use Rattle.member_events.proofs.FaultEvents.{placed_caused, same_count}
use Rattle.member_events.proofs.KnownLaws.{ready_same}
use Rattle.member_events.proofs.TurnEnds.{IsDone, fine, turn_sends}
use Rattle.member_events.proofs.EndLaws.{MirrorAt, end_held}
use Rattle.member_events.proofs.EventEndLemmas.{placed_good, good_done, done_memory, done_step_by, above_nothing, below_nothing, quiet_lost}
use Rattle.member_events.proofs.StepLaws.{sent_texts, passed_end, quiet_text}
use Rattle.member_events.proofs.WorldLaws.{member_after}
use Rattle.member_events.proofs.ReadyLaws.{IsReadyFor, HasTurned, AreTexts, HasTaken, placed_left}

-- whether the end was taken that comes from the mirror, or there is none
abbrev pub mirror_over : World → Option ℕ → Bool
mirror_over w None = true
mirror_over w (Some d) = is_over w d false

pub mirror_held : {I O : Type 0} (i : link_in.Ghosts I) (o : link_out.Ghosts O) (w : World) (net : Net) (mirror : Option ℕ) (e : Option (Conn I O)) → MirrorShows i o w net mirror e → MirrorAt i o net false [] (held_by (mirror_over w mirror)) mirror e
mirror_held i o w net None None k = tt
mirror_held i o w net None (Some e) k = k
mirror_held i o w net (Some d) None k = k
mirror_held i o w net (Some d) (Some e) k = end_held i o w net d false e k

pub over_is : (w : World) (mirror : Option ℕ) → IfSome mirror (λ d. is_over w d false ≡ mirror_over w mirror)
over_is w None = tt
over_is w (Some d) = refl

pub none_of : (w : World) (mirror : Option ℕ) (received : IncomingState) → NoneReceived w mirror received → mirror_over w mirror ≡ false → received ≡ nothing_received
none_of w None received h z = cc
none_of w (Some d) received h z = h z

self_less : (n : ℕ) → n < n → ⊥
self_less n h = omega arith

pub apart_of : (c : ℕ) (mirror : Option ℕ) → IsLater c mirror → mirror ≢ Some c
apart_of c mirror h is = self_less c (subst (λ (x : Option ℕ). IsLater c x) is h)

module _ {F R I O : Type 0} (f : files.Ghosts F) (r : roads.Ghosts R I O) (i : link_in.Ghosts I) (o : link_out.Ghosts O) where
  -- a member of a world before a turn, where nothing was taken
  pub is_ready : (w : World) (net : Net) (c : ℕ) (full : FullMember) (book : BookState F) (m : Member I O) (road : R) → MemberStands r i o w net c full book m road → IsReadyFor i o w net c full (is_over w c true) (mirror_over w full.mirror) m book
  is_ready w net c full book m road stands = record {
    node = stands.shows.node;
    op = stands.shows.op;
    replica = stands.replica;
    upper = end_held i o w net c true m.upstream stands.shows.upstream;
    lower = mirror_held i o w net full.mirror m.mirror stands.shows.mirror;
    over_up = refl;
    over_down = over_is w full.mirror;
  }

  ready_out : (w : World) (conn : ConnId) (full : FullMember) (t : Turn) (was : FullReplica) → CanReady w conn full t → w.lowers conn.0 ≡ writes full → was ≡ replica_at w conn.0 (block_of full.fields)
      → outcome w (event.Ready conn) ≡ Some (apply w (member_change w conn.0 full the_end (step full.state was t) (break_at w conn.0 full.fields)))
  ready_out w conn full t was can lower same =
      subst (λ (x : FullReplica). outcome w (event.Ready conn) ≡ Some (apply w (member_change w conn.0 full the_end (step full.state x t) (break_at w conn.0 full.fields)))) (sym same)
      (ready-makes w conn full t can.served lower can.acts)

  ready_turns : (old new : Member I O) (book book' : BookState F) (ended : Stepped) (road : R) → IsReady f o old.stage old new book book' ended → IsOfHistory book
      → (w : World) (net : Net) (conn : ConnId) (full : FullMember) (t : Turn) → MemberStands r i o w net conn.0 full book old road → CanReady w conn full t → Turns f o full.state t took.Nothing old new book book' ended
  ready_turns old new book book' ended road ready history w net conn full t stands can =
      let due : ready_turn_by full.state book.replica ≡ Some t = ap (ready_turn_by full.state) history ∙ (ap (λ (x : FullReplica). ready_turn_by full.state x.known) stands.replica ∙ can.acts) in
      subst (λ (x : Option Turn). TurnsIf f o full.state x took.Nothing old new book book' ended) due (subst (λ (st : Stage). IsReady f o st old new book book' ended) stands.shows.stage_is ready)

  ready_left : (old new : Member I O) (book book' : BookState F) (ended : Stepped) (left : Option (Member I O)) (road road' : R) → IsReady f o old.stage old new book book' ended → IsOfHistory book → IsPlaced r i o ended new road road' (Ok left)
      → (w : World) (net : Net) (conn : ConnId) (full : FullMember) (t : Turn) → MemberStands r i o w net conn.0 full book old road → CanReady w conn full t → MemberLeft r i o w net (happens w (event.Ready conn)) conn.0 full book' road' left
  ready_left old new book book' ended left road road' ready history placed w net conn full t stands can =
      let m : MemberState = full.state in
      let was : FullReplica = replica_of book in
      let known : ready_turn_by m was.known ≡ Some t = ap (λ (x : FullReplica). ready_turn_by m x.known) stands.replica ∙ can.acts in
      let turns : Turns f o m t took.Nothing old new book book' ended = ready_turns old new book book' ended road ready history w net conn full t stands can in
      let well = good_done turns.done turns.shuts ended turns.follows.answer (placed_good r i o ended new road road' left placed) in
      let quiet : IsQuiet m t = readies m.mirror m _ _ t (acting m.responds _ t known) in
      let ok = fine turns.done turns.shuts (subst IsDone turns.follows.answer well) (quiet_lost f o t.call (texts_of old.op t.effect.sends) book book' old.upstream.outward turns.acts.sent old.mirror turns.acts.passed turns.done quiet.can turns.acts.performed) in
      let law = readies_step f o m old new book book' ended (record { open_by = stands.shows.stage_is; holds = stands.shows.holds; of_history = history; found_memory = done_memory ended well }) ready in
      let rules = (ready_ruled m old.mirror was.known t known).rules in
      let s : Step = step m was t in
      let turned : HasTurned f o full t took.Nothing old new book book' ended = record {
        turns = turns;
        fine = ok;
        is_step = subst (λ (x : Step). IsStep o t x old new book book') (done_step_by ended m was t well) (turns_step f o m t took.Nothing old new book book' ended rules (done_memory ended well) turns);
        sends = turn_sends f o m t took.Nothing old new book book' ended turns rules ok;
        holds = law.1;
      } in
      let broke : Option Break = break_at w conn.0 full.fields in
      let out = ready_out w conn full t was can stands.lower stands.replica in
      let after = member_after w w conn.0 full the_end s broke (event.Ready conn) out in
      let texts : AreTexts full the_end t s = record {
        up = sent_texts (happens w (event.Ready conn)) conn.0 (w.ups conn.0) full.fields s.effect.sends can.spelled after.ups;
        down = ap (map text_of) (passed_end s.effect.forwards) ∙ sym (ap listed (quiet_text t.call s.effect.forwards quiet.can));
      } in
      let below : new.below ≡ old.below = turns.follows.below ∙ below_nothing turns.done old.below ok in
      let taken : HasTaken s (mirror_over w full.mirror) new = record {
        above = λ z. turns.follows.above ∙ (above_nothing turns.done old.above ok ∙ stands.shows.above);
        below_next = ap (λ (b : BelowState). b.next) below ∙ stands.shows.below_next;
        below = λ z. ap (λ (b : BelowState). b.received) below ∙ none_of w full.mirror old.below.received stands.shows.below z;
      } in
      placed_left r i o f w w net net (event.Ready conn) conn.0 full the_end t took.Nothing broke (is_over w conn.0 true) (mirror_over w full.mirror) old new book book' ended left road road'
      out (apart_of conn.0 full.mirror stands.later) (λ d b y none z. z) stands.roads_are.is_net (record { sane = stands.roads_are.sane; shows = stands.roads_are.shows })
      (is_ready w net conn.0 full book old road stands) turned texts taken placed

  -- What a member that acts without a message leaves, or why it failed.
  pub ready_shows : (old new : Member I O) (book book' : BookState F) (ended : Stepped) (result : Result (Option (Member I O)) MemberFault) (road road' : R) → IsReady f o old.stage old new book book' ended → IsOfHistory book → IsPlaced r i o ended new road road' result
      → ReadyShows f r i o old book book' road road' result
  ready_shows old new book book' ended (Ok left) road road' ready history placed = ready_left old new book book' ended left road road' ready history placed
  ready_shows old new book book' ended (Err why) road road' ready history placed = λ w net conn full t stands can.
      let turns : Turns f o full.state t took.Nothing old new book book' ended = ready_turns old new book book' ended road ready history w net conn full t stands can in
      placed_caused f r i o conn.0 full.mirror book book' road road road' new ended why (same_count (r.faults road)) (ap (λ (y : ConnId). y.0) (ready_same f o old.stage old new book book' ended ready).upper ∙ stands.shows.upstream.id)
      (λ receipt is. turn_link f o i full.state t took.Nothing old new book book' receipt (subst (λ (y : Stepped). Turns f o full.state t took.Nothing old new book book' y) is turns))
      (λ receipt is. turn_file f o full.state t took.Nothing old new book book' receipt (subst (λ (y : Stepped). Turns f o full.state t took.Nothing old new book book' y) is turns))
      placed
