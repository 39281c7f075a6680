-- A reader that takes what stands next, and the world after it.
use Rattle.std.proofs.Common.{◌≡◌, ℕ, Bool, true, false, List, [], ◌∷◌, map, Option, Some, None, Result, Ok, Err, inl, inr, refl, sym, ap, ◌∙◌, subst}
use Rattle.std.specs.Global.{Vec}
use Rattle.hd_base.specs.Ends.{has_failed}
use Rattle.hd_base.specs.Faults.{FaultsIncreased}
use Rattle.hd_base.specs.Links.{Inbox}
use Rattle.hd_base.specs.declared.ends.Conn.{Conn}
use Rattle.hd_base.specs.declared.links.LinkIn as link_in
use Rattle.hd_base.specs.declared.links.LinkOut as link_out
use Rattle.hd_base.specs.declared.numbers.ConnId.{ConnId}
use Rattle.hd_base.specs.declared.roads.Roads as roads
use Rattle.hd_base.specs.declared.states.Status.TheVariants as status
use Rattle.visible_read.specs.LinkMessages.Incomings.{IncomingState, nothing_received}
use Rattle.link_pieces.specs.Roads.{BringsEnd}
use Rattle.visible_read.specs.PipeTurns.Acting.{ShutsBy, with_half}
use Rattle.visible_read.specs.PipeTurns.Turning.{SendsAlone}
use Rattle.visible_read.specs.PipeTurns.Done.{Done}
use Rattle.visible_read.specs.PipeTurns.Done.TheVariants as done
use Rattle.read_core.specs.declared.reading.ReadFault.{ReadFault}
use Rattle.read_core.specs.declared.reading.ReadTurn.{ReadTurn}
use Rattle.read_core.specs.declared.reading.ReadTurn.TheVariants as turn
use Rattle.read_core.specs.Readings.{ReadingState, ReadTaken, take_from}
use Rattle.road_traffic.specs.Showing.{Net, EndIs, lost_net}
use Rattle.road_traffic.specs.Laws.{Took}
use Rattle.road_traffic.proofs.CallLemmas.{sent-shows, shut-shows}
use Rattle.visible_read.specs.declared.reading.Reading.{Reading}
use Rattle.visible_read.specs.declared.talking.ReadFault as reading_fault
use Rattle.visible_read.specs.declared.talking.ReadFault.TheVariants as ended
use Rattle.visible_read.specs.declared.talking.ReadStep.{ReadStep}
use Rattle.visible_read.specs.declared.talking.ReadStep.TheVariants as step
use Rattle.visible_read.specs.declared.talking.Talk.{Talk}
use Rattle.visible_read.specs.Talking.{checksum_ok, request_of, GivesBytes, VerifiesAs, TakesAs, sums_len, Takes, StepsAs, Listens, Steps, out_of, with_received, with_inward}
use Rattle.world_settling.specs.World.Event.TheVariants as event
use Rattle.world_settling.specs.World.Parts.{Message, read_status, Reader, reads, has_read}
use Rattle.world_settling.specs.World.Worlds.{World, Change, apply}
use Rattle.world_settling.specs.World.Connections.{Next, up_taken}
use Rattle.world_settling.specs.World.Clients.{from_node_of, reader_turn}
use Rattle.world_settling.specs.World.Events.{outcome, happens}
use Rattle.world_settling.specs.WorldNets.Rows.{text_of}
use Rattle.world_settling.specs.WorldNets.Nets.{IsNetOf, IsEndOf, held_by, inbox_for, is_over}
use Rattle.world_settling.specs.WorldNets.Flushing.{upper_flushes}
use Rattle.world_settling.specs.WorldNets.Steps.{SendsBy, TakesNet, taken_net, is_end}
use Rattle.world_settling.proofs.WorldNets.EndLemmas.{stays, same-end}
use Rattle.world_settling.proofs.WorldNets.StepLemmas.{changed-net, changed-over, taken-net, taken-over, lost-net, followed}
use Rattle.client_events.proofs.MemberEvents.CauseLaws.{in_failed, out_failed, still_risen}
use Rattle.client_events.proofs.MemberEvents.DownEvents.{held_took}
use Rattle.client_events.proofs.MemberEvents.EndLaws.{HeldAt, RoadsAt, Passed, end_held, end_from, end_passes, end_brought}
use Rattle.client_events.proofs.MemberEvents.WorldLaws.{at_put, happened}
use Rattle.reader_events.specs.declared.faults.ReaderFault.{ReaderFault}
use Rattle.reader_events.specs.declared.faults.ReaderFault.TheVariants as fault
use Rattle.reader_events.specs.declared.hearing.Heard.{Heard}
use Rattle.reader_events.specs.declared.hearing.Heard.TheVariants as heard
use Rattle.reader_events.specs.Hearing.{bytes_read, read_of, heard_read, TakesBy, IsEnded, IsHeard, IsNextIn, IsNextOf, CanHear, ReaderLeft, HearEnds, HearShows}
use Rattle.reader_events.specs.Showing.{ReadingShows, ReaderStands}
use Rattle.reader_events.proofs.HearSteps.{checksum_text, Finds, finds, fails, wants, read_finds, ended_by, given_risen}
use Rattle.reader_events.proofs.ToldFaults.{told-back}
use Rattle.reader_events.proofs.MakeLaws.{hears-makes, turn-sends}
use Rattle.reader_events.proofs.OrderLaws.{goes-answered}

-- what a change makes of the reader
pub reader_put : (w : World) (k : Change) → (apply w k).readers k.reader_at ≡ k.reader
unfolding apply
reader_put w k = at_put w.readers k.reader_at k.reader

module _ {R I O : Type 0} (r : roads.Ghosts R I O) (i : link_in.Ghosts I) (o : link_out.Ghosts O) where
  -- An end that was shut, and what it had sent.
  pub shut_end : (net : Net) (extra : List (List ℕ)) (inbox : Inbox) (old new : Conn I O) → ShutsBy o old new → EndIs i o net.traffic false extra inbox old → EndIs i o net.traffic true extra inbox new
  shut_end net extra inbox old new h e =
      shut-shows i o net.traffic false extra inbox old new (record { id = h.id; lower = h.lower; inward = h.inward }) (record { shut = h.half.shut; sent = h.half.sent; flushed = h.half.flushed; lost = h.half.lost }) e

  module _ (old held new : Reading I O) (how : ReadStep) (left : Result (Heard I O) ReaderFault) (road middle road' : R) (ex : TakesBy r i o old held road middle) (he : IsHeard r i o new how middle road' left)
      (w : World) (net : Net) (line : ℕ) (x : Next) (stands : ReaderStands r i o w net line old road) (can : CanHear w old.end.id line x) where
    abbrev c : ℕ
    c = old.end.id.0

    abbrev w1 : World
    w1 = up_taken w c x

    abbrev v : World
    v = happens w (event.Up old.end.id)

    abbrev n1 : Net
    n1 = taken_net net c false

    abbrev s : ReadingShows i o w net line old
    s = stands.shows

    abbrev t : ReadTaken
    t = take_from s.state (from_node_of x)

    abbrev Ends : Type 0
    Ends = HearEnds r i o w net v line c road road' left

    abbrev LeftSo : Heard I O → Type 0
    LeftSo z = ReaderLeft r i o w net v line c z road'

    -- WHAT IT TAKES

    takes : TakesNet w net c false x
    takes = taken-net w net c false x stands.roads_are.is_net s.end_is.within s.end_is.taking can.comes.next

    passed : Passed r i o net true false [] (held_by (is_over w c false)) c false middle held.end
    passed = end_passes r i o net true false [] (held_by (is_over w c false)) c false road middle old.end held.end (record { sane = stands.roads_are.sane; shows = stands.roads_are.shows })
        (end_held i o w net c false old.end s.end_is) (λ z. ap held_by takes.before) ex.exchanged

    holds : HeldAt i o n1 false [] (inbox_for x) c false held.end
    holds = subst (λ (z : Inbox). HeldAt i o n1 false [] z c false held.end) takes.holds passed.held

    fits : IsNextIn s.state.phase x
    fits = subst (λ (q : Reader). IsNextOf q x) s.reader can.fits

    -- the end once that was taken
    emptied : (half : I) → i.shut half ≡ i.shut held.end.inward → i.held half ≡ Some (held_by (is_end x)) → HeldAt i o n1 false [] (held_by (is_end x)) c false (with_inward held.end half)
    emptied half shut empty =
        let took : Took i (held_by (is_end x)) held.end (with_inward held.end half) = record { id = refl; lower = refl; outward = refl; shut = shut; holds = empty } in
        held_took i o n1 false [] (inbox_for x) (held_by (is_end x)) c false held.end (with_inward held.end half) took holds

    -- THE WORLD AFTER IT

    out : outcome w (event.Up old.end.id) ≡ Some (apply w1 (reader_turn w1 line c t t.does))
    out = hears-makes w old.end.id line s.state x can.comes (record { upper = can.upper; reader = s.reader })

    out_as : (d : ReadTurn) → t.does ≡ d → outcome w (event.Up old.end.id) ≡ Some (apply w1 (reader_turn w1 line c t d))
    out_as d e = out ∙ ap (λ (q : ReadTurn). Some (apply w1 (reader_turn w1 line c t q))) e

    reader_after : (k : Change) → outcome w (event.Up old.end.id) ≡ Some (apply w1 k) → k.reader_at ≡ line → v.readers line ≡ k.reader
    reader_after k o at = ap (λ (u : World). u.readers line) (happened w (apply w1 k) (event.Up old.end.id) o) ∙ (ap (λ (n : ℕ). (apply w1 k).readers n) (sym at) ∙ reader_put w1 k)

    -- The read goes on.
    goes_left : (received : IncomingState) (half : I) → HeldAt i o n1 false [] (held_by (is_end x)) c false (with_inward held.end half) → (is_end x ≡ false → received ≡ nothing_received) → t.does ≡ turn.Goes
        → new.talk ≡ record (out_of (with_received held.talk received)) { core = Some t.reading; answered = true } → new.end ≡ with_inward held.end half → road' ≡ middle → LeftSo (heard.Reading new)
    goes_left received half h none goes talk end_same same =
        let k : Change = reader_turn w1 line c t turn.Goes in
        let o1 = out_as turn.Goes goes in
        let f = followed w (apply w1 k) (event.Up old.end.id) o1 in
        let n : IsNetOf (apply w1 k) n1 = changed-net w1 n1 k [] takes.is_net (turn-sends w1 line c t turn.Goes) in
        let over : (d : ℕ) (l : Bool) → is_over v d l ≡ is_over w1 d l = λ d l. f.over d l ∙ changed-over w1 k d l in
        let at : HeldAt i o n1 false [] (held_by (is_end x)) c false new.end = subst (λ (e : Conn I O). HeldAt i o n1 false [] (held_by (is_end x)) c false e) (sym end_same) h in
        let roads : RoadsAt r n1 road' = subst (λ (y : R). RoadsAt r n1 y) (sym same) passed.roads_at in
        record {
          made = n1;
          roads_are = record { is_net = f.nets n1 n; sane = roads.sane; shows = roads.shows };
          left_is = record {
            state = t.reading;
            reader = reader_after k o1 refl ∙ ap (λ (m : ℕ). reads m t.reading) (sym at.id);
            core = ap (λ (y : Talk). y.core) talk;
            asked = ap request_of talk ∙ (ap request_of ex.talk ∙ s.asked);
            answered = ap (λ (y : Talk). y.answered) talk ∙ sym (goes-answered s.state x goes);
            end_is = subst (λ (m : ℕ). IsEndOf i o v n1 m false new.end) (sym at.id) (end_from i o v n1 c false (is_end x) new.end (over c false ∙ takes.after) at);
            received = λ z. ap (λ (y : Talk). y.incoming) talk ∙ none (sym (over c false ∙ takes.after) ∙ (ap (λ (m : ℕ). is_over v m false) (sym at.id) ∙ z));
          };
          others = λ d l e away q. same-end r i o w1 v n1 d l e (over d l) ((stays r i o w w1 net c false d l e away (taken-over w d l c false x away) q).exchanged true false []);
        }

    -- The read has its result, and its end was shut and brought back.
    shut_left : (k : Change) (ms : List Message) (read : Result (Vec ℕ) ReadFault) → outcome w (event.Up old.end.id) ≡ Some (apply w1 k) → SendsBy w1 k (upper_flushes (Some c) true ms) → v.readers line ≡ has_read (bytes_read read) → EndIs i o n1.traffic true (map text_of ms) (held_by (is_end x)) new.end
        → new.end.id.0 ≡ c → new.end.lower ≡ false → BringsEnd r i o new.end middle road' (Ok tt) → LeftSo (heard.Read read)
    shut_left k ms read o1 sends reader is id lower brings =
        let f = followed w (apply w1 k) (event.Up old.end.id) o1 in
        let made : Net = lost_net n1 c false (map text_of ms) in
        let n : IsNetOf (apply w1 k) made = lost-net (apply w1 k) n1 c false (map text_of ms) (changed-net w1 n1 k (upper_flushes (Some c) true ms) takes.is_net sends) in
        let p : RoadsAt r made road' = end_brought r i o n1 true (map text_of ms) (held_by (is_end x)) c false middle road' new.end passed.roads_at id lower holds.within is brings in
        let over : (d : ℕ) (l : Bool) → is_over v d l ≡ is_over w1 d l = λ d l. f.over d l ∙ changed-over w1 k d l in
        record {
          made = made;
          roads_are = record { is_net = f.nets made n; sane = p.sane; shows = p.shows };
          left_is = reader;
          others = λ d l e away q.
              (stays r i o w1 v n1 c false d l e away (over d l) ((stays r i o w w1 net c false d l e away (taken-over w d l c false x away) q).exchanged true false [])).lost (map text_of ms);
        }

    -- HOW IT ENDS

    abbrev EndsSo : Result (Heard I O) ReaderFault → Type 0
    EndsSo z = HearEnds r i o w net v line c road road' z

    ended_as : (read : Result (Vec ℕ) reading_fault.ReadFault) → how ≡ step.Ended read → IsEnded r i o new.end read middle road' left
    ended_as read e = subst (λ (z : ReadStep). IsHeard r i o new z middle road' left) e he

    by_memory : how ≡ step.Ended (Err ended.Memory) → Ends
    by_memory e = ended_by r i o EndsSo new.end (Err ended.Memory) middle road' left tt (λ g. tt) (ended_as (Err ended.Memory) e)

    by_link : how ≡ step.Ended (Err ended.LinkFailed) → new.end.id.0 ≡ c → has_failed i o new.end ≡ true → Ends
    by_link e at failed =
        ended_by r i o EndsSo new.end (Err ended.LinkFailed) middle road' left tt
        (λ g. given_risen r i o new.end (Err ended.LinkFailed) middle road' (Err fault.LinkFailed) c at failed g) (ended_as (Err ended.LinkFailed) e)

    by_fault : (why : ReadFault) (told : reading_fault.ReadFault) (half : I) → read_of (Err told) ≡ Ok (Err why) → t.does ≡ turn.Fails why → HeldAt i o n1 false [] (held_by (is_end x)) c false (with_inward held.end half) → ShutsBy o (with_inward held.end half) new.end → how ≡ step.Ended (Err told) → Ends
    by_fault why told half same does h shuts e =
        let k : Change = reader_turn w1 line c t (turn.Fails why) in
        let o1 = out_as (turn.Fails why) does in
        ended_by r i o EndsSo new.end (Err told) middle road' left tt
        (λ g. subst (λ (z : Result (Result (Vec ℕ) ReadFault) ReaderFault). EndsSo (heard_read z)) (sym same) (shut_left k [] (Err why) o1 (turn-sends w1 line c t (turn.Fails why)) (reader_after k o1 refl) (shut_end n1 [] (held_by (is_end x)) (with_inward held.end half) new.end shuts h.is)
        (ap (λ (n : ConnId). n.0) shuts.id ∙ h.id) (shuts.lower ∙ h.side) g.brings)) (ended_as (Err told) e)

    -- all bytes are there
    by_bytes : (half : I) (sent : O) (result : ReadStep) → how ≡ result → t.does ≡ turn.Verified → HeldAt i o n1 false [] (held_by (is_end x)) c false (with_inward held.end half) → SendsAlone o (Some checksum_ok) (done.Taken None) held.end.outward sent
        → ShutsBy o (with_half (with_inward held.end half) sent) new.end → GivesBytes t.reading result → Ends
    by_bytes half sent (step.Ended (Ok bytes)) e does h sends shuts gives =
        let k : Change = reader_turn w1 line c t turn.Verified in
        let o1 = out_as turn.Verified does in
        let end1 : Conn I O = with_inward held.end half in
        let end2 : Conn I O = with_half end1 sent in
        let said : EndIs i o n1.traffic false (checksum_ok ∷ []) (held_by (is_end x)) end2 = sent-shows i o n1.traffic [] (held_by (is_end x)) checksum_ok end1 end2 (record { id = refl; lower = refl; inward = refl }) sends h.is in
        let closed : EndIs i o n1.traffic true (text_of (read_status status.ChecksumOk) ∷ []) (held_by (is_end x)) new.end =
        subst (λ (z : List ℕ). EndIs i o n1.traffic true (z ∷ []) (held_by (is_end x)) new.end) (sym checksum_text) (shut_end n1 (checksum_ok ∷ []) (held_by (is_end x)) end2 new.end shuts said) in
        ended_by r i o EndsSo new.end (Ok bytes) middle road' left tt
        (λ g. shut_left k (read_status status.ChecksumOk ∷ []) (Ok bytes) o1 (turn-sends w1 line c t turn.Verified) (reader_after k o1 refl ∙ ap (λ (b : List ℕ). has_read (Ok b)) (sym gives)) closed
        (ap (λ (n : ConnId). n.0) shuts.id ∙ h.id) (shuts.lower ∙ h.side) g.brings) (ended_as (Ok bytes) e)
    by_bytes half sent (step.Ended (Err why)) e does h sends shuts gives = absurd gives
    by_bytes half sent step.Moved e does h sends shuts gives = absurd gives
    by_bytes half sent step.Waiting e does h sends shuts gives = absurd gives

    by_sending : (d : Done) (half : I) (sent : O) (before : Talk) → t.does ≡ turn.Verified → HeldAt i o n1 false [] (held_by (is_end x)) c false (with_inward held.end half) → SendsAlone o (Some checksum_ok) d held.end.outward sent
        → VerifiesAs o d t.reading before new.talk (with_half (with_inward held.end half) sent) new.end how → Ends
    by_sending (done.Taken None) half sent before does h sends k = by_bytes half sent how refl does h sends k.shuts k.gives
    by_sending (done.LinkFailed None) half sent before does h sends k =
        by_link k.ends (ap (λ (n : ConnId). n.0) k.shuts.id ∙ h.id) (out_failed i o (o.faults held.end.outward) new.end (still_risen (o.faults held.end.outward) (o.faults sent) (o.faults new.end.outward) sends.rose k.shuts.half.never_falls))
    by_sending done.Memory half sent before does h sends k = by_memory k.ends
    by_sending (done.Taken (Some b)) half sent before does h sends k = absurd sends
    by_sending (done.LinkFailed (Some b)) half sent before does h sends k = absurd sends
    by_sending (done.Refused e b) half sent before does h sends k = absurd sends
    by_sending (done.File b) half sent before does h sends k = absurd sends
    by_sending (done.MirrorFailed b) half sent before does h sends k = absurd sends

    moved : how ≡ step.Moved → (left ≡ Ok (heard.Reading new)) × (road' ≡ middle)
    moved e = subst (λ (z : ReadStep). IsHeard r i o new z middle road' left) e he

    by_turn : (d : ReadTurn) (received : IncomingState) (half : I) → t.does ≡ d → HeldAt i o n1 false [] (held_by (is_end x)) c false (with_inward held.end half) → (is_end x ≡ false → received ≡ nothing_received)
        → TakesAs o (sums_len (from_node_of x)) d t.reading (out_of (with_received held.talk received)) new.talk (with_inward held.end half) new.end how → Ends
    by_turn turn.Goes received half does h none k = let m = moved k.2 in subst EndsSo (sym m.0) (goes_left received half h none does k.0 k.1 m.1)
    by_turn turn.Verified received half does h none k = by_sending k.done half k.sent (out_of (with_received held.talk received)) does h k.sends k.follows
    by_turn (turn.Fails why) received half does h none k = by_fault why k.told half (told-back x s.state received.refused _ why k.told (λ z. ap (λ (y : IncomingState). y.refused) (none z)) does k.tells) does h k.fails.shuts k.fails.ends

    by_taken : (core : Option ReadingState) (received : IncomingState) (half : I) → core ≡ Some s.state → HeldAt i o n1 false [] (held_by (is_end x)) c false (with_inward held.end half) → (is_end x ≡ false → received ≡ nothing_received)
        → Takes o (from_node_of x) core (with_received held.talk received) new.talk (with_inward held.end half) new.end how → Ends
    by_taken core received half is h none k = by_core (subst (λ (z : Option ReadingState). Takes o (from_node_of x) z (with_received held.talk received) new.talk (with_inward held.end half) new.end how) is k)
      where
        by_core : Takes o (from_node_of x) (Some s.state) (with_received held.talk received) new.talk (with_inward held.end half) new.end how → Ends
        by_core (inl z) = by_turn t.does received half refl h none z
        by_core (inr m) = by_memory m.ends

    by_found : (received : IncomingState) (half : I) → Finds i o x received held.end.inward half (with_received held.talk received) new.talk (with_inward held.end half) new.end how → Ends
    by_found received half (finds shut k) = by_taken held.talk.core received half (ap (λ (z : Talk). z.core) ex.talk ∙ s.core) (emptied half shut k.holds) k.none k.takes
    by_found received half (fails rose f) =
        by_link f.ends (ap (λ (n : ConnId). n.0) f.shuts.id ∙ holds.id)
        (in_failed i o (i.faults held.end.inward) new.end (subst (λ (z : I). FaultsIncreased (i.faults held.end.inward) (i.faults z)) (sym f.shuts.inward) rose))
    by_found received half (wants f) = by_memory f.ends

    pub hear_ends : Steps i o held.talk new.talk held.end new.end how → Ends
    hear_ends st =
        let l : Listens i o held.talk new.talk held.end new.end how = subst (λ (q : Option (List ℕ)). StepsAs i o q held.talk new.talk held.end new.end how) (ap request_of ex.talk ∙ s.asked) st in
        by_found l.received l.half
        (read_finds i o s.state.phase x held.talk new.talk held.end new.end how fits holds.is.held (ap (λ (y : Talk). y.incoming) ex.talk ∙ s.received takes.before) (ap (λ (y : Talk). y.answered) ex.talk ∙ s.answered) l)

  -- What stood next was taken, and followed.
  pub hear_shows : (old held new : Reading I O) (how : ReadStep) (left : Result (Heard I O) ReaderFault) (road middle road' : R) → TakesBy r i o old held road middle → Steps i o held.talk new.talk held.end new.end how → IsHeard r i o new how middle road' left → HearShows r i o old road road' left
  hear_shows old held new how left road middle road' ex st he = λ w net line x stands can. hear_ends old held new how left road middle road' ex he w net line x stands can st
