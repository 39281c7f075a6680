-- The lower ends of connections that a node took from readers are brought back, one after the other.
use Rattle.std.proofs.Common.{◌≡◌, ◌<◌, ◌+◌, ℕ, Bool, true, false, List, [], ◌∷◌, length, slice_get, slice_set, Option, Some, None, IfSome, Result, Ok, Err, ◌⊎◌, inl, inr, refl, sym, ap, ◌∙◌, subst, arith, length-set}
use Rattle.std.specs.Prelude.{◌==◌, ◌&&◌, nat_lt, OnOk}
use Rattle.std.proofs.lemmas.Bool.Decides.{nat_tests}
use Rattle.hd_base.specs.Channels.{Plain}
use Rattle.hd_base.specs.Ends.{IsKnown}
use Rattle.hd_base.specs.declared.ends.Conn.{Conn}
use Rattle.hd_base.specs.declared.files.Files as files
use Rattle.hd_base.specs.declared.links.LinkIn as link_in
use Rattle.hd_base.specs.declared.links.LinkOut as link_out
use Rattle.hd_base.specs.declared.numbers.ConnId.{ConnId}
use Rattle.hd_base.specs.declared.numbers.NodeId.{NodeId}
use Rattle.hd_base.specs.declared.roads.Roads as roads
use Rattle.link_pieces.specs.Roads.{BringsEnd}
use Rattle.road_traffic.specs.Laws.{BringsShow}
use Rattle.road_traffic.specs.Showing.{Net, RoadsShow, flushed_net}
use Rattle.world.specs.Nodes.{node_of}
use Rattle.world.specs.Worlds.{World}
use Rattle.play_servers.specs.WorldNets.Dials.{NetsStaySane}
use Rattle.play_servers.specs.WorldNets.Ends.{IsElsewhere, EndsElsewhereStay}
use Rattle.play_servers.specs.WorldNets.Nets.{IsEndOf, held_by, is_over}
use Rattle.play_servers.specs.WorldNets.Steps.{IdleFlushesAreNets}
use Rattle.play_nodes.specs.WorldOrders.Orders.{Ordered, purpose_of, reading}
use Rattle.play_nodes.specs.MemberEvents.Roads.{RoadsPass}
use Rattle.play_nodes.specs.MemberEvents.Showing.{ShowsWorld}
use Rattle.play_nodes.proofs.MemberEvents.SetupKnown.{pass_same, pass_on}
use Rattle.play_nodes.specs.declared.nodes.Nodes.{Nodes}
use Rattle.play_nodes.specs.Elsewhere.{NodesFollow}
use Rattle.play_nodes.specs.Showing.{NodesShow}
use Rattle.play_nodes.proofs.PlaceLaws.{same_some}
use Rattle.play_nodes.proofs.Tables.{set_here, set_there, element, same_or}
use Rattle.play_servers.specs.declared.servers.ReadEnd.{ReadEnd}
use Rattle.play_servers.specs.declared.servers.ReadEnd.TheVariants as read_end
use Rattle.play_servers.specs.declared.servers.ReadServer.{ReadServer}
use Rattle.play_servers.specs.Known.{end_conn, EndIsKnown}
use Rattle.play_reads.specs.declared.reads.Reads.{Reads}
use Rattle.play_reads.specs.Places.{ConnsAscend}
use Rattle.play_reads.specs.Stopping.{took, AreKnown, Ends, ended, EndsIf, EndsAt}
use Rattle.play_reads.proofs.FrameLaws.{reads_elsewhere}
use Rattle.play_reads.proofs.LifeLaws.{no_match}
use Rattle.play_nodes.proofs.Numbers.{same_place}

-- ENDS THAT THE ROADS KNOW

known_past : (a b : Option Plain) → ((c : ℕ) → IsKnown a c → IsKnown b c) → (x : Option ConnId) → IfSome x (λ conn. IsKnown a conn.0) → IfSome x (λ conn. IsKnown b conn.0)
known_past a b knows None h = tt
known_past a b knows (Some conn) h = knows conn.0 h

pub all_known_past : {R I O : Type 0} (r : roads.Ghosts R I O) (road road' : R) (p : Reads I O) → RoadsPass r road road' → AreKnown (r.plain road) p → AreKnown (r.plain road') p
all_known_past r road road' p pass known k s at = known_past (r.plain road) (r.plain road') pass.knows (end_conn s.end) (known k s at)

-- WHICH ENDS ARE GONE

-- The lower end of a connection that the node took, of one of the first servers, so many.
pub record IsGone {F I O : Type 0} (n : Nodes F I O) (node : NodeId) (old : Reads I O) (k c : ℕ) (lower : Bool) : Type 0 where
  pub is_lower : lower ≡ true
  pub taken : took n.connections.items node c ≡ true
  pub place : ℕ
  pub server : ReadServer I O
  pub at : slice_get old.servers.items place ≡ Some server
  pub before : place < k
  pub of_conn : server.conn.0 ≡ c

next_one : (k m : ℕ) → m < k → m < k + 1
next_one k m h = omega (arith, h)

not_less : (k : ℕ) → k < k → ⊥
not_less k h = omega (arith, h)

this_one : (k : ℕ) → k < k + 1
this_one k = omega arith

gone_more : {F I O : Type 0} (n : Nodes F I O) (node : NodeId) (old : Reads I O) (k c : ℕ) (lower : Bool) → IsGone n node old k c lower → IsGone n node old (k + 1) c lower
gone_more n node old k c lower h = record {
  is_lower = h.is_lower;
  taken = h.taken;
  place = h.place;
  server = h.server;
  at = h.at;
  before = next_one k h.place h.before;
  of_conn = h.of_conn;
}

-- WHAT THE ROADS SHOW

-- The end of a lower end that goes on is one of the world.
abbrev pub EndStands : {I O : Type 0} → link_in.Ghosts I → link_out.Ghosts O → World → Net → ℕ → ReadEnd I O → Type 0
EndStands i o v net c (read_end.Idle e) = IsEndOf i o v net c true e
EndStands i o v net c (read_end.Serving read place) = IsEndOf i o v net c true read.end
EndStands i o v net c read_end.Ended = Unit {0}

-- A reader dialled the connection, whose lower end is one of the world.
pub record StandsAt {I O : Type 0} (i : link_in.Ghosts I) (o : link_out.Ghosts O) (v : World) (net : Net) (s : ReadServer I O) : Type 0 where
  pub is_read : purpose_of (v.dialled s.conn.0).upper ≡ reading
  pub within : s.conn.0 < v.next_conn
  pub at_node : node_of v s.conn.0 < v.nodes
  pub end_is : EndStands i o v net s.conn.0 s.end

-- Roads and nodes show a world, and all lower ends are ends of it.
pub record EndsStand {F R I O : Type 0} (r : roads.Ghosts R I O) (i : link_in.Ghosts I) (o : link_out.Ghosts O) (v : World) (net : Net) (n : Nodes F I O) (old : Reads I O) (road : R) : Type 0 where
  pub roads_are : ShowsWorld r v net road
  pub nodes_are : NodesShow i o v net n
  pub ordered : Ordered v
  pub ascend : ConnsAscend old.servers.items
  pub ends : (k : ℕ) (s : ReadServer I O) → slice_get old.servers.items k ≡ Some s → StandsAt i o v net s

-- They show it once so many servers were looked at, and all ends that aren't gone are ends of it.
pub record EndsLeft {F R I O : Type 0} (r : roads.Ghosts R I O) (i : link_in.Ghosts I) (o : link_out.Ghosts O) (v : World) (net : Net) (n : Nodes F I O) (node : NodeId) (old : Reads I O) (k : ℕ) (road : R) : Type 0 where
  pub made : Net
  pub roads_are : ShowsWorld r v made road
  pub nodes_are : NodesShow i o v made n
  pub stays : (c : ℕ) (lower : Bool) (e : Conn I O) → (IsGone n node old k c lower → ⊥) → IsEndOf i o v net c lower e → IsEndOf i o v made c lower e

-- ONE END

only_upper : (d : Bool) → (d ≡ true → ⊥) → d ≡ false
only_upper true never = absurd (never refl)
only_upper false never = refl

module _ {F R I O : Type 0} (f : files.Ghosts F) (r : roads.Ghosts R I O) (i : link_in.Ghosts I) (o : link_out.Ghosts O) (follow : NodesFollow f i o) (brings : BringsShow R I O r i o) (idle : IdleFlushesAreNets) (sane_stay : NetsStaySane) (elsewhere : EndsElsewhereStay i o) where
  module _ (v : World) (net : Net) (n : Nodes F I O) (node : NodeId) (old : Reads I O) (first : R) (all : EndsStand r i o v net n old first) (k : ℕ) (s : ReadServer I O) (at : slice_get old.servers.items k ≡ Some s) where
    -- the end of this server isn't gone yet
    not_yet : IsGone n node old k s.conn.0 true → ⊥
    not_yet h = not_less k (subst (λ (m : ℕ). m < k) (same_place (λ x. x.conn.0) old.servers.items all.ascend h.place k h.server s h.at at h.of_conn) h.before)

    stays_still : (road road' : R) → road' ≡ road → EndsLeft r i o v net n node old k road → EndsLeft r i o v net n node old (k + 1) road'
    stays_still road road' same left = record {
      made = left.made;
      roads_are = subst (λ (y : R). ShowsWorld r v left.made y) (sym same) left.roads_are;
      nodes_are = left.nodes_are;
      stays = λ c d e there h. left.stays c d e (λ gone. there (gone_more n node old k c d gone)) h;
    }

    module _ (taken : took n.connections.items node s.conn.0 ≡ true) (road road' : R) (left : EndsLeft r i o v net n node old k road) (end : Conn I O) (end_is : IsEndOf i o v left.made s.conn.0 true end) (b : BringsEnd r i o end road road' (Ok tt)) where
      abbrev flushed : Net
      flushed = flushed_net left.made s.conn.0 true false []

      -- all other ends stay
      others : (c : ℕ) (d : Bool) (e : Conn I O) → IsElsewhere s.conn.0 true c d → IsEndOf i o v left.made c d e → IsEndOf i o v flushed c d e
      others c d e away h = (elsewhere v v left.made s.conn.0 true c d e away refl h).exchanged false false []

      away : (c : ℕ) (d : Bool) → (IsGone n node old (k + 1) c d → ⊥) → IsElsewhere s.conn.0 true c d
      away c d there = λ same. only_upper d (λ is. there (record {
        is_lower = is;
        taken = subst (λ (m : ℕ). took n.connections.items node m ≡ true) same taken;
        place = k;
        server = s;
        at = at;
        before = this_one k;
        of_conn = same;
      }))

      shows_next : RoadsShow r flushed road'
      shows_next =
          let shown = brings end road road' (Ok tt) b left.made false [] (held_by (is_over v s.conn.0 true)) left.roads_are.sane (record { road_shows = left.roads_are.shows; end_is = end_is.is }) in
          subst (λ (l : Bool). RoadsShow r (flushed_net left.made s.conn.0 l false []) road') end_is.side
          (subst (λ (c : ℕ). RoadsShow r (flushed_net left.made c end.lower false []) road') end_is.id shown)

      nodes_next : NodesShow i o v flushed n
      nodes_next =
          let here = all.ends k s at in
          follow v left.made v flushed s.conn.0 n n (record {
            nodes_are = left.nodes_are;
            ordered = all.ordered;
            ordered_after = all.ordered;
            within = here.within;
            elsewhere = reads_elsewhere (v.dialled s.conn.0).upper here.is_read;
            block = 0;
            keeps = record {
              nodes = refl;
              conns = refl;
              dialled = λ d. refl;
              running = λ m. refl;
              lives = λ m. refl;
              lowers = λ d z. refl;
              replicas = λ m b z. refl;
              over = λ d. refl;
            };
            others = λ d lower e none h. others d lower e none.0 h;
            books = record {
              blocks = refl;
              connections = refl;
              others = λ m place z. refl;
              each = λ place block book at_block at_book. left.nodes_are.books (node_of v s.conn.0) place block book at_block at_book;
              all = λ place block at_block. left.nodes_are.has_books (node_of v s.conn.0) place block here.at_node at_block;
            };
          })

      pub one_gone : EndsLeft r i o v net n node old (k + 1) road'
      one_gone = record {
        made = flushed;
        roads_are = record {
          is_net = idle v left.made s.conn.0 true left.roads_are.is_net;
          sane = (sane_stay left.made (record { conn = s.conn.0; lower = true; shut = false; messages = [] } ∷ []) left.roads_are.sane).flushed (end_is.within, tt);
          shows = shows_next;
        };
        nodes_are = nodes_next;
        stays = λ c d e there h. others c d e (away c d there) (left.stays c d e (λ gone. there (gone_more n node old k c d gone)) h);
      }

    end_gone : took n.connections.items node s.conn.0 ≡ true → (e : ReadEnd I O) → EndStands i o v net s.conn.0 e → (road road' : R) → Ends r i o e road road' → EndsLeft r i o v net n node old k road → EndsLeft r i o v net n node old (k + 1) road'
    end_gone taken (read_end.Idle x) stands road road' ends left = one_gone taken road road' left x (left.stays s.conn.0 true x not_yet stands) ends
    end_gone taken (read_end.Serving read place) stands road road' ends left = one_gone taken road road' left read.end (left.stays s.conn.0 true read.end not_yet stands) ends
    end_gone taken read_end.Ended stands road road' ends left = stays_still road road' ends left

    pub left_next : (t : Bool) → took n.connections.items node s.conn.0 ≡ t → (now next : Reads I O) (road road' : R) → EndsIf t r i o k s now next road road' → EndsLeft r i o v net n node old k road → EndsLeft r i o v net n node old (k + 1) road'
    left_next true taken now next road road' does left = end_gone taken s.end (all.ends k s at).end_is road road' does.ends left
    left_next false taken now next road road' does left = stays_still road road' does.roads left

-- ALL ENDS

-- a server, by whether its lower end was taken away
abbrev pub ended_if : {I O : Type 0} → Bool → ReadServer I O → ReadServer I O
ended_if true s = ended s
ended_if false s = s

-- so many servers were looked at
abbrev pub looked_at : {F I O : Type 0} → Nodes F I O → NodeId → ℕ → ℕ → ReadServer I O → ReadServer I O
looked_at n node k c s = ended_if (nat_lt c k && took n.connections.items node s.conn.0) s

pub record Ending {F R I O : Type 0} (r : roads.Ghosts R I O) (i : link_in.Ghosts I) (o : link_out.Ghosts O) (n : Nodes F I O) (node : NodeId) (old : Reads I O) (first : R) (k : ℕ) (now : Reads I O) (road : R) : Type 0 where
  pub clients : now.clients ≡ old.clients
  pub count : length now.servers.items ≡ length old.servers.items
  pub each : (c : ℕ) (s : ReadServer I O) → slice_get old.servers.items c ≡ Some s → slice_get now.servers.items c ≡ Some (looked_at n node k c s)
  pub known : AreKnown (r.plain road) now
  pub pass : RoadsPass r first road
  pub roads : (v : World) (net : Net) → EndsStand r i o v net n old first → EndsLeft r i o v net n node old k road

module _ {F R I O : Type 0} (r : roads.Ghosts R I O) (i : link_in.Ghosts I) (o : link_out.Ghosts O) (n : Nodes F I O) (node : NodeId) where
  pub ending_none : (old : Reads I O) (road : R) → AreKnown (r.plain road) old → Ending r i o n node old road 0 old road
  ending_none old road known = record {
    clients = refl;
    count = refl;
    each = λ c s at.
        let past : nat_lt c 0 ≡ false = grind (arith, nat_tests) in
        at ∙ ap (λ (b : Bool). Some (ended_if (b && took n.connections.items node s.conn.0) s)) (sym past);
    known = known;
    pass = pass_same r i o road road refl;
    roads = λ v net stands. record {
      made = net;
      roads_are = stands.roads_are;
      nodes_are = stands.nodes_are;
      stays = λ c d e there h. h;
    };
  }

  -- ONE MORE

  -- The server at a place was looked at, and all others stay.
  record IsNext (now next : Reads I O) (k : ℕ) (s : ReadServer I O) : Type 0 where
    clients : next.clients ≡ now.clients
    count : length next.servers.items ≡ length now.servers.items
    here : slice_get next.servers.items k ≡ Some (ended_if (took n.connections.items node s.conn.0) s)
    there : (c : ℕ) → (c ≡ k → ⊥) → slice_get next.servers.items c ≡ slice_get now.servers.items c

  is_next : (now next : Reads I O) (road road' : R) (k : ℕ) (s : ReadServer I O) → slice_get now.servers.items k ≡ Some s → (t : Bool) → took n.connections.items node s.conn.0 ≡ t → EndsIf t r i o k s now next road road' → IsNext now next k s
  is_next now next road road' k s at true taken does = record {
    clients = does.clients;
    count = ap (λ (xs : List (ReadServer I O)). length xs) does.set ∙ length-set now.servers.items k (ended s);
    here = ap (λ (xs : List (ReadServer I O)). slice_get xs k) does.set ∙ (set_here now.servers.items k s (ended s) at ∙ ap (λ (b : Bool). Some (ended_if b s)) (sym taken));
    there = λ c apart. ap (λ (xs : List (ReadServer I O)). slice_get xs c) does.set ∙ set_there now.servers.items k (ended s) c apart;
  }
  is_next now next road road' k s at false taken does = record {
    clients = ap (λ (p : Reads I O). p.clients) does.same;
    count = ap (λ (p : Reads I O). length p.servers.items) does.same;
    here = ap (λ (p : Reads I O). slice_get p.servers.items k) does.same ∙ (at ∙ ap (λ (b : Bool). Some (ended_if b s)) (sym taken));
    there = λ c apart. ap (λ (p : Reads I O). slice_get p.servers.items c) does.same;
  }

  looked_here : (k : ℕ) (s : ReadServer I O) → looked_at n node (k + 1) k s ≡ ended_if (took n.connections.items node s.conn.0) s
  looked_here k s =
      let now : nat_lt k (k + 1) ≡ true = grind (arith, nat_tests) in
      ap (λ (b : Bool). ended_if (b && took n.connections.items node s.conn.0) s) now

  looked_there : (k c : ℕ) (s : ReadServer I O) → (c ≡ k → ⊥) → looked_at n node k c s ≡ looked_at n node (k + 1) c s
  looked_there k c s apart =
      let other : (c == k) ≡ false = no_match c k apart in
      let same : nat_lt c k ≡ nat_lt c (k + 1) = grind (arith, nat_tests, other) in
      ap (λ (b : Bool). ended_if (b && took n.connections.items node s.conn.0) s) same

  each_next : (old now next : Reads I O) (k : ℕ) (s : ReadServer I O) → slice_get old.servers.items k ≡ Some s → ((c : ℕ) (a : ReadServer I O) → slice_get old.servers.items c ≡ Some a → slice_get now.servers.items c ≡ Some (looked_at n node k c a)) → IsNext now next k s
      → (c : ℕ) (a : ReadServer I O) → slice_get old.servers.items c ≡ Some a → ((c ≡ k) ⊎ (c ≡ k → ⊥)) → slice_get next.servers.items c ≡ Some (looked_at n node (k + 1) c a)
  each_next old now next k s at each h c a found (inl same) =
      let is : s ≡ a = same_some s a (sym at ∙ (ap (λ (m : ℕ). slice_get old.servers.items m) (sym same) ∙ found)) in
      ap (λ (m : ℕ). slice_get next.servers.items m) same ∙ (h.here ∙ (ap (λ (x : ReadServer I O). Some x) (sym (looked_here k s)) ∙
      (ap (λ (x : ReadServer I O). Some (looked_at n node (k + 1) k x)) is ∙ ap (λ (m : ℕ). Some (looked_at n node (k + 1) m a)) (sym same))))
  each_next old now next k s at each h c a found (inr apart) =
      h.there c apart ∙ (each c a found ∙ ap (λ (x : ReadServer I O). Some x) (looked_there k c a apart))

  known_if : (plain : Option Plain) (b : Bool) (s : ReadServer I O) → EndIsKnown plain s.end → EndIsKnown plain (ended_if b s).end
  known_if plain true s h = tt
  known_if plain false s h = h

  known_next : (now next : Reads I O) (road road' : R) (k : ℕ) (s : ReadServer I O) → slice_get now.servers.items k ≡ Some s → IsNext now next k s → RoadsPass r road road' → AreKnown (r.plain road) now → AreKnown (r.plain road') next
  known_next now next road road' k s at h pass known c a found = by (same_or c k)
    where
      past : AreKnown (r.plain road') now
      past = all_known_past r road road' now pass known

      by : ((c ≡ k) ⊎ (c ≡ k → ⊥)) → EndIsKnown (r.plain road') a.end
      by (inl same) =
          let is : ended_if (took n.connections.items node s.conn.0) s ≡ a = same_some (ended_if (took n.connections.items node s.conn.0) s) a (sym h.here ∙ (ap (λ (m : ℕ). slice_get next.servers.items m) (sym same) ∙ found)) in
          subst (λ (x : ReadServer I O). EndIsKnown (r.plain road') x.end) is (known_if (r.plain road') (took n.connections.items node s.conn.0) s (past k s at))
      by (inr apart) = past c a (sym (h.there c apart) ∙ found)

  now_there : (old now : Reads I O) (k : ℕ) (s : ReadServer I O) → slice_get old.servers.items k ≡ Some s → slice_get now.servers.items k ≡ Some (looked_at n node k k s) → slice_get now.servers.items k ≡ Some s
  now_there old now k s at is =
      let past : nat_lt k k ≡ false = grind (arith, nat_tests) in
      is ∙ ap (λ (b : Bool). Some (ended_if (b && took n.connections.items node s.conn.0) s)) past

  pub ending_next : (f : files.Ghosts F) → NodesFollow f i o → BringsShow R I O r i o → IdleFlushesAreNets → NetsStaySane → EndsElsewhereStay i o → (old now next : Reads I O) (first road road' : R) (k : ℕ) → k < length old.servers.items → EndsAt r i o n node k now next road road' → RoadsPass r road road'
      → Ending r i o n node old first k now road → Ending r i o n node old first (k + 1) next road'
  ending_next f follow brings idle sane elsewhere old now next first road road' k within does pass so =
      let s = element old.servers.items k within in
      let at : slice_get now.servers.items k ≡ Some s.0 = now_there old now k s.0 s.1 (so.each k s.0 s.1) in
      let done = does s.0 at in
      let h : IsNext now next k s.0 = is_next now next road road' k s.0 at (took n.connections.items node s.0.conn.0) refl done in
      record {
        clients = h.clients ∙ so.clients;
        count = h.count ∙ so.count;
        each = λ c a found. each_next old now next k s.0 s.1 so.each h c a found (same_or c k);
        known = known_next now next road road' k s.0 at h pass so.known;
        pass = pass_on r i o first road road' so.pass pass;
        roads = λ v net stands. left_next f r i o follow brings idle sane elsewhere v net n node old first stands k s.0 s.1 (took n.connections.items node s.0.conn.0) refl now next road road' done (so.roads v net stands);
      }

-- ONE PLACE

-- What is there where a call succeeded, by what it says then.
pub ok_then : {T E : Type 0} (P Q : Type 0) (result : Result T E) → (P → Q) → OnOk result P → OnOk result Q
ok_then P Q (Ok x) f p = f p
ok_then P Q (Err e) f p = tt

pub end_here : {F R I O : Type 0} (r : roads.Ghosts R I O) (i : link_in.Ghosts I) (o : link_out.Ghosts O) (n : Nodes F I O) (node : NodeId) (k : ℕ) (old new : Reads I O) (s : ReadServer I O) (e dest : ReadEnd I O) (road road' : R) → slice_get old.servers.items k ≡ Some s → took n.connections.items node s.conn.0 ≡ true → e ≡ s.end → dest ≡ read_end.Ended
    → new.clients ≡ old.clients → new.servers.items ≡ slice_set old.servers.items k (record { conn = s.conn; end = dest }) → Ends r i o e road road' → EndsAt r i o n node k old new road road'
end_here {F} {R} {I} {O} r i o n node k old new s e dest road road' at taken from done clients set ends y found =
    by (took n.connections.items node y.conn.0) (ap (λ (z : ReadServer I O). took n.connections.items node z.conn.0) (sym same) ∙ taken)
  where
    same : s ≡ y
    same = same_some s y (sym at ∙ found)

    by : (b : Bool) → b ≡ true → EndsIf b r i o k y old new road road'
    by true is = record {
      clients = clients;
      set = set ∙ (λ j. slice_set old.servers.items k (record { conn = (same j).conn; end = done j }));
      ends = subst (λ (x : ReadEnd I O). Ends r i o x road road') (from ∙ ap (λ (z : ReadServer I O). z.end) same) ends;
    }
    by false is = cc

pub end_not : {F R I O : Type 0} (r : roads.Ghosts R I O) (i : link_in.Ghosts I) (o : link_out.Ghosts O) (n : Nodes F I O) (node : NodeId) (k : ℕ) (old : Reads I O) (s : ReadServer I O) (road : R) → slice_get old.servers.items k ≡ Some s → took n.connections.items node s.conn.0 ≡ false → EndsAt r i o n node k old old road road
end_not {F} {R} {I} {O} r i o n node k old s road at away y found =
    by (took n.connections.items node y.conn.0) (ap (λ (z : ReadServer I O). took n.connections.items node z.conn.0) (sym (same_some s y (sym at ∙ found))) ∙ away)
  where
    by : (b : Bool) → b ≡ false → EndsIf b r i o k y old old road road
    by false is = record { same = refl; roads = refl }
    by true is = cc
