-- Nodes that show a world show the world after an event of one member.
use Rattle.std.proofs.Common.{◌≡◌, ℕ, Bool, true, false, List, length, slice_get, slice_set, Option, Some, None, IfSome, IsSome, ◌⊎◌, inl, inr, refl, sym, ap, ◌∙◌, subst, length-set, ◌<◌, ◌≤◌, ◌+◌, ◌++◌, length-append, option_map, arith}
use Rattle.std.specs.Prelude.{nat_lt}
use Rattle.std.proofs.lemmas.Bool.Decides.{nat_tests}
use Rattle.hd_base.specs.declared.ends.Conn.{Conn}
use Rattle.hd_base.specs.declared.numbers.BlockId.{BlockId}
use Rattle.hd_base.specs.declared.numbers.ConnId.{ConnId}
use Rattle.hd_base.specs.declared.numbers.NodeId.{NodeId}
use Rattle.hd_base.specs.declared.links.LinkIn as link_in
use Rattle.hd_base.specs.declared.links.LinkOut as link_out
use Rattle.member_events.specs.ReplicaFiles.BookState.{BookState}
use Rattle.member_events.specs.ReplicaFiles.Books.{replica_of}
use Rattle.member_events.specs.PipeMember.Member.{Member}
use Rattle.road_traffic.specs.Showing.{Net}
use Rattle.member_events.specs.LinkMessages.Incomings.{IncomingState}
use Rattle.play_model.specs.World.Parts as parts
use Rattle.play_model.specs.World.Parts.{Dialled, by_writer, by_member, FullMember, idle, writes, serves, recovers, ended_below}
use Rattle.play_model.specs.World.Worlds.{World}
use Rattle.play_model.specs.World.Connections.{is_served}
use Rattle.play_model.specs.World.Nodes.{node_of}
use Rattle.member_events.specs.WorldNets.Nets.{is_over}
use Rattle.member_events.specs.MemberCore.Members.{MemberState}
use Rattle.world_orders.specs.Orders.{Ordered, IsMirror, MirrorIs}
use Rattle.member_events.specs.Showing.{MirrorShows, NoneReceived, MemberShows, IsLater, IsNoneOf, OthersStay}
use Rattle.play_model.specs.Lines.{mirror_of}
use Rattle.play_nodes.specs.declared.connections.Connection.{Connection}
use Rattle.play_nodes.specs.declared.connections.Lower.{Lower}
use Rattle.play_nodes.specs.declared.connections.Lower.TheVariants as lower
use Rattle.play_nodes.specs.declared.connections.Upper.{Upper}
use Rattle.play_nodes.specs.declared.nodes.Nodes.{Nodes}
use Rattle.play_nodes.specs.Places.{book_at}
use Rattle.play_nodes.specs.Showing.{UpperShows, OriginShows, is_pipeline, IsOfPipeline, AllPipelines, has_events, stands_here, LowerShows, ConnectionShows, NodesShow, WritersStay, ElsewhereStays, BooksShow, HasBooks}
use Rattle.play_nodes.proofs.Tables.{SetOr, set_or, JoinedOr, joined_or, same_or}
use Rattle.play_nodes.proofs.PlaceLaws.{element_within}
use Rattle.play_nodes.proofs.WorldFrames.{KeepsRest}

-- THE WORLD

test_so : (a b : ℕ) → a < b → nat_lt a b ≡ true
test_so a b h = grind (arith, nat_tests, h)

later : (a b c : ℕ) → a < b → b ≤ c → a < c
later a b c h k = omega arith

pub served_as : (w v : World) (c node block d : ℕ) → KeepsRest w v c node block → d < w.next_conn → is_served v d ≡ is_served w d
served_as w v c node block d rest within =
    rw (
      test_so d v.next_conn (later d w.next_conn v.next_conn within rest.grows),
      test_so d w.next_conn within,
      rest.dialled d within,
      rest.running (w.dialled d).to.node,
      rest.lives (w.dialled d).to.node,
    ) refl

events_as : (w v : World) (c node block d : ℕ) → KeepsRest w v c node block → d < w.next_conn → (d ≡ c → ⊥) → has_events v d ≡ has_events w d
events_as w v c node block d rest within apart = rw (served_as w v c node block d rest within, rest.lowers d apart) refl

pub node_as : (w v : World) (c node block d : ℕ) → KeepsRest w v c node block → d < w.next_conn → node_of v d ≡ node_of w d
node_as w v c node block d rest within = ap (λ (x : Dialled). x.to.node) (rest.dialled d within)

before_so : (a b : ℕ) → nat_lt a b ≡ true → a < b
before_so a b e = grind (arith, nat_tests)

behind_so : (a b : ℕ) → nat_lt a b ≡ false → b ≤ a
behind_so a b e = grind (arith, nat_tests)

-- Where each connection was of a pipeline, and so is what was dialled since, each is.
pub pipelines_after : (w v : World) → ((d : ℕ) → d < w.next_conn → v.dialled d ≡ w.dialled d) → ((d : ℕ) → w.next_conn ≤ d → IsOfPipeline v d) → AllPipelines w → AllPipelines v
pipelines_after w v dialled more all = λ d within. by d within (nat_lt d w.next_conn) refl
  where
    by : (d : ℕ) → d < v.next_conn → (q : Bool) → nat_lt d w.next_conn ≡ q → is_pipeline (v.dialled d).upper ≡ true
    by d within true e = let before = before_so d w.next_conn e in subst (λ (u : Dialled). is_pipeline u.upper ≡ true) (sym (dialled d before)) (all d before)
    by d within false e = more d (behind_so d w.next_conn e) within

pub none_since : (w v : World) → v.next_conn ≡ w.next_conn → (d : ℕ) → w.next_conn ≤ d → IsOfPipeline v d
none_since w v same d behind within = absurd (omega (arith, same, behind, within))

-- Where nothing was dialled they stay so.
pub pipelines_stay : (w v : World) → ((d : ℕ) → d < w.next_conn → v.dialled d ≡ w.dialled d) → v.next_conn ≡ w.next_conn → AllPipelines w → AllPipelines v
pipelines_stay w v dialled same = pipelines_after w v dialled (none_since w v same)

-- WHO DIALLED THE MIRRORS

-- The connection to a member's mirror, if it has one, was dialled by the member at this connection.
abbrev pub DialledBy : World → ℕ → Option ℕ → Type 0
DialledBy w c mirror = IfSome mirror (λ e. (w.dialled e).upper ≡ by_member c)

dialled_so : (w : World) (c : ℕ) (state : MemberState) (mirror : Option ℕ) → IfSome mirror (λ e. IsMirror (w.dialled e) (w.up_marks e).taken c e state) → DialledBy w c mirror
dialled_so w c state None h = tt
dialled_so w c state (Some e) h = h.upper

pub dialled_by : (w : World) (c : ℕ) (full : FullMember) → Ordered w → w.lowers c ≡ writes full → DialledBy w c full.mirror
dialled_by w c full ordered is = dialled_so w c full.state full.mirror (subst (λ (l : parts.Lower). MirrorIs w.dialled w.up_marks c l) is (ordered.mirrors c))

later_so : (w : World) (c : ℕ) (state : MemberState) (mirror : Option ℕ) → IfSome mirror (λ e. IsMirror (w.dialled e) (w.up_marks e).taken c e state) → IsLater c mirror
later_so w c state None h = tt
later_so w c state (Some e) h = h.later

pub is_later : (w : World) (c : ℕ) (full : FullMember) → Ordered w → w.lowers c ≡ writes full → IsLater c full.mirror
is_later w c full ordered is = later_so w c full.state full.mirror (subst (λ (l : parts.Lower). MirrorIs w.dialled w.up_marks c l) is (ordered.mirrors c))

-- It is another one than this connection.
abbrev pub IsApart : Option ℕ → ℕ → Type 0
IsApart mirror d = IfSome mirror (λ e. e ≡ d → ⊥)

member_apart : (w : World) (c d e : ℕ) (mirror : Option ℕ) → DialledBy w c mirror → (w.dialled e).upper ≡ by_member d → (d ≡ c → ⊥) → IsApart mirror e
member_apart w c d e None h k apart = tt
member_apart w c d e (Some q) h k apart = λ same. apart (member_same d c (sym k ∙ (ap (λ (n : ℕ). (w.dialled n).upper) (sym same) ∙ h)))
  where
    member_same : (a b : ℕ) → by_member a ≡ by_member b → a ≡ b
    member_same a b x = cc

writer_apart : (w : World) (c b e : ℕ) (mirror : Option ℕ) → DialledBy w c mirror → (w.dialled e).upper ≡ by_writer b → IsApart mirror e
writer_apart w c b e None h k = tt
writer_apart w c b e (Some q) h k = λ same. never (sym k ∙ (ap (λ (n : ℕ). (w.dialled n).upper) (sym same) ∙ h))
  where
    never : by_writer b ≡ by_member c → ⊥
    never x = cc

true_false : (b : Bool) → b ≡ true → b ≡ false → ⊥
true_false b x y = cc

-- a connection that is none of a pipeline isn't that to a member's mirror
elsewhere_apart : (w : World) (c d : ℕ) (mirror : Option ℕ) → DialledBy w c mirror → is_pipeline (w.dialled d).upper ≡ false → IsApart mirror d
elsewhere_apart w c d None h away = tt
elsewhere_apart w c d (Some q) h away = λ same. true_false (is_pipeline (w.dialled d).upper) (ap (λ (n : ℕ). is_pipeline (w.dialled n).upper) (sym same) ∙ ap is_pipeline h) away

-- A lower end of another connection is none of a member's two ends, and neither is an upper end of another one than its mirror's.
lower_none : (c : ℕ) (mirror : Option ℕ) (d : ℕ) → (d ≡ c → ⊥) → IsNoneOf c mirror d true
lower_none c None d apart = ((λ e. absurd (apart (sym e))), tt)
lower_none c (Some m) d apart = ((λ e. absurd (apart (sym e))), (λ e. refl))

upper_none : (c : ℕ) (mirror : Option ℕ) (d : ℕ) → IsApart mirror d → IsNoneOf c mirror d false
upper_none c None d apart = ((λ e. refl), tt)
upper_none c (Some m) d apart = ((λ e. refl), (λ e. absurd (apart e)))

-- A WORLD AND THE ONE AFTER

-- An event at the lower end of a connection, of a member with this mirror, if it has one, at a replica of this block.
pub record IsOfEvent {I O : Type 0} (i : link_in.Ghosts I) (o : link_out.Ghosts O) (w v : World) (net made : Net) (c : ℕ)
    (own : Option ℕ) (written : ℕ) : Type 0 where
  pub ordered : Ordered w
  pub before : c < w.next_conn
  pub dialled : DialledBy w c own
  pub rest : KeepsRest w v c (node_of w c) written
  pub over : (d : ℕ) → IsApart own d → is_over v d false ≡ is_over w d false
  pub others : OthersStay i o w net v made c own

module _ {I O : Type 0} (i : link_in.Ghosts I) (o : link_out.Ghosts O) where
  mirror_stays : (w v : World) (net made : Net) (c : ℕ) (own : Option ℕ) (written : ℕ) (mirror : Option ℕ) (e : Option (Conn I O)) → IsOfEvent i o w v net made c own written → IfSome mirror (λ d. IsApart own d)
      → MirrorShows i o w net mirror e → MirrorShows i o v made mirror e
  mirror_stays w v net made c own written None None k apart h = tt
  mirror_stays w v net made c own written None (Some e) k apart h = h
  mirror_stays w v net made c own written (Some d) None k apart h = h
  mirror_stays w v net made c own written (Some d) (Some e) k apart h = k.others d false e (upper_none c own d apart) h

  received_stays : (w v : World) (net made : Net) (c : ℕ) (own : Option ℕ) (written : ℕ) (mirror : Option ℕ) (received : IncomingState) → IsOfEvent i o w v net made c own written → IfSome mirror (λ d. IsApart own d)
      → NoneReceived w mirror received → NoneReceived v mirror received
  received_stays w v net made c own written None received k apart h = tt
  received_stays w v net made c own written (Some d) received k apart h = λ z. h (sym (k.over d apart) ∙ z)

  mirrors_apart : (w : World) (c d : ℕ) (own : Option ℕ) (mirror : Option ℕ) → DialledBy w c own → DialledBy w d mirror → (d ≡ c → ⊥) → IfSome mirror (λ e. IsApart own e)
  mirrors_apart w c d own None h k apart = tt
  mirrors_apart w c d own (Some e) h k apart = member_apart w c d e own h k apart

  member_stays : (w v : World) (net made : Net) (c d : ℕ) (own : Option ℕ) (written : ℕ) (other : FullMember) (m : Member I O) → IsOfEvent i o w v net made c own written → d < w.next_conn → (d ≡ c → ⊥) → w.lowers d ≡ writes other
      → MemberShows i o w net d other m → MemberShows i o v made d other m
  member_stays w v net made c d own written other m k within apart is h =
      let away : IfSome other.mirror (λ e. IsApart own e) =
      mirrors_apart w c d own other.mirror k.dialled (dialled_by w d other k.ordered is) apart in
      record {
        node = h.node ∙ sym (node_as w v c (node_of w c) written d k.rest within);
        op = h.op;
        stage_is = h.stage_is;
        holds = h.holds;
        upstream = k.others d true m.upstream (lower_none c own d apart) h.upstream;
        mirror = mirror_stays w v net made c own written other.mirror m.mirror k away h.mirror;
        above = h.above;
        below_next = h.below_next;
        below = received_stays w v net made c own written other.mirror m.below.received k away h.below;
      }

module _ {F I O : Type 0} (i : link_in.Ghosts I) (o : link_out.Ghosts O) where
  -- the nodes after, but for the connection and the book of the member
  pub record NodesAfter (old new : Nodes F I O) (node place : ℕ) : Type 0 where
    pub blocks : new.blocks.items ≡ old.blocks.items
    pub books : (n p : ℕ) → (n ≡ node → p ≡ place → ⊥) → book_at new.nodes.items n p ≡ book_at old.nodes.items n p

  -- nothing is said of a lower end that is kept elsewhere
  pub away_shows : (w : World) (net : Net) (c : ℕ) (n : Nodes F I O) (l : parts.Lower) (real : Lower I O) → stands_here real ≡ false → LowerShows i o w net c n l real
  away_shows w net c n idle lower.Elsewhere away = tt
  away_shows w net c n (writes full) lower.Elsewhere away = tt
  away_shows w net c n (serves b s) lower.Elsewhere away = tt
  away_shows w net c n recovers lower.Elsewhere away = tt
  away_shows w net c n ended_below lower.Elsewhere away = tt
  away_shows w net c n l real away = cc

  -- another lower end
  lower_stays : (w v : World) (net made : Net) (c d : ℕ) (own : Option ℕ) (written : ℕ) (old new : Nodes F I O) (l : parts.Lower) (real : Lower I O) → IsOfEvent i o w v net made c own written → d < w.next_conn → (d ≡ c → ⊥)
      → new.blocks.items ≡ old.blocks.items → w.lowers d ≡ l → LowerShows i o w net d old l real → LowerShows i o v made d new l real
  lower_stays w v net made c d own written old new idle (lower.Idle end) k within apart blocks is h = (
    events_as w v c (node_of w c) written d k.rest within apart ∙ h.0,
    k.others d true end (lower_none c own d apart) h.1,
  )
  lower_stays w v net made c d own written old new (writes other) (lower.Member m place) k within apart blocks is h = (
    events_as w v c (node_of w c) written d k.rest within apart ∙ h.0,
    record {
      shows = member_stays i o w v net made c d own written other m k within apart is h.1.shows;
      block = h.1.block;
      at_place = ap (λ (xs : List BlockId). slice_get xs place) blocks ∙ h.1.at_place;
      of_block = h.1.of_block;
    },
  )
  lower_stays w v net made c d own written old new l lower.Ended k within apart blocks is h =
      events_as w v c (node_of w c) written d k.rest within apart ∙ h
  lower_stays w v net made c d own written old new l lower.Elsewhere k within apart blocks is h = tt
  lower_stays w v net made c d own written old new l real k within apart blocks is h = absurd h

  -- another connection
  conn_stays : (w v : World) (net made : Net) (c d : ℕ) (own : Option ℕ) (written : ℕ) (old new : Nodes F I O) (x : Connection I O) → IsOfEvent i o w v net made c own written → d < w.next_conn → (d ≡ c → ⊥) → new.blocks.items ≡ old.blocks.items
      → ConnectionShows i o w net d old x → ConnectionShows i o v made d new x
  conn_stays w v net made c d own written old new x k within apart blocks h = record {
    upper_is = subst (λ (u : Dialled). UpperShows u.upper x.upper) (sym (k.rest.dialled d within)) h.upper_is;
    origin = subst (λ (u : Dialled). OriginShows u.from x.upper) (sym (k.rest.dialled d within)) h.origin;
    node = h.node ∙ sym (node_as w v c (node_of w c) written d k.rest within);
    mirror = h.mirror ∙ ap mirror_of (sym (k.rest.lowers d apart));
    here = h.here ∙ ap (λ (u : Dialled). is_pipeline u.upper) (sym (k.rest.dialled d within));
    lower_is = subst (λ (l : parts.Lower). LowerShows i o v made d new l x.lower) (sym (k.rest.lowers d apart))
        (lower_stays w v net made c d own written old new (w.lowers d) x.lower k within apart blocks refl h.lower_is);
  }

  -- What the event leaves at its connection, and what it adds to the connections.
  pub record IsLeft (w v : World) (made : Net) (c : ℕ) (old new : Nodes F I O) (at last : Connection I O)
      (more : List (Connection I O)) : Type 0 where
    pub found : slice_get old.connections.items c ≡ Some at
    pub set : new.connections.items ≡ slice_set old.connections.items c last ++ more
    pub count : v.next_conn ≡ w.next_conn + length more
    pub upper : last.upper ≡ at.upper
    pub node : last.node ≡ at.node
    pub mirror : option_map (λ (d : ConnId). d.0) last.mirror ≡ mirror_of (v.lowers c)
    pub here : stands_here last.lower ≡ stands_here at.lower
    pub shows : LowerShows i o v made c new (v.lowers c) last.lower
    pub added : (k : ℕ) (x : Connection I O) → slice_get more k ≡ Some x → ConnectionShows i o v made (w.next_conn + k) new x
    pub blocks : new.blocks.items ≡ old.blocks.items

  -- The book of the event's replica, among those after it.
  pub record BookLeft (w v : World) (c place written : ℕ) (old new : Nodes F I O) : Type 0 where
    pub after : NodesAfter old new (node_of w c) place
    pub block : BlockId
    pub at_place : slice_get old.blocks.items place ≡ Some block
    pub of_block : block.0 ≡ written
    pub replica : (book : BookState F) → book_at new.nodes.items (node_of w c) place ≡ Some book → replica_of book ≡ v.replicas (node_of w c) block.0
    pub has_book : IsSome (book_at new.nodes.items (node_of w c) place)

  each_set : (w v : World) (net made : Net) (c d : ℕ) (own : Option ℕ) (written : ℕ) (old new : Nodes F I O) (at last x : Connection I O) (more : List (Connection I O)) → NodesShow i o w net old → IsOfEvent i o w v net made c own written
      → IsLeft w v made c old new at last more → SetOr old.connections.items c last d x → ConnectionShows i o v made d new x
  each_set w v net made c d own written old new at last x more h k l (inl here) =
      subst (λ (n : ℕ). ConnectionShows i o v made n new x) (sym here.0) (subst (λ (y : Connection I O). ConnectionShows i o v made c new y) (sym here.1) (record {
        upper_is = subst (λ (y : Upper). UpperShows (v.dialled c).upper y) (sym l.upper)
            (subst (λ (u : Dialled). UpperShows u.upper at.upper) (sym (k.rest.dialled c k.before)) (h.each c at l.found).upper_is);
        origin = subst (λ (y : Upper). OriginShows (v.dialled c).from y) (sym l.upper)
            (subst (λ (u : Dialled). OriginShows u.from at.upper) (sym (k.rest.dialled c k.before)) (h.each c at l.found).origin);
        node = ap (λ (n : NodeId). n.0) l.node ∙ ((h.each c at l.found).node ∙ sym (node_as w v c (node_of w c) written c k.rest k.before));
        mirror = l.mirror;
        here = l.here ∙ ((h.each c at l.found).here ∙ ap (λ (u : Dialled). is_pipeline u.upper) (sym (k.rest.dialled c k.before)));
        lower_is = l.shows;
      }))
  each_set w v net made c d own written old new at last x more h k l (inr there) =
      conn_stays w v net made c d own written old new x k
      (subst (λ (n : ℕ). d < n) h.count (element_within old.connections.items d x there.1)) there.0 l.blocks (h.each d x there.1)

  each_after : (w v : World) (net made : Net) (c d : ℕ) (own : Option ℕ) (written : ℕ) (old new : Nodes F I O) (at last x : Connection I O) (more : List (Connection I O)) → NodesShow i o w net old → IsOfEvent i o w v net made c own written
      → IsLeft w v made c old new at last more → JoinedOr (slice_set old.connections.items c last) more d x → ConnectionShows i o v made d new x
  each_after w v net made c d own written old new at last x more h k l (inl before) =
      each_set w v net made c d own written old new at last x more h k l (set_or old.connections.items c last d x before)
  each_after w v net made c d own written old new at last x more h k l (inr behind) =
      subst (λ (n : ℕ). ConnectionShows i o v made n new x)
      (sym (behind.1.0 ∙ ap (λ (n : ℕ). n + behind.0) (length-set old.connections.items c last ∙ h.count))) (l.added behind.0 x behind.1.1)

  other_book : (w v : World) (net made : Net) (c place n p : ℕ) (own : Option ℕ) (written : ℕ) (old new : Nodes F I O) (block : BlockId) (book : BookState F) → NodesShow i o w net old
      → IsOfEvent i o w v net made c own written → BookLeft w v c place written old new → slice_get old.blocks.items p ≡ Some block → book_at new.nodes.items n p ≡ Some book → (n ≡ node_of w c → p ≡ place → ⊥)
      → replica_of book ≡ v.replicas n block.0
  other_book w v net made c place n p own written old new block book h k l at_p found apart =
      h.books n p block book at_p (sym (l.after.books n p apart) ∙ found) ∙
      sym (k.rest.replicas n block.0 (λ a b. apart a (h.distinct p place block l.block at_p l.at_place (b ∙ sym l.of_block))))

  book_after : (w v : World) (net made : Net) (c place n p : ℕ) (own : Option ℕ) (written : ℕ) (old new : Nodes F I O) (block : BlockId) (book : BookState F) → NodesShow i o w net old
      → IsOfEvent i o w v net made c own written → BookLeft w v c place written old new → slice_get old.blocks.items p ≡ Some block → book_at new.nodes.items n p ≡ Some book
      → ((n ≡ node_of w c) ⊎ (n ≡ node_of w c → ⊥)) → ((p ≡ place) ⊎ (p ≡ place → ⊥)) → replica_of book ≡ v.replicas n block.0
  book_after w v net made c place n p own written old new block book h k l at_p found (inl same) (inl here) =
      let of : block ≡ l.block = same_some block l.block (sym at_p ∙ (ap (slice_get old.blocks.items) here ∙ l.at_place)) in
      l.replica book (sym (ap (λ (q : ℕ). book_at new.nodes.items q place) same) ∙ (sym (ap (book_at new.nodes.items n) here) ∙ found)) ∙
      (ap (λ (b : BlockId). v.replicas (node_of w c) b.0) (sym of) ∙ ap (λ (q : ℕ). v.replicas q block.0) (sym same))
    where
      same_some : (a b : BlockId) → Some a ≡ Some b → a ≡ b
      same_some a b e = cc
  book_after w v net made c place n p own written old new block book h k l at_p found (inl same) (inr apart) =
      other_book w v net made c place n p own written old new block book h k l at_p found (λ a b. apart b)
  book_after w v net made c place n p own written old new block book h k l at_p found (inr apart) q =
      other_book w v net made c place n p own written old new block book h k l at_p found (λ a b. apart a)

  has_book_after : (w v : World) (net made : Net) (c place n p : ℕ) (own : Option ℕ) (written : ℕ) (old new : Nodes F I O)
      → BookLeft w v c place written old new → IsSome (book_at old.nodes.items n p) → ((n ≡ node_of w c) ⊎ (n ≡ node_of w c → ⊥)) → ((p ≡ place) ⊎ (p ≡ place → ⊥)) → IsSome (book_at new.nodes.items n p)
  has_book_after w v net made c place n p own written old new l has (inl same) (inl here) =
      subst (λ (q : ℕ). IsSome (book_at new.nodes.items q p)) (sym same) (subst (λ (q : ℕ). IsSome (book_at new.nodes.items (node_of w c) q)) (sym here) l.has_book)
  has_book_after w v net made c place n p own written old new l has (inl same) (inr apart) = subst IsSome (sym (l.after.books n p (λ a b. apart b))) has
  has_book_after w v net made c place n p own written old new l has (inr apart) q = subst IsSome (sym (l.after.books n p (λ a b. apart a))) has

  -- The books show the world after.
  pub books_after : (w v : World) (net made : Net) (c place : ℕ) (own : Option ℕ) (written : ℕ) (old new : Nodes F I O) → NodesShow i o w net old → IsOfEvent i o w v net made c own written → BookLeft w v c place written old new → BooksShow v new
  books_after w v net made c place own written old new h k l = λ n p block book at_p found.
      book_after w v net made c place n p own written old new block book h k l
      (sym (ap (λ (xs : List BlockId). slice_get xs p) l.after.blocks) ∙ at_p) found (same_or n (node_of w c)) (same_or p place)

  pub has_books_after : (w v : World) (net made : Net) (c place : ℕ) (own : Option ℕ) (written : ℕ) (old new : Nodes F I O) → NodesShow i o w net old → IsOfEvent i o w v net made c own written → BookLeft w v c place written old new → HasBooks v new
  has_books_after w v net made c place own written old new h k l = λ n p block within at_p.
      has_book_after w v net made c place n p own written old new l
      (h.has_books n p block (subst (λ (q : ℕ). n < q) k.rest.nodes within) (sym (ap (λ (xs : List BlockId). slice_get xs p) l.after.blocks) ∙ at_p))
      (same_or n (node_of w c)) (same_or p place)

  -- The nodes show the world after.
  pub nodes_after : (w v : World) (net made : Net) (c : ℕ) (own : Option ℕ) (written : ℕ) (old new : Nodes F I O) (at last : Connection I O) (more : List (Connection I O)) → NodesShow i o w net old
      → IsOfEvent i o w v net made c own written → IsLeft w v made c old new at last more → BooksShow v new → HasBooks v new → NodesShow i o v made new
  nodes_after w v net made c own written old new at last more h k l books has = record {
    count = ap length l.set ∙ (length-append (slice_set old.connections.items c last) more ∙
        (ap (λ (n : ℕ). n + length more) (length-set old.connections.items c last ∙ h.count) ∙ sym l.count));
    distinct = λ j q a b at_j at_q. h.distinct j q a b (sym (ap (λ (xs : List BlockId). slice_get xs j) l.blocks) ∙ at_j) (sym (ap (λ (xs : List BlockId). slice_get xs q) l.blocks) ∙ at_q);
    each = λ d x found. each_after w v net made c d own written old new at last x more h k l
        (joined_or (slice_set old.connections.items c last) more d x (sym (ap (λ (xs : List (Connection I O)). slice_get xs d) l.set) ∙ found));
    books = books;
    has_books = has;
  }

module _ {I O : Type 0} (i : link_in.Ghosts I) (o : link_out.Ghosts O) where
  -- The ends of writers stay.
  pub writers_after : (w v : World) (net made : Net) (c : ℕ) (own : Option ℕ) (written : ℕ) → IsOfEvent i o w v net made c own written → WritersStay i o w net v made
  writers_after w v net made c own written k = λ b d e by is.
      k.others d false e (upper_none c own d (writer_apart w c b d own k.dialled by)) is

  -- So do those of connections that are none of a pipeline.
  pub elsewhere_after : (w v : World) (net made : Net) (c : ℕ) (own : Option ℕ) (written : ℕ) → is_pipeline (w.dialled c).upper ≡ true → IsOfEvent i o w v net made c own written → ElsewhereStays i o w net v made
  elsewhere_after w v net made c own written here k d lower e away is = k.others d lower e (none_away lower) is
    where
      none_away : (lower : Bool) → IsNoneOf c own d lower
      none_away true = lower_none c own d (λ same. true_false (is_pipeline (w.dialled c).upper) here (ap (λ (n : ℕ). is_pipeline (w.dialled n).upper) (sym same) ∙ away))
      none_away false = upper_none c own d (elsewhere_apart w c d own k.dialled away)
