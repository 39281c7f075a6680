-- Reads that nodes serve, the books of their replicas, and the roads show a world.
use Rattle.std.specs.Prelude.{◌≡◌, ℕ, true, None}
use Rattle.hd_base.specs.declared.links.LinkIn as link_in
use Rattle.hd_base.specs.declared.links.LinkOut as link_out
use Rattle.hd_base.specs.declared.roads.Roads as roads
use Rattle.member_events.specs.ReplicaFiles.BookState.{BookState}
use Rattle.member_events.specs.ReplicaFiles.Books.{replica_of}
use Rattle.visible_read.specs.ReadCore.Servings.{ServingState, next_call}
use Rattle.road_traffic.specs.Showing.{Net}
use Rattle.visible_read.specs.declared.answering.Course.{Course}
use Rattle.visible_read.specs.declared.answering.Course.TheVariants as course
use Rattle.member_events.specs.World.Parts.{serves, ended_below}
use Rattle.member_events.specs.World.Worlds.{World}
use Rattle.member_events.specs.World.Nodes.{replica_at}
use Rattle.member_events.specs.WorldNets.Nets.{IsEndOf}
use Rattle.member_events.specs.Showing.{ShowsWorld, OthersStay}
use Rattle.serving_events.specs.declared.steps.ServedRead.{ServedRead}
use Rattle.serving_events.specs.Drawn.{block_of}

-- The read is this far: this packet is next, or all packets were sent.
abbrev pub IsAt : ServingState → Course → Type 0
IsAt s course.Asked = ⊥
IsAt s (course.Sending t) = t ≡ s
IsAt s course.Over = next_call s ≡ None

-- A read of this block that is so far, and the lower end of its connection.
pub record ReadShows {I O : Type 0} (i : link_in.Ghosts I) (o : link_out.Ghosts O) (w : World) (net : Net) (c b : ℕ)
    (s : ServingState) (read : ServedRead I O) : Type 0 where
  pub end_is : IsEndOf i o w net c true read.end
  pub of_block : block_of read.serving.op ≡ b
  pub at : IsAt s read.serving.course

-- A read that a node of the world serves, with the book of its replica, and the roads show that world.
pub record ReadStands {F R I O : Type 0} (r : roads.Ghosts R I O) (i : link_in.Ghosts I) (o : link_out.Ghosts O)
    (w : World) (net : Net) (c b : ℕ) (s : ServingState) (book : BookState F) (read : ServedRead I O) (road : R) : Type 0
  where
    pub roads_are : ShowsWorld r w net road
    pub lower : w.lowers c ≡ serves b s
    pub shows : ReadShows i o w net c b s read
    pub replica : replica_of book ≡ replica_at w c b

-- WHAT AN EVENT LEAVES

-- The read goes on: it, the roads and the book show the world after the event, and the other ends stay.
pub record GoesOn {F R I O : Type 0} (r : roads.Ghosts R I O) (i : link_in.Ghosts I) (o : link_out.Ghosts O)
    (w : World) (net : Net) (v : World) (c b : ℕ) (book : BookState F) (road : R) (read : ServedRead I O) : Type 0 where
  pub made : Net
  pub roads_are : ShowsWorld r v made road
  pub state : ServingState
  pub lower : v.lowers c ≡ serves b state
  pub shows : ReadShows i o v made c b state read
  pub replica : replica_of book ≡ replica_at v c b
  pub others : OthersStay i o w net v made c None

-- The connection has ended: roads and book show the world after the event, and the other ends stay.
pub record HasEnded {F R I O : Type 0} (r : roads.Ghosts R I O) (i : link_in.Ghosts I) (o : link_out.Ghosts O)
    (w : World) (net : Net) (v : World) (c b : ℕ) (book : BookState F) (road : R) : Type 0 where
  pub made : Net
  pub roads_are : ShowsWorld r v made road
  pub lower : v.lowers c ≡ ended_below
  pub replica : replica_of book ≡ replica_at v c b
  pub others : OthersStay i o w net v made c None
