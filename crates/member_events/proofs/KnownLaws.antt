-- Roads that know the ends of a member know them after its steps and exchanges.
use Rattle.std.proofs.Common.{◌≡◌, ◌<◌, ℕ, Bool, true, false, List, Option, Some, None, IfSome, Result, Ok, Err, refl, sym, ap, ◌∙◌, subst}
use Rattle.hd_base.specs.Channels.{Plain}
use Rattle.hd_base.specs.Ends.{IsKnown, KeepsConnections}
use Rattle.hd_base.specs.declared.ends.Conn.{Conn}
use Rattle.hd_base.specs.declared.ends.RoadError.{RoadError}
use Rattle.hd_base.specs.declared.files.Files as files
use Rattle.hd_base.specs.declared.links.LinkIn as link_in
use Rattle.hd_base.specs.declared.links.LinkOut as link_out
use Rattle.hd_base.specs.declared.numbers.ConnId.{ConnId}
use Rattle.hd_base.specs.declared.roads.Roads as roads
use Rattle.pipe_member.specs.PacketCodec.Packet.{Packet}
use Rattle.pipe_member.specs.ReplicaModel.ReplicaEvent.{ReplicaEvent}
use Rattle.pipe_member.specs.ReplicaModel.ReplicaEvent.TheVariants as replica_event
use Rattle.pipe_member.specs.ReplicaFiles.BookState.{BookState}
use Rattle.pipe_member.specs.BlockReceiver.Taken.{Taken}
use Rattle.pipe_member.specs.MemberCore.Shuts.{Shuts}
use Rattle.pipe_member.specs.MemberCore.Booked.{Booked}
use Rattle.pipe_member.specs.MemberCore.Turn.{Turn}
use Rattle.pipe_member.specs.MemberCore.Members.{MemberState, hears, ready_turn_by}
use Rattle.pipe_member.specs.PipeTurns.Turning.{Performs, PassesEnd}
use Rattle.pipe_member.specs.PipeTurns.Acting.{ShutsEnd, ShutsMirror, FollowsAs, booked_of, texts_of, with_half}
use Rattle.pipe_member.specs.PipeTurns.Done.{Done}
use Rattle.pipe_member.specs.declared.member.Member.{Member}
use Rattle.pipe_member.specs.declared.stages.Looked.{Looked}
use Rattle.pipe_member.specs.declared.stages.Looked.TheVariants as looked
use Rattle.pipe_member.specs.declared.stages.Stage.{Stage}
use Rattle.pipe_member.specs.declared.stages.Stage.TheVariants as stage
use Rattle.pipe_member.specs.declared.stages.Took.{Took}
use Rattle.pipe_member.specs.declared.stages.Took.TheVariants as took
use Rattle.pipe_member.specs.declared.stepped.Stepped.{Stepped}
use Rattle.pipe_member.specs.Below.{BelowState, LooksBelow, LooksAt}
use Rattle.pipe_member.specs.Events.{Stays, TurnsIf, IsReady, TakesDown, LooksUp, GoesDown, TakesUp, LooksDown, LooksDownAt, GoesUp, GoesUpIf}
use Rattle.pipe_member.specs.Exchanges.{AreKnown, ExchangesMirror, ExchangesBoth}
use Rattle.pipe_member.specs.Steps.{is_failed, is_asked, finds_no_memory}
use Rattle.pipe_member.specs.Turns.{Turns}
use Rattle.pipe_member.specs.MemberCore.FromBelow.{FromBelow}

-- ENDS OF THE SAME CONNECTIONS

abbrev pub SameMirror : {I O : Type 0} → Option (Conn I O) → Option (Conn I O) → Type 0
SameMirror None None = Unit {0}
SameMirror (Some old) (Some new) = new.id ≡ old.id
SameMirror old new = ⊥

pub record SameIds {I O : Type 0} (old new : Member I O) : Type 0 where
  pub upper : new.upstream.id ≡ old.upstream.id
  pub lower : SameMirror old.mirror new.mirror

module _ {I O : Type 0} where
  pub mirror_itself : (e : Option (Conn I O)) → SameMirror e e
  mirror_itself None = tt
  mirror_itself (Some e) = refl

  pub mirror_same : (old new : Option (Conn I O)) → new ≡ old → SameMirror old new
  mirror_same old new h = subst (λ (x : Option (Conn I O)). SameMirror old x) (sym h) (mirror_itself old)

  mirror_on : (a b c : Option (Conn I O)) → SameMirror a b → SameMirror b c → SameMirror a c
  mirror_on None None None h k = tt
  mirror_on None None (Some c) h k = absurd k
  mirror_on None (Some b) c h k = absurd h
  mirror_on (Some a) None c h k = absurd h
  mirror_on (Some a) (Some b) None h k = absurd k
  mirror_on (Some a) (Some b) (Some c) h k = k ∙ h

  pub same_itself : (old new : Member I O) → new ≡ old → SameIds old new
  same_itself old new h = subst (λ (x : Member I O). SameIds old x) (sym h) (record { upper = refl; lower = mirror_itself old.mirror })

  pub same_on : (a b c : Member I O) → SameIds a b → SameIds b c → SameIds a c
  same_on a b c h k = record { upper = k.upper ∙ h.upper; lower = mirror_on a.mirror b.mirror c.mirror h.lower k.lower }

  mirror_known : (plain : Option Plain) (old new : Option (Conn I O)) → SameMirror old new → IfSome old (λ e. IsKnown plain e.id.0) → IfSome new (λ e. IsKnown plain e.id.0)
  mirror_known plain None None h k = tt
  mirror_known plain None (Some new) h k = absurd h
  mirror_known plain (Some old) None h k = absurd h
  mirror_known plain (Some old) (Some new) h k = subst (λ (c : ConnId). IsKnown plain c.0) (sym h) k

  pub known_same : (plain : Option Plain) (old new : Member I O) → SameIds old new → AreKnown plain old → AreKnown plain new
  known_same plain old new h k = (subst (λ (c : ConnId). IsKnown plain c.0) (sym h.upper) k.0, mirror_known plain old.mirror new.mirror h.lower k.1)

-- A TURN

module _ {I O : Type 0} (o : link_out.Ghosts O) where
  pub end_same : (closes : Bool) (old new : Conn I O) → ShutsEnd o closes old new → new.id ≡ old.id
  end_same true old new h = h.id
  end_same false old new h = ap (λ (e : Conn I O). e.id) h

  pub ends_same : (closes : Bool) (old new : Option (Conn I O)) → ShutsMirror o closes old new → SameMirror old new
  ends_same closes None None h = tt
  ends_same closes None (Some new) h = absurd h
  ends_same closes (Some old) None h = absurd h
  ends_same closes (Some old) (Some new) h = end_same closes old new h

  follows_up : (t : Turn) (m m' : MemberState) (up up' : Conn I O) (below below' : Option (Conn I O)) (s : Shuts) (b : Option Booked) → FollowsAs o t m m' up up' below below' s b → up'.id ≡ up.id
  follows_up t m m' up up' below below' s None h = ap (λ (e : Conn I O). e.id) h.1
  follows_up t m m' up up' below below' s (Some b) h = end_same _ up up' h.2

  follows_down : (t : Turn) (m m' : MemberState) (up up' : Conn I O) (below below' : Option (Conn I O)) (s : Shuts) (b : Option Booked) → FollowsAs o t m m' up up' below below' s b → SameMirror below below'
  follows_down t m m' up up' below below' s None h = mirror_same below below' h.2
  follows_down t m m' up up' below below' s (Some b) h = ends_same _ below below' h.3

  passes_same : (p : Packet) (x : Taken) (below passed : Option (Conn I O)) → PassesEnd o p x below passed → SameMirror below passed
  passes_same p x None None h = tt
  passes_same p x None (Some new) h = absurd h
  passes_same p x (Some old) None h = absurd h
  passes_same p x (Some old) (Some new) h = h.0

module _ {F I O : Type 0} (f : files.Ghosts F) (o : link_out.Ghosts O) where
  performs_same : (call : Option ReplicaEvent) (text : Option (List ℕ)) (book book' : BookState F) (up sent : O) (below passed : Option (Conn I O)) (d : Done) → Performs f o call text book book' up sent below passed d → SameMirror below passed
  performs_same None text book book' up sent below passed d p = mirror_same below passed p.below_same
  performs_same (Some (replica_event.Packet conn x)) text book book' up sent below passed d p = passes_same o x p.taken below passed p.passes
  performs_same (Some (replica_event.Other x)) text book book' up sent below passed d p = mirror_same below passed p.below_same

  pub turn_same : (m : MemberState) (t : Turn) (at : Took) (old new : Member I O) (book book' : BookState F) (ended : Stepped) → Turns f o m t at old new book book' ended → SameIds old new
  turn_same m t at old new book book' ended turns =
      let a = turns.acts in record {
        upper = end_same o _ turns.upstream new.upstream turns.follows.upper ∙ follows_up o t m turns.settled (with_half old.upstream a.sent) turns.upstream a.passed turns.mirror turns.shuts (booked_of turns.done) a.followed;
        lower = mirror_on old.mirror turns.mirror new.mirror
            (mirror_on old.mirror a.passed turns.mirror (performs_same t.call (texts_of old.op t.effect.sends) book book' old.upstream.outward a.sent old.mirror a.passed turns.done a.performed) (follows_down o t m turns.settled (with_half old.upstream a.sent) turns.upstream a.passed turns.mirror turns.shuts (booked_of turns.done) a.followed))
            (ends_same o _ turns.mirror new.mirror turns.follows.lower);
      }

  stays_same : (old new : Member I O) (book book' : BookState F) (result is : Stepped) → Stays old new book book' result is → SameIds old new
  stays_same old new book book' result is h = same_itself old new h.member_same

  turn_if : (m : MemberState) (t : Option Turn) (at : Took) (old new : Member I O) (book book' : BookState F) (ended : Stepped) → TurnsIf f o m t at old new book book' ended → SameIds old new
  turn_if m None at old new book book' ended h = stays_same old new book book' ended _ h
  turn_if m (Some t) at old new book book' ended h = turn_same m t at old new book book' ended h

  -- EVENTS

  pub ready_same : (st : Stage) (old new : Member I O) (book book' : BookState F) (ended : Stepped) → IsReady f o st old new book book' ended → SameIds old new
  ready_same (stage.Open m) old new book book' ended h = turn_if m (ready_turn_by m book.replica) took.Nothing old new book book' ended h
  ready_same stage.New old new book book' ended h = stays_same old new book book' ended _ h
  ready_same stage.Shut old new book book' ended h = stays_same old new book book' ended _ h
  ready_same (stage.Booked receipt asked unasked) old new book book' ended h = stays_same old new book book' ended _ h

module _ {F I O : Type 0} (f : files.Ghosts F) (i : link_in.Ghosts I) (o : link_out.Ghosts O) where
  looked_up : (old seen : Member I O) (found : Looked) → LooksUp i o old seen found → SameIds old seen
  looked_up old seen found h = record { upper = end_same o (is_failed found) _ seen.upstream h.shuts; lower = mirror_same old.mirror seen.mirror h.mirror }

  found_same : (m : MemberState) (found : Looked) (seen new : Member I O) (book book' : BookState F) (ended : Stepped) → TakesDown f o m (finds_no_memory found) found seen new book book' ended → SameIds seen new
  found_same m looked.Known seen new book book' ended h = turn_if f o m _ took.Above seen new book book' h.answer h.takes
  found_same m looked.Failed seen new book book' ended h = turn_if f o m _ took.Above seen new book book' h.answer h.takes
  found_same m looked.Memory seen new book book' ended h = stays_same f o seen new book book' ended _ h

  pub down_same : (st : Stage) (old new : Member I O) (book book' : BookState F) (ended : Stepped) → GoesDown f i o st old new book book' ended → SameIds old new
  down_same (stage.Open m) old new book book' ended h = same_on old h.seen new (looked_up old h.seen h.found h.looks) (found_same m h.found h.seen new book book' ended h.takes)
  down_same stage.New old new book book' ended h = stays_same f o old new book book' ended _ h
  down_same stage.Shut old new book book' ended h = stays_same f o old new book book' ended _ h
  down_same (stage.Booked receipt asked unasked) old new book book' ended h = stays_same f o old new book book' ended _ h

  looks_at : (awaits : Bool) (old b : BelowState) (mirror mirror' : Option (Conn I O)) (found : Looked) → LooksAt i awaits old b mirror mirror' found → SameMirror mirror mirror'
  looks_at awaits old b None None found h = tt
  looks_at awaits old b None (Some n) found h = absurd h
  looks_at awaits old b (Some e) None found h = absurd h
  looks_at awaits old b (Some e) (Some n) found h = h.id

  looks_below : (awaits : Bool) (next : Option FromBelow) (old b : BelowState) (mirror mirror' : Option (Conn I O)) (found : Looked) → LooksBelow i awaits next old b mirror mirror' found → SameMirror mirror mirror'
  looks_below awaits None old b mirror mirror' found h = looks_at awaits old b mirror mirror' found h
  looks_below awaits (Some x) old b mirror mirror' found h = mirror_same mirror mirror' h.1

  looked_below : (m : MemberState) (old seen : Member I O) (found : Looked) → LooksDown i o m old seen found → SameIds old seen
  looked_below m old seen found h = record {
    upper = ap (λ (e : Conn I O). e.id) h.upstream;
    lower = mirror_on old.mirror h.mirror seen.mirror (looks_below (is_asked m.mirror) old.below.next old.below seen.below old.mirror h.mirror found h.looks) (ends_same o (is_failed found) h.mirror seen.mirror h.shuts);
  }

  pub look_same : (st : Stage) (old seen : Member I O) (found : Looked) → LooksDownAt i o st old seen found → SameIds old seen
  look_same (stage.Open m) old seen found h = looked_below m old seen found h
  look_same stage.New old seen found h = same_itself old seen h.0
  look_same stage.Shut old seen found h = same_itself old seen h.0
  look_same (stage.Booked receipt asked unasked) old seen found h = same_itself old seen h.0

  taken_same : (m : MemberState) (out : Bool) (seen new : Member I O) (book book' : BookState F) (ended : Stepped) → TakesUp f o m out seen new book book' ended → SameIds seen new
  taken_same m true seen new book book' ended h = stays_same f o seen new book book' ended _ h
  taken_same m false seen new book book' ended h = turn_if f o m _ took.Below seen new book book' ended h

  up_if : (m : MemberState) (heard : Bool) (old new : Member I O) (book book' : BookState F) (ended : Stepped) → GoesUpIf f i o m heard old new book book' ended → SameIds old new
  up_if m true old new book book' ended h = same_on old h.seen new (looked_below m old h.seen h.found h.looks) (taken_same m (finds_no_memory h.found) h.seen new book book' ended h.takes)
  up_if m false old new book book' ended h = stays_same f o old new book book' ended _ h

  pub up_same : (st : Stage) (old new : Member I O) (book book' : BookState F) (ended : Stepped) → GoesUp f i o st old new book book' ended → SameIds old new
  up_same (stage.Open m) old new book book' ended h = up_if m (hears m) old new book book' ended h
  up_same stage.New old new book book' ended h = stays_same f o old new book book' ended _ h
  up_same stage.Shut old new book book' ended h = stays_same f o old new book book' ended _ h
  up_same (stage.Booked receipt asked unasked) old new book book' ended h = stays_same f o old new book book' ended _ h

-- EXCHANGES

pub known_on : (old new : Option Plain) (c : ℕ) → KeepsConnections old new → IsKnown old c → IsKnown new c
known_on None None c h k = tt
known_on None (Some q) c h k = cc (h.stays_hidden refl)
known_on (Some p) None c h k = tt
known_on (Some p) (Some q) c h k = subst (λ (n : ℕ). c < n) (sym h.dialled) k

module _ {R I O : Type 0} (r : roads.Ghosts R I O) (i : link_in.Ghosts I) (o : link_out.Ghosts O) where
  lower_same : (take : Option ConnId) (old new : Option (Conn I O)) (middle road' : R) (first : Result (Unit {0}) RoadError) → ExchangesMirror r i o take old new middle road' first (Ok tt) → SameMirror old new
  lower_same take old new middle road' (Err why) x = mirror_same old new x.0
  lower_same take None None middle road' (Ok u) x = tt
  lower_same take None (Some new) middle road' (Ok u) x = absurd x
  lower_same take (Some old) None middle road' (Ok u) x = absurd x
  lower_same take (Some old) (Some new) middle road' (Ok u) x = x.kept.id

  pub exchanged_same : (take : Option ConnId) (old new : Member I O) (road road' : R) → ExchangesBoth r i o take old new road road' (Ok tt) → SameIds old new
  exchanged_same take old new road road' x = record { upper = x.upper.kept.id; lower = lower_same take old.mirror new.mirror x.middle road' x.first x.lower }

  -- roads that know a connection know it after an exchange of both ends
  lower_known : (take : Option ConnId) (old new : Option (Conn I O)) (middle road' : R) (first : Result (Unit {0}) RoadError) (c : ℕ) → ExchangesMirror r i o take old new middle road' first (Ok tt) → IsKnown (r.plain middle) c → IsKnown (r.plain road') c
  lower_known take old new middle road' (Err why) c x k = subst (λ (y : R). IsKnown (r.plain y) c) (sym x.1) k
  lower_known take None None middle road' (Ok u) c x k = subst (λ (y : R). IsKnown (r.plain y) c) (sym x.0) k
  lower_known take None (Some new) middle road' (Ok u) c x k = absurd x
  lower_known take (Some old) None middle road' (Ok u) c x k = absurd x
  lower_known take (Some old) (Some new) middle road' (Ok u) c x k = known_on (r.plain middle) (r.plain road') c x.connections k

  one_known : (take : Option ConnId) (old new : Member I O) (road road' : R) (c : ℕ) → ExchangesBoth r i o take old new road road' (Ok tt) → IsKnown (r.plain road) c → IsKnown (r.plain road') c
  one_known take old new road road' c x k = lower_known take old.mirror new.mirror x.middle road' x.first c x.lower (known_on (r.plain road) (r.plain x.middle) c x.upper.connections k)

  mirror_on_roads : (road road' : R) (e : Option (Conn I O)) → ((c : ℕ) → IsKnown (r.plain road) c → IsKnown (r.plain road') c) → IfSome e (λ x. IsKnown (r.plain road) x.id.0) → IfSome e (λ x. IsKnown (r.plain road') x.id.0)
  mirror_on_roads road road' None on h = tt
  mirror_on_roads road road' (Some e) on h = on e.id.0 h

  pub exchanged_known : (take : Option ConnId) (old new : Member I O) (road road' : R) → ExchangesBoth r i o take old new road road' (Ok tt) → AreKnown (r.plain road) old → AreKnown (r.plain road') new
  exchanged_known take old new road road' x k =
      known_same (r.plain road') old new (exchanged_same take old new road road' x)
      (one_known take old new road road' old.upstream.id.0 x k.0, mirror_on_roads road road' old.mirror (λ c h. one_known take old new road road' c x h) k.1)
