-- A link of a member that failed, and a call on its files, has raised a count; and an end that was brought back then is one of those that had failed.
use Rattle.std.proofs.Common.{◌≡◌, ◌≢◌, ◌<◌, ◌≤◌, ◌+◌, ◌-◌, ◌^◌, ◌&&◌, ◌||◌, ℕ, Bool, true, false, List, Option, Some, None, Result, Ok, Err, min, refl, sym, ap, ◌∙◌, subst, arith}
use Rattle.std.specs.Prelude.{◌==◌, nat_lt}
use Rattle.std.proofs.lemmas.Bool.Decides.{nat_tests}
use Rattle.hd_base.specs.Faults.{FaultsIncreased}
use Rattle.hd_base.specs.Ends.{has_failed}
use Rattle.hd_base.specs.declared.ends.Conn.{Conn}
use Rattle.hd_base.specs.declared.ends.RoadError.{RoadError}
use Rattle.hd_base.specs.declared.files.Files as files
use Rattle.hd_base.specs.declared.links.LinkIn as link_in
use Rattle.hd_base.specs.declared.links.LinkOut as link_out
use Rattle.hd_base.specs.declared.numbers.Receipt.{Receipt}
use Rattle.hd_base.specs.declared.roads.Roads as roads
use Rattle.link_pieces.specs.Roads.{BringsEnd}
use Rattle.road_traffic.proofs.TrafficLemmas.{same-itself}
use Rattle.pipe_member.specs.ReplicaModel.ReplicaEvent.{ReplicaEvent}
use Rattle.pipe_member.specs.ReplicaModel.ReplicaEvent.TheVariants as replica_event
use Rattle.pipe_member.specs.ReplicaFiles.BookState.{BookState}
use Rattle.pipe_member.specs.ReplicaFiles.BookFault.{BookFault}
use Rattle.pipe_member.specs.ReplicaFiles.BookFault.TheVariants as fault
use Rattle.pipe_member.specs.ReplicaFiles.Endings.{BookEnds}
use Rattle.pipe_member.specs.BlockReceiver.Taken.{Taken}
use Rattle.pipe_member.specs.BlockReceiver.Taken.TheVariants as taken
use Rattle.pipe_member.specs.BlockReceiver.Packets as receiving
use Rattle.pipe_member.specs.PacketResponder.Sending.{Sending}
use Rattle.pipe_member.specs.PacketResponder.Sending.TheVariants as sending
use Rattle.pipe_member.specs.PacketResponder.Sendings as responding
use Rattle.pipe_member.specs.MemberCore.Shuts.{Shuts}
use Rattle.pipe_member.specs.MemberCore.Shuts.TheVariants as shuts
use Rattle.pipe_member.specs.MemberCore.Booked.{Booked}
use Rattle.pipe_member.specs.MemberCore.Turn.{Turn}
use Rattle.pipe_member.specs.MemberCore.Members.{MemberState}
use Rattle.pipe_member.specs.PipeTurns.Turning.{Performs, SendsText, SendsAlone, packet_done, sending_done}
use Rattle.pipe_member.specs.PipeTurns.Acting.{ShutsEnd, FollowsAs, booked_of, texts_of, with_half}
use Rattle.pipe_member.specs.PipeTurns.Done.{Done}
use Rattle.pipe_member.specs.PipeTurns.Done.TheVariants as done
use Rattle.pipe_member.specs.declared.member.Member.{Member}
use Rattle.pipe_member.specs.declared.stages.Took.{Took}
use Rattle.pipe_member.specs.declared.stepped.Stepped.TheVariants as stepped
use Rattle.pipe_member.specs.Exchanges.{BringsMirror, BringsBoth}
use Rattle.pipe_member.specs.Steps.{stepped_of}
use Rattle.pipe_member.specs.Turns.{Turns}

-- COUNTS

pub has_count : (before now : ℕ) → FaultsIncreased before now → nat_lt 0 now ≡ true
has_count before now h = let some : 0 < now = least before now h in grind (arith, nat_tests)
  where
    least : (b n : ℕ) → min (b + 1) (2 ^ 64 - 1) ≤ n → 0 < n
    least b n k = omega arith

pub still_risen : (before now after : ℕ) → FaultsIncreased before now → now ≤ after → FaultsIncreased before after
still_risen before now after h k = later (min (before + 1) (2 ^ 64 - 1)) now after h k
  where
    later : (x y z : ℕ) → x ≤ y → y ≤ z → x ≤ z
    later x y z a b = omega arith

pub same_less : (n : ℕ) → n ≤ n
same_less n = omega arith

pub less_through : (x y z : ℕ) → x ≤ y → y ≤ z → x ≤ z
less_through x y z a b = omega arith

-- an end of which a half's count has risen
pub in_failed : {I O : Type 0} (i : link_in.Ghosts I) (o : link_out.Ghosts O) (before : ℕ) (e : Conn I O) → FaultsIncreased before (i.faults e.inward) → has_failed i o e ≡ true
in_failed i o before e h = ap (λ (b : Bool). b || nat_lt 0 (o.faults e.outward)) (has_count before (i.faults e.inward) h)

pub or_true : (b : Bool) → (b || true) ≡ true
or_true true = refl
or_true false = refl

pub out_failed : {I O : Type 0} (i : link_in.Ghosts I) (o : link_out.Ghosts O) (before : ℕ) (e : Conn I O) → FaultsIncreased before (o.faults e.outward) → has_failed i o e ≡ true
out_failed i o before e h = ap (λ (b : Bool). nat_lt 0 (i.faults e.inward) || b) (has_count before (o.faults e.outward) h) ∙ or_true (nat_lt 0 (i.faults e.inward))

-- BROUGHT BACK

or_on : (a b : Bool) → b ≡ true → (a || b) ≡ true
or_on a b h = rw h (or_true a)

pub or_first : (a b : Bool) → a ≡ true → (a || b) ≡ true
or_first a b h = rw h refl

module _ {R I O : Type 0} (r : roads.Ghosts R I O) (i : link_in.Ghosts I) (o : link_out.Ghosts O) where
  pub one_risen : (e : Conn I O) (road road' : R) → BringsEnd r i o e road road' (Ok tt) → has_failed i o e ≡ true → r.risen road' e.id.0 ≡ true
  one_risen e road road' b h = b.risen e.id.0 ∙ or_on (r.risen road e.id.0) ((e.id.0 == e.id.0) && has_failed i o e) (rw (same-itself e.id.0, h) refl)

  pub mirror_keeps : (c : ℕ) (mirror : Option (Conn I O)) (road road' : R) → r.risen road c ≡ true → BringsMirror r i o mirror road road' (Ok tt) (Ok tt) → r.risen road' c ≡ true
  mirror_keeps c None road road' h b = subst (λ (x : R). r.risen x c ≡ true) (sym b.0) h
  mirror_keeps c (Some e) road road' h b = b.risen c ∙ or_first (r.risen road c) ((e.id.0 == c) && has_failed i o e) h

  upper_by : (upper : Conn I O) (mirror : Option (Conn I O)) (road middle road' : R) (first : Result (Unit {0}) RoadError) → BringsEnd r i o upper road middle first → BringsMirror r i o mirror middle road' first (Ok tt) → has_failed i o upper ≡ true → r.risen road' upper.id.0 ≡ true
  upper_by upper mirror road middle road' (Err why) a b h = cc (b.1)
  upper_by upper mirror road middle road' (Ok u) a b h = mirror_keeps upper.id.0 mirror middle road' (one_risen upper road middle a h) b

  lower_by : (upper e : Conn I O) (mirror : Option (Conn I O)) (road middle road' : R) (first : Result (Unit {0}) RoadError) → mirror ≡ Some e → BringsMirror r i o mirror middle road' first (Ok tt) → has_failed i o e ≡ true → r.risen road' e.id.0 ≡ true
  lower_by upper e mirror road middle road' (Err why) is b h = cc (b.1)
  lower_by upper e mirror road middle road' (Ok u) is b h = one_risen e middle road' (subst (λ (x : Option (Conn I O)). BringsMirror r i o x middle road' (Ok tt) (Ok tt)) is b) h

  -- The connection from above, or that to the mirror, of a member that was brought back counts as one that failed.
  pub upper_risen : (m : Member I O) (road road' : R) → BringsBoth r i o m road road' (Ok tt) → has_failed i o m.upstream ≡ true → r.risen road' m.upstream.id.0 ≡ true
  upper_risen m road road' b h = upper_by m.upstream m.mirror road b.middle road' b.first b.upper b.lower h

  pub mirror_risen : (m : Member I O) (e : Conn I O) (road road' : R) → m.mirror ≡ Some e → BringsBoth r i o m road road' (Ok tt) → has_failed i o e ≡ true → r.risen road' e.id.0 ≡ true
  mirror_risen m e road road' is b h = lower_by m.upstream e m.mirror road b.middle road' b.first is b.lower h

-- HOW A TURN FAILED

pub link_done : (d : Done) (s : Shuts) (receipt : Option Receipt) → stepped_of d s ≡ stepped.LinkFailed receipt → d ≡ done.LinkFailed receipt
link_done (done.LinkFailed x) s receipt h = let e : x ≡ receipt = cc in ap done.LinkFailed e
link_done (done.File x) s receipt h = cc
link_done done.Memory s receipt h = cc
link_done (done.Taken x) shuts.Nothing receipt h = cc
link_done (done.Taken x) shuts.Mirror receipt h = cc
link_done (done.Taken x) shuts.Both receipt h = cc
link_done (done.Refused why x) shuts.Nothing receipt h = cc
link_done (done.Refused why x) shuts.Mirror receipt h = cc
link_done (done.Refused why x) shuts.Both receipt h = cc
link_done (done.MirrorFailed x) shuts.Nothing receipt h = cc
link_done (done.MirrorFailed x) shuts.Mirror receipt h = cc
link_done (done.MirrorFailed x) shuts.Both receipt h = cc

pub file_done : (d : Done) (s : Shuts) (receipt : Receipt) → stepped_of d s ≡ stepped.File receipt → d ≡ done.File receipt
file_done (done.File x) s receipt h = let e : x ≡ receipt = cc in ap done.File e
file_done (done.LinkFailed x) s receipt h = cc
file_done done.Memory s receipt h = cc
file_done (done.Taken x) shuts.Nothing receipt h = cc
file_done (done.Taken x) shuts.Mirror receipt h = cc
file_done (done.Taken x) shuts.Both receipt h = cc
file_done (done.Refused why x) shuts.Nothing receipt h = cc
file_done (done.Refused why x) shuts.Mirror receipt h = cc
file_done (done.Refused why x) shuts.Both receipt h = cc
file_done (done.MirrorFailed x) shuts.Nothing receipt h = cc
file_done (done.MirrorFailed x) shuts.Mirror receipt h = cc
file_done (done.MirrorFailed x) shuts.Both receipt h = cc

-- which call on a book and which sending ended so
not_packet : (x : Taken) (receipt : Option Receipt) → packet_done x ≢ done.LinkFailed receipt
not_packet (taken.Booked r) receipt h = cc
not_packet (taken.MirrorFailed r) receipt h = cc
not_packet (taken.Refused why r) receipt h = cc
not_packet (taken.File r) receipt h = cc
not_packet taken.Memory receipt h = cc

module _ {O : Type 0} (o : link_out.Ghosts O) where
  alone_rose : (text : Option (List ℕ)) (receipt : Option Receipt) (up sent : O) → SendsAlone o text (done.LinkFailed receipt) up sent → FaultsIncreased (o.faults up) (o.faults sent)
  alone_rose None None up sent h = absurd h
  alone_rose None (Some x) up sent h = absurd h
  alone_rose (Some text) None up sent h = h.rose
  alone_rose (Some text) (Some x) up sent h = absurd h

  event_rose : (text : Option (List ℕ)) (s : Sending) (receipt : Option Receipt) (up sent : O) → sending_done s ≡ done.LinkFailed receipt → SendsText o text s up sent → FaultsIncreased (o.faults up) (o.faults sent)
  event_rose None (sending.LinkFailed x) receipt up sent is h = absurd h.0
  event_rose (Some text) (sending.LinkFailed x) receipt up sent is h = h.rose
  event_rose text (sending.Done x) receipt up sent is h = cc
  event_rose text (sending.Refused why x) receipt up sent is h = cc
  event_rose text (sending.File x) receipt up sent is h = cc
  event_rose text sending.Memory receipt up sent is h = cc

pub file_book : {F : Type 0} (f : files.Ghosts F) (e : ReplicaEvent) (book book' : BookState F) (answered : Result Receipt BookFault) → BookEnds f book book' e answered → (receipt : Receipt) → answered ≡ Err (fault.File receipt) → FaultsIncreased (f.faults book.drawer) (f.faults book'.drawer)
file_book f e book book' answered b receipt is = (subst (λ (x : Result Receipt BookFault). BookEnds f book book' e x) is b).rose

pub packet_file : (x : Taken) (receipt : Receipt) → packet_done x ≡ done.File receipt → receiving.booked_as x ≡ Err (fault.File receipt)
packet_file (taken.File r) receipt h = let e : r ≡ receipt = cc in ap (λ (y : Receipt). Err (fault.File y)) e
packet_file (taken.Booked r) receipt h = cc
packet_file (taken.MirrorFailed r) receipt h = cc
packet_file (taken.Refused why r) receipt h = cc
packet_file taken.Memory receipt h = cc

pub sending_file : (s : Sending) (receipt : Receipt) → sending_done s ≡ done.File receipt → responding.booked_in s ≡ Err (fault.File receipt)
sending_file (sending.File r) receipt h = let e : r ≡ receipt = cc in ap (λ (y : Receipt). Err (fault.File y)) e
sending_file (sending.Done r) receipt h = cc
sending_file (sending.LinkFailed r) receipt h = cc
sending_file (sending.Refused why r) receipt h = cc
sending_file sending.Memory receipt h = cc

pub alone_file : {O : Type 0} (o : link_out.Ghosts O) (text : Option (List ℕ)) (d : Done) (receipt : Receipt) (up sent : O) → d ≡ done.File receipt → SendsAlone o text d up sent → ⊥
alone_file o None d receipt up sent is h = subst (λ (x : Done). SendsAlone o None x up sent) is h
alone_file o (Some text) d receipt up sent is h = subst (λ (x : Done). SendsAlone o (Some text) x up sent) is h

module _ {F I O : Type 0} (f : files.Ghosts F) (o : link_out.Ghosts O) where
  link_rose : (call : Option ReplicaEvent) (text : Option (List ℕ)) (book book' : BookState F) (up sent : O) (below passed : Option (Conn I O)) (d : Done) (receipt : Option Receipt) → d ≡ done.LinkFailed receipt
      → Performs f o call text book book' up sent below passed d → FaultsIncreased (o.faults up) (o.faults sent)
  link_rose None text book book' up sent below passed d receipt is p = alone_rose o text receipt up sent (subst (λ (x : Done). SendsAlone o text x up sent) is p.sends)
  link_rose (Some (replica_event.Packet conn x)) text book book' up sent below passed d receipt is p = absurd (not_packet p.taken receipt (sym p.is ∙ is))
  link_rose (Some (replica_event.Other x)) text book book' up sent below passed d receipt is p = event_rose o text p.sending receipt up sent (sym p.is ∙ is) p.sends

  shut_later : (closes : Bool) (old new : Conn I O) → ShutsEnd o closes old new → o.faults old.outward ≤ o.faults new.outward
  shut_later true old new h = h.half.never_falls
  shut_later false old new h = subst (λ (e : Conn I O). o.faults old.outward ≤ o.faults e.outward) (sym h) (same_less (o.faults old.outward))

  follows_later : (t : Turn) (m m' : MemberState) (up up' : Conn I O) (below below' : Option (Conn I O)) (s : Shuts) (b : Option Booked) → FollowsAs o t m m' up up' below below' s b → o.faults up.outward ≤ o.faults up'.outward
  follows_later t m m' up up' below below' s None h = subst (λ (e : Conn I O). o.faults up.outward ≤ o.faults e.outward) (sym h.1) (same_less (o.faults up.outward))
  follows_later t m m' up up' below below' s (Some b) h = shut_later _ up up' h.2

  -- Where a turn ends by the failed link from above, its count rose.
  pub turn_link : (i : link_in.Ghosts I) (m : MemberState) (t : Turn) (at : Took) (old new : Member I O) (book book' : BookState F) (receipt : Option Receipt) → Turns f o m t at old new book book' (stepped.LinkFailed receipt) → has_failed i o new.upstream ≡ true
  turn_link i m t at old new book book' receipt turns =
      let a = turns.acts in
      let is = link_done turns.done turns.shuts receipt (sym turns.follows.answer) in
      let rose = link_rose t.call (texts_of old.op t.effect.sends) book book' old.upstream.outward a.sent old.mirror a.passed turns.done receipt is a.performed in
      let one = follows_later t m turns.settled (with_half old.upstream a.sent) turns.upstream a.passed turns.mirror turns.shuts (booked_of turns.done) a.followed in
      let two = shut_later _ turns.upstream new.upstream turns.follows.upper in
      out_failed i o (o.faults old.upstream.outward) new.upstream (still_risen _ _ _ rose (less_through (o.faults a.sent) (o.faults turns.upstream.outward) (o.faults new.upstream.outward) one two))

  file_rose : (call : Option ReplicaEvent) (text : Option (List ℕ)) (book book' : BookState F) (up sent : O) (below passed : Option (Conn I O)) (d : Done) (receipt : Receipt) → d ≡ done.File receipt
      → Performs f o call text book book' up sent below passed d → FaultsIncreased (f.faults book.drawer) (f.faults book'.drawer)
  file_rose None text book book' up sent below passed d receipt is p = absurd (alone_file o text d receipt up sent is p.sends)
  file_rose (Some (replica_event.Packet conn x)) text book book' up sent below passed d receipt is p = file_book f (replica_event.Packet conn x) book book' _ p.booked receipt (packet_file p.taken receipt (sym p.is ∙ is))
  file_rose (Some (replica_event.Other x)) text book book' up sent below passed d receipt is p = file_book f (replica_event.Other x) book book' _ p.booked receipt (sending_file p.sending receipt (sym p.is ∙ is))

  -- Where a turn ends by a failed call on files, the drawer's count rose.
  pub turn_file : (m : MemberState) (t : Turn) (at : Took) (old new : Member I O) (book book' : BookState F) (receipt : Receipt) → Turns f o m t at old new book book' (stepped.File receipt) → FaultsIncreased (f.faults book.drawer) (f.faults book'.drawer)
  turn_file m t at old new book book' receipt turns =
      file_rose t.call (texts_of old.op t.effect.sends) book book' old.upstream.outward turns.acts.sent old.mirror turns.acts.passed turns.done receipt (file_done turns.done turns.shuts receipt (sym turns.follows.answer)) turns.acts.performed
