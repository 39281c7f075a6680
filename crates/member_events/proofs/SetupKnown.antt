-- Roads know the ends of a member after its setup, and their count never falls.
use Rattle.std.proofs.Common.{◌≡◌, ◌<◌, ◌≤◌, ◌+◌, inl, inr, ℕ, Bool, true, false, List, Option, Some, None, option_map, IfSome, Result, Ok, Err, refl, sym, ap, ◌∙◌, subst, arith}
use Rattle.hd_base.specs.Channels.{Plain, with_dial}
use Rattle.hd_base.specs.Ends.{IsKnown}
use Rattle.hd_base.specs.declared.ends.Conn.{Conn}
use Rattle.hd_base.specs.declared.ends.RoadError.{RoadError}
use Rattle.hd_base.specs.declared.files.Files as files
use Rattle.hd_base.specs.declared.links.LinkIn as link_in
use Rattle.hd_base.specs.declared.links.LinkOut as link_out
use Rattle.hd_base.specs.declared.numbers.ConnId.{ConnId}
use Rattle.hd_base.specs.declared.numbers.NodeId.{NodeId}
use Rattle.hd_base.specs.declared.numbers.Receipt.{Receipt}
use Rattle.hd_base.specs.declared.roads.Roads as roads
use Rattle.link_pieces.specs.Roads.{KeepsRoads, IsDialled, BringsEnd}
use Rattle.op_headers.specs.Values.{WriteFields}
use Rattle.replica_core.specs.declared.events.Event.{Event}
use Rattle.pipe_member.specs.ReplicaFiles.BookState.{BookState}
use Rattle.pipe_member.specs.RequestRefusals.RequestRefusal.{RequestRefusal}
use Rattle.pipe_member.specs.MemberCore.Shuts.{Shuts}
use Rattle.pipe_member.specs.PipeSetup.SetupRefusal.{SetupRefusal}
use Rattle.pipe_member.specs.PipeSetup.SetupRefusal.TheVariants as refusal
use Rattle.pipe_member.specs.PipeSetup.Setup.{Setup}
use Rattle.pipe_member.specs.PipeSetup.Setup.TheVariants as setup
use Rattle.pipe_member.specs.PipeSetup.Reaching.{FindsNoMemory, before, after, unsent}
use Rattle.pipe_member.specs.PipeSetup.Setups.{IsDown, GoesOn}
use Rattle.pipe_member.specs.PipeTurns.Done.{Done}
use Rattle.pipe_member.specs.declared.member.Member.{Member}
use Rattle.pipe_member.specs.declared.stages.Stage.{Stage}
use Rattle.pipe_member.specs.declared.stages.Stage.TheVariants as stage
use Rattle.pipe_member.specs.declared.stages.Took.{Took}
use Rattle.pipe_member.specs.declared.stepped.Stepped.{Stepped}
use Rattle.pipe_member.specs.Exchanges.{AreKnown}
use Rattle.pipe_member.specs.Setups.{Opened, Opens, RefusesAs, RefusalEnds, FollowsSetup, Begins, with_outward}
use Rattle.pipe_member.specs.Turns.{Follows}
use Rattle.member_events.specs.Roads.{RoadsPass}
use Rattle.member_events.proofs.CauseLaws.{same_less, less_through}
use Rattle.member_events.proofs.KnownLaws.{SameMirror, SameIds, mirror_itself, same_itself, known_same, end_same, ends_same, known_on}

-- ROADS

one_more : (c n : ℕ) → c < n → c < n + 1
one_more c n h = omega arith

itself_less : (n : ℕ) → n < n + 1
itself_less n = omega arith

dialled_known : (p : Option Plain) (port c : ℕ) → IsKnown p c → IsKnown (option_map (λ q. with_dial q port) p) c
dialled_known None port c h = tt
dialled_known (Some p) port c h = one_more c p.dialled h

new_known : (p : Option Plain) (port c : ℕ) → IfSome p (λ q. c ≡ q.dialled) → IsKnown (option_map (λ q. with_dial q port) p) c
new_known None port c h = tt
new_known (Some p) port c h = subst (λ (n : ℕ). n < p.dialled + 1) (sym h) (itself_less p.dialled)

module _ {R I O : Type 0} (r : roads.Ghosts R I O) (i : link_in.Ghosts I) (o : link_out.Ghosts O) where
  pub pass_same : (road road' : R) → road' ≡ road → RoadsPass r road road'
  pass_same road road' is = record {
    knows = λ c h. subst (λ (y : R). IsKnown (r.plain y) c) (sym is) h;
    never_falls = subst (λ (y : R). r.faults road ≤ r.faults y) (sym is) (same_less (r.faults road));
  }

  pub pass_kept : (road road' : R) → KeepsRoads r road road' → RoadsPass r road road'
  pass_kept road road' k = record { knows = λ c h. subst (λ (p : Option Plain). IsKnown p c) (sym k.plain) h; never_falls = k.never_falls }

  pass_dialled : (port : ℕ) (road road' : R) (e : Conn I O) → IsDialled r i o port road road' e → RoadsPass r road road'
  pass_dialled port road road' e k = record {
    knows = λ c h. subst (λ (p : Option Plain). IsKnown p c) (sym k.plain) (dialled_known (r.plain road) port c h);
    never_falls = k.never_falls;
  }

  knows_new : (port : ℕ) (road road' : R) (e : Conn I O) → IsDialled r i o port road road' e → IsKnown (r.plain road') e.id.0
  knows_new port road road' e k = subst (λ (p : Option Plain). IsKnown p e.id.0) (sym k.plain) (new_known (r.plain road) port e.id.0 k.number)

  pub pass_brought : (e : Conn I O) (road road' : R) (result : Result (Unit {0}) RoadError) → BringsEnd r i o e road road' result → RoadsPass r road road'
  pass_brought e road road' result b = record { knows = λ c h. known_on (r.plain road) (r.plain road') c b.connections h; never_falls = b.cause.never_falls }

  pub pass_on : (a b c : R) → RoadsPass r a b → RoadsPass r b c → RoadsPass r a c
  pass_on a b c h k = record { knows = λ n z. k.knows n (h.knows n z); never_falls = less_through (r.faults a) (r.faults b) (r.faults c) h.never_falls k.never_falls }

  pass_memory : (port : ℕ) (road road' : R) → FindsNoMemory r i o port road road' → RoadsPass r road road'
  pass_memory port road road' (before k) = pass_kept road road' k
  pass_memory port road road' (after middle fresh end d k s g) = pass_on road middle road' (pass_dialled port road middle fresh d) (pass_brought g.shut middle road' g.result g.brings)
  pass_memory port road road' (unsent middle end why u l) =
      pass_on road middle road' (pass_dialled port road middle u.fresh u.dialled) (pass_brought l.given_up.shut middle road' l.given_up.result l.given_up.brings)

  pass_down : (node : NodeId) (w : WriteFields) (answered : Bool) (road road' : R) → IsDown r i o node w answered road road' → RoadsPass r road road'
  pass_down node w true road road' x =
      pass_on road x.middle road' (pass_dialled _ road x.middle x.unsent.fresh x.unsent.dialled) (pass_brought x.lost.given_up.shut x.middle road' x.lost.given_up.result x.lost.given_up.brings)
  pass_down node w false road road' (inl x) = pass_same road road' x.same
  pass_down node w false road road' (inr x) = pass_kept road road' x.kept

  -- what goes on to the mirror
  passes : (node : NodeId) (w : WriteFields) (road road' : R) (ended : Setup I O) → GoesOn r i o node w road road' ended → RoadsPass r road road'
  passes node w road road' (setup.Last receipt) x = pass_same road road' x.1
  passes node w road road' (setup.Mirrored receipt end) x = pass_dialled _ road road' x.1.asked.fresh x.1.asked.dialled
  passes node w road road' (setup.MirrorDown receipt answered) x = pass_down node w answered road road' x.1
  passes node w road road' (setup.Refused why) x = pass_same road road' x
  passes node w road road' (setup.File receipt) x = pass_same road road' x
  passes node w road road' (setup.Memory None) x = pass_same road road' x
  passes node w road road' (setup.Memory (Some receipt)) x = pass_memory _ road road' x.1

-- ENDS

-- a member's end to its mirror once its setup ended so
abbrev pub mirror_of : {I O : Type 0} → Setup I O → Option (Conn I O) → Option (Conn I O)
mirror_of (setup.Mirrored receipt end) mirror = Some end
mirror_of other mirror = mirror

abbrev with_end : {I O : Type 0} → Member I O → Option (Conn I O) → Member I O
with_end m mirror = record m { mirror = mirror }

module _ {I O : Type 0} (o : link_out.Ghosts O) where
  follows_ids : (st : Stage) (t : Took) (d : Done) (s : Shuts) (upper : Conn I O) (mirror : Option (Conn I O)) (old new : Member I O) (result : Stepped) → Follows o st t d s upper mirror old new result → (new.upstream.id ≡ upper.id) × SameMirror mirror new.mirror
  follows_ids st t d s upper mirror old new result x = (end_same o _ upper new.upstream x.upper, ends_same o _ mirror new.mirror x.lower)

  opens_ids : (text : Option (List ℕ)) (receipt : Receipt) (st : Stage) (s : Shuts) (old new : Member I O) (result : Stepped) → Opens o text receipt st s old new result → SameIds old new
  opens_ids text receipt st s old new result x =
      let k = follows_ids st _ x.done s x.upper old.mirror old new result x.follows in
      record { upper = k.0 ∙ end_same o _ _ x.upper x.shut; lower = k.1 }

  refuses_ids : (text : Option (List ℕ)) (why : SetupRefusal) (old new : Member I O) (result : Stepped) → RefusesAs o text why old new result → SameIds old new
  refuses_ids text (refusal.Core why receipt) old new result x = opens_ids text receipt _ _ old new result x
  refuses_ids text (refusal.Stage n) old new result x = absurd x
  refuses_ids text refusal.Pool old new result x = absurd x
  refuses_ids text (refusal.Checksum k c) old new result x = absurd x
  refuses_ids text (refusal.TooMany n) old new result x = absurd x

  same_ends : (old mid new : Member I O) → mid.upstream.id ≡ old.upstream.id → mid.mirror ≡ old.mirror → new ≡ mid → SameIds old new
  same_ends old mid new upper mirror is = subst (λ (m : Member I O). SameIds old m) (sym is) (record { upper = upper; lower = subst (λ (e : Option (Conn I O)). SameMirror old.mirror e) (sym mirror) (mirror_itself old.mirror) })

  pub setup_ids : (x : Opened) (ended : Setup I O) (old new : Member I O) (result : Stepped) → FollowsSetup o x ended old new result → SameIds (with_end old (mirror_of ended old.mirror)) new
  setup_ids x (setup.Last receipt) old new result f = let k = opens_ids x.answer receipt _ x.shuts old new result f in record { upper = k.upper; lower = k.lower }
  setup_ids x (setup.Mirrored receipt end) old new result f = let k = follows_ids _ _ _ _ old.upstream (Some end) _ new result f in record { upper = k.0; lower = k.1 }
  setup_ids x (setup.MirrorDown receipt answered) old new result f = let k = follows_ids _ _ _ _ old.upstream old.mirror old new result f in record { upper = k.0; lower = k.1 }
  setup_ids x (setup.Refused why) old new result f = let k = refuses_ids x.answer why old new result f in record { upper = k.upper; lower = k.lower }
  setup_ids x (setup.File receipt) old new result f = let k = opens_ids x.fault receipt _ _ old new f.answer f.says in record { upper = k.upper; lower = k.lower }
  setup_ids x (setup.Memory None) old new result f = let k = same_ends old old new refl refl f.0 in record { upper = k.upper; lower = k.lower }
  setup_ids x (setup.Memory (Some receipt)) old new result f = let k = same_ends old (record old { stage = stage.Booked receipt x.asked x.unasked }) new refl refl f.0 in record { upper = k.upper; lower = k.lower }

  pub refused_ids : (memory : Bool) (d : Done) (old new : Member I O) (result : Stepped) → RefusalEnds o memory d old new result → SameIds old new
  refused_ids true d old new result x = same_itself old new x.0
  refused_ids false d old new result x =
      let k = follows_ids _ _ d _ x.upper old.mirror old new result x.follows in
      record { upper = k.0 ∙ end_same o true old.upstream x.upper x.shut; lower = k.1 }

-- A SETUP

module _ {F R I O : Type 0} (f : files.Ghosts F) (r : roads.Ghosts R I O) (i : link_in.Ghosts I) (o : link_out.Ghosts O) where
  mirror_known : (node : NodeId) (w : WriteFields) (road road' : R) (mirror : Option (Conn I O)) (ended : Setup I O) → mirror ≡ None → GoesOn r i o node w road road' ended → IfSome (mirror_of ended mirror) (λ e. IsKnown (r.plain road') e.id.0)
  mirror_known node w road road' mirror (setup.Mirrored receipt end) none x =
      subst (λ (c : ℕ). IsKnown (r.plain road') c) (sym (ap (λ (y : ConnId). y.0) x.1.asked.kept.id)) (knows_new r i o _ road road' x.1.asked.fresh x.1.asked.dialled)
  mirror_known node w road road' mirror (setup.Last receipt) none x = rw none tt
  mirror_known node w road road' mirror (setup.MirrorDown receipt answered) none x = rw none tt
  mirror_known node w road road' mirror (setup.Refused why) none x = rw none tt
  mirror_known node w road road' mirror (setup.File receipt) none x = rw none tt
  mirror_known node w road road' mirror (setup.Memory booked) none x = rw none tt

  -- Roads pass a setup, and know both ends of the member then.
  pub record SetupPasses (road road' : R) (old new : Member I O) : Type 0 where
    pub roads_pass : RoadsPass r road road'
    pub upper : new.upstream.id ≡ old.upstream.id
    pub known : IsKnown (r.plain road) old.upstream.id.0 → AreKnown (r.plain road') new

  pub setup_passes : (event : Result Event RequestRefusal) (old new : Member I O) (book book' : BookState F) (road road' : R) (result : Stepped) → old.mirror ≡ None → Begins f r i o event old new book book' road road' result → SetupPasses road road' old new
  setup_passes (Ok e) old new book book' road road' result none x =
      let pass = passes r i o old.node old.op road road' x.ended x.sets_up.goes_on in
      let ids = setup_ids o _ x.ended (with_outward old x.half) new result x.follows in record {
        roads_pass = pass;
        upper = ids.upper;
        known = λ h. known_same (r.plain road') (with_end (with_outward old x.half) (mirror_of x.ended old.mirror)) new ids
            (pass.knows old.upstream.id.0 h, mirror_known old.node old.op road road' old.mirror x.ended none x.sets_up.goes_on);
      }
  setup_passes (Err why) old new book book' road road' result none x =
      let pass = pass_same r i o road road' x.0 in
      let ids = refused_ids o _ x.1.1.done (with_outward old x.1.1.half) new result x.1.1.ends in record {
        roads_pass = pass;
        upper = ids.upper;
        known = λ h. known_same (r.plain road') (with_outward old x.1.1.half) new ids (pass.knows old.upstream.id.0 h, rw none tt);
      }
