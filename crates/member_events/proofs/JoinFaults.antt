-- How the setup of a member fails, and what is known of its mirror then.
use Rattle.std.proofs.Common.{◌≡◌, inr, ◌↔◌, ℕ, Bool, true, false, List, [], Option, Some, None, IfSome, IsNone, Result, Ok, Err, refl, sym, ap, ◌∙◌, subst}
use Rattle.std.specs.Prelude.{slice_get, is_some, option_map, MatchOption}
use Rattle.hd_base.specs.Channels.{Plain, with_accept}
use Rattle.hd_base.specs.Faults.{FaultsIncreased}
use Rattle.hd_base.specs.RoadCauses.{RoadCause}
use Rattle.hd_base.specs.Ends.{has_failed, IsFresh, IsKnown, IsObservable}
use Rattle.hd_base.specs.declared.ends.Conn.{Conn}
use Rattle.hd_base.specs.declared.ends.RoadError.{RoadError}
use Rattle.hd_base.specs.declared.ends.RoadError.TheVariants as error
use Rattle.hd_base.specs.declared.files.Files as files
use Rattle.hd_base.specs.declared.links.LinkIn as link_in
use Rattle.hd_base.specs.declared.links.LinkOut as link_out
use Rattle.hd_base.specs.declared.numbers.ConnId.{ConnId}
use Rattle.hd_base.specs.declared.numbers.Receipt.{Receipt}
use Rattle.hd_base.specs.declared.roads.Roads as roads
use Rattle.link_pieces.specs.Roads.{BringsEnd}
use Rattle.replica_core.specs.declared.events.Event.{Event}
use Rattle.pipe_member.specs.ReplicaModel.ReplicaEvent.TheVariants as replica_event
use Rattle.pipe_member.specs.ReplicaFiles.BookState.{BookState}
use Rattle.pipe_member.specs.ReplicaFiles.BookFault.TheVariants as book_fault
use Rattle.pipe_member.specs.RequestRefusals.RequestRefusal.{RequestRefusal}
use Rattle.pipe_member.specs.MemberCore.Shuts.{Shuts}
use Rattle.pipe_member.specs.MemberCore.Shuts.TheVariants as shuts
use Rattle.pipe_member.specs.PipeSetup.SetupRefusal.TheVariants as refusal
use Rattle.pipe_member.specs.PipeSetup.Setup.{Setup}
use Rattle.pipe_member.specs.PipeSetup.Setup.TheVariants as setup
use Rattle.pipe_member.specs.PipeSetup.Setups.{IsLost, EndsAs, booked_in}
use Rattle.pipe_member.specs.PipeTurns.Done.{Done}
use Rattle.pipe_member.specs.PipeTurns.Done.TheVariants as done
use Rattle.pipe_member.specs.PipeTurns.Acting.{ShutsEnd}
use Rattle.pipe_member.specs.PipeTurns.Turning.{SendsAlone}
use Rattle.pipe_member.specs.declared.member.Member.{Member}
use Rattle.pipe_member.specs.declared.stages.Stage.{Stage}
use Rattle.pipe_member.specs.declared.stepped.Stepped.{Stepped}
use Rattle.pipe_member.specs.declared.stepped.Stepped.TheVariants as stepped
use Rattle.pipe_member.specs.Exchanges.{BringsMirror, BringsBoth}
use Rattle.pipe_member.specs.Setups.{Opened, Says, Opens, RefusalEnds, FollowsSetup, Begins, with_outward}
use Rattle.member_events.specs.Faults.{road_fault}
use Rattle.member_events.specs.Joining.{AcceptsDial, Accepts}
use Rattle.member_events.proofs.CauseLaws.{file_book, file_done, link_done, mirror_keeps, or_first, one_risen, out_failed, still_risen, less_through}
use Rattle.member_events.proofs.LostLaws.{later_end}

-- A LINK FROM ABOVE THAT FAILED

module _ {I O : Type 0} (i : link_in.Ghosts I) (o : link_out.Ghosts O) where
  says_rose : (text : Option (List ℕ)) (receipt : Receipt) (a b : O) (d : Done) (r : Option Receipt) → d ≡ done.LinkFailed r → Says o text receipt a b d → FaultsIncreased (o.faults a) (o.faults b)
  says_rose None receipt a b d r is h = let e : done.Taken (Some receipt) ≡ done.LinkFailed r = sym h.0 ∙ is in cc
  says_rose (Some text) receipt a b (done.LinkFailed x) r is h = h.1.rose
  says_rose (Some text) receipt a b (done.Taken x) r is h = cc
  says_rose (Some text) receipt a b (done.Refused why x) r is h = absurd h
  says_rose (Some text) receipt a b (done.File x) r is h = absurd h
  says_rose (Some text) receipt a b (done.MirrorFailed x) r is h = absurd h
  says_rose (Some text) receipt a b done.Memory r is h = absurd h

  alone_rises : (text : Option (List ℕ)) (a b : O) (d : Done) (r : Option Receipt) → d ≡ done.LinkFailed r → SendsAlone o text d a b → FaultsIncreased (o.faults a) (o.faults b)
  alone_rises (Some text) a b (done.LinkFailed None) r is h = h.rose
  alone_rises (Some text) a b (done.LinkFailed (Some x)) r is h = absurd h
  alone_rises None a b (done.LinkFailed x) r is h = absurd h
  alone_rises text a b (done.Taken x) r is h = cc
  alone_rises text a b (done.Refused why x) r is h = cc
  alone_rises text a b (done.File x) r is h = cc
  alone_rises text a b (done.MirrorFailed x) r is h = cc
  alone_rises text a b done.Memory r is h = cc

  -- an end whose outward half's count rose, and that was shut then or not
  risen_end : (before : ℕ) (s1 s2 : Bool) (a b c : Conn I O) → FaultsIncreased before (o.faults a.outward) → ShutsEnd o s1 a b → ShutsEnd o s2 b c → has_failed i o c ≡ true
  risen_end before s1 s2 a b c rose x y = out_failed i o before c (still_risen before (o.faults a.outward) (o.faults c.outward) rose (less_through (o.faults a.outward) (o.faults b.outward) (o.faults c.outward) (later_end o s1 a b x) (later_end o s2 b c y)))

  opens_link : (text : Option (List ℕ)) (receipt : Receipt) (st : Stage) (s : Shuts) (old new : Member I O) (result : Stepped) (r : Option Receipt) → result ≡ stepped.LinkFailed r → Opens o text receipt st s old new result → has_failed i o new.upstream ≡ true
  opens_link text receipt st s old new result r is x =
      let d : x.done ≡ done.LinkFailed r = link_done x.done s r (sym x.follows.answer ∙ is) in
      risen_end (o.faults old.upstream.outward) _ _ _ x.upper new.upstream (says_rose text receipt old.upstream.outward x.half x.done r d x.says) x.shut x.follows.upper

  moved_not : (receipt : Receipt) (r : Option Receipt) (result : Stepped) → result ≡ stepped.LinkFailed r → result ≡ stepped.Moved (Some receipt) → ⊥
  moved_not receipt r result is h = cc

  setup_link : (x : Opened) (ended : Setup I O) (old new : Member I O) (result : Stepped) (r : Option Receipt) → result ≡ stepped.LinkFailed r → FollowsSetup o x ended old new result → has_failed i o new.upstream ≡ true
  setup_link x (setup.Last receipt) old new result r is f = opens_link x.answer receipt _ x.shuts old new result r is f
  setup_link x (setup.Mirrored receipt end) old new result r is f = absurd (moved_not receipt r result is f.answer)
  setup_link x (setup.MirrorDown receipt answered) old new result r is f = absurd (moved_not receipt r result is f.answer)
  setup_link x (setup.Refused (refusal.Core why receipt)) old new result r is f = opens_link x.answer receipt _ _ old new result r is f
  setup_link x (setup.Refused (refusal.Stage n)) old new result r is f = absurd f
  setup_link x (setup.Refused refusal.Pool) old new result r is f = absurd f
  setup_link x (setup.Refused (refusal.Checksum k c)) old new result r is f = absurd f
  setup_link x (setup.Refused (refusal.TooMany n)) old new result r is f = absurd f
  setup_link x (setup.File receipt) old new result r is f = let e : stepped.File receipt ≡ stepped.LinkFailed r = sym f.is ∙ is in cc
  setup_link x (setup.Memory None) old new result r is f = let e : stepped.Memory ≡ stepped.LinkFailed r = sym f.1 ∙ is in cc
  setup_link x (setup.Memory (Some receipt)) old new result r is f = let e : stepped.Memory ≡ stepped.LinkFailed r = sym f.1 ∙ is in cc

  refused_link : (memory : Bool) (text : Option (List ℕ)) (d : Done) (old new : Member I O) (half : O) (result : Stepped) (r : Option Receipt) → result ≡ stepped.LinkFailed r → SendsAlone o text d old.upstream.outward half → RefusalEnds o memory d (with_outward old half) new result → has_failed i o new.upstream ≡ true
  refused_link true text d old new half result r is says x = let e : stepped.Memory ≡ stepped.LinkFailed r = sym x.1 ∙ is in cc
  refused_link false text d old new half result r is says x =
      let k : d ≡ done.LinkFailed r = link_done d shuts.Both r (sym x.follows.answer ∙ is) in
      risen_end (o.faults old.upstream.outward) true _ _ x.upper new.upstream (alone_rises text old.upstream.outward half d r k says) x.shut x.follows.upper

-- A CALL ON FILES THAT FAILED

module _ {O : Type 0} (o : link_out.Ghosts O) where
  says_file : (text : Option (List ℕ)) (receipt x : Receipt) (a b : O) (d : Done) → d ≡ done.File x → Says o text receipt a b d → ⊥
  says_file None receipt x a b d is h = let e : done.Taken (Some receipt) ≡ done.File x = sym h.0 ∙ is in cc
  says_file (Some text) receipt x a b (done.File y) is h = h
  says_file (Some text) receipt x a b (done.Taken y) is h = cc
  says_file (Some text) receipt x a b (done.LinkFailed y) is h = cc
  says_file (Some text) receipt x a b (done.Refused why y) is h = cc
  says_file (Some text) receipt x a b (done.MirrorFailed y) is h = cc
  says_file (Some text) receipt x a b done.Memory is h = cc

  alone_never : (text : Option (List ℕ)) (x : Receipt) (a b : O) (d : Done) → d ≡ done.File x → SendsAlone o text d a b → ⊥
  alone_never None x a b (done.File y) is h = h
  alone_never (Some text) x a b (done.File y) is h = h
  alone_never text x a b (done.Taken y) is h = cc
  alone_never text x a b (done.LinkFailed y) is h = cc
  alone_never text x a b (done.Refused why y) is h = cc
  alone_never text x a b (done.MirrorFailed y) is h = cc
  alone_never text x a b done.Memory is h = cc

module _ {F I O : Type 0} (f : files.Ghosts F) (o : link_out.Ghosts O) where
  opens_file : (text : Option (List ℕ)) (receipt : Receipt) (st : Stage) (s : Shuts) (old new : Member I O) (result : Stepped) (x : Receipt) → result ≡ stepped.File x → Opens o text receipt st s old new result → ⊥
  opens_file text receipt st s old new result x is y = says_file o text receipt x old.upstream.outward y.half y.done (file_done y.done s x (sym y.follows.answer ∙ is)) y.says

  setup_file : (e : Event) (x : Opened) (ended : Setup I O) (old new : Member I O) (book book' : BookState F) (result : Stepped) (r : Receipt) → result ≡ stepped.File r → EndsAs f book book' e (booked_in ended) → FollowsSetup o x ended old new result → FaultsIncreased (f.faults book.drawer) (f.faults book'.drawer)
  setup_file e x (setup.Last receipt) old new book book' result r is b h = absurd (opens_file x.answer receipt _ x.shuts old new result r is h)
  setup_file e x (setup.Mirrored receipt end) old new book book' result r is b h = let k : stepped.Moved (Some receipt) ≡ stepped.File r = sym h.answer ∙ is in cc
  setup_file e x (setup.MirrorDown receipt answered) old new book book' result r is b h = let k : stepped.Moved (Some receipt) ≡ stepped.File r = sym h.answer ∙ is in cc
  setup_file e x (setup.Refused (refusal.Core why receipt)) old new book book' result r is b h = absurd (opens_file x.answer receipt _ _ old new result r is h)
  setup_file e x (setup.Refused (refusal.Stage n)) old new book book' result r is b h = absurd h
  setup_file e x (setup.Refused refusal.Pool) old new book book' result r is b h = absurd h
  setup_file e x (setup.Refused (refusal.Checksum k c)) old new book book' result r is b h = absurd h
  setup_file e x (setup.Refused (refusal.TooMany n)) old new book book' result r is b h = absurd h
  setup_file e x (setup.File receipt) old new book book' result r is b h = file_book f (replica_event.Other e) book book' (Err (book_fault.File receipt)) b receipt refl
  setup_file e x (setup.Memory None) old new book book' result r is b h = let k : stepped.Memory ≡ stepped.File r = sym h.1 ∙ is in cc
  setup_file e x (setup.Memory (Some receipt)) old new book book' result r is b h = let k : stepped.Memory ≡ stepped.File r = sym h.1 ∙ is in cc

  refused_file : (memory : Bool) (text : Option (List ℕ)) (d : Done) (old new : Member I O) (half : O) (result : Stepped) (r : Receipt) → result ≡ stepped.File r → SendsAlone o text d old.upstream.outward half → RefusalEnds o memory d (with_outward old half) new result → ⊥
  refused_file true text d old new half result r is says x = let e : stepped.Memory ≡ stepped.File r = sym x.1 ∙ is in cc
  refused_file false text d old new half result r is says x = alone_never o text r old.upstream.outward half d (file_done d shuts.Both r (sym x.follows.answer ∙ is)) says

-- A SETUP

module _ {F R I O : Type 0} (f : files.Ghosts F) (r : roads.Ghosts R I O) (i : link_in.Ghosts I) (o : link_out.Ghosts O) where
  -- Where a setup ends by the failed link from above, its count rose.
  pub join_link : (event : Result Event RequestRefusal) (old new : Member I O) (book book' : BookState F) (road road' : R) (result : Stepped) (receipt : Option Receipt) → result ≡ stepped.LinkFailed receipt → Begins f r i o event old new book book' road road' result → has_failed i o new.upstream ≡ true
  join_link (Ok e) old new book book' road road' result receipt is x = setup_link i o _ x.ended (with_outward old x.half) new result receipt is x.follows
  join_link (Err why) old new book book' road road' result receipt is x = refused_link i o _ _ x.1.1.done old new x.1.1.half result receipt is x.1.1.says x.1.1.ends

  -- Where it ends by a failed call on files, the drawer's count rose.
  pub join_file : (event : Result Event RequestRefusal) (old new : Member I O) (book book' : BookState F) (road road' : R) (result : Stepped) (receipt : Receipt) → result ≡ stepped.File receipt → Begins f r i o event old new book book' road road' result → FaultsIncreased (f.faults book.drawer) (f.faults book'.drawer)
  join_file (Ok e) old new book book' road road' result receipt is x = setup_file f o e _ x.ended (with_outward old x.half) new book book' result receipt is x.sets_up.booked x.follows
  join_file (Err why) old new book book' road road' result receipt is x = absurd (refused_file f o _ _ x.1.1.done old new x.1.1.half result receipt is x.1.1.says x.1.1.ends)

-- RISEN CONNECTIONS

module _ {R I O : Type 0} (r : roads.Ghosts R I O) (i : link_in.Ghosts I) (o : link_out.Ghosts O) where
  brought_keeps : (n : ℕ) (upper : Conn I O) (mirror : Option (Conn I O)) (road middle road' : R) (first : Result (Unit {0}) RoadError) → r.risen road n ≡ true → BringsEnd r i o upper road middle first → BringsMirror r i o mirror middle road' first (Ok tt) → r.risen road' n ≡ true
  brought_keeps n upper mirror road middle road' (Err why) h a b = cc (b.1)
  brought_keeps n upper mirror road middle road' (Ok u) h a b = mirror_keeps r i o n mirror middle road' (a.risen n ∙ or_first (r.risen road n) _ h) b

  pub both_keep : (n : ℕ) (m : Member I O) (road road' : R) → r.risen road n ≡ true → BringsBoth r i o m road road' (Ok tt) → r.risen road' n ≡ true
  both_keep n m road road' h b = brought_keeps n m.upstream m.mirror road b.middle road' b.first h b.upper b.lower

  lost_brought : (e : Conn I O) (road road' : R) (result : Result (Unit {0}) RoadError) → result ≡ Ok tt → BringsEnd r i o e road road' result → BringsEnd r i o e road road' (Ok tt)
  lost_brought e road road' result is b = subst (λ (x : Result (Unit {0}) RoadError). BringsEnd r i o e road road' x) is b

  -- A connection to a mirror that was lost counts as one that failed.
  pub lost_risen : (port : ℕ) (road road' : R) (x : IsLost r i o port road road') → r.risen road' x.unsent.fresh.id.0 ≡ true
  lost_risen port road road' x =
      let g = x.lost.given_up in
      let rose : FaultsIncreased (o.faults x.unsent.fresh.outward) (o.faults g.shut.outward) = still_risen _ _ _ x.unsent.failed.rose g.never_falls in
      let id : g.shut.id.0 ≡ x.unsent.fresh.id.0 = ap (λ (y : ConnId). y.0) (g.kept.id ∙ x.unsent.kept.id) in
      subst (λ (n : ℕ). r.risen road' n ≡ true) id
      (one_risen r i o g.shut x.middle road' (lost_brought g.shut x.middle road' g.result x.lost.ends g.brings) (out_failed i o (o.faults x.unsent.fresh.outward) g.shut rose))

-- A DIAL THAT IS ACCEPTED, OR ISN'T

some_same : {A : Type 0} (x y : A) → Some x ≡ Some y → x ≡ y
some_same x y h = cc

module _ {R I O : Type 0} (r : roads.Ghosts R I O) (i : link_in.Ghosts I) (o : link_out.Ghosts O) where
  pub some_accepted : (port : ℕ) (road road' : R) (found : Option (Conn I O)) (e : Conn I O) → found ≡ Some e → IfSome found (λ c. IfSome (r.plain road) (λ p. slice_get (p.waiting port) 0 ≡ Some c.id.0)) → IfSome found (λ c. IsKnown (r.plain road) c.id.0) → IfSome found (λ c. c.lower ≡ true) → IfSome found (λ c. IsFresh i o c)
      → IfSome found (λ c. IfSome (r.plain road) (λ _. IsObservable i o c)) → MatchOption found (r.plain road' ≡ r.plain road) (λ _. r.plain road' ≡ option_map (λ p. with_accept p port) (r.plain road)) → r.carried road' ≡ r.carried road → AcceptsDial r i o port road road' e
  some_accepted port road road' None e is number known lower fresh observable plain carried = cc
  some_accepted port road road' (Some x) e is number known lower fresh observable plain carried =
      subst (λ (y : Conn I O). AcceptsDial r i o port road road' y) (some_same x e is) (record { number = number; known = known; lower = lower; fresh = fresh; observable = observable; plain = plain; carried = carried })

  pub none_accepted : (plain : Option Plain) (port : ℕ) (found : Option (Conn I O)) → found ≡ None → IfSome plain (λ p. IsNone found ↔ (p.waiting port ≡ [])) → IfSome plain (λ p. p.waiting port ≡ [])
  none_accepted None port found is h = tt
  none_accepted (Some p) port found is h = h.0 (ap is_some is)

  pub err_accepts : (port : ℕ) (m : Member I O) (road road' : R) (why : RoadError) → RoadCause {T = Option (Conn I O)} (r.faults road) (r.faults road') (Err why) → Accepts r i o port m road road' (Err (road_fault why))
  err_accepts port m road road' error.Failed c = inr (c.failed refl)
  err_accepts port m road road' error.Memory c = tt
  err_accepts port m road road' error.NotListening c = absurd (c.no_dial refl)
