-- A step leaves the setup where another may be done, unless it has ended.
use Rattle.std.proofs.Common.{◌≡◌, ℕ, Bool, true, false, List, Option, Some, None, is_some, Result, Ok, Err, inl, inr, refl, sym, ap, subst}
use Rattle.hd_base.specs.declared.ends.Conn.{Conn}
use Rattle.hd_base.specs.declared.links.LinkError.{LinkError}
use Rattle.hd_base.specs.declared.links.LinkIn as link_in
use Rattle.hd_base.specs.declared.links.LinkOut as link_out
use Rattle.hd_base.specs.declared.numbers.NodeId.{NodeId}
use Rattle.hd_base.specs.declared.roads.Roads as roads
use Rattle.name_core.specs.declared.desks.Desk as desk
use Rattle.op_headers.specs.declared.ops.Op.{Op}
use Rattle.writer_core.specs.declared.actions.Action.{Action}
use Rattle.writer_core.specs.declared.actions.Action.TheVariants as action
use Rattle.writer_core.specs.declared.phases.Phase.{Phase}
use Rattle.writer_core.specs.declared.phases.Phase.TheVariants as phase
use Rattle.writer_core.specs.declared.phases.Setup.TheVariants as setup
use Rattle.writer_core.specs.declared.records.WriterRecord.{WriterRecord}
use Rattle.writer_core.specs.Transitions.{own_step, dialled}
use Rattle.pipe_recovery.specs.declared.acting.Acted.{Acted}
use Rattle.pipe_recovery.specs.declared.acting.Acted.TheVariants as acted
use Rattle.pipe_recovery.specs.declared.dialling.Opened.{Opened}
use Rattle.pipe_recovery.specs.declared.dialling.Opened.TheVariants as opened
use Rattle.pipe_recovery.specs.declared.hearing.Answer.{Answer}
use Rattle.pipe_recovery.specs.declared.hearing.Looked.{Looked}
use Rattle.pipe_recovery.specs.declared.hearing.Looked.TheVariants as looked
use Rattle.pipe_recovery.specs.declared.links.Link.{Link}
use Rattle.pipe_recovery.specs.Acting.{MovesOn}
use Rattle.pipe_recovery.specs.Asking.{Asks, AsksBy}
use Rattle.pipe_recovery.specs.Dialling.{asked_after, SendsTo, Sends, Opens, FollowsDial, Unreached, Reaches, no_memory, no_way, dials, ReachesPort, DialsBy, Dials}
use Rattle.pipe_recovery.specs.Reports.{leads_in}
use Rattle.pipe_recovery.specs.Steps.{fits_in, is_stamped, keeps_link, TakesAs, FollowsLook, HearsNextAs, HearsSeen, HearsGiven, Hears, ElseAsks, Waits, GoesOn, AsksAndDials, Acts, Settles}
use Rattle.pipe_recovery.proofs.Leads.{Leads, IsAsking, IsRequested, fits-leads, leads-more, ended-leads, undialled-leads, dialled-leads, told-leads, granted-leads, stamped-same, asking-same, requested-leads}

asked-leads : (w : WriterRecord) (sending : Result ℕ LinkError) → Leads w true → Leads (asked_after w sending) true
asked-leads w (Ok n) h = dialled-leads w h
asked-leads w (Err e) h = ended-leads (dialled w true) true (dialled-leads w h)

stamped-leads : (p : Phase) (linked : Bool) → is_stamped p ≡ true → leads_in p linked ≡ true
stamped-leads phase.Closed linked h = cc
stamped-leads (phase.Wanted s) linked h = cc
stamped-leads (phase.Stamped s stamp) linked h = refl
stamped-leads (phase.Requested s stamp) linked h = cc
stamped-leads (phase.Accepted s stamp) linked h = cc
stamped-leads phase.Opened linked h = cc
stamped-leads (phase.Streaming sent) linked h = cc
stamped-leads phase.Closing linked h = cc
stamped-leads phase.Finished linked h = cc
stamped-leads phase.Completed linked h = cc
stamped-leads (phase.Failed f) linked h = cc

module _ {R I O : Type 0} (r : roads.Ghosts R I O) (i : link_in.Ghosts I) (o : link_out.Ghosts O) where
  -- THE DIAL

  unreached-leads : (w w' : WriterRecord) (link link' : Option (Link I O)) (old new : R) (why result : Acted) → Leads w (is_some link) → Unreached w w' link link' old new why result → Leads w' (is_some link')
  unreached-leads w w' link link' old new why result h u = rw (u.writer, u.link_same) h

  sends-to-leads : (text : List ℕ) (w w' : WriterRecord) (a b : Conn I O) (result : Acted) → Leads w true → SendsTo o text w w' a b result → Leads w' true
  sends-to-leads text w w' a b result h (inl k) = rw k.writer h
  sends-to-leads text w w' a b result h (inr k) = rw k.writer (asked-leads w k.sending h)

  sends-leads : (text : List ℕ) (w w' : WriterRecord) (link link' : Option (Link I O)) (result : Acted) → Leads w true → is_some link ≡ true → Sends o text w w' link link' result → Leads w' (is_some link')
  sends-leads text w w' None None result h some s = cc
  sends-leads text w w' None (Some b) result h some s = absurd s
  sends-leads text w w' (Some a) None result h some s = absurd s
  sends-leads text w w' (Some a) (Some b) result h some s = sends-to-leads text w w' a.end b.end result h s.sends

  opens-some : (port : ℕ) (link middle : Option (Link I O)) (old new : R) → Opens r i o port link middle old new opened.Answered → is_some middle ≡ true
  opens-some port None middle old new p = ap is_some p.is
  opens-some port (Some l) middle old new p = ap is_some p.0

  unanswered-same : (port : ℕ) (link middle : Option (Link I O)) (old new : R) → Opens r i o port link middle old new opened.Unanswered → middle ≡ link
  unanswered-same port None middle old new p = p.0
  unanswered-same port (Some l) middle old new p = p.0

  memory-same : (port : ℕ) (link middle : Option (Link I O)) (old new : R) → Opens r i o port link middle old new opened.Memory → middle ≡ link
  memory-same port None middle old new p = p.0
  memory-same port (Some l) middle old new p = p.0

  follows-leads : (x : Opened) (port : ℕ) (text : List ℕ) (w w' : WriterRecord) (link middle link' : Option (Link I O)) (old new : R) (result : Acted) → Leads w (is_some link)
      → Opens r i o port link middle old new x → FollowsDial o text w w' middle link' x result → Leads w' (is_some link')
  follows-leads opened.Answered port text w w' link middle link' old new result h p f =
      sends-leads text w w' middle link' result (leads-more w.phase (is_some link) h) (opens-some port link middle old new p) f
  follows-leads opened.Unanswered port text w w' link middle link' old new result h p f =
      rw (f.0, f.1, unanswered-same port link middle old new p) (undialled-leads w (is_some link) h)
  follows-leads opened.Memory port text w w' link middle link' old new result h p f =
      rw (f.0, f.1, memory-same port link middle old new p) h

  port-leads : (port : ℕ) (text : List ℕ) (w w' : WriterRecord) (link link' : Option (Link I O)) (old new : R) (result : Acted) → Leads w (is_some link)
      → ReachesPort r i o port text w w' link link' old new result → Leads w' (is_some link')
  port-leads port text w w' link link' old new result h p = follows-leads p.opened port text w w' link p.held link' old new result h p.opens p.follows

  reaches-leads : (to : NodeId) (op : Op) (w w' : WriterRecord) (link link' : Option (Link I O)) (old new : R) (result : Acted) → Leads w (is_some link)
      → Reaches r i o to op w w' link link' old new result → Leads w' (is_some link')
  reaches-leads to op w w' link link' old new result h (no_memory u) = unreached-leads w w' link link' old new acted.Memory result h u
  reaches-leads to op w w' link link' old new result h (no_way why u) = unreached-leads (dialled w false) w' link link' old new acted.Moved result (undialled-leads w (is_some link) h) u
  reaches-leads to op w w' link link' old new result h (dials n) = port-leads n.port _ w w' link link' old new result h n.reaches

  dials-by-leads : (a : Action) (w w' : WriterRecord) (link link' : Option (Link I O)) (old new : R) (result : Acted) → Leads w (is_some link)
      → DialsBy r i o a w w' link link' old new result → Leads w' (is_some link')
  dials-by-leads action.Wait w w' link link' old new result h u = unreached-leads w w' link link' old new acted.Idle result h u
  dials-by-leads action.Took w w' link link' old new result h u = unreached-leads w w' link link' old new acted.Idle result h u
  dials-by-leads (action.Ask c) w w' link link' old new result h u = unreached-leads w w' link link' old new acted.Idle result h u
  dials-by-leads (action.Dial to op) w w' link link' old new result h u = reaches-leads to op w w' link link' old new result h u
  dials-by-leads (action.Send p) w w' link link' old new result h u = unreached-leads w w' link link' old new acted.Idle result h u
  dials-by-leads (action.Answered n x) w w' link link' old new result h u = unreached-leads w w' link link' old new acted.Idle result h u
  dials-by-leads action.Memory w w' link link' old new result h u = unreached-leads w w' link link' old new acted.Memory result h u

  dials-leads : (w w' : WriterRecord) (link link' : Option (Link I O)) (old new : R) (result : Acted) → is_stamped w.phase ≡ true
      → Dials r i o (own_step w) w w' link link' old new result → Leads w' (is_some link')
  dials-leads w w' link link' old new result s (inl u) = unreached-leads w w' link link' old new acted.Memory result (stamped-leads w.phase (is_some link) s) u
  dials-leads w w' link link' old new result s (inr b) =
      let h : Leads (own_step w).writer (is_some link) = rw (stamped-same w s) (stamped-leads w.phase (is_some link) s) in
      dials-by-leads (own_step w).action (own_step w).writer w' link link' old new result h b

  -- THE ANSWER

  moves-leads : (w w' : WriterRecord) (linked : Bool) (result : Acted) → IsRequested w.phase → Leads w linked → MovesOn (own_step w) w w' result → Leads w' linked
  moves-leads w w' linked result a h (inl m) = rw m.1 h
  moves-leads w w' linked result a h (inr m) = rw m.1 (requested-leads w linked a h)

  takes-leads : (x : Option Answer) (w w' : WriterRecord) (a b : Link I O) (result : Acted) → IsRequested w.phase → Leads w true → TakesAs x w w' a b result → Leads w' true
  takes-leads None w w' a b result q h t = moves-leads w w' true result q h t.1
  takes-leads (Some x) w w' a b result q h t = rw t.0 (told-leads w x h)

  look-leads : (x : Looked) (w w' : WriterRecord) (a b : Link I O) (result : Acted) → IsRequested w.phase → Leads w true → FollowsLook x w w' a b result → Leads w' true
  look-leads looked.Memory w w' a b result q h f = rw f.0 h
  look-leads looked.Known w w' a b result q h f = takes-leads a.heard.next w w' a b result q h f

  waits-leads : (w w' : WriterRecord) (link link' : Option (Link I O)) (result : Acted) → IsRequested w.phase → Leads w (is_some link) → Waits i w w' link link' result → Leads w' (is_some link')
  waits-leads w w' None None result q h p = moves-leads w w' false result q h p
  waits-leads w w' None (Some b) result q h p = absurd p
  waits-leads w w' (Some a) None result q h p = absurd p
  waits-leads w w' (Some a) (Some b) result q h p = look-leads p.found w w' p.seen b result q h p.follows

module _ {I O : Type 0} (i : link_in.Ghosts I) where
  next-leads : (x : Option Answer) (w w' : WriterRecord) (a b : Link I O) (result : Option Acted) → Leads w true → HearsNextAs x w w' a b result → Leads w' true
  next-leads None w w' a b result h t = rw t.0 h
  next-leads (Some x) w w' a b result h t = rw t.0 (told-leads w x h)

  seen-leads : (x : Looked) (w w' : WriterRecord) (a b : Link I O) (result : Option Acted) → Leads w true → HearsSeen x w w' a b result → Leads w' true
  seen-leads looked.Memory w w' a b result h f = rw f.0 h
  seen-leads looked.Known w w' a b result h f = next-leads a.heard.next w w' a b result h f

  given-leads : (asked : Bool) (w w' : WriterRecord) (a b : Link I O) (result : Option Acted) → Leads w true → HearsGiven i asked w w' a b result → Leads w' true
  given-leads true w w' a b result h p = seen-leads p.found w w' p.seen b result h p.hears
  given-leads false w w' a b result h p = rw p.0 h

  hears-leads : (w w' : WriterRecord) (link link' : Option (Link I O)) (result : Option Acted) → Leads w (is_some link) → Hears i w w' link link' result → Leads w' (is_some link')
  hears-leads w w' None None result h p = rw p.0 h
  hears-leads w w' None (Some b) result h p = absurd p
  hears-leads w w' (Some a) None result h p = absurd p
  hears-leads w w' (Some a) (Some b) result h p = given-leads a.asked w w' a b result h p

  next-same : (x : Option Answer) (w w' : WriterRecord) (a b : Link I O) (result : Option Acted) → (result ≡ Some acted.Moved → ⊥) → HearsNextAs x w w' a b result → w' ≡ w
  next-same None w w' a b result n t = t.0
  next-same (Some x) w w' a b result n t = absurd (n t.2)

  seen-same : (x : Looked) (w w' : WriterRecord) (a b : Link I O) (result : Option Acted) → (result ≡ Some acted.Moved → ⊥) → HearsSeen x w w' a b result → w' ≡ w
  seen-same looked.Memory w w' a b result n f = f.0
  seen-same looked.Known w w' a b result n f = next-same a.heard.next w w' a b result n f

  given-same : (asked : Bool) (w w' : WriterRecord) (a b : Link I O) (result : Option Acted) → (result ≡ Some acted.Moved → ⊥) → HearsGiven i asked w w' a b result → w' ≡ w
  given-same true w w' a b result n p = seen-same p.found w w' p.seen b result n p.hears
  given-same false w w' a b result n p = p.0

  -- Where nothing was taken the writer stays as it is, and so a step still fits.
  pub unheard-fits : (w w' : WriterRecord) (link link' : Option (Link I O)) (result : Option Acted) → (result ≡ Some acted.Moved → ⊥) → fits_in w.phase (is_some link) ≡ true → Hears i w w' link link' result
      → fits_in w'.phase (is_some link') ≡ true
  unheard-fits w w' None None result n f p = rw p.0 f
  unheard-fits w w' None (Some b) result n f p = absurd p
  unheard-fits w w' (Some a) None result n f p = absurd p
  unheard-fits w w' (Some a) (Some b) result n f p = rw (given-same a.asked w w' a b result n p) f

  pub unheard-asks : (w w' : WriterRecord) (link link' : Option (Link I O)) (result : Option Acted) → (result ≡ Some acted.Moved → ⊥) → IsAsking w.phase → Hears i w w' link link' result → IsAsking w'.phase
  unheard-asks w w' None None result n q p = rw p.0 q
  unheard-asks w w' None (Some b) result n q p = absurd p
  unheard-asks w w' (Some a) None result n q p = absurd p
  unheard-asks w w' (Some a) (Some b) result n q p = rw (given-same a.asked w w' a b result n p) q

-- THE OFFICE

module _ {D R I O : Type 0} (d : desk.Ghosts D) (r : roads.Ghosts R I O) (i : link_in.Ghosts I) (o : link_out.Ghosts O) where
  asks-by-leads : (a : Action) (w w' : WriterRecord) (linked : Bool) (old new : D) (result : Acted) → fits_in w.phase linked ≡ true → AsksBy d a w w' old new result → Leads w' linked
  asks-by-leads action.Wait w w' linked old new result f u = rw u.writer (fits-leads w.phase linked f)
  asks-by-leads action.Took w w' linked old new result f u = rw u.writer (fits-leads w.phase linked f)
  asks-by-leads (action.Ask c) w w' linked old new result f u = rw u.writer (granted-leads w u.answer linked f)
  asks-by-leads (action.Dial to op) w w' linked old new result f u = rw u.writer (fits-leads w.phase linked f)
  asks-by-leads (action.Send p) w w' linked old new result f u = rw u.writer (fits-leads w.phase linked f)
  asks-by-leads (action.Answered n x) w w' linked old new result f u = rw u.writer (fits-leads w.phase linked f)
  asks-by-leads action.Memory w w' linked old new result f u = rw u.writer (fits-leads w.phase linked f)

  asks-leads : (w w' : WriterRecord) (linked : Bool) (old new : D) (result : Acted) → IsAsking w.phase → fits_in w.phase linked ≡ true → Asks d (own_step w) w w' old new result → Leads w' linked
  asks-leads w w' linked old new result a f (inl u) = rw u.writer (fits-leads w.phase linked f)
  asks-leads w w' linked old new result a f (inr b) =
      asks-by-leads (own_step w).action w w' linked old new result f (subst (λ x. AsksBy d (own_step w).action x w' old new result) (asking-same w linked a f) b)

  goes-leads : (b : Bool) (w w' : WriterRecord) (link link' : Option (Link I O)) (old new : R) (first result : Acted) → is_stamped w.phase ≡ b → Leads w (is_some link)
      → GoesOn r i o b w w' link link' old new first result → Leads w' (is_some link')
  goes-leads true w w' link link' old new first result s h g = dials-leads r i o w w' link link' old new result s g
  goes-leads false w w' link link' old new first result s h g = rw (g.0, g.1) h

  asks-and-leads : (w w' : WriterRecord) (link link' : Option (Link I O)) (office office' : D) (old new : R) (result : Acted) → IsAsking w.phase → fits_in w.phase (is_some link) ≡ true
      → AsksAndDials d r i o w w' link link' office office' old new result → Leads w' (is_some link')
  asks-and-leads w w' link link' office office' old new result a f p =
      goes-leads (is_stamped p.answered.phase) p.answered w' link link' old new p.first result refl (asks-leads w p.answered (is_some link) office office' p.first a f p.asks) p.goes_on

  else-leads : (x : Option Acted) (w y w' : WriterRecord) (link held link' : Option (Link I O)) (office office' : D) (old new : R) (result : Acted) → IsAsking w.phase → fits_in w.phase (is_some link) ≡ true
      → Hears i w y link held x → ElseAsks d r i o x y w' held link' office office' old new result → Leads w' (is_some link')
  else-leads None w y w' link held link' office office' old new result a f h p =
      asks-and-leads y w' held link' office office' old new result (unheard-asks i w y link held None (λ e. cc) a h) (unheard-fits i w y link held None (λ e. cc) f h) p
  else-leads (Some x) w y w' link held link' office office' old new result a f h p =
      rw (p.0, p.1) (hears-leads i w y link held (Some x) (fits-leads w.phase (is_some link) f) h)

  -- the action of a step, where the writer is here
  acts-leads-at : (x : Phase) (w w' : WriterRecord) (link link' : Option (Link I O)) (office office' : D) (old new : R) (result : Acted) → w.phase ≡ x → fits_in w.phase (is_some link) ≡ true
      → Acts d r i o x w w' link link' office office' old new result → Leads w' (is_some link')
  acts-leads-at phase.Closed w w' link link' office office' old new result e f p = absurd (cc)
  acts-leads-at (phase.Wanted s) w w' link link' office office' old new result e f p = asks-and-leads w w' link link' office office' old new result (subst IsAsking (sym e) tt) f p
  acts-leads-at (phase.Stamped s stamp) w w' link link' office office' old new result e f p = dials-leads r i o w w' link link' old new result (ap is_stamped e) p.1
  acts-leads-at (phase.Requested s stamp) w w' link link' office office' old new result e f p =
      waits-leads r i o w w' link link' result (subst IsRequested (sym e) tt) (fits-leads w.phase (is_some link) f) p.1.1
  acts-leads-at (phase.Accepted s stamp) w w' link link' office office' old new result e f p =
      else-leads p.heard w p.after w' link p.held link' office office' old new result (subst IsAsking (sym e) tt) f p.hears p.else_asks
  acts-leads-at phase.Opened w w' link link' office office' old new result e f p = absurd (cc)
  acts-leads-at (phase.Streaming sent) w w' link link' office office' old new result e f p = absurd (cc)
  acts-leads-at phase.Closing w w' link link' office office' old new result e f p = absurd (cc)
  acts-leads-at phase.Finished w w' link link' office office' old new result e f p = absurd (cc)
  acts-leads-at phase.Completed w w' link link' office office' old new result e f p = absurd (cc)
  acts-leads-at (phase.Failed why) w w' link link' office office' old new result e f p = absurd (cc)

  -- After the action of a step the setup is where a step may come to.
  pub acts-leads : (w w' : WriterRecord) (link link' : Option (Link I O)) (office office' : D) (old new : R) (result : Acted) → fits_in w.phase (is_some link) ≡ true
      → Acts d r i o w.phase w w' link link' office office' old new result → Leads w' (is_some link')
  acts-leads w w' link link' office office' old new result f p = acts-leads-at w.phase w w' link link' office office' old new result refl f p

-- A CONNECTION THAT IS GIVEN UP

unkept-leads : (p : Phase) (linked : Bool) → keeps_link p ≡ false → leads_in p linked ≡ true → leads_in p false ≡ true
unkept-leads phase.Closed linked k h = h
unkept-leads (phase.Wanted s) linked k h = refl
unkept-leads (phase.Stamped s stamp) linked k h = refl
unkept-leads (phase.Requested s stamp) linked k h = cc
unkept-leads (phase.Accepted setup.Create stamp) linked k h = cc
unkept-leads (phase.Accepted setup.Append stamp) linked k h = cc
unkept-leads (phase.Accepted setup.AppendRecovery stamp) linked k h = cc
unkept-leads (phase.Accepted setup.StreamRecovery stamp) linked k h = cc
unkept-leads (phase.Accepted setup.CloseRecovery stamp) linked k h = refl
unkept-leads phase.Opened linked k h = cc
unkept-leads (phase.Streaming sent) linked k h = cc
unkept-leads phase.Closing linked k h = h
unkept-leads phase.Finished linked k h = refl
unkept-leads phase.Completed linked k h = h
unkept-leads (phase.Failed f) linked k h = refl

module _ {R I O : Type 0} (r : roads.Ghosts R I O) (i : link_in.Ghosts I) (o : link_out.Ghosts O) where
  settles-leads-at : (b : Bool) (p : Phase) (link link' : Option (Link I O)) (old new : R) → keeps_link p ≡ b → leads_in p (is_some link) ≡ true → Settles r i o b link link' old new → leads_in p (is_some link') ≡ true
  settles-leads-at true p link link' old new k h s = rw s.0 h
  settles-leads-at false p None link' old new k h s = rw s.0 h
  settles-leads-at false p (Some l) link' old new k h s = rw s.0 (unkept-leads p true k h)

  -- It is there too once a connection that the writer doesn't have was given up.
  pub settles-leads : (p : Phase) (link link' : Option (Link I O)) (old new : R) → leads_in p (is_some link) ≡ true → Settles r i o (keeps_link p) link link' old new → leads_in p (is_some link') ≡ true
  settles-leads p link link' old new h s = settles-leads-at (keeps_link p) p link link' old new refl h s
