-- A step that didn't end the setup, or for which there was no memory, leaves it where another may be done.
use Rattle.std.proofs.Common.{◌≡◌, ℕ, Bool, true, false, if◌then◌else◌, List, Option, Some, None, is_some, Result, Ok, Err, inl, inr, refl, sym, ap, subst, ◌∙◌}
use Rattle.std.specs.Prelude.{slice_get}
use Rattle.hd_base.specs.declared.ends.Conn.{Conn}
use Rattle.hd_base.specs.declared.links.LinkIn as link_in
use Rattle.hd_base.specs.declared.links.LinkOut as link_out
use Rattle.hd_base.specs.declared.numbers.NodeId.{NodeId}
use Rattle.hd_base.specs.declared.numbers.Stamp.{Stamp}
use Rattle.hd_base.specs.declared.roads.Roads as roads
use Rattle.name_core.specs.declared.calls.OfficeAnswer.{OfficeAnswer}
use Rattle.name_core.specs.declared.desks.Desk as desk
use Rattle.name_core.specs.declared.faults.OfficeFault.{OfficeFault}
use Rattle.name_core.specs.declared.faults.OfficeFault.TheVariants as fault
use Rattle.op_headers.specs.declared.ops.Op.{Op}
use Rattle.writer_core.specs.declared.actions.Action.{Action}
use Rattle.writer_core.specs.declared.actions.Action.TheVariants as action
use Rattle.writer_core.specs.declared.commands.Command.{Command}
use Rattle.writer_core.specs.declared.phases.Failure.{Failure}
use Rattle.writer_core.specs.declared.phases.Failure.TheVariants as failure
use Rattle.writer_core.specs.declared.phases.Phase.{Phase}
use Rattle.writer_core.specs.declared.phases.Phase.TheVariants as phase
use Rattle.writer_core.specs.declared.phases.Setup.{Setup}
use Rattle.writer_core.specs.declared.phases.Setup.TheVariants as setup
use Rattle.writer_core.specs.declared.phases.Waiting.{Waiting}
use Rattle.writer_core.specs.declared.records.WriterRecord.{WriterRecord}
use Rattle.writer_core.specs.Transitions.{own_step, step_in, free_step_as, take_first, granted, granted_as, asks}
use Rattle.pipe_recovery.specs.declared.acting.Acted.{Acted}
use Rattle.pipe_recovery.specs.declared.acting.Acted.TheVariants as acted
use Rattle.pipe_recovery.specs.declared.dialling.Opened.{Opened}
use Rattle.pipe_recovery.specs.declared.dialling.Opened.TheVariants as opened
use Rattle.pipe_recovery.specs.declared.hearing.Answer.{Answer}
use Rattle.pipe_recovery.specs.declared.hearing.Looked.{Looked}
use Rattle.pipe_recovery.specs.declared.hearing.Looked.TheVariants as looked
use Rattle.pipe_recovery.specs.declared.links.Link.{Link}
use Rattle.pipe_recovery.specs.declared.rebuilding.RebuildStep.{RebuildStep}
use Rattle.pipe_recovery.specs.Acting.{MovesOn, acted_by}
use Rattle.pipe_recovery.specs.Asking.{Asks, AsksBy, asked_as}
use Rattle.pipe_recovery.specs.Dialling.{SendsTo, Sends, FollowsDial, Reaches, no_memory, no_way, dials, DialsBy, Dials}
use Rattle.pipe_recovery.specs.declared.rebuilding.RebuildStep.TheVariants as step
use Rattle.pipe_recovery.specs.Reports.{leads_in, moved_if, failed_as, Streams, Sees, Awaits, ReportsAccepted, Reports, ReportsAt}
use Rattle.pipe_recovery.specs.Steps.{fits_in, is_stamped, keeps_link, TakesAs, FollowsLook, Hears, ElseAsks, Waits, GoesOn, AsksAndDials, Acts, Settles, StillFits}
use Rattle.pipe_recovery.proofs.Leads.{IsAsking, IsRequested, stamped-same, asking-same}
use Rattle.pipe_recovery.proofs.StepLaws.{unheard-fits, unheard-asks}

stamped-fits : (p : Phase) (linked : Bool) → is_stamped p ≡ true → fits_in p linked ≡ true
stamped-fits phase.Closed linked h = cc
stamped-fits (phase.Wanted s) linked h = cc
stamped-fits (phase.Stamped s stamp) linked h = refl
stamped-fits (phase.Requested s stamp) linked h = cc
stamped-fits (phase.Accepted s stamp) linked h = cc
stamped-fits phase.Opened linked h = cc
stamped-fits (phase.Streaming sent) linked h = cc
stamped-fits phase.Closing linked h = cc
stamped-fits phase.Finished linked h = cc
stamped-fits phase.Completed linked h = cc
stamped-fits (phase.Failed f) linked h = cc

-- WANT OF MEMORY

if-same : (b : Bool) (w : WriterRecord) → (if b then w else w) ≡ w
if-same true w = refl
if-same false w = refl

unanswered-same : (w : WriterRecord) (r : Result OfficeAnswer OfficeFault) → acted.Memory ≡ asked_as r → granted_as w r ≡ w
unanswered-same w (Ok a) h = cc
unanswered-same w (Err fault.Known) h = cc
unanswered-same w (Err fault.Unknown) h = cc
unanswered-same w (Err fault.NotOpen) h = cc
unanswered-same w (Err fault.NotClosed) h = cc
unanswered-same w (Err (fault.LeaseLost recovery)) h = cc
unanswered-same w (Err (fault.OldStamp committed)) h = cc
unanswered-same w (Err (fault.OldRecovery latest)) h = cc
unanswered-same w (Err (fault.TooLong length)) h = cc
unanswered-same w (Err fault.Memory) h = if-same (asks w.phase) w

-- Want of memory at the office changes nothing.
granted-same : (w : WriterRecord) (r : Result OfficeAnswer OfficeFault) → acted.Memory ≡ asked_as r → granted w r ≡ w
unfolding granted
granted-same w r h = unanswered-same w r h

module _ {R I O : Type 0} (r : roads.Ghosts R I O) (i : link_in.Ghosts I) (o : link_out.Ghosts O) where
  sends-to-same : (text : List ℕ) (w w' : WriterRecord) (a b : Conn I O) → SendsTo o text w w' a b acted.Memory → w' ≡ w
  sends-to-same text w w' a b (inl k) = k.writer
  sends-to-same text w w' a b (inr k) = let no : acted.Memory ≡ acted.Moved = k.is in cc

  sends-same : (text : List ℕ) (w w' : WriterRecord) (link link' : Option (Link I O)) → Sends o text w w' link link' acted.Memory → w' ≡ w
  sends-same text w w' None None s = s.0
  sends-same text w w' None (Some b) s = absurd s
  sends-same text w w' (Some a) None s = absurd s
  sends-same text w w' (Some a) (Some b) s = sends-to-same text w w' a.end b.end s.sends

  follows-same : (x : Opened) (text : List ℕ) (w w' : WriterRecord) (middle link' : Option (Link I O)) → FollowsDial o text w w' middle link' x acted.Memory → w' ≡ w
  follows-same opened.Answered text w w' middle link' f = sends-same text w w' middle link' f
  follows-same opened.Unanswered text w w' middle link' f = let no : acted.Memory ≡ acted.Moved = f.2 in cc
  follows-same opened.Memory text w w' middle link' f = f.0

  reaches-same : (to : NodeId) (op : Op) (w w' : WriterRecord) (link link' : Option (Link I O)) (old new : R) → Reaches r i o to op w w' link link' old new acted.Memory → w' ≡ w
  reaches-same to op w w' link link' old new (no_memory u) = u.writer
  reaches-same to op w w' link link' old new (no_way why u) = let no : acted.Memory ≡ acted.Moved = u.is in cc
  reaches-same to op w w' link link' old new (dials n) = follows-same n.reaches.opened _ w w' n.reaches.held link' n.reaches.follows

  dials-by-same : (a : Action) (w w' : WriterRecord) (link link' : Option (Link I O)) (old new : R) → DialsBy r i o a w w' link link' old new acted.Memory → w' ≡ w
  dials-by-same action.Wait w w' link link' old new u = u.writer
  dials-by-same action.Took w w' link link' old new u = u.writer
  dials-by-same (action.Ask c) w w' link link' old new u = u.writer
  dials-by-same (action.Dial to op) w w' link link' old new u = reaches-same to op w w' link link' old new u
  dials-by-same (action.Send p) w w' link link' old new u = u.writer
  dials-by-same (action.Answered n x) w w' link link' old new u = u.writer
  dials-by-same action.Memory w w' link link' old new u = u.writer

  -- Want of memory at the dial leaves the writer as it is.
  dials-same : (w w' : WriterRecord) (link link' : Option (Link I O)) (old new : R) → is_stamped w.phase ≡ true → Dials r i o (own_step w) w w' link link' old new acted.Memory → w' ≡ w
  dials-same w w' link link' old new s (inl u) = u.writer
  dials-same w w' link link' old new s (inr b) = dials-by-same (own_step w).action (own_step w).writer w' link link' old new b ∙ stamped-same w s

  dials-fit : (w w' : WriterRecord) (link link' : Option (Link I O)) (old new : R) → is_stamped w.phase ≡ true → Dials r i o (own_step w) w w' link link' old new acted.Memory → fits_in w'.phase (is_some link') ≡ true
  dials-fit w w' link link' old new s p = rw (dials-same w w' link link' old new s p) (stamped-fits w.phase (is_some link') s)

-- an own step that takes a command, or does nothing, wants no memory by itself
first-is : (w : WriterRecord) (c : Option Command) → acted.Memory ≡ acted_by (take_first w c).action → ⊥
first-is w None h = cc
first-is w (Some c) h = cc

free-is : (w : WriterRecord) (x : Option Waiting) → acted.Memory ≡ acted_by (free_step_as w x).action → ⊥
free-is w None h = first-is w (slice_get w.queue 0) h
free-is w (Some x) h = cc

requested-is-in : (w : WriterRecord) (p : Phase) → IsRequested p → acted.Memory ≡ acted_by (step_in w p).action → ⊥
requested-is-in w phase.Closed q h = q
requested-is-in w (phase.Wanted s) q h = q
requested-is-in w (phase.Stamped s stamp) q h = q
requested-is-in w (phase.Requested s stamp) q h = free-is w w.waiting h
requested-is-in w (phase.Accepted s stamp) q h = q
requested-is-in w phase.Opened q h = q
requested-is-in w (phase.Streaming sent) q h = q
requested-is-in w phase.Closing q h = q
requested-is-in w phase.Finished q h = q
requested-is-in w phase.Completed q h = q
requested-is-in w (phase.Failed f) q h = q

requested-is : (w : WriterRecord) → IsRequested w.phase → acted.Memory ≡ acted_by (own_step w).action → ⊥
unfolding own_step
requested-is w q h = requested-is-in w w.phase q h

moves-same : (w w' : WriterRecord) → IsRequested w.phase → MovesOn (own_step w) w w' acted.Memory → w' ≡ w
moves-same w w' q (inl m) = m.1
moves-same w w' q (inr m) = absurd (requested-is w q m.0)

takes-same : {I O : Type 0} → (x : Option Answer) (w w' : WriterRecord) (a b : Link I O) → IsRequested w.phase → TakesAs x w w' a b acted.Memory → w' ≡ w
takes-same None w w' a b q t = moves-same w w' q t.1
takes-same (Some x) w w' a b q t = let no : acted.Memory ≡ acted.Moved = t.2 in cc

look-same : {I O : Type 0} → (x : Looked) (w w' : WriterRecord) (a b : Link I O) → IsRequested w.phase → FollowsLook x w w' a b acted.Memory → w' ≡ w
look-same looked.Memory w w' a b q f = f.0
look-same looked.Known w w' a b q f = takes-same a.heard.next w w' a b q f

waits-fit : {I O : Type 0} → (i : link_in.Ghosts I) (w w' : WriterRecord) (link link' : Option (Link I O)) → IsRequested w.phase → fits_in w.phase (is_some link) ≡ true → Waits i w w' link link' acted.Memory → fits_in w'.phase (is_some link') ≡ true
waits-fit i w w' None None q f p = rw (moves-same w w' q p) f
waits-fit i w w' None (Some b) q f p = absurd p
waits-fit i w w' (Some a) None q f p = absurd p
waits-fit i w w' (Some a) (Some b) q f p = rw (look-same p.found w w' p.seen b q p.follows) f

module _ {D R I O : Type 0} (d : desk.Ghosts D) (r : roads.Ghosts R I O) (i : link_in.Ghosts I) (o : link_out.Ghosts O) where
  asks-by-same : (a : Action) (w w' : WriterRecord) (old new : D) → AsksBy d a w w' old new acted.Memory → w' ≡ w
  asks-by-same action.Wait w w' old new u = u.writer
  asks-by-same action.Took w w' old new u = u.writer
  asks-by-same (action.Ask c) w w' old new u = u.writer ∙ granted-same w u.answer u.ends
  asks-by-same (action.Dial to op) w w' old new u = u.writer
  asks-by-same (action.Send p) w w' old new u = u.writer
  asks-by-same (action.Answered n x) w w' old new u = u.writer
  asks-by-same action.Memory w w' old new u = u.writer

  asks-same : (w w' : WriterRecord) (linked : Bool) (old new : D) → IsAsking w.phase → fits_in w.phase linked ≡ true → Asks d (own_step w) w w' old new acted.Memory → w' ≡ w
  asks-same w w' linked old new a f (inl u) = u.writer
  asks-same w w' linked old new a f (inr b) = asks-by-same (own_step w).action (own_step w).writer w' old new b ∙ asking-same w linked a f

  goes-fit : (b : Bool) (w x w' : WriterRecord) (link link' : Option (Link I O)) (office office' : D) (old new : R) (first : Acted) → is_stamped x.phase ≡ b → IsAsking w.phase → fits_in w.phase (is_some link) ≡ true
      → Asks d (own_step w) w x office office' first → GoesOn r i o b x w' link link' old new first acted.Memory → fits_in w'.phase (is_some link') ≡ true
  goes-fit true w x w' link link' office office' old new first s a f asked g = dials-fit r i o x w' link link' old new s g
  goes-fit false w x w' link link' office office' old new first s a f asked g =
      rw (g.0 ∙ asks-same w x (is_some link) office office' a f (subst (λ y. Asks d (own_step w) w x office office' y) (sym g.3) asked), g.1) f

  asks-and-fit : (w w' : WriterRecord) (link link' : Option (Link I O)) (office office' : D) (old new : R) → IsAsking w.phase → fits_in w.phase (is_some link) ≡ true
      → AsksAndDials d r i o w w' link link' office office' old new acted.Memory → fits_in w'.phase (is_some link') ≡ true
  asks-and-fit w w' link link' office office' old new a f p =
      goes-fit (is_stamped p.answered.phase) w p.answered w' link link' office office' old new p.first refl a f p.asks p.goes_on

  else-fit : (x : Option Acted) (w y w' : WriterRecord) (link held link' : Option (Link I O)) (office office' : D) (old new : R) → IsAsking w.phase → fits_in w.phase (is_some link) ≡ true
      → Hears i w y link held x → ElseAsks d r i o x y w' held link' office office' old new acted.Memory → fits_in w'.phase (is_some link') ≡ true
  else-fit None w y w' link held link' office office' old new a f h p =
      asks-and-fit y w' held link' office office' old new (unheard-asks i w y link held None (λ e. cc) a h) (unheard-fits i w y link held None (λ e. cc) f h) p
  else-fit (Some x) w y w' link held link' office office' old new a f h p =
      let is : acted.Memory ≡ x = p.4 in rw (p.0, p.1) (unheard-fits i w y link held (Some x) (λ e. cc) f h)

  pub acts-fit-at : (x : Phase) (w w' : WriterRecord) (link link' : Option (Link I O)) (office office' : D) (old new : R) → w.phase ≡ x → fits_in w.phase (is_some link) ≡ true
      → Acts d r i o x w w' link link' office office' old new acted.Memory → fits_in w'.phase (is_some link') ≡ true
  acts-fit-at phase.Closed w w' link link' office office' old new e f p = absurd (cc)
  acts-fit-at (phase.Wanted s) w w' link link' office office' old new e f p = asks-and-fit w w' link link' office office' old new (subst IsAsking (sym e) tt) f p
  acts-fit-at (phase.Stamped s stamp) w w' link link' office office' old new e f p = dials-fit r i o w w' link link' old new (ap is_stamped e) p.1
  acts-fit-at (phase.Requested s stamp) w w' link link' office office' old new e f p = waits-fit i w w' link link' (subst IsRequested (sym e) tt) f p.1.1
  acts-fit-at (phase.Accepted s stamp) w w' link link' office office' old new e f p =
      else-fit p.heard w p.after w' link p.held link' office office' old new (subst IsAsking (sym e) tt) f p.hears p.else_asks
  acts-fit-at phase.Opened w w' link link' office office' old new e f p = absurd (cc)
  acts-fit-at (phase.Streaming sent) w w' link link' office office' old new e f p = absurd (cc)
  acts-fit-at phase.Closing w w' link link' office office' old new e f p = absurd (cc)
  acts-fit-at phase.Finished w w' link link' office office' old new e f p = absurd (cc)
  acts-fit-at phase.Completed w w' link link' office office' old new e f p = absurd (cc)
  acts-fit-at (phase.Failed why) w w' link link' office office' old new e f p = absurd (cc)

-- HOW A STEP ENDS

unlinked : (p : Phase) → keeps_link p ≡ false → fits_in p true ≡ true → fits_in p false ≡ true
unlinked phase.Closed k f = f
unlinked (phase.Wanted s) k f = refl
unlinked (phase.Stamped s stamp) k f = refl
unlinked (phase.Requested s stamp) k f = cc
unlinked (phase.Accepted setup.Create stamp) k f = f
unlinked (phase.Accepted setup.Append stamp) k f = cc
unlinked (phase.Accepted setup.AppendRecovery stamp) k f = cc
unlinked (phase.Accepted setup.StreamRecovery stamp) k f = cc
unlinked (phase.Accepted setup.CloseRecovery stamp) k f = refl
unlinked phase.Opened k f = f
unlinked (phase.Streaming sent) k f = f
unlinked phase.Closing k f = f
unlinked phase.Finished k f = f
unlinked phase.Completed k f = f
unlinked (phase.Failed why) k f = f

-- A connection that the writer doesn't have was given up.
abbrev pub IsSettled : {I O : Type 0} → Phase → Option (Link I O) → Type 0
IsSettled p link = keeps_link p ≡ false → link ≡ None

module _ {R I O : Type 0} (r : roads.Ghosts R I O) (i : link_in.Ghosts I) (o : link_out.Ghosts O) where
  pub settled-at : (b : Bool) (p : Phase) (link link' : Option (Link I O)) (old new : R) → keeps_link p ≡ b → Settles r i o b link link' old new → IsSettled p link'
  settled-at true p link link' old new k s h = cc
  settled-at false p None link' old new k s h = s.0
  settled-at false p (Some l) link' old new k s h = s.0

  pub kept-fits-at : (b : Bool) (p : Phase) (link link' : Option (Link I O)) (old new : R) → keeps_link p ≡ b → fits_in p (is_some link) ≡ true → Settles r i o b link link' old new → fits_in p (is_some link') ≡ true
  kept-fits-at true p link link' old new k f s = rw s.0 f
  kept-fits-at false p None link' old new k f s = rw s.0 f
  kept-fits-at false p (Some l) link' old new k f s = rw s.0 (unlinked p k f)

moved-fit : (I O : Type 0) (b : Bool) (p : Phase) (linked : Bool) → fits_in p linked ≡ true → StillFits {I = I} {O = O} p linked (moved_if b)
moved-fit I O true p linked f = f
moved-fit I O false p linked f = f

failed-fit : (I O : Type 0) (f : Failure) (p : Phase) (linked : Bool) → StillFits {I = I} {O = O} p linked (step.Ended (failed_as f))
failed-fit I O (failure.Abandoned member) p linked = tt
failed-fit I O (failure.AllBad member) p linked = tt
failed-fit I O (failure.Lost recovery) p linked = tt
failed-fit I O (failure.Refused why) p linked = tt

streams-fit : {I O : Type 0} → (p : Phase) (old new : Option (Link I O)) (result : RebuildStep I O) → Streams old new result → StillFits p (is_some new) result
streams-fit p None new result s = absurd s
streams-fit p (Some l) new result s = rw s.1 tt

sees-fit : {I O : Type 0} → (s : Setup) (stamp : Stamp) (w : WriterRecord) (x : Looked) (l : Link I O) (result : RebuildStep I O) → Sees w l x result → StillFits (phase.Requested s stamp) true result
sees-fit s stamp w looked.Memory l result e = rw e refl
sees-fit s stamp w looked.Known l result e = rw e (moved-fit _ _ _ (phase.Requested s stamp) true refl)

awaits-fit : {I O : Type 0} → (i : link_in.Ghosts I) (s : Setup) (stamp : Stamp) (w : WriterRecord) (old new : Option (Link I O)) (result : RebuildStep I O) → Awaits i w old new result → StillFits (phase.Requested s stamp) (is_some new) result
awaits-fit i s stamp w None None result p = absurd p
awaits-fit i s stamp w None (Some b) result p = absurd p
awaits-fit i s stamp w (Some a) None result p = absurd p
awaits-fit i s stamp w (Some a) (Some b) result p = sees-fit s stamp w p.found b result p.sees

accepted-fit : {I O : Type 0} → (s : Setup) (stamp : Stamp) (old new : Option (Link I O)) (result : RebuildStep I O) → leads_in (phase.Accepted s stamp) (is_some old) ≡ true → IsSettled (phase.Accepted s stamp) old
    → ReportsAccepted s old new result → StillFits (phase.Accepted s stamp) (is_some new) result
accepted-fit setup.Create stamp old new result h q e = streams-fit (phase.Accepted setup.Create stamp) old new result e
accepted-fit setup.Append stamp old new result h q e = rw (e.0, e.1) h
accepted-fit setup.AppendRecovery stamp old new result h q e = rw (e.0, e.1) h
accepted-fit setup.StreamRecovery stamp old new result h q e = rw (e.0, e.1) h
accepted-fit setup.CloseRecovery stamp old new result h q e = rw (e.0, e.1, q refl) refl

reports-fit-at : {I O : Type 0} → (i : link_in.Ghosts I) (p : Phase) (w : WriterRecord) (old new : Option (Link I O)) (result : RebuildStep I O) → leads_in p (is_some old) ≡ true → IsSettled p old
    → ReportsAt i p w old new result → StillFits p (is_some new) result
reports-fit-at i phase.Closed w old new result h q e = absurd (cc)
reports-fit-at i (phase.Wanted s) w old new result h q e = rw (e.0, e.1, q refl) (moved-fit _ _ _ (phase.Wanted s) false refl)
reports-fit-at i (phase.Stamped s stamp) w old new result h q e = rw (e.0, e.1) (moved-fit _ _ _ (phase.Stamped s stamp) (is_some old) refl)
reports-fit-at i (phase.Requested s stamp) w old new result h q e = awaits-fit i s stamp w old new result e
reports-fit-at i (phase.Accepted s stamp) w old new result h q e = accepted-fit s stamp old new result h q e
reports-fit-at i phase.Opened w old new result h q e = streams-fit phase.Opened old new result e
reports-fit-at i (phase.Streaming sent) w old new result h q e = streams-fit (phase.Streaming sent) old new result e
reports-fit-at i phase.Closing w old new result h q e = absurd (cc)
reports-fit-at i phase.Finished w old new result h q e = rw e.1 tt
reports-fit-at i phase.Completed w old new result h q e = absurd (cc)
reports-fit-at i (phase.Failed f) w old new result h q e = rw e.1 (failed-fit _ _ f (phase.Failed f) (is_some new))

-- After its report a step is followed by another, unless the setup has ended.
pub reports-fit : {I O : Type 0} → (i : link_in.Ghosts I) (x : Acted) (w : WriterRecord) (old new : Option (Link I O)) (result : RebuildStep I O) → leads_in w.phase (is_some old) ≡ true → IsSettled w.phase old
    → (x ≡ acted.Memory → fits_in w.phase (is_some old) ≡ true) → Reports i x w old new result → StillFits w.phase (is_some new) result
reports-fit i acted.Memory w old new result h q f e = rw (e.0, e.1) (f refl)
reports-fit i acted.Moved w old new result h q f e = reports-fit-at i w.phase w old new result h q e
reports-fit i acted.Idle w old new result h q f e = reports-fit-at i w.phase w old new result h q e
