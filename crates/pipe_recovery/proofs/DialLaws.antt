-- How the first member is reached, by what the parts of it say.
use Rattle.std.proofs.Common.{◌≡◌, ℕ, Bool, true, false, Option, Some, None, IfSome, Ok, Err, is_some, inl, inr, refl, sym, subst, ◌∙◌}
use Rattle.std.specs.Prelude.{IsErrOf}
use Rattle.hd_base.specs.Channels.{Plain}
use Rattle.hd_base.specs.declared.ends.Conn.{Conn}
use Rattle.hd_base.specs.declared.ends.RoadError.TheVariants.{NotListening}
use Rattle.hd_base.specs.declared.links.LinkIn as link_in
use Rattle.hd_base.specs.declared.links.LinkOut as link_out
use Rattle.hd_base.specs.declared.numbers.NodeId.{NodeId}
use Rattle.hd_base.specs.declared.roads.Roads as roads
use Rattle.link_pieces.specs.Roads.{IsDialled}
use Rattle.op_headers.specs.declared.ops.Op.{Op}
use Rattle.writer_core.specs.declared.actions.Action.{Action}
use Rattle.writer_core.specs.declared.actions.Action.TheVariants as action
use Rattle.writer_core.specs.declared.records.WriterRecord.{WriterRecord}
use Rattle.writer_core.specs.Transitions.{Step, NextGives}
use Rattle.pipe_recovery.specs.declared.acting.Acted.{Acted}
use Rattle.pipe_recovery.specs.declared.dialling.Opened.TheVariants as opened
use Rattle.pipe_recovery.specs.declared.links.Link.{Link}
use Rattle.pipe_recovery.specs.Hearing.{HeardState, nothing_heard}
use Rattle.pipe_recovery.specs.Dialling.{Opens, Reaches, DialsBy, Dials}

-- A dial that was answered is of a port on which somebody listens.
heard_by : {T : Type 0} (x : T) (p : Plain) (port : ℕ) (listens : Bool) → p.listening port ≡ listens → (p.listening port ≡ false → IsErrOf (Ok x) NotListening) → p.listening port ≡ true
heard_by x p port true is h = is
heard_by x p port false is h = absurd (no_error (h is))
  where
    no_error : IsErrOf (Ok x) NotListening → ⊥
    no_error k = let e : Ok x ≡ Err NotListening = k in cc

listened : {T : Type 0} (x : T) (plain : Option Plain) (port : ℕ) → IfSome plain (λ p. p.listening port ≡ false → IsErrOf (Ok x) NotListening) → IfSome plain (λ p. p.listening port ≡ true)
listened x None port h = tt
listened x (Some p) port h = heard_by x p port (p.listening port) refl h

module _ {R I O : Type 0} (r : roads.Ghosts R I O) (i : link_in.Ghosts I) (o : link_out.Ghosts O) where
  -- No end was kept, and a dial was answered.
  pub opens-new : (port : ℕ) (link : Option (Link I O)) (old new : R) (end : Conn I O) (heard : HeardState) → is_some link ≡ false → IfSome (r.plain old) (λ p. p.listening port ≡ false → IsErrOf (Ok end) NotListening) → IsDialled r i o port old new end → heard ≡ nothing_heard
      → Opens r i o port link (Some (record { end = end; heard = heard; asked = false })) old new opened.Answered
  opens-new port None old new end heard h never d q = record { end = end; listening = listened end (r.plain old) port never; dialled = d; is = rw q refl }
  opens-new port (Some l) old new end heard h never d q = cc

  -- The own step dials this node with this request.
  pub dials-so : (s : Step) (a : Action) (to : NodeId) (op : Op) (w x w' : WriterRecord) (link link' : Option (Link I O)) (old new : R) (result : Acted) → NextGives s w a x → a ≡ action.Dial to op
      → Reaches r i o to op x w' link link' old new result → Dials r i o s w w' link link' old new result
  dials-so s a to op w x w' link link' old new result (inl m) is p = let no : action.Memory ≡ action.Dial to op = sym m.0 ∙ is in cc
  dials-so s a to op w x w' link link' old new result (inr m) is p =
      inr (subst (λ y. DialsBy r i o y s.writer w' link link' old new result) (sym is ∙ m.0) (rw m.1 at p))
