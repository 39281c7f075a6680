-- The lower end of a primary's connection takes what stands next: it answers a request, or ends.
use Rattle.std.proofs.Common.{◌≡◌, ℕ, ◌<◌, ◌≤◌, ◌+◌, Bool, true, false, [], ◌∷◌, ◌++◌, length, Option, Some, None, IfSome, Result, Ok, Err, refl, sym, ap, ◌∙◌, subst, arith, length-append}
use Rattle.std.specs.Prelude.{◌==◌, IsSome}
use Rattle.world.specs.OpHeaders.Op.TheVariants as op
use Rattle.world.specs.OpHeaders.RecoveryOp.{RecoveryOp}
use Rattle.world.specs.ReplicaCore.Event.{Event}
use Rattle.world.specs.RecoveryCore.RecoveryReply.{RecoveryReply}
use Rattle.world.specs.RecoveryCore.Members.{Served, answer_of, recovery_event}
use Rattle.world.specs.Parts.{Message, request, packet, ack, response, read_status, recovery_answer, Dialled, Marks, Lower, idle, writes, serves, recovers, ended_below, Break}
use Rattle.world.specs.Worlds.{World, Change, put, downs_with, ups_with, marks_with, apply}
use Rattle.world.specs.Connections.{Next, message, the_end, marks_taken, next_down, down_taken, is_alive}
use Rattle.world.specs.Nodes.{closing, unless_failing, recovery_change, failing_recovery, recovery_request, first_message, next_recovery, lower_down}
use Rattle.world.specs.Events.{changed}
use Rattle.world_laws.proofs.GrowthLaws.{apply-grows}
use Rattle.world_orders.specs.Orders.{Ordered, IsBelow, is_recovery, comes_down, purpose_of, pipeline, reading, recovering}
use Rattle.world_orders.proofs.AllOrdered.{next-found}
use Rattle.world_orders.proofs.Kept.{eqb-itself, sent-here}
use Rattle.world_orders.proofs.Lists.{dialled-before}
use Rattle.world_readings.proofs.AllReads.{first-message}
use Rattle.world_readings.proofs.Giving.{get-within}
use Rattle.world_readings.proofs.Keeping.{put-here, shuts-keep, shuts-marked, shuts-end}
use Rattle.world_recovery_ends.specs.Going.{takes_request}
use Rattle.world_recovery_ends.proofs.Conns.{Fits, CarriesAt, Goes, begins-longer, none-more}

-- WHAT THE LOWER END DOES

-- It has answered a request; or it has shut.
pub data Acts (c : ℕ) (x : Next) (k : Change) : Type 0 where
  answers : (m : Message) → x ≡ message m → k.lower ≡ recovers → length (k.ups c) ≡ 1 → Acts c x k
  shuts : k.lower ≡ ended_below → k.ups c ≡ [] → k.shuts c ≡ true → Acts c x k

pub record ActsAt (c : ℕ) (x : Next) (k : Change) : Type 0 where
  pub at : k.lower_at ≡ c
  pub does : Acts c x k

module _ (w : World) (c : ℕ) where
  closing-acts : (x : Next) → ActsAt c x (closing w c)
  closing-acts x = record { at = refl; does = shuts refl refl (eqb-itself c) }

  unless-acts : (x : Next) (fails : Bool) → IfSome (unless_failing fails (closing w c)) (ActsAt c x)
  unless-acts x true = tt
  unless-acts x false = closing-acts x

  answering : (m : Message) (r : RecoveryOp) (s : Served) (b : Option Break) → ActsAt c (message m) (recovery_change w c r s b)
  answering m r s b = record { at = refl; does = answers m refl refl (ap length (sent-here c (recovery_answer (answer_of s.reply) ∷ []))) }

  failing-acts : (m : Message) (r : RecoveryOp) (e : Result Event RecoveryReply) → IfSome (failing_recovery w c r e) (ActsAt c (message m))
  failing-acts m r (Err said) = tt
  failing-acts m r (Ok e) = answering m r _ _

  request-acts : (m : Message) (r : RecoveryOp) (fails : Bool) → IfSome (recovery_request w c r fails) (ActsAt c (message m))
  request-acts m r true = failing-acts m r (recovery_event r)
  request-acts m r false = answering m r _ _

  first-acts : (m : Message) (answered fails : Bool) → is_recovery m ≡ true → IfSome (first_message w c m answered fails) (ActsAt c (message m))
  first-acts (request (op.Write f)) answered fails e = cc
  first-acts (request (op.Read r)) answered fails e = cc
  first-acts (request (op.Recovery r)) answered fails e = request-acts (request (op.Recovery r)) r fails
  first-acts (request (op.Transfer r)) answered fails e = cc
  first-acts (request (op.Checksum r)) answered fails e = cc
  first-acts (packet p) answered fails e = cc
  first-acts (ack a) answered fails e = cc
  first-acts (response r) answered fails e = cc
  first-acts (read_status s) answered fails e = cc
  first-acts (recovery_answer a) answered fails e = cc

  next-acts : (x : Next) (fails : Bool) → IfSome (next_recovery w c x fails) (ActsAt c x)
  next-acts (message (request (op.Recovery r))) fails = request-acts (request (op.Recovery r)) r fails
  next-acts (message (request (op.Write f))) fails = unless-acts _ fails
  next-acts (message (request (op.Read r))) fails = unless-acts _ fails
  next-acts (message (request (op.Transfer r))) fails = unless-acts _ fails
  next-acts (message (request (op.Checksum r))) fails = unless-acts _ fails
  next-acts (message (packet p)) fails = unless-acts _ fails
  next-acts (message (ack a)) fails = unless-acts _ fails
  next-acts (message (response r)) fails = unless-acts _ fails
  next-acts (message (read_status s)) fails = unless-acts _ fails
  next-acts (message (recovery_answer a)) fails = unless-acts _ fails
  next-acts the_end fails = unless-acts _ fails

  pub lower-acts : (l : Lower) (x : Next) (answered fails : Bool) → takes_request l ≡ true → (l ≡ idle → (m : Message) → x ≡ message m → is_recovery m ≡ true) → IfSome (lower_down l w c x answered fails) (ActsAt c x)
  lower-acts idle (message m) answered fails t first = first-acts m answered fails (first refl m refl)
  lower-acts idle the_end answered fails t first = unless-acts the_end fails
  lower-acts (writes m) x answered fails t first = cc
  lower-acts (serves b s) x answered fails t first = cc
  lower-acts recovers x answered fails t first = next-acts x fails
  lower-acts ended_below x answered fails t first = cc

-- WHICH LOWER ENDS THERE ARE

-- The lower end of a primary's connection is no member's, and serves no read.
pub data IsRecovering (l : Lower) : Type 0 where
  takes : takes_request l ≡ true → IsRecovering l
  ended : l ≡ ended_below → IsRecovering l

pub recovering-lower : (w : World) (c : ℕ) → Ordered w → purpose_of (w.dialled c).upper ≡ recovering → IsRecovering (w.lowers c)
recovering-lower w c g of = go (w.lowers c) refl
  where
    go : (l : Lower) → w.lowers c ≡ l → IsRecovering l
    go idle e = takes refl
    go (writes m) e =
        let is = (subst (IsBelow (w.dialled c).upper (w.down_marks c).taken (w.ups c)) e (g.below c)).writes in
        absurd (differ (sym is ∙ of))
      where
        differ : pipeline ≡ recovering → ⊥
        differ q = cc
    go (serves b s) e =
        let is = (subst (IsBelow (w.dialled c).upper (w.down_marks c).taken (w.ups c)) e (g.below c)).0 in
        absurd (differ (sym is ∙ of))
      where
        differ : reading ≡ recovering → ⊥
        differ q = cc
    go recovers e = takes refl
    go ended_below e = ended refl

-- as many answers as requests
pub even : (l : Lower) (n t : ℕ) (e : Option ℕ) → takes_request l ≡ true → Fits l n t e → n ≡ t
even idle n t e q h = h.0 ∙ sym h.1
even (writes m) n t e q h = cc
even (serves b s) n t e q h = cc
even recovers n t e q h = h
even ended_below n t e q h = cc

-- WHAT COMES OF THE CONNECTION

taken-most : (k : Marks) (x : Next) → k.taken ≤ (marks_taken k x).taken
taken-most k (message m) = omega arith
taken-most k the_end = omega arith

taken-one : (k : Marks) (x : Next) (m : Message) → x ≡ message m → (marks_taken k x).taken ≡ k.taken + 1
taken-one k (message y) m e = refl
taken-one k the_end m e = cc

module _ (w : World) (c : ℕ) (x : Next) (lt : c < w.next_conn) (h : CarriesAt w c) (l : takes_request (w.lowers c) ≡ true) (next : next_down w c ≡ Some x) where
  v : World
  v = down_taken w c x

  t : ℕ
  t = (marks_taken (w.down_marks c) x).taken

  same : length (w.ups c) ≡ (w.down_marks c).taken
  same = even (w.lowers c) (length (w.ups c)) (w.down_marks c).taken (w.up_marks c).end l h.below

  within-taken : t ≤ length (w.downs c)
  unfolding t
  within-taken = go x next
    where
      go : (y : Next) → next_down w c ≡ Some y → (marks_taken (w.down_marks c) y).taken ≤ length (w.downs c)
      go (message m) e = let some = get-within (w.downs c) (w.down_marks c).taken m (next-found (w.downs c) (w.down_marks c) m e) in omega (arith, some)
      go the_end e = h.within

  acted : (k : Change) → ActsAt c x k → (um : Marks) → ((k.shuts c ≡ true) → IsSome um.end) → Fits k.lower (length (w.ups c ++ k.ups c)) t um.end
  unfolding t
  acted k a um shut = go a.does
    where
      go : Acts c x k → Fits k.lower (length (w.ups c ++ k.ups c)) (marks_taken (w.down_marks c) x).taken um.end
      go (answers m e lower one) = subst (λ (y : Lower). Fits y (length (w.ups c ++ k.ups c)) (marks_taken (w.down_marks c) x).taken um.end) (sym lower)
          (omega (arith, length-append (w.ups c) (k.ups c), one, same, taken-one (w.down_marks c) x m e))
      go (shuts lower none s) = subst (λ (y : Lower). Fits y (length (w.ups c ++ k.ups c)) (marks_taken (w.down_marks c) x).taken um.end) (sym lower)
          (omega (arith, ap length (none-more (w.ups c) (k.ups c) none), same, taken-most (w.down_marks c) x), shut s)

  pub acts-goes : (k : Change) → ActsAt c x k → Goes w (apply (down_taken w c x) k) c
  unfolding apply down_taken t
  acts-goes k a =
      let marks = shuts-keep k.shuts (ups_with (down_taken w c x) k) w.up_marks c in
      let here : (c == k.lower_at) ≡ true = subst (λ (n : ℕ). (c == n) ≡ true) (sym a.at) (eqb-itself c) in
      let lower : put w.lowers k.lower_at k.lower c ≡ k.lower = put-here w.lowers k.lower_at k.lower c here in
      let dm : ℕ → Marks = put w.down_marks c (marks_taken (w.down_marks c) x) in
      let mine : (dm c).taken ≡ t = ap (λ (m : Marks). m.taken) (put-here w.down_marks c (marks_taken (w.down_marks c) x) c (eqb-itself c)) in
      let taken : (marks_with k.shuts (downs_with (down_taken w c x) k) dm c).taken ≡ t = (shuts-keep k.shuts (downs_with (down_taken w c x) k) dm c).taken ∙ mine in
      let um : ℕ → Marks = marks_with k.shuts (ups_with (down_taken w c x) k) w.up_marks in
      let longer : length (w.downs c) ≤ length (downs_with (down_taken w c x) k c) = begins-longer (w.downs c) (downs_with (down_taken w c x) k c) ((apply-grows (down_taken w c x) k).downs c) in
      record {
        carries = record {
          below = subst (λ (y : Lower). Fits y (length (w.ups c ++ k.ups c)) (marks_with k.shuts (downs_with (down_taken w c x) k) dm c).taken (um c).end) (sym lower)
              (subst (λ (n : ℕ). Fits k.lower (length (w.ups c ++ k.ups c)) n (um c).end) (sym taken) (acted k a (um c) (λ s. shuts-end k.shuts (ups_with (down_taken w c x) k) w.up_marks c s)));
          within = omega (arith, taken, within-taken, longer);
          marked = shuts-marked k.shuts (ups_with (down_taken w c x) k) w.up_marks c (w.ups c) (omega (arith, length-append (w.ups c) (k.ups c))) h.marked;
          stopped = λ e. marks.end (h.stopped (subst (λ (d : Dialled). is_alive w d.to ≡ false) (dialled-before (down_taken w c x) k c lt) e));
        };
        taken = marks.taken;
        over = marks.over;
        downs = longer;
      }

-- the lower end takes what stands next
pub down-goes : (w : World) (c : ℕ) (x : Next) (answered fails : Bool) → Ordered w → purpose_of (w.dialled c).upper ≡ recovering → c < w.next_conn → CarriesAt w c → next_down w c ≡ Some x
    → IfSome (changed (down_taken w c x) (lower_down (w.lowers c) (down_taken w c x) c x answered fails)) (λ v. Goes w v c)
down-goes w c x answered fails g of lt h next = go (recovering-lower w c g of)
  where
    first : w.lowers c ≡ idle → (m : Message) → x ≡ message m → is_recovery m ≡ true
    first l m e = subst (λ p. comes_down p true m ≡ true) of (g.downs c 0 m (first-message w c x m g next l e))

    each : (o : Option Change) → takes_request (w.lowers c) ≡ true → IfSome o (ActsAt c x) → IfSome (changed (down_taken w c x) o) (λ v. Goes w v c)
    each None t a = tt
    each (Some k) t a = acts-goes w c x lt h t next k a

    go : IsRecovering (w.lowers c) → IfSome (changed (down_taken w c x) (lower_down (w.lowers c) (down_taken w c x) c x answered fails)) (λ v. Goes w v c)
    go (takes t) = each _ t (lower-acts (down_taken w c x) c (w.lowers c) x answered fails t first)
    go (ended e) = subst (λ (l : Lower). IfSome (changed (down_taken w c x) (lower_down l (down_taken w c x) c x answered fails)) (λ v. Goes w v c)) (sym e) tt
