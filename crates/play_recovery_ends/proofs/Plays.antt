-- What each line of a script keeps of the primaries of its play.
use Rattle.std.proofs.Common.{◌≡◌, ◌<◌, arith, ℕ, zero, suc, ◌⊎◌, inl, inr, Bool, true, false, cond, List, [], ◌∷◌, ◌++◌, map, length, slice_get, Option, Some, None, IfSome, refl, sym, ap, ◌∙◌, subst, append-nil, append_assoc, length-append, eqb-true}
use Rattle.std.specs.Prelude.{◌==◌, ◌%◌, option_map}
use Rattle.std.proofs.lemmas.Bool.{false≢true}
use Rattle.std.proofs.lemmas.Option.{none-some, same_Some}
use Rattle.hd_base.specs.declared.numbers.BlockId.{BlockId}
use Rattle.hd_base.specs.declared.numbers.NodeId.{NodeId}
use Rattle.script_lang.specs.declared.instructions.Instruction.{Instruction}
use Rattle.script_lang.specs.declared.instructions.Instruction.TheVariants as says
use Rattle.script_lang.specs.declared.instructions.ScriptLine.{ScriptLine}
use Rattle.script_lang.specs.declared.instructions.StepEvent.{StepEvent}
use Rattle.script_lang.specs.declared.instructions.StepEvent.TheVariants as step
use Rattle.script_lang.specs.Fits.{Before, after}
use Rattle.world.specs.declared.events.Direction.TheVariants as direction
use Rattle.world.specs.declared.events.Event.{Event}
use Rattle.world.specs.declared.events.Event.TheVariants as event
use Rattle.world.specs.Parts.{Leading, leads}
use Rattle.world.specs.Safe.{Has}
use Rattle.world.specs.Worlds.{World, start}
use Rattle.world.specs.Clients.{are_members}
use Rattle.world.specs.Connections.{is_alive, place_of}
use Rattle.world.specs.Events.{happens, run}
use Rattle.world_laws.specs.Placing.{Placed}
use Rattle.world_laws.proofs.FactTables.{and-left}
use Rattle.world_laws.proofs.PlacedLaws.{happens-placed, all-placed}
use Rattle.world_laws.proofs.RunLaws.{runs-join}
use Rattle.world_orders.proofs.Kept.{eqb-itself}
use Rattle.play_model.specs.declared.dues.Due.{Due}
use Rattle.play_model.specs.declared.dues.Due.TheVariants as due
use Rattle.play_model.specs.declared.recoveries.Recovery.{Recovery}
use Rattle.play_model.specs.Draws.{drawn, happened, advanced, drawn_from, draw, draws, Settles}
use Rattle.play_model.specs.Dues.{dues, is_due}
use Rattle.play_model.specs.Faults.{events_with, befall_events, befalls, number_at, write_node}
use Rattle.play_model.specs.Laws.{RecoveryAmong}
use Rattle.play_model.specs.Lines.{pipeline_conn, step_due, stepped, cut_at, stopped, stop_at, may_start, start_at, PlaysLine, PlaysLines}
use Rattle.play_model.specs.Recoveries.{recovery_at, stopped_at}
use Rattle.play_model.specs.States.{PlayState, world_of, recovering}
use Rattle.play_model.proofs.ListedLemmas.{listed_due}
use Rattle.play_scripts.specs.Fitting.{WordsFit, LinesFit}
use Rattle.play_scripts.specs.Numbering.{NumbersDiffer}
use Rattle.world_recovery_ends.proofs.Leading.{mapped-at}
use Rattle.world_recovery_ends.proofs.Lives.{StopsAt, happens-lives}
use Rattle.play_recovery_ends.specs.Endings.{PlaysTo}
use Rattle.play_recovery_ends.proofs.Worlds.{LedBy, AreLed, Stops, stopped-in, Sound, happens-led, begins-none, sound-event, sound-with, due-sound, failed-sound, untold-beside}

-- LISTS

has-front : {A : Type 0} (xs ys : List A) (x : A) → Has xs x → Has (xs ++ ys) x
has-front {A} xs ys x h = record { place = h.place; there = go xs h.place h.there }
  where
    go : (zs : List A) (k : ℕ) → slice_get zs k ≡ Some x → slice_get (zs ++ ys) k ≡ Some x
    go [] k e = absurd (none-some x e)
    go (z ∷ zs) zero e = e
    go (z ∷ zs) (suc k) e = go zs k e

has-behind : {A : Type 0} (xs ys : List A) (x : A) → Has ys x → Has (xs ++ ys) x
has-behind [] ys x h = h
has-behind (z ∷ zs) ys x h =
    let b = has-behind zs ys x h in
    record { place = suc b.place; there = b.there }

has-last : {A : Type 0} (xs : List A) (x : A) → Has (xs ++ x ∷ []) x
has-last [] x = record { place = 0; there = refl }
has-last (y ∷ ys) x =
    let h = has-last ys x in
    record { place = suc h.place; there = h.there }

has-more : {A : Type 0} (xs : List A) (y x : A) → Has (xs ++ y ∷ []) x → Has xs x ⊎ (y ≡ x)
has-more {A} xs y x h = go xs h.place h.there
  where
    go : (zs : List A) (k : ℕ) → slice_get (zs ++ y ∷ []) k ≡ Some x → Has zs x ⊎ (y ≡ x)
    go [] zero e = inr (same_Some y x e)
    go [] (suc k) e = absurd (none-some x e)
    go (z ∷ zs) zero e = inl (record { place = 0; there = e })
    go (z ∷ zs) (suc k) e = behind (go zs k e)
      where
        behind : Has zs x ⊎ (y ≡ x) → Has (z ∷ zs) x ⊎ (y ≡ x)
        behind (inl i) = inl (record { place = suc i.place; there = i.there })
        behind (inr q) = inr q

has-map : {A B : Type 0} (f : A → B) (xs : List A) (x : A) → Has xs x → Has (map f xs) (f x)
has-map {A} {B} f xs x h = record { place = h.place; there = go xs h.place h.there }
  where
    go : (zs : List A) (k : ℕ) → slice_get zs k ≡ Some x → slice_get (map f zs) k ≡ Some (f x)
    go [] k e = absurd (none-some x e)
    go (z ∷ zs) zero e = ap (λ (a : A). Some (f a)) (same_Some z x e)
    go (z ∷ zs) (suc k) e = go zs k e

-- RUNNING

-- a node runs on where it doesn't stop
runs-on : (w : World) (e : Event) (n : ℕ) → (StopsAt e n → ⊥) → w.running n ≡ true → (happens w e).running n ≡ true
runs-on w e n none runs = go (is_alive (happens w e) (place_of w n)) refl
  where
    lives : is_alive w (place_of w n) ≡ true
    lives = rw runs (eqb-itself (w.lives n))

    go : (b : Bool) → is_alive (happens w e) (place_of w n) ≡ b → (happens w e).running n ≡ true
    go true q = and-left ((happens w e).running n) _ q
    go false q = absurd (none ((happens-lives w e).stops (place_of w n) lives q))

-- STOPS

either-members : (b : Bool) (r : Recovery) → (cond b (record r { may_begin = false }) r).members ≡ r.members
either-members true r = refl
either-members false r = refl

either-primary : (b : Bool) (r : Recovery) → (cond b (record r { may_begin = false }) r).primary ≡ r.primary
either-primary true r = refl
either-primary false r = refl

either-node : (b : Bool) (r : Recovery) → (cond b (record r { may_begin = false }) r).node ≡ r.node
either-node true r = refl
either-node false r = refl

-- Where a node has stopped, the primaries there that haven't begun never do.
stopped-sound : (rs : List Recovery) (w : World) (node : NodeId) → Placed w → Sound rs w → Sound (map (stopped_at node) rs) (happens w (event.Stop node))
stopped-sound rs w node p s = record {
  untold = untold-beside w (event.Stop node) refl s.untold;
  led = record { each = λ i l is. led-at i l ((happens-led rs w (event.Stop node) p s.led (begins-none rs w (event.Stop node) (λ n q. q))).each i l is) };
  members = λ r has. (let m = mapped-at (stopped_at node) rs has.place r has.there in
      ap (λ (x : Recovery). are_members x.members) (sym m.is) ∙ ap are_members (either-members (m.from.node.0 == node.0) m.from) ∙ s.members m.from (record { place = has.place; there = m.there }));
  runs = λ r has may. (let m = mapped-at (stopped_at node) rs has.place r has.there in
      subst (λ (x : Recovery). (happens w (event.Stop node)).running x.node.0 ≡ true) m.is
      (on m.from (record { place = has.place; there = m.there }) (m.from.node.0 == node.0) refl (ap (λ (x : Recovery). x.may_begin) m.is ∙ may)));
}
  where
    led-at : (i : ℕ) (l : Leading) → LedBy rs i l → LedBy (map (stopped_at node) rs) i l
    led-at i l b = record {
      recovery = stopped_at node b.recovery;
      has = has-map (stopped_at node) rs b.recovery b.has;
      number = either-primary (b.recovery.node.0 == node.0) b.recovery ∙ b.number;
      node = b.node ∙ ap (λ (n : NodeId). n.0) (sym (either-node (b.recovery.node.0 == node.0) b.recovery));
    }

    on : (r : Recovery) → Has rs r → (b : Bool) → (r.node.0 == node.0) ≡ b → (cond b (record r { may_begin = false }) r).may_begin ≡ true → (happens w (event.Stop node)).running (cond b (record r { may_begin = false }) r).node.0 ≡ true
    on r has true q may = cc
    on r has false q may = runs-on w (event.Stop node) r.node.0 (λ z. false≢true (sym q ∙ (ap (λ (n : ℕ). n == node.0) z ∙ eqb-itself node.0))) (s.runs r has may)

-- ONE PLAY

instruction-node : (b c : BlockId) (n m : NodeId) (xs ys : List NodeId) → says.Recover b n xs ≡ says.Recover c m ys → n ≡ m
instruction-node b c n m xs ys e = cc

at-front : {A : Type 0} (front : List A) (x : A) (rest : List A) → slice_get (front ++ x ∷ rest) (length front) ≡ Some x
at-front [] x rest = refl
at-front (y ∷ front) x rest = at-front front x rest

module _ (blocks : List ℕ) (lines : List ScriptLine) (old : PlayState) where
  -- The line that asks for a recovery, one of the first lines, so many, and the play that came to it. Where the primary may no
  -- longer begin, its node didn't run then, or has stopped since; and where it leads at a node that doesn't live, that has
  -- stopped since.
  pub record Origin (far : ℕ) (p : PlayState) (r : Recovery) : Type 0 where
    pub front : List ScriptLine
    pub line : ScriptLine
    pub rest : List ScriptLine
    pub parts : front ++ line ∷ rest ≡ lines
    pub early : length front < far
    pub taken : PlayState
    pub came : PlaysTo blocks front old taken
    pub number_is : line.number ≡ r.primary
    pub block : BlockId
    pub members : List NodeId
    pub says_so : line.instruction ≡ says.Recover block r.node members
    pub since : List Event
    pub joins : taken.events ++ since ≡ p.events
    pub idle : r.may_begin ≡ false → ((world_of taken).running r.node.0 ≡ false) ⊎ Has since (event.Stop r.node)
    pub stops : (l : Leading) → (world_of p).primaries r.primary ≡ leads l → is_alive (world_of p) l.at ≡ false → Has since (event.Stop r.node)

  pub record Playing (far : ℕ) (p : PlayState) : Type 0 where
    pub sound : Sound p.recoveries (world_of p)
    pub origins : (r : Recovery) → Has p.recoveries r → Origin far p r

  -- so it is where more lines were played
  origin-further : (far : ℕ) (p : PlayState) (r : Recovery) → Origin far p r → Origin (suc far) p r
  origin-further far p r o = record {
    front = o.front;
    line = o.line;
    rest = o.rest;
    parts = o.parts;
    early = omega (arith, o.early);
    taken = o.taken;
    came = o.came;
    number_is = o.number_is;
    block = o.block;
    members = o.members;
    says_so = o.says_so;
    since = o.since;
    joins = o.joins;
    idle = o.idle;
    stops = o.stops;
  }

  playing-further : (far : ℕ) (p : PlayState) → Playing far p → Playing (suc far) p
  playing-further far p h = record { sound = h.sound; origins = λ r has. origin-further far p r (h.origins r has) }

  -- what holds at the end, and nothing is due
  pub record Ended (end : PlayState) : Type 0 where
    pub far : ℕ
    pub playing : Playing far end
    pub settled : dues blocks end ≡ []

-- One of several lines whose numbers differ, of which the first ones were played, so many.
module _ (blocks : List ℕ) (lines : List ScriptLine) (old : PlayState) (differ : NumbersDiffer lines) (far : ℕ) where
  abbrev From : PlayState → Recovery → Type 0
  From p r = Origin blocks lines old far p r

  abbrev Going : PlayState → Type 0
  Going p = Playing blocks lines old far p

  -- these events happen, and no recovery joins
  record Extends (p q : PlayState) (es : List Event) : Type 0 where
    nodes : q.nodes ≡ p.nodes
    events : q.events ≡ p.events ++ es
    recoveries : q.recoveries ≡ p.recoveries

  world-after : (p q : PlayState) (es : List Event) → q.nodes ≡ p.nodes → q.events ≡ p.events ++ es → world_of q ≡ run (world_of p) es
  world-after p q es n e = (λ j. run (start (n j)) (e j)) ∙ runs-join (start p.nodes) p.events es

  placed : (p : PlayState) → Placed (world_of p)
  placed p = all-placed p.nodes p.events

  -- a line of a number stands at one place
  same-place : (p q : PlayState) (a b : Recovery) → (o : From p a) → (x : From q b) → a.primary ≡ b.primary → length o.front ≡ length x.front
  same-place p q a b o x e = differ (length o.front) (length x.front) o.line x.line
      (ap (λ (ls : List ScriptLine). slice_get ls (length o.front)) (sym o.parts) ∙ at-front o.front o.line o.rest)
      (ap (λ (ls : List ScriptLine). slice_get ls (length x.front)) (sym x.parts) ∙ at-front x.front x.line x.rest)
      (o.number_is ∙ e ∙ sym x.number_is)

  -- so recoveries of one number are at one node
  same-node : (p : PlayState) (a b : Recovery) → From p a → From p b → a.primary ≡ b.primary → a.node ≡ b.node
  same-node p a b o x e =
      let at-one : slice_get lines (length o.front) ≡ Some o.line = ap (λ (ls : List ScriptLine). slice_get ls (length o.front)) (sym o.parts) ∙ at-front o.front o.line o.rest in
      let at-other : slice_get lines (length x.front) ≡ Some x.line = ap (λ (ls : List ScriptLine). slice_get ls (length x.front)) (sym x.parts) ∙ at-front x.front x.line x.rest in
      let line : o.line ≡ x.line = same_Some o.line x.line (sym at-one ∙ ap (slice_get lines) (same-place p p a b o x e) ∙ at-other) in
      instruction-node o.block x.block a.node b.node o.members x.members (sym o.says_so ∙ ap (λ (l : ScriptLine). l.instruction) line ∙ x.says_so)

  -- The origin of a recovery after these events, of which it is given whether its primary may begin.
  origin-with : (p q : PlayState) (es : List Event) (r : Recovery) (may : Bool) → Going p → q.nodes ≡ p.nodes → q.events ≡ p.events ++ es → AreLed p.recoveries (run (world_of p) es) → (o : From p r)
      → (may ≡ false → ((world_of o.taken).running r.node.0 ≡ false) ⊎ Has (o.since ++ es) (event.Stop r.node)) → From q (record r { may_begin = may })
  origin-with p q es r may h n e led o idle = record {
    front = o.front;
    line = o.line;
    rest = o.rest;
    parts = o.parts;
    early = o.early;
    taken = o.taken;
    came = o.came;
    number_is = o.number_is;
    block = o.block;
    members = o.members;
    says_so = o.says_so;
    since = o.since ++ es;
    joins = sym (append_assoc o.taken.events o.since es) ∙ ap (λ (xs : List Event). xs ++ es) o.joins ∙ sym e;
    idle = idle;
    stops = λ l is dead. (let v = world-after p q es n e in
        let now : (run (world_of p) es).primaries r.primary ≡ leads l = subst (λ (w : World). w.primaries r.primary ≡ leads l) v is in
        let gone : is_alive (run (world_of p) es) l.at ≡ false = subst (λ (w : World). is_alive w l.at ≡ false) v dead in
        go l now (stopped-in (world_of p) es r.primary l (placed p) now gone));
  }
    where
      there : (l : Leading) → LedBy p.recoveries r.primary l → l.at.node ≡ r.node.0
      there l b = b.node ∙ ap (λ (m : NodeId). m.0) (same-node p b.recovery r (h.origins b.recovery b.has) o b.number)

      go : (l : Leading) → (run (world_of p) es).primaries r.primary ≡ leads l → (((world_of p).primaries r.primary ≡ leads l) × (is_alive (world_of p) l.at ≡ false)) ⊎ Stops es l.at.node → Has (o.since ++ es) (event.Stop r.node)
      go l now (inl x) = has-front o.since es (event.Stop r.node) (o.stops l x.0 x.1)
      go l now (inr s) =
          let same : s.node ≡ r.node = ap (λ (m : ℕ). record { 0 = m }) (sym s.is ∙ there l (led.each r.primary l now)) in
          has-behind o.since es (event.Stop r.node) (subst (λ (m : NodeId). Has es (event.Stop m)) same s.has)

  origin-later : (p q : PlayState) (es : List Event) (r : Recovery) → Going p → q.nodes ≡ p.nodes → q.events ≡ p.events ++ es → AreLed p.recoveries (run (world_of p) es) → From p r → From q r
  origin-later p q es r h n e led o = origin-with p q es r r.may_begin h n e led o (λ b. go (o.idle b))
    where
      go : ((world_of o.taken).running r.node.0 ≡ false) ⊎ Has o.since (event.Stop r.node) → ((world_of o.taken).running r.node.0 ≡ false) ⊎ Has (o.since ++ es) (event.Stop r.node)
      go (inl d) = inl d
      go (inr x) = inr (has-front o.since es (event.Stop r.node) x)

  extends-playing : (p q : PlayState) (es : List Event) → Going p → Extends p q es → Sound p.recoveries (run (world_of p) es) → Going q
  extends-playing p q es h x s = record {
    sound = subst (λ (rs : List Recovery). Sound rs (world_of q)) (sym x.recoveries) (subst (Sound p.recoveries) (sym (world-after p q es x.nodes x.events)) s);
    origins = λ r has. origin-later p q es r h x.nodes x.events s.led (h.origins r (subst (λ (rs : List Recovery). Has rs r) x.recoveries has));
  }

  -- nothing happens
  same-playing : (p q : PlayState) → q.nodes ≡ p.nodes → q.events ≡ p.events → q.recoveries ≡ p.recoveries → Going p → Going q
  same-playing p q n e r h = extends-playing p q [] h (record { nodes = n; events = e ∙ sym (append-nil p.events); recoveries = r }) h.sound

  -- WHAT BEFALLS

  befalls-playing : (p : PlayState) (d : Due) → is_due (world_of p) p.queues d ≡ true → RecoveryAmong p.recoveries d → Going p → Going (befalls p d)
  unfolding befalls
  befalls-playing p d e among h =
      extends-playing p (befalls p d) (befall_events (world_of p) p.queues p.faults d) h (record { nodes = refl; events = refl; recoveries = refl })
      (go (number_at p.faults (write_node (world_of p) d)))
    where
      go : (n : ℕ) → Sound p.recoveries (run (world_of p) (events_with n (world_of p) p.queues d))
      go zero = due-sound p.recoveries (world_of p) p.queues d (placed p) h.sound e among
      go (suc zero) = failed-sound p.recoveries (world_of p) d (placed p) h.sound
      go (suc (suc n)) = due-sound p.recoveries (world_of p) p.queues d (placed p) h.sound e among

  -- what a word draws
  word-playing : (p : PlayState) (ds : List Due) (word : ℕ) → dues blocks p ≡ ds → Going p → Going (happened (advanced p) (drawn ds word))
  word-playing p ds word e h = go (drawn ds word) refl
    where
      a : Going (advanced p)
      a = same-playing p (advanced p) refl refl refl h

      go : (o : Option Due) → drawn ds word ≡ o → Going (happened (advanced p) o)
      go None q = a
      go (Some x) q =
          let l = listed_due blocks p (word % length ds) x (ap (λ (xs : List Due). slice_get xs (word % length ds)) e ∙ q) in
          befalls-playing (advanced p) x l.is l.recovers a

  drawn-playing : (p : PlayState) (ds : List Due) → dues blocks p ≡ ds → Going p → Going (drawn_from ds p)
  drawn-playing p [] e h = h
  drawn-playing p (d ∷ ds) e h = word-playing p (d ∷ ds) _ e h

  draws-playing : (n : ℕ) (p : PlayState) → Going p → Going (draws blocks n p)
  draws-playing zero p h = h
  draws-playing (suc n) p h = draws-playing n (draw blocks p) (drawn-playing p (dues blocks p) refl h)

  settles-playing : (p q : PlayState) → Settles blocks p q → Going p → Going q
  settles-playing p q s h = subst Going s.drawn_so (draws-playing s.count p h)

  -- ONE STEP

  -- no step of a pipeline is a primary's
  no-recovery : (rs : List Recovery) (w : World) (b : ℕ) (e : StepEvent) → IfSome (step_due w b e) (RecoveryAmong rs)
  no-recovery rs w b step.Writer = tt
  no-recovery rs w b (step.Down place) = go (pipeline_conn w b place)
    where
      go : (o : Option ℕ) → IfSome (option_map (λ c. due.Down (record { 0 = c })) o) (RecoveryAmong rs)
      go None = tt
      go (Some c) = tt
  no-recovery rs w b (step.Ready place) = go (pipeline_conn w b place)
    where
      go : (o : Option ℕ) → IfSome (option_map (λ c. due.Ready (record { 0 = c })) o) (RecoveryAmong rs)
      go None = tt
      go (Some c) = tt
  no-recovery rs w b (step.Up place) = go (pipeline_conn w b place)
    where
      go : (o : Option ℕ) → IfSome (option_map (λ c. due.Up (record { 0 = c })) o) (RecoveryAmong rs)
      go None = tt
      go (Some c) = tt

  stepped-playing : (p : PlayState) (o : Option Due) → IfSome o (RecoveryAmong p.recoveries) → Going p → Going (stepped p o)
  stepped-playing p None n h = h
  stepped-playing p (Some d) n h = go (is_due (world_of p) p.queues d) refl
    where
      go : (b : Bool) → is_due (world_of p) p.queues d ≡ b → Going (cond b (befalls p d) p)
      go true q = befalls-playing p d q n h
      go false q = h

  -- CUTS, STOPS, STARTS

  cut-playing : (p : PlayState) (conn : Option ℕ) (down up : ℕ) → Going p → Going (cut_at p conn down up)
  cut-playing p None down up h = same-playing p (cut_at p None down up) refl (append-nil p.events) refl h
  cut-playing p (Some c) down up h =
      let e : Event = event.Lost (record { 0 = c }) direction.Down down in
      let f : Event = event.Lost (record { 0 = c }) direction.Up up in
      let s = sound-event p.recoveries (world_of p) e (placed p) refl tt (λ i n a at. absurd at) h.sound in
      extends-playing p (cut_at p (Some c) down up) (e ∷ (f ∷ [])) h (record { nodes = refl; events = refl; recoveries = refl })
      (sound-event p.recoveries (happens (world_of p) e) f (happens-placed (world_of p) e (placed p)) refl tt (λ i n a at. absurd at) s)

  started-sound : (rs : List Recovery) (w : World) (node : NodeId) → Placed w → Sound rs w → Sound rs (happens w (event.Restart node []))
  started-sound rs w node p s = sound-with rs w (event.Restart node []) p refl (λ n q. q) (λ r has may. runs-on w (event.Restart node []) r.node.0 (λ q. q) (s.runs r has may)) s

  start-playing : (p : PlayState) (node : NodeId) → Going p → Going (start_at p node)
  start-playing p node h = go (may_start p node)
    where
      go : (b : Bool) → Going (cond b (record p { events = p.events ++ event.Restart node [] ∷ [] }) p)
      go true = extends-playing p (record p { events = p.events ++ event.Restart node [] ∷ [] }) (event.Restart node [] ∷ []) h (record { nodes = refl; events = refl; recoveries = refl })
          (started-sound p.recoveries (world_of p) node (placed p) h.sound)
      go false = h

  origin-stopped : (p : PlayState) (node : NodeId) (r : Recovery) (b : Bool) → (r.node.0 == node.0) ≡ b → Going p → AreLed p.recoveries (happens (world_of p) (event.Stop node)) → From p r → From (stopped p node) (cond b (record r { may_begin = false }) r)
  origin-stopped p node r false q h led o = origin-later p (stopped p node) (event.Stop node ∷ []) r h refl refl led o
  origin-stopped p node r true q h led o = origin-with p (stopped p node) (event.Stop node ∷ []) r false h refl refl led o
      (λ _. inr (subst (λ (n : NodeId). Has (o.since ++ event.Stop node ∷ []) (event.Stop n)) (sym same) (has-last o.since (event.Stop node))))
    where
      same : r.node ≡ node
      same = ap (λ (n : ℕ). record { 0 = n }) (eqb-true r.node.0 node.0 q)

  stopped-playing : (p : PlayState) (node : NodeId) → Going p → Going (stopped p node)
  stopped-playing p node h =
      let led = happens-led p.recoveries (world_of p) (event.Stop node) (placed p) h.sound.led (begins-none p.recoveries (world_of p) (event.Stop node) (λ n q. q)) in
      record {
        sound = subst (Sound (map (stopped_at node) p.recoveries)) (sym (world-after p (stopped p node) (event.Stop node ∷ []) refl refl)) (stopped-sound p.recoveries (world_of p) node (placed p) h.sound);
        origins = λ r has. (let m = mapped-at (stopped_at node) p.recoveries has.place r has.there in
            subst (From (stopped p node)) m.is (origin-stopped p node m.from (m.from.node.0 == node.0) refl h led (h.origins m.from (record { place = has.place; there = m.there }))));
      }

  stop-playing : (p : PlayState) (node : NodeId) → Going p → Going (stop_at p node)
  stop-playing p node h = go ((world_of p).running node.0)
    where
      go : (b : Bool) → Going (cond b (stopped p node) p)
      go true = stopped-playing p node h
      go false = h

  -- A RECOVERY JOINS

  -- no primary of that number leads yet
  none-leads : (p : PlayState) (front : List ScriptLine) (line : ScriptLine) (rest : List ScriptLine) (l : Leading) → front ++ line ∷ rest ≡ lines → length front ≡ far → Going p → (world_of p).primaries line.number ≡ leads l → ⊥
  none-leads p front line rest l parts is h led =
      let b = h.sound.led.each line.number l led in
      let o = h.origins b.recovery b.has in
      let same : length o.front ≡ length front = differ (length o.front) (length front) o.line line
      (ap (λ (ls : List ScriptLine). slice_get ls (length o.front)) (sym o.parts) ∙ at-front o.front o.line o.rest)
      (ap (λ (ls : List ScriptLine). slice_get ls (length front)) (sym parts) ∙ at-front front line rest)
      (o.number_is ∙ b.number) in
      absurd (omega (arith, same, is, o.early))

  recovering-playing : (p : PlayState) (front : List ScriptLine) (line : ScriptLine) (rest : List ScriptLine) (b : BlockId) (node : NodeId) (members : List NodeId) → front ++ line ∷ rest ≡ lines → length front ≡ far → PlaysTo blocks front old p
      → line.instruction ≡ says.Recover b node members → are_members members ≡ true → Going p → Playing blocks lines old (suc far) (recovering p (recovery_at (world_of p) line.number b node members))
  recovering-playing p front line rest b node members parts is came says_so formed h = record {
    sound = record {
      untold = h.sound.untold;
      led = record { each = λ i l led. led-at i l (h.sound.led.each i l led) };
      members = λ r has. member r (has-more p.recoveries (recovery_at (world_of p) line.number b node members) r has);
      runs = λ r has may. run-at r may (has-more p.recoveries (recovery_at (world_of p) line.number b node members) r has);
    };
    origins = λ r has. origin r (has-more p.recoveries (recovery_at (world_of p) line.number b node members) r has);
  }
    where
      led-at : (i : ℕ) (l : Leading) → LedBy p.recoveries i l → LedBy (p.recoveries ++ (recovery_at (world_of p) line.number b node members) ∷ []) i l
      led-at i l x = record { recovery = x.recovery; has = has-front p.recoveries ((recovery_at (world_of p) line.number b node members) ∷ []) x.recovery x.has; number = x.number; node = x.node }

      member : (r : Recovery) → Has p.recoveries r ⊎ ((recovery_at (world_of p) line.number b node members) ≡ r) → are_members r.members ≡ true
      member r (inl x) = h.sound.members r x
      member r (inr e) = ap (λ (x : Recovery). are_members x.members) (sym e) ∙ formed

      run-at : (r : Recovery) → r.may_begin ≡ true → Has p.recoveries r ⊎ ((recovery_at (world_of p) line.number b node members) ≡ r) → (world_of p).running r.node.0 ≡ true
      run-at r may (inl x) = h.sound.runs r x may
      run-at r may (inr e) = subst (λ (x : Recovery). x.may_begin ≡ true → (world_of p).running x.node.0 ≡ true) e (λ m. m) may

      origin : (r : Recovery) → Has p.recoveries r ⊎ ((recovery_at (world_of p) line.number b node members) ≡ r) → Origin blocks lines old (suc far) (recovering p (recovery_at (world_of p) line.number b node members)) r
      origin r (inl x) = origin-further blocks lines old far (recovering p (recovery_at (world_of p) line.number b node members)) r (origin-later p (recovering p (recovery_at (world_of p) line.number b node members)) [] r h refl (sym (append-nil p.events)) h.sound.led (h.origins r x))
      origin r (inr e) = subst (Origin blocks lines old (suc far) (recovering p (recovery_at (world_of p) line.number b node members))) e (record {
        front = front;
        line = line;
        rest = rest;
        parts = parts;
        early = omega (arith, is);
        taken = p;
        came = came;
        number_is = refl;
        block = b;
        members = members;
        says_so = says_so;
        since = [];
        joins = append-nil p.events;
        idle = λ m. inl m;
        stops = λ l led dead. absurd (none-leads p front line rest l parts is h led);
      })

  -- LINES

  abbrev On : PlayState → Type 0
  On q = Playing blocks lines old (suc far) q

  on : (q : PlayState) → Going q → On q
  on q h = playing-further blocks lines old far q h

  line-playing : (p q : PlayState) (front : List ScriptLine) (line : ScriptLine) (rest : List ScriptLine) (nodes : ℕ) (i : Instruction) → line.instruction ≡ i → front ++ line ∷ rest ≡ lines → PlaysTo blocks front old p
      → length front ≡ far → WordsFit nodes i → PlaysLine blocks line.number i p q → Going p → On q
  line-playing p q front line rest nodes (says.Nodes count) is parts came at fits e h = on q (subst Going (sym e) h)
  line-playing p q front line rest nodes (says.Seed seed) is parts came at fits e h = on q (subst Going (sym e) h)
  line-playing p q front line rest nodes (says.Sums b rule) is parts came at fits e h = on q (subst Going (sym e) (same-playing p _ refl refl refl h))
  line-playing p q front line rest nodes (says.Create b members) is parts came at fits e h = on q (subst Going (sym e) (same-playing p _ refl refl refl h))
  line-playing p q front line rest nodes (says.Append b members) is parts came at fits e h = on q (subst Going (sym e) (same-playing p _ refl refl refl h))
  line-playing p q front line rest nodes (says.Write b bytes) is parts came at fits e h = on q (subst Going (sym e) (same-playing p _ refl refl refl h))
  line-playing p q front line rest nodes (says.Fill b count) is parts came at fits e h = on q (subst Going (sym e) (same-playing p _ refl refl refl h))
  line-playing p q front line rest nodes (says.Hflush b) is parts came at fits e h = on q (subst Going (sym e) (same-playing p _ refl refl refl h))
  line-playing p q front line rest nodes (says.Hsync b) is parts came at fits e h = on q (subst Going (sym e) (same-playing p _ refl refl refl h))
  line-playing p q front line rest nodes (says.Close b) is parts came at fits e h = on q (subst Going (sym e) (same-playing p _ refl refl refl h))
  line-playing p q front line rest nodes (says.Read b node offset count) is parts came at fits e h = on q (subst Going (sym e) (same-playing p _ refl refl refl h))
  line-playing p q front line rest nodes (says.Recover b node members) is parts came at fits e h = subst On (sym e) (recovering-playing p front line rest b node members parts at came is fits.1.formed h)
  line-playing p q front line rest nodes (says.Cut b place down up) is parts came at fits e h = on q (subst Going (sym e) (cut-playing p (pipeline_conn (world_of p) b.0 place) down up h))
  line-playing p q front line rest nodes (says.Fault node nth) is parts came at fits e h = on q (subst Going (sym e) (same-playing p _ refl refl refl h))
  line-playing p q front line rest nodes (says.Stop node) is parts came at fits e h = on q (subst Going (sym e) (stop-playing p node h))
  line-playing p q front line rest nodes (says.Start node) is parts came at fits e h = on q (subst Going (sym e) (start-playing p node h))
  line-playing p q front line rest nodes (says.Run count) is parts came at fits e h = on q (subst Going (sym e) (draws-playing count p h))
  line-playing p q front line rest nodes says.Settle is parts came at fits s h = on q (settles-playing p q s h)
  line-playing p q front line rest nodes (says.Step b x) is parts came at fits e h = on q (subst Going (sym e) (stepped-playing p (step_due (world_of p) b.0 x) (no-recovery p.recoveries (world_of p) b.0 x) h))
  line-playing p q front line rest nodes (says.Expect node b state stamp written) is parts came at fits e h = on q (subst Going (sym e) h)

-- ALL LINES

module _ (blocks : List ℕ) (lines : List ScriptLine) (old : PlayState) (differ : NumbersDiffer lines) where
  -- one line more
  plays-more : (front : List ScriptLine) (l : ScriptLine) (from p q : PlayState) → PlaysTo blocks front from p → PlaysLine blocks l.number l.instruction p q → PlaysTo blocks (front ++ l ∷ []) from q
  plays-more [] l from p q e one = (q, (subst (λ (x : PlayState). PlaysLine blocks l.number l.instruction x q) e one, refl))
  plays-more (x ∷ front) l from p q h one = (h.0, (h.1.0, plays-more front l h.0 p q h.1.1 one))

  one-longer : (front : List ScriptLine) (l : ScriptLine) → length (front ++ l ∷ []) ≡ suc (length front)
  one-longer front l = omega (arith, length-append front (l ∷ []))

  pub lines-playing : (before : Before) (front rest : List ScriptLine) (p end : PlayState) → front ++ rest ≡ lines → PlaysTo blocks front old p → LinesFit before rest → Playing blocks lines old (length front) p → PlaysLines blocks rest p end → Ended blocks lines old end
  lines-playing before front [] p end parts came fits h s = record { far = length front; playing = settles-playing blocks lines old differ (length front) p end s h; settled = s.settled }
  lines-playing before front (l ∷ rest) p end parts came fits h plays =
      let q : PlayState = plays.0 in
      lines-playing (after before l.instruction) (front ++ l ∷ []) rest q end (append_assoc front (l ∷ []) rest ∙ parts) (plays-more front l old p q came plays.1.0) fits.1
      (subst (λ (n : ℕ). Playing blocks lines old n q) (sym (one-longer front l)) (line-playing blocks lines old differ (length front) p q front l rest before.nodes l.instruction refl parts came refl fits.0.words plays.1.0 h)) plays.1.1
