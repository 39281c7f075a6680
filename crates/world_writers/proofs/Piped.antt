-- What members show of a writer's acked bytes, in a world and in later ones.
use Rattle.std.proofs.Common.{◌≡◌, ℕ, ◌<◌, ◌≤◌, ◌⊎◌, inl, inr, Bool, true, false, List, ◌++◌, append-nil, length, Option, Some, None, IfSome, refl, sym, ◌∙◌, ap, subst, arith, eqb-true}
use Rattle.std.specs.Prelude.{◌==◌, if◌then◌else◌}
use Rattle.std.proofs.lemmas.Bool.{eqb-false}
use Rattle.op_headers.specs.Values.{WriteFields}
use Rattle.writer_core.specs.declared.phases.Phase.{Phase}
use Rattle.writer_core.specs.declared.phases.Phase.TheVariants as phase
use Rattle.writer_core.specs.declared.phases.Setup.TheVariants as setup
use Rattle.writer_core.specs.declared.records.WriterRecord.{WriterRecord}
use Rattle.writer_core.specs.Transitions.{is_connected}
use Rattle.hd_base.specs.declared.numbers.NodeId.{NodeId}
use Rattle.hd_base.specs.declared.numbers.Stamp.{Stamp}
use Rattle.world.specs.Parts.{Writing, Answered, Dialled}
use Rattle.world.specs.Worlds.{World, Change, listed, latest_with, past_after, apply}
use Rattle.world.specs.Nodes.{node_of, block_of}
use Rattle.world.specs.Clients.{writing_as}
use Rattle.world_laws.proofs.GrowthLaws.{apply-grows}
use Rattle.world_laws.proofs.FactTables.{if-each, some-weaker}
use Rattle.world_laws.specs.Stamping.{Givens, heard}
use Rattle.world_laws.specs.Carrying.{new_stamp}
use Rattle.world_laws.proofs.Fronts.{front-length}
use Rattle.world_laws.proofs.ByteLeaves.{Facts}
use Rattle.world_laws.proofs.SessionAsides.{Aside}
use Rattle.world_acks.specs.Acking.{Seat, Asked, Seated, Ends}
use Rattle.world_acks.proofs.Seats.{Onward, asked-on, seated-on, node-on}
use Rattle.world_acks.proofs.Granting.{none-latest}
use Rattle.world_writers.specs.Showing.{Asking, not_asked, was_asked, was_answered, asking_in, ShowsAt, Starts}
use Rattle.world_laws.proofs.SetupNodes.{has-split}
use Rattle.world.specs.Safe.{Has}
use Rattle.world_acks.proofs.Turning.{same-asked}
use Rattle.world_writers.specs.Moving.{Reaches}
use Rattle.world_writers.specs.Piping.{setup_stamp, IsPipeline, PipedOf}
use Rattle.world_writers.specs.Settling.{MembersSit, AnswerSits}
use Rattle.world_writers.proofs.Keeping.{is_released, Keeps}
use Rattle.world_writers.proofs.Standing.{Goes, stays, off, on, Turns}

-- FEWER BYTES

seat-less : (w : World) (b s e i m n : ℕ) → m ≤ n → Seat w b s e i n → Seat w b s e i m
seat-less w b s e i m n le h = record { life = h.life; joins = h.joins; born = h.born; shows = λ r a q j lt u. h.shows r a q j (omega (arith, lt, le)) u; told = record { each = λ c id x y at above j lt u. h.told.each c id x y at above j (omega (arith, lt, le)) u }; passes = h.passes }

pub seated-less : (w : World) (f : WriteFields) (i e m n : ℕ) → m ≤ n → Seated w f i e n → Seated w f i e m
seated-less w f i e m n le h = record {
  here = seat-less w (block_of f) (new_stamp f).0 e i m n le h.here;
  below = λ j k x a b. seat-less w (block_of f) (new_stamp f).0 e k m n le (h.below j k x a b);
}

shows-less : (i : Asking) (w : World) (c : ℕ) (f : WriteFields) (e m n : ℕ) → m ≤ n → ShowsAt i w c f e n → ShowsAt i w c f e m
shows-less not_asked w c f e m n le h = tt
shows-less was_asked w c f e m n le h = omega (arith, le, h)
shows-less was_answered w c f e m n le h = seated-less w f (node_of w c) e m n le h

starts-less : (p : Phase) (m n : ℕ) → m ≤ n → Starts p n → Starts p m
starts-less (phase.Stamped setup.Create t) m n le h = omega (arith, le, h)
starts-less (phase.Stamped setup.Append t) m n le h = tt
starts-less (phase.Stamped setup.AppendRecovery t) m n le h = tt
starts-less (phase.Stamped setup.StreamRecovery t) m n le h = tt
starts-less (phase.Stamped setup.CloseRecovery t) m n le h = tt
starts-less phase.Closed m n le h = tt
starts-less (phase.Wanted s) m n le h = tt
starts-less (phase.Requested s t) m n le h = tt
starts-less (phase.Accepted s t) m n le h = tt
starts-less phase.Opened m n le h = tt
starts-less (phase.Streaming sent) m n le h = tt
starts-less phase.Closing m n le h = tt
starts-less phase.Finished m n le h = tt
starts-less phase.Completed m n le h = tt
starts-less (phase.Failed f) m n le h = tt

-- MEMBERS' SEATS

-- of the same stamp and members, and fewer bytes
pub sit-as : (w : World) (b : ℕ) (s t : Stamp) (ms ks : List NodeId) (e m n : ℕ) → t ≡ s → ks ≡ ms → m ≤ n → MembersSit w b s ms e n → MembersSit w b t ks e m
sit-as w b s t ms ks e m n p q le h = record {
  conn = h.conn;
  pipeline = subst (λ (z : Stamp). IsPipeline w.past b z ks h.conn) (sym p) (subst (λ (zs : List NodeId). IsPipeline w.past b s zs h.conn) (sym q) h.pipeline);
  seated = λ f a. seated-less w f (node_of w h.conn) e m n le (h.seated f a);
}

sit-on : (g k : Givens) (t u : Ends) (w v : World) (b : ℕ) (s : Stamp) (ms : List NodeId) (e n : ℕ) → Onward g k t u w v → MembersSit w b s ms e n → MembersSit v b s ms e n
sit-on g k t u w v b s ms e n o h = record {
  conn = h.conn;
  pipeline = record {
    known = omega (arith, p.known, o.conns);
    fields = p.fields;
    asked = asked.first;
    block_is = p.block_is;
    stamp_is = p.stamp_is;
    first = p.first;
    others = p.others;
    are = p.are;
    node = sym (node-on g k t u w v h.conn o p.known) ∙ p.node;
    upper = ap (λ (d : Dialled). d.upper) (o.dialled h.conn p.known) ∙ p.upper;
    targets = p.targets;
  };
  seated = λ f a. subst (λ (x : WriteFields). Seated v x (node_of v h.conn) e n) (same-asked v h.conn p.fields f asked a)
      (subst (λ (m : ℕ). Seated v p.fields m e n) (node-on g k t u w v h.conn o p.known) (seated-on g k t u w v p.fields (node_of w h.conn) e n o (h.seated p.fields (record { first = p.asked }))));
}
  where
    p : IsPipeline w.past b s ms h.conn
    p = h.pipeline

    asked : Asked v.past h.conn p.fields
    asked = asked-on g k t u w v h.conn p.fields o (record { first = p.asked })

pub answer-on : (g k : Givens) (t u : Ends) (w v : World) (a : Answered) → Onward g k t u w v → AnswerSits g w a → AnswerSits k v a
answer-on g k t u w v a o h = record { session = h.session; given = o.given a.block a.stamp h.session h.given; within = omega (arith, h.within, o.written h.session); sit = sit-on g k t u w v a.block (record { 0 = a.stamp }) a.members h.session a.length o h.sit }

-- WRITERS

-- the request of a connection, and what its members show of so many acked bytes
pub record Piped (w : World) (session : ℕ) (asking : Asking) (acked c : ℕ) : Type 0 where
  pub fields : WriteFields
  pub known : c < w.next_conn
  pub asked : Asked w.past c fields
  pub shows : ShowsAt asking w c fields session acked

-- the members of a writer's connection, who show these bytes
pub conn-sits : (w : World) (b : ℕ) (x : WriterRecord) (c : ℕ) {e n : ℕ} → IsPipeline w.past b (setup_stamp x.phase x.committed) x.members c → Piped w e was_answered n c → MembersSit w b (setup_stamp x.phase x.committed) x.members e n
conn-sits w b x c {e} {n} p h = record { conn = c; pipeline = p; seated = λ f a. subst (λ (k : WriteFields). Seated w k (node_of w c) e n) (same-asked w c h.fields f h.asked a) h.shows }

-- what is known of a world's writers
pub record Writers (w : World) : Type 0 where
  pub pipes : (b : ℕ) → PipedOf w b
  pub reaches : (b : ℕ) → Reaches (heard (w.writers b))

pub record Stands (w : World) (b session : ℕ) (x : WriterRecord) (conn : Option ℕ) : Type 0 where
  pub within : x.stream.acked ≤ length (w.written session)
  pub starts : Starts x.phase x.stream.acked
  pub piped : IfSome conn (Piped w session (asking_in x.phase) x.stream.acked)
  pub released : is_released x.phase ≡ true → MembersSit w b (setup_stamp x.phase x.committed) x.members session x.stream.acked

piped-goes : (w : World) (e c m n : ℕ) (p q : Phase) → m ≤ n → Goes p q → Piped w e (asking_in p) n c → Piped w e (asking_in q) m c
piped-goes w e c m n p q le (stays z) h =
    record { fields = h.fields; known = h.known; asked = h.asked; shows = subst (λ (r : Phase). ShowsAt (asking_in r) w c h.fields e m) (sym z) (shows-less (asking_in p) w c h.fields e m n le h.shows) }
piped-goes w e c m n p q le (off z) h = record { fields = h.fields; known = h.known; asked = h.asked; shows = subst (λ (i : Asking). ShowsAt i w c h.fields e m) (sym z.0) tt }
piped-goes w e c m n p q le (on a b s) h = record {
  fields = h.fields;
  known = h.known;
  asked = h.asked;
  shows = subst (λ (i : Asking). ShowsAt i w c h.fields e m) (sym b) (seated-less w h.fields (node_of w c) e m n le (subst (λ (i : Asking). ShowsAt i w c h.fields e n) a h.shows));
}

starts-goes : (p q : Phase) (m n : ℕ) → m ≤ n → Goes p q → Starts p n → Starts q m
starts-goes p q m n le (stays z) h = subst (λ (r : Phase). Starts r m) (sym z) (starts-less p m n le h)
starts-goes p q m n le (off z) h = z.1 m
starts-goes p q m n le (on a b s) h = s m

pub stands-turns : (w : World) (b e : ℕ) (x y : WriterRecord) (conn : Option ℕ) → Turns x y → Keeps x y → Stands w b e x conn → Stands w b e y conn
stands-turns w b e x y conn t k h = record {
  within = omega (arith, t.acked, h.within);
  starts = starts-goes x.phase y.phase y.stream.acked x.stream.acked t.acked t.goes h.starts;
  piped = some-weaker (Piped w e (asking_in x.phase) x.stream.acked) (Piped w e (asking_in y.phase) y.stream.acked) conn (λ c z. piped-goes w e c y.stream.acked x.stream.acked x.phase y.phase t.acked t.goes z) h.piped;
  released = λ r.
      let z = k r in
      sit-as w b (setup_stamp x.phase x.committed) (setup_stamp y.phase y.committed) x.members y.members e y.stream.acked x.stream.acked z.stamp z.members t.acked (h.released z.released);
}

-- with the connection or without
stands-if : (w : World) (d e : ℕ) (x : WriterRecord) (conn : Option ℕ) (b : Bool) → Stands w d e x conn → Stands w d e x (if b then conn else None)
stands-if w d e x conn b h = record {
  within = h.within;
  starts = h.starts;
  piped = if-each (λ (o : Option ℕ). IfSome o (Piped w e (asking_in x.phase) x.stream.acked)) b conn None (λ _. h.piped) (λ _. tt);
  released = h.released;
}

-- LATER WORLDS

shows-on : (i : Asking) (g k : Givens) (t u : Ends) (w v : World) (c : ℕ) (f : WriteFields) (e n : ℕ) → Onward g k t u w v → c < w.next_conn → ShowsAt i w c f e n → ShowsAt i v c f e n
shows-on not_asked g k t u w v c f e n o lt h = tt
shows-on was_asked g k t u w v c f e n o lt h = h
shows-on was_answered g k t u w v c f e n o lt h = subst (λ (m : ℕ). Seated v f m e n) (node-on g k t u w v c o lt) (seated-on g k t u w v f (node_of w c) e n o h)

pub piped-on : (g k : Givens) (t u : Ends) (w v : World) (e : ℕ) (i : Asking) (n c : ℕ) → Onward g k t u w v → Piped w e i n c → Piped v e i n c
piped-on g k t u w v e i n c o h = record {
  fields = h.fields;
  known = omega (arith, h.known, o.conns);
  asked = asked-on g k t u w v c h.fields o h.asked;
  shows = shows-on i g k t u w v c h.fields e n o h.known h.shows;
}

abbrev pub Longer : World → World → Type 0
Longer w v = (e : ℕ) → length (w.written e) ≤ length (v.written e)

pub stands-on : (g k : Givens) (t u : Ends) (w v : World) (b e : ℕ) (x : WriterRecord) (conn : Option ℕ) → Onward g k t u w v → Longer w v → Stands w b e x conn → Stands v b e x conn
stands-on g k t u w v b e x conn o l h = record {
  within = omega (arith, h.within, l e);
  starts = h.starts;
  piped = some-weaker (Piped w e (asking_in x.phase) x.stream.acked) (Piped v e (asking_in x.phase) x.stream.acked) conn (λ c z. piped-on g k t u w v e (asking_in x.phase) x.stream.acked c o z) h.piped;
  released = λ r. sit-on g k t u w v b (setup_stamp x.phase x.committed) x.members e x.stream.acked o (h.released r);
}

pub apply-longer : (w : World) (k : Change) → Longer w (apply w k)
unfolding apply
apply-longer w k = λ e. let b = (apply-grows w k).written e in front-length (w.written e) ((past_after w k).written e) (b.rest, b.joins)

-- THE WRITERS OF A WORLD

pub record Standing (g : Givens) (w : World) : Type 0 where
  pub each : (b : ℕ) → Stands w b (w.latest b) (heard (w.writers b)) (w.writers b).conn
  pub answers : (a : Answered) → Has w.answered a → AnswerSits g w a

-- what a change makes of its writer, and answers
pub record Stood (g k : Givens) (t : Ends) (w : World) (c : Change) : Type 0 where
  pub others : (d : ℕ) → (d ≡ c.writer_at → ⊥) → latest_with w.latest c.stamped d ≡ w.latest d
  pub own : (u : Ends) → Onward g k t u w (apply w c) → Facts k (apply w c) → Stands (apply w c) c.writer_at (latest_with w.latest c.stamped c.writer_at) (heard c.writer) c.writer.conn
  pub answers : IfSome c.answered (AnswerSits g w)

answers-more : (k : Givens) (v : World) (xs : List Answered) (o : Option Answered) → ((a : Answered) → Has xs a → AnswerSits k v a) → IfSome o (AnswerSits k v) → (a : Answered) → Has (xs ++ listed o) a → AnswerSits k v a
answers-more k v xs None h n a q = h a (subst (λ (ys : List Answered). Has ys a) (append-nil xs) q)
answers-more k v xs (Some x) h n a q = go (has-split xs x a q)
  where
    go : Has xs a ⊎ (x ≡ a) → AnswerSits k v a
    go (inl j) = h a j
    go (inr e) = subst (λ (y : Answered). AnswerSits k v y) e n

pub apply-stands : (g k : Givens) (t u : Ends) (w : World) (c : Change) → Standing g w → Onward g k t u w (apply w c) → Facts k (apply w c) → Stood g k t w c → Standing k (apply w c)
unfolding apply
apply-stands g k t u w c h o f s = record {
  each = λ b. at b (b == c.writer_at) refl;
  answers = answers-more k (apply w c) w.answered c.answered (λ a q. answer-on g k t u w (apply w c) a o (h.answers a q))
      (some-weaker (AnswerSits g w) (AnswerSits k (apply w c)) c.answered (λ a q. answer-on g k t u w (apply w c) a o q) s.answers);
}
  where
    at : (b : ℕ) (q : Bool) → (b == c.writer_at) ≡ q
        → Stands (apply w c) b (latest_with w.latest c.stamped b) (heard (if q then c.writer else w.writers b)) (if q then c.writer else w.writers b).conn
    at b true e = subst (λ (i : ℕ). Stands (apply w c) i (latest_with w.latest c.stamped i) (heard c.writer) c.writer.conn) (sym (eqb-true b c.writer_at e)) (s.own u o f)
    at b false e = subst (λ (l : ℕ). Stands (apply w c) b l (heard (w.writers b)) (w.writers b).conn) (sym (s.others b (eqb-false b c.writer_at e)))
        (stands-on g k t u w (apply w c) b (w.latest b) (heard (w.writers b)) (w.writers b).conn o (apply-longer w c) (h.each b))

-- a change that leaves the writers
pub aside-stood : (g : Givens) (t : Ends) (w : World) (c : Change) → Standing g w → Aside w c → Stood g g t w c
aside-stood g t w c h a = record {
  others = λ d _. none-latest w c.stamped d a.stamped;
  own = λ u o f.
      subst (λ (z : Writing). Stands (apply w c) c.writer_at (latest_with w.latest c.stamped c.writer_at) (heard z) z.conn) (sym a.writer)
      (subst (λ (l : ℕ). Stands (apply w c) c.writer_at l (heard (w.writers c.writer_at)) (w.writers c.writer_at).conn) (sym (none-latest w c.stamped c.writer_at a.stamped))
      (stands-on g g t u w (apply w c) c.writer_at (w.latest c.writer_at) (heard (w.writers c.writer_at)) (w.writers c.writer_at).conn o (apply-longer w c) (h.each c.writer_at)));
  answers = subst (λ (x : Option Answered). IfSome x (AnswerSits g w)) (sym a.answered) tt;
}

pub asides-stood : (g : Givens) (t : Ends) (w : World) (o : Option Change) → Standing g w → IfSome o (Aside w) → IfSome o (Stood g g t w)
asides-stood g t w o h a = some-weaker (Aside w) (Stood g g t w) o (λ c z. aside-stood g t w c h z) a

-- the writer of a block comes into a state, with the connection that it had where it still has one
pub record IsTurn (w : World) (b : ℕ) (y : WriterRecord) (c : Change) : Type 0 where
  pub at : c.writer_at ≡ b
  pub stamped : c.stamped ≡ None
  pub writer : c.writer ≡ writing_as y (w.writers b).conn

pub turn-stood : (g : Givens) (t : Ends) (w : World) (b : ℕ) (y : WriterRecord) (c : Change) → IsTurn w b y c → IfSome c.answered (AnswerSits g w) → Stands w b (w.latest b) y (w.writers b).conn → Stood g g t w c
turn-stood g t w b y c i a h = record {
  others = λ d _. none-latest w c.stamped d i.stamped;
  own = λ u o f.
      subst (λ (z : Writing). Stands (apply w c) c.writer_at (latest_with w.latest c.stamped c.writer_at) (heard z) z.conn) (sym i.writer)
      (subst (λ (l : ℕ). Stands (apply w c) c.writer_at l y (if is_connected y.phase then (w.writers b).conn else None)) (sym (none-latest w c.stamped c.writer_at i.stamped ∙ ap (λ (j : ℕ). w.latest j) i.at))
      (subst (λ (d : ℕ). Stands (apply w c) d (w.latest b) y (if is_connected y.phase then (w.writers b).conn else None)) (sym i.at)
      (stands-on g g t u w (apply w c) b (w.latest b) y (if is_connected y.phase then (w.writers b).conn else None) o (apply-longer w c)
      (stands-if w b (w.latest b) y (w.writers b).conn (is_connected y.phase) h))));
  answers = a;
}
