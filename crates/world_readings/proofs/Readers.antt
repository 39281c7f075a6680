-- What a reader's own step and what it takes leave of the reads.
use Rattle.std.proofs.Common.{◌≡◌, ℕ, zero, suc, ◌-◌, ◌≤◌, ◌⊎◌, inl, inr, Bool, true, false, List, [], ◌∷◌, ◌++◌, length, slice_get, Option, Some, None, Result, Ok, Err, IfSome, refl, sym, ap, ◌∙◌, subst, arith, eqb-true}
use Rattle.std.specs.Prelude.{◌==◌, ◌&&◌, if◌then◌else◌, option_map, unwrap_or, IsSome}
use Rattle.std.proofs.lemmas.Option.{none-some, same_Some}
use Rattle.hd_base.specs.SumRules.{default_rule}
use Rattle.op_headers.specs.declared.ops.Op.TheVariants as op
use Rattle.op_headers.specs.declared.ops.ReadOp.{ReadOp}
use Rattle.request_refusals.specs.Texts.{refusal_text}
use Rattle.read_core.specs.declared.reading.ReadFault.{ReadFault}
use Rattle.read_core.specs.declared.reading.ReadFault.TheVariants as fault
use Rattle.read_core.specs.declared.reading.ReadTurn.{ReadTurn}
use Rattle.read_core.specs.declared.reading.ReadTurn.TheVariants as turn
use Rattle.read_core.specs.Readings.{ReadingState, ReadTaken, asked, take_from}
use Rattle.read_core.specs.Servings.{begun}
use Rattle.world.specs.Parts.{Message, request, Upper, by_reader, Place, Marks, Lower, idle, ended_below, Reader, no_reader, reads, has_read}
use Rattle.world.specs.Worlds.{World, Dial, Change, put, listed, dial_at, dialled_with, downs_with, ups_with, past_after, apply}
use Rattle.world.specs.Connections.{Next, message, the_end, marks_taken, next_up, up_taken, is_alive, place_of}
use Rattle.world.specs.Clients.{reader_change, reader_dials, own_reader_as, own_reader, from_node_of, reader_turn, reader_takes, reader_up_as, reader_up}
use Rattle.world.specs.Events.{changed}
use Rattle.world_laws.specs.Placing.{Placed}
use Rattle.world_laws.proofs.FactTables.{if-each, and-right}
use Rattle.world_laws.proofs.GrowthLaws.{apply-grows}
use Rattle.world_laws.proofs.PlaceFitting.{dial-is, dial-within}
use Rattle.world_orders.proofs.AllOrdered.{next-found}
use Rattle.world_orders.proofs.Kept.{eqb-itself}
use Rattle.world_orders.proofs.Lists.{dial-past, dial-here}
use Rattle.world_readings.specs.Results.{Asks, unanswered, ended}
use Rattle.world_readings.proofs.Giving.{Below, says-below, HasTaken, awaits, Stands, Hears, goes, verifies, is_refused, ends, heard, get-within}
use Rattle.world_readings.proofs.Keeping.{IsMarked, put-same, Base, ConnRead, IsOf, ReaderFits, Reads, put-here, put-else, shuts-keep, asks-later, bytes-later, refused-later, Unread, unread-none, still-sends, Sends, conn-with, conn-after, old-conn, change-leaves, reader-later, of-later, Leaves}

reader-number : Upper → ℕ
reader-number (by_reader i) = i
reader-number other = 0

same-reader : (i j : ℕ) (u : Upper) → u ≡ by_reader i → u ≡ by_reader j → j ≡ i
unfolding reader-number
same-reader i j u p q = ap reader-number (sym q ∙ p)

-- A READER THAT COMES INTO ANOTHER STATE

-- what a reader's change leaves alone
record IsReaders (w : World) (k : Change) (i : ℕ) : Type 0 where
  at : k.reader_at ≡ i
  dials : k.dials ≡ []
  lower : k.lower ≡ w.lowers k.lower_at
  ups : (c : ℕ) → k.ups c ≡ []
  unended : w.readers i ≡ has_read (Err fault.Ended) → ⊥

-- the world once a reader has taken this
module _ (w : World) (i c : ℕ) (x : Next) (h : Reads w) (next : next_up w c ≡ Some x) (f : IsOf w.past i c) where
  um : ℕ → Marks
  um = put w.up_marks c (marks_taken (w.up_marks c) x)

  u : World
  u = record w { up_marks = um }

  stands : Stands (w.ups c) (w.up_marks c).taken x
  stands = go x next
    where
      go : (x : Next) → next_up w c ≡ Some x → Stands (w.ups c) (w.up_marks c).taken x
      go (message m) e = next-found (w.ups c) (w.up_marks c) m e
      go the_end e = tt

  marked-then : (k : Marks) (ups : List Message) (y : Next) → Stands ups k.taken y → IsMarked k ups → IsMarked (marks_taken k y) ups
  marked-then k ups (message m) e g = record { within = omega (arith, get-within ups k.taken m e); end = g.end }
  marked-then k ups the_end e g = record { within = g.within; end = g.end }

  end-then : (k : Marks) (y : Next) → (marks_taken k y).end ≡ k.end
  end-then k (message m) = refl
  end-then k the_end = refl

  -- marks that are as before, or this was taken
  each-mark : (P : Marks → Type 0) (d : ℕ) → P (w.up_marks d) → (d ≡ c → P (marks_taken (w.up_marks c) x)) → P (um d)
  unfolding um
  each-mark P d old new = if-each P (d == c) (marks_taken (w.up_marks c) x) (w.up_marks d) (λ e. new (eqb-true d c e)) (λ _. old)

  marked-now : (d : ℕ) → IsMarked (w.up_marks d) (w.ups d) → IsMarked (um d) (w.ups d)
  marked-now d g = each-mark (λ (k : Marks). IsMarked k (w.ups d)) d g
      (λ e. marked-then (w.up_marks c) (w.ups d) x (subst (λ (n : ℕ). Stands (w.ups n) (w.up_marks c).taken x) (sym e) stands) (subst (λ (n : ℕ). IsMarked (w.up_marks n) (w.ups d)) e g))

  end-now : (d : ℕ) → IsSome (w.up_marks d).end → IsSome (um d).end
  end-now d g = each-mark (λ (k : Marks). IsSome k.end) d g (λ e. subst IsSome (sym (end-then (w.up_marks c) x)) (subst (λ (n : ℕ). IsSome (w.up_marks n).end) e g))

  -- the connections as they then are
  base-then : (d : ℕ) → Base w d → Base u d
  unfolding u
  base-then d b = record {
    read = b.read;
    asked = b.asked;
    start = b.start;
    below = b.below;
    marked = marked-now d b.marked;
    ended = λ q. end-now d (b.ended q);
    stopped = λ q. end-now d (b.stopped q);
  }

  um-else : (d : ℕ) → (d == c) ≡ false → um d ≡ w.up_marks d
  unfolding um
  um-else d e = put-else w.up_marks c (marks_taken (w.up_marks c) x) d e

  um-here : um c ≡ marks_taken (w.up_marks c) x
  unfolding um
  um-here = put-here w.up_marks c (marks_taken (w.up_marks c) x) c (eqb-itself c)

  -- what is known of the reader's new state
  record Then (b : Base w c) (y : Reader) : Type 0 where
    taken : (r : ReadingState) → y ≡ reads c r → HasTaken b.read b.start r (marks_taken (w.up_marks c) x).taken (w.ups c)
    open_yet : (r : ReadingState) → y ≡ reads c r → (marks_taken (w.up_marks c) x).over ≡ false
    only : (d : ℕ) (r : ReadingState) → y ≡ reads d r → d ≡ c
    seen : (marks_taken (w.up_marks c) x).over ≡ true → y ≡ has_read (Err fault.Ended)

  over-stays : (d : ℕ) → (w.up_marks d).over ≡ true → (um d).over ≡ true
  over-stays d o = go (d == c) refl
    where
      taken-over : (k : Marks) (y : Next) → k.over ≡ true → (marks_taken k y).over ≡ true
      taken-over k (message m) e = e
      taken-over k the_end e = refl

      go : (t : Bool) → (d == c) ≡ t → (um d).over ≡ true
      go false e = ap (λ (k : Marks). k.over) (um-else d e) ∙ o
      go true e =
          let is : d ≡ c = eqb-true d c e in
          ap (λ (n : ℕ). (um n).over) is ∙ ap (λ (k : Marks). k.over) um-here ∙ taken-over (w.up_marks c) x (ap (λ (n : ℕ). (w.up_marks n).over) (sym is) ∙ o)

  module _ (k : Change) (g : IsReaders w k i) (b : Base w c) (t : Then b k.reader) where
    unread : Unread k.dials
    unread = subst Unread (sym g.dials) unread-none

    sends : Sends u k
    unfolding u
    sends = still-sends (record w { up_marks = um }) k g.lower g.ups

    -- a connection of any reader
    conn-then : (j d : ℕ) → IsOf w.past j d → ConnRead (apply u k) j d
    unfolding u base-then
    conn-then j d o = go (d == c) refl
      where
        here : (n : ℕ) → n ≡ c → IsOf w.past j n → ConnRead (apply (record w { up_marks = um }) k) j n
        here n is o =
            let mine : j ≡ i = same-reader i j (w.dialled c).upper f.upper (subst (λ (m : ℕ). (w.dialled m).upper ≡ by_reader j) is o.upper) in
            let at : (j == k.reader_at) ≡ true = subst (λ (m : ℕ). (j == m) ≡ true) (mine ∙ sym g.at) (eqb-itself j) in
            let is_put : put w.readers k.reader_at k.reader j ≡ k.reader = put-here w.readers k.reader_at k.reader j at in
            let new : (r : ReadingState) → put w.readers k.reader_at k.reader j ≡ reads n r → k.reader ≡ reads c r = λ r e. sym (put-here w.readers k.reader_at k.reader j at) ∙ e ∙ ap (λ (m : ℕ). reads m r) is in
            subst (λ (m : ℕ). IsOf w.past j m → ((r : ReadingState) → put w.readers k.reader_at k.reader j ≡ reads m r → k.reader ≡ reads c r) → ConnRead (apply (record w { up_marks = um }) k) j m) (sym is)
            (λ o new. conn-with (record w { up_marks = um }) k sends j c o (base-then c b) (λ r e. subst (λ (m : Marks). HasTaken b.read b.start r m.taken (w.ups c)) (sym um-here) (t.taken r (new r e))) (λ r e. ap (λ (m : Marks). m.over) um-here ∙ t.open_yet r (new r e)) (λ e. is_put ∙ t.seen (ap (λ (m : Marks). m.over) (sym um-here) ∙ e)))
            o new

        elsewhere : (d == c) ≡ false → ConnRead (apply (record w { up_marks = um }) k) j d
        elsewhere e =
            let y = h.conns j d o in
            let old : (r : ReadingState) → put w.readers k.reader_at k.reader j ≡ reads d r → w.readers j ≡ reads d r = λ r q. other r q (j == k.reader_at) refl in
            conn-with (record w { up_marks = um }) k sends j d o (base-then d y.base) (λ r q. subst (λ (m : Marks). HasTaken y.read y.start r m.taken (w.ups d)) (sym (um-else d e)) (y.taken r (old r q))) (λ r q. ap (λ (m : Marks). m.over) (um-else d e) ∙ y.open_yet r (old r q)) (λ q. stays (y.seen (ap (λ (m : Marks). m.over) (sym (um-else d e)) ∙ q)) (j == k.reader_at) refl)
          where
            clash : (a : Bool) → a ≡ true → a ≡ false → ⊥
            clash true p q = cc
            clash false p q = cc

            other : (r : ReadingState) → put w.readers k.reader_at k.reader j ≡ reads d r → (a : Bool) → (j == k.reader_at) ≡ a → w.readers j ≡ reads d r
            other r q true p = absurd (clash (d == c) (subst (λ (m : ℕ). (d == m) ≡ true) (t.only d r (sym (put-here w.readers k.reader_at k.reader j p) ∙ q)) (eqb-itself d)) e)
            other r q false p = sym (put-else w.readers k.reader_at k.reader j p) ∙ q

            stays : w.readers j ≡ has_read (Err fault.Ended) → (a : Bool) → (j == k.reader_at) ≡ a → put w.readers k.reader_at k.reader j ≡ has_read (Err fault.Ended)
            stays q true p = absurd (g.unended (subst (λ (m : ℕ). w.readers m ≡ has_read (Err fault.Ended)) (eqb-true j k.reader_at p ∙ g.at) q))
            stays q false p = put-else w.readers k.reader_at k.reader j p ∙ q

        go : (a : Bool) → (d == c) ≡ a → ConnRead (apply (record w { up_marks = um }) k) j d
        go true e = here d (eqb-true d c e) o
        go false e = elsewhere e

    leaves-then : (j : ℕ) → Leaves w (apply u k) j
    unfolding u apply
    leaves-then j = record {
      grows = apply-grows (record w { up_marks = um }) k;
      no_new = λ d o. old-conn (record w { up_marks = um }) k j d unread o;
      over = λ d o e. (change-leaves (record w { up_marks = um }) k j unread).over d o (over-stays d e);
    }

    reads-then : ReaderFits (apply u k) i k.reader → Reads (apply u k)
    unfolding u apply
    reads-then fits = record {
      conns = λ j d o. conn-then j d (old-conn (record w { up_marks = um }) k j d unread o);
      readers = λ j. go j (j == k.reader_at) refl;
    }
      where
        go : (j : ℕ) (a : Bool) → (j == k.reader_at) ≡ a → ReaderFits (apply u k) j (put w.readers k.reader_at k.reader j)
        go j true e =
            let is : j ≡ i = eqb-true j k.reader_at e ∙ g.at in
            subst (λ (z : Reader). ReaderFits (apply u k) j z) (sym (put-here w.readers k.reader_at k.reader j e)) (subst (λ (m : ℕ). ReaderFits (apply u k) m k.reader) (sym is) fits)
        go j false e = subst (λ (z : Reader). ReaderFits (apply u k) j z) (sym (put-else w.readers k.reader_at k.reader j e)) (reader-later w (apply u k) j (w.readers j) (leaves-then j) (h.readers j))

  -- WHAT IT TAKES

  module _ (s : ReadingState) (is : w.readers i ≡ reads c s) where
    y : ConnRead w i c
    y = h.conns i c f

    t : ReadTaken
    t = take_from s (from_node_of x)

    -- with a result it reads no more
    done : (b : Base w c) (z : Result (List ℕ) ReadFault) → ((marks_taken (w.up_marks c) x).over ≡ true → has_read z ≡ has_read (Err fault.Ended)) → Then b (has_read z)
    done b z seen = record { taken = λ r e. absurd (differ r e); open_yet = λ r e. absurd (differ r e); only = λ d r e. absurd (other d r e); seen = seen }
      where
        differ : (r : ReadingState) → has_read z ≡ reads c r → ⊥
        differ r e = cc

        other : (d : ℕ) (r : ReadingState) → has_read z ≡ reads d r → ⊥
        other d r e = cc

    -- it had none before
    none-yet : w.readers i ≡ has_read (Err fault.Ended) → ⊥
    none-yet e = differ (sym is ∙ e)
      where
        differ : reads c s ≡ has_read (Err fault.Ended) → ⊥
        differ q = cc

    -- a message isn't the end
    not-over : (m : Message) → x ≡ message m → (marks_taken (w.up_marks c) x).over ≡ false
    not-over m e = subst (λ (z : Next). (marks_taken (w.up_marks c) z).over ≡ false) (sym e) (y.open_yet s is)

    never-over : (m : Message) (z : Reader) → x ≡ message m → (marks_taken (w.up_marks c) x).over ≡ true → z ≡ has_read (Err fault.Ended)
    never-over m z e q = absurd (clash (marks_taken (w.up_marks c) x).over q (not-over m e))
      where
        clash : (a : Bool) → a ≡ true → a ≡ false → ⊥
        clash true p q = cc
        clash false p q = cc

    the_asks : (read : ReadOp) → slice_get (w.downs c) 0 ≡ Some (request (op.Read read)) → Asks w.past i c read
    the_asks read e = record { known = f.known; upper = f.upper; asked = e }

    turned : (d : ReadTurn) → t.does ≡ d → Reads (apply u (reader_turn u i c t d)) → Reads (apply u (reader_takes u i c t))
    turned d e r = subst (λ (z : ReadTurn). Reads (apply u (reader_turn u i c t z))) (sym e) r

    on : (r : ReadingState) (m : Message) → x ≡ message m → HasTaken y.read y.start r (suc (w.up_marks c).taken) (w.ups c) → Reads (apply u (reader_change u i (reads c r)))
    unfolding u apply
    on r m e has =
        let k = reader_change u i (reads c r) in
        let more : suc (w.up_marks c).taken ≡ (marks_taken (w.up_marks c) (message m)).taken = omega arith in
        let taken : HasTaken y.read y.start r (marks_taken (w.up_marks c) x).taken (w.ups c) = subst (λ (z : Next). HasTaken y.read y.start r (marks_taken (w.up_marks c) z).taken (w.ups c)) (sym e) (subst (λ (n : ℕ). HasTaken y.read y.start r n (w.ups c)) more has) in
        reads-then k (record { at = refl; dials = refl; lower = refl; ups = λ d. refl; unended = none-yet }) y.base
        (record { taken = λ q o. subst (λ (z : ReadingState). HasTaken y.read y.start z (marks_taken (w.up_marks c) x).taken (w.ups c)) (same q o) taken; open_yet = λ q o. not-over m e; only = λ d q o. conn d q o; seen = never-over m (reads c r) e })
        (of-later w.past (past_after u k) i c (apply-grows u k) f)
      where
        same : (q : ReadingState) → reads c r ≡ reads c q → r ≡ q
        same q o = cc

        conn : (d : ℕ) (q : ReadingState) → reads c r ≡ reads d q → d ≡ c
        conn d q o = cc

    over-then : x ≡ the_end → (um c).over ≡ true
    over-then e = ap (λ (k : Marks). k.over) um-here ∙ subst (λ (z : Next). (marks_taken (w.up_marks c) z).over ≡ true) (sym e) refl

    hears : Hears y.read y.start s (w.up_marks c).taken (w.ups c) x → Reads (apply u (reader_takes u i c t))
    unfolding u t apply
    hears (goes m e does has) = turned turn.Goes does (on t.reading m e has)
    hears (verifies m e does g whole are) =
        let k = reader_turn u i c t turn.Verified in
        turned turn.Verified does (reads-then k (record { at = refl; dials = refl; lower = refl; ups = λ d. refl; unended = none-yet }) y.base (done y.base (Ok t.reading.bytes) (never-over m _ e))
        (bytes-later w.past (past_after u k) i t.reading.bytes (apply-grows u k) (record { conn = c; read = y.read; asks = the_asks y.read y.asked; serving = y.start; answer = g.first; begins = g.serving.begins; whole = whole; are = are })))
    hears (is_refused m e q does first) =
        let k = reader_turn u i c t (turn.Fails (fault.Refused (refusal_text q))) in
        turned (turn.Fails (fault.Refused (refusal_text q))) does (reads-then k (record { at = refl; dials = refl; lower = refl; ups = λ d. refl; unended = none-yet }) y.base (done y.base (Err (fault.Refused (refusal_text q))) (never-over m _ e))
        (refused-later w.past (past_after u k) i (refusal_text q) (apply-grows u k) (record { conn = c; read = y.read; asks = the_asks y.read y.asked; refusal = q; answer = first; says = refl })))
    hears (ends e does) =
        let k = reader_turn u i c t (turn.Fails fault.Ended) in
        turned (turn.Fails fault.Ended) does (reads-then k (record { at = refl; dials = refl; lower = refl; ups = λ d. refl; unended = none-yet }) y.base (done y.base (Err fault.Ended) (λ _. refl))
        (ended c y.read (asks-later w.past (past_after u k) i c y.read (apply-grows u k) (the_asks y.read y.asked)) ((shuts-keep k.shuts (ups_with u k) um c).over ∙ over-then e)))

    takes-reads : Reads (apply u (reader_takes u i c (take_from s (from_node_of x))))
    unfolding t y
    takes-reads = hears (heard y.read y.start (w.ups c) s (w.up_marks c).taken x stands (says-below y.read y.start (w.ups c) (w.lowers c) y.below) (y.taken s is))

  changed-when : (b : Bool) (k : Change) → (b ≡ true → Reads (apply u k)) → IfSome (changed u (if b then Some k else None)) Reads
  changed-when true k r = r refl
  changed-when false k r = tt

  up-as-reads : (z : Reader) → w.readers i ≡ z → IfSome (changed u (reader_up_as z u i c x)) Reads
  up-as-reads no_reader e = tt
  up-as-reads (has_read r) e = tt
  up-as-reads (reads d s) e = changed-when (d == c) _ (λ q. takes-reads s (e ∙ ap (λ (n : ℕ). reads n s) (eqb-true d c q)))

  pub reader-up-reads : IfSome (changed (up_taken w c x) (reader_up (up_taken w c x) i c x)) Reads
  unfolding up_taken u um
  reader-up-reads = up-as-reads (w.readers i) refl

-- ITS OWN STEP

module _ (w : World) (i : ℕ) (h : Reads w) (p : Placed w) (new : w.readers i ≡ no_reader) where
  none : (c : ℕ) → IsOf w.past i c → ⊥
  none = subst (ReaderFits w i) new (h.readers i)

  -- another reader's connection
  others : (k : Change) → k.reader_at ≡ i → Sends w k → (j c : ℕ) → IsOf w.past j c → ConnRead (apply w k) j c
  others k at s j c o = go (j == k.reader_at) refl
    where
      go : (a : Bool) → (j == k.reader_at) ≡ a → ConnRead (apply w k) j c
      go true e = absurd (none c (subst (λ (n : ℕ). IsOf w.past n c) (eqb-true j k.reader_at e ∙ at) o))
      go false e = conn-after w k s j c o (put-else w.readers k.reader_at k.reader j e) (h.conns j c o)

  -- the dial isn't answered
  unanswered-reads : Reads (apply w (reader_change w i (has_read (Err fault.Ended))))
  unfolding apply
  unanswered-reads =
      let k = reader_change w i (has_read (Err fault.Ended)) in
      record {
        conns = λ j c o. others k refl (still-sends w k refl (λ d. refl)) j c (old-conn w k j c unread-none o);
        readers = λ j. go j (j == i) refl;
      }
    where
      go : (j : ℕ) (a : Bool) → (j == i) ≡ a → ReaderFits (apply w (reader_change w i (has_read (Err fault.Ended)))) j (put w.readers i (has_read (Err fault.Ended)) j)
      go j true e =
          let k = reader_change w i (has_read (Err fault.Ended)) in
          let is : j ≡ i = eqb-true j i e in
          subst (λ (z : Reader). ReaderFits (apply w k) j z) (sym (put-here w.readers i (has_read (Err fault.Ended)) j e))
          (unanswered (λ c lt u. none c (subst (λ (n : ℕ). IsOf w.past n c) is (old-conn w k j c unread-none (record { known = lt; upper = u })))))
      go j false e =
          let k = reader_change w i (has_read (Err fault.Ended)) in
          subst (λ (z : Reader). ReaderFits (apply w k) j z) (sym (put-else w.readers i (has_read (Err fault.Ended)) j e)) (reader-later w (apply w k) j (w.readers j) (change-leaves w k j unread-none) (h.readers j))

  -- it is answered
  module _ (n : ℕ) (r : ReadOp) (runs : w.running n ≡ true) where
    k : Change
    k = reader_dials w i n r true

    first-dial : Dial
    first-dial = record { dialled = record { upper = by_reader i; from = None; to = place_of w n }; request = request (op.Read r) }

    -- the connection is one that was there, or the new one
    old-or-new : (j c : ℕ) → IsOf (past_after w k) j c → IsOf w.past j c ⊎ ((c ≡ w.next_conn) × (j ≡ i))
    unfolding k
    old-or-new j c o = go (dial_at w.next_conn (reader_dials w i n r true).dials c) refl o.upper
      where
        ds : List Dial
        ds = (reader_dials w i n r true).dials

        at-first : (m : ℕ) (d : Dial) → slice_get ds m ≡ Some d → (m ≡ 0) × (d.dialled.upper ≡ by_reader i)
        at-first zero d e = (refl, ap (λ (z : Dial). z.dialled.upper) (sym (same_Some _ d e)))
        at-first (suc m) d e = absurd (none-some d e)

        go : (x : Option Dial) → dial_at w.next_conn ds c ≡ x → (unwrap_or (option_map (λ d. d.dialled) x) (w.dialled c)).upper ≡ by_reader j → IsOf w.past j c ⊎ ((c ≡ w.next_conn) × (j ≡ i))
        go None e q = inl (record { known = dial-within w.next_conn c ds e o.known; upper = q })
        go (Some d) e q =
            let a = at-first (c - w.next_conn) d (dial-is w.next_conn c ds d e) in
            inr (omega (arith, a.0, dial-past w.next_conn c ds d e), same-reader i j d.dialled.upper a.1 q)

    there : dial_at w.next_conn k.dials w.next_conn ≡ Some first-dial
    unfolding k first-dial
    there = dial-here w.next_conn w.next_conn 0 (reader_dials w i n r true).dials _ (omega arith) refl

    lives-on : is_alive w (place_of w n) ≡ true
    lives-on = rw runs (eqb-itself (w.lives n))

    begun-conn : ConnRead (apply w k) i w.next_conn
    unfolding k first-dial apply
    begun-conn =
        let c : ℕ = w.next_conn in
        let fresh = p.undialled c (omega arith) in
        let lower : put w.lowers 0 (w.lowers 0) c ≡ idle = put-same w.lowers 0 (w.lowers 0) c refl ∙ fresh.lower in
        let ups : w.ups c ++ [] ≡ [] = ap (λ (ms : List Message). ms ++ []) fresh.ups in
        let asks : downs_with w k c ≡ request (op.Read r) ∷ [] = ap (λ (ms : List Message). (ms ++ []) ++ listed (option_map (λ d. d.request) (dial_at w.next_conn (reader_dials w i n r true).dials c))) fresh.downs ∙ ap (λ (o : Option Dial). listed (option_map (λ d. d.request) o)) there in
        let to : (dialled_with w k c).to ≡ place_of w n = ap (λ (o : Option Dial). (unwrap_or (option_map (λ d. d.dialled) o) (w.dialled c)).to) there in
        record {
          base = record {
            read = r;
            asked = ap (λ (ms : List Message). slice_get ms 0) asks;
            start = begun r default_rule 0;
            below = subst (λ (l : Lower). Below r (begun r default_rule 0) (w.ups c ++ []) l) (sym lower) ups;
            marked = record {
              within = subst (λ (m : Marks). m.taken ≤ length (w.ups c ++ [])) (sym fresh.up_marks) (omega arith);
              end = subst (λ (m : Marks). IfSome m.end (λ e. e ≤ length (w.ups c ++ []))) (sym fresh.up_marks) tt;
            };
            ended = λ e. absurd (differ (sym lower ∙ e));
            stopped = λ e. absurd (clash (is_alive w (place_of w n)) lives-on (subst (λ (z : Place). is_alive w z ≡ false) to e));
          };
          taken = λ q e. awaits (ap (λ (m : Marks). m.taken) fresh.up_marks) (sym (state q (sym (put-here w.readers i (reads c (asked r)) i (eqb-itself i)) ∙ e)));
          open_yet = λ q e. ap (λ (m : Marks). m.over) fresh.up_marks;
          seen = λ e. absurd (clash (w.up_marks c).over e (ap (λ (m : Marks). m.over) fresh.up_marks));
        }
      where
        differ : idle ≡ ended_below → ⊥
        differ e = cc

        clash : (a : Bool) → a ≡ true → a ≡ false → ⊥
        clash true q e = cc
        clash false q e = cc

        state : (q : ReadingState) → reads w.next_conn (asked r) ≡ reads w.next_conn q → asked r ≡ q
        state q e = cc

    answered-reads : Reads (apply w (reader_dials w i n r true))
    unfolding k apply first-dial
    answered-reads = record { conns = λ j c o. conn j c (old-or-new j c o); readers = λ j. go j (j == i) refl }
      where
        conn : (j c : ℕ) → IsOf w.past j c ⊎ ((c ≡ w.next_conn) × (j ≡ i)) → ConnRead (apply w (reader_dials w i n r true)) j c
        conn j c (inl o) = others (reader_dials w i n r true) refl (still-sends w (reader_dials w i n r true) refl (λ d. refl)) j c o
        conn j c (inr o) = subst (λ (m : ℕ). ConnRead (apply w (reader_dials w i n r true)) m c) (sym o.1) (subst (λ (m : ℕ). ConnRead (apply w (reader_dials w i n r true)) i m) (sym o.0) begun-conn)

        leaves : (j : ℕ) → (j == i) ≡ false → Leaves w (apply w (reader_dials w i n r true)) j
        leaves j e = record {
          grows = apply-grows w (reader_dials w i n r true);
          no_new = λ c o. old c (old-or-new j c o);
          over = λ c o q. q;
        }
          where
            clash : (a : Bool) → a ≡ true → a ≡ false → ⊥
            clash true q e = cc
            clash false q e = cc

            old : (c : ℕ) → IsOf w.past j c ⊎ ((c ≡ w.next_conn) × (j ≡ i)) → IsOf w.past j c
            old c (inl o) = o
            old c (inr o) = absurd (clash (j == i) (subst (λ (m : ℕ). (j == m) ≡ true) o.1 (eqb-itself j)) e)

        own : IsOf (past_after w (reader_dials w i n r true)) i w.next_conn
        own = record { known = omega arith; upper = ap (λ (o : Option Dial). (unwrap_or (option_map (λ d. d.dialled) o) (w.dialled w.next_conn)).upper) there }

        go : (j : ℕ) (a : Bool) → (j == i) ≡ a → ReaderFits (apply w (reader_dials w i n r true)) j (put w.readers i (reads w.next_conn (asked r)) j)
        go j true e =
            subst (λ (z : Reader). ReaderFits (apply w (reader_dials w i n r true)) j z) (sym (put-here w.readers i (reads w.next_conn (asked r)) j e))
            (subst (λ (m : ℕ). IsOf (past_after w (reader_dials w i n r true)) m w.next_conn) (sym (eqb-true j i e)) own)
        go j false e = subst (λ (z : Reader). ReaderFits (apply w (reader_dials w i n r true)) j z) (sym (put-else w.readers i (reads w.next_conn (asked r)) j e)) (reader-later w (apply w (reader_dials w i n r true)) j (w.readers j) (leaves j e) (h.readers j))

  dials-reads : (n : ℕ) (r : ReadOp) (b : Bool) → (b ≡ true → w.running n ≡ true) → Reads (apply w (reader_dials w i n r b))
  dials-reads n r true runs = answered-reads n r (runs refl)
  dials-reads n r false runs = unanswered-reads

pub own-reader-reads : (w : World) (i n : ℕ) (r : ReadOp) (answered : Bool) → Reads w → Placed w → IfSome (changed w (own_reader w i n r answered)) Reads
own-reader-reads w i n r answered h p = go (w.readers i) refl
  where
    go : (z : Reader) → w.readers i ≡ z → IfSome (changed w (own_reader_as z w i n r answered)) Reads
    go no_reader e = dials-reads w i h p e n r (answered && w.running n) (λ q. and-right answered (w.running n) q)
    go (reads c s) e = tt
    go (has_read x) e = tt
