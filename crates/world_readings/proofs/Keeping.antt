-- How each reader, its connection and its node belong together, and what keeps that.
use Rattle.std.proofs.Common.{◌≡◌, ℕ, ◌-◌, ◌^◌, ◌<◌, ◌≤◌, ◌⊎◌, inl, inr, Bool, true, false, List, [], ◌∷◌, ◌++◌, length, take, drop, slice_get, Option, Some, None, Result, Ok, Err, IfSome, refl, sym, ap, ◌∙◌, subst, arith, append-nil, eqb-true, length-append}
use Rattle.std.specs.Prelude.{◌==◌, option_map, unwrap_or, IsSome}
use Rattle.std.proofs.lemmas.Option.{none-some}
use Rattle.op_headers.specs.declared.ops.Op.TheVariants as op
use Rattle.op_headers.specs.declared.ops.ReadOp.{ReadOp}
use Rattle.read_core.specs.declared.reading.ReadFault.{ReadFault}
use Rattle.read_core.specs.declared.reading.ReadFault.TheVariants as fault
use Rattle.read_core.specs.Readings.{ReadingState}
use Rattle.packet_codec.specs.declared.packets.Packet.{Packet}
use Rattle.read_core.specs.Servings.{ServingState, packet_of, piece_of, piece_len}
use Rattle.world.specs.Parts.{Message, request, packet, by_reader, Dialled, Marks, Lower, serves, ended_below, Reader, no_reader, reads, has_read}
use Rattle.world.specs.Worlds.{Past, World, Dial, Change, put, dial_at, dialled_with, downs_with, ups_with, shut_marks, marks_with, past_after, apply}
use Rattle.world.specs.Connections.{is_alive}
use Rattle.world.specs.Nodes.{replica_at}
use Rattle.world_laws.specs.Growing.{Begins, Grows}
use Rattle.world_laws.proofs.FactTables.{if-each}
use Rattle.world_laws.proofs.GrowthLaws.{apply-grows}
use Rattle.world_laws.proofs.PlaceFitting.{dial-is, dial-within}
use Rattle.world_orders.proofs.Lists.{dialled-before}
use Rattle.world_readings.specs.Results.{Asks, bodies, HasBytes, IsRefused, HasEnded, unanswered, ended, ComesTo}
use Rattle.world_readings.proofs.Giving.{Below, HasTaken, taken-more, taken-none, bodies-stay}

-- THE CONNECTION OF A READER

-- as much was taken as was sent, at most, and the end stands no later than behind that
pub record IsMarked (k : Marks) (ups : List Message) : Type 0 where
  pub within : k.taken ≤ length ups
  pub end : IfSome k.end (λ e. e ≤ length ups)

-- Its request, what the node sends, and that the end stands where the node has ended or stopped.
pub record Base (w : World) (c : ℕ) : Type 0 where
  pub read : ReadOp
  pub asked : slice_get (w.downs c) 0 ≡ Some (request (op.Read read))
  pub start : ServingState
  pub below : Below read start (w.ups c) (w.lowers c)
  pub marked : IsMarked (w.up_marks c) (w.ups c)
  pub ended : w.lowers c ≡ ended_below → IsSome (w.up_marks c).end
  pub stopped : is_alive w (w.dialled c).to ≡ false → IsSome (w.up_marks c).end

-- the same, and how far the reader is with what the node sends
pub record ConnRead (w : World) (i c : ℕ) : Type 0 where
  pub base : Base w c
  pub open base use *
  pub taken : (r : ReadingState) → w.readers i ≡ reads c r → HasTaken base.read base.start r (w.up_marks c).taken (w.ups c)
  pub open_yet : (r : ReadingState) → w.readers i ≡ reads c r → (w.up_marks c).over ≡ false
  pub seen : (w.up_marks c).over ≡ true → w.readers i ≡ has_read (Err fault.Ended)

-- The reader dialled the connection.
pub record IsOf (p : Past) (i c : ℕ) : Type 0 where
  pub known : c < p.next_conn
  pub upper : (p.dialled c).upper ≡ by_reader i

-- A reader that hasn't begun has no connection, one that reads has dialled it, and one with a result came to it.
abbrev pub ReaderFits : World → ℕ → Reader → Type 0
ReaderFits w i no_reader = (c : ℕ) → IsOf w.past i c → ⊥
ReaderFits w i (reads c r) = IsOf w.past i c
ReaderFits w i (has_read x) = ComesTo w i (has_read x)

pub record Reads (w : World) : Type 0 where
  pub conns : (i c : ℕ) → IsOf w.past i c → ConnRead w i c
  pub readers : (i : ℕ) → ReaderFits w i (w.readers i)

-- TABLES

pub put-here : {A : Type 0} (f : ℕ → A) (i : ℕ) (x : A) (j : ℕ) → (j == i) ≡ true → put f i x j ≡ x
put-here f i x j e = rw e refl

pub put-else : {A : Type 0} (f : ℕ → A) (i : ℕ) (x : A) (j : ℕ) → (j == i) ≡ false → put f i x j ≡ f j
put-else f i x j e = rw e refl

-- the same value in its place
pub put-same : {A : Type 0} (f : ℕ → A) (i : ℕ) (x : A) (j : ℕ) → x ≡ f i → put f i x j ≡ f j
put-same {A} f i x j e = if-each (λ (y : A). y ≡ f j) (j == i) x (f j) (λ q. e ∙ ap f (sym (eqb-true j i q))) (λ _. refl)

-- MARKS

-- What a change of marks keeps: as much was taken, the end was taken or wasn't as before, and an end that stands stays.
pub record KeepsMarks (k l : Marks) : Type 0 where
  pub taken : l.taken ≡ k.taken
  pub over : l.over ≡ k.over
  pub end : IsSome k.end → IsSome l.end

shut-keeps : (sent : List Message) (k : Marks) → KeepsMarks k (shut_marks sent k)
shut-keeps sent k = record { taken = refl; over = refl; end = λ _. refl }

pub shuts-keep : (shuts : ℕ → Bool) (sent : ℕ → List Message) (marks : ℕ → Marks) (c : ℕ) → KeepsMarks (marks c) (marks_with shuts sent marks c)
shuts-keep shuts sent marks c = if-each (KeepsMarks (marks c)) (shuts c) _ _ (λ _. shut-keeps (sent c) (marks c)) (λ _. record { taken = refl; over = refl; end = λ e. e })

pub shuts-end : (shuts : ℕ → Bool) (sent : ℕ → List Message) (marks : ℕ → Marks) (c : ℕ) → shuts c ≡ true → IsSome (marks_with shuts sent marks c).end
shuts-end shuts sent marks c e = rw e refl

end-within : (o : Option ℕ) (n m : ℕ) → n ≤ m → IfSome o (λ e. e ≤ n) → unwrap_or o m ≤ m
end-within None n m le h = omega arith
end-within (Some e) n m le h = omega (arith, h, le)

end-later : (o : Option ℕ) (n m : ℕ) → n ≤ m → IfSome o (λ e. e ≤ n) → IfSome o (λ e. e ≤ m)
end-later None n m le h = tt
end-later (Some e) n m le h = omega (arith, h, le)

pub shuts-marked : (shuts : ℕ → Bool) (sent : ℕ → List Message) (marks : ℕ → Marks) (c : ℕ) (ups : List Message) → length ups ≤ length (sent c) → IsMarked (marks c) ups → IsMarked (marks_with shuts sent marks c) (sent c)
shuts-marked shuts sent marks c ups le h =
    if-each (λ (k : Marks). IsMarked k (sent c)) (shuts c) _ _
    (λ _. record { within = omega (arith, h.within, le); end = end-within (marks c).end (length ups) (length (sent c)) le h.end })
    (λ _. record { within = omega (arith, h.within, le); end = end-later (marks c).end (length ups) (length (sent c)) le h.end })

-- LISTS

pub first-more : (xs ys : List Message) (m : Message) → slice_get xs 0 ≡ Some m → slice_get (xs ++ ys) 0 ≡ Some m
first-more [] ys m e = absurd (none-some m e)
first-more (x ∷ xs) ys m e = e

-- the first message stays
pub begins-first : (xs ys : List Message) (m : Message) → Begins xs ys → slice_get xs 0 ≡ Some m → slice_get ys 0 ≡ Some m
begins-first xs ys m b e = subst (λ (zs : List Message). slice_get zs 0 ≡ Some m) b.joins (first-more xs b.rest m e)

-- WHAT WAS COME TO

pub asks-later : (p q : Past) (i c : ℕ) (read : ReadOp) → Grows p q → Asks p i c read → Asks q i c read
asks-later p q i c read g h = record {
  known = omega (arith, h.known, g.conns);
  upper = ap (λ (d : Dialled). d.upper) (g.dialled c h.known) ∙ h.upper;
  asked = begins-first (p.downs c) (q.downs c) (request (op.Read read)) (g.downs c) h.asked;
}

pub bytes-later : (p q : Past) (i : ℕ) (bytes : List ℕ) → Grows p q → HasBytes p i bytes → HasBytes q i bytes
bytes-later p q i bytes g h =
    let b = g.ups h.conn in
    record {
      conn = h.conn;
      read = h.read;
      asks = asks-later p q i h.conn h.read g h.asks;
      serving = h.serving;
      answer = begins-first (p.ups h.conn) (q.ups h.conn) _ b h.answer;
      begins = h.begins;
      whole = h.whole;
      are = subst (λ (ms : List Message). take h.read.len (drop (h.read.offset - h.serving.from) (bodies ms)) ≡ bytes) b.joins (bodies-stay h.read.len _ (p.ups h.conn) b.rest bytes h.whole h.are);
    }

pub refused-later : (p q : Past) (i : ℕ) (text : List ℕ) → Grows p q → IsRefused p i text → IsRefused q i text
refused-later p q i text g h = record {
  conn = h.conn;
  read = h.read;
  asks = asks-later p q i h.conn h.read g h.asks;
  refusal = h.refusal;
  answer = begins-first (p.ups h.conn) (q.ups h.conn) _ (g.ups h.conn) h.answer;
  says = h.says;
}

-- What an event that isn't the reader's leaves: the past grows, the reader has no new connection, and an end that was taken stays so.
pub record Leaves (w v : World) (i : ℕ) : Type 0 where
  pub grows : Grows w.past v.past
  pub no_new : (c : ℕ) → IsOf v.past i c → IsOf w.past i c
  pub over : (c : ℕ) → IsOf w.past i c → (w.up_marks c).over ≡ true → (v.up_marks c).over ≡ true

ended-later : (w v : World) (i : ℕ) → Leaves w v i → HasEnded w i → HasEnded v i
ended-later w v i l (unanswered none) = unanswered (λ c lt u. let o = l.no_new c (record { known = lt; upper = u }) in none c o.known o.upper)
ended-later w v i l (ended c read a e) = ended c read (asks-later w.past v.past i c read l.grows a) (l.over c (record { known = a.known; upper = a.upper }) e)

come-later : (w v : World) (i : ℕ) (x : Result (List ℕ) ReadFault) → Leaves w v i → ComesTo w i (has_read x) → ComesTo v i (has_read x)
come-later w v i (Ok bytes) l h = bytes-later w.past v.past i bytes l.grows h
come-later w v i (Err (fault.Refused text)) l h = refused-later w.past v.past i text l.grows h
come-later w v i (Err fault.Ended) l h = ended-later w v i l h
come-later w v i (Err (fault.Rule kind chunk)) l h = absurd h
come-later w v i (Err (fault.BadSum chunk)) l h = absurd h
come-later w v i (Err fault.SumCount) l h = absurd h
come-later w v i (Err fault.Unreadable) l h = absurd h
come-later w v i (Err (fault.OutOfPlace want got)) l h = absurd h

pub of-later : (p q : Past) (i c : ℕ) → Grows p q → IsOf p i c → IsOf q i c
of-later p q i c g h = record { known = omega (arith, h.known, g.conns); upper = ap (λ (d : Dialled). d.upper) (g.dialled c h.known) ∙ h.upper }

pub reader-later : (w v : World) (i : ℕ) (x : Reader) → Leaves w v i → ReaderFits w i x → ReaderFits v i x
reader-later w v i no_reader l h = λ c o. h c (l.no_new c o)
reader-later w v i (reads c r) l h = of-later w.past v.past i c l.grows h
reader-later w v i (has_read x) l h = come-later w v i x l h

-- CHANGES

-- no reader dials
pub record Unread (ds : List Dial) : Type 0 where
  pub at : (j : ℕ) (d : Dial) (i : ℕ) → slice_get ds j ≡ Some d → d.dialled.upper ≡ by_reader i → ⊥

pub unread-none : Unread []
unread-none = record { at = λ j d i e u. none-some d e }

-- A packet that is sent there is the next one of the serving, with the bytes that the node's replica has.
pub record Fetched (w : World) (c : ℕ) (p : Packet) : Type 0 where
  pub block : ℕ
  pub serving : ServingState
  pub served : w.lowers c ≡ serves block serving
  pub is : p ≡ packet_of serving (piece_of (replica_at w c block) serving)
  pub whole : length (piece_of (replica_at w c block) serving) ≡ piece_len serving
  pub small : serving.at < 2 ^ 63

-- What stands at the lower end of a reader's connection after a change there.
pub record Moves (w : World) (k : Change) (read : ReadOp) (start : ServingState) : Type 0 where
  pub next : ServingState
  pub below : Below read next (w.ups k.lower_at ++ k.ups k.lower_at) k.lower
  pub same : (next ≡ start) ⊎ (w.ups k.lower_at ≡ [])
  pub shut : k.lower ≡ ended_below → (k.shuts k.lower_at ≡ true) ⊎ (w.lowers k.lower_at ≡ ended_below)
  pub block : (b : ℕ) (s : ServingState) → k.lower ≡ serves b s → ((t : ServingState) × (w.lowers k.lower_at ≡ serves b t)) ⊎ (b ≡ read.block.block.0)
  pub packets : (j : ℕ) (p : Packet) → slice_get (k.ups k.lower_at) j ≡ Some (packet p) → Fetched w k.lower_at p

-- What a change sends up, and leaves at a lower end.
pub record Sends (w : World) (k : Change) : Type 0 where
  pub fresh : (c : ℕ) → w.next_conn ≤ c → k.ups c ≡ []
  pub unborn : (c : ℕ) → w.next_conn ≤ c → put w.lowers k.lower_at k.lower c ≡ w.lowers c
  pub quiet : (c : ℕ) → (c == k.lower_at) ≡ false → k.ups c ≡ []
  pub moves : (i : ℕ) → IsOf w.past i k.lower_at → (read : ReadOp) (start : ServingState) → slice_get (w.downs k.lower_at) 0 ≡ Some (request (op.Read read)) → Below read start (w.ups k.lower_at) (w.lowers k.lower_at) → Moves w k read start

-- What a change owes in which no reader acts.
pub record Owes (w : World) (k : Change) : Type 0 where
  pub reader : k.reader ≡ w.readers k.reader_at
  pub unread : Unread k.dials
  pub sends : Sends w k

-- the same, where a lower end leaves what it was and nothing goes up
pub record Aside (w : World) (k : Change) : Type 0 where
  pub reader : k.reader ≡ w.readers k.reader_at
  pub unread : Unread k.dials
  pub lower : k.lower ≡ w.lowers k.lower_at
  pub ups : (c : ℕ) → k.ups c ≡ []

none-more : (ms ks : List Message) → ks ≡ [] → ms ≡ ms ++ ks
none-more ms ks e = sym (append-nil ms) ∙ ap (λ (xs : List Message). ms ++ xs) (sym e)

pub still-sends : (w : World) (k : Change) → k.lower ≡ w.lowers k.lower_at → ((c : ℕ) → k.ups c ≡ []) → Sends w k
still-sends w k lower ups = record {
  fresh = λ c _. ups c;
  unborn = λ c _. put-same w.lowers k.lower_at k.lower c lower;
  quiet = λ c _. ups c;
  moves = λ i o read start asked below. record {
    next = start;
    below = subst (λ (l : Lower). Below read start (w.ups k.lower_at ++ k.ups k.lower_at) l) (sym lower) (subst (λ (ms : List Message). Below read start ms (w.lowers k.lower_at)) (none-more (w.ups k.lower_at) (k.ups k.lower_at) (ups k.lower_at)) below);
    same = inl refl;
    shut = λ e. inr (sym lower ∙ e);
    block = λ b s e. inl (s, sym lower ∙ e);
    packets = λ j p e. absurd (none-some (packet p) (subst (λ (ms : List Message). slice_get ms j ≡ Some (packet p)) (ups k.lower_at) e));
  };
}

pub aside-owes : (w : World) (k : Change) → Aside w k → Owes w k
aside-owes w k a = record { reader = a.reader; unread = a.unread; sends = still-sends w k a.lower a.ups }

-- what the connection is then
record Moved (w : World) (k : Change) (c : ℕ) (read : ReadOp) (start : ServingState) : Type 0 where
  next : ServingState
  below : Below read next (w.ups c ++ k.ups c) (put w.lowers k.lower_at k.lower c)
  same : (next ≡ start) ⊎ (w.ups c ≡ [])
  shut : put w.lowers k.lower_at k.lower c ≡ ended_below → (k.shuts c ≡ true) ⊎ (w.lowers c ≡ ended_below)

module _ (w : World) (k : Change) where
  conn-moved : Sends w k → (i c : ℕ) → IsOf w.past i c → (x : Base w c) → Moved w k c x.read x.start
  conn-moved o i c f x = go (c == k.lower_at) refl
    where
      go : (b : Bool) → (c == k.lower_at) ≡ b → Moved w k c x.read x.start
      go false e = record {
        next = x.start;
        below = subst (λ (l : Lower). Below x.read x.start (w.ups c ++ k.ups c) l) (sym (put-else w.lowers k.lower_at k.lower c e)) (subst (λ (ms : List Message). Below x.read x.start ms (w.lowers c)) (none-more (w.ups c) (k.ups c) (o.quiet c e)) x.below);
        same = inl refl;
        shut = λ q. inr (sym (put-else w.lowers k.lower_at k.lower c e) ∙ q);
      }
      go true e = subst At (sym (eqb-true c k.lower_at e)) here f x (put-here w.lowers k.lower_at k.lower c e)
        where
          At : ℕ → Type 0
          At d = IsOf w.past i d → (y : Base w d) → put w.lowers k.lower_at k.lower d ≡ k.lower → Moved w k d y.read y.start

          here : At k.lower_at
          here g y l =
              let m = o.moves i g y.read y.start y.asked y.below in
              record {
                next = m.next;
                below = subst (λ (z : Lower). Below y.read m.next (w.ups k.lower_at ++ k.ups k.lower_at) z) (sym l) m.below;
                same = m.same;
                shut = λ q. m.shut (sym l ∙ q);
              }

  moved-taken : (c : ℕ) (read : ReadOp) (start next : ServingState) (r : ReadingState) (n : ℕ) → (next ≡ start) ⊎ (w.ups c ≡ []) → HasTaken read start r n (w.ups c) → HasTaken read next r n (w.ups c ++ k.ups c)
  moved-taken c read start next r n (inl e) t = subst (λ (s : ServingState). HasTaken read s r n (w.ups c ++ k.ups c)) (sym e) (taken-more read start r n (w.ups c) (k.ups c) t)
  moved-taken c read start next r n (inr e) t = taken-none read start next r n (w.ups c) (w.ups c ++ k.ups c) e t

  -- A connection that a reader dialled, after a change: how far the reader then is with what had been sent is given.
  pub conn-with : Sends w k → (i c : ℕ) → IsOf w.past i c → (x : Base w c)
      → ((r : ReadingState) → put w.readers k.reader_at k.reader i ≡ reads c r → HasTaken x.read x.start r (w.up_marks c).taken (w.ups c))
      → ((r : ReadingState) → put w.readers k.reader_at k.reader i ≡ reads c r → (w.up_marks c).over ≡ false)
      → ((w.up_marks c).over ≡ true → put w.readers k.reader_at k.reader i ≡ has_read (Err fault.Ended)) → ConnRead (apply w k) i c
  unfolding apply
  conn-with o i c f x taken open_yet seen =
      let m = conn-moved o i c f x in
      let marks = shuts-keep k.shuts (ups_with w k) w.up_marks c in
      let dialled : dialled_with w k c ≡ w.dialled c = dialled-before w k c f.known in
      record {
        base = record {
          read = x.read;
          asked = begins-first (w.downs c) (downs_with w k c) (request (op.Read x.read)) ((apply-grows w k).downs c) x.asked;
          start = m.next;
          below = m.below;
          marked = shuts-marked k.shuts (ups_with w k) w.up_marks c (w.ups c) (omega (arith, length-append (w.ups c) (k.ups c))) x.marked;
          ended = λ e. ends (m.shut e) marks.end;
          stopped = λ e. marks.end (x.stopped (subst (λ (d : Dialled). is_alive w d.to ≡ false) dialled e));
        };
        taken = λ r e. subst (λ (n : ℕ). HasTaken x.read m.next r n (w.ups c ++ k.ups c)) (sym marks.taken) (moved-taken c x.read x.start m.next r (w.up_marks c).taken m.same (taken r e));
        open_yet = λ r e. marks.over ∙ open_yet r e;
        seen = λ e. seen (sym marks.over ∙ e);
      }
    where
      ends : (k.shuts c ≡ true) ⊎ (w.lowers c ≡ ended_below) → (IsSome (w.up_marks c).end → IsSome (marks_with k.shuts (ups_with w k) w.up_marks c).end) → IsSome (marks_with k.shuts (ups_with w k) w.up_marks c).end
      ends (inl e) keep = shuts-end k.shuts (ups_with w k) w.up_marks c e
      ends (inr e) keep = keep (x.ended e)

  -- the reader stays as it is
  pub conn-after : Sends w k → (i c : ℕ) → IsOf w.past i c → put w.readers k.reader_at k.reader i ≡ w.readers i → ConnRead w i c → ConnRead (apply w k) i c
  conn-after o i c f same x = conn-with o i c f x.base (λ r e. x.taken r (sym same ∙ e)) (λ r e. x.open_yet r (sym same ∙ e)) (λ e. same ∙ x.seen e)

-- no reader has a new connection
pub old-conn : (w : World) (k : Change) (i c : ℕ) → Unread k.dials → IsOf (past_after w k) i c → IsOf w.past i c
old-conn w k i c u o = go (dial_at w.next_conn k.dials c) refl o.upper
  where
    go : (x : Option Dial) → dial_at w.next_conn k.dials c ≡ x → (unwrap_or (option_map (λ d. d.dialled) x) (w.dialled c)).upper ≡ by_reader i → IsOf w.past i c
    go None e q = record { known = dial-within w.next_conn c k.dials e o.known; upper = q }
    go (Some d) e q = absurd (u.at (c - w.next_conn) d i (dial-is w.next_conn c k.dials d e) q)

pub change-leaves : (w : World) (k : Change) (i : ℕ) → Unread k.dials → Leaves w (apply w k) i
unfolding apply
change-leaves w k i u = record {
  grows = apply-grows w k;
  no_new = λ c o. old-conn w k i c u o;
  over = λ c _ e. (shuts-keep k.shuts (ups_with w k) w.up_marks c).over ∙ e;
}

readers-after : (w : World) (k : Change) (i : ℕ) → Reads w → Owes w k → ReaderFits (apply w k) i ((apply w k).readers i)
unfolding apply
readers-after w k i h o = subst (λ (x : Reader). ReaderFits (apply w k) i x) (sym (put-same w.readers k.reader_at k.reader i o.reader)) (reader-later w (apply w k) i (w.readers i) (change-leaves w k i o.unread) (h.readers i))

pub reads-after : (w : World) (k : Change) → Reads w → Owes w k → Reads (apply w k)
unfolding apply
reads-after w k h o = record { conns = λ i c f. let g = old-conn w k i c o.unread f in conn-after w k o.sends i c g (put-same w.readers k.reader_at k.reader i o.reader) (h.conns i c g); readers = λ i. readers-after w k i h o }
