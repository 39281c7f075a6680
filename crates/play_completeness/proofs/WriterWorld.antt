-- The world after a writer took a message, and what it then is.
use Rattle.std.proofs.Common.{◌≡◌, ℕ, ◌<◌, ◌+◌, Bool, true, false, List, [], ◌∷◌, ◌++◌, length, slice_get, Option, Some, None, refl, sym, ◌∙◌, ap, arith, eqb-true}
use Rattle.std.specs.Prelude.{◌==◌, ◌&&◌, ◌||◌, not, nat_lt, if◌then◌else◌, option_map}
use Rattle.std.proofs.lemmas.Bool.{false≢true}
use Rattle.std.proofs.lemmas.Bool.Decides.{nat_tests, Decides-int_eq}
use Rattle.std.proofs.lemmas.List.{append-nil}
use Rattle.std.proofs.lemmas.List.Sums.{sum_by-cons}
use Rattle.hd_base.specs.declared.states.Status.{Status}
use Rattle.ack_codec.specs.declared.acks.Ack.{Ack}
use Rattle.packet_codec.specs.declared.packets.Packet.{Packet}
use Rattle.packet_stream.specs.Streams.{StreamState, oldest_acked, oldest_is_last, oldest_seqno}
use Rattle.member_core.specs.Acks.{is_success, failures}
use Rattle.writer_core.specs.declared.phases.Phase.{Phase}
use Rattle.writer_core.specs.declared.phases.Verdict.TheVariants as verdict
use Rattle.writer_core.specs.declared.records.WriterRecord.{WriterRecord}
use Rattle.writer_core.specs.Phases.{bad_behind, last_bad, whole_verdict, replies_verdict, ack_verdict}
use Rattle.writer_core.specs.Transitions.{is_connected}
use Rattle.world.specs.declared.events.Event.{Event}
use Rattle.world.specs.Parts.{Message, Marks, Writing}
use Rattle.world.specs.Worlds.{World, Change, put, put_at, downs_with, ups_with, apply}
use Rattle.world.specs.Connections.{message, marks_taken, is_conn}
use Rattle.world.specs.Clients.{writing_as, given_up, writer_change}
use Rattle.world_laws.proofs.FactTables.{if-each}
use Rattle.world_laws.proofs.StampGivens.{put-here}
use Rattle.world_orders.proofs.Frame.{marked}
use Rattle.world_orders.proofs.Lists.{dialled-before}
use Rattle.play_model.specs.Dues.{is_open}
use Rattle.play_completeness.proofs.TurnWorld.{named, Takes, put-same, put-else, no-request, shut-taken, open-end, kept-end}
use Rattle.play_completeness.proofs.DownTurns.{one-taken}
use Rattle.play_completeness.proofs.WriterHears.{Hears}
use Rattle.play_completeness.proofs.WriterTurned.{WriterTurned}

pub at-same : {A : Type 0} (f : ℕ → ℕ → A) (i k j l : ℕ) → put_at f i k (f i k) j l ≡ f j l
at-same f i k j l = if-each (λ x. x ≡ f j l) (j == i && l == k) (f i k) (f j l) (λ e. both (j == i) (l == k) refl refl e) (λ e. refl)
  where
    both : (p q : Bool) → (j == i) ≡ p → (l == k) ≡ q → (j == i && l == k) ≡ true → f i k ≡ f j l
    both true true a b e = ap (λ (n : ℕ). f n k) (sym (eqb-true j i a)) ∙ ap (λ (n : ℕ). f j n) (sym (eqb-true l k b))
    both true false a b e = absurd (false≢true (sym (rw (a, b) refl) ∙ e))
    both false q a b e = absurd (false≢true (sym (rw a refl) ∙ e))

-- another connection isn't shut
given-off : (p : Phase) (o : Option ℕ) (k : ℕ) → is_conn o k ≡ false → given_up p o k ≡ false
given-off p o k e = if-each (λ (f : ℕ → Bool). f k ≡ false) (is_connected p) (λ _. false) (is_conn o) (λ _. refl) (λ _. e)

-- THE WORLD

module _ (w : World) (b c : ℕ) (n : WriterRecord) (y : Message) (x : Event) (conn : (w.writers b).conn ≡ Some c) where
  abbrev pub um : ℕ → Marks
  um = put w.up_marks c (marks_taken (w.up_marks c) (message y))

  abbrev pub new : Writing
  new = writing_as n (w.writers b).conn

  abbrev pub after : World
  after = named x (apply (marked w w.down_marks um) (writer_change (marked w w.down_marks um) b n))

  off : (k : ℕ) → (k == c) ≡ false → given_up n.phase (w.writers b).conn k ≡ false
  off k e = given-off n.phase (w.writers b).conn k (ap (λ (o : Option ℕ). is_conn o k) conn ∙ e)

  pub writer-turned : WriterTurned w after b c new
  unfolding apply
  writer-turned =
      let z : World = marked w w.down_marks um in
      let k : Change = writer_change z b n in
      let u : Takes w.up_marks um (λ i. i == c) = one-taken w.up_marks c y in
      record {
        conns = omega arith;
        dialled = λ i lt. dialled-before z k i lt;
        downs = λ i e. no-request (w.downs i ++ []) w.next_conn i ∙ append-nil (w.downs i);
        ups = λ i. append-nil (w.ups i);
        lowers = λ i. put-same w.lowers 0 i;
        replicas = λ i j. at-same w.replicas 0 0 i j;
        writer = put-here w.writers b new;
        writers = λ i e. put-else w.writers b new i e;
        down_end = λ i e. open-end (given_up n.phase (w.writers b).conn) (downs_with z k) w.down_marks i (off i e);
        up_end = λ i e. open-end (given_up n.phase (w.writers b).conn) (ups_with z k) um i (off i e) ∙ u.end i;
        down_taken = λ i. shut-taken (given_up n.phase (w.writers b).conn) (downs_with z k) w.down_marks i;
        up_taken = λ i e. shut-taken (given_up n.phase (w.writers b).conn) (ups_with z k) um i ∙ u.taken i e;
      }

  pub hears-by : (is_open (w.lowers c) ≡ true → given_up n.phase (w.writers b).conn c ≡ false) → Hears w after c
  unfolding apply
  hears-by safe =
      let z : World = marked w w.down_marks um in
      let k : Change = writer_change z b n in
      let u : Takes w.up_marks um (λ i. i == c) = one-taken w.up_marks c y in
      let a : ((after).up_marks c).taken ≡ (um c).taken = shut-taken (given_up n.phase (w.writers b).conn) (ups_with z k) um c in
      let m : (um c).taken ≡ (w.up_marks c).taken + 1 = ap (λ (i : Marks). i.taken) (put-here w.up_marks c (marks_taken (w.up_marks c) (message y))) in
      record {
        downs = no-request (w.downs c ++ []) w.next_conn c ∙ append-nil (w.downs c);
        heard = omega (arith, a, m);
        down_end = λ e. open-end (given_up n.phase (w.writers b).conn) (downs_with z k) w.down_marks c (safe e);
        up_end = λ e. open-end (given_up n.phase (w.writers b).conn) (ups_with z k) um c (safe e) ∙ u.end c;
        up_stays = λ i e. kept-end (given_up n.phase (w.writers b).conn) (ups_with z k) um c i (u.end c ∙ e);
      }

-- ACKS

-- replies without a bad one
-- one reply more
one-more : (r : Status) (rs : List Status) → failures (r ∷ rs) ≡ (if not (is_success r) then 1 else 0) + failures rs
one-more r rs = sum_by-cons (λ (k : Status). if not (is_success k) then 1 else 0) r rs

none-bad : (rs : List Status) → failures rs ≡ 0 → last_bad rs ≡ None
none-bad [] e = refl
none-bad (r ∷ rs) e = go (is_success r) refl (none-bad rs)
  where
    counted : (k : Bool) → is_success r ≡ k → (if not k then 1 else 0) + failures rs ≡ 0
    counted k q = sym (one-more r rs ∙ ap (λ (i : Bool). (if not i then 1 else 0) + failures rs) q) ∙ e

    nothing : (i : ℕ) → 0 + i ≡ 0 → i ≡ 0
    nothing i z = omega (arith, z)

    some : (i : ℕ) → 1 + i ≡ 0 → ⊥
    some i z = omega (arith, z)

    go : (k : Bool) → is_success r ≡ k → (failures rs ≡ 0 → last_bad rs ≡ None) → last_bad (r ∷ rs) ≡ None
    go true q rest = ap (λ (i : Bool). bad_behind i (last_bad rs)) q ∙ ap (bad_behind true) (rest (nothing (failures rs) (counted true q)))
    go false q rest = absurd (some (failures rs) (counted false q))

-- An ack of the oldest packet by all members is good.
pub good-verdict : (s : StreamState) (p : Packet) (ps : List Packet) (members : ℕ) (a : Ack) → s.unacked ≡ p ∷ ps → p.seqno ≡ a.seqno → failures a.replies ≡ 0 → length a.replies ≡ members → 0 < members → ack_verdict (oldest_seqno s) members a ≡ verdict.Good
good-verdict s p ps members a oldest number good long some =
    ap (λ (xs : List Packet). ack_verdict (option_map (λ (q : Packet). q.seqno) (slice_get xs 0)) members a) oldest
    ∙ (ap (λ (k : Bool). if k then replies_verdict members a.replies else verdict.Bad 0) ((Decides-int_eq p.seqno a.seqno).1 number)
    ∙ rw (long, none-bad a.replies good) (counted members some))
  where
    counted : (k : ℕ) → 0 < k → (if k == 0 || nat_lt k k then verdict.Bad 0 else whole_verdict (k == k) None) ≡ verdict.Good
    counted k lt = rw (zero-no k lt, less-no k, same k) refl
      where
        zero-no : (i : ℕ) → 0 < i → (i == 0) ≡ false
        zero-no i l = grind (arith, nat_tests, l)

        less-no : (i : ℕ) → nat_lt i i ≡ false
        less-no i = grind (arith, nat_tests)

        same : (i : ℕ) → (i == i) ≡ true
        same i = grind (arith, nat_tests)

pub oldest-gone : (s : StreamState) (p : Packet) (ps : List Packet) → s.unacked ≡ p ∷ ps → (oldest_acked s).unacked ≡ ps
oldest-gone s p ps e = rw e refl

pub oldest-last : (s : StreamState) (p : Packet) (ps : List Packet) → s.unacked ≡ p ∷ ps → oldest_is_last s ≡ p.last
oldest-last s p ps e = rw e refl
