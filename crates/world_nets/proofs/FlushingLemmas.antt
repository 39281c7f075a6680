-- What members and writers send and shut.
use Rattle.std.proofs.Common.{◌≡◌, ◌≢◌, ℕ, ◌<◌, Bool, true, false, List, [], ◌∷◌, ◌++◌, Option, Some, None, refl, sym, ap, ◌∙◌, subst, arith, zero, suc}
use Rattle.std.specs.Prelude.{◌==◌, ◌-◌, ◌||◌, ◌&&◌, cond, not, nat_le, slice_get, option_map, if◌then◌else◌}
use Rattle.std.proofs.Math.Bool.{or_assoc}
use Rattle.std.proofs.lemmas.Bool.{eqb-true}
use Rattle.std.proofs.lemmas.Bool.Decides.{nat_tests}
use Rattle.std.proofs.lemmas.List.{append-nil, append_assoc}
use Rattle.std.proofs.lemmas.Option.{same_Some}
use Rattle.hd_base.specs.Channels.{same_direction}
use Rattle.road_traffic.proofs.TrafficLemmas.{same-itself}
use Rattle.world.specs.OpHeaders.Values.{WriteFields}
use Rattle.world.specs.MemberCore.Shuts.{Shuts}
use Rattle.world.specs.MemberCore.Shuts.TheVariants as shuts
use Rattle.world.specs.MemberCore.Steps.{Step, Setup}
use Rattle.world.specs.WriterCore.Action.{Action}
use Rattle.world.specs.WriterCore.Action.TheVariants as action
use Rattle.world.specs.WriterCore.Waiting.{Waiting}
use Rattle.world.specs.WriterCore.WriterRecord.{WriterRecord}
use Rattle.world.specs.WriterCore.Transitions.{is_connected}
use Rattle.world.specs.Parts.{Message, packet, FullMember, Break}
use Rattle.world.specs.Worlds.{World, Change, Dial, dial_at, listed}
use Rattle.world.specs.Connections.{Next, sent_on, is_conn}
use Rattle.world.specs.Nodes.{shut_by as world_shuts, closing, member_change, setup_change, sent_up, passed}
use Rattle.world.specs.Clients.{writer_change, dialled_change, did, given_up, reached_answer}
use Rattle.world.specs.Primaries.{asks_writer}
use Rattle.world_nets.specs.Changes.{Flush, sent_in, sent_by, shut_by, NotOf, AreApart}
use Rattle.world_nets.specs.Steps.{ChangesBy, SendsBy}
use Rattle.world_nets.specs.Dials.{request_flush, AreBefore, flushes_with, DialsBy}
use Rattle.world_nets.specs.Flushing.{lower_flush, upper_flushes, shuts_above, shuts_below, member_flushes, flush_above, writer_flushes, writer_dial, action_sends, SetupSends, WriterSends}
use Rattle.world_nets.proofs.ChangeLemmas.{flip-false}

-- TESTS

and-false : (b : Bool) → (b && false) ≡ false
and-false true = refl
and-false false = refl

and-true : (b : Bool) → (b && true) ≡ b
and-true true = refl
and-true false = refl

or-false : (b : Bool) → (b || false) ≡ b
or-false true = refl
or-false false = refl

flip : (a b : ℕ) → (a == b) ≡ (b == a)
flip a b =
    elim (a == b) as (λ v. (a == b) ≡ v → v ≡ (b == a)) [
      | true ↦ λ e. sym (subst (λ n. (n == a) ≡ true) (eqb-true a b e) (same-itself a))
      | false ↦ λ e. sym (flip-false a b e)
    ] refl

pub other-number : (a b : ℕ) → (a ≡ b → ⊥) → (a == b) ≡ false
other-number a b h =
    elim (a == b) as (λ v. (a == b) ≡ v → v ≡ false) [
      | true ↦ λ e. absurd (h (eqb-true a b e))
      | false ↦ λ e. refl
    ] refl

-- ONE END

-- what an end sends on its own direction, and on the other
sent-there : (b a : Bool) (ms : List Message) → b ≡ a → cond (b && true) ms [] ++ [] ≡ (if a then ms else [])
sent-there true true ms e = append-nil ms
sent-there true false ms e = cc
sent-there false true ms e = cc
sent-there false false ms e = refl

sent-back : (b : Bool) (ms : List Message) → cond (b && false) ms [] ++ [] ≡ []
sent-back true ms = refl
sent-back false ms = refl

front-back : (b : Bool) (ms rest : List Message) → cond (b && false) ms [] ++ rest ≡ rest
front-back true ms rest = refl
front-back false ms rest = refl

-- the upper end, if there is one
upper-down : (conn : Option ℕ) (shut : Bool) (ms : List Message) (x : ℕ) → sent_by (upper_flushes conn shut ms) x true ≡ sent_on conn ms x
upper-down None shut ms x = refl
upper-down (Some d) shut ms x = sent-there (d == x) (x == d) ms (flip d x)

upper-up : (conn : Option ℕ) (shut : Bool) (ms : List Message) (x : ℕ) → sent_by (upper_flushes conn shut ms) x false ≡ []
upper-up None shut ms x = refl
upper-up (Some d) shut ms x = sent-back (d == x) ms

upper-shut : (conn : Option ℕ) (ms : List Message) (x : ℕ) → shut_by (upper_flushes conn true ms) x ≡ is_conn conn x
upper-shut None ms x = refl
upper-shut (Some d) ms x = or-false ((d == x) && true) ∙ (and-true (d == x) ∙ flip d x)

upper-unshut : (conn : Option ℕ) (ms : List Message) (x : ℕ) → shut_by (upper_flushes conn false ms) x ≡ false
upper-unshut None ms x = refl
upper-unshut (Some d) ms x = or-false ((d == x) && false) ∙ and-false (d == x)

upper-apart : (conn : Option ℕ) (shut : Bool) (ms : List Message) → AreApart (upper_flushes conn shut ms)
upper-apart None shut ms = tt
upper-apart (Some d) shut ms = (tt, tt)

-- without dials no request is sent
no-request : (next x : ℕ) (dials : List Dial) → dials ≡ [] → listed (option_map (λ d. d.request) (dial_at next dials x)) ≡ []
no-request next x dials none = ap (λ (ds : List Dial). listed (option_map (λ d. d.request) (dial_at next ds x))) none ∙ nothing-at (nat_le next x) (x - next)
  where
    nothing-at : (b : Bool) (n : ℕ) → listed (option_map (λ (d : Dial). d.request) (if b then slice_get [] n else None)) ≡ []
    nothing-at true n = refl
    nothing-at false n = refl

-- A change without dials that sends only down, and shuts, as an upper end does.
upper-sends : (w : World) (k : Change) (conn : Option ℕ) (shut : Bool) (ms : List Message) → k.dials ≡ [] → ((x : ℕ) → k.downs x ≡ sent_on conn ms x) → ((x : ℕ) → k.ups x ≡ [])
    → ((x : ℕ) → k.shuts x ≡ shut_by (upper_flushes conn shut ms) x) → SendsBy w k (upper_flushes conn shut ms)
upper-sends w k conn shut ms none downs ups shuts = record {
  none = none;
  changes = record { sends = sends; shuts = shuts; apart = upper-apart conn shut ms };
}
  where
    sends : (x : ℕ) (d : Bool) → sent_in w k x d ≡ sent_by (upper_flushes conn shut ms) x d
    sends x true =
        ap (λ (l : List Message). k.downs x ++ l) (no-request w.next_conn x k.dials none)
        ∙ (append-nil (k.downs x) ∙ (downs x ∙ sym (upper-down conn shut ms x)))
    sends x false = ups x ∙ sym (upper-up conn shut ms x)

-- MEMBERS

member-shuts : (s : Shuts) (c : ℕ) (mirror : Option ℕ) (ms : List Message) (x : ℕ)
    → world_shuts s c mirror x ≡ (((c == x) && shuts_above s) || shut_by (upper_flushes mirror (shuts_below s) ms) x)
member-shuts shuts.Nothing c mirror ms x = sym (λ j. and-false (c == x) j || upper-unshut mirror ms x j)
member-shuts shuts.Mirror c mirror ms x = sym (λ j. and-false (c == x) j || upper-shut mirror ms x j)
member-shuts shuts.Both c mirror ms x = sym (λ j. (and-true (c == x) ∙ flip c x) j || upper-shut mirror ms x j)

member-apart : (f : Flush) (mirror : Option ℕ) (shut : Bool) (ms : List Message) → (mirror ≡ Some f.conn → ⊥) → AreApart (f ∷ upper_flushes mirror shut ms)
member-apart f None shut ms other = (tt, tt)
member-apart f (Some d) shut ms other = ((other-number d f.conn (λ e. other (ap Some e)), tt), (tt, tt))

-- A change without dials that sends and shuts as the two ends of a member do.
both-send : (w : World) (k : Change) (c : ℕ) (s : Shuts) (ups : List Message) (mirror : Option ℕ) (downs : List Message) → k.dials ≡ [] → ((x : ℕ) → k.downs x ≡ sent_on mirror downs x)
    → ((x : ℕ) → k.ups x ≡ sent_on (Some c) ups x) → ((x : ℕ) → k.shuts x ≡ world_shuts s c mirror x) → (mirror ≡ Some c → ⊥)
    → SendsBy w k (lower_flush c (shuts_above s) ups ∷ upper_flushes mirror (shuts_below s) downs)
both-send w k c s ups mirror downs none down up shut other = record {
  none = none;
  changes = record {
    sends = sends;
    shuts = λ x. shut x ∙ member-shuts s c mirror downs x;
    apart = member-apart (lower_flush c (shuts_above s) ups) mirror (shuts_below s) downs other;
  };
}
  where
    sends : (x : ℕ) (d : Bool) → sent_in w k x d ≡ sent_by (lower_flush c (shuts_above s) ups ∷ upper_flushes mirror (shuts_below s) downs) x d
    sends x true =
        ap (λ (l : List Message). k.downs x ++ l) (no-request w.next_conn x k.dials none)
        ∙ (append-nil (k.downs x) ∙ (down x ∙ (sym (upper-down mirror (shuts_below s) downs x) ∙ sym (front-back (c == x) ups (sent_by (upper_flushes mirror (shuts_below s) downs) x true)))))
    sends x false =
        up x ∙ (sym (sent-there (c == x) (x == c) ups (flip c x)) ∙ ap (λ (l : List Message). cond ((c == x) && true) ups [] ++ l) (sym (upper-up mirror (shuts_below s) downs x)))

pub member-sends : (w : World) (c : ℕ) (m : FullMember) (x : Next) (s : Step) (b : Option Break) → m.mirror ≢ Some c → SendsBy w (member_change w c m x s b) (member_flushes c m x s.effect)
member-sends w c m x s b other =
    both-send w (member_change w c m x s b) c s.effect.shuts (sent_up m.fields s.effect.sends) m.mirror (passed s.effect.forwards x) refl (λ y. refl) (λ y. refl) (λ y. refl) other

closed-shuts : (c x : ℕ) → is_conn (Some c) x ≡ (((c == x) && true) || false)
closed-shuts c x = sym (or-false ((c == x) && true) ∙ (and-true (c == x) ∙ flip c x))

pub closing-sends : (w : World) (c : ℕ) → SendsBy w (closing w c) (lower_flush c true [] ∷ [])
closing-sends w c = record {
  none = refl;
  changes = record {
    sends = sends;
    shuts = λ x. closed-shuts c x;
    apart = (tt, tt);
  };
}
  where
    nothing : (b : Bool) → ◌≡◌ {A = List Message} [] (cond b [] [] ++ [])
    nothing true = refl
    nothing false = refl

    sends : (x : ℕ) (d : Bool) → sent_in w (closing w c) x d ≡ sent_by (lower_flush c true [] ∷ []) x d
    sends x true = no-request w.next_conn x [] refl ∙ nothing ((c == x) && false)
    sends x false = nothing ((c == x) && true)

-- DIALS

sent-both : (fs gs : List Flush) (x : ℕ) (d : Bool) → sent_by (fs ++ gs) x d ≡ sent_by fs x d ++ sent_by gs x d
sent-both [] gs x d = refl
sent-both (f ∷ fs) gs x d =
    let first : List Message = cond ((f.conn == x) && same_direction (not f.lower) d) f.messages [] in
    ap (λ (l : List Message). first ++ l) (sent-both fs gs x d) ∙ sym (append_assoc first (sent_by fs x d) (sent_by gs x d))

shut-both : (fs gs : List Flush) (x : ℕ) → shut_by (fs ++ gs) x ≡ (shut_by fs x || shut_by gs x)
shut-both [] gs x = refl
shut-both (f ∷ fs) gs x =
    ap (λ b. ((f.conn == x) && f.shut) || b) (shut-both fs gs x) ∙ sym (or_assoc ((f.conn == x) && f.shut) (shut_by fs x) (shut_by gs x))

not-of : (c : ℕ) (fs : List Flush) (g : Flush) → NotOf c fs → (g.conn == c) ≡ false → NotOf c (fs ++ g ∷ [])
not-of c [] g none other = (other, tt)
not-of c (f ∷ fs) g none other = (none.0, not-of c fs g none.1 other)

apart-with : (fs : List Flush) (g : Flush) → AreApart fs → AreBefore g.conn fs → AreApart (fs ++ g ∷ [])
apart-with [] g apart before = (tt, tt)
apart-with (f ∷ fs) g apart before =
    (not-of f.conn fs g apart.0 (other-number g.conn f.conn (λ e. absurd (omega (arith, before.0, e)))), apart-with fs g apart.1 before.1)

-- the request of a dial
dialled-at : (next x : ℕ) (dial : Dial) → listed (option_map (λ d. d.request) (dial_at next (dial ∷ []) x)) ≡ sent_by (request_flush next dial.request ∷ []) x true
dialled-at next x dial =
    elim (next == x) as (λ b. (next == x) ≡ b → listed (option_map (λ d. d.request) (dial_at next (dial ∷ []) x)) ≡ cond (b && true) (dial.request ∷ []) [] ++ []) [
      | true ↦ λ e. subst (λ n. listed (option_map (λ d. d.request) (dial_at next (dial ∷ []) n)) ≡ dial.request ∷ []) (eqb-true next x e) (here next)
      | false ↦ λ e. elsewhere (nat_le next x) (x - next) (away e)
    ] refl
  where
    at : (b : Bool) (n : ℕ) → b ≡ true → n ≡ 0 → listed (option_map (λ (d : Dial). d.request) (if b then slice_get (dial ∷ []) n else None)) ≡ dial.request ∷ []
    at true zero h e = refl
    at true (suc n) h e = absurd (omega (arith, e))
    at false n h e = cc

    here : (n : ℕ) → listed (option_map (λ (d : Dial). d.request) (dial_at n (dial ∷ []) n)) ≡ dial.request ∷ []
    here n = at (nat_le n n) (n - n) (grind (arith, nat_tests)) (omega arith)

    away : (next == x) ≡ false → nat_le next x ≡ true → (m : ℕ) × (x - next ≡ suc m)
    away e h = (x - next - 1, grind (arith, nat_tests))

    elsewhere : (b : Bool) (n : ℕ) → (b ≡ true → (m : ℕ) × (n ≡ suc m)) → listed (option_map (λ (d : Dial). d.request) (if b then slice_get (dial ∷ []) n else None)) ≡ []
    elsewhere true zero h = (let k : _ = h refl in absurd (omega (arith, k.1)))
    elsewhere true (suc n) h = refl
    elsewhere false n h = refl

-- A change that dials, and else sends and shuts as these flushes do.
pub add-dial : (w : World) (k : Change) (dial : Dial) (fs : List Flush) → k.dials ≡ dial ∷ [] → AreBefore w.next_conn fs → ChangesBy w (record k { dials = [] }) fs → DialsBy w k dial fs
add-dial w k dial fs once before by = record {
  once = once;
  before = before;
  changes = record {
    sends = sends;
    shuts = λ x. by.shuts x ∙ (sym (or-false (shut_by fs x)) ∙ (ap (λ b. shut_by fs x || b) (sym (or-false ((w.next_conn == x) && false) ∙ and-false (w.next_conn == x))) ∙ sym (shut-both fs (request_flush w.next_conn dial.request ∷ []) x)));
    apart = apart-with fs (request_flush w.next_conn dial.request) by.apart before;
  };
}
  where
    requests : List Flush
    requests = request_flush w.next_conn dial.request ∷ []

    old : (x : ℕ) → k.downs x ≡ sent_by fs x true
    old x = sym (append-nil (k.downs x)) ∙ (ap (λ (l : List Message). k.downs x ++ l) (sym (no-request w.next_conn x [] refl)) ∙ by.sends x true)

    sends : (x : ℕ) (d : Bool) → sent_in w k x d ≡ sent_by (flushes_with w fs dial) x d
    sends x true =
        (λ j. old x j ++ listed (option_map (λ d. d.request) (dial_at w.next_conn (once j) x)))
        ∙ (ap (λ (l : List Message). sent_by fs x true ++ l) (dialled-at w.next_conn x dial) ∙ sym (sent-both fs requests x true))
    sends x false =
        by.sends x false ∙ (sym (append-nil (sent_by fs x false)) ∙ (ap (λ (l : List Message). sent_by fs x false ++ l) (sym (sent-back (w.next_conn == x) (dial.request ∷ []))) ∙ sym (sent-both fs requests x false)))

-- the setup of a member, but for its dial
setup-else : (w : World) (k : Change) (c : ℕ) (fields : WriteFields) (s : Setup) → k.dials ≡ [] → ((x : ℕ) → k.downs x ≡ []) → ((x : ℕ) → k.ups x ≡ sent_on (Some c) (sent_up fields s.effect.sends) x)
    → ((x : ℕ) → k.shuts x ≡ world_shuts s.effect.shuts c None x) → SendsBy w k (flush_above c fields s.effect ∷ [])
setup-else w k c fields s none downs ups shuts = both-send w k c s.effect.shuts (sent_up fields s.effect.sends) None [] none downs ups shuts (λ e. cc)

pub setup-sends : (w : World) (c : ℕ) (fields : WriteFields) (s : Setup) (b : Option Break) → c < w.next_conn → SetupSends w c fields s b
setup-sends w c fields s b within = record {
  alone = λ none. setup-else w (setup_change w c fields s b) c fields s none (λ x. refl) (λ x. refl) (λ x. refl);
  mirrored = λ dial once. add-dial w (setup_change w c fields s b) dial (flush_above c fields s.effect ∷ []) once (within, tt)
      (setup-else w (record (setup_change w c fields s b) { dials = [] }) c fields s refl (λ x. refl) (λ x. refl) (λ x. refl)).changes;
}

-- WRITERS

given-up : (b : Bool) (conn : Option ℕ) (ms : List Message) (x : ℕ) → (if b then (λ (y : ℕ). false) else is_conn conn) x ≡ shut_by (upper_flushes conn (not b) ms) x
given-up true conn ms x = sym (upper-unshut conn ms x)
given-up false conn ms x = sym (upper-shut conn ms x)

either-none : (b : Bool) → ◌≡◌ {A = List Message} [] (if b then [] else [])
either-none true = refl
either-none false = refl

none-sent : (conn : Option ℕ) (x : ℕ) → [] ≡ sent_on conn [] x
none-sent None x = refl
none-sent (Some d) x = either-none (x == d)

-- A change that dials nothing sends nothing, where it says so.
nothing-sent : (w : World) (k : Change) → k.dials ≡ [] → ((y : ℕ) → k.downs y ≡ []) → ((y : ℕ) → k.ups y ≡ []) → (y : ℕ) (d : Bool) → sent_in w k y d ≡ []
nothing-sent w k none downs ups y true = ap (λ (l : List Message). k.downs y ++ l) (no-request w.next_conn y k.dials none) ∙ (append-nil (k.downs y) ∙ downs y)
nothing-sent w k none downs ups y false = ups y

-- A change in which a writer comes into a state, and sends this.
writer-by : (w : World) (b : ℕ) (x : WriterRecord) (k : Change) (ms : List Message) → k.dials ≡ [] → ((y : ℕ) → k.downs y ≡ sent_on (w.writers b).conn ms y) → ((y : ℕ) → k.ups y ≡ [])
    → ((y : ℕ) → k.shuts y ≡ given_up x.phase (w.writers b).conn y) → SendsBy w k (writer_flushes w b x ms)
writer-by w b x k ms none downs ups shuts =
    upper-sends w k (w.writers b).conn (not (is_connected x.phase)) ms none downs ups (λ y. shuts y ∙ given-up (is_connected x.phase) (w.writers b).conn ms y)

writer-does : (w : World) (b : ℕ) (x : WriterRecord) (waits : Option Waiting) (a : Action) (bytes : List ℕ) (k : Change) → did w b waits a x bytes ≡ Some k → SendsBy w k (writer_flushes w b x (action_sends a))
writer-does w b x waits action.Took bytes k e =
    subst (λ (n : Change). SendsBy w n (writer_flushes w b x [])) (same_Some _ _ e)
    (writer-by w b x (record (writer_change w b x) { session = w.latest b; bytes = bytes }) [] refl (λ y. none-sent (w.writers b).conn y) (λ y. refl) (λ y. refl))
writer-does w b x waits (action.Send p) bytes k e =
    subst (λ (n : Change). SendsBy w n (writer_flushes w b x (packet p ∷ []))) (same_Some _ _ e)
    (writer-by w b x (record (writer_change w b x) { downs = sent_on (w.writers b).conn (packet p ∷ []) }) (packet p ∷ []) refl (λ y. refl) (λ y. refl) (λ y. refl))
writer-does w b x waits (action.Answered n a) bytes k e =
    subst (λ (c : Change). SendsBy w c (writer_flushes w b x [])) (same_Some _ _ e)
    (writer-by w b x (record (writer_change w b x) { said = record { ordinal = n; answer = a } ∷ []; answered = reached_answer b waits a }) [] refl (λ y. none-sent (w.writers b).conn y) (λ y. refl) (λ y. refl))
writer-does w b x waits other bytes k e = cc

pub writer-sends : (w : World) (b : ℕ) (x : WriterRecord) → WriterSends w b x
writer-sends w b x = record {
  moves = writer-by w b x (writer_change w b x) [] refl (λ y. none-sent (w.writers b).conn y) (λ y. refl) (λ y. refl);
  does = λ waits a bytes k e. writer-does w b x waits a bytes k e;
  asks = λ c. record {
    none = refl;
    changes = record { sends = nothing-sent w (asks_writer w b c) refl (λ y. refl) (λ y. refl); shuts = λ y. refl; apart = tt };
  };
  dials = λ to r. add-dial w (dialled_change w b x to r true) (writer_dial w b to r) [] refl tt (record {
    sends = nothing-sent w (record (dialled_change w b x to r true) { dials = [] }) refl (λ y. refl) (λ y. refl);
    shuts = λ y. refl;
    apart = tt;
  });
}
