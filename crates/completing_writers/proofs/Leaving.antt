-- What an own step of a block's writer leaves alone.
use Rattle.std.proofs.Common.{◌≡◌, ℕ, ◌<◌, Bool, true, false, List, [], ◌++◌, length, Option, Some, refl, sym, ◌∙◌, ap, subst, arith}
use Rattle.std.specs.Prelude.{◌==◌, if◌then◌else◌, option_map}
use Rattle.std.proofs.lemmas.List.{append-nil}
use Rattle.name_core.specs.Offices.{record_of}
use Rattle.world.specs.declared.events.Event.{Event}
use Rattle.world.specs.declared.events.TakenCommand.{TakenCommand}
use Rattle.world.specs.Parts.{Message, Writing}
use Rattle.world.specs.Worlds.{World, Dial, Change, put, put_at, add, listed, dial_at, latest_with, downs_with, ups_with, shut_marks, past_after, apply}
use Rattle.world.specs.Clients.{own_writer}
use Rattle.world.specs.Events.{changed, outcome, after_event, happens}
use Rattle.world_laws.proofs.FactTables.{if-each}
use Rattle.world_laws.proofs.StampGivens.{put-here}
use Rattle.play_completeness.proofs.WorldOrders.Kept.{eqb-itself}
use Rattle.play_completeness.proofs.WorldOrders.Lists.{dialled-before}
use Rattle.play_model.specs.Dues.{acting}
use Rattle.play_completeness.proofs.TurnWorld.{named, put-same, put-else, no-request}
use Rattle.play_completeness.proofs.WriterWorld.{at-same}

-- WHAT STAYS

-- A step of the writer of this block leaves it so, and everything that isn't its block's; what it sends and whom it dials
-- is told elsewhere.
pub record Aside (w v : World) (b : ℕ) (new : Writing) : Type 0 where
  pub nodes : v.nodes ≡ w.nodes
  pub ups : (k : ℕ) → v.ups k ≡ w.ups k
  pub lowers : (k : ℕ) → v.lowers k ≡ w.lowers k
  pub replicas : (n k : ℕ) → v.replicas n k ≡ w.replicas n k
  pub writer : v.writers b ≡ new
  pub writers : (k : ℕ) → (k == b) ≡ false → v.writers k ≡ w.writers k
  pub down_marks : (k : ℕ) → v.down_marks k ≡ w.down_marks k
  pub up_marks : (k : ℕ) → v.up_marks k ≡ w.up_marks k
  pub entries : (k : ℕ) → (k == b) ≡ false → record_of v.office (record { 0 = k }) ≡ record_of w.office (record { 0 = k })
  pub said : (k : ℕ) → (k == b) ≡ false → v.said k ≡ w.said k
  pub written : (k : ℕ) → (k == b) ≡ false → v.written (v.latest k) ≡ w.written (w.latest k)
  pub unused : v.written 0 ≡ w.written 0
  pub dialled : (k : ℕ) → k < w.next_conn → v.dialled k ≡ w.dialled k

-- nothing is sent, and nobody is dialled
pub record Unsent (w v : World) : Type 0 where
  pub conns : v.next_conn ≡ w.next_conn
  pub downs : (k : ℕ) → v.downs k ≡ w.downs k

-- TABLES

put-still : {A : Type 0} (f : ℕ → A) (i : ℕ) (x : A) (j : ℕ) → x ≡ f i → put f i x j ≡ f j
put-still {A} f i x j e = ap (λ (y : A). put f i y j) e ∙ put-same f i j

at-still : {A : Type 0} (f : ℕ → ℕ → A) (i k : ℕ) (x : A) (j l : ℕ) → x ≡ f i k → put_at f i k x j l ≡ f j l
at-still {A} f i k x j l e = ap (λ (y : A). put_at f i k y j l) e ∙ at-same f i k j l

pub add-here : {A : Type 0} (f : ℕ → List A) (i : ℕ) (xs : List A) → add f i xs i ≡ f i ++ xs
add-here f i xs = rw (eqb-itself i) refl

pub add-none : {A : Type 0} (f : ℕ → List A) (i j : ℕ) → add f i [] j ≡ f j
add-none {A} f i j = if-each (λ (y : List A). y ≡ f j) (j == i) (f j ++ []) (f j) (λ _. append-nil (f j)) (λ _. refl)

pub add-else : {A : Type 0} (f : ℕ → List A) (i : ℕ) (xs : List A) (j : ℕ) → (j == i) ≡ false → add f i xs j ≡ f j
add-else {A} f i xs j e = ap (λ (q : Bool). if q then f j ++ xs else f j) e

-- CHANGES

-- What the latest sessions of other blocks have stays where these bytes are written in this one; and no session has the
-- number 0.
pub record Apart (w : World) (b session : ℕ) (bytes : List ℕ) : Type 0 where
  pub others : (k : ℕ) → (k == b) ≡ false → add w.written session bytes (w.latest k) ≡ w.written (w.latest k)
  pub unused : add w.written session bytes 0 ≡ w.written 0

pub apart-none : (w : World) (b session : ℕ) → Apart w b session []
apart-none w b session = record { others = λ k other. add-none w.written session (w.latest k); unused = add-none w.written session 0 }

-- A change of the writer of this block, which shuts nothing.
pub record OfWriter (w : World) (k : Change) (b : ℕ) : Type 0 where
  pub place : k.writer_at ≡ b
  pub replica : k.replica ≡ w.replicas k.node k.block
  pub lower : k.lower ≡ w.lowers k.lower_at
  pub ups : (c : ℕ) → k.ups c ≡ []
  pub shuts : (c : ℕ) → k.shuts c ≡ false
  pub entries : (n : ℕ) → (n == b) ≡ false → record_of k.office (record { 0 = n }) ≡ record_of w.office (record { 0 = n })
  pub written : (n : ℕ) → (n == b) ≡ false → (past_after w k).written (latest_with w.latest k.stamped n) ≡ w.written (w.latest n)
  pub unused : (past_after w k).written 0 ≡ w.written 0

module _ (w : World) (k : Change) (b : ℕ) (e : Event) where
  pub aside-of : OfWriter w k b → Aside w (named e (apply w k)) b k.writer
  unfolding apply
  aside-of o = record {
    nodes = refl;
    ups = λ c. ap (λ (ms : List Message). w.ups c ++ ms) (o.ups c) ∙ append-nil (w.ups c);
    lowers = λ c. put-still w.lowers k.lower_at k.lower c o.lower;
    replicas = λ n c. at-still w.replicas k.node k.block k.replica n c o.replica;
    writer = subst (λ (i : ℕ). put w.writers i k.writer b ≡ k.writer) (sym o.place) (put-here w.writers b k.writer);
    writers = λ c other. put-else w.writers k.writer_at k.writer c (ap (λ (i : ℕ). c == i) o.place ∙ other);
    down_marks = λ c. ap (λ (q : Bool). if q then shut_marks (downs_with w k c) (w.down_marks c) else w.down_marks c) (o.shuts c);
    up_marks = λ c. ap (λ (q : Bool). if q then shut_marks (ups_with w k c) (w.up_marks c) else w.up_marks c) (o.shuts c);
    entries = o.entries;
    said = λ c other. add-else w.said k.writer_at k.said c (ap (λ (i : ℕ). c == i) o.place ∙ other);
    written = o.written;
    unused = o.unused;
    dialled = λ c lt. dialled-before w k c lt;
  }

  -- what is sent, where nobody is dialled
  pub conns-of : k.dials ≡ [] → (named e (apply w k)).next_conn ≡ w.next_conn
  unfolding apply
  conns-of none = let n : length k.dials ≡ 0 = ap length none in omega (arith, n)

  pub downs-of : k.dials ≡ [] → (c : ℕ) → (named e (apply w k)).downs c ≡ w.downs c ++ k.downs c
  unfolding apply
  downs-of none c =
      ap (λ (ds : List Dial). (w.downs c ++ k.downs c) ++ listed (option_map (λ (d : Dial). d.request) (dial_at w.next_conn ds c))) none
      ∙ no-request (w.downs c ++ k.downs c) w.next_conn c

  pub unsent-of : k.dials ≡ [] → ((c : ℕ) → k.downs c ≡ []) → Unsent w (named e (apply w k))
  unsent-of none quiet = record {
    conns = conns-of none;
    downs = λ c. downs-of none c ∙ (ap (λ (ms : List Message). w.downs c ++ ms) (quiet c) ∙ append-nil (w.downs c));
  }

  -- what was answered of the block
  pub said-here : k.writer_at ≡ b → (named e (apply w k)).said b ≡ w.said b ++ k.said
  unfolding apply
  said-here place = subst (λ (i : ℕ). add w.said i k.said b ≡ w.said b ++ k.said) (sym place) (add-here w.said b k.said)

  pub written-here : (named e (apply w k)).written ((named e (apply w k)).latest b) ≡ add w.written k.session k.bytes (latest_with w.latest k.stamped b)
  unfolding apply
  written-here = refl

  pub office-here : (named e (apply w k)).office ≡ k.office
  unfolding apply
  office-here = refl

-- an own step that makes this change
pub happens-own : (w : World) (b : ℕ) (takes : Option TakenCommand) (k : Change) → own_writer w b takes true ≡ Some k → happens w (acting b takes) ≡ named (acting b takes) (apply w k)
unfolding happens outcome
happens-own w b takes k e = ap (λ (o : Option Change). after_event w (acting b takes) (changed w o)) e

-- ONE AFTER THE OTHER

pub aside-then : (w u v : World) (b : ℕ) (m n : Writing) → Unsent w u → Aside w u b m → Aside u v b n → Aside w v b n
aside-then w u v b m n s x y = record {
  nodes = y.nodes ∙ x.nodes;
  ups = λ k. y.ups k ∙ x.ups k;
  lowers = λ k. y.lowers k ∙ x.lowers k;
  replicas = λ i k. y.replicas i k ∙ x.replicas i k;
  writer = y.writer;
  writers = λ k other. y.writers k other ∙ x.writers k other;
  down_marks = λ k. y.down_marks k ∙ x.down_marks k;
  up_marks = λ k. y.up_marks k ∙ x.up_marks k;
  entries = λ k other. y.entries k other ∙ x.entries k other;
  said = λ k other. y.said k other ∙ x.said k other;
  written = λ k other. y.written k other ∙ x.written k other;
  unused = y.unused ∙ x.unused;
  dialled = λ k lt. y.dialled k (subst (λ (i : ℕ). k < i) (sym s.conns) lt) ∙ x.dialled k lt;
}

pub unsent-then : (w u v : World) → Unsent w u → Unsent u v → Unsent w v
unsent-then w u v x y = record { conns = y.conns ∙ x.conns; downs = λ k. y.downs k ∙ x.downs k }
