-- The world after a change that leaves alone all but readers, and connections that aren't of pipelines.
use Rattle.std.proofs.Common.{◌≡◌, ℕ, Bool, true, false, List, [], ◌++◌, Option, Some, None, refl, sym, ◌∙◌, ap, eqb-true}
use Rattle.std.specs.Prelude.{◌==◌, ◌&&◌, ◌-◌, if◌then◌else◌, option_map, unwrap_or}
use Rattle.std.proofs.lemmas.Bool.{false≢true}
use Rattle.std.proofs.lemmas.List.{append-nil}
use Rattle.replica_model.specs.Rows.{FullReplica}
use Rattle.world.specs.declared.events.Event.{Event}
use Rattle.world.specs.Parts.{Message, Marks, FullMember, Lower, writes, Writing, Said}
use Rattle.world.specs.Worlds.{World, Dial, Stamped, Change, put, put_at, add, latest_with, listed, dial_at, downs_with, ups_with, marks_with, shut_marks, apply}
use Rattle.world_laws.proofs.FactTables.{if-each, and-left, and-right}
use Rattle.world_laws.proofs.ByteFrame.{Each, dial-place, dial-none}
use Rattle.world_orders.proofs.Frame.{marked}
use Rattle.world_orders.proofs.Lists.{no-dial-before, dialled-before}
use Rattle.play_completeness.specs.Plain.{is_of_pipeline}
use Rattle.play_completeness.specs.Links.{InPipeline}
use Rattle.play_completeness.proofs.Beside.{SameConn, Beside}
use Rattle.play_completeness.proofs.EndTurns.{add-none}
use Rattle.play_completeness.proofs.TurnWorld.{named, put-same, put-else}

-- TABLES

pub at-same : {A : Type 0} (f : ℕ → ℕ → A) (i k j l : ℕ) → put_at f i k (f i k) j l ≡ f j l
at-same f i k j l =
    if-each (λ x. x ≡ f j l) (j == i && l == k) (f i k) (f j l)
    (λ e. ap (λ (n : ℕ). f n k) (sym (eqb-true j i (and-left (j == i) (l == k) e))) ∙ ap (f j) (sym (eqb-true l k (and-right (j == i) (l == k) e)))) (λ _. refl)

unshut : (shuts : ℕ → Bool) (sent : ℕ → List Message) (marks : ℕ → Marks) (c : ℕ) → shuts c ≡ false → marks_with shuts sent marks c ≡ marks c
unshut shuts sent marks c e = ap (λ (b : Bool). if b then shut_marks (sent c) (marks c) else marks c) e

-- LOWER ENDS

-- a member, which writes
abbrev pub is_member : Lower → Bool
is_member (writes m) = true
is_member other = false

-- All lower ends stay but some that aren't of pipelines, and those are no members, before or after.
pub record LowersStay (w : World) (lowers : ℕ → Lower) : Type 0 where
  pub piped : (c : ℕ) → is_of_pipeline (w.dialled c).upper ≡ true → lowers c ≡ w.lowers c
  pub onward : (c : ℕ) (m : FullMember) → w.lowers c ≡ writes m → lowers c ≡ writes m
  pub back : (c : ℕ) (m : FullMember) → lowers c ≡ writes m → w.lowers c ≡ writes m

pub lowers-same : (w : World) (i : ℕ) → LowersStay w (put w.lowers i (w.lowers i))
lowers-same w i = record {
  piped = λ c p. put-same w.lowers i c;
  onward = λ c m is. put-same w.lowers i c ∙ is;
  back = λ c m is. sym (put-same w.lowers i c) ∙ is;
}

-- a connection of a pipeline isn't one that isn't
pub apart : (w : World) (i c : ℕ) → is_of_pipeline (w.dialled i).upper ≡ false → is_of_pipeline (w.dialled c).upper ≡ true → (c == i) ≡ false
apart w i c off on = go (c == i) refl
  where
    go : (q : Bool) → (c == i) ≡ q → (c == i) ≡ false
    go false e = e
    go true e = absurd (false≢true (sym off ∙ (ap (λ (n : ℕ). is_of_pipeline (w.dialled n).upper) (sym (eqb-true c i e)) ∙ on)))

module _ (w : World) (i : ℕ) (off : is_of_pipeline (w.dialled i).upper ≡ false) (old : is_member (w.lowers i) ≡ false) (new : Lower) (none : is_member new ≡ false) where
  onward : (c : ℕ) (m : FullMember) → w.lowers c ≡ writes m → put w.lowers i new c ≡ writes m
  onward c m is = go (c == i) refl
    where
      go : (q : Bool) → (c == i) ≡ q → put w.lowers i new c ≡ writes m
      go false e = put-else w.lowers i new c e ∙ is
      go true e = absurd (false≢true (sym old ∙ ap is_member (ap w.lowers (sym (eqb-true c i e)) ∙ is)))

  back : (c : ℕ) (m : FullMember) → put w.lowers i new c ≡ writes m → w.lowers c ≡ writes m
  back c m is = go (c == i) refl
    where
      go : (q : Bool) → (c == i) ≡ q → w.lowers c ≡ writes m
      go false e = sym (put-else w.lowers i new c e) ∙ is
      go true e = absurd (false≢true (sym none ∙ ap is_member (sym (ap (λ (b : Bool). if b then new else w.lowers c) e) ∙ is)))

  pub lowers-put : LowersStay w (put w.lowers i new)
  lowers-put = record { piped = λ c p. put-else w.lowers i new c (apart w i c off p); onward = onward; back = back }

-- CHANGES

-- a change that leaves alone what isn't such
pub record MovesBeside (w : World) (k : Change) : Type 0 where
  pub office : k.office ≡ w.office
  pub stamped : k.stamped ≡ None
  pub bytes : k.bytes ≡ []
  pub writer : k.writer ≡ w.writers k.writer_at
  pub said : k.said ≡ []
  pub replica : k.replica ≡ w.replicas k.node k.block
  pub lowers : LowersStay w (put w.lowers k.lower_at k.lower)
  pub downs : (c : ℕ) → is_of_pipeline (w.dialled c).upper ≡ true → k.downs c ≡ []
  pub ups : (c : ℕ) → is_of_pipeline (w.dialled c).upper ≡ true → k.ups c ≡ []
  pub shuts : (c : ℕ) → is_of_pipeline (w.dialled c).upper ≡ true → k.shuts c ≡ false
  pub dials : Each (λ (d : Dial). is_of_pipeline d.dialled.upper ≡ false) k.dials

-- marks that stay on pipelines
abbrev pub MarksBeside : World → (ℕ → Marks) → (ℕ → Marks) → Type 0
MarksBeside w old new = (c : ℕ) → is_of_pipeline (w.dialled c).upper ≡ true → new c ≡ old c

module _ (w : World) (dm um : ℕ → Marks) (k : Change) (e : Event) (td : MarksBeside w w.down_marks dm) (tu : MarksBeside w w.up_marks um) (x : MovesBeside w k) where
  abbrev z : World
  z = marked w dm um

  abbrev v : World
  v = named e (apply z k)

  -- a connection of a pipeline was dialled before
  old-piped : (c : ℕ) → InPipeline v c → InPipeline w c
  unfolding apply
  old-piped c p = go (dial_at w.next_conn k.dials c) refl
    where
      go : (q : Option Dial) → dial_at w.next_conn k.dials c ≡ q → InPipeline w c
      go None none = record {
        known = dial-none w.next_conn k.dials c none p.known;
        of = ap (λ (o : Option Dial). is_of_pipeline (unwrap_or (option_map (λ (d : Dial). d.dialled) o) (w.dialled c)).upper) (sym none) ∙ p.of;
      }
      go (Some d) at =
          let piped : is_of_pipeline d.dialled.upper ≡ true = ap (λ (o : Option Dial). is_of_pipeline (unwrap_or (option_map (λ (y : Dial). y.dialled) o) (w.dialled c)).upper) (sym at) ∙ p.of in
          absurd (false≢true (sym (x.dials.at (c - w.next_conn) d (dial-place w.next_conn k.dials c d at).0) ∙ piped))

  old-downs : (c : ℕ) → InPipeline w c → downs_with z k c ≡ w.downs c
  old-downs c p =
      ap (λ (o : Option Dial). (w.downs c ++ k.downs c) ++ listed (option_map (λ (d : Dial). d.request) o)) (no-dial-before w.next_conn c k.dials p.known)
      ∙ (append-nil (w.downs c ++ k.downs c) ∙ (ap (λ (ms : List Message). w.downs c ++ ms) (x.downs c p.of) ∙ append-nil (w.downs c)))

  same-conn : (c : ℕ) → InPipeline w c → SameConn w v c
  unfolding apply
  same-conn c p = record {
    dialled = dialled-before z k c p.known;
    downs = old-downs c p;
    ups = ap (λ (ms : List Message). w.ups c ++ ms) (x.ups c p.of) ∙ append-nil (w.ups c);
    down_marks = unshut k.shuts (downs_with z k) dm c (x.shuts c p.of) ∙ td c p.of;
    up_marks = unshut k.shuts (ups_with z k) um c (x.shuts c p.of) ∙ tu c p.of;
    lowers = x.lowers.piped c p.of;
  }

  pub beside-by : Beside w v
  unfolding apply
  beside-by = record {
    nodes = refl;
    office = x.office;
    latest = λ b. ap (λ (o : Option Stamped). latest_with w.latest o b) x.stamped;
    written = λ s. ap (λ (q : List ℕ). add w.written k.session q s) x.bytes ∙ add-none w.written k.session s;
    writers = λ b. ap (λ (y : Writing). put w.writers k.writer_at y b) x.writer ∙ put-same w.writers k.writer_at b;
    said = λ b. ap (λ (q : List Said). add w.said k.writer_at q b) x.said ∙ add-none w.said k.writer_at b;
    replicas = λ n b. ap (λ (r : FullReplica). put_at w.replicas k.node k.block r n b) x.replica ∙ at-same w.replicas k.node k.block n b;
    before = old-piped;
    conns = same-conn;
    onward = x.lowers.onward;
    back = x.lowers.back;
  }
