-- What a change owes so that whoever may still take hasn't taken the end.
use Rattle.std.proofs.Common.{◌≡◌, ℕ, Bool, true, false, List, Option, Some, None, IfSome, refl, sym, ap, ◌∙◌, subst, eqb-true}
use Rattle.std.specs.Prelude.{◌==◌}
use Rattle.world_laws.specs.MemberCore.Members.{hears}
use Rattle.world_laws.specs.WriterCore.WriterRecord.{WriterRecord}
use Rattle.world_laws.specs.WriterCore.Transitions.{is_connected}
use Rattle.world_laws.specs.World.Parts.{Message, Dialled, by_writer, by_member, Marks, Lower, idle, writes, serves, recovers, ended_below, Writing}
use Rattle.world_laws.specs.World.Worlds.{World, Change, downs_with, ups_with, marks_with, apply}
use Rattle.world_laws.proofs.FactTables.{if-each}
use Rattle.world_orders.specs.Open.{IsOpenBelow, OpenEnds}
use Rattle.world_orders.specs.Orders.{has_members, IsMirror, MirrorIs, IsWriterConn, WriterIs}

-- THE ENDS

-- a member that hears its mirror hasn't taken the mirror's end
abbrev pub IsOpenMirror : (ℕ → Marks) → Lower → Type 0
IsOpenMirror marks (writes m) = IfSome m.mirror (λ c. hears m.state ≡ true → (marks c).over ≡ false)
IsOpenMirror marks other = Unit {0}

-- A writer that has a connection has members, and hasn't taken the connection's end.
pub record IsOpenConn (over : Bool) (x : WriterRecord) : Type 0 where
  pub open_is : over ≡ false
  pub connected : is_connected x.phase ≡ true
  pub members : has_members x.members ≡ true

abbrev pub IsOpenWriter : (ℕ → Marks) → Writing → Type 0
IsOpenWriter marks x = IfSome x.conn (λ c. IsOpenConn (marks c).over x.known)

-- In this world no end was taken by whoever may still take.
pub record Opens (w : World) : Type 0 where
  pub below : (c : ℕ) → IsOpenBelow (w.lowers c) (w.down_marks c).over
  pub mirrors : (c : ℕ) → IsOpenMirror w.up_marks (w.lowers c)
  pub writers : (b : ℕ) → IsOpenWriter w.up_marks (w.writers b)

-- so it says what is said of the world
pub open-ends : (w : World) → Opens w → OpenEnds w
open-ends w h = record {
  below = h.below;
  mirrors = λ d c m l e heard.
      let was : IsOpenMirror w.up_marks (writes m) = subst (IsOpenMirror w.up_marks) l (h.mirrors d) in
      (subst (λ (o : Option ℕ). IfSome o (λ n. hears m.state ≡ true → (w.up_marks n).over ≡ false)) e was) heard;
  writers = λ b c e.
      let was : IsOpenConn (w.up_marks c).over (w.writers b).known = subst (λ (o : Option ℕ). IfSome o (λ n. IsOpenConn (w.up_marks n).over (w.writers b).known)) e (h.writers b) in
      was.open_is;
}

-- WHERE THE MARKS CHANGE

pub below-over : (l : Lower) (a b : Bool) → a ≡ b → IsOpenBelow l a → IsOpenBelow l b
below-over l a b e h = subst (IsOpenBelow l) e h

pub mirror-over : (p q : ℕ → Marks) (l : Lower) → ((c : ℕ) → (p c).over ≡ (q c).over) → IsOpenMirror p l → IsOpenMirror q l
mirror-over p q idle same h = tt
mirror-over p q (serves b s) same h = tt
mirror-over p q recovers same h = tt
mirror-over p q ended_below same h = tt
mirror-over p q (writes m) same h = go m.mirror h
  where
    go : (o : Option ℕ) → IfSome o (λ c. hears m.state ≡ true → (p c).over ≡ false) → IfSome o (λ c. hears m.state ≡ true → (q c).over ≡ false)
    go None x = tt
    go (Some c) x = λ e. sym (same c) ∙ x e

pub writer-over : (p q : ℕ → Marks) (x : Writing) → ((c : ℕ) → (p c).over ≡ (q c).over) → IsOpenWriter p x → IsOpenWriter q x
writer-over p q x same h = go x.conn h
  where
    go : (o : Option ℕ) → IfSome o (λ c. IsOpenConn (p c).over x.known) → IfSome o (λ c. IsOpenConn (q c).over x.known)
    go None y = tt
    go (Some c) y = subst (λ (b : Bool). IsOpenConn b x.known) (same c) y

-- The end is taken from one connection alone: others' mirrors, and other writers' connections, stay.
pub mirror-apart : (f : ℕ → Dialled) (p q : ℕ → Marks) (at : ℕ) (l : Lower) → MirrorIs f p at l → ((c : ℕ) → (f c).upper ≡ by_member at → (p c).over ≡ (q c).over)
    → IsOpenMirror p l → IsOpenMirror q l
mirror-apart f p q at idle k same h = tt
mirror-apart f p q at (serves b s) k same h = tt
mirror-apart f p q at recovers k same h = tt
mirror-apart f p q at ended_below k same h = tt
mirror-apart f p q at (writes m) k same h = go m.mirror k h
  where
    go : (o : Option ℕ) → IfSome o (λ c. IsMirror (f c) (p c).taken at c m.state) → IfSome o (λ c. hears m.state ≡ true → (p c).over ≡ false)
        → IfSome o (λ c. hears m.state ≡ true → (q c).over ≡ false)
    go None i x = tt
    go (Some c) i x = λ e. sym (same c i.upper) ∙ x e

pub writer-apart : (f : ℕ → Dialled) (p q : ℕ → Marks) (b : ℕ) (x : Writing) → WriterIs f p b x → ((c : ℕ) → (f c).upper ≡ by_writer b → (p c).over ≡ (q c).over)
    → IsOpenWriter p x → IsOpenWriter q x
writer-apart f p q b x k same h = go x.conn k h
  where
    go : (o : Option ℕ) → IfSome o (λ c. IsWriterConn (f c) (p c).taken b x.known) → IfSome o (λ c. IsOpenConn (p c).over x.known) → IfSome o (λ c. IsOpenConn (q c).over x.known)
    go None i y = tt
    go (Some c) i y = subst (λ (v : Bool). IsOpenConn v x.known) (same c i.upper) y

-- a shut doesn't take the end
shut-over : (shuts : ℕ → Bool) (sent : ℕ → List Message) (marks : ℕ → Marks) (c : ℕ) → (marks c).over ≡ (marks_with shuts sent marks c).over
shut-over shuts sent marks c = if-each (λ (m : Marks). (marks c).over ≡ m.over) (shuts c) _ _ (λ e. refl) (λ e. refl)

-- WHAT A CHANGE OWES

-- What holds of all ends but this lower end and this writer, and what is new there.
pub record OpenOwes (v : World) (k : Change) : Type 0 where
  pub below : (c : ℕ) → (c == k.lower_at) ≡ false → IsOpenBelow (v.lowers c) (v.down_marks c).over
  pub mirrors : (c : ℕ) → (c == k.lower_at) ≡ false → IsOpenMirror v.up_marks (v.lowers c)
  pub writers : (b : ℕ) → (b == k.writer_at) ≡ false → IsOpenWriter v.up_marks (v.writers b)
  pub lower : IsOpenBelow k.lower (v.down_marks k.lower_at).over
  pub mirror : IsOpenMirror v.up_marks k.lower
  pub writer : IsOpenWriter v.up_marks k.writer

open-after : (v : World) (k : Change) → OpenOwes v k → Opens (apply v k)
unfolding apply
open-after v k o =
    let down : (c : ℕ) → (v.down_marks c).over ≡ (marks_with k.shuts (downs_with v k) v.down_marks c).over = shut-over k.shuts (downs_with v k) v.down_marks in
    let up : (c : ℕ) → (v.up_marks c).over ≡ (marks_with k.shuts (ups_with v k) v.up_marks c).over = shut-over k.shuts (ups_with v k) v.up_marks in
    record {
      below = λ c. if-each (λ (l : Lower). IsOpenBelow l (marks_with k.shuts (downs_with v k) v.down_marks c).over) (c == k.lower_at) k.lower (v.lowers c)
          (λ e. below-over k.lower _ _ (ap (λ (n : ℕ). (v.down_marks n).over) (sym (eqb-true c k.lower_at e)) ∙ down c) o.lower)
          (λ e. below-over (v.lowers c) _ _ (down c) (o.below c e));
      mirrors = λ c. if-each (λ (l : Lower). IsOpenMirror (marks_with k.shuts (ups_with v k) v.up_marks) l) (c == k.lower_at) k.lower (v.lowers c)
          (λ e. mirror-over v.up_marks (marks_with k.shuts (ups_with v k) v.up_marks) k.lower up o.mirror)
          (λ e. mirror-over v.up_marks (marks_with k.shuts (ups_with v k) v.up_marks) (v.lowers c) up (o.mirrors c e));
      writers = λ b. if-each (λ (x : Writing). IsOpenWriter (marks_with k.shuts (ups_with v k) v.up_marks) x) (b == k.writer_at) k.writer (v.writers b)
          (λ e. writer-over v.up_marks (marks_with k.shuts (ups_with v k) v.up_marks) k.writer up o.writer)
          (λ e. writer-over v.up_marks (marks_with k.shuts (ups_with v k) v.up_marks) (v.writers b) up (o.writers b e));
    }

-- THREE KINDS OF CHANGES

-- a change of neither lower ends nor writers
pub record Beside (v : World) (k : Change) : Type 0 where
  pub lower_same : k.lower ≡ v.lowers k.lower_at
  pub writer_same : k.writer ≡ v.writers k.writer_at

pub beside-opens : (v : World) (k : Change) → Opens v → Beside v k → Opens (apply v k)
beside-opens v k h s = open-after v k (record {
  below = λ c e. h.below c;
  mirrors = λ c e. h.mirrors c;
  writers = λ b e. h.writers b;
  lower = subst (λ (l : Lower). IsOpenBelow l (v.down_marks k.lower_at).over) (sym s.lower_same) (h.below k.lower_at);
  mirror = subst (λ (l : Lower). IsOpenMirror v.up_marks l) (sym s.lower_same) (h.mirrors k.lower_at);
  writer = subst (λ (x : Writing). IsOpenWriter v.up_marks x) (sym s.writer_same) (h.writers k.writer_at);
})

-- a change of one lower end, and what holds of all others
pub record LowerOpens (v : World) (c : ℕ) (k : Change) : Type 0 where
  pub at_is : k.lower_at ≡ c
  pub lower : IsOpenBelow k.lower (v.down_marks c).over
  pub mirror : IsOpenMirror v.up_marks k.lower
  pub writer_same : k.writer ≡ v.writers k.writer_at

pub record OpensButLower (v : World) (c : ℕ) : Type 0 where
  pub below : (d : ℕ) → (d == c) ≡ false → IsOpenBelow (v.lowers d) (v.down_marks d).over
  pub mirrors : (d : ℕ) → (d == c) ≡ false → IsOpenMirror v.up_marks (v.lowers d)
  pub writers : (b : ℕ) → IsOpenWriter v.up_marks (v.writers b)

pub lower-opens : (v : World) (c : ℕ) (k : Change) → OpensButLower v c → LowerOpens v c k → Opens (apply v k)
lower-opens v c k h s = open-after v k (record {
  below = λ d e. h.below d (ap (λ (n : ℕ). d == n) (sym s.at_is) ∙ e);
  mirrors = λ d e. h.mirrors d (ap (λ (n : ℕ). d == n) (sym s.at_is) ∙ e);
  writers = λ b e. h.writers b;
  lower = subst (λ (n : ℕ). IsOpenBelow k.lower (v.down_marks n).over) (sym s.at_is) s.lower;
  mirror = s.mirror;
  writer = subst (λ (x : Writing). IsOpenWriter v.up_marks x) (sym s.writer_same) (h.writers k.writer_at);
})

-- a change of one writer, and what holds of all others
pub record WriterOpens (v : World) (b : ℕ) (k : Change) : Type 0 where
  pub at_is : k.writer_at ≡ b
  pub lower_same : k.lower ≡ v.lowers k.lower_at
  pub writer : IsOpenWriter v.up_marks k.writer

pub record OpensButWriter (v : World) (b : ℕ) : Type 0 where
  pub below : (c : ℕ) → IsOpenBelow (v.lowers c) (v.down_marks c).over
  pub mirrors : (c : ℕ) → IsOpenMirror v.up_marks (v.lowers c)
  pub writers : (d : ℕ) → (d == b) ≡ false → IsOpenWriter v.up_marks (v.writers d)

pub writer-opens : (v : World) (b : ℕ) (k : Change) → OpensButWriter v b → WriterOpens v b k → Opens (apply v k)
writer-opens v b k h s = open-after v k (record {
  below = λ c e. h.below c;
  mirrors = λ c e. h.mirrors c;
  writers = λ d e. h.writers d (ap (λ (n : ℕ). d == n) (sym s.at_is) ∙ e);
  lower = subst (λ (l : Lower). IsOpenBelow l (v.down_marks k.lower_at).over) (sym s.lower_same) (h.below k.lower_at);
  mirror = subst (λ (l : Lower). IsOpenMirror v.up_marks l) (sym s.lower_same) (h.mirrors k.lower_at);
  writer = s.writer;
})
