-- Connections that were shut stay so.
use Rattle.std.proofs.Common.{◌≡◌, ℕ, Bool, true, false, is_some, List, Some, if◌then◌else◌, refl, sym, subst, eqb-true}
use Rattle.std.specs.Prelude.{◌==◌}
use Rattle.world.specs.declared.events.Event.{Event}
use Rattle.world.specs.Parts.{Message, Marks}
use Rattle.world.specs.Worlds.{World, Change, apply, put, shut_marks, ups_with, downs_with}
use Rattle.world.specs.Connections.{Next, message, the_end, marks_taken, up_taken}
use Rattle.world.specs.Events.{outcome, happens}
use Rattle.client_events.proofs.MemberEvents.WorldLaws.{happened}
use Rattle.primary_events.specs.Showing.{IsShut}

still : (b : Bool) (sent : List Message) (k : Marks) → is_some k.end ≡ true → is_some (if b then shut_marks sent k else k).end ≡ true
still true sent k h = refl
still false sent k h = h

-- a change leaves what was shut
pub apply_stays : (w : World) (k : Change) (c : ℕ) → IsShut w c → IsShut (apply w k) c
unfolding apply
apply_stays w k c h = record {
  down = still (k.shuts c) (downs_with w k c) (w.down_marks c) h.down;
  up = still (k.shuts c) (ups_with w k c) (w.up_marks c) h.up;
}

shut_so : (b : Bool) (sent : List Message) (k : Marks) → b ≡ true → is_some (if b then shut_marks sent k else k).end ≡ true
shut_so true sent k e = refl
shut_so false sent k e = cc

-- what it shuts is shut
pub apply_shuts : (w : World) (k : Change) (c : ℕ) → k.shuts c ≡ true → IsShut (apply w k) c
unfolding apply
apply_shuts w k c e = record {
  down = shut_so (k.shuts c) (downs_with w k c) (w.down_marks c) e;
  up = shut_so (k.shuts c) (ups_with w k c) (w.up_marks c) e;
}

same_end : (k : Marks) (x : Next) → is_some k.end ≡ true → is_some (marks_taken k x).end ≡ true
same_end k (message m) h = h
same_end k the_end h = h

put_stays : (f : ℕ → Marks) (c d : ℕ) (x : Next) → is_some (f d).end ≡ true → is_some (put f c (marks_taken (f c) x) d).end ≡ true
put_stays f c d x h = by (d == c) refl where
  by : (b : Bool) → (d == c) ≡ b → is_some (if b then marks_taken (f c) x else f d).end ≡ true
  by true e = same_end (f c) x (subst (λ (n : ℕ). is_some (f n).end ≡ true) (eqb-true d c e) h)
  by false e = h

-- so does what is taken
taken_stays : (w : World) (c d : ℕ) (x : Next) → IsShut w d → IsShut (up_taken w c x) d
unfolding up_taken
taken_stays w c d x h = record { down = h.down; up = put_stays w.up_marks c d x h.up }

-- and an event
pub event_stays : (w : World) (c d : ℕ) (x : Next) (k : Change) (e : Event) → outcome w e ≡ Some (apply (up_taken w c x) k) → IsShut w d → IsShut (happens w e) d
event_stays w c d x k e out h =
    let a : IsShut (apply (up_taken w c x) k) d = apply_stays (up_taken w c x) k d (taken_stays w c d x h) in
    subst (λ (v : World). IsShut v d) (sym (happened w (apply (up_taken w c x) k) e out)) (record { down = a.down; up = a.up })

pub event_shuts : (w u : World) (d : ℕ) (k : Change) (e : Event) → outcome w e ≡ Some (apply u k) → k.shuts d ≡ true → IsShut (happens w e) d
event_shuts w u d k e out is =
    let a : IsShut (apply u k) d = apply_shuts u k d is in
    subst (λ (v : World). IsShut v d) (sym (happened w (apply u k) e out)) (record { down = a.down; up = a.up })
