-- The world after a turn of a member.
use Rattle.std.proofs.Common.{◌≡◌, ℕ, ◌-◌, Bool, true, false, List, [], ◌++◌, length, slice_get, Option, Some, None, refl, sym, ◌∙◌, ap, arith}
use Rattle.std.specs.Prelude.{◌==◌, ◌&&◌, nat_le, if◌then◌else◌, option_map, unwrap_or}
use Rattle.std.proofs.lemmas.Bool.Decides.{nat_tests}
use Rattle.std.proofs.lemmas.List.{append-nil}
use Rattle.member_core.specs.Steps.{Step}
use Rattle.world.specs.declared.events.Event.{Event}
use Rattle.world.specs.Parts.{Message, Marks, FullMember, writes, Break}
use Rattle.world.specs.Worlds.{World, Dial, Change, put, put_at, listed, dial_at, downs_with, ups_with, shut_marks, marks_with, apply}
use Rattle.world.specs.Connections.{Next, sent_on, is_conn}
use Rattle.world.specs.Nodes.{node_of, block_of, passed, sent_up, shut_by, member_change}
use Rattle.world_laws.proofs.FactTables.{if-each}
use Rattle.world_laws.proofs.StampGivens.{put-here}
use Rattle.world_orders.proofs.Kept.{eqb-itself}
use Rattle.world_orders.proofs.Frame.{marked}
use Rattle.world_orders.proofs.Lists.{dialled-before}
use Rattle.play_completeness.proofs.Turned.{Turned}

-- a world that names its last event
abbrev pub named : Event → World → World
named e v = record v { last = Some e }

-- marks of which only how many were taken may differ, and that only at one place
pub record Takes (old new : ℕ → Marks) (at : ℕ → Bool) : Type 0 where
  pub end : (c : ℕ) → (new c).end ≡ (old c).end
  pub taken : (c : ℕ) → at c ≡ false → (new c).taken ≡ (old c).taken

-- TABLES

pub put-same : {A : Type 0} (f : ℕ → A) (i j : ℕ) → put f i (f i) j ≡ f j
put-same f i j = if-each (λ x. x ≡ f j) (j == i) (f i) (f j) (λ e. ap f (sym (same j i e))) (λ e. refl)
  where
    same : (a b : ℕ) → (a == b) ≡ true → a ≡ b
    same a b e = grind (arith, nat_tests, e)

pub put-else : {A : Type 0} (f : ℕ → A) (i : ℕ) (x : A) (j : ℕ) → (j == i) ≡ false → put f i x j ≡ f j
put-else f i x j e = ap (λ (b : Bool). if b then x else f j) e

pub at-here : {A : Type 0} (f : ℕ → ℕ → A) (i k : ℕ) (x : A) → put_at f i k x i k ≡ x
at-here f i k x = rw (eqb-itself i, eqb-itself k) refl

pub at-else : {A : Type 0} (f : ℕ → ℕ → A) (i k : ℕ) (x : A) (j l : ℕ) → (j == i && l == k) ≡ false → put_at f i k x j l ≡ f j l
at-else f i k x j l e = ap (λ (b : Bool). if b then x else f j l) e

no-dial : (next c : ℕ) → dial_at next [] c ≡ None
no-dial next c = if-each (λ (o : Option Dial). o ≡ None) (nat_le next c) (slice_get [] (c - next)) None (λ _. refl) (λ _. refl)

pub no-request : (xs : List Message) (next c : ℕ) → xs ++ listed (option_map (λ (d : Dial). d.request) (dial_at next [] c)) ≡ xs
no-request xs next c = ap (λ (o : Option Dial). xs ++ listed (option_map (λ (d : Dial). d.request) o)) (no-dial next c) ∙ append-nil xs

-- MARKS

pub shut-taken : (shuts : ℕ → Bool) (sent : ℕ → List Message) (marks : ℕ → Marks) (c : ℕ) → (marks_with shuts sent marks c).taken ≡ (marks c).taken
shut-taken shuts sent marks c = if-each (λ (k : Marks). k.taken ≡ (marks c).taken) (shuts c) (shut_marks (sent c) (marks c)) (marks c) (λ _. refl) (λ _. refl)

pub open-end : (shuts : ℕ → Bool) (sent : ℕ → List Message) (marks : ℕ → Marks) (c : ℕ) → shuts c ≡ false → (marks_with shuts sent marks c).end ≡ (marks c).end
open-end shuts sent marks c e = ap (λ (b : Bool). (if b then shut_marks (sent c) (marks c) else marks c).end) e

shut-end : (shuts : ℕ → Bool) (sent : ℕ → List Message) (marks : ℕ → Marks) (c : ℕ) → shuts c ≡ true → (marks c).end ≡ None → (marks_with shuts sent marks c).end ≡ Some (length (sent c))
shut-end shuts sent marks c e none =
    ap (λ (b : Bool). (if b then shut_marks (sent c) (marks c) else marks c).end) e ∙ ap (λ (o : Option ℕ). Some (unwrap_or o (length (sent c)))) none

pub kept-end : (shuts : ℕ → Bool) (sent : ℕ → List Message) (marks : ℕ → Marks) (c n : ℕ) → (marks c).end ≡ Some n → (marks_with shuts sent marks c).end ≡ Some n
kept-end shuts sent marks c n e =
    if-each (λ (k : Marks). k.end ≡ Some n) (shuts c) (shut_marks (sent c) (marks c)) (marks c) (λ _. ap (λ (o : Option ℕ). Some (unwrap_or o (length (sent c)))) e) (λ _. e)

-- THE TURN

module _ (w : World) (d : ℕ) (m : FullMember) (x : Next) (s : Step) (b : Option Break) (e : Event) (dm um : ℕ → Marks)
    (td : Takes w.down_marks dm (λ c. c == d)) (tu : Takes w.up_marks um (is_conn m.mirror)) where
  abbrev pub turn : Change
  turn = member_change (marked w dm um) d m x s b

  pub turned-by : Turned w (named e (apply (marked w dm um) turn)) d m s.member s.replica (passed s.effect.forwards x) (sent_up m.fields s.effect.sends) s.effect.shuts
  unfolding apply
  turned-by =
      let z : World = marked w dm um in
      record {
        conns = omega arith;
        dialled = λ c lt. dialled-before z turn c lt;
        downs = λ c. no-request (w.downs c ++ sent_on m.mirror (passed s.effect.forwards x) c) w.next_conn c;
        ups = λ c. refl;
        lower = put-here w.lowers d (writes (record m { state = s.member }));
        lowers = λ c other. put-else w.lowers d (writes (record m { state = s.member })) c other;
        replica = at-here w.replicas (node_of w d) (block_of m.fields) s.replica;
        replicas = λ n k other. at-else w.replicas (node_of w d) (block_of m.fields) s.replica n k other;
        writers = λ k. put-same w.writers 0 k;
        down_end = λ c open_yet. open-end (shut_by s.effect.shuts d m.mirror) (downs_with z turn) dm c open_yet ∙ td.end c;
        up_end = λ c open_yet. open-end (shut_by s.effect.shuts d m.mirror) (ups_with z turn) um c open_yet ∙ tu.end c;
        up_shut = λ c shut none. shut-end (shut_by s.effect.shuts d m.mirror) (ups_with z turn) um c shut (tu.end c ∙ none);
        up_stays = λ c n at. kept-end (shut_by s.effect.shuts d m.mirror) (ups_with z turn) um c n (tu.end c ∙ at);
        down_taken = λ c other. shut-taken (shut_by s.effect.shuts d m.mirror) (downs_with z turn) dm c ∙ td.taken c other;
        up_taken = λ c other. shut-taken (shut_by s.effect.shuts d m.mirror) (ups_with z turn) um c ∙ tu.taken c other;
      }

  -- at the connections from which something was taken
  pub down-taken-at : (c : ℕ) → ((named e (apply (marked w dm um) turn)).down_marks c).taken ≡ (dm c).taken
  unfolding apply
  down-taken-at c = shut-taken (shut_by s.effect.shuts d m.mirror) (downs_with (marked w dm um) turn) dm c

  pub up-taken-at : (c : ℕ) → ((named e (apply (marked w dm um) turn)).up_marks c).taken ≡ (um c).taken
  unfolding apply
  up-taken-at c = shut-taken (shut_by s.effect.shuts d m.mirror) (ups_with (marked w dm um) turn) um c
