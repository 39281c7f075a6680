-- What a change leaves in order that doesn't touch it.
use Rattle.std.proofs.Common.{◌≡◌, ℕ, ◌<◌, ◌-◌, unwrap_or, option_map, ◌⊎◌, inl, inr, Bool, true, false, List, [], ◌++◌, slice_get, Option, Some, None, refl, sym, ap, ◌∙◌, subst, arith, append-nil, eqb-true}
use Rattle.std.specs.Prelude.{◌==◌, if◌then◌else◌}
use Rattle.std.proofs.lemmas.Bool.Decides.{nat_tests}
use Rattle.world_laws.specs.World.Parts.{Message, Upper, by_writer, by_member, Marks}
use Rattle.world_laws.specs.World.Worlds.{World, Dial, Change, dial_at, dialled_with}
use Rattle.world_laws.specs.World.Connections.{sent_on}
use Rattle.world_laws.specs.Placing.{Placed}
use Rattle.world_laws.proofs.PlaceFitting.{conns_after, dial-is, dial-within}
use Rattle.world_orders.specs.Orders.{IsBelow, MirrorIs, HasDialled, WriterIs, ReaderIs, PrimaryIs, Ordered}
use Rattle.world_orders.proofs.Lists.{no-element, dialled-before}
use Rattle.world_orders.proofs.Frame.{marked, IsActor, MarksStay, below-same, mirror-same, writer-same, reader-same, primary-same}

-- Messages were taken from no upper end but those of connections that this one dialled.
abbrev pub OnlyOf : World → (ℕ → Marks) → Upper → Type 0
OnlyOf w um u = (c : ℕ) → ((w.dialled c).upper ≡ u) ⊎ ((um c).taken ≡ (w.up_marks c).taken)

-- nor from any lower end but that of this connection
abbrev pub OnlyAt : World → (ℕ → Marks) → ℕ → Type 0
OnlyAt w dm c = (d : ℕ) → (d == c) ≡ false → (dm d).taken ≡ (w.down_marks d).taken

pub nobody : (w : World) (u : Upper) → OnlyOf w w.up_marks u
nobody w u = λ c. inr refl

pub nowhere : (w : World) (c : ℕ) → OnlyAt w w.down_marks c
nowhere w c = λ d e. refl

pub apart : (w : World) (um : ℕ → Marks) (u v : Upper) → OnlyOf w um u → (u ≡ v → ⊥) → (d : ℕ) → (w.dialled d).upper ≡ v → (w.up_marks d).taken ≡ (um d).taken
apart w um u v only other d e = go (only d)
  where
    go : ((w.dialled d).upper ≡ u) ⊎ ((um d).taken ≡ (w.up_marks d).taken) → (w.up_marks d).taken ≡ (um d).taken
    go (inl f) = absurd (other (sym f ∙ e))
    go (inr x) = sym x

pub stays : (w : World) (dm um : ℕ → Marks) (u : Upper) (l b : ℕ) → OnlyAt w dm l → OnlyOf w um u → IsActor l b u → MarksStay w dm um l b
stays w dm um u l b at of a = record { down = at; up = λ c. go c (of c) }
  where
    go : (c : ℕ) → ((w.dialled c).upper ≡ u) ⊎ ((um c).taken ≡ (w.up_marks c).taken) → IsActor l b (w.dialled c).upper ⊎ ((um c).taken ≡ (w.up_marks c).taken)
    go c (inl e) = inl (subst (IsActor l b) (sym e) a)
    go c (inr x) = inr x

-- what stands on one connection alone
pub record SentAt (o : Option ℕ) (ms : List Message) (c i : ℕ) (m : Message) : Type 0 where
  pub is : o ≡ Some c
  pub found : slice_get ms i ≡ Some m

pub sent-at : (o : Option ℕ) (ms : List Message) (c i : ℕ) (m : Message) → slice_get (sent_on o ms c) i ≡ Some m → SentAt o ms c i m
sent-at None ms c i m e = no-element _ i m e
sent-at (Some d) ms c i m e = go (c == d) refl e
  where
    go : (b : Bool) → (c == d) ≡ b → slice_get (if b then ms else []) i ≡ Some m → SentAt (Some d) ms c i m
    go true is x = record { is = ap Some (sym (eqb-true c d is)); found = x }
    go false is x = no-element _ i m x

pub sent-elsewhere : (c d : ℕ) (ms : List Message) → (d == c) ≡ false → sent_on (Some c) ms d ≡ []
sent-elsewhere c d ms e = rw e refl

pub eqb-itself : (c : ℕ) → (c == c) ≡ true
eqb-itself c = grind (arith, nat_tests)

pub sent-here : (c : ℕ) (ms : List Message) → sent_on (Some c) ms c ≡ ms
sent-here c ms = rw (eqb-itself c) refl

module _ (w : World) (dm um : ℕ → Marks) (h : Ordered w) (p : Placed (marked w dm um)) where
  pub kept-below : (c : ℕ) → (dm c).taken ≡ (w.down_marks c).taken → IsBelow (w.dialled c).upper (dm c).taken (w.ups c ++ []) (w.lowers c)
  kept-below c e = below-same _ _ _ _ _ _ (w.lowers c) refl (sym e) (sym (append-nil (w.ups c))) (h.below c)

  pub kept-mirror : (k : Change) (c : ℕ) → ((d : ℕ) → (w.dialled d).upper ≡ by_member c → (w.up_marks d).taken ≡ (um d).taken) → MirrorIs (dialled_with w k) um c (w.lowers c)
  kept-mirror k c taken = mirror-same w.dialled (dialled_with w k) w.up_marks um w.next_conn c (w.lowers c) (p.lowers c) (λ d lt. sym (dialled-before w k d lt)) taken (h.mirrors c)

  -- a change whose dials are no member's
  pub kept-dialled : (k : Change) (at : ℕ) → ((i : ℕ) (d : Dial) → slice_get k.dials i ≡ Some d → d.dialled.upper ≡ by_member at → ⊥) → (c : ℕ) → c < conns_after w k
      → (dialled_with w k c).upper ≡ by_member at → HasDialled c (w.lowers at)
  kept-dialled k at none c lt e = go (dial_at w.next_conn k.dials c) refl e
    where
      go : (x : Option Dial) → dial_at w.next_conn k.dials c ≡ x → (unwrap_or (option_map (λ y. y.dialled) x) (w.dialled c)).upper ≡ by_member at → HasDialled c (w.lowers at)
      go None is u = h.dialled_by c at (dial-within w.next_conn c k.dials is lt) u
      go (Some y) is u = absurd (none (c - w.next_conn) y (dial-is w.next_conn c k.dials y is) u)

  pub kept-writer : (k : Change) (b : ℕ) → ((d : ℕ) → (w.dialled d).upper ≡ by_writer b → (w.up_marks d).taken ≡ (um d).taken) → WriterIs (dialled_with w k) um b (w.writers b)
  kept-writer k b taken = writer-same w.dialled (dialled_with w k) w.up_marks um w.next_conn b (w.writers b) (p.writers b) (λ d lt. sym (dialled-before w k d lt)) taken (h.writers_are b)

  pub kept-reader : (k : Change) (i : ℕ) → ReaderIs (dialled_with w k) i (w.readers i)
  kept-reader k i = reader-same w.dialled (dialled_with w k) w.next_conn i (w.readers i) (p.readers i) (λ d lt. sym (dialled-before w k d lt)) (h.readers_are i)

  pub kept-primary : (k : Change) (i : ℕ) → PrimaryIs (dialled_with w k) i (w.primaries i)
  kept-primary k i = primary-same w.dialled (dialled_with w k) w.nodes w.next_conn i (w.primaries i) (p.primaries i) (λ d lt. sym (dialled-before w k d lt)) (h.primaries_are i)
