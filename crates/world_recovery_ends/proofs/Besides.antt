-- Changes that leave all lower ends as they are and send nothing up.
use Rattle.std.proofs.Common.{◌≡◌, ℕ, Bool, true, false, [], Option, Some, None, IfSome, refl, sym, subst}
use Rattle.std.specs.Prelude.{◌==◌}
use Rattle.world.specs.OpHeaders.ReadOp.{ReadOp}
use Rattle.world.specs.ReadCore.ReadTurn.{ReadTurn}
use Rattle.world.specs.ReadCore.ReadTurn.TheVariants as turn
use Rattle.world.specs.ReadCore.Readings.{ReadTaken, take_from}
use Rattle.world.specs.declared.events.Caller.{Caller}
use Rattle.world.specs.declared.events.OwnStep.{OwnStep}
use Rattle.world.specs.declared.events.OwnStep.TheVariants as own
use Rattle.world.specs.Parts.{Reader, no_reader, reads, has_read}
use Rattle.world.specs.Worlds.{World, Change, put}
use Rattle.world.specs.Connections.{Next}
use Rattle.world.specs.Clients.{from_node_of, own_reader_as, reader_dials, reader_turn, reader_up, reader_up_as, writer_up}
use Rattle.world.specs.Primaries.{office_event, primary_up}
use Rattle.world.specs.Events.{own_change}
use Rattle.world_laws.proofs.FactTables.{when-each}
use Rattle.world_readings.proofs.Asides as asides
use Rattle.world_readings.proofs.Keeping.{Aside, put-else, put-same}
use Rattle.world_recovery_ends.proofs.Places.{At}

pub record Beside (w : World) (k : Change) : Type 0 where
  pub lower : k.lower ≡ w.lowers k.lower_at
  pub ups : (c : ℕ) → k.ups c ≡ []

from-aside : (w : World) (o : Option Change) → IfSome o (Aside w) → IfSome o (Beside w)
from-aside w None a = tt
from-aside w (Some k) a = record { lower = a.lower; ups = a.ups }

-- READERS

dials-beside : (w : World) (i n : ℕ) (r : ReadOp) (answered : Bool) → Beside w (reader_dials w i n r answered)
dials-beside w i n r true = record { lower = refl; ups = λ c. refl }
dials-beside w i n r false = record { lower = refl; ups = λ c. refl }

own-reader-as : (x : Reader) (w : World) (i n : ℕ) (r : ReadOp) (answered : Bool) → IfSome (own_reader_as x w i n r answered) (Beside w)
own-reader-as no_reader w i n r answered = dials-beside w i n r _
own-reader-as (reads c s) w i n r answered = tt
own-reader-as (has_read b) w i n r answered = tt

turn-beside : (w : World) (i c : ℕ) (t : ReadTaken) (d : ReadTurn) → Beside w (reader_turn w i c t d)
turn-beside w i c t turn.Goes = record { lower = refl; ups = λ d. refl }
turn-beside w i c t turn.Verified = record { lower = refl; ups = λ d. refl }
turn-beside w i c t (turn.Fails f) = record { lower = refl; ups = λ d. refl }

reader-up-as : (r : Reader) (w : World) (i c : ℕ) (x : Next) → IfSome (reader_up_as r w i c x) (Beside w)
reader-up-as no_reader w i c x = tt
reader-up-as (reads d s) w i c x =
    when-each (Beside w) (d == c) _ (λ _. turn-beside w i c (take_from s (from_node_of x)) (take_from s (from_node_of x)).does)
reader-up-as (has_read b) w i c x = tt

pub reader-up-beside : (w : World) (i c : ℕ) (x : Next) → IfSome (reader_up w i c x) (Beside w)
reader-up-beside w i c x = reader-up-as (w.readers i) w i c x

-- WRITERS, PRIMARIES, THE OFFICE

pub writer-up-beside : (w : World) (b c : ℕ) (x : Next) → IfSome (writer_up w b c x) (Beside w)
writer-up-beside w b c x = from-aside w (writer_up w b c x) (asides.writer-up-aside w b c x)

pub primary-up-beside : (w : World) (i place c : ℕ) (x : Next) → IfSome (primary_up w i place c x) (Beside w)
primary-up-beside w i place c x = from-aside w (primary_up w i place c x) (asides.primary-up-aside w i place c x)

pub office-beside : (w : World) (c : Caller) → IfSome (office_event w c) (Beside w)
office-beside w c = from-aside w (office_event w c) (asides.office-aside w c)

pub own-beside : (w : World) (s : OwnStep) → IfSome (own_change w s) (Beside w)
own-beside w (own.Writer b takes answered) = from-aside w _ (asides.own-writer-aside w b.0 takes answered)
own-beside w (own.Reader i n r answered) = own-reader-as (w.readers i) w i n.0 r answered
own-beside w (own.Recover i n b members answers) = from-aside w _ (asides.own-recover-aside w i n.0 b members answers)
own-beside w (own.Primary i) = from-aside w _ (asides.own-primary-aside w i)

-- ONE LOWER END

-- The lower end of this connection stays, and sends nothing.
pub record Leaves (w : World) (k : Change) (c : ℕ) : Type 0 where
  pub lower : put w.lowers k.lower_at k.lower c ≡ w.lowers c
  pub ups : k.ups c ≡ []

pub beside-leaves : (w : World) (c : ℕ) (o : Option Change) → IfSome o (Beside w) → IfSome o (λ k. Leaves w k c)
beside-leaves w c None h = tt
beside-leaves w c (Some k) h = record { lower = put-same w.lowers k.lower_at k.lower c h.lower; ups = h.ups c }

pub at-leaves : (w : World) (c d : ℕ) (o : Option Change) → (c == d) ≡ false → IfSome o (At d) → IfSome o (λ k. Leaves w k c)
at-leaves w c d None e h = tt
at-leaves w c d (Some k) e h = record {
  lower = put-else w.lowers k.lower_at k.lower c (subst (λ (n : ℕ). (c == n) ≡ false) (sym h.at) e);
  ups = h.quiet c e;
}
