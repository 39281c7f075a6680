-- The steps of readers keep the peace.
use Rattle.std.proofs.Common.{ℕ, Bool, true, false, [], ◌∷◌, Some, IfSome, refl}
use Rattle.std.specs.Prelude.{◌==◌, ◌&&◌}
use Rattle.hd_base.specs.declared.states.Status.TheVariants as status
use Rattle.op_headers.specs.declared.ops.ReadOp.{ReadOp}
use Rattle.read_core.specs.declared.reading.ReadTurn.{ReadTurn}
use Rattle.read_core.specs.declared.reading.ReadTurn.TheVariants as turn
use Rattle.read_core.specs.Readings.{ReadTaken, take_from}
use Rattle.world.specs.Parts.{read_status, Reader, no_reader, reads, has_read}
use Rattle.world.specs.Worlds.{World}
use Rattle.world.specs.Connections.{Next}
use Rattle.world.specs.Clients.{reader_dials, own_reader_as, own_reader, from_node_of, reader_turn, reader_up_as, reader_up}
use Rattle.world_laws.proofs.FactTables.{when-each}
use Rattle.world_laws.proofs.ByteFrame.{each-nil, each-one}
use Rattle.play_completeness.specs.Plain.{Peaceful}
use Rattle.play_completeness.proofs.PeaceFrame.{IsGood, IsGoodDial, Leaves, each-sent}

module _ (w : World) (h : Peaceful w) where
  dials-leaves : (i n : ℕ) (r : ReadOp) (answered : Bool) → Leaves w (reader_dials w i n r answered)
  dials-leaves i n r true = record {
    primary = refl;
    replica = refl;
    broke = refl;
    lower = refl;
    downs = λ c. each-nil IsGood;
    ups = λ c. each-nil IsGood;
    dials = each-one IsGoodDial _ (refl, refl, h.lives n);
    leases = h.leases;
  }
  dials-leaves i n r false = record { primary = refl; replica = refl; broke = refl; lower = refl; downs = λ c. each-nil IsGood; ups = λ c. each-nil IsGood; dials = each-nil IsGoodDial; leases = h.leases }

  own-as : (x : Reader) (i n : ℕ) (r : ReadOp) (answered : Bool) → IfSome (own_reader_as x w i n r answered) (Leaves w)
  own-as no_reader i n r answered = dials-leaves i n r (answered && w.running n)
  own-as (reads c s) i n r answered = tt
  own-as (has_read x) i n r answered = tt

  pub own-reader-leaves : (i n : ℕ) (r : ReadOp) (answered : Bool) → IfSome (own_reader w i n r answered) (Leaves w)
  own-reader-leaves i n r answered = own-as (w.readers i) i n r answered

  turn-leaves : (i c : ℕ) (t : ReadTaken) (does : ReadTurn) → Leaves w (reader_turn w i c t does)
  turn-leaves i c t turn.Goes = record { primary = refl; replica = refl; broke = refl; lower = refl; downs = λ d. each-nil IsGood; ups = λ d. each-nil IsGood; dials = each-nil IsGoodDial; leases = h.leases }
  turn-leaves i c t turn.Verified = record {
    primary = refl;
    replica = refl;
    broke = refl;
    lower = refl;
    downs = each-sent (Some c) (read_status status.ChecksumOk ∷ []) (each-one IsGood (read_status status.ChecksumOk) refl);
    ups = λ d. each-nil IsGood;
    dials = each-nil IsGoodDial;
    leases = h.leases;
  }
  turn-leaves i c t (turn.Fails f) = record { primary = refl; replica = refl; broke = refl; lower = refl; downs = λ d. each-nil IsGood; ups = λ d. each-nil IsGood; dials = each-nil IsGoodDial; leases = h.leases }

  up-as : (x : Reader) (i c : ℕ) (n : Next) → IfSome (reader_up_as x w i c n) (Leaves w)
  up-as no_reader i c n = tt
  up-as (reads d s) i c n = when-each (Leaves w) (d == c) _ (λ _. turn-leaves i c (take_from s (from_node_of n)) (take_from s (from_node_of n)).does)
  up-as (has_read x) i c n = tt

  pub reader-up-leaves : (i c : ℕ) (n : Next) → IfSome (reader_up w i c n) (Leaves w)
  reader-up-leaves i c n = up-as (w.readers i) i c n
