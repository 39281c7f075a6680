-- The numbers of what a world holds, where the stamps and the sessions' lengths have 64 bits.
use Rattle.std.proofs.Common.{◌≡◌, ℕ, ◌≤◌, ◌^◌, List, length, Option, Some, None, IfSome, refl, arith}
use Rattle.hd_base.specs.declared.numbers.Stamp.{Stamp}
use Rattle.world_laws.specs.PacketStream.TheConstants.{BLOCK_LIMIT}
use Rattle.replica_core.specs.declared.info.ReplicaInfo.{ReplicaInfo}
use Rattle.replica_core.specs.Sound.{IsConsistent}
use Rattle.replica_core.specs.Views.{written_at}
use Rattle.world_laws.specs.ReplicaModel.Rows.{FullReplica}
use Rattle.world_laws.specs.World.Worlds.{World}
use Rattle.world_laws.specs.Stamping.{Givens}
use Rattle.world_laws.specs.Carrying.{Under, Holds}
use Rattle.world_laws.proofs.ByteLeaves.{Facts}
use Rattle.world_laws.proofs.Fronts.{front-length}
use Rattle.world_texts.proofs.Refusals.{IsNumber, InfoNumbers}
use Rattle.world_texts.proofs.Nodes.{Holding}

-- The stamps that were given have 64 bits, and no session has more bytes than a block may have.
pub record Ranged (g : Givens) (w : World) : Type 0 where
  pub stamps : w.office.next.0 ≤ 2 ^ 64
  pub lengths : (b t e : ℕ) → g b t ≡ Some e → length (w.written e) ≤ BLOCK_LIMIT

module _ (g : Givens) (w : World) (h : Facts g w) (r : Ranged g w) where
  pub given-number : (b t e : ℕ) → g b t ≡ Some e → IsNumber t
  given-number b t e q = omega (arith, h.recorded.below b t e q, r.stamps)

  under-length : (b : ℕ) (t : Stamp) (v : List ℕ) → Under g w.past b t v → IsNumber (length v)
  under-length b t v u = omega (arith, front-length v (w.written u.session) u.front, r.lengths b t.0 u.session u.given)

  recovery-number : (b : ℕ) (v : List ℕ) (o : Option Stamp) → ((id : Stamp) → o ≡ Some id → Under g w.past b id v) → IfSome o (λ (id : Stamp). IsNumber id.0)
  recovery-number b v None f = tt
  recovery-number b v (Some id) f = let u = f id refl in given-number b id.0 u.session u.given

  info-numbers : (b : ℕ) (x : FullReplica) (o : Option ReplicaInfo) → length x.bytes ≡ written_at o → IfSome o (Holds g w.past b x.bytes) → IfSome o IsConsistent → IfSome o InfoNumbers
  info-numbers b x None all k c = tt
  info-numbers b x (Some i) all k c =
      let n : IsNumber (length x.bytes) = under-length b i.stamp x.bytes k.under in
      record {
        stamp = given-number b i.stamp.0 k.under.session k.under.given;
        written = omega (arith, n, all);
        acked = omega (arith, n, all, c.acked);
        recovery = recovery-number b x.bytes i.recovery k.held;
      }

  pub holding : Holding w
  holding = record {
    infos = λ n b. info-numbers b (w.replicas n b) (w.replicas n b).known.info (h.full n b).all (h.carried.replicas n b).info (h.full n b).sound.info;
    full = h.full;
  }
