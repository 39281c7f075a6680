-- What each kind of change leaves in range.
use Rattle.std.proofs.Common.{◌≡◌, ℕ, ◌<◌, ◌≤◌, ◌+◌, false, [], slice_get, Option, Some, refl, arith}
use Rattle.std.proofs.lemmas.Option.{none-some}
use Rattle.world.specs.MemberCore.Shuts.{Shuts}
use Rattle.world.specs.MemberCore.Shuts.TheVariants as shuts
use Rattle.world.specs.MemberCore.Steps.{Step}
use Rattle.world.specs.Parts.{FullMember, idle, Break}
use Rattle.world.specs.Worlds.{World, Dial, still}
use Rattle.world.specs.Connections.{Next}
use Rattle.world.specs.Nodes.{closing, shut_by, member_change}
use Rattle.world_laws.specs.Placing.{IsConn, IsDialled, IsLower, IsReader, IsPrimary, Placed}
use Rattle.world_laws.proofs.PlaceConns.{conn-out, either-out, sent-out, one-conn}
use Rattle.world_laws.proofs.PlaceFitting.{conn-later, lower-later, reader-later, primary-later, Fits}

-- what a change that doesn't touch it owes of the first lower end, writer, reader and primary
pub record Rest (w : World) (n : ℕ) : Type 0 where
  pub lower : IsLower n (w.lowers 0)
  pub writer : IsConn n (w.writers 0).conn
  pub reader : IsReader n (w.readers 0)
  pub primary : IsPrimary w.nodes n (w.primaries 0)

pub rest : (w : World) (n : ℕ) → w.next_conn ≤ n → Placed w → Rest w n
rest w n le h = record {
  lower = lower-later w.next_conn n (w.lowers 0) le (h.lowers 0);
  writer = conn-later w.next_conn n (w.writers 0).conn le (h.writers 0);
  reader = reader-later w.next_conn n (w.readers 0) le (h.readers 0);
  primary = primary-later w.nodes w.next_conn n (w.primaries 0) le (h.primaries 0);
}

pub no-dial : (P : Dial → Type 0) (i : ℕ) (d : Dial) → slice_get [] i ≡ Some d → P d
no-dial P i d e = absurd (none-some d e)

pub first-idle : (w : World) → Placed w → w.next_conn ≤ 0 → w.lowers 0 ≡ idle
first-idle w h e = (h.undialled 0 e).lower

-- nothing changes
pub still-fits : (w : World) → Placed w → Fits w (still w)
still-fits w h =
    let r = rest w (w.next_conn + 0) (omega arith) h in
    record {
      dials = no-dial (λ d. IsDialled w.nodes (w.next_conn + 0) d.dialled);
      downs = λ d e. refl;
      ups = λ d e. refl;
      shuts = λ d e. refl;
      lower_at = first-idle w h;
      lower = r.lower;
      writer = r.writer;
      reader = r.reader;
      primary = r.primary;
    }

pub closing-fits : (w : World) (c : ℕ) → Placed w → c < w.next_conn → Fits w (closing w c)
closing-fits w c h lt =
    let r = rest w (w.next_conn + 0) (omega arith) h in
    record {
      dials = no-dial (λ d. IsDialled w.nodes (w.next_conn + 0) d.dialled);
      downs = λ d e. refl;
      ups = λ d e. refl;
      shuts = λ d e. conn-out w.next_conn d (Some c) (one-conn w.next_conn c lt) e;
      lower_at = λ e. absurd (omega (arith, e, lt));
      lower = tt;
      writer = r.writer;
      reader = r.reader;
      primary = r.primary;
    }

pub shuts-out : (w : World) (s : Shuts) (c : ℕ) (m : Option ℕ) → c < w.next_conn → IsConn w.next_conn m → (d : ℕ) → w.next_conn ≤ d → shut_by s c m d ≡ false
shuts-out w shuts.Nothing c m lt k d e = refl
shuts-out w shuts.Mirror c m lt k d e = conn-out w.next_conn d m k e
shuts-out w shuts.Both c m lt k d e = either-out w.next_conn d (Some c) m (one-conn w.next_conn c lt) k e

pub member-fits : (w : World) (c : ℕ) (m : FullMember) (x : Next) (s : Step) (b : Option Break) → Placed w → c < w.next_conn → IsConn w.next_conn m.mirror
    → Fits w (member_change w c m x s b)
member-fits w c m x s b h lt k =
    let r = rest w (w.next_conn + 0) (omega arith) h in
    record {
      dials = no-dial (λ d. IsDialled w.nodes (w.next_conn + 0) d.dialled);
      downs = λ d e. sent-out w.next_conn d m.mirror _ k e;
      ups = λ d e. sent-out w.next_conn d (Some c) _ (one-conn w.next_conn c lt) e;
      shuts = λ d e. shuts-out w s.effect.shuts c m.mirror lt k d e;
      lower_at = λ e. absurd (omega (arith, e, lt));
      lower = conn-later w.next_conn (w.next_conn + 0) m.mirror (omega arith) k;
      writer = r.writer;
      reader = r.reader;
      primary = r.primary;
    }
