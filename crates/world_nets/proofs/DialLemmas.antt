-- What a dial makes of all connections, and of the ends.
use Rattle.std.proofs.Common.{◌≡◌, ℕ, ◌+◌, Bool, true, false, List, [], ◌∷◌, ◌++◌, length, drop, refl, sym, ap, ◌∙◌, subst, arith}
use Rattle.std.specs.Prelude.{cond, map}
use Rattle.hd_base.specs.declared.ends.Conn.{Conn}
use Rattle.hd_base.specs.declared.links.LinkIn as link_in
use Rattle.hd_base.specs.declared.links.LinkOut as link_out
use Rattle.hd_base.specs.declared.roads.Roads as roads
use Rattle.road_traffic.specs.Traffic.{Traffic}
use Rattle.road_traffic.specs.Showing.{Net, IsSane, EndIs, dialled_net, accepted_net, flushed_net}
use Rattle.road_traffic.proofs.ShowingLemmas.{end-new, sane-exchanged}
use Rattle.world.specs.Worlds.{World, Change, Dial, apply}
use Rattle.world_nets.specs.Rows.{text_of}
use Rattle.world_nets.specs.Nets.{IsNetOf, IsEndOf, is_over, held_by}
use Rattle.world_nets.specs.Changes.{Flush}
use Rattle.world_nets.specs.Ends.{IsElsewhere, AreElsewhere, flushed_all}
use Rattle.world_nets.specs.Dials.{request_flush, AreBefore, flushes_with, DialsBy, made_net, IsAccepted, MakesEnds, StaySane}
use Rattle.world_nets.proofs.EndLemmas.{stays-past, past-over}
use Rattle.world_nets.proofs.StepLemmas.{changed-over, rows-changed, next-conn, runs-on, none-over}

one-dial : (k : Change) (dial : Dial) → k.dials ≡ dial ∷ [] → length k.dials ≡ 1
one-dial k dial once = ap (λ (l : List Dial). length l) once

-- who waits at a port that was dialled, or not, and of which the oldest dial was accepted
none-waits : (b : Bool) (l : List ℕ) (n : ℕ) → l ≡ [] → cond b (drop 1 (cond b (l ++ n ∷ []) l)) (cond b (l ++ n ∷ []) l) ≡ []
none-waits true l n e = ap (λ (m : List ℕ). drop 1 (m ++ n ∷ [])) e
none-waits false l n e = e

pub dialled-net : (w : World) (net : Net) (k : Change) (dial : Dial) (port : ℕ) (fs : List Flush) → IsNetOf w net → DialsBy w k dial fs
    → IsNetOf (apply w k) (made_net net port (flushes_with w fs dial))
dialled-net w net k dial port fs is by =
    let size : length k.dials ≡ 1 = one-dial k dial by.once in record {
      conns = ap (λ n. n + 1) is.conns ∙ sym (next-conn w k 1 size);
      listens = λ node. is.listens node ∙ sym (runs-on w k node);
      waiting = λ p. none-waits _ (net.waiting p) net.conns (is.waiting p);
      rows_are = rows-changed w net.traffic k (flushes_with w fs dial) is.rows_are by.changes;
      none_over = none-over w k is.none_over 1 size;
    }

-- ENDS ELSEWHERE

-- An end of a new connection is none of those of older ones.
new-elsewhere : (n : ℕ) (d : Bool) (fs : List Flush) (g : Flush) → AreBefore n fs → IsElsewhere g.conn g.lower n d → AreElsewhere (fs ++ g ∷ []) n d
new-elsewhere n d [] g before away = (away, tt)
new-elsewhere n d (f ∷ fs) g before away = ((λ e. absurd (omega (arith, before.0, e))), new-elsewhere n d fs g before.1 away)

-- An end that isn't flushed is also none of a new connection.
old-elsewhere : (c : ℕ) (d : Bool) (fs : List Flush) (g : Flush) → AreElsewhere fs c d → IsElsewhere g.conn g.lower c d → AreElsewhere (fs ++ g ∷ []) c d
old-elsewhere c d [] g away last = (last, tt)
old-elsewhere c d (f ∷ fs) g away last = (away.0, old-elsewhere c d fs g away.1 last)

-- SANE CONNECTIONS

sane-past : (net : Net) (fs : List Flush) → AreBefore net.conns fs → IsSane net → IsSane (flushed_all net fs)
sane-past net [] before s = s
sane-past net (f ∷ fs) before s =
    sane-past (flushed_net net f.conn f.lower f.shut (map text_of f.messages)) fs before.1
    (sane-exchanged net f.conn f.lower false f.shut (map text_of f.messages) before.0 s)

sane-dialled : (net : Net) (port : ℕ) → IsSane net → IsSane (dialled_net net port)
sane-dialled net port s = record { fits = s.fits; fresh = λ c d h. s.fresh c d (omega (arith, h)) }

sane-accepted : (net : Net) (port : ℕ) → IsSane net → IsSane (accepted_net net port)
sane-accepted net port s = record { fits = s.fits; fresh = s.fresh }

pub sane-stays : (net : Net) (fs : List Flush) → IsSane net → StaySane net fs
sane-stays net fs s = record {
  flushed = λ before. sane-past net fs before s;
  made = λ port before. sane-accepted (flushed_all (dialled_net net port) fs) port (sane-past (dialled_net net port) fs before (sane-dialled net port s));
}

-- ENDS OF NEW AND OLD CONNECTIONS

module _ {R I O : Type 0} (r : roads.Ghosts R I O) (i : link_in.Ghosts I) (o : link_out.Ghosts O) where
  -- The same end, where a dial was accepted.
  accepted-end : (v : World) (net : Net) (port : ℕ) (c : ℕ) (d : Bool) (e : Conn I O) → IsEndOf i o v net c d e → IsEndOf i o v (accepted_net net port) c d e
  accepted-end v net port c d e k = record { id = k.id; side = k.side; within = k.within; is = k.is; taking = k.taking }

  -- The same end, where a port was dialled.
  dialled-end : (w v : World) (net : Net) (port : ℕ) (c : ℕ) (d : Bool) (e : Conn I O) → is_over v c d ≡ is_over w c d → IsEndOf i o w net c d e → IsEndOf i o v (dialled_net net port) c d e
  dialled-end w v net port c d e over k = record {
    id = k.id;
    side = k.side;
    within = omega (arith, k.within);
    is = subst (λ (b : Bool). EndIs i o net.traffic false [] (held_by b) e) (sym over) k.is;
    taking = k.taking;
  }

  -- A lower end that was just accepted, before the flushes.
  fresh-end : (v : World) (net : Net) (port conn : ℕ) (e : Conn I O) → conn ≡ net.conns → is_over v conn true ≡ false → IsSane net → IsAccepted i o conn e → IsEndOf i o v (dialled_net net port) conn true e
  fresh-end v net port conn e is over sane k = record {
    id = k.number;
    side = k.lower;
    within = omega (arith, is);
    is = subst (λ (b : Bool). EndIs i o net.traffic false [] (held_by b) e) (sym over)
        (end-new r i o net.traffic e (λ d. sane.fresh e.id.0 d (omega (arith, k.number, is))) k.fresh k.observable);
    taking = ap (λ (t : Traffic). t.over) (sane.fresh conn true (omega (arith, is)));
  }

  pub ends-made : (w : World) (net : Net) (k : Change) (dial : Dial) (port : ℕ) (fs : List Flush) → IsNetOf w net → IsSane net → DialsBy w k dial fs
      → MakesEnds i o w (apply w k) net (made_net net port (flushes_with w fs dial)) fs
  ends-made w net k dial port fs is sane by =
      let v : World = apply w k in
      let all : List Flush = flushes_with w fs dial in
      let request : Flush = request_flush w.next_conn dial.request in
      let over : (d : Bool) → is_over v w.next_conn d ≡ false = λ d. changed-over w k w.next_conn d ∙ is.none_over w.next_conn d (omega arith) in record {
        upper = λ e h. record {
          id = h.number;
          side = h.upper;
          within = omega (arith, is.conns);
          is = subst (λ (b : Bool). EndIs i o (made_net net port all).traffic false [] (held_by b) e) (sym (over false)) h.is;
          taking = past-over net.traffic all w.next_conn false ∙ ap (λ (t : Traffic). t.over) (sane.fresh w.next_conn false (omega (arith, is.conns)));
        };
        lower = λ e h. accepted-end v (flushed_all (dialled_net net port) all) port w.next_conn true e
            (stays-past r i o v v (dialled_net net port) all w.next_conn true e (new-elsewhere w.next_conn true fs request by.before (λ e. refl)) refl
            (fresh-end v net port w.next_conn e (sym is.conns) (over true) sane h));
        others = λ c d e away h. accepted-end v (flushed_all (dialled_net net port) all) port c d e
            (stays-past r i o v v (dialled_net net port) all c d e (old-elsewhere c d fs request away (λ e. absurd (omega (arith, e, is.conns, h.within)))) refl
            (dialled-end w v net port c d e (changed-over w k c d) h));
      }
