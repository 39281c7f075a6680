-- What an exchange, and what giving back, make of roads and ends that show a traffic.
use Rattle.std.proofs.Common.{◌≡◌, ℕ, ◌+◌, ◌-◌, ◌≤◌, ◌<◌, Bool, true, false, List, [], ◌∷◌, ◌++◌, length, drop, Option, Some, None, refl, sym, ap, ◌∙◌, subst, arith}
use Rattle.std.specs.Prelude.{◌==◌, ◌||◌, ◌&&◌, not, cond, option_map, slice_get, ◌↔◌, IsSome, IsNone, IfSome, MatchOption, IfOk, OnOk, OnErr, Result, Ok, Err}
use Rattle.std.proofs.Math.Seq.{take-length, drop-append_seam}
use Rattle.std.proofs.lemmas.List.{append-nil}
use Rattle.std.proofs.lemmas.Option.{same_Some}
use Rattle.std.proofs.lemmas.Bool.Decides.{nat_tests}
use Rattle.hd_base.specs.Links.{Inbox, IsEmptyInbox, SentNothing}
use Rattle.hd_base.specs.Lists.{joined}
use Rattle.hd_base.specs.Channels.{Carried, Carries, carry, Channel, Plain, filled, is_hungry, unflushed, with_offer, standing_of, with_dial, with_accept, with_listening}
use Rattle.hd_base.specs.Ends.{is_shut, has_failed, IsFresh, IsObservable, KeepsEnd, after_flush as flushed_plain, CarriesOf, FlushesAll, CarriesFlushed, Exchanges, TakesNext, Flushes}
use Rattle.hd_base.specs.declared.ends.Conn.{Conn}
use Rattle.hd_base.specs.declared.ends.RoadError.{RoadError}
use Rattle.hd_base.specs.declared.ends.Standing.{Standing}
use Rattle.hd_base.specs.declared.ends.Standing.TheVariants as standing
use Rattle.hd_base.specs.declared.links.LinkIn as link_in
use Rattle.hd_base.specs.declared.links.LinkOut as link_out
use Rattle.hd_base.specs.declared.roads.Roads as roads
use Rattle.hd_base.specs.declared.roads.TheConstants.{FIRST_PORT}
use Rattle.road_traffic.specs.Traffic.{Traffic, Traffics, no_traffic, channel_of, carried_of, Fits, changed, one_way, draws, flushes, after_flush, after_draw, after_loss, given_up}
use Rattle.road_traffic.specs.Showing.{Net, IsSane, PlainShows, RoadsShow, IsShutOr, EndIs, no_inbox, with_traffic, flushed_net, drawn_if, exchanged_net, exchanged_inbox, lost_net, dialled_net, accepted_net, listened_net, ShowsAccept, ShowsListen, ShowsStanding, ShowsExchange, ShowsLoss}
use Rattle.road_traffic.proofs.TrafficLemmas.{changed-at, changed-other, each-traffic, given-shows, taken-shows, flushed-carried, fits-flushes, fits-drawn, fits-given_up, over-flushes, same-itself}

-- THE TRAFFIC OF AN END THAT WAS EXCHANGED

-- a direction on which the end took something, or not
abbrev pub drawn_way : Bool → Bool → Bool → Traffic → Traffic
drawn_way takes lower d t = cond takes (one_way lower draws d t) t

pub exchanged-at : (net : Net) (conn : ℕ) (lower takes shut : Bool) (ms : List (List ℕ)) (d : Bool) → (exchanged_net net conn lower takes shut ms).traffic conn d ≡ drawn_way takes lower d (flushes lower shut ms d (net.traffic conn d))
exchanged-at net conn lower true shut ms d =
    changed-at (after_flush net.traffic conn lower shut ms) conn (one_way lower draws) d ∙ ap (one_way lower draws d) (changed-at net.traffic conn (flushes lower shut ms) d)
exchanged-at net conn lower false shut ms d = changed-at net.traffic conn (flushes lower shut ms) d

pub sent-out : (takes lower shut : Bool) (ms : List (List ℕ)) (t : Traffic) → (drawn_way takes lower (not lower) (flushes lower shut ms (not lower) t)).sent ≡ t.sent ++ ms
sent-out true true true ms t = refl
sent-out true true false ms t = refl
sent-out true false true ms t = refl
sent-out true false false ms t = refl
sent-out false true true ms t = refl
sent-out false true false ms t = refl
sent-out false false true ms t = refl
sent-out false false false ms t = refl

pub end-stays : (takes lower shut d : Bool) (ms : List (List ℕ)) (t : Traffic) → (drawn_way takes lower d (flushes lower shut ms d t)).end ≡ None → (t.end ≡ None) × (shut ≡ false)
end-stays true true true true ms t h = cc
end-stays true true true false ms t h = cc
end-stays true true false true ms t h = (h, refl)
end-stays true true false false ms t h = (h, refl)
end-stays true false true true ms t h = cc
end-stays true false true false ms t h = cc
end-stays true false false true ms t h = (h, refl)
end-stays true false false false ms t h = (h, refl)
end-stays false true true true ms t h = cc
end-stays false true true false ms t h = cc
end-stays false true false true ms t h = (h, refl)
end-stays false true false false ms t h = (h, refl)
end-stays false false true true ms t h = cc
end-stays false false true false ms t h = cc
end-stays false false false true ms t h = (h, refl)
end-stays false false false false ms t h = (h, refl)

-- Connections that are sane stay so where what becomes of the one fits.
pub sane-changed : (net : Net) (conn : ℕ) (f : Bool → Traffic → Traffic) → conn < net.conns → ((d : Bool) → Fits (f d (net.traffic conn d))) → IsSane net → IsSane (with_traffic net (changed net.traffic conn f))
sane-changed net conn f k here s = record {
  fits = each-traffic net.traffic conn f (λ c d t. Fits t) here (λ c d other. s.fits c d);
  fresh = each-traffic net.traffic conn f (λ c d t. net.conns ≤ c → t ≡ no_traffic) (λ d h. absurd (omega arith)) (λ c d other h. s.fresh c d h);
}

-- An end was exchanged.
pub sane-exchanged : (net : Net) (conn : ℕ) (lower takes shut : Bool) (ms : List (List ℕ)) → conn < net.conns → IsSane net → IsSane (exchanged_net net conn lower takes shut ms)
sane-exchanged net conn lower true shut ms k s =
    let flushed : IsSane (flushed_net net conn lower shut ms) = sane-changed net conn (flushes lower shut ms) k (λ d. fits-flushes lower shut d ms (net.traffic conn d) (s.fits conn d)) s in
    sane-changed (flushed_net net conn lower shut ms) conn (one_way lower draws) k (λ d. fits-drawn lower d _ (flushed.fits conn d)) flushed
sane-exchanged net conn lower false shut ms k s = sane-changed net conn (flushes lower shut ms) k (λ d. fits-flushes lower shut d ms (net.traffic conn d) (s.fits conn d)) s

-- An end was given up.
pub sane-lost : (net : Net) (conn : ℕ) (lower : Bool) (ms : List (List ℕ)) → conn < net.conns → IsSane net → IsSane (lost_net net conn lower ms)
sane-lost net conn lower ms k s = sane-changed net conn (given_up lower ms) k (λ d. fits-given_up lower d ms (net.traffic conn d) (s.fits conn d)) s

-- PIECES THAT AN END HAS STILL TO FLUSH

sub-nothing : (n : ℕ) → n - 0 ≡ n
sub-nothing n = omega arith

unflushed-none_lost : (sent extra : List (List ℕ)) (flushed lost : ℕ) → flushed ≡ length sent → lost ≡ 0 → unflushed (sent ++ extra) flushed lost ≡ extra
unflushed-none_lost sent extra flushed lost f l = rw (f, l, sub-nothing (length (sent ++ extra)), take-length (sent ++ extra), drop-append_seam sent extra)

-- An end that takes is hungry.
hungry-takes : (takes : Bool) (inbox : Inbox) → (takes ≡ true → inbox ≡ no_inbox) → (takes && is_hungry inbox) ≡ takes
hungry-takes true inbox h = rw (h refl)
hungry-takes false inbox h = refl

drawn-sent : (lower d : Bool) (t : Traffic) → (one_way lower draws d t).sent ≡ t.sent
drawn-sent true true t = refl
drawn-sent true false t = refl
drawn-sent false true t = refl
drawn-sent false false t = refl

-- What an end takes changes nothing of what was carried.
draws-carry : (traffic : Traffics) (conn : ℕ) (lower : Bool) (c : ℕ) (d : Bool) → carried_of traffic c d ≡ carried_of (after_draw traffic conn lower) c d
draws-carry traffic conn lower =
    each-traffic traffic conn (one_way lower draws) (λ c d t. joined (traffic c d).sent ≡ joined t.sent) (λ d. ap joined (sym (drawn-sent lower d (traffic conn d)))) (λ c d other. refl)

-- a direction of an end that was given up
lost-channel : (lower d : Bool) (ms : List (List ℕ)) (t : Traffic) (channel : Channel) → ((flushes lower true ms d t).over ≡ false → channel ≡ channel_of (flushes lower true ms d t)) → (given_up lower ms d t).over ≡ false → channel ≡ channel_of (given_up lower ms d t)
lost-channel true true ms t channel shows h = cc
lost-channel true false ms t channel shows h = shows h
lost-channel false true ms t channel shows h = shows h
lost-channel false false ms t channel shows h = cc

lost-sent : (lower d : Bool) (ms : List (List ℕ)) (t : Traffic) → (flushes lower true ms d t).sent ≡ (given_up lower ms d t).sent
lost-sent true true ms t = refl
lost-sent true false ms t = refl
lost-sent false true ms t = refl
lost-sent false false ms t = refl

lost-carried : (traffic : Traffics) (conn : ℕ) (lower : Bool) (ms : List (List ℕ)) (c : ℕ) (d : Bool) → carried_of (after_flush traffic conn lower true ms) c d ≡ carried_of (after_loss traffic conn lower ms) c d
lost-carried traffic conn lower ms =
    each-traffic traffic conn (given_up lower ms) (λ c d t. joined (after_flush traffic conn lower true ms c d).sent ≡ joined t.sent)
    (λ d. ap (λ (t : Traffic). joined t.sent) (changed-at traffic conn (flushes lower true ms) d) ∙ ap joined (lost-sent lower d ms (traffic conn d)))
    (λ c d other. ap (λ (t : Traffic). joined t.sent) (changed-other traffic conn c (flushes lower true ms) d other))

or-true : (b : Bool) → (b || true) ≡ true
or-true true = refl
or-true false = refl

module _ {R I O : Type 0} (r : roads.Ghosts R I O) (i : link_in.Ghosts I) (o : link_out.Ghosts O) where
  -- Roads over plain memory after an end flushed.
  pub plain-flushed : (net : Net) (plain : Plain) (shut : Bool) (extra : List (List ℕ)) (inbox : Inbox) (e : Conn I O) → IsSane net → PlainShows net plain → EndIs i o net.traffic shut extra inbox e → PlainShows (flushed_net net e.id.0 e.lower shut extra) (flushed_plain i o e ((net.traffic e.id.0 (not e.lower)).sent ++ extra) plain)
  plain-flushed net plain shut extra inbox e sane p k = record {
    dialled = p.dialled;
    listening = p.listening;
    waiting = p.waiting;
    channels = given-shows plain.channels net.traffic e.id.0 e.lower shut (is_shut i o e) extra _
        (λ d. sane.fits e.id.0 d)
        (λ h. (unflushed-none_lost (net.traffic e.id.0 (not e.lower)).sent extra _ _ k.flushed (k.outward h).none_lost, (k.outward h).shut_is))
        (λ h. (k.inward h).shut_is)
        p.channels;
  }

  -- Roads over plain memory after an end was offered what stands next.
  pub plain-offered : (net : Net) (plain : Plain) (conn : ℕ) (lower takes : Bool) → PlainShows net plain → PlainShows (drawn_if takes net conn lower) (with_offer plain conn lower takes)
  plain-offered net plain conn lower true p = record {
    dialled = p.dialled;
    listening = p.listening;
    waiting = p.waiting;
    channels = taken-shows plain.channels net.traffic conn lower p.channels;
  }
  plain-offered net plain conn lower false p = p

  -- What was carried, where it is observable, after an end flushed: what it had sent stands behind.
  carried-flushed : (net : Net) (conn : ℕ) (lower shut : Bool) (extra : List (List ℕ)) (flushed : ℕ) (sent : Option (List (List ℕ))) (old new : Option Carried) → flushed ≡ length (net.traffic conn (not lower)).sent → sent ≡ Some ((net.traffic conn (not lower)).sent ++ extra) → old ≡ option_map (λ _. carried_of net.traffic) old → Carries old new conn (not lower) flushed sent → new ≡ option_map (λ _. carried_of (after_flush net.traffic conn lower shut extra)) new
  carried-flushed net conn lower shut extra flushed sent None new f s o c = rw c
  carried-flushed net conn lower shut extra flushed sent (Some k) new f s o c =
      let pieces : drop flushed ((net.traffic conn (not lower)).sent ++ extra) ≡ extra = rw (f, drop-append_seam (net.traffic conn (not lower)).sent extra) in
      let now : new ≡ Some (carry k conn (not lower) (joined extra)) = rw (s, pieces) at c in
      let same : k ≡ carried_of net.traffic = same_Some _ _ o in
      let after : carry (carried_of net.traffic) conn (not lower) (joined extra) ≡ carried_of (after_flush net.traffic conn lower shut extra) = λ j c d. flushed-carried net.traffic conn lower shut extra c d j in
      let is : new ≡ Some (carried_of (after_flush net.traffic conn lower shut extra)) = now ∙ ap (λ (x : Carried). Some (carry x conn (not lower) (joined extra))) same ∙ ap Some after in
      is ∙ sym (ap (option_map (λ _. carried_of (after_flush net.traffic conn lower shut extra))) is)

  drawn-carried : (net : Net) (conn : ℕ) (lower takes : Bool) (carried : Option Carried) → carried ≡ option_map (λ _. carried_of net.traffic) carried → carried ≡ option_map (λ _. carried_of (drawn_if takes net conn lower).traffic) carried
  drawn-carried net conn lower true carried e =
      let same : carried_of net.traffic ≡ carried_of (after_draw net.traffic conn lower) = λ j c d. draws-carry net.traffic conn lower c d j in
      e ∙ ap (λ (k : Carried). option_map (λ _. k) carried) same
  drawn-carried net conn lower false carried e = e

  -- Roads after an end was exchanged.
  pub roads-exchanged : (net : Net) (road road' : R) (takes shut : Bool) (extra : List (List ℕ)) (inbox : Inbox) (e : Conn I O) → IsSane net → RoadsShow r net road → EndIs i o net.traffic shut extra inbox e → (takes ≡ true → inbox ≡ no_inbox) → Exchanges i o e takes (r.plain road) (r.plain road') → CarriesFlushed o e (r.plain road) (r.carried road) (r.carried road') → RoadsShow r (exchanged_net net e.id.0 e.lower takes shut extra) road'
  roads-exchanged net road road' takes shut extra inbox e sane s k hungry plain carries = record {
    plain = with_offer (flushed_plain i o e ((net.traffic e.id.0 (not e.lower)).sent ++ extra) s.plain) e.id.0 e.lower takes;
    is = (rw (s.is, k.sent, k.held) at plain) ∙ ap (λ b. Some (with_offer (flushed_plain i o e ((net.traffic e.id.0 (not e.lower)).sent ++ extra) s.plain) e.id.0 e.lower b)) (hungry-takes takes inbox hungry);
    holds = plain-offered (flushed_net net e.id.0 e.lower shut extra) _ e.id.0 e.lower takes (plain-flushed net s.plain shut extra inbox e sane s.holds k);
    carried = drawn-carried (flushed_net net e.id.0 e.lower shut extra) e.id.0 e.lower takes _ (carried-flushed net e.id.0 e.lower shut extra _ _ _ _ k.flushed k.sent s.carried (rw s.is at carries));
  }

  -- Of an end that is as it was but for what was flushed, neither half was shut since.
  kept-open : (shut : Bool) (e e' : Conn I O) → KeepsEnd i o e e' → shut ≡ false → IsShutOr i o shut e → IsShutOr i o false e'
  kept-open shut e e' kept none k = record {
    shut_is = (λ j. kept.in_shut j || kept.out_shut j) ∙ k.shut_is ∙ none;
    none_lost = kept.lost ∙ k.none_lost;
  }

  held-exchanged : (net : Net) (road : R) (takes shut : Bool) (extra : List (List ℕ)) (inbox : Inbox) (e e' : Conn I O) → IsSane net → RoadsShow r net road → EndIs i o net.traffic shut extra inbox e → (takes ≡ true → (inbox ≡ no_inbox) × ((net.traffic e.id.0 e.lower).over ≡ false)) → TakesNext i o e e' takes (r.plain road) → (takes ≡ false → i.held e'.inward ≡ i.held e.inward) → i.held e'.inward ≡ Some (exchanged_inbox net e.id.0 e.lower takes shut extra inbox)
  held-exchanged net road true shut extra inbox e e' sane s k hungry taken untaken =
      let was : Traffic = net.traffic e.id.0 e.lower in
      let now : Traffic = after_flush net.traffic e.id.0 e.lower shut extra e.id.0 e.lower in
      let at : now ≡ flushes e.lower shut extra e.lower was = changed-at net.traffic e.id.0 (flushes e.lower shut extra) e.lower in
      let more_comes : now.over ≡ false = ap (λ (t : Traffic). t.over) at ∙ over-flushes e.lower shut e.lower extra was ∙ (hungry refl).1 in
      let stands : (flushed_plain i o e ((net.traffic e.id.0 (not e.lower)).sent ++ extra) s.plain).channels e.id.0 e.lower ≡ channel_of now =
      (plain-flushed net s.plain shut extra inbox e sane s.holds k).channels e.id.0 e.lower more_comes in
      let got : i.held e'.inward ≡ Some (filled inbox ((flushed_plain i o e ((net.traffic e.id.0 (not e.lower)).sent ++ extra) s.plain).channels e.id.0 e.lower)) = (rw (s.is, k.sent, k.held) at taken) refl in
      got ∙ (λ j. Some (filled ((hungry refl).0 j) (stands j)))
  held-exchanged net road false shut extra inbox e e' sane s k hungry taken untaken = untaken refl ∙ k.held

  -- An end that was exchanged.
  pub end-exchanged : (net : Net) (road : R) (takes shut : Bool) (extra : List (List ℕ)) (inbox : Inbox) (e e' : Conn I O) → IsSane net → RoadsShow r net road → EndIs i o net.traffic shut extra inbox e → (takes ≡ true → (inbox ≡ no_inbox) × ((net.traffic e.id.0 e.lower).over ≡ false)) → FlushesAll o e e' (r.plain road) → TakesNext i o e e' takes (r.plain road) → (takes ≡ false → i.held e'.inward ≡ i.held e.inward) → KeepsEnd i o e e' → EndIs i o (exchanged_net net e.id.0 e.lower takes shut extra).traffic false [] (exchanged_inbox net e.id.0 e.lower takes shut extra inbox) e'
  end-exchanged net road takes shut extra inbox e e' sane s k hungry flushed taken untaken kept =
      let t : Traffics = (exchanged_net net e.id.0 e.lower takes shut extra).traffic in
      let out : t e'.id.0 (not e'.lower) ≡ t e.id.0 (not e.lower) = λ j. t (kept.id j).0 (not (kept.lower j)) in
      let into : t e'.id.0 e'.lower ≡ t e.id.0 e.lower = λ j. t (kept.id j).0 (kept.lower j) in
      let out_is : t e'.id.0 (not e'.lower) ≡ drawn_way takes e.lower (not e.lower) (flushes e.lower shut extra (not e.lower) (net.traffic e.id.0 (not e.lower))) =
      out ∙ exchanged-at net e.id.0 e.lower takes shut extra (not e.lower) in
      let in_is : t e'.id.0 e'.lower ≡ drawn_way takes e.lower e.lower (flushes e.lower shut extra e.lower (net.traffic e.id.0 e.lower)) =
      into ∙ exchanged-at net e.id.0 e.lower takes shut extra e.lower in
      let sent : (t e'.id.0 (not e'.lower)).sent ≡ (net.traffic e.id.0 (not e.lower)).sent ++ extra =
      ap (λ (x : Traffic). x.sent) out_is ∙ sent-out takes e.lower shut extra (net.traffic e.id.0 (not e.lower)) in
      let all : o.flushed e'.outward ≡ length ((net.traffic e.id.0 (not e.lower)).sent ++ extra) = rw (s.is, k.sent) at flushed in
      record {
        sent = kept.sent ∙ k.sent ∙ ap Some (sym sent ∙ sym (append-nil (t e'.id.0 (not e'.lower)).sent));
        flushed = all ∙ ap length (sym sent);
        held = held-exchanged net road takes shut extra inbox e e' sane s k hungry taken untaken;
        outward = λ h. (let f : _ = end-stays takes e.lower shut (not e.lower) extra (net.traffic e.id.0 (not e.lower)) (sym (ap (λ (x : Traffic). x.end) out_is) ∙ h) in kept-open shut e e' kept f.1 (k.outward f.0));
        inward = λ h. (let f : _ = end-stays takes e.lower shut e.lower extra (net.traffic e.id.0 e.lower) (sym (ap (λ (x : Traffic). x.end) in_is) ∙ h) in kept-open shut e e' kept f.1 (k.inward f.0));
      }

  -- Roads to which an end was brought back.
  pub roads-brought : (net : Net) (road road' : R) (shut : Bool) (extra : List (List ℕ)) (inbox : Inbox) (e : Conn I O) → IsSane net → RoadsShow r net road → EndIs i o net.traffic shut extra inbox e → Flushes i o e (r.plain road) (r.plain road') → CarriesOf o e (r.carried road) (r.carried road') → RoadsShow r (flushed_net net e.id.0 e.lower shut extra) road'
  roads-brought net road road' shut extra inbox e sane s k plain carries = record {
    plain = flushed_plain i o e ((net.traffic e.id.0 (not e.lower)).sent ++ extra) s.plain;
    is = rw (s.is, k.sent) at plain;
    holds = plain-flushed net s.plain shut extra inbox e sane s.holds k;
    carried = carried-flushed net e.id.0 e.lower shut extra _ _ _ _ k.flushed k.sent s.carried carries;
  }

  -- Roads that show the shut of an end show also that it was given up: of what nobody takes nothing is said.
  pub roads-lost : (net : Net) (road : R) (conn : ℕ) (lower : Bool) (ms : List (List ℕ)) → RoadsShow r (flushed_net net conn lower true ms) road → RoadsShow r (lost_net net conn lower ms) road
  roads-lost net road conn lower ms s = record {
    plain = s.plain;
    is = s.is;
    holds = record {
      dialled = s.holds.dialled;
      listening = s.holds.listening;
      waiting = s.holds.waiting;
      channels = each-traffic net.traffic conn (given_up lower ms) (λ c d t. t.over ≡ false → s.plain.channels c d ≡ channel_of t)
          (λ d h. lost-channel lower d ms (net.traffic conn d) (s.plain.channels conn d)
          (λ v. s.holds.channels conn d (ap (λ (t : Traffic). t.over) (changed-at net.traffic conn (flushes lower true ms) d) ∙ v) ∙ ap channel_of (changed-at net.traffic conn (flushes lower true ms) d)) h)
          (λ c d other h. s.holds.channels c d (ap (λ (t : Traffic). t.over) (changed-other net.traffic conn c (flushes lower true ms) d other) ∙ h) ∙ ap channel_of (changed-other net.traffic conn c (flushes lower true ms) d other));
    };
    carried = s.carried ∙ ap (λ (k : Carried). option_map (λ _. k) (r.carried road)) (λ j c d. lost-carried net.traffic conn lower ms c d j);
  }

  -- An end that steps leaves all others as they are: those of other connections, and the other one of its own, where the step leaves what that one
  -- has sent.
  pub elsewhere : (traffic : Traffics) (conn : ℕ) (f : Bool → Traffic → Traffic) (shut : Bool) (extra : List (List ℕ)) (inbox : Inbox) (e : Conn I O) → (conn ≡ e.id.0 → (t : Traffic) → (f (not e.lower) t).sent ≡ t.sent) → ((d : Bool) (t : Traffic) → (f d t).end ≡ None → t.end ≡ None) → EndIs i o traffic shut extra inbox e → EndIs i o (changed traffic conn f) shut extra inbox e
  elsewhere traffic conn f shut extra inbox e same ends k =
      let sent : (changed traffic conn f e.id.0 (not e.lower)).sent ≡ (traffic e.id.0 (not e.lower)).sent =
      each-traffic traffic conn f (λ c d t. c ≡ e.id.0 → d ≡ not e.lower → t.sent ≡ (traffic c d).sent)
      (λ d a b. subst (λ (v : Bool). (f v (traffic conn v)).sent ≡ (traffic conn v).sent) (sym b) (same a (traffic conn (not e.lower)))) (λ c d other a b. refl) e.id.0 (not e.lower) refl refl in
      let closed : (d : Bool) → (changed traffic conn f e.id.0 d).end ≡ None → (traffic e.id.0 d).end ≡ None =
      λ d. each-traffic traffic conn f (λ c d t. t.end ≡ None → (traffic c d).end ≡ None) (λ d. ends d (traffic conn d)) (λ c d other h. h) e.id.0 d in
      record {
        sent = k.sent ∙ ap (λ (l : List (List ℕ)). Some (l ++ extra)) (sym sent);
        flushed = k.flushed ∙ ap length (sym sent);
        held = k.held;
        outward = λ h. k.outward (closed (not e.lower) h);
        inward = λ h. k.inward (closed e.lower h);
      }

  -- NEW CONNECTIONS

  -- Roads that were dialled.
  pub roads-dialled : (net : Net) (road road' : R) (port : ℕ) → RoadsShow r net road → r.plain road' ≡ option_map (λ p. with_dial p port) (r.plain road) → r.carried road' ≡ r.carried road → RoadsShow r (dialled_net net port) road'
  roads-dialled net road road' port s plain carries = record {
    plain = with_dial s.plain port;
    is = plain ∙ ap (option_map (λ p. with_dial p port)) s.is;
    holds = record {
      dialled = ap (λ n. n + 1) s.holds.dialled;
      listening = s.holds.listening;
      waiting = λ p j. cond (p == port) (s.holds.waiting p j ++ s.holds.dialled j ∷ []) (s.holds.waiting p j);
      channels = s.holds.channels;
    };
    carried = rw carries s.carried;
  }

  -- Roads of which a dial was accepted.
  pub roads-accepted : (net : Net) (road road' : R) (port : ℕ) → RoadsShow r net road → r.plain road' ≡ option_map (λ p. with_accept p port) (r.plain road) → r.carried road' ≡ r.carried road → RoadsShow r (accepted_net net port) road'
  roads-accepted net road road' port s plain carries = record {
    plain = with_accept s.plain port;
    is = plain ∙ ap (option_map (λ p. with_accept p port)) s.is;
    holds = record {
      dialled = s.holds.dialled;
      listening = s.holds.listening;
      waiting = λ p j. cond (p == port) (drop 1 (s.holds.waiting p j)) (s.holds.waiting p j);
      channels = s.holds.channels;
    };
    carried = rw carries s.carried;
  }

  -- Roads on which a port is listened on, or no longer.
  pub roads-listened : (net : Net) (road road' : R) (port : ℕ) (on : Bool) → RoadsShow r net road → r.plain road' ≡ option_map (λ p. with_listening p port on) (r.plain road) → r.carried road' ≡ r.carried road → RoadsShow r (listened_net net port on) road'
  roads-listened net road road' port on s plain carries = record {
    plain = with_listening s.plain port on;
    is = plain ∙ ap (option_map (λ p. with_listening p port on)) s.is;
    holds = record {
      dialled = s.holds.dialled;
      listening = λ p j. cond (p == port) on (s.holds.listening p j);
      waiting = s.holds.waiting;
      channels = s.holds.channels;
    };
    carried = rw carries s.carried;
  }

  -- Roads of which all that is observable stays.
  pub roads-same : (net : Net) (road road' : R) → RoadsShow r net road → r.plain road' ≡ r.plain road → r.carried road' ≡ r.carried road → RoadsShow r net road'
  roads-same net road road' s plain carries = record { plain = s.plain; is = plain ∙ s.is; holds = s.holds; carried = rw carries s.carried }

  holds-nothing : (held : Option Inbox) → IsSome held → IsEmptyInbox false held → held ≡ Some no_inbox
  holds-nothing None h e = cc
  holds-nothing (Some inbox) h e = e

  sent-nothing : (sent : Option (List (List ℕ))) → IsSome sent → SentNothing sent → sent ≡ Some []
  sent-nothing None h e = cc
  sent-nothing (Some l) h e = e

  -- A new end whose side has sent nothing.
  end-silent : (traffic : Traffics) (e : Conn I O) → (traffic e.id.0 (not e.lower)).sent ≡ [] → IsFresh i o e → IsObservable i o e → EndIs i o traffic false [] no_inbox e
  end-silent traffic e nothing f k =
      let unshut : IsShutOr i o false e = record { shut_is = λ j. f.in_open j || f.out_open j; none_lost = f.none_lost } in
      record {
        sent = sent-nothing _ k.sent f.sent_nothing ∙ ap (λ (l : List (List ℕ)). Some (l ++ [])) (sym nothing);
        flushed = f.none_flushed ∙ ap length (sym nothing);
        held = holds-nothing _ k.held f.holds_nothing;
        outward = λ h. unshut;
        inward = λ h. unshut;
      }

  -- A new end, of a connection without traffic.
  pub end-new : (traffic : Traffics) (e : Conn I O) → ((d : Bool) → traffic e.id.0 d ≡ no_traffic) → IsFresh i o e → IsObservable i o e → EndIs i o traffic false [] no_inbox e
  end-new traffic e none = end-silent traffic e (ap (λ (t : Traffic). t.sent) (none (not e.lower)))

  -- An end of which all that is observable stays.
  pub end-same : (traffic : Traffics) (shut : Bool) (extra : List (List ℕ)) (inbox : Inbox) (e e' : Conn I O) → KeepsEnd i o e e' → i.held e'.inward ≡ i.held e.inward → o.flushed e'.outward ≡ o.flushed e.outward → EndIs i o traffic shut extra inbox e → EndIs i o traffic shut extra inbox e'
  end-same traffic shut extra inbox e e' kept held flushed k =
      let same : IsShutOr i o shut e → IsShutOr i o shut e' = λ x. record { shut_is = (λ j. kept.in_shut j || kept.out_shut j) ∙ x.shut_is; none_lost = kept.lost ∙ x.none_lost } in
      let out : traffic e'.id.0 (not e'.lower) ≡ traffic e.id.0 (not e.lower) = λ j. traffic (kept.id j).0 (not (kept.lower j)) in
      let into : traffic e'.id.0 e'.lower ≡ traffic e.id.0 e.lower = λ j. traffic (kept.id j).0 (kept.lower j) in
      record {
        sent = kept.sent ∙ k.sent ∙ sym (ap (λ (t : Traffic). Some (t.sent ++ extra)) out);
        flushed = flushed ∙ k.flushed ∙ sym (ap (λ (t : Traffic). length t.sent) out);
        held = held ∙ k.held;
        outward = λ h. same (k.outward (sym (ap (λ (t : Traffic). t.end) out) ∙ h));
        inward = λ h. same (k.inward (sym (ap (λ (t : Traffic). t.end) into) ∙ h));
      }

  -- CALLS

  -- An exchange, by what the roads' call says of it.
  pub exchange-shows : (takes : Bool) (e e' : Conn I O) (road road' : R) (result : Result (Unit {0}) RoadError) → OnOk result (FlushesAll o e e' (r.plain road)) → OnOk result (CarriesFlushed o e (r.plain road) (r.carried road) (r.carried road')) → OnOk result (Exchanges i o e takes (r.plain road) (r.plain road')) → OnOk result (TakesNext i o e e' takes (r.plain road)) → (takes ≡ false → i.held e'.inward ≡ i.held e.inward) → KeepsEnd i o e e' → OnErr result (r.plain road' ≡ r.plain road) → OnErr result (r.carried road' ≡ r.carried road) → OnErr result (i.held e'.inward ≡ i.held e.inward) → OnErr result (o.flushed e'.outward ≡ o.flushed e.outward) → ShowsExchange r i o takes e e' road road' result
  exchange-shows takes e e' road road' (Ok u) flushed carries plain taken untaken kept ep ec eh ef = λ net shut extra inbox sane b may. record {
    road_shows = roads-exchanged net road road' takes shut extra inbox e sane b.road_shows b.end_is (λ h. (may h).0) plain carries;
    end_is = end-exchanged net road takes shut extra inbox e e' sane b.road_shows b.end_is may flushed taken untaken kept;
  }
  exchange-shows takes e e' road road' (Err why) flushed carries plain taken untaken kept ep ec eh ef = λ net shut extra inbox sane b may. record {
    road_shows = roads-same net road road' b.road_shows ep ec;
    end_is = end-same net.traffic shut extra inbox e e' kept eh ef b.end_is;
  }

  -- An end was shut.
  pub end-shut : (traffic : Traffics) (shut : Bool) (extra : List (List ℕ)) (inbox : Inbox) (e : Conn I O) (half : O) → o.shut half ≡ true → o.sent half ≡ o.sent e.outward → o.flushed half ≡ o.flushed e.outward → o.lost half ≡ o.lost e.outward → EndIs i o traffic shut extra inbox e → EndIs i o traffic true extra inbox (record e { outward = half })
  end-shut traffic shut extra inbox e half is sent flushed lost k =
      let now : IsShutOr i o shut e → IsShutOr i o true (record e { outward = half }) = λ x. record { shut_is = ap (λ b. i.shut e.inward || b) is ∙ or-true (i.shut e.inward); none_lost = lost ∙ x.none_lost } in
      record {
        sent = sent ∙ k.sent;
        flushed = flushed ∙ k.flushed;
        held = k.held;
        outward = λ h. now (k.outward h);
        inward = λ h. now (k.inward h);
      }

  -- Giving an end up, by what the calls on its half and on the roads say of it.
  pub loss-shows : (e : Conn I O) (half : O) (road road' : R) (result : Result (Unit {0}) RoadError) → o.shut half ≡ true → o.sent half ≡ o.sent e.outward → o.flushed half ≡ o.flushed e.outward → o.lost half ≡ o.lost e.outward → OnOk result (Flushes i o (record e { outward = half }) (r.plain road) (r.plain road')) → OnOk result (CarriesOf o (record e { outward = half }) (r.carried road) (r.carried road')) → ShowsLoss r i o e road road' result
  loss-shows e half road road' (Ok u) is sent flushed lost plain carries = λ net shut extra inbox sane b.
      roads-lost net road' e.id.0 e.lower extra
      (roads-brought net road road' true extra inbox (record e { outward = half }) sane b.road_shows (end-shut net.traffic shut extra inbox e half is sent flushed lost b.end_is) plain carries)
  loss-shows e half road road' (Err why) is sent flushed lost plain carries = λ net shut extra inbox sane b. tt

  -- The oldest dial is accepted, by what the roads' call says.
  pub accept-shows : (port : ℕ) (road road' : R) (result : Result (Option (Conn I O)) RoadError) →
      IfOk result (λ found. IfSome (r.plain road) (λ p. IsNone found ↔ (p.waiting port ≡ []))) →
      IfOk result (λ found. IfSome found (λ c. c.lower ≡ true)) →
      IfOk result (λ found. IfSome found (λ c. IfSome (r.plain road) (λ p. slice_get (p.waiting port) 0 ≡ Some c.id.0))) →
      IfOk result (λ found. IfSome found (λ c. IsFresh i o c)) →
      IfOk result (λ found. IfSome found (λ c. IfSome (r.plain road) (λ _. IsObservable i o c))) →
      IfOk result (λ found. MatchOption found (r.plain road' ≡ r.plain road) (λ _. r.plain road' ≡ option_map (λ p. with_accept p port) (r.plain road))) →
      r.carried road' ≡ r.carried road → OnErr result (r.plain road' ≡ r.plain road) →
      ShowsAccept r i o port road road' result
  accept-shows port road road' (Ok (Some e)) none lower number fresh observable plain carried err = λ net s. record {
    number = sym (ap (λ l. slice_get l 0) (s.holds.waiting port)) ∙ (rw s.is at number);
    side = lower;
    road_shows = roads-accepted net road road' port s plain carried;
    end_is = λ nothing. end-silent net.traffic e (ap (λ b. (net.traffic e.id.0 (not b)).sent) lower ∙ nothing) fresh (rw s.is at observable);
  }
  accept-shows port road road' (Ok None) none lower number fresh observable plain carried err = λ net s. record {
    none = sym (s.holds.waiting port) ∙ ((rw s.is at none).0 refl);
    road_shows = roads-same net road road' s plain carried;
  }
  accept-shows port road road' (Err why) none lower number fresh observable plain carried err = λ net s. roads-same net road road' s err carried

  -- A port is listened on.
  pub listen-shows : (node : ℕ) (road road' : R) (result : Result ℕ RoadError) →
      OnOk result (r.plain road' ≡ option_map (λ p. with_listening p (FIRST_PORT + node) true) (r.plain road)) →
      r.carried road' ≡ r.carried road → OnErr result (r.plain road' ≡ r.plain road) → ShowsListen r node road road' result
  listen-shows node road road' (Ok port) plain carried err = λ net s. roads-listened net road road' (FIRST_PORT + node) true s plain carried
  listen-shows node road road' (Err why) plain carried err = λ net s. roads-same net road road' s err carried

  -- What stands next.
  pub standing-shows : (conn : ℕ) (down : Bool) (road road' : R) (result : Standing) →
      MatchOption (r.plain road) (result ≡ standing.Nothing) (λ p. result ≡ standing_of (p.channels conn down)) →
      r.plain road' ≡ r.plain road → r.carried road' ≡ r.carried road → (net : Net) → RoadsShow r net road →
      ShowsStanding r net conn down road' result
  standing-shows conn down road road' result next plain carried net s = record {
    road_shows = roads-same net road road' s plain carried;
    is = λ h. (rw s.is at next) ∙ ap standing_of (s.holds.channels conn down h);
  }
