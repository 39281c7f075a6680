-- What the roads themselves make of the end that is brought back, as it is seen.
use Rattle.std.proofs.Common.{◌≡◌, ◌<◌, ◌≤◌, ◌||◌, ◌&&◌, ◌==◌, Bool, false, [], length, Option, Some, None, option_map, option_and_then, IfSome, IsSome, refl, sym, ap, subst, ◌∙◌}
use Rattle.hd_base.specs.Links.{Inbox}
use Rattle.hd_base.specs.Channels.{same_direction, with_flushed, unflushed, is_hungry}
use Rattle.fault_ports.specs.PieceCounts.{count_at, dialled_by}
use Rattle.fault_ports.specs.Halves.{number_of, test_of, PendingIs}
use Rattle.fault_ports.specs.declared.offers.Offer.TheVariants as offer
use Rattle.fault_ports.specs.Cuts.{AllObservable, seen_plain}
use Rattle.fault_ports.proofs.ExchangeLaws.{same_both}
use Rattle.fault_ports.proofs.EndLaws.{Happens, if_some, known_seen, counts_of, bounded_of, seen-after, counted-after, plain-after, dialled-after}
use Rattle.fault_ports.proofs.cutting.CuttingRoads.bring.Goals as goal

pub invariant_of-self-2-clause-plain_seen : goal.invariant_of-self-2-clause-plain_seen
invariant_of-self-2-clause-plain_seen g c =
    let P = g.R.Roads.plain c.args.self.now.inner in
    let P' = g.R.Roads.plain c.bring.new.self in
    let old = c.args.self.now.counts.duplexes.items in
    let mid = c.grown.new.self.duplexes.items in
    let new = c.set.new.self.duplexes.items in
    let O = g.R.Outward.LinkOut in
    let out = c.own_halves-inward.result.1 in
    let inn = c.own_halves-inward.result.0 in
    let end = c.args.end in
    let conn = end.id.0 in
    let lower = end.lower in
    let S = O.sent out in
    let nothing : Inbox = record { bytes = []; ended = false } in
    let shut = g.R.Inward.LinkIn.shut inn || O.shut out in
    let dialled = dialled_by c.args.self.now.newest in
    let known = known_seen old P conn c.requires in
    let PE : Option _ → Type 0 = λ o. PendingIs end.outward.pending (option_and_then O.sent o) (number_of O.flushed o) (number_of O.lost o) end.outward.shut in
    let pend : PE (Some out) = subst PE c.own_halves-inward.ensures.outward end.outward.counted in
    let h : Happens P P' old new S (Some nothing) None false (O.flushed out) (O.lost out) end.outward.pending conn shut lower false offer.Nothing c.in-Ok.grown = record {
      went = c.in_ok-bring.ensures.plain;
      hidden = c.in_ok-bring.ensures.connections.stays_hidden;
      known = known;
      all = c.args.self.now.counted;
      bounded = bounded_of P old mid new dialled c.args.self.now.dialled c.args.self.now.counted c.in-Ok.ensures.bounded c.set.ensures.listed;
      sends = if_some S (λ pieces. (end.outward.pending ≡ length (unflushed pieces (O.flushed out) (O.lost out))) × (O.flushed out ≤ length pieces) × (end.outward.shut ≡ false → O.lost out ≡ 0)) (λ pieces. end.outward.pending ≡ length (unflushed pieces (O.flushed out) (O.lost out))) (λ pieces x. x.0) pend;
      grows = c.in-Ok.ensures.grown;
      offers = if_some P (λ p. conn < p.dialled) (λ p. (false && is_hungry nothing) ≡ false) (λ p x. refl) known;
      bare = λ passed. absurd (cc);
      counts = counts_of P old mid new new conn dialled lower c.in-Ok.grown offer.Nothing known c.args.self.now.dialled c.in-Ok.ensures.listed c.in-Ok.ensures.counts c.set.ensures.listed c.set.ensures.counts
          (λ within c' d. sym (same_both ((conn == c') && same_direction lower d) (count_at new c' d)));
      observable = if_some P (λ p. AllObservable g.R.Inward.LinkIn O) (λ p. IsSome S × IsSome (Some nothing)) (λ p x. (x.1 out, refl)) c.args.self.now.observable;
    } in
    c.args.self.now.plain_seen ∙ plain-after P' old new None false (O.flushed out) (O.lost out) end.outward.pending conn shut lower false offer.Nothing c.in-Ok.grown P S (Some nothing) h

pub invariant_of-self-2-clause-dialled : goal.invariant_of-self-2-clause-dialled
invariant_of-self-2-clause-dialled g c =
    let P = g.R.Roads.plain c.args.self.now.inner in
    let P' = g.R.Roads.plain c.bring.new.self in
    let old = c.args.self.now.counts.duplexes.items in
    let mid = c.grown.new.self.duplexes.items in
    let new = c.set.new.self.duplexes.items in
    let O = g.R.Outward.LinkOut in
    let out = c.own_halves-inward.result.1 in
    let inn = c.own_halves-inward.result.0 in
    let end = c.args.end in
    let conn = end.id.0 in
    let lower = end.lower in
    let S = O.sent out in
    let nothing : Inbox = record { bytes = []; ended = false } in
    let shut = g.R.Inward.LinkIn.shut inn || O.shut out in
    let dialled = dialled_by c.args.self.now.newest in
    let known = known_seen old P conn c.requires in
    let PE : Option _ → Type 0 = λ o. PendingIs end.outward.pending (option_and_then O.sent o) (number_of O.flushed o) (number_of O.lost o) end.outward.shut in
    let pend : PE (Some out) = subst PE c.own_halves-inward.ensures.outward end.outward.counted in
    let h : Happens P P' old new S (Some nothing) None false (O.flushed out) (O.lost out) end.outward.pending conn shut lower false offer.Nothing c.in-Ok.grown = record {
      went = c.in_ok-bring.ensures.plain;
      hidden = c.in_ok-bring.ensures.connections.stays_hidden;
      known = known;
      all = c.args.self.now.counted;
      bounded = bounded_of P old mid new dialled c.args.self.now.dialled c.args.self.now.counted c.in-Ok.ensures.bounded c.set.ensures.listed;
      sends = if_some S (λ pieces. (end.outward.pending ≡ length (unflushed pieces (O.flushed out) (O.lost out))) × (O.flushed out ≤ length pieces) × (end.outward.shut ≡ false → O.lost out ≡ 0)) (λ pieces. end.outward.pending ≡ length (unflushed pieces (O.flushed out) (O.lost out))) (λ pieces x. x.0) pend;
      grows = c.in-Ok.ensures.grown;
      offers = if_some P (λ p. conn < p.dialled) (λ p. (false && is_hungry nothing) ≡ false) (λ p x. refl) known;
      bare = λ passed. absurd (cc);
      counts = counts_of P old mid new new conn dialled lower c.in-Ok.grown offer.Nothing known c.args.self.now.dialled c.in-Ok.ensures.listed c.in-Ok.ensures.counts c.set.ensures.listed c.set.ensures.counts
          (λ within c' d. sym (same_both ((conn == c') && same_direction lower d) (count_at new c' d)));
      observable = if_some P (λ p. AllObservable g.R.Inward.LinkIn O) (λ p. IsSome S × IsSome (Some nothing)) (λ p x. (x.1 out, refl)) c.args.self.now.observable;
    } in
    dialled-after P' old new None false (O.flushed out) (O.lost out) end.outward.pending conn shut lower false offer.Nothing c.in-Ok.grown P S (Some nothing) dialled h c.args.self.now.dialled

pub invariant_of-self-2-clause-counted : goal.invariant_of-self-2-clause-counted
invariant_of-self-2-clause-counted g c =
    let P = g.R.Roads.plain c.args.self.now.inner in
    let P' = g.R.Roads.plain c.bring.new.self in
    let old = c.args.self.now.counts.duplexes.items in
    let mid = c.grown.new.self.duplexes.items in
    let new = c.set.new.self.duplexes.items in
    let O = g.R.Outward.LinkOut in
    let out = c.own_halves-inward.result.1 in
    let inn = c.own_halves-inward.result.0 in
    let end = c.args.end in
    let conn = end.id.0 in
    let lower = end.lower in
    let S = O.sent out in
    let nothing : Inbox = record { bytes = []; ended = false } in
    let shut = g.R.Inward.LinkIn.shut inn || O.shut out in
    let dialled = dialled_by c.args.self.now.newest in
    let known = known_seen old P conn c.requires in
    let PE : Option _ → Type 0 = λ o. PendingIs end.outward.pending (option_and_then O.sent o) (number_of O.flushed o) (number_of O.lost o) end.outward.shut in
    let pend : PE (Some out) = subst PE c.own_halves-inward.ensures.outward end.outward.counted in
    let h : Happens P P' old new S (Some nothing) None false (O.flushed out) (O.lost out) end.outward.pending conn shut lower false offer.Nothing c.in-Ok.grown = record {
      went = c.in_ok-bring.ensures.plain;
      hidden = c.in_ok-bring.ensures.connections.stays_hidden;
      known = known;
      all = c.args.self.now.counted;
      bounded = bounded_of P old mid new dialled c.args.self.now.dialled c.args.self.now.counted c.in-Ok.ensures.bounded c.set.ensures.listed;
      sends = if_some S (λ pieces. (end.outward.pending ≡ length (unflushed pieces (O.flushed out) (O.lost out))) × (O.flushed out ≤ length pieces) × (end.outward.shut ≡ false → O.lost out ≡ 0)) (λ pieces. end.outward.pending ≡ length (unflushed pieces (O.flushed out) (O.lost out))) (λ pieces x. x.0) pend;
      grows = c.in-Ok.ensures.grown;
      offers = if_some P (λ p. conn < p.dialled) (λ p. (false && is_hungry nothing) ≡ false) (λ p x. refl) known;
      bare = λ passed. absurd (cc);
      counts = counts_of P old mid new new conn dialled lower c.in-Ok.grown offer.Nothing known c.args.self.now.dialled c.in-Ok.ensures.listed c.in-Ok.ensures.counts c.set.ensures.listed c.set.ensures.counts
          (λ within c' d. sym (same_both ((conn == c') && same_direction lower d) (count_at new c' d)));
      observable = if_some P (λ p. AllObservable g.R.Inward.LinkIn O) (λ p. IsSome S × IsSome (Some nothing)) (λ p x. (x.1 out, refl)) c.args.self.now.observable;
    } in
    counted-after P' old new None false (O.flushed out) (O.lost out) end.outward.pending conn shut lower false offer.Nothing c.in-Ok.grown P S (Some nothing) h

pub returns-clause-plain : goal.returns-clause-plain
returns-clause-plain g c =
    let P = g.R.Roads.plain c.args.self.now.inner in
    let P' = g.R.Roads.plain c.bring.new.self in
    let old = c.args.self.now.counts.duplexes.items in
    let mid = c.grown.new.self.duplexes.items in
    let new = c.set.new.self.duplexes.items in
    let O = g.R.Outward.LinkOut in
    let out = c.own_halves-inward.result.1 in
    let inn = c.own_halves-inward.result.0 in
    let end = c.args.end in
    let conn = end.id.0 in
    let lower = end.lower in
    let S = O.sent out in
    let nothing : Inbox = record { bytes = []; ended = false } in
    let shut = g.R.Inward.LinkIn.shut inn || O.shut out in
    let dialled = dialled_by c.args.self.now.newest in
    let known = known_seen old P conn c.requires in
    let PE : Option _ → Type 0 = λ o. PendingIs end.outward.pending (option_and_then O.sent o) (number_of O.flushed o) (number_of O.lost o) end.outward.shut in
    let pend : PE (Some out) = subst PE c.own_halves-inward.ensures.outward end.outward.counted in
    let h : Happens P P' old new S (Some nothing) None false (O.flushed out) (O.lost out) end.outward.pending conn shut lower false offer.Nothing c.in-Ok.grown = record {
      went = c.in_ok-bring.ensures.plain;
      hidden = c.in_ok-bring.ensures.connections.stays_hidden;
      known = known;
      all = c.args.self.now.counted;
      bounded = bounded_of P old mid new dialled c.args.self.now.dialled c.args.self.now.counted c.in-Ok.ensures.bounded c.set.ensures.listed;
      sends = if_some S (λ pieces. (end.outward.pending ≡ length (unflushed pieces (O.flushed out) (O.lost out))) × (O.flushed out ≤ length pieces) × (end.outward.shut ≡ false → O.lost out ≡ 0)) (λ pieces. end.outward.pending ≡ length (unflushed pieces (O.flushed out) (O.lost out))) (λ pieces x. x.0) pend;
      grows = c.in-Ok.ensures.grown;
      offers = if_some P (λ p. conn < p.dialled) (λ p. (false && is_hungry nothing) ≡ false) (λ p x. refl) known;
      bare = λ passed. absurd (cc);
      counts = counts_of P old mid new new conn dialled lower c.in-Ok.grown offer.Nothing known c.args.self.now.dialled c.in-Ok.ensures.listed c.in-Ok.ensures.counts c.set.ensures.listed c.set.ensures.counts
          (λ within c' d. sym (same_both ((conn == c') && same_direction lower d) (count_at new c' d)));
      observable = if_some P (λ p. AllObservable g.R.Inward.LinkIn O) (λ p. IsSome S × IsSome (Some nothing)) (λ p x. (x.1 out, refl)) c.args.self.now.observable;
    } in
    let shut_in : test_of g.R.Inward.LinkIn.shut end.inward.inner ≡ g.R.Inward.LinkIn.shut inn = ap (test_of g.R.Inward.LinkIn.shut) c.own_halves-inward.ensures.inward in
    let M2 : Bool → Type 0 = λ b. IfSome (option_map (seen_plain old) P) (λ p. IfSome S (λ sent. option_map (seen_plain new) P' ≡ Some (with_flushed p conn lower (unflushed sent (O.flushed out) (O.lost out)) (b || O.shut out)))) in
    let M3 : Option _ → Type 0 = λ o. IfSome (option_map (seen_plain old) P) (λ p. IfSome (option_and_then O.sent o) (λ sent. option_map (seen_plain new) P' ≡ Some (with_flushed p conn lower (unflushed sent (number_of O.flushed o) (number_of O.lost o)) (test_of g.R.Inward.LinkIn.shut end.inward.inner || test_of O.shut o)))) in
    subst M3 (sym c.own_halves-inward.ensures.outward) (subst M2 (sym shut_in) (seen-after P' old new None false (O.flushed out) (O.lost out) end.outward.pending conn shut lower false offer.Nothing c.in-Ok.grown P S (Some nothing) h))
