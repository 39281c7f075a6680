-- What the roads themselves make of the exchange, as it is seen.
use Rattle.std.proofs.Common.{◌≡◌, ◌≤◌, ◌||◌, ◌&&◌, Bool, true, false, length, Option, Some, option_map, option_and_then, IfSome, IsSome, MatchOption, sym, ap, subst, ◌∙◌}
use Rattle.hd_base.specs.Links.{Inbox}
use Rattle.hd_base.specs.Channels.{Plain, with_offer, with_flushed, unflushed, is_hungry, filled}
use Rattle.fault_ports.specs.declared.piece_counts.PieceCount.{PieceCount}
use Rattle.fault_ports.specs.PieceCounts.{count_at, dialled_by}
use Rattle.fault_ports.specs.Halves.{held_behind, inbox_behind, number_of, test_of, PendingIs}
use Rattle.fault_ports.specs.Offers.{OffersNext}
use Rattle.fault_ports.specs.Cuts.{AllObservable, seen_plain}
use Rattle.fault_ports.proofs.EndLaws.{Happens, if_some, known_seen, offers_of, counts_of, bounded_of, seen-after, counted-after, plain-after, dialled-after}
use Rattle.fault_ports.proofs.GivenLaws.{taken-after}
use Rattle.fault_ports.proofs.PendingLaws.{pending-after}
use Rattle.fault_ports.proofs.cutting.CuttingRoads.exchange.Goals as goal

pub invariant_of-cut_out-2-clause-counted : goal.invariant_of-cut_out-2-clause-counted
invariant_of-cut_out-2-clause-counted g c =
    let P = g.R.Roads.plain c.args.self.now.inner in
    let O = g.R.Outward.LinkOut in
    let out = c.in-Some-Some.outward in
    let new = c.exchange-done.new.end.outward in
    let end = c.args.end.now in
    let is_out : end.outward.inner ≡ Some out = sym c.take-2.ensures.value ∙ c.in-Some-Some.is-1 in
    let PE : Option _ → Type 0 = λ o. PendingIs end.outward.pending (option_and_then O.sent o) (number_of O.flushed o) (number_of O.lost o) end.outward.shut in
    let F : Option Plain → Type 0 = λ q. MatchOption q (O.flushed new ≡ O.flushed out) (λ p. IfSome (O.sent out) (λ sent. O.flushed new ≡ length sent)) in
    pending-after P c.args.self.now.plain end.outward.pending c.still_pending-cut_out.result (O.sent out) (O.sent new) (O.flushed out) (O.flushed new) (O.lost out) (O.lost new) end.outward.shut
    c.args.self.now.plain_seen c.still_pending-cut_out.ensures c.in_default-done.ensures.end.sent c.in_default-done.ensures.end.lost (subst F c.standing-standing.ensures.plain c.in_default-done.ensures.flushed) (subst PE is_out end.outward.counted)

pub invariant_of-self-2-clause-plain_seen : goal.invariant_of-self-2-clause-plain_seen
invariant_of-self-2-clause-plain_seen g c =
    let P = g.R.Roads.plain c.args.self.now.inner in
    let P' = g.R.Roads.plain c.exchange-done.new.self in
    let old = c.args.self.now.counts.duplexes.items in
    let mid = c.grown.new.self.duplexes.items in
    let put = c.set.new.self.duplexes.items in
    let new = c.book.new.self.duplexes.items in
    let out = c.in-Some-Some.outward in
    let inn = c.in-Some-Some.inward in
    let half = c.offer_next.new.half in
    let end = c.args.end.now in
    let conn = end.id.0 in
    let lower = end.lower in
    let S = g.R.Outward.LinkOut.sent out in
    let H = g.R.Inward.LinkIn.held inn in
    let fl = g.R.Outward.LinkOut.flushed out in
    let lo = g.R.Outward.LinkOut.lost out in
    let shut = g.R.Inward.LinkIn.shut inn || g.R.Outward.LinkOut.shut out in
    let off = c.in-Ok-offer_next.offer in
    let dialled = dialled_by c.args.self.now.newest in
    let is_out : end.outward.inner ≡ Some out = sym c.take-2.ensures.value ∙ c.in-Some-Some.is-1 in
    let is_in : half.inner ≡ Some inn = sym c.take.ensures.value ∙ c.in-Some-Some.is-0 in
    let W : Option Plain → Bool → Type 0 = λ q b. IfSome q (λ p. IfSome S (λ sent. IfSome H (λ inbox. P' ≡ Some (with_offer (with_flushed p conn lower (unflushed sent fl lo) shut) conn lower (b && is_hungry inbox))))) in
    let WentOn : Option Plain → Type 0 = λ q. W q c.passes.result in
    let WentBy : Bool → Type 0 = λ b. W P b in
    let known = known_seen old P conn c.requires in
    let heldC : held_behind g.R.Inward.LinkIn.held half.inner half.first half.ended ≡ option_map (inbox_behind half.first half.ended) H = ap (λ o. held_behind g.R.Inward.LinkIn.held o half.first half.ended) is_in in
    let OF : Option Inbox → Type 0 = λ o. c.args.self.now.plain ≡ true → IfSome o (λ inbox. OffersNext off c.args.take (is_hungry inbox) c.standing-standing.result c.get-left.result.left) in
    let offers = subst OF (sym c.in-Ok-offer_next.ensures.held ∙ heldC) c.in-Ok-offer_next.ensures.offer in
    let PE : Option _ → Type 0 = λ o. PendingIs end.outward.pending (option_and_then g.R.Outward.LinkOut.sent o) (number_of g.R.Outward.LinkOut.flushed o) (number_of g.R.Outward.LinkOut.lost o) end.outward.shut in
    let pend : PE (Some out) = subst PE is_out end.outward.counted in
    let h : Happens P P' old new S H half.first half.ended fl lo end.outward.pending conn shut lower c.args.take off c.in-Ok.grown = record {
      went = subst WentBy c.passes.ensures (subst WentOn c.standing-standing.ensures.plain c.in_default-done.ensures.plain);
      hidden = λ none. c.in_default-done.ensures.connections.stays_hidden (c.standing-standing.ensures.plain ∙ none);
      known = known;
      all = c.args.self.now.counted;
      bounded = bounded_of P old mid new dialled c.args.self.now.dialled c.args.self.now.counted c.in-Ok.ensures.bounded (c.book.ensures.listed ∙ c.set.ensures.listed);
      sends = if_some S (λ pieces. (end.outward.pending ≡ length (unflushed pieces fl lo)) × (fl ≤ length pieces) × (end.outward.shut ≡ false → lo ≡ 0)) (λ pieces. end.outward.pending ≡ length (unflushed pieces fl lo)) (λ pieces x. x.0) pend;
      grows = c.in-Ok.ensures.grown;
      offers = offers_of P (option_map (inbox_behind half.first half.ended) H) c.args.self.now.plain off c.args.take lower c.standing-standing.result c.get-left.result.left (count_at old conn lower).left conn
          c.args.self.now.plain_seen (ap (λ (k : PieceCount). k.left) (c.get-left.ensures ∙ c.in-Ok.ensures.counts conn lower)) c.standing-standing.ensures.next offers;
      bare = c.in-Ok-offer_next.ensures.bare;
      counts = counts_of P old mid put new conn dialled lower c.in-Ok.grown off known c.args.self.now.dialled c.in-Ok.ensures.listed c.in-Ok.ensures.counts c.set.ensures.listed c.set.ensures.counts c.book.ensures.counts;
      observable = if_some P (λ p. AllObservable g.R.Inward.LinkIn g.R.Outward.LinkOut) (λ p. IsSome S × IsSome H) (λ p x. (x.1 out, x.0 inn)) c.args.self.now.observable;
    } in
    c.args.self.now.plain_seen ∙ plain-after P' old new half.first half.ended fl lo end.outward.pending conn shut lower c.args.take off c.in-Ok.grown P S H h

pub invariant_of-self-2-clause-dialled : goal.invariant_of-self-2-clause-dialled
invariant_of-self-2-clause-dialled g c =
    let P = g.R.Roads.plain c.args.self.now.inner in
    let P' = g.R.Roads.plain c.exchange-done.new.self in
    let old = c.args.self.now.counts.duplexes.items in
    let mid = c.grown.new.self.duplexes.items in
    let put = c.set.new.self.duplexes.items in
    let new = c.book.new.self.duplexes.items in
    let out = c.in-Some-Some.outward in
    let inn = c.in-Some-Some.inward in
    let half = c.offer_next.new.half in
    let end = c.args.end.now in
    let conn = end.id.0 in
    let lower = end.lower in
    let S = g.R.Outward.LinkOut.sent out in
    let H = g.R.Inward.LinkIn.held inn in
    let fl = g.R.Outward.LinkOut.flushed out in
    let lo = g.R.Outward.LinkOut.lost out in
    let shut = g.R.Inward.LinkIn.shut inn || g.R.Outward.LinkOut.shut out in
    let off = c.in-Ok-offer_next.offer in
    let dialled = dialled_by c.args.self.now.newest in
    let is_out : end.outward.inner ≡ Some out = sym c.take-2.ensures.value ∙ c.in-Some-Some.is-1 in
    let is_in : half.inner ≡ Some inn = sym c.take.ensures.value ∙ c.in-Some-Some.is-0 in
    let W : Option Plain → Bool → Type 0 = λ q b. IfSome q (λ p. IfSome S (λ sent. IfSome H (λ inbox. P' ≡ Some (with_offer (with_flushed p conn lower (unflushed sent fl lo) shut) conn lower (b && is_hungry inbox))))) in
    let WentOn : Option Plain → Type 0 = λ q. W q c.passes.result in
    let WentBy : Bool → Type 0 = λ b. W P b in
    let known = known_seen old P conn c.requires in
    let heldC : held_behind g.R.Inward.LinkIn.held half.inner half.first half.ended ≡ option_map (inbox_behind half.first half.ended) H = ap (λ o. held_behind g.R.Inward.LinkIn.held o half.first half.ended) is_in in
    let OF : Option Inbox → Type 0 = λ o. c.args.self.now.plain ≡ true → IfSome o (λ inbox. OffersNext off c.args.take (is_hungry inbox) c.standing-standing.result c.get-left.result.left) in
    let offers = subst OF (sym c.in-Ok-offer_next.ensures.held ∙ heldC) c.in-Ok-offer_next.ensures.offer in
    let PE : Option _ → Type 0 = λ o. PendingIs end.outward.pending (option_and_then g.R.Outward.LinkOut.sent o) (number_of g.R.Outward.LinkOut.flushed o) (number_of g.R.Outward.LinkOut.lost o) end.outward.shut in
    let pend : PE (Some out) = subst PE is_out end.outward.counted in
    let h : Happens P P' old new S H half.first half.ended fl lo end.outward.pending conn shut lower c.args.take off c.in-Ok.grown = record {
      went = subst WentBy c.passes.ensures (subst WentOn c.standing-standing.ensures.plain c.in_default-done.ensures.plain);
      hidden = λ none. c.in_default-done.ensures.connections.stays_hidden (c.standing-standing.ensures.plain ∙ none);
      known = known;
      all = c.args.self.now.counted;
      bounded = bounded_of P old mid new dialled c.args.self.now.dialled c.args.self.now.counted c.in-Ok.ensures.bounded (c.book.ensures.listed ∙ c.set.ensures.listed);
      sends = if_some S (λ pieces. (end.outward.pending ≡ length (unflushed pieces fl lo)) × (fl ≤ length pieces) × (end.outward.shut ≡ false → lo ≡ 0)) (λ pieces. end.outward.pending ≡ length (unflushed pieces fl lo)) (λ pieces x. x.0) pend;
      grows = c.in-Ok.ensures.grown;
      offers = offers_of P (option_map (inbox_behind half.first half.ended) H) c.args.self.now.plain off c.args.take lower c.standing-standing.result c.get-left.result.left (count_at old conn lower).left conn
          c.args.self.now.plain_seen (ap (λ (k : PieceCount). k.left) (c.get-left.ensures ∙ c.in-Ok.ensures.counts conn lower)) c.standing-standing.ensures.next offers;
      bare = c.in-Ok-offer_next.ensures.bare;
      counts = counts_of P old mid put new conn dialled lower c.in-Ok.grown off known c.args.self.now.dialled c.in-Ok.ensures.listed c.in-Ok.ensures.counts c.set.ensures.listed c.set.ensures.counts c.book.ensures.counts;
      observable = if_some P (λ p. AllObservable g.R.Inward.LinkIn g.R.Outward.LinkOut) (λ p. IsSome S × IsSome H) (λ p x. (x.1 out, x.0 inn)) c.args.self.now.observable;
    } in
    dialled-after P' old new half.first half.ended fl lo end.outward.pending conn shut lower c.args.take off c.in-Ok.grown P S H dialled h c.args.self.now.dialled

pub invariant_of-self-2-clause-counted : goal.invariant_of-self-2-clause-counted
invariant_of-self-2-clause-counted g c =
    let P = g.R.Roads.plain c.args.self.now.inner in
    let P' = g.R.Roads.plain c.exchange-done.new.self in
    let old = c.args.self.now.counts.duplexes.items in
    let mid = c.grown.new.self.duplexes.items in
    let put = c.set.new.self.duplexes.items in
    let new = c.book.new.self.duplexes.items in
    let out = c.in-Some-Some.outward in
    let inn = c.in-Some-Some.inward in
    let half = c.offer_next.new.half in
    let end = c.args.end.now in
    let conn = end.id.0 in
    let lower = end.lower in
    let S = g.R.Outward.LinkOut.sent out in
    let H = g.R.Inward.LinkIn.held inn in
    let fl = g.R.Outward.LinkOut.flushed out in
    let lo = g.R.Outward.LinkOut.lost out in
    let shut = g.R.Inward.LinkIn.shut inn || g.R.Outward.LinkOut.shut out in
    let off = c.in-Ok-offer_next.offer in
    let dialled = dialled_by c.args.self.now.newest in
    let is_out : end.outward.inner ≡ Some out = sym c.take-2.ensures.value ∙ c.in-Some-Some.is-1 in
    let is_in : half.inner ≡ Some inn = sym c.take.ensures.value ∙ c.in-Some-Some.is-0 in
    let W : Option Plain → Bool → Type 0 = λ q b. IfSome q (λ p. IfSome S (λ sent. IfSome H (λ inbox. P' ≡ Some (with_offer (with_flushed p conn lower (unflushed sent fl lo) shut) conn lower (b && is_hungry inbox))))) in
    let WentOn : Option Plain → Type 0 = λ q. W q c.passes.result in
    let WentBy : Bool → Type 0 = λ b. W P b in
    let known = known_seen old P conn c.requires in
    let heldC : held_behind g.R.Inward.LinkIn.held half.inner half.first half.ended ≡ option_map (inbox_behind half.first half.ended) H = ap (λ o. held_behind g.R.Inward.LinkIn.held o half.first half.ended) is_in in
    let OF : Option Inbox → Type 0 = λ o. c.args.self.now.plain ≡ true → IfSome o (λ inbox. OffersNext off c.args.take (is_hungry inbox) c.standing-standing.result c.get-left.result.left) in
    let offers = subst OF (sym c.in-Ok-offer_next.ensures.held ∙ heldC) c.in-Ok-offer_next.ensures.offer in
    let PE : Option _ → Type 0 = λ o. PendingIs end.outward.pending (option_and_then g.R.Outward.LinkOut.sent o) (number_of g.R.Outward.LinkOut.flushed o) (number_of g.R.Outward.LinkOut.lost o) end.outward.shut in
    let pend : PE (Some out) = subst PE is_out end.outward.counted in
    let h : Happens P P' old new S H half.first half.ended fl lo end.outward.pending conn shut lower c.args.take off c.in-Ok.grown = record {
      went = subst WentBy c.passes.ensures (subst WentOn c.standing-standing.ensures.plain c.in_default-done.ensures.plain);
      hidden = λ none. c.in_default-done.ensures.connections.stays_hidden (c.standing-standing.ensures.plain ∙ none);
      known = known;
      all = c.args.self.now.counted;
      bounded = bounded_of P old mid new dialled c.args.self.now.dialled c.args.self.now.counted c.in-Ok.ensures.bounded (c.book.ensures.listed ∙ c.set.ensures.listed);
      sends = if_some S (λ pieces. (end.outward.pending ≡ length (unflushed pieces fl lo)) × (fl ≤ length pieces) × (end.outward.shut ≡ false → lo ≡ 0)) (λ pieces. end.outward.pending ≡ length (unflushed pieces fl lo)) (λ pieces x. x.0) pend;
      grows = c.in-Ok.ensures.grown;
      offers = offers_of P (option_map (inbox_behind half.first half.ended) H) c.args.self.now.plain off c.args.take lower c.standing-standing.result c.get-left.result.left (count_at old conn lower).left conn
          c.args.self.now.plain_seen (ap (λ (k : PieceCount). k.left) (c.get-left.ensures ∙ c.in-Ok.ensures.counts conn lower)) c.standing-standing.ensures.next offers;
      bare = c.in-Ok-offer_next.ensures.bare;
      counts = counts_of P old mid put new conn dialled lower c.in-Ok.grown off known c.args.self.now.dialled c.in-Ok.ensures.listed c.in-Ok.ensures.counts c.set.ensures.listed c.set.ensures.counts c.book.ensures.counts;
      observable = if_some P (λ p. AllObservable g.R.Inward.LinkIn g.R.Outward.LinkOut) (λ p. IsSome S × IsSome H) (λ p x. (x.1 out, x.0 inn)) c.args.self.now.observable;
    } in
    counted-after P' old new half.first half.ended fl lo end.outward.pending conn shut lower c.args.take off c.in-Ok.grown P S H h

pub returns-clause-plain : goal.returns-clause-plain
returns-clause-plain g c =
    let P = g.R.Roads.plain c.args.self.now.inner in
    let P' = g.R.Roads.plain c.exchange-done.new.self in
    let old = c.args.self.now.counts.duplexes.items in
    let mid = c.grown.new.self.duplexes.items in
    let put = c.set.new.self.duplexes.items in
    let new = c.book.new.self.duplexes.items in
    let out = c.in-Some-Some.outward in
    let inn = c.in-Some-Some.inward in
    let half = c.offer_next.new.half in
    let end = c.args.end.now in
    let conn = end.id.0 in
    let lower = end.lower in
    let S = g.R.Outward.LinkOut.sent out in
    let H = g.R.Inward.LinkIn.held inn in
    let fl = g.R.Outward.LinkOut.flushed out in
    let lo = g.R.Outward.LinkOut.lost out in
    let shut = g.R.Inward.LinkIn.shut inn || g.R.Outward.LinkOut.shut out in
    let off = c.in-Ok-offer_next.offer in
    let dialled = dialled_by c.args.self.now.newest in
    let is_out : end.outward.inner ≡ Some out = sym c.take-2.ensures.value ∙ c.in-Some-Some.is-1 in
    let is_in : half.inner ≡ Some inn = sym c.take.ensures.value ∙ c.in-Some-Some.is-0 in
    let W : Option Plain → Bool → Type 0 = λ q b. IfSome q (λ p. IfSome S (λ sent. IfSome H (λ inbox. P' ≡ Some (with_offer (with_flushed p conn lower (unflushed sent fl lo) shut) conn lower (b && is_hungry inbox))))) in
    let WentOn : Option Plain → Type 0 = λ q. W q c.passes.result in
    let WentBy : Bool → Type 0 = λ b. W P b in
    let known = known_seen old P conn c.requires in
    let heldC : held_behind g.R.Inward.LinkIn.held half.inner half.first half.ended ≡ option_map (inbox_behind half.first half.ended) H = ap (λ o. held_behind g.R.Inward.LinkIn.held o half.first half.ended) is_in in
    let OF : Option Inbox → Type 0 = λ o. c.args.self.now.plain ≡ true → IfSome o (λ inbox. OffersNext off c.args.take (is_hungry inbox) c.standing-standing.result c.get-left.result.left) in
    let offers = subst OF (sym c.in-Ok-offer_next.ensures.held ∙ heldC) c.in-Ok-offer_next.ensures.offer in
    let PE : Option _ → Type 0 = λ o. PendingIs end.outward.pending (option_and_then g.R.Outward.LinkOut.sent o) (number_of g.R.Outward.LinkOut.flushed o) (number_of g.R.Outward.LinkOut.lost o) end.outward.shut in
    let pend : PE (Some out) = subst PE is_out end.outward.counted in
    let h : Happens P P' old new S H half.first half.ended fl lo end.outward.pending conn shut lower c.args.take off c.in-Ok.grown = record {
      went = subst WentBy c.passes.ensures (subst WentOn c.standing-standing.ensures.plain c.in_default-done.ensures.plain);
      hidden = λ none. c.in_default-done.ensures.connections.stays_hidden (c.standing-standing.ensures.plain ∙ none);
      known = known;
      all = c.args.self.now.counted;
      bounded = bounded_of P old mid new dialled c.args.self.now.dialled c.args.self.now.counted c.in-Ok.ensures.bounded (c.book.ensures.listed ∙ c.set.ensures.listed);
      sends = if_some S (λ pieces. (end.outward.pending ≡ length (unflushed pieces fl lo)) × (fl ≤ length pieces) × (end.outward.shut ≡ false → lo ≡ 0)) (λ pieces. end.outward.pending ≡ length (unflushed pieces fl lo)) (λ pieces x. x.0) pend;
      grows = c.in-Ok.ensures.grown;
      offers = offers_of P (option_map (inbox_behind half.first half.ended) H) c.args.self.now.plain off c.args.take lower c.standing-standing.result c.get-left.result.left (count_at old conn lower).left conn
          c.args.self.now.plain_seen (ap (λ (k : PieceCount). k.left) (c.get-left.ensures ∙ c.in-Ok.ensures.counts conn lower)) c.standing-standing.ensures.next offers;
      bare = c.in-Ok-offer_next.ensures.bare;
      counts = counts_of P old mid put new conn dialled lower c.in-Ok.grown off known c.args.self.now.dialled c.in-Ok.ensures.listed c.in-Ok.ensures.counts c.set.ensures.listed c.set.ensures.counts c.book.ensures.counts;
      observable = if_some P (λ p. AllObservable g.R.Inward.LinkIn g.R.Outward.LinkOut) (λ p. IsSome S × IsSome H) (λ p x. (x.1 out, x.0 inn)) c.args.self.now.observable;
    } in
    let shut_in : test_of g.R.Inward.LinkIn.shut end.inward.inner ≡ g.R.Inward.LinkIn.shut inn = sym c.in-Ok-offer_next.ensures.shut ∙ ap (test_of g.R.Inward.LinkIn.shut) is_in in
    let held_in : held_behind g.R.Inward.LinkIn.held end.inward.inner end.inward.first end.inward.ended ≡ option_map (inbox_behind half.first half.ended) H = sym c.in-Ok-offer_next.ensures.held ∙ heldC in
    let O = g.R.Outward.LinkOut in
    let M1 : Option Inbox → Type 0 = λ hc. IfSome (option_map (seen_plain old) P) (λ p. IfSome S (λ sent. IfSome hc (λ inbox. option_map (seen_plain new) P' ≡ Some (with_offer (with_flushed p conn lower (unflushed sent fl lo) shut) conn lower (c.args.take && is_hungry inbox))))) in
    let M2 : Bool → Type 0 = λ b. IfSome (option_map (seen_plain old) P) (λ p. IfSome S (λ sent. IfSome (held_behind g.R.Inward.LinkIn.held end.inward.inner end.inward.first end.inward.ended) (λ inbox. option_map (seen_plain new) P' ≡ Some (with_offer (with_flushed p conn lower (unflushed sent fl lo) (b || O.shut out)) conn lower (c.args.take && is_hungry inbox))))) in
    let M3 : Option _ → Type 0 = λ o. IfSome (option_map (seen_plain old) P) (λ p. IfSome (option_and_then O.sent o) (λ sent. IfSome (held_behind g.R.Inward.LinkIn.held end.inward.inner end.inward.first end.inward.ended) (λ inbox. option_map (seen_plain new) P' ≡ Some (with_offer (with_flushed p conn lower (unflushed sent (number_of O.flushed o) (number_of O.lost o)) (test_of g.R.Inward.LinkIn.shut end.inward.inner || test_of O.shut o)) conn lower (c.args.take && is_hungry inbox))))) in
    subst M3 (sym is_out) (subst M2 (sym shut_in) (subst M1 (sym held_in) (seen-after P' old new half.first half.ended fl lo end.outward.pending conn shut lower c.args.take off c.in-Ok.grown P S H h)))

pub returns-clause-taken : goal.returns-clause-taken
returns-clause-taken g c =
    let P = g.R.Roads.plain c.args.self.now.inner in
    let P' = g.R.Roads.plain c.exchange-done.new.self in
    let old = c.args.self.now.counts.duplexes.items in
    let mid = c.grown.new.self.duplexes.items in
    let put = c.set.new.self.duplexes.items in
    let new = c.book.new.self.duplexes.items in
    let out = c.in-Some-Some.outward in
    let inn = c.in-Some-Some.inward in
    let half = c.offer_next.new.half in
    let end = c.args.end.now in
    let conn = end.id.0 in
    let lower = end.lower in
    let S = g.R.Outward.LinkOut.sent out in
    let H = g.R.Inward.LinkIn.held inn in
    let fl = g.R.Outward.LinkOut.flushed out in
    let lo = g.R.Outward.LinkOut.lost out in
    let shut = g.R.Inward.LinkIn.shut inn || g.R.Outward.LinkOut.shut out in
    let off = c.in-Ok-offer_next.offer in
    let dialled = dialled_by c.args.self.now.newest in
    let is_out : end.outward.inner ≡ Some out = sym c.take-2.ensures.value ∙ c.in-Some-Some.is-1 in
    let is_in : half.inner ≡ Some inn = sym c.take.ensures.value ∙ c.in-Some-Some.is-0 in
    let W : Option Plain → Bool → Type 0 = λ q b. IfSome q (λ p. IfSome S (λ sent. IfSome H (λ inbox. P' ≡ Some (with_offer (with_flushed p conn lower (unflushed sent fl lo) shut) conn lower (b && is_hungry inbox))))) in
    let WentOn : Option Plain → Type 0 = λ q. W q c.passes.result in
    let WentBy : Bool → Type 0 = λ b. W P b in
    let known = known_seen old P conn c.requires in
    let heldC : held_behind g.R.Inward.LinkIn.held half.inner half.first half.ended ≡ option_map (inbox_behind half.first half.ended) H = ap (λ o. held_behind g.R.Inward.LinkIn.held o half.first half.ended) is_in in
    let OF : Option Inbox → Type 0 = λ o. c.args.self.now.plain ≡ true → IfSome o (λ inbox. OffersNext off c.args.take (is_hungry inbox) c.standing-standing.result c.get-left.result.left) in
    let offers = subst OF (sym c.in-Ok-offer_next.ensures.held ∙ heldC) c.in-Ok-offer_next.ensures.offer in
    let PE : Option _ → Type 0 = λ o. PendingIs end.outward.pending (option_and_then g.R.Outward.LinkOut.sent o) (number_of g.R.Outward.LinkOut.flushed o) (number_of g.R.Outward.LinkOut.lost o) end.outward.shut in
    let pend : PE (Some out) = subst PE is_out end.outward.counted in
    let h : Happens P P' old new S H half.first half.ended fl lo end.outward.pending conn shut lower c.args.take off c.in-Ok.grown = record {
      went = subst WentBy c.passes.ensures (subst WentOn c.standing-standing.ensures.plain c.in_default-done.ensures.plain);
      hidden = λ none. c.in_default-done.ensures.connections.stays_hidden (c.standing-standing.ensures.plain ∙ none);
      known = known;
      all = c.args.self.now.counted;
      bounded = bounded_of P old mid new dialled c.args.self.now.dialled c.args.self.now.counted c.in-Ok.ensures.bounded (c.book.ensures.listed ∙ c.set.ensures.listed);
      sends = if_some S (λ pieces. (end.outward.pending ≡ length (unflushed pieces fl lo)) × (fl ≤ length pieces) × (end.outward.shut ≡ false → lo ≡ 0)) (λ pieces. end.outward.pending ≡ length (unflushed pieces fl lo)) (λ pieces x. x.0) pend;
      grows = c.in-Ok.ensures.grown;
      offers = offers_of P (option_map (inbox_behind half.first half.ended) H) c.args.self.now.plain off c.args.take lower c.standing-standing.result c.get-left.result.left (count_at old conn lower).left conn
          c.args.self.now.plain_seen (ap (λ (k : PieceCount). k.left) (c.get-left.ensures ∙ c.in-Ok.ensures.counts conn lower)) c.standing-standing.ensures.next offers;
      bare = c.in-Ok-offer_next.ensures.bare;
      counts = counts_of P old mid put new conn dialled lower c.in-Ok.grown off known c.args.self.now.dialled c.in-Ok.ensures.listed c.in-Ok.ensures.counts c.set.ensures.listed c.set.ensures.counts c.book.ensures.counts;
      observable = if_some P (λ p. AllObservable g.R.Inward.LinkIn g.R.Outward.LinkOut) (λ p. IsSome S × IsSome H) (λ p x. (x.1 out, x.0 inn)) c.args.self.now.observable;
    } in
    let shut_in : test_of g.R.Inward.LinkIn.shut end.inward.inner ≡ g.R.Inward.LinkIn.shut inn = sym c.in-Ok-offer_next.ensures.shut ∙ ap (test_of g.R.Inward.LinkIn.shut) is_in in
    let held_in : held_behind g.R.Inward.LinkIn.held end.inward.inner end.inward.first end.inward.ended ≡ option_map (inbox_behind half.first half.ended) H = sym c.in-Ok-offer_next.ensures.held ∙ heldC in
    let O = g.R.Outward.LinkOut in
    let now = g.R.Inward.LinkIn.held c.exchange-done.new.end.inward in
    let T : Option Plain → Bool → Type 0 = λ q b. IfSome q (λ p. IfSome S (λ sent. IfSome H (λ inbox. b ≡ true → now ≡ Some (filled inbox ((with_flushed p conn lower (unflushed sent fl lo) shut).channels conn lower))))) in
    let OfPlain : Option Plain → Type 0 = λ q. T q c.passes.result in
    let OfPasses : Bool → Type 0 = λ b. T P b in
    let U : Bool → Type 0 = λ b. b ≡ false → now ≡ H in
    let M0 : Bool → Type 0 = λ e. IfSome (option_map (seen_plain old) P) (λ p. IfSome S (λ sent. IfSome (option_map (inbox_behind half.first half.ended) H) (λ inbox. c.args.take ≡ true → option_map (inbox_behind half.first e) now ≡ Some (filled inbox ((with_flushed p conn lower (unflushed sent fl lo) shut).channels conn lower))))) in
    let M1 : Option Inbox → Type 0 = λ hc. IfSome (option_map (seen_plain old) P) (λ p. IfSome S (λ sent. IfSome hc (λ inbox. c.args.take ≡ true → option_map (inbox_behind half.first c.ends-cut_in.result) now ≡ Some (filled inbox ((with_flushed p conn lower (unflushed sent fl lo) shut).channels conn lower))))) in
    let M2 : Bool → Type 0 = λ b. IfSome (option_map (seen_plain old) P) (λ p. IfSome S (λ sent. IfSome (held_behind g.R.Inward.LinkIn.held end.inward.inner end.inward.first end.inward.ended) (λ inbox. c.args.take ≡ true → option_map (inbox_behind half.first c.ends-cut_in.result) now ≡ Some (filled inbox ((with_flushed p conn lower (unflushed sent fl lo) (b || O.shut out)).channels conn lower))))) in
    let M3 : Option _ → Type 0 = λ o. IfSome (option_map (seen_plain old) P) (λ p. IfSome (option_and_then O.sent o) (λ sent. IfSome (held_behind g.R.Inward.LinkIn.held end.inward.inner end.inward.first end.inward.ended) (λ inbox. c.args.take ≡ true → option_map (inbox_behind half.first c.ends-cut_in.result) now ≡ Some (filled inbox ((with_flushed p conn lower (unflushed sent (number_of O.flushed o) (number_of O.lost o)) (test_of g.R.Inward.LinkIn.shut end.inward.inner || test_of O.shut o)).channels conn lower))))) in
    subst M3 (sym is_out) (subst M2 (sym shut_in) (subst M1 (sym held_in) (subst M0 (sym c.ends-cut_in.ensures)
    (taken-after P' old new half.first half.ended fl lo end.outward.pending conn shut lower c.args.take off c.in-Ok.grown P S H now h (subst OfPasses c.passes.ensures (subst OfPlain c.standing-standing.ensures.plain c.in_default-done.ensures.taken)) (subst U c.passes.ensures c.in_default-done.ensures.untaken)))))
