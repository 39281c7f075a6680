-- What reading says of the bytes holds of what the feed keeps.
use Rattle.std.proofs.Common.{◌≡◌, ℕ, List, sym, ap, ◌∙◌, subst}
use Rattle.hd_base.specs.Bytes.{IsBytes}
use Rattle.frame_feed.specs.declared.framing.Framing.{Framing}
use Rattle.frame_feed.specs.Buffers.{held}
use Rattle.frame_feed.specs.Framings.{IsCut}
use Rattle.frame_feed.specs.Feeds.{FeedState}
use Rattle.frame_feed.proofs.FeedLemmas.{short_cut, refused_of_stream}
use Rattle.frame_feed.proofs.feed.Feed.take.Goals as goal

pub size-size-requires : goal.size-size-requires
size-size-requires g c =
    let same : c.args.self.now.rest ≡ held c.join.new.self = ap FeedState.rest (sym c.self.view_is) ∙ sym c.join.ensures.same in
    let fits : IsBytes (held c.join.new.self) = subst IsBytes same c.requires.bytes in
    let cut : IsCut g.M.Kind.kind.framing (held c.join.new.self) = short_cut g.M.Kind.kind (held c.join.new.self) c.in-Err-Short.field-0 g.met.M.Kind.sound fits c.in-Err-Short.field-0-is c.in-Err-Short.ensures.read.1 in
    subst (λ (l : List ℕ). IsCut c.framing.result l) (sym c.in-Err-Short.ensures.read.0 ∙ sym c.as_slice.ensures)
    (subst (λ (f : Framing). IsCut f (held c.join.new.self)) (sym c.framing.ensures) cut)

pub invariant_of-self-in-Err-Refused : goal.invariant_of-self-in-Err-Refused
invariant_of-self-in-Err-Refused g c =
    let same : c.args.self.now.rest ≡ held c.join.new.self = ap FeedState.rest (sym c.self.view_is) ∙ sym c.join.ensures.same in
    let fits : IsBytes (held c.join.new.self) = subst IsBytes same c.requires.bytes in
    (tt, refused_of_stream g.M.Kind.kind (held c.join.new.self) c.in-Err-Refused.field-0 c.in-Err-Refused.fault g.met.M.Kind.sound fits c.in-Err-Refused.field-0-is c.in-Err-Refused.ensures.read.1)
