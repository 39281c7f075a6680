-- Later sessions begin with the bytes that were answered before, by the order of sessions.
use Rattle.std.proofs.Common.{◌≡◌, ℕ, zero, suc, ◌<◌, ◌≤◌, ◌⊎◌, inl, inr, true, false, length, Option, Some, None, refl, sym, ◌∙◌, ap, subst, arith}
use Rattle.std.proofs.lemmas.Bool.{cases_lt, false≢true}
use Rattle.std.proofs.lemmas.Option.{none-some, same_Some}
use Rattle.hd_base.specs.declared.numbers.Stamp.{Stamp}
use Rattle.name_core.specs.declared.records.BlockRecord.{BlockRecord}
use Rattle.name_core.specs.Offices.{record_of}
use Rattle.op_headers.specs.declared.ops.Op.TheVariants as op
use Rattle.member_core.specs.declared.requests.SetupKind.{SetupKind}
use Rattle.member_core.specs.declared.requests.SetupKind.TheVariants as kind
use Rattle.member_core.specs.Requests.{setup_with}
use Rattle.writer_core.specs.declared.records.WriterRecord.{WriterRecord}
use Rattle.world.specs.Parts.{request, Place, Answered}
use Rattle.world.specs.Worlds.{World}
use Rattle.world.specs.Nodes.{block_of}
use Rattle.world.specs.Safe.{Has}
use Rattle.world_laws.specs.Stamping.{Givens, HeldOf, Recorded, heard}
use Rattle.world_laws.specs.Carrying.{new_stamp}
use Rattle.world_laws.specs.Joining.{joined_as}
use Rattle.world_acks.specs.WorldRecoveries.Recovering.{ReplicaTold, Informs, Updates, WasSent}
use Rattle.world_acks.specs.Acking.{EarlierLeave, JoinSeat, least_of, promised}
use Rattle.world_finals.specs.Finishing.{Ids, Completes, ClosedLength, by_recovery, by_writer, SessionBegins, first_session, begins_behind, least_asked, Finals}
use Rattle.world_writers.specs.Leaving.{LaterSessionsKeep}
use Rattle.world_acks.specs.WorldRecoveries.Naming.{IsBefore, NamesPast, Naming}
use Rattle.world_acks.specs.Passing.{GotPast, by_setup, by_update, by_recovery, Passes, PassesSince}
use Rattle.world_writers.proofs.Seating.{Seating, later-session, open-promised}

-- what is known of the world
pub record Opening (f : Ids) (g : Givens) (w : World) : Type 0 where
  pub seating : Seating g w
  pub naming : Naming g w
  pub finals : Finals f g w

-- a session is named by a stamp that was given in it, no later than any other
record IsNamed (g : Givens) (b t e : ℕ) : Type 0 where
  pub own : g b e ≡ Some e
  pub first : e ≤ t

is-named : (g : Givens) (w : World) (b t e : ℕ) → Recorded g w → g b t ≡ Some e → IsNamed g b t e
is-named g w b t e r q = go (record_of w.office (record { 0 = b })) (heard (w.writers b)) (r.blocks b)
  where
    go : (o : Option BlockRecord) (x : WriterRecord) → HeldOf (g b) (w.latest b) o x → IsNamed g b t e
    go None x h = absurd (none-some e (sym (h.1 t) ∙ q))
    go (Some k) x h = record { own = h.office.session t e q; first = h.office.before t e q }

-- the stamp of a setup that a node accepted is no recovery's id
joined-plain : (f : Ids) (g : Givens) (w : World) (s n l : ℕ) → Seating g w → Finals f g w → Has w.joined (joined_as s n l) → f s ≡ false
joined-plain f g w s n l k h j =
    let x = k.acked.joins s n l j in
    let d = h.downs x.conn 0 (request (op.Write x.fields)) x.pipe.asked.first in
    ap f (sym x.is) ∙ d.no_id

-- a node that accepted the setup of a stamp got past all later ones up to the one that it told
told-passes : (g : Givens) (w : World) (b s e c : ℕ) (id : Stamp) (i : ReplicaTold) → Seating g w → Informs w.past c b id i → Has w.joined (joined_as s (w.dialled c).to.node (w.dialled c).to.life) → g b s ≡ Some e → Passes w.past b s i.1.0 (w.dialled c).to
told-passes g w b s e c id i k t j given = subst (λ (l : ℕ). Passes w.past b s i.1.0 (record { node = at.node; life = l })) alive (here.told c id i t (ap (λ (l : ℕ). record { node = at.node; life = l }) (sym alive)))
  where
    at : Place
    at = (w.dialled c).to

    x : JoinSeat g w s at.node at.life
    x = k.acked.joins s at.node at.life j

    block : block_of x.fields ≡ b
    block = k.recorded.one (block_of x.fields) b s x.session e (subst (λ (t : ℕ). g (block_of x.fields) t ≡ Some x.session) x.is x.pipe.given) given

    alive : x.seat.life ≡ at.life
    alive = k.joins.single s at.node x.seat.life at.life (k.placed.dialled c (k.recovering.told c b id i t).known).to x.seat.joins j

    here : PassesSince w b s at.node x.seat.life
    here = subst (λ (v : ℕ). PassesSince w v s at.node x.seat.life) block x.seat.passes

-- the bytes that an answer told of at a node that told a recovery of its replica
record Case (f : Ids) (g : Givens) (w : World) (a : Answered) (e s c : ℕ) (id : Stamp) : Type 0 where
  pub known : Opening f g w
  pub has : Has w.answered a
  pub answer : g a.block a.stamp ≡ Some e
  pub given : g a.block s ≡ Some e
  pub plain : f s ≡ false
  pub told : ReplicaTold
  pub informs : Informs w.past c a.block id told
  pub joins : Has w.joined (joined_as s (w.dialled c).to.node (w.dialled c).to.life)
  pub earlier : EarlierLeave w.past a.block s id.0 (w.dialled c).to.node (w.dialled c).to.life a.length

-- a later session of the block, with the last stamp before it
record Later (g : Givens) (a : Answered) (e i r : ℕ) (id : Stamp) : Type 0 where
  pub own : g a.block i ≡ Some i
  pub past : e < i
  pub below : i < id.0
  pub before : IsBefore (g a.block) r i

-- the setup of the stamp was before that
setup-before : (f : Ids) (g : Givens) (w : World) (a : Answered) (e s c i r : ℕ) (id : Stamp) → Case f g w a e s c id → Later g a e i r id → s ≤ r
setup-before f g w a e s c i r id k l = l.before.last s e k.given (k.known.finals.earlier a.block s e i k.given l.own k.plain l.past)

-- the length with which a recovery closed the block before a session
recovery-covers : (f : Ids) (g : Givens) (w : World) (a : Answered) (e s c i r m d b : ℕ) (id : Stamp) → Case f g w a e s c id → Later g a e i r id → f r ≡ true → Updates w.past d b (record { 0 = r }) m → a.length ≤ m
recovery-covers f g w a e s c i r m d b id k l is u = go ((told-passes g w a.block s e c id k.told k.known.seating k.informs k.joins k.given).each r above there)
  where
    since : s ≤ r
    since = setup-before f g w a e s c i r id k l

    apart : s ≡ r → ⊥
    apart q = false≢true (sym k.plain ∙ ap f q ∙ is)

    above : s < r
    above = either (cases_lt s r)
      where
        either : (s < r) ⊎ (r ≤ s) → s < r
        either (inl z) = z
        either (inr z) = absurd (apart (omega (arith, since, z)))

    -- what names a stamp of this block, with a later one of its own, names none before
    names : (v named own : ℕ) → v ≡ a.block → NamesPast (g v) named own → r < own → r ≤ named
    names v named own at h lt = h.each r i (subst (λ (z : ℕ). g z i ≡ Some i) (sym at) l.own) (subst (λ (z : ℕ). IsBefore (g z) r i) (sym at) l.before) lt

    named : r ≤ k.informs.asked.block.stamp.0
    named = names k.informs.asked.block.block.0 k.informs.asked.block.stamp.0 k.informs.asked.recovery.0 k.informs.block (k.known.naming.asked c 0 k.informs.asked k.informs.first).past
        (omega (arith, l.before.less, l.below, ap (λ (v : Stamp). v.0) k.informs.recovery))

    there : r ≤ k.told.1.0
    there = omega (arith, named, (k.known.seating.recovering.told c a.block id k.told k.informs).named_below)

    go : GotPast w.past a.block r (w.dialled c).to → a.length ≤ m
    go (by_update x has n y z v) =
        let left : a.length ≤ x.length = k.earlier.each x has n y z (omega (arith, above, v)) (omega (arith, l.before.less, l.below, v)) in
        let t : WasSent w.past x = k.known.seating.recovering.updated x has in
        let same : x.length ≡ m = k.known.seating.recovering.one_length t.conn d x.block b (record { 0 = r }) x.length m (subst (λ (n : ℕ). Updates w.past t.conn x.block (record { 0 = n }) x.length) v t.sent) u in
        omega (arith, left, same)
    go (by_setup v q asked y lo hi) = absurd (setup (cases_lt r (new_stamp q).0))
      where
        setup : (r < (new_stamp q).0) ⊎ ((new_stamp q).0 ≤ r) → ⊥
        setup (inl z) = omega (arith, lo, names (block_of q) q.block.stamp.0 (new_stamp q).0 y (k.known.finals.downs v 0 (request (op.Write q)) asked).past z)
        setup (inr z) =
            let same : r ≡ (new_stamp q).0 = omega (arith, hi, z) in
            false≢true (sym (ap f same ∙ (k.known.finals.downs v 0 (request (op.Write q)) asked).no_id) ∙ is)
    go (by_recovery v q sent y lo hi) = absurd (omega (arith, lo, names q.block.block.0 q.block.stamp.0 q.recovery.0 y (k.known.naming.asked v 0 q sent).past hi))

-- all that was written in the session that was closed before a later one
closed-covers : (f : Ids) (g : Givens) (w : World) (a : Answered) (e s c i r m : ℕ) (id : Stamp) → Case f g w a e s c id → Later g a e i r id → Completes g w a.block r m
    → ((d : ℕ) → e < d → d < i → g a.block d ≡ Some d → SessionBegins f g w a.block d (length (w.written d)) → a.length ≤ length (w.written d)) → a.length ≤ m
closed-covers f g w a e s c i r m id k l x deeper = omega (arith, x.ends.length, whole (cases_lt e x.ends.session))
  where
    there : IsNamed g a.block r x.ends.session
    there = is-named g w a.block r x.ends.session k.known.seating.recorded x.ends.given

    -- the session that was closed isn't earlier
    least : e ≤ x.ends.session
    least = x.last s e k.given (setup-before f g w a e s c i r id k l)

    whole : (e < x.ends.session) ⊎ (x.ends.session ≤ e) → a.length ≤ length (w.written x.ends.session)
    whole (inl z) = deeper x.ends.session z (omega (arith, there.first, l.before.less)) there.own (k.known.finals.sessions a.block x.ends.session there.own)
    whole (inr z) =
        let same : x.ends.session ≡ e = omega (arith, z, least) in
        let sits = k.known.seating.sits a k.has in
        omega (arith, sits.within, ap (λ (v : ℕ). length (w.written v)) (same_Some sits.session x.ends.session (sym sits.given ∙ k.answer ∙ ap (λ (v : ℕ). Some v) (sym same))))

-- the length that the block was closed with before a later session
length-covers : (f : Ids) (g : Givens) (w : World) (a : Answered) (e s c i r m : ℕ) (id : Stamp) → Case f g w a e s c id → Later g a e i r id → ClosedLength f g w a.block r m
    → ((d : ℕ) → e < d → d < i → g a.block d ≡ Some d → SessionBegins f g w a.block d (length (w.written d)) → a.length ≤ length (w.written d)) → a.length ≤ m
length-covers f g w a e s c i r m id k l (by_recovery is d b u) deeper = recovery-covers f g w a e s c i r m d b id k l is u
length-covers f g w a e s c i r m id k l (by_writer x) deeper = closed-covers f g w a e s c i r m id k l x deeper

-- a later session begins with the answered bytes
begins-cover : (f : Ids) (g : Givens) (w : World) (a : Answered) (e s c fuel i n : ℕ) (id : Stamp) → Case f g w a e s c id → i < fuel → e < i → i < id.0 → g a.block i ≡ Some i → SessionBegins f g w a.block i n → a.length ≤ n
begins-cover f g w a e s c zero i n id k less later lt own h = absurd (omega (arith, less))
begins-cover f g w a e s c (suc fuel) i n id k less later lt own (first_session h) = absurd (omega (arith, later, h e e (is-named g w a.block s e k.known.seating.recorded k.given).own))
begins-cover f g w a e s c (suc fuel) i n id k less later lt own (begins_behind r m before l le) =
    omega (
      arith,
      le,
      length-covers f g w a e s c i r m id k (record { own = own; past = later; below = lt; before = before }) l
          (λ d past below there h. begins-cover f g w a e s c fuel d (length (w.written d)) id k (omega (arith, below, less)) past (omega (arith, below, lt)) there h),
    )

same-least : (o : Option SetupKind) (n : ℕ) → least_asked o n ≡ least_of o n
same-least None n = refl
same-least (Some kind.Create) n = refl
same-least (Some kind.Append) n = refl
same-least (Some kind.AppendRecovery) n = refl
same-least (Some kind.StreamRecovery) n = refl
same-least (Some kind.CloseRecovery) n = refl

-- what is told of an RBW replica of a later session
pub later-keeps : (f : Ids) (g : Givens) (w : World) (a : Answered) → Opening f g w → Has w.answered a → LaterSessionsKeep g w a
later-keeps f g w a k h stamp c d id z t y e o =
    let s = k.seating in
    let x = open-promised g w d a.block id z s y e in
    let q = x.joins in
    let fits = s.recovering.told d a.block id z y in
    let since : a.stamp ≤ z.1.0 = s.stale d a.block id z y a h refl (omega (arith, t.above, t.joins.since)) in
    let rises : t.joins.session ≤ o.session = later-session g w a z.1.0 t.joins.session o.session q.conn q.fields s h q.pipe.asked x.block q.is t.joins.answer o.given since in
    let apart : t.joins.session ≡ o.session → ⊥ = λ v. o.apart (t.joins.answer ∙ ap (λ (i : ℕ). Some i) v) in
    let v = is-named g w a.block z.1.0 o.session s.recorded o.given in
    let below : o.session < id.0 = omega (arith, v.first, fits.below) in
    let there : g (block_of q.fields) (new_stamp q.fields).0 ≡ Some o.session = ap (λ (i : ℕ). g (block_of q.fields) i) q.is ∙ ap (λ (b : ℕ). g b z.1.0) x.block ∙ o.given in
    let ends = k.finals.downs q.conn 0 (request (op.Write q.fields)) q.pipe.asked.first in
    let begins : SessionBegins f g w a.block o.session (promised q.fields) =
    subst (λ (b : ℕ). SessionBegins f g w b o.session (promised q.fields)) x.block
    (subst (λ (n : ℕ). SessionBegins f g w (block_of q.fields) o.session n) (same-least (setup_with q.fields.stage) q.fields.min)
    (subst (λ (e : ℕ). SessionBegins f g w (block_of q.fields) e (least_asked (setup_with q.fields.stage) q.fields.min)) (same_Some ends.session o.session (sym ends.given ∙ there)) ends.opens)) in
    let case : Case f g w a t.joins.session stamp c id = record {
      known = k;
      has = h;
      answer = t.joins.answer;
      given = t.joins.given;
      plain = joined-plain f g w stamp (w.dialled c).to.node (w.dialled c).to.life s k.finals t.joins.joins;
      told = t.told;
      informs = t.informs;
      joins = t.joins.joins;
      earlier = t.earlier;
    } in
    omega (arith, x.enough, begins-cover f g w a t.joins.session stamp c (suc o.session) o.session (promised q.fields) id case (omega arith) (apart-less t.joins.session o.session rises apart) below v.own begins)
  where
    apart-less : (m n : ℕ) → m ≤ n → (m ≡ n → ⊥) → m < n
    apart-less m n le differ = go (cases_lt m n)
      where
        go : (m < n) ⊎ (n ≤ m) → m < n
        go (inl z) = z
        go (inr z) = absurd (differ (omega (arith, le, z)))
