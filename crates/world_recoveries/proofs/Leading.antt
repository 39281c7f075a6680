-- What primaries do and take.
use Rattle.std.proofs.Common.{◌≡◌, ℕ, zero, suc, ◌<◌, ◌+◌, ◌-◌, ◌⊎◌, inl, inr, Bool, true, false, List, [], ◌∷◌, length, map, slice_get, Option, Some, None, Ok, Err, refl, sym, ◌∙◌, ap, subst, arith}
use Rattle.std.specs.Prelude.{◌&&◌, nat_le, zip, slice_set, option_map, unwrap_or}
use Rattle.std.proofs.lemmas.Bool.Decides.{nat_tests}
use Rattle.std.proofs.lemmas.Option.{none-some, same_Some}
use Rattle.hd_base.specs.declared.numbers.BlockId.{BlockId}
use Rattle.hd_base.specs.declared.numbers.NodeId.{NodeId}
use Rattle.hd_base.specs.declared.numbers.Stamp.{Stamp}
use Rattle.hd_base.specs.declared.states.ReplicaState.{ReplicaState}
use Rattle.name_core.specs.declared.calls.Begun.{Begun}
use Rattle.name_core.specs.declared.calls.OfficeAnswer.{OfficeAnswer}
use Rattle.name_core.specs.declared.calls.OfficeAnswer.TheVariants as office
use Rattle.name_core.specs.declared.calls.OfficeCall.{OfficeCall}
use Rattle.name_core.specs.declared.calls.OfficeCall.TheVariants as call
use Rattle.name_core.specs.declared.choice.Chosen.{Chosen}
use Rattle.name_core.specs.declared.infos.Info.{Info}
use Rattle.name_core.specs.Offices.{OfficeState, answer_to}
use Rattle.name_core.specs.Steps.{Step, reply}
use Rattle.name_core.proofs.CaseLemmas.{each_case}
use Rattle.op_headers.specs.declared.answers.RecoveryAnswer.{RecoveryAnswer}
use Rattle.op_headers.specs.declared.ops.Op.TheVariants as op
use Rattle.op_headers.specs.declared.ops.RecoveryOp.{RecoveryOp}
use Rattle.op_headers.specs.declared.ops.RecoveryKind.TheVariants as kind
use Rattle.world_laws.specs.RecoveryCore.OwnStep.TheVariants as own
use Rattle.world_laws.specs.RecoveryCore.Phase.{Phase}
use Rattle.world_laws.specs.RecoveryCore.Recovered.{Recovered}
use Rattle.world_laws.specs.RecoveryCore.Heard.{Heard}
use Rattle.world_laws.specs.RecoveryCore.Heard.TheVariants as heard
use Rattle.world_laws.specs.RecoveryCore.Standing.{Standing}
use Rattle.world_laws.specs.RecoveryCore.Standing.TheVariants as standing
use Rattle.world_laws.specs.RecoveryCore.Primaries.{PrimaryState, told, is_success, after_heard, heard_as, heard_at, asked, begun_with, infos, is_among, when_chosen, after_choice, all_after_choice, own_step, request_of, sync_call}
use Rattle.world_laws.specs.ReplicaModel.Rows.{FullReplica}
use Rattle.world_laws.specs.World.Parts.{Message, request, packet, ack, response, read_status, recovery_answer, Place, Dialled, by_primary, Updated, Told, Leading, Primary, no_primary, was_told, leads, has_led}
use Rattle.world_laws.specs.World.Worlds.{Past, World, Dial, Change, put, dial_at, dialled_with, past_after}
use Rattle.world_laws.specs.World.Connections.{Next, message, the_end, place_of, is_conn}
use Rattle.world_laws.specs.World.Primaries.{dials_answered, numbered, primary_dials, leading, begins_with, updates_on, updates_change, heard_of, asks_primary}
use Rattle.world_laws.specs.World.Safe.{Has}
use Rattle.world_laws.proofs.FactTables.{if-each, and-left, and-right}
use Rattle.world_laws.specs.Stamping.{Givens}
use Rattle.world_laws.proofs.StampGivens.{put-here}
use Rattle.world_laws.specs.Carrying.{RecoverySays, PrimarySays}
use Rattle.world_laws.proofs.ByteFrame.{past-grows}
use Rattle.world_laws.proofs.ByteLeaves.{Facts}
use Rattle.world_laws.proofs.ByteLeading.{conn-is}
use Rattle.world_laws.proofs.ByteAsking.{first-dial}
use Rattle.world_recoveries.specs.Recovering.{ReplicaTold, Informs, Updates, ToldOpen, UpdateFits, NoUpdates, ToldId, HasId, ToldAt, LeadingFits, LeadFits, PhaseSends, ToldSends, SendsFits, IsPlacedIn, Recovering}
use Rattle.world_recoveries.proofs.Histories.{agrees-later, update-later, leading-later, lead-later, sends-later, NewDown, was_sent, is_sent, is_dialled, new-down}
use Rattle.world_recoveries.proofs.Holding.{Moves, moves-same}
use Rattle.world_recoveries.proofs.Choosing.{OpenInfo, ChosenFrom, choice-from, ToldBy, infos-told, after_chosen, Choosing, own-updates}
use Rattle.world_recoveries.proofs.Frame.{NewInfo, IsUpdated, NewAsk, NewDial, News}

-- PRIMARIES AS THEY STAND

leading-of : (g : Givens) (w : World) (i : ℕ) (l : Leading) → Recovering g w → w.primaries i ≡ leads l → LeadingFits w.past l
leading-of g w i l h e = subst (λ (x : Primary). LeadFits w.past x) e (h.primaries i)

sends-of : (g : Givens) (w : World) (i : ℕ) (l : Leading) → Recovering g w → w.primaries i ≡ leads l → PhaseSends w.past l.state.begun.id l.state.phase
sends-of g w i l h e = subst (λ (x : Primary). SendsFits w.past x) e (h.sends i)

placed-of : (g : Givens) (w : World) (i : ℕ) (l : Leading) → Recovering g w → w.primaries i ≡ leads l → (c place : ℕ) → c < w.next_conn → (w.dialled c).upper ≡ by_primary i place → slice_get l.conns place ≡ Some (Some c)
placed-of g w i l h e c place lt u = subst (λ (x : Primary). IsPlacedIn c place x) e (h.placed c i place lt u)

-- a change that sends nothing down
back-updates : (w : World) (k : Change) (c b : ℕ) (id : Stamp) (n : ℕ) → ((c : ℕ) → k.downs c ≡ []) → k.dials ≡ [] → Updates (past_after w k) c b id n → Updates w.past c b id n
back-updates w k c b id n d s x = go (new-down w k c x.place (request (op.Recovery x.asked)) x.there)
  where
    go : NewDown w k c (request (op.Recovery x.asked)) → Updates w.past c b id n
    go (was_sent j e) = record { asked = x.asked; place = j; there = e; is_update = x.is_update; block = x.block; recovery = x.recovery; length = x.length }
    go (is_sent j e) = absurd (none-some _ (sym (ap (λ (ms : List Message). slice_get ms j) (d c)) ∙ e))
    go (is_dialled j y e r t) = absurd (none-some y (sym (ap (λ (ds : List Dial). slice_get ds j) s) ∙ e))

-- a primary that goes on with its connections, its members and its recovery
pub same-sends : (g : Givens) (w : World) (k : Change) (x : Primary) → ((c : ℕ) → k.downs c ≡ []) → k.dials ≡ [] → SendsFits w.past x → SendsFits (past_after w k) x
same-sends g w k x d s h = sends-later w.past (past_after w k) x (λ id a. record { back = λ c b n u. back-updates w k c b id n d s u }) h

-- a change that sends nothing down and leaves the primaries
pub still-news : (g : Givens) (w : World) (k : Change) → Recovering g w → k.primary ≡ w.primaries k.primary_at → ((c : ℕ) → k.downs c ≡ []) → k.dials ≡ [] → Moves (w.replicas k.node k.block).known.info k.replica.known.info
    → ((c j : ℕ) (a : RecoveryAnswer) (i : ReplicaTold) → slice_get (k.ups c) j ≡ Some (recovery_answer a) → a.info ≡ Some i → NewInfo g w k c i) → ((u : Updated) → Has k.updated u → IsUpdated w k (past_after w k) u) → News g w k
still-news g w k h same d s m infos sent =
    let p = past_after w k in
    record {
      moves = m;
      infos = infos;
      length = 0;
      asks = λ c j q e. absurd (none-some _ (sym (ap (λ (ms : List Message). slice_get ms j) (d c)) ∙ e));
      dials = λ j x e. absurd (none-some x (sym (ap (λ (ds : List Dial). slice_get ds j) s) ∙ e));
      primary = subst (λ (x : Primary). LeadFits p x) (sym same) (lead-later w.past p (w.primaries k.primary_at) (past-grows w k) (h.primaries k.primary_at));
      sends = subst (λ (x : Primary). SendsFits p x) (sym same) (same-sends g w k (w.primaries k.primary_at) d s (h.sends k.primary_at));
      ids = λ id x. inl (subst (λ (y : Primary). HasId y id) same x);
      placed = λ c place lt u. subst (λ (x : Primary). IsPlacedIn c place x) (sym same) (h.placed c k.primary_at place lt u);
      updated = sent;
    }

-- THE CHOICE

-- what is sent on a connection, and to whom
pub record SentTo (m : Message) (chosen ns : List NodeId) (cs : List (Option ℕ)) (c : ℕ) (x : Message) : Type 0 where
  pub place : ℕ
  pub node : NodeId
  pub member : slice_get ns place ≡ Some node
  pub conn : slice_get cs place ≡ Some (Some c)
  pub among : is_among chosen node ≡ true
  pub is : m ≡ x

sent-later : (m : Message) (chosen ns : List NodeId) (cs : List (Option ℕ)) (c : ℕ) (x : Message) (n : NodeId) (o : Option ℕ) → SentTo m chosen ns cs c x → SentTo m chosen (n ∷ ns) (o ∷ cs) c x
sent-later m chosen ns cs c x n o s = record { place = suc s.place; node = s.node; member = s.member; conn = s.conn; among = s.among; is = s.is }

pub updates-at : (m : Message) (chosen ns : List NodeId) (cs : List (Option ℕ)) (c j : ℕ) (x : Message) → slice_get (updates_on m chosen (zip ns cs) c) j ≡ Some x → SentTo m chosen ns cs c x
updates-at m chosen [] cs c j x e = absurd (none-some x e)
updates-at m chosen (n ∷ ns) [] c j x e = absurd (none-some x e)
updates-at m chosen (n ∷ ns) (o ∷ cs) c j x e =
    if-each (λ (ms : List Message). slice_get ms j ≡ Some x → SentTo m chosen (n ∷ ns) (o ∷ cs) c x) (is_among chosen n && is_conn o c) (m ∷ []) (updates_on m chosen (zip ns cs) c)
    (λ t q. first t j q) (λ _ q. sent-later m chosen ns cs c x n o (updates-at m chosen ns cs c j x q)) e
  where
    first : (is_among chosen n && is_conn o c) ≡ true → (i : ℕ) → slice_get (m ∷ []) i ≡ Some x → SentTo m chosen (n ∷ ns) (o ∷ cs) c x
    first t zero e = record {
      place = zero;
      node = n;
      member = refl;
      conn = ap (λ (z : Option ℕ). Some z) (conn-is o c (and-right (is_among chosen n) (is_conn o c) t));
      among = and-left (is_among chosen n) (is_conn o c) t;
      is = same_Some m x e;
    }
    first t (suc i) e = absurd (none-some x e)

-- what was told, on which connection
told-on : (h : Past) (l : Leading) (i : Info) → LeadingFits h l → Has (infos l.state.members l.state.standings) i → (t : ToldBy l.state.members l.state.standings i) × ToldAt h l t.place (i.state, i.stamp, i.length)
told-on h l i f e = let t = infos-told l.state.members l.state.standings e.place i e.there in (t, f.told t.place i.state i.stamp i.length t.ended t.told)

-- an UPDATE to a chosen member
chosen-fits : (h : Past) (l : Leading) (n : ℕ) (place c : ℕ) (node : NodeId) → LeadingFits h l → slice_get l.state.members place ≡ Some node → slice_get l.conns place ≡ Some (Some c)
    → ChosenFrom (infos l.state.members l.state.standings) n node → UpdateFits h c l.state.block.0 l.state.begun.id n
chosen-fits h l n place c node f member conn x =
    let y = told-on h l x.info f x.has in
    let t = y.0 in
    let a = y.1 in
    record {
      conn = a.conn;
      told = (x.info.state, x.info.stamp, x.info.length);
      informs = a.informs;
      here = f.known place c conn;
      there = f.known t.place a.conn a.there;
      to = f.places t.place a.conn x.info.node a.there t.node ∙ ap (λ (m : ℕ). record { node = m; life = f.life_of m }) x.node ∙ sym (f.places place c node conn member);
      least = x.least;
      final = x.final;
      opens = λ e. open_of (x.opens e);
    }
  where
    open_of : OpenInfo (infos l.state.members l.state.standings) n → ToldOpen h l.state.block.0 l.state.begun.id n
    open_of o =
        let y = told-on h l o.info f o.has in
        record { conn = y.1.conn; told = (o.info.state, o.info.stamp, o.info.length); informs = y.1.informs; is_open = o.is_open; length = o.length }

-- after the choice nothing stands as told
not-told : (s : Standing) (at : ReplicaState) (t : Stamp) (n : ℕ) (ended : Bool) → when_chosen s ≡ standing.Told at t n ended → ⊥
not-told (standing.Told a u m false) at t n ended e = cc
not-told (standing.Told a u m true) at t n ended e = cc
not-told standing.Unreached at t n ended e = cc
not-told standing.Asked at t n ended e = cc
not-told standing.Updating at t n ended e = cc
not-told standing.Updated at t n ended e = cc
not-told standing.Out at t n ended e = cc

out-isnt-told : (at : ReplicaState) (t : Stamp) (n : ℕ) (ended : Bool) → standing.Out ≡ standing.Told at t n ended → ⊥
out-isnt-told at t n ended e = cc

none-told : (ns ms : List NodeId) (ss : List Standing) (p : ℕ) (at : ReplicaState) (t : Stamp) (n : ℕ) (ended : Bool) → slice_get (all_after_choice ns ms ss) p ≡ Some (standing.Told at t n ended) → ⊥
none-told ns [] ss p at t n ended e = none-some _ e
none-told ns (m ∷ ms) [] p at t n ended e = none-some _ e
none-told ns (m ∷ ms) (s ∷ ss) zero at t n ended e =
    if-each (λ (x : Standing). x ≡ standing.Told at t n ended → ⊥) (is_among ns m) (when_chosen s) standing.Out (λ _ q. not-told s at t n ended q) (λ _ q. out-isnt-told at t n ended q)
    (same_Some (after_choice ns m s) (standing.Told at t n ended) e)
none-told ns (m ∷ ms) (s ∷ ss) (suc p) at t n ended e = none-told ns ms ss p at t n ended e

abbrev pub chosen_op : Leading → Chosen → RecoveryOp
chosen_op l c = request_of l.state kind.Update c.length

same-request : (a b : RecoveryOp) → request (op.Recovery a) ≡ request (op.Recovery b) → a ≡ b
same-request a b e = cc

pub updates-news : (g : Givens) (w : World) (i : ℕ) (l : Leading) (c : Chosen) → Recovering g w → w.primaries i ≡ leads l → (own_step l.state).does ≡ own.Updates c → News g w (updates_change w i l (own_step l.state).primary c)
updates-news g w i l c h e d = record {
  moves = moves-same (w.replicas 0 0).known.info;
  infos = λ v j a t q r. absurd (none-some _ q);
  length = c.length;
  asks = asks;
  dials = λ j y q. absurd (none-some y q);
  primary = subst (λ (s : PrimaryState). LeadingFits (past_after w k) (record l { state = s })) (sym x.primary) after;
  sends = subst (λ (s : PrimaryState). PhaseSends (past_after w k) s.begun.id s.phase) (sym x.primary) sends;
  ids = λ id a. inl (subst (λ (z : Primary). HasId z id) (sym e) (subst (λ (s : PrimaryState). s.begun.id ≡ id) x.primary a));
  placed = λ v place lt u. placed-of g w i l h e v place lt u;
  updated = λ u z. absurd (none-some u z.there);
}
  where
    k : Change
    k = updates_change w i l (own_step l.state).primary c

    x : Choosing l.state c (own_step l.state)
    x = own-updates l.state c d

    f : LeadingFits w.past l
    f = leading-of g w i l h e

    none : NoUpdates w.past l.state.begun.id
    none = subst (λ (q : Phase). PhaseSends w.past l.state.begun.id q) x.informing (sends-of g w i l h e)

    sent : (v j : ℕ) (q : RecoveryOp) → slice_get (k.downs v) j ≡ Some (request (op.Recovery q)) → SentTo (request (op.Recovery (chosen_op l c))) c.members l.state.members l.conns v (request (op.Recovery q))
    sent v j q r = updates-at (request (op.Recovery (chosen_op l c))) c.members l.state.members l.conns v j (request (op.Recovery q)) r

    ask : (v : ℕ) (s : SentTo (request (op.Recovery (chosen_op l c))) c.members l.state.members l.conns v (request (op.Recovery (chosen_op l c)))) → NewAsk w k c.length v (chosen_op l c)
    ask v s = record {
      agrees = agrees-later w.past (past_after w k) v (chosen_op l c) (past-grows w k) (record { asked = request_of l.state kind.Init 0; first = f.first s.place v s.conn; block = refl; stamp = refl; recovery = refl });
      update = λ _. record {
        fits = update-later w.past (past_after w k) v l.state.block.0 l.state.begun.id c.length (past-grows w k)
            (chosen-fits w.past l c.length s.place v s.node f s.member s.conn (choice-from l.state.begun.committed (infos l.state.members l.state.standings) c x.choice_is s.node s.among));
        is = refl;
        holder = subst (λ (z : Primary). HasId z l.state.begun.id) (sym e) refl;
        none = none;
      };
    }

    asks : (v j : ℕ) (q : RecoveryOp) → slice_get (k.downs v) j ≡ Some (request (op.Recovery q)) → NewAsk w k c.length v q
    asks v j q r =
        let s = sent v j q r in
        let same = same-request (chosen_op l c) q s.is in
        subst (λ (z : RecoveryOp). NewAsk w k c.length v z) same (ask v (record { place = s.place; node = s.node; member = s.member; conn = s.conn; among = s.among; is = refl }))

    after : LeadingFits (past_after w k) (record l { state = after_chosen l.state c })
    after = leading-later w.past (past_after w k) (record l { state = after_chosen l.state c }) (past-grows w k) (record {
      life_of = f.life_of;
      known = f.known;
      places = f.places;
      first = f.first;
      told = λ p at t n ended q. absurd (none-told c.members l.state.members l.state.standings p at t n ended q);
    })

    sends : (v b n : ℕ) → Updates (past_after w k) v b l.state.begun.id n → n ≡ c.length
    sends v b n u = go (new-down w k v u.place (request (op.Recovery u.asked)) u.there)
      where
        go : NewDown w k v (request (op.Recovery u.asked)) → n ≡ c.length
        go (was_sent j q) = absurd (none v b n (record { asked = u.asked; place = j; there = q; is_update = u.is_update; block = u.block; recovery = u.recovery; length = u.length }))
        go (is_sent j q) = sym u.length ∙ sym (ap (λ (z : RecoveryOp). z.new_length) (same-request (chosen_op l c) u.asked (sent v j u.asked q).is))
        go (is_dialled j y q r t) = absurd (none-some y q)

-- PRIMARIES THAT END

pub ended-news : (g : Givens) (w : World) (k : Change) (r : Recovered) → k.primary ≡ has_led r → k.replica ≡ w.replicas k.node k.block → ((c : ℕ) → k.ups c ≡ []) → ((c : ℕ) → k.downs c ≡ []) → k.dials ≡ [] → k.updated ≡ [] → News g w k
ended-news g w k r e same ups downs dials none = record {
  moves = subst (λ (x : FullReplica). Moves (w.replicas k.node k.block).known.info x.known.info) (sym same) (moves-same (w.replicas k.node k.block).known.info);
  infos = λ c j a i q s. absurd (none-some _ (sym (ap (λ (ms : List Message). slice_get ms j) (ups c)) ∙ q));
  length = 0;
  asks = λ c j q s. absurd (none-some _ (sym (ap (λ (ms : List Message). slice_get ms j) (downs c)) ∙ s));
  dials = λ j d s. absurd (none-some d (sym (ap (λ (ds : List Dial). slice_get ds j) dials) ∙ s));
  primary = subst (λ (x : Primary). LeadFits (past_after w k) x) (sym e) tt;
  sends = subst (λ (x : Primary). SendsFits (past_after w k) x) (sym e) tt;
  ids = λ id a. absurd (subst (λ (x : Primary). HasId x id) e a);
  placed = λ c place lt u. subst (λ (x : Primary). IsPlacedIn c place x) (sym e) tt;
  updated = λ u z. absurd (none-some u (sym (ap (λ (us : List Updated). slice_get us z.place) none) ∙ z.there));
}

-- ITS FIRST STEP

-- a dial that a primary makes, and which member it is to
pub record DialOf (w : World) (i : ℕ) (first : Message) (off next : ℕ) (ns : List NodeId) (bs : List Bool) (j : ℕ) (d : Dial) : Type 0 where
  pub place : ℕ
  pub node : NodeId
  pub member : slice_get ns place ≡ Some node
  pub conn : slice_get (numbered next bs) place ≡ Some (Some (next + j))
  pub upper : d.dialled.upper ≡ by_primary i (off + place)
  pub to : d.dialled.to ≡ place_of w node.0
  pub is_first : d.request ≡ first

pub dial-of : (w : World) (i : ℕ) (at : Place) (first : Message) (off next : ℕ) (ns : List NodeId) (bs : List Bool) (j : ℕ) (d : Dial) → slice_get (primary_dials w i at first off ns bs) j ≡ Some d → DialOf w i first off next ns bs j d
dial-of w i at first off next [] bs j d e = absurd (none-some d e)
dial-of w i at first off next (n ∷ ns) [] j d e = absurd (none-some d e)
dial-of w i at first off next (n ∷ ns) (true ∷ bs) zero d e = subst (λ (x : Dial). DialOf w i first off next (n ∷ ns) (true ∷ bs) zero x) (same_Some _ d e) (record {
  place = zero;
  node = n;
  member = refl;
  conn = ap (λ (m : ℕ). Some (Some m)) (omega arith);
  upper = ap (λ (m : ℕ). by_primary i m) (omega arith);
  to = refl;
  is_first = refl;
})
dial-of w i at first off next (n ∷ ns) (true ∷ bs) (suc j) d e =
    let x = dial-of w i at first (off + 1) (next + 1) ns bs j d e in
    record {
      place = suc x.place;
      node = x.node;
      member = x.member;
      conn = x.conn ∙ ap (λ (m : ℕ). Some (Some m)) (omega arith);
      upper = x.upper ∙ ap (λ (m : ℕ). by_primary i m) (omega arith);
      to = x.to;
      is_first = x.is_first;
    }
dial-of w i at first off next (n ∷ ns) (false ∷ bs) j d e =
    let x = dial-of w i at first (off + 1) next ns bs j d e in
    record { place = suc x.place; node = x.node; member = x.member; conn = x.conn; upper = x.upper ∙ ap (λ (m : ℕ). by_primary i m) (omega arith); to = x.to; is_first = x.is_first }

-- a connection with a number is one that is dialled, to the member at its place
record NumberedTo (w : World) (next c : ℕ) (ns : List NodeId) (place : ℕ) (ds : List Dial) : Type 0 where
  pub at : ℕ
  pub dial : Dial
  pub there : slice_get ds at ≡ Some dial
  pub is : next + at ≡ c
  pub to : (n : NodeId) → slice_get ns place ≡ Some n → dial.dialled.to ≡ place_of w n.0

numbered-step : (w : World) (i : ℕ) (at : Place) (first : Message) (off next : ℕ) (n : NodeId) (ns : List NodeId) (bs : List Bool) (c : ℕ) (b : Bool) (j : ℕ)
    → ((j : ℕ) → slice_get (numbered (next + 1) bs) j ≡ Some (Some c) → NumberedTo w (next + 1) c ns j (primary_dials w i at first (off + 1) ns bs))
    → ((j : ℕ) → slice_get (numbered next bs) j ≡ Some (Some c) → NumberedTo w next c ns j (primary_dials w i at first (off + 1) ns bs))
    → slice_get (numbered next (b ∷ bs)) j ≡ Some (Some c) → NumberedTo w next c (n ∷ ns) j (primary_dials w i at first off (n ∷ ns) (b ∷ bs))
numbered-step w i at first off next n ns bs c true zero k l q =
    record { at = zero; dial = _; there = refl; is = omega (arith, same_Some next c (same_Some (Some next) (Some c) q)); to = λ m r. ap (λ (x : NodeId). place_of w x.0) (same_Some n m r) }
numbered-step w i at first off next n ns bs c true (suc j) k l q = let x = k j q in record { at = suc x.at; dial = x.dial; there = x.there; is = omega (arith, x.is); to = x.to }
numbered-step w i at first off next n ns bs c false zero k l q = absurd (none-some c (same_Some None (Some c) q))
numbered-step w i at first off next n ns bs c false (suc j) k l q = let x = l j q in record { at = x.at; dial = x.dial; there = x.there; is = x.is; to = x.to }

numbered-to : (w : World) (i : ℕ) (at : Place) (first : Message) (off next : ℕ) (ns : List NodeId) (bs : List Bool) (j c : ℕ) → slice_get (numbered next (dials_answered w ns bs)) j ≡ Some (Some c)
    → NumberedTo w next c ns j (primary_dials w i at first off ns (dials_answered w ns bs))
numbered-to w i at first off next [] bs j c e = absurd (none-some (Some c) e)
numbered-to w i at first off next (n ∷ ns) [] j c e =
    numbered-step w i at first off next n ns (dials_answered w ns []) c false j (λ k q. numbered-to w i at first (off + 1) (next + 1) ns [] k c q) (λ k q. numbered-to w i at first (off + 1) next ns [] k c q) e
numbered-to w i at first off next (n ∷ ns) (b ∷ bs) j c e =
    numbered-step w i at first off next n ns (dials_answered w ns bs) c (b && w.running n.0) j (λ k q. numbered-to w i at first (off + 1) (next + 1) ns bs k c q) (λ k q. numbered-to w i at first (off + 1) next ns bs k c q) e

asked-untold : (bs : List Bool) (p : ℕ) (at : ReplicaState) (t : Stamp) (n : ℕ) (ended : Bool) → slice_get (map asked bs) p ≡ Some (standing.Told at t n ended) → ⊥
asked-untold [] p at t n ended e = none-some _ e
asked-untold (true ∷ bs) zero at t n ended e = cc
asked-untold (false ∷ bs) zero at t n ended e = cc
asked-untold (true ∷ bs) (suc p) at t n ended e = asked-untold bs p at t n ended e
asked-untold (false ∷ bs) (suc p) at t n ended e = asked-untold bs p at t n ended e

get-below : {A : Type 0} (xs : List A) (i : ℕ) (x : A) → slice_get xs i ≡ Some x → i < length xs
get-below [] i x e = absurd (none-some x e)
get-below (y ∷ ys) zero x e = omega arith
get-below (y ∷ ys) (suc i) x e = omega (arith, get-below ys i x e)

-- what a new connection is
dial-there : (w : World) (k : Change) (i : ℕ) (d : Dial) → slice_get k.dials i ≡ Some d → dialled_with w k (w.next_conn + i) ≡ d.dialled
dial-there w k i d e = ap (λ (o : Option Dial). unwrap_or (option_map (λ x. x.dialled) o) (w.dialled (w.next_conn + i))) at
  where
    sub : (a b : ℕ) → b ≡ a + b - a
    sub a b = omega arith

    low : nat_le w.next_conn (w.next_conn + i) ≡ false → ⊥
    low f = grind (arith, nat_tests, f)

    at : dial_at w.next_conn k.dials (w.next_conn + i) ≡ Some d
    at = if-each (λ (o : Option Dial). o ≡ Some d) (nat_le w.next_conn (w.next_conn + i)) (slice_get k.dials (w.next_conn + i - w.next_conn)) None
        (λ _. subst (λ (j : ℕ). slice_get k.dials j ≡ Some d) (sub w.next_conn i) e) (λ f. absurd (low f))

pub begins-news : (g : Givens) (w : World) (i : ℕ) (at : Place) (b : BlockId) (begun : Begun) (ms : List NodeId) (bs : List Bool) → Facts g w → Recovering g w → w.primaries i ≡ was_told b (Ok (office.Begun begun))
    → News g w (begins_with w i at b begun ms (dials_answered w ms bs))
begins-news g w i at b begun ms bs f h e = record {
  moves = moves-same (w.replicas 0 0).known.info;
  infos = λ v j a t q r. absurd (none-some _ q);
  length = 0;
  asks = λ v j q r. absurd (none-some _ r);
  dials = dials;
  primary = fits;
  sends = sends;
  ids = λ id a. inl (subst (λ (z : Primary). HasId z id) (sym e) a);
  placed = λ v place lt u. absurd (subst (λ (z : Primary). IsPlacedIn v place z) e (h.placed v i place lt u));
  updated = λ u z. absurd (none-some u z.there);
}
  where
    answers : List Bool
    answers = dials_answered w ms bs

    state : PrimaryState
    state = begun_with b begun ms (dials_answered w ms bs)

    init : RecoveryOp
    init = request_of (begun_with b begun ms (dials_answered w ms bs)) kind.Init 0

    k : Change
    k = begins_with w i at b begun ms (dials_answered w ms bs)

    none : NoUpdates w.past begun.id
    none = subst (λ (z : Primary). SendsFits w.past z) e (h.sends i)

    of : (j : ℕ) (d : Dial) → slice_get k.dials j ≡ Some d → DialOf w i (request (op.Recovery init)) 0 w.next_conn ms answers j d
    of j d q = dial-of w i at (request (op.Recovery init)) 0 w.next_conn ms answers j d q

    is_init : (q : RecoveryOp) → request (op.Recovery init) ≡ request (op.Recovery q) → q.kind ≡ kind.Update → ⊥
    is_init q r t = apart (ap (λ (z : RecoveryOp). z.kind) (same-request init q r) ∙ t)
      where
        apart : kind.Init ≡ kind.Update → ⊥
        apart z = cc

    same-place : (a c x y : ℕ) → by_primary a x ≡ by_primary c y → (a ≡ c) × (x ≡ y)
    same-place a c x y z = (cc, cc)

    from-none : (m : ℕ) → 0 + m ≡ m
    from-none m = omega arith

    dials : (j : ℕ) (d : Dial) → slice_get k.dials j ≡ Some d → NewDial w k j d
    dials j d q =
        let x = of j d q in
        record {
          life = ap (λ (p : Place). p.life) x.to ∙ sym (ap (λ (p : Place). w.lives p.node) x.to);
          agrees = λ y r. record { asked = y; first = first-dial g w k j d f (λ _. refl) q ∙ ap (λ (m : Message). Some m) r; block = refl; stamp = refl; recovery = refl };
          no_update = λ y r. is_init y (sym x.is_first ∙ r);
          placed = λ a place u.
              let s = same-place i a x.place place (sym (x.upper ∙ ap (λ (m : ℕ). by_primary i m) (from-none x.place)) ∙ u) in
              subst (λ (z : ℕ). IsPlacedIn (w.next_conn + j) place (put w.primaries i k.primary z)) s.0
              (subst (λ (z : Primary). IsPlacedIn (w.next_conn + j) place z) (sym (put-here w.primaries i k.primary))
              (subst (λ (z : ℕ). slice_get (numbered w.next_conn answers) z ≡ Some (Some (w.next_conn + j))) s.1 x.conn));
        }

    to : (p c : ℕ) → slice_get (numbered w.next_conn answers) p ≡ Some (Some c) → NumberedTo w w.next_conn c ms p k.dials
    to p c q = numbered-to w i at (request (op.Recovery init)) 0 w.next_conn ms bs p c q

    fits : LeadingFits (past_after w k) (leading at state (numbered w.next_conn answers))
    fits = record {
      life_of = w.lives;
      known = λ p c q. let x = to p c q in omega (arith, x.is, get-below k.dials x.at x.dial x.there);
      places = λ p c m q r. let x = to p c q in subst (λ (v : ℕ). (dialled_with w k v).to ≡ place_of w m.0) x.is (ap (λ (y : Dialled). y.to) (dial-there w k x.at x.dial x.there) ∙ x.to m r);
      first = λ p c q.
          let x = to p c q in
          subst (λ (v : ℕ). slice_get ((past_after w k).downs v) 0 ≡ Some (request (op.Recovery init))) x.is
          (first-dial g w k x.at x.dial f (λ _. refl) x.there ∙ ap (λ (m : Message). Some m) (of x.at x.dial x.there).is_first);
      told = λ p at t n ended q. absurd (asked-untold answers p at t n ended q);
    }

    sends : NoUpdates (past_after w k) begun.id
    sends v b n u = go (new-down w k v u.place (request (op.Recovery u.asked)) u.there)
      where
        go : NewDown w k v (request (op.Recovery u.asked)) → ⊥
        go (was_sent j q) = none v b n (record { asked = u.asked; place = j; there = q; is_update = u.is_update; block = u.block; recovery = u.recovery; length = u.length })
        go (is_sent j q) = none-some _ q
        go (is_dialled j y q r t) = is_init u.asked (sym (of j y q).is_first ∙ r) u.is_update

-- WHAT IT TAKES

-- what stands in a list where one element is another
set-get : {A : Type 0} (xs : List A) (i : ℕ) (x : A) (j : ℕ) (y : A) → slice_get (slice_set xs i x) j ≡ Some y → (slice_get xs j ≡ Some y) ⊎ ((j ≡ i) × (x ≡ y))
set-get [] i x j y e = inl e
set-get (z ∷ zs) zero x zero y e = inr (refl, same_Some x y e)
set-get (z ∷ zs) zero x (suc j) y e = inl e
set-get (z ∷ zs) (suc i) x zero y e = inl e
set-get {A} (z ∷ zs) (suc i) x (suc j) y e = go (set-get zs i x j y e)
  where
    go : (slice_get zs j ≡ Some y) ⊎ ((j ≡ i) × (x ≡ y)) → (slice_get zs j ≡ Some y) ⊎ ((suc j ≡ suc i) × (x ≡ y))
    go (inl q) = inl q
    go (inr q) = inr (ap (λ (m : ℕ). suc m) q.0, q.1)

-- what an answer tells was told on this connection
abbrev HeardOn : Past → ℕ → ℕ → Stamp → Heard → Type 0
HeardOn h c b id (heard.Answer a) = (i : ReplicaTold) → a.info ≡ Some i → Informs h c b id i
HeardOn h c b id _ = Unit {0}

abbrev as_told : ReplicaState → Stamp → ℕ → ReplicaTold
as_told a t n = (a, t, n)

told-in : (o : Option ReplicaTold) (at : ReplicaState) (t : Stamp) (n : ℕ) (ended : Bool) → told o ≡ standing.Told at t n ended → o ≡ Some (as_told at t n)
told-in None at t n ended e = absurd (cc)
told-in (Some i) at t n ended e = ap (λ (x : ReplicaTold). Some x) (parts i.0 i.1 i.2 e)
  where
    parts : (a : ReplicaState) (u : Stamp) (m : ℕ) → standing.Told a u m false ≡ standing.Told at t n ended → as_told a u m ≡ as_told at t n
    parts a u m q = cc

-- how a member stands that told something: it told it now, or stood so
after-told : (h : Past) (c b : ℕ) (id : Stamp) (s : Standing) (y : Heard) (at : ReplicaState) (t : Stamp) (n : ℕ) (ended : Bool) → HeardOn h c b id y → after_heard s y ≡ standing.Told at t n ended
    → Informs h c b id (at, t, n) ⊎ ((z : Bool) × (s ≡ standing.Told at t n z))
after-told h c b id standing.Asked (heard.Answer a) at t n ended x e =
    inl (if-each (λ (z : Standing). z ≡ standing.Told at t n ended → Informs h c b id (at, t, n)) (is_success a.status) (told a.info) standing.Out (λ _ q. x (at, t, n) (told-in a.info at t n ended q))
    (λ _ q. absurd (out-isnt-told at t n ended q)) e)
after-told h c b id standing.Asked heard.Unreadable at t n ended x e = absurd (out-isnt-told at t n ended e)
after-told h c b id standing.Asked heard.End at t n ended x e = absurd (out-isnt-told at t n ended e)
after-told h c b id (standing.Told a u m z) y at t n ended x e = inr (z, same a u m z _ e)
  where
    same : (a : ReplicaState) (u : Stamp) (m : ℕ) (z v : Bool) → standing.Told a u m v ≡ standing.Told at t n ended → standing.Told a u m z ≡ standing.Told at t n z
    same a u m z v q = cc
after-told h c b id standing.Updating (heard.Answer a) at t n ended x e =
    absurd (if-each (λ (z : Standing). z ≡ standing.Told at t n ended → ⊥) (is_success a.status) standing.Updated standing.Out (λ _ q. done q) (λ _ q. out-isnt-told at t n ended q) e)
  where
    done : standing.Updated ≡ standing.Told at t n ended → ⊥
    done q = cc
after-told h c b id standing.Updating heard.Unreadable at t n ended x e = absurd (out-isnt-told at t n ended e)
after-told h c b id standing.Updating heard.End at t n ended x e = absurd (out-isnt-told at t n ended e)
after-told h c b id standing.Unreached y at t n ended x e = absurd (cc)
after-told h c b id standing.Updated y at t n ended x e = absurd (cc)
after-told h c b id standing.Out y at t n ended x e = absurd (out-isnt-told at t n ended e)

heard-fits : (h : Past) (l : Leading) (place c : ℕ) (y : Heard) (o : Option Standing) → slice_get l.state.standings place ≡ o → LeadingFits h l → slice_get l.conns place ≡ Some (Some c) → HeardOn h c l.state.block.0 l.state.begun.id y
    → LeadingFits h (record l { state = heard_as l.state place y o })
heard-fits h l place c y None e f at x = record { life_of = f.life_of; known = f.known; places = f.places; first = f.first; told = λ p a t n z q. let r = f.told p a t n z q in record { conn = r.conn; there = r.there; informs = r.informs } }
heard-fits h l place c y (Some s) e f at x = record { life_of = f.life_of; known = f.known; places = f.places; first = f.first; told = λ p a t n z q. go p a t n z (set-get l.state.standings place (after_heard s y) p (standing.Told a t n z) q) }
  where
    m : Leading
    m = record l { state = heard_as l.state place y (Some s) }

    old : (p : ℕ) (i : ReplicaTold) → ToldAt h l p i → ToldAt h (record l { state = heard_as l.state place y (Some s) }) p i
    old p i r = record { conn = r.conn; there = r.there; informs = r.informs }

    by : (p : ℕ) (a : ReplicaState) (t : Stamp) (n : ℕ) → p ≡ place → Informs h c l.state.block.0 l.state.begun.id (a, t, n) ⊎ ((z : Bool) × (s ≡ standing.Told a t n z))
        → ToldAt h (record l { state = heard_as l.state place y (Some s) }) p (a, t, n)
    by p a t n q (inl r) = record { conn = c; there = subst (λ (v : ℕ). slice_get l.conns v ≡ Some (Some c)) (sym q) at; informs = r }
    by p a t n q (inr r) = old p (a, t, n) (f.told p a t n r.0 (subst (λ (v : ℕ). slice_get l.state.standings v ≡ Some (standing.Told a t n r.0)) (sym q) (e ∙ ap (λ (v : Standing). Some v) r.1)))

    go : (p : ℕ) (a : ReplicaState) (t : Stamp) (n : ℕ) (z : Bool) → (slice_get l.state.standings p ≡ Some (standing.Told a t n z)) ⊎ ((p ≡ place) × (after_heard s y ≡ standing.Told a t n z))
        → ToldAt h (record l { state = heard_as l.state place y (Some s) }) p (a, t, n)
    go p a t n z (inl q) = old p (a, t, n) (f.told p a t n z q)
    go p a t n z (inr q) = by p a t n q.0 (after-told h c l.state.block.0 l.state.begun.id s y a t n z x q.1)

-- what stands next from below was sent
abbrev pub SentUp : Past → ℕ → Next → Type 0
SentUp h c (message m) = (j : ℕ) × (slice_get (h.ups c) j ≡ Some m)
SentUp h c the_end = Unit {0}

heard-on : (h : Past) (l : Leading) (place c : ℕ) (x : Next) → LeadingFits h l → slice_get l.conns place ≡ Some (Some c) → SentUp h c x → HeardOn h c l.state.block.0 l.state.begun.id (heard_of x)
heard-on h l place c (message (recovery_answer a)) f at s =
    λ i e. record { asked = request_of l.state kind.Init 0; first = f.first place c at; block = refl; recovery = refl; place = s.0; answer = a; there = s.1; info = e }
heard-on h l place c (message (request o)) f at s = tt
heard-on h l place c (message (packet q)) f at s = tt
heard-on h l place c (message (ack a)) f at s = tt
heard-on h l place c (message (response a)) f at s = tt
heard-on h l place c (message (read_status a)) f at s = tt
heard-on h l place c the_end f at s = tt

heard-sends : (h : Past) (x : PrimaryState) (place : ℕ) (y : Heard) (o : Option Standing) → PhaseSends h x.begun.id x.phase → PhaseSends h (heard_as x place y o).begun.id (heard_as x place y o).phase
heard-sends h x place y None s = s
heard-sends h x place y (Some z) s = s

pub heard-id : (x : PrimaryState) (place : ℕ) (y : Heard) (o : Option Standing) → (heard_as x place y o).begun ≡ x.begun
heard-id x place y None = refl
heard-id x place y (Some s) = refl

pub hears-news : (g : Givens) (w : World) (i : ℕ) (l : Leading) (place c : ℕ) (x : Next) (k : Change) → Recovering g w → w.primaries i ≡ leads l → c < w.next_conn → (w.dialled c).upper ≡ by_primary i place → SentUp w.past c x
    → k.primary_at ≡ i → k.primary ≡ leads (record l { state = heard_at l.state place (heard_of x) }) → k.replica ≡ w.replicas k.node k.block → ((d : ℕ) → k.ups d ≡ []) → ((d : ℕ) → k.downs d ≡ []) → k.dials ≡ [] → k.updated ≡ [] → News g w k
hears-news g w i l place c x k h e lt u s pa pi same ups downs dials none =
    let f = leading-of g w i l h e in
    let at = placed-of g w i l h e c place lt u in
    let y = heard_of x in
    let o = slice_get l.state.standings place in
    let m : Leading = record l { state = heard_at l.state place y } in
    let p = past_after w k in
    record {
      moves = subst (λ (z : FullReplica). Moves (w.replicas k.node k.block).known.info z.known.info) (sym same) (moves-same (w.replicas k.node k.block).known.info);
      infos = λ v j a t q r. absurd (none-some _ (sym (ap (λ (zs : List Message). slice_get zs j) (ups v)) ∙ q));
      length = 0;
      asks = λ v j q r. absurd (none-some _ (sym (ap (λ (zs : List Message). slice_get zs j) (downs v)) ∙ r));
      dials = λ j d q. absurd (none-some d (sym (ap (λ (zs : List Dial). slice_get zs j) dials) ∙ q));
      primary = subst (λ (z : Primary). LeadFits p z) (sym pi) (leading-later w.past p m (past-grows w k) (heard-fits w.past l place c y o refl f at (heard-on w.past l place c x f at s)));
      sends = subst (λ (z : Primary). SendsFits p z) (sym pi) (same-sends g w k (leads m) downs dials (heard-sends w.past l.state place y o (sends-of g w i l h e)));
      ids = λ id a. inl (subst (λ (v : ℕ). HasId (w.primaries v) id) (sym pa) (subst (λ (z : Primary). HasId z id) (sym e)
          (sym (ap (λ (b : Begun). b.id) (heard-id l.state place y o)) ∙ subst (λ (z : Primary). HasId z id) pi a)));
      placed = λ v q low r. subst (λ (z : Primary). IsPlacedIn v q z) (sym pi) (placed-of g w i l h e v q low (r ∙ ap (λ (z : ℕ). by_primary z q) pa));
      updated = λ u z. absurd (none-some u (sym (ap (λ (us : List Updated). slice_get us z.place) none) ∙ z.there));
    }

-- THE OFFICE

-- a recovery that begins has the next stamp for its id
abbrev pub BegunNext : OfficeState → Told → Type 0
BegunNext o (Ok (office.Begun begun)) = begun.id ≡ o.next
BegunNext o _ = Unit {0}

abbrev AnswerNext : OfficeState → OfficeCall → Step OfficeState OfficeAnswer → Type 0
AnswerNext o c s = BegunNext o (reply s)

pub begun-next : (o : OfficeState) (c : OfficeCall) → BegunNext o (answer_to o c)
begun-next o c = each_case o (AnswerNext o) (record {
  refused = λ d e. tt;
  created = λ b ms e. tt;
  appended = λ b r e s t. tt;
  stamped = λ b r e s. tt;
  committed = λ b s ms r e x y. tt;
  completed = λ b s n r e x y. tt;
  begun = λ b r e s. refl;
  synced = λ b id n ms r e s t. tt;
}) c

-- the ids of primaries, and those of UPDATEs, lie below the next stamp
pub id-below : (g : Givens) (w : World) (x : Primary) (id : Stamp) → Facts g w → PrimarySays g w.past x → HasId x id → id.0 < w.office.next.0
id-below g w no_primary id f s a = absurd a
id-below g w (was_told b (Ok (office.Begun begun))) id f s a = subst (λ (t : Stamp). t.0 < w.office.next.0) a (f.recorded.below b.0 begun.id.0 s.session s.given)
id-below g w (was_told b (Ok (office.Stamp t))) id f s a = absurd a
id-below g w (was_told b (Ok (office.Reopened t))) id f s a = absurd a
id-below g w (was_told b (Ok office.Nothing)) id f s a = absurd a
id-below g w (was_told b (Err t)) id f s a = absurd a
id-below g w (leads l) id f s a = subst (λ (t : Stamp). t.0 < w.office.next.0) a (f.recorded.below l.state.block.0 l.state.begun.id.0 s.recovery.session s.recovery.given)
id-below g w (has_led r) id f s a = absurd a

update-below : (g : Givens) (w : World) (c b : ℕ) (id : Stamp) (n : ℕ) → Facts g w → Updates w.past c b id n → id.0 < w.office.next.0
update-below g w c b id n f u =
    let says : RecoverySays g w.past c u.asked = f.carried.downs c u.place (request (op.Recovery u.asked)) u.there in
    subst (λ (t : Stamp). t.0 < w.office.next.0) u.recovery (f.recorded.below u.asked.block.block.0 u.asked.recovery.0 says.recovery.session says.recovery.given)

-- a primary that asks to begin a recovery
pub asked-news : (g l : Givens) (w : World) (i : ℕ) (b : BlockId) → Facts g w → Recovering l w → w.primaries i ≡ no_primary → News l w (asks_primary w i (call.BeginRecovery b) (was_told b))
asked-news g l w i b f h e = record {
  moves = moves-same (w.replicas 0 0).known.info;
  infos = λ v j a t q r. absurd (none-some _ q);
  length = 0;
  asks = λ v j q r. absurd (none-some _ r);
  dials = λ j d q. absurd (none-some d q);
  primary = tt;
  sends = sends (answer_to w.office (call.BeginRecovery b)) (begun-next w.office (call.BeginRecovery b));
  ids = λ id a. inr (λ j x. fresh (answer_to w.office (call.BeginRecovery b)) (begun-next w.office (call.BeginRecovery b)) id a j x);
  placed = λ v place lt u. absurd (subst (λ (z : Primary). IsPlacedIn v place z) e (h.placed v i place lt u));
  updated = λ u z. absurd (none-some u z.there);
}
  where
    k : Change
    k = asks_primary w i (call.BeginRecovery b) (was_told b)

    sends : (t : Told) → BegunNext w.office t → ToldSends (past_after w k) t
    sends (Ok (office.Begun begun)) n = λ c d m u. absurd (omega (arith, update-below g w c d begun.id m f (back-updates w k c d begun.id m (λ _. refl) refl u), ap (λ (t : Stamp). t.0) n))
    sends (Ok (office.Stamp t)) n = tt
    sends (Ok (office.Reopened t)) n = tt
    sends (Ok office.Nothing) n = tt
    sends (Err t) n = tt

    fresh : (t : Told) → BegunNext w.office t → (id : Stamp) → ToldId t id → (j : ℕ) → HasId (w.primaries j) id → ⊥
    fresh (Ok (office.Begun begun)) n id a j x = omega (arith, id-below g w (w.primaries j) id f (f.carried.primaries j) x, ap (λ (t : Stamp). t.0) n, ap (λ (t : Stamp). t.0) a)
    fresh (Ok (office.Stamp t)) n id a j x = a
    fresh (Ok (office.Reopened t)) n id a j x = a
    fresh (Ok office.Nothing) n id a j x = a
    fresh (Err t) n id a j x = a

-- a primary that asks to commit
pub commits-news : (g : Givens) (w : World) (i : ℕ) (l : Leading) (c : Chosen) → Recovering g w → w.primaries i ≡ leads l → News g w (asks_primary w i (sync_call l.state c) (λ told. leads (record l { told = Some told })))
commits-news g w i l c h e =
    let k = asks_primary w i (sync_call l.state c) (λ told. leads (record l { told = Some told })) in
    let f = leading-of g w i l h e in
    let t = answer_to w.office (sync_call l.state c) in
    let m : Leading = record l { told = Some t } in
    record {
      moves = moves-same (w.replicas 0 0).known.info;
      infos = λ v j a t q r. absurd (none-some _ q);
      length = 0;
      asks = λ v j q r. absurd (none-some _ r);
      dials = λ j d q. absurd (none-some d q);
      primary = leading-later w.past (past_after w k) m (past-grows w k) (record { life_of = f.life_of; known = f.known; places = f.places; first = f.first; told = λ p a s n z q. let r = f.told p a s n z q in record { conn = r.conn; there = r.there; informs = r.informs } });
      sends = same-sends g w k (leads m) (λ _. refl) refl (sends-of g w i l h e);
      ids = λ id a. inl (subst (λ (z : Primary). HasId z id) (sym e) a);
      placed = λ v place lt u. placed-of g w i l h e v place lt u;
      updated = λ u z. absurd (none-some u z.there);
    }
