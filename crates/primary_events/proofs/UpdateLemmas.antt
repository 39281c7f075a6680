-- What the UPDATE of a primary sends and shuts, member by member.
use Rattle.std.proofs.Common.{◌≡◌, ℕ, zero, suc, ◌≤◌, Bool, true, false, List, [], ◌∷◌, ◌++◌, length, slice_get, if◌then◌else◌, Option, Some, None, Result, Ok, Err, refl, sym, ap, ◌∙◌, subst, arith}
use Rattle.std.specs.Prelude.{not, zip, ◌-◌, ◌||◌, ◌&&◌, nat_le, option_map}
use Rattle.std.proofs.lemmas.List.{append-nil}
use Rattle.hd_base.specs.declared.numbers.NodeId.{NodeId}
use Rattle.name_core.specs.declared.choice.ChooseFault.{ChooseFault}
use Rattle.name_core.specs.declared.choice.Chosen.{Chosen}
use Rattle.name_core.specs.Choice.{choice}
use Rattle.op_headers.specs.declared.ops.Op.TheVariants as op
use Rattle.op_headers.specs.declared.ops.RecoveryKind.TheVariants as kind
use Rattle.op_headers.specs.declared.ops.RecoveryOp.{RecoveryOp}
use Rattle.op_headers.specs.Requests.{op_message, OpSays, IsEncodable}
use Rattle.proto_fields.specs.Framed.{FramesSome}
use Rattle.proto_fields.specs.Frames.{limit}
use Rattle.recovery_core.specs.declared.primary.OwnStep.TheVariants as own
use Rattle.recovery_core.specs.declared.primary.Phase.{Phase}
use Rattle.recovery_core.specs.declared.primary.Phase.TheVariants as phase
use Rattle.recovery_core.specs.declared.standings.Standing.{Standing}
use Rattle.recovery_core.specs.declared.standings.Standing.TheVariants as standing
use Rattle.recovery_core.specs.Primaries.{PrimaryState, taken, choosing, committing, own_at, own_step, waits, infos, updated_members, is_among, is_awaited, when_chosen, after_choice, all_after_choice, request_of}
use Rattle.road_traffic.proofs.TrafficLemmas.{same-itself}
use Rattle.world.specs.Parts.{Message, request, Leading}
use Rattle.world.specs.Worlds.{World, Change, Dial, apply, dial_at, listed}
use Rattle.world.specs.Connections.{is_conn}
use Rattle.world.specs.Primaries.{is_among_conns, updates_on, is_done_with, updates_change}
use Rattle.world_primaries.specs.WorldNets.Rows.{Row, rows_of, sends, shuts_if, flushes_row}
use Rattle.world_primaries.specs.WorldNets.Changes.{sent_in}
use Rattle.world_primaries.proofs.WorldNets.ChangeLemmas.{changed_so}
use Rattle.world_primaries.specs.Links.{AreDistinct, update_of}
use Rattle.client_events.specs.WorldTexts.Texts.{SpellsText}
use Rattle.client_events.proofs.MemberEvents.StepLaws.{spelled_within, fits_within}
use Rattle.primary_events.specs.Showing.{stands_in}
use Rattle.primary_events.proofs.GivingUpLaws.{conn_is, among_at}
use Rattle.primary_events.proofs.PlaceLemmas.{some_same}

-- TESTS

and_false : (b : Bool) → (b && false) ≡ false
and_false true = refl
and_false false = refl

and_true : (b : Bool) → ((b && true) || false) ≡ b
and_true true = refl
and_true false = refl

or_left : (a b : Bool) → (a || b) ≡ false → a ≡ false
or_left true b e = cc
or_left false b e = refl

or_right : (a b : Bool) → (a || b) ≡ false → b ≡ false
or_right true b e = cc
or_right false b e = e

-- DISTINCT CONNECTIONS

tail_distinct : (x : Option ℕ) (conns : List (Option ℕ)) → AreDistinct (x ∷ conns) → AreDistinct conns
tail_distinct x conns d j k c one other = omega (arith, d (suc j) (suc k) c one other)

never_both : (j : ℕ) → 0 ≡ suc j → ⊥
never_both j e = cc

-- the connection that stands at a later place isn't the first one
head_apart : (x : Option ℕ) (conns : List (Option ℕ)) (j c : ℕ) → AreDistinct (x ∷ conns) → slice_get conns j ≡ Some (Some c) → is_conn x c ≡ false
head_apart x conns j c d at = by (is_conn x c) refl where
  by : (b : Bool) → is_conn x c ≡ b → b ≡ false
  by true e = absurd (never_both j (d 0 (suc j) c (ap Some (conn_is x c e)) at))
  by false e = refl

pub not_among : (conns : List (Option ℕ)) (c : ℕ) → ((j : ℕ) → slice_get conns j ≡ Some (Some c) → ⊥) → is_among_conns conns c ≡ false
not_among conns c none = by (is_among_conns conns c) refl where
  by : (b : Bool) → is_among_conns conns c ≡ b → b ≡ false
  by true e = absurd (none (among_at conns c e).place (among_at conns c e).is)
  by false e = refl

tail_not_among : (x : Option ℕ) (conns : List (Option ℕ)) (c : ℕ) → AreDistinct (x ∷ conns) → x ≡ Some c → is_among_conns conns c ≡ false
tail_not_among x conns c d e = not_among conns c (λ j at. never_both j (d 0 (suc j) c (ap Some e) at))

-- WHAT IS SENT

updates_none : (m : Message) (chosen members : List NodeId) (conns : List (Option ℕ)) (c : ℕ) → is_among_conns conns c ≡ false → updates_on m chosen (zip members conns) c ≡ []
updates_none m chosen [] conns c none = refl
updates_none m chosen (x ∷ members) [] c none = refl
updates_none m chosen (x ∷ members) (y ∷ conns) c none =
    ap (λ b. if is_among chosen x && b then m ∷ [] else updates_on m chosen (zip members conns) c) (or_left (is_conn y c) (is_among_conns conns c) none)
    ∙ (ap (λ b. if b then m ∷ [] else updates_on m chosen (zip members conns) c) (and_false (is_among chosen x))
    ∙ updates_none m chosen members conns c (or_right (is_conn y c) (is_among_conns conns c) none))

-- the connection of a member is sent the UPDATE where the member is a chosen one
pub updates_at : (m : Message) (chosen members : List NodeId) (conns : List (Option ℕ)) (j c : ℕ) (node : NodeId) → AreDistinct conns → slice_get members j ≡ Some node → slice_get conns j ≡ Some (Some c)
    → updates_on m chosen (zip members conns) c ≡ (if is_among chosen node then m ∷ [] else [])
updates_at m chosen [] conns j c node d at_m at_c = cc
updates_at m chosen (x ∷ members) [] j c node d at_m at_c = cc
updates_at m chosen (x ∷ members) (y ∷ conns) zero c node d at_m at_c =
    let f : is_conn y c ≡ true = ap (λ z. is_conn z c) (some_same y (Some c) at_c) ∙ same-itself c in
    ap (λ b. if is_among chosen x && b then m ∷ [] else updates_on m chosen (zip members conns) c) f
    ∙ (by (is_among chosen x) ∙ ap (λ n. if is_among chosen n then m ∷ [] else []) (some_same x node at_m))
  where
    by : (b : Bool) → (if b && true then m ∷ [] else updates_on m chosen (zip members conns) c) ≡ (if b then m ∷ [] else [])
    by true = refl
    by false = updates_none m chosen members conns c (tail_not_among y conns c d (some_same y (Some c) at_c))
updates_at m chosen (x ∷ members) (y ∷ conns) (suc j) c node d at_m at_c =
    ap (λ b. if is_among chosen x && b then m ∷ [] else updates_on m chosen (zip members conns) c) (head_apart y conns j c d at_c)
    ∙ (ap (λ b. if b then m ∷ [] else updates_on m chosen (zip members conns) c) (and_false (is_among chosen x))
    ∙ updates_at m chosen members conns j c node (tail_distinct y conns d) at_m at_c)

-- WHAT IS SHUT

done_none : (standings : List Standing) (conns : List (Option ℕ)) (c : ℕ) → is_among_conns conns c ≡ false → is_done_with (zip standings conns) c ≡ false
done_none [] conns c none = refl
done_none (s ∷ standings) [] c none = refl
done_none (s ∷ standings) (y ∷ conns) c none =
    ap (λ b. (not (is_awaited s) && b) || is_done_with (zip standings conns) c) (or_left (is_conn y c) (is_among_conns conns c) none)
    ∙ (ap (λ b. b || is_done_with (zip standings conns) c) (and_false (not (is_awaited s)))
    ∙ done_none standings conns c (or_right (is_conn y c) (is_among_conns conns c) none))

-- the connection of a member is shut where no answer of the member is awaited
pub done_at : (standings : List Standing) (conns : List (Option ℕ)) (j c : ℕ) (s : Standing) → AreDistinct conns → slice_get standings j ≡ Some s → slice_get conns j ≡ Some (Some c)
    → is_done_with (zip standings conns) c ≡ not (is_awaited s)
done_at [] conns j c s d at_s at_c = cc
done_at (x ∷ standings) [] j c s d at_s at_c = cc
done_at (x ∷ standings) (y ∷ conns) zero c s d at_s at_c =
    let f : is_conn y c ≡ true = ap (λ z. is_conn z c) (some_same y (Some c) at_c) ∙ same-itself c in
    ap (λ b. (not (is_awaited x) && b) || is_done_with (zip standings conns) c) f
    ∙ (ap (λ b. (not (is_awaited x) && true) || b) (done_none standings conns c (tail_not_among y conns c d (some_same y (Some c) at_c)))
    ∙ (and_true (not (is_awaited x)) ∙ ap (λ z. not (is_awaited z)) (some_same x s at_s)))
done_at (x ∷ standings) (y ∷ conns) (suc j) c s d at_s at_c =
    ap (λ b. (not (is_awaited x) && b) || is_done_with (zip standings conns) c) (head_apart y conns j c d at_c)
    ∙ (ap (λ b. b || is_done_with (zip standings conns) c) (and_false (not (is_awaited x)))
    ∙ done_at standings conns j c s (tail_distinct y conns d) at_s at_c)

-- THE CHOICE

pub after_at : (chosen members : List NodeId) (standings : List Standing) (j : ℕ) (node : NodeId) (s : Standing) → slice_get members j ≡ Some node → slice_get standings j ≡ Some s
    → slice_get (all_after_choice chosen members standings) j ≡ Some (after_choice chosen node s)
after_at chosen [] standings j node s at_m at_s = cc
after_at chosen (x ∷ members) [] j node s at_m at_s = cc
after_at chosen (x ∷ members) (y ∷ standings) zero node s at_m at_s =
    ap (λ n. Some (after_choice chosen n y)) (some_same x node at_m) ∙ ap (λ z. Some (after_choice chosen node z)) (some_same y s at_s)
after_at chosen (x ∷ members) (y ∷ standings) (suc j) node s at_m at_s = after_at chosen members standings j node s at_m at_s

pub after_none : (chosen members : List NodeId) (standings : List Standing) (j : ℕ) → slice_get standings j ≡ None → slice_get (all_after_choice chosen members standings) j ≡ None
after_none chosen [] standings j none = refl
after_none chosen (x ∷ members) [] j none = refl
after_none chosen (x ∷ members) (y ∷ standings) zero none = cc
after_none chosen (x ∷ members) (y ∷ standings) (suc j) none = after_none chosen members standings j none

chosen_fits : (n : ℕ) (s : Standing) → stands_in (phase.Updating n) (when_chosen s) ≡ true
chosen_fits n (standing.Told state stamp bytes true) = refl
chosen_fits n (standing.Told state stamp bytes false) = refl
chosen_fits n standing.Unreached = refl
chosen_fits n standing.Asked = refl
chosen_fits n standing.Out = refl
chosen_fits n standing.Updating = refl
chosen_fits n standing.Updated = refl

-- behind the choice no member is awaited that was sent the INIT
pub after_fits : (n : ℕ) (chosen : List NodeId) (node : NodeId) (s : Standing) → stands_in (phase.Updating n) (after_choice chosen node s) ≡ true
after_fits n chosen node s = by (is_among chosen node) where
  by : (b : Bool) → stands_in (phase.Updating n) (if b then when_chosen s else standing.Out) ≡ true
  by true = chosen_fits n s
  by false = refl

-- A primary that has chosen so, and what it was before.
pub record HasChosen (p : PrimaryState) (c : Chosen) (q : PrimaryState) : Type 0 where
  pub informed : p.phase ≡ phase.Informing
  pub is : q ≡ record p { phase = phase.Updating c.length; standings = all_after_choice c.members p.members p.standings }

waits_not : (c : Chosen) → own.Waits ≡ own.Updates c → ⊥
waits_not c h = cc

ends_not : (p : PrimaryState) (n : ℕ) (nodes : List NodeId) (c : Chosen) → (committing p n nodes).does ≡ own.Updates c → ⊥
ends_not p n [] c h = cc
ends_not p n (x ∷ nodes) c h = cc

by_choice : (p : PrimaryState) (c : Chosen) (z : Result Chosen ChooseFault) → p.phase ≡ phase.Informing → (choosing p z).does ≡ own.Updates c → HasChosen p c (choosing p z).primary
by_choice p c (Ok d) at h =
    let e : d ≡ c = cc in
    record { informed = at; is = ap (λ (x : Chosen). record p { phase = phase.Updating x.length; standings = all_after_choice x.members p.members p.standings }) e }
by_choice p c (Err f) at h = absurd (unlike p f h)
  where
    unlike : (p : PrimaryState) (f : ChooseFault) → (choosing p (Err f)).does ≡ own.Updates c → ⊥
    unlike p f h = cc

by_phase : (p : PrimaryState) (c : Chosen) (f : Phase) → p.phase ≡ f → (own_at f p).does ≡ own.Updates c → HasChosen p c (own_at f p).primary
by_phase p c phase.Informing at h = by_choice p c (choice p.begun.committed (infos p.members p.standings)) at h
by_phase p c (phase.Updating n) at h = absurd (ends_not p n (updated_members p.members p.standings) c h)
by_phase p c phase.Over at h = absurd (waits_not c h)

pub has_chosen : (p : PrimaryState) (c : Chosen) → (own_step p).does ≡ own.Updates c → HasChosen p c (own_step p).primary
has_chosen p c = by (waits p.standings) where
  by : (b : Bool) → (if b then taken p own.Waits else own_at p.phase p).does ≡ own.Updates c → HasChosen p c (if b then taken p own.Waits else own_at p.phase p).primary
  by true h = absurd (waits_not c h)
  by false h = by_phase p c p.phase refl h

-- ROWS

-- without dials no request is sent
pub no_request : (next c : ℕ) → listed (option_map (λ (d : Dial). d.request) (dial_at next [] c)) ≡ []
no_request next c = nothing_at (nat_le next c) (c - next) where
  nothing_at : (b : Bool) (n : ℕ) → listed (option_map (λ (d : Dial). d.request) (if b then slice_get [] n else None)) ≡ []
  nothing_at true n = refl
  nothing_at false n = refl

pub nothing_more : (r : Row) → sends [] r ≡ r
nothing_more r = ap (λ (s : List Message). record r { sent = s }) (append-nil r.sent)

module _ (w : World) (number : ℕ) (l : Leading) (p : PrimaryState) (c : Chosen) where
  abbrev pub k : Change
  k = updates_change w number l p c

  all_down : (x : ℕ) → sent_in w k x true ≡ k.downs x
  all_down x = ap (λ ms. k.downs x ++ ms) (no_request w.next_conn x) ∙ append-nil (k.downs x)

  -- The rows of a connection on which these messages are sent, and which is shut or not.
  pub row_at : (x : ℕ) (d s : Bool) (ms : List Message) → k.downs x ≡ ms → k.shuts x ≡ s → rows_of (apply w k) x d ≡ flushes_row false s ms d (rows_of w x d)
  row_at x true s ms sends_is shuts_is = changed_so w k x true ∙ (λ j. shuts_if (shuts_is j) (sends ((all_down x ∙ sends_is) j) (rows_of w x true)))
  row_at x false s ms sends_is shuts_is = changed_so w k x false ∙ (λ j. shuts_if (shuts_is j) (nothing_more (rows_of w x false) j))

  nothing_flushed : (d : Bool) (r : Row) → flushes_row false false [] d r ≡ r
  nothing_flushed true r = nothing_more r
  nothing_flushed false r = refl

  -- Those of each other one.
  pub row_else : (x : ℕ) (d : Bool) → is_among_conns l.conns x ≡ false → rows_of (apply w k) x d ≡ rows_of w x d
  row_else x d none =
      row_at x d false [] (updates_none (update_of l.state c) c.members l.state.members l.conns x none) (done_none p.standings l.conns x none)
      ∙ nothing_flushed d (rows_of w x d)

-- WHAT IS SPELLED

tail_of : (a b : ℕ) (xs ys : List ℕ) → 0 ∷ 28 ∷ a ∷ xs ≡ 0 ∷ 28 ∷ b ∷ ys → xs ≡ ys
tail_of a b xs ys h = cc

spelled_few : (r : RecoveryOp) → SpellsText (request (op.Recovery r)) → length (op_message (op.Recovery r)) ≤ limit
spelled_few r h =
    let parts = tail_of _ _ _ _ h.parts in
    let frame = subst (λ (bytes : List ℕ). FramesSome (λ message. OpSays h.code message (Ok (op.Recovery r))) bytes) (sym parts) h.holds in
    spelled_within (op_message (op.Recovery r)) (λ message. OpSays h.code message (Ok (op.Recovery r))) frame (fits_within (op_message (op.Recovery r)) (λ message. OpSays h.code message (Ok (op.Recovery r))) frame)

-- An UPDATE that is spelled as it is written may be written.
pub update_encodable : (p : PrimaryState) (bytes : ℕ) → SpellsText (request (op.Recovery (request_of p kind.Update bytes))) → IsEncodable (op.Recovery (request_of p kind.Update bytes))
update_encodable p bytes h = record { within_limit = spelled_few (request_of p kind.Update bytes) h; step = (tt, refl) }

-- So may an INIT.
pub init_encodable : (p : PrimaryState) → SpellsText (request (op.Recovery (request_of p kind.Init 0))) → IsEncodable (op.Recovery (request_of p kind.Init 0))
init_encodable p h = record { within_limit = spelled_few (request_of p kind.Init 0) h; step = (refl, refl) }
