-- A writer dials its first member: the world then, and the new connection.
use Rattle.std.proofs.Common.{◌≡◌, ℕ, ◌<◌, ◌+◌, true, false, List, [], ◌∷◌, ◌++◌, drop, map, slice_get, Option, Some, None, refl, sym, ◌∙◌, ap, subst, arith, ◌⊎◌, inl, inr}
use Rattle.std.specs.Prelude.{option_map}
use Rattle.std.proofs.lemmas.Bool.{false≢true}
use Rattle.std.proofs.lemmas.List.{append-nil}
use Rattle.std.proofs.lemmas.Option.{none-some, same_Some}
use Rattle.hd_base.specs.declared.numbers.NodeId.{NodeId}
use Rattle.hd_base.specs.SumRules.{Rule}
use Rattle.op_headers.specs.declared.ops.Op.{Op}
use Rattle.op_headers.specs.declared.ops.Op.TheVariants as op
use Rattle.op_headers.specs.Values.{WriteFields}
use Rattle.packet_codec.specs.declared.packets.Packet.{Packet}
use Rattle.member_core.specs.Requests.{setup_with}
use Rattle.writer_core.specs.declared.records.WriterRecord.{WriterRecord}
use Rattle.world.specs.declared.events.Event.{Event}
use Rattle.world.specs.Parts.{Message, request, Marks, new_marks, by_writer, Lower, idle, Writing}
use Rattle.world.specs.Worlds.{World, Dial, Change, still, listed, apply}
use Rattle.world.specs.Connections.{place_of}
use Rattle.world.specs.Nodes.{block_of}
use Rattle.world_laws.specs.Placing.{Placed, IsUndialled}
use Rattle.play_completeness.proofs.WorldOrders.Lists.{no-dial-before, dial-here, dialled-here}
use Rattle.play_completeness.specs.WorldAcks.Acking.{promised}
use Rattle.play_completeness.specs.WorldWriters.Taking.{chain}
use Rattle.play_model.specs.Dues.{is_open}
use Rattle.play_completeness.specs.Streams.{packets_in, acks_in, as_pending, first_reach, reach_of, Leads}
use Rattle.play_completeness.specs.Links.{awaited, packets_left, acks_left, reach_above, MayTake, IsRequest, WaitsWell, LowerWell, Carries, Link, Links}
use Rattle.play_completeness.proofs.Flowing.{flows-none}
use Rattle.play_completeness.proofs.LinkFrame.{BelowWell, flows-same, link-of}
use Rattle.play_completeness.proofs.TurnWorld.{named}
use Rattle.play_completeness.proofs.Pipelines.{piped-before}
use Rattle.completing_writers.proofs.Leaving.{Aside, OfWriter, add-none, aside-of, said-here}
use Rattle.completing_writers.proofs.Linking.{conn-kept}
use Rattle.completing_writers.proofs.Doing.{Did}

-- THE WORLD

module _ (u : World) (b : ℕ) (n : WriterRecord) (to : NodeId) (r : Op) (e : Event) where
  abbrev pub dial : Dial
  dial = record { dialled = record { upper = by_writer b; from = None; to = place_of u to.0 }; request = request r }

  abbrev pub new : Writing
  new = record { known = n; conn = Some u.next_conn; told = None }

  -- the first member answers the dial
  abbrev pub dialling : Change
  dialling = record (still u) { writer_at = b; writer = new; dials = dial ∷ [] }

  abbrev pub after : World
  after = named e (apply u dialling)

  of-dialling : OfWriter u dialling b
  of-dialling = record {
    place = refl;
    replica = refl;
    lower = refl;
    ups = λ k. refl;
    shuts = λ k. refl;
    entries = λ k other. refl;
    written = λ k other. add-none u.written 0 (u.latest k);
    unused = add-none u.written 0 0;
  }

  pub dial-did : Did u after b new [] []
  unfolding apply
  dial-did = record {
    aside = aside-of u dialling b e of-dialling;
    answered = said-here u dialling b e refl;
    wrote = add-none u.written 0 (u.latest b) ∙ sym (append-nil (u.written (u.latest b)));
  }

  pub dial-office : after.office ≡ u.office
  unfolding apply
  dial-office = refl

  pub dial-conns : after.next_conn ≡ u.next_conn + 1
  unfolding apply
  dial-conns = omega arith

  pub old-downs : (k : ℕ) → k < u.next_conn → after.downs k ≡ u.downs k
  unfolding apply
  old-downs k lt =
      ap (λ (o : Option Dial). (u.downs k ++ []) ++ listed (option_map (λ (d : Dial). d.request) o)) (no-dial-before u.next_conn k (dial ∷ []) lt)
      ∙ (append-nil (u.downs k ++ []) ∙ append-nil (u.downs k))

  pub new-downs : u.downs u.next_conn ≡ [] → after.downs u.next_conn ≡ request r ∷ []
  unfolding apply
  new-downs none =
      ap (λ (o : Option Dial). (u.downs u.next_conn ++ []) ++ listed (option_map (λ (d : Dial). d.request) o)) (dial-here u.next_conn u.next_conn 0 (dial ∷ []) dial (omega arith) refl)
      ∙ ap (λ (ms : List Message). (ms ++ []) ++ request r ∷ []) none

  pub new-dialled : after.dialled u.next_conn ≡ dial.dialled
  unfolding apply
  new-dialled = dialled-here u dialling u.next_conn 0 dial (omega arith) refl

-- THE CONNECTION

module _ (u v : World) (placed : Placed u) (links : Links u) (b : ℕ) (new : Writing) (a : Aside u v b new) (none : (u.writers b).conn ≡ None) (conn : new.conn ≡ Some u.next_conn) (conns : v.next_conn ≡ u.next_conn + 1)
    (old : (k : ℕ) → k < u.next_conn → v.downs k ≡ u.downs k) (f : WriteFields) (downs : v.downs u.next_conn ≡ request (op.Write f) ∷ []) (upper : (v.dialled u.next_conn).upper ≡ by_writer b)
    (rule : Rule) (asks : IsRequest f rule) (ready : (i n : ℕ) → slice_get (chain v.past u.next_conn f) i ≡ Some (Some n) → MayTake (setup_with f.stage) f rule (v.replicas n (block_of f)))
    (unacked : new.known.stream.unacked ≡ []) (reach : first_reach (promised f) ≡ reach_of new.known) (ruled : new.known.stream.rule ≡ rule) where
  abbrev c : ℕ
  c = u.next_conn

  undialled : IsUndialled u c
  undialled = placed.undialled c (omega arith)

  ups-none : v.ups c ≡ []
  ups-none = a.ups c ∙ undialled.ups

  lower : v.lowers c ≡ idle
  lower = a.lowers c ∙ undialled.lower

  down-marks : v.down_marks c ≡ new_marks
  down-marks = a.down_marks c ∙ undialled.down_marks

  up-marks : v.up_marks c ≡ new_marks
  up-marks = a.up_marks c ∙ undialled.up_marks

  idle-open : is_open (v.lowers c) ≡ true
  idle-open = ap is_open lower

  waits-well : WaitsWell v c f rule
  waits-well = record { early = record { alone = downs; untaken = ap (λ (m : Marks). m.taken) up-marks }; ready = ready }

  below : BelowWell v c f rule
  below = record {
    asked = record { first = ap (λ (ms : List Message). slice_get ms 0) downs };
    lower = subst (λ (l : Lower). LowerWell v c f rule l) (sym lower) waits-well;
    ups = λ k m at. absurd (none-some m (sym (ap (λ (ms : List Message). slice_get ms k) ups-none) ∙ at));
    ends = record {
      sent_down = let z : (v.down_marks c).taken ≡ 0 = ap (λ (m : Marks). m.taken) down-marks in omega (arith, z);
      sent_up = let z : (v.up_marks c).taken ≡ 0 = ap (λ (m : Marks). m.taken) up-marks in omega (arith, z);
      down = λ _. ap (λ (m : Marks). m.end) down-marks;
      up = λ _. ap (λ (m : Marks). m.end) up-marks;
      over = λ q. absurd (false≢true (sym q ∙ idle-open));
    };
  }

  waits-none : awaited v (by_writer b) ≡ []
  waits-none = ap (λ (y : Writing). map as_pending y.known.stream.unacked) a.writer ∙ ap (map as_pending) unacked

  acks-none : acks_left v c ≡ []
  acks-none = ap (λ (m : Marks). acks_in (drop m.taken (v.ups c))) up-marks ∙ ap (λ (ms : List Message). acks_in (drop 0 ms)) ups-none

  packets-none : packets_left v c ≡ []
  packets-none = ap (λ (m : Marks). packets_in (drop m.taken (v.downs c))) down-marks ∙ ap (λ (ms : List Message). packets_in (drop 0 ms)) downs

  carries : Carries v c f rule (by_writer b) idle
  carries = record {
    flows = flows-same [] (awaited v (by_writer b)) [] (acks_left v c) [] [] [] (packets_left v c) false waits-none acks-none refl packets-none flows-none;
    reaches = subst (λ (ps : List Packet). Leads rule (first_reach (promised f)) ps (reach_above v (by_writer b))) (sym packets-none) (reach ∙ sym (ap (λ (y : Writing). reach_of y.known) a.writer));
    ruled = ap (λ (y : Writing). Some y.known.stream.rule) a.writer ∙ ap (λ (z : Rule). Some z) ruled;
  }

  new-link : Link v c
  new-link = link-of v c f rule (by_writer b) idle upper lower below asks (λ _. ap (λ (y : Writing). y.conn) a.writer ∙ conn) (λ _. carries)

  -- All connections, with the new one.
  pub dials-links : Links v
  dials-links k lk = go (split k (subst (λ (i : ℕ). k < i) conns lk.known))
    where
      split : (i : ℕ) → i < u.next_conn + 1 → (i < u.next_conn) ⊎ (i ≡ u.next_conn)
      split i lt = grind (arith, lt)

      go : (k < u.next_conn) ⊎ (k ≡ u.next_conn) → Link v k
      go (inr e) = subst (λ (i : ℕ). Link v i) (sym e) new-link
      go (inl lt) = conn-kept u v b new placed links a k (piped-before u v k lt (a.dialled k lt) lk) (old k lt) (record {
        onward = λ x. absurd (none-some k (sym none ∙ x));
        back = λ x. let same : u.next_conn ≡ k = same_Some u.next_conn k (sym conn ∙ x) in absurd (omega (arith, lt, same));
        stream = λ x. absurd (none-some k (sym none ∙ x));
      })
