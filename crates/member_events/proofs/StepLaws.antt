-- What a member's step sends, in the world and as texts, and when a member is over.
use Rattle.std.proofs.Common.{◌≡◌, ◌≢◌, ◌<◌, ◌≤◌, ◌+◌, ◌^◌, ◌&&◌, ℕ, Bool, true, false, List, [], ◌∷◌, ◌++◌, length, map, Option, Some, None, slice_get, Ok, refl, sym, ap, ◌∙◌, arith}
use Rattle.std.specs.Prelude.{nat_le}
use Rattle.std.proofs.lemmas.Bool.Decides.{nat_tests}
use Rattle.std.proofs.lemmas.List.{length-append}
use Rattle.proto_fields.specs.Varint.{varint_at, least_varint}
use Rattle.proto_fields.specs.Frames.{limit}
use Rattle.proto_fields.specs.Framed.{FramesSome}
use Rattle.proto_fields.proofs.VarintLemmas.{read_varint_again, least_varint_spells}
use Rattle.pipe_member.specs.AckCodec.Response.{Response}
use Rattle.pipe_member.specs.AckCodec.Responses.{SaysResponse}
use Rattle.pipe_member.specs.AckCodec.ResponseTexts.{response_message, response_text}
use Rattle.op_headers.specs.Values.{WriteFields}
use Rattle.replica_core.specs.declared.ack_queue.TheConstants.{MAX_PENDING}
use Rattle.replica_core.specs.declared.refusals.Refusal.{Refusal}
use Rattle.replica_core.specs.declared.refusals.Refusal.TheVariants as refusal
use Rattle.pipe_member.specs.ReplicaModel.ReplicaEvent.{ReplicaEvent}
use Rattle.pipe_member.specs.ReplicaModel.ReplicaEvent.TheVariants as replica_event
use Rattle.pipe_member.specs.ReplicaModel.Rows.{FullReplica}
use Rattle.pipe_member.specs.MemberCore.Shuts.{Shuts}
use Rattle.pipe_member.specs.MemberCore.Shuts.TheVariants as shuts
use Rattle.pipe_member.specs.MemberCore.Upward.{Upward}
use Rattle.pipe_member.specs.MemberCore.Upward.TheVariants as upward
use Rattle.pipe_member.specs.MemberCore.Booked.{Booked}
use Rattle.pipe_member.specs.MemberCore.Booked.TheVariants as booked
use Rattle.pipe_member.specs.MemberCore.Side.{Side}
use Rattle.pipe_member.specs.MemberCore.Side.TheVariants as side
use Rattle.pipe_member.specs.MemberCore.Turn.{Turn}
use Rattle.pipe_member.specs.MemberCore.Members.{MemberState, settled, closed, closed_by, bad_sum, refused_turn, down_turn}
use Rattle.pipe_member.specs.MemberCore.Requests.{response_of}
use Rattle.pipe_member.specs.MemberCore.Steps.{step, outcome_of}
use Rattle.pipe_member.specs.PipeTurns.Acting.{texts_of, sized_response}
use Rattle.pipe_member.specs.PipeTurns.Turning.{CanBook}
use Rattle.pipe_member.specs.Stepping.{passed_text}
use Rattle.pipe_member.proofs.SteppingLemmas.{silent}
use Rattle.world_texts.specs.World.Parts.{Message, response, packet}
use Rattle.world_texts.specs.World.Worlds.{World, listed}
use Rattle.world_texts.specs.World.Connections.{Next, message, the_end}
use Rattle.world_texts.specs.World.Nodes.{above_of, sent_up, passed}
use Rattle.world_texts.specs.WorldNets.Rows.{text_of}
use Rattle.world_texts.specs.Texts.{SpellsText}
use Rattle.member_events.specs.Texts.{SpellUp, IsPacketNext}

-- WHAT GOES UP

-- a response that is spelled as it is written is within the limit
pub spelled_within : (bytes : List ℕ) (P : List ℕ → Type 0) → FramesSome P (least_varint (length bytes) ++ bytes) → length bytes < 2 ^ 64 → length bytes ≤ limit
spelled_within bytes P f fits =
    let one : varint_at (least_varint (length bytes) ++ bytes) ≡ Ok (length bytes, bytes) = read_varint_again (least_varint (length bytes)) (length bytes) bytes (least_varint_spells (length bytes) fits) in
    let two : varint_at (least_varint (length bytes) ++ bytes) ≡ Ok (length f.message, f.message) = ap varint_at f.parts ∙ read_varint_again f.prefix (length f.message) f.message f.spelled in
    let pair : (length bytes, bytes) ≡ (length f.message, f.message) = cc (one, two) in
    let same : length bytes ≡ length f.message = ap (λ (x : ℕ × List ℕ). x.0) pair in
    let few : length f.message ≤ limit = f.few in
    omega arith

pub fits_within : (bytes : List ℕ) (P : List ℕ → Type 0) → FramesSome P (least_varint (length bytes) ++ bytes) → length bytes < 2 ^ 64
fits_within bytes P f =
    let parts : length (least_varint (length bytes)) + length bytes ≡ length f.prefix + length f.message = sym (length-append (least_varint (length bytes)) bytes) ∙ (ap length f.parts ∙ length-append f.prefix f.message) in
    let few : length f.message ≤ limit = f.few in
    let short : length f.prefix ≤ 10 = f.spelled.short in
    omega arith

response_within : (r : Response) → SpellsText (response r) → length (response_message r) ≤ limit
response_within r h = spelled_within (response_message r) (SaysResponse r) h (fits_within (response_message r) (SaysResponse r) h)

sized : (r : Response) → length (response_message r) ≤ limit → listed (sized_response r) ≡ response_text r ∷ []
sized r h = let test : nat_le (length (response_message r)) limit ≡ true = grind (arith, nat_tests) in rw test refl

pub last_of : {A : Type 0} (xs : List A) (x : A) → slice_get (xs ++ x ∷ []) (length xs) ≡ Some x
last_of [] x = refl
last_of (y ∷ xs) x = last_of xs x

-- What is sent up is its text, where all that was sent up is spelled.
pub sent_texts : (v : World) (c : ℕ) (before : List Message) (fields : WriteFields) (sends : Option Upward) → SpellUp v c → v.ups c ≡ before ++ sent_up fields sends → map text_of (sent_up fields sends) ≡ listed (texts_of fields sends)
sent_texts v c before fields None spelled is = refl
sent_texts v c before fields (Some (upward.Ack a)) spelled is = refl
sent_texts v c before fields (Some (upward.Answer a)) spelled is =
    sym (sized (response_of fields a) (response_within (response_of fields a)
    (spelled (length before) (response (response_of fields a)) (ap (λ (ms : List Message). slice_get ms (length before)) is ∙ last_of before (response (response_of fields a))))))

-- WHAT GOES ON

-- What is sent on of what came from above is its text.
pub down_texts : (m : MemberState) (x : Next) (forwards : Bool) → IsPacketNext x → map text_of (passed forwards x) ≡ listed (passed_text (down_turn m (above_of x)).call forwards)
down_texts m (message (packet p)) true h = refl
down_texts m (message (packet p)) false h = refl
down_texts m (message other) forwards h = absurd h
down_texts m the_end true h = refl
down_texts m the_end false h = refl

none_on : (n : ℕ) → n < n → ⊥
none_on n h = omega arith

-- a turn that books no packet sends none on
pub quiet_text : (call : Option ReplicaEvent) (forwards : Bool) → ((n : ℕ) → CanBook n call) → passed_text call forwards ≡ None
quiet_text None forwards can = refl
quiet_text (Some (replica_event.Packet conn p)) forwards can = absurd (none_on MAX_PENDING (can MAX_PENDING).0)
quiet_text (Some (replica_event.Other x)) forwards can = refl

pub passed_none : (x : Next) (forwards : Bool) → forwards ≡ false → passed forwards x ≡ []
passed_none x true h = cc
passed_none x false h = refl

pub passed_end : (forwards : Bool) → passed forwards the_end ≡ []
passed_end true = refl
passed_end false = refl

settled_still : (m : MemberState) (t : Turn) (b : Booked) → t.effect.forwards ≡ false → (settled m t b).1.forwards ≡ false
settled_still m t booked.Taken h = h
settled_still m t booked.Failed h = refl
settled_still m t (booked.Refused why) h = (silent m t (booked.Refused why) (λ e. cc)).1

pub step_still : (m : MemberState) (r : FullReplica) (t : Turn) → t.effect.forwards ≡ false → (step m r t).effect.forwards ≡ false
step_still m r t h = settled_still m t (outcome_of r t.call) h

-- WHO IS OVER

abbrev pub is_over_by : MemberState → Bool
is_over_by m = m.receives && m.responds

never_both : (b : Bool) → (b && false) ≡ false
never_both true = refl
never_both false = refl

closed_over : (at : Side) (m : MemberState) → is_over_by (closed at m) ≡ false
closed_over side.Receiver m = refl
closed_over side.Responder m = never_both m.receives

shut_over : (s : Shuts) (at : Side) (m : MemberState) → s ≢ shuts.Nothing → is_over_by (closed_by s at m) ≡ false
shut_over shuts.Nothing at m h = absurd (h refl)
shut_over shuts.Mirror at m h = closed_over at m
shut_over shuts.Both at m h = closed_over at m

bad_over : (m : MemberState) (call : Option ReplicaEvent) (t : Turn) → (bad_sum m call t).1.shuts ≢ shuts.Nothing → is_over_by (bad_sum m call t).0 ≡ false
bad_over m None t h = closed_over t.side m
bad_over m (Some (replica_event.Packet conn p)) t h = absurd (h refl)
bad_over m (Some (replica_event.Other e)) t h = closed_over t.side m

refused_over : (m : MemberState) (t : Turn) (why : Refusal) → (refused_turn m t why).1.shuts ≢ shuts.Nothing → is_over_by (refused_turn m t why).0 ≡ false
refused_over m t (refusal.BadSum chunk) h = bad_over m t.call t h
refused_over m t why h = closed_over t.side m

pub settled_over : (m : MemberState) (t : Turn) (b : Booked) → (settled m t b).1.shuts ≢ shuts.Nothing → is_over_by (settled m t b).0 ≡ false
settled_over m t booked.Taken h = shut_over t.effect.shuts t.side (record m { mirror = t.mirror }) h
settled_over m t (booked.Refused why) h = refused_over m t why h
settled_over m t booked.Failed h = closed_over t.side m

-- A member whose step shuts something no longer acts on one side.
pub step_over : (m : MemberState) (r : FullReplica) (t : Turn) → (step m r t).effect.shuts ≢ shuts.Nothing → is_over_by (step m r t).member ≡ false
step_over m r t h = settled_over m t (outcome_of r t.call) h

-- WHO GOES ON

open_on : (s : Shuts) (at : Side) (m : MemberState) → s ≡ shuts.Nothing → is_over_by (closed_by s at m) ≡ is_over_by m
open_on shuts.Nothing at m h = refl
open_on shuts.Mirror at m h = cc
open_on shuts.Both at m h = cc

bad_on : (m : MemberState) (call : Option ReplicaEvent) (t : Turn) → (bad_sum m call t).1.shuts ≡ shuts.Nothing → is_over_by (bad_sum m call t).0 ≡ is_over_by m
bad_on m None t h = cc
bad_on m (Some (replica_event.Packet conn p)) t h = refl
bad_on m (Some (replica_event.Other e)) t h = cc

refused_on : (m : MemberState) (t : Turn) (why : Refusal) → (refused_turn m t why).1.shuts ≡ shuts.Nothing → is_over_by (refused_turn m t why).0 ≡ is_over_by m
refused_on m t (refusal.BadSum chunk) h = bad_on m t.call t h
refused_on m t why h = cc

settled_on : (m : MemberState) (t : Turn) (b : Booked) → (settled m t b).1.shuts ≡ shuts.Nothing → is_over_by (settled m t b).0 ≡ is_over_by m
settled_on m t booked.Taken h = open_on t.effect.shuts t.side (record m { mirror = t.mirror }) h
settled_on m t (booked.Refused why) h = refused_on m t why h
settled_on m t booked.Failed h = cc

-- A member whose step shuts nothing goes on with the sides that acted.
pub step_on : (m : MemberState) (r : FullReplica) (t : Turn) → (step m r t).effect.shuts ≡ shuts.Nothing → is_over_by (step m r t).member ≡ is_over_by m
step_on m r t h = settled_on m t (outcome_of r t.call) h
