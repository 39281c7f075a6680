-- How long a member's answers are at most.
use Rattle.std.proofs.Common.{◌≡◌, ◌==◌, ◌≤◌, ◌<◌, ◌+◌, ◌-◌, ◌/◌, ◌%◌, ◌^◌, ℕ, zero, suc, Bool, true, false, nat_le, nat_lt, if◌then◌else◌, List, [], ◌∷◌, ◌++◌, length, Option, Some, None, Result, Ok, Err, refl, ap, sym, ◌∙◌, subst, arith, length-append, decimal}
use Rattle.std.proofs.lemmas.Bool.Decides.{nat_tests}
use Rattle.std.specs.Option.{option_or}
use Rattle.std.proofs.lemmas.Bool.{lt-ltb, ltb-true}
use Rattle.std.proofs.lemmas.Fmt.{length-decimal-le}
use Rattle.hd_base.specs.Results.{with_cause, with_value}
use Rattle.proto_fields.specs.Frames.{limit}
use Rattle.proto_fields.specs.Varint.{least_varint, least_within}
use Rattle.proto_fields.specs.Inner.{joined, FindsInner, text_of}
use Rattle.proto_fields.specs.Values.{picked, last_of, last_part, part_bytes, varint_of, part_of}
use Rattle.proto_fields.specs.Writing.{varint_field, bytes_field, tag_text}
use Rattle.proto_fields.specs.declared.reading.Wire.{Wire}
use Rattle.proto_fields.specs.declared.reading.Wire.TheVariants as wire
use Rattle.pipe_setup.specs.AckCodec.Response.{Response}
use Rattle.pipe_setup.specs.AckCodec.Responses.{SaysResponse, decoded_parts}
use Rattle.pipe_setup.specs.AckCodec.ResponseTexts.{response_message, response_text, body_text, reason_text}
use Rattle.op_headers.specs.Paths.{Path, below, both}
use Rattle.op_headers.specs.Tables.{Below, uint32, Required, number_of, texts_under, decoded_field, decoded_message, more, EachSays, Says, DecodedFields}
use Rattle.op_headers.specs.Formats.{write_format, write_from, node_format, node_from, identity_format, identity_table, identity_from}
use Rattle.op_headers.specs.Values.{WriteFields}
use Rattle.op_headers.specs.declared.nodes.NodeRef.{NodeRef}
use Rattle.replica_core.specs.Refusals.{refusal_number}
use Rattle.replica_core.specs.declared.refusals.Refusal.{Refusal}
use Rattle.replica_core.specs.declared.refusals.Refusal.TheVariants as refusal
use Rattle.pipe_setup.specs.RequestRefusals.RequestRefusal.{RequestRefusal}
use Rattle.pipe_setup.specs.RequestRefusals.RequestRefusal.TheVariants as request
use Rattle.pipe_setup.specs.RequestRefusals.Texts.{request_refusal_number, refusal_text, values_text, spaced}
use Rattle.pipe_setup.specs.MemberCore.SetupAnswer.TheVariants as answer
use Rattle.pipe_setup.specs.MemberCore.Requests.{response_of, failing, first_address}
use Rattle.pipe_turns.specs.Acting.{sized_response}
use Rattle.pipe_member.specs.Answering.{IsWritten, IsRead, UnreachedIsWritten, BelowIsWritten, max_values}
use Rattle.pipe_member.proofs.FieldSizes.{sized, least_of, all_sizes, there, picks_varint, picks_part, picks_number, part_size, trans_le, cut_size, text_size, joined_size, first_size}

-- ---- a response within the limit

by_fit : (r : Response) (b : Bool) → b ≡ true → (if b then Some (response_text r) else None) ≡ Some (response_text r)
by_fit r true is = refl
by_fit r false is = cc

fits : (r : Response) → length (response_message r) ≤ limit → sized_response r ≡ Some (response_text r)
fits r h = by_fit r (nat_le (length (response_message r)) limit) (grind (arith, nat_tests))

-- ---- varints

least_mono : (left a b : ℕ) → a ≤ b → length (least_within left a) ≤ length (least_within left b)
unfolding least_within
least_mono zero a b h = omega arith
least_mono (suc left) a b h = by_tests (nat_lt a 128) (nat_lt b 128) (grind (arith, nat_tests)) (least_mono left (a / 128) (b / 128) (omega arith)) where
  by_tests : (x y : Bool) → (y ≡ true → x ≡ true) → length (least_within left (a / 128)) ≤ length (least_within left (b / 128))
      → length (if x then a ∷ [] else (a % 128 + 128) ∷ least_within left (a / 128)) ≤ length (if y then b ∷ [] else (b % 128 + 128) ∷ least_within left (b / 128))
  by_tests true true k later = omega arith
  by_tests true false k later = omega arith
  by_tests false true k later = let e : false ≡ true = k refl in cc
  by_tests false false k later = omega arith

three : length (least_varint 65536) ≡ 3
unfolding least_within
three = refl

one : length (least_varint 127) ≡ 1
unfolding least_within
one = refl

none_is : length (least_varint 0) ≡ 1
unfolding least_within
none_is = refl

within_three : (n : ℕ) → n ≤ 65536 → length (least_varint n) ≤ 3
within_three n h = trans_le _ _ _ (least_mono 10 n 65536 h) (omega (arith, three))

within_one : (n : ℕ) → n ≤ 127 → length (least_varint n) ≤ 1
within_one n h = trans_le _ _ _ (least_mono 10 n 127 h) (omega (arith, one))

at_least_one : (n : ℕ) → 1 ≤ length (least_varint n)
at_least_one n = trans_le _ _ _ (omega (arith, none_is)) (least_mono 10 0 n (omega arith))

-- ---- a response of an error

status_size : length (varint_field 1 1) ≡ 2
unfolding varint_field tag_text least_within
status_size = refl

short_tag : (n : ℕ) → n < 128 → length (least_varint n) ≡ 1
unfolding least_within
short_tag n h = rw (lt-ltb n 128 h) refl

bad_size : (bad : List ℕ) → length (bytes_field 2 bad) ≡ 1 + sized (length bad)
unfolding bytes_field tag_text
bad_size bad = omega (arith, length-append (least_varint 18) (least_varint (length bad) ++ bad), length-append (least_varint (length bad)) bad, short_tag 18 (omega arith))

why_size : (b : ℕ) (bs : List ℕ) → length (bytes_field 5 (b ∷ bs)) ≡ 1 + sized (length (b ∷ bs))
unfolding bytes_field tag_text
why_size b bs = omega (arith, length-append (least_varint 42) (least_varint (length (b ∷ bs)) ++ (b ∷ bs)), length-append (least_varint (length (b ∷ bs))) (b ∷ bs), short_tag 42 (omega arith))

reason_size : (why : List ℕ) → length (reason_text why) ≤ 1 + sized (length why)
unfolding reason_text
reason_size [] = omega arith
reason_size (b ∷ bs) = omega (arith, why_size b bs)

failing_size : (bad why : List ℕ) → length (response_message (failing bad why)) ≤ 2 + (1 + sized (length bad)) + length (reason_text why)
unfolding response_message body_text
failing_size bad why = omega (arith, length-append (varint_field 1 1) (bytes_field 2 bad ++ reason_text why), length-append (bytes_field 2 bad) (reason_text why), status_size, bad_size bad)

failing_alone : (bad : List ℕ) → length (response_message (failing bad [])) ≤ 3 + sized (length bad)
unfolding reason_text
failing_alone bad = let h : length (response_message (failing bad [])) ≤ 2 + (1 + sized (length bad)) + length (reason_text []) = failing_size bad [] in omega arith

-- ---- success

pub success_fits : (op : WriteFields) → IsWritten op answer.Success
unfolding response_of response_message body_text reason_text varint_field bytes_field tag_text least_within
success_fits op = refl

-- ---- what a mirror named

module _ (r : Response) (message : List ℕ) (s : SaysResponse r message) where
  status_there : (o : Option ℕ) → s.found.status ≡ o → (x : ℕ) × (o ≡ Some x)
  unfolding decoded_parts
  status_there (Some x) is = (x, refl)
  status_there None is = let h = rw is at s.decoded_is in cc

  bad_there : (o : Option (ℕ × ℕ)) (k : ℕ) → last_part 2 s.finds.fields ≡ o → 2 + least_of 2 s.finds.fields ≤ k → 4 ≤ k → 3 + sized (length (text_of message o)) ≤ k
  bad_there None k is h four = omega (arith, none_is)
  bad_there (Some p) k is h four =
      let cut : length (part_bytes message p) ≤ p.1 - p.0 = cut_size message p.0 p.1 in
      let tags : length (least_varint (length (part_bytes message p))) ≤ length (least_varint (p.1 - p.0)) = least_mono 10 _ _ cut in
      let size : 1 + sized (p.1 - p.0) ≤ least_of 2 s.finds.fields = there part_of part_size 2 s.finds.fields p picks_part is in
      omega arith

  bad_short : length message ≤ limit → length (response_message (failing r.first_bad [])) ≤ limit
  bad_short few =
      let status : (x : ℕ) × (s.found.status ≡ Some x) = status_there s.found.status refl in
      let two : 2 ≤ least_of 1 s.finds.fields = there varint_of (λ x. 2) 1 s.finds.fields status.0 picks_varint (sym s.finds.status_is ∙ status.1) in
      let bad : r.first_bad ≡ text_of message (last_part 2 s.finds.fields) = ap (λ (x : Response). x.first_bad) s.response_is ∙ ap (text_of message) s.finds.first_bad_is in
      let room : 2 + least_of 2 s.finds.fields ≤ limit = omega (arith, all_sizes 0 s.finds.fields message s.finds.spelled) in
      let size : 3 + sized (length r.first_bad) ≤ limit = subst (λ (t : List ℕ). 3 + sized (length t) ≤ limit) (sym bad) (bad_there (last_part 2 s.finds.fields) limit refl room (omega arith)) in
      trans_le _ _ _ (failing_alone r.first_bad) size

pub below_fits : (op : WriteFields) → BelowIsWritten op
unfolding response_of
below_fits op r message s few = fits (failing r.first_bad []) (bad_short r message s few)

-- ---- what a message says

both_ok : {A B : Type 0} (a : Result A Path) (b : Result B Path) (v : A × B) → both a b ≡ Ok v → (a ≡ Ok v.0) × (b ≡ Ok v.1)
both_ok (Ok a) (Ok b) v is = (cc, cc)
both_ok (Ok a) (Err p) v is = cc
both_ok (Err p) b v is = cc

mapped_ok : {A B : Type 0} (f : A → B) (a : Result A Path) (y : B) → Ok y ≡ with_value f a → (x : A) × (a ≡ Ok x) × (y ≡ f x)
mapped_ok f (Ok x) y is = (x, refl, cc)
mapped_ok f (Err p) y is = cc

caused_ok : {A : Type 0} (f : Path → Path) (a : Result A Path) (x : A) → with_cause f a ≡ Ok x → a ≡ Ok x
caused_ok f (Ok y) x is = is
caused_ok f (Err p) x is = cc

needed : {X : Type 0} (number : ℕ) (o : Option X) (x : X) → decoded_field {X = X} Required number o ≡ Ok x → o ≡ Some x
needed number (Some y) x is = cc
needed number None x is = cc

-- a message within that must be there
within : {X : Type 0} (says : List ℕ → Result X Path → Type 0) (number : ℕ) (o : Option (List ℕ)) (x : Option (Result X Path)) (v : X) → FindsInner says o x → decoded_message {X = X} Required number x ≡ Ok v
    → (whole : List ℕ) × (o ≡ Some whole) × says whole (Ok v)
within {X} says number None x v finds is = let h = subst (λ (y : Option (Result X Path)). decoded_message {X = X} Required number y ≡ Ok v) finds is in cc
within {X} says number (Some whole) x v finds is = by_inner finds.0 finds.2 (subst (λ (y : Option (Result X Path)). decoded_message {X = X} Required number y ≡ Ok v) finds.1 is) where
  by_inner : (y : Result X Path) → says whole y → decoded_message {X = X} Required number (Some y) ≡ Ok v → (w : List ℕ) × (◌≡◌ {A = Option (List ℕ)} (Some whole) (Some w)) × says w (Ok v)
  by_inner (Ok z) said is = let same : z ≡ v = cc in (whole, refl, subst (λ (y : X). says whole (Ok y)) same said)
  by_inner (Err p) said is = cc

-- the first of several messages within
first_within : {X : Type 0} (says : List ℕ → Result X Path → Type 0) (texts : List (List ℕ)) (xs : Result (List X) Path) (t : X) (ts : List X) → EachSays says texts xs → xs ≡ Ok (t ∷ ts)
    → (b : List ℕ) × (bs : List (List ℕ)) × (texts ≡ b ∷ bs) × says b (Ok t)
first_within says [] xs t ts each is = let h = sym each ∙ is in cc
first_within {X} says (b ∷ bs) xs t ts each is = by_first each.0 each.2 each.1 (sym each.4 ∙ is) where
  by_first : (x : Result X Path) (later : Result (List X) Path) → says b x → more x later ≡ Ok (t ∷ ts) → (c : List ℕ) × (cs : List (List ℕ)) × (◌≡◌ {A = List (List ℕ)} (b ∷ bs) (c ∷ cs)) × says c (Ok t)
  by_first (Ok y) (Ok ys) said is = let same : y ≡ t = cc in (b, bs, refl, subst (λ (z : X). says b (Ok z)) same said)
  by_first (Ok y) (Err p) said is = cc
  by_first (Err p) later said is = cc

-- a number is below its bound
last_small : (number bound : ℕ) (fs : List (ℕ × Wire)) (x : ℕ) → last_of (number_of (Below bound)) number fs ≡ Some x → x < bound
last_small number bound [] x is = cc
last_small number bound (f ∷ fs) x is = by_rest (last_of (number_of (Below bound)) number fs) (λ y h. last_small number bound fs y h) is where
  by_value : (v : Wire) → number_of (Below bound) v ≡ Some x → x < bound
  by_value (wire.Varint n) is = by_bound (nat_lt (n % 2 ^ 32) bound) refl is where
    by_bound : (b : Bool) → nat_lt (n % 2 ^ 32) bound ≡ b → (if b then Some (n % 2 ^ 32) else None) ≡ Some x → x < bound
    by_bound true h is = let same : n % 2 ^ 32 ≡ x = cc in subst (λ (y : ℕ). y < bound) same (ltb-true _ _ h)
    by_bound false h is = cc
  by_value (wire.Eight n) is = cc
  by_value (wire.Part from to) is = cc
  by_value (wire.Four n) is = cc

  by_test : (b : Bool) → (if b then number_of (Below bound) f.1 else None) ≡ Some x → x < bound
  by_test true is = by_value f.1 is
  by_test false is = cc

  by_rest : (rest : Option ℕ) → ((y : ℕ) → rest ≡ Some y → y < bound) → option_or rest (picked (number_of (Below bound)) number f) ≡ Some x → x < bound
  by_rest (Some y) h is = let same : y ≡ x = cc in subst (λ (z : ℕ). z < bound) same (h y refl)
  by_rest None h is = by_test (f.0 == number) is

-- ---- a node in a request

module _ (bytes : List ℕ) (decoded : Result (DecodedFields identity_table) Path) (s : Says identity_table bytes decoded) (v : DecodedFields identity_table) (is : decoded ≡ Ok v) where
  identity_size : (length v.0 + 12 ≤ length bytes) × (v.1.1.1.0 < 2 ^ 32)
  identity_size =
      let a = both_ok _ _ v (sym s.rows.2 ∙ is) in
      let b = both_ok _ _ v.1 (sym s.rows.1.2 ∙ a.1) in
      let c = both_ok _ _ v.1.1 (sym s.rows.1.1.2 ∙ b.1) in
      let d = both_ok _ _ v.1.1.1 (sym s.rows.1.1.1.2 ∙ c.1) in
      let e = both_ok _ _ v.1.1.1.1 (sym s.rows.1.1.1.1.2 ∙ d.1) in
      let f = both_ok _ _ v.1.1.1.1.1 (sym s.rows.1.1.1.1.1.2 ∙ e.1) in
      let port : last_of (number_of uint32) 4 s.fields ≡ Some v.1.1.1.0 = needed 4 _ _ d.0 in
      let ip : 2 + length v.0 ≤ least_of 1 s.fields = text_size bytes s.fields 1 v.0 (needed 1 _ _ a.0) in
      let host : 2 + length v.1.0 ≤ least_of 2 s.fields = text_size bytes s.fields 2 v.1.0 (needed 2 _ _ b.0) in
      let uuid : 2 + length v.1.1.0 ≤ least_of 3 s.fields = text_size bytes s.fields 3 v.1.1.0 (needed 3 _ _ c.0) in
      let xfer : 2 ≤ least_of 4 s.fields = there (number_of uint32) (λ x. 2) 4 s.fields v.1.1.1.0 (picks_number uint32) port in
      let info : 2 ≤ least_of 5 s.fields = there (number_of uint32) (λ x. 2) 5 s.fields v.1.1.1.1.0 (picks_number uint32) (needed 5 _ _ e.0) in
      let ipc : 2 ≤ least_of 6 s.fields = there (number_of uint32) (λ x. 2) 6 s.fields v.1.1.1.1.1.0 (picks_number uint32) (needed 6 _ _ f.0) in
      (omega (arith, all_sizes 0 s.fields bytes s.spelled), last_small 4 (2 ^ 32) s.fields v.1.1.1.0 port)

node_room : (bytes : List ℕ) (t : NodeRef) → node_format.says bytes (Ok t) → (length t.ip + 14 ≤ length bytes) × (t.xfer < 2 ^ 32)
unfolding node_format identity_format
node_room bytes t s =
    let d = mapped_ok node_from s.decoded t s.value_is in
    let a = both_ok _ _ d.0 (sym s.says.rows.4 ∙ d.1) in
    let w = within identity_format.says 1 (joined 1 bytes s.says.fields) s.says.rows.0 d.0.0 s.says.rows.1 a.0 in
    let i = mapped_ok identity_from w.2.decoded d.0.0 w.2.value_is in
    let size = identity_size w.0 w.2.decoded w.2.says i.0 i.1 in
    let inside : 2 + length w.0 ≤ least_of 1 s.says.fields = joined_size bytes s.says.fields 1 w.0 w.1 in
    let node : t ≡ node_from (identity_from i.0, tt) = d.2 ∙ ap (λ x. node_from (x, tt)) i.2 in
    subst (λ (n : NodeRef). (length n.ip + 14 ≤ length bytes) × (n.xfer < 2 ^ 32)) (sym node) (omega (arith, size.0, all_sizes 0 s.says.fields bytes s.says.spelled), size.1)

write_room : (op : WriteFields) (message : List ℕ) (t : NodeRef) (ts : List NodeRef) → write_format.says message (Ok op) → op.targets ≡ t ∷ ts → (length t.ip + 18 ≤ length message) × (t.xfer < 2 ^ 32)
unfolding write_format
write_room op message t ts s is =
    let d = mapped_ok write_from s.decoded op s.value_is in
    let a = both_ok _ _ d.0 (sym s.says.rows.4 ∙ d.1) in
    let b = both_ok _ _ d.0.1 (sym s.says.rows.3.4 ∙ a.1) in
    let c = both_ok _ _ d.0.1.1 (sym s.says.rows.3.3.4 ∙ b.1) in
    let e = both_ok _ _ d.0.1.1.1 (sym s.says.rows.3.3.3.2 ∙ c.1) in
    let targets : d.0.1.0 ≡ t ∷ ts = sym (ap (λ (o : WriteFields). o.targets) d.2) ∙ is in
    let first = first_within node_format.says (texts_under 2 message s.says.fields) s.says.rows.3.0 t ts s.says.rows.3.1 (caused_ok (below 2) s.says.rows.3.0 d.0.1.0 b.0 ∙ ap Ok targets) in
    let node = node_room first.0 t first.3 in
    let inside : 2 + length first.0 ≤ least_of 2 s.says.fields = first_size message s.says.fields 2 first.0 first.1 first.2 in
    let stage : 2 ≤ least_of 4 s.says.fields = there (number_of (Below 9)) (λ x. 2) 4 s.says.fields d.0.1.1.1.0 (picks_number (Below 9)) (needed 4 _ _ e.0) in
    (omega (arith, node.0, all_sizes 0 s.says.fields message s.says.spelled), node.1)

-- ---- a mirror that couldn't be had

address_size : (t : NodeRef) (ts : List NodeRef) → t.xfer < 2 ^ 32 → length (first_address (t ∷ ts)) ≤ length t.ip + 11
address_size t ts small =
    let port : length (decimal t.xfer) ≤ 10 = length-decimal-le 10 t.xfer (omega arith) (omega arith) (omega arith) in
    omega (arith, length-append (t.ip ++ 58 ∷ []) (decimal t.xfer), length-append t.ip (58 ∷ []))

by_targets : (op : WriteFields) (ts : List NodeRef) → IsRead op → op.targets ≡ ts → length (response_message (failing (first_address ts) [])) ≤ limit
by_targets op [] read is = omega (arith, failing_alone [], none_is)
by_targets op (t ∷ ts) read is =
    let room = write_room op read.message t ts read.says is in
    let size : length (first_address (t ∷ ts)) ≤ length t.ip + 11 = address_size t ts room.1 in
    let tag : length (least_varint (length (first_address (t ∷ ts)))) ≤ 3 = within_three (length (first_address (t ∷ ts))) (omega (arith, room.0, read.within)) in
    omega (arith, failing_alone (first_address (t ∷ ts)), room.0, read.within)

pub unreached_fits : (op : WriteFields) → UnreachedIsWritten op
unfolding response_of
unreached_fits op read = fits (failing (first_address op.targets) []) (by_targets op op.targets read refl)

-- ---- a refusal

core_number : (why : Refusal) → refusal_number why < 100
core_number refusal.NoReplica = omega arith
core_number refusal.Exists = omega arith
core_number (refusal.WrongState state) = omega arith
core_number (refusal.Stale held low high) = omega arith
core_number (refusal.LengthOut acked written min max) = omega arith
core_number refusal.NotWriter = omega arith
core_number (refusal.Gap written offset) = omega arith
core_number (refusal.BadSum chunk) = omega arith
core_number (refusal.Piece rule) = omega arith
core_number refusal.Broken = omega arith
core_number (refusal.RecoveryHeld id) = omega arith
core_number (refusal.Seqno want got) = omega arith
core_number (refusal.OutOfRange visible) = omega arith

request_number : (why : RequestRefusal) → request_refusal_number why < 100
request_number (request.Core r) = core_number r
request_number (request.Stage n) = omega arith
request_number request.Pool = omega arith
request_number (request.Checksum k c) = omega arith
request_number request.File = omega arith
request_number request.Memory = omega arith
request_number (request.TooMany n) = omega arith

pub refused_fits : (op : WriteFields) (why : RequestRefusal) → length (values_text why) ≤ max_values → IsWritten op (answer.Refused why)
unfolding response_of
refused_fits op why h =
    let number : length (decimal (request_refusal_number why)) ≤ 2 = length-decimal-le 2 (request_refusal_number why) (omega arith) (omega (arith, request_number why)) (omega (arith, request_number why)) in
    let text : length (refusal_text why) ≤ 86 = omega (arith, length-append (decimal (request_refusal_number why)) (values_text why)) in
    let tag : length (least_varint (length (refusal_text why))) ≤ 1 = within_one (length (refusal_text why)) (omega arith) in
    fits (failing [] (refusal_text why)) (omega (arith, failing_size [] (refusal_text why), reason_size (refusal_text why), none_is))

pub two_short : (a b : List ℕ) → length a ≤ 21 → length b ≤ 21 → length (a ++ b) ≤ 42
two_short a b h k = omega (arith, length-append a b)

pub three_short : (a b c : List ℕ) → length a ≤ 21 → length b ≤ 21 → length c ≤ 21 → length ((a ++ b) ++ c) ≤ 63
three_short a b c h k l = omega (arith, length-append (a ++ b) c, two_short a b h k)

pub four_short : (a b c d : List ℕ) → length a ≤ 21 → length b ≤ 21 → length c ≤ 21 → length d ≤ 21 → length (((a ++ b) ++ c) ++ d) ≤ 84
four_short a b c d h k l m = omega (arith, length-append ((a ++ b) ++ c) d, three_short a b c h k l)

pub digit_short : (n : ℕ) → n < 10 → length (spaced n) ≤ 84
unfolding spaced
digit_short n h = omega (arith, length-decimal-le 1 n (omega arith) (omega arith) (omega arith))
