-- The written spelling of an ack: how long it is, and that it spells the ack.
use Rattle.std.proofs.Common.{◌≡◌, ◌==◌, ℕ, suc, ◌+◌, ◌-◌, ◌*◌, ◌/◌, ◌%◌, ◌^◌, ◌<◌, ◌≤◌, List, [], ◌∷◌, ◌++◌, length, map, take, drop, get_or, None, subst, refl, sym, ap, ◌∙◌, arith, append_assoc, append-nil, length-append, true, false, ℤ, pos, negsuc}
use Rattle.std.specs.Prelude.{All}
use Rattle.std.specs.List.{flat_map}
use Rattle.std.proofs.lemmas.List.{length-map, take_more}
use Rattle.std.proofs.lemmas.List.Elements.{All-push}
use Rattle.std.proofs.lemmas.Bool.Decides.{nat_tests}
use Rattle.hd_base.specs.declared.states.Status.{Status}
use Rattle.hd_base.specs.Wire.{IsStatus, status_number}
use Rattle.proto_fields.specs.declared.reading.Wire.{Wire}
use Rattle.proto_fields.specs.declared.reading.Wire.TheVariants as wire
use Rattle.proto_fields.specs.declared.reading.WireType.TheVariants as wire_type
use Rattle.proto_fields.specs.Varint.{SpellsVarint, least_varint}
use Rattle.proto_fields.specs.Fields.{SpellsFrom, Spells}
use Rattle.proto_fields.specs.Values.{last_varint}
use Rattle.proto_fields.specs.Writing.{tag_text, varint_field}
use Rattle.proto_fields.proofs.VarintLemmas.{least_within_spells, least_varint_spells, least_varint_least, least_varint-last}
use Rattle.proto_fields.proofs.WrittenLemmas.{varint_field_spells, SpellsFrom-cons}
use Rattle.ack_codec.specs.declared.acks.Ack.{Ack}
use Rattle.hd_base.specs.Wire.{decoded_status}
use Rattle.ack_codec.specs.Packed.{Repeats}
use Rattle.ack_codec.specs.Acks.{unzigzag, SaysAck, SpellsAck}
use Rattle.ack_codec.specs.AckTexts.{zigzag, reply_text, ack_message, ack_text}
use Rattle.proto_fields.proofs.StatusLemmas.{decoded_status_number}

-- ---- lengths

-- a number of so many times seven bits takes at most so many bytes
least_varint_few : (left n : ℕ) → n < 128 ^ left → 0 < left → left ≤ 10 → 128 ^ left ≤ 2 ^ 70 → n < 2 ^ 64 → length (least_varint n) ≤ left
least_varint_few left n fits some most room low =
    let s = least_within_spells left n fits some in
    let spelled : SpellsVarint _ n = record { shape = s.shape; short = omega (arith, s.few); value = omega (arith, s.value) } in
    omega (arith, s.few, least_varint_least _ n spelled)

tag_few : (field : ℕ) → field < 16 → length (tag_text field wire_type.Varint) ≡ 1
unfolding tag_text
tag_few field few = ap length (least_varint-last (field * 8 + 0) (omega arith))

-- a field with a number of 32 bits, and with one of 64
pub varint_field_few : (field n : ℕ) → field < 16 → n < 2 ^ 32 → length (varint_field field n) ≤ 6
unfolding varint_field
varint_field_few field n few low =
    omega (arith, length-append (tag_text field wire_type.Varint) (least_varint n), tag_few field few, least_varint_few 5 n (omega arith) (omega arith) (omega arith) (omega arith) (omega arith))

pub varint_field_most : (field n : ℕ) → field < 16 → n < 2 ^ 64 → length (varint_field field n) ≤ 11
unfolding varint_field
varint_field_most field n few low =
    omega (arith, length-append (tag_text field wire_type.Varint) (least_varint n), tag_few field few, (least_varint_spells n low).short)

-- one reply more
flat_map-snoc : {X A : Type 0} (f : X → List A) (xs : List X) (x : X) → flat_map f (xs ++ x ∷ []) ≡ flat_map f xs ++ f x
flat_map-snoc f [] x = append-nil (f x)
flat_map-snoc f (y ∷ ys) x = ap (λ l. f y ++ l) (flat_map-snoc f ys x) ∙ sym (append_assoc (f y) (flat_map f ys) (f x))

pub reply_more : (items : List Status) (i : ℕ) (d : Status) (n : ℕ) (a b out new : List ℕ) → i < length items → n ≡ status_number (get_or items i d) → out ≡ a ++ (b ++ flat_map reply_text (take i items)) → new ≡ out ++ varint_field 2 n → new ≡ a ++ (b ++ flat_map reply_text (take (i + 1) items))
unfolding reply_text
reply_more items i d n a b out new within is before after =
    let texts : List ℕ = flat_map reply_text (take i items) in
    let here : List ℕ = reply_text (get_or items i d) in
    let all : flat_map reply_text (take (i + 1) items) ≡ texts ++ here = ap (flat_map reply_text) (take_more items i d within) ∙ flat_map-snoc reply_text (take i items) (get_or items i d) in
    after
    ∙ (ap (λ m. out ++ varint_field 2 m) is
    ∙ (ap (λ l. l ++ here) before
    ∙ (append_assoc a (b ++ texts) here
    ∙ (ap (λ l. a ++ l) (append_assoc b texts here)
    ∙ ap (λ l. a ++ (b ++ l)) (sym all)))))

pub low_more : (items : List Status) (i : ℕ) (d : Status) → i < length items → status_number (get_or items i d) < 2 ^ 32 → All (λ s. status_number s < 2 ^ 32) (take i items) → All (λ s. status_number s < 2 ^ 32) (take (i + 1) items)
low_more items i d within here low =
    subst (λ (l : List Status). All (λ s. status_number s < 2 ^ 32) l) (sym (take_more items i d within)) (All-push (λ s. status_number s < 2 ^ 32) (take i items) (get_or items i d) low here)

-- The first byte is the length of what stands behind it.
pub length_first : (message out new : List ℕ) (n : ℕ) → out ≡ 0 ∷ message → n ≡ length out - 1 → length message < 128 → new ≡ n ∷ drop 1 out → new ≡ least_varint (length message) ++ message
length_first message out new n before is few after =
    let size : n ≡ length message = is ∙ (ap (λ l. length l - 1) before ∙ omega arith) in
    after
    ∙ (ap (λ l. n ∷ drop 1 l) before
    ∙ (ap (λ m. m ∷ message) size
    ∙ ap (λ l. l ++ message) (sym (least_varint-last (length message) few))))

-- ---- the fields of a written ack

reply_field : Status → ℕ × Wire
reply_field s = (2, wire.Varint (status_number s))

fields_of : ℤ → List Status → List (ℕ × Wire)
fields_of seqno replies = (1, wire.Varint (zigzag seqno)) ∷ map reply_field replies

spells_replies : (at : ℕ) (ss : List Status) → All (λ s. status_number s < 2 ^ 32) ss → SpellsFrom at (map reply_field ss) (flat_map reply_text ss)
unfolding reply_text reply_field
spells_replies at [] low = refl
spells_replies at (s ∷ ss) low =
    let here : status_number s < 2 ^ 32 = low 0 s (omega arith) in
    SpellsFrom-cons at (2, wire.Varint (status_number s)) (map reply_field ss) (varint_field 2 (status_number s)) (flat_map reply_text ss)
    (varint_field_spells at 2 (status_number s) (omega arith) (omega arith) (omega arith))
    (spells_replies (at + length (varint_field 2 (status_number s))) ss (λ k d within. low (suc k) d (omega arith)))

spells_fields : (ack : Ack) → zigzag ack.seqno < 2 ^ 64 → All (λ s. status_number s < 2 ^ 32) ack.replies → Spells (fields_of ack.seqno ack.replies) (ack_message ack)
unfolding ack_message fields_of
spells_fields ack fits low =
    SpellsFrom-cons 0 (1, wire.Varint (zigzag ack.seqno)) (map reply_field ack.replies) (varint_field 1 (zigzag ack.seqno)) (flat_map reply_text ack.replies)
    (varint_field_spells 0 1 (zigzag ack.seqno) (omega arith) (omega arith) fits)
    (spells_replies (0 + length (varint_field 1 (zigzag ack.seqno))) ack.replies low)

-- replies have no seqno, and each is one number
no_seqno : (ss : List Status) → last_varint 1 (map reply_field ss) ≡ None
unfolding reply_field
no_seqno [] = refl
no_seqno (s ∷ ss) = rw (no_seqno ss) refl

repeats_replies : (bytes : List ℕ) (ss : List Status) → Repeats 2 bytes (map reply_field ss) (map status_number ss)
unfolding reply_field
repeats_replies bytes [] = refl
repeats_replies bytes (s ∷ ss) = (status_number s ∷ [], map status_number ss, refl, refl, repeats_replies bytes ss)

no_flags : (bytes : List ℕ) (ss : List Status) → Repeats 4 bytes (map reply_field ss) []
unfolding reply_field
no_flags bytes [] = refl
no_flags bytes (s ∷ ss) = ([], [], refl, refl, no_flags bytes ss)

decoded_replies : (ss : List Status) → All IsStatus ss → All (λ s. status_number s < 2 ^ 32) ss → map decoded_status (map status_number ss) ≡ ss
decoded_replies [] listed low = refl
decoded_replies (s ∷ ss) listed low =
    rw (decoded_status_number s (listed 0 s (omega arith)) (low 0 s (omega arith)), decoded_replies ss (λ k d within. listed (suc k) d (omega arith)) (λ k d within. low (suc k) d (omega arith))) refl

unzigzag-zigzag : (z : ℤ) → unzigzag (zigzag z) ≡ z
unzigzag-zigzag (pos n) =
    let even : ((2 * n) % 2 == 0) ≡ true = grind (arith, nat_tests) in
    let half : (2 * n) / 2 ≡ n = omega arith in
    rw (even, half) refl
unzigzag-zigzag (negsuc n) =
    let odd : ((2 * n + 1) % 2 == 0) ≡ false = grind (arith, nat_tests) in
    let half : (2 * n + 1) / 2 ≡ n = omega arith in
    rw (odd, half) refl

-- the same ack from its parts
same_ack : (ack : Ack) (seqno : ℤ) (replies : List Status) → seqno ≡ ack.seqno → replies ≡ ack.replies → ack ≡ record { seqno = seqno; replies = replies }
same_ack ack seqno replies a b = rw (a, b) refl

message_says : (ack : Ack) → length ack.replies ≤ 16 → All IsStatus ack.replies → zigzag ack.seqno < 2 ^ 64 → All (λ s. status_number s < 2 ^ 32) ack.replies → SaysAck ack (ack_message ack)
unfolding fields_of
message_says ack few listed fits low = record {
  fields = fields_of ack.seqno ack.replies;
  spelled = spells_fields ack fits low;
  seqno = zigzag ack.seqno;
  seqno_is = rw (no_seqno ack.replies) refl;
  replies = map status_number ack.replies;
  replied = ([], map status_number ack.replies, refl, refl, repeats_replies (ack_message ack) ack.replies);
  few = omega (arith, length-map ack.replies status_number);
  flags = [];
  flagged = ([], [], refl, refl, no_flags (ack_message ack) ack.replies);
  decoded = same_ack ack (unzigzag (zigzag ack.seqno)) (map decoded_status (map status_number ack.replies)) (unzigzag-zigzag ack.seqno) (decoded_replies ack.replies listed low);
}

pub ack_text_spells : (ack : Ack) → length ack.replies ≤ 16 → All IsStatus ack.replies → zigzag ack.seqno < 2 ^ 64 → All (λ s. status_number s < 2 ^ 32) ack.replies → length (ack_message ack) ≤ 107 → SpellsAck ack (ack_text ack)
ack_text_spells ack few listed fits low short = record {
  prefix = least_varint (length (ack_message ack));
  message = ack_message ack;
  parts = refl;
  spelled = least_varint_spells (length (ack_message ack)) (omega arith);
  few = omega arith;
  holds = message_says ack few listed fits low;
}
