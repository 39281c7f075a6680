-- The size of a message at the front stays when more bytes come, and so do bytes that are cut off, while some of the message is missing.
use Rattle.std.proofs.Common.{◌≡◌, ℕ, zero, suc, ◌+◌, ◌-◌, ◌<◌, ◌≤◌, nat_lt, cond, List, [], ◌∷◌, ◌++◌, length, take, drop, replicate, Option, Some, None, option_map, Result, Ok, Err, inl, inr, refl, sym, ap, ◌∙◌, subst, arith, append_assoc, append-nil, length-append}
use Rattle.std.proofs.lemmas.Bool.{cases_lt, ltb-false, lt-ltb, le-ltb}
use Rattle.std.proofs.lemmas.List.{take_all, take_at, take-append-le, drop-append-le, length-replicate, length-drop}
use Rattle.std.proofs.Math.Seq.{drop-append_seam}
use Rattle.hd_base.proofs.ResultLaws.{bind_ok, ok_pair, err_ok, chosen}
use Rattle.proto_fields.specs.Varint.{SpellsVarint, BeginsWithVarint, IsUnended, IsLongVarint, varint_at, varint_within}
use Rattle.proto_fields.specs.declared.varints.VarintFault.{VarintFault}
use Rattle.proto_fields.specs.declared.varints.VarintFault.TheVariants.{Short, Long}
use Rattle.proto_fields.specs.Frames.{limit, IsCutFrame, IsWholeFrame}
use Rattle.proto_fields.proofs.VarintLemmas.{read_varint_again, read_varint_begins, read_varint_cut_is, read_varint_long, read_varint_long_is, varint_at-rest}
use Rattle.packet_codec.specs.Frames.{payload_of, header_len_of, frame_len, length_at}
use Rattle.packet_codec.specs.Refusals.{AreLawful, IsCutFrame as IsCutPacket}
use Rattle.op_headers.specs.Requests.{IsCutRequest}
use Rattle.op_headers.specs.Opcodes.{opcode_with}
use Rattle.std.specs.Prelude.{IsSome, IfSome}
use Rattle.std.specs.Result.{result_ok}
use Rattle.frame_feed.specs.Feeds.{IsKnown}
use Rattle.std.specs.Int.{w16, w32, from_be_bytes}
use Rattle.frame_feed.specs.declared.framing.Framing.{Framing}
use Rattle.frame_feed.specs.declared.framing.Framing.TheVariants as framing
use Rattle.frame_feed.specs.Framings.{IsCut, size_at, missing, missing_of, prefixed_size, packet_size, request_size, behind_varint}

-- ---- lists

zeros : ℕ → List ℕ
zeros n = replicate n 0

length-zeros : (n : ℕ) → length (zeros n) ≡ n
unfolding zeros
length-zeros n = length-replicate n (let z : ℕ = 0 in z)

-- what stands behind the same bytes at the end
same_front : (a b c : List ℕ) → a ++ c ≡ b ++ c → a ≡ b
same_front a b c e =
    let long : length a ≡ length b = omega (arith, ap length e, length-append a c, length-append b c) in
    let left : take (length a) (a ++ c) ≡ a = take_at a c (length a) refl in
    let right : take (length a) (b ++ c) ≡ b = take_at b c (length a) (sym long) in
    sym left ∙ (ap (take (length a)) e ∙ right)

-- ---- a length as a varint

-- the varint at the front stays when more bytes come
varint_more : (left : ℕ) (bytes more : List ℕ) (n : ℕ) (rest : List ℕ) → varint_within left bytes ≡ Ok (n, rest) → varint_within left (bytes ++ more) ≡ Ok (n, rest ++ more)
unfolding varint_within
varint_more zero bytes more n rest e = cc
varint_more (suc left) [] more n rest e = cc
varint_more (suc left) (b ∷ bs) more n rest e =
    elim (chosen (nat_lt b 128) _ _ _ e) [
      | inl t ↦
          let p = ok_pair b n bs rest t.1 in
          rw t.0 (ap (λ k. Ok (k, bs ++ more)) p.0 ∙ ap (λ (l : List ℕ). Ok (n, l ++ more)) p.1)
      | inr t ↦
          let high = bind_ok (varint_within left bs) _ _ t.1 in
          let p = ok_pair _ n high.0.1 rest high.1.1 in
          let later : varint_within left (bs ++ more) ≡ Ok (high.0.0, high.0.1 ++ more) = varint_more left bs more high.0.0 high.0.1 high.1.0 in
          rw t.0 (rw later (ap (λ k. Ok (k, high.0.1 ++ more)) p.0 ∙ ap (λ (l : List ℕ). Ok (n, l ++ more)) p.1))
    ]

-- the length in front of a message that is cut off, where it is wholly there
record HasLength (bytes : List ℕ) (n : ℕ) (rest : List ℕ) : Type 0 where
  begins : BeginsWithVarint bytes n rest
  cut : length rest < n
  lawful : n ≤ limit

has_length : (bytes : List ℕ) (n : ℕ) (rest : List ℕ) → IsCutFrame bytes → varint_at bytes ≡ Ok (n, rest) → HasLength bytes n rest
has_length bytes n rest c e =
    let whole : varint_at (bytes ++ c.missing) ≡ Ok (length c.whole.message, c.whole.message) = ap varint_at c.whole.parts ∙ read_varint_again c.whole.prefix (length c.whole.message) c.whole.message c.whole.spelled in
    let same = ok_pair n (length c.whole.message) (rest ++ c.missing) c.whole.message (sym (varint_more 10 bytes c.missing n rest e) ∙ whole) in
    let parts : bytes ++ c.missing ≡ (c.whole.prefix ++ rest) ++ c.missing = c.whole.parts ∙ (ap (λ l. c.whole.prefix ++ l) (sym same.1) ∙ sym (append_assoc c.whole.prefix rest c.missing)) in
    let begins : BeginsWithVarint bytes n rest = record {
      text = c.whole.prefix;
      parts = same_front bytes (c.whole.prefix ++ rest) c.missing parts;
      spelled = subst (SpellsVarint c.whole.prefix) (sym same.0) c.whole.spelled;
    } in
    record {
      begins = begins;
      cut = omega (arith, same.0, ap length same.1, length-append rest c.missing, c.some);
      lawful = c.lawful n rest begins;
    }

-- bytes that end behind their length and before their message does
cut_behind : (bytes : List ℕ) (n : ℕ) (rest : List ℕ) → BeginsWithVarint bytes n rest → n ≤ limit → length rest < n → IsCutFrame bytes
cut_behind bytes n rest b few cut =
    let missing : List ℕ = zeros (n - length rest) in
    let many : length missing ≡ n - length rest = length-zeros (n - length rest) in
    let size : n ≡ length (rest ++ missing) = omega (arith, length-append rest missing) in
    record {
      missing = missing;
      some = omega arith;
      whole = record {
        prefix = b.text;
        message = rest ++ missing;
        parts = ap (λ l. l ++ missing) b.parts ∙ append_assoc b.text rest missing;
        spelled = subst (SpellsVarint b.text) size b.spelled;
      };
      lawful = λ m r begins. subst (λ k. k ≤ limit) (same_length m r begins) few;
    }
  where
    same_length : (m : ℕ) (r : List ℕ) → BeginsWithVarint bytes m r → n ≡ m
    same_length m r begins = (ok_pair n m rest r (sym (read_varint_begins bytes n rest b) ∙ read_varint_begins bytes m r begins)).0

-- ---- messages behind their length

-- the length that a size was told by
prefixed_told : (size : ℕ) (r : Result (ℕ × List ℕ) VarintFault) (n : ℕ) → behind_varint size r ≡ Some n → (x : ℕ × List ℕ) × ((r ≡ Ok x) × (size - length x.1 + x.0 ≡ n))
prefixed_told size (Ok x) n e = (x, (refl, cc))
prefixed_told size (Err f) n e = cc

rest_shorter : (bytes : List ℕ) (n : ℕ) (rest : List ℕ) → varint_at bytes ≡ Ok (n, rest) → length rest ≤ length bytes
rest_shorter bytes n rest e = let h = varint_at-rest bytes n rest e in omega arith

pub prefixed_grows : (bytes more : List ℕ) (n : ℕ) → prefixed_size bytes ≡ Some n → prefixed_size (bytes ++ more) ≡ Some n
prefixed_grows bytes more n e =
    let t = prefixed_told (length bytes) (varint_at bytes) n e in
    let later : varint_at (bytes ++ more) ≡ Ok (t.0.0, t.0.1 ++ more) = varint_more 10 bytes more t.0.0 t.0.1 t.1.0 in
    let short : length t.0.1 ≤ length bytes = rest_shorter bytes t.0.0 t.0.1 t.1.0 in
    let told : length bytes - length t.0.1 + t.0.0 ≡ n = t.1.1 in
    ap (behind_varint (length (bytes ++ more))) later
    ∙ ap Some (omega (arith, length-append bytes more, length-append t.0.1 more))

pub prefixed_cut : (bytes more : List ℕ) (n : ℕ) → prefixed_size bytes ≡ Some n → IsCutFrame bytes → length (bytes ++ more) < n → IsCutFrame (bytes ++ more)
prefixed_cut bytes more n e c less =
    let t = prefixed_told (length bytes) (varint_at bytes) n e in
    let h = has_length bytes t.0.0 t.0.1 c t.1.0 in
    let told : length bytes - length t.0.1 + t.0.0 ≡ n = t.1.1 in
    let begins : BeginsWithVarint (bytes ++ more) t.0.0 (t.0.1 ++ more) = record {
      text = h.begins.text;
      parts = ap (λ l. l ++ more) h.begins.parts ∙ append_assoc h.begins.text t.0.1 more;
      spelled = h.begins.spelled;
    } in
    let short : length t.0.1 ≤ length bytes = rest_shorter bytes t.0.0 t.0.1 t.1.0 in
    cut_behind (bytes ++ more) t.0.0 (t.0.1 ++ more) begins h.lawful (omega (arith, length-append bytes more, length-append t.0.1 more))

-- what is there of a message that is cut off is less than its size
pub prefixed_less : (bytes : List ℕ) (n : ℕ) → IsCutFrame bytes → prefixed_size bytes ≡ Some n → length bytes < n
prefixed_less bytes n c e =
    let t = prefixed_told (length bytes) (varint_at bytes) n e in
    let h = has_length bytes t.0.0 t.0.1 c t.1.0 in
    let told : length bytes - length t.0.1 + t.0.0 ≡ n = t.1.1 in
    let short : length t.0.1 ≤ length bytes = rest_shorter bytes t.0.0 t.0.1 t.1.0 in
    omega (arith, h.cut)

pub prefixed_few : (bytes : List ℕ) (n : ℕ) (rest : List ℕ) → IsCutFrame bytes → varint_at bytes ≡ Ok (n, rest) → n ≤ 65536
prefixed_few bytes n rest c e = (has_length bytes n rest c e).lawful

-- ---- packets

packet_stays : (bytes more : List ℕ) → 6 ≤ length bytes → (payload_of (bytes ++ more) ≡ payload_of bytes) × (header_len_of (bytes ++ more) ≡ header_len_of bytes)
packet_stays bytes more six = (
  ap (from_be_bytes w32) (take-append-le 4 bytes more (omega arith)),
  ap (from_be_bytes w16) (ap (take 2) (drop-append-le 4 bytes more (omega arith)) ∙ take-append-le 2 (drop 4 bytes) more (omega (arith, length-drop 4 bytes))),
)

-- the lengths that a size was told by
record PacketTold (bytes : List ℕ) (n : ℕ) : Type 0 where
  six : 6 ≤ length bytes
  size : frame_len (payload_of bytes) (header_len_of bytes) ≡ n

packet_told : (bytes : List ℕ) (n : ℕ) → packet_size bytes ≡ Some n → PacketTold bytes n
packet_told bytes n e =
    elim (chosen (nat_lt (length bytes) 6) _ _ _ e) [
      | inl t ↦ let no : ◌≡◌ {A = Option ℕ} None (Some n) = t.1 in cc
      | inr t ↦ let is : ◌≡◌ {A = Option ℕ} (Some (frame_len (payload_of bytes) (header_len_of bytes))) (Some n) = t.1 in record { six = ltb-false (length bytes) 6 t.0; size = cc }
    ]

packet_size-told : (bytes : List ℕ) → 6 ≤ length bytes → packet_size bytes ≡ Some (frame_len (payload_of bytes) (header_len_of bytes))
packet_size-told bytes six = rw (le-ltb (length bytes) 6 six) refl

pub packet_grows : (bytes more : List ℕ) (n : ℕ) → packet_size bytes ≡ Some n → packet_size (bytes ++ more) ≡ Some n
packet_grows bytes more n e =
    let t = packet_told bytes n e in
    let same = packet_stays bytes more t.six in
    packet_size-told (bytes ++ more) (omega (arith, t.six, length-append bytes more))
    ∙ ap Some (ap (λ p. frame_len p (header_len_of (bytes ++ more))) same.0 ∙ (ap (frame_len (payload_of bytes)) same.1 ∙ t.size))

pub packet_cut : (bytes more : List ℕ) (n : ℕ) → packet_size bytes ≡ Some n → IsCutPacket bytes → length (bytes ++ more) < n → IsCutPacket (bytes ++ more)
packet_cut bytes more n e c less =
    let t = packet_told bytes n e in
    let all : List ℕ = bytes ++ more in
    let same = packet_stays bytes more t.six in
    let six : 6 ≤ length all = omega (arith, t.six, length-append bytes more) in
    let missing : List ℕ = zeros (n - length all) in
    let many : length missing ≡ n - length all = length-zeros (n - length all) in
    let later = packet_stays all missing six in
    let size : frame_len (payload_of all) (header_len_of all) ≡ n = ap (λ p. frame_len p (header_len_of all)) same.0 ∙ (ap (frame_len (payload_of bytes)) same.1 ∙ t.size) in
    let lawful : AreLawful (payload_of bytes) (header_len_of bytes) = c.lawful t.six in
    let whole : frame_len (payload_of (all ++ missing)) (header_len_of (all ++ missing)) ≡ n = ap (λ p. frame_len p (header_len_of (all ++ missing))) later.0 ∙ (ap (frame_len (payload_of all)) later.1 ∙ size) in
    record {
      missing = missing;
      some = omega (arith, less, many);
      whole = record { lengths = omega (arith, six, length-append all missing); size = omega (arith, less, many, length-append all missing) ∙ sym whole };
      lawful = λ _. record { low = omega (arith, lawful.low, same.0); high = omega (arith, lawful.high, same.0, same.1) };
    }

pub packet_less : (bytes : List ℕ) (n : ℕ) → IsCutPacket bytes → packet_size bytes ≡ Some n → length bytes < n
packet_less bytes n c e =
    let t = packet_told bytes n e in
    let same = packet_stays bytes c.missing t.six in
    let size : frame_len (payload_of (bytes ++ c.missing)) (header_len_of (bytes ++ c.missing)) ≡ n = ap (λ p. frame_len p (header_len_of (bytes ++ c.missing))) same.0 ∙ (ap (frame_len (payload_of bytes)) same.1 ∙ t.size) in
    let whole = c.whole.size in
    let some = c.some in
    omega (arith, length-append bytes c.missing)

-- ---- requests

-- the length behind version and opcode, where these are there
record RequestTold (bytes : List ℕ) (n : ℕ) : Type 0 where
  three : 3 ≤ length bytes
  size : ℕ
  told : prefixed_size (drop 3 bytes) ≡ Some size
  is : 3 + size ≡ n

mapped : (o : Option ℕ) (n : ℕ) → option_map (λ k. 3 + k) o ≡ Some n → (k : ℕ) × ((o ≡ Some k) × (3 + k ≡ n))
mapped None n e = cc
mapped (Some k) n e = (k, (refl, cc))

request_told : (bytes : List ℕ) (n : ℕ) → request_size bytes ≡ Some n → RequestTold bytes n
request_told bytes n e =
    elim (chosen (nat_lt (length bytes) 3) _ _ _ e) [
      | inl t ↦ let no : ◌≡◌ {A = Option ℕ} None (Some n) = t.1 in cc
      | inr t ↦ let m = mapped (prefixed_size (drop 3 bytes)) n t.1 in record { three = ltb-false (length bytes) 3 t.0; size = m.0; told = m.1.0; is = m.1.1 }
    ]

pub request_grows : (bytes more : List ℕ) (n : ℕ) → request_size bytes ≡ Some n → request_size (bytes ++ more) ≡ Some n
request_grows bytes more n e =
    let t = request_told bytes n e in
    let behind : drop 3 (bytes ++ more) ≡ drop 3 bytes ++ more = drop-append-le 3 bytes more t.three in
    let there : 3 ≤ length (bytes ++ more) = omega (arith, t.three, length-append bytes more) in
    let told : prefixed_size (drop 3 (bytes ++ more)) ≡ Some t.size = ap prefixed_size behind ∙ prefixed_grows (drop 3 bytes) more t.size t.told in
    rw (le-ltb (length (bytes ++ more)) 3 there) (ap (option_map (λ k. 3 + k)) told ∙ ap Some t.is)

-- Behind the head of a request that is cut off stands a frame that is cut off.
pub request_frame : (bytes : List ℕ) → IsCutRequest bytes → 3 ≤ length bytes → IsCutFrame (drop 3 bytes)
request_frame [] c three = absurd (omega (arith, three))
request_frame (x ∷ []) c three = absurd (omega (arith, three))
request_frame (x ∷ y ∷ []) c three = absurd (omega (arith, three))
request_frame (x ∷ y ∷ z ∷ rest) c three =
    let behind : c.whole.rest ≡ rest ++ c.missing = sym (drop_head c.whole.head c.whole.rest c.whole.three) ∙ ap (drop 3) (sym c.whole.parts) in
    record {
      missing = c.missing;
      some = c.some;
      whole = subst IsWholeFrame behind c.whole.framed;
      lawful = λ n r begins. c.lawful x y z rest refl n r begins;
    }
  where
    drop_head : (head l : List ℕ) → length head ≡ 3 → drop 3 (head ++ l) ≡ l
    drop_head head l three = ap (λ n. drop n (head ++ l)) (sym three) ∙ drop-append_seam head l

-- The head that was lawful stays.
head_stays : (x y z : ℕ) (rest more : List ℕ) → IsCutRequest (x ∷ y ∷ z ∷ rest) → IsCutFrame (rest ++ more) → IsCutRequest (x ∷ y ∷ z ∷ (rest ++ more))
head_stays x y z rest more c f = record {
  missing = f.missing;
  some = f.some;
  whole = record { head = x ∷ y ∷ z ∷ []; rest = (rest ++ more) ++ f.missing; parts = refl; three = refl; framed = f.whole };
  version = λ high low r e.
      let a : x ≡ high = cc in let b : y ≡ low = cc in
      omega (arith, c.version x y (z ∷ rest) refl);
  code = λ high low number r e. let a : z ≡ number = cc in subst (λ (k : ℕ). IsSome (opcode_with k)) a (c.code x y z rest refl);
  lawful = λ high low number r e n behind begins. let a : rest ++ more ≡ r = cc in f.lawful n behind (subst (λ (l : List ℕ). BeginsWithVarint l n behind) (sym a) begins);
}

pub request_cut : (bytes more : List ℕ) (n : ℕ) → request_size bytes ≡ Some n → IsCutRequest bytes → length (bytes ++ more) < n → IsCutRequest (bytes ++ more)
request_cut [] more n e c less = absurd (let t = request_told [] n e in omega (arith, t.three))
request_cut (x ∷ []) more n e c less = absurd (let t = request_told (x ∷ []) n e in omega (arith, t.three))
request_cut (x ∷ y ∷ []) more n e c less = absurd (let t = request_told (x ∷ y ∷ []) n e in omega (arith, t.three))
request_cut (x ∷ y ∷ z ∷ rest) more n e c less =
    let t = request_told (x ∷ y ∷ z ∷ rest) n e in
    let told : prefixed_size rest ≡ Some t.size = t.told in
    let f : IsCutFrame rest = request_frame (x ∷ y ∷ z ∷ rest) c t.three in
    head_stays x y z rest more c (prefixed_cut rest more t.size told f (omega (arith, less, t.is)))

pub request_less : (bytes : List ℕ) (n : ℕ) → IsCutRequest bytes → request_size bytes ≡ Some n → length bytes < n
request_less bytes n c e =
    let t = request_told bytes n e in
    let f = request_frame bytes c t.three in
    let less = prefixed_less (drop 3 bytes) t.size f t.told in
    omega (arith, t.is, t.three, length-drop 3 bytes)

-- ---- all framings

pub size_grows : (f : Framing) (bytes more : List ℕ) (n : ℕ) → size_at f bytes ≡ Some n → size_at f (bytes ++ more) ≡ Some n
size_grows framing.Packet bytes more n e = packet_grows bytes more n e
size_grows framing.Request bytes more n e = request_grows bytes more n e
size_grows framing.Prefixed bytes more n e = prefixed_grows bytes more n e

pub cut_grows : (f : Framing) (bytes more : List ℕ) (n : ℕ) → size_at f bytes ≡ Some n → IsCut f bytes → length (bytes ++ more) < n → IsCut f (bytes ++ more)
cut_grows framing.Packet bytes more n e c less = packet_cut bytes more n e c less
cut_grows framing.Request bytes more n e c less = request_cut bytes more n e c less
cut_grows framing.Prefixed bytes more n e c less = prefixed_cut bytes more n e c less

pub cut_less : (f : Framing) (bytes : List ℕ) (n : ℕ) → IsCut f bytes → size_at f bytes ≡ Some n → length bytes < n
cut_less framing.Packet bytes n c e = packet_less bytes n c e
cut_less framing.Request bytes n c e = request_less bytes n c e
cut_less framing.Prefixed bytes n c e = prefixed_less bytes n c e

-- ---- what a feed keeps

-- what is cut off has less than the size that shows
pub some_less : (f : Framing) (bytes : List ℕ) (o : Option ℕ) → IsCut f bytes → o ≡ size_at f bytes → IfSome o (λ n. length bytes < n)
some_less f bytes None cut e = tt
some_less f bytes (Some n) cut e = cut_less f bytes n cut (sym e)

-- what is known of the message at the front stays when more bytes come
pub known_grows : (k : Option (Framing × ℕ)) (rest more : List ℕ) → IsKnown k rest → IsKnown k (rest ++ more)
known_grows None rest more known = tt
known_grows (Some k) rest more known = (
  size_grows k.0 rest more k.1 known.0,
  λ less. cut_grows k.0 rest more k.1 known.0 (known.1 (omega (arith, less, length-append rest more))) less,
)

-- a size that shows is known
pub known_at : (f : Framing) (rest : List ℕ) (n : ℕ) → IsCut f rest → size_at f rest ≡ Some n → IsKnown (Some (f, n)) rest
known_at f rest n cut e = (e, λ _. cut)

-- the bytes behind the first ones
pub behind_first : (n : ℕ) (bytes : List ℕ) → take (length bytes - n) (drop n bytes) ≡ drop n bytes
behind_first n bytes = take_all (length bytes - n) (drop n bytes) (omega (arith, length-drop n bytes))

-- the size by both lengths of a packet
pub packet_length-size : (bytes : List ℕ) → IsCutPacket bytes → result_ok (length_at bytes) ≡ packet_size bytes
unfolding length_at
packet_length-size bytes c =
    elim (cases_lt (length bytes) 6) [
      | inl few ↦ rw (lt-ltb (length bytes) 6 few) refl
      | inr six ↦
          let lawful : AreLawful (payload_of bytes) (header_len_of bytes) = c.lawful six in
          rw (le-ltb (length bytes) 6 six, le-ltb (payload_of bytes) 4 lawful.low, le-ltb 16777216 (payload_of bytes + header_len_of bytes) lawful.high) refl
    ]

-- ---- what is wanted

-- a length of more than ten bytes begins no frame
never_long : (bytes : List ℕ) → IsCutFrame bytes → varint_at bytes ≡ Err Long → ⊥
never_long bytes c e =
    let long = read_varint_long_is bytes e in
    let same : take 10 (bytes ++ c.missing) ≡ take 10 bytes = take-append-le 10 bytes c.missing long.many in
    let far : IsLongVarint (bytes ++ c.missing) = record { open_end = subst IsUnended (sym same) long.open_end; many = omega (arith, long.many, length-append bytes c.missing) } in
    let whole : varint_at (bytes ++ c.missing) ≡ Ok (length c.whole.message, c.whole.message) = ap varint_at c.whole.parts ∙ read_varint_again c.whole.prefix (length c.whole.message) c.whole.message c.whole.spelled in
    err_ok Long (length c.whole.message, c.whole.message) (sym (read_varint_long (bytes ++ c.missing) far) ∙ whole)

prefixed_bounded : (bytes : List ℕ) → IsCutFrame bytes → length bytes + missing framing.Prefixed bytes ≤ 65546
prefixed_bounded bytes c = by_varint (varint_at bytes) refl where
  by_varint : (r : Result (ℕ × List ℕ) VarintFault) → varint_at bytes ≡ r → length bytes + missing framing.Prefixed bytes ≤ 65546
  by_varint (Ok x) e =
      let h = has_length bytes x.0 x.1 c e in
      let short = h.begins.spelled.short in
      let parts = h.begins.parts in
      let size : missing_of (behind_varint (length bytes) (varint_at bytes)) (length bytes) ≡ length bytes - length x.1 + x.0 - length bytes = ap (λ r. missing_of (behind_varint (length bytes) r) (length bytes)) e in
      omega (arith, size, short, h.lawful, h.cut, ap length parts, length-append h.begins.text x.1)
  by_varint (Err Short) e =
      let cut = read_varint_cut_is bytes e in
      let one : missing_of (behind_varint (length bytes) (varint_at bytes)) (length bytes) ≡ 1 = ap (λ r. missing_of (behind_varint (length bytes) r) (length bytes)) e in
      omega (arith, one, cut.few)
  by_varint (Err Long) e = absurd (never_long bytes c e)

packet_bounded : (bytes : List ℕ) → IsCutPacket bytes → length bytes + missing framing.Packet bytes ≤ 16777218
packet_bounded bytes c =
    elim (cases_lt (length bytes) 6) [
      | inl few ↦
          let one : missing framing.Packet bytes ≡ 1 = ap (λ b. missing_of (cond b None (Some (frame_len (payload_of bytes) (header_len_of bytes)))) (length bytes)) (lt-ltb (length bytes) 6 few) in
          omega (arith, one, few)
      | inr six ↦
          let told = packet_size-told bytes six in
          let size : missing framing.Packet bytes ≡ frame_len (payload_of bytes) (header_len_of bytes) - length bytes = ap (λ o. missing_of o (length bytes)) told in
          let less = packet_less bytes (frame_len (payload_of bytes) (header_len_of bytes)) c told in
          let lawful : AreLawful (payload_of bytes) (header_len_of bytes) = c.lawful six in
          omega (arith, size, less, lawful.low, lawful.high)
    ]

-- one more step in front of a size
missing_behind : (o : Option ℕ) (n there : ℕ) → missing_of (option_map (λ k. n + k) o) (n + there) ≡ missing_of o there
missing_behind None n there = refl
missing_behind (Some k) n there = omega arith

request_bounded : (bytes : List ℕ) → IsCutRequest bytes → length bytes + missing framing.Request bytes ≤ 65549
request_bounded bytes c =
    elim (cases_lt (length bytes) 3) [
      | inl few ↦
          let one : missing framing.Request bytes ≡ 1 = ap (λ b. missing_of (cond b None (option_map (λ k. 3 + k) (prefixed_size (drop 3 bytes)))) (length bytes)) (lt-ltb (length bytes) 3 few) in
          omega (arith, one, few)
      | inr three ↦
          let behind : length bytes ≡ 3 + length (drop 3 bytes) = omega (arith, three, length-drop 3 bytes) in
          let told : missing framing.Request bytes ≡ missing_of (option_map (λ k. 3 + k) (prefixed_size (drop 3 bytes))) (length bytes) = ap (λ b. missing_of (cond b None (option_map (λ k. 3 + k) (prefixed_size (drop 3 bytes)))) (length bytes)) (le-ltb (length bytes) 3 three) in
          let same : missing_of (option_map (λ k. 3 + k) (prefixed_size (drop 3 bytes))) (length bytes) ≡ missing framing.Prefixed (drop 3 bytes) = ap (missing_of (option_map (λ k. 3 + k) (prefixed_size (drop 3 bytes)))) behind ∙ missing_behind (prefixed_size (drop 3 bytes)) 3 (length (drop 3 bytes)) in
          let few = prefixed_bounded (drop 3 bytes) (request_frame bytes c three) in
          omega (arith, told, same, few, behind)
    ]

-- the bytes there and those that are wanted are within the longest message
pub cut_bounded : (f : Framing) (bytes : List ℕ) → IsCut f bytes → length bytes + missing f bytes ≤ 16777218
cut_bounded framing.Packet bytes c = packet_bounded bytes c
cut_bounded framing.Request bytes c = let h = request_bounded bytes c in omega arith
cut_bounded framing.Prefixed bytes c = let h = prefixed_bounded bytes c in omega arith

-- Some bytes are missing of what is cut off.
pub cut_wants : (f : Framing) (bytes : List ℕ) → IsCut f bytes → 0 < missing f bytes
cut_wants f bytes c = by_size (size_at f bytes) refl where
  by_size : (o : Option ℕ) → size_at f bytes ≡ o → 0 < missing f bytes
  by_size None e = let one : missing f bytes ≡ 1 = ap (λ o. missing_of o (length bytes)) e in omega arith
  by_size (Some n) e =
      let less = cut_less f bytes n c e in
      let size : missing f bytes ≡ n - length bytes = ap (λ o. missing_of o (length bytes)) e in
      omega arith

some_value : (a b : ℕ) → ◌≡◌ {A = Option ℕ} (Some a) (Some b) → a ≡ b
some_value a b e = cc

-- A size that shows is the message's.
pub size_told : (f : Framing) (bytes text more : List ℕ) (n : ℕ) → size_at f text ≡ Some (length text) → bytes ++ more ≡ text → size_at f bytes ≡ Some n → missing f bytes ≡ length more
size_told f bytes text more n whole parts e =
    let later : size_at f text ≡ Some n = subst (λ (l : List ℕ). size_at f l ≡ Some n) parts (size_grows f bytes more n e) in
    let same : n ≡ length text = some_value n (length text) (sym later ∙ whole) in
    let size : missing f bytes ≡ n - length bytes = ap (λ o. missing_of o (length bytes)) e in
    omega (arith, same, size, ap length parts, length-append bytes more)

-- No more is missing than what the message has behind the bytes.
pub missing_within : (f : Framing) (bytes text more : List ℕ) → size_at f text ≡ Some (length text) → bytes ++ more ≡ text → IsCut f bytes → missing f bytes ≤ length more
missing_within f bytes text more whole parts c = by_size (size_at f bytes) refl where
  more_left : (more : List ℕ) → bytes ++ more ≡ text → size_at f bytes ≡ None → 0 < length more
  more_left [] parts e = let here : bytes ≡ text = sym (append-nil bytes) ∙ parts in let no : ◌≡◌ {A = Option ℕ} None (Some (length text)) = sym e ∙ (ap (size_at f) here ∙ whole) in cc
  more_left (x ∷ xs) parts e = omega arith

  by_size : (o : Option ℕ) → size_at f bytes ≡ o → missing f bytes ≤ length more
  by_size (Some n) e = let h = size_told f bytes text more n whole parts e in omega arith
  by_size None e = let one : missing f bytes ≡ 1 = ap (λ o. missing_of o (length bytes)) e in let some = more_left more parts e in omega arith
