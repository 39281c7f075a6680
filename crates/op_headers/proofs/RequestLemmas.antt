-- Requests: what bytes spell is read, what is read is spelled, and each fault is the one that stands there.
use Rattle.std.proofs.Common.{◌≡◌, ℕ, suc, ◌+◌, ◌*◌, ◌≤◌, ◌==◌, inl, inr, true, List, [], ◌∷◌, ◌++◌, length, take, drop, Option, Some, None, Result, Ok, Err, subst, refl, sym, ap, ◌∙◌, arith, append-nil}
use Rattle.std.specs.Prelude.{IfOk, IfErr, IsSome}
use Rattle.std.proofs.lemmas.Bool.{eqb-true, eqb-false, ne_eqb, eq-eqb}
use Rattle.std.proofs.lemmas.List.{drop_at}
use Rattle.hd_base.specs.Results.{with_cause, with_value, Gives, FailsFor}
use Rattle.hd_base.specs.Bytes.{IsBytes}
use Rattle.proto_fields.proofs.GivesLemmas.{Gives-same, gives_found, gives_refused}
use Rattle.proto_fields.specs.Varint.{BeginsWithVarint}
use Rattle.proto_fields.specs.Frames.{IsNoFrame, IsCutFrame, IsWholeFrame, HasFrame}
use Rattle.proto_fields.specs.Framed.{framed_at}
use Rattle.proto_fields.specs.declared.reading.WireFault.{WireFault}
use Rattle.proto_fields.specs.declared.frames.FrameFault.{FrameFault}
use Rattle.proto_fields.specs.declared.frames.FrameFault.TheVariants as frame
use Rattle.hd_base.proofs.ByteLaws.{IsBytes-behind}
use Rattle.hd_base.proofs.ResultLaws.{bind_ok, bind_err, bind-Ok, bind-Err, with_cause_ok, with_cause_err, with_value_ok, with_value_err, ok_pair, chosen}
use Rattle.proto_fields.proofs.FramedLemmas.{framed_again, none_more, framed_takes, framed_fails, no_frame_refused, inside_refused}
use Rattle.op_headers.specs.declared.ops.Op.{Op}
use Rattle.op_headers.specs.declared.ops.Op.TheVariants as op
use Rattle.op_headers.specs.declared.opcodes.Opcode.{Opcode}
use Rattle.op_headers.specs.declared.opcodes.Opcode.TheVariants as opcode
use Rattle.op_headers.specs.declared.faults.OpFault.{OpFault}
use Rattle.op_headers.specs.declared.faults.OpFault.TheVariants as fault
use Rattle.op_headers.specs.Opcodes.{opcode_number, opcode_with}
use Rattle.op_headers.specs.Paths.{Path}
use Rattle.op_headers.specs.Tables.{Format}
use Rattle.op_headers.specs.Requests.{SaysAs, OpSays, OpFaulty, SpellsOp, IsCutRequest, IsFaultyBehind, IsRefusedOp, op_read, op_at, opcode_step, behind_version, head_at, op_frame_cause, sized, request_at}
use Rattle.op_headers.proofs.TableLemmas.{IsExact}
use Rattle.op_headers.proofs.FormatLemmas.{exact_write, exact_read, exact_transfer, exact_checksum_op, exact_recovery}

-- ---- what a message of an opcode says

module _ {X : Type 0} (wrap : X → Op) (format : Format X) (exact : IsExact format) (message : List ℕ) where
  says_as : (r : Result Op Path) → SaysAs wrap format message r → with_value (with_value wrap) (format.read message) ≡ Ok r
  says_as r s = ap (with_value (with_value wrap)) (exact.says_read message s.decoded s.says) ∙ ap Ok (sym s.op_is)

  as_says : (r : Result Op Path) → IsBytes message → with_value (with_value wrap) (format.read message) ≡ Ok r → SaysAs wrap format message r
  as_says r fits e =
      let one = with_value_ok (with_value wrap) (format.read message) r e in
      record { decoded = one.0; says = exact.read_says message one.0 fits one.1.0; op_is = sym one.1.1 }

  as_faulty : (e : WireFault) → IsBytes message → with_value (with_value wrap) (format.read message) ≡ Err e → format.faulty message e
  as_faulty e fits h = exact.read_faulty message e fits (with_value_err (with_value wrap) (format.read message) e h)

  faulty_as : (e : WireFault) → format.faulty message e → with_value (with_value wrap) (format.read message) ≡ Err e
  faulty_as e f = ap (with_value (with_value wrap)) (exact.faulty_read message e f)

says_read : (code : Opcode) (message : List ℕ) (r : Result Op Path) → OpSays code message r → op_read code message ≡ Ok r
says_read opcode.WriteBlock message r s = says_as op.Write _ exact_write message r s
says_read opcode.ReadBlock message r s = says_as op.Read _ exact_read message r s
says_read opcode.BlockChecksum message r s = says_as op.Checksum _ exact_checksum_op message r s
says_read opcode.TransferBlock message r s = says_as op.Transfer _ exact_transfer message r s
says_read opcode.Custom message r s = says_as op.Recovery _ exact_recovery message r s

read_says : (code : Opcode) (message : List ℕ) (r : Result Op Path) → IsBytes message → op_read code message ≡ Ok r → OpSays code message r
read_says opcode.WriteBlock message r fits e = as_says op.Write _ exact_write message r fits e
read_says opcode.ReadBlock message r fits e = as_says op.Read _ exact_read message r fits e
read_says opcode.BlockChecksum message r fits e = as_says op.Checksum _ exact_checksum_op message r fits e
read_says opcode.TransferBlock message r fits e = as_says op.Transfer _ exact_transfer message r fits e
read_says opcode.Custom message r fits e = as_says op.Recovery _ exact_recovery message r fits e

read_faulty : (code : Opcode) (message : List ℕ) (e : WireFault) → IsBytes message → op_read code message ≡ Err e → OpFaulty code message e
read_faulty opcode.WriteBlock message e fits h = as_faulty op.Write _ exact_write message e fits h
read_faulty opcode.ReadBlock message e fits h = as_faulty op.Read _ exact_read message e fits h
read_faulty opcode.BlockChecksum message e fits h = as_faulty op.Checksum _ exact_checksum_op message e fits h
read_faulty opcode.TransferBlock message e fits h = as_faulty op.Transfer _ exact_transfer message e fits h
read_faulty opcode.Custom message e fits h = as_faulty op.Recovery _ exact_recovery message e fits h

faulty_read : (code : Opcode) (message : List ℕ) (e : WireFault) → OpFaulty code message e → op_read code message ≡ Err e
faulty_read opcode.WriteBlock message e f = faulty_as op.Write _ exact_write message e f
faulty_read opcode.ReadBlock message e f = faulty_as op.Read _ exact_read message e f
faulty_read opcode.BlockChecksum message e f = faulty_as op.Checksum _ exact_checksum_op message e f
faulty_read opcode.TransferBlock message e f = faulty_as op.Transfer _ exact_transfer message e f
faulty_read opcode.Custom message e f = faulty_as op.Recovery _ exact_recovery message e f

pub says_op : (code : Opcode) (message : List ℕ) (request : Op) → OpSays code message (Ok request) → op_at code message ≡ Ok request
unfolding op_at
says_op code message request s = bind-Ok (with_cause fault.Wire (op_read code message)) (with_cause fault.Missing) (Ok request) (ap (with_cause fault.Wire) (says_read code message (Ok request) s))

op_says : (code : Opcode) (message : List ℕ) (request : Op) → IsBytes message → op_at code message ≡ Ok request → OpSays code message (Ok request)
unfolding op_at
op_says code message request fits e =
    let one = bind_ok (with_cause fault.Wire (op_read code message)) (with_cause fault.Missing) request e in
    let decoded : one.0 ≡ Ok request = with_cause_ok fault.Missing one.0 request one.1.1 in
    read_says code message (Ok request) fits (with_cause_ok fault.Wire (op_read code message) one.0 one.1.0 ∙ ap Ok decoded)

-- what a message that is refused so has
abbrev OpFails : OpFault → Opcode → List ℕ → Type 0
OpFails (fault.Wire e) code message = OpFaulty code message e
OpFails (fault.Missing path) code message = OpSays code message (Err path)
OpFails _ code message = ⊥

op_fails : (code : Opcode) (message : List ℕ) (e : OpFault) → IsBytes message → op_at code message ≡ Err e → OpFails e code message
unfolding op_at
op_fails code message e fits h =
    elim (bind_err (with_cause fault.Wire (op_read code message)) (with_cause fault.Missing) e h) [
      | inl one ↦
          let d = with_cause_err fault.Wire (op_read code message) e one in
          subst (λ (f : OpFault). OpFails f code message) d.1.1 (read_faulty code message d.0 fits d.1.0)
      | inr later ↦
          let d = with_cause_err fault.Missing later.0 e later.1.1 in
          let decoded : op_read code message ≡ Ok (Err d.0) = with_cause_ok fault.Wire (op_read code message) later.0 later.1.0 ∙ ap Ok d.1.0 in
          subst (λ (f : OpFault). OpFails f code message) d.1.1 (read_says code message (Err d.0) fits decoded)
    ]

faulty_op : (code : Opcode) (message : List ℕ) (e : WireFault) → OpFaulty code message e → op_at code message ≡ Err (fault.Wire e)
unfolding op_at
faulty_op code message e f = bind-Err (with_cause fault.Wire (op_read code message)) (with_cause fault.Missing) (fault.Wire e) (ap (with_cause fault.Wire) (faulty_read code message e f))

missing_op : (code : Opcode) (message : List ℕ) (path : Path) → OpSays code message (Err path) → op_at code message ≡ Err (fault.Missing path)
unfolding op_at
missing_op code message path s = bind-Ok (with_cause fault.Wire (op_read code message)) (with_cause fault.Missing) (Err path) (ap (with_cause fault.Wire) (says_read code message (Err path) s))

-- ---- the head

opcode_with-number : (code : Opcode) → opcode_with (opcode_number code) ≡ Some code
opcode_with-number opcode.WriteBlock = refl
opcode_with-number opcode.ReadBlock = refl
opcode_with-number opcode.BlockChecksum = refl
opcode_with-number opcode.TransferBlock = refl
opcode_with-number opcode.Custom = refl

opcode_is : (number : ℕ) (code : Opcode) → opcode_with number ≡ Some code → number ≡ opcode_number code
opcode_is number code e =
    elim (chosen (number == 80) _ _ _ e) [
      | inl t ↦ at number 80 opcode.WriteBlock t.0 t.1 refl
      | inr t ↦ elim (chosen (number == 81) _ _ _ t.1) [
        | inl t ↦ at number 81 opcode.ReadBlock t.0 t.1 refl
        | inr t ↦ elim (chosen (number == 85) _ _ _ t.1) [
          | inl t ↦ at number 85 opcode.BlockChecksum t.0 t.1 refl
          | inr t ↦ elim (chosen (number == 86) _ _ _ t.1) [
            | inl t ↦ at number 86 opcode.TransferBlock t.0 t.1 refl
            | inr t ↦ elim (chosen (number == 127) _ _ _ t.1) [
              | inl t ↦ at number 127 opcode.Custom t.0 t.1 refl
              | inr t ↦ cc (t.1)
            ]
          ]
        ]
      ]
    ]
  where
    some_is : (x y : Opcode) → Some x ≡ Some y → x ≡ y
    some_is x y e = cc

    at : (n k : ℕ) (this : Opcode) → (n == k) ≡ true → Some this ≡ Some code → k ≡ opcode_number this → n ≡ opcode_number code
    at n k this t s numbered = eqb-true n k t ∙ (numbered ∙ ap opcode_number (some_is this code s))

head_again : (code : Opcode) (rest : List ℕ) → head_at (0 ∷ 28 ∷ opcode_number code ∷ rest) ≡ Ok (code, rest)
unfolding head_at
head_again code rest = ap (opcode_step (opcode_number code) rest) (opcode_with-number code)

-- the opcode behind a version, or why there is none
behind_takes : (bytes : List ℕ) (code : Opcode) (rest : List ℕ) → behind_version bytes ≡ Ok (code, rest) → bytes ≡ opcode_number code ∷ rest
behind_takes [] code rest e = cc
behind_takes (number ∷ bytes) code rest e = by_code (opcode_with number) refl e where
  by_code : (o : Option Opcode) → opcode_with number ≡ o → opcode_step number bytes o ≡ Ok (code, rest) → number ∷ bytes ≡ opcode_number code ∷ rest
  by_code None h e = cc
  by_code (Some found) h e =
      let p = ok_pair found code bytes rest e in
      ap (λ n. n ∷ bytes) (opcode_is number code (h ∙ ap Some p.0)) ∙ ap (λ l. opcode_number code ∷ l) p.1

head_takes : (bytes : List ℕ) (code : Opcode) (rest : List ℕ) → IsBytes bytes → head_at bytes ≡ Ok (code, rest) → bytes ≡ 0 ∷ 28 ∷ opcode_number code ∷ rest
unfolding head_at
head_takes [] code rest fits e = cc
head_takes (high ∷ []) code rest fits e = cc
head_takes (high ∷ low ∷ bytes) code rest fits e =
    elim (chosen (256 * high + low == 28) _ _ _ e) [
      | inl t ↦
          let version : 256 * high + low ≡ 28 = eqb-true _ 28 t.0 in
          let none : high ≡ 0 = omega arith in
          let all : low ≡ 28 = omega arith in
          rw (none, all) (ap (λ l. 0 ∷ 28 ∷ l) (behind_takes bytes code rest t.1))
      | inr t ↦ cc (t.1)
    ]

IsBytes-head : (code : Opcode) (bytes rest : List ℕ) → IsBytes bytes → bytes ≡ 0 ∷ 28 ∷ opcode_number code ∷ rest → IsBytes rest
IsBytes-head code bytes rest fits e =
    let whole : IsBytes (0 ∷ 28 ∷ opcode_number code ∷ rest) = subst IsBytes e fits in
    let two : IsBytes (28 ∷ opcode_number code ∷ rest) = IsBytes-behind 0 (28 ∷ opcode_number code ∷ rest) whole in
    let one : IsBytes (opcode_number code ∷ rest) = IsBytes-behind 28 (opcode_number code ∷ rest) two in
    IsBytes-behind (opcode_number code) rest one

-- ---- what bytes spell is read, and what is read is spelled

-- a frame behind a head
behind_head : (code : Opcode) (bytes rest : List ℕ) (r : Result (Op × ℕ) OpFault) → bytes ≡ 0 ∷ 28 ∷ opcode_number code ∷ rest → framed_at op_frame_cause (op_at code) rest ≡ r → request_at bytes ≡ with_value sized r
unfolding request_at
behind_head code bytes rest r e f =
    ap request_at e ∙ (bind-Ok (head_at (0 ∷ 28 ∷ opcode_number code ∷ rest)) _ (code, rest) (head_again code rest) ∙ ap (with_value sized) f)

pub request_again : (request : Op) (text rest : List ℕ) → SpellsOp request text → request_at (text ++ rest) ≡ Ok (request, length text)
request_again request text rest s =
    let size : 3 + length s.rest ≡ length text = omega (arith, ap length s.parts) in
    behind_head s.code (text ++ rest) (s.rest ++ rest) (Ok (request, length s.rest)) (ap (λ l. l ++ rest) s.parts)
    (framed_again op_frame_cause (op_at s.code) (λ message. OpSays s.code message (Ok request)) request (λ message h. says_op s.code message request h) s.rest rest s.holds)
    ∙ ap (λ n. Ok (request, n)) size

pub request_prefix : (a b : Op) (text more : List ℕ) → SpellsOp a text → SpellsOp b (text ++ more) → more ≡ []
request_prefix a b text more s t =
    let one = request_again a text more s in
    let two = request_again b (text ++ more) [] t in
    none_more text more (ok_pair a b (length text) (length (text ++ more)) (sym one ∙ (ap request_at (sym (append-nil (text ++ more))) ∙ two))).1

-- a request that was read
record TakesRequest (request : Op) (bytes : List ℕ) (size : ℕ) : Type 0 where
  within : size ≤ length bytes
  spelled : SpellsOp request (take size bytes)

request_takes : (request : Op) (bytes : List ℕ) (size : ℕ) → IsBytes bytes → request_at bytes ≡ Ok (request, size) → TakesRequest request bytes size
unfolding request_at
request_takes request bytes size fits e =
    let one = bind_ok (head_at bytes) _ (request, size) e in
    let code : Opcode = one.0.0 in
    let rest : List ℕ = one.0.1 in
    let parts : bytes ≡ 0 ∷ 28 ∷ opcode_number code ∷ rest = head_takes bytes code rest fits one.1.0 in
    let two = with_value_ok sized (framed_at op_frame_cause (op_at code) rest) (request, size) one.1.1 in
    let same : two.0.0 ≡ request = ap (λ (x : Op × ℕ). x.0) two.1.1 in
    let count : 3 + two.0.1 ≡ size = ap (λ (x : Op × ℕ). x.1) two.1.1 in
    let t =
    framed_takes op_frame_cause (op_at code) (λ message. OpSays code message (Ok request)) request rest two.0.1 (IsBytes-head code bytes rest fits parts)
    (λ message fits h. op_says code message request fits h) (two.1.0 ∙ ap (λ x. Ok (x, two.0.1)) same) in
    let three : size ≡ suc (suc (suc two.0.1)) = omega arith in
    record {
      within = omega (arith, ap length parts, t.within);
      spelled = record { code = code; rest = take two.0.1 rest; parts = ap (take size) parts ∙ ap (λ n. take n (0 ∷ 28 ∷ opcode_number code ∷ rest)) three; holds = t.spelled };
    }

-- ---- each fault that is given stands there

-- the shortest whole frame
nothing_framed : IsWholeFrame (0 ∷ [])
nothing_framed = record { prefix = 0 ∷ []; message = []; parts = refl; spelled = record { shape = omega arith; short = omega arith; value = refl } }

head_of : {A : Type 0} (x y : A) (xs ys : List A) → x ∷ xs ≡ y ∷ ys → x ≡ y
head_of x y xs ys e = cc

tail_of : {A : Type 0} (x y : A) (xs ys : List A) → x ∷ xs ≡ y ∷ ys → xs ≡ ys
tail_of x y xs ys e = cc

cut_none : IsCutRequest []
cut_none = record {
  missing = 0 ∷ 0 ∷ 0 ∷ 0 ∷ [];
  some = omega arith;
  whole = record { head = 0 ∷ 0 ∷ 0 ∷ []; rest = 0 ∷ []; parts = refl; three = refl; framed = nothing_framed };
  version = λ high low rest e. absurd (omega (arith, ap length e));
  code = λ high low number rest e. absurd (omega (arith, ap length e));
  lawful = λ high low number rest e n behind b. absurd (omega (arith, ap length e));
}

cut_one : (high : ℕ) → IsCutRequest (high ∷ [])
cut_one high = record {
  missing = 0 ∷ 0 ∷ 0 ∷ [];
  some = omega arith;
  whole = record { head = high ∷ 0 ∷ 0 ∷ []; rest = 0 ∷ []; parts = refl; three = refl; framed = nothing_framed };
  version = λ high low rest e. absurd (omega (arith, ap length e));
  code = λ high low number rest e. absurd (omega (arith, ap length e));
  lawful = λ high low number rest e n behind b. absurd (omega (arith, ap length e));
}

cut_two : (high low : ℕ) → 256 * high + low ≡ 28 → IsCutRequest (high ∷ low ∷ [])
cut_two high low version = record {
  missing = 0 ∷ 0 ∷ [];
  some = omega arith;
  whole = record { head = high ∷ low ∷ 0 ∷ []; rest = 0 ∷ []; parts = refl; three = refl; framed = nothing_framed };
  version = λ h l rest e. let a = head_of high h _ _ e in let b = head_of low l _ _ (tail_of high h _ _ e) in omega (arith, a, b, version);
  code = λ h l number rest e. absurd (omega (arith, ap length e));
  lawful = λ h l number rest e n behind b. absurd (omega (arith, ap length e));
}

cut_behind : (code : Opcode) (bytes rest : List ℕ) → bytes ≡ 0 ∷ 28 ∷ opcode_number code ∷ rest → IsCutFrame rest → IsCutRequest bytes
cut_behind code bytes rest e c = subst IsCutRequest (sym e) (record {
  missing = c.missing;
  some = c.some;
  whole = record { head = 0 ∷ 28 ∷ opcode_number code ∷ []; rest = rest ++ c.missing; parts = refl; three = refl; framed = c.whole };
  version = λ h l r e. let a = head_of 0 h _ _ e in let b = head_of 28 l _ _ (tail_of 0 h _ _ e) in omega (arith, a, b);
  code = λ h l number r e. numbered number (head_of (opcode_number code) number _ _ (tail_of 28 l _ _ (tail_of 0 h _ _ e)));
  lawful = λ h l number r e n behind b. c.lawful n behind (subst (λ (l : List ℕ). BeginsWithVarint l n behind) (sym (tail_of (opcode_number code) number rest r (tail_of 28 l _ _ (tail_of 0 h _ _ e)))) b);
}) where
  numbered : (number : ℕ) → opcode_number code ≡ number → IsSome (opcode_with number)
  numbered number e = subst (λ (o : Option Opcode). IsSome o) (sym (opcode_with-number code) ∙ ap opcode_with e) refl

behind_fails : (bytes : List ℕ) (e : OpFault) → behind_version bytes ≡ Err e → IsRefusedOp e (0 ∷ 28 ∷ bytes)
behind_fails [] e h = subst (λ (d : OpFault). IsRefusedOp d (0 ∷ 28 ∷ [])) (err_is fault.Short e h) (cut_two 0 28 refl) where
  err_is : (x y : OpFault) → ◌≡◌ {A = Result (Opcode × List ℕ) OpFault} (Err x) (Err y) → x ≡ y
  err_is x y e = cc
behind_fails (number ∷ rest) e h = by_code (opcode_with number) refl h where
  err_is : (x y : OpFault) → ◌≡◌ {A = Result (Opcode × List ℕ) OpFault} (Err x) (Err y) → x ≡ y
  err_is x y e = cc

  by_code : (o : Option Opcode) → opcode_with number ≡ o → opcode_step number rest o ≡ Err e → IsRefusedOp e (0 ∷ 28 ∷ number ∷ rest)
  by_code None n h = subst (λ (d : OpFault). IsRefusedOp d (0 ∷ 28 ∷ number ∷ rest)) (err_is (fault.Opcode number) e h) (record { rest = rest; parts = refl; unknown = n })
  by_code (Some found) n h = cc

head_fails : (bytes : List ℕ) (e : OpFault) → IsBytes bytes → head_at bytes ≡ Err e → IsRefusedOp e bytes
unfolding head_at
head_fails [] e fits h = subst (λ (d : OpFault). IsRefusedOp d []) (err_is fault.Short e h) cut_none where
  err_is : (x y : OpFault) → ◌≡◌ {A = Result (Opcode × List ℕ) OpFault} (Err x) (Err y) → x ≡ y
  err_is x y e = cc
head_fails (high ∷ []) e fits h = subst (λ (d : OpFault). IsRefusedOp d (high ∷ [])) (err_is fault.Short e h) (cut_one high) where
  err_is : (x y : OpFault) → ◌≡◌ {A = Result (Opcode × List ℕ) OpFault} (Err x) (Err y) → x ≡ y
  err_is x y e = cc
head_fails (high ∷ low ∷ bytes) e fits h =
    elim (chosen (256 * high + low == 28) _ _ _ h) [
      | inl t ↦
          let version : 256 * high + low ≡ 28 = eqb-true _ 28 t.0 in
          let none : high ≡ 0 = omega arith in
          let all : low ≡ 28 = omega arith in
          rw (none, all) (behind_fails bytes e t.1)
      | inr t ↦
          subst (λ (d : OpFault). IsRefusedOp d (high ∷ low ∷ bytes)) (err_is _ e t.1)
          (record { high = high; low = low; rest = bytes; parts = refl; got_is = refl; other = eqb-false _ 28 t.0 })
    ] where
      err_is : (x y : OpFault) → ◌≡◌ {A = Result (Opcode × List ℕ) OpFault} (Err x) (Err y) → x ≡ y
      err_is x y e = cc

outside : (code : Opcode) (bytes rest : List ℕ) (f : FrameFault) → bytes ≡ 0 ∷ 28 ∷ opcode_number code ∷ rest → IsNoFrame f rest → IsRefusedOp (op_frame_cause f) bytes
outside code bytes rest frame.Short e s = cut_behind code bytes rest e s
outside code bytes rest (frame.TooLong n) e s = record { code = code; rest = rest; parts = e; holds = s }
outside code bytes rest frame.LongPrefix e s = record { code = code; rest = rest; parts = e; holds = inl (record { fault_is = refl; long = s }) }

inside : (code : Opcode) (bytes rest message : List ℕ) (e : OpFault) → bytes ≡ 0 ∷ 28 ∷ opcode_number code ∷ rest → HasFrame rest message → OpFails e code message → IsRefusedOp e bytes
inside code bytes rest message fault.Short p f s = absurd s
inside code bytes rest message (fault.Version got) p f s = absurd s
inside code bytes rest message (fault.Opcode got) p f s = absurd s
inside code bytes rest message (fault.TooLong n) p f s = absurd s
inside code bytes rest message (fault.Wire e) p f s = record { code = code; rest = rest; parts = p; holds = inr (record { message = message; framed = f; holds = s }) }
inside code bytes rest message (fault.Missing path) p f s = record { code = code; rest = rest; parts = p; holds = record { message = message; framed = f; holds = s } }
inside code bytes rest message fault.Memory p f s = absurd s

request_fails : (bytes : List ℕ) (e : OpFault) → IsBytes bytes → request_at bytes ≡ Err e → IsRefusedOp e bytes
unfolding request_at
request_fails bytes e fits h =
    elim (bind_err (head_at bytes) _ e h) [
      | inl one ↦ head_fails bytes e fits one
      | inr later ↦
          let code : Opcode = later.0.0 in
          let rest : List ℕ = later.0.1 in
          let parts : bytes ≡ 0 ∷ 28 ∷ opcode_number code ∷ rest = head_takes bytes code rest fits later.1.0 in
          elim (framed_fails op_frame_cause (op_at code) rest e (IsBytes-head code bytes rest fits parts) (with_value_err sized (framed_at op_frame_cause (op_at code) rest) e later.1.1)) [
            | inl out ↦ subst (λ (d : OpFault). IsRefusedOp d bytes) out.is (outside code bytes rest out.fault parts out.found)
            | inr within ↦ inside code bytes rest within.message e parts within.framed (op_fails code within.message e within.fits within.refused)
          ]
    ]

-- ---- each fault that stands there is given

head_refused : (bytes : List ℕ) (e : OpFault) → head_at bytes ≡ Err e → request_at bytes ≡ Err e
unfolding request_at
head_refused bytes e h = bind-Err (head_at bytes) _ e h

-- a cut request by how many bytes of the head are there
cut_refused : (bytes : List ℕ) → IsBytes bytes → IsCutRequest bytes → request_at bytes ≡ Err fault.Short
unfolding head_at
cut_refused [] fits c = head_refused [] fault.Short refl
cut_refused (high ∷ []) fits c = head_refused (high ∷ []) fault.Short refl
cut_refused (high ∷ low ∷ []) fits c =
    head_refused (high ∷ low ∷ []) fault.Short (rw (eq-eqb (256 * high + low) 28 (c.version high low [] refl)) refl)
cut_refused (high ∷ low ∷ number ∷ rest) fits c = by_code (opcode_with number) refl (c.code high low number rest refl) where
  version : 256 * high + low ≡ 28
  version = c.version high low (number ∷ rest) refl

  behind : rest ++ c.missing ≡ c.whole.rest
  behind =
      let parts : high ∷ low ∷ number ∷ (rest ++ c.missing) ≡ c.whole.head ++ c.whole.rest = c.whole.parts in
      ap (drop 3) parts ∙ drop_at c.whole.head c.whole.rest 3 c.whole.three

  cut : IsCutFrame rest
  cut = record {
    missing = c.missing;
    some = c.some;
    whole = subst IsWholeFrame (sym behind) c.whole.framed;
    lawful = λ n r b. c.lawful high low number rest refl n r b;
  }

  by_code : (o : Option Opcode) → opcode_with number ≡ o → IsSome o → request_at (high ∷ low ∷ number ∷ rest) ≡ Err fault.Short
  by_code None e some = absurd (none_some some) where
    none_some : IsSome {T = Opcode} None → ⊥
    none_some s = cc
  by_code (Some code) e some =
      let none : high ≡ 0 = omega (arith, version, fits 0, fits 1) in
      let all : low ≡ 28 = omega (arith, version, fits 0, fits 1) in
      let parts : high ∷ low ∷ number ∷ rest ≡ 0 ∷ 28 ∷ opcode_number code ∷ rest = rw (none, all) (ap (λ n. 0 ∷ 28 ∷ n ∷ rest) (opcode_is number code e)) in
      behind_head code (high ∷ low ∷ number ∷ rest) rest (Err fault.Short) parts
      (no_frame_refused op_frame_cause (op_at code) rest frame.Short (IsBytes-head code (high ∷ low ∷ number ∷ rest) rest fits parts) cut)

pub request_refuses : (bytes : List ℕ) (e : OpFault) → IsBytes bytes → IsRefusedOp e bytes → request_at bytes ≡ Err e
unfolding head_at
request_refuses bytes fault.Short fits s = cut_refused bytes fits s
request_refuses bytes (fault.Version got) fits s =
    let other : (256 * s.high + s.low ≡ 28) → ⊥ = λ h. s.other (s.got_is ∙ h) in
    ap request_at s.parts
    ∙ (head_refused (s.high ∷ s.low ∷ s.rest) (fault.Version (256 * s.high + s.low)) (rw (ne_eqb (256 * s.high + s.low) 28 other) refl)
    ∙ ap (λ (n : ℕ). Err (fault.Version n)) (sym s.got_is))
request_refuses bytes (fault.Opcode got) fits s =
    ap request_at s.parts ∙ head_refused (0 ∷ 28 ∷ got ∷ s.rest) (fault.Opcode got) (ap (opcode_step got s.rest) s.unknown)
request_refuses bytes (fault.TooLong n) fits s =
    behind_head s.code bytes s.rest (Err (fault.TooLong n)) s.parts (no_frame_refused op_frame_cause (op_at s.code) s.rest (frame.TooLong n) (IsBytes-head s.code bytes s.rest fits s.parts) s.holds)
request_refuses bytes (fault.Wire e) fits s = by_place s.holds where
  by_place : IsFaultyBehind e s.code s.rest → request_at bytes ≡ Err (fault.Wire e)
  by_place (inl p) =
      behind_head s.code bytes s.rest _ s.parts (no_frame_refused op_frame_cause (op_at s.code) s.rest frame.LongPrefix (IsBytes-head s.code bytes s.rest fits s.parts) p.long)
      ∙ ap (λ (w : WireFault). Err (fault.Wire w)) (sym p.fault_is)
  by_place (inr p) =
      behind_head s.code bytes s.rest (Err (fault.Wire e)) s.parts (inside_refused op_frame_cause (op_at s.code) s.rest (fault.Wire e) p.message p.framed (faulty_op s.code p.message e p.holds))
request_refuses bytes (fault.Missing path) fits s =
    behind_head s.code bytes s.rest (Err (fault.Missing path)) s.parts
    (inside_refused op_frame_cause (op_at s.code) s.rest (fault.Missing path) s.holds.message s.holds.framed (missing_op s.code s.holds.message path s.holds.holds))
request_refuses bytes fault.Memory fits s = absurd s

-- ---- the clauses of a result

pub request_found : (bytes : List ℕ) (r : Result (Op × ℕ) OpFault) → IsBytes bytes → Gives fault.Memory r (request_at bytes) → IfOk r (λ x. SpellsOp x.0 (take x.1 bytes))
request_found bytes r fits g =
    gives_found fault.Memory (λ (x : Op × ℕ). SpellsOp x.0 (take x.1 bytes)) r (request_at bytes) (λ x e. (request_takes x.0 bytes x.1 fits e).spelled) g

pub request_within : (bytes : List ℕ) (r : Result (Op × ℕ) OpFault) → IsBytes bytes → Gives fault.Memory r (request_at bytes) → IfOk r (λ x. x.1 ≤ length bytes)
request_within bytes r fits g =
    gives_found fault.Memory (λ (x : Op × ℕ). x.1 ≤ length bytes) r (request_at bytes) (λ x e. (request_takes x.0 bytes x.1 fits e).within) g

pub request_only : (bytes : List ℕ) (r : Result (Op × ℕ) OpFault) (request : Op) (text rest : List ℕ) → Gives fault.Memory r (request_at bytes) → SpellsOp request text → bytes ≡ text ++ rest → Gives fault.Memory r (Ok (request, length text))
request_only bytes r request text rest g s e = Gives-same fault.Memory r (request_at bytes) (Ok (request, length text)) (ap request_at e ∙ request_again request text rest s) g

pub request_refused : (bytes : List ℕ) (r : Result (Op × ℕ) OpFault) → IsBytes bytes → Gives fault.Memory r (request_at bytes) → IfErr r (λ e. FailsFor fault.Memory IsRefusedOp e bytes)
request_refused bytes r fits g = gives_refused fault.Memory IsRefusedOp bytes r (request_at bytes) (λ e is. request_fails bytes e fits is) g
