-- Frames: what stands at the front of bytes is read, what is read stands there, and each fault is the one that stands there.
use Rattle.std.proofs.Common.{◌≡◌, ℕ, ◌+◌, ◌-◌, ◌%◌, ◌^◌, ◌<◌, ◌≤◌, ◌⊎◌, inl, inr, nat_lt, true, false, Bool, cond, List, [], ◌∷◌, ◌++◌, length, take, drop, replicate, Result, Ok, Err, subst, refl, sym, ap, ◌∙◌, arith, append_assoc, length-append, take-append-drop}
use Rattle.std.specs.Prelude.{IfOk, IfErr}
use Rattle.std.specs.Borrow.{Bor}
use Rattle.std.proofs.lemmas.Bool.{ltb-false, ltb-true, lt-ltb, le-ltb}
use Rattle.std.proofs.lemmas.List.{take_at, take-append-le, length-replicate, length-take}
use Rattle.proto_fields.specs.declared.varints.VarintFault.{VarintFault}
use Rattle.proto_fields.specs.declared.varints.VarintFault.TheVariants as varint
use Rattle.hd_base.specs.Results.{◌>>=◌, with_cause, with_value}
use Rattle.hd_base.specs.Bytes.{IsBytes}
use Rattle.proto_fields.specs.Varint.{sevens, IsVarint, IsUnended, SpellsVarint, BeginsWithVarint, IsCutVarint, IsLongVarint, varint_at}
use Rattle.hd_base.proofs.ByteLaws.{IsBytes-behind, IsBytes-take}
use Rattle.hd_base.proofs.ResultLaws.{bind_ok, bind_err, bind-Ok, bind-Err, with_cause_ok, with_cause_err, ok_value, ok_pair}
use Rattle.proto_fields.proofs.VarintLemmas.{read_varint_takes, read_varint_again, read_varint_begins, read_varint_cut, read_varint_cut_is, read_varint_long, read_varint_long_is}
use Rattle.proto_fields.specs.declared.frames.FrameFault.{FrameFault}
use Rattle.proto_fields.specs.declared.frames.FrameFault.TheVariants as fault
use Rattle.proto_fields.specs.Frames.{limit, HasFrame, IsCutFrame, IsNoFrame, prefix_fault, behind_length, frame_at, frame_value}

-- ---- the step behind the length

behind-Ok : (size n : ℕ) (rest : List ℕ) → n ≤ limit → n ≤ length rest → behind_length size (n, rest) ≡ Ok (take n rest, size - length rest + n)
behind-Ok size n rest few there = rw (le-ltb limit n few, le-ltb (length rest) n there) refl

behind-Short : (size n : ℕ) (rest : List ℕ) → n ≤ limit → length rest < n → behind_length size (n, rest) ≡ Err fault.Short
behind-Short size n rest few cut = rw (le-ltb limit n few, lt-ltb (length rest) n cut) refl

behind-TooLong : (size n : ℕ) (rest : List ℕ) → limit < n → behind_length size (n, rest) ≡ Err (fault.TooLong n)
behind-TooLong size n rest over = rw (lt-ltb limit n over) refl

-- what a step that passed or stopped says of its two tests
record Passed (one two : Bool) (g f : List ℕ × ℕ) : Type 0 where
  first : one ≡ false
  second : two ≡ false
  same : g ≡ f

passed : (one two : Bool) (x y : FrameFault) (g f : List ℕ × ℕ) → cond one (Err x) (cond two (Err y) (Ok g)) ≡ Ok f → Passed one two g f
passed true two x y g f e = cc
passed false true x y g f e = cc
passed false false x y g f e = record { first = refl; second = refl; same = ok_value g f e }

stopped : (one two : Bool) (x y : FrameFault) (g : List ℕ × ℕ) (f : FrameFault) → cond one (Err x) (cond two (Err y) (Ok g)) ≡ Err f → ((one ≡ true) × (x ≡ f)) ⊎ ((one ≡ false) × (two ≡ true) × (y ≡ f))
stopped true two x y g f e = inl (refl, cc)
stopped false true x y g f e = inr (refl, refl, cc)
stopped false false x y g f e = cc

-- ---- what stands there is read, and what is read stands there

pub frame_again : (bytes message : List ℕ) (f : HasFrame bytes message) → frame_at bytes ≡ Ok (message, length f.prefix + length message)
unfolding frame_at
frame_again bytes message f =
    let behind : List ℕ = message ++ f.rest in
    let read : varint_at bytes ≡ Ok (length message, behind) = ap varint_at f.parts ∙ read_varint_again f.prefix (length message) behind f.spelled in
    let sizes : length bytes ≡ length f.prefix + length behind = ap length f.parts ∙ length-append f.prefix behind in
    let more : length behind ≡ length message + length f.rest = length-append message f.rest in
    let size : length bytes - length behind + length message ≡ length f.prefix + length message = omega arith in
    bind-Ok _ _ (length message, behind) (ap (with_cause prefix_fault) read)
    ∙ (behind-Ok (length bytes) (length message) behind f.few (omega arith)
    ∙ rw (take_at message f.rest (length message) refl, size) refl)

-- A frame that was read.
pub record TakesFrame (bytes message : List ℕ) (size : ℕ) : Type 0 where
  pub frame : HasFrame bytes message
  pub size_is : size ≡ length frame.prefix + length message
  pub fits : IsBytes message

pub frame_takes : (bytes message : List ℕ) (size : ℕ) → IsBytes bytes → frame_at bytes ≡ Ok (message, size) → TakesFrame bytes message size
unfolding frame_at
frame_takes bytes message size fits e =
    let one = bind_ok (with_cause prefix_fault (varint_at bytes)) (behind_length (length bytes)) (message, size) e in
    let n : ℕ = one.0.0 in
    let rest : List ℕ = one.0.1 in
    let read : varint_at bytes ≡ Ok (n, rest) = with_cause_ok prefix_fault (varint_at bytes) one.0 one.1.0 in
    let taken = read_varint_takes bytes n rest fits read in
    let p = passed (nat_lt limit n) (nat_lt (length rest) n) (fault.TooLong n) fault.Short (take n rest, length bytes - length rest + n) (message, size) one.1.1 in
    let few : n ≤ limit = ltb-false limit n p.first in
    let there : n ≤ length rest = ltb-false (length rest) n p.second in
    let is : take n rest ≡ message = ap (λ x. x.0) p.same in
    let len : length message ≡ n = ap length (sym is) ∙ omega (arith, length-take n rest) in
    let sizes : length bytes ≡ length taken.0.text + length rest = ap length taken.0.parts ∙ length-append taken.0.text rest in
    let sized : length bytes - length rest + n ≡ size = ap (λ x. x.1) p.same in
    record {
      frame = record {
        prefix = taken.0.text;
        rest = drop n rest;
        parts = taken.0.parts ∙ ap (λ l. taken.0.text ++ l) (sym (take-append-drop n rest) ∙ ap (λ l. l ++ drop n rest) is);
        spelled = subst (SpellsVarint taken.0.text) (sym len) taken.0.spelled;
        few = omega arith;
      };
      size_is = omega arith;
      fits = subst IsBytes is (IsBytes-take n rest taken.1);
    }

-- ---- frames that are cut off

zeros : ℕ → List ℕ
zeros n = replicate n 0

length-zeros : (n : ℕ) → length (zeros n) ≡ n
unfolding zeros
length-zeros n = length-replicate n (let z : ℕ = 0 in z)

-- bytes that end behind their length and before their message does
cut_message : (bytes : List ℕ) (n : ℕ) (rest : List ℕ) → BeginsWithVarint bytes n rest → n ≤ limit → length rest < n → IsCutFrame bytes
cut_message bytes n rest b few cut =
    let missing : List ℕ = zeros (n - length rest) in
    let many : length missing ≡ n - length rest = length-zeros (n - length rest) in
    let size : n ≡ length (rest ++ missing) = omega (arith, length-append rest missing) in
    record {
      missing = missing;
      some = omega arith;
      whole = record {
        prefix = b.text;
        message = rest ++ missing;
        parts = ap (λ l. l ++ missing) b.parts ∙ append_assoc b.text rest missing;
        spelled = subst (SpellsVarint b.text) size b.spelled;
      };
      lawful = λ m r begins. subst (λ k. k ≤ limit) (same_length m r begins) few;
    }
  where
    same_length : (m : ℕ) (r : List ℕ) → BeginsWithVarint bytes m r → n ≡ m
    same_length m r begins = (ok_pair n m rest r (sym (read_varint_begins bytes n rest b) ∙ read_varint_begins bytes m r begins)).0

-- a byte with no high bit ends a varint
ended : (bytes : List ℕ) → IsUnended bytes → IsBytes bytes → IsVarint (bytes ++ 0 ∷ [])
ended [] u fits = omega arith
ended (b ∷ []) u fits = (u.0, fits 0, omega arith)
ended (b ∷ c ∷ bs) u fits = (u.0, fits 0, ended (c ∷ bs) u.1 (IsBytes-behind b (c ∷ bs) fits))

-- bytes that end before their length does: a byte ends it, and so many follow as it then says
cut_length : (bytes : List ℕ) → IsBytes bytes → IsCutVarint bytes → IsCutFrame bytes
cut_length bytes fits s =
    let text : List ℕ = bytes ++ 0 ∷ [] in
    let n : ℕ = sevens text % 2 ^ 64 in
    record {
      missing = 0 ∷ zeros n;
      some = omega arith;
      whole = record {
        prefix = text;
        message = zeros n;
        parts = sym (append_assoc bytes (0 ∷ []) (zeros n));
        spelled = record {
          shape = ended bytes s.open_end fits;
          short = omega (arith, s.few, length-append bytes (0 ∷ []));
          value = length-zeros n;
        };
      };
      lawful = λ m r begins. absurd (not_both m r begins);
    }
  where
    ok_err : (m : ℕ) (r : List ℕ) (f : VarintFault) → ◌≡◌ {A = Result (ℕ × List ℕ) VarintFault} (Ok (m, r)) (Err f) → ⊥
    ok_err m r f e = cc

    not_both : (m : ℕ) (r : List ℕ) → BeginsWithVarint bytes m r → ⊥
    not_both m r begins = ok_err m r varint.Short (sym (read_varint_begins bytes m r begins) ∙ read_varint_cut bytes s)

-- ---- each fault that is given stands there

pub frame_fails : (bytes : List ℕ) (f : FrameFault) → IsBytes bytes → frame_at bytes ≡ Err f → IsNoFrame f bytes
unfolding frame_at
frame_fails bytes f fits e =
    elim (bind_err (with_cause prefix_fault (varint_at bytes)) (behind_length (length bytes)) f e) [
      | inl one ↦
          let d = with_cause_err prefix_fault (varint_at bytes) f one in
          subst (λ (g : FrameFault). IsNoFrame g bytes) d.1.1 (by_prefix d.0 d.1.0)
      | inr later ↦ behind later.0.0 later.0.1 (with_cause_ok prefix_fault (varint_at bytes) later.0 later.1.0) later.1.1
    ]
  where
    by_prefix : (d : VarintFault) → varint_at bytes ≡ Err d → IsNoFrame (prefix_fault d) bytes
    by_prefix varint.Short h = cut_length bytes fits (read_varint_cut_is bytes h)
    by_prefix varint.Long h = read_varint_long_is bytes h

    behind : (n : ℕ) (rest : List ℕ) → varint_at bytes ≡ Ok (n, rest) → behind_length (length bytes) (n, rest) ≡ Err f → IsNoFrame f bytes
    behind n rest read h =
        let b = (read_varint_takes bytes n rest fits read).0 in
        elim (stopped (nat_lt limit n) (nat_lt (length rest) n) (fault.TooLong n) fault.Short (take n rest, length bytes - length rest + n) f h) [
          | inl over ↦ subst (λ (g : FrameFault). IsNoFrame g bytes) over.1 (record { rest = rest; begins = b; over = ltb-true limit n over.0 })
          | inr cut ↦ subst (λ (g : FrameFault). IsNoFrame g bytes) cut.2 (cut_message bytes n rest b (ltb-false limit n cut.0) (ltb-true (length rest) n cut.1))
        ]

-- ---- each fault that stands there is given

cut_fails : (bytes : List ℕ) → IsBytes bytes → IsCutFrame bytes → frame_at bytes ≡ Err fault.Short
unfolding frame_at
cut_fails bytes fits c = by_varint (varint_at bytes) refl where
  whole : varint_at (bytes ++ c.missing) ≡ Ok (length c.whole.message, c.whole.message)
  whole = ap varint_at c.whole.parts ∙ read_varint_again c.whole.prefix (length c.whole.message) c.whole.message c.whole.spelled

  same : (n : ℕ) (rest : List ℕ) → BeginsWithVarint bytes n rest → (n ≡ length c.whole.message) × (rest ++ c.missing ≡ c.whole.message)
  same n rest b =
      let more : varint_at (bytes ++ c.missing) ≡ Ok (n, rest ++ c.missing) =
      ap varint_at (ap (λ l. l ++ c.missing) b.parts ∙ append_assoc b.text rest c.missing) ∙ read_varint_again b.text n (rest ++ c.missing) b.spelled in
      ok_pair n (length c.whole.message) (rest ++ c.missing) c.whole.message (sym more ∙ whole)

  err_ok : (x : ℕ × List ℕ) → ◌≡◌ {A = Result (ℕ × List ℕ) VarintFault} (Err varint.Long) (Ok x) → ⊥
  err_ok x e = cc

  by_varint : (v : Result (ℕ × List ℕ) VarintFault) → varint_at bytes ≡ v → (with_cause prefix_fault (varint_at bytes) >>= behind_length (length bytes)) ≡ Err fault.Short
  by_varint (Ok x) e =
      let b = (read_varint_takes bytes x.0 x.1 fits e).0 in
      let s = same x.0 x.1 b in
      let fewer : length x.1 < x.0 = omega (arith, s.0, ap length s.1, length-append x.1 c.missing, c.some) in
      bind-Ok _ _ x (ap (with_cause prefix_fault) e) ∙ behind-Short (length bytes) x.0 x.1 (c.lawful x.0 x.1 b) fewer
  by_varint (Err varint.Short) e = bind-Err _ _ fault.Short (ap (with_cause prefix_fault) e)
  by_varint (Err varint.Long) e =
      let long : IsLongVarint bytes = read_varint_long_is bytes e in
      let front : take 10 (bytes ++ c.missing) ≡ take 10 bytes = take-append-le 10 bytes c.missing long.many in
      let longer : IsLongVarint (bytes ++ c.missing) = record {
        open_end = subst IsUnended (sym front) long.open_end;
        many = omega (arith, long.many, length-append bytes c.missing);
      } in
      absurd (err_ok (length c.whole.message, c.whole.message) (sym (read_varint_long (bytes ++ c.missing) longer) ∙ whole))

pub no_frame_fails : (bytes : List ℕ) (f : FrameFault) → IsBytes bytes → IsNoFrame f bytes → frame_at bytes ≡ Err f
unfolding frame_at
no_frame_fails bytes fault.Short fits s = cut_fails bytes fits s
no_frame_fails bytes (fault.TooLong n) fits s =
    bind-Ok _ _ (n, s.rest) (ap (with_cause prefix_fault) (read_varint_begins bytes n s.rest s.begins)) ∙ behind-TooLong (length bytes) n s.rest s.over
no_frame_fails bytes fault.LongPrefix fits s = bind-Err _ _ fault.LongPrefix (ap (with_cause prefix_fault) (read_varint_long bytes s))

-- ---- what a reader that gives `frame_at` promises

pub frame_found : (bytes : List ℕ) (r : Result (Bor (List ℕ) × ℕ) FrameFault) → IsBytes bytes → with_value frame_value r ≡ frame_at bytes → IfOk r (λ f. HasFrame bytes f.0.now)
frame_found bytes (Ok f) fits e = let t = frame_takes bytes f.0.now f.1 fits (sym e) in t.frame
frame_found bytes (Err e) fits h = tt

pub frame_refused : (bytes : List ℕ) (r : Result (Bor (List ℕ) × ℕ) FrameFault) → IsBytes bytes → with_value frame_value r ≡ frame_at bytes → IfErr r (λ e. IsNoFrame e bytes)
frame_refused bytes (Ok f) fits e = tt
frame_refused bytes (Err e) fits h = frame_fails bytes e fits (sym h)

pub frame_refuses : (bytes : List ℕ) (r : Result (Bor (List ℕ) × ℕ) FrameFault) (e : FrameFault) → IsBytes bytes → with_value frame_value r ≡ frame_at bytes → IsNoFrame e bytes → r ≡ Err e
frame_refuses bytes r e fits h s = by_result r (h ∙ no_frame_fails bytes e fits s) where
  by_result : (r : Result (Bor (List ℕ) × ℕ) FrameFault) → with_value frame_value r ≡ Err e → r ≡ Err e
  by_result (Ok f) h = cc
  by_result (Err d) h = cc

pub frame_within : (bytes : List ℕ) (r : Result (Bor (List ℕ) × ℕ) FrameFault) → IsBytes bytes → with_value frame_value r ≡ frame_at bytes → IfOk r (λ f. f.1 ≤ length bytes)
frame_within bytes (Ok f) fits e =
    let t = frame_takes bytes f.0.now f.1 fits (sym e) in
    omega (arith, t.size_is, ap length t.frame.parts ∙ length-append t.frame.prefix (f.0.now ++ t.frame.rest), length-append f.0.now t.frame.rest)
frame_within bytes (Err e) fits h = tt
