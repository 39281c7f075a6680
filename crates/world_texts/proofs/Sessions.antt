-- No session has more bytes than the writer of its block was given.
use Rattle.std.proofs.Common.{◌≡◌, ℕ, ◌+◌, ◌<◌, ◌≤◌, ◌^◌, ◌⊎◌, inl, inr, Bool, true, false, List, [], ◌++◌, length, Option, Some, None, IfSome, Err, sym, ap, ◌∙◌, subst, arith, length-append, eqb-true}
use Rattle.std.specs.Prelude.{◌==◌}
use Rattle.std.proofs.lemmas.List.{length-take}
use Rattle.std.proofs.lemmas.Bool.Decides.{nat_tests}
use Rattle.std.proofs.lemmas.Option.{none-some}
use Rattle.hd_base.specs.declared.numbers.BlockId.{BlockId}
use Rattle.name_core.specs.declared.calls.OfficeAnswer.{OfficeAnswer}
use Rattle.name_core.specs.declared.calls.OfficeCall.{OfficeCall}
use Rattle.name_core.specs.declared.records.BlockRecord.{BlockRecord}
use Rattle.name_core.specs.Offices.{OfficeState, record_of, office_case}
use Rattle.name_core.specs.Steps.{Step, reply}
use Rattle.name_core.proofs.CaseLemmas.{each_case}
use Rattle.world_laws.specs.WriterCore.WriterRecord.{WriterRecord}
use Rattle.world_laws.specs.World.Parts.{Writing}
use Rattle.world_laws.specs.World.Worlds.{World, Stamped, Change, put, add, apply}
use Rattle.world_laws.specs.World.Primaries.{stamped_by, base_of, session_begun}
use Rattle.world_laws.specs.Stamping.{Givens, given_with, heard, Entries, HeldOf, Recorded}
use Rattle.world_laws.proofs.ByteLeaves.{Facts, before-of}
use Rattle.world_laws.proofs.ByteOffices.{Answered, old-written}
use Rattle.world_laws.proofs.FactTables.{if-each, put-each}
use Rattle.world_laws.proofs.Sessions.{refused-stamp}
use Rattle.world_laws.proofs.StampRecording.{known-of, given-each}
use Rattle.world_texts.proofs.Frame.{Brings, given_to}
use Rattle.world_texts.proofs.Ranges.{Ranged}

-- the bytes of each session of a block were given to its writer
pub record Bounded (g : Givens) (w : World) : Type 0 where
  pub most : (b t e : ℕ) → g b t ≡ Some e → length (w.written e) ≤ given_to w b

pub ranged : (g : Givens) (w : World) → Facts g w → Bounded g w → w.office.next.0 ≤ 2 ^ 64 → Ranged g w
ranged g w f h left = record { stamps = left; lengths = λ b t e q. omega (arith, h.most b t e q, (f.carried.writers b).sound.bytes) }

-- THE LATEST SESSION OF A BLOCK

-- a session that stamps of a block are of is given for this block
session-begins : (f : ℕ → Option ℕ) (l : ℕ) (o : Option BlockRecord) (x : WriterRecord) (t e : ℕ) → HeldOf f l o x → f t ≡ Some e → f e ≡ Some e
session-begins f l None x t e h q = absurd (none-some e (sym (h.1 t) ∙ q))
session-begins f l (Some r) x t e h q = h.office.session t e q

-- the latest session of one block is none of another's
latest-of : (g : Givens) (w : World) → Recorded g w → (b d t : ℕ) → g b t ≡ Some (w.latest d) → b ≡ d
latest-of g w r b d t q = go (record_of w.office (record { 0 = d })) (r.blocks d)
  where
    first : g b (w.latest d) ≡ Some (w.latest d)
    first = session-begins (g b) (w.latest b) (record_of w.office (record { 0 = b })) (heard (w.writers b)) t (w.latest d) (r.blocks b) q

    go : (o : Option BlockRecord) → HeldOf (g d) (w.latest d) o (heard (w.writers d)) → b ≡ d
    go None h = absurd (omega (arith, h.0, r.above b (w.latest d) (w.latest d) first))
    go (Some x) h = r.one b d (w.latest d) (w.latest d) (w.latest d) first h.office.begins

eqb-itself : (c : ℕ) → (c == c) ≡ true
eqb-itself c = grind (arith, nat_tests)

-- WHAT A CHANGE LEAVES

-- a writer that was given no less
given-after : (w : World) (k : Change) → given_to w k.writer_at ≤ (heard k.writer).intake.bytes → (b : ℕ) → given_to w b ≤ (heard (put w.writers k.writer_at k.writer b)).intake.bytes
given-after w k h b = put-each (λ (b : ℕ) (x : Writing). given_to w b ≤ (heard x).intake.bytes) w.writers k.writer_at k.writer h (λ d. omega arith) b

pub bounded-after : (g : Givens) (w : World) (k : Change) → Recorded g w → Bounded g w → Brings w k → Bounded g (apply w k)
unfolding apply
bounded-after g w k r h n = record { most = λ b t e q. go n.spends b t e q }
  where
    grows : (b : ℕ) → given_to w b ≤ (heard (put w.writers k.writer_at k.writer b)).intake.bytes
    grows b = given-after w k (omega (arith, n.writer.intake)) b

    added : (b e : ℕ) → length (w.written e) + length k.bytes ≤ (heard (put w.writers k.writer_at k.writer b)).intake.bytes → length (w.written e) ≤ (heard (put w.writers k.writer_at k.writer b)).intake.bytes
        → length (add w.written k.session k.bytes e) ≤ (heard (put w.writers k.writer_at k.writer b)).intake.bytes
    added b e more same = if-each (λ (v : List ℕ). length v ≤ (heard (put w.writers k.writer_at k.writer b)).intake.bytes) (e == k.session) (w.written e ++ k.bytes) (w.written e)
        (λ i. omega (arith, length-append (w.written e) k.bytes, more)) (λ i. same)

    stays : (b t e : ℕ) → g b t ≡ Some e → length (w.written e) ≤ (heard (put w.writers k.writer_at k.writer b)).intake.bytes
    stays b t e q = omega (arith, h.most b t e q, grows b)

    -- the writer itself
    own : (b : ℕ) → b ≡ k.writer_at → given_to w k.writer_at + length k.bytes ≤ (heard (put w.writers k.writer_at k.writer b)).intake.bytes
    own b e = if-each (λ (x : Writing). given_to w k.writer_at + length k.bytes ≤ (heard x).intake.bytes) (b == k.writer_at) k.writer (w.writers b) (λ i. n.writer.intake) (λ i. absurd (apart (b == k.writer_at) i (ap (λ (c : ℕ). c == k.writer_at) e ∙ eqb-itself k.writer_at)))
      where
        apart : (x : Bool) → x ≡ false → x ≡ true → ⊥
        apart true f t = cc
        apart false f t = cc

    go : ((k.bytes ≡ []) ⊎ (k.session ≡ w.latest k.writer_at)) → (b t e : ℕ) → g b t ≡ Some e → length (add w.written k.session k.bytes e) ≤ (heard (put w.writers k.writer_at k.writer b)).intake.bytes
    go (inl none) b t e q = added b e (omega (arith, ap length none, stays b t e q)) (stays b t e q)
    go (inr is) b t e q = if-each (λ (v : List ℕ). length v ≤ (heard (put w.writers k.writer_at k.writer b)).intake.bytes) (e == k.session) (w.written e ++ k.bytes) (w.written e)
        (λ i.
        let same : e ≡ w.latest k.writer_at = eqb-true e k.session i ∙ is in
        let here : b ≡ k.writer_at = latest-of g w r b k.writer_at t (q ∙ ap (λ (x : ℕ). Some x) same) in
        let most : length (w.written e) ≤ given_to w k.writer_at = subst (λ (d : ℕ). length (w.written e) ≤ given_to w d) here (h.most b t e q) in
        omega (arith, length-append (w.written e) k.bytes, most, own b here))
        (λ i. stays b t e q)

-- WHAT THE OFFICE LEAVES

-- the session of a stamp that is given has no more bytes than the block's writer was given
abbrev BoundedBy : World → OfficeCall → Step OfficeState OfficeAnswer → Type 0
BoundedBy w c s = IfSome (stamped_by w c (reply s)) (λ x. length (add w.written (session_begun (stamped_by w c (reply s))) (base_of w (reply s)) x.session) ≤ given_to w x.block)

none-bounded : (w : World) (o : Option Stamped) (v : List ℕ) (n : ℕ) → o ≡ None → IfSome o (λ x. length (add w.written n v x.session) ≤ given_to w x.block)
none-bounded w o v n e = subst (λ (p : Option Stamped). IfSome p (λ x. length (add w.written n v x.session) ≤ given_to w x.block)) (sym e) tt

module _ (g : Givens) (w : World) (f : Facts g w) (h : Bounded g w) where
  entry-of : (b : BlockId) (r : BlockRecord) → record_of w.office b ≡ Some r → Entries (g b.0) (w.latest b.0) r (heard (w.writers b.0))
  entry-of b r e = known-of (g b.0) (w.latest b.0) (record_of w.office b) r (heard (w.writers b.0)) e (f.recorded.blocks b.0)

  -- bytes that are no more than what was given go to a session that has none
  begins-bounded : (v : List ℕ) (n m : ℕ) → w.office.next.0 ≤ n → length v ≤ m → length (add w.written n v n) ≤ m
  begins-bounded v n m le few = if-each (λ (x : List ℕ). length x ≤ m) (n == n) (w.written n ++ v) (w.written n)
      (λ _. omega (arith, length-append (w.written n) v, ap length (f.unused n le), few)) (λ _. omega (arith, ap length (f.unused n le)))

  -- no bytes go anywhere
  stays-bounded : (n e m : ℕ) → length (w.written e) ≤ m → length (add w.written n [] e) ≤ m
  stays-bounded n e m few = if-each (λ (x : List ℕ). length x ≤ m) (e == n) (w.written e ++ []) (w.written e) (λ _. omega (arith, length-append (w.written e) (let none : List ℕ = [] in none), few)) (λ _. few)

  base-bounded : (b : BlockId) (r : BlockRecord) → record_of w.office b ≡ Some r → length (w.written (w.session_of r.committed.0)) ≤ given_to w b.0
  base-bounded b r e =
      let x = entry-of b r e in
      subst (λ (s : ℕ). length (w.written s) ≤ given_to w b.0) (sym (f.recorded.session b.0 r.committed.0 x.base x.office.committed)) (h.most b.0 r.committed.0 x.base x.office.committed)

  office-bounded : (c : OfficeCall) → BoundedBy w c (office_case w.office c)
  office-bounded c = each_case w.office (BoundedBy w) (record {
    refused = λ d e. none-bounded w (stamped_by w d (Err e)) _ _ (refused-stamp w d e);
    created = λ block members none. begins-bounded [] w.office.next.0 (given_to w block.0) (omega arith) (omega arith);
    appended = λ block r is shut short. begins-bounded _ w.office.next.0 (given_to w block.0) (omega arith) (omega (arith, length-take r.length (w.written (w.session_of r.committed.0)), base-bounded block r is));
    stamped = λ block r is writers. stays-bounded (w.latest block.0) (w.latest block.0) (given_to w block.0) (h.most block.0 (w.latest block.0) (w.latest block.0) (entry-of block r is).office.begins);
    committed = λ block stamp members r is writers new. tt;
    completed = λ block stamp bytes r is writers new. tt;
    begun = λ block r is is_open. stays-bounded (w.session_of r.committed.0) (w.session_of r.committed.0) (given_to w block.0) (base-bounded block r is);
    synced = λ block id bytes members r is is_open latest. tt;
  }) c

  pub answered-bounded : (c : OfficeCall) (k : Change) → Answered w c k → given_to w k.writer_at ≤ (heard k.writer).intake.bytes → Bounded (given_with g k.stamped) (apply w k)
  unfolding apply
  answered-bounded c k a le = record { most = given-each (λ (b t e : ℕ). length (add w.written k.session k.bytes e) ≤ (heard (put w.writers k.writer_at k.writer b)).intake.bytes) g k.stamped new old }
    where
      given : (o : Option Stamped) → IfSome o (λ x. length (add w.written k.session k.bytes x.session) ≤ given_to w x.block) → IfSome o (λ x. length (add w.written k.session k.bytes x.session) ≤ (heard (put w.writers k.writer_at k.writer x.block)).intake.bytes)
      given None q = tt
      given (Some x) q = omega (arith, q, given-after w k le x.block)

      at-session : (n : ℕ) (v : List ℕ) (o : Option Stamped) → k.session ≡ n → k.bytes ≡ v → k.stamped ≡ o → IfSome o (λ x. length (add w.written n v x.session) ≤ given_to w x.block) → IfSome k.stamped (λ x. length (add w.written k.session k.bytes x.session) ≤ given_to w x.block)
      at-session n v o s b e q =
          subst (λ (p : Option Stamped). IfSome p (λ x. length (add w.written k.session k.bytes x.session) ≤ given_to w x.block)) (sym e)
          (subst (λ (m : ℕ). IfSome o (λ x. length (add w.written m k.bytes x.session) ≤ given_to w x.block)) (sym s)
          (subst (λ (u : List ℕ). IfSome o (λ x. length (add w.written n u x.session) ≤ given_to w x.block)) (sym b) q))

      new : IfSome k.stamped (λ x. length (add w.written k.session k.bytes x.session) ≤ (heard (put w.writers k.writer_at k.writer x.block)).intake.bytes)
      new = given k.stamped (at-session _ _ _ a.session a.bytes a.stamped (office-bounded c))

      old : (b t e : ℕ) → g b t ≡ Some e → length (add w.written k.session k.bytes e) ≤ (heard (put w.writers k.writer_at k.writer b)).intake.bytes
      old b t e q =
          let lt : e < w.office.next.0 = omega (arith, before-of g w f.recorded b t e q, f.recorded.below b t e q) in
          let same : add w.written k.session k.bytes e ≡ w.written e = old-written g w c k a e lt in
          omega (arith, ap length same, h.most b t e q, given-after w k le b)
