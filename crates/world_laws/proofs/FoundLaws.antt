-- The test of what a restart may find is exact, and a restart finds no more.
use Rattle.std.proofs.Common.{◌≡◌, ℕ, Bool, true, false, ◌||◌, List, [], ◌++◌, length, take, drop, Option, Some, None, refl, sym, ◌∙◌, ap, subst, ◌⊎◌, inl, inr, eqb-true, eq-eqb}
use Rattle.std.specs.Prelude.{◌==◌, ◌&&◌, not, is_none, if◌then◌else◌}
use Rattle.std.specs.Bool.{Decides}
use Rattle.std.specs.List.{starts_with}
use Rattle.std.specs.Cmp.Lexicographic.{pointwise}
use Rattle.std.proofs.lemmas.Bool.{false≢true}
use Rattle.std.proofs.lemmas.Bool.Decides.{Decides-eqb}
use Rattle.std.proofs.lemmas.Slice.Eq.{bytes_eq-Decides}
use Rattle.std.proofs.lemmas.List.{take-append-drop, append-nil}
use Rattle.std.proofs.Math.Seq.{take-append_seam}
use Rattle.std.proofs.lemmas.Option.{none-some, same_Some}
use Rattle.hd_base.specs.declared.numbers.Stamp.{Stamp}
use Rattle.hd_base.specs.declared.states.ReplicaState.{ReplicaState}
use Rattle.hd_base.specs.declared.states.ReplicaState.TheVariants as state
use Rattle.hd_base.specs.declared.sum_rule.SumKind.{SumKind}
use Rattle.hd_base.specs.declared.sum_rule.SumKind.TheVariants as kind
use Rattle.hd_base.specs.SumRules.{Rule, kind_number}
use Rattle.hd_base.specs.Wire.{state_number}
use Rattle.world.specs.OpHeaders.Answers.{state_with}
use Rattle.world.specs.RequestRefusals.Rules.{kind_with}
use Rattle.replica_core.specs.declared.info.ReplicaInfo.{ReplicaInfo}
use Rattle.replica_core.specs.Info.{is_finalized, is_temporary}
use Rattle.world.specs.ReplicaModel.Rows.{FullReplica, row}
use Rattle.world.specs.ReplicaModel.Plans.{plan, has_changing}
use Rattle.world.specs.ReplicaModel.Found.{Found, found_as, IsFront, IsWaiting, found_whole, settled_state, MayFindBetween, waits_old_before, waits_old_after, waits_new_before, waits_new_after, stays_final, becomes_final, cut_final, MayFindNew, MayFindChanged, MayFindAmid, MayFindWithin}
use Rattle.world.specs.Parts.{Break}
use Rattle.world.specs.Restarts.{same_rule, is_found, is_waiting, is_whole_as, is_whole, waits_between, final_between, is_found_new, is_found_changed, is_found_amid, is_found_within, may_find, replica_found, whole_found, restarted}
use Rattle.world_laws.specs.Finding.{MayFindAt, IsFoundAt}

-- TESTS

both : (a b : Bool) (P Q : Type 0) → Decides a P → Decides b Q → Decides (a && b) (P × Q)
both true b P Q p q = (λ e. (p.0 refl, q.0 e), λ x. q.1 x.1)
both false b P Q p q = (λ e. absurd (false≢true e), λ x. p.1 x.0)

either : (a b : Bool) (P Q : Type 0) → Decides a P → Decides b Q → Decides (a || b) (P ⊎ Q)
either true b P Q p q = (λ e. inl (p.0 refl), λ x. refl)
either false b P Q p q = (λ e. inr (q.0 e), λ x. elim x [ inl y ↦ absurd (false≢true (p.1 y)) | inr y ↦ q.1 y ])

same-as : (a : Bool) (P Q : Type 0) → (P → Q) → (Q → P) → Decides a P → Decides a Q
same-as a P Q f g d = (λ e. f (d.0 e), λ q. d.1 (g q))

holds : (a : Bool) → Decides a (a ≡ true)
holds a = (λ e. e, λ e. e)

fails : (a : Bool) → Decides (not a) (a ≡ false)
fails true = (λ e. absurd (false≢true e), λ e. sym e)
fails false = (λ e. refl, λ e. refl)

nothing-there : (f : Option Found) → Decides (is_none f) (f ≡ None)
nothing-there None = (λ e. refl, λ e. refl)
nothing-there (Some x) = (λ e. absurd (false≢true e), λ e. absurd (none-some x (sym e)))

-- WHAT IS FOUND

state_with-number : (s : ReplicaState) → state_with (state_number s) ≡ s
state_with-number state.Finalized = refl
state_with-number state.Rbw = refl
state_with-number state.Rwr = refl
state_with-number state.Rur = refl
state_with-number state.Temporary = refl

same-state : (a b : ReplicaState) → Decides (state_number a == state_number b) (a ≡ b)
same-state a b = (
  λ e. sym (state_with-number a) ∙ (ap state_with (eqb-true (state_number a) (state_number b) e) ∙ state_with-number b),
  λ e. eq-eqb (state_number a) (state_number b) (ap state_number e),
)

same-stamp : (a b : Stamp) → Decides (a.0 == b.0) (a ≡ b)
same-stamp a b =
    let made : ℕ → Stamp = λ n. record { 0 = n } in
    (λ e. ap made (eqb-true a.0 b.0 e), λ e. eq-eqb a.0 b.0 (ap (λ (s : Stamp). s.0) e))

kind_with-number : (k : SumKind) → kind_with (kind_number k) ≡ Some k
kind_with-number kind.Null = refl
kind_with-number kind.Crc32 = refl
kind_with-number kind.Crc32c = refl

same-kind : (a b : SumKind) → Decides (kind_number a == kind_number b) (a ≡ b)
same-kind a b = (
  λ e. same_Some a b (sym (kind_with-number a) ∙ (ap kind_with (eqb-true (kind_number a) (kind_number b) e) ∙ kind_with-number b)),
  λ e. eq-eqb (kind_number a) (kind_number b) (ap kind_number e),
)

made-rule : (k l : SumKind) (c d : ℕ) → k ≡ l → c ≡ d → ◌≡◌ {A = Rule} (record { kind = k; chunk = c }) (record { kind = l; chunk = d })
made-rule k l c d e f = cc

same-sums : (a b : Rule) → Decides (same_rule a b) (a ≡ b)
same-sums a b =
    same-as (same_rule a b) ((a.kind ≡ b.kind) × (a.chunk ≡ b.chunk)) (a ≡ b)
    (λ x. made-rule a.kind b.kind a.chunk b.chunk x.0 x.1)
    (λ e. (ap (λ (r : Rule). r.kind) e, ap (λ (r : Rule). r.chunk) e))
    (both (kind_number a.kind == kind_number b.kind) (a.chunk == b.chunk) (a.kind ≡ b.kind) (a.chunk ≡ b.chunk) (same-kind a.kind b.kind) (Decides-eqb a.chunk b.chunk))

made-found : (x : Found) (at : ReplicaState) (stamp : Stamp) (sums : Rule) (bytes : List ℕ) → x.state ≡ at → x.stamp ≡ stamp → x.sums ≡ sums → x.bytes ≡ bytes
    → Some x ≡ found_as at stamp sums bytes
made-found x at stamp sums bytes a s r v =
    subst (λ (t : ReplicaState). Some x ≡ found_as t stamp sums bytes) a
    (subst (λ (t : Stamp). Some x ≡ found_as x.state t sums bytes) s
    (subst (λ (t : Rule). Some x ≡ found_as x.state x.stamp t bytes) r
    (subst (λ (t : List ℕ). Some x ≡ found_as x.state x.stamp x.sums t) v refl)))

-- the parts of what is found
record Parts (x : Found) (at : ReplicaState) (stamp : Stamp) (sums : Rule) (bytes : List ℕ) : Type 0 where
  state_is : x.state ≡ at
  stamp_is : x.stamp ≡ stamp
  sums_is : x.sums ≡ sums
  bytes_is : x.bytes ≡ bytes

parts-of : (x : Found) (at : ReplicaState) (stamp : Stamp) (sums : Rule) (bytes : List ℕ) → Some x ≡ found_as at stamp sums bytes → Parts x at stamp sums bytes
parts-of x at stamp sums bytes e =
    let y : Found = record { state = at; stamp = stamp; sums = sums; bytes = bytes } in
    let f = same_Some x y e in
    record {
      state_is = ap (λ (z : Found). z.state) f;
      stamp_is = ap (λ (z : Found). z.stamp) f;
      sums_is = ap (λ (z : Found). z.sums) f;
      bytes_is = ap (λ (z : Found). z.bytes) f;
    }

-- a test of state, stamp and rule, and of the bytes
frame : (x : Found) (at : ReplicaState) (stamp : Stamp) (sums : Rule) (b : Bool) (Q : Type 0) → Decides b Q
    → Decides (state_number x.state == state_number at && x.stamp.0 == stamp.0 && same_rule x.sums sums && b)
    ((((x.state ≡ at) × (x.stamp ≡ stamp)) × (x.sums ≡ sums)) × Q)
frame x at stamp sums b Q q =
    both _ b _ Q
    (both _ (same_rule x.sums sums) _ (x.sums ≡ sums)
    (both (state_number x.state == state_number at) (x.stamp.0 == stamp.0) (x.state ≡ at) (x.stamp ≡ stamp) (same-state x.state at) (same-stamp x.stamp stamp))
    (same-sums x.sums sums))
    q

pub found-exact : (f : Option Found) (at : ReplicaState) (stamp : Stamp) (sums : Rule) (bytes : List ℕ)
    → Decides (is_found f at stamp sums bytes) (f ≡ found_as at stamp sums bytes)
found-exact None at stamp sums bytes = (λ e. absurd (false≢true e), λ e. absurd (none-some _ e))
found-exact (Some x) at stamp sums bytes =
    same-as _ ((((x.state ≡ at) × (x.stamp ≡ stamp)) × (x.sums ≡ sums)) × (x.bytes ≡ bytes)) (Some x ≡ found_as at stamp sums bytes)
    (λ p. made-found x at stamp sums bytes p.0.0.0 p.0.0.1 p.0.1 p.1)
    (λ e. let p = parts-of x at stamp sums bytes e in (((p.state_is, p.stamp_is), p.sums_is), p.bytes_is))
    (frame x at stamp sums (pointwise ◌==◌ x.bytes bytes) (x.bytes ≡ bytes) (bytes_eq-Decides x.bytes bytes))

front-of : (front bytes : List ℕ) → front ≡ take (length front) bytes → IsFront front bytes
front-of front bytes e = (drop (length front) bytes, subst (λ (v : List ℕ). v ++ drop (length front) bytes ≡ bytes) (sym e) (take-append-drop (length front) bytes))

front-is : (front bytes : List ℕ) → IsFront front bytes → front ≡ take (length front) bytes
front-is front bytes (rest, e) = subst (λ (v : List ℕ). front ≡ take (length front) v) e (sym (take-append_seam front rest))

front-exact : (front bytes : List ℕ) → Decides (starts_with ◌==◌ bytes front) (IsFront front bytes)
front-exact front bytes =
    same-as (starts_with ◌==◌ bytes front) (front ≡ take (length front) bytes) (IsFront front bytes) (front-of front bytes) (front-is front bytes)
    (bytes_eq-Decides front (take (length front) bytes))

pub waiting-exact : (f : Option Found) (stamp : Stamp) (sums : Rule) (bytes : List ℕ) → Decides (is_waiting f stamp sums bytes) (IsWaiting f stamp sums bytes)
waiting-exact None stamp sums bytes = (λ e. absurd (false≢true e), λ w. absurd (none-some _ w.1))
waiting-exact (Some x) stamp sums bytes =
    same-as _ ((((x.state ≡ state.Rwr) × (x.stamp ≡ stamp)) × (x.sums ≡ sums)) × IsFront x.bytes bytes) (IsWaiting (Some x) stamp sums bytes)
    (λ p. (x.bytes, made-found x state.Rwr stamp sums x.bytes p.0.0.0 p.0.0.1 p.0.1 refl, p.1))
    (λ w. let p = parts-of x state.Rwr stamp sums w.0 w.1 in
    (((p.state_is, p.stamp_is), p.sums_is), subst (λ (v : List ℕ). IsFront v bytes) (sym p.bytes_is) w.2))
    (frame x state.Rwr stamp sums (starts_with ◌==◌ bytes x.bytes) (IsFront x.bytes bytes) (front-exact x.bytes bytes))

whole-as-exact : (g f : Option Found) → Decides (is_whole_as g f) (f ≡ g)
whole-as-exact None f = nothing-there f
whole-as-exact (Some g) f = found-exact f g.state g.stamp g.sums g.bytes

whole-exact : (info : Option ReplicaInfo) (bytes : List ℕ) (f : Option Found) → Decides (is_whole info bytes f) (f ≡ found_whole info bytes)
whole-exact info bytes f = whole-as-exact (found_whole info bytes) f

-- AMID A CHANGE

abbrev WaitsBetween : ReplicaInfo → List ℕ → ReplicaInfo → List ℕ → Option Found → Type 0
WaitsBetween h before k after f =
    ((IsWaiting f h.stamp h.sums before ⊎ IsWaiting f h.stamp h.sums after) ⊎ IsWaiting f k.stamp h.sums before) ⊎ IsWaiting f k.stamp h.sums after

waits-exact : (h : ReplicaInfo) (before : List ℕ) (k : ReplicaInfo) (after : List ℕ) (f : Option Found) → Decides (waits_between h before k after f) (WaitsBetween h before k after f)
waits-exact h before k after f =
    either _ _ _ _ (either _ _ _ _ (either _ _ _ _ (waiting-exact f h.stamp h.sums before) (waiting-exact f h.stamp h.sums after))
    (waiting-exact f k.stamp h.sums before)) (waiting-exact f k.stamp h.sums after)

abbrev FinalBetween : ReplicaInfo → List ℕ → ReplicaInfo → List ℕ → Option Found → Type 0
FinalBetween h before k after f =
    (((is_finalized h.original ≡ true) × (f ≡ found_as state.Finalized h.stamp h.sums before))
    ⊎ ((is_finalized k.original ≡ true) × (f ≡ found_as state.Finalized k.stamp h.sums after)))
    ⊎ (((is_finalized h.original ≡ true) × (is_finalized k.original ≡ true)) × (f ≡ found_as state.Finalized h.stamp h.sums after))

final-exact : (h : ReplicaInfo) (before : List ℕ) (k : ReplicaInfo) (after : List ℕ) (f : Option Found) → Decides (final_between h before k after f) (FinalBetween h before k after f)
final-exact h before k after f =
    either _ _ _ _
    (either _ _ _ _
    (both _ _ _ _ (holds (is_finalized h.original)) (found-exact f state.Finalized h.stamp h.sums before))
    (both _ _ _ _ (holds (is_finalized k.original)) (found-exact f state.Finalized k.stamp h.sums after)))
    (both _ _ _ _ (both _ _ _ _ (holds (is_finalized h.original)) (holds (is_finalized k.original))) (found-exact f state.Finalized h.stamp h.sums after))

between-from : (h : ReplicaInfo) (before : List ℕ) (k : ReplicaInfo) (after : List ℕ) (f : Option Found)
    → (WaitsBetween h before k after f ⊎ FinalBetween h before k after f) → MayFindBetween h before k after f
between-from h before k after f (inl (inl (inl (inl w)))) = waits_old_before w
between-from h before k after f (inl (inl (inl (inr w)))) = waits_old_after w
between-from h before k after f (inl (inl (inr w))) = waits_new_before w
between-from h before k after f (inl (inr w)) = waits_new_after w
between-from h before k after f (inr (inl (inl p))) = stays_final p.0 p.1
between-from h before k after f (inr (inl (inr p))) = becomes_final p.0 p.1
between-from h before k after f (inr (inr p)) = cut_final p.0.0 p.0.1 p.1

between-to : (h : ReplicaInfo) (before : List ℕ) (k : ReplicaInfo) (after : List ℕ) (f : Option Found)
    → MayFindBetween h before k after f → (WaitsBetween h before k after f ⊎ FinalBetween h before k after f)
between-to h before k after f (waits_old_before w) = inl (inl (inl (inl w)))
between-to h before k after f (waits_old_after w) = inl (inl (inl (inr w)))
between-to h before k after f (waits_new_before w) = inl (inl (inr w))
between-to h before k after f (waits_new_after w) = inl (inr w)
between-to h before k after f (stays_final a e) = inr (inl (inl (a, e)))
between-to h before k after f (becomes_final a e) = inr (inl (inr (a, e)))
between-to h before k after f (cut_final a b e) = inr (inr ((a, b), e))

between-exact : (h : ReplicaInfo) (before : List ℕ) (k : ReplicaInfo) (after : List ℕ) (f : Option Found)
    → Decides (waits_between h before k after f || final_between h before k after f) (MayFindBetween h before k after f)
between-exact h before k after f =
    same-as _ (WaitsBetween h before k after f ⊎ FinalBetween h before k after f) (MayFindBetween h before k after f) (between-from h before k after f) (between-to h before k after f)
    (either _ _ _ _ (waits-exact h before k after f) (final-exact h before k after f))

new-exact : (k : ReplicaInfo) (f : Option Found) → Decides (is_found_new k f) (MayFindNew k f)
new-exact k f = either _ _ _ _ (nothing-there f) (both _ _ _ _ (fails (is_temporary k.original)) (found-exact f state.Rwr k.stamp k.sums []))

changed-exact : (a b : Bool) (h : ReplicaInfo) (before : List ℕ) (k : ReplicaInfo) (after : List ℕ) (f : Option Found)
    → Decides (is_found_changed a b h before k after f) (MayFindChanged a b h before k after f)
changed-exact true true h before k after f = nothing-there f
changed-exact true false h before k after f = either _ _ _ _ (nothing-there f) (found-exact f state.Rwr h.stamp h.sums before)
changed-exact false true h before k after f = between-exact h before k after f
changed-exact false false h before k after f = between-exact h before k after f

amid-exact : (h : Option ReplicaInfo) (before : List ℕ) (k : Option ReplicaInfo) (after : List ℕ) (f : Option Found) → Decides (is_found_amid h before k after f) (MayFindAmid h before k after f)
amid-exact None before None after f = nothing-there f
amid-exact None before (Some k) after f = new-exact k f
amid-exact (Some h) before None after f = whole-exact (Some h) before f
amid-exact (Some h) before (Some k) after f = changed-exact (is_temporary h.original) (is_temporary k.original) h before k after f

within-exact : (changing : Bool) (before after : FullReplica) (f : Option Found) → Decides (is_found_within changing before after f) (MayFindWithin changing before after f)
within-exact true before after f = amid-exact before.known.info before.bytes after.known.info after.bytes f
within-exact false before after f = whole-exact before.known.info before.bytes f

pub may-find-exact : (r : FullReplica) (b : Option Break) (f : Option Found) → Decides (may_find r b f) (MayFindAt r b f)
unfolding may_find
may-find-exact r None f = whole-exact r.known.info r.bytes f
may-find-exact r (Some b) f = within-exact (has_changing (plan b.before b.event)) b.before (row b.before b.event) f

-- WHOLE FILES MAY ALWAYS BE FOUND

all-front : (bytes : List ℕ) → IsFront bytes bytes
all-front bytes = front-of bytes bytes (sym (take-append_seam bytes []) ∙ ap (λ (v : List ℕ). take (length bytes) v) (append-nil bytes))

settled-between : (h : ReplicaInfo) (at : ReplicaState) (before : List ℕ) (k : ReplicaInfo) (after : List ℕ) → h.original ≡ at
    → MayFindBetween h before k after (found_as (settled_state at) h.stamp h.sums before)
settled-between h state.Finalized before k after e = stays_final (ap is_finalized e) refl
settled-between h state.Rbw before k after e = waits_old_before (before, refl, all-front before)
settled-between h state.Rwr before k after e = waits_old_before (before, refl, all-front before)
settled-between h state.Rur before k after e = waits_old_before (before, refl, all-front before)
settled-between h state.Temporary before k after e = waits_old_before (before, refl, all-front before)

-- by whether the replica is TEMPORARY
whole-changed : (a b : Bool) (h : ReplicaInfo) (before : List ℕ) (k : ReplicaInfo) (after : List ℕ)
    → MayFindChanged a b h before k after (if a then None else found_as (settled_state h.original) h.stamp h.sums before)
whole-changed true true h before k after = refl
whole-changed true false h before k after = inl refl
whole-changed false true h before k after = settled-between h h.original before k after refl
whole-changed false false h before k after = settled-between h h.original before k after refl

whole-amid : (h : Option ReplicaInfo) (before : List ℕ) (k : Option ReplicaInfo) (after : List ℕ) → MayFindAmid h before k after (found_whole h before)
whole-amid None before None after = refl
whole-amid None before (Some k) after = inl refl
whole-amid (Some h) before None after = refl
whole-amid (Some h) before (Some k) after = whole-changed (is_temporary h.original) (is_temporary k.original) h before k after

whole-within : (changing : Bool) (before after : FullReplica) → MayFindWithin changing before after (found_whole before.known.info before.bytes)
whole-within true before after = whole-amid before.known.info before.bytes after.known.info after.bytes
whole-within false before after = refl

whole-at : (r : FullReplica) (b : Option Break) → MayFindAt r b (whole_found r b)
whole-at r None = refl
whole-at r (Some b) = whole-within (has_changing (plan b.before b.event)) b.before (row b.before b.event)

pub restarts-find : (block : ℕ) (r : FullReplica) (b : Option Break) (f : Option Found) → IsFoundAt block r b (restarted block r b f)
unfolding restarted
restarts-find block r b f = go (may_find r b f) refl
  where
    go : (t : Bool) → may_find r b f ≡ t → IsFoundAt block r b (replica_found block (if t then f else whole_found r b))
    go true e = record { found = f; is = refl; allowed = (may-find-exact r b f).0 e }
    go false e = record { found = whole_found r b; is = refl; allowed = whole-at r b }
