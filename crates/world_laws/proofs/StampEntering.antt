-- What each call makes of what the office holds of a block.
use Rattle.std.proofs.Common.{◌≡◌, ℕ, ◌<◌, ◌≤◌, ◌⊎◌, inl, inr, true, false, List, Option, Some, None, refl, sym, ◌∙◌, subst, ap, arith}
use Rattle.std.proofs.lemmas.Bool.{false≢true}
use Rattle.std.proofs.lemmas.Option.{none-some, same_Some}
use Rattle.hd_base.specs.declared.numbers.NodeId.{NodeId}
use Rattle.hd_base.specs.declared.numbers.Stamp.{Stamp}
use Rattle.name_core.specs.declared.records.BlockRecord.{BlockRecord}
use Rattle.name_core.specs.Records.{opened}
use Rattle.name_core.proofs.CaseLemmas.{IsWriters}
use Rattle.world.specs.Worlds.{put}
use Rattle.world_laws.specs.Stamping.{IsHeld, OfficeEntry, IsSetup}
use Rattle.world_laws.proofs.StampGivens.{put-here, put-old, put-new, Below, low-high}

true-false : true ≡ false → ⊥
true-false e = false≢true (sym e)

pub created-entry : (f : ℕ → Option ℕ) (n : ℕ) (members : List NodeId) → ((t : ℕ) → f t ≡ None)
    → OfficeEntry (put f n (Some n)) n n (opened members (record { 0 = n }))
created-entry f n members none = record {
  begins = put-here f n (Some n);
  committed = put-here f n (Some n);
  session = put-new (λ t e. put f n (Some n) e ≡ Some e) f n n (put-here f n (Some n)) (λ t e k. absurd (never t e k));
  before = put-new (λ t e. e ≤ t) f n n (omega arith) (λ t e k. absurd (never t e k));
  within = put-new (λ t e. e ≤ n) f n n (omega arith) (λ t e k. absurd (never t e k));
  two = put-new (λ t e. n ≤ t → (e ≡ n) ⊎ (e ≡ n)) f n n (λ _. inl refl) (λ t e k. absurd (never t e k));
  closed = λ c. absurd (true-false c);
  held = λ _ id c. absurd (none-some id c);
  whole = λ _. put-new (λ t e. n ≤ t → e ≡ n) f n n (λ _. refl) (λ t e k. absurd (never t e k));
  free = λ _ _. put-new (λ t e. n < t → e ≡ n) f n n (λ _. refl) (λ t e k. absurd (never t e k));
  below = λ _ _. refl;
}
  where
    never : (t e : ℕ) → f t ≡ Some e → ⊥
    never t e k = none-some e (sym (none t) ∙ k)

pub appended-entry : (f : ℕ → Option ℕ) (n latest base : ℕ) (r : BlockRecord) → Below f n → r.is_open ≡ false → OfficeEntry f latest base r
    → OfficeEntry (put f n (Some n)) n base (record r { is_open = true; recovery = None })
appended-entry f n latest base r b shut h = record {
  begins = put-here f n (Some n);
  committed = put-old f n n r.committed.0 base b h.committed;
  session = put-new (λ t e. put f n (Some n) e ≡ Some e) f n n (put-here f n (Some n)) (λ t e k. put-old f n n e e b (h.session t e k));
  before = put-new (λ t e. e ≤ t) f n n (omega arith) h.before;
  within = put-new (λ t e. e ≤ n) f n n (omega arith) (λ t e k. omega (arith, h.before t e k, b.below t e k));
  two = put-new (λ t e. r.committed.0 ≤ t → (e ≡ base) ⊎ (e ≡ n)) f n n (λ _. inr refl) (λ t e k le. inl (at t e k le));
  closed = λ c. absurd (true-false c);
  held = λ _ id c. absurd (none-some id c);
  whole = λ e. absurd (omega (arith, e, low));
  free = λ _ _. put-new (λ t e. r.committed.0 < t → e ≡ n) f n n (λ _. refl) (λ t e k lt. absurd (omega (arith, h.closed shut t e k, lt)));
  below = λ _ le. absurd (omega (arith, le, b.below r.committed.0 base h.committed));
}
  where
    low : base < n
    low = omega (arith, h.before r.committed.0 base h.committed, b.below r.committed.0 base h.committed)

    at : (t e : ℕ) → f t ≡ Some e → r.committed.0 ≤ t → e ≡ base
    at t e k le =
        let same : t ≡ r.committed.0 = omega (arith, h.closed shut t e k, le) in
        same_Some e base (sym k ∙ ap f same ∙ h.committed)

pub stamped-entry : (f : ℕ → Option ℕ) (n latest base : ℕ) (r : BlockRecord) → Below f n → IsWriters r → OfficeEntry f latest base r
    → OfficeEntry (put f n (Some latest)) latest base r
stamped-entry f n latest base r b w h = record {
  begins = put-old f n latest latest latest b h.begins;
  committed = put-old f n latest r.committed.0 base b h.committed;
  session = put-new (λ t e. put f n (Some latest) e ≡ Some e) f n latest (put-old f n latest latest latest b h.begins) (λ t e k. put-old f n latest e e b (h.session t e k));
  before = put-new (λ t e. e ≤ t) f n latest (omega (arith, b.below latest latest h.begins)) h.before;
  within = put-new (λ t e. e ≤ latest) f n latest (omega arith) h.within;
  two = put-new (λ t e. r.committed.0 ≤ t → (e ≡ base) ⊎ (e ≡ latest)) f n latest (λ _. inr refl) h.two;
  closed = λ c. absurd (true-false (sym w.is_open ∙ c));
  held = λ _ id c. absurd (none-some id (sym w.lease ∙ c));
  whole = λ e. put-new (λ t s. latest ≤ t → s ≡ latest) f n latest (λ _. refl) (h.whole e);
  free = λ o l. put-new (λ t e. r.committed.0 < t → e ≡ latest) f n latest (λ _. refl) (h.free o l);
  below = h.below;
}

pub committed-entry : (f : ℕ → Option ℕ) (latest base : ℕ) (r : BlockRecord) (stamp : Stamp) (members : List NodeId) → IsWriters r → r.committed.0 < stamp.0
    → IsSetup f latest r.recovery stamp → OfficeEntry f latest base r → OfficeEntry f latest latest (record r { committed = stamp; members = members })
committed-entry f latest base r stamp members w lt s h = record {
  begins = h.begins;
  committed = s.session.is;
  session = h.session;
  before = h.before;
  within = h.within;
  two = λ t e k le. inr (h.free w.is_open w.lease t e k (omega (arith, lt, le)));
  closed = λ c. absurd (true-false (sym w.is_open ∙ c));
  held = λ _ id c. absurd (none-some id (sym w.lease ∙ c));
  whole = λ _ t e k le. all t e k le;
  free = λ o l t e k more. h.free o l t e k (omega (arith, lt, more));
  below = λ _ _. refl;
}
  where
    all : (t e : ℕ) → f t ≡ Some e → latest ≤ t → e ≡ latest
    all t e k le =
        low-high (e ≡ latest) t r.committed.0 (λ low. h.whole (h.below w.is_open (omega (arith, le, low))) t e k le) (λ high. h.free w.is_open w.lease t e k high)

pub completed-entry : (f : ℕ → Option ℕ) (latest base : ℕ) (r : BlockRecord) (bytes : ℕ) → ((t e : ℕ) → f t ≡ Some e → t ≤ r.committed.0) → OfficeEntry f latest base r
    → OfficeEntry f latest base (record r { is_open = false; length = bytes })
completed-entry f latest base r bytes last h = record {
  begins = h.begins;
  committed = h.committed;
  session = h.session;
  before = h.before;
  within = h.within;
  two = h.two;
  closed = λ _. last;
  held = λ o. absurd (false≢true o);
  whole = h.whole;
  free = λ o. absurd (false≢true o);
  below = λ o. absurd (false≢true o);
}

pub begun-entry : (f : ℕ → Option ℕ) (n latest base : ℕ) (r : BlockRecord) → Below f n → r.is_open ≡ true → OfficeEntry f latest base r
    → OfficeEntry (put f n (Some base)) latest base (record r { recovery = Some (record { 0 = n }) })
begun-entry f n latest base r b is_open h = record {
  begins = put-old f n base latest latest b h.begins;
  committed = put-old f n base r.committed.0 base b h.committed;
  session = put-new (λ t e. put f n (Some base) e ≡ Some e) f n base (put-old f n base base base b (h.session r.committed.0 base h.committed)) (λ t e k. put-old f n base e e b (h.session t e k));
  before = put-new (λ t e. e ≤ t) f n base (omega (arith, b.below r.committed.0 base h.committed, h.before r.committed.0 base h.committed)) h.before;
  within = put-new (λ t e. e ≤ latest) f n base (h.within r.committed.0 base h.committed) h.within;
  two = put-new (λ t e. r.committed.0 ≤ t → (e ≡ base) ⊎ (e ≡ latest)) f n base (λ _. inl refl) h.two;
  closed = λ c. absurd (true-false (sym is_open ∙ c));
  held = λ _ id c. held id (same_Some (record { 0 = n }) id c);
  whole = λ e. put-new (λ t s. latest ≤ t → s ≡ latest) f n base (λ _. e) (h.whole e);
  free = λ _ l. absurd (none-some (record { 0 = n }) (sym l));
  below = h.below;
}
  where
    held : (id : Stamp) → record { 0 = n } ≡ id → IsHeld (put f n (Some base)) base id.0
    held id e = subst (λ (s : Stamp). IsHeld (put f n (Some base)) base s.0) e (record {
      session = put-here f n (Some base);
      last = put-new (λ t s. t ≤ n) f n base (omega arith) (λ t s k. omega (arith, b.below t s k));
    })

pub synced-entry : (f : ℕ → Option ℕ) (latest base : ℕ) (r : BlockRecord) (id : Stamp) (bytes : ℕ) (members : List NodeId) → IsHeld f base id.0 → OfficeEntry f latest base r
    → OfficeEntry f latest base (record r { is_open = false; committed = id; members = members; length = bytes })
synced-entry f latest base r id bytes members i h = record {
  begins = h.begins;
  committed = i.session;
  session = h.session;
  before = h.before;
  within = h.within;
  two = λ t e k le. inl (at t e k le);
  closed = λ _. i.last;
  held = λ o. absurd (false≢true o);
  whole = h.whole;
  free = λ o. absurd (false≢true o);
  below = λ o. absurd (false≢true o);
}
  where
    at : (t e : ℕ) → f t ≡ Some e → id.0 ≤ t → e ≡ base
    at t e k le =
        let same : t ≡ id.0 = omega (arith, i.last t e k, le) in
        same_Some e base (sym k ∙ ap f same ∙ i.session)
