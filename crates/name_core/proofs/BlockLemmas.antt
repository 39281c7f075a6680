-- What is known of a block after what is known of one was changed.
use Rattle.std.proofs.Common.{◌≡◌, Bool, true, false, cond, List, [], ◌∷◌, Some, refl, sym, ap, subst, ◌⊎◌, inl, inr, arith}
use Rattle.std.specs.declared.cmp.Ordering.{Ordering}
use Rattle.std.specs.declared.cmp.Ordering.TheVariants.{Less, Equal, Greater}
use Rattle.std.specs.Map.{lookup, set_value}
use Rattle.std.specs.BTreeMap.{is_at, insert_entry}
use Rattle.std.specs.Ordering.{is_eq, match_ordering}
use Rattle.std.proofs.lemmas.Map.Lookups.{exact_unsigned}
use Rattle.hd_base.specs.declared.numbers.BlockId.{BlockId}
use Rattle.name_core.specs.declared.records.BlockRecord.{BlockRecord}
use Rattle.name_core.specs.Offices.{OfficeState, block_order, record_of, with_record, with_new_record}

-- ---- lists of entries

set_same_step : {K X : Type 0} (test : K → Bool) (e : K × X) (es : List (K × X)) (v w : X) (b : Bool) → test e.0 ≡ b → (lookup test es ≡ Some v → lookup test (set_value test es w) ≡ Some w) → cond b (Some e.1) (lookup test es) ≡ Some v → lookup test (cond b ((e.0, w) ∷ es) (e ∷ set_value test es w)) ≡ Some w
set_same_step test e es v w true here more is = rw here refl
set_same_step test e es v w false here more is = rw here (more is)

lookup_set_same : {K X : Type 0} (test : K → Bool) (es : List (K × X)) (v w : X) → lookup test es ≡ Some v → lookup test (set_value test es w) ≡ Some w
lookup_set_same test [] v w is = absurd (cc)
lookup_set_same test (e ∷ es) v w is = set_same_step test e es v w (test e.0) refl (lookup_set_same test es v w) is

set_other_step : {K X : Type 0} (test other : K → Bool) (e : K × X) (es : List (K × X)) (w : X) (b : Bool) → test e.0 ≡ b → (test e.0 ≡ true → other e.0 ≡ false) → lookup other (set_value test es w) ≡ lookup other es → lookup other (cond b ((e.0, w) ∷ es) (e ∷ set_value test es w)) ≡ lookup other (e ∷ es)
set_other_step test other e es w true here apart more = rw (apart here) refl
set_other_step test other e es w false here apart more = ap (λ o. cond (other e.0) (Some e.1) o) more

lookup_set_other : {K X : Type 0} (test other : K → Bool) → ((k : K) → test k ≡ true → other k ≡ false) → (es : List (K × X)) (w : X) → lookup other (set_value test es w) ≡ lookup other es
lookup_set_other test other apart [] w = refl
lookup_set_other test other apart (e ∷ es) w = set_other_step test other e es w (test e.0) refl (apart e.0) (lookup_set_other test other apart es w)

insert_other_step : {K X : Type 0} (cmp : K → K → Ordering) (other : K → Bool) (k : K) (v : X) (e : K × X) (es : List (K × X)) (r : Ordering) → cmp k e.0 ≡ r → other k ≡ false → (cmp k e.0 ≡ Equal → other e.0 ≡ false) → lookup other (insert_entry cmp es k v) ≡ lookup other es → lookup other (match_ordering r ((k, v) ∷ e ∷ es) ((e.0, v) ∷ es) (e ∷ insert_entry cmp es k v)) ≡ lookup other (e ∷ es)
insert_other_step cmp other k v e es Less here apart same more = rw apart refl
insert_other_step cmp other k v e es Equal here apart same more = rw (same here) refl
insert_other_step cmp other k v e es Greater here apart same more = ap (λ o. cond (other e.0) (Some e.1) o) more

lookup_insert_other : {K X : Type 0} (cmp : K → K → Ordering) (other : K → Bool) (k : K) (v : X) → other k ≡ false → ((q : K) → cmp k q ≡ Equal → other q ≡ false) → (es : List (K × X)) → lookup other (insert_entry cmp es k v) ≡ lookup other es
lookup_insert_other cmp other k v apart same [] = rw apart refl
lookup_insert_other cmp other k v apart same (e ∷ es) = insert_other_step cmp other k v e es (cmp k e.0) refl apart (same e.0) (lookup_insert_other cmp other k v apart same es)

insert_same_step : {K X : Type 0} (cmp : K → K → Ordering) (k : K) (v : X) (e : K × X) (es : List (K × X)) (r : Ordering) → cmp k e.0 ≡ r → cmp k k ≡ Equal → lookup (is_at (cmp k)) (insert_entry cmp es k v) ≡ Some v → lookup (is_at (cmp k)) (match_ordering r ((k, v) ∷ e ∷ es) ((e.0, v) ∷ es) (e ∷ insert_entry cmp es k v)) ≡ Some v
insert_same_step cmp k v e es Less here reflexive more = rw reflexive refl
insert_same_step cmp k v e es Equal here reflexive more = rw here refl
insert_same_step cmp k v e es Greater here reflexive more = rw here more

lookup_insert_same : {K X : Type 0} (cmp : K → K → Ordering) (k : K) (v : X) → cmp k k ≡ Equal → (es : List (K × X)) → lookup (is_at (cmp k)) (insert_entry cmp es k v) ≡ Some v
lookup_insert_same cmp k v reflexive [] = rw reflexive refl
lookup_insert_same cmp k v reflexive (e ∷ es) = insert_same_step cmp k v e es (cmp k e.0) refl reflexive (lookup_insert_same cmp k v reflexive es)

-- ---- blocks

equal_when : (r : Ordering) → is_eq r ≡ true → r ≡ Equal
equal_when Less e = absurd (cc)
equal_when Equal e = refl
equal_when Greater e = absurd (cc)

same_block : (b q : BlockId) → block_order b q ≡ Equal → b ≡ q
same_block b q e = let n : b.0 ≡ q.0 = exact_unsigned b.0 q.0 e in ap (λ m. record { 0 = m }) n

order_same : (b : BlockId) → block_order b b ≡ Equal
order_same b = grind arith

-- one block or two
pub same_or_other : (b q : BlockId) → (b ≡ q) ⊎ (is_at (block_order q) b ≡ false)
same_or_other b q = go (is_eq (block_order q b)) refl where
  go : (t : Bool) → is_eq (block_order q b) ≡ t → (b ≡ q) ⊎ (is_at (block_order q) b ≡ false)
  go true e = inl (sym (same_block q b (equal_when (block_order q b) e)))
  go false e = inr e

-- what is known of the block whose record was changed
pub record_of-with_record_same : (o : OfficeState) (b : BlockId) (r s : BlockRecord) → record_of o b ≡ Some r → record_of (with_record o b s) b ≡ Some s
record_of-with_record_same o b r s is = lookup_set_same (is_at (block_order b)) o.blocks r s is

-- and of another one
pub record_of-with_record_other : (o : OfficeState) (b q : BlockId) (s : BlockRecord) → is_at (block_order q) b ≡ false → record_of (with_record o b s) q ≡ record_of o q
record_of-with_record_other o b q s other =
    lookup_set_other (is_at (block_order b)) (is_at (block_order q)) (λ k here. subst (λ x. is_at (block_order q) x ≡ false) (same_block b k (equal_when (block_order b k) here)) other) o.blocks s

-- what is known of the block that became known
pub record_of-with_new_record_same : (o : OfficeState) (b : BlockId) (s : BlockRecord) → record_of (with_new_record o b s) b ≡ Some s
record_of-with_new_record_same o b s = lookup_insert_same block_order b s (order_same b) o.blocks

pub record_of-with_new_record_other : (o : OfficeState) (b q : BlockId) (s : BlockRecord) → is_at (block_order q) b ≡ false → record_of (with_new_record o b s) q ≡ record_of o q
record_of-with_new_record_other o b q s other =
    lookup_insert_other block_order (is_at (block_order q)) b s other (λ k here. subst (λ x. is_at (block_order q) x ≡ false) (same_block b k here) other) o.blocks
