-- What a change owes so that the messages still come in order.
use Rattle.std.proofs.Common.{◌≡◌, ℕ, zero, suc, ◌<◌, ◌≤◌, ◌+◌, ◌-◌, ◌⊎◌, inl, inr, Bool, true, false, List, [], ◌∷◌, ◌++◌, length, slice_get, Option, Some, None, IfSome, unwrap_or, option_map, refl, sym, ap, ◌∙◌, subst, arith, append-nil, eqb-true}
use Rattle.std.specs.Prelude.{◌==◌, nat_le}
use Rattle.std.proofs.lemmas.Bool.Decides.{nat_tests}
use Rattle.std.proofs.lemmas.Option.{same_Some}
use Rattle.world_laws.specs.World.Parts.{Message, Upper, by_writer, by_member, by_reader, by_primary, Dialled, Marks, Lower, idle, writes, serves, recovers, ended_below, Writing, Reader, no_reader, reads, has_read, Primary, no_primary, was_told, leads, has_led}
use Rattle.world_laws.specs.World.Worlds.{World, Dial, Change, dial_at, dialled_with, listed, downs_with, ups_with, marks_with, apply}
use Rattle.world_laws.specs.Placing.{IsConn, IsLower, IsReader, IsPrimary, Placed}
use Rattle.world_laws.proofs.FactTables.{if-each, put-each}
use Rattle.world_laws.proofs.PlaceFitting.{Fits, conns_after, dial-is, dial-within}
use Rattle.world_orders.specs.Orders.{comes_down, comes_up, purpose_of, is_first, IsBelow, IsMirror, MirrorIs, HasDialled, IsWriterConn, WriterIs, ReaderIs, PrimaryIs, Ordered}
use Rattle.world_orders.proofs.Lists.{Behind, get-append, no-element, not-first, dial-past, dialled-before}

-- THE MARKS OF AN EVENT

-- the world with other marks
abbrev pub marked : World → (ℕ → Marks) → (ℕ → Marks) → World
marked w dm um = record w { down_marks = dm; up_marks = um }

-- who took from an upper end, if anybody did
abbrev pub IsActor : ℕ → ℕ → Upper → Type 0
IsActor lower_at writer_at (by_member d) = d ≡ lower_at
IsActor lower_at writer_at (by_writer b) = b ≡ writer_at
IsActor lower_at writer_at other = Unit {0}

-- Of all connections but that of the lower end, and those of the member or writer that takes, as much was taken as before.
pub record MarksStay (w : World) (dm um : ℕ → Marks) (lower_at writer_at : ℕ) : Type 0 where
  pub down : (c : ℕ) → (c == lower_at) ≡ false → (dm c).taken ≡ (w.down_marks c).taken
  pub up : (c : ℕ) → IsActor lower_at writer_at (w.dialled c).upper ⊎ ((um c).taken ≡ (w.up_marks c).taken)

-- WHAT A CHANGE OWES

-- what is sent
pub record Sends (w : World) (k : Change) : Type 0 where
  pub dials : (i : ℕ) (d : Dial) → slice_get k.dials i ≡ Some d → comes_down (purpose_of d.dialled.upper) true d.request ≡ true
  pub uppers : (i : ℕ) (d : Dial) (e : ℕ) → slice_get k.dials i ≡ Some d → d.dialled.upper ≡ by_member e → e ≡ k.lower_at
  pub downs : (c i : ℕ) (m : Message) → slice_get (k.downs c) i ≡ Some m → comes_down (purpose_of (w.dialled c).upper) false m ≡ true
  pub ups : (c i : ℕ) (m : Message) → slice_get (k.ups c) i ≡ Some m
      → comes_up (purpose_of (w.dialled c).upper) (is_first (length (w.ups c) + i)) m ≡ true
  pub quiet : (c : ℕ) → (c == k.lower_at) ≡ false → k.ups c ≡ []

pub record Owes (w : World) (dm um : ℕ → Marks) (k : Change) : Type 0 where
  pub sends : Sends w k
  pub stay : MarksStay w dm um k.lower_at k.writer_at
  pub below : IsBelow (w.dialled k.lower_at).upper (dm k.lower_at).taken (w.ups k.lower_at ++ k.ups k.lower_at) k.lower
  pub mirror : MirrorIs (dialled_with w k) um k.lower_at k.lower
  pub dialled : (c : ℕ) → c < conns_after w k → (dialled_with w k c).upper ≡ by_member k.lower_at → HasDialled c k.lower
  pub writer : WriterIs (dialled_with w k) um k.writer_at k.writer
  pub reader : ReaderIs (dialled_with w k) k.reader_at k.reader
  pub primary : PrimaryIs (dialled_with w k) k.primary_at k.primary

-- WHERE OTHERS STAY

-- a lower end that has nothing yet is so whoever dialled
below-upper : (u v : Upper) (t : ℕ) (ups : List Message) (l : Lower) → l ≡ idle → IsBelow u t ups l → IsBelow v t ups l
below-upper u v t ups idle e h = h
below-upper u v t ups (writes m) e h = cc
below-upper u v t ups (serves b s) e h = cc
below-upper u v t ups recovers e h = cc
below-upper u v t ups ended_below e h = cc

pub below-same : (u v : Upper) (t s : ℕ) (ups vps : List Message) (l : Lower) → u ≡ v → t ≡ s → ups ≡ vps → IsBelow u t ups l → IsBelow v s vps l
below-same u v t s ups vps l a b c h = subst (λ (x : Upper). IsBelow x s vps l) a (subst (λ (n : ℕ). IsBelow u n vps l) b (subst (λ (ms : List Message). IsBelow u t ms l) c h))

pub mirror-same : (f g : ℕ → Dialled) (p q : ℕ → Marks) (conns at : ℕ) (l : Lower) → IsLower conns l → ((c : ℕ) → c < conns → f c ≡ g c)
    → ((c : ℕ) → (f c).upper ≡ by_member at → (p c).taken ≡ (q c).taken) → MirrorIs f p at l → MirrorIs g q at l
mirror-same f g p q conns at idle k same taken h = tt
mirror-same f g p q conns at (serves b s) k same taken h = tt
mirror-same f g p q conns at recovers k same taken h = tt
mirror-same f g p q conns at ended_below k same taken h = tt
mirror-same f g p q conns at (writes m) k same taken h = go m.mirror k h
  where
    go : (o : Option ℕ) → IsConn conns o → IfSome o (λ c. IsMirror (f c) (p c).taken at c m.state) → IfSome o (λ c. IsMirror (g c) (q c).taken at c m.state)
    go None i x = tt
    go (Some c) i x = subst (λ (d : Dialled). IsMirror d (q c).taken at c m.state) (same c i.below) (subst (λ (n : ℕ). IsMirror (f c) n at c m.state) (taken c x.upper) x)

pub writer-same : (f g : ℕ → Dialled) (p q : ℕ → Marks) (conns b : ℕ) (x : Writing) → IsConn conns x.conn → ((c : ℕ) → c < conns → f c ≡ g c)
    → ((c : ℕ) → (f c).upper ≡ by_writer b → (p c).taken ≡ (q c).taken) → WriterIs f p b x → WriterIs g q b x
writer-same f g p q conns b x k same taken h = go x.conn k h
  where
    go : (o : Option ℕ) → IsConn conns o → IfSome o (λ c. IsWriterConn (f c) (p c).taken b x.known) → IfSome o (λ c. IsWriterConn (g c) (q c).taken b x.known)
    go None i y = tt
    go (Some c) i y = subst (λ (d : Dialled). IsWriterConn d (q c).taken b x.known) (same c i.below) (subst (λ (n : ℕ). IsWriterConn (f c) n b x.known) (taken c y.upper) y)

pub reader-same : (f g : ℕ → Dialled) (conns i : ℕ) (x : Reader) → IsReader conns x → ((c : ℕ) → c < conns → f c ≡ g c) → ReaderIs f i x → ReaderIs g i x
reader-same f g conns i no_reader k same h = tt
reader-same f g conns i (reads c s) k same h = subst (λ (d : Dialled). d.upper ≡ by_reader i) (same c k) h
reader-same f g conns i (has_read r) k same h = tt

pub primary-same : (f g : ℕ → Dialled) (nodes conns i : ℕ) (x : Primary) → IsPrimary nodes conns x → ((c : ℕ) → c < conns → f c ≡ g c) → PrimaryIs f i x → PrimaryIs g i x
primary-same f g nodes conns i no_primary k same h = tt
primary-same f g nodes conns i (was_told b t) k same h = tt
primary-same f g nodes conns i (leads l) k same h = λ place c e. subst (λ (d : Dialled). d.upper ≡ by_primary i place) (same c (k.conns_of place c e)) (h place c e)
primary-same f g nodes conns i (has_led r) k same h = tt

-- a shut takes nothing
shut-taken : (shuts : ℕ → Bool) (sent : ℕ → List Message) (marks : ℕ → Marks) (c : ℕ) → (marks_with shuts sent marks c).taken ≡ (marks c).taken
shut-taken shuts sent marks c = if-each (λ (m : Marks). m.taken ≡ (marks c).taken) (shuts c) _ _ (λ e. refl) (λ e. refl)

before-or-past : (c n : ℕ) → (c < n) ⊎ (n ≤ c)
before-or-past c n = go (nat_le n c) refl
  where
    go : (b : Bool) → nat_le n c ≡ b → (c < n) ⊎ (n ≤ c)
    go true e = inr (grind (arith, nat_tests, e))
    go false e = inl (grind (arith, nat_tests, e))

-- THE MESSAGES

module _ (w : World) (dm um : ℕ → Marks) (k : Change) (p : Placed (marked w dm um)) (f : Fits (marked w dm um) k) (h : Ordered w) (o : Owes w dm um k) where
  sent-before : (c i : ℕ) (m : Message) → slice_get (k.downs c) i ≡ Some m → c < w.next_conn
  sent-before c i m e = go (before-or-past c w.next_conn)
    where
      go : (c < w.next_conn) ⊎ (w.next_conn ≤ c) → c < w.next_conn
      go (inl lt) = lt
      go (inr le) = no-element (c < w.next_conn) i m (subst (λ (ms : List Message). slice_get ms i ≡ Some m) (f.downs c le) e)

  answered-before : (c i : ℕ) (m : Message) → slice_get (k.ups c) i ≡ Some m → c < w.next_conn
  answered-before c i m e = go (before-or-past c w.next_conn)
    where
      go : (c < w.next_conn) ⊎ (w.next_conn ≤ c) → c < w.next_conn
      go (inl lt) = lt
      go (inr le) = no-element (c < w.next_conn) i m (subst (λ (ms : List Message). slice_get ms i ≡ Some m) (f.ups c le) e)

  later-down : (c : ℕ) (place : ℕ) (m : Message) → slice_get (k.downs c) place ≡ Some m
      → comes_down (purpose_of (w.dialled c).upper) (is_first (length (w.downs c) + place)) m ≡ true
  later-down c place m e =
      let begun : 0 < length (w.downs c) = h.begun c (sent-before c place m e) in
      rw (not-first (length (w.downs c) + place) (omega (arith, begun))) (o.sends.downs c place m e)

  old-downs : (c i : ℕ) (m : Message) → slice_get (w.downs c ++ k.downs c) i ≡ Some m → comes_down (purpose_of (w.dialled c).upper) (is_first i) m ≡ true
  old-downs c i m e = go (get-append (w.downs c) (k.downs c) i m e)
    where
      go : (slice_get (w.downs c) i ≡ Some m) ⊎ Behind (w.downs c) (k.downs c) i m → comes_down (purpose_of (w.dialled c).upper) (is_first i) m ≡ true
      go (inl x) = h.downs c i m x
      go (inr b) = subst (λ (n : ℕ). comes_down (purpose_of (w.dialled c).upper) (is_first n) m ≡ true) (sym b.is) (later-down c b.place m b.found)

  new-downs : (c i : ℕ) (m : Message) (d : Dial) → w.next_conn ≤ c → comes_down (purpose_of d.dialled.upper) true d.request ≡ true
      → slice_get ((w.downs c ++ k.downs c) ++ d.request ∷ []) i ≡ Some m → comes_down (purpose_of d.dialled.upper) (is_first i) m ≡ true
  new-downs c i m d le first e = go i (subst (λ (ms : List Message). slice_get (ms ++ d.request ∷ []) i ≡ Some m) nothing e)
    where
      nothing : w.downs c ++ k.downs c ≡ []
      nothing = rw ((p.undialled c le).downs) (f.downs c le)

      go : (n : ℕ) → slice_get (d.request ∷ []) n ≡ Some m → comes_down (purpose_of d.dialled.upper) (is_first n) m ≡ true
      go zero x = subst (λ (y : Message). comes_down (purpose_of d.dialled.upper) true y ≡ true) (same_Some d.request m x) first
      go (suc n) x = no-element _ n m x

  downs-after : (c i : ℕ) (m : Message) → slice_get (downs_with w k c) i ≡ Some m → comes_down (purpose_of (dialled_with w k c).upper) (is_first i) m ≡ true
  downs-after c i m e = go (dial_at w.next_conn k.dials c) refl e
    where
      go : (x : Option Dial) → dial_at w.next_conn k.dials c ≡ x → slice_get ((w.downs c ++ k.downs c) ++ listed (option_map (λ d. d.request) x)) i ≡ Some m
          → comes_down (purpose_of (unwrap_or (option_map (λ d. d.dialled) x) (w.dialled c)).upper) (is_first i) m ≡ true
      go None is y = old-downs c i m (subst (λ (ms : List Message). slice_get ms i ≡ Some m) (append-nil (w.downs c ++ k.downs c)) y)
      go (Some d) is y = new-downs c i m d (dial-past w.next_conn c k.dials d is) (o.sends.dials (c - w.next_conn) d (dial-is w.next_conn c k.dials d is)) y

  ups-after : (c i : ℕ) (m : Message) → slice_get (ups_with w k c) i ≡ Some m → comes_up (purpose_of (dialled_with w k c).upper) (is_first i) m ≡ true
  ups-after c i m e = go (get-append (w.ups c) (k.ups c) i m e)
    where
      here : c < w.next_conn → comes_up (purpose_of (w.dialled c).upper) (is_first i) m ≡ true → comes_up (purpose_of (dialled_with w k c).upper) (is_first i) m ≡ true
      here lt x = subst (λ (d : Dialled). comes_up (purpose_of d.upper) (is_first i) m ≡ true) (sym (dialled-before w k c lt)) x

      old : slice_get (w.ups c) i ≡ Some m → (c < w.next_conn) ⊎ (w.next_conn ≤ c) → comes_up (purpose_of (dialled_with w k c).upper) (is_first i) m ≡ true
      old x (inl lt) = here lt (h.ups c i m x)
      old x (inr le) = no-element _ i m (subst (λ (ms : List Message). slice_get ms i ≡ Some m) ((p.undialled c le).ups) x)

      go : (slice_get (w.ups c) i ≡ Some m) ⊎ Behind (w.ups c) (k.ups c) i m → comes_up (purpose_of (dialled_with w k c).upper) (is_first i) m ≡ true
      go (inl x) = old x (before-or-past c w.next_conn)
      go (inr b) = here (answered-before c b.place m b.found) (subst (λ (n : ℕ). comes_up (purpose_of (w.dialled c).upper) (is_first n) m ≡ true) (sym b.is) (o.sends.ups c b.place m b.found))

  longer : (xs ys zs : List Message) → 0 < length xs → 0 < length ((xs ++ ys) ++ zs)
  longer [] ys zs lt = absurd (omega (arith, lt))
  longer (x ∷ xs) ys zs lt = omega arith

  not-empty : (xs : List Message) (m : Message) → 0 < length (xs ++ m ∷ [])
  not-empty [] m = omega arith
  not-empty (x ∷ xs) m = omega arith

  begun-after : (c : ℕ) → c < w.next_conn + length k.dials → 0 < length (downs_with w k c)
  begun-after c lt = go (dial_at w.next_conn k.dials c) refl
    where
      go : (x : Option Dial) → dial_at w.next_conn k.dials c ≡ x → 0 < length ((w.downs c ++ k.downs c) ++ listed (option_map (λ d. d.request) x))
      go None is = longer (w.downs c) (k.downs c) [] (h.begun c (dial-within w.next_conn c k.dials is lt))
      go (Some d) is = not-empty (w.downs c ++ k.downs c) d.request

  -- THE ENDS

  dialled-same : (c : ℕ) → c < w.next_conn → w.dialled c ≡ dialled_with w k c
  dialled-same c lt = sym (dialled-before w k c lt)

  below-here : (t : ℕ) → (dm k.lower_at).taken ≡ t → IsBelow (dialled_with w k k.lower_at).upper t (ups_with w k k.lower_at) k.lower
  below-here t e = subst (λ (n : ℕ). IsBelow (dialled_with w k k.lower_at).upper n (ups_with w k k.lower_at) k.lower) e (go (before-or-past k.lower_at w.next_conn))
    where
      go : (k.lower_at < w.next_conn) ⊎ (w.next_conn ≤ k.lower_at) → IsBelow (dialled_with w k k.lower_at).upper (dm k.lower_at).taken (ups_with w k k.lower_at) k.lower
      go (inl lt) = subst (λ (d : Dialled). IsBelow d.upper (dm k.lower_at).taken (ups_with w k k.lower_at) k.lower) (dialled-same k.lower_at lt) o.below
      go (inr le) = below-upper _ _ _ _ k.lower (f.lower_at le) o.below

  below-other : (c t : ℕ) → (c == k.lower_at) ≡ false → (dm c).taken ≡ t → IsBelow (dialled_with w k c).upper t (ups_with w k c) (w.lowers c)
  below-other c t other e =
      subst (λ (ms : List Message). IsBelow (dialled_with w k c).upper t ms (w.lowers c)) (sym (ap (λ (ms : List Message). w.ups c ++ ms) (o.sends.quiet c other) ∙ append-nil (w.ups c)))
      (subst (λ (n : ℕ). IsBelow (dialled_with w k c).upper n (w.ups c) (w.lowers c)) (sym (o.stay.down c other) ∙ e) (go (before-or-past c w.next_conn)))
    where
      go : (c < w.next_conn) ⊎ (w.next_conn ≤ c) → IsBelow (dialled_with w k c).upper (w.down_marks c).taken (w.ups c) (w.lowers c)
      go (inl lt) = subst (λ (d : Dialled). IsBelow d.upper (w.down_marks c).taken (w.ups c) (w.lowers c)) (dialled-same c lt) (h.below c)
      go (inr le) = below-upper _ _ _ _ (w.lowers c) ((p.undialled c le).lower) (h.below c)

  up-same : (c : ℕ) → (um c).taken ≡ (marks_with k.shuts (ups_with w k) um c).taken
  up-same c = sym (shut-taken k.shuts (ups_with w k) um c)

  taken-other : (c at : ℕ) → (at == k.lower_at) ≡ false → (w.dialled c).upper ≡ by_member at → (w.up_marks c).taken ≡ (marks_with k.shuts (ups_with w k) um c).taken
  taken-other c at other e = go (o.stay.up c)
    where
      go : IsActor k.lower_at k.writer_at (w.dialled c).upper ⊎ ((um c).taken ≡ (w.up_marks c).taken) → (w.up_marks c).taken ≡ (marks_with k.shuts (ups_with w k) um c).taken
      go (inl a) = let is : at ≡ k.lower_at = subst (IsActor k.lower_at k.writer_at) e a in absurd (grind (arith, nat_tests, is, other))
      go (inr x) = sym x ∙ up-same c

  taken-writer : (c b : ℕ) → (b == k.writer_at) ≡ false → (w.dialled c).upper ≡ by_writer b → (w.up_marks c).taken ≡ (marks_with k.shuts (ups_with w k) um c).taken
  taken-writer c b other e = go (o.stay.up c)
    where
      go : IsActor k.lower_at k.writer_at (w.dialled c).upper ⊎ ((um c).taken ≡ (w.up_marks c).taken) → (w.up_marks c).taken ≡ (marks_with k.shuts (ups_with w k) um c).taken
      go (inl a) = let is : b ≡ k.writer_at = subst (IsActor k.lower_at k.writer_at) e a in absurd (grind (arith, nat_tests, is, other))
      go (inr x) = sym x ∙ up-same c

  -- a connection that another member dialled
  dialled-other : (c d : ℕ) → (d == k.lower_at) ≡ false → c < conns_after w k → (dialled_with w k c).upper ≡ by_member d → HasDialled c (w.lowers d)
  dialled-other c d other lt e = go (dial_at w.next_conn k.dials c) refl e
    where
      go : (x : Option Dial) → dial_at w.next_conn k.dials c ≡ x → (unwrap_or (option_map (λ y. y.dialled) x) (w.dialled c)).upper ≡ by_member d → HasDialled c (w.lowers d)
      go None is u = h.dialled_by c d (dial-within w.next_conn c k.dials is lt) u
      go (Some y) is u =
          let same : d ≡ k.lower_at = o.sends.uppers (c - w.next_conn) y d (dial-is w.next_conn c k.dials y is) u in
          absurd (grind (arith, nat_tests, same, other))

  -- A change that owes nothing more leaves all in order.
  pub ordered-after : Ordered (apply (marked w dm um) k)
  unfolding apply
  ordered-after = record {
    downs = downs-after;
    ups = ups-after;
    begun = begun-after;
    below = λ c. if-each (λ (l : Lower). IsBelow (dialled_with w k c).upper (marks_with k.shuts (downs_with w k) dm c).taken (ups_with w k c) l) (c == k.lower_at) k.lower (w.lowers c)
        (λ e. subst (λ (n : ℕ). IsBelow (dialled_with w k n).upper (marks_with k.shuts (downs_with w k) dm n).taken (ups_with w k n) k.lower) (sym (eqb-true c k.lower_at e))
        (below-here _ (sym (shut-taken k.shuts (downs_with w k) dm k.lower_at))))
        (λ e. below-other c _ e (sym (shut-taken k.shuts (downs_with w k) dm c)));
    mirrors = λ c. if-each (λ (l : Lower). MirrorIs (dialled_with w k) (marks_with k.shuts (ups_with w k) um) c l) (c == k.lower_at) k.lower (w.lowers c)
        (λ e. subst (λ (n : ℕ). MirrorIs (dialled_with w k) (marks_with k.shuts (ups_with w k) um) n k.lower) (sym (eqb-true c k.lower_at e))
        (mirror-same (dialled_with w k) (dialled_with w k) um (marks_with k.shuts (ups_with w k) um) (conns_after w k) k.lower_at k.lower f.lower (λ d lt. refl) (λ d u. up-same d) o.mirror))
        (λ e. mirror-same w.dialled (dialled_with w k) w.up_marks (marks_with k.shuts (ups_with w k) um) w.next_conn c (w.lowers c) (p.lowers c) dialled-same (λ d u. taken-other d c e u) (h.mirrors c));
    dialled_by = λ c d lt u. if-each (λ (l : Lower). HasDialled c l) (d == k.lower_at) k.lower (w.lowers d)
        (λ e. o.dialled c lt (u ∙ ap by_member (eqb-true d k.lower_at e)))
        (λ e. dialled-other c d e lt u);
    writers_are = λ b. if-each (λ (x : Writing). WriterIs (dialled_with w k) (marks_with k.shuts (ups_with w k) um) b x) (b == k.writer_at) k.writer (w.writers b)
        (λ e. subst (λ (n : ℕ). WriterIs (dialled_with w k) (marks_with k.shuts (ups_with w k) um) n k.writer) (sym (eqb-true b k.writer_at e))
        (writer-same (dialled_with w k) (dialled_with w k) um (marks_with k.shuts (ups_with w k) um) (conns_after w k) k.writer_at k.writer f.writer (λ d lt. refl) (λ d u. up-same d) o.writer))
        (λ e. writer-same w.dialled (dialled_with w k) w.up_marks (marks_with k.shuts (ups_with w k) um) w.next_conn b (w.writers b) (p.writers b) dialled-same (λ d u. taken-writer d b e u) (h.writers_are b));
    readers_are = put-each (λ (i : ℕ) (x : Reader). ReaderIs (dialled_with w k) i x) w.readers k.reader_at k.reader o.reader
        (λ i. reader-same w.dialled (dialled_with w k) w.next_conn i (w.readers i) (p.readers i) dialled-same (h.readers_are i));
    primaries_are = put-each (λ (i : ℕ) (x : Primary). PrimaryIs (dialled_with w k) i x) w.primaries k.primary_at k.primary o.primary
        (λ i. primary-same w.dialled (dialled_with w k) w.nodes w.next_conn i (w.primaries i) (p.primaries i) dialled-same (h.primaries_are i));
  }
