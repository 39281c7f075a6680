-- The present pipeline of a block.
use Rattle.std.proofs.Common.{◌≡◌, ℕ, zero, suc, ◌≤◌, ◌<◌, ◌+◌, ◌-◌, Bool, true, false, if◌then◌else◌, List, [], ◌∷◌, length, slice_get, Option, Some, None, option_and_then, refl, sym, ap, ◌∙◌, subst, arith}
use Rattle.std.specs.Prelude.{◌==◌, IfSome}
use Rattle.hd_base.specs.declared.links.LinkIn as link_in
use Rattle.hd_base.specs.declared.links.LinkOut as link_out
use Rattle.hd_base.specs.declared.numbers.ConnId.{ConnId}
use Rattle.road_traffic.specs.Showing.{Net}
use Rattle.world.specs.Parts as parts
use Rattle.world.specs.Parts.{by_writer, by_member, by_reader, by_primary, Lower, writes}
use Rattle.world.specs.Worlds.{World}
use Rattle.play_model.specs.WorldLaws.Placing.{Placed, IsLower}
use Rattle.play_model.specs.Lines.{is_dial_of, latest_dial, mirror_of, conn_behind, pipeline_conn}
use Rattle.play_scripts.specs.PlayNodes.Connection.{Connection}
use Rattle.play_scripts.specs.PlayNodes.Upper.{Upper}
use Rattle.play_scripts.specs.PlayNodes.Upper.TheVariants as upper
use Rattle.play_scripts.specs.PlayNodes.Nodes.{Nodes}
use Rattle.play_scripts.specs.PlayNodes.Showing.{UpperShows, NodesShow}
use Rattle.play_lines.specs.Pipelines.{number_of, is_dialled_by, dialled_at, latest_in, mirror_at, conn_at, pipeline_at}

-- CONNECTIONS

one_less : (k place : ℕ) → k < place → place - k ≡ suc (place - (k + 1))
one_less k place h = omega (arith, h)

all_left : (place : ℕ) → place - 0 ≡ place
all_left place = omega arith

none_left : (k place : ℕ) → k ≤ place → (k < place → ⊥) → place - k ≡ 0
none_left k place h past = omega (arith, h, past)

module _ {I O : Type 0} (conns : List (Connection I O)) where
  -- behind nothing is nothing
  none_behind : (place : ℕ) → conn_at conns place None ≡ None
  none_behind zero = refl
  none_behind (suc place) = refl

  behind_one : (place k c : ℕ) (next whole : Option ℕ) → k < place → next ≡ mirror_at conns c → conn_at conns (place - k) (Some c) ≡ whole → conn_at conns (place - (k + 1)) next ≡ whole
  behind_one place k c next whole h told is = ap (conn_at conns (place - (k + 1))) told ∙ (sym (ap (λ (n : ℕ). conn_at conns n (Some c)) (one_less k place h)) ∙ is)

  pub behind_more : (place k c : ℕ) (found : Option ConnId) (next : ConnId) (whole : Option ℕ) → k < place → number_of found ≡ mirror_at conns c → found ≡ Some next → conn_at conns (place - k) (Some c) ≡ whole → conn_at conns (place - (k + 1)) (Some next.0) ≡ whole
  behind_more place k c found next whole h told there is = behind_one place k c (Some next.0) whole h (ap number_of (sym there) ∙ told) is

  pub behind_ends : (place k c : ℕ) (found result : Option ConnId) (whole : Option ℕ) → k < place → number_of found ≡ mirror_at conns c → found ≡ None → result ≡ None → conn_at conns (place - k) (Some c) ≡ whole → number_of result ≡ whole
  behind_ends place k c found result whole h told none ends is = ap number_of ends ∙ (sym (none_behind (place - (k + 1))) ∙ behind_one place k c None whole h (ap number_of (sym none) ∙ told) is)

  pub behind_first : (place : ℕ) (conn : ConnId) (first : Option ConnId) → first ≡ Some conn → conn_at conns (place - 0) (Some conn.0) ≡ conn_at conns place (number_of first)
  behind_first place conn first is = ap (λ (n : ℕ). conn_at conns n (Some conn.0)) (all_left place) ∙ ap (λ (x : Option ConnId). conn_at conns place (number_of x)) (sym is)

  pub behind_last : (place k c : ℕ) (whole : Option ℕ) → k ≤ place → (k < place → ⊥) → conn_at conns (place - k) (Some c) ≡ whole → Some c ≡ whole
  behind_last place k c whole h past is = sym (ap (λ (n : ℕ). conn_at conns n (Some c)) (none_left k place h past)) ∙ is

-- WHAT IS TOLD

beyond : {A : Type 0} (xs : List A) (i : ℕ) → slice_get xs i ≡ None → length xs ≤ i
beyond [] i e = omega arith
beyond (x ∷ xs) zero e = cc
beyond (x ∷ xs) (suc i) e = more (beyond xs i e)
  where
    more : length xs ≤ i → suc (length xs) ≤ suc i
    more h = omega (arith, h)

dial_told : (b : ℕ) (u : parts.Upper) (x : Upper) → UpperShows u x → is_dialled_by b x ≡ is_dial_of b u
dial_told b (by_writer c) (upper.Writer block) h = ap (λ n. n == b) h
dial_told b (by_member d) (upper.Member conn) h = refl
dial_told b (by_reader n) (upper.Reader reader) h = refl
dial_told b (by_primary n place) (upper.Primary primary at node) h = refl
dial_told b u x h = absurd h

module _ {F I O : Type 0} (i : link_in.Ghosts I) (o : link_out.Ghosts O) (w : World) (net : Net) (n : Nodes F I O) (nodes : NodesShow i o w net n) (placed : Placed w) where
  dialled_told : (b k : ℕ) → k < w.next_conn → dialled_at (slice_get n.connections.items k) b ≡ is_dial_of b (w.dialled k).upper
  dialled_told b k within = by (slice_get n.connections.items k) refl
    where
      by : (x : Option (Connection I O)) → slice_get n.connections.items k ≡ x → dialled_at x b ≡ is_dial_of b (w.dialled k).upper
      by None is = absurd (never (subst (λ (m : ℕ). m ≤ k) nodes.count (beyond n.connections.items k is)))
        where
          never : w.next_conn ≤ k → ⊥
          never past = omega (arith, within, past)
      by (Some x) is = dial_told b (w.dialled k).upper x.upper (nodes.each k x is).upper_is

  latest_told : (b k : ℕ) → k ≤ w.next_conn → latest_in n.connections.items b k ≡ latest_dial w b k
  latest_told b zero within = refl
  latest_told b (suc k) within =
      ap (λ (q : Bool). if q then Some k else latest_in n.connections.items b k) (dialled_told b k (omega (arith, within)))
      ∙ ap (λ (l : Option ℕ). if is_dial_of b (w.dialled k).upper then Some k else l) (latest_told b k (omega (arith, within)))

  mirror_told : (c : ℕ) → mirror_at n.connections.items c ≡ mirror_of (w.lowers c)
  mirror_told c = by (slice_get n.connections.items c) refl
    where
      by : (x : Option (Connection I O)) → slice_get n.connections.items c ≡ x → option_and_then (λ y. number_of y.mirror) x ≡ mirror_of (w.lowers c)
      by None is = sym (ap mirror_of (placed.undialled c (subst (λ (k : ℕ). k ≤ c) nodes.count (beyond n.connections.items c is))).lower)
      by (Some x) is = (nodes.each c x is).mirror

  behind_told : (place : ℕ) (first : Option ℕ) → conn_at n.connections.items place first ≡ conn_behind w place first
  behind_told zero first = refl
  behind_told (suc place) None = refl
  behind_told (suc place) (Some c) = ap (conn_at n.connections.items place) (mirror_told c) ∙ behind_told place (mirror_of (w.lowers c))

  pub pipeline_told : (b place : ℕ) → pipeline_at n.connections.items b place ≡ pipeline_conn w b place
  pipeline_told b place =
      ap (conn_at n.connections.items place) (ap (latest_in n.connections.items b) nodes.count ∙ latest_told b w.next_conn (omega arith))
      ∙ behind_told place (latest_dial w b w.next_conn)

-- IN RANGE

latest_within : (w : World) (b k : ℕ) → k ≤ w.next_conn → IfSome (latest_dial w b k) (λ c. c < w.next_conn)
latest_within w b zero h = tt
latest_within w b (suc k) h = by (is_dial_of b (w.dialled k).upper) (latest_within w b k (omega (arith, h)))
  where
    by : (q : Bool) → IfSome (latest_dial w b k) (λ c. c < w.next_conn) → IfSome (if q then Some k else latest_dial w b k) (λ c. c < w.next_conn)
    by true rest = omega (arith, h)
    by false rest = rest

mirror_within : (conns : ℕ) (l : Lower) → IsLower conns l → IfSome (mirror_of l) (λ c. c < conns)
mirror_within conns (writes m) h = h.below
mirror_within conns l h = tt

behind_within : (w : World) → Placed w → (place : ℕ) (first : Option ℕ) → IfSome first (λ c. c < w.next_conn) → IfSome (conn_behind w place first) (λ c. c < w.next_conn)
behind_within w placed zero first h = h
behind_within w placed (suc place) None h = tt
behind_within w placed (suc place) (Some c) h = behind_within w placed place (mirror_of (w.lowers c)) (mirror_within w.next_conn (w.lowers c) (placed.lowers c))

pub conn_within : (w : World) → Placed w → (b place c : ℕ) → pipeline_conn w b place ≡ Some c → c < w.next_conn
conn_within w placed b place c is = subst (λ (x : Option ℕ). IfSome x (λ d. d < w.next_conn)) is (behind_within w placed place (latest_dial w b w.next_conn) (latest_within w b w.next_conn (omega arith)))
