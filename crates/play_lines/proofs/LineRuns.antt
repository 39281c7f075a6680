-- The lines of a script are played, one after the other.
use Rattle.std.proofs.Common.{arith, ◌≡◌, ℕ, suc, ◌≤◌, ◌<◌, ◌+◌, List, [], ◌∷◌, length, drop, get_or, zero, Result, Ok, Err, refl, sym, ap, ◌∙◌, subst}
use Rattle.hd_base.specs.declared.files.Files as files
use Rattle.hd_base.specs.declared.links.LinkIn as link_in
use Rattle.hd_base.specs.declared.links.LinkOut as link_out
use Rattle.hd_base.specs.declared.roads.Roads as roads
use Rattle.hd_base.specs.declared.shelves.Shelf as shelves
use Rattle.script_lang.specs.declared.instructions.Instruction.{Instruction}
use Rattle.script_lang.specs.declared.instructions.Instruction.TheVariants as says
use Rattle.script_lang.specs.declared.instructions.ScriptLine.{ScriptLine}
use Rattle.script_lang.specs.Fits.{Before, after}
use Rattle.play_model.specs.Lines.{PlaysLine, PlaysLines}
use Rattle.play_model.specs.Draws.{Settles}
use Rattle.play_model.specs.States.{PlayState}
use Rattle.play_opening.specs.Play.PlayFault.{PlayFault}
use Rattle.play_lines.specs.declared.playing.Playing.{Playing}
use Rattle.play_lines.specs.Drawing.{blocks_in, SettleEnds, SettleShows}
use Rattle.play_lines.specs.Showing.{PlayIs, IsPlaying}
use Rattle.play_lines.specs.Lines.{AsksBelow, CreatesHere, AllCreateHere, CanPlay, IsReady, LineLeft, LineShowsOver, LinesEnd, LinesShow}
use Rattle.writer_core.specs.declared.intake.TheConstants.{MAX_COMMANDS}
use Rattle.play_lines.proofs.Places.{moved}
use Rattle.play_scripts.specs.NodeOpening.Laws.{NeverFell}
use Rattle.play_lines.proofs.Runs.{caused_from}
use Rattle.play_lines.proofs.ShelfLemmas.{line_fault, fault_from}

-- Lines that were played, up to these that are left: what these make of the play is what all make of it.
pub record Reached {F R I O : Type 0} (f : files.Ghosts F) (r : roads.Ghosts R I O) (i : link_in.Ghosts I) (o : link_out.Ghosts O) (lines left : List ScriptLine) (p : PlayState) (old x : Playing F I O) (road : R) : Type 0 where
  pub now : PlayState
  pub before : Before
  pub count : ℕ
  pub is : PlayIs f r i o now road x
  pub can : CanPlay left before count now x
  pub blocks : blocks_in x ≡ blocks_in old
  pub nodes : now.nodes ≡ p.nodes
  pub rest : (end : PlayState) → PlaysLines (blocks_in old) left now end → PlaysLines (blocks_in old) lines p end

-- So they were, where there is a shelf for each node.
abbrev pub Continues : {F R I O : Type 0} → files.Ghosts F → roads.Ghosts R I O → link_in.Ghosts I → link_out.Ghosts O → List ScriptLine → List ScriptLine → ℕ → Playing F I O → Playing F I O → R → R → Type 0
Continues f r i o lines left shelves old x road road' =
    (before : Before) (count : ℕ) (p : PlayState) → PlayIs f r i o p road old → CanPlay lines before count p old → shelves ≡ p.nodes → Reached f r i o lines left p old x road'

-- the lines from a place on
one_more : (k : ℕ) → suc k + 1 ≡ suc (k + 1)
one_more k = omega arith

pub drop_here : (xs : List ScriptLine) (k : ℕ) (x : ScriptLine) → x ≡ get_or xs k x → k < length xs → drop k xs ≡ x ∷ drop (k + 1) xs
drop_here [] k x e within = absurd (never within)
  where
    never : k < 0 → ⊥
    never h = omega (arith, h)
drop_here (y ∷ ys) zero x e within = ap (λ (z : ScriptLine). z ∷ ys) (sym e)
drop_here (y ∷ ys) (suc k) x e within = drop_here ys k x e (less within) ∙ ap (λ (n : ℕ). x ∷ drop n (y ∷ ys)) (sym (one_more k))
  where
    less : suc k < suc (length ys) → k < length ys
    less h = omega (arith, h)

pub drop_end : (xs : List ScriptLine) (k : ℕ) → length xs ≤ k → drop k xs ≡ []
drop_end [] k h = drop_none k
  where
    drop_none : (k : ℕ) → drop {A = ScriptLine} k [] ≡ []
    drop_none zero = refl
    drop_none (suc k) = refl
drop_end (y ∷ ys) zero h = absurd (never h)
  where
    never : suc (length ys) ≤ 0 → ⊥
    never h = omega (arith, h)
drop_end (y ∷ ys) (suc k) h = drop_end ys k (less h)
  where
    less : suc (length ys) ≤ suc k → length ys ≤ k
    less h = omega (arith, h)

creates_move : {F I O : Type 0} (x y : Playing F I O) (line : Instruction) → blocks_in y ≡ blocks_in x → CreatesHere x line → CreatesHere y line
creates_move x y (says.Create b members) e h = moved y.player.clients.items x.player.clients.items b.0 e h
creates_move x y (says.Append b members) e h = tt
creates_move x y (says.Write b bytes) e h = tt
creates_move x y (says.Fill b count) e h = tt
creates_move x y (says.Hflush b) e h = tt
creates_move x y (says.Hsync b) e h = tt
creates_move x y (says.Close b) e h = tt
creates_move x y (says.Nodes count) e h = tt
creates_move x y (says.Seed seed) e h = tt
creates_move x y (says.Sums b rule) e h = tt
creates_move x y (says.Read b n offset count) e h = tt
creates_move x y (says.Recover b n members) e h = tt
creates_move x y (says.Cut b conn down up) e h = tt
creates_move x y (says.Fault n nth) e h = tt
creates_move x y (says.Stop n) e h = tt
creates_move x y (says.Start n) e h = tt
creates_move x y (says.Run count) e h = tt
creates_move x y says.Settle e h = tt
creates_move x y (says.Step b event) e h = tt
creates_move x y (says.Expect n b state stamp written) e h = tt

all_move : {F I O : Type 0} (x y : Playing F I O) (lines : List ScriptLine) → blocks_in y ≡ blocks_in x → AllCreateHere x lines → AllCreateHere y lines
all_move x y [] e h = tt
all_move x y (l ∷ lines) e h = (creates_move x y l.instruction e h.0, all_move x y lines e h.1)

module _ {S F R I O : Type 0} (s : shelves.Ghosts S F) (f : files.Ghosts F) (r : roads.Ghosts R I O) (i : link_in.Ghosts I) (o : link_out.Ghosts O) where
  -- none yet
  pub none_played : (lines : List ScriptLine) (n : ℕ) (old : Playing F I O) (road : R) → Continues f r i o lines lines n old old road road
  none_played lines n old road before count p stands can shelved = record { now = p; before = before; count = count; is = stands; can = can; blocks = refl; nodes = refl; rest = λ end h. h }

  pub reached_ready : (lines left : List ScriptLine) (n m : ℕ) (old x : Playing F I O) (road road' : R) → m ≡ n → IsReady f r i o lines n road old → Continues f r i o lines left n old x road road' → IsReady f r i o left m road' x
  reached_ready lines left n m old x road road' same h goes =
      let z = goes h.before h.count h.p h.is h.can h.shelved in
      record { p = z.now; is = z.is; before = z.before; count = z.count; can = z.can; shelved = same ∙ (h.shelved ∙ sym z.nodes) }

  pub ready_playing : (lines : List ScriptLine) (n : ℕ) (x : Playing F I O) (road : R) → IsReady f r i o lines n road x → IsPlaying f r i o road x
  ready_playing lines n x road h = record { p = h.p; is = h.is }

  -- one line more
  can_line : (l : ScriptLine) (left : List ScriptLine) (before : Before) (count : ℕ) (p : PlayState) (x : Playing F I O) → CanPlay (l ∷ left) before count p x → count < MAX_COMMANDS
  can_line l left before count p x can = omega (arith, can.few)

  below_more : (least number : ℕ) (p : PlayState) → least ≤ number → AsksBelow least p → AsksBelow number p
  below_more least number p h below = record { reads = λ k ask at. up ask.reader (below.reads k ask at); recovers = λ k rec at. up rec.primary (below.recovers k rec at) }
    where
      up : (a : ℕ) → a < least → a < number
      up a g = omega (arith, h, g)

  fewer : (left : List ScriptLine) (count : ℕ) → count + suc (length left) ≤ MAX_COMMANDS → suc count + length left ≤ MAX_COMMANDS
  fewer left count h = omega (arith, h)

  module _ (lines : List ScriptLine) (n : ℕ) (old x y : Playing F I O) (road road' road'' : R) (shelves shelves' shelves'' : List S) (count_is : length shelves' ≡ n) where
    one_played : (l : ScriptLine) (left : List ScriptLine) → Continues f r i o lines (l ∷ left) n old x road road' → LineShowsOver s f r i o l shelves' shelves'' x y road' road'' (Ok tt) → Continues f r i o lines left n old y road road''
    one_played l left goes shows before count p stands can shelved =
        let z = goes before count p stands can shelved in
        let d : LineLeft f r i o l.number l.instruction z.before z.count z.now x y road'' = shows z.before z.count z.now z.is z.can.behind (below_more z.can.least l.number z.now z.can.ascend.0 z.can.asked) z.can.fit.0 z.can.here.0 (can_line l left z.before z.count z.now x z.can) (count_is ∙ (shelved ∙ sym z.nodes)) in
        record {
          now = d.left;
          before = after z.before l.instruction;
          count = suc z.count;
          is = d.is;
          can = record { behind = d.behind; fit = z.can.fit.1; here = all_move x y left d.blocks z.can.here.1; few = fewer left z.count z.can.few; least = l.number + 1; ascend = z.can.ascend.1; asked = d.asked };
          blocks = d.blocks ∙ z.blocks;
          nodes = d.nodes ∙ z.nodes;
          rest = λ end h. z.rest end (d.left, (subst (λ (bs : List ℕ). PlaysLine bs l.number l.instruction z.now d.left) z.blocks d.plays, h));
        }

    pub one_next : (k : ℕ) (l : ScriptLine) → l ≡ get_or lines k l → k < length lines → Continues f r i o lines (drop k lines) n old x road road' → LineShowsOver s f r i o l shelves' shelves'' x y road' road'' (Ok tt) → Continues f r i o lines (drop (k + 1) lines) n old y road road''
    one_next k l at within goes shows =
        one_played l (drop (k + 1) lines) (subst (λ (left : List ScriptLine). Continues f r i o lines left n old x road road') (drop_here lines k l at within) goes) shows

  module _ (lines : List ScriptLine) (old x y : Playing F I O) (road road' road'' : R) (shelves shelves' shelves'' : List S) (count_is : length shelves' ≡ length shelves) (faults : r.faults road ≤ r.faults road') (fell : NeverFell s shelves shelves') where
    one_failed : (l : ScriptLine) (left : List ScriptLine) (why : PlayFault) → Continues f r i o lines (l ∷ left) (length shelves) old x road road' → LineShowsOver s f r i o l shelves' shelves'' x y road' road'' (Err why) → LinesShow s f r i o lines shelves shelves'' old y road road'' (Err why)
    one_failed l left why goes shows before count p stands can shelved =
        let z = goes before count p stands can shelved in
        fault_from s f r i o y road road' road'' shelves shelves' shelves'' why faults fell (shows z.before z.count z.now z.is z.can.behind (below_more z.can.least l.number z.now z.can.ascend.0 z.can.asked) z.can.fit.0 z.can.here.0 (can_line l left z.before z.count z.now x z.can) (count_is ∙ (shelved ∙ sym z.nodes)))

    pub failed_at : (k : ℕ) (l : ScriptLine) (why : PlayFault) (result : Result (Unit {0}) PlayFault) → result ≡ Err why → l ≡ get_or lines k l → k < length lines → Continues f r i o lines (drop k lines) (length shelves) old x road road' → LineShowsOver s f r i o l shelves' shelves'' x y road' road'' (Err why)
        → LinesShow s f r i o lines shelves shelves'' old y road road'' result
    failed_at k l why result is at within goes shows =
        subst (λ (z : Result (Unit {0}) PlayFault). LinesShow s f r i o lines shelves shelves'' old y road road'' z) (sym is)
        (one_failed l (drop (k + 1) lines) why (subst (λ (left : List ScriptLine). Continues f r i o lines left (length shelves) old x road road') (drop_here lines k l at within) goes) shows)

    -- all are played, and it settles
    settled : (p : PlayState) (z : Reached f r i o lines [] p old x road') (result : Result (Unit {0}) PlayFault) → SettleEnds f r i o z.now x y road' road'' result → LinesEnd s f r i o lines p shelves shelves' old y road road'' result
    settled p z (Ok u) d = record {
      left = d.after;
      plays = z.rest d.after (subst (λ (bs : List ℕ). Settles bs z.now d.after) z.blocks d.settles);
      is = d.left.is;
      blocks = d.left.blocks ∙ z.blocks;
    }
    settled p z (Err why) cause = line_fault s f r i o y road road'' shelves shelves' why (caused_from f r i o y road road' road'' why faults cause)

    all_played : (result : Result (Unit {0}) PlayFault) → Continues f r i o lines [] (length shelves) old x road road' → SettleShows f r i o x y road' road'' result → LinesShow s f r i o lines shelves shelves' old y road road'' result
    all_played result goes shows before count p stands can shelved =
        let z = goes before count p stands can shelved in
        settled p z result (shows z.now z.is)

    pub played_at : (k : ℕ) (result : Result (Unit {0}) PlayFault) → length lines ≤ k → Continues f r i o lines (drop k lines) (length shelves) old x road road' → SettleShows f r i o x y road' road'' result → LinesShow s f r i o lines shelves shelves' old y road road'' result
    played_at k result end goes shows =
        all_played result (subst (λ (left : List ScriptLine). Continues f r i o lines left (length shelves) old x road road') (drop_end lines k end) goes) shows
