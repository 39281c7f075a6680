-- What a run says of its exit, by what was played and how writing its report ended.
use Rattle.std.proofs.lemmas.Option.{same_Some}
use Rattle.whole_play.specs.PlayScripts.Head.{Head}
use Rattle.whole_play.specs.PlayScripts.Fitting.{ScriptFits}
use Rattle.whole_play.specs.PlayScripts.Heads.{head_of}
use Rattle.std.proofs.Common.{◌≡◌, ◌≤◌, length, take, slice_get, inl, inr, ℕ, List, Option, Some, None, IfSome, Result, Ok, Err, Bool, true, false, refl, sym, ap, subst, ◌∙◌}
use Rattle.hd_base.specs.declared.files.Files as files
use Rattle.hd_base.specs.declared.roads.Roads as roads
use Rattle.hd_base.specs.declared.shelves.Shelf as shelves
use Rattle.hd_base.specs.declared.streams.Sink as sinks
use Rattle.hd_base.specs.declared.streams.Source as sources
use Rattle.hd_base.specs.Faults.{FaultsIncreased}
use Rattle.hd_base.specs.FileMaps.{FileMap, no_files}
use Rattle.hd_base.specs.declared.numbers.NodeId.{NodeId}
use Rattle.whole_play.specs.NodeOpening.Emptiness.{IsFirstName, HasFirstFile, ShelfOf}
use Rattle.whole_play.proofs.NodeOpening.ListLemmas.{get_take}
use Rattle.script_lang.specs.declared.instructions.ScriptLine.{ScriptLine}
use Rattle.run_words.specs.declared.faults.UsageRule.{UsageRule}
use Rattle.whole_play.specs.declared.faults.RunFault.{RunFault}
use Rattle.whole_play.specs.declared.faults.RunFault.TheVariants as fault
use Rattle.whole_play.specs.declared.playing.Played.{Played}
use Rattle.whole_play.specs.Playing.{LeavesShelves, HasCause, HasUsedCause}
use Rattle.dn_run.specs.declared.exits.Exit.{Exit}
use Rattle.dn_run.specs.declared.exits.Exit.TheVariants as exit
use Rattle.dn_run.specs.Exits.{is_told, run_exit}
use Rattle.dn_run.specs.Tasks.{UsageFor}
use Rattle.dn_run.specs.declared.tasks.Task.{Task}
use Rattle.dn_run.specs.Reading.{IsPlayable, HasRead, IsReadExit, Accepts, Refuses}
use Rattle.dn_run.specs.Runs.{IsBadText, OfUsed, NoneRose, CanRun, IsPlainExit, IsUntouched, LeavesOthers, KeepsShelves, IsBadIn, RefusesIn, HasPlayCause, HasExitCause, HasRun, IsOver, WritesReport}

-- WRITING

module _ {O : Type 0} (o : sinks.Ghosts O) (report report' : O) (p : Played) where
  pub written_bad : (tells : Bool) (left : Option (List ℕ)) (n : ℕ) (ended : Exit) → WritesReport o report report' p ended → IsBadIn tells left n ended
  written_bad tells left n exit.Done w = tt
  written_bad tells left n (exit.Differs line want got) w = tt
  written_bad tells left n exit.ReportFault w = tt
  written_bad tells left n exit.Memory w = tt
  written_bad tells left n (exit.Usage r) w = absurd w
  written_bad tells left n (exit.BadScript line why) w = absurd w
  written_bad tells left n exit.ScriptFault w = absurd w
  written_bad tells left n (exit.ShelfFault node) w = absurd w
  written_bad tells left n exit.RoadFault w = absurd w
  written_bad tells left n (exit.NotEmpty node name) w = absurd w

  pub written_cause : {I S D R L M : Type 0} (tells : Bool) (i : sources.Ghosts I) (s : shelves.Ghosts S D) (r : roads.Ghosts R L M) (script script' : I) (old new : List S) (road road' : R) (ended : Exit) → WritesReport o report report' p ended → HasExitCause tells i o s r script script' report report' old new road road' ended
  written_cause tells i s r script script' old new road road' exit.Done w = tt
  written_cause tells i s r script script' old new road road' (exit.Differs line want got) w = tt
  written_cause tells i s r script script' old new road road' exit.ReportFault w = w.1
  written_cause tells i s r script script' old new road road' exit.Memory w = tt
  written_cause tells i s r script script' old new road road' (exit.Usage u) w = absurd w
  written_cause tells i s r script script' old new road road' (exit.BadScript line why) w = absurd w
  written_cause tells i s r script script' old new road road' exit.ScriptFault w = absurd w
  written_cause tells i s r script script' old new road road' (exit.ShelfFault node) w = absurd w
  written_cause tells i s r script script' old new road road' exit.RoadFault w = absurd w
  written_cause tells i s r script script' old new road road' (exit.NotEmpty node name) w = absurd w

  pub written_over : {I S D R L M : Type 0} (tells : Bool) (i : sources.Ghosts I) (s : shelves.Ghosts S D) (d : files.Ghosts D) (r : roads.Ghosts R L M) (script script' : I) (old new : List S) (road : R) (ended : Exit) → HasRun tells i s d r script script' old new road p → WritesReport o report report' p ended
      → IsOver tells i o s d r script script' report report' old new road ended
  written_over tells i s d r script script' old new road exit.Done h w = record { p = p; has_run = h; written = w.0; differs = w.1 }
  written_over tells i s d r script script' old new road (exit.Differs line want got) h w = record { p = p; has_run = h; written = w.0; differs = w.1 }
  written_over tells i s d r script script' old new road exit.ReportFault h w = record { p = p; has_run = h; written = w.0 }
  written_over tells i s d r script script' old new road exit.Memory h w = w
  written_over tells i s d r script script' old new road (exit.Usage u) h w = absurd w
  written_over tells i s d r script script' old new road (exit.BadScript line why) h w = absurd w
  written_over tells i s d r script script' old new road exit.ScriptFault h w = absurd w
  written_over tells i s d r script script' old new road (exit.ShelfFault node) h w = absurd w
  written_over tells i s d r script script' old new road exit.RoadFault h w = absurd w
  written_over tells i s d r script script' old new road (exit.NotEmpty node name) h w = absurd w

-- PLAYING

module _ {I O S D R L M : Type 0} (i : sources.Ghosts I) (o : sinks.Ghosts O) (s : shelves.Ghosts S D) (d : files.Ghosts D) (r : roads.Ghosts R L M) (script script' : I) (report : O) (old new : List S) (road road' : R) where
  -- Where nothing was played the exit isn't one of a report, and nothing was written.
  pub played_cause : (tells : Bool) (ended : Exit) → HasPlayCause tells i s r script script' old new road road' ended → HasExitCause tells i o s r script script' report report old new road road' ended
  played_cause tells exit.Done c = tt
  played_cause tells (exit.Differs line want got) c = tt
  played_cause tells exit.ReportFault c = absurd c
  played_cause tells exit.Memory c = c
  played_cause tells (exit.Usage u) c = absurd c
  played_cause tells (exit.BadScript line why) c = c
  played_cause tells exit.ScriptFault c = c
  played_cause tells (exit.ShelfFault node) c = c
  played_cause tells exit.RoadFault c = c
  played_cause tells (exit.NotEmpty node name) c = c

  pub played_over : (tells : Bool) (ended : Exit) → HasPlayCause tells i s r script script' old new road road' ended → IsOver tells i o s d r script script' report report old new road' ended
  played_over tells exit.Done c = absurd c
  played_over tells (exit.Differs line want got) c = absurd c
  played_over tells exit.ReportFault c = absurd c
  played_over tells exit.Memory c = refl
  played_over tells (exit.Usage u) c = absurd c
  played_over tells (exit.BadScript line why) c = refl
  played_over tells exit.ScriptFault c = refl
  played_over tells (exit.ShelfFault node) c = refl
  played_over tells exit.RoadFault c = refl
  played_over tells (exit.NotEmpty node name) c = refl

-- a text that is refused isn't played
pub refuses_played : (tells : Bool) (left : Option (List ℕ)) (n : ℕ) (ended : Exit) → IfSome left (λ text. Refuses {T = Played} tells n text (Err ended)) → RefusesIn tells left n ended
refuses_played tells None n ended h = tt
refuses_played tells (Some text) n ended h = h

pub refuses_written : (tells : Bool) (left : Option (List ℕ)) (n : ℕ) (p : Played) (ended : Exit) → IfSome left (λ text. Refuses {T = Played} tells n text (Ok p)) → RefusesIn tells left n ended
refuses_written tells None n p ended h = tt
refuses_written tells (Some text) n p ended h = λ line why bad. absurd (h line why bad)

-- a text that is refused isn't a script that plays have
pub bad_text : (tells : Bool) (left : Option (List ℕ)) (before now n : ℕ) (ended : Exit) → IsReadExit tells left before now n ended → IfSome left (λ text. Accepts tells n text (Err ended)) → IsBadIn tells left n ended
bad_text tells left before now n exit.Done c a = tt
bad_text tells left before now n (exit.Differs line want got) c a = tt
bad_text tells left before now n exit.ReportFault c a = tt
bad_text tells left before now n exit.Memory c a = tt
bad_text tells left before now n (exit.Usage u) c a = tt
bad_text tells None before now n (exit.BadScript line why) c a = tt
bad_text tells (Some text) before now n (exit.BadScript line why) c a = record { refused = c; unplayable = a }
bad_text tells left before now n exit.ScriptFault c a = tt
bad_text tells left before now n (exit.ShelfFault node) c a = tt
bad_text tells left before now n exit.RoadFault c a = tt
bad_text tells left before now n (exit.NotEmpty node name) c a = tt

-- FAULTS OF A PLAY

module _ {I S D R L M : Type 0} (i : sources.Ghosts I) (s : shelves.Ghosts S D) (r : roads.Ghosts R L M) (script script' : I) (old new : List S) (road road' : R) where
  pub fault_cause : (tells : Bool) (lines : List ScriptLine) → HasRead tells (i.left script) (i.left script') (length old) lines → ScriptFits (length old) lines → (why : RunFault) → HasUsedCause s r lines old new road road' why → HasPlayCause tells i s r script script' old new road road' (run_exit why)
  fault_cause tells lines read fits why cause = by why (cause head is)
    where
      head : Head
      head = record { nodes = fits.nodes; seed = fits.seed }

      is : head_of lines ≡ Some head
      is = ap head_of fits.parts

      by : (w : RunFault) → HasCause s r (take head.nodes old) (take head.nodes new) road road' w → HasPlayCause tells i s r script script' old new road road' (run_exit w)
      by fault.RoadFault c = c
      by (fault.ShelfFault node) c = record { lines = lines; read = read; head = head; head_is = is; so = c }
      by (fault.NotEmpty node name) c = record { lines = lines; read = read; head = head; head_is = is; so = c }
      by fault.Memory c = tt

  pub read_cause : (tells : Bool) (left : Option (List ℕ)) (shelves : ℕ) (ended : Exit) → IsReadExit tells left (i.faults script) (i.faults script') shelves ended → HasPlayCause tells i s r script script' old new road road' ended
  read_cause tells left shelves exit.Done c = c
  read_cause tells left shelves (exit.Differs line want got) c = c
  read_cause tells left shelves exit.ReportFault c = c
  read_cause tells left shelves exit.Memory c = tt
  read_cause tells left shelves (exit.Usage u) c = absurd c
  read_cause tells left shelves (exit.BadScript line why) c = tt
  read_cause tells left shelves exit.ScriptFault c = c
  read_cause tells left shelves (exit.ShelfFault node) c = absurd c
  read_cause tells left shelves exit.RoadFault c = absurd c
  read_cause tells left shelves (exit.NotEmpty node name) c = absurd c

-- A text whose lines were read isn't refused.
pub refuses_any : (tells : Bool) (left : Option (List ℕ)) (n : ℕ) (lines : List ScriptLine) (result : Result Played Exit) → IfSome left (λ text. Refuses {T = List ScriptLine} tells n text (Ok lines)) → IfSome left (λ text. Refuses {T = Played} tells n text result)
refuses_any tells None n lines result h = tt
refuses_any tells (Some text) n lines (Ok p) h = h
refuses_any tells (Some text) n lines (Err ended) h = λ line why bad. absurd (h line why bad)

-- USAGE

-- What was told had words that break no rule.
pub told_usage : (asked : Result Task UsageRule) (ended : Exit) → is_told ended ≡ true → UsageFor asked ended → UsageFor asked exit.ReportFault
told_usage (Ok asked) ended t u = λ r e. cc
told_usage (Err r) ended t (inl e) = absurd (never (ap is_told (sym e) ∙ t))
  where
    never : false ≡ true → ⊥
    never e = cc
told_usage (Err r) ended t (inr e) = absurd (never (ap is_told (sym e) ∙ t))
  where
    never : false ≡ true → ⊥
    never e = cc

-- WHAT IS LEFT AS IT WAS

module _ {S R : Type 0} (old new : List S) (road road' : R) where
  pub untouched_read : (tells : Bool) (left : Option (List ℕ)) (before now shelves : ℕ) (ended : Exit) → IsReadExit tells left before now shelves ended → IsUntouched old old road road ended
  untouched_read tells left before now shelves exit.Done c = tt
  untouched_read tells left before now shelves (exit.Differs line want got) c = tt
  untouched_read tells left before now shelves exit.ReportFault c = tt
  untouched_read tells left before now shelves exit.Memory c = tt
  untouched_read tells left before now shelves (exit.Usage u) c = absurd c
  untouched_read tells left before now shelves (exit.BadScript line why) c = (refl, refl)
  untouched_read tells left before now shelves exit.ScriptFault c = (refl, refl)
  untouched_read tells left before now shelves (exit.ShelfFault node) c = tt
  untouched_read tells left before now shelves exit.RoadFault c = tt
  untouched_read tells left before now shelves (exit.NotEmpty node name) c = tt

  pub untouched_fault : (why : RunFault) → IsUntouched old new road road' (run_exit why)
  untouched_fault fault.RoadFault = tt
  untouched_fault (fault.ShelfFault node) = tt
  untouched_fault (fault.NotEmpty node name) = tt
  untouched_fault fault.Memory = tt

module _ {O : Type 0} (o : sinks.Ghosts O) (report report' : O) (p : Played) where
  pub untouched_written : {S R : Type 0} (old new : List S) (road road' : R) (ended : Exit) → WritesReport o report report' p ended → IsUntouched old new road road' ended
  untouched_written old new road road' exit.Done w = tt
  untouched_written old new road road' (exit.Differs line want got) w = tt
  untouched_written old new road road' exit.ReportFault w = tt
  untouched_written old new road road' exit.Memory w = tt
  untouched_written old new road road' (exit.Usage u) w = absurd w
  untouched_written old new road road' (exit.BadScript line why) w = absurd w
  untouched_written old new road road' exit.ScriptFault w = absurd w
  untouched_written old new road road' (exit.ShelfFault node) w = absurd w
  untouched_written old new road road' exit.RoadFault w = absurd w
  untouched_written old new road road' (exit.NotEmpty node name) w = absurd w

-- SHELVES

module _ {S D : Type 0} (s : shelves.Ghosts S D) where
  -- Shelves that weren't touched are as they were.
  pub keeps_all : (tells : Bool) (left : Option (List ℕ)) (xs : List S) → KeepsShelves tells s left xs xs
  keeps_all tells left xs = record {
    lent = record { count = refl; each = λ k a b at at' n none. subst (λ (x : S). s.lent x n ≡ false) (same_Some a b (sym at ∙ at')) none };
    others = rest left;
  }
    where
      rest : (l : Option (List ℕ)) → LeavesOthers tells l xs xs
      rest None = tt
      rest (Some text) = λ lines head k playable is within. refl

  -- The shelves of a play are those of its script.
  pub keeps_played : (tells : Bool) (left : Option (List ℕ)) (old new : List S) (lines : List ScriptLine) → ScriptFits (length old) lines → IfSome left (λ text. Accepts tells (length old) text (Ok lines)) → IfSome (head_of lines) (LeavesShelves s old new) → KeepsShelves tells s left old new
  keeps_played tells left old new lines fits accepts leaves = record { lent = here.lent; others = rest left accepts }
    where
      head : Head
      head = record { nodes = fits.nodes; seed = fits.seed }

      is : head_of lines ≡ Some head
      is = ap head_of fits.parts

      here : LeavesShelves s old new head
      here = subst (λ (h : Option Head). IfSome h (LeavesShelves s old new)) is leaves

      rest : (l : Option (List ℕ)) → IfSome l (λ text. Accepts tells (length old) text (Ok lines)) → LeavesOthers tells l old new
      rest None a = tt
      rest (Some text) a = λ ls other k playable so within.
          let same : lines ≡ ls = a ls playable in
          let heads : head ≡ other = same_Some head other (sym is ∙ (ap head_of same ∙ so)) in
          here.others k (subst (λ (h : Head). h.nodes ≤ k) (sym heads) within)

-- RUNS WITHOUT FAULTS

-- a report that was written, but for a sink that failed
pub plain_written : {O : Type 0} (o : sinks.Ghosts O) (report report' : O) (p : Played) (ended : Exit) → WritesReport o report report' p ended → (FaultsIncreased (o.faults report) (o.faults report') → ⊥) → IsPlainExit ended
plain_written o report report' p exit.Done w none = tt
plain_written o report report' p (exit.Differs line want got) w none = tt
plain_written o report report' p exit.ReportFault w none = absurd (none w.1)
plain_written o report report' p exit.Memory w none = tt
plain_written o report report' p (exit.Usage u) w none = absurd w
plain_written o report report' p (exit.BadScript line why) w none = absurd w
plain_written o report report' p exit.ScriptFault w none = absurd w
plain_written o report report' p (exit.ShelfFault node) w none = absurd w
plain_written o report report' p exit.RoadFault w none = absurd w
plain_written o report report' p (exit.NotEmpty node name) w none = absurd w

-- the shelf of one of the first nodes
used_shelf : {S : Type 0} (P : S → S → Type 0) (n node : ℕ) (old new : List S) → ShelfOf P (take n old) (take n new) node → ShelfOf P old new node
used_shelf P n node old new h = record { before = h.before; after = h.after; was = get_take old n node h.before h.was; is = get_take new n node h.after h.is; so = h.so }

none_first : (name : List ℕ) → IsFirstName no_files name → ⊥
none_first name h = never h.there
  where
    never : false ≡ true → ⊥
    never e = cc

module _ {I O S D R L M : Type 0} (i : sources.Ghosts I) (o : sinks.Ghosts O) (s : shelves.Ghosts S D) (r : roads.Ghosts R L M) (script script' : I) (report report' : O) (old new : List S) (road road' : R) (tells : Bool)
    (can : CanRun tells s (i.left script) old) (none : NoneRose i o s r script script' report report' old new road road') where
  -- the shelves that the script uses are empty
  never_files : (node : NodeId) (name : List ℕ) → OfUsed tells i script script' old new (λ a b. HasFirstFile s a b node name) → ⊥
  never_files node name c =
      let only = subst (λ (l : Option (List ℕ)). IfSome l (λ told. (ls : List ScriptLine) → IsPlayable tells (length old) told ls → ls ≡ c.lines)) can.told c.read.only in
      let same : c.head ≡ can.head = same_Some c.head can.head (sym c.head_is ∙ (ap head_of (sym (only can.lines can.playable)) ∙ can.head_is)) in
      let here = c.so.here in
      let at : slice_get (take can.head.nodes old) node.0 ≡ Some here.before = subst (λ (h : Head). slice_get (take h.nodes old) node.0 ≡ Some here.before) same here.was in
      none_first name (subst (λ (f : Option FileMap). IfSome f (λ m. IsFirstName m name)) (can.empty node.0 here.before at) here.so)

  -- where nothing was played, memory ran out
  pub plain_unplayed : (ended : Exit) → IsBadIn tells (i.left script) (length old) ended → HasPlayCause tells i s r script script' old new road road' ended → IsPlainExit ended
  plain_unplayed exit.Done b c = tt
  plain_unplayed (exit.Differs line want got) b c = tt
  plain_unplayed exit.ReportFault b c = absurd c
  plain_unplayed exit.Memory b c = tt
  plain_unplayed (exit.Usage x) b c = absurd c
  plain_unplayed (exit.BadScript line why) b c =
      let bad = subst (λ (l : Option (List ℕ)). IfSome l (λ text. IsBadText tells (length old) text line why)) can.told b in
      absurd (bad.unplayable can.lines can.playable)
  plain_unplayed exit.ScriptFault b c = absurd (none.source c)
  plain_unplayed (exit.ShelfFault node) b c = absurd (none.shelves node (used_shelf _ c.head.nodes node.0 old new c.so))
  plain_unplayed exit.RoadFault b c = absurd (none.roads c)
  plain_unplayed (exit.NotEmpty node name) b c = absurd (never_files node name c)
