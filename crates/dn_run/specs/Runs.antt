-- What a run does, and how it ends, over shelves of which it is known whether they tell their files.
use Rattle.std.specs.Prelude.{◌≡◌, ◌≤◌, ℕ, Bool, List, length, take, slice_get, Option, Some, None, IfSome, Result, Ok, Err}
use Rattle.hd_base.specs.Faults.{FaultsIncreased}
use Rattle.hd_base.specs.FileMaps.{no_files}
use Rattle.hd_base.specs.declared.numbers.NodeId.{NodeId}
use Rattle.hd_base.specs.Streams.{Wrote}
use Rattle.hd_base.specs.declared.files.Files as files
use Rattle.hd_base.specs.declared.roads.Roads as roads
use Rattle.hd_base.specs.declared.shelves.Shelf as shelves
use Rattle.hd_base.specs.declared.streams.Sink as sinks
use Rattle.hd_base.specs.declared.streams.Source as sources
use Rattle.script_lang.specs.declared.faults.BadKind.{BadKind}
use Rattle.script_lang.specs.declared.instructions.ScriptLine.{ScriptLine}
use Rattle.whole_play.specs.NodeOpening.Emptiness.{ShelfRose, HasFirstFile}
use Rattle.whole_play.specs.NodeOpening.Shelves.{EachShelf, LendsNoMore}
use Rattle.hd_base.specs.RoadFaults.{RoadsFailed}
use Rattle.whole_play.specs.PlayModel.States.{world_of}
use Rattle.whole_play.specs.PlayReport.Answers.{lines_text}
use Rattle.whole_play.specs.PlayReport.Difference.{Difference}
use Rattle.whole_play.specs.PlayScripts.Head.{Head}
use Rattle.whole_play.specs.PlayScripts.Heads.{head_of}
use Rattle.run_words.specs.Calls.{words_of}
use Rattle.run_words.specs.declared.call.Words.{Words}
use Rattle.run_words.specs.declared.faults.UsageRule.{UsageRule}
use Rattle.whole_play.specs.declared.playing.Played.{Played}
use Rattle.whole_play.specs.Playing.{IsPlayed}
use Rattle.dn_run.specs.declared.exits.Exit.{Exit}
use Rattle.dn_run.specs.declared.exits.Exit.TheVariants as exit
use Rattle.whole_play.specs.PlayScripts.Failures.{HaveNoFailures}
use Rattle.whole_play.specs.PlayScripts.Reads.{read_numbers}
use Rattle.play_readings.specs.Endings.{HasResult}
use Rattle.play_recovery_ends.specs.Endings.{RecoveryEnds}
use Rattle.play_recovery_ends.specs.PlayScripts.Recoveries.{recovery_numbers}
use Rattle.world.specs.Safe.{Safe, Has}
use Rattle.dn_run.specs.Answers.{AppendsKeepMembers, Completes}
use Rattle.dn_run.specs.Reading.{IsPlayable, IsRefused, IsRefusal, HasRead}
use Rattle.whole_streams.specs.Streams.{WroteFront}

-- WORDS

-- the folder that was said
abbrev pub said_folder : Result Words UsageRule → Option (List ℕ)
said_folder (Ok words) = words.folder
said_folder (Err r) = None

-- the folder that the words name, if they break no rule and name one
abbrev pub folder_named : List (List ℕ) → Option (List ℕ)
folder_named words = said_folder (words_of words)

-- SCRIPTS

-- The text is refused so, and isn't a script that plays have.
pub record IsBadText (tells : Bool) (shelves : ℕ) (text : List ℕ) (line : ℕ) (why : BadKind) : Type 0 where
  pub refused : IsRefused tells shelves text line why
  pub unplayable : (lines : List ScriptLine) → IsPlayable tells shelves text lines → ⊥

-- A script is refused only where, if told, the text is so,
abbrev pub IsBadIn : Bool → Option (List ℕ) → ℕ → Exit → Type 0
IsBadIn tells left shelves (exit.BadScript line why) = IfSome left (λ text. IsBadText tells shelves text line why)
IsBadIn tells left shelves other = Unit {0}

-- and a text that is so is refused, but for want of memory or a source that failed.
abbrev pub RefusesIn : Bool → Option (List ℕ) → ℕ → Exit → Type 0
RefusesIn tells left shelves ended = IfSome left (λ text. (line : ℕ) (why : BadKind) →
    IsRefused tells shelves text line why → IsRefusal line why ended)

-- WHAT IS LEFT AS IT WAS

-- A script that isn't played leaves all as it was but its source.
abbrev pub IsUntouched : {S R : Type 0} → List S → List S → R → R → Exit → Type 0
IsUntouched old new road road' (exit.BadScript line why) = (new ≡ old) × (road' ≡ road)
IsUntouched old new road road' exit.ScriptFault = (new ≡ old) × (road' ≡ road)
IsUntouched old new road road' other = Unit {0}

-- Where a told text is a script that plays have, the shelves beyond its nodes are as they were.
abbrev pub LeavesOthers : {S : Type 0} → Bool → Option (List ℕ) → List S → List S → Type 0
LeavesOthers tells left old new = IfSome left (λ text. (lines : List ScriptLine) (head : Head) (k : ℕ) →
    IsPlayable tells (length old) text lines → head_of lines ≡ Some head → head.nodes ≤ k →
    slice_get new k ≡ slice_get old k)

-- Whatever the exit: no shelf lends a block that it didn't, and those that the script doesn't use are as they were.
pub record KeepsShelves {S D : Type 0} (tells : Bool) (s : shelves.Ghosts S D) (left : Option (List ℕ))
    (old new : List S) : Type 0 where
  pub lent : EachShelf (LendsNoMore s) old new
  pub others : LeavesOthers tells left old new

-- FAULTS

-- The source was read to its end and gave a script, and this is so of the shelves of its nodes, before and after.
pub record OfUsed {I S : Type 0} (tells : Bool) (i : sources.Ghosts I) (script script' : I) (old new : List S)
    (P : List S → List S → Type 0) : Type 0 where
  pub lines : List ScriptLine
  pub read : HasRead tells (i.left script) (i.left script') (length old) lines
  pub head : Head
  pub head_is : head_of lines ≡ Some head
  pub so : P (take head.nodes old) (take head.nodes new)

-- Each fault of a play has its cause in this call: the count of the source, of a shelf that the script uses, or of the
-- roads rose; or this is the first file of such a shelf that isn't empty. None is of a report, or of words.
abbrev pub HasPlayCause : {I S D R L M : Type 0} → Bool → sources.Ghosts I → shelves.Ghosts S D →
    roads.Ghosts R L M → I → I → List S → List S → R → R → Exit → Type 0
HasPlayCause tells i s r script script' old new road road' exit.ScriptFault =
    FaultsIncreased (i.faults script) (i.faults script')
HasPlayCause tells i s r script script' old new road road' (exit.ShelfFault node) =
    OfUsed tells i script script' old new (λ a b. ShelfRose s a b node)
HasPlayCause tells i s r script script' old new road road' exit.RoadFault = RoadsFailed r road road'
HasPlayCause tells i s r script script' old new road road' (exit.NotEmpty node name) =
    OfUsed tells i script script' old new (λ a b. HasFirstFile s a b node name)
HasPlayCause tells i s r script script' old new road road' exit.Done = ⊥
HasPlayCause tells i s r script script' old new road road' (exit.Differs line want got) = ⊥
HasPlayCause tells i s r script script' old new road road' exit.ReportFault = ⊥
HasPlayCause tells i s r script script' old new road road' (exit.Usage rule) = ⊥
HasPlayCause tells i s r script script' old new road road' other = Unit {0}

-- The same of a run, where the count of the sink may have risen too.
abbrev pub HasExitCause : {I O S D R L M : Type 0} → Bool → sources.Ghosts I → sinks.Ghosts O → shelves.Ghosts S D →
    roads.Ghosts R L M → I → I → O → O → List S → List S → R → R → Exit → Type 0
HasExitCause tells i o s r script script' report report' old new road road' exit.Done = Unit {0}
HasExitCause tells i o s r script script' report report' old new road road' (exit.Differs line want got) = Unit {0}
HasExitCause tells i o s r script script' report report' old new road road' exit.ReportFault =
    FaultsIncreased (o.faults report) (o.faults report')
HasExitCause tells i o s r script script' report report' old new road road' other =
    HasPlayCause tells i s r script script' old new road road' other

-- RUNS WITHOUT FAULTS

-- No count rose: not that of the source, of the sink, of a shelf, of the roads or of a link.
pub record NoneRose {I O S D R L M : Type 0} (i : sources.Ghosts I) (o : sinks.Ghosts O) (s : shelves.Ghosts S D)
    (r : roads.Ghosts R L M) (script script' : I) (report report' : O) (old new : List S) (road road' : R) : Type 0 where
  pub source : FaultsIncreased (i.faults script) (i.faults script') → ⊥
  pub sink : FaultsIncreased (o.faults report) (o.faults report') → ⊥
  pub shelves : (node : NodeId) → ShelfRose s old new node → ⊥
  pub roads : RoadsFailed r road road' → ⊥

-- The source tells a script that plays have, and the shelves that it uses tell that they have no files.
pub record CanRun {S D : Type 0} (tells : Bool) (s : shelves.Ghosts S D) (left : Option (List ℕ)) (old : List S) :
    Type 0 where
  pub text : List ℕ
  pub told : left ≡ Some text
  pub lines : List ScriptLine
  pub playable : IsPlayable tells (length old) text lines
  pub head : Head
  pub head_is : head_of lines ≡ Some head
  pub empty : (node : ℕ) (a : S) → slice_get (take head.nodes old) node ≡ Some a → s.files a ≡ Some no_files

-- Such a run plays its script to the end, or memory runs out.
abbrev pub IsPlainExit : Exit → Type 0
IsPlainExit exit.Done = Unit {0}
IsPlainExit (exit.Differs line want got) = Unit {0}
IsPlainExit exit.Memory = Unit {0}
IsPlainExit other = ⊥

-- ENDS

-- The source was read to its end, and what it gave is a script, which was played: the world in which it ended is safe,
-- each read has a result, and so has each recovery, but where its node stopped or didn't run. Where no line makes
-- something fail, and appends keep members, it completes.
pub record HasRun {I S D R L M : Type 0} (tells : Bool) (i : sources.Ghosts I) (s : shelves.Ghosts S D)
    (d : files.Ghosts D) (r : roads.Ghosts R L M) (script script' : I) (old new : List S) (road : R) (p : Played) :
    Type 0 where
  pub lines : List ScriptLine
  pub read : HasRead tells (i.left script) (i.left script') (length old) lines
  pub played : IsPlayed s d r lines old new road p
  pub safe : Safe (world_of played.closed.through.end)
  pub reads : (i : ℕ) → Has (read_numbers lines) i → HasResult (world_of played.closed.through.end) i
  pub recoveries : (i : ℕ) → Has (recovery_numbers lines) i → RecoveryEnds lines played.closed.through.end i
  pub complete : HaveNoFailures lines → AppendsKeepMembers lines → Completes lines (world_of played.closed.through.end)

-- So it was; the whole report was written, and this is the first difference from what is expected, if there is one.
pub record IsDone {I O S D R L M : Type 0} (tells : Bool) (i : sources.Ghosts I) (o : sinks.Ghosts O)
    (s : shelves.Ghosts S D) (d : files.Ghosts D) (r : roads.Ghosts R L M) (script script' : I) (report report' : O)
    (old new : List S) (road : R) (difference : Option Difference) : Type 0 where
  pub p : Played
  pub has_run : HasRun tells i s d r script script' old new road p
  pub written : Wrote (o.written report) (o.written report') (lines_text p.report.items)
  pub differs : p.difference ≡ difference

-- So it was, and a front of the report was written.
pub record IsCutShort {I O S D R L M : Type 0} (tells : Bool) (i : sources.Ghosts I) (o : sinks.Ghosts O)
    (s : shelves.Ghosts S D) (d : files.Ghosts D) (r : roads.Ghosts R L M) (script script' : I) (report report' : O)
    (old new : List S) (road : R) : Type 0 where
  pub p : Played
  pub has_run : HasRun tells i s d r script script' old new road p
  pub written : WroteFront (o.written report) (o.written report') (lines_text p.report.items)

-- After Done and Differs the script was played and its whole report written, after ReportFault a front of it. After want of
-- memory nothing was written, and after any other exit the sink is as it was.
abbrev pub IsOver : {I O S D R L M : Type 0} → Bool → sources.Ghosts I → sinks.Ghosts O → shelves.Ghosts S D →
    files.Ghosts D → roads.Ghosts R L M → I → I → O → O → List S → List S → R → Exit → Type 0
IsOver tells i o s d r script script' report report' old new road exit.Done =
    IsDone tells i o s d r script script' report report' old new road None
IsOver tells i o s d r script script' report report' old new road (exit.Differs line want got) =
    IsDone tells i o s d r script script' report report' old new road
    (Some (record { line = line; want = want; got = got }))
IsOver tells i o s d r script script' report report' old new road exit.ReportFault =
    IsCutShort tells i o s d r script script' report report' old new road
IsOver tells i o s d r script script' report report' old new road exit.Memory = o.written report' ≡ o.written report
IsOver tells i o s d r script script' report report' old new road other = report' ≡ report

-- what the end of writing a report says
abbrev pub WritesReport : {O : Type 0} → sinks.Ghosts O → O → O → Played → Exit → Type 0
WritesReport o report report' p exit.Done =
    Wrote (o.written report) (o.written report') (lines_text p.report.items) × (p.difference ≡ None)
WritesReport o report report' p (exit.Differs line want got) =
    Wrote (o.written report) (o.written report') (lines_text p.report.items) ×
    (p.difference ≡ Some (record { line = line; want = want; got = got }))
WritesReport o report report' p exit.ReportFault =
    WroteFront (o.written report) (o.written report') (lines_text p.report.items) ×
    FaultsIncreased (o.faults report) (o.faults report')
WritesReport o report report' p exit.Memory = o.written report' ≡ o.written report
WritesReport o report report' p other = ⊥
