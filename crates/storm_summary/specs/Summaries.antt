-- What the report of a storm comes to, and its text.
use Rattle.std.specs.Prelude.{ℕ, List, [], ◌∷◌, ◌++◌, length, sum_by, filter, codes, decimal}
use Rattle.script_lang.specs.declared.report.ReportLine.{ReportLine}
use Rattle.storm_summary.specs.declared.kinds.Kind.{Kind}
use Rattle.storm_summary.specs.declared.kinds.Kind.TheVariants as kind
use Rattle.storm_summary.specs.declared.summaries.Summary.{Summary}
use Rattle.storm_summary.specs.Kinds.{is_same, kind_of, bytes_of}

-- COUNTS

-- how many lines are counted as this
abbrev pub how_many : Kind → List ReportLine → ℕ
how_many k lines = length (filter (λ l. is_same (kind_of l) k) lines)

-- the written bytes of all replicas that aren't broken
abbrev pub all_bytes : List ReportLine → ℕ
all_bytes lines = sum_by bytes_of lines

abbrev pub summary_of : List ReportLine → Summary
summary_of lines = record {
  finalized = how_many kind.Finalized lines;
  rbw = how_many kind.Rbw lines;
  rwr = how_many kind.Rwr lines;
  rur = how_many kind.Rur lines;
  broken = how_many kind.Broken lines;
  bytes = all_bytes lines;
  ok = how_many kind.Ok lines;
  failed = how_many kind.Failed lines;
  recovered = how_many kind.Recovered lines;
}

-- TEXT

-- a line: a word, a space and a number
abbrev pub numbered : List ℕ → ℕ → List ℕ
numbered word n = word ++ 32 ∷ (decimal n ++ 10 ∷ [])

-- The storm's number, what its report comes to, and the end.
abbrev pub summary_text : ℕ → Summary → List ℕ
summary_text storm s =
    numbered (codes "storm") storm ++ numbered (codes "finalized") s.finalized ++ numbered (codes "rbw") s.rbw ++
    numbered (codes "rwr") s.rwr ++ numbered (codes "rur") s.rur ++ numbered (codes "broken") s.broken ++
    numbered (codes "bytes") s.bytes ++ numbered (codes "ok") s.ok ++ numbered (codes "failed") s.failed ++
    numbered (codes "recovered") s.recovered ++ codes "end" ++ 10 ∷ []
