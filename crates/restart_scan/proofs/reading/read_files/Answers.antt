-- What was read is that of the files.
use Rattle.std.proofs.Common.{◌≡◌, Some, ap, subst, ◌∙◌}
use Rattle.hd_base.specs.FileMaps.{HasLength}
use Rattle.replica_calls.specs.declared.names.FileNames.{FileNames}
use Rattle.restart_scan.specs.Pairs.{Finds}
use Rattle.restart_scan.specs.Kept.{KeepsLen}
use Rattle.restart_scan.specs.Reading.{IsRuleOf}
use Rattle.restart_scan.proofs.ReadLemmas.{files_read}
use Rattle.restart_scan.proofs.reading.read_files.Goals as goal

pub returns-clause-value : goal.returns-clause-value
returns-clause-value g c = λ m bytes meta told is_data is_meta.
    let names = c.names-names.result in
    let is = c.names-names.ensures in
    let first = g.F.Files.files c.args.drawer.now in
    let one = c.read_rule.ensures.kept.same in
    let two = c.length.ensures.files ∙ one in
    let three = c.length-2.ensures.files ∙ two in
    let data_there : m names.«data» ≡ Some bytes = ap (λ (n : FileNames). m n.«data») is ∙ is_data in
    let meta_there : m names.meta ≡ Some meta = ap (λ (n : FileNames). m n.meta) is ∙ is_meta in
    let rule : IsRuleOf meta c.in-Some.rule = subst (Finds (IsRuleOf meta)) c.in-Some.is (c.in_ok-rule.ensures.value m meta told meta_there) in
    files_read first names c.args.places.now c.in-Some.rule c.in_ok-data_len.data_len c.in_ok-meta_len.meta_len c.in_ok-kept.kept m bytes meta told data_there meta_there
    rule
    (subst (λ f. HasLength f names.«data» c.in_ok-data_len.data_len) one c.in_ok-data_len.ensures.value)
    (subst (λ f. HasLength f names.meta c.in_ok-meta_len.meta_len) two c.in_ok-meta_len.ensures.value)
    (subst (λ f. KeepsLen f names c.in-Some.rule c.in_ok-data_len.data_len c.in_ok-kept.kept) three c.in_ok-kept.ensures.value)
