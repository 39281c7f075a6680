use Rattle.std.proofs.Common.{ℕ, List, map}
use Rattle.std.specs.String.{string_bytes}
use Rattle.clap.specs.Simple.{app_of}
use Rattle.run_words.specs.Commands.{words_fault}
use Rattle.run_words.proofs.CommandLaws.{fails, finds, parsed_taken, refused_by}
use Rattle.run_words.proofs.command.parse.Goals as goal

pub returns-in-Ok : goal.returns-in-Ok
returns-in-Ok c =
    let words : List (List ℕ) = map string_bytes c.args.words.now in
    let fault = fails (app_of c.in_ok-command.field-0) words c.try_get_matches_from.result c.in_ok-command.ensures c.try_get_matches_from.ensures.kinds in
    record {
      taken = parsed_taken (words_fault words) c.try_get_matches_from.result c.in-Ok.matches c.in-Ok.is fault;
      found = finds (app_of c.in_ok-command.field-0) words c.in-Ok.matches c.in_ok-command.ensures c.in-Ok.ensures.matches;
      refused = tt;
    }

pub returns-in-Err : goal.returns-in-Err
returns-in-Err c =
    let words : List (List ℕ) = map string_bytes c.args.words.now in
    let fault = fails (app_of c.in_ok-command.field-0) words c.try_get_matches_from.result c.in_ok-command.ensures c.try_get_matches_from.ensures.kinds in
    record {
      taken = tt;
      found = tt;
      refused = refused_by words c.try_get_matches_from.result c.in-Err.error c.kind.result c.refusal.result fault c.in-Err.is c.kind.ensures c.refusal.ensures;
    }
