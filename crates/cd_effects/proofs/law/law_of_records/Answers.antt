use Rattle.std.proofs.Common.{◌&&◌}
use Rattle.std.proofs.lemmas.Bool.{and_parts}
use Rattle.cd_rules.specs.Legal.{allowed}
use Rattle.cd_rules.specs.Processes.{moment_of}
use Rattle.cd_protocol.specs.Rows.{is_by, is_formed}
use Rattle.cd_effects.proofs.Ready.{writable_of}
use Rattle.cd_effects.proofs.law.law_of_records.Goals as goal

pub returns : goal.returns
returns c = record {
  writable = λ read now entries e may formed.
      let outer = and_parts (allowed read entries e && is_by now (moment_of e)) (is_formed e) may in
      let both = and_parts (allowed read entries e) (is_by now (moment_of e)) outer.0 in
      writable_of read entries e both.0 outer.1 formed;
}
