use Rattle.cd_world.proofs.AgreedLaw.{events_results, events_land}
use Rattle.cd_world.proofs.GrownLaw.{events_legal, events_extend}
use Rattle.cd_world.proofs.LeftLaw.{events_files, events_left}
use Rattle.cd_world.proofs.StatedLaw.{events_statements, events_copied}
use Rattle.cd_world.proofs.WholeLaw.{events_sources}
use Rattle.cd_world.proofs.law.law_of_events.Goals as goal

pub returns-clause-legal : goal.returns-clause-legal
returns-clause-legal c = events_legal

pub returns-clause-extends : goal.returns-clause-extends
returns-clause-extends c = events_extend

pub returns-clause-statements : goal.returns-clause-statements
returns-clause-statements c = events_statements

pub returns-clause-results : goal.returns-clause-results
returns-clause-results c = events_results

pub returns-clause-landings : goal.returns-clause-landings
returns-clause-landings c = events_land

pub returns-clause-copies : goal.returns-clause-copies
returns-clause-copies c = events_copied

pub returns-clause-sources : goal.returns-clause-sources
returns-clause-sources c = events_sources

pub returns-clause-files : goal.returns-clause-files
returns-clause-files c = events_files

pub returns-clause-left : goal.returns-clause-left
returns-clause-left c = events_left
