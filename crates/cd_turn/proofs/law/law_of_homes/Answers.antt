use Rattle.std.proofs.Common.{◌≡◌}
use Rattle.cd_turn.proofs.Fit.{fit_or_not, fit_apart, one_list, one_place, blank_fit, kept_fit}
use Rattle.cd_turn.proofs.law.law_of_homes.Goals as goal

pub returns-clause-either : goal.returns-clause-either
returns-clause-either c = fit_or_not

pub returns-clause-apart : goal.returns-clause-apart
returns-clause-apart c = fit_apart

pub returns-clause-one_list : goal.returns-clause-one_list
returns-clause-one_list c = one_list

pub returns-clause-one_place : goal.returns-clause-one_place
returns-clause-one_place c = one_place

pub returns-clause-blank : goal.returns-clause-blank
returns-clause-blank c = blank_fit

pub returns-clause-kept : goal.returns-clause-kept
returns-clause-kept c = kept_fit
