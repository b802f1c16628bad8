use Rattle.cd_protocol.proofs.RowsLaw.{row_stays, row_accept_stays, row_choose_stays, row_end_stays, row_trouble_stays, fault_stays}
use Rattle.cd_protocol.proofs.law.law_of_rows.Goals as goal

pub returns-clause-frame : goal.returns-clause-frame
returns-clause-frame c = row_stays

pub returns-clause-end : goal.returns-clause-end
returns-clause-end c = row_end_stays

pub returns-clause-trouble : goal.returns-clause-trouble
returns-clause-trouble c = row_trouble_stays

pub returns-clause-accept : goal.returns-clause-accept
returns-clause-accept c = row_accept_stays

pub returns-clause-fault : goal.returns-clause-fault
returns-clause-fault c = fault_stays

pub returns-clause-choose : goal.returns-clause-choose
returns-clause-choose c = row_choose_stays
