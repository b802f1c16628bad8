use Rattle.cd_automaton.proofs.Printed.{number_read, interval_read, time_read, day_read, date_read, hold_read, retain_read, disp_read, side_read, relation_read}
use Rattle.cd_automaton.proofs.law.law_of_printed_values.Goals as goal

pub returns : goal.returns
returns c = record {
  numbers = λ low high n a b small. number_read low high n a b small;
  intervals = λ n a b. interval_read n a b;
  times = λ seconds a. time_read seconds a;
  weekdays = λ n a. day_read n a;
  dates = λ y m d a b e. date_read y m d a b e;
  holds = λ h. hold_read h;
  retains = λ r. retain_read r;
  disps = λ d. disp_read d;
  sides = λ s. side_read s;
  relations = λ at r. relation_read at r;
}
