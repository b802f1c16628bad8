-- Parameters: which may stand where, what their values are, and what was given so far.
use Rattle.std.specs.Prelude.{ℕ, List, [], ◌∷◌, Bool, true, false, is_some, Option, Some, None}
use Rattle.cd_types.specs.declared.choices.Side.{Side}
use Rattle.cd_types.specs.declared.choices.Side.TheVariants as side
use Rattle.cd_grammar.specs.declared.token.Key.{Key}
use Rattle.cd_grammar.specs.declared.token.Key.TheVariants as key
use Rattle.cd_grammar.specs.declared.token.Token.{Token}
use Rattle.cd_grammar.specs.declared.token.Token.TheVariants.{Word, Quoted, Mark}
use Rattle.cd_grammar.specs.declared.given.Given.{Given}
use Rattle.cd_grammar.specs.declared.given.Slot.{Slot}
use Rattle.cd_grammar.specs.declared.given.Slot.TheVariants as slot
use Rattle.cd_grammar.specs.Answers.{Answer, Fits, Outside, Wrong, fits_as, ranged, wanted}
use Rattle.cd_grammar.specs.Values.{number_in, node_in, file_in, hold_in, retain_in, restart_in, disp_in, is_share, interval_in, are_items, is_command}

-- nothing was given
abbrev pub nothing : Given
nothing = record {
  snode = None;
  prty = None;
  class = None;
  hold = None;
  retain = None;
  retain_at = 0;
  start = None;
  pacct = false;
  sacct = false;
  notify = false;
  pnodeid = false;
  snodeid = false;
  file = None;
  side = None;
  items = false;
  command = None;
  share = false;
  disp = None;
  ckpt = None;
  restart = None;
  pgm = false;
  library = false;
}

-- what each word sets, by the place where it stands
unfoldable pub head_slot : Key → Option Slot
head_slot key.Snode = Some slot.Snode
head_slot key.Prty = Some slot.Prty
head_slot key.Class = Some slot.Class
head_slot key.Hold = Some slot.Hold
head_slot key.Retain = Some slot.Retain
head_slot key.Startt = Some slot.Start
head_slot key.Pacct = Some slot.Pacct
head_slot key.Sacct = Some slot.Sacct
head_slot key.Notify = Some slot.Notify
head_slot key.Pnodeid = Some slot.Pnodeid
head_slot key.Snodeid = Some slot.Snodeid
head_slot _ = None

unfoldable pub copy_slot : Key → Option Slot
copy_slot key.Ckpt = Some slot.Ckpt
copy_slot _ = None

unfoldable pub from_slot : Key → Option Slot
from_slot key.File = Some slot.File
from_slot key.Dsn = Some slot.File
from_slot key.Sysopts = Some slot.Items
from_slot key.Disp = Some slot.Share
from_slot _ = None

unfoldable pub to_slot : Key → Option Slot
to_slot key.File = Some slot.File
to_slot key.Dsn = Some slot.File
to_slot key.Sysopts = Some slot.Items
to_slot key.Disp = Some slot.Disp
to_slot _ = None

unfoldable pub task_slot : Key → Option Slot
task_slot key.Sysopts = Some slot.Command
task_slot key.Restart = Some slot.Restart
task_slot key.Pgm = Some slot.Pgm
task_slot key.Dsn = Some slot.Library
task_slot _ = None

unfoldable pub job_slot : Key → Option Slot
job_slot key.Sysopts = Some slot.Command
job_slot key.Pgm = Some slot.Pgm
job_slot key.Dsn = Some slot.Library
job_slot _ = None

unfoldable pub submit_slot : Key → Option Slot
submit_slot key.File = Some slot.File
submit_slot key.Dsn = Some slot.File
submit_slot key.Subnode = Some slot.Side
submit_slot key.Snode = Some slot.Snode
submit_slot key.Prty = Some slot.Prty
submit_slot _ = None

-- whether it was given
unfoldable pub has : Given → Slot → Bool
has given slot.Snode = is_some given.snode
has given slot.Prty = is_some given.prty
has given slot.Class = is_some given.class
has given slot.Hold = is_some given.hold
has given slot.Retain = is_some given.retain
has given slot.Start = is_some given.start
has given slot.Pacct = given.pacct
has given slot.Sacct = given.sacct
has given slot.Notify = given.notify
has given slot.Pnodeid = given.pnodeid
has given slot.Snodeid = given.snodeid
has given slot.File = is_some given.file
has given slot.Side = is_some given.side
has given slot.Items = given.items
has given slot.Command = is_some given.command
has given slot.Share = given.share
has given slot.Disp = is_some given.disp
has given slot.Ckpt = is_some given.ckpt
has given slot.Restart = is_some given.restart
has given slot.Pgm = given.pgm
has given slot.Library = given.library

-- the side that a word names
unfoldable pub side_of : Key → Option Side
side_of key.Pnode = Some side.Pnode
side_of key.Snode = Some side.Snode
side_of _ = None

-- shared, where the word says so
abbrev pub shared : Given → Bool → Answer Given
shared given true = Fits (record given { share = true })
shared given false = Wrong

-- with a word as value. The place is that of the parameter's own word.
unfoldable pub with_word : Given → Slot → ℕ → Key → List ℕ → Answer Given
with_word given slot.Snode at k word = fits_as (λ name. record given { snode = Some name }) (node_in word)
with_word given slot.Prty at k word = fits_as (λ n. record given { prty = Some n }) (number_in 1 15 word)
with_word given slot.Class at k word = fits_as (λ n. record given { class = Some n }) (number_in 1 255 word)
with_word given slot.Hold at k word = fits_as (λ x. record given { hold = Some x }) (wanted (hold_in word))
with_word given slot.Retain at k word = fits_as (λ x. record given { retain = Some x; retain_at = at }) (wanted (retain_in word))
with_word given slot.Start at k word = Wrong
with_word given slot.Pacct at k word = Fits (record given { pacct = true })
with_word given slot.Sacct at k word = Fits (record given { sacct = true })
with_word given slot.Notify at k word = Fits (record given { notify = true })
with_word given slot.Pnodeid at k word = Fits (record given { pnodeid = true })
with_word given slot.Snodeid at k word = Fits (record given { snodeid = true })
with_word given slot.File at k word = fits_as (λ name. record given { file = Some name }) (file_in word)
with_word given slot.Side at k word = fits_as (λ x. record given { side = Some x }) (wanted (side_of k))
with_word given slot.Items at k word = Wrong
with_word given slot.Command at k word = Wrong
with_word given slot.Share at k word = shared given (is_share word)
with_word given slot.Disp at k word = fits_as (λ x. record given { disp = Some x }) (wanted (disp_in word))
with_word given slot.Ckpt at k word = fits_as (λ n. record given { ckpt = Some n }) (interval_in word)
with_word given slot.Restart at k word = fits_as (λ x. record given { restart = Some x }) (wanted (restart_in word))
with_word given slot.Pgm at k word = Fits (record given { pgm = true })
with_word given slot.Library at k word = Fits (record given { library = true })

-- with a quoted text as value
unfoldable pub with_quoted : Given → Slot → List ℕ → Answer Given
with_quoted given slot.File text = fits_as (λ name. record given { file = Some name }) (file_in text)
with_quoted given slot.Items text = ranged (are_items text) (record given { items = true })
with_quoted given slot.Command text = ranged (is_command text) (record given { command = Some text })
with_quoted given slot.Pacct text = Fits (record given { pacct = true })
with_quoted given slot.Sacct text = Fits (record given { sacct = true })
with_quoted given slot.Notify text = Fits (record given { notify = true })
with_quoted given slot.Pnodeid text = Fits (record given { pnodeid = true })
with_quoted given slot.Snodeid text = Fits (record given { snodeid = true })
with_quoted given _ text = Wrong

-- with a token as value of the parameter whose word stands at this place
abbrev pub with_value : Given → Slot → ℕ → Token → Answer Given
with_value given set at (Word at2 k word) = with_word given set at k word
with_value given set at (Quoted at2 text) = with_quoted given set text
with_value given set at (Mark at2 s) = Wrong

-- a parameter whose value may be a list in parentheses, and the one whose value may stand in parentheses
unfoldable pub takes_list : Slot → Bool
takes_list slot.Pacct = true
takes_list slot.Sacct = true
takes_list slot.Notify = true
takes_list slot.Pnodeid = true
takes_list slot.Snodeid = true
takes_list _ = false

unfoldable pub takes_parentheses : Slot → Bool
takes_parentheses slot.Share = true
takes_parentheses slot.Disp = true
takes_parentheses _ = false

-- with a list as value
unfoldable pub with_list : Given → Slot → Given
with_list given slot.Pacct = record given { pacct = true }
with_list given slot.Sacct = record given { sacct = true }
with_list given slot.Notify = record given { notify = true }
with_list given slot.Pnodeid = record given { pnodeid = true }
with_list given slot.Snodeid = record given { snodeid = true }
with_list given _ = given
