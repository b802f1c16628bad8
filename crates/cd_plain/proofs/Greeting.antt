-- The first frame of a session may be sent.
use Rattle.std.proofs.Common.{◌≡◌, ℕ, List, [], ◌∷◌, ◌++◌, true, ◌&&◌, Option, Some, None, refl, sym, ap, subst, ◌∙◌}
use Rattle.std.proofs.lemmas.Bool.{and_from, false≢true}
use Rattle.cd_types.specs.declared.rows.Row.{Row}
use Rattle.cd_entries.specs.declared.entry.Entry.{Entry}
use Rattle.cd_frames.specs.Frame.{is_block}
use Rattle.cd_frames.specs.Message.{Message}
use Rattle.cd_rules.specs.Processes.{own_home}
use Rattle.cd_rules.specs.Queue.{Waits}
use Rattle.cd_rules.specs.Steps.{Reading}
use Rattle.cd_protocol.specs.declared.session.Phase.{Phase}
use Rattle.cd_protocol.specs.declared.session.Phase.TheVariants.{Greet}
use Rattle.cd_protocol.specs.Node.{NodeView, Node, Effect, Keep, Touch, AskSize, AskBytes, Begin, Go, did, does, sends}
use Rattle.cd_protocol.specs.Rows.{is_sendable, are_allowed, hello, call, row_chosen}
use Rattle.cd_outside.specs.Lines.{Traffic}
use Rattle.cd_outside.specs.Shelf.{Shelf}
use Rattle.cd_effects.specs.Calls.{ShelfTorn}
use Rattle.cd_effects.specs.Stands.{Spot, spot, WereDone, WereCut, holder_of, gave, IsFaultOf, IsFaultOfSending, IsFaultOfGiving}
use Rattle.cd_effects.specs.declared.fault.Fault.{Fault}
use Rattle.cd_effects.specs.declared.fault.Fault.TheVariants as fault
use Rattle.cd_effects.specs.declared.owners.Holding.{Holding}
use Rattle.cd_session_rules.specs.Single.{keeps_none}
use Rattle.cd_plain.specs.Choice.{IsTooLong, IsFaultOfPlacing}
use Rattle.cd_plain.specs.Chosen.{IsCalled, IsKnown}

hello_allowed : (read : Reading) (now : ℕ) (journal : List Entry) (n block : ℕ) (own : Option (List ℕ × ℕ)) → is_block block ≡ true → are_allowed read now journal (Go (Greet n) (hello own block) ∷ []) ≡ true
unfolding is_sendable
hello_allowed read now journal n block None is = refl
hello_allowed read now journal n block (Some own) is = and_from (is_block block && true) true (and_from (is_block block) true is refl) refl

call_allowed : (view : NodeView) (now : ℕ) (chosen : Row) (waits : Option Waits) → IsCalled waits → is_block view.config.block ≡ true → are_allowed view.config.read now view.journal (call view now true chosen waits) ≡ true
call_allowed view now chosen None known is = absurd known
call_allowed view now chosen (Some waits) known is = hello_allowed view.config.read now view.journal chosen.number view.config.block (own_home view.journal) is

pub chosen_allowed : (view : NodeView) (now : ℕ) (chosen : Row) → IsKnown view chosen → is_block view.config.block ≡ true → are_allowed view.config.read now view.journal (row_chosen view now true (Some chosen)) ≡ true
chosen_allowed view now chosen known is = call_allowed view now chosen (view.config.partner chosen.snode) known is

-- effects that record nothing leave the entries
no_entries : (sid : ℕ) (effects : List Effect) (node : Node) → keeps_none effects ≡ true → (does sid effects node).view.journal ≡ node.view.journal
no_entries sid [] node none = refl
no_entries sid (Keep e ∷ effects) node none = absurd (false≢true none)
no_entries sid (Touch change ∷ effects) node none = no_entries sid effects (did sid (Touch change) node) none
no_entries sid (AskSize name ∷ effects) node none = no_entries sid effects node none
no_entries sid (AskBytes name at len ∷ effects) node none = no_entries sid effects node none
no_entries sid (Begin key phase ∷ effects) node none = no_entries sid effects (did sid (Begin key phase) node) none
no_entries sid (Go phase frames ∷ effects) node none = no_entries sid effects (did sid (Go phase frames) node) none

any_node : Spot → Node
any_node at = record {
  view = record { config = record { block = 0; partner = λ name. None; read = λ text. None }; journal = at.entries };
  shelf = at.shelf;
  sessions = record { sids = []; phase = λ sid. at.phase; holder = holder_of at.holdings };
}

pub done_same : (files_told lines_told : Type 0) (sid : ℕ) (effects : List Effect) (before after : Spot) → keeps_none effects ≡ true → WereDone files_told lines_told sid effects before after → after.entries ≡ before.entries
unfolding any_node
done_same files_told lines_told sid effects before after none done =
    sym (done.node (any_node before) (record { journal = refl; shelf = λ told. refl; phase = refl; holder = λ key. refl })).journal ∙ no_entries sid effects (any_node before) none

call_none : (view : NodeView) (now : ℕ) (chosen : Row) (waits : Option Waits) → IsCalled waits → keeps_none (call view now true chosen waits) ≡ true
call_none view now chosen None known = absurd known
call_none view now chosen (Some waits) known = refl

pub chosen_none : (view : NodeView) (now : ℕ) (chosen : Row) → IsKnown view chosen → keeps_none (row_chosen view now true (Some chosen)) ≡ true
chosen_none view now chosen known = call_none view now chosen (view.config.partner chosen.snode) known

-- where they are cut off too
front_none : (front behind : List Effect) → keeps_none (front ++ behind) ≡ true → keeps_none front ≡ true
front_none [] behind none = refl
front_none (Keep e ∷ front) behind none = absurd (false≢true none)
front_none (Touch change ∷ front) behind none = front_none front behind none
front_none (AskSize name ∷ front) behind none = front_none front behind none
front_none (AskBytes name at len ∷ front) behind none = front_none front behind none
front_none (Begin key phase ∷ front) behind none = front_none front behind none
front_none (Go phase frames ∷ front) behind none = front_none front behind none

pub cut_same : (files_told lines_told : Type 0) (sid : ℕ) (effects : List Effect) (why : Fault) (before after : Spot) → keeps_none effects ≡ true → WereCut files_told lines_told sid effects why before after → after.entries ≡ before.entries
cut_same files_told lines_told sid effects why before after none cut =
    cut.rest.entries
    ∙ done_same files_told lines_told sid cut.done before cut.middle (front_none cut.done (cut.torn ∷ cut.more) (subst (λ (ds : List Effect). keeps_none ds ≡ true) cut.reactions none)) cut.first

-- the fault of a greeting is one of sending
nothing_there : (done : List Effect) (torn : Effect) (more : List Effect) → [] ≡ done ++ torn ∷ more → ⊥
nothing_there [] torn more is = cc
nothing_there (effect ∷ done) torn more is = cc

giving_sends : (frames : List Message) (why : Fault) → IsFaultOfGiving frames why → IsFaultOfSending why
giving_sends [] why is = absurd is
giving_sends (m ∷ frames) why is = is

one_fault : (phase : Phase) (frames : List Message) (done : List Effect) (torn : Effect) (more : List Effect) (why : Fault) → Go phase frames ∷ [] ≡ done ++ torn ∷ more → IsFaultOf torn why → IsFaultOfSending why
one_fault phase frames [] torn more why reactions cause =
    let same : torn ≡ Go phase frames = cc in
    giving_sends frames why (subst (λ (effect : Effect). IsFaultOf effect why) same cause)
one_fault phase frames (effect ∷ done) torn more why reactions cause =
    let rest : [] ≡ done ++ torn ∷ more = cc in
    absurd (nothing_there done torn more rest)

call_fault : (view : NodeView) (now : ℕ) (chosen : Row) (waits : Option Waits) (done : List Effect) (torn : Effect) (more : List Effect) (why : Fault) → IsCalled waits → call view now true chosen waits ≡ done ++ torn ∷ more → IsFaultOf torn why → IsFaultOfSending why
call_fault view now chosen None done torn more why known reactions cause = absurd known
call_fault view now chosen (Some waits) done torn more why known reactions cause = one_fault (Greet chosen.number) (hello (own_home view.journal) view.config.block) done torn more why reactions cause

pub chosen_fault : (view : NodeView) (now : ℕ) (chosen : Row) (done : List Effect) (torn : Effect) (more : List Effect) (why : Fault) → IsKnown view chosen → row_chosen view now true (Some chosen) ≡ done ++ torn ∷ more → IsFaultOf torn why → IsFaultOfSending why
chosen_fault view now chosen done torn more why known reactions cause = call_fault view now chosen (view.config.partner chosen.snode) done torn more why known reactions cause

-- a greeting changes no file
greeted_shelf : (files_told lines_told : Type 0) (sid : ℕ) (phase : Phase) (frames : List Message) (before after : Spot) → WereDone files_told lines_told sid (Go phase frames ∷ []) before after → files_told → after.shelf ≡ before.shelf
unfolding any_node
greeted_shelf files_told lines_told sid phase frames before after done told =
    sym ((done.node (any_node before) (record { journal = refl; shelf = λ t. refl; phase = refl; holder = λ key. refl })).shelf told)

nothing_shelf : (files_told lines_told : Type 0) (sid : ℕ) (before after : Spot) → WereDone files_told lines_told sid [] before after → files_told → after.shelf ≡ before.shelf
unfolding any_node
nothing_shelf files_told lines_told sid before after done told =
    sym ((done.node (any_node before) (record { journal = refl; shelf = λ t. refl; phase = refl; holder = λ key. refl })).shelf told)

cut_off_shelf : (files_told lines_told : Type 0) (sid : ℕ) (phase : Phase) (frames : List Message) (before middle after : Spot) (done : List Effect) (torn : Effect) (more : List Effect) → Go phase frames ∷ [] ≡ done ++ torn ∷ more
    → WereDone files_told lines_told sid done before middle → (files_told → ShelfTorn torn middle.shelf after.shelf) → files_told → after.shelf ≡ before.shelf
cut_off_shelf files_told lines_told sid phase frames before middle after [] torn more reactions first rest told =
    let same : torn ≡ Go phase frames = cc in
    subst (λ (effect : Effect). ShelfTorn effect middle.shelf after.shelf) same (rest told) ∙ nothing_shelf files_told lines_told sid before middle first told
cut_off_shelf files_told lines_told sid phase frames before middle after (effect ∷ done) torn more reactions first rest told =
    let left : [] ≡ done ++ torn ∷ more = cc in
    absurd (nothing_there done torn more left)

call_shelf : (files_told lines_told : Type 0) (sid : ℕ) (view : NodeView) (now : ℕ) (chosen : Row) (waits : Option Waits) (before after : Spot) → IsCalled waits → WereDone files_told lines_told sid (call view now true chosen waits) before after → files_told → after.shelf ≡ before.shelf
call_shelf files_told lines_told sid view now chosen None before after known done told = absurd known
call_shelf files_told lines_told sid view now chosen (Some waits) before after known done told = greeted_shelf files_told lines_told sid (Greet chosen.number) (hello (own_home view.journal) view.config.block) before after done told

pub chosen_shelf : (files_told lines_told : Type 0) (sid : ℕ) (view : NodeView) (now : ℕ) (chosen : Row) (before after : Spot) → IsKnown view chosen → WereDone files_told lines_told sid (row_chosen view now true (Some chosen)) before after → files_told → after.shelf ≡ before.shelf
chosen_shelf files_told lines_told sid view now chosen before after known done told = call_shelf files_told lines_told sid view now chosen (view.config.partner chosen.snode) before after known done told

call_cut_shelf : (files_told lines_told : Type 0) (sid : ℕ) (view : NodeView) (now : ℕ) (chosen : Row) (waits : Option Waits) (why : Fault) (before after : Spot) → IsCalled waits → WereCut files_told lines_told sid (call view now true chosen waits) why before after → files_told → after.shelf ≡ before.shelf
call_cut_shelf files_told lines_told sid view now chosen None why before after known cut told = absurd known
call_cut_shelf files_told lines_told sid view now chosen (Some waits) why before after known cut told =
    cut_off_shelf files_told lines_told sid (Greet chosen.number) (hello (own_home view.journal) view.config.block) before cut.middle after cut.done cut.torn cut.more cut.reactions cut.first cut.rest.shelf told

pub chosen_cut_shelf : (files_told lines_told : Type 0) (sid : ℕ) (view : NodeView) (now : ℕ) (chosen : Row) (why : Fault) (before after : Spot) → IsKnown view chosen → WereCut files_told lines_told sid (row_chosen view now true (Some chosen)) why before after → files_told → after.shelf ≡ before.shelf
chosen_cut_shelf files_told lines_told sid view now chosen why before after known cut told = call_cut_shelf files_told lines_told sid view now chosen (view.config.partner chosen.snode) why before after known cut told

pub not_of_disk : (why : Fault) → IsFaultOfSending why → why ≡ fault.Disk → ⊥
not_of_disk fault.Disk cause is = cause
not_of_disk (fault.JournalFull len) cause is = cause
not_of_disk fault.NoMemory cause is = cc
not_of_disk fault.Files cause is = cause
not_of_disk fault.Line cause is = cc

pub kept_fault : (e : Entry) (placing : Option Entry) (why : Fault) → Some e ≡ placing → IsFaultOf (Keep e) why → IsFaultOfPlacing placing why
kept_fault e placing fault.Disk is cause = tt
kept_fault e placing (fault.JournalFull len) is cause = subst (λ (p : Option Entry). IsTooLong p len) is cause
kept_fault e placing fault.NoMemory is cause = tt
kept_fault e placing fault.Files is cause = absurd cause
kept_fault e placing fault.Line is cause = absurd cause

pub not_of_lines : (placing : Option Entry) (why : Fault) → IsFaultOfSending why → (why ≡ fault.Line → ⊥) → IsFaultOfPlacing placing why
not_of_lines placing fault.Disk cause other = absurd cause
not_of_lines placing (fault.JournalFull len) cause other = absurd cause
not_of_lines placing fault.NoMemory cause other = tt
not_of_lines placing fault.Files cause other = absurd cause
not_of_lines placing fault.Line cause other = absurd (other refl)

-- what was done, from lines that tell the same
pub retold : (files_told lines_told : Type 0) (sid : ℕ) (effects : List Effect) (entries : List Entry) (shelf : Shelf) (phase : Phase) (holdings : List Holding) (before then_told : Traffic) (after : Spot) → (lines_told → then_told ≡ before)
    → WereDone files_told lines_told sid effects (spot entries shelf phase holdings then_told) after → WereDone files_told lines_told sid effects (spot entries shelf phase holdings before) after
retold files_told lines_told sid effects entries shelf phase holdings before then_told after same done = record {
  node = λ node is. done.node node (record { journal = is.journal; shelf = is.shelf; phase = is.phase; holder = is.holder });
  traffic = λ told. done.traffic told ∙ ap (gave sid (sends effects)) (same told);
  frames = done.frames;
}

pub recut : (files_told lines_told : Type 0) (sid : ℕ) (effects : List Effect) (why : Fault) (entries : List Entry) (shelf : Shelf) (phase : Phase) (holdings : List Holding) (before then_told : Traffic) (after : Spot) → (lines_told → then_told ≡ before)
    → WereCut files_told lines_told sid effects why (spot entries shelf phase holdings then_told) after → WereCut files_told lines_told sid effects why (spot entries shelf phase holdings before) after
recut files_told lines_told sid effects why entries shelf phase holdings before then_told after same cut = record {
  done = cut.done;
  torn = cut.torn;
  more = cut.more;
  reactions = cut.reactions;
  middle = cut.middle;
  first = retold files_told lines_told sid cut.done entries shelf phase holdings before then_told cut.middle same cut.first;
  rest = cut.rest;
  cause = cut.cause;
}

pub some_is : (one other : Row) → Some one ≡ Some other → one ≡ other
some_is one other is = cc
