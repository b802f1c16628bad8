-- The first reaction of what is done about a frame.
use Rattle.std.proofs.Common.{◌≡◌, inl, ℕ, ◌≤◌, true, List, [], Option, refl, sym, ◌∙◌, ap, subst}
use Rattle.cd_types.specs.declared.key.Key.{Key}
use Rattle.cd_entries.specs.declared.entry.Entry.{Entry}
use Rattle.cd_frames.specs.Message.{Message}
use Rattle.cd_rules.specs.Processes.{latest}
use Rattle.cd_rules.specs.Legal.{is_legal}
use Rattle.cd_rules.specs.Promises.{HavePriorities}
use Rattle.cd_rules.specs.Steps.{Reading}
use Rattle.cd_protocol.specs.declared.session.Phase.{Phase}
use Rattle.cd_protocol.specs.Node.{NodeView, Node, Reaction, Answers, does}
use Rattle.cd_protocol.specs.Rows.{are_allowed, first_reaction, all_reactions, most_reactions, row}
use Rattle.cd_protocol.proofs.RowsLaw.{first_fits}
use Rattle.cd_effects.specs.declared.owners.Holding.{Holding}
use Rattle.cd_effects.specs.Stands.{Spot, WereDone, IsFaultOfAsking}
use Rattle.cd_effects.specs.declared.fault.Fault.{Fault}
use Rattle.cd_exchange.specs.declared.session.Session.{Session}
use Rattle.cd_exchange.specs.Going.{AreTold, IsSo, WereStopped, RowStopped}
use Rattle.cd_exchange.specs.Question.{Setting, view_with}
use Rattle.cd_exchange.specs.Sessions.{sessions_with, IsAt}
use Rattle.cd_exchange.proofs.Way.{view_is}

-- the reaction as it was made, over the book, for whatever numbers of the sessions
abbrev pub IsFirst : Setting → Reading → List Entry → ℕ → ℕ → Phase → List Session → List Holding → Message → Reaction → Type 0
IsFirst setting read book now sid phase others holdings m reaction = (sids : List ℕ) → reaction ≡ first_reaction (view_with setting read book) (sessions_with sids sid phase others holdings) now sid m

pub first_made_fits : (setting : Setting) (read : Reading) → HavePriorities read → (now : ℕ) (entries book : List Entry) (sid : ℕ) (phase : Phase) (others : List Session) (holdings : List Holding) (m : Message) (reaction : Reaction)
    → book ≡ entries → IsFirst setting read book now sid phase others holdings m reaction → is_legal read entries ≡ true → latest entries ≤ now → are_allowed read now entries reaction.effects ≡ true
first_made_fits setting read priorities now entries book sid phase others holdings m reaction same made legal early =
    subst (λ (p : Reaction). are_allowed read now entries p.effects ≡ true) (sym (made []))
    (subst (λ (es : List Entry). are_allowed read now entries (first_reaction (view_with setting read es) (sessions_with [] sid phase others holdings) now sid m).effects ≡ true) (sym same)
    (first_fits (view_with setting read entries) (sessions_with [] sid phase others holdings) priorities sid now m legal early))

module _ (files_told lines_told : Type 0) (setting : Setting) (read : Reading) (sid : ℕ) (others : List Session) (m : Message) (reaction : Reaction) (book : List Entry) (answers : Answers) where
  -- the rules' first reaction, of a node that stands so
  pub first_is : (node : Node) (at : Spot) → IsAt files_told setting read sid others node at → book ≡ at.entries → IsFirst setting read book answers.now sid at.phase others at.holdings m reaction
      → reaction ≡ first_reaction node.view node.sessions answers.now sid m
  first_is node at is same made =
      made node.sessions.sids
      ∙ ap (λ (es : List Entry). first_reaction (view_with setting read es) (sessions_with node.sessions.sids sid at.phase others at.holdings) answers.now sid m) same
      ∙ sym (ap (λ (d : NodeView). first_reaction d node.sessions answers.now sid m) (view_is setting read at.entries node.view is.so.config is.so.stands.journal)
      ∙ ap (λ (phases : ℕ → Phase). first_reaction (view_with setting read at.entries) (record { sids = node.sessions.sids; phase = phases; holder = node.sessions.holder }) answers.now sid m) is.phases
      ∙ ap (λ (holder : Key → Option ℕ). first_reaction (view_with setting read at.entries) (record { sids = node.sessions.sids; phase = (sessions_with [] sid at.phase others at.holdings).phase; holder = holder }) answers.now sid m) is.owners)

  pub frame_done : (before after : Spot) → book ≡ before.entries → IsFirst setting read book answers.now sid before.phase others before.holdings m reaction
      → ((node : Node) → IsSo files_told setting read sid node before → WereDone files_told lines_told sid (all_reactions most_reactions node sid answers reaction) before after)
      → (node : Node) → IsAt files_told setting read sid others node before → WereDone files_told lines_told sid (row node sid answers m) before after
  frame_done before after same made done node is =
      subst (λ (p : Reaction). WereDone files_told lines_told sid (all_reactions most_reactions node sid answers p) before after) (first_is node before is same made) (done node is.so)

  pub frame_told : (before : Spot) → book ≡ before.entries → IsFirst setting read book answers.now sid before.phase others before.holdings m reaction
      → ((node : Node) → IsSo files_told setting read sid node before → AreTold most_reactions (does sid reaction.effects node) sid answers reaction.later)
      → (node : Node) → IsAt files_told setting read sid others node before
      → AreTold most_reactions (does sid (first_reaction node.view node.sessions answers.now sid m).effects node) sid answers (first_reaction node.view node.sessions answers.now sid m).later
  frame_told before same made told node is =
      subst (λ (p : Reaction). AreTold most_reactions (does sid p.effects node) sid answers p.later) (first_is node before is same made) (told node is.so)

  pub frame_stopped : (now : ℕ) (fault : Fault) (before after : Spot) → answers.now ≡ now → book ≡ before.entries → IsFirst setting read book now sid before.phase others before.holdings m reaction
      → RowStopped files_told lines_told sid now fault (λ node given. all_reactions most_reactions node sid given reaction) (λ node. IsSo files_told setting read sid node before) before after
      → RowStopped files_told lines_told sid now fault (λ node given. row node sid given m) (λ node. IsAt files_told setting read sid others node before) before after
  frame_stopped now fault before after at same made stop = record {
    answers = stop.answers;
    moment = stop.moment;
    stopped = λ node is. subst (λ (p : Reaction). WereStopped files_told lines_told sid (all_reactions most_reactions node sid stop.answers p) fault before after)
        (subst (λ (n : ℕ). reaction ≡ first_reaction node.view node.sessions n sid m) (at ∙ sym stop.moment) (first_is node before is same (subst (λ (n : ℕ). IsFirst setting read book n sid before.phase others before.holdings m reaction) (sym at) made)))
        (stop.stopped node is.so);
  }

-- nothing of the row was done
pub frame_left : (files_told lines_told : Type 0) (setting : Setting) (read : Reading) (sid now : ℕ) (others : List Session) (m : Message) (answers : Answers) (fault : Fault) (at : Spot) → answers.now ≡ now → IsFaultOfAsking fault
    → RowStopped files_told lines_told sid now fault (λ node given. row node sid given m) (λ node. IsAt files_told setting read sid others node at) at at
frame_left files_told lines_told setting read sid now others m answers fault at moment cause = record {
  answers = answers;
  moment = moment;
  stopped = λ node is. inl (record { done = []; more = row node sid answers m; reactions = refl; first = record { node = λ n so. so; traffic = λ t. refl; frames = tt }; cause = cause });
}
