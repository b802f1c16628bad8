-- A reaction that is done leaves what the next one needs.
use Rattle.std.proofs.Common.{◌≡◌, ℕ, ◌≤◌, true, List, [], ◌∷◌, refl, sym, ◌∙◌, subst}
use Rattle.std.proofs.lemmas.List.{append-nil}
use Rattle.cd_entries.specs.declared.entry.Entry.{Entry}
use Rattle.cd_rules.specs.Processes.{latest}
use Rattle.cd_rules.specs.Legal.{is_legal}
use Rattle.cd_rules.specs.Promises.{HavePriorities}
use Rattle.cd_rules.specs.Steps.{Reading}
use Rattle.cd_protocol.specs.declared.session.Phase.{Phase}
use Rattle.cd_protocol.specs.declared.session.Continuation.{Continuation}
use Rattle.cd_protocol.specs.Node.{Node, Effect, Reaction, Answers}
use Rattle.cd_protocol.specs.Rows.{reaction_behind, are_allowed}
use Rattle.cd_protocol.proofs.RowsLaw.{checked_fits, reaction_legal, reaction_on_time}
use Rattle.cd_effects.specs.Stands.{Spot, Stands, WereDone, WereCut, holder_of}
use Rattle.cd_effects.specs.declared.fault.Fault.{Fault}
use Rattle.cd_exchange.specs.Question.{Setting, view_with, reaction_at}

-- a node that stands so
pub node_at : Setting → Reading → Spot → Node
node_at setting read at = record {
  view = view_with setting read at.entries;
  shelf = at.shelf;
  sessions = record { sids = []; phase = λ sid. at.phase; holder = holder_of at.holdings };
}

node_stands : (told : Type 0) (setting : Setting) (read : Reading) (sid : ℕ) (at : Spot) → Stands told sid (node_at setting read at) at
unfolding node_at
node_stands told setting read sid at = record { journal = refl; shelf = λ t. refl; phase = refl; holder = λ key. refl }

module _ (setting : Setting) (read : Reading) (priorities : HavePriorities read) (now : ℕ) where
  -- the entries of the reaction that comes behind may follow
  pub reaction_fits : (entries : List Entry) (phase : Phase) (answers : Answers) (then_what : Continuation) → is_legal read entries ≡ true → latest entries ≤ now → answers.now ≡ now
      → are_allowed read now entries (reaction_at (view_with setting read entries) phase answers then_what).effects ≡ true
  reaction_fits entries phase answers then_what legal early at =
      subst (λ (n : ℕ). are_allowed read n entries (reaction_at (view_with setting read entries) phase answers then_what).effects ≡ true) at
      (checked_fits (view_with setting read entries) priorities legal answers.now (subst (λ (n : ℕ). latest entries ≤ n) (sym at) early) phase (reaction_behind (view_with setting read entries) answers.now phase answers then_what))

  -- the journal is legal then
  pub done_legal : (files_told lines_told : Type 0) (sid : ℕ) (effects : List Effect) (before after : Spot) → is_legal read before.entries ≡ true → are_allowed read now before.entries effects ≡ true
      → WereDone files_told lines_told sid effects before after → is_legal read after.entries ≡ true
  unfolding node_at
  done_legal files_told lines_told sid effects before after legal fits done =
      let node : Node = node_at setting read before in
      subst (λ (es : List Entry). is_legal read es ≡ true) (done.node node (node_stands files_told setting read sid before)).journal
      (reaction_legal sid now effects [] node legal (subst (λ (ds : List Effect). are_allowed read now before.entries ds ≡ true) (sym (append-nil effects)) fits))

  -- and has no later moment
  pub done_on_time : (files_told lines_told : Type 0) (sid : ℕ) (effects : List Effect) (before after : Spot) → latest before.entries ≤ now → are_allowed read now before.entries effects ≡ true
      → WereDone files_told lines_told sid effects before after → latest after.entries ≤ now
  unfolding node_at
  done_on_time files_told lines_told sid effects before after early fits done =
      let node : Node = node_at setting read before in
      subst (λ (es : List Entry). latest es ≤ now) (done.node node (node_stands files_told setting read sid before)).journal
      (reaction_on_time sid now effects [] node early (subst (λ (ds : List Effect). are_allowed read now before.entries ds ≡ true) (sym (append-nil effects)) fits))

  -- so it is where they were cut off
  pub cut_legal : (files_told lines_told : Type 0) (sid : ℕ) (effects : List Effect) (fault : Fault) (before after : Spot) → is_legal read before.entries ≡ true → are_allowed read now before.entries effects ≡ true
      → WereCut files_told lines_told sid effects fault before after → is_legal read after.entries ≡ true
  unfolding node_at
  cut_legal files_told lines_told sid effects fault before after legal fits cut =
      let node : Node = node_at setting read before in
      subst (λ (es : List Entry). is_legal read es ≡ true) ((cut.first.node node (node_stands files_told setting read sid before)).journal ∙ sym cut.rest.entries)
      (reaction_legal sid now cut.done (cut.torn ∷ cut.more) node legal (subst (λ (ds : List Effect). are_allowed read now before.entries ds ≡ true) cut.reactions fits))

  pub cut_on_time : (files_told lines_told : Type 0) (sid : ℕ) (effects : List Effect) (fault : Fault) (before after : Spot) → latest before.entries ≤ now → are_allowed read now before.entries effects ≡ true
      → WereCut files_told lines_told sid effects fault before after → latest after.entries ≤ now
  unfolding node_at
  cut_on_time files_told lines_told sid effects fault before after early fits cut =
      let node : Node = node_at setting read before in
      subst (λ (es : List Entry). latest es ≤ now) ((cut.first.node node (node_stands files_told setting read sid before)).journal ∙ sym cut.rest.entries)
      (reaction_on_time sid now cut.done (cut.torn ∷ cut.more) node early (subst (λ (ds : List Effect). are_allowed read now before.entries ds ≡ true) cut.reactions fits))

  -- the same of the reaction as it was made, over the book
  pub made_fits : (entries book : List Entry) (phase : Phase) (answers : Answers) (then_what : Continuation) (reaction : Reaction) → book ≡ entries → reaction ≡ reaction_at (view_with setting read book) phase answers then_what
      → is_legal read entries ≡ true → latest entries ≤ now → answers.now ≡ now → are_allowed read now entries reaction.effects ≡ true
  made_fits entries book phase answers then_what reaction same made legal early at =
      subst (λ (p : Reaction). are_allowed read now entries p.effects ≡ true) (sym made)
      (subst (λ (es : List Entry). are_allowed read now entries (reaction_at (view_with setting read es) phase answers then_what).effects ≡ true) (sym same) (reaction_fits entries phase answers then_what legal early at))
