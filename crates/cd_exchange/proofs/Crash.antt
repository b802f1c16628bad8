-- What a crash leaves while a row is done reaction by reaction.
use Rattle.std.proofs.Common.{◌≡◌, ◌⊎◌, ⊎_elim, ℕ, suc, ◌+◌, ◌-◌, ◌<◌, ◌≤◌, false, List, [], ◌++◌, refl, sym, ◌∙◌, ap, subst, append_assoc, arith}
use Rattle.std.proofs.lemmas.List.{append-nil}
use Rattle.cd_outside.specs.Disk.{DiskState, last_of}
use Rattle.cd_outside.specs.Doubt.{Doubt, IsImage}
use Rattle.cd_outside.specs.Files.{FilesState, files_last_of}
use Rattle.cd_outside.specs.Moments.{Moments}
use Rattle.cd_outside.specs.Shelf.{Shelf, FileDoubt, IsShelfImage}
use Rattle.cd_outside.proofs.FilesRuns.{files_doubt_now}
use Rattle.cd_outside.proofs.Images.{settled_image}
use Rattle.cd_outside.proofs.Runs.{doubt_now, moments_then, moments_weaker}
use Rattle.cd_journal.specs.Bytes.{list_of}
use Rattle.cd_entries.specs.declared.entry.Entry.{Entry}
use Rattle.cd_rules.specs.Steps.{Reading}
use Rattle.cd_protocol.specs.declared.session.Phase.{Phase}
use Rattle.cd_protocol.specs.declared.session.Continuation.{Continuation}
use Rattle.cd_protocol.specs.Node.{NodeView, Node, Effect, Reaction, Answers, does}
use Rattle.cd_protocol.specs.Rows.{asked, is_done, all_reactions}
use Rattle.cd_protocol.proofs.RowsLaw.{same_config}
use Rattle.cd_effects.specs.Joint.{NodeImage, JointAt, StandsFor, IsWithin}
use Rattle.cd_effects.specs.Registry.{RegistryState, IsRegistry}
use Rattle.cd_effects.specs.Stands.{Spot, Stands}
use Rattle.cd_exchange.specs.Going.{IsSo, IsOnItsWay, MayLeave}
use Rattle.cd_exchange.specs.Question.{Setting, view_with, question_of, IsAnswered, reaction_at}
use Rattle.cd_exchange.specs.Rest.{reaction_after, rest, rank, rank_behind, Agrees}
use Rattle.cd_exchange.proofs.RestLaw.{reactions_rest, rest_step}
use Rattle.cd_exchange.proofs.Way.{does_then, asked_does, agrees_same, agrees_self, agrees_before, reaction_agrees, view_is, reaction_rank}

-- nothing is done
pub nothing_moves : (sid : ℕ) (effects : List Effect) (node : Node) (registry : RegistryState) (disk : DiskState) (shelf after : FilesState) (from : ℕ) → after ≡ shelf → node.view.journal ≡ registry.entries → node.shelf ≡ shelf.shelf
    → IsRegistry registry disk → last_of disk.calls ≤ from → files_last_of shelf.calls ≤ from → Moments (JointAt disk shelf) (JointAt disk after) from (IsWithin sid effects node)
nothing_moves sid effects node registry disk shelf after from same journal_is shelf_is is order files_order =
    subst (λ (s : FilesState). Moments (JointAt disk shelf) (JointAt disk s) from (IsWithin sid effects node)) (sym same) (record {
      earlier = λ beat image le left. left;
      still = λ beat image le left. left;
      later = λ beat image lt left. record {
        done = [];
        more = effects;
        reactions = refl;
        journal = subst (λ (es : List Entry). StandsFor image.journal es) (sym journal_is)
            (ap list_of (settled_image disk.seen image.journal (subst (λ (d : Doubt). IsImage d image.journal) (doubt_now disk.doubt disk.calls beat (omega (arith, lt, order)) ∙ is.rests) left.journal)) ∙ is.list);
        files = subst (λ (s : Shelf). IsShelfImage s.doubt image.files) (sym shelf_is)
            (subst (λ (doubt : List ℕ → FileDoubt). IsShelfImage doubt image.files) (files_doubt_now shelf.shelf.doubt shelf.calls beat (omega (arith, lt, files_order))) left.files);
      };
    })

-- the effects are a reaction of a row, behind others
within_run : (sid : ℕ) (row done effects more : List Effect) (node : Node) (image : NodeImage) → row ≡ done ++ (effects ++ more) → IsWithin sid effects (does sid done node) image → IsWithin sid row node image
within_run sid row done effects more node image is w = record {
  done = done ++ w.done;
  more = w.more ++ more;
  reactions = is ∙ ap (λ (l : List Effect). done ++ (l ++ more)) w.reactions ∙ ap (λ (l : List Effect). done ++ l) (append_assoc w.done w.more more) ∙ sym (append_assoc done w.done (w.more ++ more));
  journal = subst (λ (n : Node). StandsFor image.journal n.view.journal) (sym (does_then sid done w.done node)) w.journal;
  files = subst (λ (n : Node). IsShelfImage n.shelf.doubt image.files) (sym (does_then sid done w.done node)) w.files;
}

within_asked : (sid : ℕ) (view : NodeView) (then_what : Continuation) (effects : List Effect) (node : Node) (image : NodeImage) → IsWithin sid effects node image → IsWithin sid (asked view then_what ++ effects) node image
within_asked sid view then_what effects node image w = record {
  done = asked view then_what ++ w.done;
  more = w.more;
  reactions = ap (λ (l : List Effect). asked view then_what ++ l) w.reactions ∙ sym (append_assoc (asked view then_what) w.done w.more);
  journal = subst (λ (n : Node). StandsFor image.journal n.view.journal) (sym (asked_does sid view then_what w.done node)) w.journal;
  files = subst (λ (n : Node). IsShelfImage n.shelf.doubt image.files) (sym (asked_does sid view then_what w.done node)) w.files;
}

-- a reaction that was made over the book, for files that were asked
pub reaction_made : (setting : Setting) (read : Reading) (entries again : List Entry) (phase : Phase) (then_what : Continuation) (given lent : Answers) (reaction : Reaction) → again ≡ entries → lent ≡ given → reaction ≡ reaction_at (view_with setting read again) phase lent then_what
    → reaction ≡ reaction_at (view_with setting read entries) phase given then_what
reaction_made setting read entries again phase then_what given lent reaction second bytes made =
    made ∙ ap (λ (es : List Entry). reaction_at (view_with setting read es) phase lent then_what) second ∙ ap (λ (a : Answers). reaction_at (view_with setting read entries) phase a then_what) bytes

pub made_moments : (sid : ℕ) (disk last : DiskState) (shelf now after : FilesState) (from : ℕ) (reaction whole : Reaction) (node : Node) → now ≡ shelf → reaction ≡ whole
    → Moments (JointAt disk now) (JointAt last after) from (IsWithin sid reaction.effects node) → Moments (JointAt disk shelf) (JointAt last after) from (IsWithin sid whole.effects node)
made_moments sid disk last shelf now after from reaction whole node same is run =
    subst (λ (p : Reaction). Moments (JointAt disk shelf) (JointAt last after) from (IsWithin sid p.effects node)) is
    (subst (λ (s : FilesState). Moments (JointAt disk s) (JointAt last after) from (IsWithin sid reaction.effects node)) same run)

module _ (files_told lines_told : Type 0) (setting : Setting) (read : Reading) (sid whole : ℕ) (first : Continuation) (before : Spot) (one two three : ℕ → NodeImage → Type 0) (from turned : ℕ) (order : from ≤ turned) where
  -- a reaction is done behind others
  pub way_moves : (turn : ℕ) (then_what later : Continuation) (earlier given : Answers) (middle : Spot) → turn < whole → is_done then_what ≡ false
      → IsOnItsWay files_told lines_told setting read sid whole (whole - turn) first then_what earlier before middle
      → IsAnswered (question_of (view_with setting read middle.entries) then_what) earlier given
      → later ≡ (reaction_at (view_with setting read middle.entries) middle.phase given then_what).later
      → (node : Node) → IsSo files_told setting read sid node before
      → ((answers : Answers) → Agrees answers earlier (rank then_what) → Moments one two from (IsWithin sid (rest whole node sid answers first) node))
      → ((n : Node) → Stands files_told sid n middle → Moments two three turned (IsWithin sid (reaction_at (view_with setting read middle.entries) middle.phase given then_what).effects n))
      → (answers : Answers) → Agrees answers given (rank later) → Moments one three from (IsWithin sid (rest whole node sid answers first) node)
  way_moves turn then_what later earlier given middle lt goes way answered later_is node is so_far run answers agrees =
      let view : NodeView = view_with setting read middle.entries in
      let reaction : Reaction = reaction_at view middle.phase given then_what in
      let at : Node = does sid way.done node in
      let more : ℕ = whole - (turn + 1) in
      let one_more : whole - turn ≡ suc more = omega (arith, lt) in
      let wide : Agrees answers given (rank_behind then_what) =
      agrees_same answers given (rank reaction.later) (rank_behind then_what) (reaction_rank view middle.phase given then_what middle) (subst (λ (t : Continuation). Agrees answers given (rank t)) later_is agrees) in
      let narrow : Agrees answers earlier (rank then_what) = agrees_before view then_what answers earlier given answered wide in
      let same_view : at.view ≡ view = view_is setting read middle.entries at.view (same_config sid way.done node ∙ is.config) (way.was.node node is.stands).journal in
      let same_reaction : reaction_after at sid answers then_what ≡ reaction =
      ap (λ (d : NodeView). reaction_at d (at.sessions.phase sid) answers then_what) same_view ∙ ap (λ (p : Phase). reaction_at view p answers then_what) (way.was.node node is.stands).phase ∙ reaction_agrees view middle.phase then_what answers given wide in
      let behind : List Effect = rest more (does sid reaction.effects at) sid answers reaction.later in
      let step : rest (suc more) at sid answers then_what ≡ asked view then_what ++ (reaction.effects ++ behind) =
      subst (λ (d : NodeView). rest (suc more) at sid answers then_what ≡ asked d then_what ++ (reaction.effects ++ behind)) same_view
      (subst (λ (p : Reaction). rest (suc more) at sid answers then_what ≡ asked at.view then_what ++ (p.effects ++ rest more (does sid p.effects at) sid answers p.later)) same_reaction (rest_step more at sid answers then_what goes)) in
      let row : rest whole node sid answers first ≡ way.done ++ ((asked view then_what ++ reaction.effects) ++ behind) =
      way.row node is answers narrow ∙ ap (λ (n : ℕ). way.done ++ rest n at sid answers then_what) one_more ∙ ap (λ (l : List Effect). way.done ++ l) (step ∙ sym (append_assoc (asked view then_what) reaction.effects behind)) in
      moments_then one two three from turned (IsWithin sid (rest whole node sid answers first) node) order (so_far answers narrow)
      (moments_weaker two three turned (IsWithin sid reaction.effects at) (IsWithin sid (rest whole node sid answers first) node)
      (λ image left. within_run sid (rest whole node sid answers first) way.done (asked view then_what ++ reaction.effects) behind node image row (within_asked sid view then_what reaction.effects at image left))
      (run at (way.was.node node is.stands)))

  -- a reaction wasn't done, or was cut off
  pub way_leaves : (now turn : ℕ) (then_what : Continuation) (earlier given : Answers) (middle : Spot) → turn < whole → is_done then_what ≡ false → earlier.now ≡ now → given.now ≡ now
      → (way : IsOnItsWay files_told lines_told setting read sid whole (whole - turn) first then_what earlier before middle)
      → (node : Node) → IsSo files_told setting read sid node before
      → ((answers : Answers) → Agrees answers earlier (rank then_what) → Moments one two from (IsWithin sid (rest whole node sid answers first) node))
      → ((n : Node) → Stands files_told sid n middle → Moments two three turned (IsWithin sid [] n)
      ⊎ (IsAnswered (question_of (view_with setting read middle.entries) then_what) earlier given × Moments two three turned (IsWithin sid (reaction_at (view_with setting read middle.entries) middle.phase given then_what).effects n)))
      → MayLeave sid now (λ answers. rest whole node sid answers first) node one three from
  way_leaves now turn then_what earlier given middle lt goes early late way node is so_far run =
      let at : Node = does sid way.done node in
      ⊎_elim
      (λ none. record {
        answers = earlier;
        moment = early;
        moments = moments_then one two three from turned (IsWithin sid (rest whole node sid earlier first) node) order (so_far earlier (agrees_self earlier (rank then_what)))
            (moments_weaker two three turned (IsWithin sid [] at) (IsWithin sid (rest whole node sid earlier first) node)
            (λ image left. within_run sid (rest whole node sid earlier first) way.done [] (rest (whole - turn) at sid earlier then_what) node image (way.row node is earlier (agrees_self earlier (rank then_what))) left) none);
      })
      (λ cut. record {
        answers = given;
        moment = late;
        moments = way_cuts cut.0 cut.1;
      })
      (run at (way.was.node node is.stands))
    where
      way_cuts : IsAnswered (question_of (view_with setting read middle.entries) then_what) earlier given
          → Moments two three turned (IsWithin sid (reaction_at (view_with setting read middle.entries) middle.phase given then_what).effects (does sid way.done node))
          → Moments one three from (IsWithin sid (rest whole node sid given first) node)
      way_cuts answered run_of =
          let view : NodeView = view_with setting read middle.entries in
          let reaction : Reaction = reaction_at view middle.phase given then_what in
          let at : Node = does sid way.done node in
          let more : ℕ = whole - (turn + 1) in
          let one_more : whole - turn ≡ suc more = omega (arith, lt) in
          let narrow : Agrees given earlier (rank then_what) = agrees_before view then_what given earlier given answered (agrees_self given (rank_behind then_what)) in
          let same_view : at.view ≡ view = view_is setting read middle.entries at.view (same_config sid way.done node ∙ is.config) (way.was.node node is.stands).journal in
          let same_reaction : reaction_after at sid given then_what ≡ reaction =
          ap (λ (d : NodeView). reaction_at d (at.sessions.phase sid) given then_what) same_view ∙ ap (λ (p : Phase). reaction_at view p given then_what) (way.was.node node is.stands).phase in
          let behind : List Effect = rest more (does sid reaction.effects at) sid given reaction.later in
          let step : rest (suc more) at sid given then_what ≡ asked view then_what ++ (reaction.effects ++ behind) =
          subst (λ (d : NodeView). rest (suc more) at sid given then_what ≡ asked d then_what ++ (reaction.effects ++ behind)) same_view
          (subst (λ (p : Reaction). rest (suc more) at sid given then_what ≡ asked at.view then_what ++ (p.effects ++ rest more (does sid p.effects at) sid given p.later)) same_reaction (rest_step more at sid given then_what goes)) in
          let row : rest whole node sid given first ≡ way.done ++ ((asked view then_what ++ reaction.effects) ++ behind) =
          way.row node is given narrow ∙ ap (λ (n : ℕ). way.done ++ rest n at sid given then_what) one_more ∙ ap (λ (l : List Effect). way.done ++ l) (step ∙ sym (append_assoc (asked view then_what) reaction.effects behind)) in
          moments_then one two three from turned (IsWithin sid (rest whole node sid given first) node) order (so_far given narrow)
          (moments_weaker two three turned (IsWithin sid reaction.effects at) (IsWithin sid (rest whole node sid given first) node)
          (λ image left. within_run sid (rest whole node sid given first) way.done (asked view then_what ++ reaction.effects) behind node image row (within_asked sid view then_what reaction.effects at image left))
          run_of)

-- The first reaction, and what is left behind it.

pub reactions_first : (sid more : ℕ) (reaction : Reaction) (answers : Answers) (node : Node) (one two : ℕ → NodeImage → Type 0) (from : ℕ) → Moments one two from (IsWithin sid reaction.effects node) → Moments one two from (IsWithin sid (all_reactions more node sid answers reaction) node)
reactions_first sid more reaction answers node one two from run =
    moments_weaker one two from (IsWithin sid reaction.effects node) (IsWithin sid (all_reactions more node sid answers reaction) node)
    (λ image left. within_run sid (all_reactions more node sid answers reaction) [] reaction.effects (rest more (does sid reaction.effects node) sid answers reaction.later) node image (reactions_rest more node sid answers reaction) left) run

pub reactions_then : (sid more : ℕ) (reaction : Reaction) (answers : Answers) (node : Node) (one two three : ℕ → NodeImage → Type 0) (from turned : ℕ) → from ≤ turned → Moments one two from (IsWithin sid reaction.effects node)
    → Moments two three turned (IsWithin sid (rest more (does sid reaction.effects node) sid answers reaction.later) (does sid reaction.effects node)) → Moments one three from (IsWithin sid (all_reactions more node sid answers reaction) node)
reactions_then sid more reaction answers node one two three from turned order run run_on =
    let at : Node = does sid reaction.effects node in
    let behind : List Effect = rest more at sid answers reaction.later in
    moments_then one two three from turned (IsWithin sid (all_reactions more node sid answers reaction) node) order (reactions_first sid more reaction answers node one two from run)
    (moments_weaker two three turned (IsWithin sid behind at) (IsWithin sid (all_reactions more node sid answers reaction) node)
    (λ image left. within_run sid (all_reactions more node sid answers reaction) reaction.effects behind [] node image (reactions_rest more node sid answers reaction ∙ ap (λ (l : List Effect). reaction.effects ++ l) (sym (append-nil behind))) left) run_on)
