-- What a crash leaves in the rows of a turn, one behind another.
use Rattle.std.proofs.Common.{◌≡◌, inl, inr, ⊎_elim, ℕ, ◌≤◌, List, [], ◌∷◌, refl}
use Rattle.cd_outside.specs.Lines.{Traffic}
use Rattle.cd_outside.specs.Moments.{Moments}
use Rattle.cd_outside.proofs.Runs.{moments_then, moments_weaker}
use Rattle.cd_rules.specs.Steps.{Reading}
use Rattle.cd_protocol.specs.Node.{Node, Effect, Answers}
use Rattle.cd_protocol.specs.Rows.{row, row_end, row_trouble}
use Rattle.cd_effects.specs.Joint.{NodeImage, IsWithin}
use Rattle.cd_effects.specs.Stands.{Spot}
use Rattle.cd_effects.specs.declared.fault.Fault.TheVariants as fault
use Rattle.cd_exchange.specs.Going.{IsSo, MayLeave}
use Rattle.cd_exchange.specs.Question.{Setting}
use Rattle.cd_exchange.specs.Sessions.{IsAt}
use Rattle.cd_exchange.specs.declared.session.Session.{Session}
use Rattle.cd_exchange.specs.Crash.{Begun, IsWithinOne, IsBegun, telling, losing, TroubleLeaves, RowsBehind, alone, FrameLeaves}
use Rattle.cd_exchange.specs.Handling.{Case, EndStopped}
use Rattle.cd_exchange.specs.Turn.{heard_at}
use Rattle.cd_exchange.proofs.Taken.{node_at, node_is}

-- the row of a rule, of the node that stands so
pub begun_at : Setting → Reading → ℕ → ℕ → (Node → ℕ → ℕ → List Effect) → Spot → Begun
begun_at setting read sid now rule at = record { node = node_at setting read sid [] at; effects = rule (node_at setting read sid [] at) sid now }

module _ (files_told lines_told : Type 0) (setting : Setting) (read : Reading) (sid now : ℕ) where
  pub is_begun : (rule : Node → ℕ → ℕ → List Effect) (at : Spot) → IsBegun files_told lines_told setting read sid now rule at (begun_at setting read sid now rule at)
  unfolding begun_at
  is_begun rule at = record { so = (node_is files_told setting read sid [] at).so; effects = refl }

  -- of a rule's moments, those of the node that stands so
  pub begun_moments : (rule : Node → ℕ → ℕ → List Effect) (at : Spot) (first last : ℕ → NodeImage → Type 0) (from : ℕ)
      → ((node : Node) → IsSo files_told setting read sid node at → Moments first last from (IsWithin sid (rule node sid now) node))
      → Moments first last from (IsWithinOne sid (begun_at setting read sid now rule at ∷ []))
  unfolding begun_at
  begun_moments rule at first last from run =
      let node = node_at setting read sid [] at in
      moments_weaker first last from (IsWithin sid (rule node sid now) node) (IsWithinOne sid (begun_at setting read sid now rule at ∷ [])) (λ image left. inl left)
      (run node (node_is files_told setting read sid [] at).so)

  pub told_leaves : (before : Spot) (first last : ℕ → NodeImage → Type 0) (from : ℕ)
      → ((node : Node) → IsSo files_told setting read sid node before → Moments first last from (IsWithin sid (row_trouble node sid now) node))
      → TroubleLeaves files_told lines_told setting read sid now before first last from
  told_leaves before first last from run = record {
    rows = begun_at setting read sid now row_trouble before ∷ [];
    are = telling (is_begun row_trouble before);
    moments = begun_moments row_trouble before first last from run;
  }

  pub lost_leaves : (before at : Spot) (first middle last : ℕ → NodeImage → Type 0) (from now_at : ℕ) → from ≤ now_at
      → ((node : Node) → IsSo files_told setting read sid node before → Moments first middle from (IsWithin sid (row_trouble node sid now) node))
      → EndStopped files_told lines_told setting read sid now row_trouble fault.Line before at
      → ((node : Node) → IsSo files_told setting read sid node at → Moments middle last now_at (IsWithin sid (row_end node sid now) node))
      → TroubleLeaves files_told lines_told setting read sid now before first last from
  lost_leaves before at first middle last from now_at order run stopped end =
      let one : Begun = begun_at setting read sid now row_trouble before in
      let two : Begun = begun_at setting read sid now row_end at in
      record {
        rows = one ∷ two ∷ [];
        are = losing (is_begun row_trouble before) stopped (is_begun row_end at);
        moments = moments_then first middle last from now_at (IsWithinOne sid (one ∷ two ∷ [])) order
            (moments_weaker first middle from (IsWithinOne sid (one ∷ [])) (IsWithinOne sid (one ∷ two ∷ [])) (λ image left. ⊎_elim (λ l. inl l) (λ none. absurd none) left) (begun_moments row_trouble before first middle from run))
            (moments_weaker middle last now_at (IsWithinOne sid (two ∷ [])) (IsWithinOne sid (one ∷ two ∷ [])) (λ image left. inr left) (begun_moments row_end at middle last now_at end));
      }

-- a frame's row, alone
pub frame_alone : (it : Case) (before : Spot) (node : Node) (answers : Answers) (first last : ℕ → NodeImage → Type 0) (from : ℕ) → answers.now ≡ it.now
    → Moments first last from (IsWithin it.sid (row node it.sid answers it.frame) node) → FrameLeaves it before node first last from
frame_alone it before node answers first last from moment run = record {
  answers = answers;
  moment = moment;
  rows = [];
  behind = alone;
  moments = moments_weaker first last from (IsWithin it.sid (row node it.sid answers it.frame) node) (IsWithinOne it.sid ((record { node = node; effects = row node it.sid answers it.frame }) ∷ [])) (λ image left. inl left) run;
}

-- and with the rows behind it
pub frame_then : (it : Case) (before : Spot) (node : Node) (rows : List Begun) (first middle last : ℕ → NodeImage → Type 0) (from now_at : ℕ) → from ≤ now_at
    → MayLeave it.sid it.now (λ answers. row node it.sid answers it.frame) node first middle from → RowsBehind it before rows → Moments middle last now_at (IsWithinOne it.sid rows)
    → FrameLeaves it before node first last from
frame_then it before node rows first middle last from now_at order may behind run =
    let own : Begun = record { node = node; effects = row node it.sid may.answers it.frame } in
    record {
      answers = may.answers;
      moment = may.moment;
      rows = rows;
      behind = behind;
      moments = moments_then first middle last from now_at (IsWithinOne it.sid (own ∷ rows)) order
          (moments_weaker first middle from (IsWithin it.sid (row node it.sid may.answers it.frame) node) (IsWithinOne it.sid (own ∷ rows)) (λ image left. inl left) may.moments)
          (moments_weaker middle last now_at (IsWithinOne it.sid rows) (IsWithinOne it.sid (own ∷ rows)) (λ image left. inr left) run);
    }

-- A node that stands so stands so too once bytes were heard.
pub so_heard : (told : Type 0) (setting : Setting) (read : Reading) (sid : ℕ) (node : Node) (at : Spot) (heard : Traffic) → IsSo told setting read sid node at → IsSo told setting read sid node (heard_at heard at)
so_heard told setting read sid node at heard is = record {
  config = is.config;
  stands = record { journal = is.stands.journal; shelf = is.stands.shelf; phase = is.stands.phase; holder = is.stands.holder };
}

pub at_heard : (told : Type 0) (setting : Setting) (read : Reading) (sid : ℕ) (others : List Session) (node : Node) (at : Spot) (heard : Traffic) → IsAt told setting read sid others node at → IsAt told setting read sid others node (heard_at heard at)
at_heard told setting read sid others node at heard is = record { so = so_heard told setting read sid node at heard is.so; phases = is.phases; owners = is.owners }
