-- A row, reaction by reaction, and which questions are still to come.
use Rattle.std.specs.Prelude.{◌≡◌, ℕ, zero, suc, ◌≤◌, List, [], ◌++◌, if◌then◌else◌}
use Rattle.cd_protocol.specs.declared.session.Continuation.{Continuation}
use Rattle.cd_protocol.specs.declared.session.Continuation.TheVariants.{Done, Next, Undo, Push, Offered, Onto, Piece}
use Rattle.cd_protocol.specs.Node.{Node, Effect, Reaction, does, Answers}
use Rattle.cd_protocol.specs.Rows.{checked, reaction_behind, asked, is_done}

-- the reaction that comes behind what was done
abbrev pub reaction_after : Node → ℕ → Answers → Continuation → Reaction
reaction_after node sid answers then_what = checked node.view answers.now (node.sessions.phase sid) (reaction_behind node.view answers.now (node.sessions.phase sid) answers then_what)

-- all that comes behind, in at most so many parts
unfoldable pub rest : ℕ → Node → ℕ → Answers → Continuation → List Effect
rest zero node sid answers then_what = []
rest (suc more) node sid answers then_what =
    if is_done then_what then []
    else asked node.view then_what
    ++ ((reaction_after node sid answers then_what).effects
    ++ rest more (does sid (reaction_after node sid answers then_what).effects node) sid answers (reaction_after node sid answers then_what).later)

-- how many kinds of questions may still come: that for a destination, and then that for a source or its bytes
abbrev pub rank : Continuation → ℕ
rank Done = 0
rank (Next terms n) = 2
rank (Undo role terms key why) = 2
rank (Push terms key) = 1
rank (Offered terms key name interval) = 1
rank (Onto role terms key a) = 3
rank (Piece role terms key source offset) = 1

-- and how many once it was answered
abbrev pub rank_behind : Continuation → ℕ
rank_behind Done = 0
rank_behind (Next terms n) = 2
rank_behind (Undo role terms key why) = 2
rank_behind (Push terms key) = 0
rank_behind (Offered terms key name interval) = 0
rank_behind (Onto role terms key a) = 2
rank_behind (Piece role terms key source offset) = 0

-- The answers that were given so far are these: that of the destination where its question can't come any more, and the others
-- where none can.
pub record Agrees (answers given : Answers) (questions : ℕ) : Type 0 where
  pub now : answers.now ≡ given.now
  pub there : questions ≤ 2 → answers.there ≡ given.there
  pub source : questions ≤ 0 → answers.source ≡ given.source
  pub bytes : questions ≤ 0 → answers.bytes ≡ given.bytes
