-- The laws of what is left of a row.
use Rattle.std.proofs.Common.{◌≡◌, ℕ, zero, suc, ◌+◌, ◌≤◌, Bool, true, false, cond, List, [], ◌∷◌, ◌++◌, Option, Some, None, refl, sym, ap, arith}
use Rattle.std.specs.Prelude.{nat_le, ◌&&◌, ◌==◌, length}
use Rattle.std.proofs.lemmas.Bool.{cond-true, cond-false}
use Rattle.std.proofs.lemmas.List.{append-nil}
use Rattle.cd_types.specs.declared.choices.Cause.{Cause}
use Rattle.cd_types.specs.declared.choices.Side.{Side}
use Rattle.cd_types.specs.declared.choices.Side.TheVariants as side
use Rattle.cd_types.specs.declared.key.Key.{Key}
use Rattle.cd_types.specs.declared.rows.Outcomes.{Outcomes}
use Rattle.cd_ast.specs.declared.process.CopyStep.{CopyStep}
use Rattle.cd_ast.specs.declared.process.What.{What}
use Rattle.cd_ast.specs.declared.process.What.TheVariants as what
use Rattle.cd_rules.specs.Status as status
use Rattle.cd_rules.specs.Status.{Status, outcome}
use Rattle.cd_rules.specs.Processes.{own_home}
use Rattle.cd_rules.specs.Legal.{greatest_file}
use Rattle.cd_rules.specs.Steps.{what_at, next_place}
use Rattle.cd_protocol.specs.declared.session.SessionTerms.{SessionTerms}
use Rattle.cd_protocol.specs.declared.session.Announced.{Announced}
use Rattle.cd_protocol.specs.declared.session.Phase.{Phase}
use Rattle.cd_protocol.specs.declared.session.Phase.TheVariants.{Await}
use Rattle.cd_protocol.specs.declared.session.Continuation.{Continuation}
use Rattle.cd_protocol.specs.declared.session.Continuation.TheVariants.{Done, Next, Undo, Push, Offered, Onto, Piece}
use Rattle.cd_protocol.specs.Node.{NodeView, Node, Effect, Begin, Reaction, only, does, Answers}
use Rattle.cd_protocol.specs.Closing.{close}
use Rattle.cd_protocol.specs.Sending.{next_step, step_at, begin, pull, key_at, push_of, push, piece_len, settled}
use Rattle.cd_protocol.specs.Receiving.{undone, is_new, is_there, kept_base, target_known}
use Rattle.cd_protocol.specs.Rows.{are_allowed, checked, reaction_behind, asked, is_done, all_reactions, offered}
use Rattle.cd_exchange.specs.Rest.{reaction_after, rest, rank, rank_behind}

-- a row is its first reaction and the rest
pub reactions_rest : (more : ℕ) (node : Node) (sid : ℕ) (answers : Answers) (reaction : Reaction)
    → all_reactions more node sid answers reaction ≡ reaction.effects ++ rest more (does sid reaction.effects node) sid answers reaction.later
unfolding all_reactions rest
reactions_rest zero node sid answers reaction = sym (append-nil reaction.effects)
reactions_rest (suc more) node sid answers reaction =
    let after : Node = does sid reaction.effects node in
    let following : Reaction = reaction_after after sid answers reaction.later in
    ap (λ (behind : List Effect). reaction.effects ++ cond (is_done reaction.later) [] (asked after.view reaction.later ++ behind)) (reactions_rest more after sid answers following)

-- Fewer questions are left behind each reaction that asked one, and never more.

either_rank : (b : Bool) (p q : Reaction) (P : ℕ → Type 0) → P (rank p.later) → P (rank q.later) → P (rank (cond b p q).later)
either_rank true p q P x y = x
either_rank false p q P x y = y

-- a reaction that is checked has its own rank, or it closes the session
checked_rank : (view : NodeView) (now : ℕ) (phase : Phase) (reaction : Reaction) (most : ℕ) → rank reaction.later ≤ most → rank (checked view now phase reaction).later ≤ most
checked_rank view now phase reaction most low =
    either_rank (are_allowed view.config.read now view.journal reaction.effects) reaction (only (close view now phase)) (λ r. r ≤ most) low (omega arith)

settled_rank : (role : Side) (terms : SessionTerms) (key : Key) (o : Outcomes) → rank (settled role terms key o).later ≤ 2
settled_rank side.Snode terms key o = omega arith
settled_rank side.Pnode terms key o = omega arith

undone_rank : (view : NodeView) (now : ℕ) (phase : Phase) (role : Side) (terms : SessionTerms) (key : Key) (why : Cause) (s : Status) → rank (undone view now phase role terms key why s).later ≤ 2
undone_rank view now phase role terms key why (status.Open r safe) = settled_rank role terms key _
undone_rank view now phase role terms key why status.Fresh = omega arith
undone_rank view now phase role terms key why (status.Started tries kind) = omega arith
undone_rank view now phase role terms key why (status.Done o) = omega arith

-- the reaction that comes behind

target_rank : (role : Side) (terms : SessionTerms) (key : Key) (a : Announced) (now : ℕ) (there : Option ℕ) → rank (target_known role terms key a now there).later ≤ 2
target_rank role terms key a now there =
    either_rank (is_new a.disp && is_there there) _ _ (λ r. r ≤ 2) (settled_rank role terms key _)
    (either_rank (nat_le (kept_base a.disp there + a.length) greatest_file) _ _ (λ r. r ≤ 2) (omega arith) (settled_rank role terms key _))

copy_rank : (b : Bool) (terms : SessionTerms) (key : Key) (step : CopyStep) → rank (cond b (record { effects = Begin key (Await terms key None) ∷ []; later = Push terms key }) (pull terms key step)).later ≤ 2
copy_rank true terms key step = omega arith
copy_rank false terms key step = omega arith

begin_rank : (view : NodeView) (now : ℕ) (phase : Phase) (terms : SessionTerms) (key : Key) (said : Option What) → rank (begin view now phase terms key said).later ≤ 2
begin_rank view now phase terms key None = omega arith
begin_rank view now phase terms key (Some (what.Copy step)) = copy_rank step.push terms key step
begin_rank view now phase terms key (Some (what.Task step)) = omega arith
begin_rank view now phase terms key (Some (what.Submit step)) = omega arith
begin_rank view now phase terms key (Some (what.If label relation number)) = omega arith
begin_rank view now phase terms key (Some what.Else) = omega arith
begin_rank view now phase terms key (Some what.Eif) = omega arith
begin_rank view now phase terms key (Some (what.Goto label)) = omega arith
begin_rank view now phase terms key (Some what.Exit) = omega arith

step_rank : (view : NodeView) (now : ℕ) (phase : Phase) (terms : SessionTerms) (key : Key) (o : Option Outcomes) → rank (step_at view now phase terms key o).later ≤ 2
step_rank view now phase terms key (Some o) = omega arith
step_rank view now phase terms key None = begin_rank view now phase terms key (what_at view.config.read view.journal key.number key.place)

next_rank : (view : NodeView) (now : ℕ) (phase : Phase) (terms : SessionTerms) (key : Option Key) → rank (next_step view now phase terms key).later ≤ 2
next_rank view now phase terms None = omega arith
next_rank view now phase terms (Some key) = step_rank view now phase terms key (outcome view.journal key)

push_rank : (terms : SessionTerms) (key : Key) (step : CopyStep) (size : Option ℕ) → rank (push terms key step size).later ≤ 0
push_rank terms key step None = omega arith
push_rank terms key step (Some len) = either_rank (nat_le len greatest_file) _ _ (λ r. r ≤ 0) (omega arith) (omega arith)

source_rank : (view : NodeView) (now : ℕ) (phase : Phase) (terms : SessionTerms) (key : Key) (size : Option ℕ) (said : Option What) → rank (push_of view now phase terms key size said).later ≤ 0
source_rank view now phase terms key size None = omega arith
source_rank view now phase terms key size (Some (what.Copy step)) = push_rank terms key step size
source_rank view now phase terms key size (Some (what.Task step)) = omega arith
source_rank view now phase terms key size (Some (what.Submit step)) = omega arith
source_rank view now phase terms key size (Some (what.If label relation number)) = omega arith
source_rank view now phase terms key size (Some what.Else) = omega arith
source_rank view now phase terms key size (Some what.Eif) = omega arith
source_rank view now phase terms key size (Some (what.Goto label)) = omega arith
source_rank view now phase terms key size (Some what.Exit) = omega arith

offered_rank : (terms : SessionTerms) (key : Key) (name : List ℕ) (interval : ℕ) (size : Option ℕ) → rank (offered terms key name interval size).later ≤ 0
offered_rank terms key name interval None = omega arith
offered_rank terms key name interval (Some len) = either_rank (nat_le len greatest_file) _ _ (λ r. r ≤ 0) (omega arith) (omega arith)

behind_rank : (view : NodeView) (now : ℕ) (phase : Phase) (answers : Answers) (last : Continuation) → rank (reaction_behind view now phase answers last).later ≤ rank_behind last
behind_rank view now phase answers Done = omega arith
behind_rank view now phase answers (Next terms n) = next_rank view now phase terms (key_at n (next_place view.config.read view.journal n) (own_home view.journal))
behind_rank view now phase answers (Undo role terms key why) = undone_rank view now phase role terms key why (status.status view.journal key)
behind_rank view now phase answers (Push terms key) = source_rank view now phase terms key answers.source (what_at view.config.read view.journal key.number key.place)
behind_rank view now phase answers (Offered terms key name interval) = offered_rank terms key name interval answers.source
behind_rank view now phase answers (Onto role terms key a) = target_rank role terms key a now answers.there
behind_rank view now phase answers (Piece role terms key source offset) =
    either_rank (length answers.bytes == piece_len terms source offset) _ _ (λ r. r ≤ 0) (omega arith) (omega arith)

pub after_rank : (node : Node) (sid : ℕ) (answers : Answers) (last : Continuation) → rank (reaction_after node sid answers last).later ≤ rank_behind last
after_rank node sid answers last =
    checked_rank node.view answers.now (node.sessions.phase sid) (reaction_behind node.view answers.now (node.sessions.phase sid) answers last) (rank_behind last)
    (behind_rank node.view answers.now (node.sessions.phase sid) answers last)

-- what is left, one reaction further
pub rest_step : (more : ℕ) (node : Node) (sid : ℕ) (answers : Answers) (last : Continuation) → is_done last ≡ false
    → rest (suc more) node sid answers last ≡ asked node.view last ++ ((reaction_after node sid answers last).effects ++ rest more (does sid (reaction_after node sid answers last).effects node) sid answers (reaction_after node sid answers last).later)
unfolding rest
rest_step more node sid answers last goes = cond-false (is_done last) [] _ goes

pub rest_done : (more : ℕ) (node : Node) (sid : ℕ) (answers : Answers) (last : Continuation) → is_done last ≡ true → rest more node sid answers last ≡ []
unfolding rest
rest_done zero node sid answers last done = refl
rest_done (suc more) node sid answers last done = cond-true (is_done last) [] _ done
