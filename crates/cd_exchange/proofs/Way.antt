-- A row that is done reaction by reaction.
use Rattle.std.proofs.Common.{◌≡◌, ◌⊎◌, inl, inr, ⊎_elim, ℕ, zero, suc, ◌+◌, ◌-◌, ◌<◌, ◌≤◌, Bool, true, false, List, [], ◌∷◌, ◌++◌, Option, None, refl, sym, ◌∙◌, ap, subst, append_assoc, arith}
use Rattle.std.proofs.lemmas.List.{append-nil}
use Rattle.cd_outside.specs.Lines.{Traffic, sent, LineCounts, NeverFell}
use Rattle.cd_outside.specs.Shelf.{Shelf}
use Rattle.cd_frames.specs.Frame.{frame_bytes}
use Rattle.cd_frames.specs.Message.{Message}
use Rattle.cd_entries.specs.declared.entry.Entry.{Entry}
use Rattle.cd_rules.specs.Steps.{Reading}
use Rattle.cd_protocol.specs.declared.session.Phase.{Phase}
use Rattle.cd_protocol.specs.declared.session.Continuation.{Continuation}
use Rattle.cd_protocol.specs.declared.session.Continuation.TheVariants.{Done, Next, Undo, Push, Offered, Onto, Piece}
use Rattle.cd_protocol.specs.Node.{Config, NodeView, Node, Effect, Keep, Touch, AskSize, AskBytes, Begin, Go, Reaction, Answers, did, does, sends}
use Rattle.cd_protocol.specs.Rows.{checked, reaction_behind, asked, is_done, all_reactions}
use Rattle.cd_protocol.proofs.RowsLaw.{same_config}
use Rattle.cd_effects.specs.Stands.{Spot, spot, Stands, gave, AreFrames, WereDone, WereCut, IsFaultOfAsking}
use Rattle.cd_effects.specs.declared.fault.Fault.{Fault}
use Rattle.cd_effects.specs.declared.owners.Holding.{Holding}
use Rattle.cd_effects.proofs.Frames.{frames_both}
use Rattle.cd_exchange.specs.Going.{Unless, AreTold, IsSo, IsOnItsWay, WereStopped, RowStopped}
use Rattle.cd_exchange.specs.Question.{Setting, config_with, view_with, Question, question_of, IsAnswered, IsTold, reaction_at}
use Rattle.cd_exchange.specs.Rest.{reaction_after, rest, rank, rank_behind, Agrees}
use Rattle.cd_exchange.proofs.RestLaw.{reactions_rest, after_rank, rest_step, rest_done}

pub does_then : (sid : ℕ) (first second : List Effect) (node : Node) → does sid (first ++ second) node ≡ does sid second (does sid first node)
does_then sid [] second node = refl
does_then sid (effect ∷ first) second node = does_then sid first second (did sid effect node)

sends_then : (first second : List Effect) → sends (first ++ second) ≡ sends first ++ sends second
sends_then [] second = refl
sends_then (Keep e ∷ first) second = sends_then first second
sends_then (Touch change ∷ first) second = sends_then first second
sends_then (AskSize name ∷ first) second = sends_then first second
sends_then (AskBytes name at len ∷ first) second = sends_then first second
sends_then (Begin key phase ∷ first) second = sends_then first second
sends_then (Go phase frames ∷ first) second = ap (λ (ms : List Message). frames ++ ms) (sends_then first second) ∙ sym (append_assoc frames (sends first) (sends second))

gave_then : (sid : ℕ) (first second : List Message) (traffic : Traffic) → gave sid (first ++ second) traffic ≡ gave sid second (gave sid first traffic)
gave_then sid [] second traffic = refl
gave_then sid (m ∷ first) second traffic = gave_then sid first second (sent sid (frame_bytes m) traffic)

done_none : (files_told lines_told : Type 0) (sid : ℕ) (at : Spot) → WereDone files_told lines_told sid [] at at
done_none files_told lines_told sid at = record { node = λ node is. is; traffic = λ told. refl; frames = tt }

-- effects, and then others
pub done_then : (files_told lines_told : Type 0) (sid : ℕ) (first second : List Effect) (a b c : Spot) → WereDone files_told lines_told sid first a b → WereDone files_told lines_told sid second b c → WereDone files_told lines_told sid (first ++ second) a c
done_then files_told lines_told sid first second a b c one two = record {
  node = λ node is. subst (λ (n : Node). Stands files_told sid n c) (sym (does_then sid first second node)) (two.node (does sid first node) (one.node node is));
  traffic = λ told. two.traffic told ∙ ap (gave sid (sends second)) (one.traffic told) ∙ sym (gave_then sid (sends first) (sends second) a.traffic) ∙ ap (λ (ms : List Message). gave sid ms a.traffic) (sym (sends_then first second));
  frames = subst AreFrames (sym (sends_then first second)) (frames_both (sends first) (sends second) one.frames two.frames);
}

-- questions change nothing
pub asked_does : (sid : ℕ) (view : NodeView) (then_what : Continuation) (effects : List Effect) (node : Node) → does sid (asked view then_what ++ effects) node ≡ does sid effects node
asked_does sid view Done effects node = refl
asked_does sid view (Next terms n) effects node = refl
asked_does sid view (Undo role terms key why) effects node = refl
asked_does sid view (Push terms key) effects node = refl
asked_does sid view (Offered terms key name interval) effects node = refl
asked_does sid view (Onto role terms key a) effects node = refl
asked_does sid view (Piece role terms key source offset) effects node = refl

asked_done : (files_told lines_told : Type 0) (sid : ℕ) (view : NodeView) (then_what : Continuation) (at : Spot) → WereDone files_told lines_told sid (asked view then_what) at at
asked_done files_told lines_told sid view Done at = record { node = λ node is. is; traffic = λ told. refl; frames = tt }
asked_done files_told lines_told sid view (Next terms n) at = record { node = λ node is. is; traffic = λ told. refl; frames = tt }
asked_done files_told lines_told sid view (Undo role terms key why) at = record { node = λ node is. is; traffic = λ told. refl; frames = tt }
asked_done files_told lines_told sid view (Push terms key) at = record { node = λ node is. is; traffic = λ told. refl; frames = tt }
asked_done files_told lines_told sid view (Offered terms key name interval) at = record { node = λ node is. is; traffic = λ told. refl; frames = tt }
asked_done files_told lines_told sid view (Onto role terms key a) at = record { node = λ node is. is; traffic = λ told. refl; frames = tt }
asked_done files_told lines_told sid view (Piece role terms key source offset) at = record { node = λ node is. is; traffic = λ told. refl; frames = tt }

-- Answers that agree.

pub agrees_same : (answers given : Answers) (r s : ℕ) → r ≤ s → Agrees answers given r → Agrees answers given s
agrees_same answers given r s le is = record {
  now = is.now;
  there = λ few. is.there (omega (arith, le, few));
  source = λ few. is.source (omega (arith, le, few));
  bytes = λ few. is.bytes (omega (arith, le, few));
}

pub agrees_self : (answers : Answers) (r : ℕ) → Agrees answers answers r
agrees_self answers r = record { now = refl; there = λ few. refl; source = λ few. refl; bytes = λ few. refl }

-- the answers so far were given before the question, but for what it asks
pub agrees_before : (view : NodeView) (then_what : Continuation) (answers before given : Answers) → IsAnswered (question_of view then_what) before given → Agrees answers given (rank_behind then_what) → Agrees answers before (rank then_what)
agrees_before view Done answers before given same is = subst (λ (g : Answers). Agrees answers g 0) same is
agrees_before view (Next terms n) answers before given same is = subst (λ (g : Answers). Agrees answers g 2) same is
agrees_before view (Undo role terms key why) answers before given same is = subst (λ (g : Answers). Agrees answers g 2) same is
agrees_before view (Push terms key) answers before given same is = record {
  now = is.now ∙ same.0;
  there = λ few. is.there (omega arith) ∙ same.1;
  source = λ few. absurd (omega (arith, few));
  bytes = λ few. absurd (omega (arith, few));
}
agrees_before view (Offered terms key name interval) answers before given same is = record {
  now = is.now ∙ same.0;
  there = λ few. is.there (omega arith) ∙ same.1;
  source = λ few. absurd (omega (arith, few));
  bytes = λ few. absurd (omega (arith, few));
}
agrees_before view (Onto role terms key a) answers before given same is = record {
  now = is.now ∙ same.0;
  there = λ few. absurd (omega (arith, few));
  source = λ few. absurd (omega (arith, few));
  bytes = λ few. absurd (omega (arith, few));
}
agrees_before view (Piece role terms key source offset) answers before given same is = record {
  now = is.now ∙ same.0;
  there = λ few. is.there (omega arith) ∙ same.1;
  source = λ few. absurd (omega (arith, few));
  bytes = λ few. absurd (omega (arith, few));
}

-- a reaction depends on the moment, and on the answer to its own question
behind_agrees : (view : NodeView) (now : ℕ) (phase : Phase) (then_what : Continuation) (answers given : Answers) → Agrees answers given (rank_behind then_what) → reaction_behind view now phase answers then_what ≡ reaction_behind view now phase given then_what
behind_agrees view now phase Done answers given is = refl
behind_agrees view now phase (Next terms n) answers given is = refl
behind_agrees view now phase (Undo role terms key why) answers given is = refl
behind_agrees view now phase (Push terms key) answers given is = ap (λ (size : Option ℕ). reaction_behind view now phase (record given { source = size }) (Push terms key)) (is.source (omega arith))
behind_agrees view now phase (Offered terms key name interval) answers given is = ap (λ (size : Option ℕ). reaction_behind view now phase (record given { source = size }) (Offered terms key name interval)) (is.source (omega arith))
behind_agrees view now phase (Onto role terms key a) answers given is = ap (λ (size : Option ℕ). reaction_behind view now phase (record given { there = size }) (Onto role terms key a)) (is.there (omega arith))
behind_agrees view now phase (Piece role terms key source offset) answers given is = ap (λ (bytes : List ℕ). reaction_behind view now phase (record given { bytes = bytes }) (Piece role terms key source offset)) (is.bytes (omega arith))

pub reaction_agrees : (view : NodeView) (phase : Phase) (then_what : Continuation) (answers given : Answers) → Agrees answers given (rank_behind then_what) → reaction_at view phase answers then_what ≡ reaction_at view phase given then_what
reaction_agrees view phase then_what answers given is =
    ap (λ (n : ℕ). checked view n phase (reaction_behind view n phase answers then_what)) is.now ∙ ap (checked view given.now phase) (behind_agrees view given.now phase then_what answers given is)

told_agrees : (shelf : Shelf) (view : NodeView) (then_what : Continuation) (answers given : Answers) → Agrees answers given (rank_behind then_what) → IsTold shelf (question_of view then_what) given → IsTold shelf (question_of view then_what) answers
told_agrees shelf view Done answers given is told = tt
told_agrees shelf view (Next terms n) answers given is told = tt
told_agrees shelf view (Undo role terms key why) answers given is told = tt
told_agrees shelf view (Push terms key) answers given is told = is.source (omega arith) ∙ told
told_agrees shelf view (Offered terms key name interval) answers given is told = is.source (omega arith) ∙ told
told_agrees shelf view (Onto role terms key a) answers given is told = is.there (omega arith) ∙ told
told_agrees shelf view (Piece role terms key source offset) answers given is told = is.bytes (omega arith) ∙ told

-- The way.

pub view_is : (setting : Setting) (read : Reading) (entries : List Entry) (view : NodeView) → view.config ≡ config_with setting read → view.journal ≡ entries → view ≡ view_with setting read entries
view_is setting read entries view config journal =
    ap (λ (c : Config). record { config = c; journal = view.journal }) config ∙ ap (λ (es : List Entry). record { config = config_with setting read; journal = es }) journal

-- the questions of a reaction whose answers were given
pub reaction_rank : (view : NodeView) (phase : Phase) (answers : Answers) (then_what : Continuation) (at : Spot) → rank (reaction_at view phase answers then_what).later ≤ rank_behind then_what
reaction_rank view phase answers then_what at = after_rank (record { view = view; shelf = at.shelf; sessions = record { sids = []; phase = λ sid. phase; holder = λ key. None } }) 0 answers then_what

module _ (files_told lines_told : Type 0) (setting : Setting) (read : Reading) (sid whole : ℕ) (first : Continuation) (before : Spot) where
  -- nothing was done yet
  pub way_none : (given : Answers) → IsOnItsWay files_told lines_told setting read sid whole whole first first given before before
  way_none given = record {
    done = [];
    was = done_none files_told lines_told sid before;
    row = λ node is answers agrees. refl;
    told = λ t node is answers agrees so. so;
  }

  -- the row of a node, one reaction further
  row_more : (more : ℕ) (node : Node) (answers : Answers) (view : NodeView) (then_what : Continuation) (reaction : Reaction) (done : List Effect) → is_done then_what ≡ false
      → (does sid done node).view ≡ view → reaction_after (does sid done node) sid answers then_what ≡ reaction
      → done ++ rest (suc more) (does sid done node) sid answers then_what ≡ (done ++ (asked view then_what ++ reaction.effects)) ++ rest more (does sid (done ++ (asked view then_what ++ reaction.effects)) node) sid answers reaction.later
  row_more more node answers view then_what reaction done goes same_view same_reaction =
      let at : Node = does sid done node in
      let step : rest (suc more) at sid answers then_what ≡ asked view then_what ++ (reaction.effects ++ rest more (does sid reaction.effects at) sid answers reaction.later) =
      subst (λ (d : NodeView). rest (suc more) at sid answers then_what ≡ asked d then_what ++ (reaction.effects ++ rest more (does sid reaction.effects at) sid answers reaction.later)) same_view
      (subst (λ (p : Reaction). rest (suc more) at sid answers then_what ≡ asked at.view then_what ++ (p.effects ++ rest more (does sid p.effects at) sid answers p.later)) same_reaction (rest_step more at sid answers then_what goes)) in
      let there : does sid (done ++ (asked view then_what ++ reaction.effects)) node ≡ does sid reaction.effects at =
      does_then sid done (asked view then_what ++ reaction.effects) node ∙ asked_does sid view then_what reaction.effects at in
      ap (λ (l : List Effect). done ++ l) step
      ∙ ap (λ (l : List Effect). done ++ l) (sym (append_assoc (asked view then_what) reaction.effects (rest more (does sid reaction.effects at) sid answers reaction.later)))
      ∙ sym (append_assoc done (asked view then_what ++ reaction.effects) (rest more (does sid reaction.effects at) sid answers reaction.later))
      ∙ ap (λ (n : Node). (done ++ (asked view then_what ++ reaction.effects)) ++ rest more n sid answers reaction.later) (sym there)

  told_more : (more : ℕ) (node : Node) (answers : Answers) (view : NodeView) (then_what : Continuation) (reaction : Reaction) (done : List Effect) → is_done then_what ≡ false
      → reaction_after (does sid done node) sid answers then_what ≡ reaction → IsTold (does sid done node).shelf (question_of (does sid done node).view then_what) answers
      → AreTold more (does sid (done ++ (asked view then_what ++ reaction.effects)) node) sid answers reaction.later → AreTold (suc more) (does sid done node) sid answers then_what
  unfolding AreTold
  told_more more node answers view then_what reaction done goes same_reaction one others =
      let at : Node = does sid done node in
      let there : does sid (done ++ (asked view then_what ++ reaction.effects)) node ≡ does sid reaction.effects at =
      does_then sid done (asked view then_what ++ reaction.effects) node ∙ asked_does sid view then_what reaction.effects at in
      let behind : AreTold more (does sid reaction.effects at) sid answers reaction.later = subst (λ (n : Node). AreTold more n sid answers reaction.later) there others in
      let both : IsTold at.shelf (question_of at.view then_what) answers × AreTold more (does sid (reaction_after at sid answers then_what).effects at) sid answers (reaction_after at sid answers then_what).later =
      (one, subst (λ (p : Reaction). AreTold more (does sid p.effects at) sid answers p.later) (sym same_reaction) behind) in
      subst (λ (b : Bool). Unless b (IsTold at.shelf (question_of at.view then_what) answers × AreTold more (does sid (reaction_after at sid answers then_what).effects at) sid answers (reaction_after at sid answers then_what).later)) (sym goes) both

  -- a reaction was done
  pub way_more : (more : ℕ) (then_what : Continuation) (earlier given : Answers) (middle after : Spot) → is_done then_what ≡ false
      → IsAnswered (question_of (view_with setting read middle.entries) then_what) earlier given
      → (files_told → IsTold middle.shelf (question_of (view_with setting read middle.entries) then_what) given)
      → WereDone files_told lines_told sid (reaction_at (view_with setting read middle.entries) middle.phase given then_what).effects middle after
      → IsOnItsWay files_told lines_told setting read sid whole (suc more) first then_what earlier before middle
      → IsOnItsWay files_told lines_told setting read sid whole more first (reaction_at (view_with setting read middle.entries) middle.phase given then_what).later given before after
  way_more more then_what earlier given middle after goes answered tells then_done way =
      let view : NodeView = view_with setting read middle.entries in
      let reaction : Reaction = reaction_at view middle.phase given then_what in
      let wide : (answers : Answers) → Agrees answers given (rank reaction.later) → Agrees answers given (rank_behind then_what) =
      λ answers is. agrees_same answers given (rank reaction.later) (rank_behind then_what) (reaction_rank view middle.phase given then_what middle) is in
      let view_at : (node : Node) → IsSo files_told setting read sid node before → (does sid way.done node).view ≡ view =
      λ node is. view_is setting read middle.entries (does sid way.done node).view (same_config sid way.done node ∙ is.config) (way.was.node node is.stands).journal in
      let reaction_is : (node : Node) → IsSo files_told setting read sid node before → (answers : Answers) → Agrees answers given (rank reaction.later) → reaction_after (does sid way.done node) sid answers then_what ≡ reaction =
      λ node is answers agrees.
      ap (λ (d : NodeView). reaction_at d ((does sid way.done node).sessions.phase sid) answers then_what) (view_at node is)
      ∙ ap (λ (p : Phase). reaction_at view p answers then_what) (way.was.node node is.stands).phase
      ∙ reaction_agrees view middle.phase then_what answers given (wide answers agrees) in
      record {
        done = way.done ++ (asked view then_what ++ reaction.effects);
        was = done_then files_told lines_told sid way.done (asked view then_what ++ reaction.effects) before middle after way.was
            (done_then files_told lines_told sid (asked view then_what) reaction.effects middle middle after (asked_done files_told lines_told sid view then_what middle) then_done);
        row = λ node is answers agrees.
            way.row node is answers (agrees_before view then_what answers earlier given answered (wide answers agrees))
            ∙ row_more more node answers view then_what reaction way.done goes (view_at node is) (reaction_is node is answers agrees);
        told = λ t node is answers agrees so.
            way.told t node is answers (agrees_before view then_what answers earlier given answered (wide answers agrees))
            (told_more more node answers view then_what reaction way.done goes (reaction_is node is answers agrees)
            (subst (λ (s : Shelf). IsTold s (question_of (does sid way.done node).view then_what) answers) (sym ((way.was.node node is.stands).shelf t))
            (subst (λ (d : NodeView). IsTold middle.shelf (question_of d then_what) answers) (sym (view_at node is)) (told_agrees middle.shelf view then_what answers given (wide answers agrees) (tells t)))) so);
      }

  -- Nothing is left.

  told_end : (left : ℕ) (node : Node) (answers : Answers) (then_what : Continuation) → is_done then_what ≡ true → AreTold left node sid answers then_what
  unfolding AreTold
  told_end zero node answers then_what ends = tt
  told_end (suc more) node answers then_what ends = subst (λ (b : Bool). Unless b (IsTold node.shelf (question_of node.view then_what) answers × AreTold more (does sid (reaction_after node sid answers then_what).effects node) sid answers (reaction_after node sid answers then_what).later)) (sym ends) tt

  row_end : (left : ℕ) (node : Node) (then_what : Continuation) (given : Answers) (after : Spot) (way : IsOnItsWay files_told lines_told setting read sid whole left first then_what given before after)
      → ((n : Node) → rest left n sid given then_what ≡ []) → IsSo files_told setting read sid node before → WereDone files_told lines_told sid (rest whole node sid given first) before after
  row_end left node then_what given after way none is =
      subst (λ (effects : List Effect). WereDone files_told lines_told sid effects before after)
      (sym (way.row node is given (agrees_self given (rank then_what)) ∙ ap (λ (l : List Effect). way.done ++ l) (none (does sid way.done node)) ∙ append-nil way.done)) way.was

  pub way_end : (left : ℕ) (then_what : Continuation) (given : Answers) (after : Spot) → IsOnItsWay files_told lines_told setting read sid whole left first then_what given before after → is_done then_what ≡ true
      → (node : Node) → IsSo files_told setting read sid node before → WereDone files_told lines_told sid (rest whole node sid given first) before after
  way_end left then_what given after way ends node is = row_end left node then_what given after way (λ n. rest_done left n sid given then_what ends) is

  pub way_told : (left : ℕ) (then_what : Continuation) (given : Answers) (after : Spot) → IsOnItsWay files_told lines_told setting read sid whole left first then_what given before after → is_done then_what ≡ true
      → files_told → (node : Node) → IsSo files_told setting read sid node before → AreTold whole node sid given first
  way_told left then_what given after way ends t node is = way.told t node is given (agrees_self given (rank then_what)) (told_end left (does sid way.done node) given then_what ends)

  -- and nothing is left where no reaction may come any more
  pub way_out : (then_what : Continuation) (given : Answers) (after : Spot) → IsOnItsWay files_told lines_told setting read sid whole zero first then_what given before after
      → (node : Node) → IsSo files_told setting read sid node before → WereDone files_told lines_told sid (rest whole node sid given first) before after
  unfolding rest
  way_out then_what given after way node is = row_end zero node then_what given after way (λ n. refl) is

  pub way_out_told : (then_what : Continuation) (given : Answers) (after : Spot) → IsOnItsWay files_told lines_told setting read sid whole zero first then_what given before after
      → files_told → (node : Node) → IsSo files_told setting read sid node before → AreTold whole node sid given first
  unfolding AreTold
  way_out_told then_what given after way t node is = way.told t node is given (agrees_self given (rank then_what)) tt

  -- one turn more, of so many
  pub way_next : (turn : ℕ) (then_what later : Continuation) (earlier given : Answers) (middle after : Spot) → turn < whole → is_done then_what ≡ false
      → IsAnswered (question_of (view_with setting read middle.entries) then_what) earlier given
      → (files_told → IsTold middle.shelf (question_of (view_with setting read middle.entries) then_what) given)
      → WereDone files_told lines_told sid (reaction_at (view_with setting read middle.entries) middle.phase given then_what).effects middle after
      → later ≡ (reaction_at (view_with setting read middle.entries) middle.phase given then_what).later
      → IsOnItsWay files_told lines_told setting read sid whole (whole - turn) first then_what earlier before middle
      → IsOnItsWay files_told lines_told setting read sid whole (whole - (turn + 1)) first later given before after
  way_next turn then_what later earlier given middle after lt goes answered tells then_done is way =
      let one : whole - turn ≡ suc (whole - (turn + 1)) = omega (arith, lt) in
      subst (λ (t : Continuation). IsOnItsWay files_told lines_told setting read sid whole (whole - (turn + 1)) first t given before after) (sym is)
      (way_more (whole - (turn + 1)) then_what earlier given middle after goes answered tells then_done
      (subst (λ (n : ℕ). IsOnItsWay files_told lines_told setting read sid whole n first then_what earlier before middle) one way))

  -- all turns were taken
  pub way_over : (turn : ℕ) (then_what : Continuation) (given : Answers) (after : Spot) → whole ≤ turn
      → IsOnItsWay files_told lines_told setting read sid whole (whole - turn) first then_what given before after
      → IsOnItsWay files_told lines_told setting read sid whole zero first then_what given before after
  way_over turn then_what given after ge way =
      let none : whole - turn ≡ 0 = omega (arith, ge) in
      subst (λ (n : ℕ). IsOnItsWay files_told lines_told setting read sid whole n first then_what given before after) none way

-- Counts over two runs.

pub fell_then : (first middle last : LineCounts) → NeverFell first middle → NeverFell middle last → NeverFell first last
fell_then first middle last one two = record {
  faults = λ session. omega (arith, one.faults session, two.faults session);
  connects = omega (arith, one.connects, two.connects);
  accepts = omega (arith, one.accepts, two.accepts);
  ends = λ session. omega (arith, one.ends session, two.ends session);
  nones = omega (arith, one.nones, two.nones);
}

pub fell_none : (counts : LineCounts) → NeverFell counts counts
fell_none counts = record {
  faults = λ session. omega arith;
  connects = omega arith;
  accepts = omega arith;
  ends = λ session. omega arith;
  nones = omega arith;
}

-- A reaction, and what is left behind it.

pub so_behind : (files_told lines_told : Type 0) (setting : Setting) (read : Reading) (sid : ℕ) (effects : List Effect) (before middle : Spot) → WereDone files_told lines_told sid effects before middle
    → (node : Node) → IsSo files_told setting read sid node before → IsSo files_told setting read sid (does sid effects node) middle
so_behind files_told lines_told setting read sid effects before middle done node is = record { config = same_config sid effects node ∙ is.config; stands = done.node node is.stands }

pub reactions_done : (files_told lines_told : Type 0) (setting : Setting) (read : Reading) (sid more : ℕ) (reaction : Reaction) (given : Answers) (before middle after : Spot) → WereDone files_told lines_told sid reaction.effects before middle
    → ((node : Node) → IsSo files_told setting read sid node middle → WereDone files_told lines_told sid (rest more node sid given reaction.later) middle after)
    → (node : Node) → IsSo files_told setting read sid node before → WereDone files_told lines_told sid (all_reactions more node sid given reaction) before after
reactions_done files_told lines_told setting read sid more reaction given before middle after one others node is =
    subst (λ (effects : List Effect). WereDone files_told lines_told sid effects before after) (sym (reactions_rest more node sid given reaction))
    (done_then files_told lines_told sid reaction.effects (rest more (does sid reaction.effects node) sid given reaction.later) before middle after one
    (others (does sid reaction.effects node) (so_behind files_told lines_told setting read sid reaction.effects before middle one node is)))

pub reactions_told : (files_told lines_told : Type 0) (setting : Setting) (read : Reading) (sid more : ℕ) (reaction : Reaction) (given : Answers) (before middle : Spot) → WereDone files_told lines_told sid reaction.effects before middle
    → ((node : Node) → IsSo files_told setting read sid node middle → AreTold more node sid given reaction.later)
    → (node : Node) → IsSo files_told setting read sid node before → AreTold more (does sid reaction.effects node) sid given reaction.later
reactions_told files_told lines_told setting read sid more reaction given before middle one others node is =
    others (does sid reaction.effects node) (so_behind files_told lines_told setting read sid reaction.effects before middle one node is)

-- Where it fails.

-- nothing was done
pub nothing_done : (files_told lines_told : Type 0) (sid : ℕ) (entries : List Entry) (shelf now : Shelf) (phase : Phase) (holdings : List Holding) (traffic : Traffic) → (files_told → now ≡ shelf)
    → WereDone files_told lines_told sid [] (spot entries shelf phase holdings traffic) (spot entries now phase holdings traffic)
nothing_done files_told lines_told sid entries shelf now phase holdings traffic same = record {
  node = λ node is. record { journal = is.journal; shelf = λ t. is.shelf t ∙ sym (same t); phase = is.phase; holder = is.holder };
  traffic = λ told. refl;
  frames = tt;
}

-- effects were done, and then others were cut off
pub cut_behind : (files_told lines_told : Type 0) (sid : ℕ) (first effects : List Effect) (fault : Fault) (a b c : Spot) → WereDone files_told lines_told sid first a b → WereCut files_told lines_told sid effects fault b c → WereCut files_told lines_told sid (first ++ effects) fault a c
cut_behind files_told lines_told sid first effects fault a b c one cut = record {
  done = first ++ cut.done;
  torn = cut.torn;
  more = cut.more;
  reactions = ap (λ (l : List Effect). first ++ l) cut.reactions ∙ sym (append_assoc first cut.done (cut.torn ∷ cut.more));
  middle = cut.middle;
  first = done_then files_told lines_told sid first cut.done a b cut.middle one cut.first;
  rest = cut.rest;
  cause = cut.cause;
}

-- effects were cut off, before others
pub cut_front : (files_told lines_told : Type 0) (sid : ℕ) (effects more : List Effect) (fault : Fault) (a b : Spot) → WereCut files_told lines_told sid effects fault a b → WereCut files_told lines_told sid (effects ++ more) fault a b
cut_front files_told lines_told sid effects more fault a b cut = record {
  done = cut.done;
  torn = cut.torn;
  more = cut.more ++ more;
  reactions = ap (λ (l : List Effect). l ++ more) cut.reactions ∙ append_assoc cut.done (cut.torn ∷ cut.more) more;
  middle = cut.middle;
  first = cut.first;
  rest = cut.rest;
  cause = cut.cause;
}

pub stopped_behind : (files_told lines_told : Type 0) (sid : ℕ) (first effects : List Effect) (fault : Fault) (a b c : Spot) → WereDone files_told lines_told sid first a b → WereStopped files_told lines_told sid effects fault b c → WereStopped files_told lines_told sid (first ++ effects) fault a c
stopped_behind files_told lines_told sid first effects fault a b c one stopped = ⊎_elim
    (λ left. inl (record {
      done = first ++ left.done;
      more = left.more;
      reactions = ap (λ (l : List Effect). first ++ l) left.reactions ∙ sym (append_assoc first left.done left.more);
      first = done_then files_told lines_told sid first left.done a b c one left.first;
      cause = left.cause;
    }))
    (λ cut. inr (cut_behind files_told lines_told sid first effects fault a b c one cut))
    stopped

module _ (files_told lines_told : Type 0) (setting : Setting) (read : Reading) (sid whole now : ℕ) (first : Continuation) (before : Spot) where
  -- a reaction wasn't begun
  pub way_left : (left : ℕ) (then_what : Continuation) (given : Answers) (fault : Fault) (middle after : Spot) → given.now ≡ now → IsOnItsWay files_told lines_told setting read sid whole left first then_what given before middle
      → WereDone files_told lines_told sid [] middle after → IsFaultOfAsking fault
      → RowStopped files_told lines_told sid now fault (λ node answers. rest whole node sid answers first) (λ node. IsSo files_told setting read sid node before) before after
  way_left left then_what given fault middle after at way none cause = record {
    answers = given;
    moment = at;
    stopped = λ node is. inl (record {
      done = way.done;
      more = rest left (does sid way.done node) sid given then_what;
      reactions = way.row node is given (agrees_self given (rank then_what));
      first = subst (λ (effects : List Effect). WereDone files_told lines_told sid effects before after) (append-nil way.done) (done_then files_told lines_told sid way.done [] before middle after way.was none);
      cause = cause;
    });
  }

  -- a reaction was cut off
  pub way_cut : (more : ℕ) (then_what : Continuation) (earlier given : Answers) (fault : Fault) (middle after : Spot) → given.now ≡ now → is_done then_what ≡ false
      → IsOnItsWay files_told lines_told setting read sid whole (suc more) first then_what earlier before middle
      → IsAnswered (question_of (view_with setting read middle.entries) then_what) earlier given
      → WereCut files_told lines_told sid (reaction_at (view_with setting read middle.entries) middle.phase given then_what).effects fault middle after
      → RowStopped files_told lines_told sid now fault (λ node answers. rest whole node sid answers first) (λ node. IsSo files_told setting read sid node before) before after
  way_cut more then_what earlier given fault middle after at goes way answered cut =
      let view : NodeView = view_with setting read middle.entries in
      let reaction : Reaction = reaction_at view middle.phase given then_what in
      let behind : Node → List Effect = λ node. rest more (does sid (way.done ++ (asked view then_what ++ reaction.effects)) node) sid given reaction.later in
      let row : (node : Node) → IsSo files_told setting read sid node before → rest whole node sid given first ≡ (way.done ++ asked view then_what) ++ (reaction.effects ++ behind node) =
      λ node is.
      let view_at : (does sid way.done node).view ≡ view = view_is setting read middle.entries (does sid way.done node).view (same_config sid way.done node ∙ is.config) (way.was.node node is.stands).journal in
      let reaction_is : reaction_after (does sid way.done node) sid given then_what ≡ reaction =
      ap (λ (d : NodeView). reaction_at d ((does sid way.done node).sessions.phase sid) given then_what) view_at
      ∙ ap (λ (p : Phase). reaction_at view p given then_what) (way.was.node node is.stands).phase in
      way.row node is given (agrees_before view then_what given earlier given answered (agrees_self given (rank_behind then_what)))
      ∙ row_more files_told lines_told setting read sid whole first before more node given view then_what reaction way.done goes view_at reaction_is
      ∙ append_assoc way.done (asked view then_what ++ reaction.effects) (behind node)
      ∙ ap (λ (l : List Effect). way.done ++ l) (append_assoc (asked view then_what) reaction.effects (behind node))
      ∙ sym (append_assoc way.done (asked view then_what) (reaction.effects ++ behind node)) in
      record {
        answers = given;
        moment = at;
        stopped = λ node is. inr (subst (λ (effects : List Effect). WereCut files_told lines_told sid effects fault before after) (sym (row node is))
            (cut_behind files_told lines_told sid (way.done ++ asked view then_what) (reaction.effects ++ behind node) fault before middle after
            (done_then files_told lines_told sid way.done (asked view then_what) before middle middle way.was (asked_done files_told lines_told sid view then_what middle))
            (cut_front files_told lines_told sid reaction.effects (behind node) fault middle after cut)));
      }

  pub way_stopped : (turn : ℕ) (then_what : Continuation) (earlier given : Answers) (fault : Fault) (middle after : Spot) → turn < whole → earlier.now ≡ now → given.now ≡ now → is_done then_what ≡ false
      → IsOnItsWay files_told lines_told setting read sid whole (whole - turn) first then_what earlier before middle
      → ((WereDone files_told lines_told sid [] middle after × IsFaultOfAsking fault) ⊎ (IsAnswered (question_of (view_with setting read middle.entries) then_what) earlier given
      × WereCut files_told lines_told sid (reaction_at (view_with setting read middle.entries) middle.phase given then_what).effects fault middle after))
      → RowStopped files_told lines_told sid now fault (λ node answers. rest whole node sid answers first) (λ node. IsSo files_told setting read sid node before) before after
  way_stopped turn then_what earlier given fault middle after lt early at goes way stopped =
      let one : whole - turn ≡ suc (whole - (turn + 1)) = omega (arith, lt) in
      ⊎_elim
      (λ none. way_left (whole - turn) then_what earlier fault middle after early way none.0 none.1)
      (λ cut. way_cut (whole - (turn + 1)) then_what earlier given fault middle after at goes (subst (λ (n : ℕ). IsOnItsWay files_told lines_told setting read sid whole n first then_what earlier before middle) one way) cut.0 cut.1)
      stopped

-- the first reaction was cut off
pub reactions_cut : (files_told lines_told : Type 0) (setting : Setting) (read : Reading) (sid more now : ℕ) (reaction : Reaction) (given : Answers) (fault : Fault) (before after : Spot) → given.now ≡ now → WereCut files_told lines_told sid reaction.effects fault before after
    → RowStopped files_told lines_told sid now fault (λ node answers. all_reactions more node sid answers reaction) (λ node. IsSo files_told setting read sid node before) before after
reactions_cut files_told lines_told setting read sid more now reaction given fault before after at cut = record {
  answers = given;
  moment = at;
  stopped = λ node is. inr (subst (λ (effects : List Effect). WereCut files_told lines_told sid effects fault before after) (sym (reactions_rest more node sid given reaction))
      (cut_front files_told lines_told sid reaction.effects (rest more (does sid reaction.effects node) sid given reaction.later) fault before after cut));
}

-- what is left behind it was stopped
pub reactions_stopped : (files_told lines_told : Type 0) (setting : Setting) (read : Reading) (sid more now : ℕ) (reaction : Reaction) (fault : Fault) (before middle after : Spot) → WereDone files_told lines_told sid reaction.effects before middle
    → RowStopped files_told lines_told sid now fault (λ node answers. rest more node sid answers reaction.later) (λ node. IsSo files_told setting read sid node middle) middle after
    → RowStopped files_told lines_told sid now fault (λ node answers. all_reactions more node sid answers reaction) (λ node. IsSo files_told setting read sid node before) before after
reactions_stopped files_told lines_told setting read sid more now reaction fault before middle after one stop = record {
  answers = stop.answers;
  moment = stop.moment;
  stopped = λ node is. subst (λ (effects : List Effect). WereStopped files_told lines_told sid effects fault before after) (sym (reactions_rest more node sid stop.answers reaction))
      (stopped_behind files_told lines_told sid reaction.effects (rest more (does sid reaction.effects node) sid stop.answers reaction.later) fault before middle after one
      (stop.stopped (does sid reaction.effects node) (so_behind files_told lines_told setting read sid reaction.effects before middle one node is)));
}

-- a reaction was cut off that was made over the book
pub behind_stopped : (files_told lines_told : Type 0) (setting : Setting) (read : Reading) (sid : ℕ) (fault : Fault) (entries : List Entry) (shelf now : Shelf) (phase : Phase) (holdings : List Holding) (traffic : Traffic)
    (book again : List Entry) (then_what : Continuation) (question : Question) (earlier given lent : Answers) (reaction : Reaction) (after : Spot) → (files_told → now ≡ shelf) → book ≡ entries → again ≡ entries → lent ≡ given
    → question ≡ question_of (view_with setting read book) then_what → IsAnswered question earlier given → reaction ≡ reaction_at (view_with setting read again) phase lent then_what
    → WereCut files_told lines_told sid reaction.effects fault (spot entries now phase holdings traffic) after
    → IsAnswered (question_of (view_with setting read entries) then_what) earlier given
    × WereCut files_told lines_told sid (reaction_at (view_with setting read entries) phase given then_what).effects fault (spot entries shelf phase holdings traffic) after
behind_stopped files_told lines_told setting read sid fault entries shelf now phase holdings traffic book again then_what question earlier given lent reaction after same first second bytes asks answered made cut =
    let made_is : reaction ≡ reaction_at (view_with setting read entries) phase given then_what =
    made ∙ ap (λ (es : List Entry). reaction_at (view_with setting read es) phase lent then_what) second ∙ ap (λ (a : Answers). reaction_at (view_with setting read entries) phase a then_what) bytes in
    let asks_is : question ≡ question_of (view_with setting read entries) then_what = asks ∙ ap (λ (es : List Entry). question_of (view_with setting read es) then_what) first in (
      subst (λ (q : Question). IsAnswered q earlier given) asks_is answered,
      subst (λ (p : Reaction). WereCut files_told lines_told sid p.effects fault (spot entries shelf phase holdings traffic) after) made_is
          (cut_behind files_told lines_told sid [] reaction.effects fault (spot entries shelf phase holdings traffic) (spot entries now phase holdings traffic) after
          (nothing_done files_told lines_told sid entries shelf now phase holdings traffic same) cut),
    )
