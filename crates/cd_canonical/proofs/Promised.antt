-- What Processes with a card in range and with conditions on actions before them promise.
use Rattle.std.proofs.Common.{◌≡◌, ℕ, ◌+◌, ◌<◌, ◌≤◌, length, true, ◌&&◌, List, [], ◌∷◌, ◌++◌, Some, refl, sym, ap, ◌∙◌, append_assoc}
use Rattle.std.specs.Prelude.{nat_le}
use Rattle.std.proofs.lemmas.Bool.{and_parts, and_from, leb-true, lt-ltb}
use Rattle.std.proofs.lemmas.List.{length-append}
use Rattle.cd_types.specs.Label.{is_label}
use Rattle.cd_types.specs.NodeName.{is_node_name}
use Rattle.cd_types.specs.declared.choices.Relation.{Relation}
use Rattle.cd_types.specs.declared.start.Card.{Card}
use Rattle.cd_ast.specs.Walk.{action_of}
use Rattle.cd_ast.specs.declared.process.Stmt.{Stmt}
use Rattle.cd_ast.specs.declared.process.What.{What}
use Rattle.cd_ast.specs.declared.process.What.TheVariants as what
use Rattle.cd_automaton.specs.Ranges.{passes, within, is_timed, is_card}
use Rattle.cd_walk.specs.Conditions.{looks_back, look_back}

-- the priority of a card in range
pub priority_of : (card : Card) → is_card card ≡ true → (1 ≤ card.prty) × (card.prty ≤ 15)
priority_of card e =
    let four = and_parts (is_label card.name && passes is_node_name card.snode && within 1 15 card.prty && within 1 255 card.class) (passes is_timed card.start) e in
    let three = and_parts (is_label card.name && passes is_node_name card.snode && within 1 15 card.prty) (within 1 255 card.class) four.0 in
    let two = and_parts (is_label card.name && passes is_node_name card.snode) (within 1 15 card.prty) three.0 in
    let is = and_parts (nat_le 1 card.prty) (nat_le card.prty 15) two.1 in
    (leb-true 1 card.prty is.0, leb-true card.prty 15 is.1)

-- each condition among these statements is on an action before it
abbrev pub HaveActions : List Stmt → Type 0
HaveActions stmts = (front : List Stmt) (s : Stmt) (more : List Stmt) (label : List ℕ) (rel : Relation) (n : ℕ) → stmts ≡ front ++ s ∷ more → s.what ≡ what.If label rel n
    → (place : ℕ) × (action_of stmts label ≡ Some place) × (place < length front)

module _ (stmts : List Stmt) (acting : HaveActions stmts) where
  one_back : (front : List Stmt) (s : Stmt) (more : List Stmt) (here : ℕ) (said : What) → stmts ≡ front ++ s ∷ more → here ≡ length front → s.what ≡ said → looks_back stmts here said ≡ true
  one_back front s more here (what.If label rel n) e at is =
      let found = acting front s more label rel n e is in
      let before : found.0 < here = rw at found.2 in
      rw found.1 (lt-ltb found.0 here before)
  one_back front s more here _ e at is = refl

  pub all_back : (front more : List Stmt) (here : ℕ) → stmts ≡ front ++ more → here ≡ length front → look_back stmts more here ≡ true
  all_back front [] here e at = refl
  all_back front (s ∷ more) here e at =
      and_from (looks_back stmts here s.what) (look_back stmts more (here + 1)) (one_back front s more here s.what e at refl)
      (all_back (front ++ s ∷ []) more (here + 1) (e ∙ sym (append_assoc front (s ∷ []) more)) (ap (λ n. n + 1) at ∙ sym (length-append front (s ∷ []))))
