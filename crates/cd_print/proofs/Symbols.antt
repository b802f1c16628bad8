-- The values that SUBMIT gives to names are few.
use Rattle.std.proofs.Common.{◌≡◌, ℕ, ◌+◌, ◌*◌, ◌≤◌, true, List, [], ◌∷◌, length, refl, ap, subst, sym, ◌∙◌, arith, nat_le}
use Rattle.std.specs.Prelude.{sum_by}
use Rattle.std.specs.List.{list_all}
use Rattle.std.proofs.lemmas.List.Sums.{sum_by-cons}
use Rattle.cd_ast.specs.Laws.{AreInOrder}
use Rattle.cd_ast.specs.Tokens.{spans_of}
use Rattle.cd_ast.specs.declared.process.Process.{Process}
use Rattle.cd_ast.specs.declared.process.Stmt.{Stmt}
use Rattle.cd_ast.specs.declared.process.What.{What}
use Rattle.cd_ast.specs.declared.process.What.TheVariants as what
use Rattle.cd_grammar.specs.Tokens.{tokens_of}
use Rattle.cd_grammar.specs.Faults.{InGrammar, longest_text}
use Rattle.cd_ast.specs.Canonical.{canonical}
use Rattle.cd_automaton.specs.Ranges.{is_card, are_stmts}
use Rattle.cd_print.proofs.Lengths.{print_length}
use Rattle.cd_print.specs.Sizes.{symbols_size, has_small_symbols}
use Rattle.cd_print.proofs.Weights.{heft, text_weighs}
use Rattle.cd_print.proofs.Grows.{pairs_size, said_size, stmts_size, reading_size, Bounded, all_size}

-- of four bytes that a Process keeps there are at most seven of its text
pub text_size : (text : List ℕ) (process : Process) → AreInOrder 0 (spans_of text) (length text) → InGrammar text process → 4 * stmts_size process.stmts ≤ 7 * length text
text_size text process order said =
    let bounded : Bounded (reading_size said.all) 0 (heft (tokens_of text)) = all_size said.read in
    let is : 4 * reading_size said.all ≤ 4 * 0 + 7 * heft (tokens_of text) = bounded.is in
    let light : heft (tokens_of text) ≤ length text = text_weighs text order in
    let all : 4 * stmts_size said.all.stmts ≤ 7 * length text = omega arith in
    subst (λ (p : Process). 4 * stmts_size p.stmts ≤ 7 * length text) (sym said.said) all

pairs_sum : (pairs : List (List ℕ × List ℕ)) → sum_by (λ pair. 5 + length pair.0 + length pair.1) pairs ≡ pairs_size pairs
pairs_sum [] = refl
pairs_sum (pair ∷ pairs) = sum_by-cons (λ pair. 5 + length pair.0 + length pair.1) pair pairs ∙ ap (λ n. 5 + length pair.0 + length pair.1 + n) (pairs_sum pairs)

what_small : (said : What) → said_size said ≤ 114688 → has_small_symbols said ≡ true
what_small (what.Submit submit) h =
    let sum : sum_by (λ pair. 5 + length pair.0 + length pair.1) submit.symbols ≡ pairs_size submit.symbols = pairs_sum submit.symbols in
    let few : symbols_size submit.symbols ≤ 120000 = omega arith in
    small (symbols_size submit.symbols) few
  where
    small : (n : ℕ) → n ≤ 120000 → nat_le n 120000 ≡ true
    small n h2 = grind arith
what_small (what.Copy copy) h = refl
what_small (what.Task task) h = refl
what_small (what.If label rel n) h = refl
what_small what.Else h = refl
what_small what.Eif h = refl
what_small (what.Goto label) h = refl
what_small what.Exit h = refl

pub all_small : (stmts : List Stmt) → stmts_size stmts ≤ 114688 → list_all (λ s. has_small_symbols s.what) stmts ≡ true
all_small [] h = refl
all_small (s ∷ stmts) h = rw (what_small s.what (omega arith)) (all_small stmts (omega arith))

pub text_small : (text : List ℕ) (process : Process) → AreInOrder 0 (spans_of text) (length text) → length text ≤ longest_text → InGrammar text process → list_all (λ s. has_small_symbols s.what) process.stmts ≡ true
text_small text process order short said =
    let size : 4 * stmts_size process.stmts ≤ 7 * length text = text_size text process order said in
    all_small process.stmts (omega arith)

-- and the whole is printed in few bytes
pub text_short : (text : List ℕ) (process : Process) → AreInOrder 0 (spans_of text) (length text) → length text ≤ longest_text → InGrammar text process → is_card process.card ≡ true → process.card.name ≡ process.name
    → are_stmts process.stmts ≡ true → length process.stmts ≤ 1024 → length (canonical process) ≤ 200000
text_short text process order short said e named e2 few =
    let size : 4 * stmts_size process.stmts ≤ 7 * length text = text_size text process order said in
    print_length process e named e2 few (omega arith)
