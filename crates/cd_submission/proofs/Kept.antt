-- What is kept of a Process is read again as it.
use Rattle.std.proofs.Common.{◌≡◌, ℕ, ◌*◌, ◌≤◌, true, false, List, [], ◌∷◌, ◌++◌, length, map, Some, None, refl, sym, subst, arith, nat_lt}
use Rattle.std.proofs.lemmas.List.{length-map}
use Rattle.cd_types.specs.declared.start.Card.{Card}
use Rattle.cd_ast.specs.declared.process.Process.{Process}
use Rattle.cd_ast.specs.Canonical.{canonical}
use Rattle.cd_ast.specs.Laws.{AreInOrder}
use Rattle.cd_ast.specs.Pieces.{pieces_of, bytes_of}
use Rattle.cd_ast.specs.Tokens.{open_from, flaw_of, bad_place, spans_of}
use Rattle.cd_grammar.specs.declared.given.Given.{Given}
use Rattle.cd_grammar.specs.Faults.{InGrammar, longest_text}
use Rattle.cd_grammar.specs.Later.{Found, late_faults, wrong_start, wrong_from}
use Rattle.cd_grammar.specs.Reading.{Reading}
use Rattle.cd_automaton.specs.Ranges.{passes, is_card}
use Rattle.cd_print.specs.Printable.{IsPrintable, HaveGoodTexts, is_day}
use Rattle.cd_print.proofs.Back.{IsBack, print_read, print_clean}
use Rattle.cd_print.proofs.Bytes.{IsGood, good_place}
use Rattle.cd_print.proofs.Clean.{text_clean}
use Rattle.cd_print.proofs.Faultless.{no_fault}
use Rattle.cd_print.proofs.Grows.{stmts_size}
use Rattle.cd_print.proofs.Heads.{PrintedStarts}
use Rattle.cd_print.proofs.Lengths.{print_length}
use Rattle.cd_print.proofs.Origin.{FineReading, AreMarked, all_fine}
use Rattle.cd_print.proofs.Prints.{print_good, all_of}
use Rattle.cd_print.proofs.Said.{PrintedValues}
use Rattle.cd_print.proofs.Symbols.{text_size}
use Rattle.cd_submission.specs.Filing.{filled_stmt}
use Rattle.cd_submission.proofs.Intervals.{filled_fit, filled_quotable, filled_texts, filled_nested, filled_marked, filled_size}

-- the same Process with another card, and with its intervals said
abbrev pub kept : Card → Process → Process
kept card process = record { name = process.name; card = card; stmts = map filled_stmt process.stmts }

-- what is asked of its card: values in range, and no start of its own beside what is kept for each start of the node
pub record IsKept (card : Card) (process : Process) : Type 0 where
  pub fits : is_card card ≡ true
  pub name : card.name ≡ process.name
  pub start : passes (λ start. is_day start.day) card.start ≡ true
  pub once : (at : ℕ) → wrong_start (Some card.retain) card.start at ≡ []

pub kept_printable : (card : Card) (process : Process) → IsKept card process → IsPrintable process → IsPrintable (kept card process)
kept_printable card process is p =
    let same : length (map filled_stmt process.stmts) ≡ length process.stmts = length-map process.stmts filled_stmt in
    let few : length process.stmts ≤ 1024 = p.count in
    record {
      card = is.fits;
      name = is.name;
      start = is.start;
      stmts = filled_fit process.stmts p.stmts;
      count = omega arith;
      quoted = filled_quotable process.stmts p.quoted;
      nested = filled_nested [] process.stmts p.nested;
    }

-- its text is short
pub kept_short : (text : List ℕ) (card : Card) (process : Process) → AreInOrder 0 (spans_of text) (length text) → length text ≤ longest_text → InGrammar text process → IsPrintable (kept card process) → length (canonical (kept card process)) ≤ 200000
kept_short text card process order short said p =
    let size : 4 * stmts_size process.stmts ≤ 7 * length text = text_size text process order said in
    let same : stmts_size (map filled_stmt process.stmts) ≡ stmts_size process.stmts = filled_size process.stmts in
    print_length (kept card process) p.card p.name p.stmts p.count (omega arith)

-- no fault in its meaning
none_behind : (a b : List Found) → a ++ b ≡ [] → b ≡ []
none_behind [] b e = e
none_behind (f ∷ a) b e = absurd cc

both_none : (a b : List Found) → a ≡ [] → b ≡ [] → a ++ b ≡ []
both_none a b e e2 = rw e e2

kept_sound : (text : List ℕ) (card : Card) (process : Process) (all : Reading) → bytes_of (pieces_of text) ≡ text → InGrammar text process → IsKept card process → IsBack (kept card process) all → late_faults all ≡ []
unfolding late_faults
kept_sound text card process all whole said is back =
    let fine : FineReading said.all = all_fine said.read (text_clean text whole said.good) tt in
    let marked : AreMarked said.all.marks process.stmts = subst (λ (p : Process). AreMarked said.all.marks p.stmts) (sym said.said) fine.marks in
    let before : wrong_from [] said.all.marks ≡ [] = none_behind (wrong_start said.all.head.retain said.all.head.start said.all.head.retain_at) _ said.sound in
    let here : wrong_from [] all.marks ≡ [] = no_fault None None 0 0 said.all.marks all.marks (map filled_stmt process.stmts) (filled_marked said.all.marks process.stmts marked) back.marks before in
    let mine : wrong_start (Some card.retain) card.start back.head.0 ++ wrong_from [] all.marks ≡ [] = both_none (wrong_start (Some card.retain) card.start back.head.0) (wrong_from [] all.marks) (is.once back.head.0) here in
    subst (λ (g : Given). wrong_start g.retain g.start g.retain_at ++ wrong_from [] all.marks ≡ []) (sym back.head.1) mine

no_less : (n : ℕ) → nat_lt n n ≡ false
no_less n = grind arith

no_flaw : (text : List ℕ) → open_from 0 (pieces_of text) ≡ None → bad_place text ≡ length text → flaw_of text ≡ None
unfolding flaw_of
no_flaw text e e2 = rw e (rw e2 (rw (no_less (length text)) refl))

module _ (values : PrintedValues) (starts : PrintedStarts) (whole : (text : List ℕ) → bytes_of (pieces_of text) ≡ text) where
  kept_placed : (card : Card) (process : Process) → IsPrintable (kept card process) → HaveGoodTexts process.stmts → bad_place (canonical (kept card process)) ≡ length (canonical (kept card process))
  kept_placed card process p good =
      let bytes : IsGood (canonical (kept card process)) = print_good values (kept card process) p (all_of (map filled_stmt process.stmts) p.quoted (filled_texts process.stmts good)) in
      good_place (canonical (kept card process)) bytes.bytes bytes.utf8

  pub kept_again : (text : List ℕ) (card : Card) (process : Process) → InGrammar text process → HaveGoodTexts process.stmts → IsKept card process → IsPrintable (kept card process) → length (canonical (kept card process)) ≤ 200000 → InGrammar (canonical (kept card process)) (kept card process)
  kept_again text card process said good is p short =
      let found = print_read values starts (kept card process) (whole (canonical (kept card process))) p in
      record {
        all = found.0;
        short = omega arith;
        good = no_flaw (canonical (kept card process)) (print_clean values starts (kept card process) p) (kept_placed card process p good);
        read = found.1;
        sound = kept_sound text card process found.0 (whole text) said is found.2;
        said = found.2.said;
      }
