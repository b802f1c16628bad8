-- What is read of a text is what the grammar says, and what is read of a canonical text has that text.
use Rattle.std.proofs.Common.{◌≡◌, ℕ, suc, length, Bool, true, false, cond, ◌&&◌, List, [], ◌∷◌, Option, Some, None, Result, Ok, Err, refl, sym, ap, subst, ◌∙◌}
use Rattle.std.specs.Prelude.{nat_le, is_none}
use Rattle.std.specs.Str.{bytes_eq}
use Rattle.std.proofs.lemmas.Bool.{leb-true, le-leb}
use Rattle.std.proofs.lemmas.Option.{cond_some}
use Rattle.std.proofs.lemmas.Slice.Eq.{bytes_eq-Decides}
use Rattle.cd_ast.specs.Canonical.{canonical}
use Rattle.cd_ast.specs.Tokens.{flaw_of}
use Rattle.cd_ast.specs.declared.fault.FaultName.{FaultName}
use Rattle.cd_ast.specs.declared.process.Process.{Process}
use Rattle.cd_grammar.specs.declared.token.Token.{Token}
use Rattle.cd_grammar.specs.Answers.{strict}
use Rattle.cd_grammar.specs.Faults.{longest_plain, process_of, InGrammar, IsRead}
use Rattle.cd_grammar.specs.Later.{Found, late_faults}
use Rattle.cd_grammar.specs.Reading as grammar
use Rattle.cd_grammar.specs.Tokens.{tokens_of, place_of}
use Rattle.cd_automaton.specs.Machine.{whole}
use Rattle.cd_automaton.specs.Placed.{AreKeyed, Placed}
use Rattle.cd_parser.specs.Told.{IsNoMemory}
use Rattle.cd_parser.specs.declared.fault.ParseFault.{ParseFault}
use Rattle.cd_parser.specs.declared.fault.ParseFault.TheVariants.{Text}
use Rattle.cd_canonical.specs.Read.{are_none, meant, process_in, if_printed}

none_is : (faults : List Found) → are_none faults ≡ true → faults ≡ []
none_is [] e = refl
none_is (f ∷ faults) e = absurd cc

clean_is : (flaw : Option (FaultName × ℕ)) → is_none flaw ≡ true → flaw ≡ None
clean_is None e = refl
clean_is (Some f) e = absurd cc

-- what is read of a text is in the grammar
said_by : (text : List ℕ) (process : Process) (read : Result grammar.Reading Found) (short good : Bool)
    → nat_le (length text) longest_plain ≡ short → is_none (flaw_of text) ≡ good → ((all : grammar.Reading) → read ≡ Ok all → IsRead strict (tokens_of text) all)
    → cond (short && good) (meant read) None ≡ Some process → InGrammar text process
said_by text process (Ok all) true true short good sound e =
    let is : (are_none (late_faults all) ≡ true) × (process_of all ≡ process) = cond_some (are_none (late_faults all)) (process_of all) process e in
    record { all = all; short = leb-true (length text) longest_plain short; good = clean_is (flaw_of text) good; read = sound all refl; sound = none_is (late_faults all) is.0; said = sym is.1 }
said_by text process (Err f) true true short good sound e = absurd cc
said_by text process read true false short good sound e = absurd cc
said_by text process read false good short clean sound e = absurd cc

pub said_of : (text : List ℕ) (process : Process) → ((all : grammar.Reading) → whole strict (length text) (tokens_of text) ≡ Ok all → IsRead strict (tokens_of text) all)
    → process_in text ≡ Some process → InGrammar text process
unfolding process_in
said_of text process sound e = said_by text process (whole strict (length text) (tokens_of text)) (nat_le (length text) longest_plain) (is_none (flaw_of text)) refl refl sound e

-- what is in the grammar is read
pub found_of : (text : List ℕ) (process : Process) (said : InGrammar text process) → whole strict (length text) (tokens_of text) ≡ Ok said.all → process_in text ≡ Some process
unfolding process_in
found_of text process said read =
    let short : nat_le (length text) longest_plain ≡ true = le-leb (length text) longest_plain said.short in
    rw short (rw said.good (rw read (rw said.sound (ap Some (sym said.said)))))

-- words that stand in a text have their keys
pub keyed : (from : ℕ) (ts : List Token) → Placed from ts → AreKeyed ts
keyed from [] h = tt
keyed from (t ∷ ts) h = (h.1, keyed (suc (place_of t)) ts h.2)

-- what is read as a canonical text has that text
pub printed_by : (text : List ℕ) (process : Process) (read : Option Process) → if_printed text read ≡ Some process → (read ≡ Some process) × (text ≡ canonical process)
printed_by text process None e = absurd cc
printed_by text process (Some one) e =
    let is : (bytes_eq (canonical one) text ≡ true) × (one ≡ process) = cond_some (bytes_eq (canonical one) text) one process e in
    (ap Some is.1, sym ((bytes_eq-Decides (canonical one) text).0 is.0) ∙ ap canonical is.1)

-- and a canonical text that says its Process is read as it
pub again_of : (process : Process) → process_in (canonical process) ≡ Some process → if_printed (canonical process) (process_in (canonical process)) ≡ Some process
again_of process e =
    let itself : bytes_eq (canonical process) (canonical process) ≡ true = (bytes_eq-Decides (canonical process) (canonical process)).1 refl in
    rw e (rw itself refl)

-- where a fault of the text was told, nothing is read
pub none_read : (read : Option Process) (fault : ParseFault) (name : FaultName) (at : ℕ) → fault ≡ Text name at → ((process : Process) → read ≡ Some process → IsNoMemory fault) → None ≡ read
none_read None fault name at is out = refl
none_read (Some process) fault name at is out = absurd (subst IsNoMemory is (out process refl))
