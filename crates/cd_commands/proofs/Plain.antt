-- All that the grammar says of a text is read.
use Rattle.std.proofs.Common.{◌≡◌, ℕ, suc, length, true, false, List, [], ◌∷◌, Ok, Err, refl, sym, ap}
use Rattle.std.specs.Prelude.{nat_lt}
use Rattle.std.proofs.lemmas.Bool.{lt-ltb, le-ltb}
use Rattle.cd_ast.specs.declared.process.Process.{Process}
use Rattle.cd_grammar.specs.declared.token.Token.{Token}
use Rattle.cd_grammar.specs.Answers.{strict}
use Rattle.cd_grammar.specs.Faults.{longest_plain, InGrammar, IsRead, Leaves, IsFault, too_long, in_bytes, in_tokens, in_meaning}
use Rattle.cd_grammar.specs.Later.{Found, late_faults, IsFirstOf}
use Rattle.cd_grammar.specs.Reading.{Reading}
use Rattle.cd_grammar.specs.Tokens.{tokens_of, place_of}
use Rattle.cd_automaton.specs.Machine.{whole}
use Rattle.cd_automaton.specs.Placed.{AreKeyed, Placed}
use Rattle.cd_commands.specs.Texts.{soonest, meant, read_plain}
use Rattle.cd_commands.proofs.Firsts.{first_is}

-- words that stand in a text have their keys
pub keyed : (from : ℕ) (ts : List Token) → Placed from ts → AreKeyed ts
keyed from [] h = tt
keyed from (t ∷ ts) h = (h.1, keyed (suc (place_of t)) ts h.2)

-- of a reading, of whose faults one alone is told
meant_wrong : (all : Reading) (faults : List Found) (f : Found) → (faults ≡ [] → ⊥) → ((one other : Found) → IsFirstOf faults one → IsFirstOf faults other → one ≡ other)
    → IsFirstOf faults f → meant all faults ≡ Err f
meant_wrong all [] f some one first = absurd (some refl)
meant_wrong all (g ∷ faults) f some one first = ap Err (one (soonest g faults) f (first_is g faults) first)

module _ (text : List ℕ) (reads : (all : Reading) → IsRead strict (tokens_of text) all → whole strict (length text) (tokens_of text) ≡ Ok all) where
  pub process_read : (process : Process) → InGrammar text process → read_plain text ≡ Ok process
  unfolding read_plain
  process_read process said =
      let short : nat_lt longest_plain (length text) ≡ false = le-ltb longest_plain (length text) said.short in
      rw short (rw said.good (rw (reads said.all said.read) (rw said.sound (ap Ok (sym said.said)))))

  module _ (leaves : (f : Found) → Leaves (length text) (tokens_of text) f → whole strict (length text) (tokens_of text) ≡ Err f)
      (none : (r : Reading) (f : Found) → late_faults r ≡ [] → IsFirstOf (late_faults r) f → ⊥)
      (one : (r : Reading) (f g : Found) → IsFirstOf (late_faults r) f → IsFirstOf (late_faults r) g → f ≡ g) where
    pub fault_read : (f : Found) → IsFault text f → read_plain text ≡ Err f
    unfolding read_plain
    fault_read f (too_long long) = let longer : nat_lt longest_plain (length text) ≡ true = lt-ltb longest_plain (length text) long in rw longer refl
    fault_read f (in_bytes within flaw) =
        let short : nat_lt longest_plain (length text) ≡ false = le-ltb longest_plain (length text) within in
        rw short (rw flaw refl)
    fault_read f (in_tokens within good left) =
        let short : nat_lt longest_plain (length text) ≡ false = le-ltb longest_plain (length text) within in
        rw short (rw good (rw (leaves f left) refl))
    fault_read f (in_meaning {all = all} within good read first) =
        let short : nat_lt longest_plain (length text) ≡ false = le-ltb longest_plain (length text) within in
        rw short (rw good (rw (reads all read) (meant_wrong all (late_faults all) f (λ e. none all f e first) (one all) first)))
